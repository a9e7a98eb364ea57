-- A fused operation fits where its two operations did.
use Rattle.std.proofs.Common.{◌≡◌, ◌∙◌, ◌+◌, ℕ, zero, suc, refl, sym, ap, ap₂, subst, Bool, true, false, ◌&&◌, List, [], ◌∷◌, ◌++◌, length, map, take, Option, Some, None, arith, append_assoc, append-nil}
use Rattle.std.specs.Prelude.{◌==◌, slice_get, is_none, option_to_list}
use Rattle.std.specs.Option.{option_map}
use Rattle.std.proofs.lemmas.Bool.{and_parts, eqb-true, false≢true}
use Rattle.std.proofs.lemmas.List.{take-append-le}
use Rattle.ir_core.specs.declared.body.OpKind.{OpKind}
use Rattle.ir_core.specs.declared.body.OpKind.TheVariants as o
use Rattle.ir_core.specs.declared.body.Operand.{Operand}
use Rattle.ir_core.specs.declared.body.Out.{Out}
use Rattle.ir_core.specs.declared.body.Simple.{Simple}
use Rattle.ir_core.specs.declared.body.Source.{Source}
use Rattle.ir_core.specs.declared.body.Source.TheVariants as source
use Rattle.ir_core.specs.declared.cfg.Frame.{Frame}
use Rattle.ir_core.specs.Bodies.{OpTree}
use Rattle.ir_core.specs.Timing.{result_bits}
use Rattle.program_validity.specs.Widths.{is_width}
use Rattle.program_validity.specs.Operands.{is_exactly}
use Rattle.program_validity.specs.Operations.{is_width_of}
use Rattle.op_chain.specs.declared.choices.Taking.{Taking}
use Rattle.op_chain.specs.Reads.{ops_operands, reads}
use Rattle.op_chain.specs.Pairs.{Scope, simple_of, are_alike}
use Rattle.op_chain.specs.Fusing.{moved, moved_out, args_of, joined, fused_op, chosen}
use Rattle.op_chain.proofs.ValidFusing.Trees as trees
use Rattle.op_chain.proofs.ValidFusing.Trees.{stores_none}
use Rattle.op_chain.proofs.ValidFusing.Bridge.{both_same}
use Rattle.op_chain.proofs.ValidFusing.Choices as choices
use Rattle.op_chain.proofs.ValidFusing.Choices.{Takes}
use Rattle.op_chain.proofs.ValidFusing.Kept.{IsKept, AllKept, kept_both, other_argument, stays_kept, other_kept}
use Rattle.op_chain.proofs.ValidFusing.Moved.{operand_same}
use Rattle.op_chain.proofs.ValidFusing.States.{State, is_same}

pub first_of : (x y : Bool) → (x && y) ≡ true → x ≡ true
first_of x y h = (and_parts x y h).0

pub second_of : (x y : Bool) → (x && y) ≡ true → y ≡ true
second_of x y h = (and_parts x y h).1

no_some : {A : Type 0} {x : A} → None ≡ Some x → ⊥
no_some e = cc

-- ---- simple operators

simple_width : (kind : OpKind) (s : Simple) (bits : ℕ) → simple_of kind ≡ Some s → is_width_of kind bits ≡ true → is_width bits ≡ true
simple_width o.Add s bits is h = h
simple_width o.Sub s bits is h = h
simple_width o.And s bits is h = h
simple_width o.Or s bits is h = h
simple_width o.Xor s bits is h = h
simple_width kind s bits is h = absurd (no_some is)

pub simple_bits : (kind : OpKind) (s : Simple) (bits : ℕ) → simple_of kind ≡ Some s → bits ≡ result_bits kind bits
simple_bits o.Add s bits is = refl
simple_bits o.Sub s bits is = refl
simple_bits o.And s bits is = refl
simple_bits o.Or s bits is = refl
simple_bits o.Xor s bits is = refl
simple_bits kind s bits is = absurd (no_some is)

simple_args : (f : Frame) (carried : List Out) (before : List OpTree) (op : OpTree) (kind : OpKind) (s : Simple) → simple_of kind ≡ Some s → trees.acts_fit f carried before op kind ≡ true → trees.two_fit f.variables.items carried before op.bits op.args ≡ true
simple_args f carried before op o.Add s is h = second_of (is_none op.array) _ h
simple_args f carried before op o.Sub s is h = second_of (is_none op.array) _ h
simple_args f carried before op o.And s is h = second_of (is_none op.array) _ h
simple_args f carried before op o.Or s is h = second_of (is_none op.array) _ h
simple_args f carried before op o.Xor s is h = second_of (is_none op.array) _ h
simple_args f carried before op kind s is h = absurd (no_some is)

-- ---- two arguments

pub record Two (widths : List ℕ) (carried : List Out) (before : List OpTree) (bits : ℕ) (args : List Operand) : Type 0 where
  pub a : Operand
  pub b : Operand
  pub are : args ≡ a ∷ b ∷ []
  pub first : trees.operand_fits widths carried before bits a ≡ true
  pub second : trees.operand_fits widths carried before bits b ≡ true

two_parts : (widths : List ℕ) (carried : List Out) (before : List OpTree) (bits : ℕ) (args : List Operand) → trees.two_fit widths carried before bits args ≡ true → Two widths carried before bits args
two_parts widths carried before bits [] h = absurd (false≢true h)
two_parts widths carried before bits (x ∷ []) h = absurd (false≢true h)
two_parts widths carried before bits (x ∷ y ∷ []) h =
    let first = trees.operand_fits widths carried before bits x in
    record { a = x; b = y; are = refl; first = first_of first _ h; second = second_of first _ h }
two_parts widths carried before bits (x ∷ y ∷ z ∷ zs) h = absurd (false≢true h)

-- the two arguments of a valid operation whose kind is simple
two_of_simple : (f : Frame) (carried : List Out) (before : List OpTree) (op : OpTree) (s : Simple) → simple_of op.kind ≡ Some s → trees.operation_fits f carried before op ≡ true → Two f.variables.items carried before op.bits op.args
two_of_simple f carried before op s is h =
    let acts = second_of (trees.operand_if_fits f.variables.items carried before 1 op.guard) _ (second_of (is_width_of op.kind op.bits && trees.is_flagged op) _ h) in
    two_parts f.variables.items carried before op.bits op.args (simple_args f carried before op op.kind s is acts)

-- ---- operations further in front

pub taken : {A : Type 0} (n : ℕ) (xs : List A) (j : ℕ) (x : A) → slice_get (take n xs) j ≡ Some x → slice_get xs j ≡ Some x
taken zero xs j x e = absurd cc
taken (suc n) [] j x e = absurd cc
taken (suc n) (y ∷ xs) zero x e = e
taken (suc n) (y ∷ xs) (suc j) x e = taken n xs j x e

module _ (widths : List ℕ) (carried : List Out) (n : ℕ) (before : List OpTree) where
  bits_further : (bits : ℕ) (s : Source) → trees.bits_fit widths carried (take n before) bits s ≡ true → trees.bits_fit widths carried before bits s ≡ true
  bits_further bits (source.Constant c) h = h
  bits_further bits (source.Variable v) h = h
  bits_further bits (source.Result j) h = by (slice_get (take n before) j.0) refl h where
    by : (found : Option OpTree) → slice_get (take n before) j.0 ≡ found → is_exactly bits (option_map (λ (t : OpTree). result_bits t.kind t.bits) found) ≡ true
        → is_exactly bits (option_map (λ (t : OpTree). result_bits t.kind t.bits) (slice_get before j.0)) ≡ true
    by None at k = absurd (false≢true k)
    by (Some t) at k = ap (λ (x : Option OpTree). is_exactly bits (option_map (λ (t : OpTree). result_bits t.kind t.bits) x)) (taken n before j.0 t at) ∙ k

  operand_further : (bits : ℕ) (x : Operand) → trees.operand_fits widths carried (take n before) bits x ≡ true → trees.operand_fits widths carried before bits x ≡ true
  operand_further bits x h =
      let has = trees.bits_fit widths carried (take n before) bits x.value in
      both_same (bits_further bits x.value (first_of has _ h)) (second_of has _ h)

operation_at : (f : Frame) (carried : List Out) (before ops : List OpTree) (k : ℕ) (op : OpTree) → trees.operations_fit f carried before ops ≡ true → slice_get ops k ≡ Some op → trees.operation_fits f carried (before ++ take k ops) op ≡ true
operation_at f carried before [] k op h e = absurd cc
operation_at f carried before (x ∷ ops) zero op h e =
    let is : x ≡ op = cc in
    let here = first_of (trees.operation_fits f carried before x) _ h in
    ap₂ (λ (b : List OpTree) (y : OpTree). trees.operation_fits f carried b y) (append-nil before) (sym is) ∙ here
operation_at f carried before (x ∷ ops) (suc k) op h e =
    ap (λ (b : List OpTree). trees.operation_fits f carried b op) (sym (append_assoc before (x ∷ []) (take k ops)))
    ∙ operation_at f carried (before ++ x ∷ []) ops k op (second_of (trees.operation_fits f carried before x) _ h) e

-- ---- the fused operation

shape : (left : Bool) (c d a b : Operand) → joined left (c ∷ d ∷ []) (a ∷ b ∷ []) ≡ c ∷ d ∷ other_argument left a b ∷ []
shape true c d a b = refl
shape false c d a b = refl

either_fits : (left : Bool) (P : Operand → Bool) (a b : Operand) → P a ≡ true → P b ≡ true → P (other_argument left a b) ≡ true
either_fits true P a b ha hb = hb
either_fits false P a b ha hb = ha

module _ (f : Frame) (carried : List Out) (whole : List ℕ) (scope : Scope) (ops : List OpTree) (others : List Operand) (counts : (u : ℕ) → reads u scope.operands ≡ reads u (ops_operands ops) + reads u others)
    (valid : trees.operations_fit f carried [] ops ≡ true) where
  abbrev all : List (Option Taking)
  all = chosen scope ops [] ops

  abbrev widths : List ℕ
  widths = f.variables.items

  abbrev outs : List Out
  outs = map (moved_out whole) carried

  module _ (before behind rest : List OpTree) (now : List ℕ) (two : OpTree) (t : Taking) (parts : ops ≡ before ++ two ∷ rest) (there : slice_get ops (length before) ≡ Some two) (chose : slice_get all (length before) ≡ Some (Some t))
      (state : State all before behind now) (here : trees.operation_fits f carried before two ≡ true) where
    taking : Takes scope ops all (length before) two t
    taking = choices.takes scope ops (length before) two t there chose

    -- the first operation, behind those before the second one
    one_fits : trees.operation_fits f carried (take t.op before) taking.one ≡ true
    one_fits =
        let inside = taking.before in
        let same : take t.op ops ≡ take t.op before = ap (take t.op) parts ∙ take-append-le t.op before (two ∷ rest) (omega (arith, inside)) in
        ap (λ (b : List OpTree). trees.operation_fits f carried b taking.one) (sym same) ∙ operation_at f carried [] ops t.op taking.one valid taking.found

    same_bits : taking.one.bits ≡ two.bits
    same_bits =
        let alike = first_of (are_alike scope.period taking.one two) _ taking.pair in
        eqb-true taking.one.bits two.bits (first_of (taking.one.bits == two.bits) _ alike)

    first_two : Two widths carried (take t.op before) taking.one.bits taking.one.args
    first_two = two_of_simple f carried (take t.op before) taking.one t.pairing.first taking.first one_fits

    second_two : Two widths carried before two.bits two.args
    second_two = two_of_simple f carried before two t.pairing.second taking.second here

    first_kept : AllKept all (first_two.a ∷ first_two.b ∷ [])
    first_kept =
        let kept = (kept_both all taking.one.args (option_to_list taking.one.guard) (stays_kept scope ops others counts t.op taking.one taking.found taking.free)).0 in
        subst (AllKept all) first_two.are kept

    moved_fits : (x : Operand) → IsKept all x → trees.operand_fits widths carried before two.bits x ≡ true → trees.operand_fits widths outs behind two.bits (moved now x) ≡ true
    moved_fits x kept h = sym (operand_same widths carried whole before behind now two.bits x (is_same widths carried whole all before behind now state x kept)) ∙ h

    first_fits : (x : Operand) → IsKept all x → trees.operand_fits widths carried (take t.op before) taking.one.bits x ≡ true → trees.operand_fits widths outs behind two.bits (moved now x) ≡ true
    first_fits x kept h = moved_fits x kept (operand_further widths carried t.op before two.bits x (ap (λ n. trees.operand_fits widths carried (take t.op before) n x) (sym same_bits) ∙ h))

    abbrev third : Operand
    third = other_argument t.pairing.left second_two.a second_two.b

    arguments : joined t.pairing.left (args_of (slice_get ops t.op)) two.args ≡ first_two.a ∷ first_two.b ∷ third ∷ []
    arguments =
        ap (λ (x : Option OpTree). joined t.pairing.left (args_of x) two.args) taking.found
        ∙ (ap₂ (λ (x : List Operand) (y : List Operand). joined t.pairing.left x y) first_two.are second_two.are ∙ shape t.pairing.left first_two.a first_two.b second_two.a second_two.b)

    fits_three : trees.three_fit widths outs behind two.bits two.bits (map (moved now) (first_two.a ∷ first_two.b ∷ third ∷ [])) ≡ true
    fits_three =
        both_same (first_fits first_two.a first_kept.0 first_two.first)
        (both_same (first_fits first_two.b first_kept.1.0 first_two.second)
        (moved_fits third (other_kept scope ops others counts (length before) two t second_two.a second_two.b there chose second_two.are)
        (either_fits t.pairing.left (trees.operand_fits widths carried before two.bits) second_two.a second_two.b second_two.first second_two.second)))

    wide : is_width two.bits ≡ true
    wide = simple_width two.kind t.pairing.second two.bits taking.second (first_of (is_width_of two.kind two.bits) _ (first_of (is_width_of two.kind two.bits && trees.is_flagged two) _ here))

    pub fused_fits : trees.operation_fits f outs behind (fused_op ops now two t) ≡ true
    fused_fits =
        ap₂ (λ (x : Bool) (xs : List Operand). (x && true) && (true && (true && trees.three_fit widths outs behind two.bits two.bits (map (moved now) xs)))) wide arguments ∙ fits_three

    pub fused_bits : two.bits ≡ result_bits two.kind two.bits
    fused_bits = simple_bits two.kind t.pairing.second two.bits taking.second
