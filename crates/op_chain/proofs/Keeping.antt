-- The operations of the new body do what those of the old one do, unless these are undefined.
use Rattle.std.proofs.Common.{◌≡◌, ◌∙◌, ℕ, suc, ◌+◌, ◌<◌, Bool, true, false, List, [], ◌∷◌, ◌++◌, map, length, Option, Some, None, inl, inr, refl, sym, ap, ap₂, subst, get_or, arith, length-append, append_assoc}
use Rattle.std.specs.Prelude.{not, ◌==◌, slice_get, if◌then◌else◌}
use Rattle.std.specs.Option.{option_map, option_to_list}
use Rattle.std.proofs.lemmas.Bool.{cases_lt}
use Rattle.std.proofs.lemmas.List.{get_or_append_left, get_or_at}
use Rattle.hls_base.specs.Valued.{Valued, is, faulty, and_then}
use Rattle.ir_core.specs.declared.body.Operand.{Operand}
use Rattle.ir_core.specs.declared.body.Pairing.{Pairing}
use Rattle.ir_core.specs.declared.body.Simple.{Simple}
use Rattle.ir_core.specs.declared.body.Source.{Source}
use Rattle.ir_core.specs.declared.body.Source.TheVariants as source
use Rattle.ir_core.specs.Timing.{result_bits}
use Rattle.ir_core.specs.Value.{simple, fused}
use Rattle.ir_core.specs.Bodies.{OpTree, Shapes, Words, Performed, performed, Ranged, operand, bits_in, operand_bits, first_bits, is_allowed, fault, fault_if, perform, operations}
use Rattle.op_chain.specs.declared.choices.Taking.{Taking}
use Rattle.op_chain.specs.Reads.{op_operands}
use Rattle.op_chain.specs.Pairs.{simple_of}
use Rattle.op_chain.specs.Fusing.{moved_source, moved, moved_op, is_taken, args_of, joined, fused_op, new_op, emitted, Made, in_front, made}
use Rattle.op_chain.proofs.Performing.{read, word_read, some_same, perform_simple, simple_width, fault_if_is, perform_variables, perform_moved, perform_fused}

false_true : {A : Type 0} {b : Bool} → b ≡ false → b ≡ true → A
false_true e f = absurd cc

module _ (ops : List OpTree) (cs : List (Option Taking)) where
  -- ---- which choices suit

  -- it names no operation, or one before operation n that is not taken in
  abbrev pub Kept : ℕ → Source → Type 0
  Kept n (source.Constant w) = Unit {0}
  Kept n (source.Variable v) = Unit {0}
  Kept n (source.Result op) = (op.0 < n) × (is_taken cs op.0 ≡ false)

  abbrev pub AllKept : ℕ → List Operand → Type 0
  AllKept n [] = Unit {0}
  AllKept n (x ∷ xs) = Kept n x.value × AllKept n xs

  -- what is taken in is an operator of two operands that are kept
  pub record IsTakenIn (u : ℕ) (one : OpTree) (f : Simple) (x y : Operand) : Type 0 where
    pub kind : simple_of one.kind ≡ Some f
    pub guard : one.guard ≡ None
    pub args : one.args ≡ x ∷ y ∷ []
    pub first : Kept u x.value
    pub second : Kept u y.value

  -- one side is what is taken in, and the other one is kept
  abbrev pub SidesFit : Bool → ℕ → ℕ → Source → Source → Type 0
  SidesFit true u n a b = (a ≡ source.Result (record { 0 = u })) × Kept n b
  SidesFit false u n a b = (b ≡ source.Result (record { 0 = u })) × Kept n a

  pub record TakesIn (n : ℕ) (two : OpTree) (t : Taking) : Type 0 where
    pub one : OpTree
    pub x : Operand
    pub y : Operand
    pub a : Operand
    pub b : Operand
    pub at : slice_get ops t.op ≡ Some one
    pub below : t.op < n
    pub is_in : is_taken cs t.op ≡ true
    pub taken : IsTakenIn t.op one t.pairing.first x y
    pub kind : simple_of two.kind ≡ Some t.pairing.second
    pub bits : one.bits ≡ two.bits
    pub guard : two.guard ≡ None
    pub args : two.args ≡ a ∷ b ∷ []
    pub sides : SidesFit t.pairing.left t.op n a.value b.value

  abbrev pub OpSuits : ℕ → OpTree → Option (Option Taking) → Bool → Type 0
  OpSuits n op choice true = (f : Simple) × (x : Operand) × (y : Operand) × IsTakenIn n op f x y
  OpSuits n op (Some (Some t)) false = TakesIn n op t
  OpSuits n op (Some None) false = AllKept n (op_operands op)
  OpSuits n op None false = AllKept n (op_operands op)

  abbrev pub Suits : Type 0
  Suits = (n : ℕ) (op : OpTree) → slice_get ops n ≡ Some op → OpSuits n op (slice_get cs n) (is_taken cs n)

  -- ---- lists of operands

  pub all_left : (n : ℕ) (xs ys : List Operand) → AllKept n (xs ++ ys) → AllKept n xs
  all_left n [] ys h = tt
  all_left n (x ∷ xs) ys h = (h.0, all_left n xs ys h.1)

  pub all_right : (n : ℕ) (xs ys : List Operand) → AllKept n (xs ++ ys) → AllKept n ys
  all_right n [] ys h = h
  all_right n (x ∷ xs) ys h = all_right n xs ys h.1

  later : (u n : ℕ) (x : Source) → u < n → Kept u x → Kept n x
  later u n (source.Constant w) h k = tt
  later u n (source.Variable v) h k = tt
  later u n (source.Result op) h k = (omega (arith, k.0, h), k.1)

  module _ (shapes : Shapes) (variables : ℕ → ℕ) (all : List OpTree) where
    -- ---- what holds after n operations

    pub record At (now new old : List ℕ) (k : ℕ) : Type 0 where
      pub below : get_or now k k < length new
      pub value : get_or new (get_or now k k) 0 ≡ get_or old k 0
      pub bits : (bits : ℕ) → bits_in (slice_get all (get_or now k k)) bits ≡ bits_in (slice_get ops k) bits

    -- each operation that is kept has its result at its new place, and each one that is taken in has been applied
    pub record Holds (n : ℕ) (now new old : List ℕ) : Type 0 where
      pub count : length now ≡ n
      pub old_count : length old ≡ n
      pub each : (k : ℕ) → k < n → is_taken cs k ≡ false → At now new old k
      pub applied : (u : ℕ) (one : OpTree) (f : Simple) (x y : Operand) → u < n → is_taken cs u ≡ true → slice_get ops u ≡ Some one → IsTakenIn u one f x y
          → get_or old u 0 ≡ simple f one.bits (read variables old x.value) (read variables old y.value)

    pub read_moved : (n : ℕ) (now new old : List ℕ) → Holds n now new old → (x : Source) → Kept n x → read variables new (moved_source now x) ≡ read variables old x
    read_moved n now new old h (source.Constant w) k = refl
    read_moved n now new old h (source.Variable v) k = refl
    read_moved n now new old h (source.Result op) k = (h.each op.0 k.0 k.1).value

    bits_moved : (n : ℕ) (now new old : List ℕ) (bits : ℕ) → Holds n now new old → (x : Source) → Kept n x → operand_bits shapes.widths all bits (moved_source now x) ≡ operand_bits shapes.widths ops bits x
    bits_moved n now new old bits h (source.Constant w) k = refl
    bits_moved n now new old bits h (source.Variable v) k = refl
    bits_moved n now new old bits h (source.Result op) k = (h.each op.0 k.0 k.1).bits bits

    pub operand_moved : (n : ℕ) (now new old : List ℕ) (t : Words) → Holds n now new old → t.variables ≡ variables → (x : Operand) → Kept n x.value → operand t new (moved now x) ≡ operand t old x
    operand_moved n now new old t h e x k =
        word_read t new (moved_source now x.value) ∙ (ap (λ v. read v new (moved_source now x.value)) e ∙ (read_moved n now new old h x.value k ∙ (ap (λ v. read v old x.value) (sym e) ∙ sym (word_read t old x.value))))

    pub operands_moved : (n : ℕ) (now new old : List ℕ) (t : Words) → Holds n now new old → t.variables ≡ variables → (xs : List Operand) → AllKept n xs → map (operand t new) (map (moved now) xs) ≡ map (operand t old) xs
    operands_moved n now new old t h e [] k = refl
    operands_moved n now new old t h e (x ∷ xs) k = ap₂ (λ y ys. y ∷ ys) (operand_moved n now new old t h e x k.0) (operands_moved n now new old t h e xs k.1)

    allowed_moved : (n : ℕ) (now new old : List ℕ) (t : Words) → Holds n now new old → t.variables ≡ variables → (guard : Option Operand) → AllKept n (option_to_list guard)
        → is_allowed t new (option_map (moved now) guard) ≡ is_allowed t old guard
    allowed_moved n now new old t h e None k = refl
    allowed_moved n now new old t h e (Some x) k = ap (λ w. not (w == 0)) (operand_moved n now new old t h e x k.0)

    first_moved : (n : ℕ) (now new old : List ℕ) (op : OpTree) → Holds n now new old → (args : List Operand) → AllKept n args
        → first_bits shapes.widths all (moved_op now op) (map (moved now) args) ≡ first_bits shapes.widths ops op args
    first_moved n now new old op h [] k = refl
    first_moved n now new old op h (x ∷ xs) k = bits_moved n now new old op.bits h x.value k.0

    kept_same : (n : ℕ) (now new old : List ℕ) (op : OpTree) (t : Words) → Holds n now new old → t.variables ≡ variables → AllKept n (op_operands op)
        → perform shapes all (moved_op now op) new t ≡ perform shapes ops op old t
    kept_same n now new old op t h e k =
        let args = all_left n op.args (option_to_list op.guard) k in
        perform_moved shapes now ops all op new old t (allowed_moved n now new old t h e op.guard (all_right n op.args (option_to_list op.guard) k)) (operands_moved n now new old t h e op.args args)
        (first_moved n now new old op h op.args args)

    -- ---- a fused operation

    -- The new one gives what the old one gives, if that is defined.
    abbrev Follows : Valued Performed → Valued Performed → Type 0
    Follows (faulty rule at) y = Unit {0}
    Follows (is p) y = y ≡ is p

    follows_same : (x y : Valued Performed) → y ≡ x → Follows x y
    follows_same (faulty rule at) y e = tt
    follows_same (is p) y e = e

    follows_if : (flag : _) (rule : _) (p : Performed) (y : Valued Performed) → y ≡ is p → Follows (fault_if true flag rule p) y
    follows_if None rule p y e = e
    follows_if (Some at) None p y e = e
    follows_if (Some at) (Some rule) p y e = tt

    -- what is taken in, from operands that are kept
    taken_value : (n : ℕ) (now new old : List ℕ) (u : ℕ) (one : OpTree) (f : Simple) (x y : Operand) → Holds n now new old → u < n → is_taken cs u ≡ true → slice_get ops u ≡ Some one → IsTakenIn u one f x y
        → simple f one.bits (read variables new (moved_source now x.value)) (read variables new (moved_source now y.value)) ≡ get_or old u 0
    taken_value n now new old u one f x y h below taken at k =
        ap₂ (simple f one.bits) (read_moved n now new old h x.value (later u n x.value below k.first)) (read_moved n now new old h y.value (later u n y.value below k.second))
        ∙ sym (h.applied u one f x y below taken at k)

    args_joined : (two : OpTree) (t : Taking) (one : OpTree) (x y a b : Operand) → slice_get ops t.op ≡ Some one → one.args ≡ x ∷ y ∷ [] → two.args ≡ a ∷ b ∷ []
        → joined t.pairing.left (args_of (slice_get ops t.op)) two.args ≡ x ∷ y ∷ (if t.pairing.left then b else a) ∷ []
    args_joined two t one x y a b at first second =
        ap₂ (λ o ys. joined t.pairing.left (args_of o) ys) at second ∙ (ap (λ xs. joined t.pairing.left xs (a ∷ b ∷ [])) first ∙ by_side t.pairing.left)
      where
        by_side : (left : Bool) → joined left (x ∷ y ∷ []) (a ∷ b ∷ []) ≡ x ∷ y ∷ (if left then b else a) ∷ []
        by_side true = refl
        by_side false = refl

    -- both operators at once
    both : (p : Pairing) (bits n u : ℕ) (now new old : List ℕ) (x y : ℕ) (a b : Source) → Holds n now new old → SidesFit p.left u n a b → simple p.first bits x y ≡ get_or old u 0
        → fused p bits x y (read variables new (moved_source now (if p.left then b else a))) ≡ simple p.second bits (read variables old a) (read variables old b)
    both p bits n u now new old x y a b h sides e = by_side p.left sides where
      by_side : (left : Bool) → SidesFit left u n a b
          → (if left then simple p.second bits (simple p.first bits x y) (read variables new (moved_source now (if left then b else a))) else simple p.second bits (read variables new (moved_source now (if left then b else a))) (simple p.first bits x y))
          ≡ simple p.second bits (read variables old a) (read variables old b)
      by_side true k = ap₂ (simple p.second bits) (e ∙ ap (read variables old) (sym k.0)) (read_moved n now new old h b k.1)
      by_side false k = ap₂ (simple p.second bits) (read_moved n now new old h a k.1) (e ∙ ap (read variables old) (sym k.0))

    value_if : (left : Bool) (a b : Operand) → (if left then b else a).value ≡ (if left then b.value else a.value)
    value_if true a b = refl
    value_if false a b = refl

    operand_read : (t : Words) (results : List ℕ) (x : Operand) → t.variables ≡ variables → operand t results x ≡ read variables results x.value
    operand_read t results x e = word_read t results x.value ∙ ap (λ v. read v results x.value) e

    fused_follows : (n : ℕ) (now new old : List ℕ) (two : OpTree) (t : Taking) (w : Words) → Holds n now new old → w.variables ≡ variables → TakesIn n two t
        → Follows (perform shapes ops two old w) (perform shapes all (fused_op ops now two t) new w)
    fused_follows n now new old two t w h e k =
        let left = t.pairing.left in
        let c : Operand = if left then k.b else k.a in
        let args = ap (map (moved now)) (args_joined two t k.one k.x k.y k.a k.b k.at k.taken.args k.args) in
        let made_ = perform_fused shapes all t.pairing two.signed two.bits (map (moved now) (joined left (args_of (slice_get ops t.op)) two.args)) (moved now k.x) (moved now k.y) (moved now c) new w args in
        let first = ap (λ bits. simple t.pairing.first bits (read variables new (moved_source now k.x.value)) (read variables new (moved_source now k.y.value))) (sym k.bits)
        ∙ taken_value n now new old t.op k.one t.pairing.first k.x k.y h k.below k.is_in k.at k.taken in
        let x_read = operand_read w new (moved now k.x) e in
        let y_read = operand_read w new (moved now k.y) e in
        let c_read = operand_read w new (moved now c) e ∙ ap (λ s. read variables new (moved_source now s)) (value_if left k.a k.b) in
        let value : fused t.pairing two.bits (operand w new (moved now k.x)) (operand w new (moved now k.y)) (operand w new (moved now c)) ≡ simple t.pairing.second two.bits (operand w old k.a) (operand w old k.b) =
        ap₂ (λ p q. fused t.pairing two.bits p q (operand w new (moved now c))) x_read y_read
        ∙ (ap (fused t.pairing two.bits (read variables new (moved_source now k.x.value)) (read variables new (moved_source now k.y.value))) c_read
        ∙ (both t.pairing two.bits n t.op now new old (read variables new (moved_source now k.x.value)) (read variables new (moved_source now k.y.value)) k.a.value k.b.value h k.sides first
        ∙ ap₂ (simple t.pairing.second two.bits) (sym (operand_read w old k.a e)) (sym (operand_read w old k.b e)))) in
        let plain = perform_simple shapes ops two t.pairing.second k.a k.b old w k.kind k.guard k.args in
        subst (λ z. Follows z (perform shapes all (fused_op ops now two t) new w)) (sym plain)
        (follows_if two.flag (fault shapes two (operand w old k.a ∷ operand w old k.b ∷ [])) (performed (simple t.pairing.second two.bits (operand w old k.a) (operand w old k.b)) w) (perform shapes all (fused_op ops now two t) new w)
        (made_ ∙ ap (λ v. is (performed v w)) value))

    -- ---- one operation more

    read_before : (n : ℕ) (old : List ℕ) (r : ℕ) (x : Source) → length old ≡ n → Kept n x → read variables (old ++ r ∷ []) x ≡ read variables old x
    read_before n old r (source.Constant w) e k = refl
    read_before n old r (source.Variable v) e k = refl
    read_before n old r (source.Result op) e k = get_or_append_left old (r ∷ []) 0 op.0 (subst (λ z. op.0 < z) (sym e) k.0)

    -- what the operation gives, if it is taken in
    abbrev Gives : ℕ → List ℕ → ℕ → Type 0
    Gives n old r = is_taken cs n ≡ true → (one : OpTree) (f : Simple) (x y : Operand) → slice_get ops n ≡ Some one → IsTakenIn n one f x y → r ≡ simple f one.bits (read variables old x.value) (read variables old y.value)

    applied_more : (n r : ℕ) (now new old : List ℕ) → Holds n now new old → Gives n old r → (u : ℕ) (one : OpTree) (f : Simple) (x y : Operand) → u < suc n → is_taken cs u ≡ true → slice_get ops u ≡ Some one → IsTakenIn u one f x y
        → get_or (old ++ r ∷ []) u 0 ≡ simple f one.bits (read variables (old ++ r ∷ []) x.value) (read variables (old ++ r ∷ []) y.value)
    applied_more n r now new old h gives u one f x y below taken at k =
        elim (cases_lt u n) [
          | inl less ↦
              get_or_append_left old (r ∷ []) 0 u (subst (λ z. u < z) (sym h.old_count) less)
              ∙ (h.applied u one f x y less taken at k
              ∙ ap₂ (simple f one.bits) (sym (read_before n old r x.value h.old_count (later u n x.value less k.first))) (sym (read_before n old r y.value h.old_count (later u n y.value less k.second))))
          | inr past ↦
              let here : u ≡ n = omega (arith, below, past) in
              let k2 = subst (λ z. IsTakenIn z one f x y) here k in
              get_or_at old r [] 0 u (h.old_count ∙ sym here)
              ∙ (gives (subst (λ z. is_taken cs z ≡ true) here taken) one f x y (subst (λ z. slice_get ops z ≡ Some one) here at) k2
              ∙ ap₂ (simple f one.bits) (sym (read_before n old r x.value h.old_count k2.first)) (sym (read_before n old r y.value h.old_count k2.second)))
        ]

    -- the operation is dropped
    holds_dropped : (n count r : ℕ) (now new old : List ℕ) → Holds n now new old → is_taken cs n ≡ true → Gives n old r → Holds (suc n) (now ++ count ∷ []) new (old ++ r ∷ [])
    holds_dropped n count r now new old h taken gives = record {
      count = length-append now (count ∷ []) ∙ (let e = h.count in omega (arith, e));
      old_count = length-append old (r ∷ []) ∙ (let e = h.old_count in omega (arith, e));
      each = λ k lt kept. elim (cases_lt k n) [
        | inl less ↦
            let a = h.each k less kept in
            let p : get_or (now ++ count ∷ []) k k ≡ get_or now k k = get_or_append_left now (count ∷ []) k k (subst (λ z. k < z) (sym h.count) less) in
            record {
              below = subst (λ z. z < length new) (sym p) a.below;
              value = ap (λ z. get_or new z 0) p ∙ (a.value ∙ sym (get_or_append_left old (r ∷ []) 0 k (subst (λ z. k < z) (sym h.old_count) less)));
              bits = λ bits. ap (λ z. bits_in (slice_get all z) bits) p ∙ a.bits bits;
            }
        | inr past ↦ false_true kept (subst (λ z. is_taken cs z ≡ true) (let e : n ≡ k = omega (arith, lt, past) in e) taken)
      ];
      applied = applied_more n r now new old h gives;
    }

    -- the operation has a new one, after `count` others
    holds_kept : (n count r : ℕ) (now new old : List ℕ) → Holds n now new old → length new ≡ count → is_taken cs n ≡ false → ((bits : ℕ) → bits_in (slice_get all count) bits ≡ bits_in (slice_get ops n) bits)
        → Holds (suc n) (now ++ count ∷ []) (new ++ r ∷ []) (old ++ r ∷ [])
    holds_kept n count r now new old h place kept width = record {
      count = length-append now (count ∷ []) ∙ (let e = h.count in omega (arith, e));
      old_count = length-append old (r ∷ []) ∙ (let e = h.old_count in omega (arith, e));
      each = λ k lt is_kept. elim (cases_lt k n) [
        | inl less ↦
            let a = h.each k less is_kept in
            let p : get_or (now ++ count ∷ []) k k ≡ get_or now k k = get_or_append_left now (count ∷ []) k k (subst (λ z. k < z) (sym h.count) less) in
            let small : get_or now k k < length (new ++ r ∷ []) = (let b = a.below in omega (arith, b, length-append new (r ∷ []))) in
            record {
              below = subst (λ z. z < length (new ++ r ∷ [])) (sym p) small;
              value =
                  ap (λ z. get_or (new ++ r ∷ []) z 0) p ∙ (get_or_append_left new (r ∷ []) 0 (get_or now k k) a.below
                  ∙ (a.value ∙ sym (get_or_append_left old (r ∷ []) 0 k (subst (λ z. k < z) (sym h.old_count) less))));
              bits = λ bits. ap (λ z. bits_in (slice_get all z) bits) p ∙ a.bits bits;
            }
        | inr past ↦
            let here : k ≡ n = omega (arith, lt, past) in
            let p : get_or (now ++ count ∷ []) k k ≡ count = get_or_at now count [] k k (h.count ∙ sym here) in
            record {
              below = subst (λ z. z < length (new ++ r ∷ [])) (sym p) (omega (arith, place, length-append new (r ∷ [])));
              value = ap (λ z. get_or (new ++ r ∷ []) z 0) p ∙ (get_or_at new r [] 0 count place ∙ sym (get_or_at old r [] 0 k (h.old_count ∙ sym here)));
              bits = λ bits. ap (λ z. bits_in (slice_get all z) bits) p ∙ (width bits ∙ ap (λ z. bits_in (slice_get ops z) bits) (sym here));
            }
      ];
      applied = applied_more n r now new old h (λ taken one f x y at k. false_true kept taken);
    }

    -- ---- all operations

    pub record Reached (n : ℕ) (now : List ℕ) (old new : Ranged) : Type 0 where
      pub words : new.words ≡ old.words
      pub stay : old.words.variables ≡ variables
      pub holds : Holds n now new.results old.results

    -- The new operations come to where the old ones do, if these are defined.
    abbrev pub Comes : ℕ → List ℕ → Valued Ranged → Valued Ranged → Type 0
    Comes n now (faulty rule at) y = Unit {0}
    Comes n now (is r) y = (r2 : Ranged) × (y ≡ is r2) × Reached n now r r2

    abbrev pub Front : List OpTree → List OpTree → List OpTree → Type 0
    Front front middle back = all ≡ front ++ (middle ++ back)

    at_front : (front : List OpTree) (x : OpTree) (xs : List OpTree) → slice_get (front ++ x ∷ xs) (length front) ≡ Some x
    at_front [] x xs = refl
    at_front (y ∷ ys) x xs = at_front ys x xs

    abbrev pub Sim : ℕ → ℕ → ℕ → List ℕ → List ℕ → List ℕ → List OpTree → List OpTree → List OpTree → Made → Words → Type 0
    Sim n m count now new old front rest back made_ t =
        Front front made_.ops back → length front ≡ count → Comes m made_.now (operations shapes ops rest old t) (operations shapes all made_.ops new t)

    -- after an operation that is done
    behind : (m : ℕ) (now : List ℕ) (x y : Valued Performed) (f g : Performed → Valued Ranged) → Follows x y → ((p : Performed) → x ≡ is p → Comes m now (f p) (g p)) → Comes m now (and_then x f) (and_then y g)
    behind m now (faulty rule at) y f g follows h = tt
    behind m now (is p) y f g follows h = subst (λ z. Comes m now (f p) (and_then z g)) (sym follows) (h p refl)

    behind_dropped : (m : ℕ) (now : List ℕ) (x : Valued Performed) (f : Performed → Valued Ranged) (y : Valued Ranged) → ((p : Performed) → x ≡ is p → Comes m now (f p) y) → Comes m now (and_then x f) y
    behind_dropped m now (faulty rule at) f y h = tt
    behind_dropped m now (is p) f y h = h p refl

    gives : (n : ℕ) (now new old : List ℕ) (op : OpTree) (t : Words) (p : Performed) → t.variables ≡ variables → slice_get ops n ≡ Some op → perform shapes ops op old t ≡ is p → Gives n old p.result
    gives n now new old op t p e at given taken one f x y here k =
        let same : one ≡ op = some_same (sym here ∙ at) in
        let plain = sym (perform_simple shapes ops one f x y old t k.kind k.guard k.args) ∙ (ap (λ z. perform shapes ops z old t) same ∙ given) in
        let done = fault_if_is one.flag (fault shapes one (operand t old x ∷ operand t old y ∷ [])) (performed (simple f one.bits (operand t old x) (operand t old y)) t) p plain in
        ap (λ (z : Performed). z.result) (sym done) ∙ ap₂ (simple f one.bits) (operand_read t old x e) (operand_read t old y e)

    words_stay : (n : ℕ) (old : List ℕ) (op : OpTree) (t : Words) (p : Performed) (f : Simple) (x y : Operand) → IsTakenIn n op f x y → perform shapes ops op old t ≡ is p → p.words ≡ t
    words_stay n old op t p f x y k given =
        let done = fault_if_is op.flag (fault shapes op (operand t old x ∷ operand t old y ∷ [])) (performed (simple f op.bits (operand t old x) (operand t old y)) t) p (sym (perform_simple shapes ops op f x y old t k.kind k.guard k.args) ∙ given) in
        sym (ap (λ (z : Performed). z.words) done)

    -- the width of the new operation is that of the old one
    new_width : (now : List ℕ) (n : ℕ) (op : OpTree) (choice : Option (Option Taking)) → OpSuits n op choice false → result_bits (new_op ops now op choice).kind (new_op ops now op choice).bits ≡ result_bits op.kind op.bits
    new_width now n op None k = refl
    new_width now n op (Some None) k = refl
    new_width now n op (Some (Some t)) k = sym (simple_width op.kind t.pairing.second op.bits k.kind)

    new_follows : (n : ℕ) (now new old : List ℕ) (op : OpTree) (t : Words) (choice : Option (Option Taking)) → Holds n now new old → t.variables ≡ variables → OpSuits n op choice false
        → Follows (perform shapes ops op old t) (perform shapes all (new_op ops now op choice) new t)
    new_follows n now new old op t None h e k = follows_same (perform shapes ops op old t) (perform shapes all (moved_op now op) new t) (kept_same n now new old op t h e k)
    new_follows n now new old op t (Some None) h e k = follows_same (perform shapes ops op old t) (perform shapes all (moved_op now op) new t) (kept_same n now new old op t h e k)
    new_follows n now new old op t (Some (Some taking)) h e k = fused_follows n now new old op taking t h e k

    module _ (n m count : ℕ) (now new old : List ℕ) (front : List OpTree) (op : OpTree) (rest back : List OpTree) (t : Words) (suits : Suits) (h : Holds n now new old) (place : length new ≡ count) (e : t.variables ≡ variables) where
      abbrev Next : Type 0
      Next = (count2 : ℕ) (new2 old2 : List ℕ) (front2 : List OpTree) (t2 : Words) → Holds (suc n) (now ++ count ∷ []) new2 old2 → length new2 ≡ count2 → t2.variables ≡ variables
          → Sim (suc n) m count2 (now ++ count ∷ []) new2 old2 front2 rest back (made ops cs count2 (now ++ count ∷ []) rest) t2

      abbrev Goal : List OpTree → Type 0
      Goal emitted_ = Sim n m count now new old front (op ∷ rest) back (in_front emitted_ (made ops cs (count + length emitted_) (now ++ count ∷ []) rest)) t

      emitted_is : (b : Bool) (choice : Option (Option Taking)) → is_taken cs n ≡ b → slice_get cs n ≡ choice → emitted ops cs now op ≡ (if b then [] else new_op ops now op choice ∷ [])
      emitted_is b choice f g =
          ap₂ (λ c d. if c then [] else new_op ops now op d ∷ []) (ap (is_taken cs) h.count ∙ f) (ap (slice_get cs) h.count ∙ g)

      dropped : slice_get ops n ≡ Some op → is_taken cs n ≡ true → OpSuits n op (slice_get cs n) true → Next → Goal []
      dropped here taken k next whole before =
          behind_dropped m (made ops cs (count + 0) (now ++ count ∷ []) rest).now (perform shapes ops op old t) (λ p. operations shapes ops rest (old ++ p.result ∷ []) p.words)
          (operations shapes all (made ops cs (count + 0) (now ++ count ∷ []) rest).ops new t)
          (λ p given.
          let stays = words_stay n old op t p k.0 k.1 k.2 k.3 given in
          subst (λ w. Comes m (made ops cs (count + 0) (now ++ count ∷ []) rest).now (operations shapes ops rest (old ++ p.result ∷ []) w) (operations shapes all (made ops cs (count + 0) (now ++ count ∷ []) rest).ops new t)) (sym stays)
          (next (count + 0) new (old ++ p.result ∷ []) front t (holds_dropped n count p.result now new old h taken (gives n now new old op t p e here given)) (omega (arith, place)) e whole (omega (arith, before))))

      kept : (choice : Option (Option Taking)) → slice_get ops n ≡ Some op → is_taken cs n ≡ false → OpSuits n op choice false → Next → Goal (new_op ops now op choice ∷ [])
      kept choice here taken k next whole before =
          let x = new_op ops now op choice in
          let rest2 = made ops cs (count + 1) (now ++ count ∷ []) rest in
          let at : slice_get all count ≡ Some x = ap₂ slice_get whole (sym before) ∙ at_front front x (rest2.ops ++ back) in
          let width : (bits : ℕ) → bits_in (slice_get all count) bits ≡ bits_in (slice_get ops n) bits = λ bits. ap (λ z. bits_in z bits) at ∙ (new_width now n op choice k ∙ ap (λ z. bits_in z bits) (sym here)) in
          behind m rest2.now (perform shapes ops op old t) (perform shapes all x new t) (λ p. operations shapes ops rest (old ++ p.result ∷ []) p.words) (λ p. operations shapes all rest2.ops (new ++ p.result ∷ []) p.words)
          (new_follows n now new old op t choice h e k)
          (λ p given.
          next (count + 1) (new ++ p.result ∷ []) (old ++ p.result ∷ []) (front ++ x ∷ []) p.words (holds_kept n count p.result now new old h place taken width) (length-append new (p.result ∷ []) ∙ ap (λ z. z + 1) place)
          (perform_variables shapes ops op old t p given ∙ e) (whole ∙ sym (append_assoc front (x ∷ []) (rest2.ops ++ back))) (length-append front (x ∷ []) ∙ ap (λ z. z + 1) before))

      by_taken : (b : Bool) (choice : Option (Option Taking)) → is_taken cs n ≡ b → slice_get cs n ≡ choice → slice_get ops n ≡ Some op → Next → Goal (emitted ops cs now op)
      by_taken true choice f g here next = subst Goal (sym (emitted_is true choice f g)) (dropped here f (subst (λ b. OpSuits n op (slice_get cs n) b) f (suits n op here)) next)
      by_taken false choice f g here next = subst Goal (sym (emitted_is false choice f g)) (kept choice here f (subst (λ b. OpSuits n op choice b) f (subst (λ c. OpSuits n op c (is_taken cs n)) g (suits n op here))) next)

    pub sim : (n m count : ℕ) (now new old : List ℕ) (front rest back : List OpTree) (t : Words) → Suits → Holds n now new old → length new ≡ count → t.variables ≡ variables → n + length rest ≡ m
        → ((k : ℕ) (op : OpTree) → slice_get rest k ≡ Some op → slice_get ops (n + k) ≡ Some op) → Sim n m count now new old front rest back (made ops cs count now rest) t
    sim n m count now new old front [] back t suits h place e end there =
        λ whole before. (record { results = new; words = t }, refl, record { words = refl; stay = e; holds = subst (λ z. Holds z now new old) (let f : n ≡ m = omega (arith, end) in f) h })
    sim n m count now new old front (op ∷ rest) back t suits h place e end there =
        let here : slice_get ops n ≡ Some op = ap (slice_get ops) (let f : n ≡ n + 0 = omega arith in f) ∙ there 0 op refl in
        let there2 : (k : ℕ) (x : OpTree) → slice_get rest k ≡ Some x → slice_get ops (suc n + k) ≡ Some x = λ k x f. ap (slice_get ops) (let g : suc n + k ≡ n + suc k = omega arith in g) ∙ there (suc k) x f in
        let end2 : suc n + length rest ≡ m = omega (arith, end) in
        by_taken n m count now new old front op rest back t suits h place e (is_taken cs n) (slice_get cs n) refl refl here
        (λ count2 new2 old2 front2 t2 h2 place2 e2. sim (suc n) m count2 (now ++ count ∷ []) new2 old2 front2 rest back t2 suits h2 place2 e2 end2 there2)
