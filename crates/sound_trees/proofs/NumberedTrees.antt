-- A numbered tree is ready.
use Rattle.std.specs.Prelude.{slice_get, if◌then◌else◌}
use Rattle.std.proofs.Common.{◌≡◌, ◌∙◌, ◌≤◌, ℕ, Bool, true, false, not, ◌&&◌, ◌||◌, refl, ap, ap₂, sym, subst, arith, List, [], ◌∷◌, ◌++◌, length, Option, Some, None}
use Rattle.hls_base.specs.declared.number.VarId.{VarId}
use Rattle.ir_core.specs.declared.body.Operand.{Operand}
use Rattle.ir_core.specs.declared.body.Out.{Out}
use Rattle.ir_core.specs.Value.{value, is_defined}
use Rattle.ir_core.specs.Bodies.{OpTree, Shapes}
use Rattle.ir_core.specs.Trees.{BlockTree, BodyTree, SequenceTree, sequence, PartTrees, no_part, more_parts, ShapeTree, fork, loop, switch, land, overlapped, SideTree, no_side, side, ArmTrees, no_arm, more_arms}
use Rattle.passes.specs.Numbering.Constants as n
use Rattle.passes.specs.Numbering.Constants.{word_of, word_in, computed_on, computed}
use Rattle.passes.specs.Numbering.{Scope, Numbered, renamed, renamed_op, first_bits, earlier, with_earlier, with_word, makes_out, numbered_op, numbered_ops, nothing, ops_of, numbered_block, in_loop, numbered_sequence, numbered_parts, numbered_shape, numbered_side, numbered_arms}
use Rattle.passes.specs.Conversion.Joining.{is_conversion, first_word}
use Rattle.passes.specs.Conversion.Merging.{first_of}
use Rattle.passes.specs.Lowering.Outs.{held}
use Rattle.passes.specs.Lowering.Copies.{is_fixed, fixed_in, fixed_behind, fixed_behind_shape, outs_set, parts_set, sequence_sets, shape_sets, side_sets}
use Rattle.sound_trees.specs.Trees.{SequenceHas, PartsHave, ShapeHas, SideHas, ArmsHave}
use Rattle.sound_trees.specs.Ready.{HasFew, OpsAreReady, BlockIsReady}
use Rattle.sound_trees.specs.Loops.{OutsAreOwn, BlockOwns, PartsOwn, BodyOwns, TestsAlone, LoopIsReady, AreComputed, NumberedLoopIsReady}
use Rattle.sound_trees.proofs.Names.{names_outs}
use Rattle.sound_trees.proofs.Fixed.{both_true, from_both, behind_if}
use Rattle.sound_trees.proofs.Renamed.{few_map, few_one, conversion_defined}
use Rattle.sound_trees.proofs.NumberedBlocks.{stays_same, ops_append, renamed_names, block_ready}
use Rattle.sound_trees.proofs.NumberedOwn.{outs_own, held_back}

-- ---- conversions of constants

none_some : {A B : Type 0} {x : A} → Some x ≡ None → B
none_some e = cc

true_false : {A : Type 0} → true ≡ false → A
true_false e = cc

-- an operation that stays is no conversion of a constant
stays_open : (op : OpTree) (from : ℕ) → HasFew op.kind op.args → computed op from ≡ None → is_conversion op.kind ≡ true → first_word op.args ≡ None
stays_open op from few e c = at op.args (few_one op.kind op.args c few) e where
  by : (w : ℕ) (d : Bool) → (n.is_computed op.kind && is_defined op.kind op.signed op.bits (w ∷ 0 ∷ 0 ∷ [])) ≡ d → d ≡ true → (if d then Some (value op.kind op.signed op.bits from (w ∷ 0 ∷ 0 ∷ [])) else None) ≡ None → Some w ≡ None
  by w true q t k = none_some k
  by w false q t k = true_false (sym t)

  at : (xs : List Operand) → length xs ≤ 1 → computed_on op from (word_in (slice_get xs 0)) (word_in (slice_get xs 1)) (word_in (slice_get xs 2)) ≡ None → first_word xs ≡ None
  at [] l k = refl
  at (x ∷ []) l k = of (word_of x.value) refl k where
    of : (w : Option ℕ) → word_of x.value ≡ w → computed_on op from (word_of x.value) (Some 0) (Some 0) ≡ None → word_of x.value ≡ None
    of None q m = q
    of (Some w) q m =
        q ∙ by w (n.is_computed op.kind && is_defined op.kind op.signed op.bits (w ∷ 0 ∷ 0 ∷ [])) refl (conversion_defined op.kind op.signed op.bits (w ∷ 0 ∷ 0 ∷ []) c) (ap (λ z. computed_on op from z (Some 0) (Some 0)) (sym q) ∙ m)
  at (x ∷ y ∷ xs) l k = absurd (omega (arith, l))

computed_more : (xs : List OpTree) (op : OpTree) → AreComputed xs → (is_conversion op.kind ≡ true → first_word op.args ≡ None) → AreComputed (xs ++ op ∷ [])
computed_more [] op h k = (k, tt)
computed_more (x ∷ xs) op h k = (h.0, computed_more xs op h.1 k)

module _ (shapes : Shapes) (words : List ℕ) (stores : Bool) where
  earlier_computed : (s : Numbered) (op : OpTree) (is_out : Bool) (x : Option ℕ) → AreComputed (ops_of s.ops) → (is_conversion op.kind ≡ true → first_word op.args ≡ None) → AreComputed (ops_of (with_earlier s op is_out x).ops)
  earlier_computed s op is_out (Some i) h k = subst AreComputed (sym (stays_same is_out s.ops i)) h
  earlier_computed s op is_out None h k = subst AreComputed (sym (ops_append s.ops (record { op = op; makes_out = is_out }))) (computed_more (ops_of s.ops) op h k)

  all_computed : (scope : Scope) (outs : List Out) (s : Numbered) (done ops : List OpTree) → AreComputed (ops_of s.ops) → OpsAreReady shapes words stores done ops → AreComputed (ops_of (numbered_ops scope outs s ops).ops)
  all_computed scope outs s done [] h k = h
  all_computed scope outs s done (op ∷ ops) h k = all_computed scope outs (numbered_op scope outs s op) (done ++ op ∷ []) ops (by (computed (renamed_op s.values op) (first_bits scope.widths s.values op.bits op.args)) refl) k.1 where
    by : (x : Option ℕ) → computed (renamed_op s.values op) (first_bits scope.widths s.values op.bits op.args) ≡ x → AreComputed (ops_of (with_word scope.apart s (renamed_op s.values op) (makes_out outs (length s.values)) x).ops)
    by (Some w) e = h
    by None e =
        earlier_computed s (renamed_op s.values op) (makes_out outs (length s.values)) (earlier (scope.apart && makes_out outs (length s.values)) (renamed_op s.values op) s.ops) h
        (stays_open (renamed_op s.values op) (first_bits scope.widths s.values op.bits op.args) (few_map (renamed s.values) op.kind op.args k.0.few) e)

  block_computed : (scope : Scope) (b : BlockTree) → BlockIsReady shapes words stores b → AreComputed (numbered_block scope b).ops
  block_computed scope b h = all_computed scope b.outs nothing [] b.ops tt h.ops

-- ---- the variables that are set

block_sets : (scope : Scope) (b : BlockTree) (v : VarId) → outs_set (numbered_block scope b).outs v ≡ outs_set b.outs v
block_sets scope b v = names_outs (numbered_block scope b).outs b.outs (renamed_names (record { widths = []; dims = [] }) [] true (numbered_ops scope b.outs nothing b.ops).values b.outs) v

mutual
  sequence_same : (scope : Scope) (s : SequenceTree) (v : VarId) → sequence_sets (numbered_sequence scope s) v ≡ sequence_sets s v
  sequence_same scope (sequence first rest) v = ap₂ (λ (c d : Bool). c || d) (block_sets scope first v) (parts_same scope rest v)

  parts_same : (scope : Scope) (ps : PartTrees) (v : VarId) → parts_set (numbered_parts scope ps) v ≡ parts_set ps v
  parts_same scope no_part v = refl
  parts_same scope (more_parts shape after rest) v = ap₂ (λ (c d : Bool). c || d) (shape_same scope shape v) (ap₂ (λ (c d : Bool). c || d) (block_sets scope after v) (parts_same scope rest v))

  shape_same : (scope : Scope) (shape : ShapeTree) (v : VarId) → shape_sets (numbered_shape scope shape) v ≡ shape_sets shape v
  shape_same scope (fork yes_ no_ c) v = ap₂ (λ (c d : Bool). c || d) (side_same scope yes_ v) (side_same scope no_ v)
  shape_same scope (loop post t b s e) v = refl
  shape_same scope (switch dead targets other arms) v = refl
  shape_same scope (land number) v = refl
  shape_same scope (overlapped point body) v = refl

  side_same : (scope : Scope) (s : SideTree) (v : VarId) → side_sets (numbered_side scope s) v ≡ side_sets s v
  side_same scope no_side v = refl
  side_same scope (side blocks) v = sequence_same scope blocks v

-- ---- bodies

abbrev Into : (VarId → Bool) → (VarId → Bool) → Type 0
Into v w = (x : VarId) → v x ≡ true → w x ≡ true

later_same : (later others : VarId → Bool) (fixed : _) (outs : List Out) → ((v : VarId) → others v ≡ later v) → OutsAreOwn later fixed outs → OutsAreOwn others fixed outs
later_same later others fixed outs e h = record {
  named = λ i x a q. h.named i x a (sym (e x.variable) ∙ q);
  apart = λ i k x y a c n p q. h.apart i k x y a c n (sym (e x.variable) ∙ p) (sym (e y.variable) ∙ q);
}

module _ (scope : Scope) (a : scope.apart ≡ true) (shapes : Shapes) (words : List ℕ) where
  block_owns : (rest : PartTrees) (b : BlockTree) (wide narrow : VarId → Bool) → Into narrow wide → BlockIsReady shapes words true b → BlockOwns rest wide b → BlockOwns (numbered_parts scope rest) narrow (numbered_block scope b)
  block_owns rest b wide narrow into h own =
      later_same (parts_set rest) (parts_set (numbered_parts scope rest)) (fixed_in narrow (numbered_block scope b)) (numbered_block scope b).outs (parts_same scope rest) (outs_own scope a shapes words b h wide narrow into (parts_set rest) own)

  behind_fewer : (rest : PartTrees) (b : BlockTree) (wide narrow : VarId → Bool) → Into narrow wide → BlockIsReady shapes words true b → Into (fixed_behind (numbered_parts scope rest) narrow (numbered_block scope b)) (fixed_behind rest wide b)
  behind_fewer rest b wide narrow into h v e =
      behind_if (outs_set b.outs v) (parts_set rest v) (is_fixed (fixed_in narrow (numbered_block scope b)) (held (numbered_block scope b).outs v)) (is_fixed (fixed_in wide b) (held b.outs v)) (narrow v) (wide v)
      (λ o p f. held_back scope a shapes words b h wide narrow into v o f) (into v)
      (sym (ap₂ (λ c d. if c then d && is_fixed (fixed_in narrow (numbered_block scope b)) (held (numbered_block scope b).outs v) else narrow v) (block_sets scope b v) (parts_same scope rest v)) ∙ e)

  shape_fewer : (shape : ShapeTree) (wide narrow : VarId → Bool) → Into narrow wide → Into (fixed_behind_shape (numbered_shape scope shape) narrow) (fixed_behind_shape shape wide)
  shape_fewer shape wide narrow into v e =
      let q = both_true (narrow v) (not (shape_sets (numbered_shape scope shape) v)) e in from_both (wide v) (not (shape_sets shape v)) (into v q.0) (sym (ap not (shape_same scope shape v)) ∙ q.1)

  module _ (L : SequenceTree → SequenceTree → Type 0) (O : BodyTree → Type 0) where
    parts_own : (ps : PartTrees) (wide narrow : VarId → Bool) → Into narrow wide → PartsHave (BlockIsReady shapes words true) L O ps → PartsOwn wide ps → PartsOwn narrow (numbered_parts scope ps)
    parts_own no_part wide narrow into h own = tt
    parts_own (more_parts shape after rest) wide narrow into h own =
        let w = fixed_behind_shape shape wide in
        let n = fixed_behind_shape (numbered_shape scope shape) narrow in
        let i = shape_fewer shape wide narrow into in
        (block_owns rest after w n i h.1 own.0, parts_own rest (fixed_behind rest w after) (fixed_behind (numbered_parts scope rest) n (numbered_block scope after)) (behind_fewer rest after w n i h.1) h.2 own.1)

    body_owns : (s : SequenceTree) → SequenceHas (BlockIsReady shapes words true) L O s → BodyOwns s → BodyOwns (numbered_sequence scope s)
    body_owns (sequence first rest) h own =
        let none : VarId → Bool = λ v. false in
        (block_owns rest first none none (λ v e. e) h.0 own.0, parts_own rest (fixed_behind rest none first) (fixed_behind (numbered_parts scope rest) none (numbered_block scope first)) (behind_fewer rest first none none (λ v e. e) h.0) h.1 own.1)

-- ---- trees

module _ (shapes : Shapes) (words : List ℕ) (O : BodyTree → Type 0) where
  abbrev B : BlockTree → Type 0
  B = BlockIsReady shapes words true

  abbrev L : SequenceTree → SequenceTree → Type 0
  L = LoopIsReady shapes words

  abbrev N : SequenceTree → SequenceTree → Type 0
  N = NumberedLoopIsReady shapes words

  test_ready : (scope : Scope) (s : SequenceTree) → TestsAlone shapes words s → TestsAlone shapes words (numbered_sequence scope s)
  test_ready scope (sequence first no_part) h = block_ready shapes words false scope first h
  test_ready scope (sequence first (more_parts (land number) after rest)) h = tt
  test_ready scope (sequence first (more_parts (fork yes_ no_ c) after rest)) h = absurd h
  test_ready scope (sequence first (more_parts (loop post t b s e) after rest)) h = absurd h
  test_ready scope (sequence first (more_parts (switch dead targets other arms) after rest)) h = absurd h
  test_ready scope (sequence first (more_parts (overlapped point body) after rest)) h = absurd h

  first_computed : (scope : Scope) (s : SequenceTree) → SequenceHas B L O s → AreComputed (first_of (numbered_sequence scope s)).ops
  first_computed scope (sequence first rest) h = block_computed shapes words true scope first h.0

  made_apart : (scope : Scope) (e : Bool) → e ≡ true → (in_loop scope e).apart ≡ true
  made_apart scope e q = ap (λ c. scope.apart || c) q ∙ by scope.apart where
    by : (c : Bool) → (c || true) ≡ true
    by true = refl
    by false = refl

  loop_ready : (scope : Scope) (t b : SequenceTree) (e : Bool) → SequenceHas B L O b → (e ≡ true → L t b) → e ≡ true → N (numbered_sequence (in_loop scope e) t) (numbered_sequence (in_loop scope e) b)
  loop_ready scope t b e h k q =
      let l = k q in
      record {
        ready = record { tests = test_ready (in_loop scope e) t l.tests; owns = body_owns (in_loop scope e) (made_apart scope e q) shapes words L O b h l.owns };
        computed = first_computed (in_loop scope e) b h;
      }

  mutual
    pub sequence_ready : (scope : Scope) (s : SequenceTree) → SequenceHas B L O s → SequenceHas B N O (numbered_sequence scope s)
    sequence_ready scope (sequence first rest) h = (block_ready shapes words true scope first h.0, parts_ready scope rest h.1)

    parts_ready : (scope : Scope) (p : PartTrees) → PartsHave B L O p → PartsHave B N O (numbered_parts scope p)
    parts_ready scope no_part h = tt
    parts_ready scope (more_parts shape after rest) h = (shape_ready scope shape h.0, block_ready shapes words true scope after h.1, parts_ready scope rest h.2)

    shape_ready : (scope : Scope) (shape : ShapeTree) → ShapeHas B L O shape → ShapeHas B N O (numbered_shape scope shape)
    shape_ready scope (fork yes_ no_ c) h = (side_ready scope yes_ h.0, side_ready scope no_ h.1)
    shape_ready scope (loop post t b s e) h = (sequence_ready (in_loop scope e) t h.0, sequence_ready (in_loop scope e) b h.1, side_ready (in_loop scope e) s h.2, loop_ready scope t b e h.1 h.3)
    shape_ready scope (switch dead targets other arms) h = (parts_ready scope dead h.0, arms_ready scope arms h.1)
    shape_ready scope (land number) h = tt
    shape_ready scope (overlapped point body) h = h

    side_ready : (scope : Scope) (s : SideTree) → SideHas B L O s → SideHas B N O (numbered_side scope s)
    side_ready scope no_side h = tt
    side_ready scope (side blocks) h = sequence_ready scope blocks h

    arms_ready : (scope : Scope) (p : ArmTrees) → ArmsHave B L O p → ArmsHave B N O (numbered_arms scope p)
    arms_ready scope no_arm h = tt
    arms_ready scope (more_arms first rest) h = (sequence_ready scope first h.0, arms_ready scope rest h.1)
