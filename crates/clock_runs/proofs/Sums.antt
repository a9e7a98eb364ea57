-- The sums that the analysis of counters finds are what the operations give, where those are defined.
use Rattle.std.proofs.Common.{◌≡◌, ℕ, ◌<◌, ◌≤◌, ◌==◌, ◌∙◌, sym, refl, ap, ap₂, subst, true, not, List, map, length, get_or, Option, Some, None, is_some, ℤ, pos, ◌+ℤ◌, arith}
use Rattle.std.specs.Prelude.{slice_get}
use Rattle.std.specs.Option.{option_map}
use Rattle.std.proofs.lemmas.Int.{ints}
use Rattle.std.proofs.lemmas.Bool.{and_parts, eqb-true, false≢true}
use Rattle.std.proofs.lemmas.List.{length-map}
use Rattle.std.proofs.lemmas.Option.{slice_get-get_or}
use Rattle.hls_base.specs.declared.number.OpId.{OpId}
use Rattle.hls_base.specs.declared.number.VarId.{VarId}
use Rattle.ir_core.specs.declared.body.Body.{Body}
use Rattle.ir_core.specs.declared.body.Op.{Op}
use Rattle.ir_core.specs.declared.body.Operand.{Operand}
use Rattle.ir_core.specs.declared.body.Out.{Out}
use Rattle.ir_core.specs.declared.body.Source.{Source}
use Rattle.ir_core.specs.declared.body.Source.TheVariants as source
use Rattle.ir_core.specs.declared.stamp.Untimed.{Untimed}
use Rattle.ir_core.specs.Timing.{result_bits}
use Rattle.ir_core.specs.Value.{number_of}
use Rattle.dep_graph.specs.declared.counter.Sum.{Sum}
use Rattle.dep_graph.specs.Offsets.{nth, added, step_of, same_source, same_operand, guards_agree, is_covered, or_else, counter_sum, source_sum}
use Rattle.ir_core.specs.Bodies.{OpTree, Words, operand, word, fault, first_bits, op_of}
use Rattle.clock_ir.specs.Flows.{TimedOp}
use Rattle.clock_runs.specs.Premises.{IsOperandAs, IsOperand, IsOperandIf, HasWidth, IsSoundOp}
use Rattle.clock_runs.proofs.Effects.{sort_of, value_by}
use Rattle.clock_runs.proofs.Settings.{Setting, nothing, op_at, ops_of, count_of, allows, after}
use Rattle.clock_runs.proofs.Iterations.{results_at, map_same}
use Rattle.clock_runs.proofs.Defined.{reading_in, Defined, op_of_at}
use Rattle.clock_runs.proofs.Additions.{operand_width}
use Rattle.clock_runs.proofs.Counters.{addition_parts, steps_of, flat_is}
use Rattle.clock_runs.proofs.Lists.{some_same, no_some}

-- the operations are those of this body, and sound in one that carries these outs
pub record IsCopy (s : Setting) (carried : List Out) (body : Body Untimed) : Type 0 where
  pub ops : (k : ℕ) (u : Op Untimed) → nth body.ops.items k ≡ Some u → (k < count_of s) × (op_of u ≡ (op_at s k).op)
  pub found : (k : ℕ) → k < count_of s → (u : Op Untimed) × (nth body.ops.items k ≡ Some u)
  pub sound : (k : ℕ) → k < count_of s → IsSoundOp s.shapes carried (ops_of s) k (op_at s k).op

-- what an operand holds behind all operations
abbrev pub full : Setting → Words → Operand → ℕ
full s t x = operand t (after s t (count_of s)).results x

-- a sum with the widths that it rests on
pub record SumHolds (s : Setting) (body : Body Untimed) (t : Words) (sum : Sum) (value : Source) : Type 0 where
  pub bits : ℕ
  pub counter : slice_get s.shapes.widths sum.offset.counter.0 ≡ Some bits
  pub width : HasWidth s.shapes (ops_of s) bits value
  pub stands : number_of true bits (word t (after s t (count_of s)).results value) ≡ number_of true bits (t.variables sum.offset.counter.0) +ℤ sum.offset.constant
  pub step : step_of body sum.offset.counter.0 ≡ Some sum.offset.step

module _ (s : Setting) (carried : List Out) (body : Body Untimed) (copy : IsCopy s carried body) (t : Words) where
  abbrev pub all : Operand → ℕ
  all = full s t

  -- ---- what is read early stays

  settled_as : (k : ℕ) (value : Source) (distance : ℕ) → k ≤ count_of s → IsOperandAs carried k value distance → word t (after s t k).results value ≡ word t (after s t (count_of s)).results value
  settled_as k (source.Constant c) distance le h = refl
  settled_as k (source.Variable v) distance le h = refl
  settled_as k (source.Result j) distance le h = (let lt = h.1 in results_at s t j.0 k lt ∙ sym (results_at s t j.0 (count_of s) (omega arith)))

  pub settled : (k : ℕ) → k ≤ count_of s → (x : Operand) → IsOperand carried k x → reading_in s t k x ≡ all x
  settled k le x h = settled_as k x.value x.distance le h

  pub args_settled : (k : ℕ) → k < count_of s → map (reading_in s t k) (op_at s k).op.args ≡ map all (op_at s k).op.args
  args_settled k lt = map_same (IsOperand carried k) (reading_in s t k) all (settled k (omega arith)) (op_at s k).op.args (copy.sound k lt).args

  guard_settled : (k : ℕ) (g : Option Operand) → k ≤ count_of s → IsOperandIf carried k g → allows (reading_in s t k) g ≡ allows all g
  guard_settled k None le h = refl
  guard_settled k (Some x) le h = ap (λ y. not (y == 0)) (settled k le x h)

  pub allowed_settled : (k : ℕ) → k < count_of s → allows (reading_in s t k) (op_at s k).op.guard ≡ allows all (op_at s k).op.guard
  allowed_settled k lt = guard_settled k (op_at s k).op.guard (omega arith) (copy.sound k lt).guard

  -- the value of operation k
  abbrev pub full_value : ℕ → ℕ
  full_value k =
      let op = (op_at s k).op in
      value_by s.shapes op (sort_of op.kind) (allows all op.guard) (first_bits s.shapes.widths (ops_of s) op op.args) (map all op.args) (after s t k).memories

  pub value_full : (k : ℕ) → k < count_of s → get_or (after s t (count_of s)).results k 0 ≡ full_value k
  value_full k lt =
      let op = (op_at s k).op in
      results_at s t k (count_of s) lt
      ∙ ap₂ (λ a xs. value_by s.shapes op (sort_of op.kind) a (first_bits s.shapes.widths (ops_of s) op op.args) xs (after s t k).memories) (allowed_settled k lt) (args_settled k lt)

  pub unbroken : (k : ℕ) → k < count_of s → Defined s t k → allows all (op_at s k).op.guard ≡ true → is_some (op_at s k).op.flag ≡ true → fault s.shapes (op_at s k).op (map all (op_at s k).op.args) ≡ None
  unbroken k lt defined allowed flagged = ap (fault s.shapes (op_at s k).op) (sym (args_settled k lt)) ∙ defined (allowed_settled k lt ∙ allowed) flagged

  pub constants : (x : Operand) (w : ℕ) → x.value ≡ source.Constant w → all x ≡ w
  constants x w e = ap (word t (after s t (count_of s)).results) e

  pub own_width : (j : OpId) (bits : ℕ) → j.0 < count_of s → result_bits (op_at s j.0).op.kind (op_at s j.0).op.bits ≡ bits → HasWidth s.shapes (ops_of s) bits (source.Result j)
  own_width j bits lt e =
      let within : j.0 < length (ops_of s) = omega (arith, length-map s.body.ops (λ (p : TimedOp). p.op)) in
      ap (option_map (λ (op : OpTree). result_bits op.kind op.bits)) (slice_get-get_or (ops_of s) j.0 nothing.op within ∙ ap (λ o. Some o) (op_of_at s j.0 lt)) ∙ ap (λ b. Some b) e

  -- ---- guards

  same_word : (x y : Source) → same_source x y ≡ true → word t (after s t (count_of s)).results x ≡ word t (after s t (count_of s)).results y
  same_word (source.Constant c) (source.Constant d) e = eqb-true c d e
  same_word (source.Constant c) (source.Variable v) e = absurd (false≢true e)
  same_word (source.Constant c) (source.Result j) e = absurd (false≢true e)
  same_word (source.Variable v) (source.Constant d) e = absurd (false≢true e)
  same_word (source.Variable v) (source.Variable w) e = ap t.variables (eqb-true v.0 w.0 e)
  same_word (source.Variable v) (source.Result j) e = absurd (false≢true e)
  same_word (source.Result j) (source.Constant d) e = absurd (false≢true e)
  same_word (source.Result j) (source.Variable v) e = absurd (false≢true e)
  same_word (source.Result j) (source.Result k) e = ap (λ n. get_or (after s t (count_of s)).results n 0) (eqb-true j.0 k.0 e)

  same_guard : (x y : Operand) → same_operand x y ≡ true → allows all (Some x) ≡ allows all (Some y)
  same_guard x y e = ap (λ w. not (w == 0)) (same_word x.value y.value (and_parts (x.distance == y.distance) (same_source x.value y.value) e).1)

  pub split_guards : (f g : Option Operand) → guards_agree f g ≡ true → allows all (or_else f g) ≡ true → (allows all f ≡ true) × (allows all g ≡ true)
  split_guards None g e h = (refl, h)
  split_guards (Some x) None e h = (h, refl)
  split_guards (Some x) (Some y) e h = (h, sym (same_guard x y e) ∙ h)

  pub covered_guard : (f g : Option Operand) → is_covered f g ≡ true → allows all g ≡ true → allows all f ≡ true
  covered_guard None g e h = refl
  covered_guard (Some x) None e h = absurd (false≢true e)
  covered_guard (Some x) (Some y) e h = same_guard x y e ∙ h

  -- ---- sums of the first n operations, which are defined

  module _ (n : ℕ) (defined : (j : ℕ) → j < n → Defined s t j) where
    -- the sums that are known hold
    abbrev pub AllHold : List (Option Sum) → Type 0
    AllHold sums = (j : OpId) (sum : Sum) → nth sums j.0 ≡ Some (Some sum) → j.0 < n → allows all sum.guard ≡ true → SumHolds s body t sum (source.Result j)

    pub counter_holds : (v : VarId) (step : Option ℤ) (sum : Sum) → step_of body v.0 ≡ step → counter_sum v step ≡ Some sum → SumHolds s body t sum (source.Variable v)
    counter_holds v None sum e h = absurd (no_some h)
    counter_holds v (Some step) sum e h =
        let found = steps_of body v.0 step e in
        let parts = addition_parts found.it found.sum found.adds in
        let at = copy.ops found.op.0 found.it found.there in
        let k = found.op.0 in
        let width = operand_width s.shapes (ops_of s) (op_at s k).op found.sum (ap (λ (o : OpTree). is_some o.flag) (sym at.1) ∙ parts.0) (copy.sound k at.0).kind (ap (λ (o : OpTree). added o.kind o.bits o.args) (sym at.1) ∙ parts.1) in
        let counter : slice_get s.shapes.widths v.0 ≡ Some (op_at s k).op.bits = ap (slice_get s.shapes.widths) (sym found.same) ∙ subst (λ x. HasWidth s.shapes (ops_of s) (op_at s k).op.bits x) found.source width in
        let number = number_of true (op_at s k).op.bits (t.variables v.0) in
        let none : number ≡ number +ℤ pos 0 = omega (arith, ints) in
        let known : SumHolds s body t (record { offset = record { counter = v; step = step; constant = pos 0 }; guard = None }) (source.Variable v) =
        record { bits = (op_at s k).op.bits; counter = counter; width = counter; stands = none; step = e } in
        subst (λ (x : Sum). SumHolds s body t x (source.Variable v)) (some_same h) known

    pub source_holds : (sums : List (Option Sum)) → AllHold sums → (value : Source) (distance : ℕ) (sum : Sum) → source_sum body sums value ≡ Some sum → IsOperandAs carried n value distance → allows all sum.guard ≡ true → SumHolds s body t sum value
    source_holds sums known (source.Constant c) distance sum e h g = absurd (no_some e)
    source_holds sums known (source.Variable v) distance sum e h g = counter_holds v (step_of body v.0) sum refl e
    source_holds sums known (source.Result j) distance sum e h g = known j sum (flat_is (nth sums j.0) sum e) h.1 g
