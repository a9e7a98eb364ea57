-- All sums that the analysis of counters finds hold, one after another.
use Rattle.std.proofs.Common.{◌≡◌, ℕ, suc, ◌+◌, ◌<◌, ◌≤◌, ◌∙◌, inl, inr, sym, refl, ap, subst, true, List, [], ◌∷◌, ◌++◌, length, Option, Some, None, is_some, ◌+ℤ◌, arith}
use Rattle.std.proofs.lemmas.Int.{ints}
use Rattle.std.proofs.lemmas.Bool.{cases_lt}
use Rattle.std.proofs.lemmas.List.{length_push}
use Rattle.hls_base.specs.declared.number.OpId.{OpId}
use Rattle.ir_core.specs.declared.body.Body.{Body}
use Rattle.ir_core.specs.declared.body.Op.{Op}
use Rattle.ir_core.specs.declared.body.Operand.{Operand}
use Rattle.ir_core.specs.declared.body.Out.{Out}
use Rattle.ir_core.specs.declared.body.Source.{Source}
use Rattle.ir_core.specs.declared.body.Source.TheVariants as source
use Rattle.ir_core.specs.declared.stamp.Untimed.{Untimed}
use Rattle.ir_core.specs.Value.{number_of}
use Rattle.dep_graph.specs.declared.counter.Addition.{Addition}
use Rattle.dep_graph.specs.declared.counter.Sum.{Sum}
use Rattle.dep_graph.specs.Offsets.{nth, added, addition, source_sum, added_sum, op_sum, sums_from, sums_of}
use Rattle.ir_core.specs.Bodies.{OpTree, Words, first_bits}
use Rattle.clock_runs.specs.Premises.{IsOperandAs, IsOperand, HasWidth}
use Rattle.clock_runs.proofs.Settings.{Setting, op_at, ops_of, count_of, allows, after}
use Rattle.clock_runs.proofs.Defined.{Defined}
use Rattle.clock_runs.proofs.Additions.{stands, addition_width, operand_in}
use Rattle.clock_runs.proofs.Counters.{addition_parts, more_by, plus_is}
use Rattle.clock_runs.proofs.Sums.{IsCopy, full, SumHolds, unbroken, constants, own_width, value_full, split_guards, AllHold, source_holds}
use Rattle.clock_runs.proofs.Lists.{some_same, no_some, nth_front, nth_last, nth_within}

later_as : (outs : List Out) (k n : ℕ) (value : Source) (distance : ℕ) → k ≤ n → IsOperandAs outs k value distance → IsOperandAs outs n value distance
later_as outs k n (source.Constant c) distance le h = h
later_as outs k n (source.Variable v) distance le h = h
later_as outs k n (source.Result j) distance le h = (h.0, (let lt = h.1 in omega arith))

-- an operand that has a sum has one width
one_width : (s : Setting) (body : Body Untimed) (sums : List (Option Sum)) (value : Source) (sum : Sum) (b c : ℕ) → source_sum body sums value ≡ Some sum → HasWidth s.shapes (ops_of s) b value → HasWidth s.shapes (ops_of s) c value → b ≡ c
one_width s body sums (source.Constant w) sum b c e x y = absurd (no_some e)
one_width s body sums (source.Variable v) sum b c e x y = some_same (sym x ∙ y)
one_width s body sums (source.Result j) sum b c e x y = some_same (sym x ∙ y)

module _ (s : Setting) (carried : List Out) (body : Body Untimed) (copy : IsCopy s carried body) (t : Words) (n : ℕ) (within : n ≤ count_of s) (defined : (j : ℕ) → j < n → Defined s t j) where
  abbrev all : Operand → ℕ
  all = full s t

  abbrev Known : List (Option Sum) → Type 0
  Known sums = AllHold s carried body copy t n defined sums

  -- a constant and a sum
  more_holds : (sums : List (Option Sum)) → Known sums → (j : OpId) (u : Op Untimed) (a : Addition) (before sum : Sum) → nth body.ops.items j.0 ≡ Some u → addition u ≡ Some a → source_sum body sums a.operand.value ≡ Some before
      → more_by before a.constant u.guard ≡ sum → j.0 < n → allows all before.guard ≡ true → allows all u.guard ≡ true → SumHolds s body t sum (source.Result j)
  more_holds sums known j u a before sum here adds from is lt first second =
      let k = j.0 in
      let at = copy.ops k u here in
      let op = (op_at s k).op in
      let parts = addition_parts u a adds in
      let flagged : is_some op.flag ≡ true = ap (λ (o : OpTree). is_some o.flag) (sym at.1) ∙ parts.0 in
      let adds_here : added op.kind op.bits op.args ≡ Some a = ap (λ (o : OpTree). added o.kind o.bits o.args) (sym at.1) ∙ parts.1 in
      let guarded : allows all op.guard ≡ true = ap (λ (o : OpTree). allows all o.guard) (sym at.1) ∙ second in
      let sound = copy.sound k at.0 in
      let none = unbroken s carried body copy t k at.0 (defined k lt) guarded flagged in
      let gives = stands s.shapes (ops_of s) op all (constants s carried body copy t) (allows all op.guard) (first_bits s.shapes.widths (ops_of s) op op.args) (after s t k).memories flagged sound.kind a adds_here none in
      let operand = operand_in (IsOperand carried k) op.kind op.bits op.args a adds_here sound.args in
      let h = source_holds s carried body copy t n defined sums known a.operand.value a.operand.distance before from (later_as carried k n a.operand.value a.operand.distance (omega arith) operand) first in
      let bits : h.bits ≡ op.bits = one_width s body sums a.operand.value before h.bits op.bits from h.width gives.1 in
      let held = subst (λ b. number_of true b (all a.operand) ≡ number_of true b (t.variables before.offset.counter.0) +ℤ before.offset.constant) bits h.stands in
      let number = number_of true op.bits (t.variables before.offset.counter.0) in
      let added_up : number_of true op.bits (all a.operand) +ℤ a.constant ≡ number +ℤ (before.offset.constant +ℤ a.constant) = omega (arith, ints, held) in
      let known_now : SumHolds s body t (more_by before a.constant u.guard) (source.Result j) = record {
        bits = op.bits;
        counter = ap (λ b. b) h.counter ∙ ap (λ b. Some b) bits;
        width = own_width s carried body copy t j op.bits at.0 (addition_width op a adds_here);
        stands = ap (number_of true op.bits) (value_full s carried body copy t k at.0) ∙ gives.0 ∙ added_up;
        step = h.step;
      } in
      subst (λ (x : Sum). SumHolds s body t x (source.Result j)) is known_now

  op_holds : (sums : List (Option Sum)) → Known sums → (j : OpId) (u : Op Untimed) (p : Option Addition) (sum : Sum) → nth body.ops.items j.0 ≡ Some u → addition u ≡ p → added_sum body sums p u.guard ≡ Some sum → j.0 < n → allows all sum.guard ≡ true
      → SumHolds s body t sum (source.Result j)
  op_holds sums known j u None sum here e h lt g = absurd (no_some h)
  op_holds sums known j u (Some a) sum here e h lt g =
      let plus = plus_is (source_sum body sums a.operand.value) a.constant u.guard sum h in
      let guards = split_guards s carried body copy t plus.0.guard u.guard plus.1.1 (ap (λ (x : Sum). allows all x.guard) plus.1.2 ∙ g) in
      more_holds sums known j u a plus.0 sum here e plus.1.0 plus.1.2 lt guards.0 guards.1

  -- these are the operations from operation k on
  abbrev Behind : ℕ → List (Op Untimed) → Type 0
  Behind k rest = (i : ℕ) (u : Op Untimed) → nth rest i ≡ Some u → nth body.ops.items (k + i) ≡ Some u

  pushed_holds : (sums : List (Option Sum)) → Known sums → (u : Op Untimed) → nth body.ops.items (length sums) ≡ Some u → Known (sums ++ op_sum body sums u ∷ [])
  pushed_holds sums known u here j sum e lt g =
      elim (cases_lt j.0 (length sums)) [
        | inl before ↦ known j sum (sym (nth_front sums (op_sum body sums u) j.0 before) ∙ e) lt g
        | inr behind ↦
            let end = nth_within (sums ++ op_sum body sums u ∷ []) j.0 (Some sum) e in
            let one = length_push sums (op_sum body sums u) in
            let last : j.0 ≡ length sums = omega arith in
            op_holds sums known j u (addition u) sum (ap (nth body.ops.items) last ∙ here) refl (some_same (sym (nth_last sums (op_sum body sums u) j.0 last) ∙ e)) lt g
      ]

  all_hold : (rest : List (Op Untimed)) (sums : List (Option Sum)) → Known sums → Behind (length sums) rest → Known (sums_from body sums rest)
  all_hold [] sums known behind = known
  all_hold (u ∷ rest) sums known behind =
      let first : nth body.ops.items (length sums) ≡ Some u = ap (nth body.ops.items) (let z : length sums ≡ length sums + 0 = omega arith in z) ∙ behind 0 u refl in
      all_hold rest (sums ++ op_sum body sums u ∷ []) (pushed_holds sums known u first) (λ i v e.
      let one = length_push sums (op_sum body sums u) in
      let next : length (sums ++ op_sum body sums u ∷ []) + i ≡ length sums + suc i = omega arith in
      ap (nth body.ops.items) next ∙ behind (suc i) v e)

  pub sums_hold : Known (sums_of body)
  sums_hold = all_hold body.ops.items [] (λ j sum e lt g. absurd (no_some e)) (λ i u e. ap (nth body.ops.items) (let z : 0 + i ≡ i = omega arith in z) ∙ e)
