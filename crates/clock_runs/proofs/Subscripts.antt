-- What is known of subscripts holds, and tells at which distance two accesses meet.
use Rattle.std.proofs.Common.{◌≡◌, ℕ, ◌<◌, ◌≤◌, ◌==◌, ◌∙◌, inl, inr, sym, refl, ap, subst, true, List, [], ◌∷◌, map, Option, Some, None, ℤ, ◌+ℤ◌, ◌-ℤ◌, arith}
use Rattle.std.specs.Prelude.{slice_get}
use Rattle.std.proofs.lemmas.Int.{ints}
use Rattle.std.proofs.lemmas.Bool.{cases_Bool, cond-true, cond-false, eqb-true, eq-eqb}
use Rattle.ir_core.specs.declared.body.Body.{Body}
use Rattle.ir_core.specs.declared.body.Operand.{Operand}
use Rattle.ir_core.specs.declared.body.Out.{Out}
use Rattle.ir_core.specs.declared.body.Source.{Source}
use Rattle.ir_core.specs.declared.body.Source.TheVariants as source
use Rattle.ir_core.specs.declared.stamp.Untimed.{Untimed}
use Rattle.ir_core.specs.Value.{number_of}
use Rattle.dep_graph.specs.declared.access.Meeting.{Meeting}
use Rattle.dep_graph.specs.declared.access.Subscript.{Subscript}
use Rattle.dep_graph.specs.declared.access.Subscript.TheVariants as u
use Rattle.dep_graph.specs.declared.counter.Offset.{Offset}
use Rattle.dep_graph.specs.Offsets.{step_of, source_sum, sums_of, covered}
use Rattle.dep_graph.specs.Meetings.{counted_or_unknown, subscript_by, subscript_of, distance_of, offsets_meet, subscripts_meet, both, distances_from}
use Rattle.ir_core.specs.Bodies.{Words, word}
use Rattle.clock_runs.specs.Premises.{Each, IsOperandAs, IsOperand}
use Rattle.clock_runs.proofs.Settings.{Setting, count_of, allows, after}
use Rattle.clock_runs.proofs.Defined.{Defined}
use Rattle.clock_runs.proofs.Counters.{steps_of, covered_is}
use Rattle.clock_runs.proofs.Sums.{IsCopy, full, covered_guard, source_holds}
use Rattle.clock_runs.proofs.AllSums.{sums_hold}
use Rattle.clock_runs.proofs.Growing.{grown, Foresees, offsets_foresee, both_foresee}
use Rattle.clock_runs.proofs.Elements.{Agree}
use Rattle.clock_runs.proofs.Lists.{some_same}

pub record OffsetHolds (s : Setting) (body : Body Untimed) (t : Words) (offset : Offset) (value : ℕ) : Type 0 where
  pub bits : ℕ
  pub counter : slice_get s.shapes.widths offset.counter.0 ≡ Some bits
  pub stands : number_of true bits value ≡ number_of true bits (t.variables offset.counter.0) +ℤ offset.constant
  pub step : step_of body offset.counter.0 ≡ Some offset.step

-- a subscript with this value is what is known of it
abbrev pub IsKnown : Setting → Body Untimed → Words → Subscript → ℕ → Type 0
IsKnown s body t (u.Constant c) value = value ≡ c
IsKnown s body t (u.Counted offset) value = OffsetHolds s body t offset value
IsKnown s body t u.Unknown value = Unit {0}

abbrev pub AreKnown : Setting → Body Untimed → Words → List Subscript → List ℕ → Type 0
AreKnown s body t [] values = Unit {0}
AreKnown s body t (x ∷ xs) [] = ⊥
AreKnown s body t (x ∷ xs) (w ∷ ws) = IsKnown s body t x w × AreKnown s body t xs ws

module _ (s : Setting) (carried : List Out) (body : Body Untimed) (copy : IsCopy s carried body) (t : Words) (n : ℕ) (within : n ≤ count_of s) (defined : (j : ℕ) → j < n → Defined s t j) (guard : Option Operand) (allowed : allows (full s t) guard ≡ true) where
  abbrev value_of : Source → ℕ
  value_of value = word t (after s t (count_of s)).results value

  offset_known : (value : Source) (distance : ℕ) (offset : Option Offset) → IsOperandAs carried n value distance → covered (source_sum body (sums_of body) value) guard ≡ offset → IsKnown s body t (counted_or_unknown offset) (value_of value)
  offset_known value distance None h e = tt
  offset_known value distance (Some offset) h e =
      let c = covered_is (source_sum body (sums_of body) value) guard offset e in
      let on = covered_guard s carried body copy t c.0.guard guard c.1.1 allowed in
      let k = source_holds s carried body copy t n defined (sums_of body) (sums_hold s carried body copy t n within defined) value distance c.0 c.1.0 h on in
      let known : OffsetHolds s body t c.0.offset (value_of value) = record { bits = k.bits; counter = k.counter; stands = k.stands; step = k.step } in
      subst (λ (x : Offset). OffsetHolds s body t x (value_of value)) c.1.2 known

  known_as : (value : Source) (distance : ℕ) → IsOperandAs carried n value distance → IsKnown s body t (subscript_by value (covered (source_sum body (sums_of body) value) guard)) (value_of value)
  known_as (source.Constant c) distance h = refl
  known_as (source.Variable v) distance h = offset_known (source.Variable v) distance (covered (source_sum body (sums_of body) (source.Variable v)) guard) h refl
  known_as (source.Result j) distance h = offset_known (source.Result j) distance (covered (source_sum body (sums_of body) (source.Result j)) guard) h refl

  pub all_known : (xs : List Operand) → Each (IsOperand carried n) xs → AreKnown s body t (map (subscript_of body (sums_of body) guard) xs) (map (full s t) xs)
  all_known [] h = tt
  all_known (x ∷ xs) h = (known_as x.value x.distance h.0, all_known xs h.1)

-- ---- of two iterations, where counters have grown by their steps so often

abbrev pub HaveGrown : Setting → Body Untimed → Words → Words → ℕ → Type 0
HaveGrown s body t1 t2 d = (variable bits : ℕ) (step : ℤ) → step_of body variable ≡ Some step → slice_get s.shapes.widths variable ≡ Some bits → number_of true bits (t2.variables variable) ≡ number_of true bits (t1.variables variable) +ℤ grown step d

module _ (s : Setting) (body : Body Untimed) (t1 t2 : Words) (d : ℕ) (grow : HaveGrown s body t1 t2 d) where
  one_counter : (x y : Offset) (w : ℕ) → OffsetHolds s body t1 x w → OffsetHolds s body t2 y w → x.counter.0 ≡ y.counter.0 → Foresees d (distance_of x.step (x.constant -ℤ y.constant))
  one_counter x y w p q same =
      let bits : q.bits ≡ p.bits = some_same (sym q.counter ∙ ap (slice_get s.shapes.widths) (sym same) ∙ p.counter) in
      let second : number_of true p.bits w ≡ number_of true p.bits (t2.variables x.counter.0) +ℤ y.constant =
      subst (λ b. number_of true b w ≡ number_of true b (t2.variables x.counter.0) +ℤ y.constant) bits (q.stands ∙ ap (λ c. number_of true q.bits (t2.variables c) +ℤ y.constant) (sym same)) in
      let first = p.stands in
      let more = grow x.counter.0 p.bits x.step p.step p.counter in
      let gap : x.constant -ℤ y.constant ≡ grown x.step d = omega (arith, ints, first, second, more) in
      offsets_foresee x.step (x.constant -ℤ y.constant) d (steps_of body x.counter.0 x.step p.step).moves gap

  offsets_meet_so : (x y : Offset) (w : ℕ) → OffsetHolds s body t1 x w → OffsetHolds s body t2 y w → Foresees d (offsets_meet x y)
  offsets_meet_so x y w p q = elim (cases_Bool (x.counter.0 == y.counter.0)) [
    | inl on ↦ subst (Foresees d) (sym (cond-true _ _ _ on)) (one_counter x y w p q (eqb-true x.counter.0 y.counter.0 on))
    | inr off ↦ inl (cond-false _ _ _ off)
  ]

  subscripts_meet_so : (x y : Subscript) (w : ℕ) → IsKnown s body t1 x w → IsKnown s body t2 y w → Foresees d (subscripts_meet x y)
  subscripts_meet_so (u.Constant a) (u.Constant b) w p q = inl (cond-true _ _ _ (eq-eqb a b (sym p ∙ q)))
  subscripts_meet_so (u.Constant a) (u.Counted y) w p q = inl refl
  subscripts_meet_so (u.Constant a) u.Unknown w p q = inl refl
  subscripts_meet_so (u.Counted x) (u.Constant b) w p q = inl refl
  subscripts_meet_so (u.Counted x) (u.Counted y) w p q = offsets_meet_so x y w p q
  subscripts_meet_so (u.Counted x) u.Unknown w p q = inl refl
  subscripts_meet_so u.Unknown y w p q = inl refl

  pub distances_foresee : (xs ys : List Subscript) (vs ws : List ℕ) (so_far : Meeting) → AreKnown s body t1 xs vs → AreKnown s body t2 ys ws → Agree vs ws → Foresees d so_far → Foresees d (distances_from so_far xs ys)
  distances_foresee [] ys vs ws so_far p q e h = h
  distances_foresee (x ∷ xs) [] vs ws so_far p q e h = h
  distances_foresee (x ∷ xs) (y ∷ ys) [] ws so_far p q e h = absurd p
  distances_foresee (x ∷ xs) (y ∷ ys) (v ∷ vs) [] so_far p q e h = absurd q
  distances_foresee (x ∷ xs) (y ∷ ys) (v ∷ vs) (w ∷ ws) so_far p q e h =
      distances_foresee xs ys vs ws (both so_far (subscripts_meet x y)) p.1 q.1 e.1
      (both_foresee d so_far (subscripts_meet x y) h (subscripts_meet_so x y w (subst (λ z. IsKnown s body t1 x z) e.0 p.0) q.0))
