-- What comes of the iterations of a loop, one after another.
use Rattle.std.proofs.Common.{◌≡◌, ℕ, zero, suc, ◌+◌, ◌<◌, ◌≤◌, ◌∙◌, inl, inr, sym, refl, ap, subst, true, false, length, arith}
use Rattle.std.proofs.lemmas.Bool.{cases_lt, cases_eq, false≢true}
use Rattle.hls_base.specs.declared.point.Point.{Point}
use Rattle.hls_base.specs.Steps.{went, waiting, Ran, then_}
use Rattle.ir_core.specs.Bodies.{Words}
use Rattle.ir_core.specs.TreeRuns.{Turn, over, repeat, if_again, tested}
use Rattle.clock_runs.proofs.Effects.{storing}
use Rattle.clock_runs.proofs.Settings.{Setting, count_of, sort_at, passes_from, next, moment, passes, Begins, Runs}
use Rattle.clock_runs.proofs.Iterations.{begins_more}
use Rattle.clock_runs.proofs.Defined.{Defined}
use Rattle.clock_runs.proofs.BlockRuns.{not_waiting, not_undefined, undefined_not, went_not, went_parts}
use Rattle.clock_runs.proofs.LoopRuns.{next_moment, round, Round, last, stops, on, breaks, one_round}

module _ (s : Setting) (point : Point) (test_in : tested s.body.test ≤ count_of s) (test_first : (k : ℕ) → k < count_of s → sort_at s k ≡ storing → tested s.body.test ≤ k) where
  abbrev pub turn : Words → ℕ → Ran Words Turn
  turn = round s point test_in test_first

  abbrev One : Words → ℕ → Ran Words Turn → Type 0
  One = Round s point test_in test_first

  -- all operations of the iterations before this one are defined
  abbrev pub AllBefore : ℕ → Type 0
  AllBefore i = (j k : ℕ) → j < i → k < count_of s → Defined s (moment s j) k

  all_more : (i : ℕ) → AllBefore i → ((k : ℕ) → k < count_of s → Defined s (moment s i) k) → AllBefore (suc i)
  all_more i all here j k lt in_ = elim (cases_eq j i) [
    | inl same ↦ subst (λ x. Defined s (moment s x) k) (sym same) (here k in_)
    | inr differ ↦ all j k (omega arith) in_
  ]

  -- from iteration i on, so many iterations run, and then one whose test fails
  pub record LoopWent (i n n1 points : ℕ) (t1 : Words) (w : Turn) : Type 0 where
    pub begins : Begins s (i + points)
    pub fails : passes s (i + points) ≡ false
    pub leaves : t1 ≡ moment s (i + points)
    pub fewer : n ≡ n1 + points
    pub ends : w ≡ over
    pub defined : (j k : ℕ) → Runs s j k → Defined s (moment s j) k

  pub record LoopWaits (i n : ℕ) : Type 0 where
    pub begins : Begins s (suc (i + n))
    pub defined : AllBefore (i + n)

  defined_then : (i : ℕ) → AllBefore i → passes s i ≡ false → ((k : ℕ) → k < tested s.body.test → Defined s (moment s i) k) → (j k : ℕ) → Runs s j k → Defined s (moment s j) k
  defined_then i all fails here j k r = elim (cases_lt j i) [
    | inl early ↦ all j k early r.1
    | inr late ↦ elim (cases_eq j i) [
      | inl same ↦ subst (λ x. Defined s (moment s x) k) (sym same) (here k (elim r.2 [
        | inl low ↦ low
        | inr holds ↦ absurd (false≢true (sym fails ∙ ap (passes s) (sym same) ∙ holds))
      ]))
      | inr differ ↦ absurd (false≢true (sym fails ∙ r.0 i (omega arith)))
    ]
  ]

  abbrev behind : ℕ → Turn → Words → ℕ → Ran Words Turn
  behind f w t n = if_again w (repeat f turn) t n

  abbrev Goes : ℕ → Type 0
  Goes f = (i n : ℕ) → Begins s i → AllBefore i → (w : Turn) (t1 : Words) (n1 : ℕ) → (repeat f turn (moment s i) n).outcome ≡ went w t1 n1 → LoopWent i n n1 (length (repeat f turn (moment s i) n).trace) t1 w

  goes_behind : (f i n : ℕ) (t : Words) (r : Ran Words Turn) → Goes f → Begins s i → AllBefore i → t ≡ moment s i → One t n r → (w : Turn) (t1 : Words) (n1 : ℕ) → (then_ r (behind f)).outcome ≡ went w t1 n1
      → LoopWent i n n1 (length (then_ r (behind f)).trace) t1 w
  goes_behind f i n t r more begins all at (last t' n' fails defined) w t1 n1 h =
      let same = went_parts h in
      let here : i + 0 ≡ i = omega arith in
      let failed : passes s i ≡ false = ap (passes_from s) (sym at) ∙ fails in
      record {
        begins = subst (Begins s) (sym here) begins;
        fails = ap (passes s) here ∙ failed;
        leaves = sym same.1 ∙ at ∙ ap (moment s) (sym here);
        fewer = (let z = same.2 in omega arith);
        ends = sym same.0;
        defined = defined_then i all failed (λ k lt. subst (λ x. Defined s x k) at (defined k lt));
      }
  goes_behind f i n t r more begins all at (stops t' holds) w t1 n1 h = absurd (not_waiting h)
  goes_behind f i n t r more begins all at (breaks t' n' trace rule place) w t1 n1 h = absurd (not_undefined h)
  goes_behind f i n t r more begins all at (on t' m holds defined) w t1 n1 h =
      let then : next s t ≡ moment s (suc i) = ap (next s) at ∙ next_moment s i in
      let held : passes s i ≡ true = ap (passes_from s) (sym at) ∙ holds in
      let rest = more (suc i) m (begins_more s i begins held) (all_more i all (λ k lt. subst (λ x. Defined s x k) at (defined k lt))) w t1 n1 (ap (λ x. (repeat f turn x m).outcome) (sym then) ∙ h) in
      let points = length (repeat f turn (moment s (suc i)) m).trace in
      let same_points : length (repeat f turn (next s t) m).trace ≡ points = ap (λ x. length (repeat f turn x m).trace) then in
      let last_one : suc i + points ≡ i + suc points = omega arith in
      let known : LoopWent i (suc m) n1 (suc points) t1 w = record {
        begins = subst (Begins s) last_one rest.begins;
        fails = ap (passes s) (sym last_one) ∙ rest.fails;
        leaves = rest.leaves ∙ ap (moment s) last_one;
        fewer = (let z = rest.fewer in omega arith);
        ends = rest.ends;
        defined = rest.defined;
      } in
      subst (λ z. LoopWent i (suc m) n1 (suc z) t1 w) (sym same_points) known

  pub loop_goes : (f : ℕ) → Goes f
  loop_goes zero i n begins all w t1 n1 h = absurd (not_waiting h)
  loop_goes (suc f) i n begins all w t1 n1 h = goes_behind f i n (moment s i) (turn (moment s i) n) (loop_goes f) begins all refl (one_round s point test_in test_first (moment s i) n) w t1 n1 h

  -- ---- where it waits

  abbrev Waits : ℕ → Type 0
  Waits f = (i n : ℕ) → n < f → Begins s i → AllBefore i → (repeat f turn (moment s i) n).outcome ≡ waiting → LoopWaits i n

  waits_behind : (f i n : ℕ) (t : Words) (r : Ran Words Turn) → Waits f → n < suc f → Begins s i → AllBefore i → t ≡ moment s i → One t n r → (then_ r (behind f)).outcome ≡ waiting → LoopWaits i n
  waits_behind f i n t r more few begins all at (last t' n' fails defined) h = absurd (went_not h)
  waits_behind f i n t r more few begins all at (breaks t' n' trace rule place) h = absurd (undefined_not h)
  waits_behind f i n t r more few begins all at (stops t' holds) h =
      let held : passes s i ≡ true = ap (passes_from s) (sym at) ∙ holds in
      let here : i ≡ i + 0 = omega arith in
      record { begins = subst (λ z. Begins s (suc z)) here (begins_more s i begins held); defined = subst AllBefore here all }
  waits_behind f i n t r more few begins all at (on t' m holds defined) h =
      let then : next s t ≡ moment s (suc i) = ap (next s) at ∙ next_moment s i in
      let held : passes s i ≡ true = ap (passes_from s) (sym at) ∙ holds in
      let rest = more (suc i) m (omega arith) (begins_more s i begins held) (all_more i all (λ k lt. subst (λ x. Defined s x k) at (defined k lt))) (ap (λ x. (repeat f turn x m).outcome) (sym then) ∙ h) in
      let last_one : suc i + m ≡ i + suc m = omega arith in
      record { begins = subst (λ z. Begins s (suc z)) last_one rest.begins; defined = subst AllBefore last_one rest.defined }

  pub loop_waits : (f : ℕ) → Waits f
  loop_waits zero i n few begins all h = absurd (omega arith)
  loop_waits (suc f) i n few begins all h = waits_behind f i n (moment s i) (turn (moment s i) n) (loop_waits f) few begins all refl (one_round s point test_in test_first (moment s i) n) h
