-- The circuit waits with its box: for `ready` in the initial sequence, and for `done` in a run.
use Rattle.std.proofs.Common.{◌≡◌, ℕ, zero, suc, ◌+◌, ◌-◌, ◌<◌, ◌≤◌, ◌==◌, Bool, true, false, List, Option, Some, None, refl, sym, ap, ◌∙◌, subst, arith}
use Rattle.std.specs.Prelude.{find}
use Rattle.std.specs.List.{range_with_len}
use Rattle.hls_base.specs.FileScope.{FileScope}
use Rattle.rtl_core.specs.Interface.{Interface, ready_of, done_of}
use Rattle.rtl_core.specs.Box.{Answers, Phase, Init, Idle, Busy, Done, Box, BoxStep, Waits, initial, in_phase}
use Rattle.rtl_core.specs.Box as box
use Rattle.rtl_core.specs.Agreement.{IsBroken}
use Rattle.cosim_levels.specs.Pins.Host.{Driven, clocked, low_row, waited, first_high}
use Rattle.driven_circuits.proofs.Rows.{low_fits}
use Rattle.driven_circuits.proofs.Standing.{Stands, Goes, goes}

-- ---- the first number that passes

find_first : (p : ℕ → Bool) (a n k : ℕ) → ((j : ℕ) → j < k → p (a + j) ≡ false) → k < n → p (a + k) ≡ true → find p (range_with_len a n) ≡ Some (a + k)
find_first p a zero k before inside here = absurd (omega arith)
find_first p a (suc n) zero before inside here =
    let at : a + 0 ≡ a = omega arith in
    let first : p a ≡ true = rw at at here in
    rw (first, at) refl
find_first p a (suc n) (suc k) before inside here =
    let first : p a ≡ false = (let at : a + 0 ≡ a = omega arith in rw at at (before 0 (omega arith))) in
    let place : a + suc k ≡ (a + 1) + k = omega arith in
    rw (first, place) (find_first p (a + 1) n k (λ j h. (let next : a + suc j ≡ (a + 1) + j = omega arith in rw next at (before (suc j) (omega arith)))) (omega arith) (rw place at here))

is_low : (x : ℕ) → x ≡ 0 → (x == 1) ≡ false
is_low x e = rw e refl

is_high : (x : ℕ) → x ≡ 1 → (x == 1) ≡ true
is_high x e = rw e refl

-- an output that is low in the first cycles of waiting, and high in the next one
pub high_first : (pin : List ℕ → ℕ) (s : Driven) (k limit : ℕ) → ((j : ℕ) → j < k → pin (waited s (suc j)).outs ≡ 0) → pin (waited s (suc k)).outs ≡ 1 → k < limit → first_high pin s limit ≡ Some (suc k)
high_first pin s k limit low high inside =
    let one_more : (j : ℕ) → 1 + j ≡ suc j = λ j. omega arith in
    let test : ℕ → Bool = λ n. pin (waited s n).outs == 1 in
    find_first test 1 limit k (λ j h. ap test (one_more j) ∙ is_low (pin (waited s (suc j)).outs) (low j h)) inside (ap test (one_more k) ∙ is_high (pin (waited s (suc k)).outs) high)
    ∙ ap (λ n. Some n) (one_more k)

find_none : (p : ℕ → Bool) (a n : ℕ) → ((j : ℕ) → j < n → p (a + j) ≡ false) → find p (range_with_len a n) ≡ None
find_none p a zero none = refl
find_none p a (suc n) none =
    let first : p a ≡ false = (let at : a + 0 ≡ a = omega arith in rw at at (none 0 (omega arith))) in
    rw first (find_none p (a + 1) n (λ j h. (let next : a + suc j ≡ (a + 1) + j = omega arith in rw next at (none (suc j) (omega arith)))))

-- an output that is low in all these cycles
pub never_high : (pin : List ℕ → ℕ) (s : Driven) (limit : ℕ) → ((j : ℕ) → j < limit → pin (waited s (suc j)).outs ≡ 0) → first_high pin s limit ≡ None
never_high pin s limit low =
    let one_more : (j : ℕ) → 1 + j ≡ suc j = λ j. omega arith in
    let test : ℕ → Bool = λ n. pin (waited s n).outs == 1 in
    find_none test 1 limit (λ j h. ap test (one_more j) ∙ is_low (pin (waited s (suc j)).outs) (low j h))

-- ---- cycles with all inputs low

pub waited_arguments : (s : Driven) (k : ℕ) → (waited s k).arguments ≡ s.arguments
waited_arguments s zero = refl
waited_arguments s (suc k) = waited_arguments s k

module _ (i : Interface) (answers : Answers) where
  -- one more cycle of waiting
  pub goes_low : (s : Driven) (b next : Box) → Stands i answers s b → ¬ IsBroken b.phase → BoxStep i answers b (low_row s.arguments) next → Goes i answers (clocked s (low_row s.arguments)) b next
  goes_low s b next stands whole step = goes i answers s b next (low_row s.arguments) stands whole (low_fits i s.arguments stands.arguments) refl step

  waits_more : (s : Driven) (k : ℕ) (b next : Box) → Stands i answers (waited s k) b → ¬ IsBroken b.phase → BoxStep i answers b (low_row s.arguments) next → Goes i answers (waited s (suc k)) b next
  waits_more s k b next stands whole step =
      subst (λ n. Goes i answers (clocked (waited s k) (low_row n)) b next) (waited_arguments s k)
      (goes_low (waited s k) b next stands whole (subst (λ n. BoxStep i answers b (low_row n) next) (sym (waited_arguments s k)) step))

  module _ (arrays : List (List ℕ)) (scope : FileScope) where
    abbrev pub at_phase : Phase → Box
    at_phase phase = record { phase = phase; arrays = arrays; file_scope = scope; shown = None }

    -- boxes in which nothing runs, with low inputs
    pub idle_step : (n : ℕ) → BoxStep i answers (at_phase Idle) (low_row n) (at_phase Idle)
    idle_step n = record { taken = λ (e : 0 ≡ 1). absurd (omega (arith, e)); kept = λ h. refl }

    pub done_step : (result : Option ℕ) (n : ℕ) → BoxStep i answers (at_phase (Done result)) (low_row n) (at_phase (Done result))
    done_step result n = record { taken = λ (e : 0 ≡ 1). absurd (omega (arith, e)); kept = λ h. refl }

    -- ---- the initial sequence

    one_fewer : (s : Driven) (j m : ℕ) → Stands i answers (waited s j) (at_phase (Init (suc m))) → Goes i answers (waited s (suc j)) (at_phase (Init (suc m))) (at_phase (initial m))
    one_fewer s j m stands =
        let less : suc m - 1 ≡ m = omega arith in
        waits_more s j (at_phase (Init (suc m))) (at_phase (initial m)) stands (λ x. x) (ap (λ n. at_phase (initial n)) (sym less))

    in_sequence : (s : Driven) (k j : ℕ) → j ≤ k → Stands i answers s (at_phase (initial k)) → Stands i answers (waited s j) (at_phase (initial (k - j)))
    in_sequence s k zero h stands = let e : k ≡ k - 0 = omega arith in subst (λ n. Stands i answers s (at_phase (initial n))) e stands
    in_sequence s k (suc j) h stands =
        let left : k - j ≡ suc (k - suc j) = omega arith in
        (one_fewer s j (k - suc j) (subst (λ n. Stands i answers (waited s j) (at_phase (initial n))) left (in_sequence s k j (omega arith) stands))).stands

    -- the circuit is not ready in the sequence
    not_ready : (s : Driven) (k j : ℕ) → j < k → Stands i answers s (at_phase (initial k)) → ready_of (waited s (suc j)).outs ≡ 0
    not_ready s k j less stands =
        let left : k - j ≡ suc (k - suc j) = omega arith in
        (one_fewer s j (k - suc j) (subst (λ n. Stands i answers (waited s j) (at_phase (initial n))) left (in_sequence s k j (omega arith) stands))).shows.phase.0

    pub ready_late : (s : Driven) (k limit : ℕ) → Stands i answers s (at_phase (initial k)) → limit ≤ k → first_high ready_of s limit ≡ None
    ready_late s k limit stands h = never_high ready_of s limit (λ j less. not_ready s k j (omega arith) stands)

    -- it is ready in the first cycle behind it
    pub ready_comes : (s : Driven) (k limit : ℕ) → Stands i answers s (at_phase (initial k)) → k < limit → (first_high ready_of s limit ≡ Some (suc k)) × Stands i answers (waited s (suc k)) (at_phase Idle)
    ready_comes s k limit stands h =
        let none : k - k ≡ 0 = omega arith in
        let idle : Stands i answers (waited s k) (at_phase Idle) = subst (λ n. Stands i answers (waited s k) (at_phase (initial n))) none (in_sequence s k k (omega arith) stands) in
        let last : Goes i answers (waited s (suc k)) (at_phase Idle) (at_phase Idle) = waits_more s k (at_phase Idle) (at_phase Idle) idle (λ x. x) (idle_step s.arguments) in
        (high_first ready_of s k limit (λ j less. not_ready s k j less stands) last.shows.phase.0 h, last.stands)

  -- ---- a run

  module _ (arrays : List (List ℕ)) (scope : FileScope) (result : Option ℕ) (elements : List (List ℕ)) (left : FileScope) where
    abbrev busy : ℕ → Box
    busy n = at_phase arrays scope (Busy n result elements left)

    abbrev ended : Box
    ended = at_phase elements left (Done result)

    on_cycle : (s : Driven) (j n : ℕ) → Stands i answers (waited s j) (busy n) → Goes i answers (waited s (suc j)) (busy n) (box.waited (busy n) n result elements left)
    on_cycle s j n stands = waits_more s j (busy n) (box.waited (busy n) n result elements left) stands (λ x. x) refl

    in_run : (s : Driven) (m j : ℕ) → j ≤ m → Stands i answers s (busy (suc m)) → Stands i answers (waited s j) (busy (suc (m - j)))
    in_run s m zero h stands = let e : m ≡ m - 0 = omega arith in subst (λ n. Stands i answers s (busy (suc n))) e stands
    in_run s m (suc j) h stands =
        let more : m - j ≡ suc (m - suc j) = omega arith in
        (on_cycle s j (suc (suc (m - suc j))) (subst (λ n. Stands i answers (waited s j) (busy (suc n))) more (in_run s m j (omega arith) stands))).stands

    -- the circuit is not done in the run
    not_done : (s : Driven) (m j : ℕ) → j < suc m → Stands i answers s (busy (suc m)) → done_of (waited s (suc j)).outs ≡ 0
    not_done s m j less stands = (on_cycle s j (suc (m - j)) (in_run s m j (omega arith) stands)).shows.phase.1

    pub done_late : (s : Driven) (m limit : ℕ) → Stands i answers s (busy (suc m)) → limit ≤ suc m → first_high done_of s limit ≡ None
    done_late s m limit stands h = never_high done_of s limit (λ j less. not_done s m j (omega arith) stands)

    -- it is done in the first cycle behind it
    pub done_comes : (s : Driven) (m limit : ℕ) → Stands i answers s (busy (suc m)) → suc m < limit → (first_high done_of s limit ≡ Some (suc (suc m))) × Goes i answers (waited s (suc (suc m))) ended ended
    done_comes s m limit stands h =
        let none : m - m ≡ 0 = omega arith in
        let last : Stands i answers (waited s (suc m)) ended = (on_cycle s m 1 (subst (λ n. Stands i answers (waited s m) (busy (suc n))) none (in_run s m m (omega arith) stands))).stands in
        let shown : Goes i answers (waited s (suc (suc m))) ended ended = waits_more s (suc m) ended ended last (λ x. x) (done_step elements left result s.arguments) in
        (high_first done_of s (suc m) limit (λ j less. not_done s m j less stands) shown.shows.phase.1 h, shown)
