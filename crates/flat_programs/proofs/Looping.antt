-- A loop and its nodes.
use Rattle.std.proofs.Common.{◌≡◌, ◌∙◌, ◌+◌, ◌*◌, ◌-◌, ◌≤◌, ℕ, zero, suc, true, false, refl, ap, sym, arith, List, Option}
use Rattle.std.specs.Prelude.{if◌then◌else◌}
use Rattle.hls_base.specs.Steps.{Ran, goes, waits, then_}
use Rattle.ir_core.specs.Bodies.{Shapes, Words}
use Rattle.ir_core.specs.TreeRuns.{Way, on, taken, cased, broke, continued, left, Turn, again, over, turn_of, if_again, repeat, way_behind, turned, is_taken, test_first, test_last}
use Rattle.ir_layout.specs.Nodes.{NodeTree}
use Rattle.ir_layout.specs.Layout.{onto, tested, Around, in_loop}
use Rattle.ir_layout.specs.WellFormed.{Inside, one_way, a_test, in_test, in_body, in_step}
use Rattle.flat_programs.proofs.Runs.{then_assoc}
use Rattle.flat_programs.proofs.Ends.{led, WayFits}
use Rattle.flat_programs.proofs.Entering.{Behind, plain_from, Leads, Does}

pub false_true : {A : Type 0} → false ≡ true → A
false_true e = cc

module _ (shapes : Shapes) (nodes : List NodeTree) (inside : Inside) (around : Around) (after test_place body_place again_place : ℕ)
    (test body step : Words → ℕ → Ran Words Way)
    (test_does : Does shapes nodes 1 (WayFits in_test a_test) (led (in_loop after again_place around) (tested body_place after)) test_place test)
    (body_does : Does shapes nodes 1 (WayFits (in_body inside) one_way) (led (in_loop after again_place around) (onto again_place)) body_place body)
    (m : ℕ) (behind : Behind) (lead : Leads shapes nodes (WayFits inside one_way) (led around (onto after)) m behind) where
  -- what comes behind a turn
  abbrev Next : Type 0
  Next = Turn → Words → ℕ → Ran Words (Option ℕ)

  abbrev ended : Next
  ended u t n = behind (way_behind u) t n

  abbrev turning : (Words → ℕ → Ran Words Turn) → ℕ → Next
  turning round j u t n = then_ (if_again u (repeat j round) t n) ended

  -- the rounds that are left, from this place on
  abbrev Rounds : (Words → ℕ → Ran Words Turn) → ℕ → ℕ → Type 0
  Rounds round place j = (k : ℕ) (t : Words) (n : ℕ) → n ≤ j → n ≤ m → 2 * n + 1 ≤ k → plain_from k shapes nodes place t n ≡ then_ (repeat j round t n) ended

  abbrev Waits : ℕ → Type 0
  Waits place = (k : ℕ) (t : Words) → 1 ≤ k → plain_from k shapes nodes place t 0 ≡ waits

  none_left : (round : Words → ℕ → Ran Words Turn) (place : ℕ) → Waits place → Rounds round place 0
  none_left round place h k t n le le2 enough =
      let e : n ≡ 0 = omega (arith, le) in
      ap (λ i. plain_from k shapes nodes place t i) e ∙ h k t (omega (arith, enough))

  -- behind a test, by what follows where it holds
  tested_leads : (round : Words → ℕ → Ran Words Turn) (j l : ℕ) (holding : Behind) → l ≤ m
      → ((w : Way) (t : Words) (n : ℕ) → is_taken w ≡ false → holding w t n ≡ ended over t n)
      → ((t : Words) (n k : ℕ) → n ≤ l → 2 * n + 1 ≤ k → holding (taken true) t n ≡ plain_from k shapes nodes body_place t n)
      → Leads shapes nodes (WayFits in_test a_test) (led (in_loop after again_place around) (tested body_place after)) l holding
  tested_leads round j l holding le h1 h2 on t n k le1 enough fits = h1 on t n refl ∙ lead on t n k (omega (arith, le, le1)) enough tt
  tested_leads round j l holding le h1 h2 (taken true) t n k le1 enough fits = h2 t n k le1 enough
  tested_leads round j l holding le h1 h2 (taken false) t n k le1 enough fits = h1 (taken false) t n refl ∙ lead on t n k (omega (arith, le, le1)) enough tt
  tested_leads round j l holding le h1 h2 (cased i) t n k le1 enough fits = elim fits [ ]
  tested_leads round j l holding le h1 h2 broke t n k le1 enough fits = false_true fits
  tested_leads round j l holding le h1 h2 continued t n k le1 enough fits = false_true fits
  tested_leads round j l holding le h1 h2 (left number) t n k le1 enough fits = false_true fits

  -- behind a body, by what follows where the loop goes on
  body_leads : (round : Words → ℕ → Ran Words Turn) (j l : ℕ) (next : Words → ℕ → Ran Words Turn) → l ≤ m
      → ((t : Words) (n k : ℕ) → n ≤ l → 2 * n + 1 ≤ k → then_ (next t n) (turning round j) ≡ plain_from k shapes nodes again_place t n)
      → Leads shapes nodes (WayFits (in_body inside) one_way) (led (in_loop after again_place around) (onto again_place)) l (λ w t n. then_ (if_again (turn_of w) next t n) (turning round j))
  body_leads round j l next le h on t n k le1 enough fits = h t n k le1 enough
  body_leads round j l next le h (taken test) t n k le1 enough fits = elim fits [ ]
  body_leads round j l next le h (cased i) t n k le1 enough fits = elim fits [ ]
  body_leads round j l next le h broke t n k le1 enough fits = lead on t n k (omega (arith, le, le1)) enough tt
  body_leads round j l next le h continued t n k le1 enough fits = h t n k le1 enough
  body_leads round j l next le h (left number) t n k le1 enough fits = lead (left number) t n k (omega (arith, le, le1)) enough fits

  -- behind a step
  step_leads : (round : Words → ℕ → Ran Words Turn) (j l : ℕ) → l ≤ j → l ≤ m → Rounds round test_place j
      → Leads shapes nodes (WayFits (in_step inside) one_way) (led (in_loop after again_place around) (onto test_place)) l (λ w t n. turning round j (turn_of w) t n)
  step_leads round j l le le2 rounds on t n k le1 enough fits = sym (rounds k t n (omega (arith, le, le1)) (omega (arith, le2, le1)) enough)
  step_leads round j l le le2 rounds (taken test) t n k le1 enough fits = elim fits [ ]
  step_leads round j l le le2 rounds (cased i) t n k le1 enough fits = elim fits [ ]
  step_leads round j l le le2 rounds broke t n k le1 enough fits = lead on t n k (omega (arith, le2, le1)) enough tt
  step_leads round j l le le2 rounds continued t n k le1 enough fits = false_true fits
  step_leads round j l le le2 rounds (left number) t n k le1 enough fits = lead (left number) t n k (omega (arith, le2, le1)) enough fits

  -- ---- the test first

  abbrev first_round : Words → ℕ → Ran Words Turn
  first_round = test_first test body step

  -- what follows the test in its round
  abbrev behind_test : Way → Words → ℕ → Ran Words Turn
  behind_test w t n = if is_taken w then then_ (turned body t n) (λ u t1 n1. if_again u (turned step) t1 n1) else goes over t n

  not_taken : (j : ℕ) (w : Way) (t : Words) (n : ℕ) → is_taken w ≡ false → then_ (behind_test w t n) (turning first_round j) ≡ ended over t n
  not_taken j w t n e = ap (λ y. then_ (if y then then_ (turned body t n) (λ u t1 n1. if_again u (turned step) t1 n1) else goes over t n) (turning first_round j)) e

  module _ (step_does : Does shapes nodes 0 (WayFits (in_step inside) one_way) (led (in_loop after again_place around) (onto test_place)) again_place step) (waiting : Waits test_place) where
    stepped : (j l : ℕ) → l ≤ j → l ≤ m → Rounds first_round test_place j → (t : Words) (n k : ℕ) → n ≤ l → 2 * n + 1 ≤ k
        → then_ (turned step t n) (turning first_round j) ≡ plain_from k shapes nodes again_place t n
    stepped j l le le2 rounds t n k le1 enough =
        then_assoc (step t n) (λ w t1 n1. goes (turn_of w) t1 n1) (turning first_round j)
        ∙ sym (step_does l (λ w t1 n1. turning first_round j (turn_of w) t1 n1) (step_leads first_round j l le le2 rounds) k t n (omega (arith, le1)) enough)

    bodied : (j l : ℕ) → l ≤ j → l ≤ m → Rounds first_round test_place j → (t : Words) (n k : ℕ) → n ≤ l → 2 * n + 1 ≤ k
        → then_ (behind_test (taken true) t n) (turning first_round j) ≡ plain_from k shapes nodes body_place t n
    bodied j l le le2 rounds t n k le1 enough =
        let going = λ (u : Turn) (t1 : Words) (n1 : ℕ). if_again u (turned step) t1 n1 in
        then_assoc (turned body t n) going (turning first_round j)
        ∙ then_assoc (body t n) (λ w t1 n1. goes (turn_of w) t1 n1) (λ u t1 n1. then_ (going u t1 n1) (turning first_round j))
        ∙ sym (body_does l (λ w t1 n1. then_ (going (turn_of w) t1 n1) (turning first_round j)) (body_leads first_round j l (turned step) le2 (stepped j l le le2 rounds)) k t n (omega (arith, le1)) enough)

    pub rounds_first : (j : ℕ) → Rounds first_round test_place j
    rounds_first zero k t n le le2 enough = none_left first_round test_place waiting k t n le le2 enough
    rounds_first (suc j) k t n le le2 enough =
        let next = λ (u : Turn) (t1 : Words) (n1 : ℕ). if_again u (repeat j first_round) t1 n1 in
        sym (then_assoc (first_round t n) next ended
        ∙ then_assoc (test t n) behind_test (turning first_round j)
        ∙ sym (test_does (n - 1) (λ w t1 n1. then_ (behind_test w t1 n1) (turning first_round j))
        (tested_leads first_round j (n - 1) (λ w t1 n1. then_ (behind_test w t1 n1) (turning first_round j)) (omega (arith, le2)) (not_taken j) (bodied j (n - 1) (omega (arith, le)) (omega (arith, le2)) (rounds_first j)))
        k t n (omega arith) enough))

  -- ---- the body first

  abbrev last_round : Words → ℕ → Ran Words Turn
  last_round = test_last test body

  abbrev told : Way → Words → ℕ → Ran Words Turn
  told w t n = goes (if is_taken w then again else over) t n

  abbrev retested : Words → ℕ → Ran Words Turn
  retested t n = then_ (test t n) (λ w t1 n1. told w t1 n1)

  module _ (same : again_place ≡ test_place) (waiting : Waits body_place) where
    not_again : (j : ℕ) (w : Way) (t : Words) (n : ℕ) → is_taken w ≡ false → turning last_round j (if is_taken w then again else over) t n ≡ ended over t n
    not_again j w t n e = ap (λ y. turning last_round j (if y then again else over) t n) e

    again_tested : (j l : ℕ) → l ≤ j → l ≤ m → Rounds last_round body_place j → (t : Words) (n k : ℕ) → n ≤ l → 2 * n + 1 ≤ k
        → then_ (retested t n) (turning last_round j) ≡ plain_from k shapes nodes again_place t n
    again_tested j l le le2 rounds t n k le1 enough =
        then_assoc (test t n) (λ w t1 n1. told w t1 n1) (turning last_round j)
        ∙ sym (test_does l (λ w t1 n1. turning last_round j (if is_taken w then again else over) t1 n1)
        (tested_leads last_round j l (λ w t1 n1. turning last_round j (if is_taken w then again else over) t1 n1) le2 (not_again j) (λ t1 n1 k1 le3 enough1. sym (rounds k1 t1 n1 (omega (arith, le, le3)) (omega (arith, le2, le3)) enough1)))
        k t n (omega (arith, le1)) enough)
        ∙ ap (λ i. plain_from k shapes nodes i t n) (sym same)

    pub rounds_last : (j : ℕ) → Rounds last_round body_place j
    rounds_last zero k t n le le2 enough = none_left last_round body_place waiting k t n le le2 enough
    rounds_last (suc j) k t n le le2 enough =
        let next = λ (u : Turn) (t1 : Words) (n1 : ℕ). if_again u (repeat j last_round) t1 n1 in
        let going = λ (u : Turn) (t1 : Words) (n1 : ℕ). if_again u retested t1 n1 in
        sym (then_assoc (last_round t n) next ended
        ∙ then_assoc (turned body t n) going (turning last_round j)
        ∙ then_assoc (body t n) (λ w t1 n1. goes (turn_of w) t1 n1) (λ u t1 n1. then_ (going u t1 n1) (turning last_round j))
        ∙ sym (body_does (n - 1) (λ w t1 n1. then_ (going (turn_of w) t1 n1) (turning last_round j)) (body_leads last_round j (n - 1) retested (omega (arith, le2)) (again_tested j (n - 1) (omega (arith, le)) (omega (arith, le2)) (rounds_last j)))
        k t n (omega arith) enough))
