-- Loops: the test and the body, whose step stands in its last block or has blocks of its own.
use Rattle.std.proofs.Common.{◌≡◌, ◌∙◌, ℕ, ◌+◌, arith, Bool, true, false, refl, ap, sym, subst, ℤ, if◌then◌else◌}
use Rattle.std.proofs.lemmas.Bool.{false≢true}
use Rattle.hls_base.specs.declared.point.Point.{Point}
use Rattle.c_value.specs.Operators.{is_true}
use Rattle.hls_base.specs.Steps.{Ran, goes, then_}
use Rattle.hls_base.specs.Valued.{Valued, is, faulty, valued}
use Rattle.pieces.specs.declared.piece.CallId.{CallId}
use Rattle.pieces.specs.Trees.{PureTree}
use Rattle.c_meaning.specs.PieceRuns.Values.{Store, value}
use Rattle.c_meaning.specs.PieceRuns.Pieces as p
use Rattle.c_meaning.specs.PieceRuns.Pieces.{Frame}
use Rattle.ir_core.specs.Bodies.{Words, Ranged, with_outs}
use Rattle.ir_core.specs.Trees.{BlockTree, PartTrees, ShapeTree, more_parts}
use Rattle.ir_core.specs.TreeRuns as trees
use Rattle.ir_core.specs.TreeRuns.{parts_run, sequence_run, side_run}
use Rattle.passes.specs.Lowering.Blocks.{begun, ends_by_test}
use Rattle.passes.specs.Lowering.{Rest, last, followed, land_of}
use Rattle.pass_runs.specs.LowerRuns.OperatorWords.Words.{OperatorsAgree}
use Rattle.pass_runs.specs.LowerRuns.Suits.{Suits, shapes_of}
use Rattle.ir_layout.specs.WellFormed.{Inside, has_number, in_test}
use Rattle.pass_runs.specs.LowerRuns.Holding.{Holds, ArraysAreShort}
use Rattle.pass_runs.proofs.LowerRuns.LowerControl.Following.{Follow, follows_goes, follows_fails, follows_same, follows_then, follows_next, follows_both, then_assoc}
use Rattle.pass_runs.proofs.LowerRuns.LowerControl.Entering.{within, Opens, Below, closed_holds, holds_weaker, opens_weaker}
use Rattle.pass_runs.proofs.LowerRuns.LowerControl.Rests.{first_of, rest_of}
use Rattle.pass_runs.proofs.LowerRuns.LowerControl.Rests.{IsRest}
use Rattle.pass_runs.proofs.LowerRuns.LowerControl.Targets.{Ends, Arrives, shapes, Run, broke_parts, closes, behind, behind_on, within_followed, follows_end, follows_left}
use Rattle.pass_runs.proofs.LowerRuns.LowerControl.Measuring.{Advances}
use Rattle.pass_runs.proofs.LowerRuns.LowerControl.Rounds.{Turning, Turned, rounds_follow}
use Rattle.pass_runs.proofs.LowerRuns.LowerControl.Straight.{test_ends}

-- no continue comes from the body, and other jumps lead out of it as they do out of the step
pub record OutWays (inner outer : Inside) : Type 0 where
  pub leaves : outer.leave ≡ true
  pub never : inner.again ≡ false
  pub lands : (call : CallId) → has_number inner.lands call.0 ≡ true → has_number outer.lands call.0 ≡ true

module _ (f : Frame) (kept : Point → Bool) (operators : OperatorsAgree) (short : ArraysAreShort f) (inside : Inside) (hidden : ℕ → Bool) where
  -- ---- the test

  -- The test's last block tells whether the body follows.
  abbrev pub Told : Bool → Store → Run → Type 0
  Told c s q = (w : Words) × Holds f hidden s w × ((k : ℕ) → q k ≡ goes (trees.taken c) w k)

  told : (hidden1 : ℕ → Bool) → Below f hidden1 hidden → (test : PureTree) → Suits f hidden test → (way : p.Way) (s : Store) (n : ℕ) (q : Run) → Arrives f in_test (λ b. last (ends_by_test test b)) hidden hidden1 way s q
      → Follow kept Told (valued (value f.arrays test s) (λ x t2 n2. goes (is_true x) t2 n2) s n) q
  told hidden1 le test suits p.on s n q a = by (value f.arrays test s) refl where
    by : (v : Valued ℤ) → value f.arrays test s ≡ v → Follow kept Told (valued v (λ x t2 n2. goes (is_true x) t2 n2) s n) q
    by (faulty rule at) e = follows_fails kept Told rule at q
    by (is x) e =
        let y = test_ends f operators short hidden a.0 a.1 a.2 s (opens_weaker f hidden1 hidden a.0 a.1 a.2 s le a.3) test x suits e in
        follows_goes kept Told (is_true x) s n q (y.0, y.1, λ k. a.4 k ∙ y.2 k)
  told hidden1 le test suits p.broke s n q a = absurd (false≢true a.0)
  told hidden1 le test suits p.continued s n q a = absurd (false≢true a.0)
  told hidden1 le test suits (p.left call) s n q a = absurd (false≢true a.0)

  pub tested_follows : (hidden1 : ℕ → Bool) → Below f hidden1 hidden → (test : PureTree) → Suits f hidden test → (before : Store → ℕ → Ran Store p.Way) (s : Store) (n : ℕ) (g : Run)
      → Follow kept (Arrives f in_test (λ b. last (ends_by_test test b)) hidden hidden1) (before s n) g → Follow kept Told (p.tested f before test s n) g
  tested_follows hidden1 le test suits before s n g h =
      follows_then kept (Arrives f in_test (λ b. last (ends_by_test test b)) hidden hidden1) Told (before s n).trace (before s n).outcome (λ w t1 n1. valued (value f.arrays test t1) (λ x t2 n2. goes (is_true x) t2 n2) t1 n1) g h (told hidden1 le test suits)

  -- ---- turns

  abbrev turn_next : trees.Way → Words → ℕ → Ran Words trees.Turn
  turn_next w t1 n1 = goes (trees.turn_of w) t1 n1

  -- jumps out of the body or the step lead out of the loop
  abbrev pub OutLeads : Inside → Type 0
  OutLeads inner = (call : CallId) → has_number inner.lands call.0 ≡ true → has_number inside.lands call.0 ≡ true

  turned_ends : (inner : Inside) → OutLeads inner → (way : p.Way) (s : Store) (n : ℕ) (q : Run) → Ends f inner hidden way s q → Follow kept (Turned f inside hidden) (goes (p.turn_of way) s n) (λ k. then_ (q k) turn_next)
  turned_ends inner leads p.on s n q a = follows_goes kept (Turned f inside hidden) p.again s n (λ k. then_ (q k) turn_next) (a.1.0, a.1.1, λ k. ap (λ x. then_ x turn_next) (a.1.2 k))
  turned_ends inner leads p.broke s n q a = follows_goes kept (Turned f inside hidden) p.over s n (λ k. then_ (q k) turn_next) (a.1.0, a.1.1, λ k. ap (λ x. then_ x turn_next) (a.1.2 k))
  turned_ends inner leads p.continued s n q a = follows_goes kept (Turned f inside hidden) p.again s n (λ k. then_ (q k) turn_next) (a.1.0, a.1.1, λ k. ap (λ x. then_ x turn_next) (a.1.2 k))
  turned_ends inner leads (p.left call) s n q a =
      follows_goes kept (Turned f inside hidden) (p.out (p.left call)) s n (λ k. then_ (q k) turn_next) (leads call a.0, (a.1.0, a.1.1, λ k. ap (λ x. then_ x turn_next) (a.1.2 k)))

  pub turned_follows : (inner : Inside) → OutLeads inner → (part : Store → ℕ → Ran Store p.Way) (blocks : Words → ℕ → Ran Words trees.Way) (s : Store) (w : Words) (n : ℕ) → Follow kept (Ends f inner hidden) (part s n) (blocks w)
      → Follow kept (Turned f inside hidden) (p.turned part s n) (λ k. trees.turned blocks w k)
  turned_follows inner leads part blocks s w n h =
      follows_both kept (Ends f inner hidden) (Turned f inside hidden) (part s n).trace (part s n).outcome (λ w1 t1 n1. goes (p.turn_of w1) t1 n1) (blocks w) turn_next h (turned_ends inner leads)

  -- another part where the iteration goes on
  pub again_follows : (part : Store → ℕ → Ran Store p.Turn) (blocks : Words → ℕ → Ran Words trees.Turn) → ((s : Store) (w : Words) (n : ℕ) → Holds f hidden s w → Follow kept (Turned f inside hidden) (part s n) (λ k. blocks w k))
      → (u : p.Turn) (s : Store) (n : ℕ) (q : Turning) → Turned f inside hidden u s q → Follow kept (Turned f inside hidden) (p.if_again u part s n) (λ k. then_ (q k) (λ v w1 k1. trees.if_again v blocks w1 k1))
  again_follows part blocks h p.again s n q a =
      follows_same kept (Turned f inside hidden) (part s n) (λ k. then_ (q k) (λ v w1 k1. trees.if_again v blocks w1 k1)) (λ k. blocks a.0 k) (λ k. ap (λ x. then_ x (λ v w1 k1. trees.if_again v blocks w1 k1)) (a.2 k)) (h s a.0 n a.1)
  again_follows part blocks h p.over s n q a =
      follows_goes kept (Turned f inside hidden) p.over s n (λ k. then_ (q k) (λ v w1 k1. trees.if_again v blocks w1 k1)) (a.0, a.1, λ k. ap (λ x. then_ x (λ v w1 k1. trees.if_again v blocks w1 k1)) (a.2 k))
  again_follows part blocks h (p.out p.on) s n q a = elim a [ ]
  again_follows part blocks h (p.out p.broke) s n q a = elim a [ ]
  again_follows part blocks h (p.out p.continued) s n q a = elim a [ ]
  again_follows part blocks h (p.out (p.left call)) s n q a =
      follows_goes kept (Turned f inside hidden) (p.out (p.left call)) s n (λ k. then_ (q k) (λ v w1 k1. trees.if_again v blocks w1 k1)) (a.0, (a.1.0, a.1.1, λ k. ap (λ x. then_ x (λ v w1 k1. trees.if_again v blocks w1 k1)) (a.1.2 k)))

  -- ---- the body and its step

  abbrev pub BodyRound : (Store → ℕ → Ran Store p.Way) → (Store → ℕ → Ran Store p.Way) → (Words → ℕ → Ran Words trees.Way) → (Words → ℕ → Ran Words trees.Way) → Type 0
  BodyRound body step blocks more = (s : Store) (w : Words) (n : ℕ) → Holds f hidden s w
      → Follow kept (Turned f inside hidden) (then_ (p.turned body s n) (λ u s1 n1. p.if_again u (λ s2 n2. p.turned step s2 n2) s1 n1)) (λ k. then_ (trees.turned blocks w k) (λ u w1 k1. trees.if_again u (λ w2 k2. trees.turned more w2 k2) w1 k1))

  -- each in blocks of its own
  pub apart_rounds : (inner outer : Inside) → OutLeads inner → OutLeads outer → (body step : Store → ℕ → Ran Store p.Way) (blocks more : Words → ℕ → Ran Words trees.Way)
      → ((s : Store) (w : Words) (n : ℕ) → Holds f hidden s w → Follow kept (Ends f inner hidden) (body s n) (blocks w)) → ((s : Store) (w : Words) (n : ℕ) → Holds f hidden s w → Follow kept (Ends f outer hidden) (step s n) (more w))
      → BodyRound body step blocks more
  apart_rounds inner outer l1 l2 body step blocks more h1 h2 s w n holds =
      let part = p.turned body s n in
      follows_both kept (Turned f inside hidden) (Turned f inside hidden) part.trace part.outcome (λ u s1 n1. p.if_again u (λ s2 n2. p.turned step s2 n2) s1 n1) (λ k. trees.turned blocks w k) (λ u w1 k1. trees.if_again u (λ w2 k2. trees.turned more w2 k2) w1 k1)
      (turned_follows inner l1 body blocks s w n (h1 s w n holds))
      (again_follows (λ s2 n2. p.turned step s2 n2) (λ w2 k2. trees.turned more w2 k2) (λ s1 w1 n1 x. turned_follows outer l2 step more s1 w1 n1 (h2 s1 w1 n1 x)))

  -- The blocks of the body are at the end of the step.
  abbrev pub TurnEnds : Inside → p.Turn → Store → Run → Type 0
  TurnEnds inner u s q = (way : p.Way) × (u ≡ p.turn_of way) × Ends f inner hidden way s q

  -- the step in the last block of the body: then there are no blocks for it
  both_ends : (inner : Inside) → OutLeads inner → (way : p.Way) (s : Store) (q : Run) → Ends f inner hidden way s q
      → Turned f inside hidden (p.turn_of way) s (λ k. then_ (then_ (q k) turn_next) (λ u w1 k1. trees.if_again u (λ w2 k2. trees.turned (λ w3 k3. goes trees.on w3 k3) w2 k2) w1 k1))
  both_ends inner leads p.on s q a = (a.1.0, a.1.1, λ k. ap (λ x. then_ (then_ x turn_next) (λ u w1 k1. trees.if_again u (λ w2 k2. trees.turned (λ w3 k3. goes trees.on w3 k3) w2 k2) w1 k1)) (a.1.2 k))
  both_ends inner leads p.broke s q a = (a.1.0, a.1.1, λ k. ap (λ x. then_ (then_ x turn_next) (λ u w1 k1. trees.if_again u (λ w2 k2. trees.turned (λ w3 k3. goes trees.on w3 k3) w2 k2) w1 k1)) (a.1.2 k))
  both_ends inner leads p.continued s q a = (a.1.0, a.1.1, λ k. ap (λ x. then_ (then_ x turn_next) (λ u w1 k1. trees.if_again u (λ w2 k2. trees.turned (λ w3 k3. goes trees.on w3 k3) w2 k2) w1 k1)) (a.1.2 k))
  both_ends inner leads (p.left call) s q a = (leads call a.0, (a.1.0, a.1.1, λ k. ap (λ x. then_ (then_ x turn_next) (λ u w1 k1. trees.if_again u (λ w2 k2. trees.turned (λ w3 k3. goes trees.on w3 k3) w2 k2) w1 k1)) (a.1.2 k)))

  pub joined_rounds : (inner : Inside) → OutLeads inner → (body step : Store → ℕ → Ran Store p.Way) (blocks : Words → ℕ → Ran Words trees.Way)
      → ((s : Store) (w : Words) (n : ℕ) → Holds f hidden s w → Follow kept (TurnEnds inner) (then_ (p.turned body s n) (λ u s1 n1. p.if_again u (λ s2 n2. p.turned step s2 n2) s1 n1)) (blocks w))
      → BodyRound body step blocks (λ w1 k1. goes trees.on w1 k1)
  joined_rounds inner leads body step blocks h s w n holds =
      let part = then_ (p.turned body s n) (λ u s1 n1. p.if_again u (λ s2 n2. p.turned step s2 n2) s1 n1) in
      let more = λ (u : trees.Turn) (w1 : Words) (k1 : ℕ). trees.if_again u (λ w2 k2. trees.turned (λ w3 k3. goes trees.on w3 k3) w2 k2) w1 k1 in
      let first : p.Turn → Store → Turning → Type 0 = λ u s1 q1. (q : Run) × TurnEnds inner u s1 q × (q1 ≡ (λ k. then_ (q k) turn_next)) in
      follows_next kept first (Turned f inside hidden) part.trace part.outcome (λ k. trees.turned blocks w k) more
      (follows_next kept (TurnEnds inner) first part.trace part.outcome (blocks w) turn_next (h s w n holds) (λ u s1 q a. (q, a, refl)))
      (λ u s1 q1 a. subst (λ z. Turned f inside hidden u s1 (λ k. then_ (z k) more)) (sym a.2)
      (subst (λ v. Turned f inside hidden v s1 (λ k. then_ (then_ (a.0 k) turn_next) more)) (sym a.1.1) (both_ends inner leads a.1.0 s1 a.0 a.1.2)))

  -- ---- the step in the last block of the body

  step_turns : (outer : Inside) (step : Store → ℕ → Ran Store p.Way) (s : Store) (n : ℕ) (q : Run) → Follow kept (Ends f outer hidden) (step s n) q → Follow kept (TurnEnds outer) (p.turned step s n) q
  step_turns outer step s n q h =
      follows_then kept (Ends f outer hidden) (TurnEnds outer) (step s n).trace (step s n).outcome (λ w t1 n1. goes (p.turn_of w) t1 n1) q h (λ way s1 n1 q1 a. follows_goes kept (TurnEnds outer) (p.turn_of way) s1 n1 q1 (way, refl, a))

  -- the body's way out, behind which no step comes
  out_turns : (inner outer : Inside) → OutWays inner outer → (rest : Rest) (out_is : (b : BlockTree) (call : CallId) → has_number inner.lands call.0 ≡ true → (w : Words) (k : ℕ) → parts_run (shapes f) (rest_of (rest b)) (trees.left (land_of call)) w k ≡ goes (trees.left (land_of call)) w k) (any : BlockTree) (outside hidden1 : ℕ → Bool) → Below f outside hidden
      → (step : Store → ℕ → Ran Store p.Way) → ((s1 : Store) (n1 : ℕ) (q : Run) → Arrives f inner rest outside hidden1 p.on s1 q → Follow kept (Ends f outer hidden) (step s1 n1) q)
      → (way : p.Way) (s : Store) (n : ℕ) (q : Run) → Arrives f inner rest outside hidden1 way s q → Follow kept (TurnEnds outer) (p.if_again (p.turn_of way) (λ s2 n2. p.turned step s2 n2) s n) q
  out_turns inner outer ways rest out_is any outside hidden1 le step h p.on s n q a = step_turns outer step s n q (h s n q a)
  out_turns inner outer ways rest out_is any outside hidden1 le step h p.broke s n q a =
      follows_goes kept (TurnEnds outer) p.over s n q (p.broke, refl, (ways.leaves, (a.1.0, holds_weaker f outside hidden s a.1.0 le a.1.1, λ k. a.1.2 any k ∙ broke_parts (shapes f) (rest_of (rest any)) a.1.0 k)))
  out_turns inner outer ways rest out_is any outside hidden1 le step h p.continued s n q a = absurd (false≢true (sym ways.never ∙ a.0))
  out_turns inner outer ways rest out_is any outside hidden1 le step h (p.left call) s n q a =
      follows_goes kept (TurnEnds outer) (p.out (p.left call)) s n q (p.left call, refl, (ways.lands call a.0, (a.1.0, holds_weaker f outside hidden s a.1.0 le a.1.1, λ k. a.1.2 any k ∙ out_is any call a.0 a.1.0 k)))

  pub step_joins : (inner outer : Inside) → OutWays inner outer → (rest : Rest) (out_is : (b : BlockTree) (call : CallId) → has_number inner.lands call.0 ≡ true → (w : Words) (k : ℕ) → parts_run (shapes f) (rest_of (rest b)) (trees.left (land_of call)) w k ≡ goes (trees.left (land_of call)) w k) (any : BlockTree) (outside hidden1 : ℕ → Bool) → Below f outside hidden
      → (body step : Store → ℕ → Ran Store p.Way) → ((s1 : Store) (n1 : ℕ) (q : Run) → Arrives f inner rest outside hidden1 p.on s1 q → Follow kept (Ends f outer hidden) (step s1 n1) q)
      → (s : Store) (n : ℕ) (g : Run) → Follow kept (Arrives f inner rest outside hidden1) (body s n) g
      → Follow kept (TurnEnds outer) (then_ (p.turned body s n) (λ u s1 n1. p.if_again u (λ s2 n2. p.turned step s2 n2) s1 n1)) g
  step_joins inner outer ways rest out_is any outside hidden1 le body step h s n g follow =
      subst (λ x. Follow kept (TurnEnds outer) x g) (sym (then_assoc (body s n) (λ w t1 n1. goes (p.turn_of w) t1 n1) (λ u s1 n1. p.if_again u (λ s2 n2. p.turned step s2 n2) s1 n1)))
      (follows_then kept (Arrives f inner rest outside hidden1) (TurnEnds outer) (body s n).trace (body s n).outcome (λ w t1 n1. then_ (goes (p.turn_of w) t1 n1) (λ u s1 n1. p.if_again u (λ s2 n2. p.turned step s2 n2) s1 n1)) g follow
      (out_turns inner outer ways rest out_is any outside hidden1 le step h))

  -- ---- iterations

  abbrev first_next : (Words → ℕ → Ran Words trees.Way) → (Words → ℕ → Ran Words trees.Way) → trees.Way → Words → ℕ → Ran Words trees.Turn
  first_next blocks more w t1 n1 = if trees.is_taken w then then_ (trees.turned blocks t1 n1) (λ u t2 n2. trees.if_again u (λ t3 n3. trees.turned more t3 n3) t2 n2) else goes trees.over t1 n1

  pub first_follows : (test : PureTree) (before body step : Store → ℕ → Ran Store p.Way) (tests blocks more : Words → ℕ → Ran Words trees.Way)
      → ((s : Store) (w : Words) (n : ℕ) → Holds f hidden s w → Follow kept Told (p.tested f before test s n) (tests w)) → BodyRound body step blocks more
      → (s : Store) (w : Words) (n : ℕ) → Holds f hidden s w → Follow kept (Turned f inside hidden) (p.test_first f before test body step s n) (λ k. trees.test_first tests blocks more w k)
  first_follows test before body step tests blocks more h1 h2 s w n holds =
      let part = p.tested f before test s n in
      follows_both kept Told (Turned f inside hidden) part.trace part.outcome (λ c t1 n1. if c then then_ (p.turned body t1 n1) (λ u t2 n2. p.if_again u (λ t3 n3. p.turned step t3 n3) t2 n2) else goes p.over t1 n1) (tests w) (first_next blocks more) (h1 s w n holds) chosen
    where
      chosen : (c : Bool) (s1 : Store) (n1 : ℕ) (q : Run) → Told c s1 q
          → Follow kept (Turned f inside hidden) (if c then then_ (p.turned body s1 n1) (λ u t2 n2. p.if_again u (λ t3 n3. p.turned step t3 n3) t2 n2) else goes p.over s1 n1) (λ k. then_ (q k) (first_next blocks more))
      chosen true s1 n1 q a =
          follows_same kept (Turned f inside hidden) (then_ (p.turned body s1 n1) (λ u t2 n2. p.if_again u (λ t3 n3. p.turned step t3 n3) t2 n2)) (λ k. then_ (q k) (first_next blocks more))
          (λ k. then_ (trees.turned blocks a.0 k) (λ u t2 n2. trees.if_again u (λ t3 n3. trees.turned more t3 n3) t2 n2)) (λ k. ap (λ x. then_ x (first_next blocks more)) (a.2 k)) (h2 s1 a.0 n1 a.1)
      chosen false s1 n1 q a =
          follows_goes kept (Turned f inside hidden) p.over s1 n1 (λ k. then_ (q k) (first_next blocks more)) (a.0, a.1, λ k. ap (λ x. then_ x (first_next blocks more)) (a.2 k))

  abbrev told_next : trees.Way → Words → ℕ → Ran Words trees.Turn
  told_next w t3 n3 = goes (if trees.is_taken w then trees.again else trees.over) t3 n3

  pub last_follows : (test : PureTree) (inner : Inside) → OutLeads inner → (before body : Store → ℕ → Ran Store p.Way) (tests blocks : Words → ℕ → Ran Words trees.Way)
      → ((s : Store) (w : Words) (n : ℕ) → Holds f hidden s w → Follow kept Told (p.tested f before test s n) (tests w)) → ((s : Store) (w : Words) (n : ℕ) → Holds f hidden s w → Follow kept (Ends f inner hidden) (body s n) (blocks w))
      → (s : Store) (w : Words) (n : ℕ) → Holds f hidden s w → Follow kept (Turned f inside hidden) (p.test_last f before test body s n) (λ k. trees.test_last tests blocks w k)
  last_follows test inner leads before body tests blocks h1 h2 s w n holds =
      let part = p.turned body s n in
      follows_both kept (Turned f inside hidden) (Turned f inside hidden) part.trace part.outcome (λ u t1 n1. p.if_again u (λ t2 n2. then_ (p.tested f before test t2 n2) (λ c t3 n3. goes (if c then p.again else p.over) t3 n3)) t1 n1)
      (λ k. trees.turned blocks w k) (λ u t1 n1. trees.if_again u (λ t2 n2. then_ (tests t2 n2) told_next) t1 n1)
      (turned_follows inner leads body blocks s w n (h2 s w n holds))
      (again_follows (λ t2 n2. then_ (p.tested f before test t2 n2) (λ c t3 n3. goes (if c then p.again else p.over) t3 n3)) (λ t2 n2. then_ (tests t2 n2) told_next) retested)
    where
      chosen : (c : Bool) (s1 : Store) (n1 : ℕ) (q : Run) → Told c s1 q → Follow kept (Turned f inside hidden) (goes (if c then p.again else p.over) s1 n1) (λ k. then_ (q k) told_next)
      chosen true s1 n1 q a = follows_goes kept (Turned f inside hidden) p.again s1 n1 (λ k. then_ (q k) told_next) (a.0, a.1, λ k. ap (λ x. then_ x told_next) (a.2 k))
      chosen false s1 n1 q a = follows_goes kept (Turned f inside hidden) p.over s1 n1 (λ k. then_ (q k) told_next) (a.0, a.1, λ k. ap (λ x. then_ x told_next) (a.2 k))

      retested : (s1 : Store) (w1 : Words) (n1 : ℕ) → Holds f hidden s1 w1 → Follow kept (Turned f inside hidden) (then_ (p.tested f before test s1 n1) (λ c t3 n3. goes (if c then p.again else p.over) t3 n3)) (λ k. then_ (tests w1 k) told_next)
      retested s1 w1 n1 x =
          let part = p.tested f before test s1 n1 in
          follows_both kept Told (Turned f inside hidden) part.trace part.outcome (λ c t3 n3. goes (if c then p.again else p.over) t3 n3) (tests w1) told_next (h1 s1 w1 n1 x) chosen

  -- ---- the whole loop

  module _ (rest : Rest) (is_rest : IsRest (shapes_of f) rest) (end : Point) (keeps : kept end ≡ true) (round : Store → ℕ → Ran Store p.Turn) (blocks : Words → ℕ → Ran Words trees.Turn)
      (one : (s : Store) (w : Words) (n : ℕ) → Holds f hidden s w → Follow kept (Turned f inside hidden) (round s n) (blocks w))
      (far : (s : Store) (n : ℕ) → Advances kept (round s n).trace (round s n).outcome) where
    abbrev known : p.Way → Store → Run → Type 0
    known = Arrives f inside rest hidden hidden

    abbrev way_next : trees.Turn → Words → ℕ → Ran Words trees.Way
    way_next u t1 n1 = goes (trees.way_behind u) t1 n1

    behind_loop : (u : p.Turn) (s : Store) (n : ℕ) (q : Turning) → Turned f inside hidden u s q → Follow kept known (p.behind_loop u end s n) (λ k. then_ (then_ (q k) way_next) (behind f (rest (begun end))))
    behind_loop p.again s n q a = follows_end f kept inside rest is_rest hidden hidden end keeps s a.0 n (λ k. then_ (then_ (q k) way_next) (behind f (rest (begun end)))) a.1
        (λ k. ap (λ x. then_ (then_ x way_next) (behind f (rest (begun end)))) (a.2 k) ∙ behind_on f (rest (begun end)) a.0 k)
    behind_loop p.over s n q a = follows_end f kept inside rest is_rest hidden hidden end keeps s a.0 n (λ k. then_ (then_ (q k) way_next) (behind f (rest (begun end)))) a.1
        (λ k. ap (λ x. then_ (then_ x way_next) (behind f (rest (begun end)))) (a.2 k) ∙ behind_on f (rest (begun end)) a.0 k)
    behind_loop (p.out p.on) s n q a = elim a [ ]
    behind_loop (p.out p.broke) s n q a = elim a [ ]
    behind_loop (p.out p.continued) s n q a = elim a [ ]
    behind_loop (p.out (p.left call)) s n q a = follows_left f kept inside rest is_rest hidden hidden end keeps call s a.1.0 n (λ k. then_ (then_ (q k) way_next) (behind f (rest (begun end)))) a.0 a.1.1
        (λ k. ap (λ x. then_ (then_ x way_next) (behind f (rest (begun end)))) (a.1.2 k))

    -- from the words behind the block before it
    rounds : (s : Store) (w : Words) (n : ℕ) → Holds f hidden s w → Follow kept known (then_ (p.repeat n round s n) (λ u t1 n1. p.behind_loop u end t1 n1)) (λ k. then_ (then_ (trees.repeat k blocks w k) way_next) (behind f (rest (begun end))))
    rounds s w n holds =
        let part = p.repeat n round s n in
        let all = follows_same kept (Turned f inside hidden) part (λ k. trees.repeat k blocks w k) (λ k. trees.repeat (k + 0) blocks w k) (λ k. ap (λ x. trees.repeat x blocks w k) (let e : k ≡ k + 0 = omega arith in e)) (rounds_follow f inside hidden kept round blocks one far n 0 s w n holds) in
        let first : p.Turn → Store → Run → Type 0 = λ u s1 q1. (q : Turning) × Turned f inside hidden u s1 q × (q1 ≡ (λ k. then_ (q k) way_next)) in
        follows_both kept first known part.trace part.outcome (λ u t1 n1. p.behind_loop u end t1 n1) (λ k. then_ (trees.repeat k blocks w k) way_next) (behind f (rest (begun end)))
        (follows_next kept (Turned f inside hidden) first part.trace part.outcome (λ k. trees.repeat k blocks w k) way_next all (λ u s1 q a. (q, a, refl)))
        (λ u s1 n1 q1 a. subst (λ z. Follow kept known (p.behind_loop u end s1 n1) (λ k. then_ (z k) (behind f (rest (begun end))))) (sym a.2) (behind_loop u s1 n1 a.0 a.1))

    -- Its blocks are these, in a loop.
    pub loop_follows : (shape : ShapeTree) → ((w : Words) (k : ℕ) → trees.shape_run (shapes f) shape trees.on w k ≡ then_ (trees.repeat k blocks w k) way_next)
        → ((parts : BlockTree) (more : PartTrees) (w : Words) (k : ℕ) → parts_run (shapes f) (more_parts shape parts more) trees.on w k ≡ then_ (trees.shape_run (shapes f) shape trees.on w k) (λ w1 t1 n1. trees.behind_shape (shapes f) parts (λ w2 t2 n2. parts_run (shapes f) more w2 t2 n2) w1 t1 n1))
        → (w : Words) (b : BlockTree) (r : Ranged) (s : Store) → Opens f hidden w b r s → (n : ℕ) → Follow kept known (then_ (p.repeat n round s n) (λ u t1 n1. p.behind_loop u end t1 n1)) (within (shapes f) (followed b shape (rest (begun end))) w)
    loop_follows shape e1 e2 w b r s h n =
        let q = rest (begun end) in
        let w1 = with_outs b.outs r in
        let part = then_ (p.repeat n round s n) (λ u t1 n1. p.behind_loop u end t1 n1) in
        follows_same kept known part (within (shapes f) (followed b shape q) w) (λ k. then_ (then_ (trees.repeat k blocks w1 k) way_next) (behind f q))
        (λ k. (within_followed f b shape q w k ∙ closes f hidden w b r s (more_parts shape (first_of q) (rest_of q)) h k ∙ e2 (first_of q) (rest_of q) w1 k ∙ ap (λ x. then_ x (behind f q)) (e1 w1 k)))
        (rounds s w1 n (closed_holds f hidden w b r s h.at h.single))
