-- The nodes of a tree do what the tree does, part by part.
use Rattle.std.proofs.Common.{◌≡◌, ◌∙◌, ◌+◌, ◌*◌, ◌≤◌, ◌<◌, ◌==◌, ℕ, zero, suc, Bool, true, false, refl, ap, sym, subst, arith, List, [], ◌∷◌, ◌++◌, length, map, get_or, Option, Some, None}
use Rattle.std.specs.Prelude.{if◌then◌else◌, slice_get}
use Rattle.std.proofs.lemmas.List.{length-map}
use Rattle.hls_base.specs.declared.point.Point.{Point}
use Rattle.ir_core.specs.declared.tree.LandId.{LandId}
use Rattle.hls_base.specs.Steps.{Ran, goes, waits, then_}
use Rattle.ir_core.specs.Bodies.{Shapes, Words}
use Rattle.ir_core.specs.Trees.{BlockTree, BodyTree, SequenceTree, sequence, PartTrees, no_part, more_parts, ShapeTree, fork, loop, switch, land, overlapped, SideTree, no_side, side, ArmTrees, no_arm, more_arms}
use Rattle.ir_core.specs.TreeRuns as runs
use Rattle.ir_core.specs.FlatRuns.{to, ends}
use Rattle.ir_core.specs.TreeRuns.{Way, on, taken, cased, broke, continued, left, Turn, way_behind, repeat, is_taken, behind_switch, next_arm, cases_of, arm_target, from_target, block_then, sequence_run, parts_run, shape_run, side_run, from_arm, test_first, test_last}
use Rattle.ir_layout.specs.Nodes.{NodeTree, looped}
use Rattle.ir_layout.specs.Sizes.{sequence_size, parts_size, side_size, arms_size}
use Rattle.ir_layout.specs.Layout as plan
use Rattle.ir_layout.specs.Layout.{Ahead, onto, tested, Around, laid, laid_parts, laid_shape, laid_side, laid_arms, laid_block, before_parts, ahead_of_parts, ahead_of, behind_shape, in_loop, in_switch, step_start, body_start, side_start, arm_start, other_start, land_place, place_or_first}
use Rattle.ir_layout.specs.WellFormed as fit
use Rattle.ir_layout.specs.WellFormed.{Inside, one_way, a_test, a_switch, has_number, in_test, in_body, in_step, in_arm, ExitFits, SequenceFits, PartsFit, ShapeFits, SideFits, ArmsFit}
use Rattle.ir_layout.proofs.Lengths.{length-laid, length-parts, length-shape, length-side}
use Rattle.flat_programs.proofs.Runs.{then_assoc}
use Rattle.flat_programs.proofs.Overlapping.{overlapped_same}
use Rattle.flat_programs.proofs.Ends.{word_of, led, WayFits, kind_of}
use Rattle.flat_programs.proofs.Places.{Has, has_parts}
use Rattle.flat_programs.proofs.Entering.{Behind, plain_from, onward, Leads, Does, needed, Follows, block_does, block_waits, loop_node}
use Rattle.flat_programs.proofs.Looping.{rounds_first, rounds_last}

-- ---- what stands ahead, by either definition

kind_of_shape : (place : ℕ) (shape : ShapeTree) → kind_of (ahead_of place shape) ≡ fit.ahead_of shape
kind_of_shape place (fork yes_ no_ convertible) = refl
kind_of_shape place (loop post test body step eligible) = refl
kind_of_shape place (switch dead targets other arms) = ap a_switch (length-map targets (arm_start (place + parts_size dead) arms))
kind_of_shape place (land number) = refl
kind_of_shape place (overlapped point body) = refl

kind_of_parts : (place : ℕ) (parts : PartTrees) (ahead : Ahead) (kind : fit.Ahead) → kind_of ahead ≡ kind → kind_of (ahead_of_parts place parts ahead) ≡ fit.ahead_of_parts parts kind
kind_of_parts place no_part ahead kind e = e
kind_of_parts place (more_parts shape after rest) ahead kind e = kind_of_shape place shape

-- ways that are no jumps
abbrev IsStraight : Way → Type 0
IsStraight broke = ⊥
IsStraight continued = ⊥
IsStraight (left number) = ⊥
IsStraight w = Unit {0}

-- such a way does not look at where jumps lead
led_straight : (a b : Around) (ahead : Ahead) (w : Way) (t : Words) → a.returned ≡ b.returned → IsStraight w → led a ahead w t ≡ led b ahead w t
led_straight a b plan.finish on t e h = ap (λ r. ends (word_of r t)) e
led_straight a b (onto node) on t e h = refl
led_straight a b (tested yes_ no_) on t e h = refl
led_straight a b (plan.by_case cases other) on t e h = refl
led_straight a b plan.finish (taken test) t e h = ap (λ r. ends (word_of r t)) e
led_straight a b (onto node) (taken test) t e h = refl
led_straight a b (tested yes_ no_) (taken test) t e h = refl
led_straight a b (plan.by_case cases other) (taken test) t e h = refl
led_straight a b plan.finish (cased i) t e h = ap (λ r. ends (word_of r t)) e
led_straight a b (onto node) (cased i) t e h = refl
led_straight a b (tested yes_ no_) (cased i) t e h = refl
led_straight a b (plan.by_case cases other) (cased i) t e h = refl
led_straight a b ahead broke t e h = elim h [ ]
led_straight a b ahead continued t e h = elim h [ ]
led_straight a b ahead (left number) t e h = elim h [ ]

fits_straight : (i j : Inside) (kind : fit.Ahead) (w : Way) → IsStraight w → WayFits i kind w → WayFits j kind w
fits_straight i j kind on h f = tt
fits_straight i j a_test (taken test) h f = tt
fits_straight i j one_way (taken test) h f = elim f [ ]
fits_straight i j (a_switch n) (taken test) h f = elim f [ ]
fits_straight i j (a_switch n) (cased x) h f = f
fits_straight i j one_way (cased x) h f = elim f [ ]
fits_straight i j a_test (cased x) h f = elim f [ ]
fits_straight i j kind broke h f = elim h [ ]
fits_straight i j kind continued h f = elim h [ ]
fits_straight i j kind (left number) h f = elim h [ ]

arm_start_zero : (place : ℕ) (arms : ArmTrees) → arm_start place arms zero ≡ place
arm_start_zero place no_arm = refl
arm_start_zero place (more_arms first rest) = refl

module _ (shapes : Shapes) (nodes : List NodeTree) where
  -- parts with the block before them
  abbrev SequenceDoes : Inside → Around → Ahead → ℕ → SequenceTree → Type 0
  SequenceDoes inside around ahead place s = Does shapes nodes 1 (WayFits inside (kind_of ahead)) (led around ahead) place (sequence_run shapes s)

  abbrev PartsFollow : Inside → Around → Ahead → ℕ → PartTrees → Type 0
  PartsFollow inside around ahead place parts =
      Follows shapes nodes (WayFits inside (kind_of ahead)) (led around ahead) (WayFits (fit.before_parts parts inside) (kind_of (ahead_of_parts place parts ahead))) (led (before_parts place parts around) (ahead_of_parts place parts ahead))
      (parts_run shapes parts)

  -- a shape, to which the block before leads
  abbrev ShapeDoes : Inside → Around → ℕ → ShapeTree → Type 0
  ShapeDoes inside around place shape =
      (m : ℕ) (behind : Behind) → Leads shapes nodes (WayFits inside one_way) (led around (onto (behind_shape place shape))) m behind → (w : Way) (k : ℕ) (t : Words) (n : ℕ) → n ≤ m → 2 * n + 2 ≤ k → IsStraight w
      → WayFits inside (kind_of (ahead_of place shape)) w → onward shapes nodes k (led around (ahead_of place shape) w t) t n ≡ then_ (shape_run shapes shape w t n) behind

  abbrev SideDoes : Inside → Around → ℕ → ℕ → SideTree → Type 0
  SideDoes inside around after place s = Does shapes nodes 0 (WayFits inside one_way) (led around (onto after)) (side_start place after s) (side_run shapes s)

  abbrev ArmsDo : Inside → Around → ℕ → ℕ → ArmTrees → Type 0
  ArmsDo inside around after place arms = (i : ℕ) → Does shapes nodes 0 (WayFits inside one_way) (led around (onto after)) (arm_start place arms i) (from_arm shapes arms i)

  -- ---- parts

  -- no shape ends in another way than the block behind it, or what it leaves to
  behind_part : (inside : Inside) (around : Around) (ahead : Ahead) (place : ℕ) (shape : ShapeTree) (after : BlockTree) (rest : PartTrees)
      → PartsFollow inside around ahead (behind_shape place shape + 1) rest
      → Does shapes nodes 1 (WayFits inside (kind_of ahead)) (led around ahead) (behind_shape place shape) (block_then shapes after (λ w t n. parts_run shapes rest w t n))
      → (m : ℕ) (behind : Behind) → Leads shapes nodes (WayFits inside (kind_of ahead)) (led around ahead) m behind
      → Leads shapes nodes (WayFits (fit.before_parts rest inside) one_way) (led (before_parts (behind_shape place shape + 1) rest around) (onto (behind_shape place shape))) m
      (λ w t n. then_ (runs.behind_shape shapes after (λ w2 t2 n2. parts_run shapes rest w2 t2 n2) w t n) behind)
  behind_part inside around ahead place shape after rest follows does m behind lead on t n k le enough fits = sym (does m behind lead k t n (omega (arith, le)) enough)
  behind_part inside around ahead place shape after rest follows does m behind lead (taken test) t n k le enough fits = elim fits [ ]
  behind_part inside around ahead place shape after rest follows does m behind lead (cased i) t n k le enough fits = elim fits [ ]
  behind_part inside around ahead place shape after rest follows does m behind lead broke t n k le enough fits = sym (follows m behind lead broke k t n le enough fits)
  behind_part inside around ahead place shape after rest follows does m behind lead continued t n k le enough fits = sym (follows m behind lead continued k t n le enough fits)
  behind_part inside around ahead place shape after rest follows does m behind lead (left number) t n k le enough fits = sym (follows m behind lead (left number) k t n le enough fits)

  -- control is left to a place in these parts, or to one further behind
  landing : (inside : Inside) (around : Around) (ahead : Ahead) (place : ℕ) (other number : LandId) (after : BlockTree) (rest : PartTrees)
      → PartsFollow inside around ahead (behind_shape place (land other) + 1) rest
      → Does shapes nodes 1 (WayFits inside (kind_of ahead)) (led around ahead) (behind_shape place (land other)) (block_then shapes after (λ w t n. parts_run shapes rest w t n))
      → (m : ℕ) (behind : Behind) → Leads shapes nodes (WayFits inside (kind_of ahead)) (led around ahead) m behind → (k : ℕ) (t : Words) (n : ℕ) → n ≤ m → 2 * n + 1 ≤ k → (y : Bool)
      → (if y then true else has_number (fit.lands_in rest inside.lands) number.0) ≡ true
      → onward shapes nodes k (to (place_or_first (if y then Some (behind_shape place (land other)) else land_place (plan.lands_in (behind_shape place (land other) + 1) rest around.lands) number.0))) t n
      ≡ then_ (if y then block_then shapes after (λ w t1 n1. parts_run shapes rest w t1 n1) t n else parts_run shapes rest (left number) t n) behind
  landing inside around ahead place other number after rest follows does m behind lead k t n le enough true fits = does m behind lead k t n (omega (arith, le)) enough
  landing inside around ahead place other number after rest follows does m behind lead k t n le enough false fits = follows m behind lead (left number) k t n le enough fits

  -- what a shape does, and then what the parts behind it do
  straight_on : (inside : Inside) (around : Around) (ahead : Ahead) (place : ℕ) (shape : ShapeTree) (after : BlockTree) (rest : PartTrees)
      → ShapeDoes (fit.before_parts rest inside) (before_parts (behind_shape place shape + 1) rest around) place shape
      → PartsFollow inside around ahead (behind_shape place shape + 1) rest
      → Does shapes nodes 1 (WayFits inside (kind_of ahead)) (led around ahead) (behind_shape place shape) (block_then shapes after (λ w t n. parts_run shapes rest w t n))
      → (m : ℕ) (behind : Behind) → Leads shapes nodes (WayFits inside (kind_of ahead)) (led around ahead) m behind → (w : Way) (k : ℕ) (t : Words) (n : ℕ) → n ≤ m → 2 * n + 2 ≤ k → IsStraight w
      → WayFits (fit.before_parts rest inside) (kind_of (ahead_of place shape)) w
      → onward shapes nodes k (led (before_parts (behind_shape place shape + 1) rest around) (ahead_of place shape) w t) t n
      ≡ then_ (then_ (shape_run shapes shape w t n) (λ w1 t1 n1. runs.behind_shape shapes after (λ w2 t2 n2. parts_run shapes rest w2 t2 n2) w1 t1 n1)) behind
  straight_on inside around ahead place shape after rest shape_does follows does m behind lead w k t n le enough straight fits =
      shape_does m (λ w1 t1 n1. then_ (runs.behind_shape shapes after (λ w2 t2 n2. parts_run shapes rest w2 t2 n2) w1 t1 n1) behind) (behind_part inside around ahead place shape after rest follows does m behind lead) w k t n le enough straight fits
      ∙ sym (then_assoc (shape_run shapes shape w t n) (λ w1 t1 n1. runs.behind_shape shapes after (λ w2 t2 n2. parts_run shapes rest w2 t2 n2) w1 t1 n1) behind)

  -- ---- forks

  chosen_side : (y : Bool) (p q : ℕ) (k : ℕ) (t : Words) (n : ℕ) (left_ right_ : Ran Words Way) (behind : Behind) → plain_from k shapes nodes p t n ≡ then_ left_ behind → plain_from k shapes nodes q t n ≡ then_ right_ behind
      → plain_from k shapes nodes (if y then p else q) t n ≡ then_ (if y then left_ else right_) behind
  chosen_side true p q k t n left_ right_ behind h1 h2 = h1
  chosen_side false p q k t n left_ right_ behind h1 h2 = h2

  fork_does : (inside : Inside) (around : Around) (place : ℕ) (yes_ no_ : SideTree) (convertible : Bool)
      → SideDoes inside around (place + (side_size yes_ + side_size no_)) place yes_ → SideDoes inside around (place + (side_size yes_ + side_size no_)) (place + side_size yes_) no_ → ShapeDoes inside around place (fork yes_ no_ convertible)
  fork_does inside around place yes_ no_ convertible h1 h2 m behind lead on k t n le enough straight fits = h2 m behind lead k t n (omega (arith, le)) (omega (arith, enough))
  fork_does inside around place yes_ no_ convertible h1 h2 m behind lead (taken test) k t n le enough straight fits =
      chosen_side test (side_start place (place + (side_size yes_ + side_size no_)) yes_) (side_start (place + side_size yes_) (place + (side_size yes_ + side_size no_)) no_) k t n (side_run shapes yes_ t n) (side_run shapes no_ t n) behind
      (h1 m behind lead k t n (omega (arith, le)) (omega (arith, enough))) (h2 m behind lead k t n (omega (arith, le)) (omega (arith, enough)))
  fork_does inside around place yes_ no_ convertible h1 h2 m behind lead (cased i) k t n le enough straight fits = elim fits [ ]
  fork_does inside around place yes_ no_ convertible h1 h2 m behind lead broke k t n le enough straight fits = elim straight [ ]
  fork_does inside around place yes_ no_ convertible h1 h2 m behind lead continued k t n le enough straight fits = elim straight [ ]
  fork_does inside around place yes_ no_ convertible h1 h2 m behind lead (left number) k t n le enough straight fits = elim straight [ ]

  no_side_does : (inside : Inside) (around : Around) (after place : ℕ) → SideDoes inside around after place no_side
  no_side_does inside around after place m behind lead k t n le enough = sym (lead on t n k (omega (arith, le)) enough tt)

  side_does : (inside : Inside) (around : Around) (after place : ℕ) (s : SequenceTree) → SequenceDoes inside around (onto after) place s → SideDoes inside around after place (side s)
  side_does inside around after place s h m behind lead k t n le enough = h m behind lead k t n (omega (arith, le)) enough

  -- ---- overlapped loops

  overlapped_does : (inside : Inside) (around : Around) (place : ℕ) (p : Point) (b : BodyTree) → slice_get nodes place ≡ Some (looped p b (place + 1)) → ShapeDoes inside around place (overlapped p b)
  overlapped_does inside around place p b at m behind lead w zero t n le enough straight fits = absurd (omega (arith, enough))
  overlapped_does inside around place p b at m behind lead on (suc k) t n le enough straight fits =
      loop_node shapes nodes k place p b (place + 1) t n at
      ∙ overlapped_same shapes p b t n (λ w t1 n1. plain_from k shapes nodes (place + 1) t1 n1) behind (λ t1 n1 le1. sym (lead on t1 n1 k (omega (arith, le, le1)) (omega (arith, enough, le1)) tt))
  overlapped_does inside around place p b at m behind lead (taken test) (suc k) t n le enough straight fits = elim fits [ ]
  overlapped_does inside around place p b at m behind lead (cased i) (suc k) t n le enough straight fits = elim fits [ ]
  overlapped_does inside around place p b at m behind lead broke (suc k) t n le enough straight fits = elim straight [ ]
  overlapped_does inside around place p b at m behind lead continued (suc k) t n le enough straight fits = elim straight [ ]
  overlapped_does inside around place p b at m behind lead (left number) (suc k) t n le enough straight fits = elim straight [ ]

  -- ---- places that are left to

  land_does : (inside : Inside) (around : Around) (place : ℕ) (number : LandId) → ShapeDoes inside around place (land number)
  land_does inside around place number m behind lead on k t n le enough straight fits =
      ap (λ i. plain_from k shapes nodes i t n) (let e : place ≡ place + 0 = omega arith in e) ∙ sym (lead on t n k le (omega (arith, enough)) tt)
  land_does inside around place number m behind lead (taken test) k t n le enough straight fits = elim fits [ ]
  land_does inside around place number m behind lead (cased i) k t n le enough straight fits = elim fits [ ]
  land_does inside around place number m behind lead broke k t n le enough straight fits = elim straight [ ]
  land_does inside around place number m behind lead continued k t n le enough straight fits = elim straight [ ]
  land_does inside around place number m behind lead (left other) k t n le enough straight fits = elim straight [ ]

  -- ---- switches

  arm_behind : (inside : Inside) (around : Around) (after : ℕ) (m : ℕ) (behind : Behind) → Leads shapes nodes (WayFits inside one_way) (led around (onto after)) m behind
      → Leads shapes nodes (WayFits (in_arm inside) one_way) (led (in_switch after around) (onto after)) m (λ w t n. behind (behind_switch w) t n)
  arm_behind inside around after m behind lead on t n k le enough fits = lead on t n k le enough fits
  arm_behind inside around after m behind lead (taken test) t n k le enough fits = elim fits [ ]
  arm_behind inside around after m behind lead (cased i) t n k le enough fits = elim fits [ ]
  arm_behind inside around after m behind lead broke t n k le enough fits = lead on t n k le enough tt
  arm_behind inside around after m behind lead continued t n k le enough fits = lead continued t n k le enough fits
  arm_behind inside around after m behind lead (left number) t n k le enough fits = lead (left number) t n k le enough fits

  next_leads : (inside : Inside) (around : Around) (after place : ℕ) (rest : ArmTrees) → ArmsDo inside around after place rest → (m : ℕ) (behind : Behind) → Leads shapes nodes (WayFits inside one_way) (led around (onto after)) m behind
      → Leads shapes nodes (WayFits inside one_way) (led around (onto place)) m (λ w t n. then_ (next_arm (λ t1 n1. from_arm shapes rest zero t1 n1) w t n) behind)
  next_leads inside around after place rest does m behind lead on t n k le enough fits =
      sym (ap (λ i. plain_from k shapes nodes i t n) (sym (arm_start_zero place rest)) ∙ does zero m behind lead k t n (omega (arith, le)) enough)
  next_leads inside around after place rest does m behind lead (taken test) t n k le enough fits = elim fits [ ]
  next_leads inside around after place rest does m behind lead (cased i) t n k le enough fits = elim fits [ ]
  next_leads inside around after place rest does m behind lead broke t n k le enough fits = lead broke t n k le enough fits
  next_leads inside around after place rest does m behind lead continued t n k le enough fits = lead continued t n k le enough fits
  next_leads inside around after place rest does m behind lead (left number) t n k le enough fits = lead (left number) t n k le enough fits

  no_arm_does : (inside : Inside) (around : Around) (after place : ℕ) → after ≡ place → ArmsDo inside around after place no_arm
  no_arm_does inside around after place e i m behind lead k t n le enough = ap (λ p. plain_from k shapes nodes p t n) (sym e) ∙ sym (lead on t n k (omega (arith, le)) enough tt)

  first_arm_does : (inside : Inside) (around : Around) (after place : ℕ) (first : SequenceTree) (rest : ArmTrees) → SequenceDoes inside around (onto (place + sequence_size first)) place first → ArmsDo inside around after (place + sequence_size first) rest
      → Does shapes nodes 0 (WayFits inside one_way) (led around (onto after)) place (from_arm shapes (more_arms first rest) zero)
  first_arm_does inside around after place first rest h does m behind lead k t n le enough =
      h m (λ w t1 n1. then_ (next_arm (λ t2 n2. from_arm shapes rest zero t2 n2) w t1 n1) behind) (next_leads inside around after (place + sequence_size first) rest does m behind lead) k t n (omega (arith, le)) enough
      ∙ sym (then_assoc (sequence_run shapes first t n) (λ w t1 n1. next_arm (λ t2 n2. from_arm shapes rest zero t2 n2) w t1 n1) behind)

  by_number : (inside : Inside) (around : Around) (after place : ℕ) (first : SequenceTree) (rest : ArmTrees) → Does shapes nodes 0 (WayFits inside one_way) (led around (onto after)) place (from_arm shapes (more_arms first rest) zero)
      → ArmsDo inside around after (place + sequence_size first) rest → ArmsDo inside around after place (more_arms first rest)
  by_number inside around after place first rest h does zero = h
  by_number inside around after place first rest h does (suc i) = does i

  -- an arm, or what stands behind the switch
  target_does : (inside : Inside) (around : Around) (after place : ℕ) (arms : ArmTrees) → ArmsDo inside around after place arms → (m : ℕ) (behind : Behind) → Leads shapes nodes (WayFits inside one_way) (led around (onto after)) m behind
      → (o : Option ℕ) (k : ℕ) (t : Words) (n : ℕ) → n ≤ m → 2 * n + 1 ≤ k
      → plain_from k shapes nodes (other_start place after arms o) t n ≡ then_ (from_target o (λ i t1 n1. from_arm shapes arms i t1 n1) t n) behind
  target_does inside around after place arms does m behind lead None k t n le enough = sym (lead on t n k le enough tt)
  target_does inside around after place arms does m behind lead (Some i) k t n le enough = does i m behind lead k t n (omega (arith, le)) enough

  case_does : (inside : Inside) (around : Around) (after place : ℕ) (arms : ArmTrees) → ArmsDo inside around after place arms → (m : ℕ) (behind : Behind) → Leads shapes nodes (WayFits inside one_way) (led around (onto after)) m behind
      → (targets : List ℕ) (i other : ℕ) → i < length (map (arm_start place arms) targets) → (k : ℕ) (t : Words) (n : ℕ) → n ≤ m → 2 * n + 1 ≤ k
      → plain_from k shapes nodes (get_or (map (arm_start place arms) targets) i other) t n ≡ then_ (from_target (slice_get targets i) (λ j t1 n1. from_arm shapes arms j t1 n1) t n) behind
  case_does inside around after place arms does m behind lead [] i other below k t n le enough = absurd (omega (arith, below))
  case_does inside around after place arms does m behind lead (x ∷ xs) zero other below k t n le enough = does x m behind lead k t n (omega (arith, le)) enough
  case_does inside around after place arms does m behind lead (x ∷ xs) (suc i) other below k t n le enough =
      case_does inside around after place arms does m behind lead xs i other (omega (arith, below)) k t n le enough

  switch_does : (inside : Inside) (around : Around) (place : ℕ) (dead : PartTrees) (targets : List ℕ) (other : Option ℕ) (arms : ArmTrees)
      → ArmsDo (in_arm inside) (in_switch (place + (parts_size dead + arms_size arms)) around) (place + (parts_size dead + arms_size arms)) (place + parts_size dead) arms → ShapeDoes inside around place (switch dead targets other arms)
  switch_does inside around place dead targets other arms does m behind lead on k t n le enough straight fits =
      let after = place + (parts_size dead + arms_size arms) in
      target_does (in_arm inside) (in_switch after around) after (place + parts_size dead) arms does m (λ w t1 n1. behind (behind_switch w) t1 n1) (arm_behind inside around after m behind lead) other k t n le (omega (arith, enough))
      ∙ sym (then_assoc (from_target other (λ i t1 n1. from_arm shapes arms i t1 n1) t n) (λ w t1 n1. goes (behind_switch w) t1 n1) behind)
  switch_does inside around place dead targets other arms does m behind lead (cased None) k t n le enough straight fits =
      let after = place + (parts_size dead + arms_size arms) in
      target_does (in_arm inside) (in_switch after around) after (place + parts_size dead) arms does m (λ w t1 n1. behind (behind_switch w) t1 n1) (arm_behind inside around after m behind lead) other k t n le (omega (arith, enough))
      ∙ sym (then_assoc (from_target other (λ i t1 n1. from_arm shapes arms i t1 n1) t n) (λ w t1 n1. goes (behind_switch w) t1 n1) behind)
  switch_does inside around place dead targets other arms does m behind lead (cased (Some i)) k t n le enough straight fits =
      let after = place + (parts_size dead + arms_size arms) in
      case_does (in_arm inside) (in_switch after around) after (place + parts_size dead) arms does m (λ w t1 n1. behind (behind_switch w) t1 n1) (arm_behind inside around after m behind lead) targets i
      (other_start (place + parts_size dead) after arms other) fits k t n le (omega (arith, enough))
      ∙ sym (then_assoc (from_target (slice_get targets i) (λ j t1 n1. from_arm shapes arms j t1 n1) t n) (λ w t1 n1. goes (behind_switch w) t1 n1) behind)
  switch_does inside around place dead targets other arms does m behind lead (taken test) k t n le enough straight fits = elim fits [ ]
  switch_does inside around place dead targets other arms does m behind lead broke k t n le enough straight fits = elim straight [ ]
  switch_does inside around place dead targets other arms does m behind lead continued k t n le enough straight fits = elim straight [ ]
  switch_does inside around place dead targets other arms does m behind lead (left number) k t n le enough straight fits = elim straight [ ]

  -- ---- loops

  sequence_waits : (around : Around) (ahead : Ahead) (place : ℕ) (s : SequenceTree) → Has nodes place (laid around ahead place s) → (k : ℕ) (t : Words) → 1 ≤ k → plain_from k shapes nodes place t 0 ≡ waits
  sequence_waits around ahead place (sequence first rest) has = block_waits shapes nodes place (plan.before_parts (place + 1) rest around) (ahead_of_parts (place + 1) rest ahead) first has.0

  module _ (inside : Inside) (around : Around) (place : ℕ) (test body : SequenceTree) where
    abbrev After : SideTree → ℕ
    After step = place + (sequence_size test + (sequence_size body + side_size step))

    abbrev Inner : SideTree → Around
    Inner step = in_loop (After step) (step_start place test body step) around

    first_does : (step : SideTree) (eligible : Bool) → SequenceDoes in_test (Inner step) (tested (body_start place test) (After step)) place test → SequenceDoes (in_body inside) (Inner step) (onto (step_start place test body step)) (body_start place test) body
        → SideDoes (in_step inside) (Inner step) place (body_start place test + sequence_size body) step → ((k : ℕ) (t : Words) → 1 ≤ k → plain_from k shapes nodes place t 0 ≡ waits)
        → ShapeDoes inside around place (loop false test body step eligible)
    first_does step eligible h1 h2 h3 waiting m behind lead on k t n le enough straight fits =
        rounds_first shapes nodes inside around (After step) place (body_start place test) (step_start place test body step) (sequence_run shapes test) (sequence_run shapes body) (side_run shapes step) h1 h2 m behind lead h3 waiting n k t n (omega arith) le (omega (arith, enough))
        ∙ sym (then_assoc (repeat n (test_first (sequence_run shapes test) (sequence_run shapes body) (side_run shapes step)) t n) (λ u t1 n1. goes (way_behind u) t1 n1) behind)
    first_does step eligible h1 h2 h3 waiting m behind lead (taken y) k t n le enough straight fits = elim fits [ ]
    first_does step eligible h1 h2 h3 waiting m behind lead (cased i) k t n le enough straight fits = elim fits [ ]
    first_does step eligible h1 h2 h3 waiting m behind lead broke k t n le enough straight fits = elim straight [ ]
    first_does step eligible h1 h2 h3 waiting m behind lead continued k t n le enough straight fits = elim straight [ ]
    first_does step eligible h1 h2 h3 waiting m behind lead (left number) k t n le enough straight fits = elim straight [ ]

    last_does : (eligible : Bool) → SequenceDoes in_test (Inner no_side) (tested (body_start place test) (After no_side)) place test → SequenceDoes (in_body inside) (Inner no_side) (onto place) (body_start place test) body
        → ((k : ℕ) (t : Words) → 1 ≤ k → plain_from k shapes nodes (body_start place test) t 0 ≡ waits) → ShapeDoes inside around place (loop true test body no_side eligible)
    last_does eligible h1 h2 waiting m behind lead on k t n le enough straight fits =
        rounds_last shapes nodes inside around (After no_side) place (body_start place test) place (sequence_run shapes test) (sequence_run shapes body) (side_run shapes no_side) h1 h2 m behind lead refl waiting n k t n (omega arith) le (omega (arith, enough))
        ∙ sym (then_assoc (repeat n (test_last (sequence_run shapes test) (sequence_run shapes body)) t n) (λ u t1 n1. goes (way_behind u) t1 n1) behind)
    last_does eligible h1 h2 waiting m behind lead (taken y) k t n le enough straight fits = elim fits [ ]
    last_does eligible h1 h2 waiting m behind lead (cased i) k t n le enough straight fits = elim fits [ ]
    last_does eligible h1 h2 waiting m behind lead broke k t n le enough straight fits = elim straight [ ]
    last_does eligible h1 h2 waiting m behind lead continued k t n le enough straight fits = elim straight [ ]
    last_does eligible h1 h2 waiting m behind lead (left number) k t n le enough straight fits = elim straight [ ]

  -- ---- trees

  enough_for : (w : Way) (n k : ℕ) → needed shapes nodes w n ≤ k → 2 * n + 1 ≤ k
  enough_for on n k h = omega (arith, h)
  enough_for (taken test) n k h = omega (arith, h)
  enough_for (cased i) n k h = omega (arith, h)
  enough_for broke n k h = h
  enough_for continued n k h = h
  enough_for (left number) n k h = h

  no_part_follows : (inside : Inside) (around : Around) (ahead : Ahead) (place : ℕ) → PartsFollow inside around ahead place no_part
  no_part_follows inside around ahead place m behind lead w k t n le enough fits = sym (lead w t n k le (enough_for w n k enough) fits)

  more_follow : (inside : Inside) (around : Around) (ahead : Ahead) (place : ℕ) (shape : ShapeTree) (after : BlockTree) (rest : PartTrees)
      → ShapeDoes (fit.before_parts rest inside) (before_parts (behind_shape place shape + 1) rest around) place shape
      → PartsFollow inside around ahead (behind_shape place shape + 1) rest
      → Does shapes nodes 1 (WayFits inside (kind_of ahead)) (led around ahead) (behind_shape place shape) (block_then shapes after (λ w t n. parts_run shapes rest w t n))
      → PartsFollow inside around ahead place (more_parts shape after rest)
  more_follow inside around ahead place shape after rest shape_does follows does m behind lead broke k t n le enough fits = sym (lead broke t n k le enough fits)
  more_follow inside around ahead place shape after rest shape_does follows does m behind lead continued k t n le enough fits = sym (lead continued t n k le enough fits)
  more_follow inside around ahead place (land other) after rest shape_does follows does m behind lead (left number) k t n le enough fits =
      landing inside around ahead place other number after rest follows does m behind lead k t n le enough (number.0 == other.0) fits
  more_follow inside around ahead place (fork yes_ no_ convertible) after rest shape_does follows does m behind lead (left number) k t n le enough fits = follows m behind lead (left number) k t n le enough fits
  more_follow inside around ahead place (loop post test body step eligible) after rest shape_does follows does m behind lead (left number) k t n le enough fits = follows m behind lead (left number) k t n le enough fits
  more_follow inside around ahead place (switch dead targets other arms) after rest shape_does follows does m behind lead (left number) k t n le enough fits = follows m behind lead (left number) k t n le enough fits
  more_follow inside around ahead place (overlapped p b) after rest shape_does follows does m behind lead (left number) k t n le enough fits = follows m behind lead (left number) k t n le enough fits
  more_follow inside around ahead place shape after rest shape_does follows does m behind lead on k t n le enough fits =
      ap (λ g. onward shapes nodes k g t n) (led_straight (before_parts place (more_parts shape after rest) around) (before_parts (behind_shape place shape + 1) rest around) (ahead_of place shape) on t refl tt)
      ∙ straight_on inside around ahead place shape after rest shape_does follows does m behind lead on k t n le enough tt tt
  more_follow inside around ahead place shape after rest shape_does follows does m behind lead (taken test) k t n le enough fits =
      ap (λ g. onward shapes nodes k g t n) (led_straight (before_parts place (more_parts shape after rest) around) (before_parts (behind_shape place shape + 1) rest around) (ahead_of place shape) (taken test) t refl tt)
      ∙ straight_on inside around ahead place shape after rest shape_does follows does m behind lead (taken test) k t n le enough tt
      (fits_straight (fit.before_parts (more_parts shape after rest) inside) (fit.before_parts rest inside) (kind_of (ahead_of place shape)) (taken test) tt fits)
  more_follow inside around ahead place shape after rest shape_does follows does m behind lead (cased i) k t n le enough fits =
      ap (λ g. onward shapes nodes k g t n) (led_straight (before_parts place (more_parts shape after rest) around) (before_parts (behind_shape place shape + 1) rest around) (ahead_of place shape) (cased i) t refl tt)
      ∙ straight_on inside around ahead place shape after rest shape_does follows does m behind lead (cased i) k t n le enough tt
      (fits_straight (fit.before_parts (more_parts shape after rest) inside) (fit.before_parts rest inside) (kind_of (ahead_of place shape)) (cased i) tt fits)

  -- a block before parts
  before_does : (inside : Inside) (around : Around) (ahead : Ahead) (b : BlockTree) (place : ℕ) (rest : PartTrees)
      → slice_get nodes place ≡ Some (laid_block (before_parts (place + 1) rest around) (ahead_of_parts (place + 1) rest ahead) b)
      → ExitFits (fit.before_parts rest inside) (fit.ahead_of_parts rest (kind_of ahead)) b.exit → PartsFollow inside around ahead (place + 1) rest
      → Does shapes nodes 1 (WayFits inside (kind_of ahead)) (led around ahead) place (block_then shapes b (λ w t n. parts_run shapes rest w t n))
  before_does inside around ahead b place rest at fits follows =
      block_does shapes nodes (fit.before_parts rest inside) (before_parts (place + 1) rest around) (ahead_of_parts (place + 1) rest ahead) b place (WayFits inside (kind_of ahead)) (led around ahead) (λ w t n. parts_run shapes rest w t n) at
      (subst (λ kind. ExitFits (fit.before_parts rest inside) kind b.exit) (sym (kind_of_parts (place + 1) rest ahead (kind_of ahead) refl)) fits) follows

  mutual
    pub sequence_does : (inside : Inside) (around : Around) (ahead : Ahead) (place : ℕ) (s : SequenceTree) → SequenceFits inside (kind_of ahead) s → Has nodes place (laid around ahead place s) → SequenceDoes inside around ahead place s
    sequence_does inside around ahead place (sequence first rest) fits has = before_does inside around ahead first place rest has.0 fits.0 (parts_follow inside around ahead (place + 1) rest fits.1 has.1)

    parts_follow : (inside : Inside) (around : Around) (ahead : Ahead) (place : ℕ) (parts : PartTrees) → PartsFit inside (kind_of ahead) parts → Has nodes place (laid_parts around ahead place parts) → PartsFollow inside around ahead place parts
    parts_follow inside around ahead place no_part fits has = no_part_follows inside around ahead place
    parts_follow inside around ahead place (more_parts shape after rest) fits has =
        let q = behind_shape place shape + 1 in
        let own = laid_shape (before_parts q rest around) place shape in
        let more = laid_block (before_parts q rest around) (ahead_of_parts q rest ahead) after ∷ laid_parts around ahead q rest in
        let h = has_parts nodes own place (behind_shape place shape) more (omega (arith, length-shape (before_parts q rest around) place shape)) has in
        let follows = parts_follow inside around ahead q rest fits.2 h.1.1 in
        more_follow inside around ahead place shape after rest (shape_does (fit.before_parts rest inside) (before_parts q rest around) place shape fits.0 h.0) follows (before_does inside around ahead after (behind_shape place shape) rest h.1.0 fits.1 follows)

    shape_does : (inside : Inside) (around : Around) (place : ℕ) (shape : ShapeTree) → ShapeFits inside shape → Has nodes place (laid_shape around place shape) → ShapeDoes inside around place shape
    shape_does inside around place (fork yes_ no_ convertible) fits has =
        let after = place + (side_size yes_ + side_size no_) in
        let h = has_parts nodes (laid_side around after place yes_) place (place + side_size yes_) (laid_side around after (place + side_size yes_) no_) (omega (arith, length-side around after place yes_)) has in
        fork_does inside around place yes_ no_ convertible (side_does_ inside around after place yes_ fits.0 h.0) (side_does_ inside around after (place + side_size yes_) no_ fits.1 h.1)
    shape_does inside around place (loop false test body step eligible) fits has =
        let after = After inside around place test body step in
        let inner = Inner inside around place test body step in
        let again_ = step_start place test body step in
        let first = laid inner (tested (body_start place test) after) place test in
        let second = laid inner (onto again_) (body_start place test) body in
        let third = laid_side inner place (body_start place test + sequence_size body) step in
        let h = has_parts nodes first place (body_start place test) (second ++ third) (omega (arith, length-laid inner (tested (body_start place test) after) place test)) has in
        let h2 = has_parts nodes second (body_start place test) (body_start place test + sequence_size body) third (omega (arith, length-laid inner (onto again_) (body_start place test) body)) h.1 in
        first_does inside around place test body step eligible (sequence_does in_test inner (tested (body_start place test) after) place test fits.0 h.0) (sequence_does (in_body inside) inner (onto again_) (body_start place test) body fits.1 h2.0)
        (side_does_ (in_step inside) inner place (body_start place test + sequence_size body) step fits.2 h2.1) (sequence_waits inner (tested (body_start place test) after) place test h.0)
    shape_does inside around place (loop true test body no_side eligible) fits has =
        let after = After inside around place test body no_side in
        let inner = Inner inside around place test body no_side in
        let first = laid inner (tested (body_start place test) after) place test in
        let second = laid inner (onto place) (body_start place test) body in
        let h = has_parts nodes first place (body_start place test) (second ++ []) (omega (arith, length-laid inner (tested (body_start place test) after) place test)) has in
        let h2 = has_parts nodes second (body_start place test) (body_start place test + sequence_size body) [] (omega (arith, length-laid inner (onto place) (body_start place test) body)) h.1 in
        last_does inside around place test body eligible (sequence_does in_test inner (tested (body_start place test) after) place test fits.0 h.0) (sequence_does (in_body inside) inner (onto place) (body_start place test) body fits.1 h2.0)
        (sequence_waits inner (onto place) (body_start place test) body h2.0)
    shape_does inside around place (loop true test body (side blocks) eligible) fits has = elim fits.3 [ ]
    shape_does inside around place (switch dead targets other arms) fits has =
        let after = place + (parts_size dead + arms_size arms) in
        let inner = in_switch after around in
        let h = has_parts nodes (laid_parts inner (onto (place + parts_size dead)) place dead) place (place + parts_size dead) (laid_arms inner (place + parts_size dead) arms) (omega (arith, length-parts inner (onto (place + parts_size dead)) place dead)) has in
        switch_does inside around place dead targets other arms (arms_do (in_arm inside) inner after (place + parts_size dead) arms (omega arith) fits h.1)
    shape_does inside around place (land number) fits has = land_does inside around place number
    shape_does inside around place (overlapped p b) fits has = overlapped_does inside around place p b has.0

    side_does_ : (inside : Inside) (around : Around) (after place : ℕ) (s : SideTree) → SideFits inside s → Has nodes place (laid_side around after place s) → SideDoes inside around after place s
    side_does_ inside around after place no_side fits has = no_side_does inside around after place
    side_does_ inside around after place (side blocks) fits has = side_does inside around after place blocks (sequence_does inside around (onto after) place blocks fits has)

    arms_do : (inside : Inside) (around : Around) (after place : ℕ) (arms : ArmTrees) → after ≡ place + arms_size arms → ArmsFit inside arms → Has nodes place (laid_arms around place arms) → ArmsDo inside around after place arms
    arms_do inside around after place no_arm e fits has = no_arm_does inside around after place (omega (arith, e))
    arms_do inside around after place (more_arms first rest) e fits has =
        let next = place + sequence_size first in
        let h = has_parts nodes (laid around (onto next) place first) place next (laid_arms around next rest) (omega (arith, length-laid around (onto next) place first)) has in
        let more = arms_do inside around after next rest (omega (arith, e)) fits.1 h.1 in
        by_number inside around after place first rest (first_arm_does inside around after place first rest (sequence_does inside around (onto next) place first fits.0 h.0) more) more
