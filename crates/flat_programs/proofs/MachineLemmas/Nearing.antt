-- A step of a machine takes it nearer to the end of a run that ends.
use Rattle.std.proofs.Common.{◌≡◌, ℕ, zero, suc, ◌+◌, ◌-◌, ◌*◌, ◌≤◌, Bool, true, false, List, [], ◌∷◌, length, take, Some, Ok, Err, refl, sym, ap, ◌∙◌, subst, arith}
use Rattle.std.specs.Prelude.{◌==◌, slice_get, if◌then◌else◌}
use Rattle.std.proofs.lemmas.Bool.{eqb-true}
use Rattle.std.proofs.Math.Nat.{le-max_left, le-max_right, suc-mul}
use Rattle.hls_base.specs.declared.point.Point.{Point}
use Rattle.hls_base.specs.declared.number.NodeId.{NodeId}
use Rattle.ir_core.specs.declared.cfg.Block.{Block}
use Rattle.ir_core.specs.declared.cfg.Cfg.{Cfg}
use Rattle.ir_core.specs.declared.cfg.Loop.{Loop}
use Rattle.ir_core.specs.declared.cfg.Node.{Node}
use Rattle.ir_core.specs.declared.cfg.Node.TheVariants as node
use Rattle.ir_core.specs.declared.stamp.Untimed.{Untimed}
use Rattle.ir_core.specs.Halts.{HasHalted}
use Rattle.ir_core.specs.declared.machine.Halt.{Halt}
use Rattle.ir_core.specs.declared.machine.Halt.TheVariants as halt
use Rattle.hls_base.specs.Steps.{waiting, Ran, goes, then_, after, reached}
use Rattle.hls_base.specs.Valued.{Valued, is, faulty, valued}
use Rattle.ir_core.specs.Bodies.{Words, Ranged, operations, with_outs}
use Rattle.ir_core.specs.TreeRuns.{Turn, tested, goes_round, iterated, iteration}
use Rattle.ir_core.specs.TreeRuns as trees
use Rattle.ir_core.specs.FlatRuns.{Going, to, ends, going, body_of, shapes_of, block_left, node_then, from_node, flat_run}
use Rattle.flat_programs.specs.declared.machine.state.Round.{Round}
use Rattle.flat_programs.specs.declared.machine.state.Round.TheVariants as round
use Rattle.flat_programs.specs.declared.machine.state.State.{State}
use Rattle.flat_programs.specs.Machine.States.{results_of, words_of, ranged_of, Stays}
use Rattle.flat_programs.specs.Machine.Steps.{HasGone, HasStepped, one_less, undefined_, left_behind, point_if, HasIterated}
use Rattle.flat_programs.specs.Machine.Rest.{next_of, block_rest, rest_by, rest, moved}
use Rattle.flat_programs.specs.Machine.Nearing.{IsOver, operations_in, longest, operations_behind, enough_steps, steps_left_by, steps_left, IsOverWithin, whole_run_steps}
use Rattle.flat_programs.proofs.MachineLemmas.Going.{Run, begins, gone, entered, operation_done, in_loop, looped, round_next, turn_way, loop_end, iterated_once}

-- ---- machines that have halted

over_by : (h : Halt) (cfg : Cfg Untimed) (s : State) → HasHalted h → IsOver (rest_by h cfg s 0 0)
over_by halt.Running cfg s stopped = absurd stopped
over_by halt.Ended cfg s stopped = λ e. absurd cc
over_by (halt.Undefined rule at) cfg s stopped = λ e. absurd cc

none_left_by : (h : Halt) (cfg : Cfg Untimed) (s : State) → HasHalted h → steps_left_by h cfg s 0 0 ≡ 0
none_left_by halt.Running cfg s stopped = absurd stopped
none_left_by halt.Ended cfg s stopped = refl
none_left_by (halt.Undefined rule at) cfg s stopped = refl

pub halted_is_over : (most : ℕ) (cfg : Cfg Untimed) (s : State) → HasHalted s.halt → IsOverWithin most cfg s
halted_is_over most cfg s stopped = let none : steps_left cfg s 0 0 ≡ 0 = none_left_by s.halt cfg s stopped in record { nodes = 0; points = 0; over = over_by s.halt cfg s stopped; enough = omega (arith, none) }

halted_by : (h : Halt) (cfg : Cfg Untimed) (s : State) (k n : ℕ) → steps_left_by h cfg s k n ≤ 0 → HasHalted h
halted_by halt.Running cfg s k n few = absurd (omega (arith, few))
halted_by halt.Ended cfg s k n few = tt
halted_by (halt.Undefined rule at) cfg s k n few = tt

-- where no step is left, the machine has halted
pub over_now : (cfg : Cfg Untimed) (s : State) → IsOverWithin 0 cfg s → HasHalted s.halt
over_now cfg s x = halted_by s.halt cfg s x.nodes x.points x.enough

pub over_later : (few most : ℕ) (cfg : Cfg Untimed) (s : State) → few ≤ most → IsOverWithin few cfg s → IsOverWithin most cfg s
over_later few most cfg s h x = let enough = x.enough in record { nodes = x.nodes; points = x.points; over = x.over; enough = omega (arith, enough, h) }

-- ---- counting

fits_longest : (nodes : List (Node Untimed)) (i : ℕ) → operations_behind (slice_get nodes i) 0 ≤ longest nodes
fits_longest [] i = omega arith
fits_longest (it ∷ nodes) zero = let first = le-max_left (operations_in it) (longest nodes) in omega (arith, first)
fits_longest (it ∷ nodes) (suc i) =
    let others = le-max_right (operations_in it) (longest nodes) in
    let there = fits_longest nodes i in
    omega (arith, others, there)

running_left : (cfg : Cfg Untimed) (s : State) (k n : ℕ) → s.halt ≡ halt.Running → steps_left cfg s k n ≡ operations_behind (slice_get cfg.nodes.items s.node.0) s.position + 1 + enough_steps cfg k n
running_left cfg s k n runs = ap (λ h. steps_left_by h cfg s k n) runs

-- at the beginning of a node
left_at_most : (cfg : Cfg Untimed) (s : State) (k n : ℕ) → s.halt ≡ halt.Running → s.position ≡ 0 → steps_left cfg s k n ≤ longest cfg.nodes.items + 1 + enough_steps cfg k n
left_at_most cfg s k n runs first =
    let left = running_left cfg s k n runs in
    let there : operations_behind (slice_get cfg.nodes.items s.node.0) s.position ≤ longest cfg.nodes.items = subst (λ p. operations_behind (slice_get cfg.nodes.items s.node.0) p ≤ longest cfg.nodes.items) (sym first) (fits_longest cfg.nodes.items s.node.0) in
    omega (arith, left, there)

one_node_more : (cfg : Cfg Untimed) (k n : ℕ) → enough_steps cfg (suc k) n ≡ longest cfg.nodes.items + 1 + enough_steps cfg k n
one_node_more cfg k n = let product = suc-mul k (longest cfg.nodes.items + 1) in omega (arith, product)

-- some nodes and points with which the run is over behind a step, and one step less
abbrev Nearer : Cfg Untimed → State → State → ℕ → ℕ → Type 0
Nearer cfg old new k n = (k1 : ℕ) × (n1 : ℕ) × IsOver (rest cfg new k1 n1) × (steps_left cfg new k1 n1 + 1 ≤ steps_left cfg old k n)

pub nearer_within : (most : ℕ) (cfg : Cfg Untimed) (old new : State) → ((k n : ℕ) → IsOver (rest cfg old k n) → Nearer cfg old new k n) → IsOverWithin (most + 1) cfg old → IsOverWithin most cfg new
nearer_within most cfg old new step x =
    let y = step x.nodes x.points x.over in
    let less = y.3 in
    let enough = x.enough in
    record { nodes = y.0; points = y.1; over = y.2; enough = omega (arith, less, enough) }

nearer_halted : (cfg : Cfg Untimed) (old new : State) (k n : ℕ) → old.halt ≡ halt.Running → HasHalted new.halt → Nearer cfg old new k n
nearer_halted cfg old new k n runs stopped =
    let left = running_left cfg old k n runs in
    let none : steps_left cfg new 0 0 ≡ 0 = none_left_by new.halt cfg new stopped in (0, 0, over_by new.halt cfg new stopped, omega (arith, left, none))

-- where a node has been left for another one
nearer_node : (cfg : Cfg Untimed) (old new : State) (k n m : ℕ) → old.halt ≡ halt.Running → new.halt ≡ halt.Running → new.position ≡ 0 → m ≤ n → IsOver (rest cfg new k m) → Nearer cfg old new (suc k) n
nearer_node cfg old new k n m runs runs_on first few over =
    let before = running_left cfg old (suc k) n runs in
    let behind_it = left_at_most cfg new k m runs_on first in
    let more = one_node_more cfg k n in
    (k, m, over, omega (arith, before, behind_it, more, few))

nearer_gone : (cfg : Cfg Untimed) (old new : State) (g : Going) (t : Words) (k n m : ℕ) → old.halt ≡ halt.Running → HasGone g t new → m ≤ n → IsOver (next_of cfg k g t m) → Nearer cfg old new k n
nearer_gone cfg old new (ends w) t k n m runs h few over = nearer_halted cfg old new k n runs (subst HasHalted (sym h.0) tt)
nearer_gone cfg old new (to j) t zero n m runs h few over = absurd (over refl)
nearer_gone cfg old new (to j) t (suc k) n m runs h few over = nearer_node cfg old new k n m runs h.0 h.2 few (subst IsOver (gone cfg (to j) t new k m h) over)

-- ---- a step in a block

waits_before_block : (cfg : Cfg Untimed) (s : State) (block : Block Untimed) → slice_get cfg.nodes.items s.node.0 ≡ Some (node.Plain block) → s.halt ≡ halt.Running → s.position ≡ 0 → (k : ℕ) → (rest cfg s k zero).outcome ≡ waiting
waits_before_block cfg s block at runs first k =
    ap (λ (r : Run). r.outcome) (begins cfg s k zero runs first ∙ ap (λ it. node_then (shapes_of cfg.frame) (λ j t1 n1. from_node k (shapes_of cfg.frame) cfg.nodes.items j t1 n1) it (words_of s) zero) at)

few_points : (first : Bool) (point : Point) (n : ℕ) → (first ≡ true → n ≡ zero → ⊥) → length (point_if first point) ≤ n
few_points true point zero some = absurd (some refl refl)
few_points true point (suc n) some = omega arith
few_points false point n some = omega arith

-- behind the block's point
behind_point : (cfg : Cfg Untimed) (s : State) (block : Block Untimed) → slice_get cfg.nodes.items s.node.0 ≡ Some (node.Plain block) → s.halt ≡ halt.Running
    → (k n : ℕ) → IsOver (rest cfg s k n) → (m : ℕ) × (m ≤ n) × IsOver (block_rest cfg k s block m)
behind_point cfg s block at runs k n over =
    let points = point_if (s.position == 0) block.point in
    let some : (s.position == 0) ≡ true → n ≡ zero → ⊥ = λ first none.
    over (ap (λ j. (rest cfg s k j).outcome) none ∙ waits_before_block cfg s block at runs (eqb-true s.position 0 first) k) in
    let few = few_points (s.position == 0) block.point n some in
    let parts : n ≡ length points + (n - length points) = omega (arith, few) in (
      n - length points,
      omega arith,
      λ e. over (ap (λ (r : Run). r.outcome) (ap (rest cfg s k) parts ∙ entered cfg s block at runs k (n - length points)) ∙ e),
    )

pub block_nears : (cfg : Cfg Untimed) (block : Block Untimed) (old new : State) → slice_get cfg.nodes.items old.node.0 ≡ Some (node.Plain block) → old.halt ≡ halt.Running → HasStepped (shapes_of cfg.frame) block.body block.end old new
    → (k n : ℕ) → IsOver (rest cfg old k n) → Nearer cfg old new k n
block_nears cfg block old new at runs (one_less more runs_on same_node next same) k n over =
    let inside = behind_point cfg old block at runs k n over in
    let few = inside.1 in
    let here : operations_behind (slice_get cfg.nodes.items old.node.0) old.position ≡ length block.body.ops.items - old.position = ap (λ it. operations_behind it old.position) at in
    let there : operations_behind (slice_get cfg.nodes.items new.node.0) new.position ≡ length block.body.ops.items - new.position =
    ap (λ it. operations_behind it new.position) (ap (λ (i : NodeId). slice_get cfg.nodes.items i.0) same_node ∙ at) in
    let before = running_left cfg old k n runs in
    let behind_it = running_left cfg new k inside.0 runs_on in (
      k,
      inside.0,
      λ e. inside.2 (ap (λ (r : Run). r.outcome) (operation_done cfg block old new at runs_on same_node next same k inside.0) ∙ e),
      omega (arith, few, here, there, before, behind_it, more, next),
    )
block_nears cfg block old new at runs (undefined_ broken stopped same) k n over = nearer_halted cfg old new k n runs (subst HasHalted (sym stopped) tt)
block_nears cfg block old new at runs (left_behind none there) k n over =
    let inside = behind_point cfg old block at runs k n over in
    let left : Valued Ranged → Run = λ v. then_ (valued v (block_left block.end (body_of block.body)) (words_of old) inside.0) (λ g t1 n1. next_of cfg k g t1 n1) in
    nearer_gone cfg old new (going block.end (words_of old) (results_of old)) (with_outs block.body.outs.items (ranged_of old)) k n inside.0 runs there inside.1 (λ e. inside.2 (ap (λ v. (left v).outcome) none ∙ e))

-- ---- a step in a loop

waits_then : {S A B : Type 0} (r : Ran S A) (next : A → S → ℕ → Ran S B) → r.outcome ≡ waiting → (then_ r next).outcome ≡ waiting
waits_then r next h = ap (λ o. (after o next).outcome) h

loop_waits : (cfg : Cfg Untimed) (k : ℕ) (region : Loop Untimed) (n : ℕ) (r : Ran Words Turn) → r.outcome ≡ waiting → (looped cfg k region n r).outcome ≡ waiting
loop_waits cfg k region n r h =
    let turns = then_ r (round_next cfg region n) in
    let way = then_ turns turn_way in
    waits_then (then_ way (loop_end region)) (next_of cfg k) (waits_then way (loop_end region) (waits_then turns turn_way (waits_then r (round_next cfg region n) h)))

-- an iteration, where this is what the operations before the test come to
abbrev turn : Point → (Ranged → Bool) → (Ranged → Words → ℕ → Ran Words Turn) → Words → Valued Ranged → ℕ → Ran Words Turn
turn point goes_ part t v n = valued v (λ r t1 n1. if goes_ r then reached point (part r) r.words n1 else goes trees.over r.words n1) t n

turn_waits : (point : Point) (goes_ : Ranged → Bool) (part : Ranged → Words → ℕ → Ran Words Turn) (t : Words) (v : Valued Ranged) (n : ℕ) → (length (turn point goes_ part t v n).trace ≡ 0 → ⊥) → (turn point goes_ part t v zero).outcome ≡ waiting
turn_waits point goes_ part t (faulty rule at) n some = absurd (some refl)
turn_waits point goes_ part t (is r) n some = by (goes_ r) some
  where
    by : (b : Bool) → (length (if b then reached point (part r) r.words n else goes trees.over r.words n).trace ≡ 0 → ⊥) → (if b then reached point (part r) r.words zero else goes trees.over r.words zero).outcome ≡ waiting
    by true h = refl
    by false h = absurd (h refl)

waits_before_iteration : (cfg : Cfg Untimed) (region : Loop Untimed) (old mid : State) (done : Unit {0}) → HasIterated (shapes_of cfg.frame) region.point region.body (round.Passed (Ok done)) old mid
    → (iteration (shapes_of cfg.frame) region.point (body_of region.body) (words_of old) zero).outcome ≡ waiting
waits_before_iteration cfg region old mid done does =
    let sh = shapes_of cfg.frame in
    let b = body_of region.body in
    turn_waits region.point (λ r. goes_round b.test r.words r.results) (iterated sh b) (words_of old) (operations sh b.ops (take (tested b.test) b.ops) [] (words_of old)) (1 + 0)
    (λ none. let some = ap (λ (r : Ran Words Turn). length r.trace) (does 0) in absurd (omega (arith, some, none)))

pub loop_nears : (cfg : Cfg Untimed) (region : Loop Untimed) (old mid new : State) (r : Round) → slice_get cfg.nodes.items old.node.0 ≡ Some (node.Looped region) → old.halt ≡ halt.Running
    → HasIterated (shapes_of cfg.frame) region.point region.body r old mid → Stays old mid → new ≡ moved region.next r mid → (k n : ℕ) → IsOver (rest cfg old k n) → Nearer cfg old new k n
loop_nears cfg region old mid new (round.Undefined broken) at runs does stays is_ k n over = nearer_halted cfg old new k n runs (subst HasHalted (sym (ap (λ (s : State). s.halt) is_)) tt)
loop_nears cfg region old mid new (round.Passed (Err broken)) at runs does stays is_ k n over = nearer_halted cfg old new k n runs (subst HasHalted (sym (ap (λ (s : State). s.halt) is_)) tt)
loop_nears cfg region old mid new round.Over at runs does stays is_ k n over =
    let turned : iteration (shapes_of cfg.frame) region.point (body_of region.body) (words_of old) n ≡ goes trees.over (words_of mid) n =
    ap (iteration (shapes_of cfg.frame) region.point (body_of region.body) (words_of old)) (let e : n ≡ 0 + n = omega arith in e) ∙ does n in
    subst (λ (s : State). Nearer cfg old s k n) (sym is_)
    (nearer_gone cfg old (moved region.next round.Over mid) (to region.next.0) (words_of mid) k n n runs (stays.halt ∙ runs, refl, refl, refl) (omega arith)
    (λ e. over (ap (λ (r : Run). r.outcome) (in_loop cfg old region k n at runs ∙ ap (looped cfg k region n) turned) ∙ e)))
loop_nears cfg region old mid new (round.Passed (Ok done)) at runs does stays is_ k zero over =
    let turned = iteration (shapes_of cfg.frame) region.point (body_of region.body) (words_of old) zero in
    absurd (over (ap (λ (r : Run). r.outcome) (in_loop cfg old region k zero at runs) ∙ loop_waits cfg k region zero turned (waits_before_iteration cfg region old mid done does)))
loop_nears cfg region old mid new (round.Passed (Ok done)) at runs does stays is_ k (suc n) over =
    let next = moved region.next (round.Passed (Ok done)) mid in
    let here : operations_behind (slice_get cfg.nodes.items old.node.0) old.position ≡ 0 - old.position = ap (λ it. operations_behind it old.position) at in
    let there : operations_behind (slice_get cfg.nodes.items next.node.0) 0 ≡ 0 = ap (λ it. operations_behind it 0) (ap (λ (i : NodeId). slice_get cfg.nodes.items i.0) stays.node ∙ at) in
    let before = running_left cfg old k (suc n) runs in
    let behind_it = running_left cfg next k n (stays.halt ∙ runs) in
    subst (λ (s : State). Nearer cfg old s k (suc n)) (sym is_) (
      k,
      n,
      λ e. over (ap (λ (r : Run). r.outcome) (ap (rest cfg old k) (let e : suc n ≡ 1 + n = omega arith in e) ∙ iterated_once cfg region old mid done at runs does stays k n) ∙ e),
      omega (arith, here, there, before, behind_it),
    )

-- ---- whole runs

pub whole_run : (cfg : Cfg Untimed) (t : Words) (s : State) (n : ℕ) → HasGone (to cfg.first.0) t s → IsOver (flat_run cfg t n) → IsOverWithin (whole_run_steps cfg n) cfg s
whole_run cfg t s n h over =
    let left = left_at_most cfg s (2 * n + 1) n h.0 h.2 in
    let more = one_node_more cfg (2 * n + 1) n in
    let nodes : 2 * n + 2 ≡ suc (2 * n + 1) = omega arith in
    let all : whole_run_steps cfg n ≡ enough_steps cfg (suc (2 * n + 1)) n = ap (λ j. enough_steps cfg j n) nodes in
    record {
      nodes = 2 * n + 1;
      points = n;
      over = λ e.
          over (ap (λ (r : Run). r.outcome) (ap (λ j. from_node j (shapes_of cfg.frame) cfg.nodes.items cfg.first.0 t n) nodes ∙ gone cfg (to cfg.first.0) t s (2 * n + 1) n h) ∙ e);
      enough = omega (arith, left, more, all);
    }
