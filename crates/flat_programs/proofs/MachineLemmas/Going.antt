-- A step of a machine takes what is left of the run on by one step.
use Rattle.std.proofs.Common.{◌≡◌, ℕ, suc, ◌+◌, ◌-◌, ◌*◌, ◌≤◌, Bool, List, [], ◌∷◌, ◌++◌, length, map, take, drop, Option, Some, None, Ok, Err, refl, sym, ap, ◌∙◌, subst, inl, inr, arith, append_assoc}
use Rattle.std.specs.Prelude.{◌==◌, slice_get, if◌then◌else◌}
use Rattle.std.proofs.lemmas.Bool.{cases_eq, eq-eqb, ne_eqb}
use Rattle.std.proofs.lemmas.List.{length-append, append-nil}
use Rattle.hls_base.specs.declared.point.Point.{Point}
use Rattle.hls_base.specs.declared.number.NodeId.{NodeId}
use Rattle.hls_base.specs.declared.place.Place.{Place}
use Rattle.hls_base.specs.declared.refusal.UbRule.{UbRule}
use Rattle.ir_core.specs.declared.body.Body.{Body}
use Rattle.ir_core.specs.declared.cfg.Block.{Block}
use Rattle.ir_core.specs.declared.cfg.Cfg.{Cfg}
use Rattle.ir_core.specs.declared.cfg.End.{End}
use Rattle.ir_core.specs.declared.cfg.Loop.{Loop}
use Rattle.ir_core.specs.declared.cfg.Node.{Node}
use Rattle.ir_core.specs.declared.cfg.Node.TheVariants as node
use Rattle.ir_core.specs.declared.stamp.Untimed.{Untimed}
use Rattle.ir_core.specs.declared.machine.Halt.{Halt}
use Rattle.ir_core.specs.declared.machine.Halt.TheVariants as halt
use Rattle.hls_base.specs.Steps.{Ran, ran, goes, fails, then_, after}
use Rattle.hls_base.specs.Valued.{Valued, is, faulty, valued}
use Rattle.ir_core.specs.Bodies.{Words, Ranged, op_of, operations, with_outs}
use Rattle.ir_core.specs.TreeRuns.{Way, Turn, if_again, repeat, way_behind, iteration}
use Rattle.ir_core.specs.FlatRuns.{Going, to, ends, going, body_of, shapes_of, block_left, node_run, node_then, from_node, flat_run}
use Rattle.flat_programs.specs.declared.machine.effects.Broken.{Broken}
use Rattle.flat_programs.specs.declared.machine.state.Round.{Round}
use Rattle.flat_programs.specs.declared.machine.state.Round.TheVariants as round
use Rattle.flat_programs.specs.declared.machine.state.State.{State}
use Rattle.flat_programs.specs.Machine.States.{results_of, words_of, ranged_of, Keeps, Stays, FitsBody}
use Rattle.flat_programs.specs.Machine.Steps.{behind, HasGone, left_in, HasStepped, one_less, undefined_, left_behind, point_if, listed, is_passed, HasIterated}
use Rattle.flat_programs.specs.Machine.Sizes.{body_in}
use Rattle.flat_programs.specs.Machine.Rest.{HasRoom, next_of, block_rest, node_rest, rest_by, rest, beginning, GoesOn, Passes, moved, EndsSo, FailsSo}

-- ---- runs behind points

abbrev pub Run : Type 0
Run = Ran Words (Option ℕ)

pub behind_none : {S A : Type 0} (r : Ran S A) → r ≡ behind [] r
behind_none r = refl

pub behind_then : {S A B : Type 0} (points : List Point) (r : Ran S A) (next : A → S → ℕ → Ran S B) → then_ (behind points r) next ≡ behind points (then_ r next)
behind_then points r next = ap (λ l. ran l (after r.outcome next).outcome) (append_assoc points r.trace (after r.outcome next).trace)

behind_both : {S A : Type 0} (ps qs : List Point) (r : Ran S A) → behind ps (behind qs r) ≡ behind (ps ++ qs) r
behind_both ps qs r = ap (λ l. ran l r.outcome) (sym (append_assoc ps qs r.trace))

nothing_before : (run : ℕ → ℕ → Run) (k n : ℕ) → run (0 + k) (0 + n) ≡ run k n
nothing_before run k n = ap (λ j. run j (0 + n)) (let e : 0 + k ≡ k = omega arith in e) ∙ ap (run k) (let e : 0 + n ≡ n = omega arith in e)

pub stands : (run : ℕ → ℕ → Run) → GoesOn 0 run run
stands run = record { nodes = 0; points = []; few_nodes = omega arith; few_points = omega arith; same = nothing_before run }

pub goes_further : (m l most : ℕ) (a b c : ℕ → ℕ → Run) → m + l ≤ most → GoesOn m a b → GoesOn l b c → GoesOn most a c
goes_further m l most a b c h x y =
    let sizes = length-append x.points y.points in
    record {
      nodes = x.nodes + y.nodes;
      points = x.points ++ y.points;
      few_nodes = omega (arith, x.few_nodes, y.few_nodes);
      few_points = omega (arith, x.few_points, y.few_points, sizes);
      same = λ k n.
          ap (λ j. a j (length (x.points ++ y.points) + n)) (let e : x.nodes + y.nodes + k ≡ x.nodes + (y.nodes + k) = omega arith in e)
          ∙ ap (a (x.nodes + (y.nodes + k))) (let e : length (x.points ++ y.points) + n ≡ length x.points + (length y.points + n) = omega (arith, sizes) in e)
          ∙ x.same (y.nodes + k) (length y.points + n) ∙ ap (behind x.points) (y.same k n) ∙ behind_both x.points y.points (c k n);
    }

-- ---- the points that are passed

pub goes_passing : (points : List Point) (most : ℕ) (a b : ℕ → ℕ → Run) → length points ≤ most → Passes points most a b → GoesOn most a b
goes_passing points most a b few x = record { nodes = x.nodes; points = points; few_nodes = x.few_nodes; few_points = few; same = x.same }

pub passes_none : (most : ℕ) (run : ℕ → ℕ → Run) → Passes [] most run run
passes_none most run = record { nodes = 0; few_nodes = omega arith; same = nothing_before run }

pub passes_then : (ps qs : List Point) (m l most : ℕ) (a b c : ℕ → ℕ → Run) → m + l ≤ most → Passes ps m a b → Passes qs l b c → Passes (ps ++ qs) most a c
passes_then ps qs m l most a b c h x y =
    let sizes = length-append ps qs in
    record {
      nodes = x.nodes + y.nodes;
      few_nodes = omega (arith, x.few_nodes, y.few_nodes);
      same = λ k n.
          ap (λ j. a j (length (ps ++ qs) + n)) (let e : x.nodes + y.nodes + k ≡ x.nodes + (y.nodes + k) = omega arith in e)
          ∙ ap (a (x.nodes + (y.nodes + k))) (let e : length (ps ++ qs) + n ≡ length ps + (length qs + n) = omega (arith, sizes) in e)
          ∙ x.same (y.nodes + k) (length qs + n) ∙ ap (behind ps) (y.same k n) ∙ behind_both ps qs (c k n);
    }

begun_at : (nodes : ℕ) (points : List Point) (a b : ℕ → ℕ → Run) → length points ≤ 0 → ((k n : ℕ) → a (nodes + k) (length points + n) ≡ behind points (b k n)) → (k n : ℕ) → a (nodes + k) (0 + n) ≡ behind [] (b k n)
begun_at nodes [] a b h same = same
begun_at nodes (p ∷ ps) a b h same = absurd (omega (arith, h))

-- none is passed where no step is taken
pub passes_no_points : (a b : ℕ → ℕ → Run) → GoesOn 0 a b → Passes [] 0 a b
passes_no_points a b x = record { nodes = x.nodes; few_nodes = x.few_nodes; same = begun_at x.nodes x.points a b x.few_points x.same }

few_listed : (point : Option Point) → length (listed point) ≤ 1
few_listed (Some point) = omega arith
few_listed None = omega arith

pub one_step : (point : Option Point) (a b : ℕ → ℕ → Run) → Passes (listed point) 1 a b → GoesOn 1 a b
one_step point a b x = goes_passing (listed point) 1 a b (few_listed point) x

-- ---- room

fits_kept : (old new : State) (b : Body Untimed) → Keeps old new → FitsBody old b → FitsBody new b
fits_kept old new b k h = (omega (arith, h.0, k.results), omega (arith, h.1, k.fresh), λ i op e. omega (arith, h.2 i op e, k.args))

pub room_kept : (cfg : Cfg Untimed) (old new : State) → HasRoom cfg old → Keeps old new → new.position ≤ length new.results.items → HasRoom cfg new
room_kept cfg old new h k p = record { bodies = λ i it e. fits_kept old new (body_in it) k (h.bodies i it e); variables = k.variables ∙ h.variables; dims = k.dims ∙ h.dims; position = p }

-- ---- where a machine begins a node

pub by_halt : (cfg : Cfg Untimed) (s : State) (h : Halt) (k n : ℕ) → s.halt ≡ h → rest cfg s k n ≡ rest_by h cfg s k n
by_halt cfg s h k n e = ap (λ x. rest_by x cfg s k n) e

begins_at : (cfg : Cfg Untimed) (s : State) (k n : ℕ) (it : Option (Node Untimed)) → s.position ≡ 0 → node_rest cfg k s it n ≡ node_then (shapes_of cfg.frame) (λ j t1 n1. from_node k (shapes_of cfg.frame) cfg.nodes.items j t1 n1) it (words_of s) n
begins_at cfg s k n None e = refl
begins_at cfg s k n (Some (node.Plain block)) e =
    ap (λ b. if b then then_ (node_run (shapes_of cfg.frame) (node.Plain block) (words_of s) n) (λ g t1 n1. next_of cfg k g t1 n1) else block_rest cfg k s block n) (eq-eqb s.position 0 e)
begins_at cfg s k n (Some (node.Looped region)) e = refl

pub begins : (cfg : Cfg Untimed) (s : State) (k n : ℕ) → s.halt ≡ halt.Running → s.position ≡ 0 → rest cfg s k n ≡ from_node (suc k) (shapes_of cfg.frame) cfg.nodes.items s.node.0 (words_of s) n
begins cfg s k n runs e = by_halt cfg s halt.Running k n runs ∙ begins_at cfg s k n (slice_get cfg.nodes.items s.node.0) e

-- what is left where a block or loop has been left
pub gone : (cfg : Cfg Untimed) (g : Going) (t : Words) (s : State) (k n : ℕ) → HasGone g t s → next_of cfg (suc k) g t n ≡ rest cfg s k n
gone cfg (to j) t s k n h =
    sym (begins cfg s k n h.0 h.2 ∙ ap (λ i. from_node (suc k) (shapes_of cfg.frame) cfg.nodes.items i (words_of s) n) h.1 ∙ ap (λ x. from_node (suc k) (shapes_of cfg.frame) cfg.nodes.items j x n) h.3)
gone cfg (ends w) t s k n h = sym (by_halt cfg s halt.Ended k n h.0 ∙ ap (λ x. goes x (words_of s) n) h.1 ∙ ap (λ x. goes w x n) h.2)

-- ---- a step in a block

-- a block's point is passed at its beginning
pub entered : (cfg : Cfg Untimed) (s : State) (block : Block Untimed) → slice_get cfg.nodes.items s.node.0 ≡ Some (node.Plain block) → s.halt ≡ halt.Running
    → (k n : ℕ) → rest cfg s k (length (point_if (s.position == 0) block.point) + n) ≡ behind (point_if (s.position == 0) block.point) (block_rest cfg k s block n)
entered cfg s block at runs =
    let here : (k n : ℕ) → rest cfg s k n ≡ node_rest cfg k s (Some (node.Plain block)) n = λ k n. by_halt cfg s halt.Running k n runs ∙ ap (λ it. node_rest cfg k s it n) at in
    let sh = shapes_of cfg.frame in
    let all = map op_of block.body.ops.items in
    let by : Bool → Type 0 = λ first. (k n : ℕ) → rest cfg s k (length (point_if first block.point) + n) ≡ behind (point_if first block.point) (block_rest cfg k s block n) in
    elim (cases_eq s.position 0) [
      | inl first ↦
          let none : left_in sh block.body s ≡ operations sh all all [] (words_of s) =
          ap (λ p. operations sh all (map op_of (drop p block.body.ops.items)) (take p s.results.items) (words_of s)) first in
          subst by (sym (eq-eqb s.position 0 first)) (λ k n.
          here k (1 + n)
          ∙ ap (λ b. if b then then_ (node_run sh (node.Plain block) (words_of s) (1 + n)) (λ g t1 n1. next_of cfg k g t1 n1) else block_rest cfg k s block (1 + n)) (eq-eqb s.position 0 first)
          ∙ ap (λ j. then_ (node_run sh (node.Plain block) (words_of s) j) (λ g t1 n1. next_of cfg k g t1 n1)) (let e : 1 + n ≡ suc n = omega arith in e)
          ∙ ap (λ v. behind (block.point ∷ []) (then_ (valued v (block_left block.end (body_of block.body)) (words_of s) n) (λ g t1 n1. next_of cfg k g t1 n1))) (sym none))
      | inr later ↦ subst by (sym (ne_eqb s.position 0 later)) (λ k n.
          here k (0 + n)
          ∙ ap (λ b. if b then then_ (node_run sh (node.Plain block) (words_of s) (0 + n)) (λ g t1 n1. next_of cfg k g t1 n1) else block_rest cfg k s block (0 + n)) (ne_eqb s.position 0 later)
          ∙ ap (block_rest cfg k s block) (let e : 0 + n ≡ n = omega arith in e))
    ]

-- the contents at the beginning of what is left do not matter behind its results
valued_any : (e : End) (b : Body Untimed) (v : Valued Ranged) (t u : Words) (n : ℕ) → valued v (block_left e (body_of b)) t n ≡ valued v (block_left e (body_of b)) u n
valued_any e b (is r) t u n = refl
valued_any e b (faulty rule at) t u n = refl

-- behind an operation
pub operation_done : (cfg : Cfg Untimed) (block : Block Untimed) (old new : State) → slice_get cfg.nodes.items old.node.0 ≡ Some (node.Plain block) → new.halt ≡ halt.Running → new.node ≡ old.node → new.position ≡ old.position + 1
    → left_in (shapes_of cfg.frame) block.body old ≡ left_in (shapes_of cfg.frame) block.body new → (k n : ℕ) → block_rest cfg k old block n ≡ rest cfg new k n
operation_done cfg block old new at runs same_node next same k n =
    let there : slice_get cfg.nodes.items new.node.0 ≡ Some (node.Plain block) = ap (λ (i : NodeId). slice_get cfg.nodes.items i.0) same_node ∙ at in
    let later : new.position ≡ 0 → ⊥ = λ e. omega (arith, e, next) in
    ap (λ v. then_ (valued v (block_left block.end (body_of block.body)) (words_of old) n) (λ g t1 n1. next_of cfg k g t1 n1)) same
    ∙ ap (λ r. then_ r (λ g t1 n1. next_of cfg k g t1 n1)) (valued_any block.end block.body (left_in (shapes_of cfg.frame) block.body new) (words_of old) (words_of new) n)
    ∙ sym (by_halt cfg new halt.Running k n runs ∙ ap (λ it. node_rest cfg k new it n) there ∙ ap (λ b. if b then then_ (node_run (shapes_of cfg.frame) (node.Plain block) (words_of new) n) (λ g t1 n1. next_of cfg k g t1 n1) else block_rest cfg k new block n) (ne_eqb new.position 0 later))

-- behind the point
stepped_rest : (cfg : Cfg Untimed) (block : Block Untimed) (old new : State) → slice_get cfg.nodes.items old.node.0 ≡ Some (node.Plain block) → HasStepped (shapes_of cfg.frame) block.body block.end old new
    → (nodes : ℕ) × (nodes ≤ 1) × ((k n : ℕ) → block_rest cfg (nodes + k) old block n ≡ rest cfg new k n)
stepped_rest cfg block old new at (one_less more runs same_node next same) = (
  0,
  omega arith,
  λ k n. ap (λ j. block_rest cfg j old block n) (let e : 0 + k ≡ k = omega arith in e) ∙ operation_done cfg block old new at runs same_node next same k n,
)
stepped_rest cfg block old new at (undefined_ broken stopped same) = (
  0,
  omega arith,
  λ k n.
      ap (λ v. then_ (valued v (block_left block.end (body_of block.body)) (words_of old) n) (λ g t1 n1. next_of cfg (0 + k) g t1 n1)) same
      ∙ sym (by_halt cfg new (halt.Undefined broken.rule broken.place) k n stopped),
)
stepped_rest cfg block old new at (left_behind none there) = (
  1,
  omega arith,
  λ k n.
      ap (λ v. then_ (valued v (block_left block.end (body_of block.body)) (words_of old) n) (λ g t1 n1. next_of cfg (1 + k) g t1 n1)) none
      ∙ ap (λ j. next_of cfg j (going block.end (words_of old) (results_of old)) (with_outs block.body.outs.items (ranged_of old)) n) (let e : 1 + k ≡ suc k = omega arith in e)
      ∙ gone cfg (going block.end (words_of old) (results_of old)) (with_outs block.body.outs.items (ranged_of old)) new k n there,
)

pub block_goes : (cfg : Cfg Untimed) (block : Block Untimed) (old new : State) → slice_get cfg.nodes.items old.node.0 ≡ Some (node.Plain block) → old.halt ≡ halt.Running → HasStepped (shapes_of cfg.frame) block.body block.end old new
    → Passes (point_if (old.position == 0) block.point) 1 (rest cfg old) (rest cfg new)
block_goes cfg block old new at runs step =
    let points = point_if (old.position == 0) block.point in
    let second = stepped_rest cfg block old new at step in
    record { nodes = second.0; few_nodes = second.1; same = λ k n. entered cfg old block at runs (second.0 + k) n ∙ ap (behind points) (second.2 k n) }

-- ---- a step in a loop

abbrev pub round_next : Cfg Untimed → Loop Untimed → ℕ → Turn → Words → ℕ → Ran Words Turn
round_next cfg region n w t1 n1 = if_again w (repeat n (iteration (shapes_of cfg.frame) region.point (body_of region.body))) t1 n1

abbrev pub turn_way : Turn → Words → ℕ → Ran Words Way
turn_way w t1 n1 = goes (way_behind w) t1 n1

abbrev pub loop_end : Loop Untimed → Way → Words → ℕ → Ran Words Going
loop_end region w t1 n1 = goes (to region.next.0) t1 n1

abbrev pub looped : Cfg Untimed → ℕ → Loop Untimed → ℕ → Ran Words Turn → Run
looped cfg k region n r = then_ (then_ (then_ (then_ r (round_next cfg region n)) turn_way) (loop_end region)) (next_of cfg k)

pub in_loop : (cfg : Cfg Untimed) (s : State) (region : Loop Untimed) (k n : ℕ) → slice_get cfg.nodes.items s.node.0 ≡ Some (node.Looped region) → s.halt ≡ halt.Running
    → rest cfg s k n ≡ looped cfg k region n (iteration (shapes_of cfg.frame) region.point (body_of region.body) (words_of s) n)
in_loop cfg s region k n at runs = by_halt cfg s halt.Running k n runs ∙ ap (λ it. node_rest cfg k s it n) at

undefined_then : {S A B : Type 0} (points : List Point) (broken : Broken) (next : A → S → ℕ → Ran S B) → then_ (behind points (fails broken.rule broken.place)) next ≡ behind points (fails broken.rule broken.place)
undefined_then points broken next = behind_then points (fails broken.rule broken.place) next

loop_fails : (cfg : Cfg Untimed) (k : ℕ) (region : Loop Untimed) (n : ℕ) (points : List Point) (broken : Broken) → looped cfg k region n (behind points (fails broken.rule broken.place)) ≡ behind points (fails broken.rule broken.place)
loop_fails cfg k region n points broken =
    ap (λ r. then_ (then_ (then_ r turn_way) (loop_end region)) (next_of cfg k)) (undefined_then points broken (round_next cfg region n))
    ∙ ap (λ r. then_ (then_ r (loop_end region)) (next_of cfg k)) (undefined_then points broken turn_way)
    ∙ ap (λ r. then_ r (next_of cfg k)) (undefined_then points broken (loop_end region)) ∙ undefined_then points broken (next_of cfg k)

-- where an operation has no meaning
stopped_at : (cfg : Cfg Untimed) (region : Loop Untimed) (old new : State) (points : List Point) (broken : Broken) → slice_get cfg.nodes.items old.node.0 ≡ Some (node.Looped region) → old.halt ≡ halt.Running
    → ((n : ℕ) → iteration (shapes_of cfg.frame) region.point (body_of region.body) (words_of old) (length points + n) ≡ behind points (fails broken.rule broken.place)) → new.halt ≡ halt.Undefined broken.rule broken.place → Passes points 1 (rest cfg old) (rest cfg new)
stopped_at cfg region old new points broken at runs does stopped = record {
  nodes = 0;
  few_nodes = omega arith;
  same = λ k n.
      in_loop cfg old region (0 + k) (length points + n) at runs ∙ ap (looped cfg (0 + k) region (length points + n)) (does n) ∙ loop_fails cfg (0 + k) region (length points + n) points broken
      ∙ ap (behind points) (sym (by_halt cfg new (halt.Undefined broken.rule broken.place) k n stopped));
}

-- an iteration whose operations all have a meaning, and its point before it
pub iterated_once : (cfg : Cfg Untimed) (region : Loop Untimed) (old mid : State) (done : Unit {0}) → slice_get cfg.nodes.items old.node.0 ≡ Some (node.Looped region) → old.halt ≡ halt.Running
    → HasIterated (shapes_of cfg.frame) region.point region.body (round.Passed (Ok done)) old mid → Stays old mid → (k n : ℕ) → rest cfg old k (1 + n) ≡ behind (region.point ∷ []) (rest cfg (moved region.next (round.Passed (Ok done)) mid) k n)
iterated_once cfg region old mid done at runs does stays k n =
    let next = moved region.next (round.Passed (Ok done)) mid in
    let there : slice_get cfg.nodes.items next.node.0 ≡ Some (node.Looped region) = ap (λ (i : NodeId). slice_get cfg.nodes.items i.0) stays.node ∙ at in
    ap (rest cfg old k) (let e : 1 + n ≡ suc n = omega arith in e)
    ∙ in_loop cfg old region k (suc n) at runs
    ∙ ap (looped cfg k region (suc n)) (ap (iteration (shapes_of cfg.frame) region.point (body_of region.body) (words_of old)) (let e : suc n ≡ 1 + n = omega arith in e) ∙ does n)
    ∙ sym (ap (behind (region.point ∷ [])) (in_loop cfg next region k n there (stays.halt ∙ runs)))

pub loop_goes : (cfg : Cfg Untimed) (region : Loop Untimed) (old mid new : State) (r : Round) → slice_get cfg.nodes.items old.node.0 ≡ Some (node.Looped region) → old.halt ≡ halt.Running
    → HasIterated (shapes_of cfg.frame) region.point region.body r old mid → Stays old mid → new ≡ moved region.next r mid → Passes (point_if (is_passed r) region.point) 1 (rest cfg old) (rest cfg new)
loop_goes cfg region old mid new (round.Undefined broken) at runs does stays is_ =
    stopped_at cfg region old new [] broken at runs does (ap (λ (s : State). s.halt) is_)
loop_goes cfg region old mid new round.Over at runs does stays is_ =
    let next = moved region.next round.Over mid in
    subst (λ (s : State). Passes [] 1 (rest cfg old) (rest cfg s)) (sym is_) (record {
      nodes = 1;
      few_nodes = omega arith;
      same = λ k n.
          ap (λ j. rest cfg old j (0 + n)) (let e : 1 + k ≡ suc k = omega arith in e) ∙ ap (rest cfg old (suc k)) (let e : 0 + n ≡ n = omega arith in e)
          ∙ in_loop cfg old region (suc k) n at runs ∙ ap (looped cfg (suc k) region n) (ap (iteration (shapes_of cfg.frame) region.point (body_of region.body) (words_of old)) (let e : n ≡ 0 + n = omega arith in e) ∙ does n)
          ∙ gone cfg (to region.next.0) (words_of mid) next k n (stays.halt ∙ runs, refl, refl, refl);
    })
loop_goes cfg region old mid new (round.Passed (Ok done)) at runs does stays is_ =
    subst (λ (s : State). Passes (region.point ∷ []) 1 (rest cfg old) (rest cfg s)) (sym is_) (record {
      nodes = 0;
      few_nodes = omega arith;
      same = λ k n. ap (λ j. rest cfg old j (1 + n)) (let e : 0 + k ≡ k = omega arith in e) ∙ iterated_once cfg region old mid done at runs does stays k n;
    })
loop_goes cfg region old mid new (round.Passed (Err broken)) at runs does stays is_ =
    stopped_at cfg region old new (region.point ∷ []) broken at runs does (ap (λ (s : State). s.halt) is_)

-- ---- whole runs

pub starts : (cfg : Cfg Untimed) (t : Words) (s : State) → HasGone (to cfg.first.0) t s → GoesOn 0 (beginning cfg t) (rest cfg s)
starts cfg t s h = record {
  nodes = 0;
  points = [];
  few_nodes = omega arith;
  few_points = omega arith;
  same = λ k n.
      ap (λ j. beginning cfg t j (0 + n)) (let e : 0 + k ≡ k = omega arith in e) ∙ ap (beginning cfg t k) (let e : 0 + n ≡ n = omega arith in e) ∙ gone cfg (to cfg.first.0) t s k n h;
}

-- the run with enough nodes and points comes to this state
come_to : (cfg : Cfg Untimed) (t : Words) (s : State) (points : List Point) (most n : ℕ) → (x : Passes points most (beginning cfg t) (rest cfg s)) → most ≤ n → length points ≤ n
    → flat_run cfg t n ≡ behind points (rest cfg s (2 * n + 1 - x.nodes) (n - length points))
come_to cfg t s points most n x h few =
    let nodes : 2 * n + 2 ≡ suc (x.nodes + (2 * n + 1 - x.nodes)) = omega (arith, x.few_nodes) in
    let parts : n ≡ length points + (n - length points) = omega arith in
    ap (λ j. from_node j (shapes_of cfg.frame) cfg.nodes.items cfg.first.0 t n) nodes ∙ ap (beginning cfg t (x.nodes + (2 * n + 1 - x.nodes))) parts ∙ x.same (2 * n + 1 - x.nodes) (n - length points)

halted_at : (cfg : Cfg Untimed) (t : Words) (s : State) (h : Halt) (most n : ℕ) → (x : GoesOn most (beginning cfg t) (rest cfg s)) → s.halt ≡ h → most ≤ n
    → flat_run cfg t n ≡ behind x.points (rest_by h cfg s (2 * n + 1 - x.nodes) (n - length x.points))
halted_at cfg t s h most n x e few =
    come_to cfg t s x.points most n (record { nodes = x.nodes; few_nodes = x.few_nodes; same = x.same }) few (omega (arith, x.few_points))
    ∙ ap (behind x.points) (by_halt cfg s h (2 * n + 1 - x.nodes) (n - length x.points) e)

pub ended_so : (cfg : Cfg Untimed) (t : Words) (s : State) (most n : ℕ) → GoesOn most (beginning cfg t) (rest cfg s) → s.halt ≡ halt.Ended → most ≤ n → EndsSo (flat_run cfg t n) s.returned (words_of s)
ended_so cfg t s most n x e h = (x.points ++ [], n - length x.points, halted_at cfg t s halt.Ended most n x e h)

pub undefined_so : (cfg : Cfg Untimed) (t : Words) (s : State) (most n : ℕ) (rule : UbRule) (at : Place) → GoesOn most (beginning cfg t) (rest cfg s) → s.halt ≡ halt.Undefined rule at → most ≤ n → FailsSo (flat_run cfg t n) rule at
undefined_so cfg t s most n rule at x e h = (x.points ++ [], halted_at cfg t s (halt.Undefined rule at) most n x e h)

pub passes_all : (cfg : Cfg Untimed) (t : Words) (s : State) (points : List Point) (most n : ℕ) → Passes points most (beginning cfg t) (rest cfg s) → s.halt ≡ halt.Ended → most ≤ n → length points ≤ n → (flat_run cfg t n).trace ≡ points
passes_all cfg t s points most n x e h few =
    ap (λ (r : Run). r.trace) (come_to cfg t s points most n x h few ∙ ap (behind points) (by_halt cfg s halt.Ended (2 * n + 1 - x.nodes) (n - length points) e)) ∙ append-nil points
