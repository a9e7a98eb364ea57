-- How the time of a node begins.
use Rattle.std.proofs.Common.{◌≡◌, ℕ, ◌%◌, List, Option, Some, None, refl, sym, ap, ◌∙◌, subst, mod-eq_of_lt, arith}
use Rattle.std.specs.Prelude.{slice_get}
use Rattle.rtl_core.specs.Interface.{reset_of}
use Rattle.ir_core.specs.Bodies.{Words}
use Rattle.clock_ir.specs.Flows.{TimedBody, first_flow}
use Rattle.clock_ir.specs.ClockRuns.{TimedNode, block, overlapped, at_node, load}
use Rattle.datapath.specs.Plans.{Plan, body_at, span}
use Rattle.datapath.specs.Cycles.{Contents}
use Rattle.datapath.specs.Circuits.{Step}
use Rattle.datapath.specs.Standing.{IsInside, IsEnteredAs}
use Rattle.circuit_agreement.specs.CircuitFlow.Compiled.{IsCompiled}
use Rattle.circuit_agreement.specs.CircuitFlow.Flows.{HoldsVariables, HoldsMemories}
use Rattle.circuit_agreement.proofs.Nodes.{body_found}
use Rattle.circuit_agreement.proofs.HeldResults.Beginning.{nothing_first, entries_held}
use Rattle.circuit_agreement.proofs.UnitResults.Stepping.{units_begin}
use Rattle.circuit_agreement.proofs.LoopGates.Turns.{first_time}
use Rattle.circuit_agreement.proofs.LoopGates.Blocks.{blocks_run}
use Rattle.circuit_agreement.proofs.LoopGates.Loops.{gates_begin}
use Rattle.circuit_agreement.proofs.LoopGates.Controller.{loops_begin}
use Rattle.circuit_agreement.proofs.NodeEnds.Comparing.{comparisons_begin}
use Rattle.circuit_agreement.proofs.NodeEnds.Staying.{variables_stay_loading}
use Rattle.circuit_agreement.proofs.CircuitStores.Shown.{loading_keeps}
use Rattle.circuit_agreement.specs.Standing.{FollowsAs, StandsInside, StandsLoadingAs, StandsIn}
use Rattle.circuit_agreement.specs.Laws.{NodesAreEntered}
use Rattle.circuit_agreement.proofs.Idle.{stays_idle}

-- ---- what a node begins with

first_entry : (b : TimedBody) (t : Words) (v : ℕ) → (first_flow b t).entry v ≡ t.variables v
unfolding first_flow
first_entry b t v = refl

first_memories : (b : TimedBody) (t : Words) → (first_flow b t).memories ≡ t.memories
unfolding first_flow
first_memories b t = refl

entry_held : (p : Plan) (i : ℕ) (b : TimedBody) (t : Words) (x : Contents) → HoldsVariables p i t.variables x → HoldsVariables p i (first_flow b t).entry x
entry_held p i b t x h v live = h v live ∙ sym (first_entry b t v)

words_held : (p : Plan) (b : TimedBody) (t : Words) (x : Contents) → HoldsMemories p t.memories x → HoldsMemories p (first_flow b t).memories x
words_held p b t x h = subst (λ (m : ℕ → ℕ → ℕ). HoldsMemories p m x) (sym (first_memories b t)) h

-- ---- a block

pub own_block : (p : Plan) (i : ℕ) (body : TimedBody) (end_ : _) → slice_get p.program.nodes i ≡ Some (block body end_) → slice_get p.program.nodes i ≡ Some (block (body_at p i) end_)
own_block p i body end_ at_ = at_ ∙ ap (λ (b : TimedBody). Some (block b end_)) (sym (body_found p i (block body end_) at_))

pub own_loop : (p : Plan) (i : ℕ) (body : TimedBody) (exit next : ℕ) → slice_get p.program.nodes i ≡ Some (overlapped body exit next) → slice_get p.program.nodes i ≡ Some (overlapped (body_at p i) exit next)
own_loop p i body exit next at_ = at_ ∙ ap (λ (b : TimedBody). Some (overlapped b exit next)) (sym (body_found p i (overlapped body exit next) at_))

block_begins : (p : Plan) (c : IsCompiled p) (i : ℕ) (end_ : _) (t : Words) (x : Contents) → slice_get p.program.nodes i ≡ Some (block (body_at p i) end_) → IsInside i 0 x
    → HoldsVariables p i t.variables x → HoldsMemories p t.memories x → StandsInside p c i (first_flow (body_at p i) t) x
block_begins p c i end_ t x at_ now variables memories =
    let b : TimedBody = body_at p i in
    let zero_ : 0 % span p i ≡ 0 = mod-eq_of_lt (omega arith) in
    record {
      inside_ = subst (λ n. IsInside i n x) (sym (ap (λ n. n % span p i) (first_time b t) ∙ zero_)) now;
      variables = entry_held p i b t x variables;
      memories = words_held p b t x memories;
      results = nothing_first p c i b end_ t x at_;
      units = units_begin p i (block b end_) t x c at_;
      follows = subst (FollowsAs p i (first_flow b t) x) (sym at_) (blocks_run p i b end_ t c at_, comparisons_begin p i b end_ t at_);
    }

entered_as : (p : Plan) (c : IsCompiled p) (i : ℕ) (t : Words) (x : Contents) (node : Option TimedNode) → slice_get p.program.nodes i ≡ node → IsEnteredAs i node x
    → HoldsVariables p i t.variables x → HoldsMemories p t.memories x → StandsIn p c (at_node i t node) x
entered_as p c i t x None at_ now variables memories = subst (StandsLoadingAs p i t x) (sym at_) now
entered_as p c i t x (Some (overlapped body exit next)) at_ now variables memories = subst (StandsLoadingAs p i t x) (sym at_) (now, variables, memories)
entered_as p c i t x (Some (block body end_)) at_ now variables memories =
    subst (λ (b : TimedBody). StandsInside p c i (first_flow b t) x) (body_found p i (block body end_) at_) (block_begins p c i end_ t x (own_block p i body end_ at_) now variables memories)

pub nodes_are_entered : NodesAreEntered
nodes_are_entered p c i t x now variables memories = entered_as p c i t x (slice_get p.program.nodes i) refl now variables memories

-- ---- a loop

loop_begins : (p : Plan) (c : IsCompiled p) (i exit next : ℕ) (t : Words) (x y : Contents) (pins : List ℕ) → slice_get p.program.nodes i ≡ Some (overlapped (body_at p i) exit next)
    → StandsLoadingAs p i t x (Some (overlapped (body_at p i) exit next)) → reset_of pins ≡ 0 → Step p x pins y → StandsInside p c i (first_flow (body_at p i) t) y
loop_begins p c i exit next t x y pins at_ stands unset step =
    let b : TimedBody = body_at p i in
    let now = stands.0 in
    let kept = variables_stay_loading p i x y pins now step in
    record {
      inside_ = (loops_begin p i b exit next t x y pins at_ unset now step).1;
      variables = entry_held p i b t y (λ v live. kept.variables v ∙ stands.1 v live);
      memories = words_held p b t y (loading_keeps p i t.memories x y pins unset now stands.2 step);
      results = entries_held p c i b exit next t x y pins at_ now stands.1 step;
      units = units_begin p i (overlapped b exit next) t y c at_;
      follows = subst (FollowsAs p i (first_flow b t) y) (sym at_) (gates_begin p i b exit next t x y pins c at_ now step);
    }

pub loading_steps : (p : Plan) (c : IsCompiled p) (i : ℕ) (t : Words) (x y : Contents) (pins : List ℕ) (node : Option TimedNode) → slice_get p.program.nodes i ≡ node
    → StandsLoadingAs p i t x node → reset_of pins ≡ 0 → Step p x pins y → StandsIn p c (load i t node) y
loading_steps p c i t x y pins None at_ stands unset step = subst (StandsLoadingAs p i t y) (sym at_) (stays_idle p x y pins unset stands.0 stands.1 step)
loading_steps p c i t x y pins (Some (block body end_)) at_ stands unset step = absurd stands
loading_steps p c i t x y pins (Some (overlapped body exit next)) at_ stands unset step =
    subst (λ (b : TimedBody). StandsInside p c i (first_flow b t) y) (body_found p i (overlapped body exit next) at_)
    (loop_begins p c i exit next t x y pins (own_loop p i body exit next at_) stands unset step)
