-- Where a state stands as it enters a node, and what a phase says of its position.
use Rattle.std.proofs.Common.{◌≡◌, ℕ, zero, suc, ◌<◌, ◌≤◌, List, [], ◌∷◌, length, slice_get, Some, None, refl, sym, ap, ◌∙◌, subst, arith}
use Rattle.std.proofs.lemmas.Option.{slice_get_past, slice_get_within}
use Rattle.hls_base.specs.declared.number.NodeId.{NodeId}
use Rattle.ir_core.specs.Bodies.{Words}
use Rattle.clock_ir.specs.Flows.{TimedBody, Flow, first_flow}
use Rattle.clock_ir.specs.ClockRuns.{TimedNode, block, overlapped, TimedProgram, Phase, starting, loading, inside, ended, at_node, enter, load, node_step, clock_step}
use Rattle.clock_machine.specs.declared.lines.program.Exit.{Exit}
use Rattle.clock_machine.specs.declared.lines.program.Program.{Program}
use Rattle.clock_machine.specs.declared.lines.program.Stage.{Stage}
use Rattle.clock_machine.specs.declared.lines.program.Stage.TheVariants as stage
use Rattle.clock_machine.specs.declared.lines.program.Way.{Way}
use Rattle.clock_machine.specs.declared.lines.program.Work.{Work}
use Rattle.clock_machine.specs.Lines.Forms.{IsStageOf}
use Rattle.clock_machine.specs.Lines.Stages.{work_in}
use Rattle.clock_machine.specs.declared.state.Position.{Position}
use Rattle.clock_machine.specs.declared.state.Position.TheVariants as position
use Rattle.clock_machine.specs.declared.state.State.{State}
use Rattle.clock_machine.specs.Standing.{body_at, IsStateOf, IsBodyIn, IsInside, IsBefore, IsInNode, StandsAt}
use Rattle.clock_machine.specs.Starts.{words_of}
use Rattle.clock_machine.proofs.Staying.{body_in}

-- ---- nodes and stages

some_node : (p : TimedProgram) (i : ℕ) → i < length p.nodes → (n : TimedNode) × (slice_get p.nodes i ≡ Some n)
some_node p i lt = there p.nodes i lt
  where
    there : (xs : List TimedNode) (k : ℕ) → k < length xs → (n : TimedNode) × (slice_get xs k ≡ Some n)
    there [] k lt = absurd (omega (arith, lt))
    there (x ∷ xs) zero lt = (x, refl)
    there (x ∷ xs) (suc k) lt = there xs k (omega (arith, lt))

pub node_at : (p : TimedProgram) (g : Program) (s : State) (i : ℕ) (it : Stage) → IsStateOf p g s → slice_get g.stages.items i ≡ Some it → (n : TimedNode) × ((slice_get p.nodes i ≡ Some n) × IsStageOf p.shapes.widths n it)
node_at p g s i it h is =
    let lt = slice_get_within g.stages.items i it is in
    let node = some_node p i (omega (arith, lt, h.form.count)) in
    (node.0, (node.1, h.form.stages i node.0 it node.1 is))

pub no_node : (p : TimedProgram) (g : Program) (s : State) (i : ℕ) → IsStateOf p g s → length g.stages.items ≤ i → slice_get p.nodes i ≡ None
no_node p g s i h le = slice_get_past p.nodes i (omega (arith, le, h.form.count))

-- ---- entering

begins_at_zero : (b : TimedBody) (t : Words) → (first_flow b t).time ≡ 0
unfolding first_flow
begins_at_zero b t = refl

-- the first cycle of a body
pub begins : (p : TimedProgram) (g : Program) (i : ℕ) (n : TimedNode) (it : Stage) (t : Words) (s : State) → IsStateOf p g s → slice_get p.nodes i ≡ Some n → slice_get g.stages.items i ≡ Some it → s.position ≡ position.Inside (record { 0 = i })
    → IsInside p.shapes (body_at n) (work_in it) (first_flow (body_at n) t) s → StandsAt p g (inside i (first_flow (body_at n) t)) s
begins p g i n it t s h is at where_ in_ = record {
  of_program = h;
  in_phase = (where_, record { node = n; stage = it; node_is = is; stage_is = at; inside = in_; before = before n is });
}
  where
    before : (m : TimedNode) → slice_get p.nodes i ≡ Some m → IsBefore (first_flow (body_at n) t).time m
    before (block b end_) is2 = subst (λ x. x < b.interval) (sym (begins_at_zero (body_at n) t)) (h.steady i (block b end_) is2).positive
    before (overlapped b exit next) is2 = tt

loads : (p : TimedProgram) (g : Program) (i : ℕ) (t : Words) (s : State) → IsStateOf p g s → s.position ≡ position.Loading (record { 0 = i }) → words_of s ≡ t → StandsAt p g (loading i t) s
loads p g i t s h where_ words = record { of_program = h; in_phase = (where_, words) }

pub enters_none : (p : TimedProgram) (g : Program) (i : ℕ) (t : Words) (s : State) → IsStateOf p g s → s.position ≡ position.Loading (record { 0 = i }) → words_of s ≡ t → length g.stages.items ≤ i → StandsAt p g (enter p.nodes i t) s
enters_none p g i t s h where_ words le = subst (λ x. StandsAt p g (at_node i t x) s) (sym (no_node p g s i h le)) (loads p g i t s h where_ words)

pub enters_loop : (p : TimedProgram) (g : Program) (i : ℕ) (w : Work) (e : Exit) (t : Words) (s : State) → IsStateOf p g s → slice_get g.stages.items i ≡ Some (stage.Loop w e) → s.position ≡ position.Loading (record { 0 = i }) → words_of s ≡ t → StandsAt p g (enter p.nodes i t) s
enters_loop p g i w e t s h at where_ words = (let node = node_at p g s i (stage.Loop w e) h at in subst (λ x. StandsAt p g (at_node i t x) s) (sym node.1.0) (by_node node.0 node.1.1))
  where
    by_node : (n : TimedNode) → IsStageOf p.shapes.widths n (stage.Loop w e) → StandsAt p g (at_node i t (Some n)) s
    by_node (overlapped b exit next) form = loads p g i t s h where_ words
    by_node (block b end_) form = absurd form

pub enters_block : (p : TimedProgram) (g : Program) (i : ℕ) (w : Work) (way_ : Way) (t : Words) (s new : State) → IsStateOf p g s → IsStateOf p g new → slice_get g.stages.items i ≡ Some (stage.Block w way_) → new.position ≡ position.Inside (record { 0 = i })
    → ((b : TimedBody) → IsBodyIn p.shapes b w s → IsInside p.shapes b w (first_flow b t) new) → StandsAt p g (enter p.nodes i t) new
enters_block p g i w way_ t s new h h2 at where_ begun = (let node = node_at p g s i (stage.Block w way_) h at in subst (λ x. StandsAt p g (at_node i t x) new) (sym node.1.0) (by_node node.0 node.1.0 node.1.1))
  where
    by_node : (n : TimedNode) → slice_get p.nodes i ≡ Some n → IsStageOf p.shapes.widths n (stage.Block w way_) → StandsAt p g (at_node i t (Some n)) new
    by_node (block b end_) is form = begins p g i (block b end_) (stage.Block w way_) t new h2 is at where_ (begun b (body_in p g i (block b end_) (stage.Block w way_) s h is at))
    by_node (overlapped b exit next) is form = absurd form

-- ---- loading

pub loads_none : (p : TimedProgram) (g : Program) (i : ℕ) (s : State) → IsStateOf p g s → s.position ≡ position.Loading (record { 0 = i }) → length g.stages.items ≤ i → StandsAt p g (load i (words_of s) (slice_get p.nodes i)) s
loads_none p g i s h where_ le = subst (λ x. StandsAt p g (load i (words_of s) x) s) (sym (no_node p g s i h le)) (loads p g i (words_of s) s h where_ refl)

pub loads_block : (p : TimedProgram) (g : Program) (i : ℕ) (w : Work) (way_ : Way) (s : State) → IsStateOf p g s → slice_get g.stages.items i ≡ Some (stage.Block w way_) → s.position ≡ position.Loading (record { 0 = i }) → StandsAt p g (load i (words_of s) (slice_get p.nodes i)) s
loads_block p g i w way_ s h at where_ = (let node = node_at p g s i (stage.Block w way_) h at in subst (λ x. StandsAt p g (load i (words_of s) x) s) (sym node.1.0) (by_node node.0 node.1.1))
  where
    by_node : (n : TimedNode) → IsStageOf p.shapes.widths n (stage.Block w way_) → StandsAt p g (load i (words_of s) (Some n)) s
    by_node (block b end_) form = loads p g i (words_of s) s h where_ refl
    by_node (overlapped b exit next) form = absurd form

pub loads_loop : (p : TimedProgram) (g : Program) (i : ℕ) (w : Work) (e : Exit) (s new : State) → IsStateOf p g s → IsStateOf p g new → slice_get g.stages.items i ≡ Some (stage.Loop w e) → new.position ≡ position.Inside (record { 0 = i })
    → ((b : TimedBody) → IsBodyIn p.shapes b w s → IsInside p.shapes b w (first_flow b (words_of s)) new) → StandsAt p g (load i (words_of s) (slice_get p.nodes i)) new
loads_loop p g i w e s new h h2 at where_ begun = (let node = node_at p g s i (stage.Loop w e) h at in subst (λ x. StandsAt p g (load i (words_of s) x) new) (sym node.1.0) (by_node node.0 node.1.0 node.1.1))
  where
    by_node : (n : TimedNode) → slice_get p.nodes i ≡ Some n → IsStageOf p.shapes.widths n (stage.Loop w e) → StandsAt p g (load i (words_of s) (Some n)) new
    by_node (overlapped b exit next) is form = begins p g i (overlapped b exit next) (stage.Loop w e) (words_of s) new h2 is at where_ (begun b (body_in p g i (overlapped b exit next) (stage.Loop w e) s h is at))
    by_node (block b end_) is form = absurd form

-- ---- one step, by position

same_node : (i : ℕ) (node : NodeId) → position.Loading (record { 0 = i }) ≡ position.Loading node → i ≡ node.0
same_node i node e = ap (λ (n : NodeId). n.0) (let z : (record { 0 = i }) ≡ node = cc in z)

same_inside : (i : ℕ) (node : NodeId) → position.Inside (record { 0 = i }) ≡ position.Inside node → i ≡ node.0
same_inside i node e = ap (λ (n : NodeId). n.0) (let z : (record { 0 = i }) ≡ node = cc in z)

differ : {a b c : Position} → a ≡ b → a ≡ c → b ≡ c
differ one two = sym one ∙ two

pub from_start : (p : TimedProgram) (g : Program) (phase : Phase) (s new : State) → StandsAt p g phase s → s.position ≡ position.Start → (IsStateOf p g s → StandsAt p g (enter p.nodes s.first.0 (words_of s)) new) → StandsAt p g (clock_step p phase) new
from_start p g (starting t) s new h is made = subst (λ u. StandsAt p g (enter p.nodes p.first u) new) h.in_phase.1 (subst (λ i. StandsAt p g (enter p.nodes i (words_of s)) new) h.of_program.first (made h.of_program))
from_start p g (loading i t) s new h is made = absurd (let z = differ h.in_phase.0 is in cc)
from_start p g (inside i f) s new h is made = absurd (let z = differ h.in_phase.0 is in cc)
from_start p g (ended w t) s new h is made = absurd (let z = differ h.in_phase.0 is in cc)

pub from_loading : (p : TimedProgram) (g : Program) (phase : Phase) (node : NodeId) (s new : State) → StandsAt p g phase s → s.position ≡ position.Loading node → (IsStateOf p g s → StandsAt p g (load node.0 (words_of s) (slice_get p.nodes node.0)) new) → StandsAt p g (clock_step p phase) new
from_loading p g (starting t) node s new h is made = absurd (let z = differ h.in_phase.0 is in cc)
from_loading p g (loading i t) node s new h is made =
    let same = same_node i node (differ h.in_phase.0 is) in
    subst (λ u. StandsAt p g (load i u (slice_get p.nodes i)) new) h.in_phase.1 (subst (λ k. StandsAt p g (load k (words_of s) (slice_get p.nodes k)) new) (sym same) (made h.of_program))
from_loading p g (inside i f) node s new h is made = absurd (let z = differ h.in_phase.0 is in cc)
from_loading p g (ended w t) node s new h is made = absurd (let z = differ h.in_phase.0 is in cc)

pub from_inside : (p : TimedProgram) (g : Program) (phase : Phase) (node : NodeId) (s new : State) → StandsAt p g phase s → s.position ≡ position.Inside node
    → ((f : Flow) → IsStateOf p g s → IsInNode p g node.0 f s → StandsAt p g (node_step p.shapes p.nodes node.0 f (slice_get p.nodes node.0)) new) → StandsAt p g (clock_step p phase) new
from_inside p g (starting t) node s new h is made = absurd (let z = differ h.in_phase.0 is in cc)
from_inside p g (loading i t) node s new h is made = absurd (let z = differ h.in_phase.0 is in cc)
from_inside p g (inside i f) node s new h is made =
    let same = same_inside i node (differ h.in_phase.0 is) in
    subst (λ k. StandsAt p g (node_step p.shapes p.nodes k f (slice_get p.nodes k)) new) (sym same) (made f h.of_program (subst (λ k. IsInNode p g k f s) same h.in_phase.1))
from_inside p g (ended w t) node s new h is made = absurd (let z = differ h.in_phase.0 is in cc)

pub from_end : (p : TimedProgram) (g : Program) (phase : Phase) (s : State) → StandsAt p g phase s → s.position ≡ position.Ended → clock_step p phase ≡ phase
from_end p g (starting t) s h is = absurd (let z = differ h.in_phase.0 is in cc)
from_end p g (loading i t) s h is = absurd (let z = differ h.in_phase.0 is in cc)
from_end p g (inside i f) s h is = absurd (let z = differ h.in_phase.0 is in cc)
from_end p g (ended w t) s h is = refl
