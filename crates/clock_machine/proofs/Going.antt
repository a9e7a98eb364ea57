-- A cycle of a block or loop, and where it leads.
use Rattle.std.proofs.Common.{◌≡◌, ℕ, ◌+◌, ◌-◌, ◌*◌, ◌<◌, ◌≤◌, ◌^◌, Bool, true, false, not, ◌&&◌, length, map, slice_get, Some, refl, sym, ap, ◌∙◌, subst, arith}
use Rattle.std.specs.Prelude.{nat_lt, if◌then◌else◌}
use Rattle.std.proofs.Math.Nat.{div-le_self}
use Rattle.std.proofs.lemmas.Bool.{cond-true, cond-false, lt-ltb, le-ltb}
use Rattle.hls_base.specs.declared.number.NodeId.{NodeId}
use Rattle.ir_core.specs.declared.body.Operand.{Operand}
use Rattle.ir_core.specs.declared.cfg.End.{End}
use Rattle.flat_programs.specs.Memory.Contents.{words_in}
use Rattle.ir_core.specs.Bodies.{Shapes}
use Rattle.clock_ir.specs.Flows.{TimedBody, Flow, operand_at, taken, tick, place, known, is_at, runs_at}
use Rattle.clock_ir.specs.ClockRuns.{Phase, TimedNode, block, overlapped, TimedProgram, inside, going_by, goes_to, enter, block_left, block_step, later, loop_left, loop_step, node_step}
use Rattle.clock_machine.specs.declared.lines.program.Assignment.{Assignment}
use Rattle.clock_machine.specs.declared.lines.program.Exit.{Exit}
use Rattle.clock_machine.specs.declared.lines.program.Program.{Program}
use Rattle.clock_machine.specs.declared.lines.program.Stage.TheVariants as stage
use Rattle.clock_machine.specs.declared.lines.program.Way.{Way}
use Rattle.clock_machine.specs.declared.lines.program.Work.{Work}
use Rattle.clock_machine.specs.Lines.Forms.{IsWorkOf, IsDeep, IsStageOf, assignment_of}
use Rattle.clock_machine.specs.Lines.Reads.{Each, IsCovered, read_of}
use Rattle.clock_machine.specs.Lines.Registers.{ReadIsWithin, held, word_read}
use Rattle.clock_machine.specs.Lines.Stages.{work_in}
use Rattle.clock_machine.proofs.LinesLemmas.Reading.{reads_operand}
use Rattle.clock_machine.specs.declared.state.State.{State}
use Rattle.clock_machine.specs.declared.state.Position.TheVariants as position
use Rattle.clock_machine.specs.Leaving.{AssignmentsAreWithin, AssignmentsAreThere, WayIsWithin, assigned, going_in}
use Rattle.clock_machine.specs.Standing.{body_at, IsStateOf, IsAt, IsInside, HasStarted, IsBefore, IsInNode, StandsAt}
use Rattle.clock_machine.proofs.Left.{outs_there, outs_within, outs_taken, way_within, way_goes}
use Rattle.clock_machine.proofs.Staying.{few_words}
use Rattle.clock_machine.proofs.Ticks.{next_time, next_memories}

-- an operand that is read where it is
same_distance : (b : TimedBody) (f : Flow) (t : ℕ) → (λ (x : Operand). operand_at b f t (record x { distance = x.distance + 0 })) ≡ operand_at b f t
same_distance b f t = λ j. λ x. at x j
  where
    at : (x : Operand) → operand_at b f t (record x { distance = x.distance + 0 }) ≡ operand_at b f t x
    at x = ap (λ d. operand_at b f t (record x { distance = d })) (let z : x.distance + 0 ≡ x.distance = omega arith in z)

-- ---- what variables take

module _ (shapes : Shapes) (b : TimedBody) (w : Work) (f : Flow) (s : State) (at : IsAt shapes b w f s) (time further depth size : ℕ) (work : IsWorkOf shapes.widths b time further w) (deep : IsDeep depth size w) where
  abbrev value : Operand → ℕ
  value x = operand_at b f time (record x { distance = x.distance + further })

  reads : (x : Operand) → IsCovered depth (read_of b time x) → ReadIsWithin s.registers w.lines.items (read_of b time x) × (word_read s.registers w.lines.items (read_of b time x) ≡ operand_at b f time x)
  reads x covered = reads_operand b w s.registers f depth size work.count deep (few_words s.registers) at.shows time x covered

  covers : Each (λ (x : Assignment). IsCovered depth x.value) (map (assignment_of b time further) b.outs)
  covers = subst (Each (λ (x : Assignment). IsCovered depth x.value)) work.assignments deep.assignments

  pub all_within : AssignmentsAreWithin s.registers w.lines.items w.assignments.items
  all_within = subst (AssignmentsAreWithin s.registers w.lines.items) (sym work.assignments) (outs_within b s.registers w.lines.items depth time further value (λ x covered. reads (record x { distance = x.distance + further }) covered) b.outs covers)

  pub all_there : AssignmentsAreThere w.assignments.items (length s.registers.variables.items)
  all_there = subst (λ xs. AssignmentsAreThere xs (length s.registers.variables.items)) (sym work.assignments) (outs_there shapes b time further (length s.registers.variables.items) (length b.ops) b.outs at.body.variables at.body.whole.outs)

  pub all_taken : assigned (word_read s.registers w.lines.items) w.assignments.items (held s.registers.variables.items) ≡ taken value b.outs f.entry
  all_taken =
      ap (λ xs. assigned (word_read s.registers w.lines.items) xs (held s.registers.variables.items)) work.assignments
      ∙ outs_taken b s.registers w.lines.items depth time further value (λ x covered. reads (record x { distance = x.distance + further }) covered) b.outs (held s.registers.variables.items) covers
      ∙ ap (taken value b.outs) at.shows.entry

-- ---- a block

-- what is taken along from a block, and where control goes
pub block_leaves : (p : TimedProgram) (g : Program) (b : TimedBody) (end_ : End) (w : Work) (way_ : Way) (f : Flow) (s new : State) → IsStageOf p.shapes.widths (block b end_) (stage.Block w way_) → IsInside p.shapes b w f s → f.time ≡ b.interval
    → (AssignmentsAreWithin s.registers w.lines.items w.assignments.items → AssignmentsAreThere w.assignments.items (length s.registers.variables.items) → WayIsWithin s.registers w.lines.items way_
    → StandsAt p g (goes_to p.nodes (going_in (word_read s.registers w.lines.items) way_) (record { variables = assigned (word_read s.registers w.lines.items) w.assignments.items (held s.registers.variables.items); memories = words_in s.memories })) new)
    → StandsAt p g (block_left p.nodes b end_ f) new
block_leaves p g b end_ w way_ f s new form in_ last leaves =
    let depth = form.2.0 in
    let size = form.2.1.0 in
    let deep = form.2.1.1.0 in
    let covers = form.2.1.1.1 in
    let work = form.0 in
    let read = λ (x : Operand) (covered : IsCovered depth (read_of b b.interval x)). reads_operand b w s.registers f depth size work.count deep (few_words s.registers) in_.at.shows b.interval x covered in
    let made = leaves (all_within p.shapes b w f s in_.at b.interval 0 depth size work deep) (all_there p.shapes b w f s in_.at b.interval 0 depth size work deep)
    (way_within b s.registers w.lines.items depth b.interval (operand_at b f b.interval) read end_ way_ form.1 covers) in
    let goes = way_goes b s.registers w.lines.items depth b.interval (operand_at b f b.interval) read end_ way_ form.1 covers in
    let takes = all_taken p.shapes b w f s in_.at b.interval 0 depth size work deep ∙ ap (λ v. taken v b.outs f.entry) (same_distance b f b.interval) in
    subst (λ t. StandsAt p g (goes_to p.nodes (going_by (operand_at b f t) end_) (record { variables = taken (operand_at b f t) b.outs f.entry; memories = f.memories })) new) (sym last)
    (subst (λ m. StandsAt p g (goes_to p.nodes (going_by (operand_at b f b.interval) end_) (record { variables = taken (operand_at b f b.interval) b.outs f.entry; memories = m })) new) in_.memories
    (subst (λ v. StandsAt p g (goes_to p.nodes (going_by (operand_at b f b.interval) end_) (record { variables = v; memories = words_in s.memories })) new) takes
    (subst (λ x. StandsAt p g (goes_to p.nodes x (record { variables = assigned (word_read s.registers w.lines.items) w.assignments.items (held s.registers.variables.items); memories = words_in s.memories })) new) goes made)))

pub block_goes_on : (p : TimedProgram) (g : Program) (node : NodeId) (b : TimedBody) (end_ : End) (w : Work) (way_ : Way) (f : Flow) (s : State) → IsStateOf p g s → s.position ≡ position.Inside node → slice_get p.nodes node.0 ≡ Some (block b end_)
    → slice_get g.stages.items node.0 ≡ Some (stage.Block w way_) → IsInside p.shapes b w (tick p.shapes b f) s → f.time + 1 < b.interval → StandsAt p g (block_step p.shapes p.nodes node.0 b end_ f) s
block_goes_on p g node b end_ w way_ f s h where_ is at in_ more =
    subst (λ x. StandsAt p g x s) (sym (cond-true (nat_lt (f.time + 1) b.interval) (inside node.0 (tick p.shapes b f)) (block_left p.nodes b end_ (tick p.shapes b f)) (lt-ltb (f.time + 1) b.interval more))) (record {
      of_program = h;
      in_phase = (
        where_,
        record {
          node = block b end_;
          stage = stage.Block w way_;
          node_is = is;
          stage_is = at;
          inside = in_;
          before = (let e = next_time p.shapes b f in let z : (tick p.shapes b f).time < b.interval = omega (arith, e, more) in z);
        },
      );
    })

pub block_is_left : (p : TimedProgram) (g : Program) (i : ℕ) (b : TimedBody) (end_ : End) (f : Flow) (new : State) → b.interval ≤ f.time + 1 → StandsAt p g (block_left p.nodes b end_ (tick p.shapes b f)) new → StandsAt p g (block_step p.shapes p.nodes i b end_ f) new
block_is_left p g i b end_ f new over h = subst (λ x. StandsAt p g x new) (sym (cond-false (nat_lt (f.time + 1) b.interval) (inside i (tick p.shapes b f)) (block_left p.nodes b end_ (tick p.shapes b f)) (le-ltb (f.time + 1) b.interval over))) h

-- ---- a loop

-- the place of a gate is below what is told of gates
pub gate_near : (b : TimedBody) (exit : ℕ) → exit < 2 ^ 32 → place b.interval (known b) exit 0 < 2 ^ 64 - 1
gate_near b exit small = (let near = div-le_self (exit + 0 * b.interval - known b) b.interval in omega (arith, near, small))

pub loop_goes_on : (p : TimedProgram) (g : Program) (node : NodeId) (b : TimedBody) (last next : ℕ) (w : Work) (e : Exit) (f : Flow) (s : State) → IsStateOf p g s → s.position ≡ position.Inside node → slice_get p.nodes node.0 ≡ Some (overlapped b last next)
    → slice_get g.stages.items node.0 ≡ Some (stage.Loop w e) → IsInside p.shapes b w (tick p.shapes b f) s → (is_at b.interval last f.time && not (runs_at b f last)) ≡ false → StandsAt p g (loop_step p.shapes p.nodes node.0 b last next f) s
loop_goes_on p g node b last next w e f s h where_ is at in_ off =
    subst (λ x. StandsAt p g x s) (sym (stays_in (is_at b.interval last f.time) (runs_at b f last) (inside node.0 (tick p.shapes b f)) (loop_left p.shapes p.nodes b last next f) off)) (record {
      of_program = h;
      in_phase = (where_, record { node = overlapped b last next; stage = stage.Loop w e; node_is = is; stage_is = at; inside = in_; before = tt });
    })
  where
    stays_in : (on runs : Bool) (x y : Phase) → (on && not runs) ≡ false → (if on then (if runs then x else y) else x) ≡ x
    stays_in true true x y e2 = refl
    stays_in true false x y e2 = absurd (cc)
    stays_in false runs x y e2 = refl

-- The state behind the stores of the cycle takes values along.
pub loop_leaves : (p : TimedProgram) (g : Program) (i : ℕ) (b : TimedBody) (last next : ℕ) (w : Work) (e : Exit) (f : Flow) (s new : State) → IsStageOf p.shapes.widths (overlapped b last next) (stage.Loop w e) → HasStarted p.shapes b w f s
    → (is_at b.interval last f.time && not (runs_at b f last)) ≡ true
    → (AssignmentsAreWithin s.registers w.lines.items w.assignments.items → AssignmentsAreThere w.assignments.items (length s.registers.variables.items)
    → StandsAt p g (enter p.nodes e.next.0 (record { variables = assigned (word_read s.registers w.lines.items) w.assignments.items (held s.registers.variables.items); memories = words_in s.memories })) new)
    → StandsAt p g (loop_step p.shapes p.nodes i b last next f) new
loop_leaves p g i b last next w e f s new form started over leaves =
    let depth = form.5.0 in
    let size = form.5.1.0 in
    let deep = form.5.1.1 in
    let work = form.0 in
    let made = leaves (all_within p.shapes b w f s started.at last 1 depth size work deep) (all_there p.shapes b w f s started.at last 1 depth size work deep) in
    let takes = all_taken p.shapes b w f s started.at last 1 depth size work deep in
    let memories = started.memories ∙ sym (next_memories p.shapes b f) in
    subst (λ x. StandsAt p g x new) (sym (left_from (is_at b.interval last f.time) (runs_at b f last) (inside i (tick p.shapes b f)) (loop_left p.shapes p.nodes b last next f) over))
    (subst (λ m. StandsAt p g (enter p.nodes next (record { variables = taken (λ x. operand_at b f last (later x)) b.outs f.entry; memories = m })) new) memories
    (subst (λ v. StandsAt p g (enter p.nodes next (record { variables = v; memories = words_in s.memories })) new) takes
    (subst (λ k. StandsAt p g (enter p.nodes k (record { variables = assigned (word_read s.registers w.lines.items) w.assignments.items (held s.registers.variables.items); memories = words_in s.memories })) new) form.4 made)))
  where
    left_from : (on runs : Bool) (x y : Phase) → (on && not runs) ≡ true → (if on then (if runs then x else y) else x) ≡ y
    left_from true true x y e2 = absurd (cc)
    left_from true false x y e2 = refl
    left_from false runs x y e2 = absurd (cc)

-- ---- the node of a stage

pub cycle_block : (p : TimedProgram) (g : Program) (i : ℕ) (f : Flow) (s new : State) (w : Work) (way_ : Way) → IsStateOf p g s → IsInNode p g i f s → slice_get g.stages.items i ≡ Some (stage.Block w way_)
    → ((b : TimedBody) (end_ : End) → slice_get p.nodes i ≡ Some (block b end_) → IsInside p.shapes b w f s → f.time < b.interval → StandsAt p g (block_step p.shapes p.nodes i b end_ f) new)
    → StandsAt p g (node_step p.shapes p.nodes i f (slice_get p.nodes i)) new
cycle_block p g i f s new w way_ st in_ at made =
    subst (λ x. StandsAt p g (node_step p.shapes p.nodes i f x) new) (sym in_.node_is)
    (by_node in_.node in_.node_is (subst (IsStageOf p.shapes.widths in_.node) same (st.form.stages i in_.node in_.stage in_.node_is in_.stage_is)) (subst (λ it. IsInside p.shapes (body_at in_.node) (work_in it) f s) same in_.inside) in_.before)
  where
    same : in_.stage ≡ stage.Block w way_
    same = (let e = sym in_.stage_is ∙ at in cc)

    by_node : (n : TimedNode) → slice_get p.nodes i ≡ Some n → IsStageOf p.shapes.widths n (stage.Block w way_) → IsInside p.shapes (body_at n) w f s → IsBefore f.time n → StandsAt p g (node_step p.shapes p.nodes i f (Some n)) new
    by_node (block b end_) is form inside_ before = made b end_ is inside_ before
    by_node (overlapped b last next) is form inside_ before = absurd form

pub cycle_loop : (p : TimedProgram) (g : Program) (i : ℕ) (f : Flow) (s new : State) (w : Work) (e : Exit) → IsStateOf p g s → IsInNode p g i f s → slice_get g.stages.items i ≡ Some (stage.Loop w e)
    → ((b : TimedBody) (last next : ℕ) → slice_get p.nodes i ≡ Some (overlapped b last next) → IsInside p.shapes b w f s → StandsAt p g (loop_step p.shapes p.nodes i b last next f) new)
    → StandsAt p g (node_step p.shapes p.nodes i f (slice_get p.nodes i)) new
cycle_loop p g i f s new w e st in_ at made =
    subst (λ x. StandsAt p g (node_step p.shapes p.nodes i f x) new) (sym in_.node_is)
    (by_node in_.node in_.node_is (subst (IsStageOf p.shapes.widths in_.node) same (st.form.stages i in_.node in_.stage in_.node_is in_.stage_is)) (subst (λ it. IsInside p.shapes (body_at in_.node) (work_in it) f s) same in_.inside))
  where
    same : in_.stage ≡ stage.Loop w e
    same = (let z = sym in_.stage_is ∙ at in cc)

    by_node : (n : TimedNode) → slice_get p.nodes i ≡ Some n → IsStageOf p.shapes.widths n (stage.Loop w e) → IsInside p.shapes (body_at n) w f s → StandsAt p g (node_step p.shapes p.nodes i f (Some n)) new
    by_node (overlapped b last next) is form inside_ = made b last next is inside_
    by_node (block b end_) is form inside_ = absurd form

-- whether a loop is over is told by the gates
pub told : (on runs below : Bool) → runs ≡ not below → on ≡ true → below ≡ (on && not runs)
told true runs true e on = ap not (sym e)
told true runs false e on = ap not (sym e)
told false runs below e on = absurd (cc)
