-- What stays from one state to the next, and what a state has for each body of its program.
use Rattle.std.proofs.Common.{◌≡◌, ℕ, ◌+◌, ◌<◌, ◌≤◌, ◌^◌, List, [], ◌∷◌, length, get_or, slice_get, Some, refl, sym, ap, ◌∙◌, subst, arith}
use Rattle.std.proofs.lemmas.Option.{slice_get_within, slice_get-get_or}
use Rattle.ir_core.specs.Bodies.{Shapes}
use Rattle.flat_programs.specs.Memory.Contents.{dims_in}
use Rattle.clock_ir.specs.Flows.{TimedOp, TimedBody, Flow, latency}
use Rattle.clock_ir.specs.ClockRuns.{TimedNode, block, overlapped, TimedProgram}
use Rattle.clock_machine.specs.declared.lines.program.Action.{Action}
use Rattle.clock_machine.specs.declared.lines.program.Program.{Program}
use Rattle.clock_machine.specs.declared.lines.program.Stage.{Stage}
use Rattle.clock_machine.specs.declared.lines.program.Stage.TheVariants as stage
use Rattle.clock_machine.specs.declared.lines.program.Work.{Work}
use Rattle.clock_machine.specs.declared.lines.registers.Registers.{Registers}
use Rattle.clock_machine.specs.Lines.Forms.{IsWorkOf, IsStageOf}
use Rattle.clock_machine.specs.Lines.Registers.{SameSizes}
use Rattle.clock_machine.specs.Lines.Showing.{Shows}
use Rattle.clock_machine.specs.Lines.Stages.{work_in}
use Rattle.clock_machine.specs.declared.state.State.{State}
use Rattle.clock_machine.specs.Keeping.{IsForm}
use Rattle.clock_machine.specs.Standing.{HasRoom, body_at, IsSteadyBody, IsStateOf, KeepsRoom, IsBodyIn, IsAt}
use Rattle.clock_machine.proofs.Ticks.{form_stays}

-- ---- room

pub room_then : (r s t : State) → KeepsRoom r s → KeepsRoom s t → KeepsRoom r t
room_then r s t one two = record {
  registers = record {
    variables = two.registers.variables ∙ one.registers.variables;
    words = two.registers.words ∙ one.registers.words;
    heads = two.registers.heads ∙ one.registers.heads;
  };
  args = two.args ∙ one.args;
  fresh = two.fresh ∙ one.fresh;
  dims = two.dims ∙ one.dims;
  first = two.first ∙ one.first;
}

has_room : (w : Work) (s t : State) → KeepsRoom s t → HasRoom w s → HasRoom w t
has_room w s t keeps room = record {
  lines = record {
    words = λ k line is. subst (λ n. line.first + line.length ≤ n) (sym keeps.registers.words) (room.lines.words k line is);
    heads = subst (λ n. length w.lines.items ≤ n) (sym keeps.registers.heads) room.lines.heads;
  };
  args = λ k a is. subst (λ n. length a.args.items ≤ n) (sym keeps.args) (room.args k a is);
  given = subst (λ n. length w.actions.items ≤ n) (sym keeps.fresh) room.given;
  taken = subst (λ n. length w.assignments.items ≤ n) (sym keeps.fresh) room.taken;
}

pub state_stays : (p : TimedProgram) (g : Program) (s t : State) → KeepsRoom s t → IsStateOf p g s → IsStateOf p g t
state_stays p g s t keeps h = record {
  form = h.form;
  whole = h.whole;
  steady = h.steady;
  room = λ i it is. has_room (work_in it) s t keeps (h.room i it is);
  variables = keeps.registers.variables ∙ h.variables;
  dims = keeps.dims ∙ h.dims;
  first = ap (λ n. n.0) keeps.first ∙ h.first;
}

pub body_stays : (shapes : Shapes) (b : TimedBody) (w : Work) (s t : State) → KeepsRoom s t → IsBodyIn shapes b w s → IsBodyIn shapes b w t
body_stays shapes b w s t keeps h = record {
  form = form_stays shapes.widths b w s.registers t.registers keeps.registers.words h.form;
  whole = h.whole;
  room = has_room w s t keeps h.room;
  variables = keeps.registers.variables ∙ h.variables;
  dims = keeps.dims ∙ h.dims;
}

pub at_stays : (shapes : Shapes) (b : TimedBody) (w : Work) (f : Flow) (s t : State) → KeepsRoom s t → t.registers ≡ s.registers → t.moment.phase ≡ s.moment.phase → t.moment.time ≡ s.moment.time → IsAt shapes b w f s → IsAt shapes b w f t
at_stays shapes b w f s t keeps registers phase time h = record {
  body = body_stays shapes b w s t keeps h.body;
  shows = subst (λ r. Shows b w.lines.items r f) (sym registers) h.shows;
  moment = record { phase_is = phase ∙ h.moment.phase_is; time_is = time ∙ h.moment.time_is };
}

pub room_same : (s t : State) → t.registers ≡ s.registers → length t.args.items ≡ length s.args.items → length t.fresh.items ≡ length s.fresh.items → dims_in t.memories ≡ dims_in s.memories → t.first ≡ s.first → KeepsRoom s t
room_same s t registers args fresh dims first = record {
  registers = subst (λ r. SameSizes s.registers r) (sym registers) (record { variables = refl; words = refl; heads = refl });
  args = args;
  fresh = fresh;
  dims = dims;
  first = first;
}

-- ---- the bodies of a program

pub some_action : (xs : List Action) (k : ℕ) → k < length xs → Action
some_action [] k lt = absurd (omega (arith, lt))
some_action (x ∷ xs) k lt = x

-- each value is there at a time that a machine counts
soon : (widths : List ℕ) (b : TimedBody) (time further : ℕ) (w : Work) → IsWorkOf widths b time further w → (k : ℕ) (o : TimedOp) → slice_get b.ops k ≡ Some o → o.start + latency o < 2 ^ 64
soon widths b time further w work k o is =
    let within = slice_get_within b.ops k o is in
    let lt : k < length w.actions.items = omega (arith, within, work.count) in
    let d = some_action w.actions.items k lt in
    let act = work.actions k o (get_or w.actions.items k d) is (slice_get-get_or w.actions.items k d lt) in
    subst (λ n. n < 2 ^ 64) act.ready act.soon

pub stage_form : (widths : List ℕ) (n : TimedNode) (it : Stage) (r : Registers) → IsStageOf widths n it → IsSteadyBody (body_at n) → length r.words.items < 2 ^ 63 → IsForm widths (body_at n) (work_in it) r
stage_form widths (block b end_) (stage.Block w way) r h steady few = record {
  time = b.interval;
  further = 0;
  depth = h.2.0;
  size = h.2.1.0;
  work = h.0;
  deep = h.2.1.1.0;
  positive = steady.positive;
  few = few;
  early = steady.early;
  soon = soon widths b b.interval 0 w h.0;
}
stage_form widths (overlapped b exit next) (stage.Loop w e) r h steady few = record {
  time = exit;
  further = 1;
  depth = h.5.0;
  size = h.5.1.0;
  work = h.0;
  deep = h.5.1.1;
  positive = steady.positive;
  few = few;
  early = steady.early;
  soon = soon widths b exit 1 w h.0;
}
stage_form widths n it r h steady few = absurd h

pub few_words : (r : Registers) → length r.words.items < 2 ^ 63
few_words r = omega (arith, r.words.ok.0, r.words.ok.1, r.words.small)

pub body_in : (p : TimedProgram) (g : Program) (i : ℕ) (n : TimedNode) (it : Stage) (s : State) → IsStateOf p g s → slice_get p.nodes i ≡ Some n → slice_get g.stages.items i ≡ Some it → IsBodyIn p.shapes (body_at n) (work_in it) s
body_in p g i n it s h is at = record {
  form = stage_form p.shapes.widths n it s.registers (h.form.stages i n it is at) (h.steady i n is) (few_words s.registers);
  whole = h.whole i n is;
  room = h.room i it at;
  variables = h.variables;
  dims = h.dims;
}
