use Rattle.std.proofs.Common.{length, sym, ap, ◌∙◌, subst}
use Rattle.flat_programs.specs.Memory.Contents.{dims_in, words_in}
use Rattle.clock_ir.specs.Flows.{gates_now}
use Rattle.clock_machine.specs.declared.lines.registers.Registers.{Registers}
use Rattle.clock_machine.specs.Lines.Registers.{SameSizes}
use Rattle.clock_machine.specs.Lines.Showing.{ShowsGates}
use Rattle.clock_machine.specs.declared.state.State.{State}
use Rattle.clock_machine.specs.Keeping.{IsForm, HasGiven, ShowsGiven}
use Rattle.clock_machine.specs.Standing.{KeepsRoom}
use Rattle.clock_machine.proofs.Staying.{body_stays}
use Rattle.clock_machine.proofs.Ticks.{ticked, form_stays, next_moment, next_gates, next_memories}
use Rattle.clock_machine.proofs.state.State.keep.Goals as goal

pub returns : goal.returns
returns c =
    let w = c.args.work.now in
    let s0 = c.args.self.now in
    let s1 = c.pass.new.self in
    let r0 = s0.registers in
    let r1 = c.keep_made.new.registers in
    let r2 = c.keep_ready.new.registers in
    let s2 = record s1 { registers = r2 } in
    let e = c.pass.ensures.same in
    let registers = ap (λ (s : State). s.registers) e in
    let made = c.keep_made.ensures.sizes in
    let ready = subst (λ (r : Registers). SameSizes r r2) registers c.keep_ready.ensures.sizes in
    let room : KeepsRoom s0 s2 = record {
      registers = record { variables = ready.variables ∙ made.variables; words = ready.words ∙ made.words; heads = ready.heads ∙ made.heads };
      args = ap (λ (s : State). length s.args.items) e;
      fresh = ap (λ (s : State). length s.fresh.items) e;
      dims = ap (λ (s : State). dims_in s.memories) e;
      first = ap (λ (s : State). s.first) e;
    } in
    record {
      ticks = λ shapes b f started.
          let form = started.at.body.form in
          let given = c.keep_made.ensures.kept shapes b f form started.at.moment (subst (HasGiven shapes b f) (sym c.deref.ensures.value) started.given) started.at.shows in
          let next = c.pass.ensures.moment b f (sym form.work.interval) form.positive started.at.moment in
          let form1 = form_stays shapes.widths b w r0 r1 made.words form in
          let there = c.keep_ready.ensures.ready shapes b f (subst (λ (r : Registers). IsForm shapes.widths b w r) (sym registers) form1) next (subst (λ (r : Registers). ShowsGiven shapes b w.lines.items r f) (sym registers) given) in
          record {
            at = record {
              body = body_stays shapes b w s0 s2 room started.at.body;
              shows = ticked shapes b w.lines.items r0 r2 f started.at.shows there (c.keep_ready.ensures.variables ∙ ap (λ (r : Registers). r.variables) registers ∙ c.keep_made.ensures.variables);
              moment = next_moment shapes b f s1.moment.phase s1.moment.time next;
            };
            gates = next_gates shapes b f s1.moment.failed (subst (λ n. ShowsGates (gates_now b f) n) (sym c.pass.ensures.failed) started.gates);
            memories = ap (λ (s : State). words_in s.memories) e ∙ started.memories ∙ sym (next_memories shapes b f);
          };
      position = ap (λ (s : State). s.position) e;
      returned = ap (λ (s : State). s.returned) e;
      room = room;
    }
