use Rattle.std.proofs.Common.{length, sym, ap, ◌∙◌, subst}
use Rattle.flat_programs.specs.Memory.Contents.{dims_in, words_in}
use Rattle.clock_ir.specs.Flows.{gates_now}
use Rattle.clock_machine.specs.Lines.Showing.{ShowsGates}
use Rattle.clock_machine.specs.declared.state.State.{State}
use Rattle.clock_machine.specs.Keeping.{HasGiven}
use Rattle.clock_machine.proofs.Staying.{room_then, room_same, at_stays}
use Rattle.clock_machine.proofs.state.State.start.Goals as goal

pub returns : goal.returns
returns c =
    let s0 = c.args.self.now in
    let s1 = c.see_test.new.self in
    let s2 = c.start_values.new.self in
    let s3 = c.start_stores.new.self in
    let e1 = c.see_test.ensures.same in
    let e2 = c.start_values.ensures.same in
    let e3 = c.start_stores.ensures.same in
    let room1 = room_same s0 s1 (ap (λ (s : State). s.registers) e1) (ap (λ (s : State). length s.args.items) e1) (ap (λ (s : State). length s.fresh.items) e1) (ap (λ (s : State). dims_in s.memories) e1) (ap (λ (s : State). s.first) e1) in
    let room2 = room_same s1 s2 (ap (λ (s : State). s.registers) e2) c.start_values.ensures.args c.start_values.ensures.fresh (ap (λ (s : State). dims_in s.memories) e2) (ap (λ (s : State). s.first) e2) in
    let room3 = room_same s2 s3 (ap (λ (s : State). s.registers) e3) c.start_stores.ensures.args (ap (λ (s : State). length s.fresh.items) e3) c.start_stores.ensures.dims (ap (λ (s : State). s.first) e3) in
    record {
      started = λ shapes b f in_.
          let w = c.args.work.now in
          let at1 = at_stays shapes b w f s0 s1 room1 (ap (λ (s : State). s.registers) e1) (ap (λ (s : State). s.moment.phase) e1) (ap (λ (s : State). s.moment.time) e1) in_.at in
          let at2 = at_stays shapes b w f s1 s2 room2 (ap (λ (s : State). s.registers) e2) (ap (λ (s : State). s.moment.phase) e2) (ap (λ (s : State). s.moment.time) e2) at1 in
          let at3 = at_stays shapes b w f s2 s3 room3 (ap (λ (s : State). s.registers) e3) (ap (λ (s : State). s.moment.phase) e3) (ap (λ (s : State). s.moment.time) e3) at2 in
          let memories1 = ap (λ (s : State). words_in s.memories) e1 ∙ in_.memories in
          let memories2 = ap (λ (s : State). words_in s.memories) e2 ∙ memories1 in
          let gates1 = c.see_test.ensures.gates shapes b f in_.at in_.gates in
          let gates2 = subst (λ n. ShowsGates (gates_now b f) n) (sym (ap (λ (s : State). s.moment.failed) e2)) gates1 in
          record {
            at = at3;
            gates = subst (λ n. ShowsGates (gates_now b f) n) (sym (ap (λ (s : State). s.moment.failed) e3)) gates2;
            memories = c.start_stores.ensures.stores shapes b f at2 gates2 memories2;
            given = subst (HasGiven shapes b f) (sym (ap (λ (s : State). s.fresh.items) e3)) (c.start_values.ensures.given shapes b f at1 memories1);
          };
      position = ap (λ (s : State). s.position) e3 ∙ ap (λ (s : State). s.position) e2 ∙ ap (λ (s : State). s.position) e1;
      returned = ap (λ (s : State). s.returned) e3 ∙ ap (λ (s : State). s.returned) e2 ∙ ap (λ (s : State). s.returned) e1;
      room = room_then s0 s2 s3 (room_then s0 s1 s2 room1 room2) room3;
    }
