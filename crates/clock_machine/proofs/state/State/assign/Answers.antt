use Rattle.std.proofs.Common.{◌≡◌, ◌≤◌, ℕ, List, length, take, map, refl, ap, ◌∙◌, subst, arith}
use Rattle.flat_programs.proofs.MemoryLemmas.Banks.{written_back}
use Rattle.clock_machine.specs.declared.lines.program.Assignment.{Assignment}
use Rattle.clock_machine.specs.declared.lines.program.Line.{Line}
use Rattle.clock_machine.specs.Leaving.{AssignmentsAreWithin, AssignmentsAreThere, with_words}
use Rattle.clock_machine.specs.Lines.Registers.{word_read}
use Rattle.clock_machine.specs.Lines.Registers.{held}
use Rattle.clock_machine.proofs.TakenWords.{words_read}
use Rattle.clock_machine.proofs.state.State.assign.Goals as goal

pub returns-clause-does : goal.returns-clause-does
returns-clause-does c = λ long within there.
    let s = c.args.self.now in
    let r = s.registers in
    let xs = c.args.work.now.assignments.items in
    let lines = c.args.work.now.lines.items in
    let vs = r.variables.items in
    let into = c.read_assigned.new.into in
    let new = c.set_assigned.new.variables in
    let into_count : length into ≡ s.fresh.len = omega (arith, c.read_assigned.auto.into, ap length c.deref_mut.ensures.value, s.fresh.ok.0) in
    let new_count : length new ≡ r.variables.len = omega (arith, c.set_assigned.auto.variables, ap length c.deref_mut-2.ensures.value, r.variables.ok.0) in
    let buffer : c.deref-4.result.now ≡ into = c.deref-4.ensures.value ∙ written_back s.fresh.len into s.fresh.items into_count in
    let Reads : List Line → List Assignment → Type 0 = λ ls as_.
    length as_ ≤ length c.deref_mut.result.now → AssignmentsAreWithin r ls as_ → take (length as_) into ≡ map (λ (x : Assignment). word_read r ls x.value) as_ in
    let reads = subst (λ as_. Reads lines as_) c.deref-2.ensures.value (subst (λ ls. Reads ls c.deref-2.result.now) c.deref.ensures.value c.read_assigned.ensures) (omega (arith, long, ap length c.deref_mut.ensures.value)) within in
    let Sets : List Assignment → List ℕ → List ℕ → Type 0 = λ as_ ws us. length as_ ≤ length ws → AssignmentsAreThere as_ (length us) → held new ≡ with_words as_ ws (held us) in
    let sets = subst (λ us. Sets xs into us) c.deref_mut-2.ensures.value
    (subst (λ ws. Sets xs ws c.deref_mut-2.result.now) buffer (subst (λ as_. Sets as_ c.deref-4.result.now c.deref_mut-2.result.now) c.deref-3.ensures.value c.set_assigned.ensures)) (omega (arith, long, into_count, s.fresh.ok.0)) there in
    ap held (written_back r.variables.len new vs new_count) ∙ sets ∙ words_read (word_read r lines) xs into (held vs) reads

pub returns-clause-room : goal.returns-clause-room
returns-clause-room c =
    let s = c.args.self.now in
    let r = s.registers in
    let into = c.read_assigned.new.into in
    let new = c.set_assigned.new.variables in
    let into_count : length into ≡ s.fresh.len = omega (arith, c.read_assigned.auto.into, ap length c.deref_mut.ensures.value, s.fresh.ok.0) in
    let new_count : length new ≡ r.variables.len = omega (arith, c.set_assigned.auto.variables, ap length c.deref_mut-2.ensures.value, r.variables.ok.0) in
    record {
      registers = record {
        variables = ap length (written_back r.variables.len new r.variables.items new_count) ∙ new_count ∙ r.variables.ok.0;
        words = refl;
        heads = refl;
      };
      args = refl;
      fresh = ap length (written_back s.fresh.len into s.fresh.items into_count) ∙ into_count ∙ s.fresh.ok.0;
      dims = refl;
      first = refl;
    }
