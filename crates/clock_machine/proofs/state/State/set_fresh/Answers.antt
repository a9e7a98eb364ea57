use Rattle.std.proofs.Common.{◌≡◌, length, set, ap, ◌∙◌, arith}
use Rattle.flat_programs.proofs.MemoryLemmas.Banks.{written_back}
use Rattle.clock_machine.proofs.state.State.set_fresh.Goals as goal

pub returns-clause-fresh : goal.returns-clause-fresh
returns-clause-fresh c =
    let fresh = c.args.self.now.fresh in
    let new = c.set_word.new.words in
    let count : length new ≡ fresh.len = omega (arith, c.set_word.auto.words, ap length c.deref_mut.ensures.value, fresh.ok.0) in
    written_back fresh.len new fresh.items count ∙ c.set_word.ensures ∙ ap (λ xs. set xs c.args.number c.args.word) c.deref_mut.ensures.value
