use Rattle.std.proofs.Common.{Some, None, subst}
use Rattle.std.proofs.lemmas.Result.{IfOk-weaker}
use Rattle.rtl_logic.specs.Making.{circuit}
use Rattle.circuit_units.specs.Memories.Places.{IsOtherValue}
use Rattle.circuit_units.proofs.MemoriesLemmas.Chosen.{chosen_else, chosen_only}
use Rattle.circuit_units.proofs.memories.ports.chosen.Goals as goal

pub returns-in-Some : goal.returns-in-Some
returns-in-Some c = λ p names writes value begun between h other.
    let d = circuit c.args.logic.now in
    let there : IsOtherValue p names d c.args.bits (Some c.in-Some.other) value = subst (λ o. IsOtherValue p names d c.args.bits o value) c.in-Some.is other in
    IfOk-weaker c.selected_or.result _ _
    (λ a made. chosen_else p names d (circuit c.selected_or.new.self) c.args.bits a c.in-Some.other c.args.choices.now writes value begun h there made)
    (c.selected_or.ensures c.args.bits begun.sound between h.fit there.fits)

pub returns-in-None : goal.returns-in-None
returns-in-None c = λ p names writes value begun between h other.
    let d = circuit c.args.logic.now in
    let none : IsOtherValue p names d c.args.bits None value = subst (λ o. IsOtherValue p names d c.args.bits o value) c.in-None.is other in
    IfOk-weaker c.selected.result _ _ (λ a made. chosen_only p names d (circuit c.selected.new.self) c.args.bits a c.args.choices.now writes value begun h none made)
    (c.selected.ensures begun.sound between h.fit)
