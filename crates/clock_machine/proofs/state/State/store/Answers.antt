use Rattle.std.proofs.Common.{sym, ap}
use Rattle.ir_core.specs.Bodies.{Performed}
use Rattle.clock_machine.proofs.state.State.store.Goals as goal

pub returns-in-Store-clause-stores : goal.returns-in-Store-clause-stores
returns-in-Store-clause-stores c = λ store widths long within guard there. sym (ap (λ (p : Performed). p.words.memories) (c.act.ensures.does widths long within guard there))
