use Rattle.std.proofs.Common.{◌∙◌, sym}
use Rattle.circuit_context.proofs.Loading.{stores_same, stores_more, on_ok}
use Rattle.circuit_context.proofs.stores.note.Goals as goal

pub returns-in_default : goal.returns-in_default
returns-in_default c = λ before h. stores_same c.args.span before c.args.op.now c.args.stores.now (sym c.stored_to.ensures ∙ c.in_default.is) h

pub returns : goal.returns
returns c = λ before h. on_ok c.note_first.result (stores_more c.args.span before c.args.op.now c.in-Some.array c.args.stores.now c.note_first.new.stores (sym c.stored_to.ensures ∙ c.in-Some.is) h) c.note_first.ensures
