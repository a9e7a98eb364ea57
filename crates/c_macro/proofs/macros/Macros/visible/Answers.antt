use Rattle.c_macro.proofs.macros.Macros.visible.Goals as goal
use Rattle.std.proofs.Common.{◌∙◌}
use Rattle.c_macro.proofs.TableLemmas.{not_found, absent_word, hidden_at, shown_at, value_at}

pub returns-in_err-index : goal.returns-in_err-index
returns-in_err-index c =
    rw c.from_residual.ensures (rw c.in-Word.is
    (absent_word c.in-Word.word c.args.hidden.now c.args.self.now
    (rw c.items.ensures at (not_found c.items.result.now c.self.inside.bodies.entries c.args.self.now c.self.view_is c.in_err-index.ensures.found))))

pub returns-then-hidden-index : goal.returns-then-hidden-index
returns-then-hidden-index c =
    rw c.in-Word.is (rw c.items.ensures at
    (hidden_at c.items.result c.self.inside.bodies.entries c.args.self.now c.args.hidden.now c.in_ok-index.index c.self.view_is c.in_ok-index.ensures.unique
    c.in_ok-index.ensures.index c.if-hidden-index.true))

pub returns : goal.returns
returns c =
    rw c.in-Word.is (rw c.items.ensures at
    (shown_at c.items.result c.self.inside.bodies.entries c.args.self.now c.args.hidden.now c.in_ok-index.index c.in_ok-body.body.now c.self.view_is c.requires
    c.in_ok-index.ensures.index c.if-hidden-index.false (value_at c.self.inside.bodies.entries c.in_ok-index.index (c.in_ok-body.field-0-0.now, c.in_ok-body.body.now) c.in_ok-body.ensures.entry
    ∙ c.in_ok-index.ensures.value)))
