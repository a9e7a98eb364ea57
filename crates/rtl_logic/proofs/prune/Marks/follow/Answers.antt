use Rattle.std.proofs.Common.{◌∙◌, ◌++◌, ◌∷◌, [], ap, sym}
use Rattle.rtl_logic.specs.Marking.{Search, marked_of, search_of}
use Rattle.rtl_logic.proofs.Spreading.{pushed, pushed_in, not_true}
use Rattle.rtl_logic.proofs.prune.Marks.follow.Goals as goal

pub returns-in_ok-push-clause-spreads : goal.returns-in_ok-push-clause-spreads
returns-in_ok-push-clause-spreads c =
    let after : Search = record { marked = marked_of c.mark.new.self; waiting = c.push.new.self.items } in
    pushed (search_of c.args.self.now) after c.args.atom (not_true _ (sym c.mark.ensures.fresh ∙ c.if-mark.true)) c.mark.ensures.marks
    (c.in_ok-push.ensures.items ∙ ap (λ l. l ++ c.args.atom ∷ []) c.mark.ensures.waits)

pub returns-in_ok-push-clause-least : goal.returns-in_ok-push-clause-least
returns-in_ok-push-clause-least c =
    let after : Search = record { marked = marked_of c.mark.new.self; waiting = c.push.new.self.items } in
    pushed_in (search_of c.args.self.now) after c.args.atom c.mark.ensures.marks (c.in_ok-push.ensures.items ∙ ap (λ l. l ++ c.args.atom ∷ []) c.mark.ensures.waits)
