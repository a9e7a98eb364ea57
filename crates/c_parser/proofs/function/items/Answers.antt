use Rattle.std.proofs.Common.{◌∙◌, ap, sym, map, append-nil}
use Rattle.c_tree.specs.View.{item_of}
use Rattle.c_parser.proofs.CursorLemmas.Exits.{through}
use Rattle.c_parser.proofs.CursorLemmas.Readings.{grows_more, grows_last, grows_never, repeated_more, repeated_never, pushed}
use Rattle.c_parser.proofs.FunctionForms.{items_end, items_go_on, items_apart}
use Rattle.c_parser.proofs.function.items.Goals as goal

pub returns-in_err-one-clause-absent : goal.returns-in_err-one-clause-absent
returns-in_err-one-clause-absent c = let o = c.in-Some.ensures in
    through _ c.in_err-one.field-0.0 _ _ c.from_residual.ensures.1 (λ y e. e) c.in_err-one.ensures.absent
    (λ n. grows_never _ _ _ c.loop-token.invariant (repeated_never items_apart _ (items_go_on _ _ _ o.1) n))

pub loop-token-preserved : goal.loop-token-preserved
loop-token-preserved c = let o = c.in-Some.ensures in
    grows_more _ _ _ _ _ _ (ap (map item_of) c.in_ok-push.ensures.items ∙ pushed item_of _ _) c.loop-token.invariant (repeated_more items_apart _ _ _ (items_go_on _ _ _ o.1) c.in_ok-one.ensures.found)

pub returns-clause-found : goal.returns-clause-found
returns-clause-found c = grows_last _ _ _ _ _ _ (sym (append-nil _)) c.loop-token.invariant (items_end _ c.in_default.ensures)
