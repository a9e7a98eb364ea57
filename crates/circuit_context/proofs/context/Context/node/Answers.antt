use Rattle.std.proofs.Common.{◌≡◌, Some, sym, ap, ◌∙◌}
use Rattle.std.specs.Prelude.{slice_get}
use Rattle.std.proofs.lemmas.Option.{slice_get-get_or}
use Rattle.circuit_context.proofs.Early.{early_node}
use Rattle.circuit_context.proofs.context.Context.node.Goals as goal

pub returns-clause-early : goal.returns-clause-early
returns-clause-early c =
    let cfg = c.args.self.now.cfg.now in
    let stands : slice_get cfg.nodes.items c.args.node.0 ≡ Some c.index.result.now = slice_get-get_or cfg.nodes.items c.args.node.0 c.index.result.now c.requires ∙ ap Some (sym c.index.ensures) in
    early_node cfg c.args.node.0 c.index.result.now c.args.self.now.buildable stands
