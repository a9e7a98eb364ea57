use Rattle.std.proofs.Common.{drop, ap, ◌∙◌}
use Rattle.c_names.proofs.DeclarationsLemmas.Layers.{drop_one}
use Rattle.c_names.proofs.declarations.names.Scopes.forget.Goals as goal

pub loop-i-preserved : goal.loop-i-preserved
loop-i-preserved c = c.forget_latest.ensures ∙ ap (drop 1) c.loop-i.invariant ∙ drop_one c.loop-i.i c.args.self.now
