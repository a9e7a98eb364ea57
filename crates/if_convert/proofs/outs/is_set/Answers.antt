use Rattle.std.proofs.Common.{◌∙◌, ap, sym, is_some}
use Rattle.if_convert.proofs.Setting.{copied_there, is_found}
use Rattle.if_convert.proofs.outs.is_set.Goals as goal

pub returns : goal.returns
returns c = c.is_some.ensures ∙ sym (copied_there c.get.result) ∙ ap is_some c.get.ensures.value ∙ sym (is_found c.args.sets.now.entries c.args.variable)
