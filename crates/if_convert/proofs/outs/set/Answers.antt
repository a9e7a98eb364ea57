use Rattle.std.proofs.Common.{◌∙◌, ap, map}
use Rattle.if_convert.specs.Entries.{out_of}
use Rattle.if_convert.proofs.Setting.{inserted}
use Rattle.if_convert.proofs.outs.set.Goals as goal

pub returns : goal.returns
returns c = ap (map out_of) c.in_ok-insert.ensures.entries ∙ inserted c.args.sets.now.entries c.args.variable c.args.value
