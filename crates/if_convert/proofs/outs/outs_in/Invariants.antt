use Rattle.std.proofs.Common.{◌≡◌, ◌++◌, map}
use Rattle.if_convert.specs.Entries.{out_of, outs_of}
use Rattle.if_convert.proofs.outs.outs_in.Given as goal

abbrev pub invariant-loop-variable : goal.invariant-loop-variable
invariant-loop-variable l = l.outs.items ++ map out_of l.variable-iterator ≡ outs_of l.sets
