use Rattle.std.proofs.Common.{ap}
use Rattle.std.proofs.lemmas.Option.{slice_get_within}
use Rattle.c_machine.specs.State.PassedPaths.{path_in}
use Rattle.c_machine.proofs.StateLemmas.PathNumbers.{extends-both}
use Rattle.c_machine.proofs.state.meter.path_number.Goals as goal

pub loop-i-preserved : goal.loop-i-preserved
loop-i-preserved c = record {
  table = c.call_number.ensures.table;
  kept = extends-both c.args.calls.now.entries c.loop-i.calls.entries c.call_number.new.calls.entries c.loop-i.invariant.kept c.call_number.ensures.kept;
  number = slice_get_within c.call_number.new.calls.entries c.in_ok-call_number.field-0 _ c.in_ok-call_number.ensures.number;
  path = ap path_in c.in_ok-call_number.ensures.number;
}
