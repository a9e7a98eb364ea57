use Rattle.std.proofs.Common.{◌≡◌, drop}
use Rattle.passes.specs.Conversion.Joining as spec
use Rattle.if_convert.specs.Views.{guards_of}
use Rattle.if_convert.proofs.joining.bit_for.Given as goal

abbrev pub invariant-loop-guard : goal.invariant-loop-guard
invariant-loop-guard l = spec.bit_for (guards_of (drop l.guard-index l.guards)) l.own ≡ spec.bit_for (guards_of l.guards) l.own
