use Rattle.std.proofs.Common.{◌≡◌, ◌++◌, drop}
use Rattle.unit_binding.specs.Binding.{requests_from}
use Rattle.unit_binding.proofs.bind.requests_of.Given as goal

abbrev pub invariant-loop-number : goal.invariant-loop-number
invariant-loop-number l =
    l.requests.items ++ requests_from l.times l.memories l.number (drop l.number l.body.ops.items) ≡ requests_from l.times l.memories 0 l.body.ops.items
