use Rattle.std.proofs.Common.{◌≡◌, ◌++◌, drop}
use Rattle.c_calls.specs.Linked.{sources}
use Rattle.c_calls.proofs.recursion.sources_of.Given as goal

abbrev pub invariant-loop-link : goal.invariant-loop-link
invariant-loop-link l = l.found.items ++ sources (drop l.link-index l.linked) l.callee ≡ sources l.linked l.callee
