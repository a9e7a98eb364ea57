use Rattle.std.proofs.Common.{◌≡◌, ◌++◌, map, drop}
use Rattle.std.specs.List.{zip}
use Rattle.ir_layout.specs.Nodes.{case_of}
use Rattle.ir_layout.specs.Views.{number}
use Rattle.ir_layout.proofs.flat.choose.Given as goal

abbrev pub invariant-loop-index : goal.invariant-loop-index
invariant-loop-index l = map case_of l.chosen.items ++ zip (drop l.index l.tests) (map number (drop l.index l.cases)) ≡ zip l.tests (map number l.cases)
