use Rattle.std.proofs.Common.{◌≡◌, ◌++◌, map, drop}
use Rattle.ir_layout.specs.Nodes.{case_of}
use Rattle.op_chain.specs.Fusing.{moved_case}
use Rattle.op_chain.proofs.fuse.moved_cases.Given as goal

abbrev pub invariant-loop-case : goal.invariant-loop-case
invariant-loop-case l = map case_of l.done.items ++ map (moved_case l.now) (map case_of (drop l.case-index l.cases)) ≡ map (moved_case l.now) (map case_of l.cases)
