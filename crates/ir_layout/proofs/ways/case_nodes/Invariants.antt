use Rattle.std.proofs.Common.{◌≡◌, ◌++◌, ℕ, map, drop, get_or}
use Rattle.ir_layout.specs.Views.{number}
use Rattle.ir_layout.proofs.ways.case_nodes.Given as goal

abbrev pub invariant-loop-target : goal.invariant-loop-target
invariant-loop-target l =
    let node = λ (i : ℕ). get_or (map number l.starts) i (number l.after) in
    map number l.nodes.items ++ map node (drop l.target-index l.targets) ≡ map node l.targets
