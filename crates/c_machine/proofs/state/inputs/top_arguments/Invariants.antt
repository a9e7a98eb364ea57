use Rattle.std.proofs.Common.{◌≡◌, ◌≤◌, ◌+◌, ◌++◌, map, drop}
use Rattle.c_tree.specs.View.{param_of}
use Rattle.c_meaning.specs.Run.{top_arguments}
use Rattle.c_machine.proofs.state.inputs.top_arguments.Given as goal

abbrev pub invariant-loop-param : goal.invariant-loop-param
invariant-loop-param l =
    record {
      rest : l.arguments.items ++ top_arguments (map param_of (drop l.param-index l.params)) l.words l.array ≡ top_arguments (map param_of l.params) l.scalars l.next;
      bound : l.array ≤ l.next + l.param-index;
    }
