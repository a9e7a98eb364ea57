use Rattle.std.proofs.Common.{◌≡◌, map, drop}
use Rattle.c_tree.specs.View.{param_of}
use Rattle.cosim_levels.specs.Rows.{texts_of, given_by_name}
use Rattle.cosim_levels.proofs.row.given_by_name.Given as goal

abbrev pub invariant-loop-k : goal.invariant-loop-k
invariant-loop-k l =
    given_by_name l.k (map param_of (drop l.k l.params)) l.name (texts_of l.values) ≡ given_by_name 0 (map param_of l.params) l.name (texts_of l.values)
