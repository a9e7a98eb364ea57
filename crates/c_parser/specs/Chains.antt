-- A chain of assignments groups to the right, C11 6.5.16.
use Rattle.std.specs.Prelude.{List, [], ◌∷◌}
use Rattle.c_tree.specs.Tree as tree
use Rattle.c_tree.specs.Tree.{Tree}
use Rattle.c_tree.specs.View.{target_of}
use Rattle.c_parser.specs.declared.chain.Assigned.{Assigned}

abbrev pub assigned : Assigned → Tree → Tree
assigned a value = tree.assign (target_of a.target) a.op value a.at

-- the value of each target is what stands behind it
abbrev pub all_assigned : List Assigned → Tree → Tree
all_assigned [] value = value
all_assigned (a ∷ chain) value = assigned a (all_assigned chain value)
