-- An expression as its innermost part and the operators around it.
use Rattle.std.specs.Prelude.{Bool, true, false, List, [], ◌∷◌}
use Rattle.c_tree.specs.Tree as tree
use Rattle.c_tree.specs.Tree.{Tree}
use Rattle.c_elaborate.specs.declared.chains.Step.{Step}
use Rattle.c_elaborate.specs.declared.chains.Step.TheVariants as s
use Rattle.pieces.specs.Resolved.Core as core
use Rattle.pieces.specs.Resolved.Core.{CoreTree}
use Rattle.pieces.specs.Resolved.CoreView.{core_of, core_target_of}
use Rattle.c_elaborate.specs.Expressions.{unary_of, binary_of}

-- no operator of a chain is at the top
abbrev pub is_innermost : Tree → Bool
is_innermost (tree.unary op arg at) = false
is_innermost (tree.binary op left right at) = false
is_innermost (tree.cast to arg at) = false
is_innermost (tree.assign changed op value at) = false
is_innermost (tree.comma left right at) = false
is_innermost _ = true

-- the operator with the part that it goes on with
abbrev pub step : Step → CoreTree → CoreTree
step (s.Unary op at) part = unary_of op part at
step (s.Cast to) part = core.cast to part
step (s.Binary op right at) part = binary_of op part (core_of right) at
step (s.Assign target op at) part = core.assign (core_target_of target) op part at
step (s.Comma right) part = core.comma part (core_of right)

-- outermost first
abbrev pub steps : List Step → CoreTree → CoreTree
steps [] part = part
steps (first ∷ rest) part = step first (steps rest part)
