-- Binary operators each of which is the left operand of the next, as in `a + b - c`.
use Rattle.std.specs.Prelude.{ℕ, zero, suc, ◌+◌}
use Rattle.c_tree.specs.Tree as tree
use Rattle.c_tree.specs.Tree.{Tree}

-- how many operators stand in such a row
abbrev pub operators : Tree → ℕ
operators (tree.binary op left right at) = operators left + 1
operators _ = 0

-- the left operand of the operator, if it is one
abbrev pub left_of : Tree → Tree
left_of (tree.binary op left right at) = left
left_of t = t

-- what is left of so many operators
abbrev pub left_at : ℕ → Tree → Tree
left_at zero t = t
left_at (suc n) t = left_of (left_at n t)
