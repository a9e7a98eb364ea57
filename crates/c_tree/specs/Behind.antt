-- The parts of an expression in a row, as they are printed.
use Rattle.std.specs.Prelude.{ℕ, ◌-◌, Bool, true, false, List, [], ◌∷◌, ◌++◌}
use Rattle.c_token.specs.declared.ctype.CType.{CType}
use Rattle.c_token.specs.declared.punct.Punct.TheVariants as p
use Rattle.c_tree.specs.declared.print.behind.Behind.{Behind}
use Rattle.c_tree.specs.declared.print.behind.Behind.TheVariants as b
use Rattle.c_tree.specs.Grammar.{level_of, binary_level, assign_level, comma_level}
use Rattle.c_tree.specs.Rows.{Row, sign, word, operator_sign, bump_sign, infix_row, comma_row, kind_row, target_row, list_row, expression_row}
use Rattle.c_tree.specs.Tree.{Tree, TargetTree, Trees}
use Rattle.c_tree.specs.View.{tree_of}

-- parentheses around an operand that is not tight
abbrev pub opening : Bool → Row
opening true = []
opening false = sign p.LeftParen ∷ []

abbrev pub closing : Bool → List Behind
closing true = []
closing false = b.Closing ∷ []

abbrev pub part_row : Behind → Row
part_row b.Closing = sign p.RightParen ∷ []
part_row (b.Operator op right) = infix_row (operator_sign op) ++ expression_row (level_of op - 1) (tree_of right.now)
part_row (b.Comma right) = comma_row ++ expression_row assign_level (tree_of right.now)

-- the last part comes first
abbrev pub behind_row : List Behind → Row
behind_row [] = []
behind_row (part ∷ parts) = behind_row parts ++ part_row part

-- the first two operands of `?:`, with its signs
abbrev pub branch_row : Tree → Tree → Row
branch_row test left = expression_row binary_level test ++ (infix_row p.Question ++ (expression_row comma_level left ++ infix_row p.Colon))

-- a type in parentheses
abbrev pub cast_row : CType → Row
cast_row to = sign p.LeftParen ∷ (kind_row false to ++ sign p.RightParen ∷ [])

abbrev pub bump_row : TargetTree → Bool → Bool → Row
bump_row changed up true = target_row changed ++ sign (bump_sign up) ∷ []
bump_row changed up false = sign (bump_sign up) ∷ target_row changed

abbrev pub call_row : List ℕ → Trees → Row
call_row callee args = word callee ∷ sign p.LeftParen ∷ (list_row args ++ sign p.RightParen ∷ [])
