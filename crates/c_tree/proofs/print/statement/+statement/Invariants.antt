use Rattle.std.proofs.Common.{◌≡◌, ◌∷◌, ◌++◌, drop}
use Rattle.c_token.specs.declared.punct.Punct.TheVariants as p
use Rattle.c_tree.specs.View.{stmts_of}
use Rattle.c_tree.specs.Rows.{sign}
use Rattle.c_tree.specs.StatementRows as rows
use Rattle.c_tree.proofs.print.statement.+statement.Given as goal

abbrev pub invariant-push_block-loop-stmt : goal.invariant-push_block-loop-stmt
invariant-push_block-loop-stmt l =
    l.row.items ++ rows.body_row (stmts_of (drop l.stmt-index l.body)) (rows.deeper l.depth)
    ≡ l.fn.row.items ++ sign p.LeftBrace ∷ rows.body_row (stmts_of l.body) (rows.deeper l.depth)
