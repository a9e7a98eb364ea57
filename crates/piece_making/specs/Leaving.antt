-- Returns that leave a call before its end: those that are not in a tail position.
use Rattle.std.specs.Prelude.{Bool, true, false, ◌&&◌, ◌||◌, not}
use Rattle.pieces.specs.Resolved.Core as core
use Rattle.pieces.specs.Resolved.Core.{CoreStmtTree, CoreStmtTrees, CoreElseTree}

abbrev pub is_empty : CoreStmtTrees → Bool
is_empty core.no_stmt = true
is_empty (core.more_stmts first rest) = false

abbrev mutual
  -- `tail` says that the statement is in a tail position
  pub leaves : CoreStmtTree → Bool → Bool
  leaves (core.block objects body) tail = any_leaves body tail
  leaves (core.declare object init) tail = false
  leaves (core.act actions) tail = false
  leaves (core.if_ test body other at) tail = leaves body tail || else_leaves other tail
  leaves (core.switch_ test objects body at) tail = any_leaves body false
  leaves (core.case_ value body at) tail = leaves body false
  leaves (core.while_ test body at) tail = leaves body false
  leaves (core.do_ body test at) tail = leaves body false
  leaves (core.for_ objects init test step body at) tail = leaves body false
  leaves core.break_ tail = false
  leaves core.continue_ tail = false
  leaves (core.return_ value) tail = not tail

  pub else_leaves : CoreElseTree → Bool → Bool
  else_leaves core.no_else tail = false
  else_leaves (core.else_ at body) tail = leaves body tail

  -- the last one is in a tail position where the whole is
  pub any_leaves : CoreStmtTrees → Bool → Bool
  any_leaves core.no_stmt tail = false
  any_leaves (core.more_stmts first rest) tail = leaves first (tail && is_empty rest) || any_leaves rest tail
