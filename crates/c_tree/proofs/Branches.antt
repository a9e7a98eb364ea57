-- Whether a statement ends with an `if` that has no `else` is no matter of places.
use Rattle.std.proofs.Common.{◌≡◌, refl}
use Rattle.c_tree.specs.Tree as tree
use Rattle.c_tree.specs.Tree.{StmtTree, ElseTree}
use Rattle.c_tree.specs.Grammar.{ends_open, else_open}
use Rattle.c_tree.specs.Places.{unplaced_stmt, unplaced_else}

mutual
  pub ends_open_alone : (stmt : StmtTree) → ends_open (unplaced_stmt stmt) ≡ ends_open stmt
  ends_open_alone (tree.block body) = refl
  ends_open_alone (tree.declare objects) = refl
  ends_open_alone (tree.act actions) = refl
  ends_open_alone (tree.if_ test body other at) = else_ends_open other
  ends_open_alone (tree.switch_ test body at) = refl
  ends_open_alone (tree.case_ value body at) = ends_open_alone body
  ends_open_alone (tree.while_ test body at) = ends_open_alone body
  ends_open_alone (tree.do_ body test at) = refl
  ends_open_alone (tree.for_ init test step body at) = ends_open_alone body
  ends_open_alone (tree.break_ at) = refl
  ends_open_alone (tree.continue_ at) = refl
  ends_open_alone (tree.return_ value at) = refl

  else_ends_open : (other : ElseTree) → else_open (unplaced_else other) ≡ else_open other
  else_ends_open tree.no_else = refl
  else_ends_open (tree.else_ at body) = ends_open_alone body
