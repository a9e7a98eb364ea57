-- The objects of a function: its parameters, and those of each block as it is entered.
use Rattle.std.specs.Prelude.{ℕ, zero, suc, ◌+◌, List, [], ◌∷◌, ◌++◌}
use Rattle.c_tree.specs.Tree as tree
use Rattle.c_tree.specs.Tree.{ObjectTree, StmtTree, ElseTree, FirstTree, StmtTrees}
use Rattle.c_meaning.specs.Store.{lengths_in, declared_in, declared_first}
use Rattle.pieces.specs.Resolved.Core.{CoreObjectTree}

abbrev pub object_elaborated : ObjectTree → CoreObjectTree
object_elaborated o = record { name = o.name; kind = o.kind; lengths = lengths_in o; constant = o.constant }

-- the objects that blocks within a statement declare, each block's before those of the blocks within it
abbrev mutual
  pub objects_of : StmtTree → List ObjectTree
  objects_of (tree.block body) = declared_in body ++ objects_within body
  objects_of (tree.declare objects) = []
  objects_of (tree.act actions) = []
  objects_of (tree.if_ test body other at) = objects_of body ++ else_objects other
  objects_of (tree.switch_ test body at) = declared_in body ++ objects_within body
  objects_of (tree.case_ value body at) = objects_of body
  objects_of (tree.while_ test body at) = objects_of body
  objects_of (tree.do_ body test at) = objects_of body
  objects_of (tree.for_ init test step body at) = (declared_first init ++ first_objects init) ++ objects_of body
  objects_of (tree.break_ at) = []
  objects_of (tree.continue_ at) = []
  objects_of (tree.return_ value at) = []

  pub else_objects : ElseTree → List ObjectTree
  else_objects tree.no_else = []
  else_objects (tree.else_ at body) = objects_of body

  pub first_objects : FirstTree → List ObjectTree
  first_objects tree.no_first = []
  first_objects (tree.first part) = objects_of part

  pub objects_within : StmtTrees → List ObjectTree
  objects_within tree.no_stmt = []
  objects_within (tree.more_stmts first rest) = objects_of first ++ objects_within rest

-- so many numbers
abbrev pub from : ℕ → ℕ → List ℕ
from first zero = []
from first (suc n) = first ∷ from (first + 1) n
