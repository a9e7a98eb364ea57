-- Statements with their names resolved, and the objects of their blocks by number: C11 6.2.1, 6.7, 6.8.
use Rattle.std.specs.Prelude.{ℕ, ◌+◌, List, [], ◌∷◌, ◌++◌, length, map, Option, Some, None}
use Rattle.std.specs.Option.{option_map}
use Rattle.c_token.specs.declared.ctype.CType.{CType}
use Rattle.c_tree.specs.Tree as tree
use Rattle.c_tree.specs.Tree.{Tree, InitTree, ObjectTree, StmtTree, ElseTree, FirstTree, StmtTrees}
use Rattle.c_value.specs.Values.{promoted, pattern, convert}
use Rattle.c_value.specs.Constant as k
use Rattle.c_value.specs.Constant.{ConstantValue, constant_value}
use Rattle.c_meaning.specs.Store.{lengths_in, declared_by, declared_in, declared_first}
use Rattle.c_meaning.specs.Statement.{items_of}
use Rattle.c_elaborate.specs.declared.names.Binding.{Binding}
use Rattle.c_elaborate.specs.declared.functions.Signature.{Signature}
use Rattle.pieces.specs.Resolved.Core as core
use Rattle.pieces.specs.Resolved.Core.{CoreTree, CoreInitTree, CoreStmtTree, CoreElseTree, CoreStmtTrees, stmt_row, CoreObjectTree}
use Rattle.c_elaborate.specs.declared.blocks.Scene.{Scene}
use Rattle.c_elaborate.specs.Objects.{objects_of, else_objects, first_objects, from}
use Rattle.c_elaborate.specs.Scenes.{opened, labelled_by, declared, all_declared}
use Rattle.c_elaborate.specs.Expressions.{elaborated, action_elaborated, kind_of}

-- ---- declarations, C11 6.7.9

-- Arrays have braces, and scalars have none.
abbrev pub written : List Signature → List Binding → List ℕ → InitTree → CoreInitTree
written fs names [] (tree.single v) = core.single (elaborated fs names v)
written fs names [] (tree.braced items at) = core.unwritten
written fs names (len ∷ lengths) init = core.elements (map (option_map (elaborated fs names)) (items_of (len ∷ lengths) init))

abbrev pub init_elaborated : List Signature → List Binding → List ℕ → Option InitTree → CoreInitTree
init_elaborated fs names lengths None = core.unwritten
init_elaborated fs names lengths (Some init) = written fs names lengths init

abbrev pub declaration : List Signature → Scene → ObjectTree → CoreStmtTree
declaration fs scene o = core.declare scene.next (init_elaborated fs (declared scene o).names (lengths_in o) o.init)

abbrev pub declarations : List Signature → Scene → List ObjectTree → List CoreStmtTree
declarations fs scene [] = []
declarations fs scene (o ∷ os) = declaration fs scene o ∷ declarations fs (declared scene o) os

-- ---- labels, C11 6.8.4.2 paragraph 5

abbrev pub value_pattern : CType → ConstantValue → ℕ
value_pattern kind (k.constant kind' n) = pattern kind (convert kind n)
value_pattern kind _ = 0

abbrev pub label_pattern : CType → Option Tree → Option ℕ
label_pattern kind None = None
label_pattern kind (Some t) = Some (value_pattern kind (constant_value t))

-- ---- statements

-- an item of a block: the declarations of the objects that it declares, or else the statement that it is
abbrev pub item : List Signature → Scene → List ObjectTree → CoreStmtTree → List CoreStmtTree
item fs scene [] stmt = stmt ∷ []
item fs scene (o ∷ os) stmt = declarations fs scene (o ∷ os)

-- The numbers from `free` on are those of objects in blocks that are not entered yet. A declaration is no statement: it stands in a block, or in the head of a `for`.
abbrev mutual
  pub statement : List Signature → Scene → ℕ → StmtTree → CoreStmtTree
  statement fs scene free (tree.block body) =
      core.block (from free (length (declared_in body))) (stmt_row (statements fs (opened scene free) (free + length (declared_in body)) body))
  statement fs scene free (tree.declare objects) = core.act []
  statement fs scene free (tree.act actions) = core.act (map (action_elaborated fs scene.names) actions)
  statement fs scene free (tree.if_ test body other at) =
      core.if_ (elaborated fs scene.names test) (statement fs scene free body) (else_statement fs scene (free + length (objects_of body)) other) at
  statement fs scene free (tree.switch_ test body at) =
      core.switch_ (elaborated fs scene.names test) (from free (length (declared_in body)))
      (stmt_row (statements fs (labelled_by (promoted (kind_of (elaborated fs scene.names test))) (opened scene free)) (free + length (declared_in body)) body)) at
  statement fs scene free (tree.case_ value body at) = core.case_ (label_pattern scene.labels value) (statement fs scene free body) at
  statement fs scene free (tree.while_ test body at) = core.while_ (elaborated fs scene.names test) (statement fs scene free body) at
  statement fs scene free (tree.do_ body test at) = core.do_ (statement fs scene free body) (elaborated fs scene.names test) at
  statement fs scene free (tree.for_ init test step body at) =
      core.for_ (from free (length (declared_first init)))
      (stmt_row (first_statements fs (opened scene free) (free + length (declared_first init)) init))
      (option_map (elaborated fs (all_declared (opened scene free) (declared_first init)).names) test)
      (map (action_elaborated fs (all_declared (opened scene free) (declared_first init)).names) step)
      (statement fs (all_declared (opened scene free) (declared_first init)) (free + length (declared_first init ++ first_objects init)) body) at
  statement fs scene free (tree.break_ at) = core.break_
  statement fs scene free (tree.continue_ at) = core.continue_
  statement fs scene free (tree.return_ value at) = core.return_ (option_map (elaborated fs scene.names) value)

  pub else_statement : List Signature → Scene → ℕ → ElseTree → CoreElseTree
  else_statement fs scene free tree.no_else = core.no_else
  else_statement fs scene free (tree.else_ at body) = core.else_ at (statement fs scene free body)

  -- the head of a `for`
  pub first_statements : List Signature → Scene → ℕ → FirstTree → List CoreStmtTree
  first_statements fs scene free tree.no_first = []
  first_statements fs scene free (tree.first part) = item fs scene (declared_by part) (statement fs scene free part)

  -- the items of a block, each with the names that are declared before it
  pub statements : List Signature → Scene → ℕ → StmtTrees → List CoreStmtTree
  statements fs scene free tree.no_stmt = []
  statements fs scene free (tree.more_stmts first rest) =
      item fs scene (declared_by first) (statement fs scene free first) ++ statements fs (all_declared scene (declared_by first)) (free + length (objects_of first)) rest
