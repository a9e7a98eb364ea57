-- The tree that a value of a Rust type is.
use Rattle.std.specs.Prelude.{List, [], ◌∷◌, Option, Some, None, map}
use Rattle.std.specs.Option.{option_map}
use Rattle.std.specs.declared.alloc.Global.{Global}
use Rattle.std.specs.declared.boxed.Box.{Box}
use Rattle.std.specs.declared.vec.Vec.{Vec}
use Rattle.c_tree.specs.Tree as tree
use Rattle.c_tree.specs.Tree.{Tree, TargetTree, Trees, row, ActionTree, InitTree, InitTrees, init_row, ObjectTree, StmtTree, ElseTree, FirstTree, StmtTrees, stmt_row, ParamTree, FunctionTree, ItemTree, ProgramTree}
use Rattle.c_tree.specs.declared.expression.Expr.{Expr}
use Rattle.c_tree.specs.declared.expression.Expr.TheOpen.{Expr-F, Target-F}
use Rattle.c_tree.specs.declared.expression.Expr.TheFolds.{fold-Expr, fold-Target}
use Rattle.c_tree.specs.declared.expression.Target.{Target}
use Rattle.c_tree.specs.declared.action.Action.{Action}
use Rattle.c_tree.specs.declared.action.Action.TheVariants as a
use Rattle.c_tree.specs.declared.object.Init.{Init}
use Rattle.c_tree.specs.declared.object.Init.TheOpen.{Init-F}
use Rattle.c_tree.specs.declared.object.Init.TheFolds.{fold-Init}
use Rattle.c_tree.specs.declared.object.Object.{Object}
use Rattle.c_tree.specs.declared.statement.Stmt.{Stmt}
use Rattle.c_tree.specs.declared.statement.Stmt.TheOpen.{Stmt-F, Else-F}
use Rattle.c_tree.specs.declared.statement.Stmt.TheFolds.{fold-Stmt, fold-Else}
use Rattle.c_tree.specs.declared.statement.Else.{Else}
use Rattle.c_tree.specs.declared.function.Param.{Param}
use Rattle.c_tree.specs.declared.function.Function.{Function}
use Rattle.c_tree.specs.declared.program.Item.{Item}
use Rattle.c_tree.specs.declared.program.Item.TheVariants as i
use Rattle.c_tree.specs.declared.program.Program.{Program}

-- ---- expressions

-- one node, with its children's trees in their places
abbrev pub tree_step : Expr-F Tree TargetTree → Tree
tree_step (Expr-F.Number value kind at) = tree.number value kind at
tree_step (Expr-F.Name text at) = tree.name text at
tree_step (Expr-F.Index array subscripts at) = tree.index array (row subscripts.items) at
tree_step (Expr-F.Call callee args at) = tree.call callee (row args.items) at
tree_step (Expr-F.Unary op arg at) = tree.unary op arg.value at
tree_step (Expr-F.Binary op left right at) = tree.binary op left.value right.value at
tree_step (Expr-F.Choice test left right at colon) = tree.choice test.value left.value right.value at colon
tree_step (Expr-F.Cast to arg at) = tree.cast to arg.value at
tree_step (Expr-F.Assign t op value at) = tree.assign t op value.value at
tree_step (Expr-F.Bump t up post at) = tree.bump t up post at
tree_step (Expr-F.Comma left right at) = tree.comma left.value right.value at

abbrev pub target_step : Target-F Tree TargetTree → TargetTree
target_step t = tree.target t.name (row t.subscripts.items) t.at

abbrev pub tree_of : Expr → Tree
tree_of = fold-Expr Tree TargetTree tree_step target_step

abbrev pub target_of : Target → TargetTree
target_of = fold-Target Tree TargetTree tree_step target_step

abbrev pub trees_of : List Expr → Trees
trees_of es = row (map tree_of es)

-- ---- actions, initialisers, objects

abbrev pub action_of : Action → ActionTree
action_of (a.Assign t op value at) = tree.assignment (target_of t) op (tree_of value) at
action_of (a.Bump t up at) = tree.bumping (target_of t) up at
action_of (a.Value value) = tree.evaluation (tree_of value)

abbrev pub init_step : Init-F InitTree → InitTree
init_step (Init-F.Single value) = tree.single (tree_of value)
init_step (Init-F.List items at) = tree.braced (init_row items.items) at

abbrev pub init_of : Init → InitTree
init_of = fold-Init InitTree init_step

abbrev pub inits_of : List Init → InitTrees
inits_of inits = init_row (map init_of inits)

abbrev pub object_of : Object → ObjectTree
object_of o = record {
  name = o.name;
  at = o.at;
  kind = o.kind;
  constant = o.constant;
  lengths = map (option_map tree_of) o.lengths.items;
  init = option_map init_of o.init;
}

-- ---- statements

abbrev pub else_part : Option ElseTree → ElseTree
else_part None = tree.no_else
else_part (Some e) = e

abbrev pub first_part : Option StmtTree → FirstTree
first_part None = tree.no_first
first_part (Some stmt) = tree.first stmt

abbrev pub boxed_part : Option (Box StmtTree Global) → FirstTree
boxed_part None = tree.no_first
boxed_part (Some stmt) = tree.first stmt.value

abbrev pub stmt_step : Stmt-F StmtTree ElseTree → StmtTree
stmt_step (Stmt-F.Block body) = tree.block (stmt_row body.items)
stmt_step (Stmt-F.Declare objects) = tree.declare (map object_of objects.items)
stmt_step (Stmt-F.Act actions) = tree.act (map action_of actions.items)
stmt_step (Stmt-F.If test body other at) = tree.if_ (tree_of test) body.value (else_part other) at
stmt_step (Stmt-F.Switch test body at) = tree.switch_ (tree_of test) (stmt_row body.items) at
stmt_step (Stmt-F.Case value body at) = tree.case_ (option_map tree_of value) body.value at
stmt_step (Stmt-F.While test body at) = tree.while_ (tree_of test) body.value at
stmt_step (Stmt-F.Do body test at) = tree.do_ body.value (tree_of test) at
stmt_step (Stmt-F.For init test step body at) = tree.for_ (boxed_part init) (option_map tree_of test) (map action_of step.items) body.value at
stmt_step (Stmt-F.Break at) = tree.break_ at
stmt_step (Stmt-F.Continue at) = tree.continue_ at
stmt_step (Stmt-F.Return value at) = tree.return_ (option_map tree_of value) at

abbrev pub else_step : Else-F StmtTree ElseTree → ElseTree
else_step e = tree.else_ e.at e.body.value

abbrev pub stmt_of : Stmt → StmtTree
stmt_of = fold-Stmt StmtTree ElseTree stmt_step else_step

abbrev pub else_of : Else → ElseTree
else_of = fold-Else StmtTree ElseTree stmt_step else_step

abbrev pub stmts_of : List Stmt → StmtTrees
stmts_of stmts = stmt_row (map stmt_of stmts)

-- ---- functions and programs

abbrev pub param_of : Param → ParamTree
param_of p = record { object = object_of p.object; named = p.named }

abbrev pub body_of : Option (Vec Stmt Global) → Option StmtTrees
body_of None = None
body_of (Some body) = Some (stmts_of body.items)

abbrev pub function_of : Function → FunctionTree
function_of f = record { name = f.name; at = f.at; result = f.result; params = map param_of f.params.items; body = body_of f.body }

abbrev pub item_of : Item → ItemTree
item_of (i.Function f) = tree.function (function_of f)
item_of (i.Objects os) = tree.objects (map object_of os.items)

abbrev pub program_of : Program → ProgramTree
program_of p = record { items = map item_of p.items.items; end = p.end }
