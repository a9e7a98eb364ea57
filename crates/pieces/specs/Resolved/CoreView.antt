-- The core tree that a value of a Rust type is.
use Rattle.std.specs.Prelude.{ℕ, List, map, Option, Some, None}
use Rattle.std.specs.Option.{option_map}
use Rattle.pieces.specs.declared.resolved.expression.CoreExpr.{CoreExpr}
use Rattle.pieces.specs.declared.resolved.expression.Argument.TheOpen.{CoreExpr-F, Argument-F, CoreTarget-F}
use Rattle.pieces.specs.declared.resolved.expression.Argument.TheFolds.{fold-CoreExpr, fold-Argument, fold-CoreTarget}
use Rattle.pieces.specs.declared.resolved.expression.Argument.{Argument}
use Rattle.pieces.specs.declared.resolved.expression.CoreTarget.{CoreTarget}
use Rattle.pieces.specs.declared.resolved.statement.CoreStmt.{CoreStmt}
use Rattle.pieces.specs.declared.resolved.statement.CoreStmt.TheOpen.{CoreStmt-F, CoreElse-F}
use Rattle.pieces.specs.declared.resolved.statement.CoreStmt.TheFolds.{fold-CoreStmt, fold-CoreElse}
use Rattle.pieces.specs.declared.resolved.statement.CoreElse.{CoreElse}
use Rattle.pieces.specs.declared.resolved.statement.CoreAction.{CoreAction}
use Rattle.pieces.specs.declared.resolved.statement.CoreAction.TheVariants as a
use Rattle.pieces.specs.declared.resolved.statement.CoreInit.{CoreInit}
use Rattle.pieces.specs.declared.resolved.statement.CoreInit.TheVariants as i
use Rattle.pieces.specs.declared.resolved.program.CoreObject.{CoreObject}
use Rattle.pieces.specs.declared.resolved.program.FileObject.{FileObject}
use Rattle.pieces.specs.declared.resolved.program.CoreFunction.{CoreFunction}
use Rattle.pieces.specs.declared.resolved.program.CoreProgram.{CoreProgram}
use Rattle.pieces.specs.Resolved.Core as core
use Rattle.pieces.specs.Resolved.Core.{CoreTree, CoreTargetTree, CoreTrees, row, ArgumentTree, ArgumentTrees, argument_row, CoreActionTree, CoreInitTree, CoreStmtTree, CoreElseTree, CoreStmtTrees, stmt_row, CoreObjectTree, FileObjectTree, CoreFunctionTree, CoreProgramTree}

-- ---- expressions

-- one node, with its children's trees in their places
abbrev pub core_step : CoreExpr-F ArgumentTree CoreTree CoreTargetTree → CoreTree
core_step (CoreExpr-F.Number value kind) = core.number value kind
core_step (CoreExpr-F.Scalar cell kind at) = core.scalar cell kind at
core_step (CoreExpr-F.Element array subscripts kind at) = core.element array (row subscripts.items) kind at
core_step (CoreExpr-F.Call callee args kind at) = core.call callee (argument_row args.items) kind at
core_step (CoreExpr-F.Unary op arg kind at) = core.unary op arg.value kind at
core_step (CoreExpr-F.Binary op left right kind at) = core.binary op left.value right.value kind at
core_step (CoreExpr-F.Choice test left right kind at colon) = core.choice test.value left.value right.value kind at colon
core_step (CoreExpr-F.Cast to arg) = core.cast to arg.value
core_step (CoreExpr-F.Assign t op value at) = core.assign t op value.value at
core_step (CoreExpr-F.Bump t up post at) = core.bump t up post at
core_step (CoreExpr-F.Comma left right) = core.comma left.value right.value

abbrev pub argument_step : Argument-F ArgumentTree CoreTree CoreTargetTree → ArgumentTree
argument_step (Argument-F.Value value) = core.given value
argument_step (Argument-F.Array cell) = core.array cell

abbrev pub target_step : CoreTarget-F ArgumentTree CoreTree CoreTargetTree → CoreTargetTree
target_step t = core.target t.cell (row t.subscripts.items) t.kind t.at

abbrev pub core_of : CoreExpr → CoreTree
core_of = fold-CoreExpr ArgumentTree CoreTree CoreTargetTree argument_step core_step target_step

abbrev pub core_argument_of : Argument → ArgumentTree
core_argument_of = fold-Argument ArgumentTree CoreTree CoreTargetTree argument_step core_step target_step

abbrev pub core_target_of : CoreTarget → CoreTargetTree
core_target_of = fold-CoreTarget ArgumentTree CoreTree CoreTargetTree argument_step core_step target_step

-- ---- statements

abbrev pub core_action_of : CoreAction → CoreActionTree
core_action_of (a.Change e) = core.change (core_of e)
core_action_of (a.Value e) = core.value (core_of e)

abbrev pub core_init_of : CoreInit → CoreInitTree
core_init_of i.Unwritten = core.unwritten
core_init_of (i.Scalar value) = core.single (core_of value)
core_init_of (i.Elements items) = core.elements (map (option_map core_of) items.items)

abbrev pub core_else_part : Option CoreElseTree → CoreElseTree
core_else_part None = core.no_else
core_else_part (Some e) = e

abbrev pub core_stmt_step : CoreStmt-F CoreStmtTree CoreElseTree → CoreStmtTree
core_stmt_step (CoreStmt-F.Block objects body) = core.block objects.items (stmt_row body.items)
core_stmt_step (CoreStmt-F.Declare object init) = core.declare object (core_init_of init)
core_stmt_step (CoreStmt-F.Act actions) = core.act (map core_action_of actions.items)
core_stmt_step (CoreStmt-F.If test body other at) = core.if_ (core_of test) body.value (core_else_part other) at
core_stmt_step (CoreStmt-F.Switch test objects body at) = core.switch_ (core_of test) objects.items (stmt_row body.items) at
core_stmt_step (CoreStmt-F.Case value body at) = core.case_ value body.value at
core_stmt_step (CoreStmt-F.While test body at) = core.while_ (core_of test) body.value at
core_stmt_step (CoreStmt-F.Do body test at) = core.do_ body.value (core_of test) at
core_stmt_step (CoreStmt-F.For objects init test step body at) = core.for_ objects.items (stmt_row init.items) (option_map core_of test) (map core_action_of step.items) body.value at
core_stmt_step CoreStmt-F.Break = core.break_
core_stmt_step CoreStmt-F.Continue = core.continue_
core_stmt_step (CoreStmt-F.Return value) = core.return_ (option_map core_of value)

abbrev pub core_else_step : CoreElse-F CoreStmtTree CoreElseTree → CoreElseTree
core_else_step e = core.else_ e.at e.body.value

abbrev pub core_stmt_of : CoreStmt → CoreStmtTree
core_stmt_of = fold-CoreStmt CoreStmtTree CoreElseTree core_stmt_step core_else_step

abbrev pub core_else_of : CoreElse → CoreElseTree
core_else_of = fold-CoreElse CoreStmtTree CoreElseTree core_stmt_step core_else_step

-- ---- programs

abbrev pub core_object_of : CoreObject → CoreObjectTree
core_object_of o = record { name = o.name; kind = o.kind; lengths = o.lengths.items; constant = o.constant }

abbrev pub file_object_of : FileObject → FileObjectTree
file_object_of o = record { object = core_object_of o.object; first = o.first }

abbrev pub core_function_of : CoreFunction → CoreFunctionTree
core_function_of f = record {
  name = f.name;
  at = f.at;
  result = f.result;
  params = f.params;
  objects = map core_object_of f.objects.items;
  outermost = f.outermost.items;
  body = stmt_row (map core_stmt_of f.body.items);
}

abbrev pub core_program_of : CoreProgram → CoreProgramTree
core_program_of p = record { file = map file_object_of p.file.items; functions = map core_function_of p.functions.items; top = p.top }
