-- Trees without the places of their tokens.
use Rattle.std.specs.Prelude.{map}
use Rattle.std.specs.Option.{option_map}
use Rattle.hls_base.specs.declared.place.Place.{Place}
use Rattle.c_tree.specs.Tree as tree
use Rattle.c_tree.specs.Tree.{Tree, TargetTree, Trees, ActionTree, InitTree, InitTrees, ObjectTree, StmtTree, ElseTree, FirstTree, StmtTrees, ParamTree, FunctionTree, ItemTree, ProgramTree}

-- what stands in the place of each place
abbrev pub nowhere : Place
nowhere = record { line = 0; column = 0; part = 0 }

abbrev mutual
  pub unplaced : Tree → Tree
  unplaced (tree.number value kind at) = tree.number value kind nowhere
  unplaced (tree.name text at) = tree.name text nowhere
  unplaced (tree.index array subscripts at) = tree.index array (unplaced_row subscripts) nowhere
  unplaced (tree.call callee args at) = tree.call callee (unplaced_row args) nowhere
  unplaced (tree.unary op arg at) = tree.unary op (unplaced arg) nowhere
  unplaced (tree.binary op left right at) = tree.binary op (unplaced left) (unplaced right) nowhere
  unplaced (tree.choice test left right at colon) = tree.choice (unplaced test) (unplaced left) (unplaced right) nowhere nowhere
  unplaced (tree.cast to arg at) = tree.cast to (unplaced arg) nowhere
  unplaced (tree.assign changed op value at) = tree.assign (unplaced_target changed) op (unplaced value) nowhere
  unplaced (tree.bump changed up post at) = tree.bump (unplaced_target changed) up post nowhere
  unplaced (tree.comma left right at) = tree.comma (unplaced left) (unplaced right) nowhere

  pub unplaced_target : TargetTree → TargetTree
  unplaced_target (tree.target text subscripts at) = tree.target text (unplaced_row subscripts) nowhere

  pub unplaced_row : Trees → Trees
  unplaced_row tree.none = tree.none
  unplaced_row (tree.more first rest) = tree.more (unplaced first) (unplaced_row rest)

abbrev pub unplaced_action : ActionTree → ActionTree
unplaced_action (tree.assignment changed op value at) = tree.assignment (unplaced_target changed) op (unplaced value) nowhere
unplaced_action (tree.bumping changed up at) = tree.bumping (unplaced_target changed) up nowhere
unplaced_action (tree.evaluation value) = tree.evaluation (unplaced value)

abbrev mutual
  pub unplaced_init : InitTree → InitTree
  unplaced_init (tree.single value) = tree.single (unplaced value)
  unplaced_init (tree.braced items at) = tree.braced (unplaced_inits items) nowhere

  pub unplaced_inits : InitTrees → InitTrees
  unplaced_inits tree.no_init = tree.no_init
  unplaced_inits (tree.more_inits first rest) = tree.more_inits (unplaced_init first) (unplaced_inits rest)

abbrev pub unplaced_object : ObjectTree → ObjectTree
unplaced_object o = record {
  name = o.name;
  at = nowhere;
  kind = o.kind;
  constant = o.constant;
  lengths = map (option_map unplaced) o.lengths;
  init = option_map unplaced_init o.init;
}

abbrev mutual
  pub unplaced_stmt : StmtTree → StmtTree
  unplaced_stmt (tree.block body) = tree.block (unplaced_stmts body)
  unplaced_stmt (tree.declare objects) = tree.declare (map unplaced_object objects)
  unplaced_stmt (tree.act actions) = tree.act (map unplaced_action actions)
  unplaced_stmt (tree.if_ test body other at) = tree.if_ (unplaced test) (unplaced_stmt body) (unplaced_else other) nowhere
  unplaced_stmt (tree.switch_ test body at) = tree.switch_ (unplaced test) (unplaced_stmts body) nowhere
  unplaced_stmt (tree.case_ value body at) = tree.case_ (option_map unplaced value) (unplaced_stmt body) nowhere
  unplaced_stmt (tree.while_ test body at) = tree.while_ (unplaced test) (unplaced_stmt body) nowhere
  unplaced_stmt (tree.do_ body test at) = tree.do_ (unplaced_stmt body) (unplaced test) nowhere
  unplaced_stmt (tree.for_ init test step body at) =
      tree.for_ (unplaced_first init) (option_map unplaced test) (map unplaced_action step) (unplaced_stmt body) nowhere
  unplaced_stmt (tree.break_ at) = tree.break_ nowhere
  unplaced_stmt (tree.continue_ at) = tree.continue_ nowhere
  unplaced_stmt (tree.return_ value at) = tree.return_ (option_map unplaced value) nowhere

  pub unplaced_else : ElseTree → ElseTree
  unplaced_else tree.no_else = tree.no_else
  unplaced_else (tree.else_ at body) = tree.else_ nowhere (unplaced_stmt body)

  pub unplaced_first : FirstTree → FirstTree
  unplaced_first tree.no_first = tree.no_first
  unplaced_first (tree.first part) = tree.first (unplaced_stmt part)

  pub unplaced_stmts : StmtTrees → StmtTrees
  unplaced_stmts tree.no_stmt = tree.no_stmt
  unplaced_stmts (tree.more_stmts first rest) = tree.more_stmts (unplaced_stmt first) (unplaced_stmts rest)

abbrev pub unplaced_param : ParamTree → ParamTree
unplaced_param p = record { object = unplaced_object p.object; named = p.named }

abbrev pub unplaced_function : FunctionTree → FunctionTree
unplaced_function f = record {
  name = f.name;
  at = nowhere;
  result = f.result;
  params = map unplaced_param f.params;
  body = option_map unplaced_stmts f.body;
}

abbrev pub unplaced_item : ItemTree → ItemTree
unplaced_item (tree.function f) = tree.function (unplaced_function f)
unplaced_item (tree.objects os) = tree.objects (map unplaced_object os)

-- the program, wherever its tokens stand
abbrev pub without_places : ProgramTree → ProgramTree
without_places program = record { items = map unplaced_item program.items; end = nowhere }
