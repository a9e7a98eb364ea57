-- Programs whose names are declared where they are used, and as what: C11 6.2.1, 6.5.2, 6.7.9, 6.8.4.2.
use Rattle.std.specs.Prelude.{◌≡◌, ℕ, zero, suc, ◌+◌, ◌==◌, ◌++◌, true, false, List, [], ◌∷◌, length, Option, Some, None, is_some, if◌then◌else◌}
use Rattle.c_tree.specs.Tree as tree
use Rattle.c_tree.specs.Tree.{Tree, TargetTree, Trees, ActionTree, InitTree, InitTrees, ObjectTree, StmtTree, ElseTree, FirstTree, StmtTrees, ParamTree, FunctionTree, ItemTree, ProgramTree}
use Rattle.c_value.specs.Values.{promoted}
use Rattle.c_meaning.specs.Checks.Labels.{has_no_value}
use Rattle.c_meaning.specs.Checks.Limits.{file_objects}
use Rattle.c_meaning.specs.Store.{lengths_in, declared_by, declared_in, declared_first}
use Rattle.c_meaning.specs.Statement.{action_tree}
use Rattle.c_meaning.specs.Run.{function_named}
use Rattle.c_elaborate.specs.declared.names.Known.{Known}
use Rattle.c_elaborate.specs.declared.names.Binding.{Binding}
use Rattle.c_elaborate.specs.declared.blocks.Scene.{Scene}
use Rattle.c_elaborate.specs.Names.{object_found, object_named}
use Rattle.c_elaborate.specs.Objects.{objects_of, first_objects}
use Rattle.c_elaborate.specs.Scenes.{file_scene, opened, labelled_by, declared, all_declared}
use Rattle.c_elaborate.specs.Expressions.{kind_of, elaborated}
use Rattle.c_elaborate.specs.Programs.{signatures, file_names, objects_of_params}
use Rattle.c_elaborate.specs.Homes.{Each}

-- ---- expressions

abbrev pub IsDeclared : List Binding → List ℕ → Type 0
IsDeclared names text = is_some (object_found text names) ≡ true

abbrev pub array_if : Known → Option Known
array_if object = if object.is_array then Some object else None

-- the array that an argument names, if it does
abbrev pub array_named : List Binding → Tree → Option Known
array_named names (tree.name text at) = array_if (object_named names text)
array_named names _ = None

-- An array is given for an array of this element type, and a number for a scalar.
abbrev pub Fits : ObjectTree → Option Known → Type 0
Fits param None = length param.lengths == 0 ≡ true
Fits param (Some object) = (length param.lengths == 0 ≡ false) × (object.kind ≡ param.kind)

abbrev pub AllFit : List Binding → List ParamTree → Trees → Type 0
AllFit names [] tree.none = Unit {0}
AllFit names [] (tree.more arg args) = ⊥
AllFit names (p ∷ ps) tree.none = ⊥
AllFit names (p ∷ ps) (tree.more arg args) = Fits p.object (array_named names arg) × AllFit names ps args

-- a function with a body takes these arguments
abbrev pub Takes : List Binding → Option FunctionTree → Trees → Type 0
Takes names None args = ⊥
Takes names (Some f) args = AllFit names f.params args

abbrev mutual
  pub IsResolved : List ItemTree → List Binding → Tree → Type 0
  IsResolved items names (tree.number n kind at) = Unit {0}
  IsResolved items names (tree.name text at) = IsDeclared names text
  IsResolved items names (tree.index array subscripts at) = IsDeclared names array × AreResolved items names subscripts
  IsResolved items names (tree.call callee args at) = Takes names (function_named items callee) args × AreResolved items names args
  IsResolved items names (tree.unary op arg at) = IsResolved items names arg
  IsResolved items names (tree.binary op left right at) = IsResolved items names left × IsResolved items names right
  IsResolved items names (tree.choice test left right at colon) = IsResolved items names test × IsResolved items names left × IsResolved items names right
  IsResolved items names (tree.cast to arg at) = IsResolved items names arg
  IsResolved items names (tree.assign (tree.target text subscripts place) op v at) =
      IsDeclared names text × AreResolved items names subscripts × IsResolved items names v
  IsResolved items names (tree.bump (tree.target text subscripts place) up post at) = IsDeclared names text × AreResolved items names subscripts
  IsResolved items names (tree.comma left right at) = IsResolved items names left × IsResolved items names right

  pub AreResolved : List ItemTree → List Binding → Trees → Type 0
  AreResolved items names tree.none = Unit {0}
  AreResolved items names (tree.more first rest) = IsResolved items names first × AreResolved items names rest

abbrev pub IsOptionResolved : List ItemTree → List Binding → Option Tree → Type 0
IsOptionResolved items names None = Unit {0}
IsOptionResolved items names (Some t) = IsResolved items names t

abbrev pub ActionsResolved : List ItemTree → List Binding → List ActionTree → Type 0
ActionsResolved items names [] = Unit {0}
ActionsResolved items names (a ∷ more) = IsResolved items names (action_tree a) × ActionsResolved items names more

-- ---- declarations

-- Arrays have braces and scalars have none, and there are no more items than rows.
abbrev mutual
  pub InitResolved : List ItemTree → List Binding → List ℕ → InitTree → Type 0
  InitResolved items names [] (tree.single v) = IsResolved items names v
  InitResolved items names [] (tree.braced inits at) = ⊥
  InitResolved items names (len ∷ lengths) (tree.single v) = ⊥
  InitResolved items names (len ∷ lengths) (tree.braced inits at) = RowsResolved items names len lengths inits

  pub RowsResolved : List ItemTree → List Binding → ℕ → List ℕ → InitTrees → Type 0
  RowsResolved items names rows lengths tree.no_init = Unit {0}
  RowsResolved items names zero lengths (tree.more_inits first rest) = ⊥
  RowsResolved items names (suc rows) lengths (tree.more_inits first rest) = InitResolved items names lengths first × RowsResolved items names rows lengths rest

abbrev pub IsInitResolved : List ItemTree → List Binding → List ℕ → Option InitTree → Type 0
IsInitResolved items names lengths None = Unit {0}
IsInitResolved items names lengths (Some init) = InitResolved items names lengths init

-- an array has lengths
abbrev pub HasLengths : ObjectTree → Type 0
HasLengths o = (length (lengths_in o) == 0) ≡ (length o.lengths == 0)

abbrev pub DeclarationsResolved : List ItemTree → Scene → List ObjectTree → Type 0
DeclarationsResolved items scene [] = Unit {0}
DeclarationsResolved items scene (o ∷ os) =
    HasLengths o × IsInitResolved items (declared scene o).names (lengths_in o) o.init × DeclarationsResolved items (declared scene o) os

-- ---- statements

-- A declaration stands in a block or in the head of a `for`, and is no part of another statement (C11 6.8).
abbrev pub DeclaresNothing : StmtTree → Type 0
DeclaresNothing stmt = declared_by stmt ≡ []

-- a label is a constant with a value
abbrev pub HasValue : Option Tree → Type 0
HasValue v = has_no_value v ≡ false

abbrev pub switch_scene : List ItemTree → Scene → ℕ → Tree → Scene
switch_scene items scene free test = labelled_by (promoted (kind_of (elaborated (signatures items) scene.names test))) (opened scene free)

-- Scopes are as elaboration makes them.
abbrev mutual
  pub StmtResolved : List ItemTree → Scene → ℕ → StmtTree → Type 0
  StmtResolved items scene free (tree.block body) = StmtsResolved items (opened scene free) (free + length (declared_in body)) body
  StmtResolved items scene free (tree.declare os) = DeclarationsResolved items scene os
  StmtResolved items scene free (tree.act actions) = ActionsResolved items scene.names actions
  StmtResolved items scene free (tree.if_ test body other at) =
      IsResolved items scene.names test × DeclaresNothing body × StmtResolved items scene free body × ElseResolved items scene (free + length (objects_of body)) other
  StmtResolved items scene free (tree.switch_ test body at) =
      IsResolved items scene.names test × StmtsResolved items (switch_scene items scene free test) (free + length (declared_in body)) body
  StmtResolved items scene free (tree.case_ v body at) = HasValue v × DeclaresNothing body × StmtResolved items scene free body
  StmtResolved items scene free (tree.while_ test body at) = IsResolved items scene.names test × DeclaresNothing body × StmtResolved items scene free body
  StmtResolved items scene free (tree.do_ body test at) = IsResolved items scene.names test × DeclaresNothing body × StmtResolved items scene free body
  StmtResolved items scene free (tree.for_ init test step body at) =
      FirstResolved items (opened scene free) (free + length (declared_first init)) init
      × IsOptionResolved items (all_declared (opened scene free) (declared_first init)).names test
      × ActionsResolved items (all_declared (opened scene free) (declared_first init)).names step
      × DeclaresNothing body
      × StmtResolved items (all_declared (opened scene free) (declared_first init)) (free + length (declared_first init ++ first_objects init)) body
  StmtResolved items scene free (tree.break_ at) = Unit {0}
  StmtResolved items scene free (tree.continue_ at) = Unit {0}
  StmtResolved items scene free (tree.return_ v at) = IsOptionResolved items scene.names v

  pub ElseResolved : List ItemTree → Scene → ℕ → ElseTree → Type 0
  ElseResolved items scene free tree.no_else = Unit {0}
  ElseResolved items scene free (tree.else_ at body) = DeclaresNothing body × StmtResolved items scene free body

  pub FirstResolved : List ItemTree → Scene → ℕ → FirstTree → Type 0
  FirstResolved items scene free tree.no_first = Unit {0}
  FirstResolved items scene free (tree.first part) = StmtResolved items scene free part

  pub StmtsResolved : List ItemTree → Scene → ℕ → StmtTrees → Type 0
  StmtsResolved items scene free tree.no_stmt = Unit {0}
  StmtsResolved items scene free (tree.more_stmts first rest) =
      StmtResolved items scene free first × StmtsResolved items (all_declared scene (declared_by first)) (free + length (objects_of first)) rest

-- ---- programs

abbrev pub BodyResolved : List ItemTree → Scene → List ObjectTree → Option StmtTrees → Type 0
BodyResolved items scene params None = Unit {0}
BodyResolved items scene params (Some body) =
    Each HasLengths params × StmtsResolved items (opened (all_declared scene params) (length params)) (length params + length (declared_in body)) body

abbrev pub ItemResolved : List ItemTree → Scene → ItemTree → Type 0
ItemResolved items scene (tree.objects os) = Each HasLengths os
ItemResolved items scene (tree.function f) = BodyResolved items scene (objects_of_params f.params) f.body

abbrev pub file_scene_of : List ItemTree → Scene
file_scene_of items = file_scene (file_names 0 [] (file_objects items))

abbrev pub IsProgramResolved : ProgramTree → Type 0
IsProgramResolved p = Each (ItemResolved p.items (file_scene_of p.items)) p.items
