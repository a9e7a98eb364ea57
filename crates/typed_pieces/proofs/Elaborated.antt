-- The core program of a program with types of C has types of C, and its labels are words of the types of their switches.
use Rattle.std.proofs.Common.{◌≡◌, ℕ, zero, suc, ◌+◌, ◌-◌, Bool, true, false, ◌∙◌, refl, subst, List, [], ◌∷◌, ◌++◌, map, slice_get, Option, Some, None, unwrap_or, if◌then◌else◌}
use Rattle.std.specs.Prelude.{bytes_eq, replicate}
use Rattle.std.specs.Option.{option_map}
use Rattle.std.proofs.lemmas.List.{append-nil}
use Rattle.std.proofs.lemmas.Option.{none-some, same_Some}
use Rattle.c_token.specs.declared.ctype.CType.{CType}
use Rattle.c_value.specs.Values.{int_type}
use Rattle.c_tree.specs.Tree as tree
use Rattle.c_tree.specs.Tree.{Tree, TargetTree, Trees, ActionTree, InitTree, InitTrees, ObjectTree, StmtTree, ElseTree, FirstTree, StmtTrees, ParamTree, FunctionTree, ItemTree, ProgramTree}
use Rattle.c_meaning.specs.Checks.Limits.{file_objects}
use Rattle.c_meaning.specs.Store.{lengths_in, declared_by, declared_in, declared_first}
use Rattle.c_meaning.specs.Statement.{items_of, rows_of}
use Rattle.pieces.specs.declared.resolved.expression.Cell.{Cell}
use Rattle.pieces.specs.Resolved.Core.{CoreTree, CoreStmtTree, CoreObjectTree, FileObjectTree, CoreFunctionTree, stmt_row}
use Rattle.c_elaborate.specs.declared.names.Binding.{Binding}
use Rattle.c_elaborate.specs.declared.functions.Signature.{Signature}
use Rattle.c_elaborate.specs.declared.blocks.Scene.{Scene}
use Rattle.c_elaborate.specs.Names.{object_found, known_or_int, object_named, binding_of, result_of}
use Rattle.c_elaborate.specs.Expressions.{kind_of, target_kind, array_given, argument_of, elaborated, target_elaborated, all_elaborated, arguments_elaborated, action_elaborated}
use Rattle.c_elaborate.specs.Objects.{object_elaborated, objects_of, else_objects, first_objects, objects_within}
use Rattle.c_elaborate.specs.Scenes.{file_scene, opened, labelled_by, declared, all_declared}
use Rattle.c_elaborate.specs.Statements.{init_elaborated, declarations, item, statement, else_statement, first_statements, statements}
use Rattle.c_elaborate.specs.Programs.{file_object, file_names, objects_of_params, function_elaborated, function_of_item, functions_elaborated, signature_of, signatures}
use Rattle.c_elaborate.proofs.ElaborateRuns.Lifetimes.{labels_all}
use Rattle.expanded_programs.specs.Statements.Each.{IfThere, EachItem, InInit, EachAction, InStmt, InElse, InStmts}
use Rattle.pass_runs.specs.LowerRuns.OperatorWords.Words.{IsType}
use Rattle.typed_pieces.specs.Types.{HasTypes, TargetHasTypes, EachHasTypes, ArgumentHasTypes, ArgumentsHaveTypes, AllCasesFit, FunctionHasTypes}
use Rattle.typed_pieces.specs.Sources.{TreeHasTypes, TargetTreeHasTypes, TreesHaveTypes, IfTreeHasTypes, ActionsHaveTypes, InitHasTypes, InitsHaveTypes, IfInitHasTypes, ObjectsHaveTypes, StmtHasTypes, ElseHasTypes, FirstHasTypes, StmtsHaveTypes, IfType, IfBodyHasTypes, ParamsHaveTypes, ItemsHaveTypes}
use Rattle.typed_pieces.specs.Laws.{ElaboratedHasTypes}
use Rattle.typed_pieces.proofs.Operating.{unary_type, common_type, binary_type}
use Rattle.typed_pieces.proofs.Actions.{Nowhere}
use Rattle.typed_pieces.proofs.Cases.{statements_fit}

-- ---- names

-- what names stand for is of types of C
abbrev Named : List Binding → Type 0
Named names = (text : List ℕ) → IsType (object_named names text).kind

named_none : Named []
named_none text = refl

named_more : (b : Binding) (names : List Binding) → IsType b.object.kind → Named names → Named (b ∷ names)
named_more b names t h text = either (bytes_eq text b.name) where
  either : (c : Bool) → IsType (known_or_int (if c then Some b.object else object_found text names)).kind
  either true = t
  either false = h text

-- and what functions give
abbrev Returns : List Signature → Type 0
Returns fs = (name : List ℕ) → IfType (result_of fs name)

value_type : (q : Option CType) → IfType q → IsType (unwrap_or q int_type)
value_type None h = refl
value_type (Some k) h = h

if_type_is : (q : Option CType) → IfType q → (k : CType) → q ≡ Some k → IsType k
if_type_is q h k e = subst IfType e h

argument_types : (q : Option Cell) (v : CoreTree) → HasTypes v → ArgumentHasTypes (argument_of q v)
argument_types None v h = h
argument_types (Some cell) v h = tt

-- ---- objects

objects_append : (os ps : List ObjectTree) → ObjectsHaveTypes os → ObjectsHaveTypes ps → ObjectsHaveTypes (os ++ ps)
objects_append [] ps h g = g
objects_append (o ∷ os) ps h g = (h.0, objects_append os ps h.1 g)

objects_typed : (os : List ObjectTree) → ObjectsHaveTypes os → (i : ℕ) (o : CoreObjectTree) → slice_get (map object_elaborated os) i ≡ Some o → IsType o.kind
objects_typed [] h i o e = absurd (none-some o e)
objects_typed (x ∷ os) h zero o e = subst (λ y. IsType y.kind) (same_Some (object_elaborated x) o e) h.0.0
objects_typed (x ∷ os) h (suc i) o e = objects_typed os h.1 i o e

files_typed : (os : List ObjectTree) → ObjectsHaveTypes os → (i : ℕ) (o : FileObjectTree) → slice_get (map file_object os) i ≡ Some o → IsType o.object.kind
files_typed [] h i o e = absurd (none-some o e)
files_typed (x ∷ os) h zero o e = subst (λ y. IsType y.object.kind) (same_Some (file_object x) o e) h.0.0
files_typed (x ∷ os) h (suc i) o e = files_typed os h.1 i o e

declared_types : (stmt : StmtTree) → StmtHasTypes stmt → ObjectsHaveTypes (declared_by stmt)
declared_types (tree.declare objects) h = h
declared_types (tree.block body) h = tt
declared_types (tree.act actions) h = tt
declared_types (tree.if_ test body other at) h = tt
declared_types (tree.switch_ test body at) h = tt
declared_types (tree.case_ value body at) h = tt
declared_types (tree.while_ test body at) h = tt
declared_types (tree.do_ body test at) h = tt
declared_types (tree.for_ init test step body at) h = tt
declared_types (tree.break_ at) h = tt
declared_types (tree.continue_ at) h = tt
declared_types (tree.return_ value at) h = tt

all_declared_types : (body : StmtTrees) → StmtsHaveTypes body → ObjectsHaveTypes (declared_in body)
all_declared_types tree.no_stmt h = tt
all_declared_types (tree.more_stmts first rest) h = objects_append (declared_by first) (declared_in rest) (declared_types first h.0) (all_declared_types rest h.1)

first_declared_types : (init : FirstTree) → FirstHasTypes init → ObjectsHaveTypes (declared_first init)
first_declared_types tree.no_first h = tt
first_declared_types (tree.first part) h = declared_types part h

mutual
  inner_types : (stmt : StmtTree) → StmtHasTypes stmt → ObjectsHaveTypes (objects_of stmt)
  inner_types (tree.block body) h = objects_append (declared_in body) (objects_within body) (all_declared_types body h) (all_inner_types body h)
  inner_types (tree.declare objects) h = tt
  inner_types (tree.act actions) h = tt
  inner_types (tree.if_ test body other at) h = objects_append (objects_of body) (else_objects other) (inner_types body h.1) (else_inner_types other h.2)
  inner_types (tree.switch_ test body at) h = objects_append (declared_in body) (objects_within body) (all_declared_types body h.1) (all_inner_types body h.1)
  inner_types (tree.case_ value body at) h = inner_types body h
  inner_types (tree.while_ test body at) h = inner_types body h.1
  inner_types (tree.do_ body test at) h = inner_types body h.0
  inner_types (tree.for_ init test step body at) h =
      objects_append (declared_first init ++ first_objects init) (objects_of body) (objects_append (declared_first init) (first_objects init) (first_declared_types init h.0) (first_inner_types init h.0)) (inner_types body h.3)
  inner_types (tree.break_ at) h = tt
  inner_types (tree.continue_ at) h = tt
  inner_types (tree.return_ value at) h = tt

  else_inner_types : (other : ElseTree) → ElseHasTypes other → ObjectsHaveTypes (else_objects other)
  else_inner_types tree.no_else h = tt
  else_inner_types (tree.else_ at body) h = inner_types body h

  first_inner_types : (init : FirstTree) → FirstHasTypes init → ObjectsHaveTypes (first_objects init)
  first_inner_types tree.no_first h = tt
  first_inner_types (tree.first part) h = inner_types part h

  all_inner_types : (body : StmtTrees) → StmtsHaveTypes body → ObjectsHaveTypes (objects_within body)
  all_inner_types tree.no_stmt h = tt
  all_inner_types (tree.more_stmts first rest) h = objects_append (objects_of first) (objects_within rest) (inner_types first h.0) (all_inner_types rest h.1)

-- ---- initialisers

abbrev EachTree : List (Option Tree) → Type 0
EachTree [] = Unit {0}
EachTree (t ∷ ts) = IfTreeHasTypes t × EachTree ts

trees_append : (xs ys : List (Option Tree)) → EachTree xs → EachTree ys → EachTree (xs ++ ys)
trees_append [] ys h g = g
trees_append (x ∷ xs) ys h g = (h.0, trees_append xs ys h.1 g)

none_given : (n : ℕ) → EachTree (replicate n None)
none_given zero = tt
none_given (suc n) = (tt, none_given n)

mutual
  items_types : (lengths : List ℕ) (init : InitTree) → InitHasTypes init → EachTree (items_of lengths init)
  items_types lengths (tree.single v) h = (h, tt)
  items_types [] (tree.braced items at) h = tt
  items_types (len ∷ lengths) (tree.braced items at) h = rows_types len lengths items h

  rows_types : (len : ℕ) (lengths : List ℕ) (items : InitTrees) → InitsHaveTypes items → EachTree (rows_of len lengths items)
  rows_types len lengths tree.no_init h = none_given _
  rows_types len lengths (tree.more_inits first rest) h = trees_append (items_of lengths first) (rows_of (len - 1) lengths rest) (items_types lengths first h.0) (rows_types (len - 1) lengths rest h.1)

module _ (fs : List Signature) (returns : Returns fs) where
  -- ---- expressions

  mutual
    expression_types : (names : List Binding) → Named names → (t : Tree) → TreeHasTypes t → HasTypes (elaborated fs names t) × IsType (kind_of (elaborated fs names t))
    expression_types names n (tree.number value kind at) h = (h, h)
    expression_types names n (tree.name text at) h = (tt, n text)
    expression_types names n (tree.index array subscripts at) h = (each_types names n subscripts h, n array)
    expression_types names n (tree.call callee args at) h = (arguments_types names n args h, value_type (result_of fs callee) (returns callee))
    expression_types names n (tree.unary op arg at) h =
        let x = expression_types names n arg h in
        let t = unary_type op (kind_of (elaborated fs names arg)) x.1 in
        ((t, x.0), t)
    expression_types names n (tree.binary op left right at) h =
        let x = expression_types names n left h.0 in
        let y = expression_types names n right h.1 in
        let t = binary_type op (kind_of (elaborated fs names left)) (kind_of (elaborated fs names right)) x.1 y.1 in
        ((t, x.0, y.0), t)
    expression_types names n (tree.choice test left right at colon) h =
        let c = expression_types names n test h.0 in
        let x = expression_types names n left h.1 in
        let y = expression_types names n right h.2 in
        let t = common_type (kind_of (elaborated fs names left)) (kind_of (elaborated fs names right)) x.1 y.1 in
        ((t, c.0, x.0, y.0), t)
    expression_types names n (tree.cast to arg at) h = ((h.0, (expression_types names n arg h.1).0), h.0)
    expression_types names n (tree.assign place op value at) h = let p = target_types names n place h.0 in ((p.0, (expression_types names n value h.1).0), p.1)
    expression_types names n (tree.bump place up post at) h = target_types names n place h
    expression_types names n (tree.comma left right at) h =
        let x = expression_types names n left h.0 in
        let y = expression_types names n right h.1 in
        ((x.0, y.0), y.1)

    target_types : (names : List Binding) → Named names → (place : TargetTree) → TargetTreeHasTypes place → TargetHasTypes (target_elaborated fs names place) × IsType (target_kind (target_elaborated fs names place))
    target_types names n (tree.target text subscripts at) h = (each_types names n subscripts h, n text)

    each_types : (names : List Binding) → Named names → (ts : Trees) → TreesHaveTypes ts → EachHasTypes (all_elaborated fs names ts)
    each_types names n tree.none h = tt
    each_types names n (tree.more first rest) h = ((expression_types names n first h.0).0, each_types names n rest h.1)

    arguments_types : (names : List Binding) → Named names → (ts : Trees) → TreesHaveTypes ts → ArgumentsHaveTypes (arguments_elaborated fs names ts)
    arguments_types names n tree.none h = tt
    arguments_types names n (tree.more first rest) h = (argument_types (array_given names first) (elaborated fs names first) (expression_types names n first h.0).0, arguments_types names n rest h.1)

  option_types : (names : List Binding) → Named names → (t : Option Tree) → IfTreeHasTypes t → IfThere HasTypes Nowhere (option_map (elaborated fs names) t)
  option_types names n None h = tt
  option_types names n (Some t) h = (expression_types names n t h).0

  actions_types : (names : List Binding) → Named names → (list : List ActionTree) → ActionsHaveTypes list → EachAction HasTypes Nowhere (map (action_elaborated fs names) list)
  actions_types names n [] h = tt
  actions_types names n (tree.assignment place op v at ∷ rest) h = ((expression_types names n (tree.assign place op v at) h.0).0, actions_types names n rest h.1)
  actions_types names n (tree.bumping place up at ∷ rest) h = ((expression_types names n (tree.bump place up false at) h.0).0, actions_types names n rest h.1)
  actions_types names n (tree.evaluation v ∷ rest) h = ((expression_types names n v h.0).0, actions_types names n rest h.1)

  -- ---- declarations

  each_item_types : (names : List Binding) → Named names → (ts : List (Option Tree)) → EachTree ts → EachItem HasTypes Nowhere (map (option_map (elaborated fs names)) ts)
  each_item_types names n [] h = tt
  each_item_types names n (t ∷ ts) h = (option_types names n t h.0, each_item_types names n ts h.1)

  init_types : (names : List Binding) → Named names → (lengths : List ℕ) (init : Option InitTree) → IfInitHasTypes init → InInit HasTypes Nowhere (init_elaborated fs names lengths init)
  init_types names n lengths None h = tt
  init_types names n [] (Some (tree.single v)) h = (expression_types names n v h).0
  init_types names n [] (Some (tree.braced items at)) h = tt
  init_types names n (len ∷ lengths) (Some init) h = each_item_types names n (items_of (len ∷ lengths) init) (items_types (len ∷ lengths) init h)

  declared_named : (scene : Scene) (o : ObjectTree) → Named scene.names → IsType o.kind → Named (declared scene o).names
  declared_named scene o n t = named_more _ scene.names t n

  all_named : (scene : Scene) (os : List ObjectTree) → Named scene.names → ObjectsHaveTypes os → Named (all_declared scene os).names
  all_named scene [] n h = n
  all_named scene (o ∷ os) n h = all_named (declared scene o) os (declared_named scene o n h.0.0) h.1

  declarations_types : (scene : Scene) (os : List ObjectTree) (rest : List CoreStmtTree) → Named scene.names → ObjectsHaveTypes os → InStmts HasTypes Nowhere (stmt_row rest) → InStmts HasTypes Nowhere (stmt_row (declarations fs scene os ++ rest))
  declarations_types scene [] rest n h g = g
  declarations_types scene (o ∷ os) rest n h g =
      let inner = declared_named scene o n h.0.0 in
      ((tt, init_types (declared scene o).names inner (lengths_in o) o.init h.0.1), declarations_types (declared scene o) os rest inner h.1 g)

  item_types : (scene : Scene) (os : List ObjectTree) (stmt : CoreStmtTree) (rest : List CoreStmtTree) → Named scene.names → ObjectsHaveTypes os → InStmt HasTypes Nowhere stmt → InStmts HasTypes Nowhere (stmt_row rest)
      → InStmts HasTypes Nowhere (stmt_row (item fs scene os stmt ++ rest))
  item_types scene [] stmt rest n h s g = (s, g)
  item_types scene (o ∷ os) stmt rest n h s g = declarations_types scene (o ∷ os) rest n h g

  -- ---- statements

  mutual
    statement_types : (scene : Scene) (free : ℕ) → Named scene.names → (stmt : StmtTree) → StmtHasTypes stmt → InStmt HasTypes Nowhere (statement fs scene free stmt)
    statement_types scene free n (tree.block body) h = statements_types (opened scene free) _ n body h
    statement_types scene free n (tree.declare objects) h = tt
    statement_types scene free n (tree.act actions) h = actions_types scene.names n actions h
    statement_types scene free n (tree.if_ test body other at) h = ((expression_types scene.names n test h.0).0, statement_types scene free n body h.1, else_types scene _ n other h.2)
    statement_types scene free n (tree.switch_ test body at) h = ((expression_types scene.names n test h.0).0, statements_types (labelled_by _ (opened scene free)) _ n body h.1)
    statement_types scene free n (tree.case_ value body at) h = statement_types scene free n body h
    statement_types scene free n (tree.while_ test body at) h = ((expression_types scene.names n test h.0).0, statement_types scene free n body h.1)
    statement_types scene free n (tree.do_ body test at) h = ((expression_types scene.names n test h.1).0, statement_types scene free n body h.0)
    statement_types scene free n (tree.for_ init test step body at) h =
        let inner = all_named (opened scene free) (declared_first init) n (first_declared_types init h.0) in (
          first_types (opened scene free) _ n init h.0,
          option_types (all_declared (opened scene free) (declared_first init)).names inner test h.1,
          actions_types (all_declared (opened scene free) (declared_first init)).names inner step h.2,
          statement_types (all_declared (opened scene free) (declared_first init)) _ inner body h.3,
        )
    statement_types scene free n (tree.break_ at) h = tt
    statement_types scene free n (tree.continue_ at) h = tt
    statement_types scene free n (tree.return_ value at) h = option_types scene.names n value h

    else_types : (scene : Scene) (free : ℕ) → Named scene.names → (other : ElseTree) → ElseHasTypes other → InElse HasTypes Nowhere (else_statement fs scene free other)
    else_types scene free n tree.no_else h = tt
    else_types scene free n (tree.else_ at body) h = statement_types scene free n body h

    first_types : (scene : Scene) (free : ℕ) → Named scene.names → (init : FirstTree) → FirstHasTypes init → InStmts HasTypes Nowhere (stmt_row (first_statements fs scene free init))
    first_types scene free n tree.no_first h = tt
    first_types scene free n (tree.first part) h =
        subst (λ list. InStmts HasTypes Nowhere (stmt_row list)) (append-nil (item fs scene (declared_by part) (statement fs scene free part)))
        (item_types scene (declared_by part) (statement fs scene free part) [] n (declared_types part h) (statement_types scene free n part h) tt)

    statements_types : (scene : Scene) (free : ℕ) → Named scene.names → (body : StmtTrees) → StmtsHaveTypes body → InStmts HasTypes Nowhere (stmt_row (statements fs scene free body))
    statements_types scene free n tree.no_stmt h = tt
    statements_types scene free n (tree.more_stmts first rest) h =
        item_types scene (declared_by first) (statement fs scene free first) (statements fs (all_declared scene (declared_by first)) _ rest) n (declared_types first h.0) (statement_types scene free n first h.0)
        (statements_types (all_declared scene (declared_by first)) _ (all_named scene (declared_by first) n (declared_types first h.0)) rest h.1)

  -- ---- functions

  abbrev EachFunction : List CoreFunctionTree → Type 0
  EachFunction fns = (i : ℕ) (fn : CoreFunctionTree) → slice_get fns i ≡ Some fn → FunctionHasTypes fn

  params_named : (scene : Scene) (params : List ParamTree) → Named scene.names → ParamsHaveTypes params → Named (all_declared scene (objects_of_params params)).names
  params_named scene [] n h = n
  params_named scene (p ∷ params) n h = params_named (declared scene p.object) params (declared_named scene p.object n h.0) h.1

  all_objects_typed : (params : List ParamTree) (os : List ObjectTree) → ParamsHaveTypes params → ObjectsHaveTypes os → (i : ℕ) (o : CoreObjectTree) → slice_get (map object_elaborated (objects_of_params params ++ os)) i ≡ Some o → IsType o.kind
  all_objects_typed [] os h g i o e = objects_typed os g i o e
  all_objects_typed (p ∷ params) os h g zero o e = subst (λ y. IsType y.kind) (same_Some (object_elaborated p.object) o e) h.0
  all_objects_typed (p ∷ params) os h g (suc i) o e = all_objects_typed params os h.1 g i o e

  function_types : (file : Scene) → Named file.names → file.labels ≡ int_type → (f : FunctionTree) (body : StmtTrees) → IfType f.result → ParamsHaveTypes f.params → StmtsHaveTypes body → FunctionHasTypes (function_elaborated fs file f body)
  function_types file n e f body r ps b = record {
    objects = λ i o e. all_objects_typed f.params (declared_in body ++ objects_within body) ps (objects_append (declared_in body) (objects_within body) (all_declared_types body b) (all_inner_types body b)) i o e;
    result = λ k e. if_type_is f.result r k e;
    body = statements_types (opened (all_declared file (objects_of_params f.params)) _) _ (params_named file f.params n ps) body b;
    cases = subst (λ k. AllCasesFit k (function_elaborated fs file f body).body) (labels_all file (objects_of_params f.params) ∙ e) (statements_fit fs (opened (all_declared file (objects_of_params f.params)) _) _ body);
  }

  more_functions : (fn : CoreFunctionTree) (fns : List CoreFunctionTree) → FunctionHasTypes fn → EachFunction fns → EachFunction (fn ∷ fns)
  more_functions fn fns h g zero f e = subst FunctionHasTypes (same_Some fn f e) h
  more_functions fn fns h g (suc i) f e = g i f e

  item_functions : (file : Scene) → Named file.names → file.labels ≡ int_type → (f : FunctionTree) (body : Option StmtTrees) → IfType f.result → ParamsHaveTypes f.params → IfBodyHasTypes body → (fns : List CoreFunctionTree) → EachFunction fns → EachFunction (function_of_item fs file f body ++ fns)
  item_functions file n e f None r ps b fns g = g
  item_functions file n e f (Some body) r ps b fns g = more_functions (function_elaborated fs file f body) fns (function_types file n e f body r ps b) g

  functions_types : (file : Scene) → Named file.names → file.labels ≡ int_type → (items : List ItemTree) → ItemsHaveTypes items → EachFunction (functions_elaborated fs file items)
  functions_types file n l [] h i fn e = absurd (none-some fn e)
  functions_types file n l (tree.objects os ∷ items) h i fn e = functions_types file n l items h.1 i fn e
  functions_types file n l (tree.function f ∷ items) h i fn e = item_functions file n l f f.body h.0.0 h.0.1 h.0.2 (functions_elaborated fs file items) (λ j g q. functions_types file n l items h.1 j g q) i fn e

-- ---- the program

file_named : (number : ℕ) (names : List Binding) (os : List ObjectTree) → Named names → ObjectsHaveTypes os → Named (file_names number names os)
file_named number names [] n h = n
file_named number names (o ∷ os) n h = file_named (number + 1) (binding_of o _ ∷ names) os (named_more (binding_of o _) names h.0.0 n) h.1

file_objects_types : (items : List ItemTree) → ItemsHaveTypes items → ObjectsHaveTypes (file_objects items)
file_objects_types [] h = tt
file_objects_types (tree.function f ∷ items) h = file_objects_types items h.1
file_objects_types (tree.objects os ∷ items) h = objects_append os (file_objects items) h.0 (file_objects_types items h.1)

signature_returns : (f : FunctionTree) (body : Option StmtTrees) (rest : List Signature) → IfType f.result → Returns rest → Returns (signature_of f body ++ rest)
signature_returns f None rest h g name = g name
signature_returns f (Some body) rest h g name = either (bytes_eq f.name name) where
  either : (b : Bool) → IfType (if b then f.result else result_of rest name)
  either true = h
  either false = g name

all_return : (items : List ItemTree) → ItemsHaveTypes items → Returns (signatures items)
all_return [] h name = tt
all_return (tree.objects os ∷ items) h name = all_return items h.1 name
all_return (tree.function f ∷ items) h name = signature_returns f f.body (signatures items) h.0.0 (λ other. all_return items h.1 other) name

pub elaborated_types : ElaboratedHasTypes
elaborated_types p top h =
    let os = file_objects p.items in
    let objects = file_objects_types p.items h in
    record {
      file = files_typed os objects;
      functions = functions_types (signatures p.items) (all_return p.items h) (file_scene (file_names 0 [] os)) (file_named 0 [] os named_none objects) refl p.items h;
    }
