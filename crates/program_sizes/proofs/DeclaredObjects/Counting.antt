-- Each object that a block declares becomes one declaration.
use Rattle.std.proofs.Common.{◌≡◌, ◌≤◌, ℕ, ◌+◌, arith, refl, List, [], ◌∷◌, ◌++◌, length, length-append}
use Rattle.std.proofs.lemmas.List.{length-map}
use Rattle.std.proofs.lemmas.Option.{none-some}
use Rattle.c_tree.specs.Tree as tree
use Rattle.c_tree.specs.Tree.{ObjectTree, StmtTree, ElseTree, FirstTree, StmtTrees, FunctionTree, ItemTree}
use Rattle.c_value.specs.Values.{promoted}
use Rattle.c_meaning.specs.Store.{declared_by, declared_in, declared_first}
use Rattle.pieces.specs.Resolved.Core as core
use Rattle.pieces.specs.Resolved.Core.{CoreStmtTree, CoreFunctionTree}
use Rattle.c_elaborate.specs.declared.blocks.Scene.{Scene}
use Rattle.c_elaborate.specs.declared.functions.Signature.{Signature}
use Rattle.c_elaborate.specs.Expressions.{elaborated, kind_of}
use Rattle.c_elaborate.specs.Objects.{object_elaborated, objects_of, else_objects, first_objects, objects_within}
use Rattle.c_elaborate.specs.Scenes.{opened, labelled_by, declared, all_declared, file_scene}
use Rattle.c_elaborate.specs.Statements as elaboration
use Rattle.c_elaborate.specs.Statements.{declaration, item, statement, else_statement, first_statements, statements}
use Rattle.c_elaborate.specs.Programs.{objects_of_params, function_elaborated, functions_elaborated, signatures, file_names}
use Rattle.c_meaning.specs.Checks.Limits.{file_objects}
use Rattle.program_sizes.specs.DeclaredVariables.Declarations.{declarations_in, else_declarations, declarations}
use Rattle.program_sizes.specs.DeclaredObjects.{ElaboratedObjectsAreDeclared}
use Rattle.program_sizes.proofs.DeclaredObjects.Functions.{Each, function_first}

-- how many declarations stand in a list of statements
abbrev count : List CoreStmtTree → ℕ
count stmts = declarations (core.stmt_row stmts)

count_append : (xs ys : List CoreStmtTree) → count (xs ++ ys) ≡ count xs + count ys
count_append [] ys = omega arith
count_append (x ∷ xs) ys = let h = count_append xs ys in omega (arith, h)

module _ (fs : List Signature) where
  declarations_counted : (scene : Scene) (os : List ObjectTree) → count (elaboration.declarations fs scene os) ≡ length os
  declarations_counted scene [] = refl
  declarations_counted scene (o ∷ os) = let h = declarations_counted (declared scene o) os in omega (arith, h)

  -- ---- the items of a block

  declared_counted : (scene : Scene) (os : List ObjectTree) (stmt : CoreStmtTree) → declarations_in stmt ≡ 0 → count (item fs scene os stmt) ≡ length os
  declared_counted scene [] stmt h = omega (arith, h)
  declared_counted scene (o ∷ os) stmt h = declarations_counted scene (o ∷ os)

  item_counted : (scene : Scene) (part : StmtTree) (stmt : CoreStmtTree) → declarations_in stmt ≡ length (objects_of part) → count (item fs scene (declared_by part) stmt) ≡ length (declared_by part) + length (objects_of part)
  item_counted scene (tree.declare os) stmt h = let d = declared_counted scene os stmt h in omega (arith, d)
  item_counted scene (tree.block body) stmt h = omega (arith, h)
  item_counted scene (tree.act actions) stmt h = omega (arith, h)
  item_counted scene (tree.if_ test body other at) stmt h = omega (arith, h)
  item_counted scene (tree.switch_ test body at) stmt h = omega (arith, h)
  item_counted scene (tree.case_ value body at) stmt h = omega (arith, h)
  item_counted scene (tree.while_ test body at) stmt h = omega (arith, h)
  item_counted scene (tree.do_ body test at) stmt h = omega (arith, h)
  item_counted scene (tree.for_ init test step body at) stmt h = omega (arith, h)
  item_counted scene (tree.break_ at) stmt h = omega (arith, h)
  item_counted scene (tree.continue_ at) stmt h = omega (arith, h)
  item_counted scene (tree.return_ value at) stmt h = omega (arith, h)

  -- ---- statements

  mutual
    statement_counted : (scene : Scene) (free : ℕ) (stmt : StmtTree) → declarations_in (statement fs scene free stmt) ≡ length (objects_of stmt)
    statement_counted scene free (tree.block body) =
        let h = statements_counted (opened scene free) (free + length (declared_in body)) body in
        let l = length-append (declared_in body) (objects_within body) in
        omega (arith, h, l)
    statement_counted scene free (tree.declare objects) = refl
    statement_counted scene free (tree.act actions) = refl
    statement_counted scene free (tree.if_ test body other at) =
        let h = statement_counted scene free body in
        let g = else_counted scene (free + length (objects_of body)) other in
        let l = length-append (objects_of body) (else_objects other) in
        omega (arith, h, g, l)
    statement_counted scene free (tree.switch_ test body at) =
        let h = statements_counted (labelled_by (promoted (kind_of (elaborated fs scene.names test))) (opened scene free)) (free + length (declared_in body)) body in
        let l = length-append (declared_in body) (objects_within body) in
        omega (arith, h, l)
    statement_counted scene free (tree.case_ value body at) = statement_counted scene free body
    statement_counted scene free (tree.while_ test body at) = statement_counted scene free body
    statement_counted scene free (tree.do_ body test at) = statement_counted scene free body
    statement_counted scene free (tree.for_ init test step body at) =
        let h = first_counted (opened scene free) (free + length (declared_first init)) init in
        let g = statement_counted (all_declared (opened scene free) (declared_first init)) (free + length (declared_first init ++ first_objects init)) body in
        let l = length-append (declared_first init) (first_objects init) in
        let m = length-append (declared_first init ++ first_objects init) (objects_of body) in
        omega (arith, h, g, l, m)
    statement_counted scene free (tree.break_ at) = refl
    statement_counted scene free (tree.continue_ at) = refl
    statement_counted scene free (tree.return_ value at) = refl

    else_counted : (scene : Scene) (free : ℕ) (other : ElseTree) → else_declarations (else_statement fs scene free other) ≡ length (else_objects other)
    else_counted scene free tree.no_else = refl
    else_counted scene free (tree.else_ at body) = statement_counted scene free body

    first_counted : (scene : Scene) (free : ℕ) (init : FirstTree) → count (first_statements fs scene free init) ≡ length (declared_first init) + length (first_objects init)
    first_counted scene free tree.no_first = refl
    first_counted scene free (tree.first part) = item_counted scene part (statement fs scene free part) (statement_counted scene free part)

    statements_counted : (scene : Scene) (free : ℕ) (body : StmtTrees) → count (statements fs scene free body) ≡ length (declared_in body) + length (objects_within body)
    statements_counted scene free tree.no_stmt = refl
    statements_counted scene free (tree.more_stmts first rest) =
        let part = item fs scene (declared_by first) (statement fs scene free first) in
        let others = statements fs (all_declared scene (declared_by first)) (free + length (objects_of first)) rest in
        let h = item_counted scene first (statement fs scene free first) (statement_counted scene free first) in
        let g = statements_counted (all_declared scene (declared_by first)) (free + length (objects_of first)) rest in
        let c = count_append part others in
        let l = length-append (declared_by first) (declared_in rest) in
        let m = length-append (objects_of first) (objects_within rest) in
        omega (arith, h, g, c, l, m)

  -- ---- functions

  abbrev IsDeclared : CoreFunctionTree → Type 0
  IsDeclared fn = length fn.objects ≤ fn.params + declarations fn.body

  function_declared : (file : Scene) (f : FunctionTree) (body : StmtTrees) → IsDeclared (function_elaborated fs file f body)
  function_declared file f body =
      let os = objects_of_params f.params in
      let more = declared_in body ++ objects_within body in
      let h = statements_counted (opened (all_declared file os) (length os)) (length os + length (declared_in body)) body in
      let l = length-map (os ++ more) object_elaborated in
      let m = length-append os more in
      let n = length-append (declared_in body) (objects_within body) in
      omega (arith, h, l, m, n)

  functions_declared : (file : Scene) (items : List ItemTree) → Each IsDeclared (functions_elaborated fs file items)
  functions_declared file [] = λ i fn e. absurd (none-some fn e)
  functions_declared file (tree.objects os ∷ items) = functions_declared file items
  functions_declared file (tree.function f ∷ items) = function_first IsDeclared fs file f f.body (functions_elaborated fs file items) (function_declared file f) (functions_declared file items)

pub objects_declared : ElaboratedObjectsAreDeclared
objects_declared p top = functions_declared (signatures p.items) (file_scene (file_names 0 [] (file_objects p.items))) p.items
