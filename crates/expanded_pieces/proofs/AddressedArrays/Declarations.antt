-- The objects of programs without faults have memories of at most 65,536 words.
use Rattle.std.proofs.Common.{◌≡◌, ℕ, Bool, true, false, ◌++◌, List, [], ◌∷◌, map, length, Option, Some, None, if◌then◌else◌, nat_lt, nat_le, ltb-false, arith}
use Rattle.std.specs.List.{list_any}
use Rattle.std.specs.Prelude.{is_some}
use Rattle.hls_base.specs.ArrayAddress.{element_count}
use Rattle.c_tree.specs.Tree as tree
use Rattle.c_tree.specs.Tree.{ObjectTree, StmtTree, ElseTree, FirstTree, StmtTrees, ParamTree, FunctionTree, ItemTree}
use Rattle.c_meaning.specs.Checks.Names.{Declared}
use Rattle.c_meaning.specs.Checks.Faults.{fault_if}
use Rattle.c_meaning.specs.Checks.Calls.{with_function, declaration_faults}
use Rattle.c_meaning.specs.Checks.Expressions.{optional_faults, actions_faults}
use Rattle.c_meaning.specs.Checks.Labels.{Around, has_no_value, in_function, in_part, in_loop, in_switch, outside_faults}
use Rattle.c_meaning.specs.Checks.Lengths.{usable, all_usable, product_of, rounded_product, lengths_of, is_out_of_range, has_bad_length, form_faults}
use Rattle.c_meaning.specs.Checks.Limits.{file_objects, limit_faults, param_places, function_arrays}
use Rattle.c_meaning.specs.Checks.Statements.{with_object, object_faults, objects_faults, names_behind, names_in_for, statement_faults, else_faults, first_faults, block_faults, with_param, with_params, params_faults, param_faults, param_name_faults, body_faults, function_faults}
use Rattle.c_meaning.specs.Checks.Programs.{with_body, with_item, items_faults, body_names}
use Rattle.c_meaning.specs.Store.{lengths_in, within_limits, declared_by, declared_in, declared_first}
use Rattle.pieces.specs.Resolved.Core.{CoreFunctionTree}
use Rattle.c_elaborate.specs.declared.blocks.Scene.{Scene}
use Rattle.c_elaborate.specs.declared.functions.Signature.{Signature}
use Rattle.c_elaborate.specs.Objects.{object_elaborated, objects_of, else_objects, first_objects, objects_within}
use Rattle.c_elaborate.specs.Programs.{file_object, objects_of_params, function_of_item, functions_elaborated}
use Rattle.c_elaborate.specs.Homes.{Each}
use Rattle.c_elaborate.proofs.ElaborateRuns.Sizes.{left_nil, right_nil, unbroken, neither}
use Rattle.expanded_pieces.specs.Lengths.{EachObject, EachFileObject, EachFunction}
use Rattle.expanded_pieces.specs.AddressedArrays.{ProductFits, ElaboratedProductsFit}

-- ---- one object

limited : (q : Option (List ℕ)) → nat_lt 65536 (product_of q) ≡ false → ProductFits (within_limits q)
limited None h = omega arith
limited (Some ns) h = either (nat_le (element_count ns) 65536) where
  either : (b : Bool) → ProductFits (if b then ns else [])
  either true = ltb-false 65536 (product_of (Some ns)) h
  either false = omega arith

abbrev IsLimited : ObjectTree → Type 0
IsLimited o = ProductFits (lengths_in o)

form_limited : (at_file : Bool) (o : ObjectTree) → form_faults at_file o ≡ [] → IsLimited o
form_limited at_file o h =
    let bad = unbroken (has_bad_length (lengths_of o)) 13 o.at (left_nil (fault_if (has_bad_length (lengths_of o)) 13 o.at) _ h) in
    limited (all_usable (map usable (lengths_of o))) (neither (list_any is_out_of_range (lengths_of o)) (nat_lt 65536 (rounded_product (map usable (lengths_of o)))) bad).1

-- ---- lists of objects

both : (os more : List ObjectTree) → Each IsLimited os → Each IsLimited more → Each IsLimited (os ++ more)
both [] more h g = g
both (o ∷ os) more h g = (h.0, both os more h.1 g)

elaborated_limited : (os : List ObjectTree) → Each IsLimited os → EachObject ProductFits (map object_elaborated os)
elaborated_limited [] h = tt
elaborated_limited (o ∷ os) h = (h.0, elaborated_limited os h.1)

file_limited : (os : List ObjectTree) → Each IsLimited os → EachFileObject ProductFits (map file_object os)
file_limited [] h = tt
file_limited (o ∷ os) h = (h.0, file_limited os h.1)

module _ (bodies : List (List ℕ)) where
  objects_limited : (at_file : Bool) (start : ℕ) (names : List Declared) (os : List ObjectTree) → objects_faults bodies at_file start names os ≡ [] → Each IsLimited os
  objects_limited at_file start names [] h = tt
  objects_limited at_file start names (o ∷ os) h =
      let one = left_nil (object_faults bodies at_file start names o) _ h in
      (form_limited at_file o (left_nil (form_faults at_file o) _ (right_nil (fault_if _ 8 o.at) _ one)), objects_limited at_file start (with_object o names) os (right_nil (object_faults bodies at_file start names o) _ h))

  -- ---- statements

  -- what a statement declares in the block around it, and what blocks within it declare
  mutual
    declared_limited : (around : Around) (start : ℕ) (names : List Declared) (stmt : StmtTree) → statement_faults bodies around start names stmt ≡ [] → Each IsLimited (declared_by stmt)
    declared_limited around start names (tree.declare os) h = objects_limited false start names os h
    declared_limited around start names (tree.block body) h = tt
    declared_limited around start names (tree.act actions) h = tt
    declared_limited around start names (tree.if_ test body other at) h = tt
    declared_limited around start names (tree.switch_ test body at) h = tt
    declared_limited around start names (tree.case_ value body at) h = tt
    declared_limited around start names (tree.while_ test body at) h = tt
    declared_limited around start names (tree.do_ body test at) h = tt
    declared_limited around start names (tree.for_ init test step body at) h = tt
    declared_limited around start names (tree.break_ at) h = tt
    declared_limited around start names (tree.continue_ at) h = tt
    declared_limited around start names (tree.return_ value at) h = tt

    inner_limited : (around : Around) (start : ℕ) (names : List Declared) (stmt : StmtTree) → statement_faults bodies around start names stmt ≡ [] → Each IsLimited (objects_of stmt)
    inner_limited around start names (tree.block body) h =
        both (declared_in body) (objects_within body) (own_limited (in_part around) (length names) names body h) (within_limited (in_part around) (length names) names body h)
    inner_limited around start names (tree.declare os) h = tt
    inner_limited around start names (tree.act actions) h = tt
    inner_limited around start names (tree.if_ test body other at) h =
        let r = right_nil _ _ h in
        both (objects_of body) (else_objects other) (inner_limited (in_part around) (length names) names body (left_nil _ _ r)) (else_limited (in_part around) (length names) names other (right_nil _ _ r))
    inner_limited around start names (tree.switch_ test body at) h =
        let r = right_nil _ _ (right_nil _ _ h) in
        both (declared_in body) (objects_within body) (own_limited (in_switch around) (length names) names body r) (within_limited (in_switch around) (length names) names body r)
    inner_limited around start names (tree.case_ value body at) h =
        inner_limited around start names body (right_nil (optional_faults bodies names value) _ (right_nil (fault_if (has_no_value value) 17 at) _ (right_nil (outside_faults around.labels at) _ h)))
    inner_limited around start names (tree.while_ test body at) h = inner_limited (in_loop around) (length names) names body (right_nil _ _ h)
    inner_limited around start names (tree.do_ body test at) h = inner_limited (in_loop around) (length names) names body (left_nil _ _ h)
    inner_limited around start names (tree.for_ init test step body at) h =
        let inner = names_in_for names init in
        let first = left_nil (first_faults bodies (in_part around) (length names) names init) _ h in
        let last = right_nil (actions_faults bodies inner step) _ (right_nil (optional_faults bodies inner test) _ (right_nil (first_faults bodies (in_part around) (length names) names init) _ h)) in
        both (declared_first init ++ first_objects init) (objects_of body) (first_limited (in_part around) (length names) names init first) (inner_limited (in_loop around) (length inner) inner body last)
    inner_limited around start names (tree.break_ at) h = tt
    inner_limited around start names (tree.continue_ at) h = tt
    inner_limited around start names (tree.return_ value at) h = tt

    else_limited : (around : Around) (start : ℕ) (names : List Declared) (other : ElseTree) → else_faults bodies around start names other ≡ [] → Each IsLimited (else_objects other)
    else_limited around start names tree.no_else h = tt
    else_limited around start names (tree.else_ at body) h = inner_limited around start names body h

    first_limited : (around : Around) (start : ℕ) (names : List Declared) (init : FirstTree) → first_faults bodies around start names init ≡ [] → Each IsLimited (declared_first init ++ first_objects init)
    first_limited around start names tree.no_first h = tt
    first_limited around start names (tree.first part) h = both (declared_by part) (objects_of part) (declared_limited around start names part h) (inner_limited around start names part h)

    own_limited : (around : Around) (start : ℕ) (names : List Declared) (body : StmtTrees) → block_faults bodies around start names body ≡ [] → Each IsLimited (declared_in body)
    own_limited around start names tree.no_stmt h = tt
    own_limited around start names (tree.more_stmts first rest) h =
        both (declared_by first) (declared_in rest) (declared_limited around start names first (left_nil _ _ h)) (own_limited around start (names_behind names first) rest (right_nil _ _ h))

    within_limited : (around : Around) (start : ℕ) (names : List Declared) (body : StmtTrees) → block_faults bodies around start names body ≡ [] → Each IsLimited (objects_within body)
    within_limited around start names tree.no_stmt h = tt
    within_limited around start names (tree.more_stmts first rest) h =
        both (objects_of first) (objects_within rest) (inner_limited around start names first (left_nil _ _ h)) (within_limited around start (names_behind names first) rest (right_nil _ _ h))

  block_limited : (around : Around) (start : ℕ) (names : List Declared) (body : StmtTrees) → block_faults bodies around start names body ≡ [] → Each IsLimited (declared_in body ++ objects_within body)
  block_limited around start names body h = both (declared_in body) (objects_within body) (own_limited around start names body h) (within_limited around start names body h)

  -- ---- functions

  params_limited : (has_body : Bool) (start : ℕ) (names : List Declared) (ps : List ParamTree) → params_faults bodies has_body start names ps ≡ [] → Each IsLimited (objects_of_params ps)
  params_limited has_body start names [] h = tt
  params_limited has_body start names (p ∷ ps) h =
      let one = left_nil (param_faults bodies has_body start names p) _ h in
      (form_limited false p.object (left_nil (form_faults false p.object) _ (right_nil (param_name_faults has_body start names p) _ one)), params_limited has_body start (with_param p names) ps (right_nil (param_faults bodies has_body start names p) _ h))

  module _ (fs : List Signature) (file : Scene) where
    function_limited : (f : FunctionTree) (start : ℕ) (names : List Declared) (body : Option StmtTrees) → Each IsLimited (objects_of_params f.params) → body_faults bodies f.result start names body ≡ [] → (rest : List CoreFunctionTree) → EachFunction ProductFits rest
        → EachFunction ProductFits (function_of_item fs file f body ++ rest)
    function_limited f start names None params h rest g = g
    function_limited f start names (Some body) params h rest g =
        let os = objects_of_params f.params in
        let more = declared_in body ++ objects_within body in
        (elaborated_limited (os ++ more) (both os more params (block_limited (in_function f.result) start names body h)), g)

    items_limited : (before : List (List ℕ)) (names : List Declared) (items : List ItemTree) → items_faults bodies before names items ≡ [] → Each IsLimited (file_objects items) × EachFunction ProductFits (functions_elaborated fs file items)
    items_limited before names [] h = (tt, tt)
    items_limited before names (tree.objects os ∷ items) h =
        let rest = items_limited (with_body (tree.objects os) before) (with_item (tree.objects os) names) items (right_nil _ _ h) in
        (both os (file_objects items) (objects_limited true 0 names os (left_nil _ _ h)) rest.0, rest.1)
    items_limited before names (tree.function f ∷ items) h =
        let inner = with_function f names in
        let one = right_nil (declaration_faults before names f) (function_faults bodies inner f) (left_nil (declaration_faults before names f ++ function_faults bodies inner f) _ h) in
        let parts = right_nil (limit_faults 32 35 (function_arrays f)) _ (right_nil (limit_faults 32 34 (param_places f.params)) _ one) in
        let params = left_nil (params_faults bodies (is_some f.body) (length inner) inner f.params) (body_faults bodies f.result (length inner) (with_params f.params inner) f.body) parts in
        let body = right_nil (params_faults bodies (is_some f.body) (length inner) inner f.params) (body_faults bodies f.result (length inner) (with_params f.params inner) f.body) parts in
        let rest = items_limited (with_body (tree.function f) before) (with_item (tree.function f) names) items (right_nil _ _ h) in
        (rest.0, function_limited f (length inner) (with_params f.params inner) f.body (params_limited (is_some f.body) (length inner) inner f.params params) body (functions_elaborated fs file items) rest.1)

pub elaborated_fit : ElaboratedProductsFit
elaborated_fit p top name h =
    let all = items_limited (body_names p.items) _ _ [] [] p.items (left_nil (items_faults (body_names p.items) [] [] p.items) _ h) in
    (file_limited (file_objects p.items) all.0, all.1)
