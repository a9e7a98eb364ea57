-- The functions of a program without faults have few parameters.
use Rattle.std.proofs.Common.{◌≡◌, ◌≤◌, ℕ, zero, suc, arith, ap, List, [], ◌∷◌, ◌++◌, length, length-append}
use Rattle.std.specs.Prelude.{is_some}
use Rattle.std.proofs.lemmas.List.{length-map}
use Rattle.std.proofs.lemmas.Option.{none-some}
use Rattle.hls_base.specs.declared.place.Place.{Place}
use Rattle.c_tree.specs.Tree as tree
use Rattle.c_tree.specs.Tree.{StmtTrees, ParamTree, FunctionTree, ItemTree}
use Rattle.c_meaning.specs.Checks.Names.{Declared}
use Rattle.c_meaning.specs.Checks.Calls.{with_function, declaration_faults}
use Rattle.c_meaning.specs.Checks.Limits.{file_objects, limit_faults, param_places, function_arrays}
use Rattle.c_meaning.specs.Checks.Statements.{with_params, params_faults, body_faults, function_faults}
use Rattle.c_meaning.specs.Checks.Programs.{with_body, with_item, item_faults, items_faults, body_names}
use Rattle.pieces.specs.Resolved.Core.{CoreFunctionTree}
use Rattle.c_elaborate.specs.declared.blocks.Scene.{Scene}
use Rattle.c_elaborate.specs.declared.functions.Signature.{Signature}
use Rattle.c_elaborate.specs.Scenes.{file_scene}
use Rattle.c_elaborate.specs.Programs.{objects_of_params, functions_elaborated, signatures, file_names}
use Rattle.program_sizes.specs.DeclaredObjects.{ParametersAreFew}
use Rattle.program_sizes.proofs.DeclaredObjects.Functions.{Each, function_first}

few_places : (places : List Place) (limit rule : ℕ) → length (limit_faults limit rule places) ≡ 0 → length places ≤ limit
few_places [] limit rule none = omega arith
few_places (x ∷ places) zero rule none = absurd (omega (arith, none))
few_places (x ∷ places) (suc limit) rule none = let rest = few_places places limit rule none in omega (arith, rest)

places_of_params : (ps : List ParamTree) → length (param_places ps) ≡ length ps
places_of_params [] = omega arith
places_of_params (p ∷ ps) = let h = places_of_params ps in omega (arith, h)

few_params : (bodies : List (List ℕ)) (names : List Declared) (f : FunctionTree) → length (function_faults bodies names f) ≡ 0 → length (objects_of_params f.params) ≤ 32
few_params bodies names f none =
    let limit = limit_faults 32 34 (param_places f.params) in
    let rest = limit_faults 32 35 (function_arrays f) ++ (params_faults bodies (is_some f.body) (length names) names f.params ++ body_faults bodies f.result (length names) (with_params f.params names) f.body) in
    let l = length-append limit rest in
    let few = few_places (param_places f.params) 32 34 (omega (arith, none, l)) in
    let places = places_of_params f.params in
    let objects = length-map f.params (λ (p : ParamTree). p.object) in
    omega (arith, few, places, objects)

abbrev HasFewParameters : CoreFunctionTree → Type 0
HasFewParameters fn = fn.params ≤ 32

few_in_items : (fs : List Signature) (file : Scene) (bodies before : List (List ℕ)) (names : List Declared) (items : List ItemTree) → length (items_faults bodies before names items) ≡ 0 → Each HasFewParameters (functions_elaborated fs file items)
few_in_items fs file bodies before names [] none = λ i fn e. absurd (none-some fn e)
few_in_items fs file bodies before names (tree.objects os ∷ items) none =
    let l = length-append (item_faults bodies before names (tree.objects os)) (items_faults bodies (with_body (tree.objects os) before) (with_item (tree.objects os) names) items) in
    few_in_items fs file bodies (with_body (tree.objects os) before) (with_item (tree.objects os) names) items (omega (arith, none, l))
few_in_items fs file bodies before names (tree.function f ∷ items) none =
    let inner = with_function f names in
    let more = items_faults bodies (with_body (tree.function f) before) (with_item (tree.function f) names) items in
    let l = length-append (item_faults bodies before names (tree.function f)) more in
    let m = length-append (declaration_faults before names f) (function_faults bodies inner f) in
    let few = few_params bodies inner f (omega (arith, none, l, m)) in
    function_first HasFewParameters fs file f f.body (functions_elaborated fs file items) (λ body. few)
    (few_in_items fs file bodies (with_body (tree.function f) before) (with_item (tree.function f) names) items (omega (arith, none, l)))

first_none : {A : Type 0} (xs ys : List A) → xs ++ ys ≡ [] → length xs ≡ 0
first_none xs ys none = let l = length-append xs ys in let e = ap length none in omega (arith, l, e)

pub parameters_few : ParametersAreFew
parameters_few p name top none =
    few_in_items (signatures p.items) (file_scene (file_names 0 [] (file_objects p.items))) (body_names p.items) [] [] p.items (first_none (items_faults (body_names p.items) [] [] p.items) _ none)
