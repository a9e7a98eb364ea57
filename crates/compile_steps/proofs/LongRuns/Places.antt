-- The top function of a core program stands where the function of the source does.
use Rattle.std.proofs.Common.{◌≡◌, ℕ, zero, suc, List, [], ◌∷◌, ◌++◌, Option, Some, None, is_some, true, length, take, refl, sym, subst, ap, ◌∙◌, slice_get}
use Rattle.std.specs.Option.{option_map}
use Rattle.c_tree.specs.Tree as tree
use Rattle.c_tree.specs.Tree.{StmtTrees, FunctionTree, ItemTree, ProgramTree}
use Rattle.c_meaning.specs.Checks.Limits.{file_objects}
use Rattle.pieces.specs.Resolved.Core.{CoreFunctionTree}
use Rattle.c_elaborate.specs.declared.functions.Signature.{Signature}
use Rattle.c_elaborate.specs.declared.blocks.Scene.{Scene}
use Rattle.c_elaborate.specs.Scenes.{file_scene}
use Rattle.c_elaborate.specs.Programs.{file_names, function_of_item, functions_of_item, functions_elaborated, signature_of, signatures_of_item, signatures, program_elaborated}
use Rattle.c_expand.specs.Expansion.{top_of}

first_place : (fs : List Signature) (file : Scene) (rest : List CoreFunctionTree) (g : FunctionTree) (b : Option StmtTrees) → is_some b ≡ true
    → option_map (λ (x : CoreFunctionTree). x.at) (slice_get (function_of_item fs file g b ++ rest) 0) ≡ Some g.at
first_place fs file rest g (Some body) has = refl
first_place fs file rest g None has = absurd cc

behind_function : (fs : List Signature) (file : Scene) (rest : List CoreFunctionTree) (more : List Signature) (g : FunctionTree) (b : Option StmtTrees)
    → slice_get (function_of_item fs file g b ++ rest) (length (signature_of g b ++ more)) ≡ slice_get rest (length more)
behind_function fs file rest more g (Some body) = refl
behind_function fs file rest more g None = refl

behind_item : (fs : List Signature) (file : Scene) (rest : List CoreFunctionTree) (more : List Signature) (item : ItemTree)
    → slice_get (functions_of_item fs file item ++ rest) (length (signatures_of_item item ++ more)) ≡ slice_get rest (length more)
behind_item fs file rest more (tree.objects os) = refl
behind_item fs file rest more (tree.function g) = behind_function fs file rest more g g.body

-- the function of an item stands behind those of the items before it
item_place : (fs : List Signature) (file : Scene) (items : List ItemTree) (index : ℕ) (g : FunctionTree) → slice_get items index ≡ Some (tree.function g) → is_some g.body ≡ true
    → option_map (λ (x : CoreFunctionTree). x.at) (slice_get (functions_elaborated fs file items) (length (signatures (take index items)))) ≡ Some g.at
item_place fs file [] index g item has = absurd cc
item_place fs file (first ∷ items) zero g item has =
    let one : Some first ≡ Some (tree.function g) = item in
    let here : first ≡ tree.function g = cc in
    subst (λ (i : ItemTree). option_map (λ (x : CoreFunctionTree). x.at) (slice_get (functions_of_item fs file i ++ functions_elaborated fs file items) 0) ≡ Some g.at) (sym here)
    (first_place fs file (functions_elaborated fs file items) g g.body has)
item_place fs file (first ∷ items) (suc index) g item has =
    ap (option_map (λ (x : CoreFunctionTree). x.at)) (behind_item fs file (functions_elaborated fs file items) (signatures (take index items)) first)
    ∙ item_place fs file items index g item has

pub top_place : (p : ProgramTree) (index : ℕ) (g : FunctionTree) → slice_get p.items index ≡ Some (tree.function g) → is_some g.body ≡ true
    → option_map (λ (x : CoreFunctionTree). x.at) (top_of (program_elaborated p index)) ≡ Some g.at
top_place p index g item has = item_place (signatures p.items) (file_scene (file_names 0 [] (file_objects p.items))) p.items index g item has
