-- Programs without faults become programs that set no object that is const.
use Rattle.std.proofs.Common.{◌≡◌, ℕ, zero, suc, ◌+◌, sym, refl, subst, is_some, List, [], ◌∷◌, ◌++◌, map, length, slice_get, Option, Some, None, true}
use Rattle.std.proofs.lemmas.Option.{none-some, same_Some}
use Rattle.c_tree.specs.Tree as tree
use Rattle.c_tree.specs.Tree.{ObjectTree, StmtTrees, FunctionTree, ItemTree, ProgramTree}
use Rattle.c_meaning.specs.Checks.Names.{Declared, object, function}
use Rattle.c_meaning.specs.Checks.Calls.{with_function, declaration_faults}
use Rattle.c_meaning.specs.Checks.Labels.{in_function}
use Rattle.c_meaning.specs.Checks.Limits.{limit_faults, param_places, function_arrays, new_function_places, file_arrays, file_objects, kept_faults}
use Rattle.c_meaning.specs.Checks.Recursion.{callers, recursion_faults}
use Rattle.c_meaning.specs.Checks.Statements.{with_object, with_objects, with_params, objects_faults, params_faults, body_faults, function_faults}
use Rattle.c_meaning.specs.Checks.Programs.{body_names, with_body, items_faults, top_faults}
use Rattle.c_meaning.specs.Store.{declared_in}
use Rattle.pieces.specs.Resolved.Core.{CoreObjectTree, CoreFunctionTree, FileObjectTree}
use Rattle.c_elaborate.specs.declared.blocks.Scene.{Scene}
use Rattle.c_elaborate.specs.declared.functions.Signature.{Signature}
use Rattle.c_elaborate.specs.Objects.{object_elaborated, objects_within}
use Rattle.c_elaborate.specs.Scenes.{declared, opened, all_declared}
use Rattle.c_elaborate.specs.Programs.{file_object, objects_of_params, function_elaborated, function_of_item, functions_elaborated, signatures, program_elaborated}
use Rattle.c_elaborate.specs.Homes.{Each, Has}
use Rattle.c_elaborate.specs.Grammatical.{AllDeclareInBlocks, ItemDeclaresInBlocks, BodyDeclaresInBlocks}
use Rattle.c_elaborate.specs.Resolved.{ItemResolved, file_scene_of}
use Rattle.c_elaborate.proofs.ElaborateRuns.Sizes.{left_nil, right_nil}
use Rattle.c_elaborate.proofs.ElaborateRuns.Functions.{has_body}
use Rattle.c_elaborate.proofs.ElaborateRuns.Grammar.{grammar_blocks}
use Rattle.c_elaborate.proofs.ElaborateRuns.FaultlessStatements.{params_named}
use Rattle.c_elaborate.proofs.ElaborateRuns.FaultlessPrograms.{names_all, Keeps, keeps_items, final, faultless_resolved}
use Rattle.source_validity.proofs.KeptTables.Whole.{expanded_kept}
use Rattle.expanded_programs.proofs.ElaboratedPrograms.Whole.{elaborated_sound}
use Rattle.expanded_programs.proofs.ElaboratedPrograms.Stages.{has_front, has_back}
use Rattle.expanded_programs.specs.Statements.Each.{InStmts}
use Rattle.source_validity.specs.KeptTables.Programs.{KeepsConstants, constant_of}
use Rattle.source_validity.specs.KeptTables.{ElaboratedConstantsKept, CheckedTablesKept}
use Rattle.source_validity.proofs.KeptTables.CheckedStatements.{SeenIn, seen_declared, all_keep}
use Rattle.source_validity.proofs.KeptTables.CheckedFunctions.{file_has, file_marked, all_marked}

module _ (functions : List CoreFunctionTree) (file : List FileObjectTree) (objects : List CoreObjectTree) (fs : List Signature) (bodies : List (List ℕ)) where
  params_seen : (os : List ObjectTree) (names : List Declared) (scene : Scene) → Has objects scene.next os → SeenIn functions file objects fs bodies names scene.names → SeenIn functions file objects fs bodies (with_objects os names) (all_declared scene os).names
  params_seen [] names scene at seen = seen
  params_seen (o ∷ os) names scene at seen = params_seen os (with_object o names) (declared scene o) at.1 (seen_declared functions file objects fs bodies names scene o seen at.0)

abbrev FunctionKeeps : List FileObjectTree → List CoreFunctionTree → CoreFunctionTree → Type 0
FunctionKeeps file functions fn = InStmts (KeepsConstants functions (constant_of file fn.objects)) (λ i. Unit {0}) fn.body

by_body : (fs : List Signature) (file : Scene) (f : FunctionTree) (b : Option StmtTrees) (rest : List CoreFunctionTree) (Q : CoreFunctionTree → Type 0) (i : ℕ) (fn : CoreFunctionTree) → slice_get (function_of_item fs file f b ++ rest) i ≡ Some fn
    → ((body : StmtTrees) → b ≡ Some body → Q (function_elaborated fs file f body)) → ((j : ℕ) → slice_get rest j ≡ Some fn → Q fn) → Q fn
by_body fs file f None rest Q i fn e first others = others i e
by_body fs file f (Some body) rest Q zero fn e first others = subst Q (same_Some (function_elaborated fs file f body) fn e) (first body refl)
by_body fs file f (Some body) rest Q (suc i) fn e first others = others i e

module _ (items : List ItemTree) (h : items_faults (body_names items) [] [] items ≡ []) (known : Each (ItemResolved items (file_scene_of items)) items) where
  abbrev fs : List Signature
  fs = signatures items

  abbrev scope : Scene
  scope = file_scene_of items

  abbrev made : List CoreFunctionTree
  made = functions_elaborated fs scope items

  abbrev file : List FileObjectTree
  file = map file_object (file_objects items)

  -- what is known at file scope
  seen_before : (objects : List CoreObjectTree) (names : List Declared) → Keeps names (final items h) → SeenIn made file objects fs (body_names items) names scope.names
  seen_before objects names keeps = record {
    objects = λ text shape e. file_marked file objects items [] [] 0 (file_has (file_objects items)) (λ other s q. absurd (none-some (object s) q)) text shape (keeps text (object shape) e);
    functions_ = λ text result params e inside. all_marked items h known text result params (keeps text (function result params) e) inside;
  }

  body_keep : (f : FunctionTree) (body : StmtTrees) (names : List Declared) → params_faults (body_names items) true (length names) names f.params ≡ [] → body_faults (body_names items) f.result (length names) (with_params f.params names) (Some body) ≡ [] → AllDeclareInBlocks body
      → Keeps names (final items h) → FunctionKeeps file made (function_elaborated fs scope f body)
  body_keep f body names g k d keeps =
      let os = objects_of_params f.params in
      let more = declared_in body ++ objects_within body in
      let objects = map object_elaborated (os ++ more) in
      let scene = all_declared scope os in
      let named = params_named items (body_names items) f.params (length names) names g in
      let seen = params_seen made file objects fs (body_names items) os names scope (has_front objects 0 os more (has_body [] (os ++ more))) (seen_before objects names keeps) in
      let seen1 = subst (λ l. SeenIn made file objects fs (body_names items) l scene.names) (sym named.0) seen in
      let has = has_body os more in
      all_keep made file objects fs (body_names items) body (in_function f.result) (length names) (with_params f.params names) (opened scene (length os)) (length os + length (declared_in body)) k d seen1 (has_front objects (length os) (declared_in body) (objects_within body) has)
      (has_back objects (length os) (declared_in body) (objects_within body) has)

  one_keep : (f : FunctionTree) (b : Option StmtTrees) (names : List Declared) → params_faults (body_names items) (is_some b) (length names) names f.params ≡ [] → body_faults (body_names items) f.result (length names) (with_params f.params names) b ≡ [] → BodyDeclaresInBlocks b
      → Keeps names (final items h) → (body : StmtTrees) → b ≡ Some body → FunctionKeeps file made (function_elaborated fs scope f body)
  one_keep f None names g k d keeps body e = absurd (none-some body e)
  one_keep f (Some b) names g k d keeps body e = subst (λ x. FunctionKeeps file made (function_elaborated fs scope f x)) (same_Some b body e) (body_keep f b names g k d keeps)

  functions_keep : (sub : List ItemTree) (before : List (List ℕ)) (names : List Declared) → items_faults (body_names items) before names sub ≡ [] → names_all names sub ≡ final items h → Each ItemDeclaresInBlocks sub
      → (i : ℕ) (fn : CoreFunctionTree) → slice_get (functions_elaborated fs scope sub) i ≡ Some fn → FunctionKeeps file made fn
  functions_keep [] before names g is d i fn e = absurd (none-some fn e)
  functions_keep (tree.objects os ∷ sub) before names g is d i fn e =
      functions_keep sub before (with_objects os names) (right_nil (objects_faults (body_names items) true 0 names os) (items_faults (body_names items) before (with_objects os names) sub) g) is d.1 i fn e
  functions_keep (tree.function f ∷ sub) before names g is d i fn e =
      let bodies = body_names items in
      let inner = with_function f names in
      let a1 = declaration_faults before names f in
      let a2 = function_faults bodies inner f in
      let b = items_faults bodies (with_body (tree.function f) before) inner sub in
      let rest = right_nil (a1 ++ a2) b g in
      let l1 = limit_faults 32 34 (param_places f.params) in
      let l2 = limit_faults 32 35 (function_arrays f) in
      let ps = params_faults bodies (is_some f.body) (length inner) inner f.params in
      let bs = body_faults bodies f.result (length inner) (with_params f.params inner) f.body in
      let parts = right_nil l2 (ps ++ bs) (right_nil l1 (l2 ++ (ps ++ bs)) (right_nil a1 a2 (left_nil (a1 ++ a2) b g))) in
      let keeps : Keeps inner (final items h) = subst (λ l. Keeps inner l) is (keeps_items bodies (with_body (tree.function f) before) sub inner rest) in
      by_body fs scope f f.body (functions_elaborated fs scope sub) (FunctionKeeps file made) i fn e (λ body is_body. one_keep f f.body inner (left_nil ps bs parts) (right_nil ps bs parts) d.0 keeps body is_body)
      (λ j there. functions_keep sub (with_body (tree.function f) before) inner rest is d.1 j fn there)

pub elaborated_kept : ElaboratedConstantsKept
elaborated_kept tokens end p top name derives h i fn at =
    let items = p.items in
    let a = items_faults (body_names items) [] [] items in
    let b = recursion_faults (callers [] items) (callers [] items) in
    let c = limit_faults 64 33 (new_function_places [] items) ++ (limit_faults 32 35 (file_arrays items) ++ (kept_faults 0 (file_objects items) ++ top_faults name p)) in
    let faultless = left_nil a (b ++ c) h in
    let blocks = grammar_blocks tokens end p derives in
    let known = faultless_resolved p name h blocks in
    functions_keep items faultless known items [] [] faultless refl blocks i fn at

pub checked_kept : CheckedTablesKept
checked_kept tokens end p top name fits derives is_top h = expanded_kept (program_elaborated p top) (elaborated_sound tokens end p top name fits derives is_top h) (elaborated_kept tokens end p top name derives h)
