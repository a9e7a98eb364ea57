-- Names of file scope stand for objects that are const where they say so.
use Rattle.std.proofs.Common.{◌≡◌, ℕ, suc, ◌+◌, ◌&&◌, ◌||◌, ◌∙◌, sym, refl, ap, subst, Bool, true, false, true≢false, bytes_eq, is_some, not, List, [], ◌∷◌, ◌++◌, map, length, slice_get, Option, Some, None, if◌then◌else◌, arith}
use Rattle.std.proofs.lemmas.Slice.Eq.{bytes_eq-Decides}
use Rattle.c_token.specs.declared.ctype.CType.{CType}
use Rattle.c_token.specs.Replacement.{is_in, same_type}
use Rattle.c_tree.specs.Tree as tree
use Rattle.c_tree.specs.Tree.{ObjectTree, ParamTree, FunctionTree, ItemTree}
use Rattle.c_meaning.specs.Checks.Names.{Shape, is_array, same_flag, Sense, object, function, Declared, sense_of}
use Rattle.c_meaning.specs.Checks.Lengths.{shape_of}
use Rattle.c_meaning.specs.Checks.Calls.{same_lengths, same_shape, same_shapes, same_result, param_shapes, with_function, disagrees, declaration_faults}
use Rattle.c_meaning.specs.Checks.Limits.{file_objects}
use Rattle.c_meaning.specs.Checks.Statements.{with_object, with_objects, objects_faults, function_faults}
use Rattle.c_meaning.specs.Checks.Programs.{body_names, with_body, items_faults}
use Rattle.c_meaning.specs.Run.{function_named, first_of}
use Rattle.pieces.specs.declared.resolved.expression.Cell.{Cell}
use Rattle.pieces.specs.declared.resolved.expression.Scope.TheVariants as scope
use Rattle.pieces.specs.Resolved.Core.{CoreObjectTree, CoreFunctionTree, FileObjectTree}
use Rattle.c_elaborate.specs.declared.names.Binding.{Binding}
use Rattle.c_elaborate.specs.Names.{object_named, binding_of, cell_of}
use Rattle.c_elaborate.specs.Objects.{object_elaborated}
use Rattle.c_elaborate.specs.Programs.{file_object, file_names, objects_of_params, functions_elaborated, signatures}
use Rattle.c_elaborate.specs.Homes.{Each}
use Rattle.c_elaborate.specs.Resolved.{HasLengths, ItemResolved, file_scene_of}
use Rattle.c_elaborate.proofs.ElaborateRuns.Lists.{bytes_turned}
use Rattle.c_elaborate.proofs.ElaborateRuns.Sizes.{left_nil, right_nil, unbroken, neither, both_true, holds}
use Rattle.c_elaborate.proofs.ElaborateRuns.FaultlessPrograms.{names_all, Keeps, keeps_items, final}
use Rattle.expanded_programs.specs.Statements.Scopes.{Setting}
use Rattle.expanded_programs.proofs.ElaboratedPrograms.Functions.{all_there}
use Rattle.source_validity.specs.KeptTables.Programs.{file_constant, constant_of}
use Rattle.source_validity.proofs.KeptTables.Marked.{ObjectsMarked, AreMarked, IsMarked, FunctionsMarked, objects_more}
use Rattle.source_answers.proofs.SourceRuns.ElaboratedSubscripts.Dimensions.{dimensions_kept}
use Rattle.source_answers.proofs.SourceRuns.ElaboratedSubscripts.Expressions.{same_count}

-- ---- objects of file scope

abbrev FileHas : List FileObjectTree → ℕ → List ObjectTree → Type 0
FileHas file n [] = Unit {0}
FileHas file n (o ∷ os) = (slice_get file n ≡ Some (file_object o)) × FileHas file (n + 1) os

behind_one : (f : FileObjectTree) (file : List FileObjectTree) (n : ℕ) (os : List ObjectTree) → FileHas file n os → FileHas (f ∷ file) (n + 1) os
behind_one f file n [] h = tt
behind_one f file n (o ∷ os) h = (subst (λ k. slice_get (f ∷ file) k ≡ Some (file_object o)) (let e : suc n ≡ n + 1 = omega arith in e) h.0, behind_one f file (n + 1) os h.1)

pub file_has : (os : List ObjectTree) → FileHas (map file_object os) 0 os
file_has [] = tt
file_has (o ∷ os) = (refl, behind_one (file_object o) (map file_object os) 0 os (file_has os))

no_object : (constant : Cell → Bool) (f : FunctionTree) (names : List Declared) (rs : List Binding) → ObjectsMarked constant names rs → ObjectsMarked constant (record { name = f.name; sense = function f.result (param_shapes f.params) } ∷ names) rs
no_object constant f names rs h text shape e = by (bytes_eq text f.name) e
  where
    by : (z : Bool) → (if z then Some (function f.result (param_shapes f.params)) else sense_of text names) ≡ Some (object shape) → constant (object_named rs text).cell ≡ shape.constant
    by true g = absurd cc
    by false g = h text shape g

no_object_if : (constant : Cell → Bool) (f : FunctionTree) (names : List Declared) (rs : List Binding) (y : Bool) → ObjectsMarked constant names rs
    → ObjectsMarked constant (if y then names else record { name = f.name; sense = function f.result (param_shapes f.params) } ∷ names) rs
no_object_if constant f names rs true h = h
no_object_if constant f names rs false h = no_object constant f names rs h

module _ (file : List FileObjectTree) (objects : List CoreObjectTree) where
  abbrev D : Cell → Bool
  D = constant_of file objects

  -- what holds behind the other objects holds behind these and them
  objects_marked : (os more : List ObjectTree) (names : List Declared) (rs : List Binding) (i : ℕ) → FileHas file i (os ++ more) → ObjectsMarked D names rs → (Q : List Binding → Type 0)
      → ((bs : List Binding) (j : ℕ) → FileHas file j more → ObjectsMarked D (with_objects os names) bs → Q (file_names j bs more)) → Q (file_names i rs (os ++ more))
  objects_marked [] more names rs i at h Q behind = behind rs i at h
  objects_marked (o ∷ os) more names rs i at h Q behind =
      objects_marked os more (with_object o names) (binding_of o (cell_of scope.File i) ∷ rs) (i + 1) at.1 (objects_more D names rs o (cell_of scope.File i) (ap file_constant at.0) h) Q behind

  pub file_marked : (items : List ItemTree) (names : List Declared) (rs : List Binding) (i : ℕ) → FileHas file i (file_objects items) → ObjectsMarked D names rs → ObjectsMarked D (names_all names items) (file_names i rs (file_objects items))
  file_marked [] names rs i at h = h
  file_marked (tree.objects os ∷ items) names rs i at h =
      objects_marked os (file_objects items) names rs i at h (λ bs. ObjectsMarked D (names_all (with_objects os names) items) bs) (λ bs j at1 h1. file_marked items (with_objects os names) bs j at1 h1)
  file_marked (tree.function f ∷ items) names rs i at h = file_marked items (with_function f names) rs i at (no_object_if D f names rs (is_some (sense_of f.name names)) h)

-- ---- functions

-- parameters of the same dimensions, of which arrays are const alike
abbrev Alike : List Shape → List ParamTree → Type 0
Alike [] [] = Unit {0}
Alike [] (p ∷ ps) = ⊥
Alike (x ∷ xs) [] = ⊥
Alike (x ∷ xs) (p ∷ ps) = ((length x.lengths ≡ length (shape_of p.object).lengths) × (is_array x ≡ true → p.object.constant ≡ x.constant)) × Alike xs ps

own_params : (ps : List ParamTree) → Alike (param_shapes ps) ps
own_params [] = tt
own_params (p ∷ ps) = ((refl, λ is. refl), own_params ps)

alike_flags : (y a b : Bool) → (not y || same_flag a b) ≡ true → y ≡ true → b ≡ a
alike_flags false a b h e = absurd (true≢false (sym e))
alike_flags true true b h e = h
alike_flags true false true h e = absurd (true≢false (sym h))
alike_flags true false false h e = refl

alike_params : (xs : List Shape) (ps : List ParamTree) → same_shapes xs (param_shapes ps) ≡ true → Alike xs ps
alike_params [] [] h = tt
alike_params [] (p ∷ ps) h = absurd (true≢false (sym h))
alike_params (x ∷ xs) [] h = absurd (true≢false (sym h))
alike_params (x ∷ xs) (p ∷ ps) h =
    let a = both_true (same_shape x (shape_of p.object)) (same_shapes xs (param_shapes ps)) h in
    let b = both_true (same_type x.kind p.object.kind) _ a.0 in
    let n = both_true (same_lengths x.lengths (shape_of p.object).lengths) _ b.1 in
    ((same_count x.lengths (shape_of p.object).lengths n.0, alike_flags (is_array x) x.constant p.object.constant n.1), alike_params xs ps a.1)

alike_marked : (xs : List Shape) (ps : List ParamTree) → Alike xs ps → Each HasLengths (objects_of_params ps) → AreMarked xs (map object_elaborated (objects_of_params ps))
alike_marked [] [] h has = tt
alike_marked [] (p ∷ ps) h has = absurd h
alike_marked (x ∷ xs) [] h has = absurd h
alike_marked (x ∷ xs) (p ∷ ps) h has = ((dimensions_kept p.object has.0 ∙ sym h.0.0, h.0.1), alike_marked xs ps h.1 has.1)

-- the sense of a function's name behind its declaration
abbrev Sensed : Option Sense → List ParamTree → Type 0
Sensed q ps = (result : Option CType) × (params : List Shape) × (q ≡ Some (function result params)) × Alike params ps

found_first : (f : FunctionTree) (names : List Declared) (text : List ℕ) (new : Sense) → bytes_eq text f.name ≡ true → sense_of text (record { name = f.name; sense = new } ∷ names) ≡ Some new
found_first f names text new e = ap (λ (y : Bool). if y then Some new else sense_of text names) e

sensed_by : (f : FunctionTree) (names : List Declared) (text : List ℕ) (q : Option Sense) → bytes_eq text f.name ≡ true → sense_of text names ≡ q → disagrees f q ≡ false
    → Sensed (sense_of text (if is_some q then names else record { name = f.name; sense = function f.result (param_shapes f.params) } ∷ names)) f.params
sensed_by f names text None e g h = (f.result, param_shapes f.params, found_first f names text (function f.result (param_shapes f.params)) e, own_params f.params)
sensed_by f names text (Some (object shape)) e g h = absurd (true≢false h)
sensed_by f names text (Some (function result params)) e g h =
    (result, params, g, alike_params params f.params (both_true (same_result result f.result) (same_shapes params (param_shapes f.params)) (holds (same_result result f.result && same_shapes params (param_shapes f.params)) h)).1)

sensed_here : (before : List (List ℕ)) (f : FunctionTree) (names : List Declared) (text : List ℕ) → bytes_eq f.name text ≡ true → declaration_faults before names f ≡ [] → Sensed (sense_of text (with_function f names)) f.params
sensed_here before f names text e h =
    let same : f.name ≡ text = (bytes_eq-Decides f.name text).0 e in
    let d = neither (disagrees f (sense_of f.name names)) (is_some f.body && is_in f.name before) (unbroken (disagrees f (sense_of f.name names) || (is_some f.body && is_in f.name before)) 8 f.at h) in
    subst (λ z. Sensed (sense_of z (with_function f names)) f.params) same (sensed_by f names f.name (sense_of f.name names) ((bytes_eq-Decides f.name f.name).1 refl) refl d.0)

keep_sensed : (names more : List Declared) (text : List ℕ) (ps : List ParamTree) → Keeps names more → Sensed (sense_of text names) ps → Sensed (sense_of text more) ps
keep_sensed names more text ps keeps h = (h.0, h.1, keeps text (function h.0 h.1) h.2, h.3)

-- A function that is found by its name has parameters like those that the name says.
abbrev FoundSensed : List Declared → List ℕ → Option FunctionTree → Type 0
FoundSensed names text None = Unit {0}
FoundSensed names text (Some f) = Sensed (sense_of text names) f.params

first_sensed : (names : List Declared) (text : List ℕ) (f : FunctionTree) (b y : Bool) (o : Option FunctionTree) → (y ≡ true → Sensed (sense_of text names) f.params) → FoundSensed names text o → FoundSensed names text (first_of (if b && y then Some f else None) o)
first_sensed names text f true true o here others = here refl
first_sensed names text f true false o here others = others
first_sensed names text f false y o here others = others

found_sensed : (bodies before : List (List ℕ)) (items : List ItemTree) (names : List Declared) (text : List ℕ) → items_faults bodies before names items ≡ [] → FoundSensed (names_all names items) text (function_named items text)
found_sensed bodies before [] names text h = tt
found_sensed bodies before (tree.objects os ∷ items) names text h =
    found_sensed bodies before items (with_objects os names) text (right_nil (objects_faults bodies true 0 names os) (items_faults bodies before (with_objects os names) items) h)
found_sensed bodies before (tree.function f ∷ items) names text h =
    let d = declaration_faults before names f in
    let a = d ++ function_faults bodies (with_function f names) f in
    let b = items_faults bodies (with_body (tree.function f) before) (with_function f names) items in
    let rest = right_nil a b h in
    first_sensed (names_all (with_function f names) items) text f (is_some f.body) (bytes_eq f.name text) (function_named items text)
    (λ e. keep_sensed (with_function f names) (names_all (with_function f names) items) text f.params (keeps_items bodies (with_body (tree.function f) before) items (with_function f names) rest)
    (sensed_here before f names text e (left_nil d (function_faults bodies (with_function f names) f) (left_nil a b h))))
    (found_sensed bodies (with_body (tree.function f) before) items (with_function f names) text rest)

-- ---- functions with bodies are found

abbrev Found : Option FunctionTree → Type 0
Found o = (f : FunctionTree) × (o ≡ Some f)

first_found : (f : FunctionTree) (text : List ℕ) (b y : Bool) (o : Option FunctionTree) (names : List (List ℕ)) → bytes_eq text f.name ≡ y → (is_in text names ≡ true → Found o) → is_in text (if b then f.name ∷ names else names) ≡ true
    → Found (first_of (if b && y then Some f else None) o)
first_found f text true true o names e others h = (f, refl)
first_found f text true false o names e others h = others (subst (λ (z : Bool). (z || is_in text names) ≡ true) e h)
first_found f text false y o names e others h = others h

found_body : (items : List ItemTree) (text : List ℕ) → is_in text (body_names items) ≡ true → Found (function_named items text)
found_body [] text h = absurd (true≢false (sym h))
found_body (tree.objects os ∷ items) text h = found_body items text h
found_body (tree.function f ∷ items) text h =
    first_found f text (is_some f.body) (bytes_eq f.name text) (function_named items text) (body_names items) (bytes_turned text f.name) (found_body items text) h

function_senses : (r s : Option CType) (xs ys : List Shape) → Some (function r xs) ≡ Some (function s ys) → xs ≡ ys
function_senses r s xs ys h = let e : xs ≡ ys = cc in e

module _ (items : List ItemTree) (h : items_faults (body_names items) [] [] items ≡ []) (known : Each (ItemResolved items (file_scene_of items)) items) where
  abbrev made : List CoreFunctionTree
  made = functions_elaborated (signatures items) (file_scene_of items) items

  abbrev of_file : Setting
  of_file = record { file = []; functions = made; Callable = λ i. Unit {0}; params = 0; objects = []; result = None }

  pub all_marked : FunctionsMarked made (signatures items) (body_names items) (final items h)
  all_marked text result params e inside =
      let f = found_body items text inside in
      let s : Sensed (sense_of text (final items h)) f.0.params = subst (λ o. FoundSensed (final items h) text o) f.1 (found_sensed (body_names items) [] items [] text h) in
      let alike = subst (λ l. Alike l f.0.params) (function_senses s.0 result s.1 params (sym s.2 ∙ e)) s.3 in
      let there = all_there of_file items refl known text f.0 f.1 in
      subst (IsMarked params) (sym there.1) (subst (AreMarked params) (sym there.3) (alike_marked params f.0.params alike there.4))
