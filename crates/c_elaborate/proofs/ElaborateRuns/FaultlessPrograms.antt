-- Programs without faults are resolved.
use Rattle.std.proofs.Common.{◌≡◌, ℕ, suc, ◌+◌, ◌-◌, ◌==◌, ◌&&◌, ◌||◌, not, ◌∙◌, sym, refl, ap, subst, Bool, true, false, true≢false, if◌then◌else◌, bytes_eq, is_some, List, [], ◌∷◌, ◌++◌, length, Option, Some, None, take_all, arith}
use Rattle.std.proofs.lemmas.Option.{none-some}
use Rattle.std.proofs.lemmas.Slice.Eq.{bytes_eq-Decides}
use Rattle.c_token.specs.declared.ctype.CType.{CType}
use Rattle.c_token.specs.Replacement.{is_in, same_type}
use Rattle.c_tree.specs.Tree as tree
use Rattle.c_tree.specs.Tree.{ObjectTree, StmtTrees, ParamTree, FunctionTree, ItemTree, ProgramTree}
use Rattle.c_meaning.specs.Checks.Faults.{fault_if}
use Rattle.c_meaning.specs.Checks.Names.{Shape, is_array, Sense, object, function, Declared, sense_of, names_since, is_declared_since}
use Rattle.c_meaning.specs.Checks.Lengths.{shape_of}
use Rattle.c_meaning.specs.Checks.Calls.{same_length, same_lengths, same_shape, same_shapes, same_result, param_shapes, with_function, disagrees, declaration_faults}
use Rattle.c_meaning.specs.Checks.Limits.{limit_faults, param_places, function_arrays, file_objects, new_function_places, file_arrays, kept_faults}
use Rattle.c_meaning.specs.Checks.Recursion.{callers, recursion_faults}
use Rattle.c_meaning.specs.Checks.Statements.{with_object, with_objects, object_faults, objects_faults, with_params, params_faults, body_faults, function_faults}
use Rattle.c_meaning.specs.Checks.Programs.{body_names, with_body, with_item, items_faults, top_faults, program_faults}
use Rattle.c_meaning.specs.Run.{function_named, first_of}
use Rattle.c_elaborate.specs.declared.names.Known.{Known}
use Rattle.c_elaborate.specs.declared.names.Binding.{Binding}
use Rattle.pieces.specs.declared.resolved.expression.Scope.TheVariants as scope
use Rattle.c_elaborate.specs.Names.{object_found, binding_of, cell_of}
use Rattle.c_elaborate.specs.Programs.{file_names, objects_of_params}
use Rattle.c_elaborate.specs.Homes.{Each}
use Rattle.c_elaborate.specs.Known.{KnowsObject, AreAlike, KnowsSense, Knows}
use Rattle.c_elaborate.specs.Grammatical.{BodyDeclaresInBlocks, ItemDeclaresInBlocks, ProgramDeclaresInBlocks}
use Rattle.c_elaborate.specs.Resolved.{HasLengths, BodyResolved, ItemResolved, file_scene_of, IsProgramResolved}
use Rattle.c_elaborate.specs.Laws.{ElaborationKeepsRuns}
use Rattle.c_elaborate.proofs.ElaborateRuns.Lists.{bytes_turned}
use Rattle.c_elaborate.proofs.ElaborateRuns.Sizes.{left_nil, right_nil, unbroken, neither, both_true, holds, sized, has_lengths, shape_count}
use Rattle.c_elaborate.proofs.ElaborateRuns.Faultless.{same_types}
use Rattle.c_elaborate.proofs.ElaborateRuns.Runs.{runs_kept}
use Rattle.c_elaborate.proofs.ElaborateRuns.FaultlessStatements.{form_of, body_resolved}

-- ---- names of file scope are declared once

-- the names behind all of these items
abbrev pub names_all : List Declared → List ItemTree → List Declared
names_all names [] = names
names_all names (item ∷ items) = names_all (with_item item names) items

abbrev pub Keeps : List Declared → List Declared → Type 0
Keeps names more = (text : List ℕ) (σ : Sense) → sense_of text names ≡ Some σ → sense_of text more ≡ Some σ

absent : (q : Option Sense) (σ : Sense) → is_some q ≡ false → q ≡ Some σ → ⊥
absent q σ h e = true≢false (sym (ap is_some e) ∙ h)

kept_one : (names : List Declared) (text name : List ℕ) (σ new : Sense) (y : Bool) → bytes_eq text name ≡ y → is_some (sense_of name names) ≡ false → sense_of text names ≡ Some σ → (if y then Some new else sense_of text names) ≡ Some σ
kept_one names text name σ new true e fresh h =
    let same : text ≡ name = (bytes_eq-Decides text name).0 e in
    absurd (absent (sense_of name names) σ fresh (ap (λ z. sense_of z names) (sym same) ∙ h))
kept_one names text name σ new false e fresh h = h

keeps_new : (names : List Declared) (name : List ℕ) (new : Sense) → is_some (sense_of name names) ≡ false → Keeps names (record { name = name; sense = new } ∷ names)
keeps_new names name new fresh text σ h = kept_one names text name σ new (bytes_eq text name) refl fresh h

pub keeps_both : (names more most : List Declared) → Keeps names more → Keeps more most → Keeps names most
keeps_both names more most a b text σ h = b text σ (a text σ h)

since_start : (names : List Declared) → names_since 0 names ≡ names
since_start names = take_all (length names - 0) names (omega arith)

fresh_object : (bodies : List (List ℕ)) (names : List Declared) (o : ObjectTree) → object_faults bodies true 0 names o ≡ [] → is_some (sense_of o.name names) ≡ false
fresh_object bodies names o h =
    subst (λ l. is_some (sense_of o.name l) ≡ false) (since_start names) (unbroken (is_declared_since 0 o.name names) 8 o.at (left_nil (fault_if (is_declared_since 0 o.name names) 8 o.at) _ h))

pub keeps_objects : (bodies : List (List ℕ)) (os : List ObjectTree) (names : List Declared) → objects_faults bodies true 0 names os ≡ [] → Keeps names (with_objects os names)
keeps_objects bodies [] names h = λ text σ e. e
keeps_objects bodies (o ∷ os) names h =
    let one = left_nil (object_faults bodies true 0 names o) (objects_faults bodies true 0 (with_object o names) os) h in
    let rest = right_nil (object_faults bodies true 0 names o) (objects_faults bodies true 0 (with_object o names) os) h in
    keeps_both names (with_object o names) (with_objects os (with_object o names)) (keeps_new names o.name (object (shape_of o)) (fresh_object bodies names o one)) (keeps_objects bodies os (with_object o names) rest)

keeps_if : (f : FunctionTree) (names : List Declared) (y : Bool) → is_some (sense_of f.name names) ≡ y → Keeps names (if y then names else record { name = f.name; sense = function f.result (param_shapes f.params) } ∷ names)
keeps_if f names true e = λ text σ h. h
keeps_if f names false e = keeps_new names f.name (function f.result (param_shapes f.params)) e

keeps_function : (f : FunctionTree) (names : List Declared) → Keeps names (with_function f names)
keeps_function f names = keeps_if f names (is_some (sense_of f.name names)) refl

pub keeps_items : (bodies before : List (List ℕ)) (items : List ItemTree) (names : List Declared) → items_faults bodies before names items ≡ [] → Keeps names (names_all names items)
keeps_items bodies before [] names h = λ text σ e. e
keeps_items bodies before (tree.objects os ∷ items) names h =
    let a = objects_faults bodies true 0 names os in
    let b = items_faults bodies before (with_objects os names) items in
    keeps_both names (with_objects os names) (names_all (with_objects os names) items) (keeps_objects bodies os names (left_nil a b h)) (keeps_items bodies before items (with_objects os names) (right_nil a b h))
keeps_items bodies before (tree.function f ∷ items) names h =
    let a = declaration_faults before names f ++ function_faults bodies (with_function f names) f in
    let b = items_faults bodies (with_body (tree.function f) before) (with_function f names) items in
    keeps_both names (with_function f names) (names_all (with_function f names) items) (keeps_function f names) (keeps_items bodies (with_body (tree.function f) before) items (with_function f names) (right_nil a b h))

-- ---- objects

abbrev KnowsObjects : List Declared → List Binding → Type 0
KnowsObjects names rs = (text : List ℕ) (shape : Shape) → sense_of text names ≡ Some (object shape) → KnowsObject (object_found text rs) shape

object_senses : (s t : Shape) → Some (object s) ≡ Some (object t) → s ≡ t
object_senses s t h = let e : s ≡ t = cc in e

object_is : (q : Option Known) (known : Known) (o : ObjectTree) (σ : Option Sense) (shape : Shape) (y : Bool) → known.kind ≡ o.kind → known.is_array ≡ is_array (shape_of o)
    → (σ ≡ Some (object shape) → KnowsObject q shape) → (if y then Some (object (shape_of o)) else σ) ≡ Some (object shape) → KnowsObject (if y then Some known else q) shape
object_is q known o σ shape true k a others h = subst (λ z. KnowsObject (Some known) z) (object_senses (shape_of o) shape h) (known, refl, k, a)
object_is q known o σ shape false k a others h = others h

knows_object : (names : List Declared) (rs : List Binding) (o : ObjectTree) (i : ℕ) → KnowsObjects names rs → KnowsObjects (with_object o names) (binding_of o (cell_of scope.File i) ∷ rs)
knows_object names rs o i h text shape e =
    object_is (object_found text rs) (binding_of o (cell_of scope.File i)).object o (sense_of text names) shape (bytes_eq text o.name) refl (ap (λ n. not (n == 0)) (sym (shape_count o))) (h text shape) e

knows_objects : (os : List ObjectTree) (names : List Declared) (rs : List Binding) (i : ℕ) → KnowsObjects names rs → KnowsObjects (with_objects os names) (file_names i rs os)
knows_objects [] names rs i h = h
knows_objects (o ∷ os) names rs i h = knows_objects os (with_object o names) (binding_of o (cell_of scope.File i) ∷ rs) (i + 1) (knows_object names rs o i h)

no_object : (names : List Declared) (rs : List Binding) (name : List ℕ) (result : Option CType) (params : List Shape) → KnowsObjects names rs → KnowsObjects (record { name = name; sense = function result params } ∷ names) rs
no_object names rs name result params h text shape e = by (bytes_eq text name) e
  where
    by : (y : Bool) → (if y then Some (function result params) else sense_of text names) ≡ Some (object shape) → KnowsObject (object_found text rs) shape
    by true g = absurd cc
    by false g = h text shape g

no_object_if : (f : FunctionTree) (names : List Declared) (rs : List Binding) (y : Bool) → KnowsObjects names rs → KnowsObjects (if y then names else record { name = f.name; sense = function f.result (param_shapes f.params) } ∷ names) rs
no_object_if f names rs true h = h
no_object_if f names rs false h = no_object names rs f.name f.result (param_shapes f.params) h

files_split : (os more : List ObjectTree) (i : ℕ) (rs : List Binding) → (j : ℕ) × (file_names i rs (os ++ more) ≡ file_names j (file_names i rs os) more)
files_split [] more i rs = (i, refl)
files_split (o ∷ os) more i rs = files_split os more (i + 1) (binding_of o (cell_of scope.File i) ∷ rs)

knows_files : (items : List ItemTree) (names : List Declared) (rs : List Binding) (i : ℕ) → KnowsObjects names rs → KnowsObjects (names_all names items) (file_names i rs (file_objects items))
knows_files [] names rs i h = h
knows_files (tree.objects os ∷ items) names rs i h =
    let s = files_split os (file_objects items) i rs in
    subst (λ l. KnowsObjects (names_all (with_objects os names) items) l) (sym s.1) (knows_files items (with_objects os names) (file_names i rs os) s.0 (knows_objects os names rs i h))
knows_files (tree.function f ∷ items) names rs i h = knows_files items (with_function f names) rs i (no_object_if f names rs (is_some (sense_of f.name names)) h)

-- ---- functions

own_params : (ps : List ParamTree) → AreAlike (param_shapes ps) ps
own_params [] = tt
own_params (p ∷ ps) = ((ap (λ n. not (n == 0)) (shape_count p.object), refl), own_params ps)

same_count : (xs ys : List (Option ℕ)) → same_lengths xs ys ≡ true → length xs ≡ length ys
same_count [] [] h = refl
same_count [] (y ∷ ys) h = absurd (true≢false (sym h))
same_count (x ∷ xs) [] h = absurd (true≢false (sym h))
same_count (x ∷ xs) (y ∷ ys) h = ap suc (same_count xs ys (both_true (same_length x y) (same_lengths xs ys) h).1)

alike_params : (xs : List Shape) (ps : List ParamTree) → same_shapes xs (param_shapes ps) ≡ true → AreAlike xs ps
alike_params [] [] h = tt
alike_params [] (p ∷ ps) h = absurd (true≢false (sym h))
alike_params (x ∷ xs) [] h = absurd (true≢false (sym h))
alike_params (x ∷ xs) (p ∷ ps) h =
    let a = both_true (same_shape x (shape_of p.object)) (same_shapes xs (param_shapes ps)) h in
    let b = both_true (same_type x.kind p.object.kind) _ a.0 in
    let n = both_true (same_lengths x.lengths (shape_of p.object).lengths) _ b.1 in
    ((ap (λ m. not (m == 0)) (same_count x.lengths (shape_of p.object).lengths n.0 ∙ shape_count p.object), same_types x.kind p.object.kind b.0), alike_params xs ps a.1)

-- the sense of a function's name behind its declaration
abbrev Sensed : Option Sense → List ParamTree → Type 0
Sensed q ps = (result : Option CType) × (params : List Shape) × (q ≡ Some (function result params)) × AreAlike params ps

found_first : (f : FunctionTree) (names : List Declared) (text : List ℕ) (new : Sense) → bytes_eq text f.name ≡ true → sense_of text (record { name = f.name; sense = new } ∷ names) ≡ Some new
found_first f names text new e = ap (λ (y : Bool). if y then Some new else sense_of text names) e

sensed_by : (f : FunctionTree) (names : List Declared) (text : List ℕ) (q : Option Sense) → bytes_eq text f.name ≡ true → sense_of text names ≡ q → disagrees f q ≡ false
    → Sensed (sense_of text (if is_some q then names else record { name = f.name; sense = function f.result (param_shapes f.params) } ∷ names)) f.params
sensed_by f names text None e g h = (f.result, param_shapes f.params, found_first f names text (function f.result (param_shapes f.params)) e, own_params f.params)
sensed_by f names text (Some (object shape)) e g h = absurd (true≢false h)
sensed_by f names text (Some (function result params)) e g h =
    (result, params, g, alike_params params f.params (both_true (same_result result f.result) (same_shapes params (param_shapes f.params)) (holds (same_result result f.result && same_shapes params (param_shapes f.params)) h)).1)

sensed_here : (before : List (List ℕ)) (f : FunctionTree) (names : List Declared) (text : List ℕ) → bytes_eq f.name text ≡ true → declaration_faults before names f ≡ [] → Sensed (sense_of text (with_function f names)) f.params
sensed_here before f names text e h =
    let same : f.name ≡ text = (bytes_eq-Decides f.name text).0 e in
    let d = neither (disagrees f (sense_of f.name names)) (is_some f.body && is_in f.name before) (unbroken (disagrees f (sense_of f.name names) || (is_some f.body && is_in f.name before)) 8 f.at h) in
    subst (λ z. Sensed (sense_of z (with_function f names)) f.params) same
    (sensed_by f names f.name (sense_of f.name names) ((bytes_eq-Decides f.name f.name).1 refl) refl d.0)

keep_sensed : (names more : List Declared) (text : List ℕ) (ps : List ParamTree) → Keeps names more → Sensed (sense_of text names) ps → Sensed (sense_of text more) ps
keep_sensed names more text ps keeps h = (h.0, h.1, keeps text (function h.0 h.1) h.2, h.3)

-- A function that is found by its name has the parameters that the name stands for.
abbrev FoundSensed : List Declared → List ℕ → Option FunctionTree → Type 0
FoundSensed names text None = Unit {0}
FoundSensed names text (Some f) = Sensed (sense_of text names) f.params

first_sensed : (names : List Declared) (text : List ℕ) (f : FunctionTree) (b y : Bool) (o : Option FunctionTree) → (y ≡ true → Sensed (sense_of text names) f.params) → FoundSensed names text o → FoundSensed names text (first_of (if b && y then Some f else None) o)
first_sensed names text f true true o here others = here refl
first_sensed names text f true false o here others = others
first_sensed names text f false y o here others = others

found_sensed : (bodies before : List (List ℕ)) (items : List ItemTree) (names : List Declared) (text : List ℕ) → items_faults bodies before names items ≡ [] → FoundSensed (names_all names items) text (function_named items text)
found_sensed bodies before [] names text h = tt
found_sensed bodies before (tree.objects os ∷ items) names text h =
    found_sensed bodies before items (with_objects os names) text (right_nil (objects_faults bodies true 0 names os) (items_faults bodies before (with_objects os names) items) h)
found_sensed bodies before (tree.function f ∷ items) names text h =
    let d = declaration_faults before names f in
    let a = d ++ function_faults bodies (with_function f names) f in
    let b = items_faults bodies (with_body (tree.function f) before) (with_function f names) items in
    let rest = right_nil a b h in
    first_sensed (names_all (with_function f names) items) text f (is_some f.body) (bytes_eq f.name text) (function_named items text)
    (λ e. keep_sensed (with_function f names) (names_all (with_function f names) items) text f.params (keeps_items bodies (with_body (tree.function f) before) items (with_function f names) rest)
    (sensed_here before f names text e (left_nil d (function_faults bodies (with_function f names) f) (left_nil a b h))))
    (found_sensed bodies (with_body (tree.function f) before) items (with_function f names) text rest)

-- ---- functions with bodies are found

abbrev Found : Option FunctionTree → Type 0
Found o = (f : FunctionTree) × (o ≡ Some f)

first_found : (f : FunctionTree) (text : List ℕ) (b y : Bool) (o : Option FunctionTree) (names : List (List ℕ)) → bytes_eq text f.name ≡ y → (is_in text names ≡ true → Found o) → is_in text (if b then f.name ∷ names else names) ≡ true
    → Found (first_of (if b && y then Some f else None) o)
first_found f text true true o names e others h = (f, refl)
first_found f text true false o names e others h = others (subst (λ (z : Bool). (z || is_in text names) ≡ true) e h)
first_found f text false y o names e others h = others h

found_body : (items : List ItemTree) (text : List ℕ) → is_in text (body_names items) ≡ true → Found (function_named items text)
found_body [] text h = absurd (true≢false (sym h))
found_body (tree.objects os ∷ items) text h = found_body items text h
found_body (tree.function f ∷ items) text h =
    first_found f text (is_some f.body) (bytes_eq f.name text) (function_named items text) (body_names items) (bytes_turned text f.name) (found_body items text) h

-- ---- what is known behind all items

function_senses : (r s : Option CType) (xs ys : List Shape) → Some (function r xs) ≡ Some (function s ys) → xs ≡ ys
function_senses r s xs ys h = let e : xs ≡ ys = cc in e

module _ (items : List ItemTree) (h : items_faults (body_names items) [] [] items ≡ []) where
  abbrev pub final : List Declared
  final = names_all [] items

  abbrev pub resolutions : List Binding
  resolutions = (file_scene_of items).names

  knows_sense : (text : List ℕ) (q : Option Sense) → sense_of text final ≡ q → KnowsSense items (body_names items) text (object_found text resolutions) q
  knows_sense text None e = tt
  knows_sense text (Some (object shape)) e = knows_files items [] [] 0 (λ text shape g. absurd (none-some (object shape) g)) text shape e
  knows_sense text (Some (function result params)) e = λ inside.
      let f = found_body items text inside in
      let s : Sensed (sense_of text final) f.0.params = subst (λ o. FoundSensed final text o) f.1 (found_sensed (body_names items) [] items [] text h) in
      (f.0, f.1, subst (λ l. AreAlike l f.0.params) (function_senses s.0 result s.1 params (sym s.2 ∙ e)) s.3)

  -- and so before
  pub knows_before : (names : List Declared) → Keeps names final → Knows items (body_names items) names resolutions
  knows_before names keeps text = by (sense_of text names) refl
    where
      by : (q : Option Sense) → sense_of text names ≡ q → KnowsSense items (body_names items) text (object_found text resolutions) q
      by None e = tt
      by (Some σ) e = knows_sense text (Some σ) (keeps text σ e)

  file_lengths : (os : List ObjectTree) (names : List Declared) → objects_faults (body_names items) true 0 names os ≡ [] → Each HasLengths os
  file_lengths [] names g = tt
  file_lengths (o ∷ os) names g =
      let a = object_faults (body_names items) true 0 names o in
      let b = objects_faults (body_names items) true 0 (with_object o names) os in
      (has_lengths o (sized true o (form_of items (body_names items) true 0 names o (left_nil a b g))), file_lengths os (with_object o names) (right_nil a b g))

  function_body : (f : FunctionTree) (b : Option StmtTrees) (names : List Declared) → params_faults (body_names items) (is_some b) (length names) names f.params ≡ [] → body_faults (body_names items) f.result (length names) (with_params f.params names) b ≡ []
      → BodyDeclaresInBlocks b → Knows items (body_names items) names resolutions → BodyResolved items (file_scene_of items) (objects_of_params f.params) b
  function_body f None names g k d knows = tt
  function_body f (Some body) names g k d knows = body_resolved items (body_names items) f body names (file_scene_of items) g k d knows

  items_resolved : (sub : List ItemTree) (before : List (List ℕ)) (names : List Declared) → items_faults (body_names items) before names sub ≡ [] → names_all names sub ≡ final → Each ItemDeclaresInBlocks sub → Each (ItemResolved items (file_scene_of items)) sub
  items_resolved [] before names g is d = tt
  items_resolved (tree.objects os ∷ sub) before names g is d =
      let a = objects_faults (body_names items) true 0 names os in
      let b = items_faults (body_names items) before (with_objects os names) sub in
      (file_lengths os names (left_nil a b g), items_resolved sub before (with_objects os names) (right_nil a b g) is d.1)
  items_resolved (tree.function f ∷ sub) before names g is d =
      let bodies = body_names items in
      let inner = with_function f names in
      let a1 = declaration_faults before names f in
      let a2 = function_faults bodies inner f in
      let b = items_faults bodies (with_body (tree.function f) before) inner sub in
      let rest = right_nil (a1 ++ a2) b g in
      let l1 = limit_faults 32 34 (param_places f.params) in
      let l2 = limit_faults 32 35 (function_arrays f) in
      let ps = params_faults bodies (is_some f.body) (length inner) inner f.params in
      let bs = body_faults bodies f.result (length inner) (with_params f.params inner) f.body in
      let parts = right_nil l2 (ps ++ bs) (right_nil l1 (l2 ++ (ps ++ bs)) (right_nil a1 a2 (left_nil (a1 ++ a2) b g))) in
      let keeps : Keeps inner final = subst (λ l. Keeps inner l) is (keeps_items bodies (with_body (tree.function f) before) sub inner rest) in (
        function_body f f.body inner (left_nil ps bs parts) (right_nil ps bs parts) d.0 (knows_before inner keeps),
        items_resolved sub (with_body (tree.function f) before) inner rest is d.1,
      )

-- A program without faults whose declarations stand in blocks is resolved.
pub faultless_resolved : (p : ProgramTree) (name : List ℕ) → program_faults p name ≡ [] → ProgramDeclaresInBlocks p → IsProgramResolved p
faultless_resolved p name h d =
    let g = left_nil (items_faults (body_names p.items) [] [] p.items) (recursion_faults (callers [] p.items) (callers [] p.items)
    ++ (limit_faults 64 33 (new_function_places [] p.items) ++ (limit_faults 32 35 (file_arrays p.items) ++ (kept_faults 0 (file_objects p.items) ++ top_faults name p)))) h in
    items_resolved p.items g p.items [] [] g refl d

-- Its core program runs as it does.
pub elaboration_kept : ElaborationKeepsRuns
elaboration_kept p top name is_top h d kept scalars arrays n = runs_kept p top name is_top (faultless_resolved p name h d) kept scalars arrays n
