-- Functions of programs without faults become sound ones.
use Rattle.std.proofs.Common.{◌≡◌, ℕ, zero, suc, ◌+◌, ◌<◌, ◌≤◌, ◌&&◌, ◌||◌, ◌∙◌, sym, refl, ap, subst, Bool, true, false, true≢false, inl, inr, is_some, bytes_eq, List, [], ◌∷◌, ◌++◌, map, length, slice_get, le_refl, Option, Some, None, arith, if◌then◌else◌}
use Rattle.std.proofs.lemmas.Option.{none-some, same_Some}
use Rattle.std.proofs.lemmas.List.{length-append, length-map}
use Rattle.std.proofs.lemmas.Slice.Eq.{bytes_eq-Decides}
use Rattle.c_token.specs.Replacement.{is_in}
use Rattle.c_tree.specs.Tree as tree
use Rattle.c_tree.specs.Tree.{ObjectTree, StmtTrees, FunctionTree, ItemTree}
use Rattle.c_meaning.specs.Checks.Names.{Declared}
use Rattle.c_meaning.specs.Checks.Calls.{with_function, declaration_faults}
use Rattle.c_meaning.specs.Checks.Labels.{in_function}
use Rattle.c_meaning.specs.Checks.Limits.{limit_faults, param_places, function_arrays, file_objects}
use Rattle.c_meaning.specs.Checks.Recursion.{Called, Caller, caller_of, callers, recursion_faults, params_calls, statements_calls, body_calls, function_calls}
use Rattle.c_meaning.specs.Checks.Statements.{with_object, with_objects, with_params, objects_faults, params_faults, body_faults, function_faults}
use Rattle.c_meaning.specs.Checks.Programs.{body_names, with_body, items_faults}
use Rattle.c_meaning.specs.Store.{declared_in}
use Rattle.c_meaning.specs.Run.{function_named, first_of}
use Rattle.pieces.specs.declared.resolved.expression.Scope.TheVariants as scope
use Rattle.pieces.specs.Resolved.Core.{CoreFunctionTree, CoreProgramTree}
use Rattle.c_elaborate.specs.declared.names.Binding.{Binding}
use Rattle.c_elaborate.specs.declared.names.Known.{Known}
use Rattle.c_elaborate.specs.declared.blocks.Scene.{Scene}
use Rattle.c_elaborate.specs.declared.functions.Signature.{Signature}
use Rattle.c_elaborate.specs.Names.{binding_of, cell_of, function_number, result_of}
use Rattle.c_elaborate.specs.Objects.{object_elaborated, objects_within}
use Rattle.c_elaborate.specs.Scenes.{declared, opened, all_declared}
use Rattle.c_elaborate.specs.Programs.{file_object, objects_of_params, function_elaborated, function_of_item, functions_elaborated, signature_of, signatures}
use Rattle.c_elaborate.specs.Homes.{Each, Has}
use Rattle.c_elaborate.specs.Grammatical.{AllDeclareInBlocks, BodyDeclaresInBlocks, ItemDeclaresInBlocks}
use Rattle.c_elaborate.specs.Resolved.{HasLengths, ItemResolved, file_scene_of}
use Rattle.c_elaborate.proofs.ElaborateRuns.Sizes.{left_nil, right_nil}
use Rattle.c_elaborate.proofs.ElaborateRuns.Faultless.{knows_declared}
use Rattle.c_elaborate.proofs.ElaborateRuns.FaultlessStatements.{params_named}
use Rattle.c_elaborate.proofs.ElaborateRuns.FaultlessPrograms.{names_all, Keeps, keeps_items, final, resolutions, knows_before}
use Rattle.c_elaborate.proofs.ElaborateRuns.Functions.{params_first, has_body, Numbered, numbered}
use Rattle.expanded_programs.specs.Statements.Scopes.{Setting}
use Rattle.expanded_programs.specs.Calls.Programs.{setting_of, at_start, IsFunctionSound}
use Rattle.expanded_programs.specs.ElaboratedPrograms.Written.{StmtsWritten, BodyWritten, ItemWritten}
use Rattle.expanded_programs.proofs.ElaboratedPrograms.Lists.{IsIn, each_in, in_right}
use Rattle.expanded_programs.proofs.ElaboratedPrograms.Naming.{IsLow, AreLow, standing_new, low_new, apart_new, changeable_new, fresh_cell, stands_new, all_low_more}
use Rattle.expanded_programs.proofs.ElaboratedPrograms.Expressions.{Visible, AreThere, MayCall}
use Rattle.expanded_programs.proofs.ElaboratedPrograms.Stages.{has_front, next_behind, Stage}
use Rattle.expanded_programs.proofs.ElaboratedPrograms.Statements.{block_sound}
use Rattle.expanded_programs.proofs.ElaboratedPrograms.Files.{all_named, file_standing, file_changeable}
use Rattle.expanded_programs.proofs.ElaboratedPrograms.Ranks.{name_at, function_rank, rank_of, rank_lower}

-- ---- parameters

module _ (S : Setting) (items : List ItemTree) (bodies : List (List ℕ)) where
  -- what is visible where the next parameter has this number
  abbrev Entered : List Binding → ℕ → List Declared → Type 0
  Entered rs next names = Visible S items bodies (at_start S) names rs × AreLow next rs

  param_entered : (rs : List Binding) (next : ℕ) (names : List Declared) (o : ObjectTree) → Entered rs next names → HasLengths o → slice_get S.objects next ≡ Some (object_elaborated o) → next < S.params
      → Entered (binding_of o (cell_of scope.Call next) ∷ rs) (next + 1) (with_object o names)
  param_entered rs next names o h has at lt =
      let cell = cell_of scope.Call next in
      let b = binding_of o cell in
      let v = h.0 in (
        record {
          knows = knows_declared items bodies names rs o cell v.knows;
          apart = apart_new rs b (fresh_cell next rs h.1) v.apart;
          standing = standing_new S (at_start S) rs b (stands_new S (at_start S) o next has at (λ scalar. (object_elaborated o, at, scalar, lt)) (inl lt)) v.standing;
          changeable = changeable_new S names rs o cell (λ e. tt) v.changeable;
        },
        low_new (next + 1) rs b (omega arith) (all_low_more next (next + 1) rs (omega arith) h.1),
      )

  params_entered : (os : List ObjectTree) (names : List Declared) (scene : Scene) → Entered scene.names scene.next names → Each HasLengths os → Has S.objects scene.next os → scene.next + length os ≤ S.params
      → Entered (all_declared scene os).names (all_declared scene os).next (with_objects os names)
  params_entered [] names scene h has at le = h
  params_entered (o ∷ os) names scene h has at le =
      params_entered os (with_object o names) (declared scene o) (param_entered scene.names scene.next names o h has.0 at.0 (omega (arith, le))) has.1 at.1 (omega (arith, le))

-- ---- one function

has_params : (os more : List ObjectTree) → Has (map object_elaborated (os ++ more)) 0 os
has_params os more = has_front (map object_elaborated (os ++ more)) 0 os more (has_body [] (os ++ more))

module _ (p : CoreProgramTree) (Callable : ℕ → Type 0) (items : List ItemTree) (bodies : List (List ℕ)) (fs : List Signature) (file : Scene) (f : FunctionTree) (body : StmtTrees) where
  abbrev made : CoreFunctionTree
  made = function_elaborated fs file f body

  abbrev setting : Setting
  setting = setting_of p Callable made

  function_sound : (names : List Declared) → AreThere setting items fs → params_faults bodies true (length names) names f.params ≡ [] → body_faults bodies f.result (length names) (with_params f.params names) (Some body) ≡ [] → AllDeclareInBlocks body → StmtsWritten body
      → Each (MayCall setting bodies fs) (statements_calls (with_params f.params names) body) → file.next ≡ 0 → Visible setting items bodies (at_start setting) names file.names → AreLow 0 file.names → IsFunctionSound setting made
  function_sound names there g h d w may first visible low =
      let os = objects_of_params f.params in
      let more = declared_in body ++ objects_within body in
      let scene = all_declared file os in
      let named = params_named items bodies f.params (length names) names g in
      let count : scene.next ≡ length os = let e = next_behind file os in omega (arith, e, first) in
      let le : file.next + length os ≤ length os = omega (arith, first) in
      let entered = params_entered setting items bodies os names file (visible, subst (λ n. AreLow n file.names) (sym first) low) named.1 (subst (λ n. Has setting.objects n os) (sym first) (has_params os more)) le in
      let inner = with_params f.params names in
      let entered1 = subst (λ l. Visible setting items bodies (at_start setting) l scene.names) (sym named.0) entered.0 in
      let s : Stage setting items bodies scene.names (length os) (length os) (at_start setting) inner =
      record { visible = entered1; low = subst (λ n. AreLow n scene.names) count entered.1; lives = λ i l. l.3; ready = λ i r. absurd r; fits = le_refl (length os); params = le_refl (length os) } in
      let block = block_sound setting items bodies fs there body (in_function f.result) (length names) inner (opened scene (length os)) (length os) (length os) (at_start setting) h d w may refl s (has_body os more) refl in
      record {
        params = let a = length-map (os ++ more) object_elaborated in let b = length-append os more in omega (arith, a, b);
        outermost = block.0;
        body = block.1;
      }

-- ---- functions by number

result_one : (f : FunctionTree) (b : Option StmtTrees) (y : Bool) (q : Option FunctionTree) (g : FunctionTree) (fs : List Signature) (name : List ℕ) → bytes_eq f.name name ≡ y → (q ≡ Some g → g.result ≡ result_of fs name)
    → first_of (if is_some b && y then Some f else None) q ≡ Some g → g.result ≡ result_of (signature_of f b ++ fs) name
result_one f None y q g fs name e rest h = rest h
result_one f (Some body) true q g fs name e rest h = ap (λ (x : FunctionTree). x.result) (sym (same_Some f g h)) ∙ sym (ap (λ (z : Bool). if z then f.result else result_of fs name) e)
result_one f (Some body) false q g fs name e rest h = rest h ∙ sym (ap (λ (z : Bool). if z then f.result else result_of fs name) e)

result_found : (items : List ItemTree) (name : List ℕ) (g : FunctionTree) → function_named items name ≡ Some g → g.result ≡ result_of (signatures items) name
result_found [] name g e = absurd (none-some g e)
result_found (tree.objects os ∷ items) name g e = result_found items name g e
result_found (tree.function f ∷ items) name g e = result_one f f.body (bytes_eq f.name name) (function_named items name) g (signatures items) name refl (result_found items name g) e

pub all_there : (S : Setting) (items : List ItemTree) → S.functions ≡ functions_elaborated (signatures items) (file_scene_of items) items → Each (ItemResolved items (file_scene_of items)) items → AreThere S items (signatures items)
all_there S items same known text f e =
    let fs = signatures items in
    let file = file_scene_of items in
    let n : Numbered items (Some f) (slice_get (functions_elaborated fs file items) (function_number fs text)) = subst (λ q. Numbered items q (slice_get (functions_elaborated fs file items) (function_number fs text))) e (numbered items items text known) in (
      function_elaborated fs file f n.0,
      ap (λ l. slice_get l (function_number fs text)) same ∙ n.2,
      result_found items text f e,
      params_first fs file f n.0,
      n.3.0,
    )

-- ---- functions with a body have numbers

in_signatures : (f : FunctionTree) (b : Option StmtTrees) (fs : List Signature) (name : List ℕ) → function_number fs name < length fs → function_number (signature_of f b ++ fs) name < length (signature_of f b ++ fs)
in_signatures f None fs name lt = lt
in_signatures f (Some body) fs name lt = by (bytes_eq f.name name)
  where
    by : (y : Bool) → (if y then 0 else function_number fs name + 1) < suc (length fs)
    by true = omega arith
    by false = omega (arith, lt)

signature_first : (f : FunctionTree) (b : Option StmtTrees) (fs : List Signature) (name : List ℕ) → is_some b ≡ true → bytes_eq f.name name ≡ true → function_number (signature_of f b ++ fs) name < length (signature_of f b ++ fs)
signature_first f None fs name e h = absurd (true≢false (sym e))
signature_first f (Some body) fs name e h = subst (λ (y : Bool). (if y then 0 else function_number fs name + 1) < suc (length fs)) (sym h) (omega arith)

named_body : (f : FunctionTree) (b : Option StmtTrees) (fs : List Signature) (name : List ℕ) (names : List (List ℕ)) → (is_in name names ≡ true → function_number fs name < length fs) → is_in name (if is_some b then f.name ∷ names else names) ≡ true
    → function_number (signature_of f b ++ fs) name < length (signature_of f b ++ fs)
named_body f None fs name names rest h = rest h
named_body f (Some body) fs name names rest h = by (bytes_eq name f.name) refl h
  where
    by : (y : Bool) → bytes_eq name f.name ≡ y → (y || is_in name names) ≡ true → function_number (signature_of f (Some body) ++ fs) name < length (signature_of f (Some body) ++ fs)
    by true e g = signature_first f (Some body) fs name refl ((bytes_eq-Decides f.name name).1 (sym ((bytes_eq-Decides name f.name).0 e)))
    by false e g = in_signatures f (Some body) fs name (rest g)

body_numbered : (items : List ItemTree) (name : List ℕ) → is_in name (body_names items) ≡ true → function_number (signatures items) name < length (signatures items)
body_numbered [] name h = absurd (true≢false (sym h))
body_numbered (tree.objects os ∷ items) name h = body_numbered items name h
body_numbered (tree.function f ∷ items) name h = named_body f f.body (signatures items) name (body_names items) (body_numbered items name) h

caller_numbered : (items : List ItemTree) (names : List Declared) (c : Caller) → IsIn c (callers names items) → c.has_body ≡ true → function_number (signatures items) c.name < length (signatures items)
caller_numbered [] names c i e = absurd i
caller_numbered (tree.objects os ∷ items) names c i e = caller_numbered items (with_objects os names) c i e
caller_numbered (tree.function f ∷ items) names c i e = elim i [
  | inl same ↦ signature_first f f.body (signatures items) c.name (ap (λ (x : Caller). x.has_body) same ∙ e) ((bytes_eq-Decides f.name c.name).1 (ap (λ (x : Caller). x.name) same))
  | inr rest ↦ in_signatures f f.body (signatures items) c.name (caller_numbered items (with_function f names) c rest e)
]

-- ---- all functions

fn_at : (q : CoreFunctionTree → Type 0) (x fn : CoreFunctionTree) → Some x ≡ Some fn → q x → q fn
fn_at q x fn e h = subst q (same_Some x fn e) h

by_body : (fs sigs : List Signature) (file : Scene) (f : FunctionTree) (b : Option StmtTrees) (rest : List CoreFunctionTree) (Q : List ℕ → CoreFunctionTree → Type 0) (i : ℕ) (fn : CoreFunctionTree)
    → slice_get (function_of_item fs file f b ++ rest) i ≡ Some fn → ((body : StmtTrees) → b ≡ Some body → Q f.name (function_elaborated fs file f body)) → ((j : ℕ) → slice_get rest j ≡ Some fn → Q (name_at sigs j) fn) → Q (name_at (signature_of f b ++ sigs) i) fn
by_body fs sigs file f None rest Q i fn e first others = others i e
by_body fs sigs file f (Some body) rest Q zero fn e first others = fn_at (Q f.name) (function_elaborated fs file f body) fn e (first body refl)
by_body fs sigs file f (Some body) rest Q (suc i) fn e first others = others i e

module _ (p : CoreProgramTree) (items : List ItemTree) (h : items_faults (body_names items) [] [] items ≡ []) (no_rounds : recursion_faults (callers [] items) (callers [] items) ≡ []) (known : Each (ItemResolved items (file_scene_of items)) items)
    (has : Each HasLengths (file_objects items)) (same_file : p.file ≡ map file_object (file_objects items)) (same_functions : p.functions ≡ functions_elaborated (signatures items) (file_scene_of items) items) where
  -- the functions that one of this name may call
  abbrev Lower : List ℕ → ℕ → Type 0
  Lower name j = function_rank items no_rounds j < rank_of items no_rounds name

  abbrev IsSoundAs : List ℕ → CoreFunctionTree → Type 0
  IsSoundAs name fn = IsFunctionSound (setting_of p (Lower name) fn) fn

  abbrev setting_at : FunctionTree → StmtTrees → Setting
  setting_at f body = setting_of p (Lower f.name) (function_elaborated (signatures items) (file_scene_of items) f body)

  one_sound : (f : FunctionTree) (b : Option StmtTrees) (names : List Declared) → f.body ≡ b → params_faults (body_names items) (is_some b) (length names) names f.params ≡ [] → body_faults (body_names items) f.result (length names) (with_params f.params names) b ≡ []
      → BodyDeclaresInBlocks b → BodyWritten b → Keeps names (final items h) → IsIn (caller_of names f) (callers [] items) → (body : StmtTrees) → b ≡ Some body → IsSoundAs f.name (function_elaborated (signatures items) (file_scene_of items) f body)
  one_sound f None names is g k d w keeps i body e = absurd (none-some body e)
  one_sound f (Some b) names is g k d w keeps i body e =
      subst (λ x. IsSoundAs f.name (function_elaborated (signatures items) (file_scene_of items) f x)) (same_Some b body e)
      (function_sound p (Lower f.name) items (body_names items) (signatures items) (file_scene_of items) f b names (all_there (setting_at f b) items same_functions known) g k d w may refl
      (record {
        knows = knows_before items h names keeps;
        apart = (all_named items).apart;
        standing = file_standing (setting_at f b) (file_objects items) same_file (at_start (setting_at f b)) (length (file_objects items)) (resolutions items h) has (all_named items);
        changeable = file_changeable (setting_at f b) items h same_file names keeps;
      })
      low)
    where
      low : AreLow 0 (file_scene_of items).names
      low text known e = let q = (all_named items).objects text known e in subst (λ (k : Known). IsLow 0 k.cell.scope k.cell.number) (sym q.4) tt

      inside : (d : Called) → IsIn d (statements_calls (with_params f.params names) b) → IsIn d (function_calls names f)
      inside d j = in_right d (params_calls names f.params) (body_calls (with_params f.params names) f.body) (subst (λ q. IsIn d (body_calls (with_params f.params names) q)) (sym is) j)

      may : Each (MayCall (setting_at f b) (body_names items) (signatures items)) (statements_calls (with_params f.params names) b)
      may = each_in (MayCall (setting_at f b) (body_names items) (signatures items)) (statements_calls (with_params f.params names) b)
          (λ d j called. rank_lower items no_rounds (caller_of names f) d i (inside d j) (caller_numbered items [] (caller_of names f) i (ap is_some is)) (body_numbered items d.name called))

  pub functions_sound : (sub : List ItemTree) (before : List (List ℕ)) (names : List Declared) → items_faults (body_names items) before names sub ≡ [] → names_all names sub ≡ final items h → Each ItemDeclaresInBlocks sub → Each ItemWritten sub
      → ((c : Caller) → IsIn c (callers names sub) → IsIn c (callers [] items)) → (i : ℕ) (fn : CoreFunctionTree) → slice_get (functions_elaborated (signatures items) (file_scene_of items) sub) i ≡ Some fn → IsSoundAs (name_at (signatures sub) i) fn
  functions_sound [] before names g is d w all i fn e = absurd (none-some fn e)
  functions_sound (tree.objects os ∷ sub) before names g is d w all i fn e =
      functions_sound sub before (with_objects os names) (right_nil (objects_faults (body_names items) true 0 names os) (items_faults (body_names items) before (with_objects os names) sub) g) is d.1 w.1 all i fn e
  functions_sound (tree.function f ∷ sub) before names g is d w all i fn e =
      let bodies = body_names items in
      let inner = with_function f names in
      let a1 = declaration_faults before names f in
      let a2 = function_faults bodies inner f in
      let b = items_faults bodies (with_body (tree.function f) before) inner sub in
      let rest = right_nil (a1 ++ a2) b g in
      let l1 = limit_faults 32 34 (param_places f.params) in
      let l2 = limit_faults 32 35 (function_arrays f) in
      let ps = params_faults bodies (is_some f.body) (length inner) inner f.params in
      let bs = body_faults bodies f.result (length inner) (with_params f.params inner) f.body in
      let parts = right_nil l2 (ps ++ bs) (right_nil l1 (l2 ++ (ps ++ bs)) (right_nil a1 a2 (left_nil (a1 ++ a2) b g))) in
      let keeps : Keeps inner (final items h) = subst (λ l. Keeps inner l) is (keeps_items bodies (with_body (tree.function f) before) sub inner rest) in
      by_body (signatures items) (signatures sub) (file_scene_of items) f f.body (functions_elaborated (signatures items) (file_scene_of items) sub) IsSoundAs i fn e
      (λ body is_body. one_sound f f.body inner refl (left_nil ps bs parts) (right_nil ps bs parts) d.0 w.0 keeps (all (caller_of inner f) (inl refl)) body is_body)
      (λ j there. functions_sound sub (with_body (tree.function f) before) inner rest is d.1 w.1 (λ c k. all c (inr k)) j fn there)
