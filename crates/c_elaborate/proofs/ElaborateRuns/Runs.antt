-- Runs of core programs are those of the programs.
use Rattle.std.proofs.Common.{◌≡◌, ℕ, zero, suc, ◌+◌, ◌==◌, not, ◌∙◌, sym, refl, ap, ap₂, subst, Bool, true, false, if◌then◌else◌, is_some, ℤ, List, [], ◌∷◌, ◌++◌, map, take, drop, length, Option, Some, None, slice_get, arith}
use Rattle.std.proofs.lemmas.Option.{none-some}
use Rattle.std.proofs.lemmas.List.{map-append, length-map}
use Rattle.hls_base.specs.FileScope.{FileScope}
use Rattle.hls_base.specs.declared.point.Point.{Point}
use Rattle.c_tree.specs.Tree as tree
use Rattle.c_tree.specs.Tree.{ObjectTree, StmtTrees, ParamTree, FunctionTree, ItemTree, ProgramTree}
use Rattle.c_meaning.specs.Checks.Limits.{file_objects}
use Rattle.c_meaning.specs.Checks.Programs.{body_name_of}
use Rattle.c_meaning.specs.Store.{Object, lengths_in}
use Rattle.c_meaning.specs.Steps as c
use Rattle.c_meaning.specs.Run as run
use Rattle.c_meaning.specs.Run.{patterns, is_scalar, is_array_parameter, with_contents, function_at}
use Rattle.pieces.specs.Resolved.Core.{CoreFunctionTree}
use Rattle.hls_base.specs.Steps as r
use Rattle.c_meaning.specs.CoreRuns.Cells.{spot, Cells}
use Rattle.c_meaning.specs.CoreRuns.Runs as core
use Rattle.c_elaborate.specs.declared.functions.Signature.{Signature}
use Rattle.c_elaborate.specs.Objects.{object_elaborated}
use Rattle.c_elaborate.specs.Programs.{file_object, objects_of_params, function_elaborated, function_of_item, functions_elaborated, signature_of, signatures, program_elaborated}
use Rattle.c_elaborate.specs.Same.{Follows, Same, Equal}
use Rattle.c_elaborate.specs.Homes.{Each, Home, home, held, IsShaped, Alike, IsBelow, new_homes, AreGiven}
use Rattle.c_elaborate.specs.Resolved.{HasLengths, BodyResolved, ItemResolved, file_scene_of}
use Rattle.c_elaborate.specs.Laws.{ResolvedProgramsKeepRuns}
use Rattle.c_elaborate.proofs.ElaborateRuns.Lists.{each-front}
use Rattle.c_elaborate.proofs.ElaborateRuns.Naming.{named_more}
use Rattle.c_elaborate.proofs.ElaborateRuns.Lifetimes.{stands_deeper}
use Rattle.c_elaborate.proofs.ElaborateRuns.Functions.{params_first, function_same, calls_same, same_results}
use Rattle.c_elaborate.proofs.ElaborateRuns.Files.{files_alike, file_stands, file_lengths, host_homes, hosted}

-- ---- answers

not_not : (y : Bool) → not (not y) ≡ y
not_not true = refl
not_not false = refl

kept_same : (ds : List ObjectTree) (i : ℕ) (u : Cells) (more : List Object) → Each (IsShaped u) (new_homes 0 i ds) → run.contents_of ds (map (held u) (new_homes 0 i ds) ++ more) ≡ core.contents_from (map file_object ds) i u
kept_same [] i u more shaped = refl
kept_same (d ∷ ds) i u more shaped =
    let o = u (spot 0 i) in
    let y : is_scalar o ≡ not (not (length (lengths_in d) == 0)) = ap (λ l. length l == 0) shaped.0.1 ∙ sym (not_not (length (lengths_in d) == 0)) in
    ap₂ (λ x z. if d.constant then x else with_contents z o x) (kept_same ds (i + 1) u more shaped.1) y

arrays_one : (p : ParamTree) (i : ℕ) (u : Cells) (y : Bool) (hs : List Home) (rest : List (List ℕ)) → map patterns (map (held u) hs) ≡ rest
    → map patterns (map (held u) (if y then home (spot 1 i) p.object.kind (lengths_in p.object) ∷ hs else hs)) ≡ (if y then patterns (u (spot 1 i)) ∷ rest else rest)
arrays_one p i u true hs rest h = ap (λ l. patterns (u (spot 1 i)) ∷ l) h
arrays_one p i u false hs rest h = h

arrays_same : (ps : List ParamTree) (i : ℕ) (u : Cells) → Each HasLengths (objects_of_params ps) → map patterns (map (held u) (host_homes i ps)) ≡ core.arrays_from i (map object_elaborated (objects_of_params ps)) u
arrays_same [] i u has = refl
arrays_same (p ∷ ps) i u has =
    let rest = core.arrays_from (i + 1) (map object_elaborated (objects_of_params ps)) u in
    arrays_one p i u (is_array_parameter p) (host_homes (i + 1) ps) rest (arrays_same ps (i + 1) u has.1)
    ∙ ap (λ y. if y then patterns (u (spot 1 i)) ∷ rest else rest) (sym (ap not has.0))

drop_front : {A : Type 0} (xs ys : List A) → drop (length xs) (xs ++ ys) ≡ ys
drop_front [] ys = none ys
  where
    none : {A : Type 0} (l : List A) → drop 0 l ≡ l
    none [] = refl
    none (x ∷ xs) = refl
drop_front (x ∷ xs) ys = drop_front xs ys

length-homes : (i : ℕ) (ds : List ObjectTree) → length (new_homes 0 i ds) ≡ length ds
length-homes i [] = refl
length-homes i (d ∷ ds) = ap suc (length-homes (i + 1) ds)

module _ (p : ProgramTree) (top : ℕ) (f : FunctionTree) (body : StmtTrees) (has : Each HasLengths (objects_of_params f.params)) where
  abbrev f' : CoreFunctionTree
  f' = function_elaborated (signatures p.items) (file_scene_of p.items) f body

  abbrev all_homes : List Home
  all_homes = new_homes 0 0 (file_objects p.items) ++ host_homes 0 f.params

  ended_same : (v w : Option ℤ) (s : List Object) (u : Cells) (trace : List Point) → Equal (Alike all_homes) v s w u
      → run.ended (run.result_pattern f.result w) (core.arrays_from 0 (core.params_of f') u) (core.contents_from (program_elaborated p top).file 0 u) trace
      ≡ run.ended (run.result_pattern f.result v) (map patterns (drop (length (file_objects p.items)) s)) (run.contents_of (file_objects p.items) s) trace
  ended_same v w s u trace h =
      let files = file_objects p.items in
      let fs = new_homes 0 0 files in
      let hs = host_homes 0 f.params in
      let split : s ≡ map (held u) fs ++ map (held u) hs = h.1.0 ∙ map-append (held u) fs hs in
      let count : length files ≡ length (map (held u) fs) = sym (length-map fs (held u) ∙ length-homes 0 files) in
      let arrays : map patterns (drop (length files) s) ≡ core.arrays_from 0 (core.params_of f') u =
      ap (λ l. map patterns l) (ap (λ l. drop (length files) l) split ∙ (ap (λ n. drop n (map (held u) fs ++ map (held u) hs)) count ∙ drop_front (map (held u) fs) (map (held u) hs)))
      ∙ (arrays_same f.params 0 u has ∙ ap (λ l. core.arrays_from 0 l u) (sym (params_first (signatures p.items) (file_scene_of p.items) f body))) in
      let kept : run.contents_of files s ≡ core.contents_from (map file_object files) 0 u = ap (run.contents_of files) split ∙ kept_same files 0 u (map (held u) hs) (each-front (IsShaped u) fs hs h.1.1) in
      ap (λ z. run.ended (run.result_pattern f.result z) (core.arrays_from 0 (core.params_of f') u) (core.contents_from (map file_object files) 0 u) trace) (sym h.0)
      ∙ ap₂ (λ x y. run.ended (run.result_pattern f.result v) x y trace) (sym arrays) (sym kept)

  answers_at : (trace : List Point) (o : c.Outcome (Option ℤ)) (x : r.Ran Cells (Option ℤ)) → Follows (Equal (Alike all_homes)) trace o x
      → core.answer (program_elaborated p top) f' x ≡ run.answer_of (file_objects p.items) f trace o
  answers_at trace (c.went v s) x h = ap (core.answer (program_elaborated p top) f') h.2 ∙ ended_same v h.0 s.objects h.1 trace h.3
  answers_at trace (c.undefined rule at) x h = ap (core.answer (program_elaborated p top) f') h
  answers_at trace c.waiting x h = ap (core.answer (program_elaborated p top) f') h

  same_answers : (q : c.Ran (Option ℤ)) (x : r.Ran Cells (Option ℤ)) → Same (Equal (Alike all_homes)) q x → core.answer (program_elaborated p top) f' x ≡ run.answer (file_objects p.items) f q
  same_answers q x h = answers_at q.trace q.outcome x h

-- ---- the top function

-- the function with a body that is this item, and what it becomes
abbrev pub Topped : List ItemTree → Option ItemTree → List CoreFunctionTree → ℕ → Type 0
Topped items item functions number =
    (f : FunctionTree) × (body : StmtTrees) × (function_at item ≡ Some f) × (f.body ≡ Some body)
    × (slice_get functions number ≡ Some (function_elaborated (signatures items) (file_scene_of items) f body)) × BodyResolved items (file_scene_of items) (objects_of_params f.params) (Some body)

topped_function : (items : List ItemTree) (f : FunctionTree) (b : Option StmtTrees) (name : List ℕ) (rest : List CoreFunctionTree) → f.body ≡ b → BodyResolved items (file_scene_of items) (objects_of_params f.params) b
    → (if is_some b then Some f.name else None) ≡ Some name → Topped items (Some (tree.function f)) (function_of_item (signatures items) (file_scene_of items) f b ++ rest) 0
topped_function items f None name rest is known e = absurd (none-some name e)
topped_function items f (Some body) name rest is known e = (f, body, refl, is, refl, known)

topped_behind : (items : List ItemTree) (f : FunctionTree) (b : Option StmtTrees) (item : Option ItemTree) (rest : List CoreFunctionTree) (fs : List Signature) → Topped items item rest (length fs)
    → Topped items item (function_of_item (signatures items) (file_scene_of items) f b ++ rest) (length (signature_of f b ++ fs))
topped_behind items f None item rest fs h = h
topped_behind items f (Some body) item rest fs h = h

pub topped : (items sub : List ItemTree) (top : ℕ) (name : List ℕ) → Each (ItemResolved items (file_scene_of items)) sub → body_name_of (slice_get sub top) ≡ Some name
    → Topped items (slice_get sub top) (functions_elaborated (signatures items) (file_scene_of items) sub) (length (signatures (take top sub)))
topped items [] top name known e = absurd (none-some name e)
topped items (tree.objects os ∷ sub) zero name known e = absurd (none-some name e)
topped items (tree.objects os ∷ sub) (suc top) name known e = topped items sub top name known.1 e
topped items (tree.function f ∷ sub) zero name known e = topped_function items f f.body name (functions_elaborated (signatures items) (file_scene_of items) sub) refl known.0 e
topped items (tree.function f ∷ sub) (suc top) name known e =
    topped_behind items f f.body (slice_get sub top) (functions_elaborated (signatures items) (file_scene_of items) sub) (signatures (take top sub)) (topped items sub top name known.1 e)

-- ---- runs

top_kept : (p : ProgramTree) (top : ℕ) (f : FunctionTree) (body : StmtTrees) (kept : FileScope) (scalars : List ℕ) (arrays : List (List ℕ)) (n : ℕ) → Each (ItemResolved p.items (file_scene_of p.items)) p.items
    → f.body ≡ Some body → BodyResolved p.items (file_scene_of p.items) (objects_of_params f.params) (Some body)
    → core.top_run (program_elaborated p top) (function_elaborated (signatures p.items) (file_scene_of p.items) f body) kept scalars arrays n ≡ run.top_run p.items f kept scalars arrays n
top_kept p top f body kept scalars arrays n known is_body resolved =
    let items = p.items in
    let files = file_objects items in
    let scene = file_scene_of items in
    let file = run.file_names items in
    let f1 = function_elaborated (signatures items) scene f body in
    let functions = functions_elaborated (signatures items) scene items in
    let has = resolved.0 in
    let stands = file_stands files (file_lengths items known) in
    let deep = stands_deeper file scene.names (new_homes 0 0 files) 0 (length files) stands in
    let store = run.file_store files kept in
    let start = core.stored (core.file_store (map file_object files) kept) in
    let h = hosted f.params 0 scalars arrays (new_homes 0 0 files) store start has deep.distinct deep.below (files_alike files kept) in
    let homes = new_homes 0 0 files ++ host_homes 0 f.params in
    let ps = map object_elaborated (objects_of_params f.params) in
    let given = run.top_arguments f.params scalars (length files) in
    let same_count : length store ≡ length files = ap length (files_alike files kept).0 ∙ (length-map (new_homes 0 0 files) (held start) ∙ length-homes 0 files) in
    same_answers p top f body has _ _
    (subst (λ l. Same (Equal (Alike homes)) (run.function_meaning (run.calls n items file) true f given [] file (run.started items f kept arrays n))
    (core.function (core.calls n functions) true f1 (core.top_arguments 0 l scalars) 1 [] (core.host_arrays 0 l arrays start) n)) (sym (params_first (signatures items) scene f body))
    (function_same items file (run.calls n items file) (core.calls n functions) (calls_same items file known n) (same_results items file known n) true f body given (core.top_arguments 0 ps scalars) 1 [] homes
    (run.started items f kept arrays n) (core.host_arrays 0 ps arrays start) is_body resolved
    (λ here. named_more (new_homes 0 0 files) (host_homes 0 f.params) here file [] scene.names (stands.resolved here)) h.1
    (subst (λ m. Each (IsBelow 1 m) homes) (let e : 0 + length f.params ≡ length (objects_of_params f.params) = omega (arith, length-map f.params (λ q. q.object)) in e) h.2) h.4
    (subst (λ m. AreGiven homes f.params (run.top_arguments f.params scalars m) (core.top_arguments 0 ps scalars)) same_count h.3) h.0))

pub runs_kept : ResolvedProgramsKeepRuns
runs_kept p top name is_top known kept scalars arrays n =
    let t = topped p.items p.items top name known is_top in
    ap (λ o. core.run_of (program_elaborated p top) o kept scalars arrays n) t.4
    ∙ (top_kept p top t.0 t.1 kept scalars arrays n known t.3 t.5
    ∙ ap (λ o. run.run_of p.items o kept scalars arrays n) (sym t.2))
