-- Functions and calls run as they do in the program.
use Rattle.std.proofs.Common.{◌≡◌, ℕ, zero, suc, ◌+◌, ◌≤◌, ◌&&◌, ◌∙◌, sym, refl, ap, subst, Bool, true, false, if◌then◌else◌, bytes_eq, is_some, ℤ, List, [], ◌∷◌, ◌++◌, map, take, length, Option, Some, None, slice_get, append_assoc, le_refl, inl, inr, arith}
use Rattle.std.specs.Prelude.{unwrap_or}
use Rattle.std.proofs.lemmas.List.{map-append, length-map}
use Rattle.hls_base.specs.declared.place.Place.{Place}
use Rattle.hls_base.specs.declared.point.PointKind.TheVariants as point
use Rattle.c_token.specs.declared.ctype.CType.{CType}
use Rattle.c_tree.specs.Tree as tree
use Rattle.c_tree.specs.Tree.{ObjectTree, StmtTrees, ParamTree, FunctionTree, ItemTree}
use Rattle.c_value.specs.Values.{int_type}
use Rattle.c_meaning.specs.declared.names.Binding.{Binding}
use Rattle.c_meaning.specs.declared.value.Argument.{Argument}
use Rattle.c_meaning.specs.declared.value.Argument.TheVariants as argument
use Rattle.c_meaning.specs.declared.value.Completion.{Completion}
use Rattle.c_meaning.specs.declared.value.Completion.TheVariants as end
use Rattle.c_meaning.specs.Store.{Object, State, Environment, declared_in, left_block}
use Rattle.c_meaning.specs.Names.{begun}
use Rattle.c_meaning.specs.Steps as c
use Rattle.c_meaning.specs.Expression.{Calls}
use Rattle.c_meaning.specs.Statement as cs
use Rattle.c_meaning.specs.Run as run
use Rattle.c_meaning.specs.Run.{function_named, definition_in, first_of, kind_or_int}
use Rattle.pieces.specs.Resolved.Core.{CoreObjectTree, CoreFunctionTree}
use Rattle.hls_base.specs.Steps as r
use Rattle.c_meaning.specs.CoreRuns.Cells.{Spot, spot, Cells, Given, Here, spots_of}
use Rattle.c_meaning.specs.CoreRuns.Expressions.{CoreCalls, point_at}
use Rattle.c_meaning.specs.CoreRuns.Runs as core
use Rattle.c_elaborate.specs.declared.blocks.Scene.{Scene}
use Rattle.c_elaborate.specs.declared.functions.Signature.{Signature}
use Rattle.c_elaborate.specs.Names as e
use Rattle.c_elaborate.specs.Names.{function_number}
use Rattle.c_elaborate.specs.Objects.{object_elaborated, objects_within}
use Rattle.c_elaborate.specs.Scenes as scenes
use Rattle.c_elaborate.specs.Programs.{objects_of_params, function_elaborated, function_of_item, functions_elaborated, signature_of, signatures}
use Rattle.c_elaborate.specs.Same.{Same, Equal}
use Rattle.c_elaborate.specs.Homes.{Each, Home, Alike, IsDistinct, IsBelow, placed, Named, Stands, Has, AreGiven, AreTaken}
use Rattle.c_elaborate.specs.Resolved.{BodyResolved, ItemResolved, file_scene_of}
use Rattle.c_elaborate.proofs.ElaborateRuns.Sames.{then_equal, pass_same, passed_same}
use Rattle.c_elaborate.proofs.ElaborateRuns.Lists.{last-length, each-more, get-behind}
use Rattle.c_elaborate.proofs.ElaborateRuns.Naming.{named_more}
use Rattle.c_elaborate.proofs.ElaborateRuns.Lifetimes.{stands_deeper, leave_alike}
use Rattle.c_elaborate.proofs.ElaborateRuns.Expressions.{CallsSame, ResultsSame, if_same}
use Rattle.c_elaborate.proofs.ElaborateRuns.Statements.{block_same}
use Rattle.c_elaborate.proofs.ElaborateRuns.Parameters.{AreFree, bound, free_below, as_many, spots_given, spots_own}

-- ---- the objects of a function

taken_map : (xs ys : List ObjectTree) → take (length xs) (map object_elaborated (xs ++ ys)) ≡ map object_elaborated xs
taken_map [] ys = nothing (map object_elaborated ys)
  where
    nothing : (l : List CoreObjectTree) → take 0 l ≡ []
    nothing [] = refl
    nothing (x ∷ xs) = refl
taken_map (x ∷ xs) ys = ap (λ l. object_elaborated x ∷ l) (taken_map xs ys)

-- the parameters are the first objects
pub params_first : (fs : List Signature) (scene : Scene) (f : FunctionTree) (body : StmtTrees) → core.params_of (function_elaborated fs scene f body) ≡ map object_elaborated (objects_of_params f.params)
params_first fs scene f body = taken_map (objects_of_params f.params) (declared_in body ++ objects_within body)

has_all : (before : List CoreObjectTree) (os : List ObjectTree) → Has (before ++ map object_elaborated os) (length before) os
has_all before [] = tt
has_all before (o ∷ os) = (
  ap (slice_get (before ++ object_elaborated o ∷ map object_elaborated os)) (let e : length before ≡ length before + 0 = omega arith in e) ∙ get-behind before (object_elaborated o ∷ map object_elaborated os) 0,
  subst (λ n. Has (before ++ object_elaborated o ∷ map object_elaborated os) n os) (last-length before (object_elaborated o))
      (subst (λ l. Has l (length (before ++ object_elaborated o ∷ [])) os) (append_assoc before (object_elaborated o ∷ []) (map object_elaborated os)) (has_all (before ++ object_elaborated o ∷ []) os)),
)

pub has_body : (params os : List ObjectTree) → Has (map object_elaborated (params ++ os)) (length params) os
has_body params os =
    subst (λ l. Has l (length params) os) (sym (map-append object_elaborated params os))
    (subst (λ n. Has (map object_elaborated params ++ map object_elaborated os) n os) (length-map params object_elaborated) (has_all (map object_elaborated params) os))

-- binding parameters changes names alone
placed_one : (frame : ℕ) (spots : ℕ → Spot) (objects : List CoreObjectTree) (a : Argument) (o : ObjectTree) (env : Environment) (s : State)
    → (placed frame spots objects (run.parameter a o env s).0 ≡ placed frame spots objects env) × ((run.parameter a o env s).0.file ≡ env.file)
placed_one frame spots objects (argument.Array i) o env s = (refl, refl)
placed_one frame spots objects (argument.Number n) o env s = (refl, refl)

placed_params : (frame : ℕ) (spots : ℕ → Spot) (objects : List CoreObjectTree) (ps : List ParamTree) (given : List Argument) (env : Environment) (s : State)
    → (placed frame spots objects (run.parameters ps given env s).0 ≡ placed frame spots objects env) × ((run.parameters ps given env s).0.file ≡ env.file)
placed_params frame spots objects [] given env s = (refl, refl)
placed_params frame spots objects (p ∷ ps) [] env s = (refl, refl)
placed_params frame spots objects (p ∷ ps) (a ∷ given) env s =
    let one = placed_one frame spots objects a p.object env s in
    let rest = placed_params frame spots objects ps given (run.parameter a p.object env s).0 (run.parameter a p.object env s).1 in
    (rest.0 ∙ one.0, rest.1 ∙ one.1)

-- ---- functions

module _ (items : List ItemTree) (file : List Binding) (c1 : Calls) (c2 : CoreCalls) (calls : CallsSame items file (file_scene_of items).names c1 c2) (results : ResultsSame items c1) where
  ended_same : (homes : List Home) (used : Bool) (f : FunctionTree) (f' : CoreFunctionTree) (v : Option ℤ) (frame : ℕ) (spots : ℕ → Spot) (objects : List CoreObjectTree) (env : Environment) (s : State) (u : Cells) → f'.at ≡ f.at → Alike homes s.objects u
      → Same (Equal (Alike homes)) (run.function_end used f v env s) (core.function_end f' v (placed frame spots objects env) u s.left)
  ended_same homes used f f' v frame spots objects env s u at h =
      subst (λ z. Same (Equal (Alike homes)) (run.function_end used f v env s) (r.then_ (r.pass (point_at point.End z (placed frame spots objects env)) u s.left) (λ p u1 n1. r.goes v u1 n1))) (sym at)
      (passed_same (Alike homes) frame spots objects v point.End f.at env s u h)

  left_same : (homes : List Home) (used : Bool) (f : FunctionTree) (body : StmtTrees) (x : Completion) (frame : ℕ) (spots : ℕ → Spot) (objects : List CoreObjectTree) (env : Environment) (s : State) (u : Cells) → Alike homes s.objects u
      → Same (Equal (Alike homes)) (run.function_left used f x env s) (core.function_left used (function_elaborated (signatures items) (file_scene_of items) f body) x (placed frame spots objects env) u s.left)
  left_same homes used f body (end.Returned v tail) frame spots objects env s u h = ended_same homes used f (function_elaborated (signatures items) (file_scene_of items) f body) v frame spots objects env s u refl h
  left_same homes used f body end.Normal frame spots objects env s u h = if_same (Equal (Alike homes)) (used && is_some f.result) _ _ _ _ refl (ended_same homes used f (function_elaborated (signatures items) (file_scene_of items) f body) None frame spots objects env s u refl h)
  left_same homes used f body end.Broke frame spots objects env s u h = if_same (Equal (Alike homes)) (used && is_some f.result) _ _ _ _ refl (ended_same homes used f (function_elaborated (signatures items) (file_scene_of items) f body) None frame spots objects env s u refl h)
  left_same homes used f body end.Continued frame spots objects env s u h = if_same (Equal (Alike homes)) (used && is_some f.result) _ _ _ _ refl (ended_same homes used f (function_elaborated (signatures items) (file_scene_of items) f body) None frame spots objects env s u refl h)

  -- a body whose parameters stand
  body_same : (used : Bool) (f : FunctionTree) (body : StmtTrees) (frame : ℕ) (spots : ℕ → Spot) (env : Environment) (homes more : List Home) (s0 : List Object) (u0 : Cells) (s : State) (u : Cells)
      → ((i : ℕ) → length (objects_of_params f.params) ≤ i → spots i ≡ spot frame i)
      → BodyResolved items (file_scene_of items) (objects_of_params f.params) (Some body) → Stands file (file_scene_of items).names (homes ++ more) frame (length (objects_of_params f.params))
      → Named (homes ++ more) (placed frame spots (map object_elaborated (objects_of_params f.params ++ (declared_in body ++ objects_within body))) env) env.file env.names (scenes.all_declared (file_scene_of items) (objects_of_params f.params)).names
      → Alike homes s0 u0 → Alike (homes ++ more) s.objects u
      → Same (Equal (Alike homes)) (c.then_ (c.pass point.Begin f.at env s) (λ p s1.
      c.then_ (cs.in_block (declared_in body) (cs.items_meaning c1 true body) env s1) (λ x s2. run.function_left used f x env (left_block (length s0) s2))))
      (core.body c2 used (function_elaborated (signatures items) (file_scene_of items) f body) (placed frame spots (map object_elaborated (objects_of_params f.params ++ (declared_in body ++ objects_within body))) env) u s.left)
  body_same used f body frame spots env homes more s0 u0 s u own known stands named h0 h =
      let os = objects_of_params f.params in
      let all = map object_elaborated (os ++ (declared_in body ++ objects_within body)) in
      let here = placed frame spots all env in
      then_equal (Alike (homes ++ more)) (Equal (Alike homes)) _ _ _ _ (pass_same (Alike (homes ++ more)) (point_at point.Begin f.at here) s.left s u h) (λ p s1 u1 h1.
      then_equal (Alike (homes ++ more)) (Equal (Alike homes)) _ _ _ _
      (block_same items file (file_scene_of items).names c1 c2 calls results frame (length os) spots all own true body env (scenes.all_declared (file_scene_of items) os) (homes ++ more) (length os) s1 u1 (le_refl (length os)) stands named
      (has_body os (declared_in body ++ objects_within body)) known.1 h1) (λ x s2 u2 h2.
      left_same homes used f body x frame spots all env (left_block (length s0) s2) u2 (leave_alike homes more s0 s2.objects u0 u2 h0 h2)))

  pub function_same : (used : Bool) (f : FunctionTree) (body : StmtTrees) (given : List Argument) (given' : List Given) (frame : ℕ) (path : List Place) (homes : List Home) (s : State) (u : Cells)
      → f.body ≡ Some body → BodyResolved items (file_scene_of items) (objects_of_params f.params) (Some body)
      → ((here : Here) → Named homes here file [] (file_scene_of items).names) → IsDistinct homes → Each (IsBelow frame (length (objects_of_params f.params))) homes → AreFree homes frame 0 given' → AreGiven homes f.params given given' → Alike homes s.objects u
      → Same (Equal (Alike homes)) (run.function_meaning c1 used f given path file s) (core.function c2 used (function_elaborated (signatures items) (file_scene_of items) f body) given' frame path u s.left)
  function_same used f body given given' frame path homes s u is_body known resolved distinct below free gives h =
      let scene = file_scene_of items in
      let os = objects_of_params f.params in
      let f' = function_elaborated (signatures items) scene f body in
      let all = map object_elaborated (os ++ (declared_in body ++ objects_within body)) in
      let count : length given' ≡ length os = as_many homes f.params given given' gives ∙ sym (length-map f.params (λ p. p.object)) in
      let spots = spots_of frame (take (length os) given') in
      let env0 = begun file path f.result in
      let here = placed frame spots all env0 in
      let env1 = (run.parameters f.params given env0 s).0 in
      let s1 = (run.parameters f.params given env0 s).1 in
      let same_place = placed_params frame spots all f.params given env0 s in
      let b = bound here frame (length os) file f.params 0 given given' env0 scene homes s u (let e : 0 + length f.params ≡ length os = omega (arith, length-map f.params (λ p. p.object)) in e) refl gives
      (spots_given frame (length os) given' count) free distinct below (resolved here) h in
      let u1 = core.parameters frame 0 (map object_elaborated os) given' u in
      let stands : Stands file scene.names (homes ++ b.more) frame (length os) = record { distinct = b.distinct; below = b.below; resolved = λ there. named_more homes b.more there file [] scene.names (resolved there) } in
      let named : Named (homes ++ b.more) (placed frame spots all env1) env1.file env1.names (scenes.all_declared scene os).names =
      subst (λ (z : Here). Named (homes ++ b.more) z env1.file env1.names (scenes.all_declared scene os).names) (sym same_place.0)
      (subst (λ l. Named (homes ++ b.more) here l env1.names (scenes.all_declared scene os).names) (sym same_place.1) b.named) in
      subst (λ z. Same (Equal (Alike homes)) (c.then_ (c.pass point.Begin f.at env1 s1) (λ p s2.
      c.then_ (cs.in_block (declared_in (run.body_of z)) (cs.items_meaning c1 true (run.body_of z)) env1 s2) (λ x s3. run.function_left used f x env1 (left_block (length s.objects) s3))))
      (core.function c2 used f' given' frame path u s.left)) (sym is_body)
      (subst (λ l. Same (Equal (Alike homes)) (c.then_ (c.pass point.Begin f.at env1 s1) (λ p s2.
      c.then_ (cs.in_block (declared_in body) (cs.items_meaning c1 true body) env1 s2) (λ x s3. run.function_left used f x env1 (left_block (length s.objects) s3))))
      (core.body c2 used f' here (core.parameters frame 0 l given' u) s.left)) (sym (params_first (signatures items) scene f body))
      (subst (λ (z : Here). Same (Equal (Alike homes)) (c.then_ (c.pass point.Begin f.at env1 s1) (λ p s2.
      c.then_ (cs.in_block (declared_in body) (cs.items_meaning c1 true body) env1 s2) (λ x s3. run.function_left used f x env1 (left_block (length s.objects) s3))))
      (core.body c2 used f' z u1 s.left)) same_place.0
      (subst (λ n. Same (Equal (Alike homes)) (c.then_ (c.pass point.Begin f.at env1 s1) (λ p s2.
      c.then_ (cs.in_block (declared_in body) (cs.items_meaning c1 true body) env1 s2) (λ x s3. run.function_left used f x env1 (left_block (length s.objects) s3))))
      (core.body c2 used f' (placed frame spots all env1) u1 n)) b.same_left
      (body_same used f body frame spots env1 homes b.more s.objects u s1 u1 (spots_own frame (length os) given' count) known stands named h b.alike))))

-- ---- functions by name

-- a function with its body, and what it becomes
abbrev pub Numbered : List ItemTree → Option FunctionTree → Option CoreFunctionTree → Type 0
Numbered items None w = Unit {0}
Numbered items (Some f) w =
    (body : StmtTrees) × (f.body ≡ Some body) × (w ≡ Some (function_elaborated (signatures items) (file_scene_of items) f body)) × BodyResolved items (file_scene_of items) (objects_of_params f.params) (Some body)

abbrev number_behind : Option StmtTrees → Bool → ℕ → ℕ
number_behind None y m = m
number_behind (Some body) y m = if y then 0 else m + 1

number_at : (f : FunctionTree) (b : Option StmtTrees) (fs : List Signature) (name : List ℕ) → function_number (signature_of f b ++ fs) name ≡ number_behind b (bytes_eq f.name name) (function_number fs name)
number_at f None fs name = refl
number_at f (Some body) fs name = refl

numbered_one : (items : List ItemTree) (f : FunctionTree) (b : Option StmtTrees) (y : Bool) (o : Option FunctionTree) (rest : List CoreFunctionTree) (m : ℕ) → f.body ≡ b → BodyResolved items (file_scene_of items) (objects_of_params f.params) b
    → Numbered items o (slice_get rest m)
    → Numbered items (first_of (if is_some b && y then Some f else None) o) (slice_get (function_of_item (signatures items) (file_scene_of items) f b ++ rest) (number_behind b y m))
numbered_one items f None y o rest m is known h = h
numbered_one items f (Some body) true o rest m is known h = (body, is, refl, known)
numbered_one items f (Some body) false o rest m is known h =
    subst (λ n. Numbered items o (slice_get (function_elaborated (signatures items) (file_scene_of items) f body ∷ rest) n)) (let e : suc m ≡ m + 1 = omega arith in e) h

-- The first function of a name is elaborated to the function of its number.
pub numbered : (items sub : List ItemTree) (name : List ℕ) → Each (ItemResolved items (file_scene_of items)) sub
    → Numbered items (function_named sub name) (slice_get (functions_elaborated (signatures items) (file_scene_of items) sub) (function_number (signatures sub) name))
numbered items [] name known = tt
numbered items (tree.objects os ∷ sub) name known = numbered items sub name known.1
numbered items (tree.function f ∷ sub) name known =
    subst (λ n. Numbered items (function_named (tree.function f ∷ sub) name) (slice_get (functions_elaborated (signatures items) (file_scene_of items) (tree.function f ∷ sub)) n)) (sym (number_at f f.body (signatures sub) name))
    (numbered_one items f f.body (bytes_eq f.name name) (function_named sub name) (functions_elaborated (signatures items) (file_scene_of items) sub) (function_number (signatures sub) name) refl known.0 (numbered items sub name known.1))

or_int : (o : Option CType) → kind_or_int o ≡ unwrap_or o int_type
or_int None = refl
or_int (Some kind) = refl

result_one : (f : FunctionTree) (b : Option StmtTrees) (o : Option FunctionTree) (fs : List Signature) (name : List ℕ) → run.result_kind o ≡ unwrap_or (e.result_of fs name) int_type
    → run.result_kind (first_of (if is_some b && bytes_eq f.name name then Some f else None) o) ≡ unwrap_or (e.result_of (signature_of f b ++ fs) name) int_type
result_one f None o fs name h = h
result_one f (Some body) o fs name h = by (bytes_eq f.name name)
  where
    by : (y : Bool) → run.result_kind (first_of (if y then Some f else None) o) ≡ unwrap_or (if y then f.result else e.result_of fs name) int_type
    by true = or_int f.result
    by false = h

-- The results of functions are of the same types.
results_of : (sub : List ItemTree) (name : List ℕ) → run.result_kind (function_named sub name) ≡ unwrap_or (e.result_of (signatures sub) name) int_type
results_of [] name = refl
results_of (tree.objects os ∷ sub) name = results_of sub name
results_of (tree.function f ∷ sub) name = result_one f f.body (function_named sub name) (signatures sub) name (results_of sub name)

module _ (items : List ItemTree) (file : List Binding) (known : Each (ItemResolved items (file_scene_of items)) items) where
  pub same_results : (n : ℕ) → ResultsSame items (run.calls n items file)
  same_results n callee = results_of items callee

  called_same : (c1 : Calls) (c2 : CoreCalls) → CallsSame items file (file_scene_of items).names c1 c2 → ResultsSame items c1
      → (used : Bool) (q : Option FunctionTree) (w : Option CoreFunctionTree) (given : List Argument) (given' : List Given) (path : List Place) (homes : List Home) (frame free : ℕ) (s : State) (u : Cells)
      → Numbered items q w → Stands file (file_scene_of items).names homes frame free → AreTaken homes q given given' → Alike homes s.objects u
      → Same (Equal (Alike homes)) (run.called c1 used q given path file s) (core.called c2 used w given' (suc frame) path u s.left)
  called_same c1 c2 calls results used None w given given' path homes frame free s u is stands taken h = absurd taken
  called_same c1 c2 calls results used (Some f) w given given' path homes frame free s u is stands taken h =
      let deep = stands_deeper file (file_scene_of items).names homes frame free stands in
      subst (λ z. Same (Equal (Alike homes)) (run.function_meaning c1 used f given path file s) (core.called c2 used z given' (suc frame) path u s.left)) (sym is.2)
      (function_same items file c1 c2 calls results used f is.0 given given' (suc frame) path homes s u is.1 is.3 deep.resolved deep.distinct
      (each-more (IsBelow (suc frame) 0) (IsBelow (suc frame) (length (objects_of_params f.params))) homes (λ x. raised (suc frame) (length (objects_of_params f.params)) x) deep.below)
      (free_below homes (suc frame) 0 given' deep.below) taken h)
    where
      raised : (frame n : ℕ) (x : Home) → IsBelow frame 0 x → IsBelow frame n x
      raised frame n x is = elim is [ inl lt ↦ inl lt | inr b ↦ inr (b.0, omega (arith, b.1)) ]

  -- Calls within one another, so many of them, do what they do in the program.
  pub calls_same : (fuel : ℕ) → CallsSame items file (file_scene_of items).names (run.calls fuel items file) (core.calls fuel (functions_elaborated (signatures items) (file_scene_of items) items))
  calls_same zero used callee given given' path homes frame free s u stands taken h = refl
  calls_same (suc fuel) used callee given given' path homes frame free s u stands taken h =
      called_same (run.calls fuel items file) (core.calls fuel (functions_elaborated (signatures items) (file_scene_of items) items)) (calls_same fuel) (same_results fuel) used (function_named items callee) _ given given' path homes frame free s u
      (numbered items items callee known) stands taken h
