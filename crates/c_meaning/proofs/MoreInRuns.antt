-- Calls and runs where more points may be passed.
use Rattle.std.proofs.Common.{◌≡◌, ℕ, zero, suc, ◌+◌, ◌<◌, ◌≤◌, ◌∙◌, sym, refl, ap, List, [], ◌∷◌, ◌++◌, length, Bool, true, ◌&&◌, ℤ, Option, Some, None, is_some, if◌then◌else◌, arith}
use Rattle.std.specs.Prelude.{slice_get}
use Rattle.hls_base.specs.FileScope.{FileScope}
use Rattle.hls_base.specs.declared.place.Place.{Place}
use Rattle.hls_base.specs.declared.point.Point.{Point}
use Rattle.hls_base.specs.declared.point.PointKind.TheVariants as point
use Rattle.hls_base.specs.declared.refusal.UbRule.TheVariants as ub
use Rattle.c_token.specs.declared.ctype.CType.{CType}
use Rattle.c_tree.specs.Tree.{ObjectTree, ParamTree, FunctionTree, ItemTree}
use Rattle.c_meaning.specs.Checks.Limits.{file_objects}
use Rattle.c_meaning.specs.declared.value.Completion.{Completion}
use Rattle.c_meaning.specs.declared.value.Completion.TheVariants as end
use Rattle.c_meaning.specs.declared.value.Argument.{Argument}
use Rattle.c_meaning.specs.declared.value.Argument.TheVariants as argument
use Rattle.c_meaning.specs.declared.names.Binding.{Binding}
use Rattle.c_meaning.specs.Store.{State, Environment, declared_in, left_block}
use Rattle.c_meaning.specs.Names.{begun}
use Rattle.c_meaning.specs.Steps as steps
use Rattle.c_meaning.specs.Steps.{Outcome, Ran, goes, fails, then_, pass}
use Rattle.c_meaning.specs.Expression.{Calls}
use Rattle.c_meaning.specs.Statement.{items_meaning}
use Rattle.c_meaning.specs.Run as run
use Rattle.c_meaning.specs.Run.{Answer, parameter, parameters, function_end, function_left, body_of, function_body, function_meaning, called, call_meaning, calls, result_of, function_named, function_at, answer_of, started, top_arguments, run_of, c_run}
use Rattle.c_meaning.specs.Laws.{more, Extended, IsExtended, IsKept, MorePointsKeepAnswers, RunsExtend}
use Rattle.c_meaning.proofs.MorePoints.{IsMore, extended, passes_pass, goes_more, fails_more, waits_more, then_more, then_inside, pass_more, if_more, same_start}
use Rattle.c_meaning.proofs.MoreInExpressions.{Steady, Call}
use Rattle.c_meaning.proofs.MoreInStatements.{in_block_more, items_more}

-- ---- parameters

parameter_more : (k : ℕ) (a : Argument) (o : ObjectTree) (env : Environment) (s : State) → ((parameter a o env (more k s)).0 ≡ (parameter a o env s).0) × ((parameter a o env (more k s)).1 ≡ more k (parameter a o env s).1) × ((parameter a o env s).1.left ≡ s.left)
parameter_more k (argument.Array object) o env s = (refl, refl, refl)
parameter_more k (argument.Number n) o env s = (refl, refl, refl)

parameters_more : (k : ℕ) (ps : List ParamTree) (given : List Argument) (env : Environment) (s : State)
    → ((parameters ps given env (more k s)).0 ≡ (parameters ps given env s).0) × ((parameters ps given env (more k s)).1 ≡ more k (parameters ps given env s).1) × ((parameters ps given env s).1.left ≡ s.left)
parameters_more k [] given env s = (refl, refl, refl)
parameters_more k (p ∷ ps) [] env s = (refl, refl, refl)
parameters_more k (p ∷ ps) (a ∷ given) env s =
    let one = parameter_more k a p.object env s in
    let rest = parameters_more k ps given (parameter a p.object env s).0 (parameter a p.object env s).1 in
    let same : parameters ps given (parameter a p.object env (more k s)).0 (parameter a p.object env (more k s)).1 ≡ parameters ps given (parameter a p.object env s).0 (more k (parameter a p.object env s).1) =
    λ i. parameters ps given (one.0 i) (one.1 i) in
    (ap (λ r. r.0) same ∙ rest.0, ap (λ r. r.1) same ∙ rest.1, rest.2 ∙ one.2)

-- ---- calls

module _ (k limit : ℕ) where
  function_end_more : (used : Bool) (f : FunctionTree) (n : Option ℤ) (env : Environment) (s : State) → IsMore k limit s (function_end used f n env s) (function_end used f n env (more k s))
  function_end_more used f n env s = then_more k limit s _ _ _ _ (pass_more k limit point.End f.at env s) (λ p s1. goes_more k limit n s1)

  end_without_value : (used : Bool) (f : FunctionTree) (env : Environment) (s : State)
      → IsMore k limit s (if used && is_some f.result then fails ub.NoReturn f.at else function_end used f None env s) (if used && is_some f.result then fails ub.NoReturn f.at else function_end used f None env (more k s))
  end_without_value used f env s = if_more k limit (used && is_some f.result) s _ _ _ _ (fails_more k limit ub.NoReturn f.at s) (function_end_more used f None env s)

  function_left_more : (used : Bool) (f : FunctionTree) (r : Completion) (env : Environment) (s : State) → IsMore k limit s (function_left used f r env s) (function_left used f r env (more k s))
  function_left_more used f (end.Returned n tail) env s = function_end_more used f n env s
  function_left_more used f end.Normal env s = end_without_value used f env s
  function_left_more used f end.Broke env s = end_without_value used f env s
  function_left_more used f end.Continued env s = end_without_value used f env s

module _ (k limit : ℕ) (call call' : Call) (results : List ℕ → CType) (steady : (used : Bool) (callee : List ℕ) (given : List Argument) (path : List Place) → Steady k limit (call used callee given path) (call' used callee given path)) where
  abbrev c : Calls
  c = record { call = call; result_of = results }

  abbrev c' : Calls
  c' = record { call = call'; result_of = results }

  function_body_more : (used : Bool) (f : FunctionTree) (count : ℕ) (env : Environment) (s : State) → IsMore k (suc limit) s (function_body c used f count env s) (function_body c' used f count env (more k s))
  function_body_more used f count env s =
      then_inside k limit s _ _ _ _ (pass_more k (suc limit) point.Begin f.at env s) (passes_pass point.Begin f.at env s) (λ p s1.
      then_more k limit s1 _ _ _ _ (in_block_more k limit (declared_in (body_of f.body)) (items_meaning c true (body_of f.body)) (items_meaning c' true (body_of f.body)) (λ env1 s2. items_more k limit call call' results steady true (body_of f.body) env1 s2) env s1)
      (λ r s2. function_left_more k limit used f r env (left_block count s2)))

  pub function_meaning_more : (used : Bool) (f : FunctionTree) (given : List Argument) (path : List Place) (names : List Binding) (s : State)
      → IsMore k (suc limit) s (function_meaning c used f given path names s) (function_meaning c' used f given path names (more k s))
  function_meaning_more used f given path names s =
      let bound = parameters_more k f.params given (begun names path f.result) s in
      let first = parameters f.params given (begun names path f.result) s in
      let inner = function_body_more used f (length s.objects) first.0 first.1 in
      let same : function_meaning c' used f given path names (more k s) ≡ function_body c' used f (length s.objects) first.0 (more k first.1) =
      λ i. function_body c' used f (length s.objects) (bound.0 i) (bound.1 i) in
      same_start k (suc limit) first.1.left s.left _ _ _ (bound.2) (sym same) inner

  called_more : (used : Bool) (f : Option FunctionTree) (given : List Argument) (path : List Place) (names : List Binding) (s : State)
      → IsMore k (suc limit) s (called c used f given path names s) (called c' used f given path names (more k s))
  called_more used None given path names s = goes_more k (suc limit) None s
  called_more used (Some f) given path names s = function_meaning_more used f given path names s

-- a call that may be n calls deep, where fewer than n points may be passed
pub call_more : (k n m : ℕ) (items : List ItemTree) (names : List Binding) → m ≡ n + k → (used : Bool) (callee : List ℕ) (given : List Argument) (path : List Place)
    → Steady k n (call_meaning n items names used callee given path) (call_meaning m items names used callee given path)
call_more k zero m items names e used callee given path s = waits_more k zero s (call_meaning m items names used callee given path (more k s)) (λ lt. absurd (omega (arith, lt)))
call_more k (suc n) zero items names e used callee given path s = absurd (omega (arith, e))
call_more k (suc n) (suc m) items names e used callee given path s =
    called_more k n (call_meaning n items names) (call_meaning m items names) (result_of items) (call_more k n m items names (omega (arith, e))) used (function_named items callee) given path names s

pub function_more : (k n : ℕ) (items : List ItemTree) (names : List Binding) (used : Bool) (f : FunctionTree) (given : List Argument) (path : List Place) (s : State)
    → IsMore k (suc n) s (function_meaning (calls n items names) used f given path names s) (function_meaning (calls (n + k) items names) used f given path names (more k s))
function_more k n items names used f given path s =
    function_meaning_more k n (call_meaning n items names) (call_meaning (n + k) items names) (result_of items) (call_more k n (n + k) items names refl) used f given path names s

pub runs_extend : RunsExtend
runs_extend items names used f given path s n k =
    let r = function_meaning (calls n items names) used f given path names s in
    extended s.left k (suc n) r.trace r.outcome (function_meaning (calls (n + k) items names) used f given path names (more k s)) (function_more k n items names used f given path s)

-- ---- answers

answer_kept : (file : List ObjectTree) (f : FunctionTree) (n k : ℕ) (trace : List Point) (o : Outcome (Option ℤ)) (r : Ran (Option ℤ)) → Extended n k trace o r → IsKept n (answer_of file f trace o) (answer_of file f r.trace r.outcome)
answer_kept file f n k trace (steps.went v s) r h = (ap (λ (x : Ran (Option ℤ)). answer_of file f x.trace x.outcome) h.0, omega (arith, h.1))
answer_kept file f n k trace (steps.undefined rule at) r h = ap (λ (x : Ran (Option ℤ)). answer_of file f x.trace x.outcome) h.0
answer_kept file f n k trace steps.waiting r h = tt

run_kept : (items : List ItemTree) (f : Option FunctionTree) (kept : FileScope) (scalars : List ℕ) (arrays : List (List ℕ)) (n k : ℕ) → IsKept n (run_of items f kept scalars arrays n) (run_of items f kept scalars arrays (n + k))
run_kept items None kept scalars arrays n k = tt
run_kept items (Some f) kept scalars arrays n k =
    let names = run.file_names items in
    let ran = runs_extend items names true f (top_arguments f.params scalars (length (file_objects items))) [] (started items f kept arrays n) n k in
    answer_kept (file_objects items) f n k _ _ _ ran

pub more_points_keep_answers : MorePointsKeepAnswers
more_points_keep_answers p top kept scalars arrays n k = run_kept p.items (function_at (slice_get p.items top)) kept scalars arrays n k
