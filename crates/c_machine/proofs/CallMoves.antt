-- Moves of calls leave of a run what was left before.
use Rattle.std.proofs.Common.{◌≡◌, ℕ, zero, suc, ◌+◌, ◌-◌, ◌<◌, ◌&&◌, ◌∙◌, sym, refl, ap, List, [], ◌∷◌, ◌++◌, length, ℤ, Option, Some, None, is_some, Bool, true, false, if◌then◌else◌, arith}
use Rattle.hls_base.specs.declared.place.Place.{Place}
use Rattle.hls_base.specs.declared.point.PointKind.TheVariants as point
use Rattle.hls_base.specs.declared.refusal.UbRule.TheVariants as ub
use Rattle.c_tree.specs.Tree as tree
use Rattle.c_tree.specs.Tree.{FunctionTree, ParamTree, ItemTree, Trees}
use Rattle.c_meaning.specs.declared.value.Argument.{Argument}
use Rattle.c_meaning.specs.declared.value.Argument.TheVariants as argument
use Rattle.c_meaning.specs.declared.value.Completion.{Completion}
use Rattle.c_meaning.specs.declared.value.Completion.TheVariants as end
use Rattle.c_meaning.specs.declared.names.Binding.{Binding}
use Rattle.c_meaning.specs.Store.{State, Environment, declared_in, left_block}
use Rattle.c_meaning.specs.Names.{begun}
use Rattle.c_meaning.specs.Steps.{Ran, then_, goes, fails, pass}
use Rattle.c_meaning.specs.Expression.{value, number_or_zero}
use Rattle.c_meaning.specs.Statement.{in_block, items_meaning}
use Rattle.c_meaning.specs.Run as run
use Rattle.c_meaning.specs.Run.{parameter, parameters, body_of, function_meaning, function_end, function_left, function_named, call_meaning, result_of, result_kind, calls}
use Rattle.c_machine.specs.Frames as f
use Rattle.c_machine.specs.Frames.{Configuration, EndFrame, Frame, given_closed}
use Rattle.c_machine.specs.State.Lists.{latest}
use Rattle.c_machine.specs.Rest.{rest_of, rest_from, setting, state_with, calls_at, calls_in, with_value, with_end, with_step}
use Rattle.c_machine.specs.Moves.{here, holding, call_begun, called, next_argument, call_left, still}
use Rattle.c_machine.proofs.ThenLaws.{then_assoc, then_same}
use Rattle.c_machine.proofs.Nesting.{inner2}
use Rattle.c_machine.proofs.Quiet.{with_left}

abbrev with_points : ℕ → Environment × State → Environment × State
with_points left p = (p.0, with_left left p.1)

parameter-left : (left : ℕ) (a : Argument) (p : tree.ObjectTree) (env : Environment) (s : State) → parameter a p env (with_left left s) ≡ with_points left (parameter a p env s)
parameter-left left (argument.Array object) p env s = refl
parameter-left left (argument.Number n) p env s = refl

pub parameters-left : (left : ℕ) (ps : List ParamTree) (given : List Argument) (env : Environment) (s : State)
    → parameters ps given env (with_left left s) ≡ with_points left (parameters ps given env s)
parameters-left left [] given env s = refl
parameters-left left (p ∷ ps) [] env s = refl
parameters-left left (p ∷ ps) (a ∷ given) env s =
    ap (λ (b : Environment × State). parameters ps given b.0 b.1) (parameter-left left a p.object env s)
    ∙ parameters-left left ps given (parameter a p.object env s).0 (parameter a p.object env s).1

-- A call begins behind which this comes.
pub call_begun-rest : (left : ℕ) (frame : ℕ → EndFrame) (used : Bool) (fn : FunctionTree) (given : List Argument) (path : List Place) (m : Configuration)
    (next : Option ℤ → State → Ran (Option ℤ))
    → ((env : Environment) (r : Completion) (s : State)
    → with_end (setting left m) (f.on_end (frame (length m.objects)) ∷ m.stack) (record m.held { environment = env; outer = here m ∷ m.held.outer }) r s
    ≡ then_ (function_left used fn r env (left_block (length m.objects) s)) next)
    → rest_of left (call_begun frame fn given path m)
    ≡ then_ (function_meaning (calls_at (setting left m) (f.on_end (frame (length m.objects)) ∷ m.stack)) used fn given path m.held.file (state_with left m)) next
call_begun-rest left frame used fn given path m next behind =
    let c = calls_at (setting left m) (f.on_end (frame (length m.objects)) ∷ m.stack) in
    let b0 = parameters fn.params given (begun m.held.file path fn.result) (still m) in
    let count = length m.objects in
    let part : Unit {0} → State → Ran Completion = λ p s1. in_block (declared_in (body_of fn.body)) (items_meaning c true (body_of fn.body)) b0.0 s1 in
    let p = pass point.Begin fn.at b0.0 (with_left left b0.1) in
    then_same p (λ u s1. then_ (part u s1) (with_end (setting left m) (f.on_end (frame count) ∷ m.stack) (record m.held { environment = b0.0; outer = here m ∷ m.held.outer })))
    (λ u s1. then_ (part u s1) (λ r s2. then_ (function_left used fn r b0.0 (left_block count s2)) next))
    (λ u s1. then_same (part u s1) (with_end (setting left m) (f.on_end (frame count) ∷ m.stack) (record m.held { environment = b0.0; outer = here m ∷ m.held.outer }))
    (λ r s2. then_ (function_left used fn r b0.0 (left_block count s2)) next) (λ r s2. behind b0.0 r s2))
    ∙ sym (inner2 p part (λ r s2. function_left used fn r b0.0 (left_block count s2)) next)
    ∙ ap (λ (b : Environment × State). then_ (run.function_body c used fn count b.0 b.1) next) (sym (parameters-left left fn.params given (begun m.held.file path fn.result) (still m)))

called-rest : (left : ℕ) (used : Bool) (o : Option FunctionTree) (given : List Argument) (at : Place) (m : Configuration) (fuel : ℕ)
    → (m.meter.passed + left) - (calls_in m.stack + 1) ≡ fuel
    → rest_of left (called used o given at m)
    ≡ then_ (then_ (run.called (calls fuel m.items m.held.file) used o given ((here m).path ++ at ∷ []) m.held.file (state_with left m))
    (λ r s1. goes (value (result_kind o) (number_or_zero r)) s1)) (with_value (setting left m) m.stack m.held)
called-rest left used None given at m fuel e = refl
called-rest left used (Some fn) given at m fuel e =
    let path = (here m).path ++ at ∷ [] in
    call_begun-rest left (f.called_by used fn) used fn given path m (λ r s1. with_value (setting left m) m.stack m.held (value (run.kind_or_int fn.result) (number_or_zero r)) s1) (λ env r s. refl)
    ∙ ap (λ n. then_ (function_meaning (calls n m.items m.held.file) used fn given path m.held.file (state_with left m))
    (λ r s1. with_value (setting left m) m.stack m.held (value (run.kind_or_int fn.result) (number_or_zero r)) s1)) e
    ∙ sym (then_assoc (function_meaning (calls fuel m.items m.held.file) used fn given path m.held.file (state_with left m))
    (λ r s1. goes (value (result_kind (Some fn)) (number_or_zero r)) s1) (with_value (setting left m) m.stack m.held))

call_fuel : (fuel : ℕ) (items : List ItemTree) (names : List Binding) (used : Bool) (callee : List ℕ) (given : List Argument) (path : List Place) (s : State) → 0 < fuel
    → call_meaning fuel items names used callee given path s ≡ run.called (calls (fuel - 1) items names) used (function_named items callee) given path names s
call_fuel zero items names used callee given path s h = absurd (omega arith)
call_fuel (suc n) items names used callee given path s h =
    let e : suc n - 1 ≡ n = omega arith in
    ap (λ k. run.called (calls k items names) used (function_named items callee) given path names s) (sym e)

-- Behind the last argument the function is called.
pub next_argument-last : (left : ℕ) (callee : List ℕ) (used : Bool) (at : Place) (m : Configuration) → calls_in m.stack < m.meter.passed
    → rest_of left (next_argument tree.none callee used at m) ≡ rest_from left (f.arguments tree.none callee used at) m
next_argument-last left callee used at m h =
    let fuel = (m.meter.passed + left) - calls_in m.stack in
    called-rest left used (function_named m.items callee) (latest m.held.given) at (holding (given_closed m.held) m) (fuel - 1) (omega arith)
    ∙ ap (λ (r : Ran (Option ℤ)). then_ (then_ r (λ n s1. goes (value (result_of m.items callee) (number_or_zero n)) s1)) (with_value (setting left m) m.stack (given_closed m.held)))
    (sym (call_fuel fuel m.items m.held.file used callee (latest m.held.given) ((here m).path ++ at ∷ []) (state_with left m) (omega arith)))

ends_without : (left : ℕ) (missing : Bool) (fn : FunctionTree) (count : ℕ) (m : Configuration)
    → rest_of left (if missing then record m { control = f.undefined ub.NoReturn fn.at }
    else record m { control = f.before point.End fn.at (f.finish None); objects = (left_block count (still m)).objects })
    ≡ then_ (if missing then fails ub.NoReturn fn.at else then_ (pass point.End fn.at (here m) (left_block count (state_with left m))) (λ p s1. goes None s1))
    (λ n s1. with_step (setting left m) (f.finish n) m.stack m.held s1)
ends_without left true fn count m = refl
ends_without left false fn count m =
    sym (then_assoc (pass point.End fn.at (here m) (left_block count (state_with left m))) (λ p s1. goes None s1) (λ n s1. with_step (setting left m) (f.finish n) m.stack m.held s1))

-- The end of a call, whose frame is still there.
pub call_left-rest : (left : ℕ) (used : Bool) (fn : FunctionTree) (count : ℕ) (r : Completion) (m : Configuration)
    → rest_of left (call_left used fn count r m)
    ≡ then_ (function_left used fn r (here m) (left_block count (state_with left m))) (λ n s1. with_step (setting left m) (f.finish n) m.stack m.held s1)
call_left-rest left used fn count (end.Returned n tail) m =
    sym (then_assoc (pass point.End fn.at (here m) (left_block count (state_with left m))) (λ p s1. goes n s1) (λ n s1. with_step (setting left m) (f.finish n) m.stack m.held s1))
call_left-rest left used fn count end.Normal m = ends_without left (used && is_some fn.result) fn count m
call_left-rest left used fn count end.Broke m = ends_without left (used && is_some fn.result) fn count m
call_left-rest left used fn count end.Continued m = ends_without left (used && is_some fn.result) fn count m
