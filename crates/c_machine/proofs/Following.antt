-- A machine follows the run of the top function from its beginning, by each move and behind each point.
use Rattle.std.proofs.Common.{◌≡◌, ◌∙◌, ℕ, suc, ◌+◌, ◌-◌, sym, ap, List, [], ◌∷◌, ◌++◌, length, ℤ, Option, true, append_assoc, arith}
use Rattle.hls_base.specs.declared.place.Place.{Place}
use Rattle.hls_base.specs.declared.point.Point.{Point}
use Rattle.hls_base.specs.declared.point.PointKind.{PointKind}
use Rattle.c_tree.specs.Tree.{FunctionTree, ItemTree}
use Rattle.c_meaning.specs.declared.value.Argument.{Argument}
use Rattle.c_meaning.specs.declared.names.Binding.{Binding}
use Rattle.c_meaning.specs.Store.{Object, State, Environment}
use Rattle.c_meaning.specs.Names.{begun}
use Rattle.c_meaning.specs.Steps.{Ran}
use Rattle.c_meaning.specs.Run.{parameters, function_body, calls}
use Rattle.c_machine.specs.Frames as f
use Rattle.c_machine.specs.Frames.{Configuration, Step}
use Rattle.c_machine.specs.Rest.{rest_of, with_step}
use Rattle.c_machine.specs.Sound.{within}
use Rattle.c_machine.specs.Moves.{stepped, top_begun, point_passed}
use Rattle.c_machine.specs.Following.{top_ran, behind, follows}
use Rattle.c_machine.proofs.Quiet.{with_left}
use Rattle.c_machine.proofs.CallMoves.{parameters-left}
use Rattle.c_machine.proofs.Moving.{stepped-rest}

-- At the beginning the whole run is left.
pub follows-begun : (items : List ItemTree) (names : List Binding) (fn : FunctionTree) (given : List Argument) (objects : List Object)
    → follows (top_ran items names fn given objects) [] (top_begun items names fn given objects)
follows-begun items names fn given objects left =
    let b0 = parameters fn.params given (begun names [] fn.result) (record { objects = objects; left = 0 }) in
    let here : 0 + left ≡ left = omega arith in
    let fuel : left ≡ (0 + left) - 0 = omega arith in
    ap (λ n. top_ran items names fn given objects n) here
    ∙ ap (λ (b : Environment × State). function_body (calls left items names) true fn (length objects) b.0 b.1)
    (parameters-left left fn.params given (begun names [] fn.result) (record { objects = objects; left = 0 }))
    ∙ ap (λ n. function_body (calls n items names) true fn (length objects) b0.0 (with_left left b0.1)) fuel

pub follows-same : (run : ℕ → Ran (Option ℤ)) (trace : List Point) (m m1 : Configuration) → m1.meter.passed ≡ m.meter.passed → ((left : ℕ) → rest_of left m1 ≡ rest_of left m)
    → follows run trace m → follows run trace m1
follows-same run trace m m1 passed same h left = ap (λ n. run (n + left)) passed ∙ h left ∙ ap (λ (r : Ran (Option ℤ)). behind trace r) (sym (same left))

-- A move keeps it.
pub follows-step : (run : ℕ → Ran (Option ℤ)) (trace : List Point) (step : Step) (m m1 : Configuration) → m.control ≡ f.next step → within m.meter.passed m.stack → m1 ≡ stepped step m
    → m1.meter.passed ≡ m.meter.passed → follows run trace m → follows run trace m1
follows-step run trace step m m1 now sound is passed h =
    follows-same run trace m m1 passed
    (λ left. ap (λ x. rest_of left x) is ∙ stepped-rest left step m sound ∙ ap (λ c. rest_of left (record m { control = c })) (sym now)) h

-- Behind a point the trace has one more.
pub follows-point : (run : ℕ → Ran (Option ℤ)) (trace : List Point) (kind : PointKind) (at : Place) (step : Step) (m m1 : Configuration) → m.control ≡ f.before kind at step
    → m1 ≡ record (point_passed step m) { meter = m1.meter } → m1.meter.passed ≡ m.meter.passed + 1
    → follows run trace m → follows run (trace ++ record { path = m.held.environment.path; at = at; kind = kind } ∷ []) m1
follows-point run trace kind at step m m1 now is passed h left =
    let p : Point = record { path = m.held.environment.path; at = at; kind = kind } in
    let n : m1.meter.passed + left ≡ m.meter.passed + suc left = omega arith in
    let there : rest_of (suc left) m ≡ rest_of (suc left) (record m { control = f.before kind at step }) = ap (λ c. rest_of (suc left) (record m { control = c })) now in
    let bound : m.meter.passed + suc left ≡ m1.meter.passed + left = sym n in
    let same : behind (p ∷ []) (rest_of left m1) ≡ rest_of (suc left) (record m { control = f.before kind at step }) =
    ap (λ (x : Configuration). behind (p ∷ []) (rest_of left x)) is
    ∙ ap (λ k. behind (p ∷ []) (with_step (record { items = m.items; file = m.held.file; bound = k }) step m.stack m.held (record { objects = m.objects; left = left }))) (sym bound) in
    ap run n ∙ h (suc left) ∙ ap (λ (r : Ran (Option ℤ)). behind trace r) (there ∙ sym same)
    ∙ ap (λ t. record { trace = t; outcome = (rest_of left m1).outcome }) (sym (append_assoc trace (p ∷ []) (rest_of left m1).trace))
