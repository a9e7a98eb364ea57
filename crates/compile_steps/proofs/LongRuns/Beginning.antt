-- A run in C that ends has passed the point at which its function begins.
use Rattle.std.proofs.Common.{◌≡◌, ◌∙◌, ℕ, zero, suc, ◌+◌, ◌≤◌, sym, ap, refl, List, [], ◌∷◌, length, ℤ, Option, Some, slice_get, arith, if◌then◌else◌}
use Rattle.hls_base.specs.FileScope.{FileScope}
use Rattle.hls_base.specs.Tallies.{count_in}
use Rattle.hls_base.specs.declared.place.Place.{Place}
use Rattle.hls_base.specs.declared.point.Point.{Point}
use Rattle.hls_base.specs.declared.point.PointKind.TheVariants as point
use Rattle.hls_base.proofs.SamePoints.{same_point-self}
use Rattle.c_tree.specs.Tree.{ObjectTree, ParamTree, FunctionTree, ProgramTree}
use Rattle.c_meaning.specs.Checks.Limits.{file_objects}
use Rattle.c_meaning.specs.declared.value.Argument.{Argument}
use Rattle.c_meaning.specs.declared.value.Argument.TheVariants as argument
use Rattle.c_meaning.specs.Store.{State, Environment}
use Rattle.c_meaning.specs.Names.{begun}
use Rattle.c_meaning.specs.Points.{tally_of, times}
use Rattle.c_meaning.specs.Steps as steps
use Rattle.c_meaning.specs.Steps.{Outcome, Ran, then_, pass_point}
use Rattle.c_meaning.specs.Run as run
use Rattle.c_meaning.specs.Run.{Answer, ended, parameter, parameters, answer_of, answer, file_names, top_arguments, started, top_run, run_of, function_at, c_run}
use Rattle.c_meaning.proofs.Tallies.{count_in-tally_of}

-- the point at which a function begins, where it is called along this path
abbrev pub begin_at : Place → List Place → Point
begin_at at path = record { path = path; at = at; kind = point.Begin }

parameters_path : (ps : List ParamTree) (given : List Argument) (env : Environment) (s : State) → (parameters ps given env s).0.path ≡ env.path
parameters_path [] given env s = refl
parameters_path (p ∷ ps) [] env s = refl
parameters_path (p ∷ ps) (argument.Array object ∷ given) env s = parameters_path ps given (parameter (argument.Array object) p.object env s).0 (parameter (argument.Array object) p.object env s).1
parameters_path (p ∷ ps) (argument.Number n ∷ given) env s = parameters_path ps given (parameter (argument.Number n) p.object env s).0 (parameter (argument.Number n) p.object env s).1

abbrev trace_in : Answer → List Point
trace_in (run.ended result arrays kept trace) = trace
trace_in (run.undefined rule at) = []
trace_in run.running = []

module _ (file : List ObjectTree) (f : FunctionTree) (result : Option ℕ) (last : List (List ℕ)) (left : FileScope) (trace : List Point) where
  same_points : (points : List Point) (o : Outcome (Option ℤ)) → answer_of file f points o ≡ ended result last left trace → points ≡ trace
  same_points points (steps.went n s) e = ap trace_in e
  same_points points (steps.undefined rule at) e = absurd cc
  same_points points steps.waiting e = absurd cc

  -- the point that is to be passed first
  passed : (q : Point) (n : ℕ) (s : State) (next : Unit {0} → State → Ran (Option ℤ)) → answer file f (then_ (pass_point q n s) next) ≡ ended result last left trace → (rest : List Point) × (trace ≡ q ∷ rest)
  passed q zero s next e = absurd cc
  passed q (suc n) s next e =
      let behind = next tt (record s { left = n }) in
      (behind.trace, sym (same_points (q ∷ behind.trace) behind.outcome e))

pub first_passed : (p : ProgramTree) (top : ℕ) (f : FunctionTree) (kept : FileScope) (scalars : List ℕ) (arrays : List (List ℕ)) (n : ℕ) (result : Option ℕ) (last : List (List ℕ)) (left : FileScope) (trace : List Point)
    → function_at (slice_get p.items top) ≡ Some f → c_run p top kept scalars arrays n ≡ ended result last left trace → (rest : List Point) × (trace ≡ begin_at f.at [] ∷ rest)
first_passed p top f kept scalars arrays n result last left trace is e =
    let file = file_objects p.items in
    let begins = begun (file_names p.items) [] f.result in
    let bound = parameters f.params (top_arguments f.params scalars (length file)) begins (started p.items f kept arrays n) in
    let runs : top_run p.items f kept scalars arrays n ≡ ended result last left trace = ap (λ o. run_of p.items o kept scalars arrays n) (sym is) ∙ e in
    let first = passed file f result last left trace (begin_at f.at bound.0.path) bound.1.left bound.1 _ runs in
    (first.0, first.1 ∙ ap (λ path. begin_at f.at path ∷ first.0) (parameters_path f.params (top_arguments f.params scalars (length file)) begins (started p.items f kept arrays n)))

pub counted : (q : Point) (rest : List Point) → 1 ≤ count_in (tally_of (q ∷ rest)) q
counted q rest =
    let more : times (q ∷ rest) q ≡ times rest q + 1 = ap (λ b. if b then times rest q + 1 else times rest q) (same_point-self q) in
    let same = count_in-tally_of (q ∷ rest) q in
    omega (arith, more, same)
