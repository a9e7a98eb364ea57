-- Runs from their beginning to their answers.
use Rattle.std.proofs.Common.{◌≡◌, ◌∙◌, ℕ, ◌+◌, sym, refl, ap, subst, List, [], ◌++◌, length, map, drop, ℤ, Option, Some, None, slice_get, IsTrue, Result, Ok, Err, IfOk, OnOk, arith}
use Rattle.std.proofs.lemmas.List.{append-nil}
use Rattle.std.specs.Borrow.{Bor}
use Rattle.hls_base.specs.declared.point.Point.{Point}
use Rattle.hls_base.specs.FileScope.{FileScope}
use Rattle.c_tree.specs.Tree as tree
use Rattle.c_tree.specs.Tree.{ObjectTree, FunctionTree, ItemTree, ProgramTree}
use Rattle.c_tree.specs.declared.object.Object.{Object as Declared}
use Rattle.c_meaning.specs.Declarations.{objects_of}
use Rattle.c_meaning.specs.Checks.Limits.{file_objects}
use Rattle.c_meaning.specs.Checks.Programs.{is_well_formed, is_faultless, body_name_of}
use Rattle.c_meaning.specs.declared.outcome.Outcome.{Outcome}
use Rattle.c_meaning.specs.declared.outcome.Outcome.TheVariants as o
use Rattle.c_machine.specs.State.Reading.{Reading}
use Rattle.c_meaning.specs.Steps.{Ran}
use Rattle.c_meaning.specs.Points.{tally_of}
use Rattle.c_meaning.specs.Run.{top_arguments, file_names, bindings_from, file_store, host_arrays, patterns, result_pattern, contents_of, function_at, answer, c_run, run_of}
use Rattle.c_machine.specs.Frames as f
use Rattle.c_machine.specs.Frames.{Configuration, Control}
use Rattle.c_machine.specs.Rest.{rest_of}
use Rattle.c_machine.specs.Moves.{top_begun}
use Rattle.c_machine.specs.Sound.{Sound}
use Rattle.c_machine.specs.Shape.{Shaped, control_fits}
use Rattle.c_machine.specs.Following.{top_ran, behind, follows, keeps_following, is_done}
use Rattle.c_interpreter.specs.Execution.Runs.{Standing, top_function, ran, IsRunOf, at_end, left_or, left_contents, outcome_by, is_begun}
use Rattle.c_meaning.specs.PassedPoints.{points_of, points_passed}
use Rattle.c_interpreter.specs.Execution.Progress.{outcome_of, left_behind, RunsFor}
use Rattle.c_machine.proofs.Following.{follows-begun}

-- ---- the top function

top-is-some : (item : Option ItemTree) (p : ProgramTree) → IsTrue (is_faultless p (body_name_of item)) → function_at item ≡ None → ⊥
top-is-some None p well none = absurd cc
top-is-some (Some (tree.objects os)) p well none = absurd cc
top-is-some (Some (tree.function fn)) p well none = absurd cc

pub top-there : (p : ProgramTree) (top : ℕ) → IsTrue (is_well_formed p top) → top_function p top ≡ None → ⊥
top-there p top well none = top-is-some (slice_get p.items top) p well none

-- ---- beginnings

pub begun-from : (items : List ItemTree) (top : Option FunctionTree) (fn : FunctionTree) (file : List ObjectTree) (kept : FileScope) (scalars : List ℕ) (arrays : List (List ℕ)) (m : Configuration) → top ≡ Some fn
    → m ≡ top_begun items (bindings_from 0 file) fn (top_arguments fn.params scalars (length file)) (file_store file kept ++ host_arrays fn.params arrays) → is_begun items top file kept scalars arrays m
begun-from items top fn file kept scalars arrays m is e = subst (λ x. is_begun items x file kept scalars arrays m) (sym is) e

pub begun-follows : (items : List ItemTree) (top : Option FunctionTree) (kept : FileScope) (scalars : List ℕ) (arrays : List (List ℕ)) (m : Configuration) → is_begun items top (file_objects items) kept scalars arrays m
    → follows (ran items top kept scalars arrays) [] m
begun-follows items None kept scalars arrays m h = absurd h
begun-follows items (Some fn) kept scalars arrays m h =
    let given = top_arguments fn.params scalars (length (file_objects items)) in
    let objects = file_store (file_objects items) kept ++ host_arrays fn.params arrays in
    subst (λ (x : Configuration). follows (top_ran items (file_names items) fn given objects) [] x) (sym h) (follows-begun items (file_names items) fn given objects)

pub begun-sound : (items : List ItemTree) (top : Option FunctionTree) (file : List ObjectTree) (kept : FileScope) (scalars : List ℕ) (arrays : List (List ℕ)) (m : Configuration) → is_begun items top file kept scalars arrays m → Sound m
begun-sound items None file kept scalars arrays m h = absurd h
begun-sound items (Some fn) file kept scalars arrays m h = subst Sound (sym h) (omega arith, (tt, tt))

pub begun-shaped : (items : List ItemTree) (top : Option FunctionTree) (file : List ObjectTree) (kept : FileScope) (scalars : List ℕ) (arrays : List (List ℕ)) (m : Configuration) → is_begun items top file kept scalars arrays m → Shaped m
begun-shaped items None file kept scalars arrays m h = absurd h
begun-shaped items (Some fn) file kept scalars arrays m h = subst Shaped (sym h) tt

pub begun-passed : (items : List ItemTree) (top : Option FunctionTree) (file : List ObjectTree) (kept : FileScope) (scalars : List ℕ) (arrays : List (List ℕ)) (m : Configuration) → is_begun items top file kept scalars arrays m
    → m.meter.passed ≡ 0
begun-passed items None file kept scalars arrays m h = absurd h
begun-passed items (Some fn) file kept scalars arrays m h = ap (λ (x : Configuration). x.meter.passed) h

pub begun-counts : (items : List ItemTree) (top : Option FunctionTree) (file : List ObjectTree) (kept : FileScope) (scalars : List ℕ) (arrays : List (List ℕ)) (m : Configuration) → is_begun items top file kept scalars arrays m
    → m.meter.counts ≡ []
begun-counts items None file kept scalars arrays m h = absurd h
begun-counts items (Some fn) file kept scalars arrays m h = ap (λ (x : Configuration). x.meter.counts) h

pub begun-run : (r : Standing) (kept : FileScope) (scalars : List ℕ) (arrays : List (List ℕ)) → is_begun r.program.items (top_function r.program r.top) r.file kept scalars arrays r.machine
    → r.file ≡ file_objects r.program.items → IsRunOf r kept scalars arrays
begun-run r kept scalars arrays h file =
    let h1 = subst (λ x. is_begun r.program.items (top_function r.program r.top) x kept scalars arrays r.machine) file h in (
      [],
      begun-follows r.program.items (top_function r.program r.top) kept scalars arrays r.machine h1,
      begun-counts r.program.items (top_function r.program r.top) r.file kept scalars arrays r.machine h,
    )

pub begun-again : (r : Standing) (kept kept1 : FileScope) (scalars : List ℕ) (arrays : List (List ℕ)) → is_begun r.program.items (top_function r.program r.top) r.file kept1 scalars arrays r.machine
    → kept1 ≡ kept → r.file ≡ file_objects r.program.items → IsRunOf r kept scalars arrays
begun-again r kept kept1 scalars arrays h same file =
    begun-run r kept scalars arrays (subst (λ k. is_begun r.program.items (top_function r.program r.top) r.file k scalars arrays r.machine) same h) file

pub begun-sliced : (items : List ItemTree) (top : Option FunctionTree) (ds ds1 : List (Bor Declared)) (kept : FileScope) (scalars : List ℕ) (arrays : List (List ℕ)) (m : Configuration) → ds1 ≡ ds
    → is_begun items top (objects_of ds1) kept scalars arrays m → is_begun items top (objects_of ds) kept scalars arrays m
begun-sliced items top ds ds1 kept scalars arrays m same h = subst (λ x. is_begun items top (objects_of x) kept scalars arrays m) same h

-- ---- answers

told-ended : (items : List ItemTree) (fn : FunctionTree) (file : List ObjectTree) (kept : FileScope) (scalars : List ℕ) (arrays : List (List ℕ)) (m : Configuration) (number : Option ℤ) (trace : List Point) (n left : ℕ)
    → file ≡ file_objects items → ran items (Some fn) kept scalars arrays n ≡ behind trace (rest_of left (record m { control = f.ended number })) → m.meter.counts ≡ tally_of trace
    → outcome_by file (Some fn) m (f.ended number) ≡ outcome_of (run_of items (Some fn) kept scalars arrays n)
told-ended items fn file kept scalars arrays m number trace n left same h counts =
    let ended : List ObjectTree → List (Point × ℕ) → Outcome = λ fl t. o.Ended (record { ret = result_pattern fn.result number; arrays = map patterns (drop (length fl) m.objects); tally = t }) in
    ap (ended file) (counts ∙ ap tally_of (sym (append-nil trace)))
    ∙ ap (λ fl. ended fl (tally_of (trace ++ []))) same
    ∙ sym (ap (λ (r : Ran (Option ℤ)). outcome_of (answer (file_objects items) fn r)) h)

-- What a machine that is done tells is the answer of the run that it follows.
told : (items : List ItemTree) (top : Option FunctionTree) (file : List ObjectTree) (kept : FileScope) (scalars : List ℕ) (arrays : List (List ℕ)) (m : Configuration) (c : Control) (trace : List Point) (n left : ℕ)
    → file ≡ file_objects items → ran items top kept scalars arrays n ≡ behind trace (rest_of left (record m { control = c })) → m.meter.counts ≡ tally_of trace → is_done c left
    → outcome_by file top m c ≡ outcome_of (run_of items top kept scalars arrays n)
told items None file kept scalars arrays m (f.next step) trace n left same h counts done = absurd done
told items None file kept scalars arrays m (f.before kind at step) trace n left same h counts done = refl
told items None file kept scalars arrays m (f.ended number) trace n left same h counts done = absurd (let e = ap (λ (r : Ran (Option ℤ)). r.outcome) h in cc)
told items None file kept scalars arrays m (f.undefined rule at) trace n left same h counts done = absurd (let e = ap (λ (r : Ran (Option ℤ)). r.outcome) h in cc)
told items None file kept scalars arrays m f.stuck trace n left same h counts done = refl
told items (Some fn) file kept scalars arrays m (f.next step) trace n left same h counts done = absurd done
told items (Some fn) file kept scalars arrays m (f.before kind at step) trace n left same h counts done =
    let h0 = subst (λ x. ran items (Some fn) kept scalars arrays n ≡ behind trace (rest_of x (record m { control = f.before kind at step }))) done h in
    sym (ap (λ (r : Ran (Option ℤ)). outcome_of (answer (file_objects items) fn r)) h0)
told items (Some fn) file kept scalars arrays m (f.ended number) trace n left same h counts done = told-ended items fn file kept scalars arrays m number trace n left same h counts
told items (Some fn) file kept scalars arrays m (f.undefined rule at) trace n left same h counts done = sym (ap (λ (r : Ran (Option ℤ)). outcome_of (answer (file_objects items) fn r)) h)
told items (Some fn) file kept scalars arrays m f.stuck trace n left same h counts done = sym (ap (λ (r : Ran (Option ℤ)). outcome_of (answer (file_objects items) fn r)) h)

-- and the contents of file scope that it leaves are those of the answer
left-kept : (items : List ItemTree) (top : Option FunctionTree) (file : List ObjectTree) (kept : FileScope) (scalars : List ℕ) (arrays : List (List ℕ)) (m : Configuration) (c : Control) (trace : List Point) (n left : ℕ)
    → file ≡ file_objects items → ran items top kept scalars arrays n ≡ behind trace (rest_of left (record m { control = c })) → is_done c left
    → left_or (at_end c (contents_of file m.objects)) kept ≡ left_behind (run_of items top kept scalars arrays n) kept
left-kept items None file kept scalars arrays m (f.next step) trace n left same h done = absurd done
left-kept items None file kept scalars arrays m (f.before kind at step) trace n left same h done = refl
left-kept items None file kept scalars arrays m (f.ended number) trace n left same h done = absurd (let e = ap (λ (r : Ran (Option ℤ)). r.outcome) h in cc)
left-kept items None file kept scalars arrays m (f.undefined rule at) trace n left same h done = refl
left-kept items None file kept scalars arrays m f.stuck trace n left same h done = refl
left-kept items (Some fn) file kept scalars arrays m (f.next step) trace n left same h done = absurd done
left-kept items (Some fn) file kept scalars arrays m (f.before kind at step) trace n left same h done =
    let h0 = subst (λ x. ran items (Some fn) kept scalars arrays n ≡ behind trace (rest_of x (record m { control = f.before kind at step }))) done h in
    sym (ap (λ (r : Ran (Option ℤ)). left_behind (answer (file_objects items) fn r) kept) h0)
left-kept items (Some fn) file kept scalars arrays m (f.ended number) trace n left same h done =
    ap (λ fl. contents_of fl m.objects) same ∙ sym (ap (λ (r : Ran (Option ℤ)). left_behind (answer (file_objects items) fn r) kept) h)
left-kept items (Some fn) file kept scalars arrays m (f.undefined rule at) trace n left same h done = sym (ap (λ (r : Ran (Option ℤ)). left_behind (answer (file_objects items) fn r) kept) h)
left-kept items (Some fn) file kept scalars arrays m f.stuck trace n left same h done = sym (ap (λ (r : Ran (Option ℤ)). left_behind (answer (file_objects items) fn r) kept) h)

-- and it has counted the points that its run passes
points-ran : (items : List ItemTree) (top : Option FunctionTree) (kept : FileScope) (scalars : List ℕ) (arrays : List (List ℕ)) (n : ℕ) → points_of items top kept scalars arrays n ≡ (ran items top kept scalars arrays n).trace
points-ran items None kept scalars arrays n = refl
points-ran items (Some fn) kept scalars arrays n = refl

nothing-rests : (m : Configuration) (c : Control) (left : ℕ) → is_done c left → (rest_of left (record m { control = c })).trace ≡ []
nothing-rests m (f.next step) left done = absurd done
nothing-rests m (f.before kind at step) left done = subst (λ x. (rest_of x (record m { control = f.before kind at step })).trace ≡ []) (sym done) refl
nothing-rests m (f.ended number) left done = refl
nothing-rests m (f.undefined rule at) left done = refl
nothing-rests m f.stuck left done = refl

all-counted : (items : List ItemTree) (top : Option FunctionTree) (kept : FileScope) (scalars : List ℕ) (arrays : List (List ℕ)) (m : Configuration) (c : Control) (trace : List Point) (n left : ℕ)
    → ran items top kept scalars arrays n ≡ behind trace (rest_of left (record m { control = c })) → m.meter.counts ≡ tally_of trace → is_done c left → m.meter.counts ≡ tally_of (points_of items top kept scalars arrays n)
all-counted items top kept scalars arrays m c trace n left h counts done =
    let passed : (ran items top kept scalars arrays n).trace ≡ trace ++ (rest_of left (record m { control = c })).trace = ap (λ (r : Ran (Option ℤ)). r.trace) h in
    counts ∙ ap tally_of (sym (points-ran items top kept scalars arrays n ∙ (passed ∙ (ap (λ l. trace ++ l) (nothing-rests m c left done) ∙ append-nil trace))))

-- a run that goes on, whose machine keeps following
pub gone-run : (r : Standing) (m : Configuration) → keeps_following r.machine m → (kept : FileScope) (scalars : List ℕ) (arrays : List (List ℕ)) → IsRunOf r kept scalars arrays → IsRunOf (record r { machine = m }) kept scalars arrays
gone-run r m keeping kept scalars arrays h = keeping (ran r.program.items (top_function r.program r.top) kept scalars arrays) h.0 h.1 h.2

-- What a machine tells that has gone on so far is the answer of its run.
pub gone-answer : (r : Standing) (n left : ℕ) → r.file ≡ file_objects r.program.items → is_done r.machine.control left → r.machine.meter.passed + left ≡ n
    → (kept : FileScope) (scalars : List ℕ) (arrays : List (List ℕ)) → IsRunOf r kept scalars arrays
    → outcome_by r.file (top_function r.program r.top) r.machine r.machine.control ≡ outcome_of (c_run r.program r.top kept scalars arrays n)
gone-answer r n left file done sum kept scalars arrays h =
    told r.program.items (top_function r.program r.top) r.file kept scalars arrays r.machine r.machine.control h.0 (r.machine.meter.passed + left) left file (h.1 left) h.2 done
    ∙ ap (λ k. outcome_of (c_run r.program r.top kept scalars arrays k)) sum

pub gone-kept : (r : Standing) (n left : ℕ) → r.file ≡ file_objects r.program.items → is_done r.machine.control left → r.machine.meter.passed + left ≡ n
    → (kept : FileScope) (scalars : List ℕ) (arrays : List (List ℕ)) → IsRunOf r kept scalars arrays → left_contents r kept ≡ left_behind (c_run r.program r.top kept scalars arrays n) kept
gone-kept r n left file done sum kept scalars arrays h =
    subst (λ k. left_contents r kept ≡ left_behind (c_run r.program r.top kept scalars arrays k) kept) sum
    (left-kept r.program.items (top_function r.program r.top) r.file kept scalars arrays r.machine r.machine.control h.0 (r.machine.meter.passed + left) left file (h.1 left) done)

pub gone-counted : (r : Standing) (n left : ℕ) → is_done r.machine.control left → r.machine.meter.passed + left ≡ n
    → (kept : FileScope) (scalars : List ℕ) (arrays : List (List ℕ)) → IsRunOf r kept scalars arrays → r.machine.meter.counts ≡ tally_of (points_passed r.program r.top kept scalars arrays n)
gone-counted r n left done sum kept scalars arrays h =
    all-counted r.program.items (top_function r.program r.top) kept scalars arrays r.machine r.machine.control h.0 (r.machine.meter.passed + left) left (h.1 left) h.2 done
    ∙ ap (λ k. tally_of (points_passed r.program r.top kept scalars arrays k)) sum

-- A machine that goes on has passed all points that it may.
pub gone-running : (file : List ObjectTree) (fn : Option FunctionTree) (m : Configuration) (c : Control) (n left : ℕ) → control_fits c m.stack → is_done c left → m.meter.passed + left ≡ n
    → RunsFor (outcome_by file fn m c) m.meter.passed n
gone-running file fn m (f.next step) n left fit done sum = absurd done
gone-running file fn m (f.before kind at step) n left fit done sum = omega (arith, done, sum)
gone-running file fn m (f.ended number) n left fit done sum = tt
gone-running file fn m (f.undefined rule at) n left fit done sum = tt
gone-running file fn m f.stuck n left fit done sum = absurd fit

-- Points that may be passed more change nothing else.
pub allowed-keeps : (m : Configuration) (meter : Reading) (m1 : Configuration) (points : ℕ) → meter ≡ record m.meter { left = points } → keeps_following (record m { meter = meter }) m1 → keeps_following m m1
allowed-keeps m meter m1 points is h =
    let h1 = subst (λ (x : Reading). keeps_following (record m { meter = x }) m1) is h in
    λ run trace follow e. h1 run trace follow e

pub allowed-sound : (m : Configuration) (meter : Reading) (points : ℕ) → meter ≡ record m.meter { left = points } → Sound m → Sound (record m { meter = meter })
allowed-sound m meter points is h = subst (λ (x : Reading). Sound (record m { meter = x })) (sym is) h

pub allowed-sum : (old meter new : Reading) (points : ℕ) → meter ≡ record old { left = points } → new.left + new.passed ≡ meter.left + meter.passed → new.passed + new.left ≡ old.passed + points
allowed-sum old meter new points is total =
    let left = ap (λ (r : Reading). r.left) is in
    let before = ap (λ (r : Reading). r.passed) is in
    omega (arith, total, left, before)

pub told-ok : {A E : Type 0} (result : Result A E) (x y : A) → x ≡ y → IfOk result (λ o. o ≡ x) → IfOk result (λ o. o ≡ y)
told-ok (Ok a) x y e h = h ∙ e
told-ok (Err a) x y e h = h

pub running-ok : {E : Type 0} (result : Result Outcome E) (x : Outcome) (passed n : ℕ) → RunsFor x passed n → IfOk result (λ o. o ≡ x) → IfOk result (λ o. RunsFor o passed n)
running-ok (Ok o) x passed n h e = subst (λ y. RunsFor y passed n) (sym e) h
running-ok (Err a) x passed n h e = tt

pub kept-ok : {A E : Type 0} (result : Result A E) (P : Type 0) → P → OnOk result P
kept-ok (Ok a) P h = h
kept-ok (Err a) P h = tt

pub ruleset runs = (top-there, begun-from, begun-sound, begun-passed, begun-counts, begun-run, gone-run, gone-answer, gone-kept, allowed-keeps, allowed-sound)
