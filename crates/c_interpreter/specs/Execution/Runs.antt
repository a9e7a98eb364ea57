-- Runs of a program's top function, as they stand, and their answers.
use Rattle.std.specs.Prelude.{◌≡◌, ℕ, ◌++◌, List, length, map, drop, ℤ, Option, Some, None, slice_get}
use Rattle.hls_base.specs.declared.point.Point.{Point}
use Rattle.hls_base.specs.FileScope.{FileScope}
use Rattle.c_token.specs.declared.ctype.CType.{CType}
use Rattle.c_tree.specs.Tree.{ObjectTree, FunctionTree, ItemTree, ProgramTree}
use Rattle.c_meaning.specs.Checks.Limits.{file_objects}
use Rattle.c_meaning.specs.declared.outcome.Outcome.{Outcome}
use Rattle.c_meaning.specs.declared.outcome.Outcome.TheVariants as o
use Rattle.c_meaning.specs.Steps.{Ran, waits}
use Rattle.c_meaning.specs.Points.{tally_of}
use Rattle.c_meaning.specs.Run.{top_arguments, bindings_from, file_names, file_store, host_arrays, patterns, result_pattern, contents_of, function_at}
use Rattle.c_machine.specs.Frames as f
use Rattle.c_machine.specs.Frames.{Configuration}
use Rattle.c_machine.specs.Moves.{top_begun}
use Rattle.c_machine.specs.Following.{top_ran, follows}

-- the program, the number of the item that is its top function, its objects of file scope, and the machine
pub record Standing : Type 0 where
  pub program : ProgramTree
  pub top : ℕ
  pub file : List ObjectTree
  pub machine : Configuration

abbrev pub top_function : ProgramTree → ℕ → Option FunctionTree
top_function p top = function_at (slice_get p.items top)

-- the function as the top function from these contents of file scope and with these inputs, for each number of points
abbrev pub ran : List ItemTree → Option FunctionTree → FileScope → List ℕ → List (List ℕ) → ℕ → Ran (Option ℤ)
ran items None kept scalars arrays n = waits
ran items (Some fn) kept scalars arrays n =
    top_ran items (file_names items) fn (top_arguments fn.params scalars (length (file_objects items))) (file_store (file_objects items) kept ++ host_arrays fn.params arrays) n

-- It stands somewhere in the run from these contents of file scope and with these inputs, and has counted the points up to there.
abbrev pub IsRunOf : Standing → FileScope → List ℕ → List (List ℕ) → Type 0
IsRunOf r kept scalars arrays =
    (trace : List Point) × follows (ran r.program.items (top_function r.program r.top) kept scalars arrays) trace r.machine × (r.machine.meter.counts ≡ tally_of trace)

-- what the objects of file scope hold at the end
abbrev pub at_end : f.Control → FileScope → Option FileScope
at_end (f.ended number) contents = Some contents
at_end _ contents = None

abbrev pub left_or : Option FileScope → FileScope → FileScope
left_or None begun = begun
left_or (Some contents) begun = contents

-- what it leaves for a next run: what the objects of file scope hold at the end, or what it began with where it has not ended
abbrev pub left_contents : Standing → FileScope → FileScope
left_contents r begun = left_or (at_end r.machine.control (contents_of r.file r.machine.objects)) begun

-- ---- what a machine tells, and how it begins

abbrev pub declared_result : Option FunctionTree → Option CType
declared_result None = None
declared_result (Some fn) = fn.result

abbrev pub outcome_by : List ObjectTree → Option FunctionTree → Configuration → f.Control → Outcome
outcome_by file fn m (f.ended n) = o.Ended (record { ret = result_pattern (declared_result fn) n; arrays = map patterns (drop (length file) m.objects); tally = m.meter.counts })
outcome_by file fn m (f.undefined rule at) = o.Undefined rule at
outcome_by file fn m _ = o.Running

abbrev pub is_begun : List ItemTree → Option FunctionTree → List ObjectTree → FileScope → List ℕ → List (List ℕ) → Configuration → Type 0
is_begun items None file kept scalars arrays m = ⊥
is_begun items (Some fn) file kept scalars arrays m =
    m ≡ top_begun items (bindings_from 0 file) fn (top_arguments fn.params scalars (length file)) (file_store file kept ++ host_arrays fn.params arrays)
