-- Circuits that agree with the box show its answers.
use Rattle.std.proofs.Common.{◌≡◌, ◌<◌, ◌≤◌, ℕ, List, Option, Some, None, sym, ap, ◌∙◌, subst, inl, inr}
use Rattle.std.proofs.lemmas.Bool.{and_parts, cases_lt}
use Rattle.std.proofs.lemmas.Option.{none-some, same_Some}
use Rattle.c_tree.specs.Tree.{FunctionTree, ProgramTree}
use Rattle.c_meaning.specs.FittingInputs.{scalars_fit, arrays_fit}
use Rattle.c_meaning.specs.Run.{first_contents}
use Rattle.cycle_report.specs.PlainReport.{PlainReport}
use Rattle.rtl_core.specs.Netlist.{Netlist}
use Rattle.rtl_core.specs.ClockStep.{Fit}
use Rattle.rtl_core.specs.Box.{Ended}
use Rattle.cosim_levels.specs.CAnswers.{c_answers, ends}
use Rattle.cosim_levels.specs.declared.pins.drive.Shown.{Shown}
use Rattle.cosim_levels.specs.Pins.ModuleRun.{module_run}
use Rattle.cosim_levels.specs.Pins.FunctionPins.{scalar_bits, array_shapes, interface_of}
use Rattle.cosim_levels.specs.Comparison.{first_difference}
use Rattle.driven_circuits.specs.Fitting.{IsReached, AreArrays}
use Rattle.driven_circuits.specs.Driven.{RunShows, AgreesWithC, EndsInC, RunAgrees}
use Rattle.driven_circuits.specs.Laws.{answers_by, AgreeingCircuitsShowAnswers, AgreeingCircuitsDoNotDiffer, AgreeingCircuitsNeverDiffer}
use Rattle.driven_circuits.proofs.Showing.{run_shows, run_waits, sequence_waits}
use Rattle.driven_circuits.proofs.Functions.{scalars_given, arrays_given, function_reached}
use Rattle.driven_circuits.proofs.Ends.{LeavesFit, run_leaves}
use Rattle.driven_circuits.proofs.Differences.{none_differ}

pub answers_shown : AgreeingCircuitsShowAnswers
answers_shown d i init first answer valid agrees reached scalars arrays scalars_fit arrays_fit cycles result elements left is fit limit some enough ready =
    run_shows d i init first (answers_by answer) valid agrees reached scalars arrays scalars_fit arrays_fit cycles result elements left (sym is) limit some ready enough fit

module _ (p : ProgramTree) (top : ℕ) (f : FunctionTree) (report : PlainReport) (d : Netlist) (with_c : AgreesWithC p top f report d)
    (scalars : List ℕ) (arrays : List (List ℕ)) (count : ℕ) (result : Option ℕ) (elements : List (List ℕ)) (e : EndsInC p top f report scalars arrays count result elements) (limit : ℕ) (some : 2 ≤ count) where
  reached : IsReached (interface_of f)
  reached = function_reached p top with_c.name f with_c.faultless with_c.function

  given_scalars : Fit (scalar_bits f.params) scalars
  given_scalars = scalars_given f.params scalars (and_parts (scalars_fit f.params scalars) (arrays_fit f.params arrays) e.fit).0

  given_arrays : AreArrays (array_shapes f.params) arrays
  given_arrays = arrays_given f.params arrays (and_parts (scalars_fit f.params scalars) (arrays_fit f.params arrays) e.fit).1

  answered : c_answers p top report (first_contents p) scalars arrays (Ended count result elements e.left)
  answered = ends e.points result elements e.left e.trace e.ends (ap (λ n. Ended n result elements e.left) e.counted)

  agrees_at_end : count ≤ limit → report.init < limit → RunAgrees d f scalars arrays limit count result elements
  agrees_at_end enough ready =
      let leaves : LeavesFit f result elements = run_leaves p top f with_c.function (first_contents p) scalars arrays given_arrays e.points result elements e.left e.trace e.ends in
      let r : RunShows d (interface_of f) scalars arrays limit count result elements =
      run_shows d (interface_of f) report.init (first_contents p) (c_answers p top report) with_c.valid with_c.agrees reached scalars arrays given_scalars given_arrays
      count result elements e.left answered limit some ready enough leaves.arrays in
      record { shown = r.shown; ends = r.ends; same = none_differ f count result elements r.shown leaves.returned r.shows }

  waits_before_end : limit < count → report.init < limit → module_run d (interface_of f) scalars arrays limit ≡ None
  waits_before_end fewer ready =
      run_waits d (interface_of f) report.init (first_contents p) (c_answers p top report) with_c.valid with_c.agrees reached scalars arrays given_scalars given_arrays
      count result elements e.left answered limit some ready fewer

pub no_difference : AgreeingCircuitsDoNotDiffer
no_difference p top f report d with_c scalars arrays count result elements e limit some enough ready = agrees_at_end p top f report d with_c scalars arrays count result elements e limit some enough ready

pub never_different : AgreeingCircuitsNeverDiffer
never_different p top f report d with_c scalars arrays count result elements e limit some shown run =
    elim (cases_lt report.init limit) [
      | inr late ↦ absurd (none-some shown (sym (sequence_waits d (interface_of f) report.init (first_contents p) (c_answers p top report) with_c.agrees scalars arrays limit late) ∙ run))
      | inl ready ↦ elim (cases_lt limit count) [
        | inl fewer ↦ absurd (none-some shown (sym (waits_before_end p top f report d with_c scalars arrays count result elements e limit some fewer ready) ∙ run))
        | inr enough ↦ (
            let r = agrees_at_end p top f report d with_c scalars arrays count result elements e limit some enough ready in
            subst (λ x. first_difference f result elements count x ≡ None) (same_Some r.shown shown (sym r.ends ∙ run)) r.same)
      ]
    ]

-- a run of the module that ends takes no more cycles than are waited for
pub ends_in_limit : (p : ProgramTree) (top : ℕ) (f : FunctionTree) (report : PlainReport) (d : Netlist) → AgreesWithC p top f report d
    → (scalars : List ℕ) (arrays : List (List ℕ)) (count : ℕ) (result : Option ℕ) (elements : List (List ℕ)) → EndsInC p top f report scalars arrays count result elements
    → (limit : ℕ) → 2 ≤ count → (shown : Shown) → module_run d (interface_of f) scalars arrays limit ≡ Some shown → count ≤ limit
ends_in_limit p top f report d with_c scalars arrays count result elements e limit some shown run =
    elim (cases_lt report.init limit) [
      | inr late ↦ absurd (none-some shown (sym (sequence_waits d (interface_of f) report.init (first_contents p) (c_answers p top report) with_c.agrees scalars arrays limit late) ∙ run))
      | inl ready ↦ elim (cases_lt limit count) [
        | inl fewer ↦ absurd (none-some shown (sym (waits_before_end p top f report d with_c scalars arrays count result elements e limit some fewer ready) ∙ run))
        | inr enough ↦ enough
      ]
    ]
