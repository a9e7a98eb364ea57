-- The verdict on a module that agrees with its program.
use Rattle.std.proofs.Common.{◌≡◌, ℕ, None, Option, sym, ap, subst}
use Rattle.c_tree.specs.Tree.{FunctionTree}
use Rattle.c_meaning.specs.declared.outcome.Final.{Final}
use Rattle.c_meaning.specs.Run as run
use Rattle.c_meaning.specs.Run.{Answer, function_at}
use Rattle.cycle_report.specs.FormulaValue.{cycles}
use Rattle.cosim_levels.specs.declared.verdict.Difference.{Difference}
use Rattle.cosim_levels.specs.Comparison.{result_number, array_parameters, shown_arrays, differ_or, first_difference}
use Rattle.cosim_levels.specs.Levels.{EndsWith, IsUnended}
use Rattle.cosim_levels.specs.Verdicts as told
use Rattle.cosim_levels.specs.Verdicts.{PlainVerdict}
use Rattle.cosim_levels.proofs.Fitting.{answer_fits}
use Rattle.driven_circuits.proofs.Whole.{never_different}
use Rattle.hls_flow.specs.FirstFault.{IsAccepted}
use Rattle.hls_flow.specs.Verdicts as on
use Rattle.hls_flow.specs.Verdicts.{Files, AreFiles, IsBadReport, IsBadModule, IsBadLine, IsStoppedAtFiles, IsCompared, run_in_c, IsVerdictOn, IsVerdict}
use Rattle.cosim_levels.specs.Pins.FunctionPins.{interface_of}
use Rattle.hls_flow.specs.declared.verdict.CosimInputs.{CosimInputs}
use Rattle.hls_flow.specs.AgreedComparisons.{FilesAgree, AgreedModulesNeverDiffer}

abbrev IsDifference : PlainVerdict → Type 0
IsDifference (told.differ difference) = Unit {0}
IsDifference other = ⊥

-- a verdict that names a difference is on no file
not_at_files : (given : CosimInputs) (f : FunctionTree) (verdict : PlainVerdict) → IsStoppedAtFiles given f verdict → (d : Difference) → verdict ≡ told.differ d → ⊥
not_at_files given f verdict (on.at_report h) d e = subst (IsBadReport given) e h
not_at_files given f verdict (on.at_module report has h) d e = subst (IsBadModule given (interface_of f)) e h
not_at_files given f verdict (on.at_line report circuit has is h) d e = subst (IsBadLine given f) e h

-- nor on a run in C that does not end
not_unended : (answer : Answer) (points : ℕ) (verdict : PlainVerdict) → IsUnended answer points verdict → IsDifference verdict → ⊥
not_unended (run.ended result arrays kept trace) points verdict h differs = h
not_unended (run.undefined rule at) points verdict h differs = subst IsDifference h differs
not_unended run.running points verdict h differs = subst IsDifference h differs

-- runs that are compared show none
not_compared : (given : CosimInputs) (accepted : IsAccepted given.source given.top) (files : Files) (final : Final) (verdict : PlainVerdict) → AreFiles given accepted.function files → FilesAgree given accepted files
    → EndsWith (run_in_c given accepted.program accepted.index files) final → IsCompared given accepted.program accepted.index accepted.function files final verdict → IsDifference verdict → ⊥
not_compared given accepted files final verdict are agree ends compared differs =
    let f : FunctionTree = accepted.function in
    let count : ℕ = cycles files.report.base files.report.rows final.tally in
    let none : first_difference f final.ret final.arrays count compared.shown ≡ None =
    never_different accepted.program accepted.index f files.report files.circuit
    (record { name = given.top; faultless = accepted.faultless; function = ap function_at accepted.top_is.item; valid = are.circuit.is.valid; agrees = agree.agrees })
    files.scalars files.arrays count final.ret final.arrays
    (record { fit = answer_fits f.params given.run files.scalars files.arrays are.inputs; points = given.points; left = ends.kept; trace = ends.trace; ends = ends.is; counted = ap (cycles files.report.base files.report.rows) ends.tally })
    given.cycles (agree.long final ends) compared.shown compared.run in
    subst (λ (o : Option Difference). IsDifference (differ_or o (told.agree (result_number f.result final.ret) (shown_arrays (array_parameters f) final.arrays) count compared.clock))) none
    (subst IsDifference compared.is differs)

by_cases : (given : CosimInputs) (accepted : IsAccepted given.source given.top) (verdict : PlainVerdict) → IsVerdictOn given accepted.program accepted.index accepted.function verdict
    → ((files : Files) → AreFiles given accepted.function files → FilesAgree given accepted files) → (d : Difference) → verdict ≡ told.differ d → ⊥
by_cases given accepted verdict (on.at_files h) agree d e = not_at_files given accepted.function verdict h d e
by_cases given accepted verdict (on.unended files are h) agree d e =
    not_unended (run_in_c given accepted.program accepted.index files) given.points verdict h (subst IsDifference (sym e) tt)
by_cases given accepted verdict (on.waiting files final are ends h) agree d e = subst IsDifference h.is (subst IsDifference (sym e) tt)
by_cases given accepted verdict (on.compared files final are ends h) agree d e =
    not_compared given accepted files final verdict are (agree files are) ends h (subst IsDifference (sym e) tt)

pub never_differ : AgreedModulesNeverDiffer
never_differ given verdict is agree difference e = by_cases given is.accepted verdict is.verdict_is agree difference e
