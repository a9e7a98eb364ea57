-- How many cycles the runs take whose levels are compared.
use Rattle.std.proofs.Common.{◌≡◌, ℕ, ◌≤◌, true, List, Some, sym, ap, subst}
use Rattle.c_tree.specs.Tree.{FunctionTree, ProgramTree}
use Rattle.c_meaning.specs.declared.outcome.Final.{Final}
use Rattle.c_meaning.specs.FittingInputs.{inputs_fit}
use Rattle.c_meaning.specs.Run.{c_run, first_contents}
use Rattle.rtl_core.specs.Netlist.{Netlist}
use Rattle.cycle_report.specs.PlainReport.{PlainReport}
use Rattle.cycle_report.specs.FormulaValue.{cycles}
use Rattle.cosim_levels.specs.declared.pins.drive.Shown.{Shown}
use Rattle.cosim_levels.specs.Pins.FunctionPins.{interface_of}
use Rattle.cosim_levels.specs.Pins.ModuleRun.{module_run}
use Rattle.cosim_levels.specs.Levels.{EndsWith}
use Rattle.driven_circuits.specs.Driven.{AgreesWithC, EndsInC}
use Rattle.driven_circuits.proofs.Whole.{ends_in_limit}
use Rattle.compile_steps.specs.LongRuns.{RunsAreLong}

-- a module that agrees shows the end of a run within as many cycles as are waited for
pub agreed_cycles : (p : ProgramTree) (top : ℕ) (f : FunctionTree) (report : PlainReport) (d : Netlist) → AgreesWithC p top f report d → RunsAreLong p top report
    → (scalars : List ℕ) (arrays : List (List ℕ)) → inputs_fit f.params scalars arrays ≡ true → (points limit : ℕ) (final : Final) → EndsWith (c_run p top (first_contents p) scalars arrays points) final
    → (shown : Shown) → module_run d (interface_of f) scalars arrays limit ≡ Some shown → cycles report.base report.rows final.tally ≤ limit
agreed_cycles p top f report d with_c long scalars arrays fit points limit final ends shown run =
    let count = cycles report.base report.rows final.tally in
    let some : 2 ≤ count = subst (λ t. 2 ≤ cycles report.base report.rows t) (sym ends.tally) (long (first_contents p) scalars arrays points final.ret final.arrays ends.kept ends.trace ends.is) in
    let in_c : EndsInC p top f report scalars arrays count final.ret final.arrays =
    record { fit = fit; points = points; left = ends.kept; trace = ends.trace; ends = ends.is; counted = ap (λ t. cycles report.base report.rows t) ends.tally } in
    ends_in_limit p top f report d with_c scalars arrays count final.ret final.arrays in_c limit some shown run
