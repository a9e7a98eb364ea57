-- What it is that a circuit keeps the promise.
use Rattle.std.specs.Prelude.{◌≡◌, ℕ, List, ◌++◌, codes}
use Rattle.c_tree.specs.Tree.{FunctionTree, ProgramTree}
use Rattle.c_meaning.specs.Run.{first_contents}
use Rattle.cosim_levels.specs.CAnswers.{c_answers}
use Rattle.cosim_levels.specs.Pins.FunctionPins.{interface_of}
use Rattle.rtl_core.specs.Netlist.{Netlist}
use Rattle.rtl_core.specs.Agreement.{Agrees}
use Rattle.cycle_report.specs.PlainReport.{PlainReport}

-- the circuit is named as its top function, and agrees with the box of the C function, with the answers of C in the cycles of the report
pub record KeepsPromise (p : ProgramTree) (top : ℕ) (name : List ℕ) (function : FunctionTree) (report : PlainReport) (d : Netlist) : Type 0 where
  pub named : d.name ≡ codes "hls_" ++ name
  pub agrees : Agrees d (interface_of function) report.init (first_contents p) (c_answers p top report)
