-- What the clocked run of a program answers to a start, as the box asks it, where in each cycle stores change different words: the same from all contents with which a run may begin.
use Rattle.std.specs.Prelude.{◌≡◌, ℕ, ◌<◌, List, Option}
use Rattle.hls_base.specs.FileScope.{FileScope}
use Rattle.rtl_core.specs.Netlist.{Netlist}
use Rattle.rtl_core.specs.Box.{Ended, Undefined, Endless, Answers}
use Rattle.rtl_core.specs.Agreement.{Agrees}
use Rattle.ir_core.specs.Bodies.{Words}
use Rattle.clock_ir.specs.ClockRuns.{Phase, inside, ended, clock_run}
use Rattle.datapath.specs.Plans.{Plan, interface, initial_cycles}
use Rattle.datapath.specs.Answers.{HoldsArrays, Begins, HasEnded, first_file_scope}
use Rattle.circuit_agreement.specs.CircuitFlow.Flows.{StoresAreApart}

-- no two stores of this cycle change one word
abbrev pub IsClear : Plan → Phase → Type 0
IsClear p (inside i f) = StoresAreApart p i f
IsClear p phase = Unit {0}

-- From these contents the run ends after so many edges of the clock, and not sooner, with this result and these elements. In each of its cycles stores change different words.
pub record EndsAfter (p : Plan) (t : Words) (cycles : ℕ) (result : Option ℕ) (arrays : List (List ℕ)) (file_scope : FileScope) : Type 0 where
  pub words : Words
  pub ends_ : clock_run p.program t cycles ≡ ended result words
  pub not_sooner : (n : ℕ) → n < cycles → HasEnded (clock_run p.program t n) → ⊥
  pub clear : (n : ℕ) → n < cycles → IsClear p (clock_run p.program t n)
  pub holds : HoldsArrays p file_scope arrays words

-- it never ends
pub record RunsOn (p : Plan) (t : Words) : Type 0 where
  pub never : (n : ℕ) → HasEnded (clock_run p.program t n) → ⊥
  pub clear : (n : ℕ) → IsClear p (clock_run p.program t n)

abbrev pub EndsSo : Plan → FileScope → List ℕ → List (List ℕ) → ℕ → Option ℕ → List (List ℕ) → FileScope → Type 0
EndsSo p before arguments given cycles result arrays after = (t : Words) → Begins p before arguments given t → EndsAfter p t cycles result arrays after

abbrev pub NeverEnds : Plan → FileScope → List ℕ → List (List ℕ) → Type 0
NeverEnds p before arguments given = (t : Words) → Begins p before arguments given t → RunsOn p t

-- Where the run is not the same from all these contents, or where two stores of one cycle change one word, nothing is answered.
abbrev pub machine_answers : Plan → Answers
machine_answers p before arguments given (Ended cycles result arrays after) = EndsSo p before arguments given cycles result arrays after
machine_answers p before arguments given Endless = NeverEnds p before arguments given
machine_answers p before arguments given Undefined =
    ((cycles : ℕ) (result : Option ℕ) (arrays : List (List ℕ)) (after : FileScope) → EndsSo p before arguments given cycles result arrays after → ⊥)
    × (NeverEnds p before arguments given → ⊥)

-- the netlist agrees with the box that asks the clocked run
abbrev pub AgreesWithRun : Plan → Netlist → Type 0
AgreesWithRun p d = Agrees d (interface p) (initial_cycles p) (first_file_scope p) (machine_answers p)
