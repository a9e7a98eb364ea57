-- The verdict on files that agree with their source, of a run that ends in time.
use Rattle.std.proofs.Common.{◌≡◌, inl, inr, ℕ, ◌+◌, ◌≤◌, List, [], length, drop, Option, None, sym, ap, ◌∙◌, subst, arith}
use Rattle.std.proofs.lemmas.Bool.{cases_lt}
use Rattle.std.proofs.lemmas.Option.{none-some, same_Some}
use Rattle.std.proofs.lemmas.List.{take-append-drop}
use Rattle.hls_base.specs.declared.point.Point.{Point}
use Rattle.hls_base.specs.declared.refusal.Refusal.{Refusal}
use Rattle.c_tree.specs.Tree.{FunctionTree}
use Rattle.c_meaning.specs.declared.outcome.Final.{Final}
use Rattle.c_meaning.specs.Points.{tally_of}
use Rattle.c_meaning.specs.Run as run
use Rattle.c_meaning.specs.Run.{Answer, function_at}
use Rattle.checked_source.specs.Sources.{IsTopFunction}
use Rattle.checked_source.proofs.BodyOnce.{one_top, one_top_function}
use Rattle.checked_source.proofs.Once.{one_program}
use Rattle.rtl_core.specs.Netlist.{Netlist}
use Rattle.rtl_core.specs.Interface.{Interface, HasPins}
use Rattle.verilog_read.proofs.NoText.{no_text}
use Rattle.cycle_report.specs.PlainReport.{PlainReport}
use Rattle.cycle_report.specs.ReportForm.{IsReport, IsRefusedAs, IsFirstBadByte}
use Rattle.cycle_report.specs.FormulaValue.{cycles}
use Rattle.cycle_report.proofs.Whole.{one_report}
use Rattle.cosim_levels.specs.Pins.FunctionPins.{interface_of}
use Rattle.cosim_levels.specs.declared.verdict.Difference.{Difference}
use Rattle.cosim_levels.specs.Comparison.{result_number, array_parameters, shown_arrays, differ_or, first_difference}
use Rattle.cosim_levels.specs.Levels.{EndsWith, IsUnended}
use Rattle.cosim_levels.specs.Verdicts as told
use Rattle.cosim_levels.specs.Verdicts.{PlainVerdict}
use Rattle.cosim_levels.specs.RunFile.{reading_of}
use Rattle.cosim_levels.specs.RunFile as reading
use Rattle.cosim_levels.proofs.Fitting.{answer_fits}
use Rattle.driven_circuits.specs.Driven.{AgreesWithC, EndsInC, RunAgrees}
use Rattle.driven_circuits.proofs.Whole.{no_difference}
use Rattle.hls_flow.specs.FirstFault.{IsAccepted}
use Rattle.hls_flow.specs.Verdicts as on
use Rattle.hls_flow.specs.Verdicts.{Files, AreFiles, HasReport, HasModule, RefusesReport, RefusesModule, IsBadReport, IsBadModule, IsBadLine, IsStoppedAtFiles, IsCompared, run_in_c, run_of_module, IsVerdictOn, IsVerdict}
use Rattle.hls_flow.specs.Agreeing.{AgreesInTime}
use Rattle.hls_flow.specs.declared.verdict.CosimInputs.{CosimInputs}
use Rattle.hls_flow.specs.AgreedComparisons.{SaysAgree, AgreementIsFound}
use Rattle.hls_flow.proofs.AgreedComparisons.OneCircuit.{one_circuit_of}

-- ---- files are read in one way, and not refused

same_report : (given : CosimInputs) (r q : PlainReport) → HasReport given r → HasReport given q → r ≡ q
same_report given r q a b = one_report given.report r q a.is b.is

-- a report does not stop at one of its bytes
no_bad_byte : (bytes : List ℕ) (r : PlainReport) (k : ℕ) → IsReport bytes r → IsFirstBadByte bytes k → ⊥
no_bad_byte bytes r k is bad =
    elim (cases_lt k (length bytes)) [
      | inl inside ↦ bad.at_byte inside (record { report = r; rest = drop (k + 1) bytes; is = subst (λ b. IsReport b r) (sym (take-append-drop (k + 1) bytes)) is })
      | inr past ↦ (let within = bad.inside in bad.at_end r (omega (arith, past, within)) is)
    ]

not_refused_as : (bytes : List ℕ) (r : PlainReport) (why : Refusal) → IsReport bytes r → length bytes ≤ 16777216 → IsRefusedAs bytes why → ⊥
not_refused_as bytes r why is small refused =
    elim refused.1 [
      | inl long ↦ (let above = long.0 in omega (arith, small, above))
      | inr bad ↦ no_bad_byte bytes r bad.1.0 is bad.1.1
    ]

report_stays : (given : CosimInputs) (r : PlainReport) (why : Refusal) → HasReport given r → RefusesReport given why → ⊥
report_stays given r why has (on.no_report refused) = not_refused_as given.report r why has.is has.small refused
report_stays given r why has (on.other_function q is small other e) = other (ap (λ (x : PlainReport). x.settings.top) (one_report given.report q r is has.is) ∙ has.named)

no_bad_report : (given : CosimInputs) (r : PlainReport) (verdict : PlainVerdict) → HasReport given r → IsBadReport given verdict → ⊥
no_bad_report given r (told.agree result arrays count clock) has bad = bad
no_bad_report given r (told.differ difference) has bad = bad
no_bad_report given r (told.waiting level limit) has bad = bad
no_bad_report given r (told.run_line line) has bad = bad
no_bad_report given r (told.module_bad why) has bad = bad
no_bad_report given r (told.report_bad why) has bad = report_stays given r why has bad
no_bad_report given r (told.undefined rule at) has bad = bad

module_stays : (given : CosimInputs) (i : Interface) (d : Netlist) (why : Refusal) → HasModule given i d → RefusesModule given i why → ⊥
module_stays given i d why has (on.no_module fault) = no_text given.module why fault has.small d has.is
module_stays given i d why has (on.other_pins e place is small other at said) = other (subst (λ x. HasPins x i) (one_circuit_of given.module d e has.is is) has.pins)

no_bad_module : (given : CosimInputs) (i : Interface) (d : Netlist) (verdict : PlainVerdict) → HasModule given i d → IsBadModule given i verdict → ⊥
no_bad_module given i d (told.agree result arrays count clock) has bad = bad
no_bad_module given i d (told.differ difference) has bad = bad
no_bad_module given i d (told.waiting level limit) has bad = bad
no_bad_module given i d (told.run_line line) has bad = bad
no_bad_module given i d (told.module_bad why) has bad = module_stays given i d why has bad
no_bad_module given i d (told.report_bad why) has bad = bad
no_bad_module given i d (told.undefined rule at) has bad = bad

abbrev IsInputs : reading.Reading → Type 0
IsInputs (reading.inputs scalars arrays) = Unit {0}
IsInputs (reading.refused line) = ⊥

no_bad_line : (given : CosimInputs) (f : FunctionTree) (scalars : List ℕ) (arrays : List (List ℕ)) (verdict : PlainVerdict) → reading_of f.params given.run ≡ reading.inputs scalars arrays → IsBadLine given f verdict → ⊥
no_bad_line given f scalars arrays (told.agree result shown count clock) is bad = bad
no_bad_line given f scalars arrays (told.differ difference) is bad = bad
no_bad_line given f scalars arrays (told.waiting level limit) is bad = bad
no_bad_line given f scalars arrays (told.run_line line) is bad = subst IsInputs (sym is ∙ bad) tt
no_bad_line given f scalars arrays (told.module_bad why) is bad = bad
no_bad_line given f scalars arrays (told.report_bad why) is bad = bad
no_bad_line given f scalars arrays (told.undefined rule at) is bad = bad

not_stopped : (given : CosimInputs) (f : FunctionTree) (files : Files) (verdict : PlainVerdict) → AreFiles given f files → IsStoppedAtFiles given f verdict → ⊥
not_stopped given f files verdict are (on.at_report bad) = no_bad_report given files.report verdict are.report bad
not_stopped given f files verdict are (on.at_module report has bad) = no_bad_module given (interface_of f) files.circuit verdict are.circuit bad
not_stopped given f files verdict are (on.at_line report circuit has is bad) = no_bad_line given f files.scalars files.arrays verdict are.inputs bad

abbrev scalars_of : reading.Reading → List ℕ
scalars_of (reading.inputs scalars arrays) = scalars
scalars_of (reading.refused line) = []

abbrev arrays_of : reading.Reading → List (List ℕ)
arrays_of (reading.inputs scalars arrays) = arrays
arrays_of (reading.refused line) = []

abbrev files_with : PlainReport → Netlist → List ℕ → List (List ℕ) → Files
files_with report circuit scalars arrays = record { report = report; circuit = circuit; scalars = scalars; arrays = arrays }

same_files : (given : CosimInputs) (f : FunctionTree) (a b : Files) → AreFiles given f a → AreFiles given f b → a ≡ b
same_files given f a b x y =
    let inputs = sym x.inputs ∙ y.inputs in
    ap (λ r. files_with r a.circuit a.scalars a.arrays) (same_report given a.report b.report x.report y.report)
    ∙ (ap (λ d. files_with b.report d a.scalars a.arrays) (one_circuit_of given.module a.circuit b.circuit x.circuit.is y.circuit.is)
    ∙ (ap (λ s. files_with b.report b.circuit s a.arrays) (ap scalars_of inputs) ∙ ap (λ s. files_with b.report b.circuit b.scalars s) (ap arrays_of inputs)))

-- ---- runs that end in time

abbrev IsOver : Answer → Type 0
IsOver (run.ended result arrays kept trace) = Unit {0}
IsOver (run.undefined rule at) = ⊥
IsOver run.running = ⊥

ended_not_unended : (answer : Answer) (points : ℕ) (verdict : PlainVerdict) → IsOver answer → IsUnended answer points verdict → ⊥
ended_not_unended (run.ended result arrays kept trace) points verdict over h = h
ended_not_unended (run.undefined rule at) points verdict over h = over
ended_not_unended run.running points verdict over h = over

abbrev ret_of : Answer → Option ℕ
ret_of (run.ended result arrays kept trace) = result
ret_of (run.undefined rule at) = None
ret_of run.running = None

abbrev last_of : Answer → List (List ℕ)
last_of (run.ended result arrays kept trace) = arrays
last_of (run.undefined rule at) = []
last_of run.running = []

abbrev trace_of : Answer → List Point
trace_of (run.ended result arrays kept trace) = trace
trace_of (run.undefined rule at) = []
trace_of run.running = []

module _ (given : CosimInputs) (accepted : IsAccepted given.source given.top) (it : AgreesInTime given accepted) where
  abbrev f : FunctionTree
  f = accepted.function

  abbrev count : ℕ
  count = cycles it.files.report.base it.files.report.rows it.final.tally

  agrees_with_c : AgreesWithC accepted.program accepted.index f it.files.report it.files.circuit
  agrees_with_c = record {
    name = given.top;
    faultless = accepted.faultless;
    function = ap function_at accepted.top_is.item;
    valid = it.are.circuit.is.valid;
    agrees = it.agrees;
  }

  ends_in_c : EndsInC accepted.program accepted.index f it.files.report it.files.scalars it.files.arrays count it.final.ret it.final.arrays
  ends_in_c = record {
    fit = answer_fits f.params given.run it.files.scalars it.files.arrays it.are.inputs;
    points = given.points;
    left = it.ends.kept;
    trace = it.ends.trace;
    ends = it.ends.is;
    counted = ap (cycles it.files.report.base it.files.report.rows) it.ends.tally;
  }

  shown_in_time : RunAgrees it.files.circuit f it.files.scalars it.files.arrays given.cycles count it.final.ret it.final.arrays
  shown_in_time =
      no_difference accepted.program accepted.index f it.files.report it.files.circuit agrees_with_c it.files.scalars it.files.arrays count it.final.ret it.final.arrays ends_in_c
      given.cycles it.long it.in_time it.ready

  over : IsOver (run_in_c given accepted.program accepted.index it.files)
  over = subst IsOver (sym it.ends.is) tt

  same_final : (final : Final) → EndsWith (run_in_c given accepted.program accepted.index it.files) final → (final.ret ≡ it.final.ret) × (final.arrays ≡ it.final.arrays) × (final.tally ≡ it.final.tally)
  same_final final ends =
      let one = sym ends.is ∙ it.ends.is in
      (ap ret_of one, ap last_of one, ends.tally ∙ (ap (λ a. tally_of (trace_of a)) one ∙ sym it.ends.tally))

  module_ends : run_of_module given f it.files ≡ None → ⊥
  module_ends waits = none-some shown_in_time.shown (sym waits ∙ shown_in_time.ends)

  compared_agrees : (final : Final) (verdict : PlainVerdict) → EndsWith (run_in_c given accepted.program accepted.index it.files) final
      → IsCompared given accepted.program accepted.index f it.files final verdict → SaysAgree verdict
  compared_agrees final verdict ends c =
      let same = same_final final ends in
      let shown : c.shown ≡ shown_in_time.shown = same_Some c.shown shown_in_time.shown (sym c.run ∙ shown_in_time.ends) in
      let none : first_difference f final.ret final.arrays (cycles it.files.report.base it.files.report.rows final.tally) c.shown ≡ None =
      subst (λ s. first_difference f final.ret final.arrays (cycles it.files.report.base it.files.report.rows final.tally) s ≡ None) (sym shown)
      (subst (λ t. first_difference f final.ret final.arrays (cycles it.files.report.base it.files.report.rows t) shown_in_time.shown ≡ None) (sym same.2)
      (subst (λ a. first_difference f final.ret a count shown_in_time.shown ≡ None) (sym same.1)
      (subst (λ r. first_difference f r it.final.arrays count shown_in_time.shown ≡ None) (sym same.0) shown_in_time.same))) in
      subst SaysAgree (sym c.is)
      (subst
      (λ (o : Option Difference). SaysAgree (differ_or o (told.agree (result_number f.result final.ret) (shown_arrays (array_parameters f) final.arrays) (cycles it.files.report.base it.files.report.rows final.tally) c.clock)))
      (sym none) tt)

  -- by where the work came to the verdict
  says_agree : (verdict : PlainVerdict) → IsVerdictOn given accepted.program accepted.index f verdict → SaysAgree verdict
  says_agree verdict (on.at_files h) = absurd (not_stopped given f it.files verdict it.are h)
  says_agree verdict (on.unended files are h) =
      let same = same_files given f files it.files are it.are in
      absurd (ended_not_unended (run_in_c given accepted.program accepted.index it.files) given.points verdict over (subst (λ x. IsUnended (run_in_c given accepted.program accepted.index x) given.points verdict) same h))
  says_agree verdict (on.waiting files final are ends h) =
      let same = same_files given f files it.files are it.are in absurd (module_ends (subst (λ x. run_of_module given f x ≡ None) same h.waits))
  says_agree verdict (on.compared files final are ends h) =
      let same = same_files given f files it.files are it.are in
      compared_agrees final verdict (subst (λ x. EndsWith (run_in_c given accepted.program accepted.index x) final) same ends)
      (subst (λ x. IsCompared given accepted.program accepted.index f x final verdict) same h)

-- ---- a source is one program

-- the verdict on another reading of the source is one on this one
on_same : (given : CosimInputs) (verdict : PlainVerdict) (a b : IsAccepted given.source given.top) → IsVerdictOn given a.program a.index a.function verdict → IsVerdictOn given b.program b.index b.function verdict
on_same given verdict a b h =
    let program : a.program ≡ b.program = one_program given.source a.program b.program a.is b.is in
    let top : IsTopFunction b.program given.top a.index a.function = subst (λ p. IsTopFunction p given.top a.index a.function) program a.top_is in
    let index : a.index ≡ b.index = one_top b.program given.top a.index b.index a.function b.function b.faultless top b.top_is in
    let function : a.function ≡ b.function = one_top_function b.program given.top a.index b.index a.function b.function b.faultless top b.top_is in
    subst (λ g. IsVerdictOn given b.program b.index g verdict) function
    (subst (λ i. IsVerdictOn given b.program i a.function verdict) index (subst (λ p. IsVerdictOn given p a.index a.function verdict) program h))

pub agreement_found : AgreementIsFound
agreement_found given accepted it verdict is = says_agree given accepted it verdict (on_same given verdict is.accepted accepted is.verdict_is)
