use Rattle.std.proofs.Common.{◌≡◌, ap, sym, subst, Some, None}
use Rattle.hls_base.specs.declared.inputs.Inputs.{Inputs}
use Rattle.c_tree.specs.View.{program_of, function_of}
use Rattle.c_meaning.specs.Run.{function_at, first_contents}
use Rattle.cosim_levels.proofs.FewCycles.{passed_low, cycles_low}
use Rattle.c_meaning.specs.declared.outcome.Final.{Final}
use Rattle.cosim_levels.specs.Pins.FunctionPins.{interface_of}
use Rattle.cosim_levels.specs.Verdicts.{verdict_of}
use Rattle.cosim_levels.specs.Levels.{IsUnended, IsWaiting}
use Rattle.hls_flow.specs.declared.files.Read.{Read}
use Rattle.hls_flow.specs.declared.cosim.Compared.{Compared}
use Rattle.hls_flow.specs.Verdicts.{IsStoppedAtFiles, IsVerdictOn, run_in_c, at_files, unended, waiting, compared, inputs_of}
use Rattle.c_elaborate.specs.Programs.{program_elaborated}
use Rattle.c_expand.specs.Expansion.{expansion}
use Rattle.hls_flow.specs.Comparing.{files_of, IsAgreement}
use Rattle.promises.specs.EndedMachines.{EndsInC}
use Rattle.hls_flow.proofs.Ended.{ends_in_c}
use Rattle.hls_flow.proofs.Stopped.{stopped_on}
use Rattle.hls_flow.proofs.VerdictCases.{differs, agrees}
use Rattle.hls_flow.proofs.cosim.compare.Goals as goal

pub returns-in_err-read-clause-stopped : goal.returns-in_err-read-clause-stopped
returns-in_err-read-clause-stopped c =
    let given = c.args.given.now in
    let f = function_of c.args.function.now in
    let program = program_of c.args.checked.now.program in
    stopped_on Read _ c.in_err-read.field-0.0 (IsStoppedAtFiles given f) (IsVerdictOn given program c.args.checked.now.top f) c.from_residual.ensures.1 (λ y e. e)
    (λ v h. at_files h) c.in_err-read.ensures.refused

pub returns-in_err-ended-clause-stopped : goal.returns-in_err-ended-clause-stopped
returns-in_err-ended-clause-stopped c =
    let given = c.args.given.now in
    let f = function_of c.args.function.now in
    let program = program_of c.args.checked.now.program in
    let files = files_of c.in_ok-read.read in
    stopped_on Final _ c.in_err-ended.field-0.0 (IsUnended (run_in_c given program c.args.checked.now.top files) given.points) (IsVerdictOn given program c.args.checked.now.top f) c.from_residual-in_err-ended.ensures.1 (λ y e. e)
    (λ v h. unended files c.in_ok-read.ensures.files h) c.in_err-ended.ensures.unended

pub returns-in_err-counted-clause-stopped : goal.returns-in_err-counted-clause-stopped
returns-in_err-counted-clause-stopped c =
    let given = c.args.given.now in
    let f = function_of c.args.function.now in
    let program = program_of c.args.checked.now.program in
    let files = files_of c.in_ok-read.read in
    stopped_on Compared _ c.in_err-counted.field-0.0 (IsWaiting files.circuit (interface_of f) files.scalars files.arrays given.cycles) (IsVerdictOn given program c.args.checked.now.top f) c.from_residual-in_err-counted.ensures.1 (λ y e. e)
    (λ v h. waiting files c.in_ok-ended.ended c.in_ok-read.ensures.files c.in_ok-ended.ensures.ended h) c.in_err-counted.ensures.waiting

pub returns-in-Some-clause-ran : goal.returns-in-Some-clause-ran
returns-in-Some-clause-ran c =
    let given = c.args.given.now in
    let f = function_of c.args.function.now in
    let files = files_of c.in_ok-read.read in
    let same : c.in_ok-counted.field-0.difference ≡ Some c.in-Some.difference = cc in
    subst (IsVerdictOn given (program_of c.args.checked.now.program) c.args.checked.now.top f) (sym c.differing.ensures)
    (compared files c.in_ok-ended.ended c.in_ok-read.ensures.files c.in_ok-ended.ensures.ended
    (differs given (program_of c.args.checked.now.program) c.args.checked.now.top f files c.in_ok-ended.ended c.in_ok-counted.field-0.counted.cycles c.in_ok-counted.field-0.difference c.in_ok-counted.ensures.compared c.in-Some.difference same))

pub returns-clause-ran : goal.returns-clause-ran
returns-clause-ran c =
    let f = function_of c.args.function.now in
    let files = files_of c.in_ok-read.read in
    let verdict = verdict_of c.in_ok-agreement-in-None.field-0 in
    let same : c.in_ok-counted.field-0.difference ≡ None = cc in
    let program = program_of c.args.checked.now.program in
    let index = c.args.checked.now.top in
    let e = expansion (program_elaborated program index) in
    let counted = c.in_ok-counted.field-0.counted in
    let final = c.in_ok-ended.ended in
    let agreement : IsAgreement e files.report.settings (inputs_of files) f final counted.cycles verdict =
    subst (λ i. IsAgreement e files.report.settings i f final counted.cycles verdict) c.in_ok-counted.ensures.inputs
    (subst (λ s. IsAgreement e s counted.inputs f final counted.cycles verdict) c.in_ok-counted.ensures.settings
    (subst (λ x. IsAgreement x counted.settings counted.inputs f final counted.cycles verdict) c.requires.expanded c.in_ok-agreement-in-None.ensures)) in
    compared files c.in_ok-ended.ended c.in_ok-read.ensures.files c.in_ok-ended.ensures.ended
    (agrees c.args.given.now program index f files c.in_ok-ended.ended c.in_ok-counted.field-0.counted.cycles c.in_ok-counted.field-0.difference c.in_ok-counted.ensures.compared verdict same agreement)

pub agreement-requires : goal.agreement-requires
agreement-requires c =
    let given = c.args.given.now in
    let program = program_of c.args.checked.now.program in
    let index = c.args.checked.now.top in
    let f = function_of c.args.function.now in
    let files = files_of c.in_ok-read.read in
    let final = c.in_ok-ended.ended in
    let ends = ends_in_c program index f (inputs_of files) given.points final (ap function_at c.requires.item) c.in_ok-read.ensures.fit c.requires.points c.in_ok-ended.ensures.ended in
    record {
      source = given.source;
      name = given.top;
      program = program;
      index = index;
      faultless = c.requires.source;
      within = c.requires.within;
      is = c.requires.expanded;
      ends = subst (λ (i : Inputs). EndsInC program index i final.ret final.arrays) (sym c.in_ok-counted.ensures.inputs) ends;
    }

pub compare_module-requires-clause-cycles : goal.compare_module-requires-clause-cycles
compare_module-requires-clause-cycles c =
    let given = c.args.given.now in
    let program = program_of c.args.checked.now.program in
    let files = files_of c.in_ok-read.read in
    let report = c.in_ok-read.ensures.files.report in
    cycles_low given.report files.report c.in_ok-ended.ended.tally given.points report.is report.small c.requires.points
    (passed_low program c.args.checked.now.top (first_contents program) files.scalars files.arrays given.points c.in_ok-ended.ended c.in_ok-ended.ensures.ended)
