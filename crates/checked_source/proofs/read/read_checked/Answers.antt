use Rattle.std.proofs.Common.{◌≡◌, sym, subst}
use Rattle.c_tree.specs.declared.program.Program.{Program}
use Rattle.c_tree.specs.View.{program_of}
use Rattle.c_meaning.specs.declared.checks.Checked.{Checked}
use Rattle.c_meaning.specs.Checks.Faults.{IsLeast}
use Rattle.c_meaning.specs.Checks.Programs.{program_faults}
use Rattle.hls_base.specs.declared.refusal.Refusal.{Refusal}
use Rattle.checked_source.specs.Sources.{IsTheProgramOf}
use Rattle.checked_source.specs.SourceFaults as f
use Rattle.checked_source.specs.SourceFaults.{IsFaultBefore, IsSourceFault}
use Rattle.checked_source.proofs.Once.{source_fault_once}
use Rattle.checked_source.proofs.Outcomes.{passed_on, refused_weaker, ok_weaker}
use Rattle.checked_source.proofs.read.read_checked.Goals as goal

pub returns-in_err-program-clause-refused : goal.returns-in_err-program-clause-refused
returns-in_err-program-clause-refused c =
    passed_on Program _ c.in_err-program.field-0.0 (IsFaultBefore c.args.source.now) (IsSourceFault c.args.source.now c.args.top.now) c.from_residual.ensures.1 (λ y e. e)
    (λ r fault. f.no_program fault) c.in_err-program.ensures.refused

pub returns-clause-found : goal.returns-clause-found
returns-clause-found c =
    let program = c.in_ok-program.program in
    let the : IsTheProgramOf c.args.source.now (program_of program) = record { is = c.in_ok-program.ensures.found; only = c.in_ok-program.ensures.only } in
    ok_weaker c.check.result (λ (k : Checked). k.program ≡ program) (λ (k : Checked). IsTheProgramOf c.args.source.now (program_of k.program))
    (λ k e. subst (λ p. IsTheProgramOf c.args.source.now (program_of p)) (sym e) the) c.check.ensures.program

pub returns-clause-refused : goal.returns-clause-refused
returns-clause-refused c =
    let program = c.in_ok-program.program in
    let the : IsTheProgramOf c.args.source.now (program_of program) = record { is = c.in_ok-program.ensures.found; only = c.in_ok-program.ensures.only } in
    refused_weaker c.check.result (λ r. IsLeast (program_faults (program_of program) c.args.top.now) r) (IsSourceFault c.args.source.now c.args.top.now)
    (λ r least. f.breaks_a_rule (program_of program) the least) c.check.ensures.refused

pub returns-in_err-program-clause-once : goal.returns-in_err-program-clause-once
returns-in_err-program-clause-once c =
    let source = c.args.source.now in
    let top = c.args.top.now in
    passed_on Program _ c.in_err-program.field-0.0 (IsFaultBefore source) (λ r. (q : Refusal) → IsSourceFault source top q → q ≡ r) c.from_residual.ensures.1 (λ y e. e)
    (λ r fault q other. source_fault_once source top r q (f.no_program fault) other) c.in_err-program.ensures.refused

pub returns-clause-once : goal.returns-clause-once
returns-clause-once c =
    let program = c.in_ok-program.program in
    let source = c.args.source.now in
    let top = c.args.top.now in
    let the : IsTheProgramOf source (program_of program) = record { is = c.in_ok-program.ensures.found; only = c.in_ok-program.ensures.only } in
    refused_weaker c.check.result (λ r. IsLeast (program_faults (program_of program) top) r) (λ r. (q : Refusal) → IsSourceFault source top q → q ≡ r)
    (λ r least q other. source_fault_once source top r q (f.breaks_a_rule (program_of program) the least) other) c.check.ensures.refused
