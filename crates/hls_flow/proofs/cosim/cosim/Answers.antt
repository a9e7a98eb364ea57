use Rattle.std.proofs.Common.{◌≡◌}
use Rattle.hls_base.specs.declared.refusal.Refusal.{Refusal}
use Rattle.c_tree.specs.View.{program_of, function_of}
use Rattle.c_meaning.specs.declared.checks.Checked.{Checked}
use Rattle.checked_source.specs.Sources.{IsTheProgramOf}
use Rattle.checked_source.specs.SourceFaults.{IsSourceFault}
use Rattle.checked_source.proofs.Outcomes.{passed_on}
use Rattle.c_elaborate.specs.Programs.{program_elaborated}
use Rattle.pieces.specs.declared.expanded.Expanded.{Expanded}
use Rattle.c_expand.specs.Expansion.{IsOverweight}
use Rattle.hls_flow.specs.FirstFault as f
use Rattle.hls_flow.specs.FirstFault.{IsFirstFault}
use Rattle.hls_flow.proofs.Faults.{first_fault_once}
use Rattle.hls_flow.proofs.Made.{faultless_source}
use Rattle.hls_flow.proofs.TopPlace.{too_large}
use Rattle.hls_flow.proofs.VerdictCases.{accepted_at}
use Rattle.hls_flow.proofs.cosim.cosim.Goals as goal

pub returns-in_err-checked-clause-refused : goal.returns-in_err-checked-clause-refused
returns-in_err-checked-clause-refused c =
    let source = c.args.given.now.source in
    let top = c.args.given.now.top in
    passed_on Checked _ c.in_err-checked.field-0.0 (IsSourceFault source top) (IsFirstFault source top) c.from_residual.ensures.1 (λ y e. e)
    (λ r fault. f.of_source fault) (rw c.items.ensures at c.in_err-checked.ensures.refused)

pub returns-in_err-checked-clause-once : goal.returns-in_err-checked-clause-once
returns-in_err-checked-clause-once c =
    let source = c.args.given.now.source in
    let top = c.args.given.now.top in
    passed_on Checked _ c.in_err-checked.field-0.0 (IsSourceFault source top) (λ r. (q : Refusal) → IsFirstFault source top q → q ≡ r) c.from_residual.ensures.1 (λ y e. e)
    (λ r fault q other. first_fault_once source top r q (f.of_source fault) other) (rw c.items.ensures at c.in_err-checked.ensures.refused)

pub returns-in_err-expanded-clause-refused : goal.returns-in_err-expanded-clause-refused
returns-in_err-expanded-clause-refused c =
    let source = c.args.given.now.source in
    let top = c.args.given.now.top in
    let program = program_of c.in_ok-checked.checked.program in
    let index = c.in_ok-checked.checked.top in
    let the : IsTheProgramOf source program = rw c.items.ensures at c.in_ok-checked.ensures.found in
    passed_on Expanded _ c.in_err-expanded.field-0.0 (IsOverweight (program_elaborated program index)) (IsFirstFault source top) c.from_residual-in_err-expanded.ensures.1 (λ y e. e)
    (λ r large. too_large source top program index r the c.in_ok-checked.ensures.faultless c.in_ok-checked.ensures.top large) c.in_err-expanded.ensures.refused

pub returns-in_err-expanded-clause-once : goal.returns-in_err-expanded-clause-once
returns-in_err-expanded-clause-once c =
    let source = c.args.given.now.source in
    let top = c.args.given.now.top in
    let program = program_of c.in_ok-checked.checked.program in
    let index = c.in_ok-checked.checked.top in
    let the : IsTheProgramOf source program = rw c.items.ensures at c.in_ok-checked.ensures.found in
    passed_on Expanded _ c.in_err-expanded.field-0.0 (IsOverweight (program_elaborated program index)) (λ r. (q : Refusal) → IsFirstFault source top q → q ≡ r)
    c.from_residual-in_err-expanded.ensures.1 (λ y e. e)
    (λ r large q other. first_fault_once source top r q
    (too_large source top program index r the c.in_ok-checked.ensures.faultless c.in_ok-checked.ensures.top large) other) c.in_err-expanded.ensures.refused

pub compare-requires-clause-source : goal.compare-requires-clause-source
compare-requires-clause-source c =
    let program = program_of c.in_ok-checked.checked.program in
    let the : IsTheProgramOf c.args.given.now.source program = rw c.items.ensures at c.in_ok-checked.ensures.found in
    faultless_source c.args.given.now.source c.args.given.now.top program c.in_ok-checked.checked.top the c.in_ok-checked.ensures.faultless c.in_ok-checked.ensures.top

pub returns-in-Ok-clause-verdict : goal.returns-in-Ok-clause-verdict
returns-in-Ok-clause-verdict c = record {
  accepted =
      accepted_at c.args.given.now.source c.args.given.now.top (program_of c.in_ok-checked.checked.program) c.in_ok-checked.checked.top (function_of c.top_of.result.now)
      (rw c.items.ensures at c.in_ok-checked.ensures.found) c.in_ok-checked.ensures.faultless c.in_ok-checked.ensures.top c.in_ok-expanded.ensures.within c.top_of.ensures.item c.top_of.ensures.body;
  verdict_is = c.in-Ok.ensures.ran;
}

pub returns-in-Err-Answer-clause-verdict : goal.returns-in-Err-Answer-clause-verdict
returns-in-Err-Answer-clause-verdict c = record {
  accepted =
      accepted_at c.args.given.now.source c.args.given.now.top (program_of c.in_ok-checked.checked.program) c.in_ok-checked.checked.top (function_of c.top_of.result.now)
      (rw c.items.ensures at c.in_ok-checked.ensures.found) c.in_ok-checked.ensures.faultless c.in_ok-checked.ensures.top c.in_ok-expanded.ensures.within c.top_of.ensures.item c.top_of.ensures.body;
  verdict_is = rw c.in-Err-Answer.field-0-is at c.in-Err-Answer.ensures.stopped;
}
