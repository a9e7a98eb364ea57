use Rattle.std.proofs.Common.{◌≡◌, ◌≤◌, ℕ, sym, subst}
use Rattle.std.specs.Result.{IfOk}
use Rattle.std.proofs.lemmas.Result.{IfOk-weaker}
use Rattle.hls_base.specs.Refusals.{IfRefused}
use Rattle.pieces.specs.Resolved.Core.{CoreProgramTree}
use Rattle.c_tree.specs.Tree.{ProgramTree}
use Rattle.c_elaborate.specs.Programs.{program_elaborated}
use Rattle.pieces.specs.Program.{ExpandedTree, expanded_of}
use Rattle.c_expand.specs.Expansion.{expansion, expanded_weight, IsOverweight}
use Rattle.expanded_programs.proofs.ElaboratedPrograms.Whole.{checked_kept}
use Rattle.compile_steps.specs.Runs.{IsWithoutFaults, RunsAsProgram}
use Rattle.compile_steps.proofs.steps.expanded.Goals as goal

pub returns-clause-made : goal.returns-clause-made
returns-clause-made c = subst (λ (p : CoreProgramTree). IfOk c.expand.result (λ e. expanded_of e ≡ expansion p)) c.in_ok-program.ensures c.expand.ensures.made

pub returns-clause-within : goal.returns-clause-within
returns-clause-within c = subst (λ (p : CoreProgramTree). IfOk c.expand.result (λ e. expanded_weight p ≤ 8192)) c.in_ok-program.ensures c.expand.ensures.within

pub returns-clause-refused : goal.returns-clause-refused
returns-clause-refused c = subst (λ (p : CoreProgramTree). IfRefused c.expand.result (λ r. IsOverweight p r)) c.in_ok-program.ensures c.expand.ensures.refused

-- the expansion of a program without faults runs as the program does
runs_as : (p : ProgramTree) (top : ℕ) → IsWithoutFaults p top → (e : ExpandedTree) → e ≡ expansion (program_elaborated p top) → RunsAsProgram p top e
runs_as p top w e is = subst (RunsAsProgram p top) (sym is) (checked_kept w.tokens w.end p top w.name w.numbers w.derives w.named w.faultless)

pub returns-clause-runs : goal.returns-clause-runs
returns-clause-runs c = λ w. IfOk-weaker c.expand.result _ _ (λ a h. runs_as _ _ w (expanded_of a) h)
    (subst (λ (p : CoreProgramTree). IfOk c.expand.result (λ e. expanded_of e ≡ expansion p)) c.in_ok-program.ensures c.expand.ensures.made)
