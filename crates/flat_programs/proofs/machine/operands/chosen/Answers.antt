use Rattle.std.proofs.Common.{◌≡◌, ℕ, ◌+◌, ◌∙◌, sym, ap, drop, get_or, false, List, ◌<◌, length}
use Rattle.std.specs.Prelude.{if◌then◌else◌}
use Rattle.ir_core.specs.declared.body.Operand.{Operand}
use Rattle.hls_base.specs.declared.number.NodeId.{NodeId}
use Rattle.ir_core.specs.Bodies.{Words}
use Rattle.std.proofs.lemmas.List.{drop_more}
use Rattle.ir_core.specs.FlatRuns.{chosen}
use Rattle.ir_core.specs.TreeRuns.{holds}
use Rattle.flat_programs.specs.Machine.Held.{holding}
use Rattle.flat_programs.proofs.machine.operands.chosen.Goals as goal

skipped : (t : Words) (results : List ℕ) (cases : List (Operand × NodeId)) (i : ℕ) (c : Operand × NodeId) (other : NodeId) → i < length cases → holds t results (get_or cases i c).0 ≡ false → chosen t results (drop i cases) other ≡ chosen t results (drop (i + 1) cases) other
skipped t results cases i c other h no_ =
    ap (λ cs. chosen t results cs other) (drop_more cases i c h) ∙ ap (λ b. if b then (get_or cases i c).1.0 else chosen t results (drop (i + 1) cases) other) no_

pub loop-case-preserved : goal.loop-case-preserved
loop-case-preserved c = λ m.
    sym (skipped (holding c.args.variables.now m) c.args.results.now c.args.cases.now c.loop-case.case-index _ c.args.other c.loop-case-test.true (sym (c.holds.ensures m) ∙ c.if-holds.false)) ∙ c.loop-case.invariant m
