use Rattle.std.proofs.Common.{sym}
use Rattle.piece_making.proofs.Exits.{through}
use Rattle.c_expand.proofs.Homes.{kept_turn, kept_skip, kept_heavy, kept_end}
use Rattle.c_expand.proofs.expand.kept_scalars.Goals.{then-is_kept+in_ok-scalar+in_ok-push, else-is_kept}
use Rattle.c_expand.proofs.expand.kept_scalars.Goals as goal

pub returns-in_err-scalar-clause-refused : goal.returns-in_err-scalar-clause-refused
returns-in_err-scalar-clause-refused c =
    through _ c.in_err-scalar.field-0.0 _ _ c.from_residual.ensures.1 (λ y e. e) c.in_err-scalar.ensures.refused
    (λ r h. kept_heavy c.args.file.now c.loop-one.one-index _ _ _ c.loop-one-test.true c.one-item.is _ _ c.loop-one.invariant r (sym c.if-is_kept.ensures) h)

pub loop-one-preserved : goal.loop-one-preserved
loop-one-preserved c = elim c.if-is_kept.branch [
  | then-is_kept+in_ok-scalar+in_ok-push w ↦ rw (w.work-is, w.kept-is) (kept_turn c.args.file.now c.loop-one.one-index _ _ _ c.loop-one-test.true c.one-item.is _ _ c.loop-one.invariant _ _ _ (sym w.if-is_kept.ensures) w.in_ok-scalar.ensures.made w.in_ok-push.ensures.items)
  | else-is_kept w ↦ rw (w.work-is, w.kept-is) (kept_skip c.args.file.now c.loop-one.one-index _ _ _ c.loop-one-test.true c.one-item.is _ _ c.loop-one.invariant (sym w.if-is_kept.ensures))
]

pub returns-clause-made : goal.returns-clause-made
returns-clause-made c = kept_end c.args.file.now c.loop-one.one-index _ _ _ _ c.loop-one-test.false c.loop-one.invariant
