use Rattle.std.proofs.Common.{◌∙◌}
use Rattle.std.specs.Borrow.{Bor}
use Rattle.c_tree.specs.View.{object_of}
use Rattle.c_tree.specs.declared.object.Object.{Object}
use Rattle.pieces.specs.Resolved.CoreView.{file_object_of}
use Rattle.c_elaborate.specs.Programs.{file_object}
use Rattle.c_elaborate.proofs.Forms.{fused}
use Rattle.c_elaborate.proofs.Lists.{pushed, finished}
use Rattle.c_elaborate.proofs.file.file_objects.Goals as goal

pub loop-o-preserved : goal.loop-o-preserved
loop-o-preserved c =
    pushed file_object_of (λ (d : Bor Object). file_object (object_of d.now))
    _ _ _ _ _ _ c.in_ok-push.ensures.items c.loop-o-test.true c.o-item.is c.in_ok-file_object.ensures c.loop-o.invariant

pub returns : goal.returns
returns c =
    finished file_object_of (λ (d : Bor Object). file_object (object_of d.now)) c.loop-o.all.items _ c.loop-o.o-index c.loop-o-test.false c.loop-o.invariant
    ∙ fused file_object (λ (d : Bor Object). object_of d.now) c.args.declared.now
