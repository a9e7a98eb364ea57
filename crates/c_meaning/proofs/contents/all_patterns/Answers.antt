use Rattle.c_meaning.specs.Run.{patterns}
use Rattle.c_meaning.proofs.Rows.{pushed_map}
use Rattle.c_meaning.proofs.contents.all_patterns.Goals as goal

pub loop-o-preserved : goal.loop-o-preserved
loop-o-preserved c =
    pushed_map patterns c.args.objects.now c.loop-o.o-index c.o-item.result c.loop-o.all.items c.push.new.self.items c.in_ok-patterns.field-0 c.loop-o-test.true c.o-item.is c.loop-o.invariant c.in_ok-patterns.ensures c.in_ok-push.ensures.items
