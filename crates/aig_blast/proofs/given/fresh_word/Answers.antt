use Rattle.std.proofs.Common.{◌≡◌, ap, ◌∙◌, arith}
use Rattle.aig_blast.specs.Literals.{literals_from}
use Rattle.aig_blast.proofs.Fresh.{literal_more}
use Rattle.aig_blast.proofs.given.fresh_word.Goals as goal

pub loop-i-init : goal.loop-i-init
loop-i-init c = c.in_ok-word.ensures.items

pub loop-i-preserved : goal.loop-i-preserved
loop-i-preserved c = literal_more c.args.first c.loop-i.i _ _ c.loop-i.invariant c.in_ok-push.ensures.items

pub returns : goal.returns
returns c = c.loop-i.invariant ∙ (let e : c.loop-i.i ≡ c.args.bits = omega arith in ap (literals_from c.args.first) e)
