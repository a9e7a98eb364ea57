use Rattle.std.proofs.Common.{◌∙◌, ap, None, Vec, Global}
use Rattle.block_draft.specs.declared.guards.Guard.{Guard}
use Rattle.block_draft.specs.Views.{ops_of, guarded_of}
use Rattle.block_draft.proofs.Forms.{guarded_more}
use Rattle.block_draft.proofs.guards.guard_bit.Goals as goal

pub loop-guard-init : goal.loop-guard-init
loop-guard-init c = ap (λ l. guarded_of c.args.ops.now l None) (ap (λ (v : Vec Guard Global). v.items) c.replace-before.ensures.after ∙ c.new.ensures.items)

pub loop-guard-preserved : goal.loop-guard-preserved
loop-guard-preserved c =
    guarded_more (ops_of c.args.ops.now) c.loop-guard.ops c.bit_of.new.ops c.loop-guard.guards.items c.push.new.self.items c.loop-guard.yielded c.loop-guard.outer c.in-Some.guard c.in_ok-bit.bit
    c.loop-guard.invariant c.in_ok-bit.ensures c.in_ok-push.ensures.items
