use Rattle.std.proofs.Common.{◌≡◌, ◌∙◌, IfOk, subst, ap, sym}
use Rattle.passes.specs.Lowering.Guards as spec
use Rattle.block_draft.specs.Views.{ops_of, guard_of, made}
use Rattle.block_draft.proofs.guards.bit_of.Goals as goal

pub returns-in_ok-own-in-None : goal.returns-in_ok-own-in-None
returns-in_ok-own-in-None c =
    subst (λ e. IfOk c.bit_under.result (λ x. made c.bit_under.new.ops x ≡ e))
    (ap (spec.under c.args.outer) c.in_ok-own-in-None.ensures ∙ sym (ap (spec.bit_of (ops_of c.args.ops.now) c.args.outer (guard_of c.args.guard)) c.in-None.is)) c.bit_under.ensures
