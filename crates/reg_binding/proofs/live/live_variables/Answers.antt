use Rattle.std.proofs.Common.{◌<◌, length, arith}
use Rattle.std.proofs.lemmas.List.{length-map}
use Rattle.reg_binding.specs.Liveness.{flow_of, summary_of}
use Rattle.reg_binding.proofs.LiveVariables.Fixpoint.{liveness_closed}
use Rattle.reg_binding.proofs.live.live_variables.Goals as goal

pub returns-then-not-branch : goal.returns-then-not-branch
returns-then-not-branch g c =
    liveness_closed (flow_of c.args.cfg.now) c.pass.new.self c.in_ok-pass.ensures.holds (λ i l.
    let inside : i < length c.args.cfg.now.nodes.items = omega (arith, length-map c.args.cfg.now.nodes.items summary_of) in
    c.in_ok-pass.ensures.closed c.if-not-branch.true i inside)
