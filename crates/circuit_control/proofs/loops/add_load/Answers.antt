use Rattle.std.proofs.Common.{refl, sym, ap, ◌∙◌, arith}
use Rattle.std.specs.Prelude.{◌&&◌, ◌||◌}
use Rattle.std.proofs.Math.Bool.{or-false}
use Rattle.hls_base.specs.declared.number.NodeId.{NodeId}
use Rattle.datapath.specs.Cycles.{Load, Cycle, holds}
use Rattle.circuit_control.proofs.Wanted.{together_as, last_together}
use Rattle.circuit_control.proofs.loops.add_load.Goals as goal

pub returns-then-not-looped : goal.returns-then-not-looped
returns-then-not-looped c = λ p names d n before context begun stands h.
    let is = sym (c.is_loop-looped.ensures p names n context stands) ∙ c.if-not-looped.true in
    together_as p names d _ before _ (λ (x : Cycle). sym (ap (λ b. before x || (b && holds x (Load c.args.number))) is ∙ or-false (before x))) h

pub returns : goal.returns
returns c = λ p names d n before context begun stands h.
    let is = sym (c.is_loop-looped.ensures p names n context stands) ∙ c.if-not-looped.false in
    let i = c.node_with_number-node.result.0 in
    together_as p names d _ (λ (x : Cycle). before x || holds x (Load i)) _
    (λ (x : Cycle). ap (λ (m : NodeId). before x || holds x (Load m.0)) c.node_with_number-node.ensures ∙ ap (λ b. before x || (b && holds x (Load c.args.number))) (sym is))
    (last_together p names d c.args.all.now.items c.push.new.self.items c.in_ok-load.load before (λ (x : Cycle). holds x (Load i)) h (c.in_ok-load.ensures p names d context begun refl) c.in_ok-push.ensures.items)

pub node_with_number-node-requires : goal.node_with_number-node-requires
node_with_number-node-requires c = omega (arith, c.requires, c.args.of.now.few.nodes)
