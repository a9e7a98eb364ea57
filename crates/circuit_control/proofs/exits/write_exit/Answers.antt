use Rattle.std.proofs.Common.{ap, sym, ◌∙◌, arith, length, ◌<◌, subst}
use Rattle.std.proofs.lemmas.Result.{on_ok_weaker}
use Rattle.hls_base.specs.declared.number.NodeId.{NodeId}
use Rattle.rtl_logic.specs.Making.{circuit}
use Rattle.circuit_context.proofs.WantedLemmas.Joining.{logs_none}
use Rattle.circuit_control.specs.Gathered.{test_entries}
use Rattle.circuit_control.proofs.Pieces.{logs_as, test_there, no_test}
use Rattle.circuit_control.proofs.exits.write_exit.Goals as goal

pub returns-then-looped : goal.returns-then-looped
returns-then-looped c = λ p names n context begun stands.
    let is = sym (c.is_loop-looped.ensures p names n context stands) ∙ c.if-looped.true in
    on_ok_weaker c.write_test.result
    (λ h. logs_as p names (circuit c.args.logic.now) (circuit c.write_test.new.logic) c.args.log.now.pushes.items c.write_test.new.log.pushes.items _ _
    (ap (λ (m : NodeId). test_entries p m.0) c.node_with_number-node.ensures ∙ test_there p c.args.number n is) h) (c.write_test.ensures p names context begun)

pub returns-else-looped : goal.returns-else-looped
returns-else-looped c = λ p names n context begun stands.
    let d = circuit c.args.logic.now in
    let is = sym (c.is_loop-looped.ensures p names n context stands) ∙ c.if-looped.false in
    logs_as p names d d c.args.log.now.pushes.items c.args.log.now.pushes.items _ _ (no_test p c.args.number n is) (logs_none p names d c.args.log.now.pushes.items begun)

pub node_with_number-node-requires : goal.node_with_number-node-requires
node_with_number-node-requires c = omega (arith, c.requires, c.args.of.now.few.nodes)

pub write_test-requires : goal.write_test-requires
write_test-requires c = subst (λ (m : NodeId). m.0 < length c.args.of.now.cfg.now.nodes.items) (sym c.node_with_number-node.ensures) c.requires
