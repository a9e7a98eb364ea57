use Rattle.std.proofs.Common.{subst}
use Rattle.std.proofs.lemmas.Result.{IfOk-weaker}
use Rattle.circuit_context.specs.Counting.{AreNumbered}
use Rattle.circuit_context.proofs.Numbering.{plan_is_of, ports_are, places_are}
use Rattle.circuit_context.proofs.ports.ports_of.Goals as goal

pub returns-clause-ports : goal.returns-clause-ports
returns-clause-ports c = λ p registers e.
    let memories = c.args.cfg.now.frame.memories.items in
    let nodes = c.args.cfg.now.nodes.items in
    IfOk-weaker c.ports_in.result _ _
    (λ ports are.
    ports_are p memories nodes ports (plan_is_of p c.args.cfg.now registers e)
    (subst (λ ns. AreNumbered memories ns ports) c.deref-2.ensures.value (subst (λ ms. AreNumbered ms c.deref-2.result.now ports) c.deref.ensures.value are))) c.ports_in.ensures

pub returns-clause-places : goal.returns-clause-places
returns-clause-places c =
    let memories = c.args.cfg.now.frame.memories.items in
    let nodes = c.args.cfg.now.nodes.items in
    IfOk-weaker c.ports_in.result _ _
    (λ ports are.
    places_are memories nodes ports (subst (λ ns. AreNumbered memories ns ports) c.deref-2.ensures.value (subst (λ ms. AreNumbered ms c.deref-2.result.now ports) c.deref.ensures.value are))) c.ports_in.ensures
