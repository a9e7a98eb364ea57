use Rattle.std.proofs.Common.{◌≡◌, ◌∙◌, Some, None, sym, ap}
use Rattle.std.proofs.lemmas.Result.{IfOk-weaker}
use Rattle.dep_graph.specs.Dependences.{maker_of}
use Rattle.clock_ir.specs.Flows.{TimedBody, place, ready}
use Rattle.clock_ir.specs.ClockRuns.{timed_node}
use Rattle.rtl_logic.specs.Making.{circuit}
use Rattle.datapath.specs.Plans.{body_of}
use Rattle.datapath.specs.Cycles.{Cycle}
use Rattle.datapath.specs.Reading as reading
use Rattle.circuit_context.proofs.Telling.{some_as}
use Rattle.circuit_context.proofs.Standing.{body_there}
use Rattle.circuit_context.proofs.Chains.{chain_some, chain_none, chain_read, other_read}
use Rattle.circuit_context.proofs.context.Context.operand_of_any_width.Goals as goal

pub returns-in_ok-place-in-Some : goal.returns-in_ok-place-in-Some
returns-in_ok-place-in-Some c = λ p names h begun.
    let d = circuit c.args.logic.now in
    let i = c.args.at.node.0 in
    let t = c.args.at.time in
    let x = c.args.operand in
    let op = c.in-Some.op in
    let j = c.in_ok-place-in-Some.place in
    let b : TimedBody = body_of (timed_node c.node-node.result.now) in
    let body = body_there p names c.args.self.now i c.node-node.result.now h c.node-node.ensures.stands in
    let chain = chain_some (maker_of c.body_of.result.now.outs.items x) x.distance op c.in-Some.distance (sym c.in-Some.is ∙ c.chain_of.ensures) in
    let made : maker_of b.outs x ≡ Some op = ap (λ (b : TimedBody). maker_of b.outs x) (sym c.body_of.ensures) ∙ chain.0 in
    let at : j ≡ place b.interval (ready b op) t x.distance = c.in_ok-place-in-Some.ensures ∙ ap (place b.interval (ready b op) t) chain.1 in
    IfOk-weaker c.result_at.result _ _
    (λ a found. some_as p names d a (λ (y : Cycle). reading.result_at p y i op.0 j) (λ (y : Cycle). reading.operand p y i t x) (λ y. chain_read p y i t j x op b body made at) found)
    (c.result_at.ensures p names d h begun)

pub returns-in-None : goal.returns-in-None
returns-in-None c = λ p names h begun.
    let d = circuit c.args.logic.now in
    let i = c.args.at.node.0 in
    let t = c.args.at.time in
    let x = c.args.operand in
    let b : TimedBody = body_of (timed_node c.node-node.result.now) in
    let body = body_there p names c.args.self.now i c.node-node.result.now h c.node-node.ensures.stands in
    let none = chain_none (maker_of c.body_of.result.now.outs.items x) x.distance (sym c.in-None.is ∙ c.chain_of.ensures) in
    let made : maker_of b.outs x ≡ None = ap (λ (b : TimedBody). maker_of b.outs x) (sym c.body_of.ensures) ∙ none in
    IfOk-weaker c.read_from.result _ _
    (λ a found. some_as p names d a (λ (y : Cycle). reading.read_from y x.value) (λ (y : Cycle). reading.operand p y i t x) (λ y. other_read p y i t x b body made) found)
    (c.read_from.ensures p names d h begun)
