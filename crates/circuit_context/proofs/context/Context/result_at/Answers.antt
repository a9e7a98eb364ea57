use Rattle.std.proofs.Common.{List, ap, sym, subst}
use Rattle.std.proofs.lemmas.Result.{IfOk-weaker}
use Rattle.reg_binding.specs.declared.registers.Held.{Held}
use Rattle.datapath.specs.Plans.{Plan}
use Rattle.datapath.specs.Cycles.{Cycle, Value}
use Rattle.datapath.specs.Reading as reading
use Rattle.datapath.specs.Held.{IsHeldBy}
use Rattle.circuit_context.proofs.Telling.{some_as, register_some}
use Rattle.circuit_context.proofs.Chains.{place_read}
use Rattle.circuit_context.proofs.context.Context.result_at.Goals as goal

pub returns : goal.returns
returns c = λ p names d h begun.
    let r = c.in_ok-register.register in
    let i = c.args.node.0 in
    let op = c.args.op.0 in
    let j = c.args.place in
    let rows : List Held = c.args.self.now.registers.now.held.items in
    let held : IsHeldBy p.held i op j r = subst (λ l. IsHeldBy l i op j r) (sym (ap (λ (q : Plan). q.held) h.plan)) (c.in_ok-register.ensures rows h.places_) in
    IfOk-weaker c.register-2.result _ _
    (λ a is. some_as p names d a (λ (x : Cycle). x.regs (Value r)) (λ (x : Cycle). reading.result_at p x i op j) (λ x. place_read p x i op j r held) (register_some p names d a (Value r) begun is))
    (c.register-2.ensures p names h)
