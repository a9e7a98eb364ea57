use Rattle.std.proofs.Common.{◌≡◌, ◌<◌, ◌≤◌, ◌-◌, length, sym, subst, arith}
use Rattle.std.proofs.lemmas.Result.{IfOk-weaker}
use Rattle.hls_base.specs.declared.number.NodeId.{NodeId}
use Rattle.clock_ir.specs.Flows.{ready}
use Rattle.rtl_logic.specs.Making.{circuit}
use Rattle.datapath.specs.Plans.{body_at, span}
use Rattle.datapath.specs.Cycles.{Cycle}
use Rattle.datapath.specs.Reading.{operand}
use Rattle.datapath.specs.Values.{arriving, last_value}
use Rattle.fsm_datapath.proofs.Arriving.{just_there, there_before, no_result}
use Rattle.fsm_datapath.proofs.Pushing.{some_as}
use Rattle.fsm_datapath.proofs.Standing.{read_at}
use Rattle.fsm_datapath.proofs.Outs.{out_inside, out_made}
use Rattle.fsm_datapath.proofs.ends.last_value.Goals as goal
use Rattle.fsm_datapath.proofs.ends.last_value.Goals.{in-Result+else-there_at-at, in_default}

pub returns-then-there_at-at : goal.returns-then-there_at-at
returns-then-there_at-at c = λ p names h begun computed answers.
    let i = c.args.node.0 in
    let d = circuit c.args.logic.now in
    let late : span p i - 1 < ready (body_at p i) c.in-Result.op = omega (arith, c.last_cycle-at.ensures.time p names h, c.there_at.ensures.ready p names h, c.if-there_at-at.true) in
    IfOk-weaker c.arriving.result _ _
    (λ a carries. some_as p names d a (λ (x : Cycle). arriving p x i c.in-Result.op.0) (λ (x : Cycle). last_value p x i c.args.out.value c.args.out.value.value)
    (just_there p i c.args.out.value c.args.out.value.value c.in-Result.op c.in-Result.is late) carries) (c.arriving.ensures p names d h begun computed answers)

pub returns : goal.returns
returns c = λ p names h begun computed answers.
    let i = c.args.node.0 in
    let d = circuit c.args.logic.now in
    let v = c.args.out.value in
    let same : (x : Cycle) → operand p x i (span p i - 1) v ≡ last_value p x i v v.value =
    elim c.match-out.branch [
      | in-Result+else-there_at-at w ↦
          let early : ready (body_at p i) w.in-Result.op ≤ span p i - 1 = omega (arith, c.last_cycle-at.ensures.time p names h, w.there_at.ensures.ready p names h, w.if-there_at-at.false) in
          there_before p i v v.value w.in-Result.op w.in-Result.is early
      | in_default w ↦ no_result p i v v.value w.in_default.not-Result
    ] in
    IfOk-weaker c.operand.result _ _
    (λ a carries. record { bits = c.in_ok-bits.bits; carries = read_at p names d c.in_ok-bits.bits a c.last_cycle-at.result c.args.node v (λ (x : Cycle). last_value p x i v v.value) c.last_cycle-at.ensures.node (c.last_cycle-at.ensures.time p names h) same carries })
    (c.operand.ensures p names h begun)

pub last_cycle-at-requires : goal.last_cycle-at-requires
last_cycle-at-requires c = out_inside c.args.of.now c.args.node.0 c.args.out c.requires

pub there_at-requires : goal.there_at-requires
there_at-requires c = out_inside c.args.of.now c.args.node.0 c.args.out c.requires

pub operand-requires : goal.operand-requires
operand-requires c = subst (λ (i : NodeId). i.0 < length c.args.of.now.cfg.now.nodes.items) (sym c.last_cycle-at.ensures.node) (out_inside c.args.of.now c.args.node.0 c.args.out c.requires)

pub arriving-requires : goal.arriving-requires
arriving-requires c = out_made c.args.of.now c.args.node.0 c.args.out c.in-Result.op c.requires c.in-Result.is
