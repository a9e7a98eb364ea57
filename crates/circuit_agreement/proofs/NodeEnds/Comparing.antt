-- Comparisons that were made hold on while their block goes on.
use Rattle.std.proofs.Common.{◌≡◌, ℕ, suc, ◌-◌, ◌<◌, ◌≤◌, map, Some, inl, inr, refl, sym, ap, ◌∙◌, subst, arith}
use Rattle.std.specs.Prelude.{slice_get}
use Rattle.std.proofs.lemmas.Bool.{cases_eq}
use Rattle.ir_core.specs.declared.body.OpKind.{OpKind}
use Rattle.ir_core.specs.declared.body.OpKind.TheVariants as o
use Rattle.ir_core.specs.declared.cfg.End.{End}
use Rattle.ir_core.specs.Value.{value}
use Rattle.ir_core.specs.Bodies.{Shapes, Words, first_bits}
use Rattle.clock_ir.specs.Flows.{TimedOp, TimedBody, Flow, latency, pushed, operand_at, given, first_flow}
use Rattle.clock_ir.specs.ClockRuns.{block}
use Rattle.datapath.specs.Plans.{Plan, body_at}
use Rattle.datapath.specs.Blocks.{IsSimple}
use Rattle.datapath.proofs.Simple.{one_cycle, performs}
use Rattle.datapath.proofs.BlockSteps.{same_map}
use Rattle.circuit_agreement.specs.CircuitFlow.Compiled.{IsCompiled}
use Rattle.circuit_agreement.proofs.Nodes.{positive}
use Rattle.circuit_agreement.specs.CircuitFlow.NodeEnds.Ends.{flow_behind, HoldsComparisons}
use Rattle.circuit_agreement.specs.CircuitFlow.NodeEnds.{ComparisonsBegin, ComparisonsStay}
use Rattle.circuit_agreement.proofs.NodeEnds.Blocks.{IsThere, BlockReads, block_reads}
use Rattle.circuit_agreement.proofs.NodeEnds.Reading.{reads, time_behind, chain_comes, chain_stays, found_behind}

-- ---- what a comparison gives

pub simple_eq : (kind : OpKind) → kind ≡ o.Eq → IsSimple kind
simple_eq kind e = subst IsSimple (sym e) tt

pub given_is : (shapes : Shapes) (b : TimedBody) (f : Flow) (it : TimedOp) → IsSimple it.op.kind
    → given shapes b f it ≡ value it.op.kind it.op.signed it.op.bits (first_bits shapes.widths (map (λ (q : TimedOp). q.op) b.ops) it.op it.op.args) (map (operand_at b f it.start) it.op.args)
given_is shapes b f it simple = performs it.op.kind shapes it.op _ _ _ _ simple

-- ---- begin

first_time : (b : TimedBody) (t : Words) → (first_flow b t).time ≡ 0
unfolding first_flow
first_time b t = refl

pub comparisons_begin : ComparisonsBegin
comparisons_begin p i body end_ t at_ k it is kind before = absurd (let none = first_time (body_at p i) t in omega (arith, before, none))

-- ---- one cycle on

module _ (p : Plan) (compiled : IsCompiled p) (i : ℕ) (body : TimedBody) (end_ : End) (at_ : slice_get p.program.nodes i ≡ Some (block body end_)) (f : Flow) (within : f.time < (body_at p i).interval) where
  abbrev b : TimedBody
  b = body_at p i

  some : 1 ≤ b.interval
  some = (positive p i (block body end_) compiled at_).0

  facts : BlockReads b end_
  facts = block_reads p compiled i body end_ at_

  -- operands that are there stay the same
  same_args : (k : ℕ) (it : TimedOp) → slice_get b.ops k ≡ Some it → it.start ≤ f.time → map (operand_at b (flow_behind p i f) it.start) it.op.args ≡ map (operand_at b f it.start) it.op.args
  same_args k it is before =
      let early : it.start < b.interval = facts.early k it is in
      same_map _ _ it.op.args (λ n x e.
      let there : IsThere b it.start x = facts.args k n it x is e in
      reads b some (flow_behind p i f) it.start x (omega (arith, early)) there
      ∙ (found_behind p.program.shapes b f within it.start x there before ∙ sym (reads b some f it.start x (omega (arith, early)) there)))

  same_given : (k : ℕ) (it : TimedOp) → slice_get b.ops k ≡ Some it → IsSimple it.op.kind → it.start ≤ f.time → given p.program.shapes b f it ≡ given p.program.shapes b (flow_behind p i f) it
  same_given k it is simple before =
      given_is p.program.shapes b f it simple
      ∙ (ap (value it.op.kind it.op.signed it.op.bits (first_bits p.program.shapes.widths (map (λ (q : TimedOp). q.op) b.ops) it.op it.op.args)) (sym (same_args k it is before))
      ∙ sym (given_is p.program.shapes b (flow_behind p i f) it simple))

  pub hold_on : HoldsComparisons p i f → HoldsComparisons p i (flow_behind p i f)
  hold_on h k it is kind before =
      let now : (flow_behind p i f).time ≡ suc f.time = time_behind p.program.shapes b f in
      let simple : IsSimple it.op.kind = simple_eq it.op.kind kind in
      let one : latency it ≡ 1 = one_cycle it.op.kind it.op.bits simple in
      let started : it.start ≤ f.time = omega (arith, before, now) in
      elim (cases_eq it.start f.time) [
        | inl this ↦
            chain_comes p.program.shapes b f within k it is (omega (arith, this, one))
            ∙ (ap (λ n. pushed (given p.program.shapes b f it) (f.under_way k) (n - 1)) one ∙ same_given k it is simple started)
        | inr other ↦
            chain_stays p.program.shapes b f within k it is (omega (arith, started, other, one))
            ∙ (h k it is kind (omega (arith, started, other)) ∙ same_given k it is simple started)
      ]

pub comparisons_stay : ComparisonsStay
comparisons_stay p i body end_ f compiled at_ more h = hold_on p compiled i body end_ at_ f (omega (arith, more)) h
