-- A multiplier takes the factors of the operation that starts.
use Rattle.std.proofs.Common.{◌≡◌, ℕ, ◌*◌, ◌%◌, ◌^◌, ◌<◌, ◌≤◌, true, List, map, Some, None, refl, sym, ap, ap₂, ◌∙◌, subst, arith}
use Rattle.std.specs.Prelude.{slice_get, get_or}
use Rattle.std.proofs.lemmas.Bool.{eq-eqb}
use Rattle.ir_core.specs.declared.body.OpKind.{OpKind}
use Rattle.ir_core.specs.declared.body.OpKind.TheVariants as o
use Rattle.ir_core.specs.declared.timing.UnitClass.{UnitClass}
use Rattle.ir_core.specs.declared.timing.UnitClass.TheVariants as u
use Rattle.ir_core.specs.Timing.{occupancy}
use Rattle.ir_core.specs.Value.{count_of}
use Rattle.ir_core.specs.Bodies.{effect, first_bits}
use Rattle.clock_ir.specs.Flows.{TimedOp, Flow, is_at, operand_at, holds_at, given}
use Rattle.datapath.specs.Plans.{Plan, Placed, body_at, unit_of}
use Rattle.datapath.specs.Cycles.{Left, Right, LeftOf, RightOf, Contents, Signal, Cycle, in_cycle}
use Rattle.datapath.specs.Reading.{arguments}
use Rattle.datapath.specs.Units.{is_of_class}
use Rattle.datapath.specs.Circuits.{IsCycle, IsAfter}
use Rattle.circuit_agreement.specs.UnitResults.UnderWay.{placed_at}
use Rattle.circuit_agreement.proofs.UnitResults.Signs.{count_is}
use Rattle.circuit_agreement.proofs.UnitResults.Turns.{occupied}
use Rattle.circuit_agreement.proofs.UnitResults.Cycles.{Going, reads_arguments, is_given}

module _ (p : Plan) (i : ℕ) (f : Flow) (x y : Contents) (signals : Signal → ℕ) (pins : List ℕ) (g : Going p i f x signals pins) (is_cycle : IsCycle p (in_cycle x signals pins))
    (after : IsAfter p (in_cycle x signals pins) y) (k : ℕ) (it : TimedOp) (is : slice_get (body_at p i).ops k ≡ Some it) (mul : it.op.kind ≡ o.Mul) where
  abbrev c : Cycle
  c = in_cycle x signals pins

  abbrev bits : ℕ
  bits = it.op.bits

  abbrev class : UnitClass
  class = u.Multiplier it.op.bits

  abbrev unit_ : ℕ
  unit_ = unit_of p (placed_at i k it)

  of : is_of_class class it.op.kind it.op.bits ≡ true
  of = ap (λ (kind : OpKind). is_of_class class kind it.op.bits) mul ∙ eq-eqb it.op.bits it.op.bits refl

  early : 0 < occupied it
  early = subst (λ (n : ℕ). 0 < n) (sym (ap (λ (kind : OpKind). occupancy kind it.op.bits) mul)) (omega arith)

  abbrev argument : ℕ → ℕ
  argument j = get_or (map (operand_at (body_at p i) f it.start) it.op.args) j 0

  taken : is_at (body_at p i).interval it.start f.time ≡ true → (j : ℕ) → get_or (arguments p c (placed_at i k it)) j 0 ≡ argument j
  taken now j = ap (λ (l : List ℕ). get_or l j 0) (reads_arguments p i f c k it g.sees is now)

  left : is_at (body_at p i).interval it.start f.time ≡ true → y.regs (Left bits unit_) ≡ argument 0
  left now =
      (after.regs (Left bits unit_)).wanted (signals (LeftOf class unit_)) refl ((λ e. refl), _)
      ∙ (is_given p i f x signals pins g k it is class of (λ (q : Placed). get_or (arguments p c q) 0 0) None (signals (LeftOf class unit_)) now early (is_cycle (LeftOf class unit_)) ∙ taken now 0)

  right : is_at (body_at p i).interval it.start f.time ≡ true → y.regs (Right bits unit_) ≡ argument 1
  right now =
      (after.regs (Right bits unit_)).wanted (signals (RightOf class unit_)) refl ((λ e. refl), _)
      ∙ (is_given p i f x signals pins g k it is class of (λ (q : Placed). get_or (arguments p c q) 1 0) None (signals (RightOf class unit_)) now early (is_cycle (RightOf class unit_)) ∙ taken now 1)

  pub factors_taken : it.op.bits ≤ 64 → is_at (body_at p i).interval it.start f.time ≡ true
      → (y.regs (Left bits unit_) * y.regs (Right bits unit_)) % 2 ^ bits ≡ given p.program.shapes (body_at p i) f it
  factors_taken few now =
      let args : List ℕ = map (operand_at (body_at p i) f it.start) it.op.args in
      let from : ℕ = first_bits p.program.shapes.widths (map (λ (q : TimedOp). q.op) (body_at p i).ops) it.op it.op.args in
      let gives : given p.program.shapes (body_at p i) f it ≡ (argument 0 * argument 1) % count_of bits =
      ap (λ (kind : OpKind). (effect p.program.shapes it.op kind (holds_at (body_at p i) f it.start it.op.guard) from args (record { variables = f.entry; memories = f.memories })).result) mul in
      ap₂ (λ (a b : ℕ). (a * b) % 2 ^ bits) (left now) (right now) ∙ (ap (λ (m : ℕ). (argument 0 * argument 1) % m) (sym (count_is bits few)) ∙ sym gives)
