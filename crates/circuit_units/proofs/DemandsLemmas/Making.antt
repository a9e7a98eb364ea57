-- Arguments that are read, and the wires that are made of them.
use Rattle.std.proofs.Common.{◌≡◌, ◌≤◌, ℕ, List, [], ◌∷◌, map, Option, Some, None, sym, ap, ◌∙◌, subst}
use Rattle.std.specs.Prelude.{get_or}
use Rattle.std.proofs.lemmas.Option.{none-some, same_Some}
use Rattle.ir_core.specs.declared.body.OpKind.TheVariants as o
use Rattle.ir_core.specs.declared.body.Operand.{Operand}
use Rattle.ir_core.specs.Timing.{result_bits}
use Rattle.ir_core.specs.Value.{value, value_at}
use Rattle.rtl_core.specs.declared.design.Atom.{Atom}
use Rattle.rtl_core.specs.Netlist.{Netlist}
use Rattle.rtl_core.specs.ClockStep.{widths, bits_of, seen}
use Rattle.rtl_core.proofs.Fits.{width_is}
use Rattle.rtl_logic.specs.Making.{Appends, Makes}
use Rattle.rtl_logic.proofs.Making.{appends_none}
use Rattle.ir_core.specs.Bodies.{op_of, first_bits}
use Rattle.clock_ir.specs.Flows.{TimedOp}
use Rattle.datapath.specs.Plans.{Plan, body_at}
use Rattle.datapath.specs.Cycles.{Register, Cycle, in_cycle}
use Rattle.datapath.specs.Reading.{operand, arguments}
use Rattle.datapath.specs.Values.{computed, arriving_as}
use Rattle.datapath.specs.CircuitWires.Carrying.{IsBegun, Carries, MakesCarrying}
use Rattle.datapath.proofs.Combining.{made_carries}
use Rattle.circuit_context.specs.Wanted.Logs.{CarriesSome}
use Rattle.circuit_context.specs.declared.context.Context.{Context}
use Rattle.circuit_context.specs.Contexts.{IsContext}
use Rattle.rtl_logic.specs.Arguments.{missing, constant_bits, IsTakenFrom}
use Rattle.rtl_logic.specs.declared.operations.Arguments.{Arguments}
use Rattle.circuit_units.specs.declared.demands.started.Started.{Started}
use Rattle.circuit_units.specs.Demands.Placing.{placed_as, IsStarted, trees, argument_of, width_before, FirstFits, CarriesWord, IsFirst, AreRead, HasWire}
use Rattle.circuit_units.specs.Demands.Collected.{IsWireOf}
use Rattle.circuit_units.proofs.DemandsLemmas.Reading.{carried_as, argument_is, argument_carries, node_trees}
use Rattle.circuit_units.proofs.DemandsLemmas.Owning.{first_fits, wire_arrives}

-- ---- the first argument

-- the width from which an operation widens, by the program's variables
pub width_of_plan : (p : Plan) (names : List Register) (of : Context) (it : Started) → IsContext p names of → first_bits of.cfg.now.frame.variables.items (trees it.ops.now) (op_of it.op.now) it.op.now.args.items ≡ width_before p it
width_of_plan p names of it h = sym (ap (λ (q : Plan). first_bits q.program.shapes.widths (trees it.ops.now) (op_of it.op.now) it.op.now.args.items) h.plan)

pub widened_first : (p : Plan) (names : List Register) (d : Netlist) (it : Started) (a : Atom) (width from : ℕ) → CarriesWord p names d a (argument_of p it 0) → it.op.now.kind ≡ o.Widen
    → width ≡ bits_of (widths d) a → from ≡ width_before p it → IsTakenFrom it.op.now.bits width from → IsFirst p names d it a
widened_first p names d it a width from h kind wide is taken =
    let same : width ≡ h.bits = wide ∙ width_is (widths d) h.bits a h.carries.fits in
    let bits = it.op.now.bits in
    let own : IsTakenFrom bits h.bits (width_before p it) = subst (λ n. IsTakenFrom bits n (width_before p it)) same (subst (λ n. IsTakenFrom bits width n) is taken) in
    record {
      carries = record { bits = h.bits; carries = h.carries };
      fits = subst (λ k. FirstFits (widths d) k bits (width_before p it) a) (sym kind) (h.bits, h.carries.fits, h.between, own);
    }

pub narrow_first : (p : Plan) (names : List Register) (d : Netlist) (it : Started) (a : Atom) → CarriesWord p names d a (argument_of p it 0) → it.op.now.kind ≡ o.Narrow → IsFirst p names d it a
narrow_first p names d it a h kind = record {
  carries = record { bits = h.bits; carries = h.carries };
  fits = subst (λ k. FirstFits (widths d) k it.op.now.bits (width_before p it) a) (sym kind) (h.bits, h.carries.fits, h.between);
}

pub other_first : (p : Plan) (names : List Register) (d : Netlist) (it : Started) (a : Atom) (bits : ℕ) → (it.op.now.kind ≡ o.Widen → ⊥) → (it.op.now.kind ≡ o.Narrow → ⊥)
    → bits ≡ constant_bits it.op.now.kind it.op.now.bits 0 → Carries p names d bits a (argument_of p it 0) → IsFirst p names d it a
other_first p names d it a bits widen narrow is h = record {
  carries = record { bits = bits; carries = h };
  fits = first_fits (widths d) it.op.now.kind it.op.now.bits (width_before p it) a widen narrow (subst (λ n. Carries p names d n a (argument_of p it 0)) is h).fits;
}

-- an argument of some width from 1 to 64
pub word_read : (p : Plan) (names : List Register) (d : Netlist) (it : Started) (x : Operand) (a : Atom) (width : ℕ) → x ≡ get_or it.op.now.args.items 0 missing
    → CarriesSome p names d a (λ (c : Cycle). operand p c it.at.node.0 it.at.time x) → width ≡ bits_of (widths d) a → 1 ≤ width → width ≤ 64 → CarriesWord p names d a (argument_of p it 0)
word_read p names d it x a width is h wide low high =
    let same : width ≡ h.bits = wide ∙ width_is (widths d) h.bits a h.carries.fits in
    record { bits = h.bits; between = (subst (λ n. 1 ≤ n) same low, subst (λ n. n ≤ 64) same high); carries = argument_carries p names d h.bits 0 it x a is h.carries }

-- ---- results

-- the wire of an operation carries its result
pub result_made : (p : Plan) (names : List Register) (d e : Netlist) (it : Started) (of : Arguments) (a : Atom) → IsBegun p names d → IsStarted p it → AreRead p names d it of
    → Makes d e (result_bits it.op.now.kind it.op.now.bits) a (λ v x. x ≡ value it.op.now.kind it.op.now.signed it.op.now.bits (width_before p it) (v of.first ∷ v of.second ∷ v of.third ∷ []))
    → MakesCarrying p names d e (result_bits it.op.now.kind it.op.now.bits) a (λ (c : Cycle). computed p c (placed_as it))
result_made p names d e it of a begun there read made =
    let k = it.op.now.kind in
    let signed = it.op.now.signed in
    let bits = it.op.now.bits in
    let from = width_before p it in
    let same : from ≡ first_bits p.program.shapes.widths (map (λ (t : TimedOp). t.op) (body_at p it.at.node.0).ops) (op_of it.op.now) it.op.now.args.items =
    ap (λ ops. first_bits p.program.shapes.widths ops (op_of it.op.now) it.op.now.args.items) (sym (node_trees p it there)) in
    made_carries p names d e (result_bits k bits) a (λ v x. x ≡ value k signed bits from (v of.first ∷ v of.second ∷ v of.third ∷ [])) (λ (c : Cycle). computed p c (placed_as it)) begun made
    (λ f s pins x signals m is.
    let c : Cycle = in_cycle x signals pins in
    let first : seen f s pins of.first ≡ get_or (arguments p c (placed_as it)) 0 0 = read.first.carries.carries.value_ f s pins x signals m ∙ argument_is p it 0 c in
    let second : seen f s pins of.second ≡ get_or (arguments p c (placed_as it)) 1 0 = read.second.value_ f s pins x signals m ∙ argument_is p it 1 c in
    let third : seen f s pins of.third ≡ get_or (arguments p c (placed_as it)) 2 0 = read.third.value_ f s pins x signals m ∙ argument_is p it 2 c in
    is ∙ (ap (λ n. value_at k signed bits from n (seen f s pins of.second) (seen f s pins of.third)) first
    ∙ (ap (λ n. value_at k signed bits from (get_or (arguments p c (placed_as it)) 0 0) n (seen f s pins of.third)) second
    ∙ (ap (value_at k signed bits from (get_or (arguments p c (placed_as it)) 0 0) (get_or (arguments p c (placed_as it)) 1 0)) third
    ∙ ap (λ n. value_at k signed bits n (get_or (arguments p c (placed_as it)) 0 0) (get_or (arguments p c (placed_as it)) 1 0) (get_or (arguments p c (placed_as it)) 2 0)) same))))

abbrev pub HasMade : Plan → List Register → Netlist → Netlist → Started → Option Atom → Type 0
HasMade p names d e it wire = Appends d e × IsBegun p names e × IsWireOf p names e it wire

pub no_wire : (p : Plan) (names : List Register) (d : Netlist) (it : Started) → IsBegun p names d → HasMade p names d d it None
no_wire p names d it begun = (appends_none d, begun, λ a is. absurd (none-some a is))

pub one_wire : (p : Plan) (names : List Register) (d e : Netlist) (bits : ℕ) (it : Started) (a : Atom) → HasWire it.op.now.kind → MakesCarrying p names d e bits a (λ (c : Cycle). computed p c (placed_as it))
    → HasMade p names d e it (Some a)
one_wire p names d e bits it a has made =
    let carries = carried_as p names e bits a (λ c. computed p c (placed_as it)) (λ c. arriving_as it.op.now.kind p c (placed_as it)) (λ c. wire_arrives it.op.now.kind has p c (placed_as it)) made.carries in
    (made.appends, made.begun, λ b is. subst (λ x. CarriesSome p names e x (λ c. arriving_as it.op.now.kind p c (placed_as it))) (same_Some a b is) (record { bits = bits; carries = carries }))
