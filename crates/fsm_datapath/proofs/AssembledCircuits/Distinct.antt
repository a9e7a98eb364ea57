-- The registers of a bank and those of units are distinct.
use Rattle.std.proofs.Common.{◌≡◌, ℕ, Bool, true, false, List, ◌∷◌, map, Some, refl, sym, ap, ◌∙◌, subst}
use Rattle.reg_binding.specs.Pools.{Has}
use Rattle.datapath.specs.Plans.{Plan}
use Rattle.datapath.specs.Cycles as c
use Rattle.datapath.specs.Cycles.{Register}
use Rattle.datapath.specs.Units.{has_signs}
use Rattle.circuit_context.specs.declared.wanted.role.UnitKind.{UnitKind}
use Rattle.circuit_context.specs.declared.wanted.role.UnitKind.TheVariants as kind
use Rattle.circuit_context.specs.declared.wanted.role.SharedUnit.{SharedUnit}
use Rattle.circuit_context.specs.Wanted.Roles.{named}
use Rattle.circuit_context.specs.Wanted.Entries.{all_roles}
use Rattle.circuit_context.specs.Wanted.Driving.{AreDistinct}
use Rattle.circuit_context.specs.declared.bank.bank.Bank.{Bank}
use Rattle.circuit_context.specs.Bank.Banks.{names_of}
use Rattle.circuit_units.specs.declared.units.units.UnitTable.{UnitTable}
use Rattle.circuit_units.specs.declared.units.units.UnitWires.{UnitWires}
use Rattle.circuit_units.specs.Units.{AreUnitsOf, sign_registers, registers_as, unit_registers, registers_of}
use Rattle.fsm_datapath.specs.LoggedWrites.Roles.{HasRegister, IsOfUnit}
use Rattle.fsm_datapath.proofs.LoggedWrites.Members.{Each, each_none, each_more}
use Rattle.fsm_datapath.proofs.LoggedWrites.Roles.{from_names}
use Rattle.fsm_datapath.proofs.LoggedWrites.Units.{all_of_units}
use Rattle.fsm_datapath.specs.AssembledCircuits.Parts.{whole_names}
use Rattle.fsm_datapath.proofs.AssembledCircuits.Lists.{Once, once_none, once_next, once_both, once_flat, get_map}

abbrev pub unit_as : UnitKind → ℕ → ℕ → SharedUnit
unit_as k bits n = record { kind = k; bits = bits; number = n }

-- the unit of a register, if it is of one
abbrev owner : Register → SharedUnit
owner (c.Left bits n) = unit_as kind.Multiplier bits n
owner (c.Right bits n) = unit_as kind.Multiplier bits n
owner (c.Product bits n) = unit_as kind.Multiplier bits n
owner (c.Steps bits n) = unit_as kind.Divider bits n
owner (c.Dividend bits n) = unit_as kind.Divider bits n
owner (c.Remainder bits n) = unit_as kind.Divider bits n
owner (c.Divisor bits n) = unit_as kind.Divider bits n
owner (c.QuotientSign bits n) = unit_as kind.Divider bits n
owner (c.RemainderSign bits n) = unit_as kind.Divider bits n
owner r = unit_as kind.Multiplier 0 0

signs_owned : (b : Bool) (bits n : ℕ) → Each (λ (r : Register). owner r ≡ unit_as kind.Divider bits n) (sign_registers b bits n)
signs_owned true bits n = each_more refl (each_more refl each_none)
signs_owned false bits n = each_none

owned : (p : Plan) (k : UnitKind) (bits n : ℕ) → Each (λ (r : Register). owner r ≡ unit_as k bits n) (registers_as p k bits n)
owned p kind.Multiplier bits n = each_more refl (each_more refl (each_more refl each_none))
owned p kind.Divider bits n = each_more refl (each_more refl (each_more refl (each_more refl (signs_owned (has_signs p bits n) bits n))))

abbrev AreOnce : List Register → Type 0
AreOnce = Once (λ (r : Register). r)

divider_once : (b : Bool) (bits n : ℕ) → AreOnce (c.Steps bits n ∷ c.Dividend bits n ∷ c.Remainder bits n ∷ c.Divisor bits n ∷ sign_registers b bits n)
divider_once true bits n =
    once_next (each_more (λ e. cc) (each_more (λ e. cc) (each_more (λ e. cc) (each_more (λ e. cc) (each_more (λ e. cc) each_none)))))
    (once_next (each_more (λ e. cc) (each_more (λ e. cc) (each_more (λ e. cc) (each_more (λ e. cc) each_none))))
    (once_next (each_more (λ e. cc) (each_more (λ e. cc) (each_more (λ e. cc) each_none)))
    (once_next (each_more (λ e. cc) (each_more (λ e. cc) each_none)) (once_next (each_more (λ e. cc) each_none) (once_next each_none once_none)))))
divider_once false bits n =
    once_next (each_more (λ e. cc) (each_more (λ e. cc) (each_more (λ e. cc) each_none)))
    (once_next (each_more (λ e. cc) (each_more (λ e. cc) each_none)) (once_next (each_more (λ e. cc) each_none) (once_next each_none once_none)))

unit_once : (p : Plan) (k : UnitKind) (bits n : ℕ) → AreOnce (registers_as p k bits n)
unit_once p kind.Multiplier bits n = once_next (each_more (λ e. cc) (each_more (λ e. cc) each_none)) (once_next (each_more (λ e. cc) each_none) (once_next each_none once_none))
unit_once p kind.Divider bits n = divider_once (has_signs p bits n) bits n

-- each unit stands once
pub units_once : (p : Plan) (table : UnitTable) → AreUnitsOf p (map (λ (w : UnitWires). w.unit) table.wires.items) → Once (λ (w : UnitWires). w.unit) table.wires.items
units_once p table are = record {
  once = λ j k w v at_w at_v same.
      are.once j k w.unit (get_map (λ (w : UnitWires). w.unit) table.wires.items j w at_w)
      (get_map (λ (w : UnitWires). w.unit) table.wires.items k v at_v ∙ ap (λ (unit : SharedUnit). Some unit) (sym same));
}

registers_once : (p : Plan) (table : UnitTable) → AreUnitsOf p (map (λ (w : UnitWires). w.unit) table.wires.items) → AreOnce (registers_of p table)
registers_once p table are =
    once_flat (λ (w : UnitWires). unit_registers p w.unit) (λ (r : Register). r) (λ (w : UnitWires). w.unit) table.wires.items (units_once p table are)
    (λ w has. unit_once p w.unit.kind w.unit.bits w.unit.number)
    (λ w v r q has_r has_q same.
    sym ((owned p w.unit.kind w.unit.bits w.unit.number).all r has_r) ∙ (ap owner same ∙ (owned p v.unit.kind v.unit.bits v.unit.number).all q has_q))

-- a register of the bank is not of a unit
kinds_apart : (p : Plan) (gates stages : ℕ) (r : Register) → HasRegister p gates stages r → IsOfUnit r → ⊥
kinds_apart p gates stages (c.Left bits n) h of = h
kinds_apart p gates stages (c.Right bits n) h of = h
kinds_apart p gates stages (c.Product bits n) h of = h
kinds_apart p gates stages (c.Steps bits n) h of = h
kinds_apart p gates stages (c.Dividend bits n) h of = h
kinds_apart p gates stages (c.Remainder bits n) h of = h
kinds_apart p gates stages (c.Divisor bits n) h of = h
kinds_apart p gates stages (c.QuotientSign bits n) h of = h
kinds_apart p gates stages (c.RemainderSign bits n) h of = h
kinds_apart p gates stages r h of = absurd of

pub whole_distinct : (p : Plan) (bank : Bank) (table : UnitTable) → names_of bank ≡ map named (all_roles p bank.gates bank.stages) → AreDistinct (names_of bank)
    → AreUnitsOf p (map (λ (w : UnitWires). w.unit) table.wires.items) → AreDistinct (whole_names p bank table)
whole_distinct p bank table names distinct are j k r at_j at_k = both.once j k r r at_j at_k refl
  where
    apart : (r q : Register) → Has (names_of bank) r → Has (registers_of p table) q → r ≡ q → ⊥
    apart r q has_r has_q same =
        kinds_apart p bank.gates bank.stages r (from_names p bank.gates bank.stages r (subst (λ (l : List Register). Has l r) names has_r))
        (subst IsOfUnit (sym same) ((all_of_units p table).all q has_q))

    of_bank : AreOnce (names_of bank)
    of_bank = record { once = λ j k r q at_r at_q same. distinct j k r at_r (at_q ∙ ap (λ (x : Register). Some x) (sym same)) }

    both : AreOnce (whole_names p bank table)
    both = once_both (λ (r : Register). r) (names_of bank) (registers_of p table) of_bank (registers_once p table are) apart
