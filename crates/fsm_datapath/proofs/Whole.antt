-- All parts of a circuit are there.
use Rattle.std.proofs.Common.{◌≡◌, ◌≤◌, ℕ, zero, suc, ◌+◌, List, [], ◌∷◌, length, map, slice_get, Some, refl, sym, ap, subst, ◌∙◌, arith}
use Rattle.std.specs.Option.{option_map}
use Rattle.std.proofs.lemmas.Option.{slice_get-map, none-some, same_Some}
use Rattle.std.proofs.lemmas.List.{length-map}
use Rattle.ir_core.specs.declared.cfg.Cfg.{Cfg}
use Rattle.ir_core.specs.declared.timed.Timed.{Timed}
use Rattle.reg_binding.specs.declared.live.Live.{Live}
use Rattle.reg_binding.specs.declared.registers.Registers.{Registers}
use Rattle.rtl_core.specs.Netlist.{Netlist}
use Rattle.rtl_core.specs.Interface.{output_pins}
use Rattle.rtl_core.proofs.Stability.{Extends}
use Rattle.rtl_core.specs.FramePins.{interface_of}
use Rattle.rtl_logic.proofs.Making.{goes_on}
use Rattle.datapath.specs.Plans.{Plan}
use Rattle.datapath.specs.Cycles.{Register, Word}
use Rattle.datapath.specs.CircuitWires.Carrying.{IsBegun}
use Rattle.circuit_context.specs.declared.wanted.role.UnitRegister.{UnitRegister}
use Rattle.circuit_context.specs.declared.wanted.role.UnitRegister.TheVariants as of_unit
use Rattle.circuit_context.specs.declared.wanted.role.Role.{Role}
use Rattle.circuit_context.specs.declared.wanted.role.Role.TheVariants as role
use Rattle.circuit_context.specs.Wanted.Roles.{named, named_of_unit}
use Rattle.circuit_context.specs.declared.bank.bank.Bank.{Bank}
use Rattle.circuit_context.specs.Bank.Banks.{names_of, IsAllotted}
use Rattle.circuit_context.specs.declared.context.Context.{Context}
use Rattle.circuit_units.specs.Units as units
use Rattle.circuit_units.specs.Units.{registers_of}
use Rattle.circuit_units.specs.Memories as ports
use Rattle.circuit_units.specs.Memories.{IsOther}
use Rattle.circuit_control.specs.Drives.{IsWord, IsNoWord, AreIdle}
use Rattle.circuit_control.proofs.Driving.{driven_later}
use Rattle.fsm_datapath.specs.AssembledCircuits.Parts.{whole_names, AreParts}
use Rattle.fsm_datapath.specs.declared.parts.Parts.{Parts}
use Rattle.fsm_datapath.specs.Making.{begun_with, plan_in, HasContext, CanCompute, HasParts, HasMoves, HasOutputs}
use Rattle.fsm_datapath.proofs.Frames.{interface_is, begun_is}
use Rattle.fsm_datapath.proofs.Growing.{signal_later, memory_later, appended_idle}

-- ---- registers of words, and others

abbrev IsNotWord : Register → Type 0
IsNotWord (Word a n) = ⊥
IsNotWord r = Unit {0}

other_by : (r : Register) → IsNotWord r → IsOther r
other_by r h = λ a n e. subst IsNotWord e h

unit_not_word : (u : UnitRegister) → IsNotWord (named_of_unit u)
unit_not_word (of_unit.Left bits n) = tt
unit_not_word (of_unit.Right bits n) = tt
unit_not_word (of_unit.Product bits n) = tt
unit_not_word (of_unit.Steps bits n) = tt
unit_not_word (of_unit.Dividend bits n) = tt
unit_not_word (of_unit.Remainder bits n) = tt
unit_not_word (of_unit.Divisor bits n) = tt
unit_not_word (of_unit.QuotientSign bits n) = tt
unit_not_word (of_unit.RemainderSign bits n) = tt

not_word : (r : Role) → IsNoWord r → IsNotWord (named r)
not_word (role.Word array port) h = absurd (h tt)
not_word (role.OfUnit u) h = unit_not_word u
not_word r h = tt

is_word : (r : Role) (a n : ℕ) → named r ≡ Word a n → IsWord r
is_word (role.Word array port) a n e = tt
is_word (role.OfUnit u) a n e = absurd (other_by (named_of_unit u) (unit_not_word u) a n e)
is_word r a n e = absurd (subst IsNotWord e tt)

-- the role of a register of the bank
role_at : (roles : List Role) (k : ℕ) (r : Register) → slice_get (map named roles) k ≡ Some r → (q : Role) × ((slice_get roles k ≡ Some q) × (named q ≡ r))
role_at [] k r at = absurd (none-some r at)
role_at (q ∷ roles) zero r at = (q, (refl, same_Some (named q) r at))
role_at (q ∷ roles) (suc k) r at = role_at roles k r at

name_at : (roles : List Role) (k : ℕ) (q : Role) → slice_get roles k ≡ Some q → slice_get (map named roles) k ≡ Some (named q)
name_at roles k q at = slice_get-map named roles k ∙ ap (option_map named) at

-- ---- from part to part

-- the registers of the bank are there, and nothing else
pub can_compute : (cfg : Cfg Timed) (live : Live) (registers : Registers) (of : Context) (name : List ℕ) (d e : Netlist) → HasContext of cfg live registers d e → d ≡ begun_with name (interface_of cfg.frame)
    → CanCompute (plan_in cfg registers of.live) of e
can_compute cfg live registers of name d e h is =
    let begun : IsBegun (plan_in cfg registers of.live) [] d = subst (IsBegun (plan_in cfg registers of.live) []) (sym is) (begun_is cfg registers of.live name) in
    let allotted = h.allotted begun in
    record {
      context = h.context begun;
      begun = allotted.appends.begun;
      names = allotted.names;
      distinct = allotted.distinct;
      none = ap (λ (n : Netlist). n.mems) allotted.appends.is ∙ ap (λ (n : Netlist). n.mems) is;
    }

-- and keep what they have, but for those of words, when all that computes is there
pub still_idle : (cfg : Cfg Timed) (live : Live) (registers : Registers) (of : Context) (name : List ℕ) (d e f : Netlist) (parts : Parts) → HasContext of cfg live registers d e → d ≡ begun_with name (interface_of cfg.frame)
    → HasParts (plan_in cfg registers of.live) of.bank e f parts → AreIdle (plan_in cfg registers of.live) of.bank.roles.keys f
still_idle cfg live registers of name d e f parts h is has =
    let p : Plan = plan_in cfg registers of.live in
    let roles : List Role = of.bank.roles.keys in
    let begun : IsBegun p [] d = subst (IsBegun p []) (sym is) (begun_is cfg registers of.live name) in
    λ k r at other.
    has.others k (named r) (name_at roles k r at) (other_by (named r) (not_word r other)) ∙ appended_idle p roles d e k r begun (h.allotted begun).appends at

-- ---- all together

pub whole_is : (cfg : Cfg Timed) (live : Live) (registers : Registers) (of : Context) (name : List ℕ) (d d1 d2 d3 e : Netlist) (parts : Parts) → HasContext of cfg live registers d d1 → d ≡ begun_with name (interface_of cfg.frame)
    → HasParts (plan_in cfg registers of.live) of.bank d1 d2 parts → HasMoves (plan_in cfg registers of.live) (whole_names (plan_in cfg registers of.live) of.bank parts.units) of.bank d2 d3
    → HasOutputs (plan_in cfg registers of.live) (whole_names (plan_in cfg registers of.live) of.bank parts.units) cfg.frame d3 e
    → AreParts (plan_in cfg registers of.live) of.bank parts.units parts.ports e
whole_is cfg live registers of name d d1 d2 d3 e parts h is has moves outs =
    let p : Plan = plan_in cfg registers of.live in
    let bank : Bank = of.bank in
    let roles : List Role = bank.roles.keys in
    let names : List Register = whole_names p bank parts.units in
    let begun : IsBegun p [] d = subst (IsBegun p []) (sym is) (begun_is cfg registers of.live name) in
    let allotted : IsAllotted p d d1 bank = h.allotted begun in
    let on : Extends d2 e = goes_on d2 d3 e moves.drives.extends outs.extends in
    let mems : e.mems ≡ d2.mems = outs.memories ∙ moves.drives.memories in
    let at_end : (k : ℕ) → slice_get e.regs k ≡ slice_get d3.regs k = λ k. ap (λ l. slice_get l k) outs.registers in
    record {
      names = allotted.names;
      distinct = allotted.distinct;
      pins = record { inputs = outs.begun.pins; outputs = outs.pins ∙ ap output_pins (sym (interface_is cfg registers of.live)) };
      begun = outs.begun;
      used = has.used;
      counts = has.counts;
      driven = λ k r at other. driven_later p names [] d3 e k (named r) outs.extends (at_end k) (moves.drives.driven k r at other);
      words = λ k a n at.
          let q = role_at roles k (Word a n) at in
          driven_later p names (ports.signals_of parts.ports) d3 e k (Word a n) outs.extends (at_end k)
          (driven_later p names (ports.signals_of parts.ports) d2 d3 k (Word a n) moves.drives.extends (moves.drives.words k q.0 q.1.0 (is_word q.0 a n q.1.1)) (has.words k a n at));
      units_driven = λ k r at.
          let behind : length roles ≤ length (names_of bank) + k = omega (arith, length-map roles named) in
          driven_later p names (units.signals_of parts.units) d3 e (length (names_of bank) + k) r outs.extends (at_end (length (names_of bank) + k))
          (driven_later p names (units.signals_of parts.units) d2 d3 (length (names_of bank) + k) r moves.drives.extends (moves.drives.others (length (names_of bank) + k) behind) (has.units_driven k r at));
      unit_signals = λ k x at. signal_later p names d2 e x on (has.unit_signals k x at);
      port_signals = λ k x at. signal_later p names d2 e x on (has.port_signals k x at);
      memories = λ a array at none. let m = has.memories a array at none in (m.0, memory_later p names (ports.signals_of parts.ports) d2 e a m.0 on mems m.1);
      only = ap length mems ∙ has.only;
      short = has.short;
      there = moves.there;
      outputs = outs.shows;
    }
