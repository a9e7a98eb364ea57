-- The parts of a circuit, one after another.
use Rattle.std.proofs.Common.{◌≡◌, ℕ, zero, suc, ◌+◌, false, true, List, [], ◌∷◌, ◌++◌, length, map, slice_get, slice_index_or, Some, refl, sym, ap, subst, ◌∙◌}
use Rattle.rtl_core.specs.Netlist.{Netlist}
use Rattle.rtl_core.proofs.Stability.{Extends}
use Rattle.rtl_logic.specs.Making.{Appends}
use Rattle.rtl_logic.specs.Choosing.{AllWant, is_any_wanted}
use Rattle.rtl_logic.proofs.Making.{goes_on, appended}
use Rattle.ir_core.specs.AddressWords.{AreShort}
use Rattle.ir_core.specs.declared.cfg.Cfg.{Cfg}
use Rattle.ir_core.specs.declared.cfg.Memory.{Memory}
use Rattle.ir_core.specs.declared.timed.Timed.{Timed}
use Rattle.program_validity.specs.Programs.{is_consistent}
use Rattle.program_validity.proofs.Memories.{memory_valid, short_dims}
use Rattle.datapath.specs.Plans.{Plan, Array, array_of}
use Rattle.datapath.specs.Cycles.{Register, Word}
use Rattle.datapath.specs.Values.{arriving}
use Rattle.datapath.specs.CircuitWires.Carrying.{IsBegun}
use Rattle.circuit_context.specs.declared.wanted.role.Role.{Role}
use Rattle.circuit_context.specs.declared.wanted.role.Role.TheVariants as role
use Rattle.circuit_context.specs.declared.wanted.log.Push.{Push}
use Rattle.circuit_context.specs.Wanted.Roles.{named}
use Rattle.circuit_context.specs.Wanted.Entries.{Entry, all_entries, all_roles}
use Rattle.circuit_context.specs.Wanted.Logs.{ArePushes, Logs}
use Rattle.circuit_context.specs.declared.bank.bank.Bank.{Bank}
use Rattle.circuit_context.specs.Bank.Banks.{names_of}
use Rattle.circuit_context.specs.declared.context.Context.{Context}
use Rattle.circuit_context.specs.Contexts.{IsContext}
use Rattle.circuit_units.specs.declared.demands.demands.Computed.{Computed}
use Rattle.circuit_units.specs.Demands.Computed.{AreComputed}
use Rattle.circuit_units.specs.declared.units.units.UnitTable.{UnitTable}
use Rattle.circuit_units.specs.Units as units
use Rattle.circuit_units.specs.Units.{answer_of, AddsUnits, HasAnswers, registers_of}
use Rattle.circuit_units.specs.Memories.{AddsMemories, IsOther}
use Rattle.circuit_control.specs.Drives.{StandFor, IsWord, WantAsWritten, AreIdle, DrivesRegisters}
use Rattle.circuit_control.specs.Drives as drives
use Rattle.circuit_control.proofs.Driving.{driven_later}
use Rattle.fsm_datapath.specs.LoggedWrites.Wanted as logged
use Rattle.fsm_datapath.specs.LoggedWrites.{LoggedForRegisters}
use Rattle.fsm_datapath.specs.LoggedWrites.Roles.{IsOfUnit, HasRegister}
use Rattle.fsm_datapath.proofs.LoggedWrites.Roles.{from_names}
use Rattle.std.specs.List.{All, AllByRecursion}
use Rattle.std.proofs.lemmas.Option.{none-some, same_Some, slice_get-get_or}
use Rattle.std.proofs.lemmas.List.Elements.{recursion_from_All}
use Rattle.fsm_datapath.proofs.LoggedWrites.Units.{all_of_units}
use Rattle.fsm_datapath.specs.AssembledCircuits.Parts.{whole_names}
use Rattle.fsm_datapath.specs.declared.parts.Parts.{Parts}
use Rattle.fsm_datapath.specs.Making.{HasParts}
use Rattle.fsm_datapath.proofs.Growing.{some_more, some_later, signal_later, is_there, first_names, last_names, roles_same}

-- ---- what is carried goes on

pub computed_later : (p : Plan) (names : List Register) (d e : Netlist) (computed : Computed) → Extends d e → AreComputed p names d computed → AreComputed p names e computed
computed_later p names d e computed longer h = λ i k a at. some_later p names d e a (λ c. arriving p c i k) longer (h i k a at)

pub answers_later : (p : Plan) (names : List Register) (d e : Netlist) (table : UnitTable) → Extends d e → HasAnswers p names d table → HasAnswers p names e table
answers_later p names d e table longer h = λ k w at. (some_later p names d e w.first (answer_of p w.unit false) longer (h k w at).0, some_later p names d e w.second (answer_of p w.unit true) longer (h k w at).1)

-- the same program with more registers in its circuit
pub context_more : (p : Plan) (more : List Register) (of : Context) → IsContext p (names_of of.bank) of → IsContext p (names_of of.bank ++ more) of
context_more p more of h = record {
  plan = h.plan;
  more = more;
  names_ = refl;
  small = h.small;
  live_ = h.live_;
  places_ = h.places_;
  ports_ = h.ports_;
  read_ = h.read_;
}

-- what is logged behind nothing is all that is logged
pub all_pushed : (p : Plan) (names : List Register) (d e : Netlist) (old new : List Push) (entries : List Entry) → old ≡ [] → Logs p names d e old new entries → ArePushes p names e new entries
all_pushed p names d e old new entries none h = subst (λ l. ArePushes p names e l entries) (sym (h.is ∙ ap (λ l. l ++ h.more) none)) h.are

-- ---- registers of units are not those of words

other_register : (r : Register) → IsOfUnit r → IsOther r
other_register r h = λ a n e. subst IsOfUnit e h

units_other : (p : Plan) (table : UnitTable) (k : ℕ) (r : Register) → slice_get (registers_of p table) k ≡ Some r → IsOther r
units_other p table k r at = other_register r ((all_of_units p table).all r (k, at))

-- ---- all that computes

pub parts_are : (p : Plan) (bank : Bank) (d d1 d2 e : Netlist) (parts : Parts) → IsBegun p (names_of bank) d1 → Appends d d1 → AddsUnits p (names_of bank) d1 d2 parts.units
    → HasAnswers p (whole_names p bank parts.units) d2 parts.units → AddsMemories p (whole_names p bank parts.units) d2 e parts.ports → AreComputed p (names_of bank) d1 parts.computed
    → names_of bank ≡ map named (all_roles p bank.gates bank.stages) → ((a : ℕ) (array : Array) (table : List ℕ) → slice_get p.arrays a ≡ Some array → array.table ≡ Some table → AreShort array.dims)
    → HasParts p bank d e parts
parts_are p bank d d1 d2 e parts begun appends u answers m computed is short =
    let names : List Register = names_of bank in
    let more : List Register = registers_of p parts.units in
    let first : Extends d d1 = appended d d1 appends in
    record {
      extends = goes_on d d1 e first (goes_on d1 d2 e u.extends m.extends);
      begun = m.begun;
      others = λ k r at other.
          m.others k r (first_names names more k r at) other ∙ (u.registers k (is_there p names d1 k r begun at) ∙ ap (λ (n : Netlist). slice_get n.regs k) appends.is);
      outputs = m.outputs ∙ (u.outputs ∙ ap (λ (n : Netlist). n.outputs) appends.is);
      computed = λ i k a at. some_later p (names ++ more) d2 e a (λ c. arriving p c i k) m.extends (some_more p names more d1 d2 a (λ c. arriving p c i k) begun u.begun u.extends (computed i k a at));
      answers = answers_later p (names ++ more) d2 e parts.units m.extends answers;
      used = u.units;
      counts = m.counts;
      words = λ k a n at.
          let there : HasRegister p bank.gates bank.stages (Word a n) = from_names p bank.gates bank.stages (Word a n) (k, ap (λ l. slice_get l k) (sym is) ∙ at) in
          m.words k a n there.0 there.1 (first_names names more k (Word a n) at);
      units_driven = λ k r at.
          driven_later p (names ++ more) (units.signals_of parts.units) d2 e (length names + k) r m.extends
          (m.others (length names + k) r (last_names names more k ∙ at) (units_other p parts.units k r at)) (u.driven k r at);
      unit_signals = λ k x at. signal_later p (names ++ more) d2 e x m.extends (u.shown k x at);
      port_signals = m.shown;
      memories = m.memories;
      only = m.only;
      short = short;
    }

-- ---- what registers take

no_word : (r : Role) → drives.IsNoWord r → logged.IsNoWord r
no_word (role.Word array port) h = h tt
no_word r h = tt

-- what is logged for each role is what the plan writes
pub want_as_written : (p : Plan) (bank : Bank) → LoggedForRegisters → names_of bank ≡ map named (all_roles p bank.gates bank.stages)
    → WantAsWritten p bank.roles.keys (all_entries p bank.gates bank.stages)
want_as_written p bank law names = λ k r at other c.
    let same = roles_same bank.roles.keys (all_roles p bank.gates bank.stages) names in
    let is = law p bank.gates bank.stages k r c (ap (λ l. slice_get l k) (sym same) ∙ at) (no_word r other) in
    record { any = ap is_any_wanted is; all = λ y all. subst (λ ws. AllWant ws y) (sym is) all }

-- registers stay idle where wires are appended
pub idle_later : (p : Plan) (roles : List Role) (d e : Netlist) → Appends d e → AreIdle p roles d → AreIdle p roles e
idle_later p roles d e appends h = λ k r at other. ap (λ (n : Netlist). slice_get n.regs k) appends.is ∙ h k r at other

-- registers are driven behind wires that are appended
pub drives_behind : (p : Plan) (names : List Register) (roles : List Role) (d e f : Netlist) → Appends d e → DrivesRegisters p names roles e f → DrivesRegisters p names roles d f
drives_behind p names roles d e f appends h = record {
  extends = goes_on d e f (appended d e appends) h.extends;
  begun = h.begun;
  driven = h.driven;
  words = λ k r at word. h.words k r at word ∙ ap (λ (n : Netlist). slice_get n.regs k) appends.is;
  others = λ k more. h.others k more ∙ ap (λ (n : Netlist). slice_get n.regs k) appends.is;
  memories = h.memories ∙ ap (λ (n : Netlist). n.mems) appends.is;
  outputs = h.outputs ∙ ap (λ (n : Netlist). n.outputs) appends.is;
}

-- no dimension of a valid program is long
pub all_short : (cfg : Cfg Timed) → is_consistent cfg ≡ true → All (λ m. AreShort m.dims.items) cfg.frame.memories.items
all_short cfg h = λ k d inside.
    short_dims (slice_index_or cfg.frame.memories.items k d) (memory_valid cfg k (slice_index_or cfg.frame.memories.items k d) h (slice_get-get_or cfg.frame.memories.items k d inside))

-- the arrays of a plan are those of the program's memories
pub shorts_are : (memories : List Memory) (arrays : List Array) → arrays ≡ map array_of memories → All (λ m. AreShort m.dims.items) memories
    → (a : ℕ) (array : Array) (table : List ℕ) → slice_get arrays a ≡ Some array → array.table ≡ Some table → AreShort array.dims
shorts_are memories arrays is all a array table at has = by memories (recursion_from_All (λ (m : Memory). AreShort m.dims.items) memories all) a (sym (ap (λ l. slice_get l a) is) ∙ at) where
  by : (ms : List Memory) → AllByRecursion (λ m. AreShort m.dims.items) ms → (k : ℕ) → slice_get (map array_of ms) k ≡ Some array → AreShort array.dims
  by [] h k e = absurd (none-some array e)
  by (m ∷ ms) h zero e = subst (λ (x : Array). AreShort x.dims) (same_Some (array_of m) array e) h.0
  by (m ∷ ms) h (suc k) e = by ms h.1 k e
