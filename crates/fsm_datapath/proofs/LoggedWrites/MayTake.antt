-- Registers that a circuit leaves out may take something of their width.
use Rattle.std.proofs.Common.{◌≡◌, ℕ, zero, suc, ◌+◌, ◌-◌, ◌^◌, ◌<◌, ◌==◌, not, Bool, true, false, List, map, refl, sym, ◌∙◌, subst, true≢false, mod-lt, pow_pos, arith}
use Rattle.std.proofs.lemmas.Bool.{eq-eqb, not_from_true}
use Rattle.rtl_core.specs.Netlist.{Netlist}
use Rattle.rtl_core.specs.ClockStep.{State}
use Rattle.rtl_core.specs.Interface.{select_of}
use Rattle.clock_ir.specs.ClockRuns.{TimedNode, block, overlapped}
use Rattle.ir_core.specs.declared.timing.UnitClass.TheVariants as u
use Rattle.reg_binding.specs.Pools.{Has}
use Rattle.rtl_logic.specs.Choosing.{where_}
use Rattle.datapath.specs.Plans.{Plan, numbered}
use Rattle.datapath.specs.Cycles as reg
use Rattle.datapath.specs.Cycles.{Register, Contents, Signal, Cycle, in_cycle, holds, resets, bit}
use Rattle.datapath.specs.Control.{time_bits, wait_bits, next_ready, next_done, next_initial, next_active, next_load, gate_write, gate_writes, is_loading, is_any_tested}
use Rattle.datapath.specs.Units.{is_dividing, left_negative, borrows, trial, difference, next_dividend, next_remainder}
use Rattle.datapath.specs.Circuits.{named_bits, width, register_writes}
use Rattle.datapath.specs.CircuitWires.Carrying.{IsMoment}
use Rattle.circuit_context.specs.declared.wanted.role.UnitKind.TheVariants as kind
use Rattle.circuit_context.specs.Wanted.Roles.{named}
use Rattle.circuit_context.specs.Wanted.Entries.{all_roles}
use Rattle.circuit_context.specs.Wanted.Driving.{IsUnnamed, HaveElse, MayTake}
use Rattle.circuit_units.specs.declared.units.units.UnitTable.{UnitTable}
use Rattle.circuit_units.specs.Units.{registers_of, registers_as}
use Rattle.circuit_units.specs.declared.memories.memories.PortTable.{PortTable}
use Rattle.fsm_datapath.specs.LoggedWrites.Roles.{IsOfValue, AreAllThere, names_with}
use Rattle.fsm_datapath.specs.LoggedWrites.Parts.{HasAllParts, all_signals}
use Rattle.fsm_datapath.specs.LoggedWrites.{UnnamedMayTake}
use Rattle.fsm_datapath.proofs.LoggedWrites.Members.{in_right}
use Rattle.fsm_datapath.proofs.LoggedWrites.Unnamed.{not_there, unnamed_are_given_nothing}
use Rattle.fsm_datapath.proofs.LoggedWrites.Taking.{Fitting, taken, fitting_both, fitting_flat, fitting_one, below_if, bit_fits}
use Rattle.fsm_datapath.proofs.LoggedWrites.Units.{all_of_units, left_unseen, right_unseen, no_division, fitting_division, doubled_fits}
use Rattle.fsm_datapath.proofs.LoggedWrites.Words.{read_fits}

module _ (p : Plan) (gates stages : ℕ) (units : UnitTable) (ports : PortTable) (d : Netlist) (s : State) (pins : List ℕ) (x : Contents) (signals : Signal → ℕ)
    (parts : HasAllParts p gates stages units ports d) (moment : IsMoment p (names_with p gates stages (registers_of p units)) d d s pins x) (else_ : HaveElse p (all_signals units ports) signals) where
  abbrev cycle : Cycle
  cycle = in_cycle x signals pins

  abbrev IsLeftOut : Register → Type 0
  IsLeftOut r = IsUnnamed (names_with p gates stages (registers_of p units)) r

  there : AreAllThere p gates stages (registers_of p units)
  there = record { there = parts.there; of_units = λ k r at_. (all_of_units p units).all r (k, at_) }

  -- no unit has the register
  no_unit : (r : Register) → IsLeftOut r → Has (registers_of p units) r → ⊥
  no_unit r out h = (let has = in_right (map named (all_roles p gates stages)) (registers_of p units) r h in out has.0 has.1)

  -- a register for values is given nothing
  nothing : (r : Register) → IsLeftOut r → IsOfValue r → Fitting (width p r) (register_writes p cycle r)
  nothing r out is = subst (Fitting (width p r)) (sym (unnamed_are_given_nothing p gates stages (registers_of p units) r cycle there out is)) tt

  tests_fit : (n : ℕ × TimedNode) → Fitting 1 (gate_write p cycle n)
  tests_fit (i, block body end_) = tt
  tests_fit (i, overlapped body exit next) = fitting_one 1 _ (bit_fits _)

  gates_fit : (k : ℕ) → Fitting 1 (gate_writes p cycle k)
  gates_fit zero = fitting_both 1 _ _ (fitting_flat 1 (gate_write p cycle) (numbered p) tests_fit) (fitting_one 1 (where_ (is_loading p cycle) 1) (omega arith))
  gates_fit (suc k) = fitting_one 1 (where_ (is_any_tested p cycle) (x.regs (reg.Gate k))) (moment.holds.fit (reg.Gate k))

  -- a divider that there is not never begins
  rests : (f : ℕ → ℕ → Register) → ((b m : ℕ) → Has (registers_as p kind.Divider b m) (f b m)) → (bits n : ℕ) → IsLeftOut (f bits n) → is_dividing p cycle bits n ≡ false
  rests f in_ bits n out = no_division p units parts.units_ f in_ bits n (no_unit (f bits n) out) cycle

  -- one without bits has no steps
  has_bits : (bits n : ℕ) → not (x.regs (reg.Steps bits n) == 0) ≡ true → 0 < bits
  has_bits zero n e = (let none : x.regs (reg.Steps 0 n) < 1 = moment.holds.fit (reg.Steps 0 n) in absurd (true≢false (sym e ∙ not_from_true _ (eq-eqb (x.regs (reg.Steps 0 n)) 0 (omega (arith, none))))))
  has_bits (suc bits) n e = omega arith

  bit_small : (b : Bool) → bit b < 2
  bit_small true = omega arith
  bit_small false = omega arith

  fits : (r : Register) → IsLeftOut r → Fitting (width p r) (register_writes p cycle r)
  fits reg.Ready out = fitting_one 1 _ (bit_fits (next_ready p cycle))
  fits reg.Done out = fitting_one 1 _ (bit_fits (next_done p cycle))
  fits reg.Initial out = fitting_one 1 _ (bit_fits (next_initial p cycle))
  fits reg.Time out = fitting_one (time_bits p) _ (below_if _ _ 0 (2 ^ time_bits p) (mod-lt (x.regs reg.Time + 1) (pow_pos (time_bits p))) (pow_pos (time_bits p)))
  fits (reg.Active i) out = fitting_one 1 _ (bit_fits (next_active p cycle i))
  fits (reg.Load i) out = fitting_one 1 _ (bit_fits (next_load p cycle i))
  fits (reg.Gate k) out = gates_fit k
  fits (reg.Passed n) out = fitting_one 1 _ (bit_fits _)
  fits reg.Waited out = fitting_one (wait_bits p) _ (below_if _ 0 _ (2 ^ wait_bits p) (pow_pos (wait_bits p)) (mod-lt (x.regs reg.Waited + 1) (pow_pos (wait_bits p))))
  fits (reg.Variable v) out = nothing (reg.Variable v) out tt
  fits (reg.Value k) out = nothing (reg.Value k) out tt
  fits reg.Result out = nothing reg.Result out tt
  fits (reg.Left bits n) out =
      fitting_one bits _ (subst (λ (v : ℕ). v < 2 ^ bits) (sym (else_ (reg.LeftOf (u.Multiplier bits) n) (left_unseen p units ports bits n (no_unit (reg.Left bits n) out)))) (pow_pos bits))
  fits (reg.Right bits n) out =
      fitting_one bits _ (subst (λ (v : ℕ). v < 2 ^ bits) (sym (else_ (reg.RightOf (u.Multiplier bits) n) (right_unseen p units ports bits n (no_unit (reg.Right bits n) out)))) (pow_pos bits))
  fits (reg.Product bits n) out = fitting_one bits _ (mod-lt _ (pow_pos bits))
  fits (reg.Steps bits n) out =
      let held = moment.holds.fit (reg.Steps bits n) in
      fitting_division _ (is_dividing p cycle bits n) _ bits (x.regs (reg.Steps bits n) - 1) (rests reg.Steps (λ b m. (0, refl)) bits n out) (λ e. omega (arith, held))
  fits (reg.Dividend bits n) out =
      fitting_division bits (is_dividing p cycle bits n) _ _ (next_dividend cycle bits n) (rests reg.Dividend (λ b m. (1, refl)) bits n out)
      (λ e. doubled_fits bits (x.regs (reg.Dividend bits n)) (bit (not (borrows cycle bits n))) (has_bits bits n e) (bit_small (not (borrows cycle bits n))))
  fits (reg.Remainder bits n) out =
      fitting_division bits (is_dividing p cycle bits n) _ 0 (next_remainder cycle bits n) (rests reg.Remainder (λ b m. (2, refl)) bits n out)
      (λ e. below_if (borrows cycle bits n) _ _ (2 ^ bits) (mod-lt (trial cycle bits n) (pow_pos bits)) (mod-lt (difference cycle bits n) (pow_pos bits)))
  fits (reg.Divisor bits n) out = ((λ e. absurd (true≢false (sym e ∙ rests reg.Divisor (λ b m. (3, refl)) bits n out))), tt)
  fits (reg.QuotientSign bits n) out = fitting_one 1 _ (mod-lt _ (omega arith))
  fits (reg.RemainderSign bits n) out = fitting_one 1 _ (bit_fits (left_negative cycle bits n))
  fits (reg.Word a n) out =
      ((λ e. read_fits p gates stages units ports d s pins x signals parts moment else_ a n (λ within inside. not_there p gates stages (registers_of p units) (reg.Word a n) out (within, inside))), tt)
  fits reg.Named out = fitting_one (named_bits p) _ (mod-lt (select_of pins) (pow_pos (named_bits p)))

  pub may_take : (r : Register) → IsLeftOut r → MayTake p r cycle
  may_take r out = (let it = taken (width p r) (register_writes p cycle r) (x.regs r) (fits r out) (moment.holds.fit r) in record { value = it.value; takes = it.takes; fits = it.fits })

pub unnamed_may_take : UnnamedMayTake
unnamed_may_take p gates stages units ports d s pins x signals r parts moment else_ out = may_take p gates stages units ports d s pins x signals parts moment else_ r out
