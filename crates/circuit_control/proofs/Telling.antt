-- What registers, inputs and constants tell, and how what is made goes on.
use Rattle.std.proofs.Common.{◌≡◌, ◌<◌, ℕ, zero, suc, ◌^◌, ◌%◌, Bool, true, List, [], ◌∷◌, ◌++◌, map, slice_get, slice_index, Some, refl, sym, ap, ◌∙◌, subst, arith}
use Rattle.std.specs.Prelude.{◌==◌}
use Rattle.std.proofs.Math.Nat.{mod-eq_of_lt}
use Rattle.std.proofs.Math.Pow.{pow_mono}
use Rattle.rtl_core.specs.declared.design.Atom.{Atom}
use Rattle.rtl_core.specs.declared.design.Atom.TheVariants as atom
use Rattle.rtl_core.specs.declared.design.Pin.{Pin}
use Rattle.rtl_core.specs.Netlist.{Netlist}
use Rattle.rtl_core.specs.ClockStep.{widths, input_widths}
use Rattle.rtl_core.specs.Valid.{HasBits, IsBetween}
use Rattle.rtl_core.proofs.Fits.{fit_get}
use Rattle.rtl_core.proofs.Stability.{get_same}
use Rattle.rtl_logic.specs.Choosing.{where_}
use Rattle.rtl_logic.specs.Making.{Appends}
use Rattle.rtl_logic.proofs.Making.{appended, appends_none, appends_both}
use Rattle.datapath.specs.Plans.{Plan}
use Rattle.datapath.specs.Cycles.{Register, Cycle, holds, starts, resets, bit, in_cycle}
use Rattle.datapath.specs.Circuits.{width}
use Rattle.datapath.specs.CircuitWires.Carrying.{IsRegister, Carries, Tells, IsBegun, MakesCarrying}
use Rattle.datapath.proofs.Carrying.{register}
use Rattle.datapath.proofs.Combining.{constant_carries, carries_on}
use Rattle.circuit_context.specs.declared.wanted.role.Role.{Role}
use Rattle.circuit_context.specs.declared.wanted.role.Target.TheVariants as t
use Rattle.circuit_context.specs.declared.wanted.log.Push.{Push}
use Rattle.circuit_context.specs.Wanted.Roles.{named}
use Rattle.circuit_context.specs.Wanted.Entries.{register_entry}
use Rattle.circuit_context.specs.Wanted.Logs.{Logs}
use Rattle.circuit_context.proofs.WantedLemmas.Joining.{logs_one}
use Rattle.circuit_context.specs.Bank.Banks.{names_of}
use Rattle.circuit_context.specs.declared.context.Context.{Context}
use Rattle.circuit_context.specs.Contexts.{IsContext}

-- ---- registers

-- a register of the bank is one of the circuit
pub in_bank : (p : Plan) (names : List Register) (of : Context) (a : Atom) (r : Register) → IsContext p names of → IsRegister (names_of of.bank) a r → IsRegister names a r
in_bank p names of a r h is =
    record { number = is.number; is = is.is; named = ap (λ ns. slice_get ns is.number) h.names_ ∙ get_same (names_of of.bank) (names_of of.bank ++ h.more) h.more is.number r refl is.named }

-- a number of one bit tells whether it is 1
bit_tells : (x : ℕ) → x < 2 → x ≡ bit (x == 1)
bit_tells zero h = refl
bit_tells (suc zero) h = refl
bit_tells (suc (suc x)) h = absurd (omega (arith, h))

pub bank_carries : (p : Plan) (names : List Register) (d : Netlist) (of : Context) (a : Atom) (r : Register) → IsContext p names of → IsBegun p names d → IsRegister (names_of of.bank) a r
    → Carries p names d (width p r) a (λ c. c.regs r)
bank_carries p names d of a r h begun is = register p names d a r begun.named (in_bank p names of a r h is)

-- a register of one bit tells whether it holds 1
pub bank_tells : (p : Plan) (names : List Register) (d : Netlist) (of : Context) (a : Atom) (r : Register) → IsContext p names of → IsBegun p names d → width p r ≡ 1 → IsRegister (names_of of.bank) a r
    → Tells p names d a (λ c. holds c r)
bank_tells p names d of a r h begun one is =
    let carries = bank_carries p names d of a r h begun is in
    record {
      fits = subst (λ n. HasBits (widths d) n a) one carries.fits;
      value_ = λ e s pins x signals m. carries.value_ e s pins x signals m ∙ bit_tells (x.regs r) (subst (λ n. x.regs r < 2 ^ n) one (m.holds.fit r));
    }

-- ---- inputs

pin_tells : (p : Plan) (names : List Register) (d : Netlist) (k : ℕ) → slice_get (input_widths d) k ≡ Some 1 → Tells p names d (atom.Input k) (λ c. slice_index c.pins k == 1)
pin_tells p names d k is = record {
  fits = is;
  value_ = λ e s pins x signals m. bit_tells (slice_index pins k) (fit_get (input_widths e) pins m.pins_ k 1 (ap (λ l. slice_get l k) m.extends.inputs ∙ is));
}

pub reset_tells : (p : Plan) (names : List Register) (d : Netlist) → IsBegun p names d → Tells p names d (atom.Input 0) resets
reset_tells p names d begun = pin_tells p names d 0 (ap (λ l. slice_get (map (λ (q : Pin). q.bits) l) 0) begun.pins)

pub start_tells : (p : Plan) (names : List Register) (d : Netlist) → IsBegun p names d → Tells p names d (atom.Input 1) starts
start_tells p names d begun = pin_tells p names d 1 (ap (λ l. slice_get (map (λ (q : Pin). q.bits) l) 1) begun.pins)

-- ---- constants

-- the bit that is always 1
pub one_tells : (p : Plan) (names : List Register) (d : Netlist) (a : Atom) → a ≡ atom.Constant 1 (1 % 2 ^ 1) → Tells p names d a (λ c. true)
one_tells p names d a is = subst (λ b. Tells p names d b (λ c. true)) (sym is) (constant_carries p names d 1 1 (omega arith, omega arith) (omega arith))

-- a small number
pub number_carries : (p : Plan) (names : List Register) (d : Netlist) (n k : ℕ) (a : Atom) → IsBetween 1 64 n → k < 2 ^ n → a ≡ atom.Constant n (k % 2 ^ n) → Carries p names d n a (λ c. k)
number_carries p names d n k a between less is =
    subst (λ b. Carries p names d n b (λ c. k)) (sym (is ∙ ap (atom.Constant n) (mod-eq_of_lt less))) (constant_carries p names d n k (between.0, omega (arith, between.1)) less)

pub one_below : (n : ℕ) → IsBetween 1 64 n → 1 < 2 ^ n
one_below n between = omega (arith, pow_mono between.0)

-- ---- the same, said in another way, and later

pub carried_as : (p : Plan) (names : List Register) (d : Netlist) (bits : ℕ) (a : Atom) (value other : Cycle → ℕ) → ((c : Cycle) → value c ≡ other c) → Carries p names d bits a value
    → Carries p names d bits a other
carried_as p names d bits a value other same h = record { fits = h.fits; value_ = λ e s pins x signals m. h.value_ e s pins x signals m ∙ same (in_cycle x signals pins) }

pub tells_as : (p : Plan) (names : List Register) (d : Netlist) (a : Atom) (one other : Cycle → Bool) → ((c : Cycle) → one c ≡ other c) → Tells p names d a one → Tells p names d a other
tells_as p names d a one other same h = carried_as p names d 1 a (λ c. bit (one c)) (λ c. bit (other c)) (λ c. ap bit (same c)) h

-- a value stays behind wires that are made
pub later : (p : Plan) (names : List Register) (d e : Netlist) (bits : ℕ) (a : Atom) (value : Cycle → ℕ) → Appends d e → Carries p names d bits a value → Carries p names e bits a value
later p names d e bits a value more h = carries_on p names d e bits a value (appended d e more) h

pub tells_later : (p : Plan) (names : List Register) (d e : Netlist) (a : Atom) (holds_ : Cycle → Bool) → Appends d e → Tells p names d a holds_ → Tells p names e a holds_
tells_later p names d e a holds_ more h = later p names d e 1 a (λ c. bit (holds_ c)) more h

-- wires are made first
pub made_behind : (p : Plan) (names : List Register) (d e f : Netlist) (bits : ℕ) (a : Atom) (value : Cycle → ℕ) → Appends d e → MakesCarrying p names e f bits a value → MakesCarrying p names d f bits a value
made_behind p names d e f bits a value first h = record { appends = appends_both d e f first h.appends; begun = h.begun; carries = h.carries }

-- ---- what a register takes

pub register_pushed : (p : Plan) (names : List Register) (d : Netlist) (of : Context) (before after : List Push) (role : Role) (r when value : Atom) (wanted : Cycle → Bool) (taken : Cycle → ℕ)
    → IsContext p names of → IsBegun p names d → IsRegister (names_of of.bank) r (named role) → Tells p names d when wanted → Carries p names d (width p (named role)) value taken
    → after ≡ before ++ record { target = t.Register role; choice = record { when = when; value = value } } ∷ []
    → Logs p names d d before after (register_entry role (λ c. where_ (wanted c) (taken c)) ∷ [])
register_pushed p names d of before after role r when value wanted taken h begun is tells carries pushed =
    let there : IsRegister names r (named role) = in_bank p names of r (named role) h is in
    logs_one p names d d before after (record { target = t.Register role; choice = record { when = when; value = value } }) (register_entry role (λ c. where_ (wanted c) (taken c))) (appends_none d) begun pushed
    (record { target = refl; there = (there.number, there.named); when = tells; value = carries })
