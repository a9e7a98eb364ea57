-- What is pushed, and what carried values stay.
use Rattle.std.proofs.Common.{◌≡◌, ◌<◌, ℕ, zero, suc, ◌^◌, Bool, List, [], ◌∷◌, ◌++◌, slice_get, refl, sym, ap, ◌∙◌, subst, arith}
use Rattle.std.specs.Prelude.{◌==◌}
use Rattle.rtl_core.specs.declared.design.Atom.{Atom}
use Rattle.rtl_core.specs.declared.design.Atom.TheVariants as atom
use Rattle.rtl_core.specs.Netlist.{Netlist}
use Rattle.rtl_core.specs.ClockStep.{widths, bits_of}
use Rattle.rtl_core.specs.Valid.{HasBits}
use Rattle.rtl_core.proofs.Fits.{width_is}
use Rattle.rtl_core.proofs.Stability.{Extends, get_same}
use Rattle.rtl_logic.proofs.Making.{appends_none}
use Rattle.rtl_logic.specs.Choosing.{where_}
use Rattle.datapath.specs.Plans.{Plan}
use Rattle.datapath.specs.Cycles.{Register, Cycle, holds, bit, in_cycle}
use Rattle.datapath.specs.Circuits.{width}
use Rattle.datapath.specs.CircuitWires.Carrying.{IsRegister, IsBegun, Carries, Tells}
use Rattle.datapath.proofs.Carrying.{register}
use Rattle.datapath.proofs.Combining.{carries_on, constant_carries}
use Rattle.circuit_context.specs.declared.wanted.role.Role.{Role}
use Rattle.circuit_context.specs.declared.wanted.role.Target.{Target}
use Rattle.circuit_context.specs.declared.wanted.role.Target.TheVariants as t
use Rattle.circuit_context.specs.declared.wanted.log.Push.{Push}
use Rattle.circuit_context.specs.Wanted.Roles.{named}
use Rattle.circuit_context.specs.Wanted.Entries.{register_entry, bit_entry}
use Rattle.circuit_context.specs.Wanted.Logs.{target_bits, IsThere, Logs, CarriesSome}
use Rattle.circuit_context.proofs.WantedLemmas.Joining.{logs_one}
use Rattle.circuit_context.specs.Bank.Banks.{names_of}
use Rattle.circuit_context.specs.declared.context.Context.{Context}
use Rattle.circuit_context.specs.Contexts.{IsContext}
use Rattle.circuit_units.specs.declared.units.units.UnitTable.{UnitTable}
use Rattle.circuit_units.specs.Units.{HasAnswers}
use Rattle.circuit_units.specs.declared.demands.demands.Computed.{Computed}
use Rattle.circuit_units.specs.Demands.Computed.{AreComputed}

-- ---- registers

-- a register of the bank is one of the circuit
pub in_bank : (p : Plan) (names : List Register) (of : Context) (a : Atom) (r : Register) → IsContext p names of → IsRegister (names_of of.bank) a r → IsRegister names a r
in_bank p names of a r h is =
    record { number = is.number; is = is.is; named = ap (λ ns. slice_get ns is.number) h.names_ ∙ get_same (names_of of.bank) (names_of of.bank ++ h.more) h.more is.number r refl is.named }

pub bit_tells : (x : ℕ) → x < 2 → x ≡ bit (x == 1)
bit_tells zero h = refl
bit_tells (suc zero) h = refl
bit_tells (suc (suc x)) h = absurd (omega (arith, h))

-- a register of one bit tells whether it holds 1
pub holds_tells : (p : Plan) (names : List Register) (d : Netlist) (a : Atom) (r : Register) → IsBegun p names d → width p r ≡ 1 → IsRegister names a r → Tells p names d a (λ c. holds c r)
holds_tells p names d a r begun one is =
    let carries = register p names d a r begun.named is in
    record {
      fits = subst (λ n. HasBits (widths d) n a) one carries.fits;
      value_ = λ e s pins x signals m. carries.value_ e s pins x signals m ∙ bit_tells (x.regs r) (subst (λ n. x.regs r < 2 ^ n) one (m.holds.fit r));
    }

pub register_carries : (p : Plan) (names : List Register) (d : Netlist) (a : Atom) (r : Register) → IsBegun p names d → IsRegister names a r → CarriesSome p names d a (λ c. c.regs r)
register_carries p names d a r begun is = record { bits = width p r; carries = register p names d a r begun.named is }

-- ---- what is carried

pub some_on : (p : Plan) (names : List Register) (d e : Netlist) (a : Atom) (value : Cycle → ℕ) → Extends d e → CarriesSome p names d a value → CarriesSome p names e a value
some_on p names d e a value longer h = record { bits = h.bits; carries = carries_on p names d e h.bits a value longer h.carries }

-- the same value, said in another way
pub carried_as : (p : Plan) (names : List Register) (d : Netlist) (bits : ℕ) (a : Atom) (value other : Cycle → ℕ) → ((c : Cycle) → value c ≡ other c) → Carries p names d bits a value
    → Carries p names d bits a other
carried_as p names d bits a value other same h = record { fits = h.fits; value_ = λ e s pins x signals m. h.value_ e s pins x signals m ∙ same (in_cycle x signals pins) }

pub some_as : (p : Plan) (names : List Register) (d : Netlist) (a : Atom) (value other : Cycle → ℕ) → ((c : Cycle) → value c ≡ other c) → CarriesSome p names d a value → CarriesSome p names d a other
some_as p names d a value other same h = record { bits = h.bits; carries = carried_as p names d h.bits a value other same h.carries }

pub tells_as : (p : Plan) (names : List Register) (d : Netlist) (a : Atom) (one other : Cycle → Bool) → ((c : Cycle) → one c ≡ other c) → Tells p names d a one → Tells p names d a other
tells_as p names d a one other same h = carried_as p names d 1 a (λ c. bit (one c)) (λ c. bit (other c)) (λ c. ap bit (same c)) h

pub computed_on : (p : Plan) (names : List Register) (d e : Netlist) (computed : Computed) → Extends d e → AreComputed p names d computed → AreComputed p names e computed
computed_on p names d e computed longer h = λ i k a at. some_on p names d e a _ longer (h i k a at)

pub answers_on : (p : Plan) (names : List Register) (d e : Netlist) (table : UnitTable) → Extends d e → HasAnswers p names d table → HasAnswers p names e table
answers_on p names d e table longer h = λ k w at. (
  some_on p names d e w.first _ longer ((h k w at).0),
  some_on p names d e w.second _ longer ((h k w at).1),
)

-- ---- pushes

pub register_pushed : (p : Plan) (names : List Register) (d : Netlist) (of : Context) (log after : List Push) (role : Role) (r when given value : Atom) (bits : ℕ) (wanted : Cycle → Bool) (carried : Cycle → ℕ)
    → IsContext p names of → IsBegun p names d → IsRegister (names_of of.bank) r (named role) → bits ≡ bits_of (widths d) r → value ≡ given → ((n : ℕ) → HasBits (widths d) n given → n ≡ bits)
    → Tells p names d when wanted → CarriesSome p names d given carried → after ≡ log ++ record { target = t.Register role; choice = record { when = when; value = value } } ∷ []
    → Logs p names d d log after (register_entry role (λ c. where_ (wanted c) (carried c)) ∷ [])
register_pushed p names d of log after role r when given value bits wanted carried h begun is wide same fits tells carries pushed =
    let there : IsRegister names r (named role) = in_bank p names of r (named role) h is in
    let whole : Carries p names d (width p (named role)) r (λ c. c.regs (named role)) = register p names d r (named role) begun.named there in
    let exact : carries.bits ≡ width p (named role) = fits carries.bits carries.carries.fits ∙ (wide ∙ width_is (widths d) (width p (named role)) r whole.fits) in
    logs_one p names d d log after (record { target = t.Register role; choice = record { when = when; value = value } }) (register_entry role (λ c. where_ (wanted c) (carried c))) (appends_none d) begun pushed
    (record {
      target = refl;
      there = (there.number, there.named);
      when = tells;
      value = subst (λ a. Carries p names d (width p (named role)) a carried) (sym same) (subst (λ n. Carries p names d n given carried) exact carries.carries);
    })

-- a bit that is 1 where it is wanted
pub bit_pushed : (p : Plan) (names : List Register) (d : Netlist) (log after : List Push) (target : Target) (when one : Atom) (holds_ : Cycle → Bool) → IsBegun p names d → target_bits p target ≡ 1 → IsThere names target
    → one ≡ atom.Constant 1 1 → Tells p names d when holds_ → after ≡ log ++ record { target = target; choice = record { when = when; value = one } } ∷ [] → Logs p names d d log after (bit_entry target holds_ ∷ [])
bit_pushed p names d log after target when one holds_ begun bits there is tells pushed =
    let ones : Carries p names d 1 (atom.Constant 1 1) (λ c. 1) = constant_carries p names d 1 1 (omega arith, omega arith) (omega arith) in
    logs_one p names d d log after (record { target = target; choice = record { when = when; value = one } }) (bit_entry target holds_) (appends_none d) begun pushed
    (record {
      target = refl;
      there = there;
      when = tells;
      value = subst (λ n. Carries p names d n one (λ c. 1)) (sym bits) (subst (λ a. Carries p names d 1 a (λ c. 1)) (sym is) ones);
    })
