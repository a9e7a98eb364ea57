-- What constants and registers tell, and wires that are made one after another.
use Rattle.std.proofs.Common.{◌≡◌, ◌<◌, ℕ, zero, suc, ◌^◌, ◌%◌, ◌/◌, Bool, true, false, List, ◌++◌, refl, sym, ap, ◌∙◌, subst, arith}
use Rattle.std.specs.Prelude.{◌==◌, ◌&&◌, ◌+◌, ◌*◌, bit_and}
use Rattle.std.proofs.Math.Nat.{lt-div-mul-add}
use Rattle.std.proofs.lemmas.Nat.{pow_pos}
use Rattle.std.proofs.Math.Dec.{eqb-suc-zero, eqb-zero-suc}
use Rattle.rtl_core.specs.declared.design.Atom.{Atom}
use Rattle.rtl_core.specs.declared.design.Atom.TheVariants as atom
use Rattle.rtl_core.specs.Netlist.{Netlist}
use Rattle.rtl_core.specs.ClockStep.{bits_of, bit_of, widths}
use Rattle.rtl_core.specs.Valid.{HasBits, IsBetween}
use Rattle.rtl_core.proofs.Fits.{width_is}
use Rattle.rtl_core.proofs.Stability.{get_same}
use Rattle.rtl_logic.specs.Making.{Appends, Makes}
use Rattle.rtl_logic.proofs.Making.{appended, appends_both, fits_later, seen_bound}
use Rattle.datapath.specs.Plans.{Plan}
use Rattle.datapath.specs.Cycles.{Register, Cycle, in_cycle, holds, bit}
use Rattle.datapath.specs.Circuits.{width}
use Rattle.datapath.specs.CircuitWires.Carrying.{IsRegister, IsBegun, Carries, Tells, MakesCarrying, MakesTelling}
use Rattle.datapath.proofs.Carrying.{register}
use Rattle.datapath.proofs.Combining.{and_tells, equal_tells, constant_carries, carries_on}
use Rattle.circuit_context.specs.Wanted.Logs.{CarriesSome}

-- ---- registers

-- a number of one bit tells whether it is 1
pub bit_tells : (x : ℕ) → x < 2 → x ≡ bit (x == 1)
bit_tells zero h = refl
bit_tells (suc zero) h = refl
bit_tells (suc (suc x)) h = absurd (omega (arith, h))

-- a register of one bit tells whether it holds 1
pub holds_tells : (p : Plan) (names : List Register) (d : Netlist) (a : Atom) (r : Register) → IsBegun p names d → width p r ≡ 1 → IsRegister names a r → Tells p names d a (λ c. holds c r)
holds_tells p names d a r begun one is =
    let carries = register p names d a r begun.named is in
    record {
      fits = subst (λ n. HasBits (widths d) n a) one carries.fits;
      value_ = λ e s pins x signals m. carries.value_ e s pins x signals m ∙ bit_tells (x.regs r) (subst (λ n. x.regs r < 2 ^ n) one (m.holds.fit r));
    }

pub register_some : (p : Plan) (names : List Register) (d : Netlist) (a : Atom) (r : Register) → IsBegun p names d → IsRegister names a r → CarriesSome p names d a (λ c. c.regs r)
register_some p names d a r begun is = record { bits = width p r; carries = register p names d a r begun.named is }

-- a register of the first ones is one of all
pub register_later : (names more : List Register) (a : Atom) (r : Register) → IsRegister names a r → IsRegister (names ++ more) a r
register_later names more a r h = record { number = h.number; is = h.is; named = get_same names (names ++ more) more h.number r refl h.named }

same_zero : (x k : ℕ) → x < 1 → (k == 0) ≡ (x == k)
same_zero zero zero h = refl
same_zero zero (suc k) h = eqb-suc-zero k ∙ sym (eqb-zero-suc k)
same_zero (suc x) k h = absurd (omega (arith, h))

-- a register without bits holds 0
pub nothing_held : (p : Plan) (names : List Register) (d : Netlist) (a : Atom) (r : Register) (k : ℕ) → width p r ≡ 0 → Tells p names d a (λ c. k == 0) → Tells p names d a (λ c. c.regs r == k)
nothing_held p names d a r k none h = record {
  fits = h.fits;
  value_ = λ e s pins x signals m. h.value_ e s pins x signals m ∙ ap bit (same_zero (x.regs r) k (subst (λ n. x.regs r < 2 ^ n) none (m.holds.fit r)));
}

-- ---- constants

-- a bit that is the same in every cycle
pub constant_tells : (p : Plan) (names : List Register) (d : Netlist) (a : Atom) (x : ℕ) (value : Bool) → x ≡ bit value → a ≡ atom.Constant 1 (x % 2 ^ 1) → Tells p names d a (λ c. value)
constant_tells p names d a x value same is = subst (λ b. Tells p names d b (λ c. value)) (sym (is ∙ ap (λ n. atom.Constant 1 (n % 2 ^ 1)) same)) (by_value value) where
  by_value : (value : Bool) → Tells p names d (atom.Constant 1 (bit value % 2 ^ 1)) (λ c. value)
  by_value true = constant_carries p names d 1 1 (omega arith, omega arith) (omega arith)
  by_value false = constant_carries p names d 1 0 (omega arith, omega arith) (omega arith)

-- a number without high bits
pub is_low : (value bits : ℕ) → value / 2 ^ bits ≡ 0 → value < 2 ^ bits
is_low value bits none =
    let whole : value < value / 2 ^ bits * 2 ^ bits + 2 ^ bits = lt-div-mul-add (pow_pos bits) in
    let past : value < 0 * 2 ^ bits + 2 ^ bits = subst (λ q. value < q * 2 ^ bits + 2 ^ bits) none whole in
    omega (arith, past)

pub number_carries : (p : Plan) (names : List Register) (d : Netlist) (n k : ℕ) (a : Atom) → a ≡ atom.Constant n k → IsBetween 1 64 n → k < 2 ^ n → Carries p names d n a (λ c. k)
number_carries p names d n k a is between less =
    subst (λ b. Carries p names d n b (λ c. k)) (sym is) (constant_carries p names d n k (between.0, omega (arith, between.1)) less)

register_carries : (p : Plan) (names : List Register) (d : Netlist) (n : ℕ) (of : Atom) (r : Register) → IsBegun p names d → IsRegister names of r → n ≡ bits_of (widths d) of
    → Carries p names d n of (λ c. c.regs r)
register_carries p names d n of r begun named wide =
    let whole = register p names d of r begun.named named in
    let same : width p r ≡ n = sym (wide ∙ width_is (widths d) (width p r) of whole.fits) in
    subst (λ m. Carries p names d m of (λ c. c.regs r)) same whole

pub number_fits : (p : Plan) (names : List Register) (d : Netlist) (n k : ℕ) (of number : Atom) (r : Register) → IsBegun p names d → IsRegister names of r → n ≡ bits_of (widths d) of
    → number ≡ atom.Constant n k → IsBetween 1 64 n → k < 2 ^ n → HasBits (widths d) n of × HasBits (widths d) n number
number_fits p names d n k of number r begun named wide is between less =
    let left = register_carries p names d n of r begun named wide in
    let right = number_carries p names d n k number is between less in
    (left.fits, right.fits)

-- whether a register holds a number
pub number_held : (p : Plan) (names : List Register) (d e : Netlist) (n k : ℕ) (of number a : Atom) (r : Register) → IsBegun p names d → IsRegister names of r → n ≡ bits_of (widths d) of
    → number ≡ atom.Constant n k → IsBetween 1 64 n → k < 2 ^ n → Makes d e 1 a (λ v x. x ≡ bit_of (v of == v number)) → MakesTelling p names d e a (λ c. c.regs r == k)
number_held p names d e n k of number a r begun named wide is between less made =
    equal_tells p names d e n of number a (λ c. c.regs r) (λ c. k) begun (register_carries p names d n of r begun named wide) (number_carries p names d n k number is between less) made

-- ---- values

-- the same value, said in another way
pub same_carries : (p : Plan) (names : List Register) (d : Netlist) (bits : ℕ) (a : Atom) (value other : Cycle → ℕ) → ((c : Cycle) → value c ≡ other c) → Carries p names d bits a value
    → Carries p names d bits a other
same_carries p names d bits a value other same h = record { fits = h.fits; value_ = λ e s pins x signals m. h.value_ e s pins x signals m ∙ same (in_cycle x signals pins) }

pub some_as : (p : Plan) (names : List Register) (d : Netlist) (a : Atom) (value other : Cycle → ℕ) → ((c : Cycle) → value c ≡ other c) → CarriesSome p names d a value → CarriesSome p names d a other
some_as p names d a value other same h = record { bits = h.bits; carries = same_carries p names d h.bits a value other same h.carries }

-- what is seen at an atom of so many bits is below that power of two
pub carried_below : (p : Plan) (names : List Register) (d : Netlist) (a : Atom) (value : Cycle → ℕ) (test : Cycle → Bool) → ((c : Cycle) → value c < 2 → value c ≡ bit (test c)) → Carries p names d 1 a value
    → Tells p names d a test
carried_below p names d a value test tells h = record {
  fits = h.fits;
  value_ = λ e s pins x signals m.
      let is = h.value_ e s pins x signals m in
      let below = seen_bound e s pins m.sound m.state m.pins_ 1 a (fits_later d e m.extends 1 a h.fits) in
      is ∙ tells (in_cycle x signals pins) (subst (λ n. n < 2) is below);
}

-- ---- one after another

-- wires are made first
pub made_behind : (p : Plan) (names : List Register) (d e f : Netlist) (bits : ℕ) (a : Atom) (value : Cycle → ℕ) → Appends d e → MakesCarrying p names e f bits a value → MakesCarrying p names d f bits a value
made_behind p names d e f bits a value first h = record { appends = appends_both d e f first h.appends; begun = h.begun; carries = h.carries }

-- both bits, of which the second is made and the first one stands
pub both_tell : (p : Plan) (names : List Register) (d e f : Netlist) (l r a : Atom) (L R : Cycle → Bool) → Tells p names d l L → MakesTelling p names d e r R
    → Makes e f 1 a (λ v x. x ≡ bit_and (v l) (v r)) → MakesTelling p names d f a (λ c. L c && R c)
both_tell p names d e f l r a L R left right made =
    made_behind p names d e f 1 a (λ c. bit (L c && R c)) right.appends
    (and_tells p names e f l r a L R right.begun (carries_on p names d e 1 l (λ c. bit (L c)) (appended d e right.appends) left) right.carries made)

-- both bits, of which the first is made and the second stands
pub made_both : (p : Plan) (names : List Register) (d e f : Netlist) (l r a : Atom) (L R : Cycle → Bool) → MakesTelling p names d e l L → Tells p names e r R
    → Makes e f 1 a (λ v x. x ≡ bit_and (v l) (v r)) → MakesTelling p names d f a (λ c. L c && R c)
made_both p names d e f l r a L R left right made =
    made_behind p names d e f 1 a (λ c. bit (L c && R c)) left.appends (and_tells p names e f l r a L R left.begun left.carries right made)
