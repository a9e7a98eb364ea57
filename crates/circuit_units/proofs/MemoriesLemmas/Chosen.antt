-- What choices make, and the bits of a port.
use Rattle.std.proofs.Common.{◌≡◌, ◌<◌, ℕ, zero, suc, ◌^◌, ◌%◌, Bool, false, List, [], ◌∷◌, ◌++◌, map, slice_get, slice_index, Option, Some, None, refl, sym, ap, ap₂, ◌∙◌, subst, arith}
use Rattle.std.specs.Prelude.{◌==◌, ◌||◌}
use Rattle.std.specs.List.{All, list_any}
use Rattle.std.proofs.Math.Bool.{or-false}
use Rattle.std.proofs.Math.Nat.{mod-eq_of_lt}
use Rattle.std.proofs.lemmas.List.Elements.{All-nil, All-cons, All-head, All-tail, All-push, All-weaker}
use Rattle.std.proofs.lemmas.List.Folds.{list_any-append}
use Rattle.rtl_core.specs.declared.design.Atom.{Atom}
use Rattle.rtl_core.specs.declared.design.Atom.TheVariants as atom
use Rattle.rtl_core.specs.declared.design.Pin.{Pin}
use Rattle.rtl_core.specs.Netlist.{Netlist}
use Rattle.rtl_core.specs.ClockStep.{bit_of, widths, input_widths, seen}
use Rattle.rtl_core.specs.Valid.{HasBits, IsBetween}
use Rattle.rtl_core.specs.Interface.{input_pins}
use Rattle.rtl_core.proofs.Fits.{fit_get}
use Rattle.rtl_core.proofs.Stability.{Extends}
use Rattle.rtl_logic.specs.declared.select.Choice.{Choice}
use Rattle.rtl_logic.specs.Making.{Makes}
use Rattle.rtl_logic.specs.Choosing.{Write, is_any_wanted, is_any, Takes, ChoiceFits, writes_in, zero_for_none}
use Rattle.rtl_logic.proofs.Making.{appended, fits_later}
use Rattle.datapath.specs.Plans.{Plan, interface}
use Rattle.datapath.specs.Cycles.{Register, Cycle, in_cycle, holds, resets, starts, bit}
use Rattle.datapath.specs.Circuits.{width}
use Rattle.datapath.specs.Ports.{loads, is_refused}
use Rattle.datapath.specs.CircuitWires.Carrying.{IsRegister, Carries, Tells, CarriesWanted, IsBegun, MakesTelling}
use Rattle.datapath.proofs.Carrying.{register}
use Rattle.datapath.proofs.Combining.{moment_same, begun_after, made_carries, bit_is, bit_same, constant_carries}
use Rattle.circuit_units.specs.Memories.Places.{AreChoices, AreRefused, IsOtherAtom, MakesWanted}

-- ---- later circuits

fit_later : (d e : Netlist) → Extends d e → (n : ℕ) (cs : List Choice) → All (ChoiceFits (widths d) n) cs → All (ChoiceFits (widths e) n) cs
fit_later d e x n cs h =
    All-weaker (ChoiceFits (widths d) n) (ChoiceFits (widths e) n) (λ c f. record { when = fits_later d e x 1 c.when f.when; value = fits_later d e x n c.value f.value }) cs h

pub choices_later : (p : Plan) (names : List Register) (d e : Netlist) (bits : ℕ) (choices : List Choice) (writes : Cycle → List Write) → Extends d e → AreChoices p names d bits choices writes
    → AreChoices p names e bits choices writes
choices_later p names d e bits choices writes longer h = record {
  fit = fit_later d e longer bits choices h.fit;
  are = λ f s pins x signals m. h.are f s pins x signals (moment_same p names d e f s pins x longer m);
}

pub wanted_later : (p : Plan) (names : List Register) (d e : Netlist) (bits : ℕ) (a : Atom) (writes : Cycle → List Write) (other : Cycle → Option ℕ) → Extends d e
    → CarriesWanted p names d bits a writes other → CarriesWanted p names e bits a writes other
wanted_later p names d e bits a writes other longer h = record {
  fits = fits_later d e longer bits a h.fits;
  value_ = λ f s pins x signals m. h.value_ f s pins x signals (moment_same p names d e f s pins x longer m);
}

pub other_later : (p : Plan) (names : List Register) (d e : Netlist) (bits : ℕ) (a : Atom) (value : Cycle → Option ℕ) → Extends d e → IsOtherAtom p names d bits a value → IsOtherAtom p names e bits a value
other_later p names d e bits a value longer h = record {
  fits = fits_later d e longer bits a h.fits;
  value_ = λ f s pins x signals m. h.value_ f s pins x signals (moment_same p names d e f s pins x longer m);
}

pub carried_other : (p : Plan) (names : List Register) (d : Netlist) (bits : ℕ) (a : Atom) (value : Cycle → ℕ) (other : Cycle → Option ℕ) → ((c : Cycle) → other c ≡ Some (value c)) → Carries p names d bits a value
    → IsOtherAtom p names d bits a other
carried_other p names d bits a value other same h = record {
  fits = h.fits;
  value_ = λ e s pins x signals m. same (in_cycle x signals pins) ∙ ap Some (sym (h.value_ e s pins x signals m));
}

-- ---- a value that is wanted

-- or else another one
pub chosen_else : (p : Plan) (names : List Register) (d e : Netlist) (bits : ℕ) (a other : Atom) (choices : List Choice) (writes : Cycle → List Write) (value : Cycle → Option ℕ) → IsBegun p names d
    → AreChoices p names d bits choices writes → IsOtherAtom p names d bits other value → Makes d e bits a (λ v x. Takes (writes_in v choices) (Some (v other)) x) → MakesWanted p names d e bits a writes value
chosen_else p names d e bits a other choices writes value begun h else_ made =
    let longer = appended d e made.appends in
    record {
      appends = made.appends;
      begun = begun_after p names d e begun made.appends made.sound;
      carries = record {
        fits = made.shows.fits;
        value_ = λ f s pins x signals m.
            let c : Cycle = in_cycle x signals pins in
            let now = moment_same p names d e f s pins x longer m in
            subst (λ o. Takes (writes c) o (seen f s pins a)) (sym (else_.value_ f s pins x signals now))
            (subst (λ ws. Takes ws (Some (seen f s pins other)) (seen f s pins a)) (h.are f s pins x signals now) (made.shows.value f s pins m.extends m.sound m.state m.pins_));
      };
    }

-- or else any
pub chosen_only : (p : Plan) (names : List Register) (d e : Netlist) (bits : ℕ) (a : Atom) (choices : List Choice) (writes : Cycle → List Write) (value : Cycle → Option ℕ) → IsBegun p names d
    → AreChoices p names d bits choices writes → ((c : Cycle) → value c ≡ None) → Makes d e bits a (λ v x. Takes (writes_in v choices) (zero_for_none choices) x) → MakesWanted p names d e bits a writes value
chosen_only p names d e bits a choices writes value begun h else_ made =
    let longer = appended d e made.appends in
    record {
      appends = made.appends;
      begun = begun_after p names d e begun made.appends made.sound;
      carries = record {
        fits = made.shows.fits;
        value_ = λ f s pins x signals m.
            let c : Cycle = in_cycle x signals pins in
            let now = moment_same p names d e f s pins x longer m in
            let takes : Takes (writes c) (zero_for_none choices) (seen f s pins a) =
            subst (λ ws. Takes ws (zero_for_none choices) (seen f s pins a)) (h.are f s pins x signals now) (made.shows.value f s pins m.extends m.sound m.state m.pins_) in
            subst (λ o. Takes (writes c) o (seen f s pins a)) (sym (else_ c)) (record { wanted = takes.wanted; else_ = λ none. tt });
      };
    }

-- ---- whether one is wanted

abbrev pub whens : List Choice → List Atom
whens choices = map (λ (c : Choice). c.when) choices

any_when : (v : Atom → ℕ) (choices : List Choice) → is_any v (whens choices) ≡ is_any_wanted (writes_in v choices)
any_when v [] = refl
any_when v (c ∷ cs) = ap (λ b. (v c.when == 1) || b) (any_when v cs)

whens_fit : (d : Netlist) (bits : ℕ) (choices : List Choice) → All (ChoiceFits (widths d) bits) choices → All (HasBits (widths d) 1) (whens choices)
whens_fit d bits [] h = All-nil (HasBits (widths d) 1)
whens_fit d bits (c ∷ cs) h =
    All-cons (HasBits (widths d) 1) c.when (whens cs) (All-head (ChoiceFits (widths d) bits) c cs h).when (whens_fit d bits cs (All-tail (ChoiceFits (widths d) bits) c cs h))

pub bits_fit : (d : Netlist) (bits : ℕ) (choices : List Choice) (atoms : List Atom) → All (ChoiceFits (widths d) bits) choices → atoms ≡ whens choices → All (HasBits (widths d) 1) atoms
bits_fit d bits choices atoms h is = subst (All (HasBits (widths d) 1)) (sym is) (whens_fit d bits choices h)

pub bits_fit_more : (d : Netlist) (bits : ℕ) (choices : List Choice) (atoms : List Atom) (a : Atom) → All (ChoiceFits (widths d) bits) choices → HasBits (widths d) 1 a → atoms ≡ whens choices ++ a ∷ []
    → All (HasBits (widths d) 1) atoms
bits_fit_more d bits choices atoms a h one is = subst (All (HasBits (widths d) 1)) (sym is) (All-push (HasBits (widths d) 1) (whens choices) a (whens_fit d bits choices h) one)

-- one of the choices is wanted
pub any_tells : (p : Plan) (names : List Register) (d e : Netlist) (bits : ℕ) (choices : List Choice) (writes : Cycle → List Write) (other : Cycle → Bool) (atoms : List Atom) (a : Atom) → IsBegun p names d
    → AreChoices p names d bits choices writes → ((c : Cycle) → other c ≡ false) → atoms ≡ whens choices → Makes d e 1 a (λ v x. x ≡ bit_of (is_any v atoms))
    → MakesTelling p names d e a (λ c. is_any_wanted (writes c) || other c)
any_tells p names d e bits choices writes other atoms a begun h never is made =
    made_carries p names d e 1 a (λ v x. x ≡ bit_of (is_any v atoms)) (λ c. bit (is_any_wanted (writes c) || other c)) begun made (λ f s pins x signals m shown.
    let c : Cycle = in_cycle x signals pins in
    let same : is_any (seen f s pins) atoms ≡ (is_any_wanted (writes c) || other c) =
    ap (is_any (seen f s pins)) is ∙ (any_when (seen f s pins) choices ∙ (ap is_any_wanted (h.are f s pins x signals m)
    ∙ (sym (or-false (is_any_wanted (writes c))) ∙ ap (λ b. is_any_wanted (writes c) || b) (sym (never c))))) in
    shown ∙ (ap bit_of same ∙ bit_same (is_any_wanted (writes c) || other c)))

-- one of the choices is wanted, or this holds
pub any_tells_or : (p : Plan) (names : List Register) (d e : Netlist) (bits : ℕ) (choices : List Choice) (writes : Cycle → List Write) (other : Cycle → Bool) (atoms : List Atom) (one a : Atom) → IsBegun p names d
    → AreChoices p names d bits choices writes → Tells p names d one other → atoms ≡ whens choices ++ one ∷ [] → Makes d e 1 a (λ v x. x ≡ bit_of (is_any v atoms))
    → MakesTelling p names d e a (λ c. is_any_wanted (writes c) || other c)
any_tells_or p names d e bits choices writes other atoms one a begun h tells is made =
    made_carries p names d e 1 a (λ v x. x ≡ bit_of (is_any v atoms)) (λ c. bit (is_any_wanted (writes c) || other c)) begun made (λ f s pins x signals m shown.
    let c : Cycle = in_cycle x signals pins in
    let v : Atom → ℕ = seen f s pins in
    let last : ((v one == 1) || false) ≡ other c = or-false (v one == 1) ∙ (ap (λ k. k == 1) (tells.value_ f s pins x signals m) ∙ bit_is (other c)) in
    let same : is_any v atoms ≡ (is_any_wanted (writes c) || other c) =
    ap (is_any v) is ∙ (list_any-append (λ b. v b == 1) (whens choices) (one ∷ [])
    ∙ ap₂ (λ x y. x || y) (any_when v choices ∙ ap is_any_wanted (h.are f s pins x signals m)) last) in
    shown ∙ (ap bit_of same ∙ bit_same (is_any_wanted (writes c) || other c)))

-- a load is refused
pub refused_tells : (p : Plan) (names : List Register) (d e : Netlist) (a n : ℕ) (choices : List Choice) (atoms : List Atom) (r : Atom) → IsBegun p names d → AreRefused p names d a n choices → atoms ≡ whens choices
    → Makes d e 1 r (λ v x. x ≡ bit_of (is_any v atoms)) → MakesTelling p names d e r (λ c. list_any (is_refused p c) (loads p a n))
refused_tells p names d e a n choices atoms r begun h is made =
    made_carries p names d e 1 r (λ v x. x ≡ bit_of (is_any v atoms)) (λ c. bit (list_any (is_refused p c) (loads p a n))) begun made (λ f s pins x signals m shown.
    let c : Cycle = in_cycle x signals pins in
    let same : is_any (seen f s pins) atoms ≡ list_any (is_refused p c) (loads p a n) = ap (is_any (seen f s pins)) is ∙ (any_when (seen f s pins) choices ∙ h.any f s pins x signals m) in
    shown ∙ (ap bit_of same ∙ bit_same (list_any (is_refused p c) (loads p a n))))

-- ---- registers and pins

bit_tells : (x : ℕ) → x < 2 → x ≡ bit (x == 1)
bit_tells zero h = refl
bit_tells (suc zero) h = refl
bit_tells (suc (suc x)) h = absurd (omega (arith, h))

-- a register of one bit tells whether it holds 1
pub holds_tells : (p : Plan) (names : List Register) (d : Netlist) (a : Atom) (r : Register) → IsBegun p names d → width p r ≡ 1 → IsRegister names a r → Tells p names d a (λ c. holds c r)
holds_tells p names d a r begun one is =
    let carries = register p names d a r begun.named is in
    record {
      fits = subst (λ n. HasBits (widths d) n a) one carries.fits;
      value_ = λ e s pins x signals m. carries.value_ e s pins x signals m ∙ bit_tells (x.regs r) (subst (λ n. x.regs r < 2 ^ n) one (m.holds.fit r));
    }

-- an input carries what its pin has
pub pin_carries : (p : Plan) (names : List Register) (d : Netlist) (k bits : ℕ) → slice_get (input_widths d) k ≡ Some bits → Carries p names d bits (atom.Input k) (λ c. slice_index c.pins k)
pin_carries p names d k bits is = record { fits = is; value_ = λ e s pins x signals m. refl }

pub pin_tells : (p : Plan) (names : List Register) (d : Netlist) (k : ℕ) → slice_get (input_widths d) k ≡ Some 1 → Tells p names d (atom.Input k) (λ c. slice_index c.pins k == 1)
pin_tells p names d k is = record {
  fits = is;
  value_ = λ e s pins x signals m. bit_tells (slice_index pins k) (fit_get (input_widths e) pins m.pins_ k 1 (ap (λ l. slice_get l k) m.extends.inputs ∙ is));
}

pub pin_wide : (p : Plan) (names : List Register) (d : Netlist) (k bits : ℕ) → IsBegun p names d → slice_get (map (λ (q : Pin). q.bits) (input_pins (interface p))) k ≡ Some bits → slice_get (input_widths d) k ≡ Some bits
pin_wide p names d k bits begun is = ap (λ l. slice_get (map (λ (q : Pin). q.bits) l) k) begun.pins ∙ is

pub reset_tells : (p : Plan) (names : List Register) (d : Netlist) → IsBegun p names d → Tells p names d (atom.Input 0) resets
reset_tells p names d begun = pin_tells p names d 0 (pin_wide p names d 0 1 begun refl)

pub start_tells : (p : Plan) (names : List Register) (d : Netlist) → IsBegun p names d → Tells p names d (atom.Input 1) starts
start_tells p names d begun = pin_tells p names d 1 (pin_wide p names d 1 1 begun refl)

-- a number as a constant
pub number_carries : (p : Plan) (names : List Register) (d : Netlist) (bits k : ℕ) (a : Atom) → IsBetween 1 128 bits → k < 2 ^ bits → a ≡ atom.Constant bits (k % 2 ^ bits) → Carries p names d bits a (λ c. k)
number_carries p names d bits k a between less is =
    subst (λ b. Carries p names d bits b (λ c. k)) (sym (is ∙ ap (atom.Constant bits) (mod-eq_of_lt less))) (constant_carries p names d bits k between less)
