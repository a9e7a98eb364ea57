-- What atoms have, from what the wires behind them are, where signals are followed.
use Rattle.std.proofs.Common.{◌≡◌, ◌<◌, ℕ, zero, suc, ◌+◌, ◌-◌, ◌*◌, ◌/◌, ◌%◌, ◌^◌, Bool, true, false, List, [], ◌∷◌, ◌++◌, length, map, slice_get, Some, refl, sym, ap, ◌∙◌, subst, arith, append_assoc}
use Rattle.std.specs.Prelude.{◌==◌, if◌then◌else◌}
use Rattle.std.specs.Option.{option_map}
use Rattle.std.proofs.lemmas.Bool.{false≢true}
use Rattle.std.proofs.lemmas.List.{append-nil, map-append}
use Rattle.std.proofs.lemmas.List.Elements.{All-nil}
use Rattle.std.proofs.lemmas.Option.{slice_get-map}
use Rattle.rtl_core.specs.declared.design.Atom.{Atom}
use Rattle.rtl_core.specs.declared.design.Atom.TheVariants as atom
use Rattle.rtl_core.specs.declared.design.Pair.{Pair}
use Rattle.rtl_core.specs.declared.design.Net.{Net}
use Rattle.rtl_core.specs.declared.design.Net.TheVariants as net
use Rattle.rtl_core.specs.declared.design.Reg.{Reg}
use Rattle.rtl_core.specs.declared.design.Wire.{Wire}
use Rattle.rtl_core.specs.Netlist.{Netlist}
use Rattle.rtl_core.specs.ClockStep.{State, bits_of, widths, widths_after, wire_widths, register_widths, net_value, pair_value, seen}
use Rattle.rtl_core.specs.Valid.{HasBits, NetFits, WiresFit, IsBetween}
use Rattle.rtl_core.proofs.Fits.{width_is}
use Rattle.rtl_core.proofs.Stability.{Extends, bits_kept, get_same}
use Rattle.rtl_core.proofs.Growth.{wires_grow, wires_append}
use Rattle.rtl_units.specs.Fragments.{grown, up, wire_of}
use Rattle.rtl_logic.specs.Choosing.{where_, Takes}
use Rattle.rtl_logic.proofs.Making.{fits_later, seen_bound, wire_value}
use Rattle.datapath.specs.Plans.{Plan}
use Rattle.datapath.specs.Cycles.{Register, Contents, Signal, Cycle, in_cycle, bit}
use Rattle.datapath.specs.Circuits.{width, register_writes}
use Rattle.datapath.specs.CircuitWires.Carrying.{IsMoment, IsBegun, Carries}
use Rattle.datapath.proofs.Carrying.{register}
use Rattle.datapath.proofs.Combining.{bit_is}
use Rattle.circuit_context.specs.Wanted.Driving.{Seen, Follow, IsDriven, behind_edge}

-- ---- places in lists

pub at_end : {X : Type 0} (before xs : List X) (k : ℕ) (x : X) → slice_get xs k ≡ Some x → slice_get (before ++ xs) (length before + k) ≡ Some x
at_end [] xs k x e = let place : 0 + k ≡ k = omega arith in ap (slice_get xs) place ∙ e
at_end (b ∷ before) xs k x e = let place : suc (length before) + k ≡ suc (length before + k) = omega arith in ap (slice_get (b ∷ (before ++ xs))) place ∙ at_end before xs k x e

pub up_is : (k n : ℕ) → up k n ≡ n + k
up_is zero n = omega arith
up_is (suc k) n = up_is k (n + 1) ∙ omega arith

pub at_up : {X : Type 0} (before xs : List X) (k : ℕ) (x : X) → slice_get xs k ≡ Some x → slice_get (before ++ xs) (up k (length before)) ≡ Some x
at_up before xs k x e = ap (slice_get (before ++ xs)) (up_is k (length before)) ∙ at_end before xs k x e

-- from this number on these wires stand in the circuit
abbrev pub Stand : Netlist → ℕ → List Wire → Type 0
Stand d m ws = (k : ℕ) (w : Wire) → slice_get ws k ≡ Some w → slice_get d.wires (up k m) ≡ Some w

pub stand_first : (d : Netlist) (m : ℕ) (ws vs : List Wire) → Stand d m (ws ++ vs) → Stand d m ws
stand_first d m ws vs h k w e = h k w (get_same ws (ws ++ vs) vs k w refl e)

pub stand_second : (d : Netlist) (m : ℕ) (ws vs : List Wire) → Stand d m (ws ++ vs) → Stand d (up (length ws) m) vs
stand_second d m ws vs h k w e =
    let place : up k (up (length ws) m) ≡ up (length ws + k) m = up_is k (up (length ws) m) ∙ (ap (λ n. n + k) (up_is (length ws) m) ∙ (omega arith ∙ sym (up_is (length ws + k) m))) in
    ap (slice_get d.wires) place ∙ h (length ws + k) w (at_end ws vs k w e)

-- ---- what an atom has

-- an atom of so many bits that has this value in each cycle, where the signals are what is seen at these atoms
pub record Has (p : Plan) (names : List Register) (sigs : List Seen) (d : Netlist) (bits : ℕ) (a : Atom) (value : Cycle → ℕ) : Type 0 where
  pub fits : HasBits (widths d) bits a
  pub value_ : (e : Netlist) (s : State) (pins : List ℕ) (x : Contents) (signals : Signal → ℕ) → IsMoment p names d e s pins x → Follow sigs e s pins signals
      → seen e s pins a ≡ value (in_cycle x signals pins)

-- it has it whatever the signals are
pub carries_without : (p : Plan) (names : List Register) (d : Netlist) (bits : ℕ) (a : Atom) (value : Cycle → ℕ) → Has p names [] d bits a value → Carries p names d bits a value
carries_without p names d bits a value h = record {
  fits = h.fits;
  value_ = λ e s pins x signals m. h.value_ e s pins x signals m (All-nil (λ (y : Seen). signals y.0 ≡ seen e s pins y.1));
}

-- what a register takes whose bit is this and whose value is that
pub takes_where : (b : Bool) (v n old : ℕ) → (b ≡ true → n ≡ v) → Takes (where_ b v ∷ []) (Some old) (if bit b == 1 then n else old)
takes_where true v n old same = record { wanted = λ y any all. same refl ∙ all.0 refl; else_ = λ e. absurd (false≢true (sym e)) }
takes_where false v n old same = record { wanted = λ y any all. absurd (false≢true any); else_ = λ e. refl }

module _ (p : Plan) (names : List Register) (sigs : List Seen) (d : Netlist) where
  pub has_carried : (bits : ℕ) (a : Atom) (value : Cycle → ℕ) → Carries p names d bits a value → Has p names sigs d bits a value
  has_carried bits a value h = record { fits = h.fits; value_ = λ e s pins x signals m follow. h.value_ e s pins x signals m }

  pub has_register : (k bits : ℕ) (r : Register) → IsBegun p names d → slice_get names k ≡ Some r → width p r ≡ bits → Has p names sigs d bits (atom.Reg k) (λ c. c.regs r)
  has_register k bits r begun at wide =
      subst (λ n. Has p names sigs d n (atom.Reg k) (λ c. c.regs r)) wide
      (has_carried (width p r) (atom.Reg k) (λ c. c.regs r) (register p names d (atom.Reg k) r begun.named (record { number = k; is = refl; named = at })))

  pub has_constant : (bits k : ℕ) → IsBetween 1 128 bits → k < 2 ^ bits → Has p names sigs d bits (atom.Constant bits k) (λ c. k)
  has_constant bits k between less = record { fits = (refl, between, less); value_ = λ e s pins x signals m follow. refl }

  -- the same value, where others have theirs within their bits
  pub has_as : (bits : ℕ) (a : Atom) (value other : Cycle → ℕ) → ((c : Cycle) → value c ≡ other c) → Has p names sigs d bits a value → Has p names sigs d bits a other
  has_as bits a value other same h = record { fits = h.fits; value_ = λ e s pins x signals m follow. h.value_ e s pins x signals m follow ∙ same (in_cycle x signals pins) }

  below : (bits : ℕ) (a : Atom) (value : Cycle → ℕ) → Has p names sigs d bits a value → (e : Netlist) (s : State) (pins : List ℕ) (x : Contents) (signals : Signal → ℕ)
      → IsMoment p names d e s pins x → Follow sigs e s pins signals → value (in_cycle x signals pins) < 2 ^ bits
  below bits a value h e s pins x signals m follow =
      subst (λ n. n < 2 ^ bits) (h.value_ e s pins x signals m follow) (seen_bound e s pins m.sound m.state m.pins_ bits a (fits_later d e m.extends bits a h.fits))

  pub has_bounded : (bits : ℕ) (a : Atom) (value other : Cycle → ℕ) (n : ℕ) (b : Atom) (bounded : Cycle → ℕ) → Has p names sigs d n b bounded
      → ((c : Cycle) → bounded c < 2 ^ n → value c ≡ other c) → Has p names sigs d bits a value → Has p names sigs d bits a other
  has_bounded bits a value other n b bounded k same h = record {
    fits = h.fits;
    value_ = λ e s pins x signals m follow. h.value_ e s pins x signals m follow ∙ same (in_cycle x signals pins) (below n b bounded k e s pins x signals m follow);
  }

  wired : (k n : ℕ) (it : Net) (value : Cycle → ℕ) → slice_get d.wires k ≡ Some (wire_of n it)
      → ((e : Netlist) (s : State) (pins : List ℕ) (x : Contents) (signals : Signal → ℕ) → IsMoment p names d e s pins x → Follow sigs e s pins signals
      → net_value (bits_of (widths e)) (seen e s pins) s.mems n it ≡ value (in_cycle x signals pins)) → Has p names sigs d n (atom.Wire k) value
  wired k n it value at is = record {
    fits = slice_get-map (λ (w : Wire). w.bits) d.wires k ∙ ap (option_map (λ (w : Wire). w.bits)) at;
    value_ = λ e s pins x signals m follow. wire_value d e s pins m.extends m.sound m.state k (wire_of n it) at ∙ is e s pins x signals m follow;
  }

  pub has_copy : (k n m : ℕ) (a : Atom) (A : Cycle → ℕ) → slice_get d.wires k ≡ Some (wire_of n (net.Copy a)) → Has p names sigs d m a A → Has p names sigs d n (atom.Wire k) A
  has_copy k n m a A at h = wired k n (net.Copy a) A at (λ e s pins x signals mo follow. h.value_ e s pins x signals mo follow)

  pub has_not : (k n m : ℕ) (a : Atom) (A : Cycle → ℕ) → slice_get d.wires k ≡ Some (wire_of n (net.Not a)) → Has p names sigs d m a A → Has p names sigs d n (atom.Wire k) (λ c. 2 ^ n - 1 - A c)
  has_not k n m a A at h = wired k n (net.Not a) (λ c. 2 ^ n - 1 - A c) at (λ e s pins x signals mo follow. ap (λ y. 2 ^ n - 1 - y) (h.value_ e s pins x signals mo follow))

  pub has_two : (k n m l : ℕ) (op : Pair) (a b : Atom) (A B : Cycle → ℕ) → slice_get d.wires k ≡ Some (wire_of n (net.Two op a b)) → Has p names sigs d m a A → Has p names sigs d l b B
      → Has p names sigs d n (atom.Wire k) (λ c. pair_value op n (A c) (B c))
  has_two k n m l op a b A B at h i = wired k n (net.Two op a b) (λ c. pair_value op n (A c) (B c)) at (λ e s pins x signals mo follow.
      ap (λ y. pair_value op n y (seen e s pins b)) (h.value_ e s pins x signals mo follow) ∙ ap (pair_value op n (A (in_cycle x signals pins))) (i.value_ e s pins x signals mo follow))

  pub has_pick : (k n m l : ℕ) (t a b : Atom) (T : Cycle → Bool) (A B : Cycle → ℕ) → slice_get d.wires k ≡ Some (wire_of n (net.Pick t a b)) → Has p names sigs d 1 t (λ c. bit (T c))
      → Has p names sigs d m a A → Has p names sigs d l b B → Has p names sigs d n (atom.Wire k) (λ c. if T c then A c else B c)
  has_pick k n m l t a b T A B at g h i = wired k n (net.Pick t a b) (λ c. if T c then A c else B c) at (λ e s pins x signals mo follow.
      let c : Cycle = in_cycle x signals pins in
      ap (λ q. if q then seen e s pins a else seen e s pins b) (ap (λ y. y == 1) (g.value_ e s pins x signals mo follow) ∙ bit_is (T c))
      ∙ (ap (λ y. if T c then y else seen e s pins b) (h.value_ e s pins x signals mo follow) ∙ ap (λ y. if T c then A c else y) (i.value_ e s pins x signals mo follow)))

  pub has_join : (k n m l : ℕ) (high low : Atom) (A B : Cycle → ℕ) → slice_get d.wires k ≡ Some (wire_of n (net.Join high low)) → Has p names sigs d m high A → Has p names sigs d l low B
      → Has p names sigs d n (atom.Wire k) (λ c. A c * 2 ^ l + B c)
  has_join k n m l high low A B at h i = wired k n (net.Join high low) (λ c. A c * 2 ^ l + B c) at (λ e s pins x signals mo follow.
      let c : Cycle = in_cycle x signals pins in
      ap (λ y. seen e s pins high * 2 ^ y + seen e s pins low) (width_is (widths e) l low (fits_later d e mo.extends l low i.fits))
      ∙ (ap (λ y. y * 2 ^ l + seen e s pins low) (h.value_ e s pins x signals mo follow) ∙ ap (λ y. A c * 2 ^ l + y) (i.value_ e s pins x signals mo follow)))

  pub has_part : (k n m high low : ℕ) (a : Atom) (A : Cycle → ℕ) → slice_get d.wires k ≡ Some (wire_of n (net.Part a high low)) → Has p names sigs d m a A
      → Has p names sigs d n (atom.Wire k) (λ c. A c / 2 ^ low % 2 ^ (high + 1 - low))
  has_part k n m high low a A at h = wired k n (net.Part a high low) (λ c. A c / 2 ^ low % 2 ^ (high + 1 - low)) at (λ e s pins x signals mo follow.
      ap (λ y. y / 2 ^ low % 2 ^ (high + 1 - low)) (h.value_ e s pins x signals mo follow))

  -- a register takes what the plan's register is given
  pub driven_by : (k n : ℕ) (reg : Reg) (r : Register) (E : Cycle → Bool) (N V : Cycle → ℕ) → slice_get d.regs k ≡ Some reg → Has p names sigs d 1 reg.enable (λ c. bit (E c))
      → Has p names sigs d n reg.next N → ((c : Cycle) → E c ≡ true → N c ≡ V c) → ((c : Cycle) → register_writes p c r ≡ where_ (E c) (V c) ∷ []) → IsDriven p names sigs d k r
  driven_by k n reg r E N V at enable next same writes = record {
    reg = reg;
    stands = at;
    takes = λ e s pins x signals m follow.
        let c : Cycle = in_cycle x signals pins in
        let got : behind_edge e s pins reg (x.regs r) ≡ (if bit (E c) == 1 then N c else x.regs r) =
        ap (λ y. if y == 1 then seen e s pins reg.next else x.regs r) (enable.value_ e s pins x signals m follow) ∙ ap (λ y. if bit (E c) == 1 then y else x.regs r) (next.value_ e s pins x signals m follow) in
        subst (λ ws. Takes ws (Some (x.regs r)) (behind_edge e s pins reg (x.regs r))) (sym (writes c))
        (subst (Takes (where_ (E c) (V c) ∷ []) (Some (x.regs r))) (sym got) (takes_where (E c) (V c) (N c) (x.regs r) (same c)));
  }

-- ---- wires that fit behind others

module _ (e : Netlist) (before : List Wire) where
  -- these wires fit where those stand before them
  abbrev pub FitBehind : List Wire → List Wire → Type 0
  FitBehind done [] = Unit {0}
  FitBehind done (w ∷ ws) = IsBetween 1 128 w.bits × NetFits (widths_after e (before ++ done)) e.mems w.bits w.net × FitBehind (done ++ w ∷ []) ws

  fit_from : (done ws : List Wire) → FitBehind done ws → WiresFit e (before ++ done) ws
  fit_from done [] h = tt
  fit_from done (w ∷ ws) h = (h.0, h.1, subst (λ b. WiresFit e b ws) (sym (append_assoc before done (w ∷ []))) (fit_from (done ++ w ∷ []) ws h.2))

  pub all_fit : (ws : List Wire) → FitBehind [] ws → WiresFit e before ws
  all_fit ws h = subst (λ b. WiresFit e b ws) (append-nil before) (fit_from [] ws h)

  pub outer : (done : List Wire) (n : ℕ) (a : Atom) → HasBits (widths_after e before) n a → HasBits (widths_after e (before ++ done)) n a
  outer done n a h = bits_kept (widths_after e before) (widths_after e (before ++ done)) (record {
    inputs = refl;
    more_regs = [];
    regs = sym (append-nil (register_widths e));
    more_wires = wire_widths done;
    wires = map-append (λ (w : Wire). w.bits) before done;
  }) n a h

  pub inner : (done : List Wire) (k : ℕ) (w : Wire) → slice_get done k ≡ Some w → HasBits (widths_after e (before ++ done)) w.bits (atom.Wire (up k (length before)))
  inner done k w h = slice_get-map (λ (v : Wire). v.bits) (before ++ done) (up k (length before)) ∙ ap (option_map (λ (v : Wire). v.bits)) (at_up before done k w h)

-- ---- registers and wires are appended

-- so the circuit goes on
pub grown_extends : (d : Netlist) (regs : List Reg) (ws : List Wire) → Extends d (grown d regs [] ws)
grown_extends d regs ws = record { inputs = refl; more_regs = map (λ (r : Reg). r.bits) regs; regs = map-append (λ (r : Reg). r.bits) d.regs regs; more_wires = ws; wires = refl }

pub grown_begun : (p : Plan) (names more : List Register) (d : Netlist) (regs : List Reg) (ws : List Wire) → IsBegun p names d → map (λ (r : Reg). r.bits) regs ≡ map (width p) more
    → WiresFit (grown d regs [] ws) d.wires ws → IsBegun p (names ++ more) (grown d regs [] ws)
grown_begun p names more d regs ws h same fit =
    let e : Netlist = grown d regs [] ws in
    record {
      named = map-append (λ (r : Reg). r.bits) d.regs regs ∙ (ap (λ l. l ++ map (λ (r : Reg). r.bits) regs) h.named ∙ (ap (λ l. map (width p) names ++ l) same ∙ sym (map-append (width p) names more)));
      pins = h.pins;
      sound = wires_append e [] d.wires ws (wires_grow d e [] (grown_extends d regs ws) refl [] d.wires h.sound) fit;
    }

-- the registers that were there stay
pub grown_keeps : {A : Type 0} (xs ys : List A) (k : ℕ) → k < length xs → slice_get (xs ++ ys) k ≡ slice_get xs k
grown_keeps [] ys k h = absurd (omega (arith, h))
grown_keeps (x ∷ xs) ys zero h = refl
grown_keeps (x ∷ xs) ys (suc k) h = grown_keeps xs ys k (omega (arith, h))
