-- A memory that is appended, with the words at its ports.
use Rattle.std.proofs.Common.{◌≡◌, ◌<◌, ℕ, zero, suc, ◌+◌, ◌^◌, List, [], ◌∷◌, ◌++◌, length, map, slice_get, Some, None, refl, sym, ap, ◌∙◌, subst, append_assoc, arith}
use Rattle.std.specs.Option.{option_map}
use Rattle.std.specs.Prelude.{if◌then◌else◌, is_some}
use Rattle.std.proofs.lemmas.List.{append-nil, map-append}
use Rattle.std.proofs.lemmas.Option.{none-some, same_Some, slice_get-map}
use Rattle.rtl_core.specs.declared.design.Atom.{Atom}
use Rattle.rtl_core.specs.declared.design.Atom.TheVariants as atom
use Rattle.rtl_core.specs.declared.design.Port.{Port}
use Rattle.rtl_core.specs.declared.design.Wire.{Wire}
use Rattle.rtl_core.specs.declared.design.Reg.{Reg}
use Rattle.rtl_core.specs.Netlist.{Netlist}
use Rattle.rtl_core.specs.ClockStep.{widths, widths_after, wire_widths, register_widths, word_at, seen}
use Rattle.rtl_core.specs.Valid.{HasBits, IsBetween, WiresFit}
use Rattle.rtl_core.proofs.Stability.{Extends, Longer, bits_kept}
use Rattle.rtl_core.proofs.Growth.{wires_extended}
use Rattle.rtl_units.specs.Fragments.{grown, memory_with, port_wire, port_wires, wires_from}
use Rattle.rtl_logic.specs.Making.{IsSound}
use Rattle.rtl_logic.proofs.Making.{fits_later, goes_on, seen_bound, wire_value}
use Rattle.datapath.specs.Plans.{Plan, array_at, depth}
use Rattle.datapath.specs.Cycles.{Register, Cycle, in_cycle}
use Rattle.datapath.specs.Netlists.{memory_of}
use Rattle.ir_core.specs.FirstContents.{given_at, elements_or_none}
use Rattle.hls_base.specs.ArrayAddress.{addresses}
use Rattle.datapath.specs.CircuitWires.Carrying.{IsBegun}
use Rattle.circuit_units.specs.Memories.Places.{IsPortMade, ReadsWord, ReadWords}

-- ---- lists

last_get : {A : Type 0} (xs : List A) (x : A) → slice_get (xs ++ x ∷ []) (length xs) ≡ Some x
last_get [] x = refl
last_get (y ∷ ys) x = last_get ys x

behind_get : {A : Type 0} (xs ys : List A) (k : ℕ) → slice_get (xs ++ ys) (length xs + k) ≡ slice_get ys k
behind_get [] ys k = let e : 0 + k ≡ k = omega arith in ap (slice_get ys) e
behind_get (x ∷ xs) ys k = let e : suc (length xs) + k ≡ suc (length xs + k) = omega arith in ap (slice_get (x ∷ xs ++ ys)) e ∙ behind_get xs ys k

wire_numbered : (w n k : ℕ) (a : Atom) → slice_get (wires_from w n) k ≡ Some a → a ≡ atom.Wire (w + k)
wire_numbered w zero k a h = absurd (none-some a h)
wire_numbered w (suc n) zero a h = sym (same_Some (atom.Wire w) a h) ∙ ap atom.Wire (omega arith)
wire_numbered w (suc n) (suc k) a h = wire_numbered (suc w) n k a h ∙ ap atom.Wire (omega arith)

within_wires : (w n k : ℕ) (a : Atom) → slice_get (wires_from w n) k ≡ Some a → k < n
within_wires w zero k a h = absurd (none-some a h)
within_wires w (suc n) zero a h = omega arith
within_wires w (suc n) (suc k) a h = let less = within_wires (suc w) n k a h in omega (arith, less)

some_at : {A : Type 0} (xs : List A) (k : ℕ) → k < length xs → (x : A) × (slice_get xs k ≡ Some x)
some_at [] k h = absurd (omega (arith, h))
some_at (x ∷ xs) zero h = (x, refl)
some_at (x ∷ xs) (suc k) h = some_at xs k (omega (arith, h))

pub wires_counted : (w n : ℕ) → length (wires_from w n) ≡ n
wires_counted w zero = refl
wires_counted w (suc n) = ap suc (wires_counted (suc w) n)

-- ---- what stands

abbrev stored_in : Netlist → ℕ → ℕ → List Port → Netlist
stored_in d bits depth_ ports = grown d [] (memory_with bits depth_ ports ∷ []) (port_wires (length d.mems) bits ports)

abbrev store_extends : (d : Netlist) (bits depth_ : ℕ) (ports : List Port) → Extends d (stored_in d bits depth_ ports)
store_extends d bits depth_ ports = record {
  inputs = refl;
  more_regs = [];
  regs = map-append (λ (r : Reg). r.bits) d.regs [];
  more_wires = port_wires (length d.mems) bits ports;
  wires = refl;
}

longer_with : (d e : Netlist) (more : List Wire) → Extends d e → Longer (widths d) (widths_after e (d.wires ++ more))
longer_with d e more x = record {
  inputs = x.inputs;
  more_regs = x.more_regs;
  regs = x.regs;
  more_wires = wire_widths more;
  wires = map-append (λ (w : Wire). w.bits) d.wires more;
}

-- the words at some of the ports fit behind others
words_fit : (d e : Netlist) (m bits depth_ : ℕ) (all before ports : List Port) (wires : List Wire) → Extends d e → IsBetween 1 128 bits → slice_get e.mems m ≡ Some (memory_with bits depth_ all)
    → all ≡ before ++ ports → ((n : ℕ) (port : Port) → slice_get all n ≡ Some port → HasBits (widths d) depth_ port.addr) → WiresFit e (d.wires ++ wires) (port_wires m bits ports)
words_fit d e m bits depth_ all before [] wires x between stands is fits = tt
words_fit d e m bits depth_ all before (port ∷ ports) wires x between stands is fits =
    let at : slice_get all (length before + 0) ≡ Some port = ap (λ l. slice_get l (length before + 0)) is ∙ behind_get before (port ∷ ports) 0 in
    let next : all ≡ (before ++ port ∷ []) ++ ports = is ∙ sym (append_assoc before (port ∷ []) ports) in
    let w : Wire = port_wire m bits port in (
      between,
      (
        memory_with bits depth_ all,
        stands,
        record {
          bits = refl;
          wide = bits_kept (widths d) (widths_after e (d.wires ++ wires)) (longer_with d e wires x) depth_ port.addr (fits (length before + 0) port at);
          port = (length before + 0, port, at, refl);
        },
      ),
      subst (λ ws. WiresFit e ws (port_wires m bits ports)) (sym (append_assoc d.wires wires (w ∷ [])))
          (words_fit d e m bits depth_ all (before ++ port ∷ []) ports (wires ++ w ∷ []) x between stands next fits),
    )

-- the memory is there, and its words are read at its ports
pub record HasStore (p : Plan) (names : List Register) (d e : Netlist) (a bits depth_ : ℕ) (ports : List Port) (words : List Atom) : Type 0 where
  pub extends : Extends d e
  pub begun : IsBegun p names e
  pub regs : e.regs ≡ d.regs
  pub mems : e.mems ≡ d.mems ++ memory_with bits depth_ ports ∷ []
  pub outputs : e.outputs ≡ d.outputs
  pub read : ReadWords p names e a (map (λ (port : Port). port.addr) ports) words

store_sound : (d : Netlist) (bits depth_ : ℕ) (ports : List Port) → IsSound d → IsBetween 1 128 bits → ((n : ℕ) (port : Port) → slice_get ports n ≡ Some port → HasBits (widths d) depth_ port.addr)
    → IsSound (stored_in d bits depth_ ports)
store_sound d bits depth_ ports sound between fits =
    let e = stored_in d bits depth_ ports in
    let x = store_extends d bits depth_ ports in
    wires_extended d e (memory_with bits depth_ ports ∷ []) x refl sound
    (subst (λ ws. WiresFit e ws (port_wires (length d.mems) bits ports)) (append-nil d.wires)
    (words_fit d e (length d.mems) bits depth_ ports [] ports [] x between (last_get d.mems (memory_with bits depth_ ports)) refl fits))

word_read : (p : Plan) (names : List Register) (d : Netlist) (a bits depth_ n : ℕ) (ports : List Port) (port : Port) → let e = stored_in d bits depth_ ports in IsSound e → bits ≡ (array_at p a).bits → depth_ ≡ depth p a
    → (array_at p a).table ≡ None → length d.mems ≡ memory_of p a → slice_get ports n ≡ Some port → HasBits (widths d) depth_ port.addr → ReadsWord p names e a port.addr (atom.Wire (length d.wires + n))
word_read p names d a bits depth_ n ports port sound wide deep none number at fits =
    let e = stored_in d bits depth_ ports in
    let w : Wire = port_wire (length d.mems) bits port in
    let wires = port_wires (length d.mems) bits ports in
    let stands : slice_get e.wires (length d.wires + n) ≡ Some w = behind_get d.wires wires n ∙ (slice_get-map (port_wire (length d.mems) bits) ports n ∙ ap (option_map (port_wire (length d.mems) bits)) at) in
    record {
      fits = subst (λ k. slice_get (wire_widths e.wires) (length d.wires + n) ≡ Some k) wide (slice_get-map (λ (w : Wire). w.bits) e.wires (length d.wires + n) ∙ ap (option_map (λ (w : Wire). w.bits)) stands);
      value_ = λ f s pins x signals m.
          let c : Cycle = in_cycle x signals pins in
          let address = seen f s pins port.addr in
          let longer : Extends d f = goes_on d e f (store_extends d bits depth_ ports) m.extends in
          let low : address < 2 ^ depth p a = subst (λ k. address < 2 ^ k) deep (seen_bound f s pins m.sound m.state m.pins_ depth_ port.addr (fits_later d f longer depth_ port.addr fits)) in
          wire_value e f s pins m.extends m.sound m.state (length d.wires + n) w stands
          ∙ (ap (λ k. word_at s.mems k address) number ∙ (m.holds.memories a address none low
          ∙ sym (ap (λ o. if is_some o then given_at (addresses (array_at p a).dims) (elements_or_none o) address 0 else x.memories a address) none)));
    }

pub memory_stored : (p : Plan) (names : List Register) (d e : Netlist) (a bits depth_ : ℕ) (ports : List Port) (words : List Atom) → IsBegun p names d → IsBetween 1 64 bits → bits ≡ (array_at p a).bits → depth_ ≡ depth p a
    → (array_at p a).table ≡ None → length d.mems ≡ memory_of p a → ((n : ℕ) (port : Port) → slice_get ports n ≡ Some port → IsPortMade p names d a n port) → e ≡ stored_in d bits depth_ ports
    → words ≡ wires_from (length d.wires) (length ports) → HasStore p names d e a bits depth_ ports words
memory_stored p names d e a bits depth_ ports words begun between wide deep none number made is shown = subst (λ n. HasStore p names d n a bits depth_ ports words) (sym is) (stored_here) where
  f : Netlist
  f = stored_in d bits depth_ ports

  fits : (n : ℕ) (port : Port) → slice_get ports n ≡ Some port → HasBits (widths d) depth_ port.addr
  fits n port at = subst (λ k. HasBits (widths d) k port.addr) (sym deep) (made n port at).addr.fits

  small : IsBetween 1 128 bits
  small = (between.0, omega (arith, between.1))

  sound : IsSound f
  sound = store_sound d bits depth_ ports begun.sound small fits

  read : (n : ℕ) (word : Atom) → slice_get (wires_from (length d.wires) (length ports)) n ≡ Some word
      → (address : Atom) × (slice_get (map (λ (port : Port). port.addr) ports) n ≡ Some address) × ReadsWord p names f a address word
  read n word at =
      let within = within_wires (length d.wires) (length ports) n word at in
      let here = some_at ports n within in (
        here.0.addr,
        slice_get-map (λ (port : Port). port.addr) ports n ∙ ap (option_map (λ (port : Port). port.addr)) here.1,
        subst (λ (w : Atom). ReadsWord p names f a here.0.addr w) (sym (wire_numbered (length d.wires) (length ports) n word at))
            (word_read p names d a bits depth_ n ports here.0 sound wide deep none number here.1 (fits n here.0 here.1)),
      )

  stored_here : HasStore p names d f a bits depth_ ports words
  stored_here = record {
    extends = store_extends d bits depth_ ports;
    begun = record { named = map-append (λ (r : Reg). r.bits) d.regs [] ∙ (append-nil (register_widths d) ∙ begun.named); pins = begun.pins; sound = sound };
    regs = append-nil d.regs;
    mems = refl;
    outputs = refl;
    read = subst (λ ws. ReadWords p names f a (map (λ (port : Port). port.addr) ports) ws) (sym shown) read;
  }
