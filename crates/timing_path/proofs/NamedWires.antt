-- What a valid circuit's wires read: wires before them, of known widths.
use Rattle.std.proofs.Common.{◌≡◌, ◌⊎◌, inl, inr, ◌<◌, ◌≤◌, ℕ, zero, suc, ◌+◌, List, [], ◌∷◌, ◌++◌, length, take, drop, get_or, refl, sym, ap, ◌∙◌, subst, append_assoc, arith}
use Rattle.std.proofs.lemmas.Bool.{cases_lt}
use Rattle.std.proofs.lemmas.List.{append-nil, map-append, length-map, length-take-le, take-append-drop, get_or_past, get_or_default}
use Rattle.std.proofs.lemmas.Option.{slice_get_within}
use Rattle.rtl_core.specs.declared.design.Atom.{Atom}
use Rattle.rtl_core.specs.declared.design.Atom.TheVariants as atom
use Rattle.rtl_core.specs.declared.design.Pair.{Pair}
use Rattle.rtl_core.specs.declared.design.Pair.TheVariants as pair
use Rattle.rtl_core.specs.declared.design.Net.{Net}
use Rattle.rtl_core.specs.declared.design.Net.TheVariants as net
use Rattle.rtl_core.specs.declared.design.Wire.{Wire}
use Rattle.rtl_core.specs.Netlist.{Netlist, Memory}
use Rattle.rtl_core.specs.ClockStep.{Widths, bits_of, register_widths, wire_widths, widths_after, widths}
use Rattle.rtl_core.specs.Valid.{HasBits, OperandsFit, NetFits, WiresFit}
use Rattle.rtl_core.proofs.Growth.{net_grows}
use Rattle.timing_path.specs.Paths.{IsWire, Names, nothing, net_of, net_delay, delay_of}

-- both operands have a width
pub operands_have : (op : Pair) (n : ℕ) (A B : ℕ → Type 0) → OperandsFit op n A B → ((m : ℕ) × A m) × ((m : ℕ) × B m)
operands_have pair.Add n A B h = ((n, h.0), (n, h.1))
operands_have pair.Sub n A B h = ((n, h.0), (n, h.1))
operands_have pair.Mul n A B h = ((n, h.0), (n, h.1))
operands_have pair.And n A B h = ((n, h.0), (n, h.1))
operands_have pair.Or n A B h = ((n, h.0), (n, h.1))
operands_have pair.Xor n A B h = ((n, h.0), (n, h.1))
operands_have pair.Equal n A B h = ((h.1.0, h.1.1), (h.1.0, h.1.2))
operands_have pair.Below n A B h = ((h.1.0, h.1.1), (h.1.0, h.1.2))
operands_have pair.Left n A B h = ((n, h.0), h.1)
operands_have pair.Right n A B h = ((n, h.0), h.1)

pub two_have_bits : (w : Widths) (ms : List Memory) (e : Net) (op : Pair) (a b : Atom) → e ≡ net.Two op a b → (n : ℕ) → NetFits w ms n e
    → ((m : ℕ) × HasBits w m a) × ((m : ℕ) × HasBits w m b)
two_have_bits w ms e op a b is n fits =
    let P : Net → Type 0 = NetFits w ms n in
    operands_have op n (λ m. HasBits w m a) (λ m. HasBits w m b) (subst P is fits)

-- ---- the wires that an expression names

wire_inside : (w : Widths) (n : ℕ) (a : Atom) → HasBits w n a → (j : ℕ) → IsWire a j → j < length w.wires
wire_inside w n a h j e = let P : Atom → Type 0 = HasBits w n in slice_get_within w.wires j n (subst P e h)

either : {A B C : Type 0} → A ⊎ B → (A → C) → (B → C) → C
either (inl a) f g = f a
either (inr b) f g = g b

named_inside : (w : Widths) (ms : List Memory) (n : ℕ) (e : Net) → NetFits w ms n e → (j : ℕ) → Names e j → j < length w.wires
named_inside w ms n (net.Copy a) h j e = wire_inside w n a h j e
named_inside w ms n (net.Not a) h j e = wire_inside w n a h j e
named_inside w ms n (net.Two op a b) h j e =
    let have = operands_have op n (λ m. HasBits w m a) (λ m. HasBits w m b) h in
    either e (λ e. wire_inside w have.0.0 a have.0.1 j e) (λ e. wire_inside w have.1.0 b have.1.1 j e)
named_inside w ms n (net.Pick test a b) h j e =
    either e (λ e. wire_inside w 1 test h.0 j e) (λ e. either e (λ e. wire_inside w n a h.1 j e) (λ e. wire_inside w n b h.2 j e))
named_inside w ms n (net.Join high low) h j e = either e (λ e. wire_inside w h.0 high h.2 j e) (λ e. wire_inside w h.1 low h.3 j e)
named_inside w ms n (net.Part a high low) h j e = wire_inside w h.1.0 a h.1.1 j e
named_inside w ms n (net.Word mem address) h j e = wire_inside w h.0.depth_log address h.2.wide j e

-- ---- the wires of a circuit

-- a wire fits behind those before it
fits_behind : (d : Netlist) (before ws : List Wire) → WiresFit d before ws → (k : ℕ) (x : Wire) → k < length ws
    → NetFits (widths_after d (before ++ take k ws)) d.mems (get_or ws k x).bits (get_or ws k x).net
fits_behind d before [] h k x l = absurd (omega arith)
fits_behind d before (w ∷ ws) h zero x l = subst (λ b. NetFits (widths_after d b) d.mems w.bits w.net) (sym (append-nil before)) h.1
fits_behind d before (w ∷ ws) h (suc k) x l =
    subst (λ b. NetFits (widths_after d b) d.mems (get_or ws k x).bits (get_or ws k x).net) (append_assoc before (w ∷ []) (take k ws))
    (fits_behind d (before ++ (w ∷ [])) ws h.2 k x (omega arith))

-- a wire fits among all wires
pub fits_among : (d : Netlist) → WiresFit d [] d.wires → (k : ℕ) (x : Wire) → k < length d.wires → NetFits (widths d) d.mems (get_or d.wires k x).bits (get_or d.wires k x).net
fits_among d fit k x l =
    let front = take k d.wires in
    let split : d.wires ≡ front ++ drop k d.wires = sym (take-append-drop k d.wires) in
    let grown = net_grows (widths_after d front) (widths d) d.mems [] (record {
      inputs = refl;
      more_regs = [];
      regs = sym (append-nil (register_widths d));
      more_wires = wire_widths (drop k d.wires);
      wires = ap wire_widths split ∙ map-append (λ (w : Wire). w.bits) front (drop k d.wires);
    }) (get_or d.wires k x).bits (get_or d.wires k x).net (fits_behind d [] d.wires fit k x l) in
    subst (λ ms. NetFits (widths d) ms (get_or d.wires k x).bits (get_or d.wires k x).net) (append-nil d.mems) grown

-- the wires that a wire names stand before it
pub names_inside : (d : Netlist) → WiresFit d [] d.wires → (k j : ℕ) → Names (net_of d k) j → (k < length d.wires) × (j < k)
names_inside d fit k j h =
    elim (cases_lt k (length d.wires)) [
      | inl l ↦
          let front = take k d.wires in
          let inside = named_inside (widths_after d front) d.mems (get_or d.wires k nothing).bits (net_of d k) (fits_behind d [] d.wires fit k nothing l) j h in
          let count = length-map front (λ (w : Wire). w.bits) in
          let long = length-take-le k d.wires (omega arith) in
          (l, omega arith)
      | inr l ↦
          let P : Wire → Type 0 = λ (w : Wire). Names w.net j in
          let e : atom.Constant 0 0 ≡ atom.Wire j = subst P (get_or_past d.wires k nothing l) h in
          absurd (cc)
    ]

-- a wire that is read from the list
pub net_read : (d : Netlist) (k : ℕ) (x : Wire) → k < length d.wires → x ≡ get_or d.wires k x → x.net ≡ net_of d k
net_read d k x l e = ap (λ (w : Wire). w.net) (e ∙ get_or_default d.wires k x nothing l)

pub fits_read : (d : Netlist) → WiresFit d [] d.wires → (k : ℕ) (x : Wire) → k < length d.wires → x ≡ get_or d.wires k x → (n : ℕ) × NetFits (widths d) d.mems n x.net
fits_read d fit k x l e = let P : Wire → Type 0 = λ (w : Wire). (n : ℕ) × NetFits (widths d) d.mems n w.net in subst P (sym e) ((get_or d.wires k x).bits, fits_among d fit k x l)

-- the delay that was found for a wire that is read from the list
pub delay_read : (d : Netlist) (k : ℕ) (x : Wire) (m n : ℕ) → k < length d.wires → x ≡ get_or d.wires k x → n ≡ net_delay (bits_of (widths d)) x.net → m ≡ n → m ≡ delay_of d k
delay_read d k x m n l e is same = same ∙ (is ∙ ap (net_delay (bits_of (widths d))) (net_read d k x l e))

-- the same where it is read from a list that is the circuit's
pub net_listed : (d : Netlist) (ws : List Wire) (k : ℕ) → ws ≡ d.wires → (get_or ws k nothing).net ≡ net_of d k
net_listed d ws k e = ap (λ ws. (get_or ws k nothing).net) e

pub fits_listed : (d : Netlist) (ws : List Wire) → WiresFit d [] d.wires → (k : ℕ) → ws ≡ d.wires → k < length ws → (n : ℕ) × NetFits (widths d) d.mems n (get_or ws k nothing).net
fits_listed d ws fit k e l =
    let P : List Wire → Type 0 = λ ws. (n : ℕ) × NetFits (widths d) d.mems n (get_or ws k nothing).net in
    let Q : List Wire → Type 0 = λ ws. k < length ws in
    subst P (sym e) ((get_or d.wires k nothing).bits, fits_among d fit k nothing (subst Q e l))
