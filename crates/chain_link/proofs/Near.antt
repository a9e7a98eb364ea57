-- The small circuits between stages, and valid circuits in memory, have no number that comes near 2^64.
use Rattle.std.proofs.Common.{◌≡◌, ℕ, ◌+◌, ◌*◌, ◌^◌, ◌<◌, ◌≤◌, List, [], ◌∷◌, ◌++◌, map, length, slice_get, Option, Some, None, refl, sym, ap, ◌∙◌, subst, arith}
use Rattle.std.specs.List.{All}
use Rattle.std.proofs.lemmas.Option.{slice_get_within}
use Rattle.std.proofs.lemmas.List.{length-map, length-append}
use Rattle.std.proofs.lemmas.List.Elements.{All-nil, All-cons, All-weaker, All-from_recursion}
use Rattle.rtl_core.specs.declared.design.Atom.{Atom}
use Rattle.rtl_core.specs.declared.design.Atom.TheVariants as atom
use Rattle.rtl_core.specs.declared.design.Pair.{Pair}
use Rattle.rtl_core.specs.declared.design.Pair.TheVariants as pair
use Rattle.rtl_core.specs.declared.design.Net.{Net}
use Rattle.rtl_core.specs.declared.design.Net.TheVariants as net
use Rattle.rtl_core.specs.declared.design.Wire.{Wire}
use Rattle.rtl_core.specs.declared.design.Reg.{Reg}
use Rattle.rtl_core.specs.declared.design.Port.{Port}
use Rattle.rtl_core.specs.declared.design.OutPin.{OutPin}
use Rattle.rtl_core.specs.Netlist.{Netlist, Memory}
use Rattle.rtl_core.specs.ClockStep.{Widths, widths, widths_after}
use Rattle.rtl_core.specs.Valid.{HasBits, OperandsFit, NetFits, WiresFit, RegisterFits, OutputFits, IsValid}
use Rattle.chain_link.specs.declared.numbers.Sizes.{Sizes}
use Rattle.chain_link.specs.declared.numbers.Queue.{Queue}
use Rattle.chain_link.specs.Units.{low_wires, both_wires, front_wires, back_wires, back_registers, control_wires, control_registers, writing_port, reading_port}
use Rattle.chain_link.specs.Linking.{sizes_behind, queue_behind}
use Rattle.chain_link.specs.Bounds.{IsNear, NetIsNear, WireIsNear, RegisterIsNear, PortIsNear, OutputIsNear, IsSmall, HasRoom, IsEarly, IsWithin}

-- ---- small circuits

few : (k : ℕ) → k < 100 → k < 2 ^ 57
few k h = omega (arith, h)

pub low_near : All WireIsNear low_wires
low_near = All-from_recursion WireIsNear low_wires (tt, (tt, (tt, (tt, tt))))

pub both_near : All WireIsNear both_wires
both_near = All-from_recursion WireIsNear both_wires ((tt, tt), tt)

pub front_near : (depth log bits : ℕ) → All WireIsNear (front_wires depth log bits)
front_near depth log bits = All-from_recursion WireIsNear (front_wires depth log bits) ((tt, few 1 (omega arith)), ((few 1 (omega arith), tt), ((refl, few 0 (omega arith)), tt)))

pub back_near : (log : ℕ) → All WireIsNear (back_wires log)
back_near log =
    All-from_recursion WireIsNear (back_wires log) (
      few 1 (omega arith),
      (
        (few 0 (omega arith), few 0 (omega arith)),
        (
          (few 0 (omega arith), tt),
          (
            (tt, tt),
            (
              (tt, tt, few 2 (omega arith)),
              (
                (few 1 (omega arith), tt),
                (
                  (few 1 (omega arith), tt),
                  (
                    (tt, tt),
                    (
                      (tt, few 7 (omega arith)),
                      (
                        (tt, few 5 (omega arith), few 6 (omega arith)),
                        ((tt, tt, few 9 (omega arith)), tt),
                      ),
                    ),
                  ),
                ),
              ),
            ),
          ),
        ),
      ),
    )

pub back_registers_near : (log : ℕ) → All RegisterIsNear (back_registers log)
back_registers_near log =
    All-from_recursion RegisterIsNear (back_registers log)
    (record { enable = few 3 (omega arith); next = few 4 (omega arith) }, (record { enable = few 8 (omega arith); next = few 10 (omega arith) }, tt))

pub ports_near : (bits : ℕ) → All PortIsNear (writing_port ∷ reading_port bits ∷ [])
ports_near bits =
    All-from_recursion PortIsNear (writing_port ∷ reading_port bits ∷ [])
    (record { addr = few 1 (omega arith); enable = tt; value = tt }, (record { addr = few 0 (omega arith); enable = tt; value = tt }, tt))

pub control_near : All WireIsNear control_wires
control_near =
    All-from_recursion WireIsNear control_wires (
      (tt, few 0 (omega arith)),
      (
        (few 0 (omega arith), tt),
        (
          few 0 (omega arith),
          (
            (few 2 (omega arith), few 1 (omega arith)),
            (
              (tt, few 3 (omega arith)),
              (
                (few 4 (omega arith), tt),
                (
                  (few 1 (omega arith), tt, few 0 (omega arith)),
                  (
                    (few 5 (omega arith), tt, few 6 (omega arith)),
                    ((tt, tt, few 7 (omega arith)), tt),
                  ),
                ),
              ),
            ),
          ),
        ),
      ),
    )

pub control_registers_near : All RegisterIsNear control_registers
control_registers_near = All-from_recursion RegisterIsNear control_registers (record { enable = tt; next = few 8 (omega arith) }, tt)

-- ---- valid circuits

module _ (w : Widths) (regs : length w.regs < 2 ^ 57) (wires : length w.wires < 2 ^ 57) where
  atom_near : (n : ℕ) (a : Atom) → HasBits w n a → IsNear a
  atom_near n (atom.Constant bits value) h = tt
  atom_near n (atom.Input k) h = tt
  atom_near n (atom.Reg k) h = let within : k < length w.regs = slice_get_within w.regs k n h in omega (arith, within, regs)
  atom_near n (atom.Wire k) h = let within : k < length w.wires = slice_get_within w.wires k n h in omega (arith, within, wires)

  two_near : (op : Pair) (n : ℕ) (a b : Atom) → OperandsFit op n (λ m. HasBits w m a) (λ m. HasBits w m b) → IsNear a × IsNear b
  two_near pair.Add n a b h = (atom_near n a h.0, atom_near n b h.1)
  two_near pair.Sub n a b h = (atom_near n a h.0, atom_near n b h.1)
  two_near pair.Mul n a b h = (atom_near n a h.0, atom_near n b h.1)
  two_near pair.And n a b h = (atom_near n a h.0, atom_near n b h.1)
  two_near pair.Or n a b h = (atom_near n a h.0, atom_near n b h.1)
  two_near pair.Xor n a b h = (atom_near n a h.0, atom_near n b h.1)
  two_near pair.Equal n a b (one, (m, x, y)) = (atom_near m a x, atom_near m b y)
  two_near pair.Below n a b (one, (m, x, y)) = (atom_near m a x, atom_near m b y)
  two_near pair.Left n a b (x, (m, y)) = (atom_near n a x, atom_near m b y)
  two_near pair.Right n a b (x, (m, y)) = (atom_near n a x, atom_near m b y)

  no_memory : (mems : List Memory) (k : ℕ) (m : Memory) → mems ≡ [] → slice_get mems k ≡ Some m → ⊥
  no_memory [] k m e f = cc
  no_memory (x ∷ xs) k m e f = cc

  net_near : (mems : List Memory) (n : ℕ) (e : Net) → mems ≡ [] → NetFits w mems n e → NetIsNear e
  net_near mems n (net.Copy a) none h = atom_near n a h
  net_near mems n (net.Not a) none h = atom_near n a h
  net_near mems n (net.Two op a b) none h = two_near op n a b h
  net_near mems n (net.Pick test a b) none h = (atom_near 1 test h.0, atom_near n a h.1, atom_near n b h.2)
  net_near mems n (net.Join high low) none (m, k, x, y, sum) = (atom_near m high x, atom_near k low y)
  net_near mems n (net.Part a high low) none (varies, (m, x, high_in, order, sum)) = atom_near m a x
  net_near mems n (net.Word mem address) none (m, found, is) = absurd (no_memory mems mem m none found)

module _ (d : Netlist) (none : d.mems ≡ []) (regs : length d.regs < 2 ^ 57) where
  few_regs : (before : List Wire) → length (widths_after d before).regs < 2 ^ 57
  few_regs before = subst (λ n. n < 2 ^ 57) (sym (length-map d.regs (λ (r : Reg). r.bits))) regs

  few_wires : (before : List Wire) → length before < 2 ^ 57 → length (widths_after d before).wires < 2 ^ 57
  few_wires before h = subst (λ n. n < 2 ^ 57) (sym (length-map before (λ (w : Wire). w.bits))) h

  wires_near : (before ws : List Wire) → length before + length ws < 2 ^ 57 → WiresFit d before ws → All WireIsNear ws
  wires_near before [] h fit = All-nil WireIsNear
  wires_near before (w ∷ ws) h fit =
      let here : length before < 2 ^ 57 = omega arith in
      let sum : length (before ++ w ∷ []) ≡ length before + 1 = length-append before (w ∷ []) in
      let later : length (before ++ w ∷ []) + length ws < 2 ^ 57 = omega (arith, sum, h) in
      All-cons WireIsNear w ws (net_near (widths_after d before) (few_regs before) (few_wires before here) d.mems w.bits w.net none fit.1) (wires_near (before ++ w ∷ []) ws later fit.2)

  pub is_small : length d.wires < 2 ^ 57 → length d.outputs < 2 ^ 57 → IsValid d → IsSmall d
  is_small wires outputs valid =
      let near : (n : ℕ) (a : Atom) → HasBits (widths d) n a → IsNear a = atom_near (widths d) (few_regs d.wires) (few_wires d.wires wires) in
      let sum : 0 + length d.wires < 2 ^ 57 = omega (arith, wires) in
      record {
        wires = wires;
        regs = regs;
        outputs = outputs;
        near_wires = wires_near [] d.wires sum valid.wires;
        near_regs = All-weaker (RegisterFits (widths d)) RegisterIsNear (λ r fits. record { enable = near 1 r.enable fits.enable; next = near r.bits r.next fits.next }) d.regs valid.regs;
        near_outputs = All-weaker (OutputFits (widths d)) OutputIsNear (λ o fits. near o.bits o.from fits.from) d.outputs valid.outputs;
      }

-- ---- places

pub has_room : (k : ℕ) (s : Sizes) (q : Queue) → k ≤ 16 → IsWithin k s q → HasRoom s
has_room k s q le h = record { regs = let r = h.regs in omega (arith, le, r); mems = let m = h.mems in omega (arith, le, m); wires = let w = h.wires in omega (arith, le, w) }

pub is_early : (k : ℕ) (s : Sizes) (q : Queue) → k ≤ 16 → IsWithin k s q → IsEarly q
is_early k s q le h = let f = h.front in omega (arith, le, f)

pub within_next : (k : ℕ) (s t : Sizes) (q p : Queue) (d : Netlist) → IsSmall d → IsWithin k s q → t ≡ sizes_behind s d → p ≡ queue_behind s d → IsWithin (k + 1) t p
within_next k s t q p d small h e f = subst (λ x. IsWithin (k + 1) x p) (sym e) (subst (λ x. IsWithin (k + 1) (sizes_behind s d) x) (sym f) there)
  where
    there : IsWithin (k + 1) (sizes_behind s d) (queue_behind s d)
    there =
        let few_wires = small.wires in
        let few_regs = small.regs in
        let few_outputs = small.outputs in
        let r = h.regs in
        let m = h.mems in
        let w = h.wires in
        record {
          regs = omega (arith, few_regs, r);
          mems = omega (arith, m);
          wires = omega (arith, few_wires, few_outputs, w);
          front = omega (arith, few_wires, few_outputs, w);
        }
