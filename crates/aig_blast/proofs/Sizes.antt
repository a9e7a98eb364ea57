-- Sums over the parts of a circuit, one part after another.
use Rattle.std.proofs.Common.{◌≡◌, ◌<◌, ◌≤◌, ◌+◌, ◌*◌, ◌^◌, ◌%◌, ℕ, suc, zero, List, [], ◌∷◌, ◌++◌, map, length, take, drop, get_or, append_assoc, sum, refl, sym, ap, ◌∙◌, subst, arith}
use Rattle.std.specs.List.{All, sum_by}
use Rattle.std.proofs.lemmas.List.{append-nil, map-append, length-map, take_all, take-append-drop, get_or_default}
use Rattle.std.proofs.lemmas.List.Sums.{sum_by_more, sum_by-take-le, sum-map}
use Rattle.std.proofs.lemmas.Option.{slice_get_within}
use Rattle.std.proofs.Math.Nat.{mul-le-mul_left, mul-le-mul_right, pow-le-pow_right, mod-eq_of_lt}
use Rattle.rtl_core.specs.declared.design.Atom.{Atom}
use Rattle.rtl_core.specs.declared.design.Pair.{Pair}
use Rattle.rtl_core.specs.declared.design.Pair.TheVariants as pair
use Rattle.rtl_core.specs.declared.design.Net.{Net}
use Rattle.rtl_core.specs.declared.design.Net.TheVariants as net
use Rattle.rtl_core.specs.declared.design.Mem.{Mem}
use Rattle.rtl_core.specs.declared.design.Pin.{Pin}
use Rattle.rtl_core.specs.declared.design.Reg.{Reg}
use Rattle.rtl_core.specs.declared.design.Wire.{Wire}
use Rattle.rtl_core.specs.Netlist.{Netlist, Memory, memory_of}
use Rattle.rtl_core.specs.ClockStep.{Widths, bits_of, input_widths, register_widths, wire_widths, widths_after, widths}
use Rattle.rtl_core.specs.Valid.{HasBits, OperandsFit, NetFits, WiresFit, MemoryFits, IsBetween}
use Rattle.rtl_core.proofs.Growth.{net_grows}
use Rattle.aig_blast.specs.Weight.{memory_size, size_at, wire_weight, net_weight, ports_weight, bit_count, weight}
use Rattle.aig_blast.proofs.Banks.{memory_listed}

-- ---- sums

-- the sum over the first k elements, each of which is at most `most`
pub record IsSumSoFar (X : Type 0) (f : X → ℕ) (most : ℕ) (xs : List X) (k total : ℕ) : Type 0 where
  pub value : total ≡ sum_by f (take k xs)
  pub few : total ≤ most * k

pub sum_begins : (X : Type 0) (f : X → ℕ) (most : ℕ) (xs : List X) → IsSumSoFar X f most xs 0 0
sum_begins X f most xs = record { value = refl; few = (omega arith) }

pub value_more : (X : Type 0) (f : X → ℕ) (xs : List X) (k : ℕ) (x : X) (total size after : ℕ) → k < length xs → x ≡ get_or xs k x → total ≡ sum_by f (take k xs) → size ≡ f x → after ≡ total + size
    → after ≡ sum_by f (take (k + 1) xs)
value_more X f xs k x total size after h is e m a = a ∙ (ap (λ z. z + size) e ∙ (ap (λ z. sum_by f (take k xs) + z) (m ∙ ap f is) ∙ sym (sum_by_more f xs k x h)))

pub sum_more : (X : Type 0) (f : X → ℕ) (most : ℕ) (xs : List X) (k : ℕ) (x : X) (total size after : ℕ) → IsSumSoFar X f most xs k total → k < length xs → x ≡ get_or xs k x → size ≡ f x → size ≤ most → after ≡ total + size
    → IsSumSoFar X f most xs (k + 1) after
sum_more X f most xs k x total size after s h is m low a = record {
  value = value_more X f xs k x total size after h is s.value m a;
  few = (let e : most * (k + 1) ≡ most * k + most = omega arith in omega (arith, e, s.few, low, a));
}

-- the same where an element is read with a default
pub sum_more_at : (X : Type 0) (f : X → ℕ) (most : ℕ) (xs : List X) (k : ℕ) (d : X) (total size after : ℕ) → IsSumSoFar X f most xs k total → k < length xs → size ≡ f (get_or xs k d) → size ≤ most → after ≡ total + size
    → IsSumSoFar X f most xs (k + 1) after
sum_more_at X f most xs k d total size after s h m low a = sum_more X f most xs k (get_or xs k d) total size after s h (get_or_default xs k d (get_or xs k d) h) m low a

pub sum_whole : (X : Type 0) (f : X → ℕ) (most : ℕ) (xs : List X) (k total : ℕ) → length xs ≤ k → IsSumSoFar X f most xs k total → total ≡ sum_by f xs
sum_whole X f most xs k total h s = s.value ∙ ap (sum_by f) (take_all k xs h)

pub sum_few : (X : Type 0) (f : X → ℕ) (most : ℕ) (xs : List X) (k total : ℕ) → k ≤ length xs → IsSumSoFar X f most xs k total → total ≤ most * length xs
sum_few X f most xs k total h s = (let m = mul-le-mul_left most h in omega (arith, m, s.few))

pub mapped_sum : (X Y : Type 0) (f : Y → ℕ) (g : X → Y) (xs : List X) → sum_by f (map g xs) ≡ sum_by (λ x. f (g x)) xs
mapped_sum X Y f g xs = sym (sum-map f (map g xs)) ∙ (ap sum (twice xs) ∙ sum-map (λ x. f (g x)) xs) where
  twice : (xs : List X) → map f (map g xs) ≡ map (λ x. f (g x)) xs
  twice [] = refl
  twice (x ∷ xs) = ap (λ z. f (g x) ∷ z) (twice xs)

-- ---- memories

abbrev pub mem_size : Mem → ℕ
mem_size m = memory_size (memory_of m)

abbrev pub mem_ports : Mem → ℕ
mem_ports m = ports_weight (memory_of m)

abbrev pub HasShape : Mem → Type 0
HasShape m = IsBetween 1 64 m.bits × IsBetween 1 16 m.depth_log

pub shape_at : (ms : List Mem) (k : ℕ) (x : Mem) → All HasShape ms → k < length ms → x ≡ get_or ms k x → HasShape x
shape_at ms k x h l is = subst HasShape (sym is) (h k x l)

pub shapes : (w : Widths) (ms : List Mem) → All (MemoryFits w) (map memory_of ms) → All HasShape ms
shapes w ms h = λ k x l.
    let long : k < length (map memory_of ms) = (let e = length-map ms memory_of in omega arith) in
    let fit = subst (MemoryFits w) (sym (memory_listed ms k (get_or ms k x) l (get_or_default ms k x (get_or ms k x) l))) (h k (memory_of (get_or ms k x)) long) in
    (fit.bits, fit.depth)

-- the number of words as the code shifts it
pub depth_power : (n k : ℕ) → n ≡ k → k ≤ 16 → (1 * 2 ^ n) % 18446744073709551616 ≡ 2 ^ k
depth_power n k e h =
    let low : 2 ^ k ≤ 2 ^ 16 = pow-le-pow_right (omega arith) h in
    let one : 1 * 2 ^ n ≡ 2 ^ k = (let f : 2 ^ n ≡ 2 ^ k = ap (λ z. 2 ^ z) e in omega (arith, f)) in
    ap (λ z. z % 18446744073709551616) one ∙ mod-eq_of_lt (omega (arith, low))

-- the weights of ports so far, each list of fewer than 2^64
pub record ArePortsSoFar (ms : List Mem) (k total : ℕ) : Type 0 where
  pub value : total ≡ sum_by mem_ports (take k ms)
  pub few : total ≤ 2 ^ 64 * sum_by mem_size (take k ms)

pub ports_begin : (ms : List Mem) → ArePortsSoFar ms 0 0
ports_begin ms = record { value = refl; few = (omega arith) }

-- one memory's ports more
pub ports_low : (ms : List Mem) (k : ℕ) (x : Mem) (total count size : ℕ) → ArePortsSoFar ms k total → k < length ms → x ≡ get_or ms k x → size ≡ mem_size x → count ≤ 2 ^ 64
    → total + count * size ≤ 2 ^ 64 * sum_by mem_size (take (k + 1) ms)
ports_low ms k x total count size s h is e low =
    let m : count * size ≤ 2 ^ 64 * size = mul-le-mul_right size low in
    let t : sum_by mem_size (take (k + 1) ms) ≡ sum_by mem_size (take k ms) + size = sum_by_more mem_size ms k x h ∙ ap (λ z. sum_by mem_size (take k ms) + z) (sym (e ∙ ap mem_size is)) in
    omega (arith, m, t, s.few)

pub ports_more : (ms : List Mem) (k : ℕ) (x : Mem) (total count size after : ℕ) → ArePortsSoFar ms k total → k < length ms → x ≡ get_or ms k x → size ≡ mem_size x → count ≡ length x.ports.items → count ≤ 2 ^ 64 → after ≡ total + count * size
    → ArePortsSoFar ms (k + 1) after
ports_more ms k x total count size after s h is e c low a = record {
  value = value_more Mem mem_ports ms k x total (count * size) after h is s.value (ap (λ z. z * size) c ∙ ap (λ z. length x.ports.items * z) e) a;
  few = subst (λ z. z ≤ 2 ^ 64 * sum_by mem_size (take (k + 1) ms)) (sym a) (ports_low ms k x total count size s h is e low);
}

pub ports_bound : (ms : List Mem) (k : ℕ) → sum_by memory_size (map memory_of ms) ≤ 65536 → sum_by mem_size (take k ms) ≤ 65536
ports_bound ms k low =
    let m = sum_by-take-le mem_size ms k in
    let e : sum_by memory_size (map memory_of ms) ≡ sum_by mem_size ms = mapped_sum Mem Memory memory_size memory_of ms in
    omega (arith, m, e, low)

pub ports_whole : (ms : List Mem) (k total : ℕ) → length ms ≤ k → ArePortsSoFar ms k total → total ≡ sum_by ports_weight (map memory_of ms)
ports_whole ms k total h s = s.value ∙ (ap (sum_by mem_ports) (take_all k ms h) ∙ sym (mapped_sum Mem Memory ports_weight memory_of ms))

pub ports_few : (ms : List Mem) (k total : ℕ) → length ms ≤ k → ArePortsSoFar ms k total → sum_by memory_size (map memory_of ms) ≤ 65536 → total ≤ 65536 * 2 ^ 64
ports_few ms k total h s low =
    let e : sum_by mem_size (take k ms) ≡ sum_by memory_size (map memory_of ms) = ap (sum_by mem_size) (take_all k ms h) ∙ sym (mapped_sum Mem Memory memory_size memory_of ms) in
    let m : 2 ^ 64 * sum_by mem_size (take k ms) ≤ 2 ^ 64 * 65536 = mul-le-mul_left (2 ^ 64) (subst (λ z. z ≤ 65536) (sym e) low) in
    omega (arith, m, s.few)

-- ---- wires

-- both operands have a width
pub operands_have : (op : Pair) (n : ℕ) (A B : ℕ → Type 0) → OperandsFit op n A B → ((m : ℕ) × A m) × ((m : ℕ) × B m)
operands_have pair.Add n A B h = ((n, h.0), (n, h.1))
operands_have pair.Sub n A B h = ((n, h.0), (n, h.1))
operands_have pair.Mul n A B h = ((n, h.0), (n, h.1))
operands_have pair.And n A B h = ((n, h.0), (n, h.1))
operands_have pair.Or n A B h = ((n, h.0), (n, h.1))
operands_have pair.Xor n A B h = ((n, h.0), (n, h.1))
operands_have pair.Equal n A B h = ((h.1.0, h.1.1), (h.1.0, h.1.2))
operands_have pair.Below n A B h = ((h.1.0, h.1.1), (h.1.0, h.1.2))
operands_have pair.Left n A B h = ((n, h.0), h.1)
operands_have pair.Right n A B h = ((n, h.0), h.1)

pub two_have_bits : (w : Widths) (ms : List Memory) (e : Net) (op : Pair) (a b : Atom) → e ≡ net.Two op a b → (n : ℕ) → NetFits w ms n e → ((m : ℕ) × HasBits w m a) × ((m : ℕ) × HasBits w m b)
two_have_bits w ms e op a b is n fits = operands_have op n (λ m. HasBits w m a) (λ m. HasBits w m b) (subst (λ (z : Net). NetFits w ms n z) is fits)

pub pick_has_bits : (w : Widths) (ms : List Memory) (e : Net) (test a b : Atom) → e ≡ net.Pick test a b → (n : ℕ) → NetFits w ms n e → HasBits w 1 test × HasBits w n a × HasBits w n b
pick_has_bits w ms e test a b is n fits = subst (λ (z : Net). NetFits w ms n z) is fits

pub word_inside : (w : Widths) (ms : List Mem) (e : Net) (mem : ℕ) (a : Atom) → e ≡ net.Word mem a → (n : ℕ) → NetFits w (map memory_of ms) n e → mem < length ms
word_inside w ms e mem a is n fits =
    let h = subst (λ (z : Net). NetFits w (map memory_of ms) n z) is fits in
    let l = slice_get_within (map memory_of ms) mem h.0 h.1 in
    omega (arith, l, length-map ms memory_of)

size_is : (ms : List Memory) (k : ℕ) (m : Memory) → k < length ms → m ≡ get_or ms k m → size_at ms k ≡ memory_size m
size_is [] k m h is = absurd (omega arith)
size_is (x ∷ ms) zero m h is = ap memory_size (sym is)
size_is (x ∷ ms) (suc k) m h is = size_is ms k m (omega arith) is

pub word_weight : (d : Netlist) (ms : List Mem) (x : Wire) (mem : ℕ) (a : Atom) (m : Mem) (size : ℕ) → d.mems ≡ map memory_of ms → x.net ≡ net.Word mem a → mem < length ms → m ≡ get_or ms mem m → size ≡ mem_size m → size ≡ wire_weight d x
word_weight d ms x mem a m size mems is h at e =
    let long : mem < length (map memory_of ms) = (let l = length-map ms memory_of in omega arith) in
    e ∙ (sym (size_is (map memory_of ms) mem (memory_of m) long (memory_listed ms mem m h at)) ∙ (ap (λ z. size_at z mem) (sym mems) ∙ ap (net_weight (bits_of (widths d)) d.mems x.bits) (sym is)))

-- a wire fits behind those before it
fits_behind : (d : Netlist) (before ws : List Wire) → WiresFit d before ws → (k : ℕ) (x : Wire) → k < length ws → NetFits (widths_after d (before ++ take k ws)) d.mems (get_or ws k x).bits (get_or ws k x).net
fits_behind d before [] h k x l = absurd (omega arith)
fits_behind d before (w ∷ ws) h zero x l = subst (λ b. NetFits (widths_after d b) d.mems w.bits w.net) (sym (append-nil before)) h.1
fits_behind d before (w ∷ ws) h (suc k) x l =
    subst (λ b. NetFits (widths_after d b) d.mems (get_or ws k x).bits (get_or ws k x).net) (append_assoc before (w ∷ []) (take k ws)) (fits_behind d (before ++ (w ∷ [])) ws h.2 k x (omega arith))

-- a wire fits among all wires
fits_among : (d : Netlist) → WiresFit d [] d.wires → (k : ℕ) (x : Wire) → k < length d.wires → NetFits (widths d) d.mems (get_or d.wires k x).bits (get_or d.wires k x).net
fits_among d fit k x l =
    let front = take k d.wires in
    let split : d.wires ≡ front ++ drop k d.wires = sym (take-append-drop k d.wires) in
    let grown = net_grows (widths_after d front) (widths d) d.mems [] (record {
      inputs = refl;
      more_regs = [];
      regs = sym (append-nil (register_widths d));
      more_wires = wire_widths (drop k d.wires);
      wires = ap wire_widths split ∙ map-append (λ (w : Wire). w.bits) front (drop k d.wires);
    }) (get_or d.wires k x).bits (get_or d.wires k x).net (fits_behind d [] d.wires fit k x l) in
    subst (λ ms. NetFits (widths d) ms (get_or d.wires k x).bits (get_or d.wires k x).net) (append-nil d.mems) grown

pub fits_read : (d : Netlist) → WiresFit d [] d.wires → (k : ℕ) (x : Wire) → k < length d.wires → x ≡ get_or d.wires k x → NetFits (widths d) d.mems x.bits x.net
fits_read d fit k x l is = subst (λ (w : Wire). NetFits (widths d) d.mems w.bits w.net) (sym is) (fits_among d fit k x l)

-- ---- the whole circuit

pub shapes_read : (w : Widths) (ms xs : List Mem) → ms ≡ xs → All (MemoryFits w) (map memory_of xs) → All HasShape ms
shapes_read w ms xs e h = subst (All HasShape) (sym e) (shapes w xs h)

pub input_sum : (d : Netlist) (ps : List Pin) (n : ℕ) → ps ≡ d.inputs → n ≡ sum_by (λ (p : Pin). p.bits) ps → n ≡ sum (input_widths d)
input_sum d ps n same e = e ∙ (ap (sum_by (λ (p : Pin). p.bits)) same ∙ sym (sum-map (λ (p : Pin). p.bits) d.inputs))

pub register_sum : (d : Netlist) (rs : List Reg) (n : ℕ) → rs ≡ d.regs → n ≡ sum_by (λ (r : Reg). r.bits) rs → n ≡ sum (register_widths d)
register_sum d rs n same e = e ∙ (ap (sum_by (λ (r : Reg). r.bits)) same ∙ sym (sum-map (λ (r : Reg). r.bits) d.regs))

pub count_is : (d : Netlist) (ps : List Pin) (rs : List Reg) (ms xs : List Mem) (a b c : ℕ) → ps ≡ d.inputs → rs ≡ d.regs → ms ≡ xs → d.mems ≡ map memory_of xs → a ≡ sum_by (λ (p : Pin). p.bits) ps → b ≡ sum_by (λ (r : Reg). r.bits) rs
    → c ≡ sum_by memory_size (map memory_of ms) → a + (b + c) ≡ bit_count d
count_is d ps rs ms xs a b c inputs regs same mems i r m =
    let A : a ≡ sum (input_widths d) = input_sum d ps a inputs i in
    let B : b ≡ sum (register_widths d) = register_sum d rs b regs r in
    let C : c ≡ sum_by memory_size d.mems = m ∙ ap (sum_by memory_size) (ap (map memory_of) same ∙ sym mems) in
    ap (λ z. z + (b + c)) A ∙ ap (λ z. sum (input_widths d) + z) (ap (λ z. z + c) B ∙ ap (λ z. sum (register_widths d) + z) C)

pub few_words : (d : Netlist) (ms xs : List Mem) (n : ℕ) → ms ≡ xs → d.mems ≡ map memory_of xs → n ≡ bit_count d → n ≤ 65536 → sum_by memory_size (map memory_of ms) ≤ 65536
few_words d ms xs n same mems h low =
    let C : sum_by memory_size (map memory_of ms) ≡ sum_by memory_size d.mems = ap (sum_by memory_size) (ap (map memory_of) same ∙ sym mems) in
    let e : n ≡ sum (input_widths d) + (sum (register_widths d) + sum_by memory_size d.mems) = h in
    omega (arith, C, e, low)

pub weight_is : (d : Netlist) (ms xs : List Mem) (a b : ℕ) → ms ≡ xs → d.mems ≡ map memory_of xs → a ≡ sum_by (wire_weight d) d.wires → b ≡ sum_by ports_weight (map memory_of ms) → a + b ≡ weight d
weight_is d ms xs a b same mems A B = ap (λ z. z + b) A ∙ ap (λ z. sum_by (wire_weight d) d.wires + z) (B ∙ ap (sum_by ports_weight) (ap (map memory_of) same ∙ sym mems))

pub parts_few : (d : Netlist) → bit_count d ≤ 65536 → sum (input_widths d) + (sum (register_widths d) + sum_by memory_size d.mems) ≤ 65536
parts_few d h = h
