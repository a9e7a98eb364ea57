-- How large the graph of a circuit gets, and which circuits are rejected.
use Rattle.std.specs.Prelude.{◌≡◌, ◌⊎◌, ℕ, zero, suc, ◌+◌, ◌*◌, ◌^◌, ◌<◌, ◌≤◌, max, List, [], ◌∷◌, length, sum}
use Rattle.std.specs.List.{sum_by}
use Rattle.hls_base.specs.declared.refusal.Refusal.{Refusal}
use Rattle.hls_base.specs.TextPlaces.{text_start}
use Rattle.rtl_core.specs.declared.design.Atom.{Atom}
use Rattle.rtl_core.specs.declared.design.Pair.{Pair}
use Rattle.rtl_core.specs.declared.design.Pair.TheVariants as pair
use Rattle.rtl_core.specs.declared.design.Net.{Net}
use Rattle.rtl_core.specs.declared.design.Net.TheVariants as net
use Rattle.rtl_core.specs.declared.design.Wire.{Wire}
use Rattle.rtl_core.specs.Netlist.{Netlist, Memory}
use Rattle.rtl_core.specs.ClockStep.{bits_of, widths, input_widths, register_widths}

-- the bits of a memory's words
abbrev pub memory_size : Memory → ℕ
memory_size m = 2 ^ m.depth_log * m.bits

-- the bits of the registers and of the words of memories
abbrev pub latch_count : Netlist → ℕ
latch_count d = sum (register_widths d) + sum_by memory_size d.mems

-- the bits of inputs, registers and memories
abbrev pub bit_count : Netlist → ℕ
bit_count d = sum (input_widths d) + latch_count d

-- of an operator whose result and operands have so many bits
abbrev pub pair_weight : Pair → ℕ → ℕ → ℕ → ℕ
pair_weight pair.Mul bits left right = bits * bits
pair_weight pair.Left bits left right = bits * right
pair_weight pair.Right bits left right = bits * right
pair_weight pair.Add bits left right = max left right
pair_weight pair.Sub bits left right = max left right
pair_weight pair.And bits left right = max left right
pair_weight pair.Or bits left right = max left right
pair_weight pair.Xor bits left right = max left right
pair_weight pair.Equal bits left right = max left right
pair_weight pair.Below bits left right = max left right

-- the bits of a memory, by its number
abbrev pub size_at : List Memory → ℕ → ℕ
size_at [] k = 0
size_at (m ∷ ms) zero = memory_size m
size_at (m ∷ ms) (suc k) = size_at ms k

-- Of an expression of so many bits. Wiring weighs nothing, a product the square of its bits, a shift its bits for each bit of the count, a word all the bits of its memory, and every other operator the bits of its widest operand.
abbrev pub net_weight : (Atom → ℕ) → List Memory → ℕ → Net → ℕ
net_weight width mems bits (net.Copy a) = 0
net_weight width mems bits (net.Not a) = 0
net_weight width mems bits (net.Two op a b) = pair_weight op bits (width a) (width b)
net_weight width mems bits (net.Pick test a b) = max (width test) (max (width a) (width b))
net_weight width mems bits (net.Join high low) = 0
net_weight width mems bits (net.Part a high low) = 0
net_weight width mems bits (net.Word mem address) = size_at mems mem

abbrev pub wire_weight : Netlist → Wire → ℕ
wire_weight d w = net_weight (bits_of (widths d)) d.mems w.bits w.net

-- each port weighs all the bits of its memory
abbrev pub ports_weight : Memory → ℕ
ports_weight m = length m.ports * memory_size m

abbrev pub weight : Netlist → ℕ
weight d = sum_by (wire_weight d) d.wires + sum_by ports_weight d.mems

abbrev pub bit_limit : ℕ
bit_limit = 65536

abbrev pub weight_limit : ℕ
weight_limit = 4194304

-- rule 70 where there are too many bits, else rule 72 where the weight is too large
abbrev pub IsBlastFault : Netlist → Refusal → Type 0
IsBlastFault d r =
    (r.place ≡ text_start)
    × (((bit_limit < bit_count d) × (r.rule ≡ 70)) ⊎ ((bit_count d ≤ bit_limit) × (weight_limit < weight d) × (r.rule ≡ 72)))

-- neither rule stands
abbrev pub IsSmall : Netlist → Type 0
IsSmall d = (bit_count d ≤ bit_limit) × (weight d ≤ weight_limit)
