-- An instruction gives its wire's value.
use Rattle.std.proofs.Common.{◌≡◌, ◌≢◌, ◌<◌, ◌≤◌, ℕ, zero, suc, ◌+◌, ◌-◌, ◌*◌, ◌/◌, ◌%◌, ◌^◌, ◌==◌, cond, List, [], ◌∷◌, ◌++◌, length, set, get_or, length-append, take, drop, replicate, append_assoc, rules, refl, sym, ap, ◌∙◌, subst, arith}
use Rattle.std.proofs.lemmas.Option.{slice_get_within}
use Rattle.std.proofs.lemmas.List.{length-map, length-replicate, drop-replicate, length-take-le, take_more}
use Rattle.std.proofs.lemmas.Grind.{common_steps}
use Rattle.std.proofs.Math.Seq.{take-append_seam, drop-append_seam, drop-append-add}
use Rattle.verilog_cycle.proofs.Passes.{drop_next}
use Rattle.std.proofs.Math.Nat.{mod-eq_of_lt}
use Rattle.rtl_core.specs.declared.design.Atom.TheVariants as atom
use Rattle.rtl_core.specs.declared.design.Pin.{Pin}
use Rattle.rtl_core.specs.declared.design.Reg.{Reg}
use Rattle.rtl_core.specs.declared.design.Atom.{Atom}
use Rattle.rtl_core.specs.declared.design.Net.{Net}
use Rattle.rtl_core.specs.declared.design.Net.TheVariants as net
use Rattle.rtl_core.specs.declared.design.Wire.{Wire}
use Rattle.rtl_core.specs.Netlist.{Netlist}
use Rattle.rtl_core.specs.ClockStep.{widths, wire_widths, input_widths, register_widths, bits_of, pair_value, word_at, net_value, AreMemories}
use Rattle.rtl_core.specs.Valid.{HasBits, OperandsFit, NetFits}
use Rattle.rtl_core.proofs.Fits.{fit_length, words_of, width_is}
use Rattle.verilog_cycle.specs.declared.values.Values.{Values}
use Rattle.verilog_cycle.specs.declared.program.Source.{Source}
use Rattle.verilog_cycle.specs.declared.program.Source.TheVariants as source
use Rattle.verilog_cycle.specs.declared.program.Step.{Step}
use Rattle.verilog_cycle.specs.declared.program.Step.TheVariants as step
use Rattle.verilog_cycle.specs.declared.program.Instruction.{Instruction}
use Rattle.verilog_cycle.specs.Inside.{value_in, IsThere, IsWord, AreValues}
use Rattle.verilog_cycle.specs.Program.{IsCell, IsSource, Reads, IsStep, IsInstruction}
use Rattle.verilog_cycle.specs.Running.{low_words, cells_of, AreCells, source_value, IsRead, CanRun, step_value}
use Rattle.verilog_cycle.proofs.Widths.{is_word, within, below_power, operands_have, memories_length, as_net, net_within}

-- ---- cells

get_front : (xs ys : List ℕ) (k : ℕ) → k < length xs → get_or (xs ++ ys) k 0 ≡ get_or xs k 0
get_front [] ys k h = absurd (omega (arith, h))
get_front (x ∷ xs) ys zero h = refl
get_front (x ∷ xs) ys (suc k) h = get_front xs ys k (omega (arith, h))

get_behind : (xs ys : List ℕ) (k : ℕ) → get_or (xs ++ ys) (length xs + k) 0 ≡ get_or ys k 0
get_behind [] ys k = let e : 0 + k ≡ k = omega arith in ap (λ n. get_or ys n 0) e
get_behind (x ∷ xs) ys k = let e : suc (length xs) + k ≡ suc (length xs + k) = omega arith in ap (λ n. get_or (x ∷ (xs ++ ys)) n 0) e ∙ get_behind xs ys k

get_low : (xs : List ℕ) (k : ℕ) → k < length xs → get_or xs k 0 < 2 ^ 64 → get_or (low_words xs) k 0 ≡ get_or xs k 0
get_low [] k h l = absurd (omega (arith, h))
get_low (x ∷ xs) zero h l = mod-eq_of_lt l
get_low (x ∷ xs) (suc k) h l = get_low xs k (omega (arith, h)) l

cells_length : (v : Values) → length (cells_of v) ≡ length v.pins.items + (length v.regs.items + length v.wires.items)
cells_length v =
    length-append v.pins.items (v.regs.items ++ low_words v.wires.items)
    ∙ ap (λ n. length v.pins.items + n) (length-append v.regs.items (low_words v.wires.items) ∙ ap (λ n. length v.regs.items + n) (length-map v.wires.items (λ x. x % 2 ^ 64)))

-- how many values there are
record Counts (d : Netlist) (v : Values) : Type 0 where
  pins : length v.pins.items ≡ length d.inputs
  regs : length v.regs.items ≡ length d.regs

counts : (d : Netlist) (v : Values) → AreValues d v → Counts d v
counts d v are = record {
  pins = sym (fit_length (input_widths d) v.pins.items are.pins) ∙ length-map d.inputs (λ (p : Pin). p.bits);
  regs = sym (fit_length (register_widths d) v.regs.items are.regs) ∙ length-map d.regs (λ (r : Reg). r.bits);
}

wire_count : (d : Netlist) (v : Values) → AreValues d v → length v.wires.items ≡ length d.wires
wire_count d v are = sym (fit_length (wire_widths d.wires) v.wires.items are.wires) ∙ length-map d.wires (λ (w : Wire). w.bits)

cell_within : (d : Netlist) (v : Values) → AreValues d v → (a : Atom) (i : ℕ) → IsThere v a → IsCell d a i → i < length (cells_of v)
cell_within d v are (atom.Constant bits value) i h c = absurd c
cell_within d v are (atom.Input k) i h c = let e = cells_length v in omega (arith, h, c, e)
cell_within d v are (atom.Reg k) i h c = let e = cells_length v in let n = counts d v are in let p = n.pins in omega (arith, h, c, e, p)
cell_within d v are (atom.Wire k) i h c = let e = cells_length v in let n = counts d v are in let p = n.pins in let r = n.regs in omega (arith, h, c, e, p, r)

cell_value : (d : Netlist) (v : Values) → AreValues d v → (a : Atom) (i : ℕ) → IsWord v a → IsCell d a i → get_or (cells_of v) i 0 ≡ value_in v a
cell_value d v are (atom.Constant bits value) i h c = absurd c
cell_value d v are (atom.Input k) i h c = ap (λ n. get_or (cells_of v) n 0) c ∙ get_front v.pins.items (v.regs.items ++ low_words v.wires.items) k h.0
cell_value d v are (atom.Reg k) i h c =
    let n = counts d v are in
    ap (λ m. get_or (cells_of v) m 0) (c ∙ ap (λ m. m + k) (sym n.pins))
    ∙ (get_behind v.pins.items (v.regs.items ++ low_words v.wires.items) k ∙ get_front v.regs.items (low_words v.wires.items) k h.0)
cell_value d v are (atom.Wire k) i h c =
    let n = counts d v are in
    ap (λ m. get_or (cells_of v) m 0) (c ∙ (ap (λ m. m + (length d.regs + k)) (sym n.pins) ∙ ap (λ m. length v.pins.items + (m + k)) (sym n.regs)))
    ∙ (get_behind v.pins.items (v.regs.items ++ low_words v.wires.items) (length v.regs.items + k)
    ∙ (get_behind v.regs.items (low_words v.wires.items) k ∙ get_low v.wires.items k h.0 h.1))

-- ---- sources

source_there : (d : Netlist) (v : Values) → AreValues d v → (a : Atom) (s : Source) → IsThere v a → IsSource d a s → IsRead (cells_of v) s
source_there d v are a (source.Constant bits value) h r = tt
source_there d v are a (source.Cell i) h r = cell_within d v are a i h r

source_same : (d : Netlist) (v : Values) → AreValues d v → (a : Atom) (s : Source) → IsWord v a → IsSource d a s → source_value (cells_of v) s ≡ value_in v a
source_same d v are a (source.Constant bits value) h r = sym (ap (value_in v) r)
source_same d v are a (source.Cell i) h r = cell_value d v are a i h r

word : (d : Netlist) (v : Values) → AreValues d v → (n : ℕ) (a : Atom) (s : Source) → HasBits (widths d) n a → Reads d a s → IsWord v a
word d v are n a s h r = is_word d v are n a (subst (λ m. m ≤ 64) (width_is (widths d) n a h) r.narrow) h

read : (d : Netlist) (v : Values) → AreValues d v → (n : ℕ) (a : Atom) (s : Source) → HasBits (widths d) n a → Reads d a s → IsRead (cells_of v) s
read d v are n a s h r = source_there d v are a s (word d v are n a s h r).0 r.same

same_value : (d : Netlist) (v : Values) → AreValues d v → (n : ℕ) (a : Atom) (s : Source) → HasBits (widths d) n a → Reads d a s → source_value (cells_of v) s ≡ value_in v a
same_value d v are n a s h r = source_same d v are a s (word d v are n a s h r) r.same

-- ---- what is needed to run a step

can_run : (d : Netlist) (v : Values) (mems : List (List ℕ)) → AreValues d v → AreMemories d.mems mems → (n : ℕ) (e : Net) (s : Step) → n ≤ 64 → NetFits (widths d) d.mems n e → IsStep d e s → s ≢ step.Wide → CanRun (cells_of v) mems n s
can_run d v mems are words n e (step.Copy x) l fits is some = read d v are n is.0 x (as_net d n e (net.Copy is.0) is.1 fits) is.2
can_run d v mems are words n e (step.Not x) l fits is some =
    let h = as_net d n e (net.Not is.0) is.1 fits in
    (read d v are n is.0 x h is.2, subst (λ y. y < 2 ^ n) (sym (same_value d v are n is.0 x h is.2)) (within d v are n is.0 h))
can_run d v mems are words n e (step.Two op x y) l fits is some =
    let h = as_net d n e (net.Two op is.0 is.1) is.2 fits in
    let have = operands_have op n (λ m. HasBits (widths d) m is.0) (λ m. HasBits (widths d) m is.1) h in (
      read d v are have.0.0 is.0 x have.0.1 is.3,
      read d v are have.1.0 is.1 y have.1.1 is.4,
      λ sub. subst (λ z. z < 2 ^ n) (sym (same_value d v are have.1.0 is.1 y have.1.1 is.4)) (within d v are n is.1 (subst (λ o. OperandsFit o n (λ m. HasBits (widths d) m is.0) (λ m. HasBits (widths d) m is.1)) sub h).1),
    )
can_run d v mems are words n e (step.Pick x y z) l fits is some =
    let h = as_net d n e (net.Pick is.0 is.1 is.2) is.3 fits in
    (read d v are 1 is.0 x h.0 is.4, read d v are n is.1 y h.1 is.5, read d v are n is.2 z h.2 is.6)
can_run d v mems are words n e (step.Join x y low) l fits is some =
    let h = as_net d n e (net.Join is.0 is.1) is.2 fits in
    let lt = below_power (value_in v is.0 * 2 ^ bits_of (widths d) is.1 + value_in v is.1) n 64 (net_within d v mems are words n (net.Join is.0 is.1) h) l in (
      read d v are h.0 is.0 x h.2 is.3,
      read d v are h.1 is.1 y h.3 is.4,
      subst (λ a. a * 2 ^ low + source_value (cells_of v) y < 2 ^ 64) (sym (same_value d v are h.0 is.0 x h.2 is.3))
          (subst (λ k. value_in v is.0 * 2 ^ k + source_value (cells_of v) y < 2 ^ 64) (sym is.5)
          (subst (λ b. value_in v is.0 * 2 ^ bits_of (widths d) is.1 + b < 2 ^ 64) (sym (same_value d v are h.1 is.1 y h.3 is.4)) lt)),
    )
can_run d v mems are words n e (step.Part x low) l fits is some =
    let h = as_net d n e (net.Part is.0 is.1 low) is.2 fits in
    read d v are h.1.0 is.0 x h.1.1 is.3
can_run d v mems are words n e (step.Word mem x) l fits is some =
    let h = as_net d n e (net.Word mem is.0) is.1 fits in
    let inside = slice_get_within d.mems mem h.0 h.1 in
    let same = memories_length d.mems mems words in
    let count = (words_of d.mems mems words mem h.0 h.1).count in (
      read d v are h.0.depth_log is.0 x h.2.wide is.2,
      omega (arith, inside, same),
      subst (λ a. a < length (get_or mems mem [])) (sym (same_value d v are h.0.depth_log is.0 x h.2.wide is.2)) (subst (λ m. value_in v is.0 < m) (sym count) (within d v are h.0.depth_log is.0 h.2.wide)),
    )
can_run d v mems are words n e step.Wide l fits is some = absurd (some refl)

-- ---- what a step gives

gives : (d : Netlist) (v : Values) (mems : List (List ℕ)) → AreValues d v → (n : ℕ) (e : Net) (s : Step) → NetFits (widths d) d.mems n e → IsStep d e s → s ≢ step.Wide
    → step_value (cells_of v) mems n s ≡ net_value (bits_of (widths d)) (value_in v) mems n e
gives d v mems are n e (step.Copy x) fits is some =
    let h = as_net d n e (net.Copy is.0) is.1 fits in
    same_value d v are n is.0 x h is.2 ∙ sym (ap (net_value (bits_of (widths d)) (value_in v) mems n) is.1)
gives d v mems are n e (step.Not x) fits is some =
    let h = as_net d n e (net.Not is.0) is.1 fits in
    ap (λ y. 2 ^ n - 1 - y) (same_value d v are n is.0 x h is.2) ∙ sym (ap (net_value (bits_of (widths d)) (value_in v) mems n) is.1)
gives d v mems are n e (step.Two op x y) fits is some =
    let h = as_net d n e (net.Two op is.0 is.1) is.2 fits in
    let have = operands_have op n (λ m. HasBits (widths d) m is.0) (λ m. HasBits (widths d) m is.1) h in
    ap (λ z. pair_value op n z (source_value (cells_of v) y)) (same_value d v are have.0.0 is.0 x have.0.1 is.3)
    ∙ (ap (pair_value op n (value_in v is.0)) (same_value d v are have.1.0 is.1 y have.1.1 is.4) ∙ sym (ap (net_value (bits_of (widths d)) (value_in v) mems n) is.2))
gives d v mems are n e (step.Pick x y z) fits is some =
    let h = as_net d n e (net.Pick is.0 is.1 is.2) is.3 fits in
    ap (λ t. cond (t == 1) (source_value (cells_of v) y) (source_value (cells_of v) z)) (same_value d v are 1 is.0 x h.0 is.4)
    ∙ (ap (λ t. cond (value_in v is.0 == 1) t (source_value (cells_of v) z)) (same_value d v are n is.1 y h.1 is.5)
    ∙ (ap (λ t. cond (value_in v is.0 == 1) (value_in v is.1) t) (same_value d v are n is.2 z h.2 is.6) ∙ sym (ap (net_value (bits_of (widths d)) (value_in v) mems n) is.3)))
gives d v mems are n e (step.Join x y low) fits is some =
    let h = as_net d n e (net.Join is.0 is.1) is.2 fits in
    ap (λ a. a * 2 ^ low + source_value (cells_of v) y) (same_value d v are h.0 is.0 x h.2 is.3)
    ∙ (ap (λ k. value_in v is.0 * 2 ^ k + source_value (cells_of v) y) is.5
    ∙ (ap (λ b. value_in v is.0 * 2 ^ bits_of (widths d) is.1 + b) (same_value d v are h.1 is.1 y h.3 is.4) ∙ sym (ap (net_value (bits_of (widths d)) (value_in v) mems n) is.2)))
gives d v mems are n e (step.Part x low) fits is some =
    let h = as_net d n e (net.Part is.0 is.1 low) is.2 fits in
    let wide = h.1.4 in
    let same : n ≡ is.1 + 1 - low = omega (arith, wide) in
    ap (λ y. y / 2 ^ low % 2 ^ n) (same_value d v are h.1.0 is.0 x h.1.1 is.3) ∙ (ap (λ m. value_in v is.0 / 2 ^ low % 2 ^ m) same ∙ sym (ap (net_value (bits_of (widths d)) (value_in v) mems n) is.2))
gives d v mems are n e (step.Word mem x) fits is some =
    let h = as_net d n e (net.Word mem is.0) is.1 fits in
    ap (word_at mems mem) (same_value d v are h.0.depth_log is.0 x h.2.wide is.2) ∙ sym (ap (net_value (bits_of (widths d)) (value_in v) mems n) is.1)
gives d v mems are n e step.Wide fits is some = absurd (some refl)

-- ---- instructions

pub instruction_runs : (d : Netlist) (v : Values) (mems : List (List ℕ)) → AreValues d v → AreMemories d.mems mems → (x : Wire) (i : Instruction) → NetFits (widths d) d.mems x.bits x.net → IsInstruction d x i → i.step ≢ step.Wide → CanRun (cells_of v) mems i.bits i.step
instruction_runs d v mems are words x i fits is some =
    subst (λ n. CanRun (cells_of v) mems n i.step) (sym is.bits) (can_run d v mems are words x.bits x.net i.step (is.narrow some) fits is.step some)

pub instruction_gives : (d : Netlist) (v : Values) (mems : List (List ℕ)) → AreValues d v → (x : Wire) (i : Instruction) → NetFits (widths d) d.mems x.bits x.net → IsInstruction d x i → i.step ≢ step.Wide
    → step_value (cells_of v) mems i.bits i.step ≡ net_value (bits_of (widths d)) (value_in v) mems x.bits x.net
instruction_gives d v mems are x i fits is some = ap (λ n. step_value (cells_of v) mems n i.step) is.bits ∙ gives d v mems are x.bits x.net i.step fits is.step some

-- where a program has none
abbrev pub no_instruction : Instruction
no_instruction = record { bits = 0; step = step.Copy (source.Constant 0 0) }

-- ---- one cell more is written

set_front : (xs ys : List ℕ) (k y : ℕ) → k < length xs → set (xs ++ ys) k y ≡ set xs k y ++ ys
set_front [] ys k y h = absurd (omega (arith, h))
set_front (x ∷ xs) ys zero y h = refl
set_front (x ∷ xs) ys (suc k) y h = ap (λ z. x ∷ z) (set_front xs ys k y (omega (arith, h)))

set_behind : (xs ys : List ℕ) (k y : ℕ) → set (xs ++ ys) (length xs + k) y ≡ xs ++ set ys k y
set_behind [] ys k y = let e : 0 + k ≡ k = omega arith in ap (λ n. set ys n y) e
set_behind (x ∷ xs) ys k y = let e : suc (length xs) + k ≡ suc (length xs + k) = omega arith in ap (λ n. set (x ∷ (xs ++ ys)) n y) e ∙ ap (λ z. x ∷ z) (set_behind xs ys k y)

set_low : (xs : List ℕ) (k y : ℕ) → set (low_words xs) k (y % 2 ^ 64) ≡ low_words (set xs k y)
set_low [] k y = refl
set_low (x ∷ xs) zero y = refl
set_low (x ∷ xs) (suc k) y = ap (λ z. x % 2 ^ 64 ∷ z) (set_low xs k y)

pub cell_written : (pins regs wires cells after : List ℕ) (first k y word : ℕ) → cells ≡ pins ++ (regs ++ low_words wires) → first ≡ length pins + length regs → word ≡ y % 2 ^ 64 → after ≡ set cells (first + k) word
    → after ≡ pins ++ (regs ++ low_words (set wires k y))
cell_written pins regs wires cells after first k y word e f low is =
    let at : first + k ≡ length pins + (length regs + k) = omega (arith, f) in
    is ∙ (ap (set cells (first + k)) low ∙ (ap (λ c. set c (first + k) (y % 2 ^ 64)) e ∙ (ap (λ n. set (pins ++ (regs ++ low_words wires)) n (y % 2 ^ 64)) at
    ∙ (set_behind pins (regs ++ low_words wires) (length regs + k) (y % 2 ^ 64) ∙ ap (λ z. pins ++ z) (set_behind regs (low_words wires) k (y % 2 ^ 64) ∙ ap (λ z. regs ++ z) (set_low wires k y))))))

-- the first wire's cell
pub first_wire : (d : Netlist) (v : Values) (cells : List ℕ) (wires : ℕ) → AreValues d v → cells ≡ cells_of v → wires ≡ length d.wires
    → (wires ≤ length cells) × (length cells - wires ≡ length v.pins.items + length v.regs.items)
first_wire d v cells wires are e n =
    let m = wire_count d v are in
    let l = ap length e ∙ cells_length v in
    (omega (arith, l, m, n), omega (arith, l, m, n))

-- ---- words are written behind one another

set_at : (xs ys : List ℕ) (n y : ℕ) → length xs ≡ n → set (xs ++ ys) n y ≡ xs ++ set ys 0 y
set_at xs ys n y e = let same : n ≡ length xs + 0 = omega (arith, e) in ap (λ m. set (xs ++ ys) m y) same ∙ set_behind xs ys 0 y

pub put_more : (cells old words : List ℕ) (at k : ℕ) → k < length words → at + length words ≤ length old → cells ≡ take at old ++ (take k words ++ drop (at + k) old)
    → set cells (at + k) (get_or words k 0) ≡ take at old ++ (take (k + 1) words ++ drop (at + (k + 1)) old)
put_more cells old words at k h room e =
    let y = get_or words k 0 in
    let rest = take k words ++ drop (at + k) old in
    let front : length (take at old) ≡ at = length-take-le at old (omega (arith, room)) in
    let part : length (take k words) ≡ k = length-take-le k words (omega (arith, h)) in
    let place : at + k ≡ length (take at old) + k = omega (arith, front) in
    let after : at + k + 1 ≡ at + (k + 1) = omega arith in
    let behind : drop (at + k) old ≡ get_or old (at + k) 0 ∷ drop (at + (k + 1)) old = drop_next old (at + k) 0 (omega (arith, h, room)) ∙ ap (λ n. get_or old (at + k) 0 ∷ drop n old) after in
    let more : take (k + 1) words ≡ take k words ++ (y ∷ []) = take_more words k 0 h in
    ap (λ c. set c (at + k) y) e
    ∙ (ap (λ n. set (take at old ++ rest) n y) place
    ∙ (set_behind (take at old) rest k y
    ∙ ap (λ z. take at old ++ z) (set_at (take k words) (drop (at + k) old) k y part ∙ (ap (λ z. take k words ++ set z 0 y) behind
    ∙ (sym (append_assoc (take k words) (y ∷ []) (drop (at + (k + 1)) old)) ∙ ap (λ z. z ++ drop (at + (k + 1)) old) (sym more))))))

drop_drop : (n m : ℕ) (xs : List ℕ) → drop m (drop n xs) ≡ drop (n + m) xs
drop_drop n m xs = search (rules, common_steps)

-- both lists are written, and what stands behind them stays
pub both_put : (v : Values) (old one two : List ℕ) (p : ℕ) → AreCells v old → p ≡ length v.pins.items → one ≡ take 0 old ++ (v.pins.items ++ drop (0 + length v.pins.items) old) → two ≡ take p one ++ (v.regs.items ++ drop (p + length v.regs.items) one) → two ≡ cells_of v
both_put v old one two p are n e f =
    let pins = v.pins.items in
    let regs = v.regs.items in
    let k = length pins in
    let zero_more : 0 + k ≡ k = omega arith in
    let e' : one ≡ pins ++ drop k old = e ∙ ap (λ m. pins ++ drop m old) zero_more in
    let front : take p one ≡ pins = ap (λ m. take m one) n ∙ (ap (take k) e' ∙ take-append_seam pins (drop k old)) in
    let behind : drop (p + length regs) one ≡ low_words v.wires.items =
    ap (λ m. drop (m + length regs) one) n ∙ (ap (drop (k + length regs)) e' ∙ (drop-append-add pins (drop k old) (length regs) ∙ (drop_drop k (length regs) old ∙ are.wires))) in
    f ∙ (ap (λ z. z ++ (regs ++ drop (p + length regs) one)) front ∙ ap (λ z. pins ++ (regs ++ z)) behind)

-- ---- the cells between two cycles

pub cells_moved : (v w : Values) (cells : List ℕ) → AreCells v cells → length w.pins.items ≡ length v.pins.items → length w.regs.items ≡ length v.regs.items → w.wires.items ≡ v.wires.items → AreCells w cells
cells_moved v w cells are p r e =
    let n = ap length e in
    record {
      count = are.count ∙ omega (arith, p, r, n);
      wires = ap (λ k. drop k cells) (omega (arith, p, r)) ∙ (are.wires ∙ ap low_words (sym e));
    }

pub cells_settled : (v : Values) (cells : List ℕ) → cells ≡ cells_of v → AreCells v cells
cells_settled v cells e =
    let pins = v.pins.items in
    let regs = v.regs.items in
    let low = low_words v.wires.items in
    record {
      count = ap length e ∙ cells_length v;
      wires = ap (drop (length pins + length regs)) e ∙ (drop-append-add pins (regs ++ low) (length regs) ∙ drop-append_seam regs low);
    }

low_zeros : (n : ℕ) → low_words (replicate n 0) ≡ replicate n 0
low_zeros zero = refl
low_zeros (suc n) = ap (λ z. 0 ∷ z) (low_zeros n)

drop_zeros : (n m : ℕ) → drop {A = ℕ} n (replicate (n + m) 0) ≡ replicate m 0
drop_zeros n m = let e : n + m - n ≡ m = omega arith in drop-replicate n (n + m) 0 ∙ ap (λ k. let zeros : List ℕ = replicate k 0 in zeros) e

pub cells_new : (v : Values) (cells : List ℕ) (p r w : ℕ) → length v.pins.items ≡ p → length v.regs.items ≡ r → v.wires.items ≡ replicate w 0 → cells ≡ replicate (p + (r + w)) 0 → AreCells v cells
cells_new v cells p r w ep er ew e =
    let n : length v.wires.items ≡ w = ap length ew ∙ length-replicate w 0 in
    let sum : p + (r + w) ≡ (p + r) + w = omega arith in
    record {
      count = ap length e ∙ (length-replicate (p + (r + w)) 0 ∙ omega (arith, ep, er, n));
      wires = ap (λ k. drop k cells) (omega (arith, ep, er)) ∙ (ap (drop (p + r)) (e ∙ ap (λ k. replicate k 0) sum) ∙ (drop_zeros (p + r) w ∙ (sym (low_zeros w) ∙ ap low_words (sym ew))));
    }
