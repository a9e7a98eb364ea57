-- What a simulator holds, and the numbers that it is given.
use Rattle.std.specs.Prelude.{ℕ, ◌+◌, ◌%◌, ◌^◌, List, [], ◌∷◌, length, map, take, drop}
use Rattle.rtl_core.specs.Netlist.{Netlist, Memory}
use Rattle.rtl_core.specs.ClockStep.{State, input_widths, register_widths}

-- a circuit and what its registers and memories hold
pub record Simulation : Type 0 where
  pub netlist : Netlist
  pub state : State

-- each number modulo 2 to the power of its width
abbrev pub modulo_widths : List ℕ → List ℕ → List ℕ
modulo_widths [] xs = []
modulo_widths (bits ∷ widths) [] = []
modulo_widths (bits ∷ widths) (x ∷ xs) = x % 2 ^ bits ∷ modulo_widths widths xs

-- the values of the inputs where these numbers are given
abbrev pub reduced_pins : Netlist → List ℕ → List ℕ
reduced_pins d pins = modulo_widths (input_widths d) pins

-- how many words memories have together
abbrev pub word_count : List Memory → ℕ
word_count [] = 0
word_count (m ∷ ms) = 2 ^ m.depth_log + word_count ms

-- how many numbers a power-up has: one for each register, and then one for each word, memory by memory
abbrev pub contents_count : Netlist → ℕ
contents_count d = length d.regs + word_count d.mems

abbrev pub words_modulo : ℕ → List ℕ → List ℕ
words_modulo bits xs = map (λ x. x % 2 ^ bits) xs

abbrev pub powered_words : List Memory → List ℕ → List (List ℕ)
powered_words [] xs = []
powered_words (m ∷ ms) xs = words_modulo m.bits (take (2 ^ m.depth_log) xs) ∷ powered_words ms (drop (2 ^ m.depth_log) xs)

-- what registers and memories hold after a power-up with these numbers
abbrev pub powered_up : Netlist → List ℕ → State
powered_up d xs = record { regs = modulo_widths (register_widths d) (take (length d.regs) xs); mems = powered_words d.mems (drop (length d.regs) xs) }
