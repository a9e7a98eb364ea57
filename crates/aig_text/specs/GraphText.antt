-- The text of an and-inverter graph in the ASCII form of AIGER: a header, and a line for each input, latch, output and gate.
use Rattle.std.specs.Prelude.{ℕ, zero, suc, ◌+◌, ◌*◌, ◌/◌, ◌%◌, ◌==◌, List, [], ◌∷◌, ◌++◌, length, codes, if◌then◌else◌}
use Rattle.aig_graph.specs.declared.aig.Gate.{Gate}
use Rattle.aig_graph.specs.Graphs.{AndGraph, variable_count}

-- the last decimal digits of n, at most k of them, and no leading zero
abbrev pub last_digits : ℕ → ℕ → List ℕ
last_digits zero n = []
last_digits (suc k) n = if n / 10 == 0 then (48 + n) ∷ [] else last_digits k (n / 10) ++ ((48 + n % 10) ∷ [])

-- all decimal digits of n
unfoldable pub numeral : ℕ → List ℕ
numeral n = last_digits (suc n) n

-- a number and the byte behind it
abbrev pub number_text : ℕ → ℕ → List ℕ
number_text end n = numeral n ++ (end ∷ [])

-- numbers with one space between them, and the end of the line
abbrev pub line : List ℕ → List ℕ
line [] = codes "\n"
line (n ∷ []) = number_text 10 n
line (n ∷ ns) = number_text 32 n ++ line ns

-- a line for each of these, which are numbered from k on
abbrev pub lines_from : {A : Type 0} → (ℕ → A → List ℕ) → ℕ → List A → List ℕ
lines_from text k [] = []
lines_from text k (x ∷ xs) = text k x ++ lines_from text (suc k) xs

-- the lines of this many inputs, of which the first is variable k
abbrev pub input_lines : ℕ → ℕ → List ℕ
input_lines k zero = []
input_lines k (suc count) = line (2 * k ∷ []) ++ input_lines (suc k) count

-- the latch that is variable k, and its next literal
abbrev pub latch_line : ℕ → ℕ → List ℕ
latch_line k next = line (2 * k ∷ next ∷ [])

abbrev pub output_line : ℕ → List ℕ
output_line literal = line (literal ∷ [])

-- the gate that is variable k
abbrev pub gate_line : ℕ → Gate → List ℕ
gate_line k g = line (2 * k ∷ g.left ∷ g.right ∷ [])

-- `aag M I L O A`
abbrev pub header : ℕ → ℕ → ℕ → ℕ → ℕ → List ℕ
header m i l o a = codes "aag " ++ line (m ∷ i ∷ l ∷ o ∷ a ∷ [])

abbrev pub graph_header : AndGraph → List ℕ
graph_header g = header (variable_count g) g.inputs (length g.latches) (length g.outputs) (length g.ands)

abbrev pub graph_text : AndGraph → List ℕ
graph_text g =
    graph_header g
    ++ (input_lines 1 g.inputs
    ++ (lines_from latch_line (g.inputs + 1) g.latches
    ++ (lines_from (λ k. output_line) 0 g.outputs
    ++ lines_from gate_line (g.inputs + length g.latches + 1) g.ands)))
