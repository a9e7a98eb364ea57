-- The sorts of texts of which a graph's text is made.
use Rattle.std.specs.Prelude.{ℕ, suc, ◌+◌, ◌*◌, ◌<◌, ◌≤◌, ◌≡◌, List, [], ◌∷◌, length}
use Rattle.aig_graph.specs.declared.aig.Gate.{Gate}
use Rattle.aig_graph.specs.Graphs.{AndGraph, IsValid}
use Rattle.aig_text.specs.GraphText as text
use Rattle.aig_text.specs.GraphText.{line, lines_from}
use Rattle.aig_text.specs.Reading.{Texts}

-- the counts of a header
pub record Head : Type 0 where
  pub inputs : ℕ
  pub latches : ℕ
  pub outputs : ℕ
  pub gates : ℕ

abbrev pub variables : Head → ℕ
variables h = h.inputs + h.latches + h.gates

abbrev pub head : Texts Head
head = record { Is = λ h. variables h ≤ 2147483647; text = λ h. text.header (variables h) h.inputs h.latches h.outputs h.gates }

abbrev pub input : ℕ → Texts (Unit {0})
input k = record { Is = λ x. Unit {0}; text = λ x. line (2 * k ∷ []) }

-- the latch that is variable k, where literals are at most so high
abbrev pub latch : ℕ → ℕ → Texts ℕ
latch high k = record { Is = λ n. n ≤ high; text = text.latch_line k }

abbrev pub output : ℕ → ℕ → Texts ℕ
output high k = record { Is = λ n. n ≤ high; text = text.output_line }

-- the gate that is variable k
abbrev pub gate : ℕ → Texts Gate
gate k = record { Is = λ g. (g.left < 2 * k) × (g.right < 2 * k); text = text.gate_line k }

-- each is a row of its number
abbrev pub AreRows : {A : Type 0} → (ℕ → Texts A) → ℕ → List A → Type 0
AreRows row k [] = Unit {0}
AreRows row k (x ∷ xs) = (row k).Is x × AreRows row (suc k) xs

-- this many rows, which are numbered from k on
abbrev pub rows : {A : Type 0} → (ℕ → Texts A) → ℕ → ℕ → Texts (List A)
rows row k count = record { Is = λ xs. (length xs ≡ count) × AreRows row k xs; text = lines_from (λ i. (row i).text) k }

abbrev pub graph : Texts AndGraph
graph = record { Is = IsValid; text = text.graph_text }
