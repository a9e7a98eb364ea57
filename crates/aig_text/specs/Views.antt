-- What the reader's own types stand for, and what it answers on the whole.
use Rattle.std.specs.Prelude.{ℕ, ◌≡◌, IsTrue, List, [], ◌++◌, Result, Ok, Err}
use Rattle.std.specs.List.{list_all}
use Rattle.aig_graph.specs.declared.aig.Aig.{Aig}
use Rattle.aig_graph.specs.Graphs.{AndGraph, graph_of}
use Rattle.aig_text.specs.declared.cursor.Stop.{Stop}
use Rattle.aig_text.specs.declared.read.Counts.{Counts}
use Rattle.aig_text.specs.TextForm.{in_line, IsSymbolLine, IsTail, IsText, BeginsText}
use Rattle.aig_text.specs.Reading.{SameNext, Saturates, AtStop}
use Rattle.aig_text.specs.Forms.{Head}

-- the counts of the header, of which that of the outputs may be too great for the type
pub record ShowsHead (h : Counts) (x : Head) : Type 0 where
  pub inputs : h.inputs ≡ x.inputs
  pub latches : h.latches ≡ x.latches
  pub outputs : Saturates h.outputs x.outputs
  pub gates : h.gates ≡ x.gates

-- A symbol line is taken, or the bytes end within one.
abbrev pub ReadsSymbol : Result (Unit {0}) Stop → List ℕ → List ℕ → Type 0
ReadsSymbol (Ok x) old new = (s : List ℕ) × IsSymbolLine s × (old ≡ s ++ new)
ReadsSymbol (Err e) old new = AtStop e (IsTrue (list_all in_line old) × (new ≡ []))

-- The bytes before the new ones begin what may stand behind a graph, and with the next byte, or where they end, they begin no such bytes.
pub record StopsTail (old new : List ℕ) : Type 0 where
  pub front : List ℕ
  pub cut : old ≡ front ++ new
  pub rest : List ℕ
  pub goes : IsTail (front ++ rest)
  pub stops : (w : List ℕ) → IsTail (front ++ w) → SameNext w new → ⊥

abbrev pub ReadsTail : Result (Unit {0}) Stop → List ℕ → List ℕ → Type 0
ReadsTail (Ok x) old new = IsTail old
ReadsTail (Err e) old new = AtStop e (StopsTail old new)

-- The bytes before the new ones begin a text, and with the next byte, or where they end, they are and begin none.
pub record StopsText (old new : List ℕ) : Type 0 where
  pub front : List ℕ
  pub cut : old ≡ front ++ new
  pub goes : BeginsText front
  pub stops : (g : AndGraph) (w : List ℕ) → IsText (front ++ w) g → SameNext w new → ⊥

abbrev pub ReadsWhole : Result Aig Stop → List ℕ → List ℕ → Type 0
ReadsWhole (Ok g) old new = IsText old (graph_of g)
ReadsWhole (Err e) old new = AtStop e (StopsText old new)
