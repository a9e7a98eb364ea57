-- Which bytes are the text of a graph, and where other bytes are refused.
use Rattle.std.specs.Prelude.{ℕ, ◌+◌, ◌<◌, ◌≤◌, ◌≡◌, ◌⊎◌, Bool, not, ◌||◌, ◌==◌, IsTrue, List, [], ◌∷◌, ◌++◌, length, take, codes, if◌then◌else◌, nat_le}
use Rattle.std.specs.List.{All, list_all, concat}
use Rattle.hls_base.specs.declared.place.Place.{Place}
use Rattle.hls_base.specs.declared.refusal.Refusal.{Refusal}
use Rattle.hls_base.specs.TextPlaces.{place_after, text_start}
use Rattle.aig_graph.specs.Graphs.{AndGraph, IsValid}
use Rattle.aig_text.specs.GraphText.{graph_text}

-- ---- symbols and comments

-- a byte other than LF
abbrev pub in_line : ℕ → Bool
in_line c = not (c == 10)

-- `i`, `l` and `o` begin a symbol line
abbrev pub begins_symbol : ℕ → Bool
begins_symbol c = (c == 105) || ((c == 108) || (c == 111))

pub record IsSymbolLine (bytes : List ℕ) : Type 0 where
  pub head : ℕ
  pub name : List ℕ
  pub begins : IsTrue (begins_symbol head)
  pub one_line : IsTrue (list_all in_line name)
  pub whole : bytes ≡ head ∷ (name ++ codes "\n")

-- nothing, or all from the line `c` on
abbrev pub IsComment : List ℕ → Type 0
IsComment bytes = (bytes ≡ []) ⊎ ((rest : List ℕ) × (bytes ≡ codes "c\n" ++ rest))

-- what may stand behind a graph and says nothing of it: symbol lines, and then a comment
pub record IsTail (bytes : List ℕ) : Type 0 where
  pub lines : List (List ℕ)
  pub comment : List ℕ
  pub symbols : All IsSymbolLine lines
  pub ends : IsComment comment
  pub whole : bytes ≡ concat lines ++ comment

-- ---- texts

-- the bytes are a text of this graph
pub record IsText (bytes : List ℕ) (g : AndGraph) : Type 0 where
  pub valid : IsValid g
  pub tail : List ℕ
  pub dropped : IsTail tail
  pub whole : bytes ≡ graph_text g ++ tail

-- some text goes on behind these bytes, or ends with them
pub record BeginsText (front : List ℕ) : Type 0 where
  pub graph : AndGraph
  pub rest : List ℕ
  pub is : IsText (front ++ rest) graph

-- the first byte, by its index, at which no text continues; the length, where the bytes end too early
pub record IsFirstBadByte (bytes : List ℕ) (k : ℕ) : Type 0 where
  pub inside : k ≤ length bytes
  pub before : BeginsText (take k bytes)
  pub at_byte : k < length bytes → BeginsText (take (k + 1) bytes) → ⊥
  pub at_end : (g : AndGraph) → k ≡ length bytes → IsText bytes g → ⊥

-- ---- refusals

abbrev pub capped : ℕ → ℕ
capped n = if nat_le n 4294967295 then n else 4294967295

-- the place with its line and column at most 4,294,967,295
abbrev pub capped_place : Place → Place
capped_place p = record { line = capped p.line; column = capped p.column; part = p.part }

-- why bytes that are no text are refused, under rule 71
abbrev pub IsRefusedAs : List ℕ → Refusal → Type 0
IsRefusedAs bytes why = (why.rule ≡ 71) × ((k : ℕ) × IsFirstBadByte bytes k × (why.place ≡ capped_place (place_after text_start (take k bytes))))
