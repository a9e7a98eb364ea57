-- What a run of an expanded program is.
use Rattle.std.specs.Prelude.{ℕ, zero, suc, ◌+◌, ◌==◌, List, [], ◌∷◌, map, drop, ℤ, slice_get, slice_index, Option, Some, None, if◌then◌else◌}
use Rattle.hls_base.specs.FileScope.{FileScope}
use Rattle.hls_base.specs.ArrayAddress.{element_count}
use Rattle.hls_base.specs.declared.number.VarId.{VarId}
use Rattle.hls_base.specs.declared.number.Kept.{Kept}
use Rattle.hls_base.specs.declared.point.Point.{Point}
use Rattle.c_token.specs.declared.ctype.CType.{CType}
use Rattle.c_value.specs.Values.{pattern, number_of}
use Rattle.c_meaning.specs.Run.{Answer, ended, undefined, running, word_of, head_or_none}
use Rattle.pieces.specs.Program.{ArrayTree, ExpandedTree}
use Rattle.hls_base.specs.Steps as Steps
use Rattle.hls_base.specs.Steps.{Outcome, Ran}
use Rattle.c_meaning.specs.PieceRuns.Values.{Store, with_variable}
use Rattle.c_meaning.specs.PieceRuns.Pieces.{Frame, Way, type_of, pieces_run}

abbrev pub frame_of : ExpandedTree → Frame
frame_of e = record { variables = e.variables; arrays = e.arrays }

abbrev pub type_in : ExpandedTree → VarId → CType
type_in e v = type_of (slice_get e.variables v.0)

-- ---- what is there at first

-- these variables have these words, as numbers of their types
abbrev pub with_words : ExpandedTree → List VarId → List ℕ → Store → Store
with_words e [] words t = t
with_words e (v ∷ vs) words t = with_words e vs (drop 1 words) (with_variable v.0 (word_of (type_in e v) words) t)

abbrev pub variables_of : List Kept → List VarId
variables_of kept = map (λ k. k.variable) kept

-- the elements of this array are these words
abbrev pub row_of : CType → List ℕ → ℕ → ℤ
row_of k words i = number_of k (slice_index words i)

abbrev pub with_array : ℕ → CType → List ℕ → Store → Store
with_array a k words t = record t { elements = λ b. if a == b then row_of k words else t.elements b }

-- The arrays of the host have what it gives, tables what their initialisers give, and the other arrays of file scope what file scope keeps.
abbrev pub with_kept : Option (List ℕ) → ℕ → CType → List (List ℕ) → Store → Store
with_kept None i k file t = t
with_kept (Some initial) i k file t = with_array i k (head_or_none file) t

abbrev pub rest_kept : Option (List ℕ) → List (List ℕ) → List (List ℕ)
rest_kept None file = file
rest_kept (Some initial) file = drop 1 file

abbrev pub with_table : Option (List ℕ) → ℕ → CType → Store → Store
with_table None i k t = t
with_table (Some words) i k t = with_array i k words t

abbrev pub with_arrays : List ArrayTree → ℕ → List (List ℕ) → List (List ℕ) → Store → Store
with_arrays [] i host file t = t
with_arrays (a ∷ rest) i host file t =
    if a.host then with_arrays rest (i + 1) (drop 1 host) file (with_array i a.kind (head_or_none host) t)
    else with_arrays rest (i + 1) host (rest_kept a.initial file) (with_table a.table i a.kind (with_kept a.initial i a.kind file t))

-- All other variables and elements have the contents that they happen to have.
abbrev pub started : ExpandedTree → Store → FileScope → List ℕ → List (List ℕ) → Store
started e first kept scalars arrays =
    with_arrays e.arrays 0 arrays kept.arrays (with_words e (variables_of e.kept) kept.scalars (with_words e e.params scalars first))

-- ---- what is left

abbrev pub words_from : ℕ → ℕ → CType → (ℕ → ℤ) → List ℕ
words_from zero i k row = []
words_from (suc count) i k row = pattern k (row i) ∷ words_from count (i + 1) k row

abbrev pub words_of : ArrayTree → (ℕ → ℤ) → List ℕ
words_of a row = words_from (element_count a.lengths) 0 a.kind row

abbrev pub host_arrays : List ArrayTree → ℕ → Store → List (List ℕ)
host_arrays [] i t = []
host_arrays (a ∷ rest) i t = if a.host then words_of a (t.elements i) ∷ host_arrays rest (i + 1) t else host_arrays rest (i + 1) t

abbrev pub if_kept : Option (List ℕ) → List ℕ → List (List ℕ) → List (List ℕ)
if_kept None words rest = rest
if_kept (Some initial) words rest = words ∷ rest

abbrev pub kept_arrays : List ArrayTree → ℕ → Store → List (List ℕ)
kept_arrays [] i t = []
kept_arrays (a ∷ rest) i t = if_kept a.initial (words_of a (t.elements i)) (kept_arrays rest (i + 1) t)

abbrev pub kept_of : ExpandedTree → Store → FileScope
kept_of e t = record { scalars = map (λ k. pattern (type_in e k.variable) (t.variables k.variable.0)) e.kept; arrays = kept_arrays e.arrays 0 t }

abbrev pub result_word : ExpandedTree → Option CType → Option VarId → Store → Option ℕ
result_word e None v t = None
result_word e (Some k) None t = None
result_word e (Some k) (Some v) t = Some (pattern k (t.variables v.0))

-- ---- runs

abbrev pub answer_of : ExpandedTree → List Point → Outcome Store Way → Answer
answer_of e trace (Steps.went w t n) = ended (result_word e e.ret e.result t) (host_arrays e.arrays 0 t) (kept_of e t) trace
answer_of e trace (Steps.undefined rule at) = undefined rule at
answer_of e trace Steps.waiting = running

abbrev pub answer : ExpandedTree → Ran Store Way → Answer
answer e r = answer_of e r.trace r.outcome

-- The run of an expanded program, from these contents of file scope, with these arguments, and whatever else variables and elements hold at first, passing at most n points.
abbrev pub pieces_answer : ExpandedTree → Store → FileScope → List ℕ → List (List ℕ) → ℕ → Answer
pieces_answer e first kept scalars arrays n = answer e (pieces_run (frame_of e) e.pieces (started e first kept scalars arrays) n)
