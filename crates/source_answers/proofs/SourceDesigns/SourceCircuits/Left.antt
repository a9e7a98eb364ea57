-- What a run leaves fits the program again, and so does what file scope keeps at first.
use Rattle.std.proofs.Common.{◌≡◌, ℕ, zero, suc, ◌+◌, ◌^◌, ◌<◌, ◌∙◌, sym, refl, ap, subst, ℤ, Bool, true, false, List, [], ◌∷◌, ◌++◌, map, length, drop, Option, Some, None, if◌then◌else◌}
use Rattle.std.specs.Prelude.{cond, filter, is_some}
use Rattle.std.specs.List.{All}
use Rattle.std.proofs.lemmas.List.Elements.{All-nil, All-cons, All-head, All-tail}
use Rattle.hls_base.specs.ArrayAddress.{element_count}
use Rattle.hls_base.specs.declared.number.Kept.{Kept}
use Rattle.c_token.specs.declared.ctype.CType.{CType}
use Rattle.c_value.specs.Values.{width, pattern}
use Rattle.pieces.specs.Program.{ArrayTree, ExpandedTree}
use Rattle.c_meaning.specs.PieceRuns.Values.{Store}
use Rattle.c_meaning.specs.PieceRuns.Runs.{type_in, variables_of, words_from, words_of, host_arrays, kept_arrays, if_kept}
use Rattle.ir_core.specs.FirstContents.{elements_or_none}
use Rattle.c_elaborate.specs.Homes.{Each}
use Rattle.expand_runs.specs.Laws.{AreWords}
use Rattle.c_meaning.proofs.Ranges.{pattern_below}
use Rattle.rtl_core.specs.Interface.{ArrayShape}
use Rattle.timed_pieces.specs.StartedWords.FirstWords.{FillVariables, FillsArray, FillsIfAny, HasContents}
use Rattle.timed_pieces.proofs.StartedWords.Places.{address_count}
use Rattle.compile_steps.specs.BegunPrograms.{KeptFills, FillKept}
use Rattle.datapath.specs.Plans.{Array}
use Rattle.source_answers.proofs.SourceDesigns.PlanWords.Frames.{array_in}
use Rattle.source_answers.specs.SourceDesigns.SourceCircuits.Fitting.{IsArray, FitArrays}

-- ---- rows of patterns

words_long : (count i : ℕ) (k : CType) (row : ℕ → ℤ) → length (words_from count i k row) ≡ count
words_long zero i k row = refl
words_long (suc count) i k row = ap suc (words_long count (i + 1) k row)

words_fit : (count i : ℕ) (k : CType) (row : ℕ → ℤ) → AreWords k (words_from count i k row)
words_fit zero i k row = tt
words_fit (suc count) i k row = (pattern_below k (row i), words_fit count (i + 1) k row)

row_fills : (a : ArrayTree) (row : ℕ → ℤ) → FillsArray a (words_of a row)
row_fills a row = (words_long (element_count a.lengths) 0 a.kind row, words_fit (element_count a.lengths) 0 a.kind row)

-- ---- shapes

abbrev pub shape_of : Array → ArrayShape
shape_of b = record { bits = b.bits; dims = b.dims }

-- the shapes of the arrays that the host reaches
abbrev pub shapes : List ArrayTree → List ArrayShape
shapes xs = map shape_of (filter (λ (b : Array). b.host) (map array_in xs))

all_of : (k : CType) (row : List ℕ) → AreWords k row → All (λ x. x < 2 ^ width k) row
all_of k [] h = All-nil (λ x. x < 2 ^ width k)
all_of k (x ∷ row) h = All-cons (λ x. x < 2 ^ width k) x row h.0 (all_of k row h.1)

of_all : (k : CType) (row : List ℕ) → All (λ x. x < 2 ^ width k) row → AreWords k row
of_all k [] h = tt
of_all k (x ∷ row) h = (All-head (λ x. x < 2 ^ width k) x row h, of_all k row (All-tail (λ x. x < 2 ^ width k) x row h))

pub is_array : (a : ArrayTree) (row : List ℕ) → FillsArray a row → IsArray (shape_of (array_in a)) row
is_array a row h = record { count = h.0 ∙ sym (address_count a.lengths); fit = all_of a.kind row h.1 }

pub fills_array : (a : ArrayTree) (row : List ℕ) → IsArray (shape_of (array_in a)) row → FillsArray a row
fills_array a row h = (h.count ∙ address_count a.lengths, of_all a.kind row h.fit)

-- ---- what is left

left_step : (b : Bool) (a : ArrayTree) (xs : List ArrayTree) (i : ℕ) (t : Store) → FitArrays (shapes xs) (host_arrays xs (i + 1) t)
    → FitArrays (map shape_of (cond b (array_in a ∷ filter (λ (x : Array). x.host) (map array_in xs)) (filter (λ (x : Array). x.host) (map array_in xs)))) (if b then words_of a (t.elements i) ∷ host_arrays xs (i + 1) t else host_arrays xs (i + 1) t)
left_step true a xs i t h = (is_array a (words_of a (t.elements i)) (row_fills a (t.elements i)), h)
left_step false a xs i t h = h

pub hosts_left : (xs : List ArrayTree) (i : ℕ) (t : Store) → FitArrays (shapes xs) (host_arrays xs i t)
hosts_left [] i t = tt
hosts_left (a ∷ xs) i t = left_step a.host a xs i t (hosts_left xs (i + 1) t)

kept_step : (o : Option (List ℕ)) (a : ArrayTree) (xs : List ArrayTree) (i : ℕ) (t : Store) → FillKept xs (kept_arrays xs (i + 1) t)
    → KeptFills o a (if_kept o (words_of a (t.elements i)) (kept_arrays xs (i + 1) t)) (FillKept xs (if_kept o (words_of a (t.elements i)) (kept_arrays xs (i + 1) t))) (FillKept xs (drop 1 (if_kept o (words_of a (t.elements i)) (kept_arrays xs (i + 1) t))))
kept_step None a xs i t h = h
kept_step (Some first) a xs i t h = (row_fills a (t.elements i), h)

pub rows_left : (xs : List ArrayTree) (i : ℕ) (t : Store) → FillKept xs (kept_arrays xs i t)
rows_left [] i t = refl
rows_left (a ∷ xs) i t = kept_step a.initial a xs i t (rows_left xs (i + 1) t)

pub scalars_left : (e : ExpandedTree) (ks : List Kept) (t : Store) → FillVariables e (variables_of ks) (map (λ (k : Kept). pattern (type_in e k.variable) (t.variables k.variable.0)) ks)
scalars_left e [] t = refl
scalars_left e (k ∷ ks) t = (pattern_below (type_in e k.variable) (t.variables k.variable.0), scalars_left e ks t)

-- ---- what is kept at first

first_step : (o : Option (List ℕ)) (a : ArrayTree) (xs : List ArrayTree) (rows : List (List ℕ)) → FillsIfAny a o → FillKept xs rows
    → KeptFills o a (map (λ (b : Array). elements_or_none b.first) (cond (is_some o) (record { bits = width a.kind; dims = a.lengths; table = a.table; first = o; host = a.host } ∷ []) []) ++ rows)
    (FillKept xs (map (λ (b : Array). elements_or_none b.first) (cond (is_some o) (record { bits = width a.kind; dims = a.lengths; table = a.table; first = o; host = a.host } ∷ []) []) ++ rows))
    (FillKept xs (drop 1 (map (λ (b : Array). elements_or_none b.first) (cond (is_some o) (record { bits = width a.kind; dims = a.lengths; table = a.table; first = o; host = a.host } ∷ []) []) ++ rows)))
first_step None a xs rows fills h = h
first_step (Some first) a xs rows fills h = (fills, h)

first_rows_are : (o : Option (List ℕ)) (a : ArrayTree) (xs : List ArrayTree)
    → map (λ (b : Array). elements_or_none b.first) (cond (is_some o) (record { bits = width a.kind; dims = a.lengths; table = a.table; first = o; host = a.host } ∷ filter (λ (b : Array). is_some b.first) (map array_in xs)) (filter (λ (b : Array). is_some b.first) (map array_in xs)))
    ≡ map (λ (b : Array). elements_or_none b.first) (cond (is_some o) (record { bits = width a.kind; dims = a.lengths; table = a.table; first = o; host = a.host } ∷ []) []) ++ map (λ (b : Array). elements_or_none b.first) (filter (λ (b : Array). is_some b.first) (map array_in xs))
first_rows_are None a xs = refl
first_rows_are (Some first) a xs = refl

-- the first contents of the arrays that file scope keeps
abbrev pub first_rows : List ArrayTree → List (List ℕ)
first_rows xs = map (λ (b : Array). elements_or_none b.first) (filter (λ (b : Array). is_some b.first) (map array_in xs))

pub first_fill : (xs : List ArrayTree) → Each HasContents xs → FillKept xs (first_rows xs)
first_fill [] h = refl
first_fill (a ∷ xs) h = subst (FillKept (a ∷ xs)) (sym (first_rows_are a.initial a xs)) (first_step a.initial a xs (first_rows xs) h.0.initial (first_fill xs h.1))
