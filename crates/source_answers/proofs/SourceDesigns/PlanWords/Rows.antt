-- Rows of elements, one array after another.
use Rattle.std.proofs.Common.{◌≡◌, ◌∙◌, ◌+◌, ◌<◌, ℕ, zero, suc, refl, ap, ap₂, sym, arith, Bool, true, false, List, [], ◌∷◌, length, map, get_or, slice_get, drop, Option, Some, None, if◌then◌else◌}
use Rattle.std.specs.Prelude.{cond, filter, is_some, slice_index}
use Rattle.std.proofs.lemmas.Option.{none-some, same_Some}
use Rattle.hls_base.specs.declared.number.VarId.{VarId}
use Rattle.pieces.specs.Program.{ArrayTree, ExpandedTree}
use Rattle.c_meaning.specs.PieceRuns.Runs.{if_kept}
use Rattle.timed_pieces.specs.StartedWords.Contents.{elements_at, host_words, kept_words, words_in}
use Rattle.timed_pieces.specs.StartedWords.FirstWords.{FillVariables, FillHosts}
use Rattle.compile_steps.specs.BegunPrograms.{KeptFills, FillKept}
use Rattle.datapath.specs.Plans.{Array}
use Rattle.source_answers.proofs.SourceDesigns.PlanWords.Frames.{array_in, kept_before, kept_next}

-- ---- variables

-- words for these variables, each where its number stands
pub words_are : (e : ExpandedTree) (vs : List VarId) (xs : List ℕ) (f : ℕ → ℕ) → FillVariables e vs xs → ((k : ℕ) (v : VarId) → slice_get vs k ≡ Some v → f v.0 ≡ slice_index xs k) → words_in vs f ≡ xs
words_are e [] xs f fill each = sym fill
words_are e (v ∷ vs) [] f fill each = absurd fill
words_are e (v ∷ vs) (x ∷ xs) f fill each = ap₂ (λ y ys. y ∷ ys) (each 0 v refl) (words_are e vs xs f fill.1 (λ k w at. each (suc k) w at))

pub word_is : (vs : List VarId) (f : ℕ → ℕ) (k : ℕ) (v : VarId) → slice_get vs k ≡ Some v → f v.0 ≡ slice_index (words_in vs f) k
word_is [] f k v at = absurd (none-some v at)
word_is (w ∷ vs) f zero v at = ap (λ (z : VarId). f z.0) (sym (same_Some w v at))
word_is (w ∷ vs) f (suc k) v at = word_is vs f k v at

-- ---- arrays of the host

next_memory : (memories : ℕ → ℕ → ℕ) (i j : ℕ) → memories (i + suc j) ≡ memories (i + 1 + j)
next_memory memories i j = ap memories (let z : i + suc j ≡ i + 1 + j = omega arith in z)

first_memory : (memories : ℕ → ℕ → ℕ) (i : ℕ) → memories (i + 0) ≡ memories i
first_memory memories i = ap memories (let z : i + 0 ≡ i = omega arith in z)

filtered : (b : Bool) (a : ArrayTree) (ys : List Array) → a.host ≡ b → filter (λ (x : Array). x.host) (array_in a ∷ ys) ≡ cond b (array_in a ∷ filter (λ (x : Array). x.host) ys) (filter (λ (x : Array). x.host) ys)
filtered b a ys is = ap (λ c. cond c (array_in a ∷ filter (λ (x : Array). x.host) ys) (filter (λ (x : Array). x.host) ys)) is

-- as many arrays as rows
pub host_count : (xs : List ArrayTree) (rows : List (List ℕ)) → FillHosts xs rows → length (filter (λ (x : Array). x.host) (map array_in xs)) ≡ length rows
host_count [] rows fill = sym (ap length fill)
host_count (a ∷ xs) [] fill = ap length (filtered false a (map array_in xs) fill.0) ∙ host_count xs [] fill.1
host_count (a ∷ xs) (row ∷ rows) fill = ap length (filtered true a (map array_in xs) fill.0) ∙ ap suc (host_count xs rows fill.2)

hosts_if : (a : ArrayTree) (rest : List ArrayTree) (i : ℕ) (memories : ℕ → ℕ → ℕ) (b : Bool) → a.host ≡ b → host_words (a ∷ rest) i memories ≡ (if b then elements_at a.lengths (memories i) ∷ host_words rest (i + 1) memories else host_words rest (i + 1) memories)
hosts_if a rest i memories b is = ap (λ c. if c then elements_at a.lengths (memories i) ∷ host_words rest (i + 1) memories else host_words rest (i + 1) memories) is

pub hosts_are : (xs : List ArrayTree) (rows : List (List ℕ)) (i : ℕ) (memories : ℕ → ℕ → ℕ) → FillHosts xs rows
    → ((j : ℕ) (a : ArrayTree) → slice_get xs j ≡ Some a → j < length rows → elements_at a.lengths (memories (i + j)) ≡ get_or rows j []) → host_words xs i memories ≡ rows
hosts_are [] rows i memories fill each = sym fill
hosts_are (a ∷ xs) [] i memories fill each = hosts_if a xs i memories false fill.0 ∙ hosts_are xs [] (i + 1) memories fill.1 (λ j x at lt. absurd (omega (arith, lt)))
hosts_are (a ∷ xs) (row ∷ rows) i memories fill each =
    hosts_if a xs i memories true fill.0
    ∙ ap₂ (λ r rs. r ∷ rs) (ap (elements_at a.lengths) (sym (first_memory memories i)) ∙ each 0 a refl (omega arith))
    (hosts_are xs rows (i + 1) memories fill.2 (λ j x at lt. ap (elements_at x.lengths) (sym (next_memory memories i j)) ∙ each (suc j) x at (omega (arith, lt))))

-- an array of the host, with its row
pub host_is : (xs : List ArrayTree) (given : List (List ℕ)) (i : ℕ) (memories : ℕ → ℕ → ℕ) → FillHosts xs given → (j : ℕ) → j < length given
    → (a : ArrayTree) × (slice_get xs j ≡ Some a) × (elements_at a.lengths (memories (i + j)) ≡ get_or (host_words xs i memories) j [])
host_is [] given i memories fill j lt = absurd (let none : length given ≡ 0 = ap length fill in omega (arith, lt, none))
host_is (a ∷ xs) [] i memories fill j lt = absurd (omega (arith, lt))
host_is (a ∷ xs) (row ∷ given) i memories fill zero lt =
    (a, refl, ap (elements_at a.lengths) (first_memory memories i) ∙ sym (ap (λ rs. get_or rs 0 []) (hosts_if a xs i memories true fill.0)))
host_is (a ∷ xs) (row ∷ given) i memories fill (suc j) lt =
    let q = host_is xs given (i + 1) memories fill.2 j (omega (arith, lt)) in
    (q.0, q.1, ap (elements_at q.0.lengths) (next_memory memories i j) ∙ q.2 ∙ sym (ap (λ rs. get_or rs (suc j) []) (hosts_if a xs i memories true fill.0)))

-- ---- arrays of file scope

abbrev RowsAt : List ArrayTree → ℕ → (ℕ → ℕ → ℕ) → List (List ℕ) → Type 0
RowsAt xs i memories rows = (j : ℕ) (a : ArrayTree) (first : List ℕ) → slice_get xs j ≡ Some a → a.initial ≡ Some first → elements_at a.lengths (memories (i + j)) ≡ get_or rows (kept_before xs j) []

-- the rows behind an array that is kept, or is not
number_next : (a : ArrayTree) (xs : List ArrayTree) (j : ℕ) (o : Option (List ℕ)) → a.initial ≡ o → kept_before (a ∷ xs) (suc j) ≡ cond (is_some o) 1 0 + kept_before xs j
number_next a xs j o is = kept_next a xs j ∙ ap (λ z. cond (is_some z) 1 0 + kept_before xs j) is

kept_if : (a : ArrayTree) (rest : List ArrayTree) (i : ℕ) (memories : ℕ → ℕ → ℕ) (o : Option (List ℕ)) → a.initial ≡ o → kept_words (a ∷ rest) i memories ≡ if_kept o (elements_at a.lengths (memories i)) (kept_words rest (i + 1) memories)
kept_if a rest i memories o is = ap (λ z. if_kept z (elements_at a.lengths (memories i)) (kept_words rest (i + 1) memories)) is

kept_step : (o : Option (List ℕ)) (a : ArrayTree) (xs : List ArrayTree) (rows : List (List ℕ)) (i : ℕ) (memories : ℕ → ℕ → ℕ) → a.initial ≡ o
    → ((rows1 : List (List ℕ)) → FillKept xs rows1 → RowsAt xs (i + 1) memories rows1 → kept_words xs (i + 1) memories ≡ rows1)
    → KeptFills o a rows (FillKept xs rows) (FillKept xs (drop 1 rows)) → RowsAt (a ∷ xs) i memories rows → if_kept o (elements_at a.lengths (memories i)) (kept_words xs (i + 1) memories) ≡ rows
kept_step None a xs rows i memories is h fill each = h rows fill later where
  later : RowsAt xs (i + 1) memories rows
  later j x first at own =
      ap (elements_at x.lengths) (sym (next_memory memories i j)) ∙ each (suc j) x first at own ∙ ap (λ n. get_or rows n []) (number_next a xs j None is ∙ (let z : 0 + kept_before xs j ≡ kept_before xs j = omega arith in z))
kept_step (Some given) a xs [] i memories is h fill each = absurd fill
kept_step (Some given) a xs (row ∷ rows) i memories is h fill each = ap₂ (λ r rs. r ∷ rs) (ap (elements_at a.lengths) (sym (first_memory memories i)) ∙ each 0 a given refl is) (h rows fill.1 later) where
  later : RowsAt xs (i + 1) memories rows
  later j x first at own =
      ap (elements_at x.lengths) (sym (next_memory memories i j)) ∙ each (suc j) x first at own
      ∙ ap (λ n. get_or (row ∷ rows) n []) (number_next a xs j (Some given) is ∙ (let z : 1 + kept_before xs j ≡ suc (kept_before xs j) = omega arith in z))

pub kept_are : (xs : List ArrayTree) (rows : List (List ℕ)) (i : ℕ) (memories : ℕ → ℕ → ℕ) → FillKept xs rows → RowsAt xs i memories rows → kept_words xs i memories ≡ rows
kept_are [] rows i memories fill each = sym fill
kept_are (a ∷ xs) rows i memories fill each = kept_step a.initial a xs rows i memories refl (λ rows1 fill1 each1. kept_are xs rows1 (i + 1) memories fill1 each1) fill each

is_step : (o : Option (List ℕ)) (b : ArrayTree) (xs : List ArrayTree) (i j : ℕ) (memories : ℕ → ℕ → ℕ) (a : ArrayTree) → b.initial ≡ o
    → elements_at a.lengths (memories (i + 1 + j)) ≡ get_or (kept_words xs (i + 1) memories) (kept_before xs j) []
    → elements_at a.lengths (memories (i + 1 + j)) ≡ get_or (if_kept o (elements_at b.lengths (memories i)) (kept_words xs (i + 1) memories)) (kept_before (b ∷ xs) (suc j)) []
is_step None b xs i j memories a is h =
    h ∙ ap (λ n. get_or (kept_words xs (i + 1) memories) n []) (sym (number_next b xs j None is ∙ (let z : 0 + kept_before xs j ≡ kept_before xs j = omega arith in z)))
is_step (Some given) b xs i j memories a is h =
    h ∙ ap (λ n. get_or (elements_at b.lengths (memories i) ∷ kept_words xs (i + 1) memories) n []) (sym (number_next b xs j (Some given) is ∙ (let z : 1 + kept_before xs j ≡ suc (kept_before xs j) = omega arith in z)))

-- an array that is kept, with its row
pub kept_is : (xs : List ArrayTree) (i : ℕ) (memories : ℕ → ℕ → ℕ) → RowsAt xs i memories (kept_words xs i memories)
kept_is [] i memories j a first at own = absurd (none-some a at)
kept_is (b ∷ xs) i memories zero a first at own =
    let same = same_Some b a at in
    ap (elements_at a.lengths) (first_memory memories i) ∙ ap (λ (z : ArrayTree). elements_at z.lengths (memories i)) (sym same)
    ∙ sym (ap (λ rs. get_or rs 0 []) (kept_if b xs i memories (Some first) (ap (λ (z : ArrayTree). z.initial) same ∙ own)))
kept_is (b ∷ xs) i memories (suc j) a first at own = ap (elements_at a.lengths) (next_memory memories i j) ∙ is_step b.initial b xs i j memories a refl (kept_is xs (i + 1) memories j a first at own)
