-- The first line of a text, and what is behind it.
use Rattle.std.proofs.Common.{◌≡◌, ℕ, ◌+◌, ◌-◌, ◌<◌, ◌≤◌, ◌==◌, Bool, true, false, cond, List, [], ◌∷◌, length, take, drop, refl, sym, ap, ◌∙◌, arith}
use Rattle.std.specs.List.{All, slice_split, onto_first, position_or_len, before_first, after_first}
use Rattle.std.specs.Str.Lines.{lines, lines_of_parts, strip_carriage_return}
use Rattle.std.proofs.lemmas.List.{drop_all, take_all, length-drop}
use Rattle.std.proofs.lemmas.List.Splits.{slice_split_first, slice_split_none}
use Rattle.std.proofs.lemmas.List.Sums.{fails_before_first}

abbrev pub is_feed : ℕ → Bool
is_feed b = b == 10

onto_first_parts : (x : ℕ) (ps : List (List ℕ)) → (y : List ℕ) × (more : List (List ℕ)) × (onto_first x ps ≡ y ∷ more)
onto_first_parts x [] = (x ∷ [], [], refl)
onto_first_parts x (p ∷ ps) = (x ∷ p, ps, refl)

some_parts : (bs : List ℕ) → (y : List ℕ) × (more : List (List ℕ)) × (slice_split is_feed bs ≡ y ∷ more)
some_parts [] = ([], [], refl)
some_parts (b ∷ bs) =
    elim (is_feed b) as (λ t. (y : List ℕ) × (more : List (List ℕ)) × (cond t ([] ∷ slice_split is_feed bs) (onto_first b (slice_split is_feed bs)) ≡ y ∷ more)) [
      | true ↦ ([], slice_split is_feed bs, refl)
      | false ↦ onto_first_parts b (slice_split is_feed bs)
    ]

ended_line : (x : List ℕ) (ps : List (List ℕ)) → (y : List ℕ) × (more : List (List ℕ)) × (ps ≡ y ∷ more) → lines_of_parts (x ∷ ps) ≡ strip_carriage_return x ∷ lines_of_parts ps
ended_line x ps (y, more, e) = rw e refl

behind : (bs : List ℕ) (i : ℕ) → take (length bs - i) (drop i bs) ≡ drop i bs
behind bs i = take_all (length bs - i) (drop i bs) (omega (arith, length-drop i bs))

-- a text with an LF begins with a line
pub lines-ended : (bs line : List ℕ) (i : ℕ) → i ≡ position_or_len is_feed bs → i < length bs → line ≡ strip_carriage_return (take i bs)
    → lines bs ≡ line ∷ lines (take (length bs - (i + 1)) (drop (i + 1) bs))
lines-ended bs line i e h is =
    let rest : List ℕ = after_first is_feed bs in
    let split : slice_split is_feed bs ≡ before_first is_feed bs ∷ slice_split is_feed rest = slice_split_first is_feed bs 0 (omega arith) in
    let line_is : strip_carriage_return (before_first is_feed bs) ≡ line = sym (is ∙ ap (λ n. strip_carriage_return (take n bs)) e) in
    let rest_is : rest ≡ take (length bs - (i + 1)) (drop (i + 1) bs) = sym (behind bs (i + 1) ∙ ap (λ n. drop (n + 1) bs) e) in
    ap lines_of_parts split ∙ ended_line (before_first is_feed bs) (slice_split is_feed rest) (some_parts rest)
    ∙ ap (λ x. x ∷ lines rest) line_is ∙ ap (λ r. line ∷ lines r) rest_is

no_feed : (bs : List ℕ) → length bs ≤ position_or_len is_feed bs → All (λ x. is_feed x ≡ false) bs
no_feed bs h = λ k d l. fails_before_first is_feed bs k d (omega arith)

last_line : (bs : List ℕ) → (length bs == 0) ≡ false → lines_of_parts (bs ∷ []) ≡ bs ∷ []
last_line bs some = rw some refl

-- and one without is a line where it is not empty
pub lines-last : (bs : List ℕ) (i : ℕ) → i ≡ position_or_len is_feed bs → length bs ≤ i → (length bs == 0) ≡ false → lines bs ≡ bs ∷ lines (take (length bs - i) (drop i bs))
lines-last bs i e h some =
    let rest_is : [] ≡ take (length bs - i) (drop i bs) = sym (behind bs i ∙ drop_all i bs h) in
    ap lines_of_parts (slice_split_none is_feed bs (no_feed bs (omega arith))) ∙ last_line bs some ∙ ap (λ r. bs ∷ lines r) rest_is
