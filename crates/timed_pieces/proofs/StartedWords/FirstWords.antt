-- What the first contents of a program's frame hold.
use Rattle.std.proofs.Common.{◌≡◌, ◌∙◌, ◌<◌, ◌≤◌, ℕ, zero, suc, ◌+◌, ◌^◌, Bool, true, false, refl, ap, ap₂, sym, subst, arith, List, [], ◌∷◌, map, length, get_or, Option, Some, None, slice_get, option_map, if◌then◌else◌, le_refl}
use Rattle.std.proofs.lemmas.Option.{slice_get-map}
use Rattle.std.proofs.lemmas.Bool.{eq-eqb, ne_eqb}
use Rattle.hls_base.specs.FileScope.{FileScope}
use Rattle.hls_base.specs.ArrayAddress.{addresses, element_count, address_bits}
use Rattle.hls_base.specs.declared.inputs.Inputs.{Inputs}
use Rattle.hls_base.specs.declared.number.Kept.{Kept}
use Rattle.hls_base.specs.declared.number.VarId.{VarId}
use Rattle.ir_core.specs.AddressWords.{AreRising}
use Rattle.ir_core.specs.AddressWords as address
use Rattle.ir_core.proofs.Rising.{addresses-rise, rising-bound}
use Rattle.ir_core.specs.declared.cfg.Frame.{Frame}
use Rattle.ir_core.specs.declared.cfg.Memory.{Memory}
use Rattle.ir_lower.specs.Frames as frames
use Rattle.ir_lower.specs.Frames.{MemoryView, FrameView, memory_view, memory_of, frame_view}
use Rattle.pieces.specs.declared.expanded.ArrayInfo.{ArrayInfo}
use Rattle.pieces.specs.declared.expanded.Expanded.{Expanded}
use Rattle.pieces.specs.Program.{ArrayTree, ExpandedTree, array_of, expanded_of}
use Rattle.c_meaning.specs.PieceRuns.Values.{lengths_in}
use Rattle.c_meaning.specs.PieceRuns.Runs.{frame_of, variables_of, if_kept}
use Rattle.ir_core.specs.Bodies.{Words, with_word}
use Rattle.ir_core.specs.FirstContents.{given_at, elements_or_none, first_word, first_word_in, first_memories, with_kept, with_arguments, first_variables, first_words}
use Rattle.pass_runs.specs.LowerRuns.Showing.{AreShort}
use Rattle.pass_runs.specs.LowerRuns.Holding.{ArraysAreShort}
use Rattle.timed_pieces.specs.StartedWords.Contents.{elements_at, host_words, kept_words, words_in, file_words, Begins}
use Rattle.timed_pieces.specs.StartedWords.FirstWords.{initial_rows, first_file, FillVariables, FillsArray, FillsIfAny, FillHosts, HasOneSource, HasContents, IsNotIn, Differ, AreApart, HasFirstContents}
use Rattle.timed_pieces.specs.StartedWords.{FirstWordsBegin}
use Rattle.timed_pieces.proofs.StartedWords.Places.{address_count}

-- ---- rows

pub short_dims : (dims : List ℕ) → AreShort dims → address.AreShort dims
short_dims [] h = h
short_dims (len ∷ dims) h = (h.0, short_dims dims h.1)

none_given : (places : List ℕ) (q w : ℕ) → given_at places [] q w ≡ w
none_given [] q w = refl
none_given (p ∷ places) q w = refl

-- A memory that has these words at these addresses holds them.
pub row_held : (low high : ℕ) (places row : List ℕ) (memory other : ℕ → ℕ) → AreRising low places high → length row ≡ length places → ((q : ℕ) → low ≤ q → q < high → memory q ≡ given_at places row q (other q)) → map memory places ≡ row
row_held low high [] [] memory other rise long each = refl
row_held low high [] (x ∷ row) memory other rise long each = absurd (omega (arith, long))
row_held low high (p ∷ places) [] memory other rise long each = absurd (omega (arith, long))
row_held low high (p ∷ places) (x ∷ row) memory other rise long each =
    let below : p < high = rising-bound (suc p) high places rise.1 in
    let first : memory p ≡ x = each p rise.0 below ∙ ap (λ b. if b then x else given_at places row p (other p)) (eq-eqb p p refl) in
    let later : (q : ℕ) → suc p ≤ q → q < high → memory q ≡ given_at places row q (other q) = λ q h g.
    each q (let lo = rise.0 in omega (arith, lo, h)) g ∙ ap (λ b. if b then x else given_at places row q (other q)) (ne_eqb p q (λ e. omega (arith, h, e))) in
    ap₂ (λ y ys. y ∷ ys) first (row_held (suc p) high places row memory other rise.1 (omega (arith, long)) later)

-- ---- variables

args_other : (vs : List VarId) (xs : List ℕ) (f : ℕ → ℕ) (v : VarId) → IsNotIn v vs → with_arguments vs xs f v.0 ≡ f v.0
args_other [] xs f v h = refl
args_other (w ∷ ws) [] f v h = refl
args_other (w ∷ ws) (x ∷ xs) f v h = args_other ws xs (with_word f w.0 x) v h.1 ∙ ap (λ b. if b then x else f v.0) (ne_eqb w.0 v.0 (λ e. h.0 (sym e)))

args_held : (e : ExpandedTree) (vs : List VarId) (xs : List ℕ) (f : ℕ → ℕ) → Differ vs → FillVariables e vs xs → words_in vs (with_arguments vs xs f) ≡ xs
args_held e [] xs f apart fill = sym fill
args_held e (v ∷ vs) [] f apart fill = absurd fill
args_held e (v ∷ vs) (x ∷ xs) f apart fill =
    ap₂ (λ y ys. y ∷ ys) (args_other vs xs (with_word f v.0 x) v apart.0 ∙ ap (λ b. if b then x else f v.0) (eq-eqb v.0 v.0 refl)) (args_held e vs xs (with_word f v.0 x) apart.1 fill.1)

kept_other : (kept : List Kept) (f : ℕ → ℕ) (v : VarId) → IsNotIn v (variables_of kept) → with_kept kept f v.0 ≡ f v.0
kept_other [] f v h = refl
kept_other (k ∷ kept) f v h = kept_other kept (with_word f k.variable.0 k.value) v h.1 ∙ ap (λ b. if b then k.value else f v.0) (ne_eqb k.variable.0 v.0 (λ e. h.0 (sym e)))

kept_held : (kept : List Kept) (f : ℕ → ℕ) → Differ (variables_of kept) → words_in (variables_of kept) (with_kept kept f) ≡ map (λ k. k.value) kept
kept_held [] f apart = refl
kept_held (k ∷ kept) f apart =
    ap₂ (λ y ys. y ∷ ys) (kept_other kept (with_word f k.variable.0 k.value) k.variable apart.0 ∙ ap (λ b. if b then k.value else f k.variable.0) (eq-eqb k.variable.0 k.variable.0 refl))
    (kept_held kept (with_word f k.variable.0 k.value) apart.1)

apart_held : (vs ps : List VarId) (xs : List ℕ) (f : ℕ → ℕ) → AreApart vs ps → words_in vs (with_arguments ps xs f) ≡ words_in vs f
apart_held [] ps xs f h = refl
apart_held (v ∷ vs) ps xs f h = ap₂ (λ y ys. y ∷ ys) (args_other ps xs f v h.0) (apart_held vs ps xs f h.1)

-- ---- memories

-- the first word of an array at an address
abbrev pub array_word : ArrayTree → List ℕ → ℕ → ℕ
array_word a given q =
    given_at (addresses a.lengths) (if a.host then given else []) q
    (given_at (addresses a.lengths) (elements_or_none a.initial) q
    (given_at (addresses a.lengths) (elements_or_none a.table) q 0))

abbrev array_word_in : Option ArrayTree → List ℕ → ℕ → ℕ
array_word_in None given q = 0
array_word_in (Some a) given q = array_word a given q

abbrev view_word_in : Option MemoryView → List ℕ → ℕ → ℕ
view_word_in None given q = 0
view_word_in (Some m) given q =
    given_at (addresses m.dims) (if m.host then given else []) q
    (given_at (addresses m.dims) (elements_or_none m.initial) q
    (given_at (addresses m.dims) (elements_or_none m.table) q 0))

viewed : (o : Option Memory) (given : List ℕ) (q : ℕ) → first_word_in o given q ≡ view_word_in (option_map memory_view o) given q
viewed None given q = refl
viewed (Some m) given q = refl

of_array : (o : Option ArrayInfo) (given : List ℕ) (q : ℕ) → view_word_in (option_map memory_of o) given q ≡ array_word_in (option_map array_of o) given q
of_array None given q = refl
of_array (Some a) given q = refl

module _ (x : Expanded) (frame : Frame) (same : frame_view frame ≡ frames.frame_of x) where
  abbrev e : ExpandedTree
  e = expanded_of x

  memory_is : (rows : List (List ℕ)) (k q : ℕ) → first_memories frame.memories.items rows k q ≡ array_word_in (slice_get (map array_of x.arrays.items) k) (get_or rows k []) q
  memory_is rows k q =
      let given = get_or rows k [] in
      let memories : map memory_view frame.memories.items ≡ map memory_of x.arrays.items = ap (λ (v : FrameView). v.memories) same in
      viewed (slice_get frame.memories.items k) given q ∙ ap (λ o. view_word_in o given q) (sym (slice_get-map memory_view frame.memories.items k) ∙ ap (λ l. slice_get l k) memories ∙ slice_get-map memory_of x.arrays.items k)
      ∙ of_array (slice_get x.arrays.items k) given q ∙ ap (λ o. array_word_in o given q) (sym (slice_get-map array_of x.arrays.items k))

  module _ (short : ArraysAreShort (frame_of e)) (contents : HasFirstContents e) (rows : List (List ℕ)) where
    abbrev memories : ℕ → ℕ → ℕ
    memories = first_memories frame.memories.items rows

    pub word_is : (k : ℕ) (a : ArrayTree) → slice_get e.arrays k ≡ Some a → (q : ℕ) → memories k q ≡ array_word a (get_or rows k []) q
    word_is k a at q = memory_is rows k q ∙ ap (λ o. array_word_in o (get_or rows k []) q) at

    rise_of : (k : ℕ) (a : ArrayTree) → slice_get e.arrays k ≡ Some a → AreRising 0 (addresses a.lengths) (2 ^ address_bits a.lengths)
    rise_of k a at = addresses-rise a.lengths (short_dims a.lengths (subst (λ l. AreShort l) (ap lengths_in at) (short k)))

    -- ---- where an array has its first contents from

    host_row : (k : ℕ) (a : ArrayTree) → slice_get e.arrays k ≡ Some a → a.host ≡ true → FillsArray a (get_or rows k []) → elements_at a.lengths (memories k) ≡ get_or rows k []
    host_row k a at is fill =
        let places = addresses a.lengths in
        let given = get_or rows k [] in
        let other = λ (q : ℕ). given_at places (elements_or_none a.initial) q (given_at places (elements_or_none a.table) q 0) in
        row_held 0 (2 ^ address_bits a.lengths) places given (memories k) other (rise_of k a at) (fill.0 ∙ sym (address_count a.lengths))
        (λ q h g. word_is k a at q ∙ ap (λ b. given_at places (if b then given else []) q (other q)) is)

    initial_row : (k : ℕ) (a : ArrayTree) (row : List ℕ) → slice_get e.arrays k ≡ Some a → a.host ≡ false → a.initial ≡ Some row → FillsArray a row → elements_at a.lengths (memories k) ≡ row
    initial_row k a row at is own fill =
        let places = addresses a.lengths in
        let given = get_or rows k [] in
        let other = λ (q : ℕ). given_at places (elements_or_none a.table) q 0 in
        row_held 0 (2 ^ address_bits a.lengths) places row (memories k) other (rise_of k a at) (fill.0 ∙ sym (address_count a.lengths))
        (λ q h g. word_is k a at q ∙ ap (λ b. given_at places (if b then given else []) q (given_at places (elements_or_none a.initial) q (other q))) is
        ∙ none_given places q (given_at places (elements_or_none a.initial) q (other q)) ∙ ap (λ o. given_at places (elements_or_none o) q (other q)) own)

    table_row : (k : ℕ) (a : ArrayTree) (row : List ℕ) → slice_get e.arrays k ≡ Some a → a.host ≡ false → a.initial ≡ None → a.table ≡ Some row → FillsArray a row → elements_at a.lengths (memories k) ≡ row
    table_row k a row at is none own fill =
        let places = addresses a.lengths in
        let given = get_or rows k [] in
        let other = λ (q : ℕ). given_at places (elements_or_none a.table) q 0 in
        row_held 0 (2 ^ address_bits a.lengths) places row (memories k) (λ q. 0) (rise_of k a at) (fill.0 ∙ sym (address_count a.lengths))
        (λ q h g. word_is k a at q ∙ ap (λ b. given_at places (if b then given else []) q (given_at places (elements_or_none a.initial) q (other q))) is
        ∙ none_given places q (given_at places (elements_or_none a.initial) q (other q)) ∙ ap (λ o. given_at places (elements_or_none o) q (other q)) none
        ∙ none_given places q (other q) ∙ ap (λ o. given_at places (elements_or_none o) q 0) own)

    -- ---- all arrays

    later : (arrays : List ArrayTree) (a : ArrayTree) (i : ℕ) → ((j : ℕ) → slice_get (a ∷ arrays) j ≡ slice_get e.arrays (i + j)) → (j : ℕ) → slice_get arrays j ≡ slice_get e.arrays (i + 1 + j)
    later arrays a i at j = at (suc j) ∙ ap (slice_get e.arrays) (let n : i + suc j ≡ i + 1 + j = omega arith in n)

    here : (arrays : List ArrayTree) (a : ArrayTree) (i : ℕ) → ((j : ℕ) → slice_get (a ∷ arrays) j ≡ slice_get e.arrays (i + j)) → slice_get e.arrays i ≡ Some a
    here arrays a i at = ap (slice_get e.arrays) (let n : i ≡ i + 0 = omega arith in n) ∙ sym (at 0)

    hosts_held : (arrays : List ArrayTree) (i : ℕ) (left : List (List ℕ)) → ((j : ℕ) → slice_get arrays j ≡ slice_get e.arrays (i + j)) → ((j : ℕ) → get_or left j [] ≡ get_or rows (i + j) []) → FillHosts arrays left
        → host_words arrays i memories ≡ left
    hosts_held [] i left at given fill = sym fill
    hosts_held (a ∷ arrays) i [] at given fill =
        let next : (j : ℕ) → get_or [] j [] ≡ get_or rows (i + 1 + j) [] = λ j. given (suc j) ∙ ap (λ n. get_or rows n []) (let n : i + suc j ≡ i + 1 + j = omega arith in n) in
        ap (λ b. if b then elements_at a.lengths (memories i) ∷ host_words arrays (i + 1) memories else host_words arrays (i + 1) memories) fill.0 ∙ hosts_held arrays (i + 1) [] (later arrays a i at) next fill.1
    hosts_held (a ∷ arrays) i (row ∷ left) at given fill =
        let next : (j : ℕ) → get_or left j [] ≡ get_or rows (i + 1 + j) [] = λ j. given (suc j) ∙ ap (λ n. get_or rows n []) (let n : i + suc j ≡ i + 1 + j = omega arith in n) in
        let own : get_or rows i [] ≡ row = ap (λ n. get_or rows n []) (let n : i ≡ i + 0 = omega arith in n) ∙ sym (given 0) in
        ap (λ b. if b then elements_at a.lengths (memories i) ∷ host_words arrays (i + 1) memories else host_words arrays (i + 1) memories) fill.0
        ∙ ap₂ (λ r rs. r ∷ rs) (host_row i a (here arrays a i at) fill.0 (subst (FillsArray a) (sym own) fill.1) ∙ own) (hosts_held arrays (i + 1) left (later arrays a i at) next fill.2)

    initial_source : (b : Bool) (table initial : Option (List ℕ)) (row : List ℕ) → HasOneSource b table initial → initial ≡ Some row → b ≡ false
    initial_source true None None row source is = absurd cc
    initial_source true None (Some r) row source is = absurd source
    initial_source true (Some w) initial row source is = absurd source
    initial_source false table initial row source is = refl

    table_source : (b : Bool) (table initial : Option (List ℕ)) (row : List ℕ) → HasOneSource b table initial → table ≡ Some row → (b ≡ false) × (initial ≡ None)
    table_source true None None row source is = absurd cc
    table_source true None (Some r) row source is = absurd source
    table_source true (Some w) initial row source is = absurd source
    table_source false None initial row source is = absurd cc
    table_source false (Some w) None row source is = (refl, refl)
    table_source false (Some w) (Some r) row source is = absurd source

    initials_step : (o : Option (List ℕ)) (i : ℕ) (a : ArrayTree) (xs ys : List (List ℕ)) → slice_get e.arrays i ≡ Some a → a.initial ≡ o → xs ≡ ys → if_kept o (elements_at a.lengths (memories i)) xs ≡ if_kept o (elements_or_none o) ys
    initials_step None i a xs ys at is same_rest = same_rest
    initials_step (Some row) i a xs ys at is same_rest =
        let own = contents.arrays i a at in
        ap₂ (λ r rs. r ∷ rs) (initial_row i a row at (initial_source a.host a.table a.initial row own.source is) is (subst (FillsIfAny a) is own.initial)) same_rest

    initials_held : (arrays : List ArrayTree) (i : ℕ) → ((j : ℕ) → slice_get arrays j ≡ slice_get e.arrays (i + j)) → kept_words arrays i memories ≡ initial_rows arrays
    initials_held [] i at = refl
    initials_held (a ∷ arrays) i at = initials_step a.initial i a (kept_words arrays (i + 1) memories) (initial_rows arrays) (here arrays a i at) refl (initials_held arrays (i + 1) (later arrays a i at))

    tables_held : (i : ℕ) (a : ArrayTree) (row : List ℕ) → slice_get e.arrays i ≡ Some a → a.table ≡ Some row → elements_at a.lengths (memories i) ≡ row
    tables_held i a row at is =
        let own = contents.arrays i a at in
        let source = table_source a.host a.table a.initial row own.source is in
        table_row i a row at source.0 source.1 is (subst (FillsIfAny a) is own.table)

whole : (e : ExpandedTree) (j : ℕ) → slice_get e.arrays j ≡ slice_get e.arrays (0 + j)
whole e j = ap (slice_get e.arrays) (let n : j ≡ 0 + j = omega arith in n)

pub first_words_begin : FirstWordsBegin
first_words_begin x frame inputs same short contents fill hosts = record {
  params = ap (words_in x.params.items) variables ∙ args_held (expanded_of x) x.params.items inputs.scalars (with_kept x.kept.items (λ i. 0)) contents.params fill;
  hosts = hosts_held x frame same short contents inputs.arrays (expanded_of x).arrays 0 inputs.arrays (whole (expanded_of x)) (λ j. ap (λ n. get_or inputs.arrays n []) (let n : j ≡ 0 + j = omega arith in n)) hosts;
  file = ap₂ scope
      (ap (words_in (variables_of x.kept.items)) variables ∙ apart_held (variables_of x.kept.items) x.params.items inputs.scalars (with_kept x.kept.items (λ i. 0)) contents.apart ∙ kept_held x.kept.items (λ i. 0) contents.kept)
      (initials_held x frame same short contents inputs.arrays (expanded_of x).arrays 0 (whole (expanded_of x)));
  tables = tables_held x frame same short contents inputs.arrays;
  nothing = λ i at q. memory_is x frame same inputs.arrays i q ∙ ap (λ o. array_word_in o (get_or inputs.arrays i []) q) at;
} where
  scope : List ℕ → List (List ℕ) → FileScope
  scope xs rows = record { scalars = xs; arrays = rows }

  variables : first_variables frame inputs.scalars ≡ with_arguments x.params.items inputs.scalars (with_kept x.kept.items (λ i. 0))
  variables = ap (λ (v : FrameView). with_arguments v.params inputs.scalars (with_kept v.kept (λ i. 0))) same
