-- The first contents of a program's frame have their widths.
use Rattle.std.proofs.Common.{◌≡◌, ◌∙◌, ◌<◌, ℕ, zero, suc, ◌+◌, ◌^◌, Bool, true, false, refl, ap, sym, subst, inl, inr, List, [], ◌∷◌, map, get_or, Option, Some, None, slice_get, option_map, if◌then◌else◌}
use Rattle.std.specs.Prelude.{◌==◌}
use Rattle.std.proofs.lemmas.Option.{slice_get-map}
use Rattle.std.proofs.lemmas.Nat.{pow_pos}
use Rattle.std.proofs.lemmas.Bool.Decides.{eqb_tells}
use Rattle.hls_base.specs.ArrayAddress.{addresses}
use Rattle.hls_base.specs.declared.number.Kept.{Kept}
use Rattle.hls_base.specs.declared.number.VarId.{VarId}
use Rattle.c_token.specs.declared.ctype.CType.{CType}
use Rattle.c_value.specs.Values.{width}
use Rattle.ir_core.specs.Value.{count_of}
use Rattle.ir_lower.specs.Frames.{FrameView}
use Rattle.pieces.specs.Program.{ArrayTree, ExpandedTree, expanded_of}
use Rattle.c_meaning.specs.PieceRuns.Pieces.{type_of}
use Rattle.c_meaning.specs.PieceRuns.Runs.{type_in, variables_of}
use Rattle.ir_core.specs.Bodies.{with_word}
use Rattle.ir_core.specs.FirstContents.{given_at, elements_or_none, first_memories, first_variables, with_kept, with_arguments}
use Rattle.pass_runs.proofs.LowerRuns.OperatorWords.Resizing.{count_is}
use Rattle.expand_runs.specs.Laws.{AreWords}
use Rattle.timed_pieces.specs.StartedWords.FirstWords.{FillVariables, FillsArray, FillsIfAny, FillHosts, HasContents}
use Rattle.timed_pieces.specs.StartedWords.{FirstWordsFit}
use Rattle.timed_pieces.proofs.StartedWords.FirstWords.{array_word, word_is}

-- ---- lists

abbrev or_none : Option ℕ → ℕ
or_none None = 0
or_none (Some n) = n

pub of_some : {A : Type 0} (g : A → ℕ) (o : Option A) (n : ℕ) → option_map g o ≡ Some n → (x : A) × (o ≡ Some x) × (g x ≡ n)
of_some g None n e = absurd cc
of_some g (Some x) n e = (x, refl, ap or_none e)

same_array : (a b : ArrayTree) → Some a ≡ Some b → a ≡ b
same_array a b e = ap (held a) e where
  held : ArrayTree → Option ArrayTree → ArrayTree
  held c None = c
  held c (Some d) = d

-- ---- variables

module _ (e : ExpandedTree) (v : ℕ) (k : CType) (at : slice_get e.variables v ≡ Some k) where
  word_fits : (w : VarId) (x : ℕ) (f : ℕ → ℕ) → x < 2 ^ width (type_in e w) → f v < 2 ^ width k → with_word f w.0 x v < 2 ^ width k
  word_fits w x f small fits = elim (eqb_tells w.0 v) [
    | inl same ↦
        let own : type_in e w ≡ k = ap (λ n. type_of (slice_get e.variables n)) same.1 ∙ ap type_of at in
        subst (λ b. (if b then x else f v) < 2 ^ width k) (sym same.0) (subst (λ z. x < 2 ^ width z) own small)
    | inr other ↦ subst (λ b. (if b then x else f v) < 2 ^ width k) (sym other.0) fits
  ]

  arguments_fit : (vs : List VarId) (xs : List ℕ) (f : ℕ → ℕ) → FillVariables e vs xs → f v < 2 ^ width k → with_arguments vs xs f v < 2 ^ width k
  arguments_fit [] xs f fill fits = fits
  arguments_fit (w ∷ vs) [] f fill fits = fits
  arguments_fit (w ∷ vs) (x ∷ xs) f fill fits = arguments_fit vs xs (with_word f w.0 x) fill.1 (word_fits w x f fill.0 fits)

  kept_fit : (kept : List Kept) (f : ℕ → ℕ) → FillVariables e (variables_of kept) (map (λ x. x.value) kept) → f v < 2 ^ width k → with_kept kept f v < 2 ^ width k
  kept_fit [] f fill fits = fits
  kept_fit (x ∷ kept) f fill fits = kept_fit kept (with_word f x.variable.0 x.value) fill.1 (word_fits x.variable x.value f fill.0 fits)

-- ---- arrays

given_fits : (k : CType) (places row : List ℕ) (q w : ℕ) → AreWords k row → w < 2 ^ width k → given_at places row q w < 2 ^ width k
given_fits k [] row q w each fits = fits
given_fits k (p ∷ places) [] q w each fits = fits
given_fits k (p ∷ places) (x ∷ row) q w each fits = either (p == q) (given_fits k places row q w each.1 fits) where
  either : (b : Bool) → given_at places row q w < 2 ^ width k → (if b then x else given_at places row q w) < 2 ^ width k
  either true rest = each.0
  either false rest = rest

own_words : (a : ArrayTree) (o : Option (List ℕ)) → FillsIfAny a o → AreWords a.kind (elements_or_none o)
own_words a None h = h
own_words a (Some row) h = h.1

no_words : (k : CType) (j : ℕ) → AreWords k (get_or [] j [])
no_words k zero = tt
no_words k (suc j) = tt

host_words_fit : (arrays : List ArrayTree) (rows : List (List ℕ)) → FillHosts arrays rows → (j : ℕ) (a : ArrayTree) → slice_get arrays j ≡ Some a → AreWords a.kind (get_or rows j [])
host_words_fit [] rows fill zero a at = absurd cc
host_words_fit [] rows fill (suc j) a at = absurd cc
host_words_fit (b ∷ arrays) [] fill j a at = no_words a.kind j
host_words_fit (b ∷ arrays) (row ∷ rows) fill zero a at = subst (λ c. AreWords c.kind row) (same_array b a at) fill.1.1
host_words_fit (b ∷ arrays) (row ∷ rows) fill (suc j) a at = host_words_fit arrays rows fill.2 j a at

array_fits : (a : ArrayTree) (given : List ℕ) (q : ℕ) → HasContents a → AreWords a.kind given → array_word a given q < 2 ^ width a.kind
array_fits a given q own each =
    let places = addresses a.lengths in
    let table = given_fits a.kind places (elements_or_none a.table) q 0 (own_words a a.table own.table) (pow_pos (width a.kind)) in
    let initial = given_fits a.kind places (elements_or_none a.initial) q (given_at places (elements_or_none a.table) q 0) (own_words a a.initial own.initial) table in
    given_fits a.kind places (if a.host then given else []) q (given_at places (elements_or_none a.initial) q (given_at places (elements_or_none a.table) q 0)) (chosen a.host) initial where
      chosen : (b : Bool) → AreWords a.kind (if b then given else [])
      chosen true = each
      chosen false = tt

pub first_words_fit : FirstWordsFit
first_words_fit x frame inputs same short contents fill hosts = record { variables = variables; memories = memories } where
  are : first_variables frame inputs.scalars ≡ with_arguments x.params.items inputs.scalars (with_kept x.kept.items (λ i. 0))
  are = ap (λ (v : FrameView). with_arguments v.params inputs.scalars (with_kept v.kept (λ i. 0))) same

  variables : (v n : ℕ) → slice_get (map width x.variables.items) v ≡ Some n → first_variables frame inputs.scalars v < count_of n
  variables v n at =
      let k = of_some width (slice_get x.variables.items v) n (sym (slice_get-map width x.variables.items v) ∙ at) in
      let kept = kept_fit (expanded_of x) v k.0 k.1 x.kept.items (λ i. 0) contents.values (pow_pos (width k.0)) in
      let fits = arguments_fit (expanded_of x) v k.0 k.1 x.params.items inputs.scalars (with_kept x.kept.items (λ i. 0)) fill kept in
      subst (λ m. first_variables frame inputs.scalars v < count_of m) k.2 (subst (λ m. first_variables frame inputs.scalars v < m) (sym (count_is k.0)) (subst (λ g. g v < 2 ^ width k.0) (sym are) fits))

  memories : (m n : ℕ) → slice_get (map (λ (a : ArrayTree). width a.kind) (expanded_of x).arrays) m ≡ Some n → (q : ℕ) → first_memories frame.memories.items inputs.arrays m q < count_of n
  memories m n at q =
      let a = of_some (λ (b : ArrayTree). width b.kind) (slice_get (expanded_of x).arrays m) n (sym (slice_get-map (λ (b : ArrayTree). width b.kind) (expanded_of x).arrays m) ∙ at) in
      let word = word_is x frame same short contents inputs.arrays m a.0 a.1 q in
      let fits = array_fits a.0 (get_or inputs.arrays m []) q (contents.arrays m a.0 a.1) (host_words_fit (expanded_of x).arrays inputs.arrays hosts m a.0 a.1) in
      subst (λ z. first_memories frame.memories.items inputs.arrays m q < count_of z) a.2 (subst (λ z. first_memories frame.memories.items inputs.arrays m q < z) (sym (count_is a.0.kind)) (subst (λ z. z < 2 ^ width a.0.kind) (sym word) fits))
