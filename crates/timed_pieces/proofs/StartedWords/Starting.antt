-- Words that begin with the inputs of a program show the store that its run starts with.
use Rattle.std.proofs.Common.{◌≡◌, ◌∙◌, ◌<◌, ℕ, zero, suc, ◌+◌, ◌^◌, Bool, true, false, refl, ap, sym, subst, arith, inl, inr, ℤ, pos, List, [], ◌∷◌, map, length, get_or, drop, Option, Some, None, mod-eq_of_lt, slice_get, if◌then◌else◌}
use Rattle.std.specs.Prelude.{unsigned_abs}
use Rattle.std.proofs.lemmas.List.{get_or-map}
use Rattle.std.proofs.lemmas.Nat.{pow_pos}
use Rattle.std.proofs.lemmas.Bool.Decides.{eqb_tells}
use Rattle.hls_base.specs.ArrayAddress.{addresses}
use Rattle.hls_base.specs.declared.number.VarId.{VarId}
use Rattle.c_token.specs.declared.ctype.CType.{CType}
use Rattle.c_token.specs.declared.ctype.CType.TheVariants as type
use Rattle.c_value.specs.Values.{width, number_of, convert}
use Rattle.c_meaning.specs.Run.{word_of, head_or_none}
use Rattle.pieces.specs.Program.{ArrayTree, ExpandedTree}
use Rattle.c_meaning.specs.PieceRuns.Values.{Store, lengths_in, element_number, with_variable}
use Rattle.c_meaning.specs.PieceRuns.Pieces.{Frame, type_of, kind_in, kind_at}
use Rattle.c_meaning.specs.PieceRuns.Runs.{frame_of, type_in, variables_of, with_words, with_array, with_kept, rest_kept, with_table, with_arrays, started, row_of, if_kept}
use Rattle.ir_core.specs.Bodies.{Words, address_of}
use Rattle.pass_runs.specs.LowerRuns.OperatorWords.Words.{IsWord}
use Rattle.pass_runs.proofs.LowerRuns.OperatorWords.Results as words
use Rattle.pass_runs.proofs.LowerRuns.OperatorWords.Resizing.{count_is}
use Rattle.pass_runs.specs.ConvertRuns.Typed.{Fits}
use Rattle.pass_runs.specs.ConvertRuns.LoweredConversions.Suiting.{widths_of, words_of}
use Rattle.pass_runs.proofs.ConvertRuns.LoweredConversions.Expressions.{mapped}
use Rattle.pass_runs.specs.LowerRuns.Suits.{scope_of}
use Rattle.pass_runs.specs.LowerRuns.Holding.{Holds, none_hidden, ArraysAreShort}
use Rattle.expand_runs.specs.Reading.{IsTyped, variable_type}
use Rattle.expand_runs.proofs.Typing.{converted_number}
use Rattle.timed_pieces.specs.StartedWords.Contents.{elements_at, host_words, kept_words, words_in, file_words, HostsAreApart}
use Rattle.timed_pieces.specs.StartedWords.{StartedWordsHold}
use Rattle.timed_pieces.proofs.StartedWords.Places.{address_count, is_placed}

-- ---- numbers of words

-- the number of the type whose word this is
pub own_word : (k : CType) (w : ℕ) → w < 2 ^ width k → IsWord k (convert k (pos w)) w
own_word type.Bool zero h = words.word_of type.Bool 0 h
own_word type.Bool (suc zero) h = words.word_of type.Bool 1 h
own_word type.Bool (suc (suc w)) h = absurd (let lt : suc (suc w) < 2 = h in omega (arith, lt))
own_word (type.Int signed bits) w h =
    let k = type.Int signed bits in
    let same : number_of k w ≡ convert k (pos w) = ap (number_of k) (sym (mod-eq_of_lt h)) in
    subst (λ v. IsWord k v w) same (words.word_of k w h)

-- ---- a program and words

module _ (e : ExpandedTree) (t : Words) where
  abbrev f : Frame
  f = frame_of e

  abbrev lengths_at : ℕ → List ℕ
  lengths_at a = lengths_in (slice_get e.arrays a)

  -- the words of variables and of elements
  abbrev pub VariablesShown : Store → Type 0
  VariablesShown s = (i : VarId) (k : CType) → slice_get e.variables i.0 ≡ Some k → IsWord k (s.variables i.0) (t.variables i.0)

  abbrev pub ElementsShown : Store → Type 0
  ElementsShown s = (a j : ℕ) → j < length (addresses (lengths_at a)) → IsWord (kind_at e.arrays a) (s.elements a j) (t.memories a (get_or (addresses (lengths_at a)) j 0))

  -- ---- what happens to be there

  abbrev pub found : Store
  found = record { variables = λ i. convert (variable_type f i) (pos (t.variables i)); elements = λ a j. convert (kind_at e.arrays a) (pos (t.memories a (get_or (addresses (lengths_at a)) j 0))) }

  pub found_typed : IsTyped f found
  found_typed = record { variables = λ i. converted_number (variable_type f i) (pos (t.variables i)); elements = λ a j. converted_number (kind_at e.arrays a) (pos (t.memories a (get_or (addresses (lengths_at a)) j 0))) }

  module _ (short : ArraysAreShort f) (fits : Fits (widths_of (scope_of f)) (words_of (scope_of f)) t) (nothing : (i : ℕ) → slice_get e.arrays i ≡ None → (address : ℕ) → t.memories i address ≡ 0) where
    variable_below : (i : ℕ) (k : CType) → slice_get e.variables i ≡ Some k → t.variables i < 2 ^ width k
    variable_below i k at = subst (λ n. t.variables i < n) (count_is k) (fits.variables i (width k) (mapped width e.variables i k at))

    memory_below : (a address : ℕ) → t.memories a address < 2 ^ width (kind_at e.arrays a)
    memory_below a address = at (slice_get e.arrays a) refl where
      at : (o : Option ArrayTree) → slice_get e.arrays a ≡ o → t.memories a address < 2 ^ width (kind_in (slice_get e.arrays a))
      at None is = let some = pow_pos (width (kind_in (slice_get e.arrays a))) in let none = nothing a is address in omega (arith, some, none)
      at (Some x) is =
          subst (λ o. t.memories a address < 2 ^ width (kind_in o)) (sym is)
          (subst (λ n. t.memories a address < n) (count_is x.kind) (fits.memories a (width x.kind) (mapped (λ (y : ArrayTree). width y.kind) e.arrays a x is) address))

    found_variables : VariablesShown found
    found_variables i k at =
        subst (λ o. IsWord k (convert (type_of o) (pos (t.variables i.0))) (t.variables i.0)) (sym at) (own_word k (t.variables i.0) (variable_below i.0 k at))

    found_elements : ElementsShown found
    found_elements a j h = own_word (kind_at e.arrays a) (t.memories a (get_or (addresses (lengths_at a)) j 0)) (memory_below a (get_or (addresses (lengths_at a)) j 0))

    -- ---- variables that have words

    set_shown : (v : VarId) (s : Store) → VariablesShown s → VariablesShown (with_variable v.0 (number_of (type_in e v) (t.variables v.0)) s)
    set_shown v s shown i k at = elim (eqb_tells v.0 i.0) [
      | inl same ↦
          let own : type_in e v ≡ k = ap (λ n. type_of (slice_get e.variables n)) same.1 ∙ ap type_of at in
          subst (λ b. IsWord k (if b then number_of (type_in e v) (t.variables v.0) else s.variables i.0) (t.variables i.0)) (sym same.0)
          (subst (λ n. IsWord k (number_of (type_in e v) (t.variables n)) (t.variables i.0)) (sym same.1) (subst (λ z. IsWord k (number_of z (t.variables i.0)) (t.variables i.0)) (sym own) (words.word_of k (t.variables i.0) (variable_below i.0 k at))))
      | inr other ↦ subst (λ b. IsWord k (if b then number_of (type_in e v) (t.variables v.0) else s.variables i.0) (t.variables i.0)) (sym other.0) (shown i k at)
    ]

    words_shown : (vs : List VarId) (s : Store) → VariablesShown s → VariablesShown (with_words e vs (words_in vs t.variables) s)
    words_shown [] s shown = shown
    words_shown (v ∷ vs) s shown = words_shown vs (with_variable v.0 (number_of (type_in e v) (t.variables v.0)) s) (set_shown v s shown)

    words_elements : (vs : List VarId) (ws : List ℕ) (s : Store) → (with_words e vs ws s).elements ≡ s.elements
    words_elements [] ws s = refl
    words_elements (v ∷ vs) ws s = words_elements vs (drop 1 ws) (with_variable v.0 (word_of (type_in e v) ws) s)

    -- ---- arrays that have rows

    array_shown : (i : ℕ) (a : ArrayTree) (s : Store) → slice_get e.arrays i ≡ Some a → ElementsShown s → ElementsShown (with_array i a.kind (elements_at a.lengths (t.memories i)) s)
    array_shown i a s at shown b j h = elim (eqb_tells i b) [
      | inl same ↦
          let address = get_or (addresses (lengths_at b)) j 0 in
          let here : slice_get e.arrays b ≡ Some a = ap (slice_get e.arrays) (sym same.1) ∙ at in
          let kind : a.kind ≡ kind_at e.arrays b = sym (ap kind_in here) in
          let lengths : a.lengths ≡ lengths_at b = sym (ap lengths_in here) in
          let row : get_or (elements_at a.lengths (t.memories i)) j 0 ≡ t.memories b address =
          ap (λ l. get_or (elements_at l (t.memories i)) j 0) lengths ∙ get_or-map (t.memories i) (addresses (lengths_at b)) j 0 0 h ∙ ap (λ n. t.memories n address) same.1 in
          let word : number_of a.kind (get_or (elements_at a.lengths (t.memories i)) j 0) ≡ number_of (kind_at e.arrays b) (t.memories b address) = ap (number_of a.kind) row ∙ ap (λ k. number_of k (t.memories b address)) kind in
          subst (λ c. IsWord (kind_at e.arrays b) ((if c then row_of a.kind (elements_at a.lengths (t.memories i)) else s.elements b) j) (t.memories b address)) (sym same.0)
          (subst (λ v. IsWord (kind_at e.arrays b) v (t.memories b address)) (sym word) (words.word_of (kind_at e.arrays b) (t.memories b address) (memory_below b address)))
      | inr other ↦
          subst (λ c. IsWord (kind_at e.arrays b) ((if c then row_of a.kind (elements_at a.lengths (t.memories i)) else s.elements b) j) (t.memories b (get_or (addresses (lengths_at b)) j 0))) (sym other.0) (shown b j h)
    ]

    array_variables : (i : ℕ) (k : CType) (row : List ℕ) (s : Store) → (with_array i k row s).variables ≡ s.variables
    array_variables i k row s = refl

    module _ (apart : HostsAreApart e.arrays) (tables : (i : ℕ) (a : ArrayTree) (ws : List ℕ) → slice_get e.arrays i ≡ Some a → a.table ≡ Some ws → elements_at a.lengths (t.memories i) ≡ ws) where
      table_shown : (o : Option (List ℕ)) (i : ℕ) (a : ArrayTree) (s : Store) → slice_get e.arrays i ≡ Some a → a.table ≡ o → ElementsShown s → ElementsShown (with_table o i a.kind s)
      table_shown None i a s at is shown = shown
      table_shown (Some ws) i a s at is shown = subst (λ l. ElementsShown (with_array i a.kind l s)) (tables i a ws at is) (array_shown i a s at shown)

      kept_shown : (o : Option (List ℕ)) (i : ℕ) (a : ArrayTree) (rest : List (List ℕ)) (s : Store) → slice_get e.arrays i ≡ Some a → ElementsShown s → ElementsShown (with_kept o i a.kind (if_kept o (elements_at a.lengths (t.memories i)) rest) s)
      kept_shown None i a rest s at shown = shown
      kept_shown (Some initial) i a rest s at shown = array_shown i a s at shown

      kept_left : (o : Option (List ℕ)) (row : List ℕ) (rest : List (List ℕ)) → rest_kept o (if_kept o row rest) ≡ rest
      kept_left None row rest = refl
      kept_left (Some initial) row rest = refl

      later : (arrays : List ArrayTree) (a : ArrayTree) (i : ℕ) → ((j : ℕ) → slice_get (a ∷ arrays) j ≡ slice_get e.arrays (i + j)) → (j : ℕ) → slice_get arrays j ≡ slice_get e.arrays (i + 1 + j)
      later arrays a i at j = at (suc j) ∙ ap (slice_get e.arrays) (let n : i + suc j ≡ i + 1 + j = omega arith in n)

      here : (arrays : List ArrayTree) (a : ArrayTree) (i : ℕ) → ((j : ℕ) → slice_get (a ∷ arrays) j ≡ slice_get e.arrays (i + j)) → slice_get e.arrays i ≡ Some a
      here arrays a i at = ap (slice_get e.arrays) (let n : i ≡ i + 0 = omega arith in n) ∙ sym (at 0)

      array_step : (b : Bool) (i : ℕ) (a : ArrayTree) (rest : List ArrayTree) (hosts kepts : List (List ℕ)) (s : Store) → slice_get e.arrays i ≡ Some a → a.host ≡ b
          → ((s1 : Store) → ElementsShown s1 → ElementsShown (with_arrays rest (i + 1) hosts kepts s1)) → ElementsShown s
          → let row = elements_at a.lengths (t.memories i) in
          let host = if b then row ∷ hosts else hosts in
          let file = if_kept a.initial row kepts in
          ElementsShown (if b then with_arrays rest (i + 1) (drop 1 host) file (with_array i a.kind (head_or_none host) s) else with_arrays rest (i + 1) host (rest_kept a.initial file) (with_table a.table i a.kind (with_kept a.initial i a.kind file s)))
      array_step true i a rest hosts kepts s at is next shown =
          let row = elements_at a.lengths (t.memories i) in
          subst (λ o. ElementsShown (with_arrays rest (i + 1) hosts (if_kept o row kepts) (with_array i a.kind row s))) (sym (apart i a at is)) (next (with_array i a.kind row s) (array_shown i a s at shown))
      array_step false i a rest hosts kepts s at is next shown =
          let row = elements_at a.lengths (t.memories i) in
          let own = with_table a.table i a.kind (with_kept a.initial i a.kind (if_kept a.initial row kepts) s) in
          subst (λ l. ElementsShown (with_arrays rest (i + 1) hosts l own)) (sym (kept_left a.initial row kepts))
          (next own (table_shown a.table i a (with_kept a.initial i a.kind (if_kept a.initial row kepts) s) at refl (kept_shown a.initial i a kepts s at shown)))

      arrays_shown : (arrays : List ArrayTree) (i : ℕ) (s : Store) → ((j : ℕ) → slice_get arrays j ≡ slice_get e.arrays (i + j)) → ElementsShown s
          → ElementsShown (with_arrays arrays i (host_words arrays i t.memories) (kept_words arrays i t.memories) s)
      arrays_shown [] i s at shown = shown
      arrays_shown (a ∷ rest) i s at shown =
          array_step a.host i a rest (host_words rest (i + 1) t.memories) (kept_words rest (i + 1) t.memories) s (here rest a i at) refl (λ s1. arrays_shown rest (i + 1) s1 (later rest a i at)) shown

    table_variables : (o : Option (List ℕ)) (i : ℕ) (k : CType) (s : Store) → (with_table o i k s).variables ≡ s.variables
    table_variables None i k s = refl
    table_variables (Some ws) i k s = refl

    kept_variables : (o : Option (List ℕ)) (i : ℕ) (k : CType) (file : List (List ℕ)) (s : Store) → (with_kept o i k file s).variables ≡ s.variables
    kept_variables None i k file s = refl
    kept_variables (Some ws) i k file s = refl

    step_variables : (b : Bool) (x y s : Store) → x.variables ≡ s.variables → y.variables ≡ s.variables → (if b then x else y).variables ≡ s.variables
    step_variables true x y s left right = left
    step_variables false x y s left right = right

    arrays_variables : (arrays : List ArrayTree) (i : ℕ) (host file : List (List ℕ)) (s : Store) → (with_arrays arrays i host file s).variables ≡ s.variables
    arrays_variables [] i host file s = refl
    arrays_variables (a ∷ rest) i host file s =
        let inner = with_kept a.initial i a.kind file s in
        let given = with_array i a.kind (head_or_none host) s in
        let own = with_table a.table i a.kind inner in
        step_variables a.host (with_arrays rest (i + 1) (drop 1 host) file given) (with_arrays rest (i + 1) host (rest_kept a.initial file) own) s (arrays_variables rest (i + 1) (drop 1 host) file given)
        (arrays_variables rest (i + 1) host (rest_kept a.initial file) own ∙ table_variables a.table i a.kind inner ∙ kept_variables a.initial i a.kind file s)

    -- ---- stores that are shown

    shown_holds : (s : Store) → VariablesShown s → ElementsShown s → Holds f none_hidden s t
    shown_holds s variables elements = record { variables = λ i k at h. variables i k at; arrays = arrays } where
      arrays : (a : ℕ) (is_ : List ℤ) (i : ℕ) → element_number e.arrays a is_ ≡ Some i → IsWord (kind_at e.arrays a) (s.elements a i) (t.memories a (address_of (lengths_at a) (map unsigned_abs is_)))
      arrays a is_ i at =
          let p = is_placed (lengths_at a) is_ i (short a) at in
          subst (λ n. IsWord (kind_at e.arrays a) (s.elements a i) (t.memories a n)) p.stands (elements a i (let count = address_count (lengths_at a) in let below = p.below in omega (arith, count, below)))

pub started_words_hold : StartedWordsHold
started_words_hold e kept scalars arrays t short apart fits begins = (found e t, found_typed e t, holds) where
  f : Frame
  f = frame_of e

  file : List (List ℕ)
  file = kept_words e.arrays 0 t.memories

  params : Store
  params = with_words e e.params (words_in e.params t.variables) (found e t)

  set : Store
  set = with_words e (variables_of e.kept) (words_in (variables_of e.kept) t.variables) params

  whole : Store
  whole = started e (found e t) (file_words e t) (words_in e.params t.variables) (host_words e.arrays 0 t.memories)

  set_elements : set.elements ≡ (found e t).elements
  set_elements = words_elements e t short fits begins.nothing (variables_of e.kept) (words_in (variables_of e.kept) t.variables) params ∙ words_elements e t short fits begins.nothing e.params (words_in e.params t.variables) (found e t)

  set_variables : VariablesShown e t set
  set_variables = words_shown e t short fits begins.nothing (variables_of e.kept) params (words_shown e t short fits begins.nothing e.params (found e t) (found_variables e t short fits begins.nothing))

  elements : ElementsShown e t whole
  elements =
      arrays_shown e t short fits begins.nothing apart begins.tables e.arrays 0 set (λ j. ap (slice_get e.arrays) (let z : j ≡ 0 + j = omega arith in z))
      (λ a j h. subst (λ g. IsWord (kind_at e.arrays a) (g a j) (t.memories a (get_or (addresses (lengths_in (slice_get e.arrays a))) j 0))) (sym set_elements) (found_elements e t short fits begins.nothing a j h))

  variables : VariablesShown e t whole
  variables i k at = subst (λ g. IsWord k (g i.0) (t.variables i.0)) (sym (arrays_variables e t short fits begins.nothing e.arrays 0 (host_words e.arrays 0 t.memories) file set)) (set_variables i k at)

  holds : Holds f none_hidden (started e (found e t) kept scalars arrays) t
  holds =
      subst (λ x. Holds f none_hidden (started e (found e t) x scalars arrays) t) begins.file
      (subst (λ x. Holds f none_hidden (started e (found e t) (file_words e t) x arrays) t) begins.params
      (subst (λ x. Holds f none_hidden (started e (found e t) (file_words e t) (words_in e.params t.variables) x) t) begins.hosts
      (shown_holds e t short fits begins.nothing whole variables elements)))
