-- What a run file gives fits the parameters.
use Rattle.std.proofs.Common.{◌≡◌, ℕ, ℤ, pos, negsuc, zero, suc, ◌+◌, ◌^◌, ◌<◌, ◌≤◌, ◌==◌, nat_lt, true, List, [], ◌∷◌, map, length, Option, Some, None, bytes_eq, slice_get, IsTrue, IfOk, Result, Ok, Err, refl, sym, ap, ◌∙◌, subst, arith, inl, inr}
use Rattle.std.specs.Str.Lines.{lines}
use Rattle.std.specs.Option.{option_and_then}
use Rattle.std.proofs.lemmas.Bool.{cases_Bool, eqb-true, lt-ltb, and_from, and_parts, not-false}
use Rattle.std.proofs.lemmas.Nat.{pow_pos}
use Rattle.std.proofs.lemmas.List.{nil_from_length}
use Rattle.hls_base.specs.ArrayAddress.{element_count}
use Rattle.hls_base.specs.declared.inputs.Inputs.{Inputs}
use Rattle.c_token.specs.declared.ctype.CType.{CType}
use Rattle.c_tree.specs.Tree.{ObjectTree, ParamTree}
use Rattle.c_value.specs.Values.{width, is_of, pattern}
use Rattle.c_meaning.specs.Run.{is_array_parameter}
use Rattle.c_meaning.specs.Store.{lengths_in}
use Rattle.c_meaning.specs.FittingInputs.{word_fits, words_fit, array_fits, scalars_fit, arrays_fit, inputs_fit}
use Rattle.cosim_levels.specs.declared.row.Row.{Row}
use Rattle.cosim_levels.specs.declared.row.Row.TheVariants as row
use Rattle.cosim_levels.specs.Numerals.{bits_of_number, bits_of_word, bits_of_words, first_and_others, number_of_word}
use Rattle.cosim_levels.specs.Rows.{is_blank, words_of, gives_or_refused, given_to, given_by_name, row_of_words, row_of}
use Rattle.cosim_levels.specs.RunFile.{given_in, first_refused, Reading, inputs, refused, with_first, with_parameter, inputs_from, reading_unless, rows_of, reading_of}

-- ---- bits fit their type

pattern-lt : (kind : CType) (n : ℤ) → pattern kind n < 2 ^ width kind
pattern-lt kind (pos a) = omega (arith, pow_pos (width kind))
pattern-lt kind (negsuc a) = omega (arith, pow_pos (width kind))

number_fits : (kind : CType) (n : ℤ) (word : ℕ) → bits_of_number kind n ≡ Some word → word_fits kind word ≡ true
number_fits kind n word e =
    elim (cases_Bool (is_of kind n)) [
      | inl t ↦ (
          let is : Some (pattern kind n) ≡ Some word = rw t at e in
          let same : pattern kind n ≡ word = cc in
          rw (← same) (lt-ltb (pattern kind n) (2 ^ width kind) (pattern-lt kind n)))
      | inr f ↦ (let is : None ≡ Some word = rw f at e in cc)
    ]

word_in_type : (kind : CType) (o : Option ℤ) (word : ℕ) → option_and_then (bits_of_number kind) o ≡ Some word → word_fits kind word ≡ true
word_in_type kind None word e = cc
word_in_type kind (Some n) word e = number_fits kind n word e

first_words : (kind : CType) (o : Option ℕ) (more : Option (List ℕ)) (words : List ℕ) → ((word : ℕ) → o ≡ Some word → word_fits kind word ≡ true)
    → ((others : List ℕ) → more ≡ Some others → words_fit kind others ≡ true) → first_and_others o more ≡ Some words → words_fit kind words ≡ true
first_words kind None more words one rest e = cc
first_words kind (Some word) None words one rest e = cc
first_words kind (Some word) (Some others) words one rest e =
    let is : words ≡ word ∷ others = cc in
    rw is (and_from (word_fits kind word) (words_fit kind others) (one word refl) (rest others refl))

all_fit : (kind : CType) (values : List (List ℕ)) (words : List ℕ) → bits_of_words kind values ≡ Some words → words_fit kind words ≡ true
all_fit kind [] words e = let is : words ≡ [] = cc in rw is refl
all_fit kind (value ∷ values) words e =
    first_words kind (bits_of_word kind value) (bits_of_words kind values) words (λ word h. word_in_type kind (number_of_word value) word h) (λ others h. all_fit kind values others h) e

count_words : (kind : CType) (values : List (List ℕ)) (words : List ℕ) → bits_of_words kind values ≡ Some words → length words ≡ length values
count_words kind [] words e = let is : words ≡ [] = cc in rw is refl
count_words kind (value ∷ values) words e = counted (bits_of_word kind value) (bits_of_words kind values) (λ others h. count_words kind values others h) e
  where
    counted : (o : Option ℕ) (more : Option (List ℕ)) → ((others : List ℕ) → more ≡ Some others → length others ≡ length values) → first_and_others o more ≡ Some words → length words ≡ suc (length values)
    counted None more rest e = cc
    counted (Some word) None rest e = cc
    counted (Some word) (Some others) rest e = let is : words ≡ word ∷ others = cc in rw is (ap suc (rest others refl))

-- ---- the numbers of a row fit its parameter

given_fits : (k j : ℕ) (o : ObjectTree) (values : List (List ℕ)) (words : List ℕ) → given_to k o values ≡ row.Gives j words → (k ≡ j) × (array_fits o words ≡ true)
given_fits k j o values words e =
    elim (cases_Bool (length values == element_count (lengths_in o))) [
      | inl t ↦ (let is : gives_or_refused k (bits_of_words o.kind values) ≡ row.Gives j words = rw t at e in some (bits_of_words o.kind values) refl t is)
      | inr f ↦ (let is : row.Refused ≡ row.Gives j words = rw f at e in cc)
    ]
  where
    some : (found : Option (List ℕ)) → bits_of_words o.kind values ≡ found → (length values == element_count (lengths_in o)) ≡ true → gives_or_refused k found ≡ row.Gives j words
        → (k ≡ j) × (array_fits o words ≡ true)
    some None e t is = cc
    some (Some ws) e t is =
        let same : ws ≡ words = cc in
        let count : length words ≡ length values = ap length (sym same) ∙ count_words o.kind values ws e in
        let right : (length words == element_count (lengths_in o)) ≡ true = rw count t in
        let fit : words_fit o.kind words ≡ true = ap (words_fit o.kind) (sym same) ∙ all_fit o.kind values ws e in
        (cc, and_from (length words == element_count (lengths_in o)) (words_fit o.kind words) right fit)

index-ge : (k j : ℕ) (ps : List ParamTree) (name : List ℕ) (values : List (List ℕ)) (words : List ℕ) → given_by_name k ps name values ≡ row.Gives j words → k ≤ j
index-ge k j [] name values words e = cc
index-ge k j (p ∷ ps) name values words e =
    elim (cases_Bool (bytes_eq p.object.name name)) [
      | inl t ↦ (let is : given_to k p.object values ≡ row.Gives j words = rw t at e in omega (arith, (given_fits k j p.object values words is).0))
      | inr f ↦ (let is : given_by_name (suc k) ps name values ≡ row.Gives j words = rw f at e in omega (arith, index-ge (suc k) j ps name values words is))
    ]

named_fits : (k j : ℕ) (ps : List ParamTree) (p : ParamTree) (name : List ℕ) (values : List (List ℕ)) (words : List ℕ) → slice_get ps j ≡ Some p
    → given_by_name k ps name values ≡ row.Gives (k + j) words → array_fits p.object words ≡ true
named_fits k j [] p name values words at e = cc
named_fits k zero (q ∷ ps) p name values words at e =
    let same : q ≡ p = cc in
    elim (cases_Bool (bytes_eq q.object.name name)) [
      | inl t ↦ (let is : given_to k q.object values ≡ row.Gives (k + 0) words = rw t at e in rw (← same) (given_fits k (k + 0) q.object values words is).1)
      | inr f ↦ (let is : given_by_name (suc k) ps name values ≡ row.Gives (k + 0) words = rw f at e in absurd (omega (arith, index-ge (suc k) (k + 0) ps name values words is)))
    ]
named_fits k (suc j) (q ∷ ps) p name values words at e =
    elim (cases_Bool (bytes_eq q.object.name name)) [
      | inl t ↦ (let is : given_to k q.object values ≡ row.Gives (k + suc j) words = rw t at e in absurd (omega (arith, (given_fits k (k + suc j) q.object values words is).0)))
      | inr f ↦ (
          let is : given_by_name (suc k) ps name values ≡ row.Gives (k + suc j) words = rw f at e in
          let place : k + suc j ≡ suc k + j = omega arith in
          named_fits (suc k) j ps p name values words at (rw place at is))
    ]

words_fit_row : (ps : List ParamTree) (o : Option (List (List ℕ))) (j : ℕ) (p : ParamTree) (words : List ℕ) → slice_get ps j ≡ Some p → row_of_words ps o ≡ row.Gives j words → array_fits p.object words ≡ true
words_fit_row ps None j p words at e = cc
words_fit_row ps (Some []) j p words at e = cc
words_fit_row ps (Some (name ∷ [])) j p words at e = cc
words_fit_row ps (Some (name ∷ sign ∷ values)) j p words at e =
    elim (cases_Bool (bytes_eq sign (61 ∷ []))) [
      | inl t ↦ (
          let is : given_by_name 0 ps name values ≡ row.Gives j words = rw t at e in
          let place : j ≡ 0 + j = omega arith in
          named_fits 0 j ps p name values words at (rw place at is))
      | inr f ↦ (let is : row.Refused ≡ row.Gives j words = rw f at e in cc)
    ]

row_fits : (ps : List ParamTree) (line : List ℕ) (j : ℕ) (p : ParamTree) (words : List ℕ) → slice_get ps j ≡ Some p → row_of ps line ≡ row.Gives j words → array_fits p.object words ≡ true
row_fits ps line j p words at e =
    elim (cases_Bool (is_blank line)) [
      | inl t ↦ (let is : row.Nothing ≡ row.Gives j words = rw t at e in cc)
      | inr f ↦ (let is : row_of_words ps (words_of line) ≡ row.Gives j words = rw f at e in words_fit_row ps (words_of line) j p words at is)
    ]

rows_fit : (ps : List ParamTree) (ls : List (List ℕ)) (j : ℕ) (p : ParamTree) (words : List ℕ) → slice_get ps j ≡ Some p → given_in (map (row_of ps) ls) j ≡ Some words → array_fits p.object words ≡ true
rows_fit ps [] j p words at e = cc
rows_fit ps (line ∷ ls) j p words at e = here (row_of ps line) refl e (λ h. rows_fit ps ls j p words at h)
  where
    here : (r : Row) → row_of ps line ≡ r → given_in (r ∷ map (row_of ps) ls) j ≡ Some words → (given_in (map (row_of ps) ls) j ≡ Some words → array_fits p.object words ≡ true)
        → array_fits p.object words ≡ true
    here row.Nothing is e others = others e
    here row.Refused is e others = others e
    here (row.Gives i ws) is e others =
        elim (cases_Bool (i == j)) [
          | inl t ↦ (
              let given : Some ws ≡ Some words = rw t at e in
              let same : ws ≡ words = cc in
              let place : i ≡ j = eqb-true i j t in
              row_fits ps line j p words at (is ∙ rw (place, same) refl))
          | inr f ↦ (let rest : given_in (map (row_of ps) ls) j ≡ Some words = rw f at e in others rest)
        ]

-- ---- what is given to all parameters fits them

one_word : (o : ObjectTree) (words : List ℕ) → length o.lengths ≡ 0 → array_fits o words ≡ true → (word : ℕ) × (words ≡ word ∷ []) × (word_fits o.kind word ≡ true)
one_word o words scalar fit =
    let parts = and_parts (length words == element_count (lengths_in o)) (words_fit o.kind words) fit in
    let none : o.lengths ≡ [] = nil_from_length o.lengths scalar in
    let one : (length words == 1) ≡ true = rw none at parts.0 in
    single words (eqb-true (length words) 1 one) parts.1
  where
    single : (ws : List ℕ) → length ws ≡ 1 → words_fit o.kind ws ≡ true → (word : ℕ) × (ws ≡ word ∷ []) × (word_fits o.kind word ≡ true)
    single [] h fit = absurd (omega arith)
    single (w ∷ []) h fit = (w, refl, (and_parts (word_fits o.kind w) true fit).0)
    single (w ∷ x ∷ ws) h fit = absurd (omega arith)

abbrev AllFit : List ParamTree → Reading → Type 0
AllFit ps (inputs scalars arrays) = (scalars_fit ps scalars ≡ true) × (arrays_fit ps arrays ≡ true)
AllFit ps (refused line) = Unit {0}

first_all : (p : ParamTree) (ps : List ParamTree) (words : List ℕ) (r : Reading) → array_fits p.object words ≡ true → AllFit ps r → AllFit (p ∷ ps) (with_first (is_array_parameter p) words r)
first_all p ps words (refused line) fit all = tt
first_all p ps words (inputs scalars arrays) fit all =
    elim (cases_Bool (is_array_parameter p)) [
      | inl t ↦ rw t (rw t all.0, rw t (and_from (array_fits p.object words) (arrays_fit ps arrays) fit all.1))
      | inr f ↦ (
          let one = one_word p.object words (eqb-true (length p.object.lengths) 0 (not-false (length p.object.lengths == 0) f)) fit in
          rw (f, one.1) (rw f (and_from (word_fits p.object.kind one.0) (scalars_fit ps scalars) one.2 all.0), rw f all.1))
    ]

inputs-fit : (line : ℕ) (given : ℕ → Option (List ℕ)) (k : ℕ) (ps : List ParamTree)
    → ((j : ℕ) (p : ParamTree) (words : List ℕ) → slice_get ps j ≡ Some p → given (k + j) ≡ Some words → array_fits p.object words ≡ true) → AllFit ps (inputs_from line given k ps)
inputs-fit line given k [] fits = (refl, refl)
inputs-fit line given k (p ∷ ps) fits =
    here (given k) refl (inputs-fit line given (suc k) ps (λ j q words at e. (let place : suc k + j ≡ k + suc j = omega arith in fits (suc j) q words at (rw place at e))))
  where
    here : (o : Option (List ℕ)) → given k ≡ o → AllFit ps (inputs_from line given (suc k) ps) → AllFit (p ∷ ps) (with_parameter line p o (inputs_from line given (suc k) ps))
    here None e all = tt
    here (Some words) e all =
        let place : k + 0 ≡ k = omega arith in
        first_all p ps words (inputs_from line given (suc k) ps) (fits 0 p words refl (rw place e)) all

unless-fits : (ps : List ParamTree) (o : Option ℕ) (r : Reading) → AllFit ps r → AllFit ps (reading_unless o r)
unless-fits ps None r all = all
unless-fits ps (Some line) r all = tt

reading-fits : (ps : List ParamTree) (bytes : List ℕ) → AllFit ps (reading_of ps bytes)
reading-fits ps bytes =
    elim (cases_Bool (nat_lt 16777216 (length bytes))) [
      | inl t ↦ rw t tt
      | inr f ↦ rw f (unless-fits ps (first_refused [] (rows_of ps bytes)) (inputs_from (length (rows_of ps bytes) + 1) (given_in (rows_of ps bytes)) 0 ps)
          (inputs-fit (length (rows_of ps bytes) + 1) (given_in (rows_of ps bytes)) 0 ps
          (λ j p words at e. (let place : 0 + j ≡ j = omega arith in rows_fit ps (lines bytes) j p words at (rw place at e)))))
    ]

-- the answered inputs fit
pub answer_fits : (ps : List ParamTree) (bytes : List ℕ) (scalars : List ℕ) (arrays : List (List ℕ)) → reading_of ps bytes ≡ inputs scalars arrays → inputs_fit ps scalars arrays ≡ true
answer_fits ps bytes scalars arrays e =
    let all : AllFit ps (inputs scalars arrays) = subst (AllFit ps) e (reading-fits ps bytes) in
    and_from (scalars_fit ps scalars) (arrays_fit ps arrays) all.0 all.1

pub ok_fits : {E : Type 0} (ps : List ParamTree) (bytes : List ℕ) (r : Result Inputs E) → IfOk r (λ i. reading_of ps bytes ≡ inputs i.scalars i.arrays) → IfOk r (λ i. IsTrue (inputs_fit ps i.scalars i.arrays))
ok_fits ps bytes (Ok i) e = answer_fits ps bytes i.scalars i.arrays e
ok_fits ps bytes (Err e) h = tt
