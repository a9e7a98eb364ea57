-- Each row of tokens stands for one row, by one count of replaced words.
use Rattle.std.proofs.Common.{◌≡◌, ℕ, zero, suc, ◌+◌, ◌≤◌, ◌∙◌, sym, refl, ap, subst, Bool, true, false, List, [], ◌∷◌, ◌++◌, length, Option, Some, None, arith}
use Rattle.std.specs.Prelude.{bytes_eq}
use Rattle.c_token.specs.declared.token.Token.{Token}
use Rattle.c_token.specs.declared.token.TokenKind.{TokenKind}
use Rattle.c_token.specs.declared.token.TokenKind.TheVariants as k
use Rattle.c_token.specs.Replacement.{find_word, Table, without, body_of, hide, StandsFor, nothing, stays, is_replaced, placed, TokenBecomes, StandsForOne}

-- ---- there is one

pub length-without : (word : List ℕ) (table : Table) (body : List Token) → find_word word table ≡ Some body → length (without word table) + 1 ≡ length table
length-without word [] body e = absurd cc
length-without word (row ∷ rows) body e = go (bytes_eq word row.0) refl (length-without word rows body)
  where
    go : (same : Bool) → bytes_eq word row.0 ≡ same → (find_word word rows ≡ Some body → length (without word rows) + 1 ≡ length rows)
        → length (without word (row ∷ rows)) + 1 ≡ length (row ∷ rows)
    go true h others = rw h (omega arith)
    go false h others = (let f : find_word word rows ≡ Some body = rw h at e in let l = others f in rw h (omega arith))

pub length-hide : (kind : TokenKind) (table : Table) (body : List Token) → body_of table kind ≡ Some body → length (hide kind table) + 1 ≡ length table
length-hide (k.Word word) table body e = length-without word table body e
length-hide (k.Number v kind) table body e = absurd cc
length-hide (k.Punct p) table body e = absurd cc
length-hide (k.TypeWord kind) table body e = absurd cc

abbrev pub Something : Table → List Token → Type 0
Something table tokens = (row : List Token) × (words : ℕ) × StandsFor table tokens row words

-- a row, where the tokens of each defined word stand for something
row_stands : (table : Table) → ((token : Token) (body : List Token) → body_of table token.kind ≡ Some body → Something (hide token.kind table) body) → (tokens : List Token) → Something table tokens
row_stands table inside [] = ([], 0, nothing table)
row_stands table inside (token ∷ tokens) = go (row_stands table inside tokens) (body_of table token.kind) refl
  where
    go : Something table tokens → (found : Option (List Token)) → body_of table token.kind ≡ found → Something table (token ∷ tokens)
    go rest None e = (token ∷ rest.0, rest.1, stays table token tokens rest.0 rest.1 e rest.2)
    go rest (Some body) e =
        (let i = inside token body e in (i.0 ++ rest.0, 1 + i.1 + rest.1, is_replaced table token body i.0 tokens rest.0 i.1 rest.1 e i.2 rest.2))

-- At most as many words are hidden at once as are defined.
levels_stand : (levels : ℕ) (table : Table) → length table ≤ levels → (tokens : List Token) → Something table tokens
levels_stand zero table h tokens = row_stands table (λ token body e. let l = length-hide token.kind table body e in absurd (omega arith)) tokens
levels_stand (suc levels) table h tokens =
    row_stands table (λ token body e. let l = length-hide token.kind table body e in levels_stand levels (hide token.kind table) (omega arith) body) tokens

pub stands_for_something : (table : Table) (tokens : List Token) → Something table tokens
stands_for_something table tokens = levels_stand (length table) table (omega arith) tokens

-- ---- there is only one

pub stands_for_once : (table : Table) (tokens xs ys : List Token) (m n : ℕ) → StandsFor table tokens xs m → StandsFor table tokens ys n → (xs ≡ ys) × (m ≡ n)
stands_for_once table tokens xs ys m n (nothing t) (nothing u) = (refl, refl)
stands_for_once table tokens xs ys m n (stays t token rest row words e a) (stays u other more line count f b) =
    let same = stands_for_once t rest row line words count a b in (ap (λ z. token ∷ z) same.0, same.1)
stands_for_once table tokens xs ys m n (stays t token rest row words e a) (is_replaced u other body inner more line i j f c b) = absurd cc
stands_for_once table tokens xs ys m n (is_replaced t token body inner rest row i j e c a) (stays u other more line count f b) = absurd cc
stands_for_once table tokens xs ys m n (is_replaced t token body inner rest row i j e c a) (is_replaced u other text inside more line k l f d b) =
    let bodies : Some body ≡ Some text = sym e ∙ f in
    let text_is : body ≡ text = cc in
    let first = stands_for_once (hide token.kind t) text inner inside i k (subst (λ z. StandsFor (hide token.kind t) z inner i) text_is c) d in
    let second = stands_for_once t rest row line j l a b in
    (cc, cc)

pub stands_for_one : (table : Table) (tokens : List Token) → StandsForOne table tokens
stands_for_one table tokens =
    let s = stands_for_something table tokens in
    (s.0, s.1, s.2, λ other count t. stands_for_once table tokens other s.0 count s.1 t s.2)

-- ---- rows

pub head_stays : (table : Table) (token : Token) (tokens row : List Token) (n : ℕ) → body_of table token.kind ≡ None → StandsFor table (token ∷ tokens) row n → 1 ≤ length row
head_stays table token tokens row n h (stays t x xs line words e a) = omega arith
head_stays table token tokens row n h (is_replaced t x body inner xs line i j e c a) = absurd cc

pub head_is_replaced : (table : Table) (token : Token) (tokens row body : List Token) (n : ℕ) → body_of table token.kind ≡ Some body → StandsFor table (token ∷ tokens) row n
    → (inner line : List Token) × (i : ℕ) × (j : ℕ) × StandsFor (hide token.kind table) body inner i × (row ≡ inner ++ line) × (n ≡ 1 + i + j)
head_is_replaced table token tokens row body n h (stays t x xs line words e a) = absurd cc
head_is_replaced table token tokens row body n h (is_replaced t x text inner xs line i j e c a) =
    let texts : Some text ≡ Some body = sym e ∙ h in
    let same : text ≡ body = cc in
    (inner, line, i, j, subst (λ z. StandsFor (hide token.kind t) z inner i) same c, refl, refl)

pub token_becomes_once : (included : Bool) (table : Table) (token : Token) (xs ys : List Token) (m n : ℕ) → TokenBecomes included table token xs m → TokenBecomes included table token ys n → (xs ≡ ys) × (m ≡ n)
token_becomes_once included table token xs ys m n (row, a, e) (line, b, f) =
    let same = stands_for_once table (token ∷ []) row line m n a b in
    (e ∙ (ap (placed included token (body_of table token.kind)) same.0 ∙ sym f), same.1)

pub token_becomes_something : (included : Bool) (table : Table) (token : Token) → (tokens : List Token) × (words : ℕ) × TokenBecomes included table token tokens words
token_becomes_something included table token =
    let s = stands_for_something table (token ∷ []) in
    (placed included token (body_of table token.kind) s.0, s.1, (s.0, s.2, refl))
