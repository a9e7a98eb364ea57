-- The bytes of a text are read in one way.
use Rattle.std.proofs.Common.{◌≡◌, ◌⊎◌, inl, inr, ℕ, ◌<◌, Bool, true, false, not, ◌&&◌, ◌||◌, eqb, leb, List, [], ◌∷◌, ◌++◌, length, codes, append_assoc, append-nil, refl, sym, ap, ◌∙◌, subst, arith, length-append}
use Rattle.std.specs.List.{All, Contains}
use Rattle.std.proofs.lemmas.Bool.{false≢true, le-leb}
use Rattle.std.proofs.lemmas.List.Elements.{All-head, All-tail, All-contains}
use Rattle.hls_base.specs.declared.place.Place.{Place}
use Rattle.rtl_core.specs.Valid.{IsLetter, IsDigit, IsIdentifier}
use Rattle.rtl_core.specs.ModuleTokens.{Token, Word, Number, Constant, Sign, signs, IsNumber, number_value, value_behind, IsConstantText, IsToken, IsLongest, IsWhite, IsAtLineEnd, HasNoEnd, Spells}
use Rattle.rtl_core.specs.ModuleTokens as spelled
use Rattle.rtl_core.proofs.Tokens.{every_true, digit_is, letter_is, is_digit, is_letter}
use Rattle.verilog_syntax.specs.Lexemes.{Lexeme, tokens_of, IsGap, Reads, over, a_gap, a_token, NothingBegins}
use Rattle.verilog_syntax.specs.Lexemes as gap
use Rattle.verilog_syntax.proofs.Pieces.{Begins, first_of, letter_no_digit}
use Rattle.verilog_syntax.proofs.Numerals.{sizes_agree, not_digit_end}
use Rattle.verilog_syntax.proofs.TokenSizes.{token_some}

-- ---- rows

-- of two fronts of a row one is the front of the other
pub prefix_cases : {A : Type 0} (xs us ys vs : List A) → xs ++ us ≡ ys ++ vs
    → ((zs : List A) × (ys ≡ xs ++ zs) × (us ≡ zs ++ vs)) ⊎ ((zs : List A) × (xs ≡ ys ++ zs) × (vs ≡ zs ++ us))
prefix_cases [] us ys vs e = inl (ys, refl, e)
prefix_cases (x ∷ xs) us [] vs e = inr (x ∷ xs, refl, sym e)
prefix_cases (x ∷ xs) us (y ∷ ys) vs e =
    let head : x ≡ y = cc in
    let tail : xs ++ us ≡ ys ++ vs = cc in
    elim (prefix_cases xs us ys vs tail) [
      | inl r ↦ inl (r.0, ap (λ z. z ∷ ys) (sym head) ∙ ap (λ zs. x ∷ zs) r.1, r.2)
      | inr r ↦ inr (r.0, ap (λ z. z ∷ xs) head ∙ ap (λ zs. y ∷ zs) r.1, r.2)
    ]

pub same_front : {A : Type 0} (xs us vs : List A) → xs ++ us ≡ xs ++ vs → us ≡ vs
same_front [] us vs e = e
same_front (x ∷ xs) us vs e = let tail : xs ++ us ≡ xs ++ vs = cc in same_front xs us vs tail

no_more : {A : Type 0} (xs zs : List A) → zs ≡ [] → xs ++ zs ≡ xs
no_more xs zs e = ap (λ z. xs ++ z) e ∙ append-nil xs

-- ---- gaps

white_no_slash : (c : ℕ) → IsWhite c → c ≡ 47 → ⊥
white_no_slash c (inl h) e = omega arith
white_no_slash c (inr h) e = omega arith

same_line : (xs us ys vs : List ℕ) → All (λ c. c ≡ 10 → ⊥) xs → All (λ c. c ≡ 10 → ⊥) ys → IsAtLineEnd us → IsAtLineEnd vs → xs ++ us ≡ ys ++ vs → us ≡ vs
same_line [] us [] vs h k l r e = e
same_line [] [] (y ∷ ys) vs h k l r e = absurd cc
same_line [] (u ∷ us) (y ∷ ys) vs h k l r e = let head : u ≡ y = cc in absurd (All-head (λ c. c ≡ 10 → ⊥) y ys k (sym head ∙ l))
same_line (x ∷ xs) us [] [] h k l r e = absurd cc
same_line (x ∷ xs) us [] (v ∷ vs) h k l r e = let head : x ≡ v = cc in absurd (All-head (λ c. c ≡ 10 → ⊥) x xs h (head ∙ r))
same_line (x ∷ xs) us (y ∷ ys) vs h k l r e =
    let tail : xs ++ us ≡ ys ++ vs = cc in same_line xs us ys vs (All-tail (λ c. c ≡ 10 → ⊥) x xs h) (All-tail (λ c. c ≡ 10 → ⊥) y ys k) l r tail

same_comment : (xs us ys vs : List ℕ) → HasNoEnd xs → HasNoEnd ys → (xs ++ codes "*/") ++ us ≡ (ys ++ codes "*/") ++ vs → us ≡ vs
same_comment xs us ys vs h k e =
    elim (prefix_cases (xs ++ codes "*/") us (ys ++ codes "*/") vs e) [
      | inl r ↦ r.2 ∙ ap (λ z. z ++ vs) (k xs r.0 (r.1 ∙ append_assoc xs (codes "*/") r.0))
      | inr r ↦ sym (r.2 ∙ ap (λ z. z ++ us) (h ys r.0 (r.1 ∙ append_assoc ys (codes "*/") r.0)))
    ]

abbrev second : List ℕ → ℕ
second [] = 0
second (x ∷ []) = 0
second (x ∷ y ∷ ys) = y

apart_comments : (a b : ℕ) → a ≡ 47 → b ≡ 42 → a ≡ b → ⊥
apart_comments a b p q e = omega (arith, p, q, e)

pub same_gap : (t1 r1 t2 r2 : List ℕ) → IsGap t1 r1 → IsGap t2 r2 → t1 ++ r1 ≡ t2 ++ r2 → r1 ≡ r2
same_gap _ r1 _ r2 (gap.white c rest w) (gap.white d rest2 v) e = cc
same_gap _ r1 _ r2 (gap.white c rest w) (gap.line_comment body rest2 h l) e = let head : c ≡ 47 = cc in absurd (white_no_slash c w head)
same_gap _ r1 _ r2 (gap.white c rest w) (gap.block_comment body rest2 h) e = let head : c ≡ 47 = cc in absurd (white_no_slash c w head)
same_gap _ r1 _ r2 (gap.line_comment body rest h l) (gap.white d rest2 v) e = let head : d ≡ 47 = cc in absurd (white_no_slash d v head)
same_gap _ r1 _ r2 (gap.line_comment body rest h l) (gap.line_comment body2 rest2 h2 l2) e =
    let tail : body ++ r1 ≡ body2 ++ r2 = cc in same_line body r1 body2 r2 h h2 l l2 tail
same_gap _ r1 _ r2 (gap.line_comment body rest h l) (gap.block_comment body2 rest2 h2) e = absurd (apart_comments 47 42 refl refl (ap second e))
same_gap _ r1 _ r2 (gap.block_comment body rest h) (gap.white d rest2 v) e = let head : d ≡ 47 = cc in absurd (white_no_slash d v head)
same_gap _ r1 _ r2 (gap.block_comment body rest h) (gap.line_comment body2 rest2 h2 l2) e = absurd (apart_comments 47 42 refl refl (sym (ap second e)))
same_gap _ r1 _ r2 (gap.block_comment body rest h) (gap.block_comment body2 rest2 h2) e =
    let tail : (body ++ codes "*/") ++ r1 ≡ (body2 ++ codes "*/") ++ r2 = cc in same_comment body r1 body2 r2 h h2 tail

-- a byte with which white space or a comment begins
abbrev starts_gap : ℕ → Bool
starts_gap c = eqb c 32 || ((leb 9 c && leb c 13) || eqb c 47)

abbrev no_gap_first : List ℕ → Bool
no_gap_first [] = false
no_gap_first (c ∷ cs) = not (starts_gap c)

sign_no_gap : (c : ℕ) (cs t rest : List ℕ) → c ∷ cs ≡ t ++ rest → Contains signs t → not (starts_gap c) ≡ true
sign_no_gap c cs [] rest e h = absurd (false≢true (All-contains (λ t. no_gap_first t ≡ true) signs [] (every_true no_gap_first signs refl) h))
sign_no_gap c cs (x ∷ xs) rest e h =
    let head : x ≡ c = cc in subst (λ z. not (starts_gap z) ≡ true) head (All-contains (λ t. no_gap_first t ≡ true) signs (x ∷ xs) (every_true no_gap_first signs refl) h)

or_true : (a : Bool) → (a || true) ≡ true
or_true true = refl
or_true false = refl

abbrev IsGapByte : ℕ → Type 0
IsGapByte c = IsWhite c ⊎ (c ≡ 47)

gap_byte : (c : ℕ) → IsGapByte c → not (starts_gap c) ≡ true → ⊥
gap_byte c (inl (inl h)) e = false≢true (subst (λ z. not (starts_gap z) ≡ true) h e)
gap_byte c (inl (inr h)) e =
    let range : (leb 9 c && leb c 13) ≡ true = ap (λ b. b && leb c 13) (le-leb 9 c h.0) ∙ le-leb c 13 h.1 in
    false≢true (sym (ap not (ap (λ b. eqb c 32 || (b || eqb c 47)) range ∙ or_true (eqb c 32))) ∙ e)
gap_byte c (inr h) e = false≢true (subst (λ z. not (starts_gap z) ≡ true) h e)

gap_no_letter : (c : ℕ) → IsGapByte c → IsLetter c → ⊥
gap_no_letter c (inl (inl h)) (inl l) = omega arith
gap_no_letter c (inl (inl h)) (inr (inl l)) = omega arith
gap_no_letter c (inl (inl h)) (inr (inr l)) = omega arith
gap_no_letter c (inl (inr h)) (inl l) = omega arith
gap_no_letter c (inl (inr h)) (inr (inl l)) = omega arith
gap_no_letter c (inl (inr h)) (inr (inr l)) = omega arith
gap_no_letter c (inr h) (inl l) = omega arith
gap_no_letter c (inr h) (inr (inl l)) = omega arith
gap_no_letter c (inr h) (inr (inr l)) = omega arith

gap_no_digit : (c : ℕ) → IsGapByte c → IsDigit c → ⊥
gap_no_digit c (inl (inl h)) d = omega arith
gap_no_digit c (inl (inr h)) d = omega arith
gap_no_digit c (inr h) d = omega arith

gap_begins : (c : ℕ) (cs : List ℕ) → IsGapByte c → Begins c cs → ⊥
gap_begins c cs g (inl l) = gap_no_letter c g l
gap_begins c cs g (inr (inl d)) = gap_no_digit c g d
gap_begins c cs g (inr (inr s)) = gap_byte c g (sign_no_gap c cs s.0 s.1 s.2 s.3)

-- no token begins where a gap does
pub gap_no_token : (t1 r1 t2 r2 : List ℕ) (token : Token) → IsGap t1 r1 → IsToken t2 token → t1 ++ r1 ≡ t2 ++ r2 → ⊥
gap_no_token _ r1 t2 r2 token (gap.white c rest w) is e = gap_begins c r1 (inl w) (first_of c r1 t2 r2 token e is)
gap_no_token _ r1 t2 r2 token (gap.line_comment body rest h l) is e = gap_begins 47 (47 ∷ (body ++ r1)) (inr refl) (first_of 47 (47 ∷ (body ++ r1)) t2 r2 token e is)
gap_no_token _ r1 t2 r2 token (gap.block_comment body rest h) is e =
    gap_begins 47 (42 ∷ ((body ++ codes "*/") ++ r1)) (inr refl) (first_of 47 (42 ∷ ((body ++ codes "*/") ++ r1)) t2 r2 token e is)

pub gap_some : (t r : List ℕ) → IsGap t r → 0 < length t
gap_some _ r (gap.white c rest w) = omega arith
gap_some _ r (gap.line_comment body rest h l) = omega arith
gap_some _ r (gap.block_comment body rest h) = omega arith

-- ---- tokens

abbrev plain_first : List ℕ → Bool
plain_first [] = false
plain_first (c ∷ cs) = not (is_letter c || is_digit c)

sign_first : (t : List ℕ) → Contains signs t → plain_first t ≡ true
sign_first t h = All-contains (λ t. plain_first t ≡ true) signs t (every_true plain_first signs refl) h

letter_first : (t : List ℕ) → IsIdentifier t → plain_first t ≡ true → ⊥
letter_first [] h e = h
letter_first (c ∷ cs) h e = false≢true (sym (ap (λ b. not (b || is_digit c)) (letter_is c h.0)) ∙ e)

digits_first : (t : List ℕ) → IsNumber t → plain_first t ≡ true → ⊥
digits_first [] h e = omega (arith, h.0)
digits_first (c ∷ cs) h e =
    false≢true (sym (ap (λ b. not (is_letter c || b)) (digit_is c (All-head IsDigit c cs h.1)) ∙ ap not (or_true (is_letter c))) ∙ e)

size_first : (size more : List ℕ) → IsNumber size → plain_first (size ++ more) ≡ true → ⊥
size_first [] more h e = omega (arith, h.0)
size_first (c ∷ cs) more h e = digits_first (c ∷ cs) h e

word_no_number : (t : List ℕ) → IsIdentifier t → IsNumber t → ⊥
word_no_number [] h k = h
word_no_number (c ∷ cs) h k = letter_no_digit c h.0 (All-head IsDigit c cs k.1)

word_no_size : (size more : List ℕ) → IsIdentifier (size ++ more) → IsNumber size → ⊥
word_no_size [] more h k = omega (arith, k.0)
word_no_size (c ∷ cs) more h k = letter_no_digit c h.0 (All-head IsDigit c cs k.1)

same_constant : (t : List ℕ) (b v d w : ℕ) → IsConstantText t b v → IsConstantText t d w → Constant b v ≡ Constant d w
same_constant t b v d w h k =
    let s = sizes_agree h.size k.size (104 ∷ h.digits) (104 ∷ k.digits) h.is_number.1 k.is_number.1 (sym h.split ∙ k.split) in
    let digits : h.digits ≡ k.digits = same_front (104 ∷ []) h.digits k.digits s.1 in
    let bits : b ≡ d = sym h.bits_are ∙ (ap number_value s.0 ∙ k.bits_are) in
    let value : v ≡ w = sym h.value_is ∙ (ap (value_behind 16 0) digits ∙ k.value_is) in
    ap (λ x. Constant x v) bits ∙ ap (Constant d) value

pub same_token : (t : List ℕ) (k l : Token) → IsToken t k → IsToken t l → k ≡ l
same_token t (Word x) (Word y) h i = ap Word (sym h.0 ∙ i.0)
same_token t (Number x) (Number y) h i = ap Number (sym h.0 ∙ i.0)
same_token t (Constant b v) (Constant d w) h i = same_constant t b v d w h i
same_token t (Sign x) (Sign y) h i = ap Sign (sym h.0 ∙ i.0)
same_token t (Word x) (Number y) h i = absurd (word_no_number t (subst IsIdentifier (sym h.0) h.1) (subst IsNumber (sym i.0) i.1))
same_token t (Number y) (Word x) i h = absurd (word_no_number t (subst IsIdentifier (sym h.0) h.1) (subst IsNumber (sym i.0) i.1))
same_token t (Word x) (Constant b v) h i = absurd (word_no_size i.size (39 ∷ 104 ∷ i.digits) (subst IsIdentifier (sym h.0 ∙ i.split) h.1) i.is_number)
same_token t (Constant b v) (Word x) i h = absurd (word_no_size i.size (39 ∷ 104 ∷ i.digits) (subst IsIdentifier (sym h.0 ∙ i.split) h.1) i.is_number)
same_token t (Word x) (Sign y) h i = absurd (letter_first t (subst IsIdentifier (sym h.0) h.1) (sign_first t (subst (Contains signs) (sym i.0) i.1)))
same_token t (Sign y) (Word x) i h = absurd (letter_first t (subst IsIdentifier (sym h.0) h.1) (sign_first t (subst (Contains signs) (sym i.0) i.1)))
same_token t (Number x) (Constant b v) h i = absurd (not_digit_end i.size 39 (104 ∷ i.digits) refl (subst (All IsDigit) (sym h.0 ∙ i.split) h.1.1))
same_token t (Constant b v) (Number x) i h = absurd (not_digit_end i.size 39 (104 ∷ i.digits) refl (subst (All IsDigit) (sym h.0 ∙ i.split) h.1.1))
same_token t (Number x) (Sign y) h i = absurd (digits_first t (subst IsNumber (sym h.0) h.1) (sign_first t (subst (Contains signs) (sym i.0) i.1)))
same_token t (Sign y) (Number x) i h = absurd (digits_first t (subst IsNumber (sym h.0) h.1) (sign_first t (subst (Contains signs) (sym i.0) i.1)))
same_token t (Constant b v) (Sign y) h i =
    absurd (size_first h.size (39 ∷ 104 ∷ h.digits) h.is_number (subst (λ z. plain_first z ≡ true) h.split (sign_first t (subst (Contains signs) (sym i.0) i.1))))
same_token t (Sign y) (Constant b v) i h =
    absurd (size_first h.size (39 ∷ 104 ∷ h.digits) h.is_number (subst (λ z. plain_first z ≡ true) h.split (sign_first t (subst (Contains signs) (sym i.0) i.1))))

-- the longest token at a place
pub same_longest : (t1 r1 t2 r2 : List ℕ) (k l : Token) → IsToken t1 k → IsLongest t1 r1 → IsToken t2 l → IsLongest t2 r2 → t1 ++ r1 ≡ t2 ++ r2 → (k ≡ l) × (r1 ≡ r2)
same_longest t1 r1 t2 r2 k l h hl i il e =
    elim (prefix_cases t1 r1 t2 r2 e) [
      | inl r ↦
          let none = hl r.0 r2 l r.2 (subst (λ t. IsToken t l) r.1 i) in
          (same_token t1 k l h (subst (λ t. IsToken t l) (r.1 ∙ no_more t1 r.0 none) i), r.2 ∙ ap (λ z. z ++ r2) none)
      | inr r ↦
          let none = il r.0 r1 k r.2 (subst (λ t. IsToken t k) r.1 h) in
          (same_token t2 k l (subst (λ t. IsToken t k) (r.1 ∙ no_more t2 r.0 none) h) i, sym (r.2 ∙ ap (λ z. z ++ r1) none))
    ]

-- ---- what a row of tokens begins with

pub data Opened (bytes : List ℕ) (tokens : List Token) : Type 0 where
  nothing : bytes ≡ [] → tokens ≡ [] → Opened bytes tokens
  with_gap : (text rest : List ℕ) → bytes ≡ text ++ rest → IsGap text rest → Spells rest tokens → Opened bytes tokens
  with_token : (text rest : List ℕ) (token : Token) (more : List Token) → bytes ≡ text ++ rest → IsToken text token → IsLongest text rest → tokens ≡ token ∷ more → Spells rest more → Opened bytes tokens

pub opened : (bytes : List ℕ) (tokens : List Token) → Spells bytes tokens → Opened bytes tokens
opened _ _ spelled.over = nothing refl refl
opened _ tokens (spelled.white c rest ts w s) = with_gap (c ∷ []) rest refl (gap.white c rest w) s
opened _ tokens (spelled.line_comment body rest ts h l s) = with_gap (codes "//" ++ body) rest refl (gap.line_comment body rest h l) s
opened _ tokens (spelled.block_comment body rest ts h s) =
    with_gap (codes "/*" ++ (body ++ codes "*/")) rest (ap (λ x. 47 ∷ 42 ∷ x) (sym (append_assoc body (codes "*/") rest))) (gap.block_comment body rest h) s
opened _ _ (spelled.a_token text rest token more is longest s) = with_token text rest token more refl is longest refl s

pub empty_front : (text rest : List ℕ) → text ++ rest ≡ [] → 0 < length text → ⊥
empty_front text rest e some = omega (arith, some, ap length e, length-append text rest)

gap_passed : (text rest : List ℕ) (tokens : List Token) → IsGap text rest → Spells (text ++ rest) tokens → Spells rest tokens
gap_passed text rest tokens g s = elim (opened (text ++ rest) tokens s) [
  | nothing e n ↦ absurd (empty_front text rest e (gap_some text rest g))
  | with_gap t r e h more ↦ subst (λ x. Spells x tokens) (sym (same_gap text rest t r g h e)) more
  | with_token t r token ts e is longest n more ↦ absurd (gap_no_token text rest t r token g is e)
]

token_passed : (text rest : List ℕ) (token : Token) (tokens : List Token) → IsToken text token → IsLongest text rest → Spells (text ++ rest) tokens → (more : List Token) × (tokens ≡ token ∷ more) × Spells rest more
token_passed text rest token tokens is longest s = elim (opened (text ++ rest) tokens s) [
  | nothing e n ↦ absurd (empty_front text rest e (token_some text token is))
  | with_gap t r e h more ↦ absurd (gap_no_token t r text rest token h is (sym e))
  | with_token t r other ts e is2 longest2 n more ↦
      let same = same_longest text rest t r token other is longest is2 longest2 e in (ts, n ∙ ap (λ x. x ∷ ts) (sym same.0), subst (λ x. Spells x ts) (sym same.1) more)
]

-- the tokens that have been read are the first of a text's tokens
pub read_first : (bytes : List ℕ) (place : Place) (ls : List Lexeme) (rest : List ℕ) (end : Place) (tokens : List Token) → Reads bytes place ls rest end → Spells bytes tokens
    → (more : List Token) × (tokens ≡ tokens_of ls ++ more) × Spells rest more
read_first _ _ _ rest end tokens (over bytes place) s = (tokens, refl, s)
read_first _ place ls rest end tokens (a_gap text bytes place2 ls2 rest2 end2 g r) s = read_first bytes _ ls rest end tokens r (gap_passed text bytes tokens g s)
read_first _ place _ rest end tokens (a_token text bytes place2 token ls2 rest2 end2 is longest r) s =
    let p = token_passed text bytes token tokens is longest s in
    let q = read_first bytes _ ls2 rest end p.0 r p.2 in
    (q.0, p.1 ∙ ap (λ x. token ∷ x) q.1, q.2)

pub none_spelled : (tokens : List Token) → Spells [] tokens → tokens ≡ []
none_spelled tokens s = elim (opened [] tokens s) [
  | nothing e n ↦ n
  | with_gap t r e h more ↦ absurd (empty_front t r (sym e) (gap_some t r h))
  | with_token t r token ts e is longest n more ↦ absurd (empty_front t r (sym e) (token_some t token is))
]

-- a text that has been read to its end has these tokens alone
pub read_all : (bytes : List ℕ) (place : Place) (ls : List Lexeme) (end : Place) (tokens : List Token) → Reads bytes place ls [] end → Spells bytes tokens → tokens ≡ tokens_of ls
read_all bytes place ls end tokens r s = let q = read_first bytes place ls [] end tokens r s in q.1 ∙ no_more (tokens_of ls) q.0 (none_spelled q.0 q.2)

-- no row of tokens goes over a byte at which nothing begins
pub nothing_spelled : (rest : List ℕ) (tokens : List Token) → NothingBegins rest → Spells rest tokens → ⊥
nothing_spelled rest tokens h s = elim (opened rest tokens s) [
  | nothing e n ↦ omega (arith, h.some, ap length e)
  | with_gap t r e g more ↦ h.gap t r e g
  | with_token t r token ts e is longest n more ↦ h.token t r token e is
]

-- ---- what has been read is spelled so

gap_spells : (text rest : List ℕ) (tokens : List Token) → IsGap text rest → Spells rest tokens → Spells (text ++ rest) tokens
gap_spells _ rest tokens (gap.white c rest2 w) s = spelled.white c rest tokens w s
gap_spells _ rest tokens (gap.line_comment body rest2 h l) s = spelled.line_comment body rest tokens h l s
gap_spells _ rest tokens (gap.block_comment body rest2 h) s =
    subst (λ x. Spells (47 ∷ 42 ∷ x) tokens) (sym (append_assoc body (codes "*/") rest)) (spelled.block_comment body rest tokens h s)

pub spells : (bytes : List ℕ) (place : Place) (ls : List Lexeme) (rest : List ℕ) (end : Place) → Reads bytes place ls rest end → rest ≡ [] → Spells bytes (tokens_of ls)
spells _ _ _ rest end (over bytes place) e = subst (λ x. Spells x []) (sym e) spelled.over
spells _ place ls rest end (a_gap text bytes place2 ls2 rest2 end2 g r) e = gap_spells text bytes (tokens_of ls) g (spells bytes _ ls rest end r e)
spells _ place _ rest end (a_token text bytes place2 token ls2 rest2 end2 is longest r) e =
    spelled.a_token text bytes token (tokens_of ls2) is longest (spells bytes _ ls2 rest end r e)
