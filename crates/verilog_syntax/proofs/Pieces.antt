-- What stands first in some bytes, by the tests of the bytes.
use Rattle.std.proofs.Common.{◌≡◌, ◌≢◌, ◌⊎◌, inl, inr, Bor, Option, Some, None, ℕ, ◌<◌, ◌≤◌, Bool, true, false, not, cond, ◌||◌, ◌&&◌, eqb, leb, List, [], ◌∷◌, ◌++◌, length, take, drop, get_or, codes, append_assoc, refl, sym, ap, ◌∙◌, subst, arith}
use Rattle.std.specs.List.{prefix_len, All, Contains}
use Rattle.std.specs.Option.{is_some}
use Rattle.std.proofs.lemmas.Option.{none-some, same_Some}
use Rattle.std.proofs.lemmas.Bool.{false≢true, le-leb, cases_Bool, and_parts, or_cases, not-true, eqb-true, eq-eqb, leb-true, both_ways}
use Rattle.std.proofs.lemmas.List.{take-append-drop, get_or_append_left}
use Rattle.std.proofs.lemmas.List.Elements.{All-contains, All-head}
use Rattle.rtl_core.specs.Valid.{IsLetter, IsDigit, IsIdentifier, reserved_words}
use Rattle.rtl_core.specs.ModuleTokens.{Token, Word, Number, Constant, Sign, signs, IsNumber, IsToken, IsLongest, IsWhite}
use Rattle.rtl_core.proofs.Tokens.{every, every_true, Ends, IsWordEnd, ends_sign, letter_is, digit_is, word_true, word_is_longest, sign_is_longest, has_true, is_word}
use Rattle.verilog_syntax.specs.declared.token.Kind.TheVariants as kind
use Rattle.verilog_syntax.specs.declared.token.Keyword.{Keyword}
use Rattle.verilog_syntax.specs.declared.token.Sign.{Sign as SignKind}
use Rattle.verilog_syntax.specs.declared.token.Sign.TheVariants as s
use Rattle.verilog_syntax.specs.declared.lexer.Piece.TheVariants as piece
use Rattle.verilog_syntax.specs.Characters.{is_white, is_letter, is_digit, in_word}
use Rattle.verilog_syntax.specs.Signs.{sign_text, keyword_text, double_sign, single_sign}
use Rattle.verilog_syntax.specs.Lexemes.{IsGap}
use Rattle.verilog_syntax.specs.Lexemes as gap
use Rattle.verilog_syntax.specs.Views.{StandsFirst}
use Rattle.verilog_syntax.proofs.Fronts.{front_every, front_ends, front_size, front_some, ends_at, begins_with, begins_with_two}

-- ---- white space

white_is : (c : ℕ) → is_white c ≡ true → IsWhite c
white_is c e =
    elim (or_cases (eqb c 32) (leb 9 c && leb c 13) e) [
      | inl h ↦ inl (eqb-true c 32 h)
      | inr h ↦ (let p = and_parts (leb 9 c) (leb c 13) h in inr (leb-true 9 c p.0, leb-true c 13 p.1))
    ]

pub white_first : (bytes : List ℕ) → 0 < length bytes → is_white (get_or bytes 0 0) ≡ true → StandsFirst bytes (piece.Gap 1)
white_first bytes some e =
    (get_or bytes 0 0 ∷ [], drop 1 bytes, begins_with (get_or bytes 0 0) bytes some refl, refl, omega arith, gap.white (get_or bytes 0 0) (drop 1 bytes) (white_is _ e))

-- ---- words

word_end : (rest : List ℕ) → Ends (λ c. in_word c ≡ false) rest → Ends IsWordEnd rest
word_end [] e = tt
word_end (c ∷ cs) e = (
  λ h. false≢true (sym e ∙ ap (λ b. b || is_digit c) (letter_is c h)),
  λ h. elim (cases_Bool (is_letter c)) [ inl t ↦ false≢true (sym e ∙ ap (λ b. b || is_digit c) t) | inr f ↦ false≢true (sym e ∙ (ap (λ b. b || is_digit c) f ∙ digit_is c h)) ],
)

is_word_front : (text : List ℕ) → 0 < length text → is_letter (get_or text 0 0) ≡ true → every in_word text ≡ true → is_word text ≡ true
is_word_front [] some letter all = absurd (omega (arith, some))
is_word_front (c ∷ cs) some letter all = ap (λ b. b && every in_word cs) letter ∙ (and_parts (in_word c) (every in_word cs) all).1

pub identifier_first : (bytes : List ℕ) → 0 < length bytes → is_letter (get_or bytes 0 0) ≡ true → IsIdentifier (take (prefix_len in_word bytes) bytes)
identifier_first bytes some letter =
    let n = prefix_len in_word bytes in
    let here : in_word (get_or bytes 0 0) ≡ true = ap (λ b. b || is_digit (get_or bytes 0 0)) letter in
    let up : 0 < n = front_some in_word bytes some here in
    let size : length (take n bytes) ≡ n = front_size in_word bytes in
    let same : get_or (take n bytes) 0 0 ≡ get_or bytes 0 0 =
    sym (ap (λ x. get_or x 0 0) (sym (take-append-drop n bytes)) ∙ get_or_append_left (take n bytes) (drop n bytes) 0 0 (omega arith)) in
    word_true (take n bytes) (is_word_front (take n bytes) (omega arith) (ap is_letter same ∙ letter) (front_every in_word bytes))

word_stands : (bytes : List ℕ) → 0 < length bytes → is_letter (get_or bytes 0 0) ≡ true → (text : List ℕ) → text ≡ take (prefix_len in_word bytes) bytes
    → IsToken (take (prefix_len in_word bytes) bytes) (Word text) × IsLongest (take (prefix_len in_word bytes) bytes) (drop (prefix_len in_word bytes) bytes)
word_stands bytes some letter text same =
    let id = identifier_first bytes some letter in
    ((sym same, subst IsIdentifier (sym same) id), word_is_longest _ _ id (word_end _ (front_ends in_word bytes)))

word_up : (bytes : List ℕ) → 0 < length bytes → is_letter (get_or bytes 0 0) ≡ true → 0 < prefix_len in_word bytes
word_up bytes some letter = front_some in_word bytes some (ap (λ b. b || is_digit (get_or bytes 0 0)) letter)

pub keyword_first : (bytes : List ℕ) (n : ℕ) (text : List ℕ) → 0 < length bytes → is_letter (get_or bytes 0 0) ≡ true → n ≡ prefix_len in_word bytes → text ≡ take n bytes
    → (k : Keyword) → keyword_text k ≡ text → StandsFirst bytes (piece.Lexeme (kind.Keyword k) n)
keyword_first bytes n text some letter is e k same =
    let t : keyword_text k ≡ take (prefix_len in_word bytes) bytes = same ∙ (e ∙ ap (λ m. take m bytes) is) in
    let w = word_stands bytes some letter (keyword_text k) t in
    let m = prefix_len in_word bytes in
    (take m bytes, drop m bytes, sym (take-append-drop m bytes), front_size in_word bytes ∙ sym is, subst (λ x. 0 < x) (sym is) (word_up bytes some letter), w.0, w.1, tt)

pub name_first : (bytes : List ℕ) (n : ℕ) (text : Bor (List ℕ)) → 0 < length bytes → is_letter (get_or bytes 0 0) ≡ true → n ≡ prefix_len in_word bytes → text.now ≡ take n bytes
    → All (λ word. word ≢ text.now) reserved_words → StandsFirst bytes (piece.Lexeme (kind.Name text) n)
name_first bytes n text some letter is e free =
    let m = prefix_len in_word bytes in
    let t : text.now ≡ take m bytes = e ∙ ap (λ k. take k bytes) is in
    let w = word_stands bytes some letter text.now t in (
      take m bytes,
      drop m bytes,
      sym (take-append-drop m bytes),
      front_size in_word bytes ∙ sym is,
      subst (λ x. 0 < x) (sym is) (word_up bytes some letter),
      w.0,
      w.1,
      record { identifier = w.0.1; free = free },
    )

-- ---- the first byte of a token

pub letter_no_digit : (c : ℕ) → IsLetter c → IsDigit c → ⊥
letter_no_digit c (inl h) d = omega arith
letter_no_digit c (inr (inl h)) d = omega arith
letter_no_digit c (inr (inr h)) d = omega arith

-- a text that begins with one of the bytes that a sign begins with
abbrev pub is_sign_text : List ℕ → Bool
is_sign_text [] = false
is_sign_text (c ∷ []) = is_some (single_sign c)
is_sign_text (c ∷ d ∷ cs) = is_some (double_sign c d)

pub sign_text_of : (t : List ℕ) → Contains signs t → is_sign_text t ≡ true
sign_text_of t h = All-contains (λ t. is_sign_text t ≡ true) signs t (every_true is_sign_text signs refl) h

abbrev pub starts_with_digit : List ℕ → Bool
starts_with_digit [] = false
starts_with_digit (c ∷ cs) = is_digit c

pub sign_no_digit : (t : List ℕ) → Contains signs t → starts_with_digit t ≡ false
sign_no_digit t h = not-true _ (All-contains (λ t. not (starts_with_digit t) ≡ true) signs t (every_true (λ t. not (starts_with_digit t)) signs refl) h)

size_digit : (c : ℕ) (cs size more : List ℕ) → c ∷ cs ≡ size ++ more → IsNumber size → IsDigit c
size_digit c cs [] more e h = absurd (omega (arith, h.0))
size_digit c cs (d ∷ ds) more e h = let k : d ≡ c = cc in subst IsDigit k (All-head IsDigit d ds h.1)

-- a token begins with a letter or a digit, or is a sign
abbrev pub Begins : ℕ → List ℕ → Type 0
Begins c cs = IsLetter c ⊎ (IsDigit c ⊎ ((t : List ℕ) × (rest : List ℕ) × (c ∷ cs ≡ t ++ rest) × Contains signs t))

pub first_of : (c : ℕ) (cs text rest : List ℕ) (token : Token) → c ∷ cs ≡ text ++ rest → IsToken text token → Begins c cs
first_of c cs [] rest (Word w) e tok = absurd (subst IsIdentifier (sym tok.0) tok.1)
first_of c cs (x ∷ xs) rest (Word w) e tok = let k : x ≡ c = cc in inl (subst IsLetter k ((subst IsIdentifier (sym tok.0) tok.1).0))
first_of c cs [] rest (Number ds) e tok = absurd (omega (arith, (subst IsNumber (sym tok.0) tok.1).0))
first_of c cs (x ∷ xs) rest (Number ds) e tok = let k : x ≡ c = cc in inr (inl (subst IsDigit k (All-head IsDigit x xs (subst IsNumber (sym tok.0) tok.1).1)))
first_of c cs text rest (Constant bits value) e tok =
    inr (inl (size_digit c cs tok.size ((39 ∷ 104 ∷ tok.digits) ++ rest) (e ∙ (ap (λ x. x ++ rest) tok.split ∙ append_assoc tok.size (39 ∷ 104 ∷ tok.digits) rest)) tok.is_number))
first_of c cs text rest (Sign t) e tok = inr (inr (t, rest, e ∙ ap (λ x. x ++ rest) tok.0, tok.1))

-- no sign is at the front
abbrev pub NoSign : ℕ → List ℕ → Type 0
NoSign c cs = (single_sign c ≡ None) × ((d : ℕ) (ds : List ℕ) → cs ≡ d ∷ ds → double_sign c d ≡ None)

no_some : {A : Type 0} (o : Option A) → o ≡ None → is_some o ≡ true → ⊥
no_some o e h = false≢true (sym (ap is_some e) ∙ h)

no_sign : (c : ℕ) (cs t rest : List ℕ) → NoSign c cs → c ∷ cs ≡ t ++ rest → Contains signs t → ⊥
no_sign c cs [] rest none e h = false≢true (sign_text_of [] h)
no_sign c cs (x ∷ []) rest none e h = let k : x ≡ c = cc in no_some (single_sign x) (ap single_sign k ∙ none.0) (sign_text_of (x ∷ []) h)
no_sign c cs (x ∷ y ∷ ys) rest none e h =
    let k : x ≡ c = cc in
    let l : cs ≡ y ∷ (ys ++ rest) = cc in
    no_some (double_sign x y) (ap (λ z. double_sign z y) k ∙ none.1 y (ys ++ rest) l) (sign_text_of (x ∷ y ∷ ys) h)

pub no_token : (c : ℕ) (cs : List ℕ) → is_letter c ≡ false → is_digit c ≡ false → NoSign c cs → (text rest : List ℕ) (token : Token) → c ∷ cs ≡ text ++ rest → IsToken text token → ⊥
no_token c cs letter digit none text rest token e tok =
    elim (first_of c cs text rest token e tok) [
      | inl h ↦ both_ways _ letter (letter_is c h)
      | inr (inl h) ↦ both_ways _ digit (digit_is c h)
      | inr (inr h) ↦ no_sign c cs h.0 h.1 none h.2 h.3
    ]

-- ---- signs

sign_contains : (k : SignKind) → Contains signs (sign_text k)
sign_contains s.LeftParen = has_true signs (codes "(") refl
sign_contains s.RightParen = has_true signs (codes ")") refl
sign_contains s.LeftBracket = has_true signs (codes "[") refl
sign_contains s.RightBracket = has_true signs (codes "]") refl
sign_contains s.LeftBrace = has_true signs (codes "{") refl
sign_contains s.RightBrace = has_true signs (codes "}") refl
sign_contains s.Semicolon = has_true signs (codes ";") refl
sign_contains s.Comma = has_true signs (codes ",") refl
sign_contains s.Colon = has_true signs (codes ":") refl
sign_contains s.Question = has_true signs (codes "?") refl
sign_contains s.Equal = has_true signs (codes "=") refl
sign_contains s.At = has_true signs (codes "@") refl
sign_contains s.Tilde = has_true signs (codes "~") refl
sign_contains s.Plus = has_true signs (codes "+") refl
sign_contains s.Minus = has_true signs (codes "-") refl
sign_contains s.Star = has_true signs (codes "*") refl
sign_contains s.Ampersand = has_true signs (codes "&") refl
sign_contains s.Bar = has_true signs (codes "|") refl
sign_contains s.Caret = has_true signs (codes "^") refl
sign_contains s.EqualEqual = has_true signs (codes "==") refl
sign_contains s.Less = has_true signs (codes "<") refl
sign_contains s.LessEqual = has_true signs (codes "<=") refl
sign_contains s.ShiftLeft = has_true signs (codes "<<") refl
sign_contains s.ShiftRight = has_true signs (codes ">>") refl

-- a byte with which the sign goes on to no longer one
abbrev Stops : SignKind → ℕ → Type 0
Stops s.Equal d = eqb d 61 ≡ false
Stops s.Less d = (eqb d 61 ≡ false) × (eqb d 60 ≡ false)
Stops _ d = Unit {0}

ends_of : (k : SignKind) (d : ℕ) → Stops k d → ends_sign (sign_text k) d ≡ true
ends_of s.Equal d h = rw h refl
ends_of s.Less d h = rw (h.0, h.1) refl
ends_of _ d h = refl

-- one test of a chain
single_step : (c v : ℕ) (j k : SignKind) (rest : Option SignKind) → sign_text j ≡ v ∷ [] → (rest ≡ Some k → sign_text k ≡ c ∷ []) → cond (eqb c v) (Some j) rest ≡ Some k → sign_text k ≡ c ∷ []
single_step c v j k rest text other e =
    elim (cases_Bool (eqb c v)) [
      | inl t ↦
          let same : j ≡ k = same_Some j k (sym (ap (λ b. cond b (Some j) rest) t) ∙ e) in
          ap sign_text (sym same) ∙ (text ∙ ap (λ x. x ∷ []) (sym (eqb-true c v t)))
      | inr f ↦ other (sym (ap (λ b. cond b (Some j) rest) f) ∙ e)
    ]

single_text : (c : ℕ) (k : SignKind) → single_sign c ≡ Some k → sign_text k ≡ c ∷ []
single_text c k =
    single_step c 40 s.LeftParen k _ refl (single_step c 41 s.RightParen k _ refl (single_step c 91 s.LeftBracket k _ refl (single_step c 93 s.RightBracket k _ refl (single_step c 123 s.LeftBrace k _ refl (single_step c 125 s.RightBrace k _ refl (single_step c 59 s.Semicolon k _ refl (single_step c 44 s.Comma k _ refl (single_step c 58 s.Colon k _ refl (single_step c 63 s.Question k _ refl (single_step c 61 s.Equal k _ refl (single_step c 64 s.At k _ refl (single_step c 126 s.Tilde k _ refl (single_step c 43 s.Plus k _ refl (single_step c 45 s.Minus k _ refl (single_step c 42 s.Star k _ refl (single_step c 38 s.Ampersand k _ refl (single_step c 124 s.Bar k _ refl (single_step c 94 s.Caret k _ refl (single_step c 60 s.Less k _ refl (λ e. absurd (none-some k e)))))))))))))))))))))

double_step : (a b v w : ℕ) (j k : SignKind) (rest : Option SignKind) → sign_text j ≡ v ∷ w ∷ [] → (rest ≡ Some k → sign_text k ≡ a ∷ b ∷ []) → cond (eqb a v && eqb b w) (Some j) rest ≡ Some k
    → sign_text k ≡ a ∷ b ∷ []
double_step a b v w j k rest text other e =
    elim (cases_Bool (eqb a v && eqb b w)) [
      | inl t ↦
          let p = and_parts (eqb a v) (eqb b w) t in
          let same : j ≡ k = same_Some j k (sym (ap (λ b. cond b (Some j) rest) t) ∙ e) in
          let x : v ≡ a = sym (eqb-true a v p.0) in
          let y : w ≡ b = sym (eqb-true b w p.1) in
          ap sign_text (sym same) ∙ (text ∙ (ap (λ z. z ∷ w ∷ []) x ∙ ap (λ z. a ∷ z ∷ []) y))
      | inr f ↦ other (sym (ap (λ b. cond b (Some j) rest) f) ∙ e)
    ]

double_text : (a b : ℕ) (k : SignKind) → double_sign a b ≡ Some k → sign_text k ≡ a ∷ b ∷ []
double_text a b k =
    double_step a b 61 61 s.EqualEqual k _ refl (double_step a b 60 61 s.LessEqual k _ refl (double_step a b 60 60 s.ShiftLeft k _ refl (double_step a b 62 62 s.ShiftRight k _ refl (λ e. absurd (none-some k e)))))

-- a sign of two bytes goes on with no byte
double_stops : (a b : ℕ) (k : SignKind) (d : ℕ) → sign_text k ≡ a ∷ b ∷ [] → Stops k d
double_stops a b s.Equal d e = absurd cc
double_stops a b s.Less d e = absurd cc
double_stops a b _ d e = tt

not_some : (d v : ℕ) (j : SignKind) (rest : Option SignKind) → cond (eqb d v) (Some j) rest ≡ None → eqb d v ≡ false
not_some d v j rest e =
    elim (cases_Bool (eqb d v)) [ inl t ↦ absurd (none-some j (sym e ∙ ap (λ b. cond b (Some j) rest) t)) | inr f ↦ f ]

equal_stops : (d : ℕ) → double_sign 61 d ≡ None → eqb d 61 ≡ false
equal_stops d e = not_some d 61 s.EqualEqual _ e

less_stops : (d : ℕ) → double_sign 60 d ≡ None → (eqb d 61 ≡ false) × (eqb d 60 ≡ false)
less_stops d e =
    let one = not_some d 61 s.LessEqual _ e in
    (one, not_some d 60 s.ShiftLeft _ (sym (ap (λ b. cond b (Some s.LessEqual) (cond (eqb d 60) (Some s.ShiftLeft) None)) one) ∙ e))

single_stops : (c : ℕ) (k : SignKind) (d : ℕ) → sign_text k ≡ c ∷ [] → double_sign c d ≡ None → Stops k d
single_stops c s.Equal d e h = let k : c ≡ 61 = cc in equal_stops d (sym (ap (λ z. double_sign z d) k) ∙ h)
single_stops c s.Less d e h = let k : c ≡ 60 = cc in less_stops d (sym (ap (λ z. double_sign z d) k) ∙ h)
single_stops c _ d e h = tt

sign_stands : (k : SignKind) (text rest : List ℕ) → sign_text k ≡ text → Ends (Stops k) rest → IsToken text (Sign (sign_text k)) × IsLongest text rest
sign_stands k text rest e ends =
    ((sym e, sign_contains k), subst (λ t. IsLongest t rest) e (sign_is_longest (sign_text k) rest (sign_contains k) (ends_map rest ends)))
  where
    ends_map : (xs : List ℕ) → Ends (Stops k) xs → Ends (λ c. ends_sign (sign_text k) c ≡ true) xs
    ends_map [] h = tt
    ends_map (x ∷ xs) h = ends_of k x h

pub double_first : (bytes : List ℕ) (k : SignKind) → 2 ≤ length bytes → double_sign (get_or bytes 0 0) (get_or bytes 1 0) ≡ Some k → StandsFirst bytes (piece.Lexeme (kind.Sign k) 2)
double_first bytes k long e =
    let a = get_or bytes 0 0 in
    let b = get_or bytes 1 0 in
    let text = double_text a b k e in
    let w = sign_stands k (a ∷ b ∷ []) (drop 2 bytes) text (all_stop (drop 2 bytes)) in
    (a ∷ b ∷ [], drop 2 bytes, begins_with_two a b bytes long refl refl, refl, omega arith, w.0, w.1, tt)
  where
    all_stop : (xs : List ℕ) → Ends (Stops k) xs
    all_stop [] = tt
    all_stop (x ∷ xs) = double_stops (get_or bytes 0 0) (get_or bytes 1 0) k x (double_text (get_or bytes 0 0) (get_or bytes 1 0) k e)

-- the second byte makes no sign with the first
abbrev pub NoDouble : List ℕ → Type 0
NoDouble bytes = 2 ≤ length bytes → double_sign (get_or bytes 0 0) (get_or bytes 1 0) ≡ None

pub single_first : (bytes : List ℕ) (k : SignKind) → 0 < length bytes → NoDouble bytes → single_sign (get_or bytes 0 0) ≡ Some k → StandsFirst bytes (piece.Lexeme (kind.Sign k) 1)
single_first bytes k some none e =
    let c = get_or bytes 0 0 in
    let text = single_text c k e in
    let w = sign_stands k (c ∷ []) (drop 1 bytes) text (ends_at (Stops k) bytes 1 (λ h. single_stops c k (get_or bytes 1 0) text (none (omega arith)))) in
    (c ∷ [], drop 1 bytes, begins_with c bytes some refl, refl, omega arith, w.0, w.1, tt)

-- ---- where nothing begins

no_gap : (c : ℕ) (cs : List ℕ) → is_white c ≡ false → (c ≡ 47 → ⊥) → (text rest : List ℕ) → c ∷ cs ≡ text ++ rest → IsGap text rest → ⊥
no_gap c cs white slash _ _ e (gap.white x rest is) = let k : x ≡ c = cc in both_ways _ (ap is_white k ∙ white) (white_true x is)
  where
    white_true : (x : ℕ) → IsWhite x → is_white x ≡ true
    white_true x (inl h) = ap (λ b. b || (leb 9 x && leb x 13)) (eq-eqb x 32 h)
    white_true x (inr h) =
        elim (cases_Bool (eqb x 32)) [
          | inl t ↦ ap (λ b. b || (leb 9 x && leb x 13)) t
          | inr f ↦ ap (λ b. b || (leb 9 x && leb x 13)) f ∙ (ap (λ b. b && leb x 13) (le-leb 9 x h.0) ∙ le-leb x 13 h.1)
        ]
no_gap c cs white slash _ _ e (gap.line_comment body rest all end) = slash cc
no_gap c cs white slash _ _ e (gap.block_comment body rest first) = slash cc

pub nothing_first : (bytes : List ℕ) → 0 < length bytes → is_white (get_or bytes 0 0) ≡ false → is_letter (get_or bytes 0 0) ≡ false → is_digit (get_or bytes 0 0) ≡ false → (get_or bytes 0 0 ≡ 47 → ⊥)
    → NoDouble bytes → single_sign (get_or bytes 0 0) ≡ None → StandsFirst bytes piece.Nothing
nothing_first [] some white letter digit slash double single = absurd (omega (arith, some))
nothing_first (c ∷ cs) some white letter digit slash double single = record {
  some = some;
  gap = no_gap c cs white slash;
  token = no_token c cs letter digit (single, no_double c cs double);
}
  where
    no_double : (c : ℕ) (cs : List ℕ) → NoDouble (c ∷ cs) → (d : ℕ) (ds : List ℕ) → cs ≡ d ∷ ds → double_sign c d ≡ None
    no_double c [] none d ds e = absurd cc
    no_double c (x ∷ xs) none d ds e = let k : x ≡ d = cc in ap (λ z. double_sign c z) (sym k) ∙ none (omega arith)
