-- What is found at a place, and what a step is that takes it.
use Rattle.std.proofs.Common.{◌≡◌, ℕ, ◌+◌, ◌-◌, ◌<◌, ◌≤◌, ◌∙◌, sym, refl, ap, subst, Bool, true, false, cond, List, [], ◌∷◌, ◌++◌, length, take, drop, Some, None, Result, Ok, Err, lit<, arith, inl, inr}
use Rattle.std.specs.Prelude.{slice_index, nat_le}
use Rattle.std.proofs.lemmas.Bool.{both_ways, cases_lt, le-leb, lt-leb, false≢true}
use Rattle.std.proofs.lemmas.List.{length-take-le, length-drop, take_at, take_more}
use Rattle.hls_base.specs.declared.refusal.Fail.{Fail}
use Rattle.hls_base.specs.declared.refusal.Fail.TheVariants.{Refused, Memory}
use Rattle.c_token.specs.declared.ctype.CType.{CType}
use Rattle.c_token.specs.declared.punct.Punct.{Punct}
use Rattle.c_token.specs.declared.punct.Punct.TheVariants as p
use Rattle.c_token.specs.declared.token.Token.{Token}
use Rattle.c_token.specs.declared.token.TokenKind.TheVariants as k
use Rattle.c_token.specs.Characters.{Opening, at_line_end, at_space, at_line_comment, at_block_comment, at_token, opening, is_letter, is_digit}
use Rattle.c_token.specs.Spelling.{in_word, in_number, in_line_comment, IsSign, spelling}
use Rattle.c_token.specs.Constants.{IsConstant}
use Rattle.c_token.specs.SourceText.{Line, empty, hash, pragma_line, tokens, is_first, Standing, Piece, gap, line_end, lexeme, pragma, piece_text, is_hash, after, Found, next, ends, fault, given, token_at, is_pragma, word_found, LongestToken, AtToken, At, Finds, refused}
use Rattle.hls_base.specs.TextPlaces.{place_after}
use Rattle.c_lexer.specs.Runs.{IsRun, IsFirstClose}
use Rattle.c_lexer.specs.Signs.{IsLongestSign}
use Rattle.c_lexer.specs.Views.{Fits, put, Steps}
use Rattle.c_lexer.proofs.Runs.{run_longest, in_word-local, in_number-local, in_line_comment-local}
use Rattle.c_token.proofs.Signs.{spelling_unique}
use Rattle.c_lexer.proofs.Openings.{opens, line_comment_here}
use Rattle.c_lexer.proofs.Comments.{first_close, no_close}
use Rattle.c_lexer.proofs.Tokens.{longest_word, longest_number, longest_sign_token, no_token}

-- a piece that is not empty leaves fewer bytes
shrinks : (s : Standing) (piece : Piece) → 0 < length (piece_text piece) → 0 < length s.left → length (after s piece).left < length s.left
shrinks s piece some left = omega (arith, length-drop (length (piece_text piece)) s.left)

pub took : (F : Found → Type 0) (s new : Standing) (piece : Piece) (ts us : List Token) → F (next piece) → Fits s.line piece → 0 < length (piece_text piece) → 0 < length s.left → new ≡ after s piece → us ≡ put piece ts → Steps F (Ok tt) s new ts us
took F s new piece ts us found fits some left e h =
    (piece, found, fits, e, h, subst (λ x. length x.left < length s.left) (sym e) (shrinks s piece some left))

run_some : (may_stand : List ℕ → ℕ → Bool) (bytes : List ℕ) (n : ℕ) → IsRun may_stand bytes n → 0 < length bytes → may_stand bytes 0 ≡ true → 0 < n
run_some may_stand bytes n run some here =
    elim (cases_lt 0 n) [
      | inl up ↦ up
      | inr down ↦
          let zero_is : n ≡ 0 = omega arith in
          absurd (both_ways _ (run.2 (omega arith)) (ap (λ i. may_stand bytes i) zero_is ∙ here))
    ]

word_here : (bytes : List ℕ) → is_letter (slice_index bytes 0) ≡ true → in_word bytes 0 ≡ true
unfolding in_word
word_here bytes h = h

number_here : (bytes : List ℕ) → is_digit (slice_index bytes 0) ≡ true → in_number bytes 0 ≡ true
unfolding in_number
number_here bytes h = h

-- ---- words
word_stands : (s : Standing) (n : ℕ) (found : Found) → 0 < length s.left → is_letter (slice_index s.left 0) ≡ true → IsRun in_word s.left n → found ≡ word_found s (take n s.left) → LongestToken s found
word_stands s n found some letter run e =
    let longest = run_longest in_word in_word-local s.left n (run_some in_word s.left n run some (word_here s.left letter)) run in
    inl (take n s.left, drop n s.left, longest_word (is_first s.line) s.left (take n s.left) (drop n s.left) longest, inl (longest.1, e))

word_some : (s : Standing) (n : ℕ) → 0 < length s.left → is_letter (slice_index s.left 0) ≡ true → IsRun in_word s.left n → 0 < length (take n s.left)
word_some s n some letter run =
    let up : 0 < n = run_some in_word s.left n run some (word_here s.left letter) in omega (arith, length-take-le n s.left run.0)

pub word_too_long : (s : Standing) (n : ℕ) → 0 < length s.left → is_letter (slice_index s.left 0) ≡ true → IsRun in_word s.left n → 64 < n → LongestToken s (fault s 4)
word_too_long s n some letter run long =
    let l : length (take n s.left) ≡ n = length-take-le n s.left run.0 in
    let e : nat_le (length (take n s.left)) 64 ≡ false = lt-leb _ _ (omega arith) in
    word_stands s n (fault s 4) some letter run
    (sym (ap (λ b. cond b (cond (is_pragma s.line (take n s.left)) (next (pragma (take n s.left))) (given s (take n s.left) (k.Word (take n s.left)))) (fault s 4)) e))

word_short : (s : Standing) (n : ℕ) → n ≤ length s.left → n ≤ 64 → word_found s (take n s.left) ≡ cond (is_pragma s.line (take n s.left)) (next (pragma (take n s.left))) (given s (take n s.left) (k.Word (take n s.left)))
word_short s n fits short =
    let l : length (take n s.left) ≡ n = length-take-le n s.left fits in
    let e : nat_le (length (take n s.left)) 64 ≡ true = le-leb _ _ (omega arith) in
    ap (λ b. cond b (cond (is_pragma s.line (take n s.left)) (next (pragma (take n s.left))) (given s (take n s.left) (k.Word (take n s.left)))) (fault s 4)) e

pragma_hash : (line : Line) (text : List ℕ) → is_pragma line text ≡ true → line ≡ hash
pragma_hash empty text e = absurd cc
pragma_hash hash text e = refl
pragma_hash pragma_line text e = absurd cc
pragma_hash tokens text e = absurd cc

pub pragma_taken : (s new : Standing) (n : ℕ) (ts us : List Token) → 0 < length s.left → is_letter (slice_index s.left 0) ≡ true → IsRun in_word s.left n → n ≤ 64 → is_pragma s.line (take n s.left) ≡ true → new ≡ after s (pragma (take n s.left)) → us ≡ take (length ts - 1) ts → Steps (LongestToken s) (Ok tt) s new ts us
pragma_taken s new n ts us some letter run short b e h =
    took (LongestToken s) s new (pragma (take n s.left)) ts us
    (word_stands s n (next (pragma (take n s.left))) some letter run
    (sym (word_short s n run.0 short ∙ ap (λ x. cond x (next (pragma (take n s.left))) (given s (take n s.left) (k.Word (take n s.left)))) b)))
    (pragma_hash s.line (take n s.left) b) (word_some s n some letter run) some e h

pub word_taken : (s new : Standing) (n : ℕ) (ts us : List Token) → 0 < length s.left → is_letter (slice_index s.left 0) ≡ true → IsRun in_word s.left n → n ≤ 64 → is_pragma s.line (take n s.left) ≡ false → (word : List ℕ) → word ≡ take n s.left → new ≡ after s (lexeme (take n s.left) (token_at s (k.Word word))) → us ≡ ts ++ token_at s (k.Word word) ∷ [] → Steps (LongestToken s) (Ok tt) s new ts us
word_taken s new n ts us some letter run short b word same e h =
    took (LongestToken s) s new (lexeme (take n s.left) (token_at s (k.Word word))) ts us
    (word_stands s n (given s (take n s.left) (k.Word word)) some letter run
    (ap (λ x. given s (take n s.left) (k.Word x)) same
    ∙ sym (word_short s n run.0 short ∙ ap (λ x. cond x (next (pragma (take n s.left))) (given s (take n s.left) (k.Word (take n s.left)))) b)))
    (λ x. absurd (false≢true x)) (word_some s n some letter run) some e h

-- ---- numbers
pub number_taken : (s new : Standing) (n : ℕ) (ts us : List Token) → 0 < length s.left → is_digit (slice_index s.left 0) ≡ true → IsRun in_number s.left n → (value : ℕ) (kind : CType) → IsConstant (take n s.left) value kind → new ≡ after s (lexeme (take n s.left) (token_at s (k.Number value kind))) → us ≡ ts ++ token_at s (k.Number value kind) ∷ [] → Steps (LongestToken s) (Ok tt) s new ts us
number_taken s new n ts us some digit run value kind constant e h =
    let up : 0 < n = run_some in_number s.left n run some (number_here s.left digit) in
    let longest = run_longest in_number in_number-local s.left n up run in
    took (LongestToken s) s new (lexeme (take n s.left) (token_at s (k.Number value kind))) ts us
    (inl (
      take n s.left,
      drop n s.left,
      longest_number (is_first s.line) s.left (take n s.left) (drop n s.left) longest,
      inr (inl (longest.1, inl (value, kind, constant, refl))),
    ))
    (λ x. absurd (false≢true x)) (omega (arith, length-take-le n s.left run.0)) some e h

pub number_malformed : (s : Standing) (n : ℕ) → 0 < length s.left → is_digit (slice_index s.left 0) ≡ true → IsRun in_number s.left n → ((value : ℕ) (kind : CType) → ¬ IsConstant (take n s.left) value kind) → LongestToken s (fault s 3)
number_malformed s n some digit run none =
    let up : 0 < n = run_some in_number s.left n run some (number_here s.left digit) in
    let longest = run_longest in_number in_number-local s.left n up run in
    inl (
      take n s.left,
      drop n s.left,
      longest_number (is_first s.line) s.left (take n s.left) (drop n s.left) longest,
      inr (inl (longest.1, inr (none, refl))),
    )

-- ---- punctuators
is_hash-true : (q : Punct) → is_hash (k.Punct q) ≡ true → q ≡ p.Hash
is_hash-true p.Hash e = refl
is_hash-true _ e = absurd (false≢true e)

first_empty : (line : Line) → is_first line ≡ true → line ≡ empty
first_empty empty e = refl
first_empty hash e = absurd cc
first_empty pragma_line e = absurd cc
first_empty tokens e = absurd cc

pub sign_taken : (s new : Standing) (ts us : List Token) (q : Punct) → 0 < length s.left → IsLongestSign (is_first s.line) s.left (Some q) → 0 < length (spelling q) → new ≡ after s (lexeme (take (length (spelling q)) s.left) (token_at s (k.Punct q))) → us ≡ ts ++ token_at s (k.Punct q) ∷ [] → Steps (LongestToken s) (Ok tt) s new ts us
sign_taken s new ts us q some longest up e h =
    let text : take (length (spelling q)) s.left ≡ spelling q =
    ap (λ x. take (length (spelling q)) x) longest.0 ∙ take_at (spelling q) (drop (length (spelling q)) s.left) (length (spelling q)) refl in
    took (LongestToken s) s new (lexeme (spelling q) (token_at s (k.Punct q))) ts us
    (inl (
      spelling q,
      drop (length (spelling q)) s.left,
      longest_sign_token (is_first s.line) s.left (spelling q) (drop (length (spelling q)) s.left) longest,
      inr (inr (q, refl, refl)),
    ))
    (λ x. first_empty s.line (sign_first (is_first s.line) q longest.1 (is_hash-true q x))) up some
    (e ∙ ap (λ x. after s (lexeme x (token_at s (k.Punct q)))) text) h
  where
    sign_first : (first : Bool) (r : Punct) → IsSign first (spelling r) → r ≡ p.Hash → first ≡ true
    sign_first first r (o, same, rule) is = rule (spelling_unique o r (sym same) ∙ is)

pub no_sign : (s : Standing) → is_letter (slice_index s.left 0) ≡ false → is_digit (slice_index s.left 0) ≡ false → IsLongestSign (is_first s.line) s.left None → LongestToken s (fault s 1)
no_sign s letter digit none = inr (no_token (is_first s.line) s.left letter digit none, refl)

-- ---- white space and comments
pub at_place : (s : Standing) (o : Opening) (found : Found) → opening s.left ≡ o → At o s found → Finds s found
at_place s o found e h = subst (λ x. At x s found) (sym e) h

pub line_end_taken : (s new : Standing) (ts us : List Token) → opening s.left ≡ at_line_end → new ≡ record { left = drop 1 s.left; place = place_after s.place (take 1 s.left); line = empty; glued = false } → us ≡ ts → Steps (Finds s) (Ok tt) s new ts us
line_end_taken s new ts us o e h =
    let here = opens s.left at_line_end o in
    let text : take 1 s.left ≡ 10 ∷ [] = take_more s.left 0 0 here.0 ∙ ap (λ x. x ∷ []) here.1 in
    took (Finds s) s new line_end ts us (at_place s at_line_end (next line_end) o refl) tt (lit< tt) here.0
    (e ∙ ap (λ x. record { left = drop 1 s.left; place = place_after s.place x; line = empty; glued = false }) text) h

gap_taken : (s new : Standing) (ts us : List Token) (n : ℕ) → Finds s (next (gap (take n s.left))) → 0 < n → n ≤ length s.left → new ≡ after s (gap (take n s.left)) → us ≡ ts → Steps (Finds s) (Ok tt) s new ts us
gap_taken s new ts us n found up fits e h =
    took (Finds s) s new (gap (take n s.left)) ts us found tt (omega (arith, length-take-le n s.left fits)) (omega arith) e h

pub space_taken : (s new : Standing) (ts us : List Token) (n : ℕ) → opening s.left ≡ at_space n → new ≡ after s (gap (take n s.left)) → us ≡ ts → Steps (Finds s) (Ok tt) s new ts us
space_taken s new ts us n o e h =
    let here = opens s.left (at_space n) o in
    gap_taken s new ts us n (at_place s (at_space n) (next (gap (take n s.left))) o refl) here.0 here.1 e h

pub space-fits : (s : Standing) (n : ℕ) → opening s.left ≡ at_space n → n ≤ length s.left
space-fits s n o = (opens s.left (at_space n) o).1

pub line_comment_taken : (s new : Standing) (ts us : List Token) (n : ℕ) → opening s.left ≡ at_line_comment → IsRun in_line_comment s.left n → new ≡ after s (gap (take n s.left)) → us ≡ ts → Steps (Finds s) (Ok tt) s new ts us
line_comment_taken s new ts us n o run e h =
    let here = opens s.left at_line_comment o in
    let up : 0 < n = run_some in_line_comment s.left n run here.0 (line_comment_here s.left here.1) in
    let longest = run_longest in_line_comment in_line_comment-local s.left n up run in
    gap_taken s new ts us n (at_place s at_line_comment (next (gap (take n s.left))) o (take n s.left, drop n s.left, longest, refl)) up run.0 e h

pub close-fits : (bytes : List ℕ) (n : ℕ) → IsFirstClose bytes (Some n) → n ≤ length bytes
close-fits bytes n (k, low, is, fits, closed, none) = fits

pub block_comment_taken : (s new : Standing) (ts us : List Token) (n : ℕ) → opening s.left ≡ at_block_comment → IsFirstClose s.left (Some n) → new ≡ after s (gap (take n s.left)) → us ≡ ts → Steps (Finds s) (Ok tt) s new ts us
block_comment_taken s new ts us n o close e h =
    let here = opens s.left at_block_comment o in
    let up : 0 < n = (let is : n ≡ close.0 + 2 = close.2 in omega arith) in
    gap_taken s new ts us n
    (at_place s at_block_comment (next (gap (take n s.left))) o (inl (take n s.left, drop n s.left, first_close s.left n here.1 close, refl)))
    up (close-fits s.left n close) e h

pub block_comment_open : (s : Standing) → opening s.left ≡ at_block_comment → IsFirstClose s.left None → Finds s (fault s 2)
block_comment_open s o none = at_place s at_block_comment (fault s 2) o (inr (no_close s.left none, refl))

-- ---- tokens, and the bytes of a pragma line
pub skipped : (s new : Standing) (ts us : List Token) → s.line ≡ pragma_line → 0 < length s.left → new ≡ after s (gap (take 1 s.left)) → us ≡ ts → Steps (AtToken s.line s) (Ok tt) s new ts us
skipped s new ts us line some e h =
    took (AtToken s.line s) s new (gap (take 1 s.left)) ts us
    (subst (λ x. AtToken x s (next (gap (take 1 s.left)))) (sym line) refl) tt (omega (arith, length-take-le 1 s.left some)) some e h

steps_map : (F G : Found → Type 0) → ((f : Found) → F f → G f) → (result : Result (Unit {0}) Fail) (old new : Standing) (ts us : List Token) → Steps F result old new ts us → Steps G result old new ts us
steps_map F G go (Ok x) old new ts us (piece, found, fits, e, h, shorter) = (piece, go (next piece) found, fits, e, h, shorter)
steps_map F G go (Err (Refused r)) old new ts us found = go (ends (refused r)) found
steps_map F G go (Err Memory) old new ts us u = tt

outside_pragma : (line : Line) (s : Standing) → (line ≡ pragma_line → ⊥) → (f : Found) → LongestToken s f → AtToken line s f
outside_pragma empty s n f h = h
outside_pragma hash s n f h = h
outside_pragma pragma_line s n f h = absurd (n refl)
outside_pragma tokens s n f h = h

pub token_steps : (s : Standing) (result : Result (Unit {0}) Fail) (new : Standing) (ts us : List Token) → (s.line ≡ pragma_line → ⊥) → Steps (LongestToken s) result s new ts us → Steps (AtToken s.line s) result s new ts us
token_steps s result new ts us n h = steps_map (LongestToken s) (AtToken s.line s) (outside_pragma s.line s n) result s new ts us h

pub found_steps : (s : Standing) (result : Result (Unit {0}) Fail) (new : Standing) (ts us : List Token) → opening s.left ≡ at_token → Steps (AtToken s.line s) result s new ts us → Steps (Finds s) result s new ts us
found_steps s result new ts us o h = steps_map (AtToken s.line s) (Finds s) (λ f x. at_place s at_token f o x) result s new ts us h
