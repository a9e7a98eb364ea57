-- What taking a token or a directive does.
use Rattle.std.proofs.Common.{◌≡◌, ℕ, zero, suc, ◌+◌, ◌-◌, ◌<◌, ◌≤◌, ◌∙◌, sym, refl, ap, subst, Bool, true, false, List, [], ◌∷◌, ◌++◌, length, take, drop, get_or, Option, Some, None, Result, Ok, Err, inl, inr, ◌⊎◌, append_assoc, append-nil, length-append, arith}
use Rattle.std.specs.Prelude.{◌==◌, is_some, replicate, OnOk}
use Rattle.std.proofs.lemmas.List.{take-append-drop}
use Rattle.hls_base.specs.declared.refusal.Fail.{Fail}
use Rattle.hls_base.specs.declared.refusal.Fail.TheVariants.{Refused, Memory}
use Rattle.hls_base.specs.declared.refusal.Refusal.{Refusal}
use Rattle.hls_base.specs.Refusals.{IfRefused}
use Rattle.c_token.specs.declared.token.Token.{Token}
use Rattle.c_token.specs.Replacement.{Table, body_of, nothing, stays, typed_kind, numbered, placed, TokenBecomes, Reading, refuse, obey, count, AndThen, behind, Part, directive, ordinary, Divides, is_directive, none_first, begins_line, Outcome, beginning, Becomes, FirstReplacementFault, token_limit, word_limit}
use Rattle.c_token.proofs.Expansion.{token_becomes_something}
use Rattle.c_token.proofs.Divided.{divides_somehow}
use Rattle.c_macro.specs.declared.reader.Reader.{Reader}
use Rattle.c_macro.specs.declared.output.Invocation.{Invocation}
use Rattle.c_macro.specs.Emitted.{Emitted}
use Rattle.c_macro.specs.Views.{visible, IsWithin, Expands, overflow}
use Rattle.c_macro.specs.Steps.{reading_of, Obeys, TakesToken, Follows, Steps}
use Rattle.c_macro.proofs.Expanding.{length-numbered, length-emitted}

-- ---- counts

pub count-within : (s : Reading) (token : Token) (m n : ℕ) → s.tokens + m ≤ token_limit → s.words + n ≤ word_limit → count s token m n ≡ Ok (record s { tokens = s.tokens + m; words = s.words + n })
count-within s token m n a b = grind arith

pub count-overflow : (s : Reading) (token : Token) (m n : ℕ) → (token_limit < s.tokens + m) ⊎ (word_limit < s.words + n) → count s token m n ≡ refuse 31 token
count-overflow s token m n h = grind arith

reading_is : (table tables : Table) (included includes : Bool) (defines define_lines t u w v : ℕ) → table ≡ tables → included ≡ includes → defines ≡ define_lines → t ≡ u → w ≡ v
    → ◌≡◌ {A = Reading} (record { table = table; included = included; defines = defines; tokens = t; words = w }) (record { table = tables; included = includes; defines = define_lines; tokens = u; words = v })
reading_is table tables included includes defines define_lines t u w v a b c d e =
    ap (λ x. record { table = x; included = included; defines = defines; tokens = t; words = w }) a
    ∙ (ap (λ x. record { table = tables; included = x; defines = defines; tokens = t; words = w }) b
    ∙ (ap (λ x. record { table = tables; included = includes; defines = x; tokens = t; words = w }) c
    ∙ (ap (λ x. record { table = tables; included = includes; defines = define_lines; tokens = x; words = w }) d
    ∙ ap (λ x. record { table = tables; included = includes; defines = define_lines; tokens = u; words = x }) e)))

-- ---- a token of the source

pub nothing_hidden : (n : ℕ) (table : Table) → visible (replicate n false) table ≡ table
nothing_hidden zero table = refl
nothing_hidden (suc n) [] = refl
nothing_hidden (suc n) (row ∷ rows) = ap (λ t. row ∷ t) (nothing_hidden n rows)

-- the reader with other output
abbrev pub SameBut : Reader → Reader → Emitted → Type 0
SameBut old new output = (new.macros ≡ old.macros) × (new.included ≡ old.included) × (new.defines ≡ old.defines) × (new.output ≡ output)

is_counted : (old new : Reader) (token : Token) (m n : ℕ) (output : Emitted) → SameBut old new output → length output.tokens ≡ length old.output.tokens + m → output.words ≡ old.output.words + n → IsWithin output
    → count (reading_of old) token m n ≡ Ok (reading_of new)
is_counted old new token m n output same t w within =
    let tokens : length new.output.tokens ≡ length output.tokens = ap (λ o. length o.tokens) same.3 in
    let words : new.output.words ≡ output.words = ap (λ o. o.words) same.3 in
    let tokens_within = within.0 in
    let words_within = within.1 in
    count-within (reading_of old) token m n (omega arith) (omega arith)
    ∙ ap Ok (reading_is old.macros new.macros old.included new.included old.defines new.defines (length old.output.tokens + m) (length new.output.tokens) (old.output.words + n) new.output.words
    (sym same.0) (sym same.1) (sym same.2) (omega arith) (omega arith))

placed-some : (included : Bool) (token : Token) (o : Option (List Token)) (row : List Token) → is_some o ≡ true → placed included token o row ≡ numbered included token.place 1 row
placed-some included token None row h = absurd cc
placed-some included token (Some body) row h = refl

pub takes_word : (old new : Reader) (token : Token) (result : Result (Unit {0}) Fail) (output : Emitted) → is_some (body_of old.macros token.kind) ≡ true → SameBut old new output
    → Expands old.macros (record { place = token.place; before = length old.output.tokens; included = old.included }) (token ∷ []) result old.output output
    → TakesToken (token ∷ []) result old new
takes_word old new token (Ok x) output some same (row, words, s, e, w) =
    let at : Invocation = record { place = token.place; before = length old.output.tokens; included = old.included } in
    let part : length old.output.tokens - length old.output.tokens + 1 ≡ 1 = omega arith in
    let tokens = numbered old.included token.place 1 row in
    let put : output.tokens ≡ old.output.tokens ++ tokens = e.tokens ∙ ap (λ p. old.output.tokens ++ numbered old.included token.place p row) part in
    let long = length-emitted at row words old.output output e in
    let row_long = length-numbered old.included token.place 1 row in (
      token,
      tokens,
      words,
      refl,
      (row, s, sym (placed-some old.included token (body_of old.macros token.kind) row some)),
      is_counted old new token (length tokens) words output same (omega arith) e.words w,
      ap (λ o. o.tokens) same.3 ∙ put,
    )
takes_word old new token (Err (Refused r)) output some same (is, p) =
    let b = token_becomes_something old.included old.macros token in
    let row : List Token = b.2.0 in
    let becomes : b.0 ≡ numbered old.included token.place 1 row = b.2.2 ∙ placed-some old.included token (body_of old.macros token.kind) row some in
    let long : length b.0 ≡ length row = ap length becomes ∙ length-numbered old.included token.place 1 row in (
      token,
      b.0,
      b.1,
      refl,
      b.2,
      count-overflow (reading_of old) token (length b.0) b.1 (elim (p row b.1 b.2.1) [ inl h ↦ inl (omega arith) | inr h ↦ inr (omega arith) ]) ∙ ap Err (sym is),
    )
takes_word old new token (Err Memory) output some same h = tt

pub no_body : (o : Option (List Token)) → is_some o ≡ false → o ≡ None
no_body None h = refl
no_body (Some body) h = absurd cc

placed-none : (included : Bool) (token : Token) (o : Option (List Token)) (row : List Token) → o ≡ None → placed included token o row ≡ record token { kind = typed_kind included token.kind } ∷ []
placed-none included token None row h = refl
placed-none included token (Some body) row h = absurd cc

kept_becomes : (old : Reader) (token kept : Token) → is_some (body_of old.macros token.kind) ≡ false → kept ≡ record token { kind = typed_kind old.included token.kind }
    → TokenBecomes old.included old.macros token (kept ∷ []) 0
kept_becomes old token kept none kind =
    let absent : body_of old.macros token.kind ≡ None = no_body (body_of old.macros token.kind) none in
    (token ∷ [], stays old.macros token [] [] 0 absent (nothing old.macros), ap (λ t. t ∷ []) kind ∙ sym (placed-none old.included token (body_of old.macros token.kind) (token ∷ []) absent))

pub takes_other : (old new : Reader) (token : Token) (kept : Token) (result : Result (Unit {0}) Fail) (output : Emitted) → is_some (body_of old.macros token.kind) ≡ false → SameBut old new output
    → kept ≡ record token { kind = typed_kind old.included token.kind } → IsWithin old.output
    → OnOk result (output ≡ record old.output { tokens = old.output.tokens ++ kept ∷ [] }) → OnOk result (length output.tokens ≤ token_limit)
    → IfRefused result (λ r. (r ≡ overflow kept.place) × (token_limit ≤ length old.output.tokens))
    → TakesToken (token ∷ []) result old new
takes_other old new token kept (Ok x) output none same kind w put within refused =
    let long : length output.tokens ≡ length old.output.tokens + length (kept ∷ []) = ap (λ o. length o.tokens) put ∙ length-append old.output.tokens (kept ∷ []) in
    let words : output.words ≡ old.output.words = ap (λ o. o.words) put in
    let words_within = w.1 in
    (token, kept ∷ [], 0, refl, kept_becomes old token kept none kind, is_counted old new token 1 0 output same (omega arith) (omega arith) (within, omega arith), ap (λ o. o.tokens) (same.3 ∙ put))
takes_other old new token kept (Err (Refused r)) output none same kind w put within refused =
    let full = refused.1 in
    let place : kept.place ≡ token.place = ap (λ t. t.place) kind in
    (token, kept ∷ [], 0, refl, kept_becomes old token kept none kind, count-overflow (reading_of old) token 1 0 (inl (omega arith)) ∙ ap Err (sym (refused.0 ∙ ap overflow place)))
takes_other old new token kept (Err Memory) output none same kind w put within refused = tt

-- ---- parts

pub whole_list : (left front rest : List Token) → front ≡ take 1 left → rest ≡ drop 1 left → left ≡ front ++ rest
whole_list left front rest f r = sym (take-append-drop 1 left) ∙ (ap (λ x. x ++ drop 1 left) (sym f) ∙ ap (λ x. front ++ x) (sym r))

behind-append : (xs ys : List Token) (result : Result (List Token) Refusal) → behind (xs ++ ys) result ≡ behind xs (behind ys result)
behind-append xs ys (Ok zs) = ap Ok (append_assoc xs ys zs)
behind-append xs ys (Err r) = refl

pub token_follows : (left rest : List Token) (old new : Reader) (token : Token) (tokens : List Token) (words : ℕ) → left ≡ token ∷ rest → is_directive token ≡ false
    → TokenBecomes old.included old.macros token tokens words → count (reading_of old) token (length tokens) words ≡ Ok (reading_of new) → new.output.tokens ≡ old.output.tokens ++ tokens
    → Follows left rest old new
token_follows left rest old new token tokens words e n b c o parts result d out = (
  ordinary token ∷ parts,
  behind tokens result,
  (rest, e, n, d),
  (tokens, words, b, subst (λ z. AndThen z (λ s. (r : Result (List Token) Refusal) × Outcome s parts r × (behind tokens result ≡ behind tokens r)) (behind tokens result)) (sym c) (result, out, refl)),
  sym (ap (λ t. behind t result) o ∙ behind-append old.output.tokens tokens result),
)

pub token_refused : (left rest : List Token) (old : Reader) (token : Token) (tokens : List Token) (words : ℕ) (r : Refusal) → left ≡ token ∷ rest → is_directive token ≡ false
    → TokenBecomes old.included old.macros token tokens words → count (reading_of old) token (length tokens) words ≡ Err r
    → (parts : List Part) × Divides left parts × Outcome (reading_of old) parts (Err r)
token_refused left rest old token tokens words r e n b c =
    let d = divides_somehow rest in (
      ordinary token ∷ d.0,
      (rest, e, n, d.1),
      (tokens, words, b, subst (λ z. AndThen z (λ s. (x : Result (List Token) Refusal) × Outcome s d.0 x × (Err r ≡ behind tokens x)) (Err r)) (sym c) refl),
    )

pub directive_follows : (left line rest : List Token) (old new : Reader) (hash : Token) → left ≡ hash ∷ (line ++ rest) → is_directive hash ≡ true → none_first line ≡ true → begins_line rest ≡ true
    → obey (reading_of old) line ≡ Ok (reading_of new) → new.output ≡ old.output → Follows left rest old new
directive_follows left line rest old new hash e n f b c o parts result d out = (
  directive hash line ∷ parts,
  result,
  (rest, e, n, f, b, d),
  subst (λ z. AndThen z (λ s. Outcome s parts result) result) (sym c) out,
  sym (ap (λ x. behind x.tokens result) o),
)

pub directive_refused : (left line rest : List Token) (old : Reader) (hash : Token) (r : Refusal) → left ≡ hash ∷ (line ++ rest) → is_directive hash ≡ true → none_first line ≡ true → begins_line rest ≡ true
    → obey (reading_of old) line ≡ Err r → (parts : List Part) × Divides left parts × Outcome (reading_of old) parts (Err r)
directive_refused left line rest old hash r e n f b c =
    let d = divides_somehow rest in
    (directive hash line ∷ d.0, (rest, e, n, f, b, d.1), subst (λ z. AndThen z (λ s. Outcome s d.0 (Err r)) (Err r)) (sym c) refl)

-- ---- the whole list

-- what is left becomes, behind what was put out, what the whole list becomes
abbrev pub Progress : List Token → List Token → Reader → Type 0
Progress tokens left reader =
    (parts : List Part) (result : Result (List Token) Refusal) → Divides left parts → Outcome (reading_of reader) parts result
    → (whole : List Part) × Divides tokens whole × Outcome beginning whole (behind reader.output.tokens result)

pub begun : (tokens : List Token) (reader : Reader) → reading_of reader ≡ beginning → reader.output.tokens ≡ [] → Progress tokens tokens reader
begun tokens reader r e parts result d out =
    (parts, d, subst (λ s. Outcome s parts (behind reader.output.tokens result)) r (subst (λ t. Outcome (reading_of reader) parts (behind t result)) (sym e) (start result out)))
  where
    start : (x : Result (List Token) Refusal) → Outcome (reading_of reader) parts x → Outcome (reading_of reader) parts (behind [] x)
    start (Ok xs) o = o
    start (Err y) o = o

pub stepped : (tokens left rest : List Token) (old new : Reader) → Progress tokens left old → Follows left rest old new → Progress tokens rest new
stepped tokens left rest old new p f parts result d out =
    let s = f parts result d out in
    let w = p s.0 s.1 s.2 s.3 in
    (w.0, w.1, subst (λ x. Outcome beginning w.0 x) s.4 w.2)

pub finished : (tokens : List Token) (reader : Reader) → Progress tokens [] reader → Becomes tokens reader.output.tokens
finished tokens reader p =
    let w = p [] (Ok []) refl refl in
    (w.0, w.1, subst (λ x. Outcome beginning w.0 (Ok x)) (append-nil reader.output.tokens) w.2)

pub at_fault : (tokens left : List Token) (reader : Reader) (r : Refusal) → Progress tokens left reader → ((parts : List Part) × Divides left parts × Outcome (reading_of reader) parts (Err r)) → FirstReplacementFault tokens r
at_fault tokens left reader r p (parts, d, o) = p parts (Err r) d o

pub one_token : (front : List Token) (d : Token) → length front ≡ 1 → front ≡ get_or front 0 d ∷ []
one_token [] d h = absurd (omega arith)
one_token (t ∷ []) d h = refl
one_token (t ∷ (u ∷ more)) d h = absurd (omega arith)

pub parts_of_list : (xs : List Token) (n : ℕ) (front rest : List Token) → front ≡ take n xs → rest ≡ drop n xs → xs ≡ front ++ rest
parts_of_list xs n front rest f r = sym (take-append-drop n xs) ∙ (ap (λ x. x ++ drop n xs) (sym f) ∙ ap (λ x. front ++ x) (sym r))

pub directive_steps : (left line rest : List Token) (old new : Reader) (hash : Token) (e : Fail) → left ≡ hash ∷ (line ++ rest) → is_directive hash ≡ true → none_first line ≡ true → begins_line rest ≡ true
    → Obeys (obey (reading_of old) line) (Err e) old new → Steps left (Err e) old new
directive_steps left line rest old new hash (Refused r) e n f b h = directive_refused left line rest old hash r e n f b h
directive_steps left line rest old new hash Memory e n f b h = tt

pub token_steps : (left front rest : List Token) (old new : Reader) (e : Fail) → left ≡ front ++ rest → ((t : Token) → front ≡ t ∷ [] → is_directive t ≡ false) → TakesToken front (Err e) old new → Steps left (Err e) old new
token_steps left front rest old new (Refused r) e n (token, tokens, words, f, b, c) =
    token_refused left rest old token tokens words r (e ∙ ap (λ x. x ++ rest) f) (n token f) b c
token_steps left front rest old new Memory e n h = tt

pub token_goes_on : (left front rest : List Token) (old new : Reader) → left ≡ front ++ rest → ((t : Token) → front ≡ t ∷ [] → is_directive t ≡ false) → TakesToken front (Ok tt) old new → Follows left rest old new
token_goes_on left front rest old new e n (token, tokens, words, f, b, c, o) =
    token_follows left rest old new token tokens words (e ∙ ap (λ x. x ++ rest) f) (n token f) b c o

pub step_refused : (tokens left : List Token) (old new : Reader) (e : Fail) → Progress tokens left old → Steps left (Err e) old new → IfRefused {A = Unit {0}} (Err e) (λ r. FirstReplacementFault tokens r)
step_refused tokens left old new (Refused r) p h = at_fault tokens left old r p h
step_refused tokens left old new Memory p h = tt

pub rest-shorter : (left front rest : List Token) → left ≡ front ++ rest → length front ≡ 1 → length rest < length left
rest-shorter left front rest e l = let long : length left ≡ length front + length rest = ap length e ∙ length-append front rest in omega arith

pub not_directive : (front : List Token) (d : Token) → d ≡ get_or front 0 d → is_directive d ≡ false → (t : Token) → front ≡ t ∷ [] → is_directive t ≡ false
not_directive front d is n t e = let same : d ≡ t = is ∙ ap (λ x. get_or x 0 d) e in ap is_directive (sym same) ∙ n

pub line_of_list : (left front rest line after : List Token) (n : ℕ) (hash : Token) → left ≡ front ++ rest → length front ≡ 1 → hash ≡ get_or front 0 hash → line ≡ take n rest → after ≡ drop n rest → left ≡ hash ∷ (line ++ after)
line_of_list left front rest line after n hash e l is f r =
    e ∙ (ap (λ x. x ++ rest) (one_token front hash l ∙ ap (λ t. t ∷ []) (sym is)) ∙ ap (λ x. hash ∷ x) (parts_of_list rest n line after f r))

pub front_takes_word : (old new : Reader) (front : List Token) (token : Token) (before n : ℕ) (result : Result (Unit {0}) Fail) (output : Emitted) → length front ≡ 1 → token ≡ get_or front 0 token
    → is_some (body_of old.macros token.kind) ≡ true → SameBut old new output → before ≡ length old.output.tokens
    → Expands (visible (replicate n false) old.macros) (record { place = token.place; before = before; included = old.included }) front result old.output output
    → TakesToken front result old new
front_takes_word old new front token before n result output l is some same b e =
    let one : front ≡ token ∷ [] = one_token front token l ∙ ap (λ t. t ∷ []) (sym is) in
    let shown = subst (λ t. Expands t (record { place = token.place; before = before; included = old.included }) front result old.output output) (nothing_hidden n old.macros) e in
    let counted = subst (λ m. Expands old.macros (record { place = token.place; before = m; included = old.included }) front result old.output output) b shown in
    let single = subst (λ f. Expands old.macros (record { place = token.place; before = length old.output.tokens; included = old.included }) f result old.output output) one counted in
    subst (λ f. TakesToken f result old new) (sym one) (takes_word old new token result output some same single)

pub front_takes_other : (old new : Reader) (front : List Token) (token kept : Token) (result : Result (Unit {0}) Fail) (output : Emitted) → length front ≡ 1 → token ≡ get_or front 0 token
    → is_some (body_of old.macros token.kind) ≡ false → SameBut old new output
    → kept ≡ record token { kind = typed_kind old.included token.kind } → IsWithin old.output
    → OnOk result (output ≡ record old.output { tokens = old.output.tokens ++ kept ∷ [] }) → OnOk result (length output.tokens ≤ token_limit)
    → IfRefused result (λ r. (r ≡ overflow kept.place) × (token_limit ≤ length old.output.tokens))
    → TakesToken front result old new
front_takes_other old new front token kept result output l is none same kind w put within refused =
    let one : front ≡ token ∷ [] = one_token front token l ∙ ap (λ t. t ∷ []) (sym is) in
    subst (λ f. TakesToken f result old new) (sym one) (takes_other old new token kept result output none same kind w put within refused)

pub none_left : (left : List Token) → (length left == 0) ≡ true → left ≡ []
none_left [] h = refl
none_left (token ∷ tokens) h = absurd (grind arith)
