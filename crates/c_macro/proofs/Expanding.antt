-- What is put out for a row of tokens.
use Rattle.std.proofs.Common.{◌≡◌, ℕ, ◌+◌, ◌-◌, ◌≤◌, ◌∙◌, sym, refl, ap, subst, Bool, List, [], ◌∷◌, ◌++◌, length, Result, Ok, Err, append_assoc, append-nil, length-append, arith}
use Rattle.std.specs.Prelude.{IsErrAnd}
use Rattle.hls_base.specs.Refusals.{IfRefused}
use Rattle.hls_base.specs.declared.place.Place.{Place}
use Rattle.hls_base.specs.declared.refusal.Fail.{Fail}
use Rattle.hls_base.specs.declared.refusal.Fail.TheVariants.{Refused, Memory}
use Rattle.hls_base.specs.declared.refusal.Refusal.{Refusal}
use Rattle.c_token.specs.declared.token.Token.{Token}
use Rattle.c_token.specs.Replacement.{Table, typed_kind, StandsFor, numbered}
use Rattle.c_macro.specs.declared.output.Invocation.{Invocation}
use Rattle.c_macro.specs.Emitted.{Emitted}
use Rattle.c_macro.specs.Views.{Emits, Overflows, Expands, overflow}

numbered-append : (included : Bool) (at : Place) (part : ℕ) (xs ys : List Token) → numbered included at part (xs ++ ys) ≡ numbered included at part xs ++ numbered included at (part + length xs) ys
numbered-append included at part [] ys = let e : part ≡ part + 0 = omega arith in ap (λ p. numbered included at p ys) e
numbered-append included at part (x ∷ xs) ys =
    let e : part + 1 + length xs ≡ part + length (x ∷ xs) = omega arith in
    let rest : numbered included at (part + 1) (xs ++ ys) ≡ numbered included at (part + 1) xs ++ numbered included at (part + length (x ∷ xs)) ys =
    numbered-append included at (part + 1) xs ys ∙ ap (λ p. numbered included at (part + 1) xs ++ numbered included at p ys) e in
    ap (λ z. record x { kind = typed_kind included x.kind; place = record { line = at.line; column = at.column; part = part } } ∷ z) rest

pub length-numbered : (included : Bool) (at : Place) (part : ℕ) (xs : List Token) → length (numbered included at part xs) ≡ length xs
length-numbered included at part [] = refl
length-numbered included at part (x ∷ xs) = let l = length-numbered included at (part + 1) xs in omega arith

pub length-emitted : (at : Invocation) (row : List Token) (words : ℕ) (old new : Emitted) → Emits at row words old new → length new.tokens ≡ length old.tokens + length row
length-emitted at row words old new e =
    ap length e.tokens ∙ (length-append old.tokens (numbered at.included at.place (length old.tokens - at.before + 1) row)
    ∙ ap (λ n. length old.tokens + n) (length-numbered at.included at.place (length old.tokens - at.before + 1) row))

pub emits-append : (at : Invocation) (xs ys : List Token) (m n : ℕ) (a b c : Emitted) → at.before ≤ length a.tokens → Emits at xs m a b → Emits at ys n b c → Emits at (xs ++ ys) (m + n) a c
emits-append at xs ys m n a b c l e f =
    let long = length-emitted at xs m a b e in
    let p = length a.tokens - at.before + 1 in
    let part : length b.tokens - at.before + 1 ≡ p + length xs = omega arith in
    let N = numbered at.included at.place in
    record {
      tokens =
          f.tokens ∙ (ap (λ t. t ++ N (length b.tokens - at.before + 1) ys) e.tokens
          ∙ (ap (λ q. (a.tokens ++ N p xs) ++ N q ys) part
          ∙ (append_assoc a.tokens (N p xs) (N (p + length xs) ys) ∙ ap (λ z. a.tokens ++ z) (sym (numbered-append at.included at.place p xs ys)))));
      words = (let first = e.words in let second = f.words in omega arith);
    }

pub emits_nothing : (at : Invocation) (a : Emitted) → Emits at [] 0 a a
emits_nothing at a = record { tokens = sym (append-nil a.tokens); words = omega arith }

-- ---- a limit is passed

abbrev pub Passes : Table → List Token → Emitted → Type 0
Passes table tokens old = (row : List Token) (words : ℕ) → StandsFor table tokens row words → Overflows row words old

-- ---- the exits

pub through : {A : Type 0} {Q : Fail → Type 0} (P : Result A Fail → Type 0) (r : Result A Fail) (e : Fail) → IsErrAnd r Q → ((y : Fail) → Q y → y ≡ e) → P (Err e) → P r
through P (Ok x) e is same h = absurd is
through P (Err y) e is same h = subst (λ z. P (Err z)) (sym (same y is)) h

pub failed : (table : Table) (at : Invocation) (tokens : List Token) (old new : Emitted) (e : Fail) (R : Refusal → Type 0) → IfRefused {A = Unit {0}} (Err e) R
    → ((r : Refusal) → R r → (r ≡ overflow at.place) × Passes table tokens old) → Expands table at tokens (Err e) old new
failed table at tokens old new (Refused r) R h f = f r h
failed table at tokens old new Memory R h f = tt
