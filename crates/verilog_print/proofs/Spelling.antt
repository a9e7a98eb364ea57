-- Texts that spell tokens whatever follows, and how they join.
use Rattle.std.proofs.Common.{◌≡◌, ℕ, ◌<◌, sym, refl, ap, subst, false, List, [], ◌∷◌, ◌++◌, length, append_assoc, length-append, inl, inr, arith}
use Rattle.std.proofs.Math.Path.{subst₂}
use Rattle.std.specs.Prelude.{codes}
use Rattle.std.specs.List.{All, Contains, flat_map}
use Rattle.std.proofs.lemmas.List.{append-nil}
use Rattle.std.proofs.lemmas.List.Elements.{All-head, All-tail}
use Rattle.rtl_core.specs.Valid.{IsIdentifier}
use Rattle.rtl_core.specs.ModuleTokens.{Token, Word, Number, Constant, Sign, signs, IsNumber, IsConstantText, Spells, over, white, a_token}
use Rattle.rtl_core.specs.ModuleSyntax.{all_tokens}
use Rattle.verilog_print.proofs.Bytes.{Breaks, begins_solid, IsClosed, identifier_solid, digits_solid, constant_solid, solid_longest, closed_longest, spaced_longest}

-- The text spells these tokens, where what follows meets Follows.
pub record Reads (Follows : List ℕ → Type 0) (text : List ℕ) (tokens : List Token) : Type 0 where
  pub onto : (rest : List ℕ) (more : List Token) → Follows rest → Spells rest more → Spells (text ++ rest) (tokens ++ more)

-- whatever follows
abbrev pub Anything : List ℕ → Type 0
Anything rest = Unit {0}

-- the first byte is no letter, digit, `_` or quote
abbrev pub StartsBreak : List ℕ → Type 0
StartsBreak text = begins_solid text ≡ false

pub breaks_onto : (text rest : List ℕ) → StartsBreak text → Breaks (text ++ rest)
breaks_onto [] rest h = absurd cc
breaks_onto (c ∷ cs) rest h = h

pub join : {F G : List ℕ → Type 0} {xs ys : List ℕ} {ts us : List Token} → ((rest : List ℕ) → G rest → F (ys ++ rest)) → Reads F xs ts → Reads G ys us → Reads G (xs ++ ys) (ts ++ us)
join {F} {G} {xs} {ys} {ts} {us} follows r s = record {
  onto = λ rest more g spelled.
      subst₂ Spells (sym (append_assoc xs ys rest)) (sym (append_assoc ts us more)) (r.onto (ys ++ rest) (us ++ more) (follows rest g) (s.onto rest more g spelled));
}

pub then : {G : List ℕ → Type 0} {xs ys : List ℕ} {ts us : List Token} → Reads Anything xs ts → Reads G ys us → Reads G (xs ++ ys) (ts ++ us)
then r s = join (λ rest g. tt) r s

pub break : {G : List ℕ → Type 0} {xs ys : List ℕ} {ts us : List Token} → Reads Breaks xs ts → Reads G ys us → StartsBreak ys → Reads G (xs ++ ys) (ts ++ us)
break {ys = ys} r s starts = join (λ rest g. breaks_onto ys rest starts) r s

pub nothing : Reads Anything [] []
nothing = record { onto = λ rest more g spelled. spelled }

pub loosely : {text : List ℕ} {tokens : List Token} → Reads Anything text tokens → Reads Breaks text tokens
loosely r = record { onto = λ rest more g spelled. r.onto rest more tt spelled }

-- ---- white space and tokens

pub space : Reads Anything (codes " ") []
space = record { onto = λ rest more g spelled. white 32 rest more (inl refl) spelled }

pub line_end : Reads Anything (codes "\n") []
line_end = record { onto = λ rest more g spelled. white 10 rest more (inr (omega arith, omega arith)) spelled }

pub word_reads : (text : List ℕ) → IsIdentifier text → Reads Breaks text (Word text ∷ [])
word_reads text h = record {
  onto = λ rest more br spelled. a_token text rest (Word text) more (refl, h) (solid_longest text rest (some text h) (identifier_solid text h) br) spelled;
}
  where
    some : (text : List ℕ) → IsIdentifier text → 0 < length text
    some [] h = absurd h
    some (c ∷ cs) h = omega arith

pub number_reads : (digits : List ℕ) → IsNumber digits → Reads Breaks digits (Number digits ∷ [])
number_reads digits h = record {
  onto = λ rest more br spelled. a_token digits rest (Number digits) more (refl, h) (solid_longest digits rest h.0 (digits_solid digits h.1) br) spelled;
}

pub constant_reads : (text : List ℕ) (bits value : ℕ) → IsConstantText text bits value → Reads Breaks text (Constant bits value ∷ [])
constant_reads text bits value h = record {
  onto = λ rest more br spelled. a_token text rest (Constant bits value) more h (solid_longest text rest some (constant_solid text bits value h) br) spelled;
}
  where
    some : 0 < length text
    some = omega (arith, h.is_number.0, ap length h.split, length-append h.size (codes "'h" ++ h.digits))

-- a sign behind which no sign goes on
pub sign_reads : (s : List ℕ) → Contains signs s → begins_solid s ≡ false → IsClosed s → Reads Anything s (Sign s ∷ [])
sign_reads s c b closed = record { onto = λ rest more g spelled. a_token s rest (Sign s) more (refl, c) (closed_longest s rest b closed) spelled }

-- a sign and a space
pub spaced_sign_reads : (s : List ℕ) → Contains signs s → begins_solid s ≡ false → Reads Anything (s ++ codes " ") (Sign s ∷ [])
spaced_sign_reads s c b = record {
  onto = λ rest more g spelled.
      subst (λ text. Spells text (Sign s ∷ more)) (sym (append_assoc s (codes " ") rest))
      (a_token s (32 ∷ rest) (Sign s) more (refl, c) (spaced_longest s rest b) (white 32 rest more (inl refl) spelled));
}

-- one item after another
pub each_reads : {A : Type 0} (text : A → List ℕ) (tokens : A → List Token) (xs : List A) → All (λ x. Reads Anything (text x) (tokens x)) xs → Reads Anything (flat_map text xs) (all_tokens tokens xs)
each_reads text tokens [] h = nothing
each_reads text tokens (x ∷ xs) h =
    then (All-head (λ x. Reads Anything (text x) (tokens x)) x xs h) (each_reads text tokens xs (All-tail (λ x. Reads Anything (text x) (tokens x)) x xs h))

-- the whole text
pub spells_all : (text : List ℕ) (tokens : List Token) → Reads Anything text tokens → Spells text tokens
spells_all text tokens r = subst₂ Spells (append-nil text) (append-nil tokens) (r.onto [] [] tt over)
