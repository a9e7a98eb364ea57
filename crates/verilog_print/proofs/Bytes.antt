-- Which bytes tokens are made of, and that no token goes on over a byte that is not of its kind.
use Rattle.std.proofs.Common.{◌≡◌, ◌⊎◌, inl, inr, ℕ, ◌<◌, ◌∙◌, sym, refl, ap, subst, Bool, true, false, ◌&&◌, ◌||◌, List, [], ◌∷◌, ◌++◌, length, arith}
use Rattle.std.specs.Prelude.{codes, nat_le, ◌==◌, not}
use Rattle.std.specs.List.{All, Contains, list_all}
use Rattle.std.proofs.lemmas.List.Folds.{list_all_at}
use Rattle.std.proofs.lemmas.List.Elements.{All-append, All-cons, All-head, All-tail, All-weaker}
use Rattle.std.proofs.lemmas.Bool.{both_ways}
use Rattle.rtl_core.specs.Valid.{IsLetter, IsDigit, IsIdentifier}
use Rattle.rtl_core.specs.ModuleTokens.{Token, Word, Number, Constant, Sign, signs, IsHexDigit, IsToken, IsConstantText, IsLongest}

-- letters, digits, `_` and the quote
abbrev pub is_solid : ℕ → Bool
is_solid c = (c == 39) || ((nat_le 48 c && nat_le c 57) || ((nat_le 65 c && nat_le c 90) || ((nat_le 97 c && nat_le c 122) || (c == 95))))

abbrev pub IsSolid : ℕ → Type 0
IsSolid c = is_solid c ≡ true

pub IsSolid-digit : (c : ℕ) → IsDigit c → IsSolid c
IsSolid-digit c h = grind arith

pub IsSolid-letter : (c : ℕ) → IsLetter c → IsSolid c
IsSolid-letter c (inl h) = grind arith
IsSolid-letter c (inr (inl h)) = grind arith
IsSolid-letter c (inr (inr h)) = grind arith

pub IsSolid-hex : (c : ℕ) → IsHexDigit c → IsSolid c
IsSolid-hex c (inl h) = IsSolid-digit c h
IsSolid-hex c (inr (inl h)) = IsSolid-letter c (inl (h.0, omega arith))
IsSolid-hex c (inr (inr h)) = IsSolid-letter c (inr (inl (h.0, omega arith)))

pub solid-word : (c : ℕ) → IsLetter c ⊎ IsDigit c → IsSolid c
solid-word c (inl h) = IsSolid-letter c h
solid-word c (inr h) = IsSolid-digit c h

-- an element in the middle
pub All-middle : {X : Type 0} (P : X → Type 0) (xs : List X) (y : X) (ys : List X) → All P (xs ++ y ∷ ys) → P y
All-middle P [] y ys h = All-head P y ys h
All-middle P (x ∷ xs) y ys h = All-middle P xs y ys (All-tail P x (xs ++ y ∷ ys) h)

pub contained_passes : {X : Type 0} (p : X → Bool) (xs : List X) (x : X) → Contains xs x → list_all p xs ≡ true → p x ≡ false → ⊥
contained_passes p xs x c all fails = both_ways (list_all p xs) (list_all_at p xs c.0 x c.1 (ap p c.2 ∙ fails)) all

-- ---- the bytes of tokens

-- whether the first byte is solid
abbrev pub begins_solid : List ℕ → Bool
begins_solid [] = true
begins_solid (c ∷ cs) = is_solid c

pub identifier_solid : (text : List ℕ) → IsIdentifier text → All IsSolid text
identifier_solid [] h = absurd h
identifier_solid (c ∷ cs) h = All-cons IsSolid c cs (IsSolid-letter c h.0) (All-weaker (λ c. IsLetter c ⊎ IsDigit c) IsSolid solid-word cs h.1)

pub digits_solid : (text : List ℕ) → All IsDigit text → All IsSolid text
digits_solid text h = All-weaker IsDigit IsSolid IsSolid-digit text h

pub constant_solid : (text : List ℕ) (bits value : ℕ) → IsConstantText text bits value → All IsSolid text
constant_solid text bits value h =
    subst (All IsSolid) (sym h.split)
    (All-append IsSolid h.size (codes "'h" ++ h.digits) (digits_solid h.size h.is_number.1)
    (All-cons IsSolid 39 (104 ∷ h.digits) refl (All-cons IsSolid 104 h.digits refl (All-weaker IsHexDigit IsSolid IsSolid-hex h.digits h.hex))))

-- a token is a sign or has solid bytes alone
pub token_bytes : (text : List ℕ) (t : Token) → IsToken text t → All IsSolid text ⊎ Contains signs text
token_bytes text (Word w) h = inl (subst (All IsSolid) (sym h.0) (identifier_solid w h.1))
token_bytes text (Number ds) h = inl (subst (All IsSolid) (sym h.0) (digits_solid ds h.1.1))
token_bytes text (Constant bits value) h = inl (constant_solid text bits value h)
token_bytes text (Sign s) h = inr (subst (Contains signs) (sym h.0) h.1)

-- ---- the longest token

-- what comes next is no solid byte
abbrev pub Breaks : List ℕ → Type 0
Breaks [] = Unit {0}
Breaks (c ∷ cs) = is_solid c ≡ false

next_is : (rest : List ℕ) (m : ℕ) (ms : List ℕ) → rest ≡ m ∷ ms → Breaks rest → is_solid m ≡ false
next_is rest m ms e h = subst Breaks e h

pub solid_longest : (text rest : List ℕ) → 0 < length text → All IsSolid text → Breaks rest → IsLongest text rest
solid_longest [] rest some all br more after longer e t = absurd (omega arith)
solid_longest (c ∷ cs) rest some all br [] after longer e t = refl
solid_longest (c ∷ cs) rest some all br (m ∷ ms) after longer e t =
    absurd (elim (token_bytes (c ∷ cs ++ m ∷ ms) longer t) [
      | inl every ↦ both_ways (is_solid m) (next_is rest m (ms ++ after) e br) (All-middle IsSolid (c ∷ cs) m ms every)
      | inr is_sign ↦ contained_passes (λ s. not (begins_solid s)) signs (c ∷ cs ++ m ∷ ms) is_sign refl (ap not (All-head IsSolid c cs all))
    ])

-- whether the second text goes on behind the first one
abbrev pub goes_on : List ℕ → List ℕ → Bool
goes_on [] [] = false
goes_on [] (y ∷ ys) = true
goes_on (x ∷ xs) [] = false
goes_on (x ∷ xs) (y ∷ ys) = (x == y) && goes_on xs ys

eqb_self : (x : ℕ) → (x == x) ≡ true
eqb_self x = grind arith

goes_on_more : (xs : List ℕ) (m : ℕ) (ms : List ℕ) → goes_on xs (xs ++ m ∷ ms) ≡ true
goes_on_more [] m ms = refl
goes_on_more (x ∷ xs) m ms = ap (λ b. b && goes_on xs (xs ++ m ∷ ms)) (eqb_self x) ∙ goes_on_more xs m ms

-- no sign goes on behind this one
abbrev pub IsClosed : List ℕ → Type 0
IsClosed s = list_all (λ u. not (goes_on s u)) signs ≡ true

sign_solid : (s more : List ℕ) → begins_solid s ≡ false → All IsSolid (s ++ more) → ⊥
sign_solid [] more b all = both_ways true b refl
sign_solid (c ∷ cs) more b all = both_ways (is_solid c) b (All-head IsSolid c (cs ++ more) all)

pub closed_longest : (s rest : List ℕ) → begins_solid s ≡ false → IsClosed s → IsLongest s rest
closed_longest s rest b closed [] after longer e t = refl
closed_longest s rest b closed (m ∷ ms) after longer e t =
    absurd (elim (token_bytes (s ++ m ∷ ms) longer t) [
      | inl every ↦ sign_solid s (m ∷ ms) b every
      | inr is_sign ↦ contained_passes (λ u. not (goes_on s u)) signs (s ++ m ∷ ms) is_sign closed (ap not (goes_on_more s m ms))
    ])

-- no sign has a space
abbrev has_no_space : List ℕ → Bool
has_no_space = list_all (λ c. not (c == 32))

space_found : (s more : List ℕ) → has_no_space (s ++ 32 ∷ more) ≡ false
space_found [] more = refl
space_found (c ∷ cs) more = grind (arith, space_found cs more)

pub spaced_longest : (s rest : List ℕ) → begins_solid s ≡ false → IsLongest s (32 ∷ rest)
spaced_longest s rest b [] after longer e t = refl
spaced_longest s rest b (m ∷ ms) after longer e t =
    let is_space : 32 ≡ m = cc in
    absurd (elim (token_bytes (s ++ m ∷ ms) longer t) [
      | inl every ↦ sign_solid s (m ∷ ms) b every
      | inr is_sign ↦ contained_passes has_no_space signs (s ++ m ∷ ms) is_sign refl (subst (λ x. has_no_space (s ++ x ∷ ms) ≡ false) is_space (space_found s ms))
    ])
