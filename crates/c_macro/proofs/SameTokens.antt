-- Tests that two tokens are the same.
use Rattle.std.proofs.Common.{◌≡◌, ◌∙◌, sym, refl, ap, rules, ℕ, ◌+◌, ◌<◌, ◌≢◌, Bool, true, false, List, [], ◌∷◌, length, drop, get_or, drop-cons, add-one, eq-eqb, inl, inr, arith}
use Rattle.std.proofs.lemmas.Bool.Decides.{eqb_tells}
use Rattle.std.specs.Prelude.{bytes_eq, ◌&&◌, ◌==◌}
use Rattle.std.proofs.lemmas.Slice.Eq.{bytes_eq-Decides}
use Rattle.std.proofs.lemmas.Bool.{both_ways, false_from_ne_true, and_parts}
use denote.Enum.Bare.{sameb, same_true, true_same}
use Rattle.c_token.specs.contracts.punct.Punct.{the_type}
use Rattle.c_token.specs.declared.ctype.CType.{CType}
use Rattle.c_token.specs.declared.ctype.CType.TheVariants as t
use Rattle.c_token.specs.declared.punct.Punct.{Punct}
use Rattle.c_token.specs.declared.token.Token.{Token}
use Rattle.c_token.specs.declared.token.TokenKind.{TokenKind}
use Rattle.c_token.specs.declared.token.TokenKind.TheVariants as k
use Rattle.c_token.specs.Spelling.{spelling}
use Rattle.c_token.specs.Replacement.{same_type, same_kind, same_kinds}
use Rattle.c_token.proofs.Signs.{spelling_unique}

pub same_sign : (a b : Punct) → sameb the_type a b ≡ bytes_eq (spelling a) (spelling b)
same_sign a b = go (sameb the_type a b) refl
  where
    go : (same : Bool) → sameb the_type a b ≡ same → same ≡ bytes_eq (spelling a) (spelling b)
    go true e = sym ((bytes_eq-Decides (spelling a) (spelling b)).1 (ap spelling (same_true the_type (search rules) a b e)))
    go false e =
        sym (false_from_ne_true _ (λ h. both_ways (sameb the_type a b) e
        (true_same the_type a b (spelling_unique a b ((bytes_eq-Decides (spelling a) (spelling b)).0 h)))))

tested : (a b : ℕ) → (a == b) ≡ true → a ≡ b
tested a b e = elim (eqb_tells a b) [ inl h ↦ h.1 | inr h ↦ absurd (both_ways (a == b) h.0 e) ]

same_types : (a b : CType) → (same_type a b ≡ true → a ≡ b) × (a ≡ b → same_type a b ≡ true)
same_types t.Bool t.Bool = (λ e. refl, λ e. refl)
same_types t.Bool (t.Int signed bits) = (λ e. absurd cc, λ e. absurd cc)
same_types (t.Int true bits) t.Bool = (λ e. absurd cc, λ e. absurd cc)
same_types (t.Int false bits) t.Bool = (λ e. absurd cc, λ e. absurd cc)
same_types (t.Int true bits) (t.Int true others) = (λ e. ap (t.Int true) (tested bits others e), λ e. eq-eqb bits others (let h : bits ≡ others = cc in h))
same_types (t.Int true bits) (t.Int false others) = (λ e. absurd cc, λ e. absurd cc)
same_types (t.Int false bits) (t.Int true others) = (λ e. absurd cc, λ e. absurd cc)
same_types (t.Int false bits) (t.Int false others) = (λ e. ap (t.Int false) (tested bits others e), λ e. eq-eqb bits others (let h : bits ≡ others = cc in h))

pub same_kind_is : (a b : TokenKind) → (same_kind a b ≡ true → a ≡ b) × (a ≡ b → same_kind a b ≡ true)
same_kind_is (k.Word a) (k.Word b) = (λ e. ap k.Word ((bytes_eq-Decides a b).0 e), λ e. (bytes_eq-Decides a b).1 (let h : a ≡ b = cc in h))
same_kind_is (k.Number v kind) (k.Number w other) = (
  λ e. (let both = and_parts (v == w) (same_type kind other) e in ap (λ x. k.Number x kind) (tested v w both.0) ∙ ap (k.Number w) ((same_types kind other).0 both.1)),
  λ e. (let values : v ≡ w = cc in let kinds : kind ≡ other = cc in rw (eq-eqb v w values) ((same_types kind other).1 kinds)),
)
same_kind_is (k.Punct a) (k.Punct b) = (
  λ e. ap k.Punct (spelling_unique a b ((bytes_eq-Decides (spelling a) (spelling b)).0 e)),
  λ e. (bytes_eq-Decides (spelling a) (spelling b)).1 (let h : a ≡ b = cc in ap spelling h),
)
same_kind_is (k.TypeWord kind) (k.TypeWord other) = (λ e. ap k.TypeWord ((same_types kind other).0 e), λ e. (same_types kind other).1 (let h : kind ≡ other = cc in h))
same_kind_is (k.Word a) (k.Number w other) = (λ e. absurd cc, λ e. absurd cc)
same_kind_is (k.Word a) (k.Punct b) = (λ e. absurd cc, λ e. absurd cc)
same_kind_is (k.Word a) (k.TypeWord b) = (λ e. absurd cc, λ e. absurd cc)
same_kind_is (k.Number v kind) (k.Word b) = (λ e. absurd cc, λ e. absurd cc)
same_kind_is (k.Number v kind) (k.Punct b) = (λ e. absurd cc, λ e. absurd cc)
same_kind_is (k.Number v kind) (k.TypeWord b) = (λ e. absurd cc, λ e. absurd cc)
same_kind_is (k.Punct a) (k.Word b) = (λ e. absurd cc, λ e. absurd cc)
same_kind_is (k.Punct a) (k.Number w other) = (λ e. absurd cc, λ e. absurd cc)
same_kind_is (k.Punct a) (k.TypeWord b) = (λ e. absurd cc, λ e. absurd cc)
same_kind_is (k.TypeWord a) (k.Word b) = (λ e. absurd cc, λ e. absurd cc)
same_kind_is (k.TypeWord a) (k.Number w other) = (λ e. absurd cc, λ e. absurd cc)
same_kind_is (k.TypeWord a) (k.Punct b) = (λ e. absurd cc, λ e. absurd cc)

pub lengths_differ : (xs ys : List Token) → length xs ≢ length ys → same_kinds xs ys ≡ false
lengths_differ [] [] h = absurd (h refl)
lengths_differ [] (y ∷ ys) h = refl
lengths_differ (x ∷ xs) [] h = refl
lengths_differ (x ∷ xs) (y ∷ ys) h = let rest = lengths_differ xs ys (λ e. h (omega arith)) in grind (arith, rest)

pub same_kinds_at : (xs ys : List Token) (i : ℕ) (d e : Token) → i < length xs → i < length ys
    → same_kinds (drop i xs) (drop i ys) ≡ (same_kind (get_or xs i d).kind (get_or ys i e).kind && same_kinds (drop (i + 1) xs) (drop (i + 1) ys))
same_kinds_at xs ys i d e l m = rw (drop-cons xs i d, drop-cons ys i e, add-one) refl

abbrev pub TellsSame : Bool → TokenKind → TokenKind → Type 0
TellsSame same a b = (same ≡ true → a ≡ b) × (a ≡ b → same ≡ true)

tested_at : (xs ys : List Token) (i : ℕ) (d e : Token) (same : Bool) → d ≡ get_or xs i d → TellsSame same d.kind (get_or ys i e).kind → same_kind (get_or xs i d).kind (get_or ys i e).kind ≡ same
tested_at xs ys i d e same is tells = ap (λ t. same_kind t.kind (get_or ys i e).kind) (sym is) ∙ go same tells
  where
    go : (b : Bool) → TellsSame b d.kind (get_or ys i e).kind → same_kind d.kind (get_or ys i e).kind ≡ b
    go true tell = (same_kind_is d.kind (get_or ys i e).kind).1 (tell.0 refl)
    go false tell = false_from_ne_true _ (λ h. both_ways false refl (tell.1 ((same_kind_is d.kind (get_or ys i e).kind).0 h)))

pub agree_at : (xs ys : List Token) (i : ℕ) (d e : Token) (same : Bool) → i < length xs → length xs ≡ length ys → d ≡ get_or xs i d → TellsSame same d.kind (get_or ys i e).kind
    → same_kinds xs ys ≡ same_kinds (drop i xs) (drop i ys) → same_kinds xs ys ≡ (same && same_kinds (drop (i + 1) xs) (drop (i + 1) ys))
agree_at xs ys i d e same l m is tells so_far =
    so_far ∙ (same_kinds_at xs ys i d e l (omega arith) ∙ ap (λ b. b && same_kinds (drop (i + 1) xs) (drop (i + 1) ys)) (tested_at xs ys i d e same is tells))
