-- Lists of the words of types.
use Rattle.std.proofs.Common.{◌≡◌, sym, refl, ap, true, false, ◌&&◌, List, [], ◌∷◌, ◌++◌, Option, Some, None, append_assoc}
use Rattle.c_token.specs.declared.punct.Punct.{Punct}
use Rattle.c_token.specs.declared.punct.Punct.TheVariants as p
use Rattle.c_token.specs.declared.token.TokenKind.{TokenKind}
use Rattle.c_token.specs.declared.token.TokenKind.TheVariants as k
use Rattle.c_tree.specs.declared.specifier.Specifier.{Specifier}
use Rattle.c_tree.specs.Terminals.{Terminal}
use Rattle.c_tree.specs.Kinds.{same_specifier, put_back, without_one}
use Rattle.c_parser.specs.Cursor.Readings.{Lacks, is_paren}
use Rattle.c_parser.specs.Cursor.Types.{starts_kind, opens_cast}

abbrev pub prefixed : List Specifier → Option (List Specifier) → Option (List Specifier)
prefixed front None = None
prefixed front (Some back) = Some (front ++ back)

prefixed-more : (front : List Specifier) (v : Specifier) (o : Option (List Specifier)) → prefixed front (put_back v o) ≡ prefixed (front ++ v ∷ []) o
prefixed-more front v None = refl
prefixed-more front v (Some back) = ap Some (sym (append_assoc front (v ∷ []) back))

pub other_word : (w v : Specifier) (front rest : List Specifier) → same_specifier w v ≡ false → prefixed front (without_one w (v ∷ rest)) ≡ prefixed (front ++ v ∷ []) (without_one w rest)
other_word w v front rest e = rw e (prefixed-more front v (without_one w rest))

pub same_word : (w v : Specifier) (front rest : List Specifier) → same_specifier w v ≡ true → prefixed front (without_one w (v ∷ rest)) ≡ Some (front ++ rest)
same_word w v front rest e = rw e

-- ---- no parenthesis, no cast

pub no_paren : (punct : Punct) → (punct ≡ p.LeftParen → ⊥) → is_paren (k.Punct punct) ≡ false
no_paren p.LeftParen h = absurd (h refl)
no_paren _ h = refl

no_paren_kind : (kind : TokenKind) → (kind ≡ k.Punct p.LeftParen → ⊥) → is_paren kind ≡ false
no_paren_kind (k.Punct punct) h = no_paren punct (λ e. h (ap k.Punct e))
no_paren_kind (k.Word text) h = refl
no_paren_kind (k.Number value kind) h = refl
no_paren_kind (k.TypeWord kind) h = refl

pub lacks_paren : (tokens : List Terminal) → Lacks p.LeftParen tokens → opens_cast tokens ≡ false
lacks_paren [] h = refl
lacks_paren (t ∷ ts) h =
    let never : is_paren t.kind ≡ false = no_paren_kind t.kind (λ e. h t.at ts (ap (λ kind. record { kind = kind; at = t.at } ∷ ts) e)) in
    ap (λ b. b && starts_kind ts) never
