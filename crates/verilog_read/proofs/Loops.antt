-- Loops that go along a list, by what is left of it.
use Rattle.std.proofs.Common.{◌≡◌, ℕ, ◌≤◌, List, [], ◌∷◌, ◌++◌, length, map, drop, Option, Some, append_assoc, append-nil, refl, sym, ap, ◌∙◌}
use Rattle.std.proofs.lemmas.List.{drop_all}
use Rattle.hls_base.specs.declared.refusal.Refusal.{Refusal}
use Rattle.verilog_read.specs.Earliest.{earlier, noted}

pub noted_append : (found : Option Refusal) (xs ys : List Refusal) → noted (noted found xs) ys ≡ noted found (xs ++ ys)
noted_append found [] ys = refl
noted_append found (x ∷ xs) ys = noted_append (Some (earlier found x)) xs ys

-- the faults of an element are noted, and those behind it are left
pub noted_rest : (old new whole : Option Refusal) (all here rest : List Refusal) → all ≡ here ++ rest → new ≡ noted old here → noted old all ≡ whole → noted new rest ≡ whole
noted_rest old new whole all here rest e f g = ap (λ x. noted x rest) f ∙ (noted_append old here rest ∙ (ap (noted old) (sym e) ∙ g))

pub noted_two : (a b c : Option Refusal) (xs ys : List Refusal) → b ≡ noted a xs → c ≡ noted b ys → c ≡ noted a (xs ++ ys)
noted_two a b c xs ys e f = f ∙ (ap (λ x. noted x ys) e ∙ noted_append a xs ys)

pub noted_three : (a b c d : Option Refusal) (xs ys zs : List Refusal) → b ≡ noted a xs → c ≡ noted b ys → d ≡ noted c zs → d ≡ noted a (xs ++ (ys ++ zs))
noted_three a b c d xs ys zs e f g = g ∙ (ap (λ x. noted x zs) (noted_two a b c xs ys e f) ∙ (noted_append a (xs ++ ys) zs ∙ ap (noted a) (append_assoc xs ys zs)))

-- nothing is left
pub none_left : {A B : Type 0} (view : A → B) (xs : List A) (i : ℕ) → length xs ≤ i → map view (drop i xs) ≡ []
none_left view xs i h = ap (map view) (drop_all i xs h)

pub grown_by : {D : Type 0} (so_far new whole all rest : List D) (x : D) → all ≡ x ∷ rest → new ≡ so_far ++ x ∷ [] → so_far ++ all ≡ whole → new ++ rest ≡ whole
grown_by so_far new whole all rest x e f g = ap (λ y. y ++ rest) f ∙ (append_assoc so_far (x ∷ []) rest ∙ (ap (λ y. so_far ++ y) (sym e) ∙ g))

pub grown_all : {D : Type 0} (so_far whole rest : List D) → rest ≡ [] → so_far ++ rest ≡ whole → so_far ≡ whole
grown_all so_far whole rest e g = sym (append-nil so_far) ∙ (ap (λ y. so_far ++ y) (sym e) ∙ g)
