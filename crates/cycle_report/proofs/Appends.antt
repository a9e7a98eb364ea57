-- One text after another, written behind what stands there already.
use Rattle.std.proofs.Common.{◌≡◌, ℕ, ◌+◌, ◌<◌, ◌≤◌, List, [], ◌∷◌, ◌++◌, map, take, length, get_or, sym, ap, ◌∙◌, refl, subst, append_assoc}
use Rattle.std.specs.List.{All}
use Rattle.std.proofs.lemmas.List.Elements.{All-push}
use Rattle.std.proofs.lemmas.List.{take_more, take_all, map-append}
use Rattle.cycle_report.specs.ReportText.{lines_of}

pub then_text : (x y z : List ℕ) (u v : List ℕ) → y ≡ x ++ u → z ≡ y ++ v → z ≡ x ++ (u ++ v)
then_text x y z u v e f = f ∙ (ap (λ w. w ++ v) e ∙ append_assoc x u v)

pub then_number : (x y z : List ℕ) (words u v : List ℕ) → y ≡ x ++ (words ++ u) → z ≡ y ++ v → z ≡ x ++ (words ++ (u ++ v))
then_number x y z words u v e f = then_text x y z (words ++ u) v e f ∙ ap (λ w. x ++ w) (append_assoc words u v)

-- ++ [] on the right
pub append_none : {A : Type 0} (xs : List A) → xs ++ [] ≡ xs
append_none [] = refl
append_none (x ∷ xs) = ap (λ ys. x ∷ ys) (append_none xs)

pub lines_of-append : {A : Type 0} (text : A → List ℕ) (xs ys : List A) → lines_of text (xs ++ ys) ≡ lines_of text xs ++ lines_of text ys
lines_of-append text [] ys = refl
lines_of-append text (x ∷ xs) ys = ap (λ zs. text x ++ zs) (lines_of-append text xs ys) ∙ sym (append_assoc (text x) (lines_of text xs) (lines_of text ys))

pub lines_of-push : {A : Type 0} (text : A → List ℕ) (xs : List A) (x : A) → lines_of text (xs ++ (x ∷ [])) ≡ lines_of text xs ++ text x
lines_of-push text xs x = lines_of-append text xs (x ∷ []) ∙ ap (λ zs. lines_of text xs ++ zs) (append_none (text x))

-- one more row
pub more_lines_at : {A : Type 0} (text : A → List ℕ) (rows : List A) (i : ℕ) (d : A) (x y z : List ℕ) →
    i < length rows → y ≡ x ++ lines_of text (take i rows) → z ≡ y ++ text (get_or rows i d) → z ≡ x ++ lines_of text (take (i + 1) rows)
more_lines_at {A} text rows i d x y z h e f =
    let row : A = get_or rows i d in
    let taken : take (i + 1) rows ≡ take i rows ++ (row ∷ []) = take_more rows i d h in
    then_text x y z _ _ e f ∙ ap (λ w. x ++ w) (sym (ap (lines_of text) taken ∙ lines_of-push text (take i rows) row))

pub more_lines : {A : Type 0} (text : A → List ℕ) (rows : List A) (row : A) (i : ℕ) (x y z : List ℕ) →
    i < length rows → row ≡ get_or rows i row → y ≡ x ++ lines_of text (take i rows) → z ≡ y ++ text row → z ≡ x ++ lines_of text (take (i + 1) rows)
more_lines {A} text rows row i x y z h is e f = more_lines_at text rows i row x y z h e (f ∙ ap (λ r. y ++ text r) is)

pub all_lines : {A : Type 0} (text : A → List ℕ) (rows : List A) (i : ℕ) (x y : List ℕ) → length rows ≤ i → y ≡ x ++ lines_of text (take i rows) → y ≡ x ++ lines_of text rows
all_lines text rows i x y h e = e ∙ ap (λ r. x ++ lines_of text r) (take_all i rows h)

pub more_mapped : {A B : Type 0} (f : A → B) (text : B → List ℕ) (rows : List A) (row : A) (i : ℕ) (x y z : List ℕ) →
    i < length rows → row ≡ get_or rows i row → y ≡ x ++ lines_of text (map f (take i rows)) → z ≡ y ++ text (f row) → z ≡ x ++ lines_of text (map f (take (i + 1) rows))
more_mapped {A} f text rows row i x y z h is e g =
    let taken : take (i + 1) rows ≡ take i rows ++ (row ∷ []) = take_more rows i row h ∙ ap (λ r. take i rows ++ (r ∷ [])) (sym is) in
    then_text x y z _ _ e g ∙ ap (λ w. x ++ w) (sym (ap (λ r. lines_of text (map f r)) taken ∙ (ap (lines_of text) (map-append f (take i rows) (row ∷ [])) ∙ lines_of-push text (map f (take i rows)) (f row))))

pub printed : (h i r l u m w d e last : List ℕ) → last ≡ w ++ (d ++ e) → (o x1 x2 x3 x4 x5 x6 y z t : List ℕ) →
    o ≡ [] → x1 ≡ o ++ h → x2 ≡ x1 ++ i → x3 ≡ x2 ++ r → x4 ≡ x3 ++ l → x5 ≡ x4 ++ u → x6 ≡ x5 ++ m → y ≡ x6 ++ (w ++ d) → z ≡ y ++ e → t ≡ z →
    t ≡ h ++ (i ++ (r ++ (l ++ (u ++ (m ++ last)))))
printed h i r l u m w d e last flat o x1 x2 x3 x4 x5 x6 y z t none e1 e2 e3 e4 e5 e6 e7 e8 e9 =
    let all : z ≡ o ++ (h ++ (i ++ (r ++ (l ++ (u ++ (m ++ (w ++ (d ++ e)))))))) =
    then_text o x1 z h _ e1 (then_text x1 x2 z i _ e2 (then_text x2 x3 z r _ e3 (then_text x3 x4 z l _ e4 (then_text x4 x5 z u _ e5 (then_text x5 x6 z m _ e6 (then_number x6 y z w d e e7 e8)))))) in
    e9 ∙ (all ∙ (ap (λ v. v ++ (h ++ (i ++ (r ++ (l ++ (u ++ (m ++ (w ++ (d ++ e))))))))) none ∙ ap (λ v. h ++ (i ++ (r ++ (l ++ (u ++ (m ++ v)))))) (sym flat)))

pub mapped_more : {A B : Type 0} (P : B → Type 0) (f : A → B) (rows : List A) (row : A) (i : ℕ) → i < length rows → row ≡ get_or rows i row →
    All P (map f (take i rows)) → P (f row) → All P (map f (take (i + 1) rows))
mapped_more {A} P f rows row i h is all here =
    let taken : take (i + 1) rows ≡ take i rows ++ (row ∷ []) = take_more rows i row h ∙ ap (λ r. take i rows ++ (r ∷ [])) (sym is) in
    subst (All P) (sym (ap (map f) taken ∙ map-append f (take i rows) (row ∷ []))) (All-push P (map f (take i rows)) (f row) all here)
