-- The least fault of a list: that of a joined list is the lesser of the two least ones.
use Rattle.std.proofs.Common.{◌≡◌, ℕ, ◌+◌, ◌<◌, Bool, true, false, List, [], ◌∷◌, ◌++◌, Option, Some, None, refl, sym, ap, ◌∙◌, arith, length, drop, get_or, nat_lt, ◌==◌, ◌&&◌, ◌||◌, if◌then◌else◌}
use Rattle.std.proofs.lemmas.List.{at_drop_more}
use Rattle.hls_base.specs.declared.refusal.Refusal.{Refusal}
use Rattle.c_meaning.specs.Checks.Faults.{is_lesser, lesser, least}

-- one step of an order by several numbers
abbrev by : ℕ → ℕ → Bool → Bool
by a b rest = nat_lt a b || ((a == b) && rest)

by-trans : (a b c : ℕ) (p q r : Bool) → (p ≡ true → q ≡ true → r ≡ true) → by a b p ≡ true → by b c q ≡ true → by a c r ≡ true
by-trans a b c p q r h e f = grind arith

by-trans-not : (a b c : ℕ) (p q r : Bool) → (p ≡ false → q ≡ false → r ≡ false) → by a b p ≡ false → by b c q ≡ false → by a c r ≡ false
by-trans-not a b c p q r h e f = grind arith

last-trans : (a b c : ℕ) → nat_lt a b ≡ true → nat_lt b c ≡ true → nat_lt a c ≡ true
last-trans a b c e f = grind arith

last-trans-not : (a b c : ℕ) → nat_lt a b ≡ false → nat_lt b c ≡ false → nat_lt a c ≡ false
last-trans-not a b c e f = grind arith

pub less-trans : (r s t : Refusal) → is_lesser r s ≡ true → is_lesser s t ≡ true → is_lesser r t ≡ true
less-trans r s t = by-trans r.place.line s.place.line t.place.line _ _ _
    (by-trans r.place.column s.place.column t.place.column _ _ _
    (by-trans r.place.part s.place.part t.place.part _ _ _
    (last-trans r.rule s.rule t.rule)))

pub less-trans-not : (r s t : Refusal) → is_lesser r s ≡ false → is_lesser s t ≡ false → is_lesser r t ≡ false
less-trans-not r s t = by-trans-not r.place.line s.place.line t.place.line _ _ _
    (by-trans-not r.place.column s.place.column t.place.column _ _ _
    (by-trans-not r.place.part s.place.part t.place.part _ _ _
    (last-trans-not r.rule s.rule t.rule)))

-- ---- the lesser of several

pub lesser_none : (r : Option Refusal) → lesser r None ≡ r
lesser_none None = refl
lesser_none (Some r) = refl

-- by which of s < r, t < s and t < r hold
abbrev pick : Bool → Refusal → Refusal → Option Refusal
pick b r s = if b then Some s else Some r

lesser-three : (r s t : Refusal) (b c d : Bool) → is_lesser s r ≡ b → is_lesser t s ≡ c → is_lesser t r ≡ d → lesser (pick b r s) (Some t) ≡ lesser (Some r) (pick c s t)
lesser-three r s t true true d p q e = rw q (rw (less-trans t s r q p) refl)
lesser-three r s t true false d p q e = rw q (rw p refl)
lesser-three r s t false true d p q e = refl
lesser-three r s t false false d p q e = rw p (rw (less-trans-not t s r q p) refl)

pub lesser_assoc : (r s t : Option Refusal) → lesser (lesser r s) t ≡ lesser r (lesser s t)
lesser_assoc None s t = refl
lesser_assoc (Some r) None t = refl
lesser_assoc (Some r) (Some s) None = lesser_none (lesser (Some r) (Some s))
lesser_assoc (Some r) (Some s) (Some t) = lesser-three r s t (is_lesser s r) (is_lesser t s) (is_lesser t r) refl refl refl

pub least_append : (xs ys : List Refusal) → least (xs ++ ys) ≡ lesser (least xs) (least ys)
least_append [] ys = refl
least_append (x ∷ xs) ys = ap (lesser (Some x)) (least_append xs ys) ∙ sym (lesser_assoc (Some x) (least xs) (least ys))

-- a loop's step: the least fault so far, and that of what is looked at now
pub lesser_step : (worst : Option Refusal) (here rest : List Refusal) → lesser (lesser worst (least here)) (least rest) ≡ lesser worst (least (here ++ rest))
lesser_step worst here rest = lesser_assoc worst (least here) (least rest) ∙ ap (lesser worst) (sym (least_append here rest))

-- the same over a list, at an index
pub least_more : {A : Type 0} (F : List A → List Refusal) (xs : List A) (i : ℕ) (x : A) (here rest : List Refusal) (worst total after found : Option Refusal) →
    i < length xs → x ≡ get_or xs i x → F (x ∷ drop (i + 1) xs) ≡ here ++ rest → found ≡ least here → after ≡ lesser worst found →
    lesser worst (least (F (drop i xs))) ≡ total → lesser after (least rest) ≡ total
least_more F xs i x here rest worst total after found lt is more f w invariant =
    ap (λ r. lesser r (least rest)) (w ∙ ap (lesser worst) f)
    ∙ lesser_step worst here rest
    ∙ ap (λ r. lesser worst (least r)) (sym more ∙ ap (λ y. F (y ∷ drop (i + 1) xs)) is ∙ sym (at_drop_more F xs i x lt))
    ∙ invariant

-- the same where the rest is what F makes of it
pub least_loop : {A : Type 0} (F : List A → List Refusal) (xs : List A) (i : ℕ) (x : A) (here : List Refusal) (worst total after found : Option Refusal) →
    i < length xs → x ≡ get_or xs i x → F (x ∷ drop (i + 1) xs) ≡ here ++ F (drop (i + 1) xs) → found ≡ least here → after ≡ lesser worst found →
    lesser worst (least (F (drop i xs))) ≡ total → lesser after (least (F (drop (i + 1) xs))) ≡ total
least_loop F xs i x here = least_more F xs i x here (F (drop (i + 1) xs))

pub join : (xs ys : List Refusal) (w r s : Option Refusal) → r ≡ least xs → s ≡ least ys → w ≡ lesser r s → w ≡ least (xs ++ ys)
join xs ys w r s e f g = g ∙ ap (λ o. lesser o s) e ∙ ap (lesser (least xs)) f ∙ sym (least_append xs ys)

-- the same where a state goes on from element to element
pub least_thread : {A S : Type 0} (F : S → List A → List Refusal) (H : S → A → List Refusal) (N : S → A → S) → ((s : S) (x : A) (xs : List A) → F s (x ∷ xs) ≡ H s x ++ F (N s x) xs) →
    (xs : List A) (i : ℕ) (x : A) (s t : S) (worst total after found : Option Refusal) → i < length xs → x ≡ get_or xs i x → found ≡ least (H s x) → t ≡ N s x → after ≡ lesser worst found →
    lesser worst (least (F s (drop i xs))) ≡ total → lesser after (least (F t (drop (i + 1) xs))) ≡ total
least_thread F H N law xs i x s t worst total after found lt is f n w invariant =
    ap (λ u. lesser after (least (F u (drop (i + 1) xs)))) n
    ∙ least_more (F s) xs i x (H s x) (F (N s x) (drop (i + 1) xs)) worst total after found lt is (law s x (drop (i + 1) xs)) f w invariant

pub state_thread : {A S T : Type 0} (G : S → List A → T) (N : S → A → S) → ((s : S) (x : A) (xs : List A) → G s (x ∷ xs) ≡ G (N s x) xs) →
    (xs : List A) (i : ℕ) (x : A) (s t : S) (total : T) → i < length xs → x ≡ get_or xs i x → t ≡ N s x → G s (drop i xs) ≡ total → G t (drop (i + 1) xs) ≡ total
state_thread G N law xs i x s t total lt is n invariant =
    ap (λ u. G u (drop (i + 1) xs)) n ∙ sym (law s x (drop (i + 1) xs)) ∙ ap (λ y. G s (y ∷ drop (i + 1) xs)) is ∙ sym (at_drop_more (G s) xs i x lt) ∙ invariant
