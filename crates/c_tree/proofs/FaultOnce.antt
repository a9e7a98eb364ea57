-- A list of tokens has at most one fault, and none where it is a program within the limits.
use Rattle.std.proofs.Common.{◌≡◌, ℕ, suc, ◌+◌, ◌<◌, List, [], ◌∷◌, ◌++◌, length, refl, sym, subst, ap, ◌∙◌, arith, inl, inr, append_assoc, append-nil, length-append}
use Rattle.std.proofs.lemmas.Bool.{cases_order}
use Rattle.hls_base.specs.declared.place.Place.{Place}
use Rattle.hls_base.specs.declared.refusal.Refusal.{Refusal}
use Rattle.c_tree.specs.Terminals.{Terminal}
use Rattle.c_tree.specs.Tree.{ProgramTree}
use Rattle.c_tree.specs.Grammar.{DerivesItems}
use Rattle.c_tree.specs.Refusal as r
use Rattle.c_tree.specs.Refusal.{Begins, Stops, Reaches, refusal, IsBeyond, NoneBeyond, AtStop, IsFaultOf, IsProgram, FaultsOnce}

-- ---- two fronts of one list

heads : (t u : Terminal) (xs ys : List Terminal) → t ∷ xs ≡ u ∷ ys → (t ≡ u) × (xs ≡ ys)
heads t u xs ys e = let head : t ≡ u = cc in let tail : xs ≡ ys = cc in (head, tail)

-- the longer front goes on with the first token behind the shorter one
longer : (xs ys us vs : List Terminal) → xs ++ us ≡ ys ++ vs → length xs < length ys → (t : Terminal) × (rest : List Terminal) × (more : List Terminal) × (us ≡ t ∷ rest) × (ys ≡ xs ++ t ∷ more)
longer [] [] us vs e lt = absurd (omega arith)
longer [] (y ∷ ys) us vs e lt = (y, ys ++ vs, ys, e, refl)
longer (x ∷ xs) [] us vs e lt = absurd (omega arith)
longer (x ∷ xs) (y ∷ ys) us vs e lt =
    let same = heads x y (xs ++ us) (ys ++ vs) e in
    let rest = longer xs ys us vs same.1 (omega arith) in
    let head : x ≡ y = same.0 in
    let tail : ys ≡ xs ++ rest.0 ∷ rest.2 = rest.4 in
    (rest.0, rest.1, rest.2, rest.3, cc)

same_front : (xs ys us vs : List Terminal) → xs ++ us ≡ ys ++ vs → length xs ≡ length ys → (xs ≡ ys) × (us ≡ vs)
same_front [] [] us vs e long = (refl, e)
same_front [] (y ∷ ys) us vs e long = absurd (omega arith)
same_front (x ∷ xs) [] us vs e long = absurd (omega arith)
same_front (x ∷ xs) (y ∷ ys) us vs e long =
    let same = heads x y (xs ++ us) (ys ++ vs) e in
    let rest = same_front xs ys us vs same.1 (omega arith) in
    let head : x ≡ y = same.0 in
    let tail : xs ≡ ys = rest.0 in
    (cc, rest.1)

-- ---- how far some program goes

begins_earlier : (xs ys : List Terminal) → Begins (xs ++ ys) → Begins xs
begins_earlier xs ys (others, items, d) = (ys ++ others, items, subst (λ z. DerivesItems z items) (append_assoc xs ys others) d)

not_further : (tokens xs ys us vs : List Terminal) → Reaches tokens xs us → Reaches tokens ys vs → length xs < length ys → ⊥
not_further tokens xs ys us vs a b lt =
    let l = longer xs ys us vs (sym a.split ∙ b.split) lt in
    let stops : Stops xs (l.0 ∷ l.1) = subst (Stops xs) l.3 a.stops in
    let whole : ys ≡ (xs ++ l.0 ∷ []) ++ l.2 = l.4 ∙ sym (append_assoc xs (l.0 ∷ []) l.2) in
    stops (begins_earlier (xs ++ l.0 ∷ []) l.2 (subst Begins whole b.begins))

reaches_once : (tokens xs ys us vs : List Terminal) → Reaches tokens xs us → Reaches tokens ys vs → (xs ≡ ys) × (us ≡ vs)
reaches_once tokens xs ys us vs a b = elim (cases_order (length xs) (length ys)) [
  | inl same ↦ same_front xs ys us vs (sym a.split ∙ b.split) same
  | inr (inl lt) ↦ absurd (not_further tokens xs ys us vs a b lt)
  | inr (inr lt) ↦ absurd (not_further tokens ys xs vs us b a lt)
]

-- ---- the first token beyond a limit

first_beyond : (seen : List Terminal) (m n : ℕ) → IsBeyond seen m → NoneBeyond seen m → IsBeyond seen n → NoneBeyond seen n → m ≡ n
first_beyond seen m n a before_m b before_n = elim (cases_order m n) [
  | inl same ↦ same
  | inr (inl lt) ↦ absurd (before_n m lt a)
  | inr (inr lt) ↦ absurd (before_m n lt b)
]

is_within : (xs ys seen : List Terminal) (t : Terminal) → seen ≡ xs ++ t ∷ ys → length xs < length seen
is_within xs ys seen t e = let long : length seen ≡ length xs + suc (length ys) = ap length e ∙ length-append xs (t ∷ ys) in omega arith

-- ---- one fault

one_stop : (seen left : List Terminal) (end : Place) (a b : Refusal) → AtStop seen left end a → AtStop seen left end b → b ≡ a
one_stop seen [] end a b (none, e) (without, g) = g ∙ sym e
one_stop seen (t ∷ rest) end a b (inl (full, e)) (inl (too, g)) = g ∙ sym e
one_stop seen (t ∷ rest) end a b (inl (full, e)) (inr (free, g)) = absurd (free full)
one_stop seen (t ∷ rest) end a b (inr (free, e)) (inl (full, g)) = absurd (free full)
one_stop seen (t ∷ rest) end a b (inr (free, e)) (inr (too, g)) = g ∙ sym e

pub one_fault : (tokens : List Terminal) (end : Place) (a b : Refusal) → IsFaultOf tokens end a → IsFaultOf tokens end b → b ≡ a
one_fault tokens end a b (r.beyond_limit seen left xs ys t reaches split beyond none e) (r.beyond_limit others right us vs u reach cut too earlier g) =
    let same : seen ≡ others = (reaches_once tokens seen others left right reaches reach).0 in
    let long : length xs ≡ length us = first_beyond others (length xs) (length us) (subst (λ z. IsBeyond z (length xs)) same beyond) (subst (λ z. NoneBeyond z (length xs)) same none) too earlier in
    let behind : t ∷ ys ≡ u ∷ vs = (same_front xs us (t ∷ ys) (u ∷ vs) (sym split ∙ (same ∙ cut)) long).1 in
    let token : t ≡ u = (heads t u ys vs behind).0 in
    g ∙ (ap (λ (z : Terminal). refusal 32 z.at) (sym token) ∙ sym e)
one_fault tokens end a b (r.beyond_limit seen left xs ys t reaches split beyond none e) (r.at_stop others right reach earlier stop) =
    let same : seen ≡ others = (reaches_once tokens seen others left right reaches reach).0 in
    let within : length xs < length others = is_within xs ys others t (sym same ∙ split) in
    absurd (earlier (length xs) within (subst (λ z. IsBeyond z (length xs)) same beyond))
one_fault tokens end a b (r.at_stop seen left reaches none stop) (r.beyond_limit others right us vs u reach cut too earlier g) =
    let same : others ≡ seen = (reaches_once tokens others seen right left reach reaches).0 in
    let within : length us < length seen = is_within us vs seen u (sym same ∙ cut) in
    absurd (none (length us) within (subst (λ z. IsBeyond z (length us)) same too))
one_fault tokens end a b (r.at_stop seen left reaches none stop) (r.at_stop others right reach earlier halt) =
    let same = reaches_once tokens others seen right left reach reaches in
    let here : AtStop seen right end b = subst (λ z. AtStop z right end b) same.0 halt in
    one_stop seen left end a b stop (subst (λ z. AtStop seen z end b) same.1 here)

-- ---- a program has no fault

-- as far as some program goes, tokens of a program go to their end
nothing_left : (tokens seen left : List Terminal) (end : Place) (program : ProgramTree) → IsProgram tokens end program → Reaches tokens seen left → left ≡ []
nothing_left tokens seen [] end program is reaches = refl
nothing_left tokens seen (t ∷ rest) end program is reaches =
    let whole : tokens ≡ (seen ++ t ∷ []) ++ rest = reaches.split ∙ sym (append_assoc seen (t ∷ []) rest) in
    absurd (reaches.stops (rest, program.items, rw (sym whole) is.0.0))

all_seen : (tokens seen left : List Terminal) → tokens ≡ seen ++ left → left ≡ [] → seen ≡ tokens
all_seen tokens seen left split none = sym (append-nil seen) ∙ (ap (λ x. seen ++ x) (sym none) ∙ sym split)

pub no_fault : (tokens : List Terminal) (end : Place) (program : ProgramTree) (fault : Refusal) → IsProgram tokens end program → IsFaultOf tokens end fault → ⊥
no_fault tokens end program fault is (r.beyond_limit seen left before behind t reaches split beyond none e) =
    let same : seen ≡ tokens = all_seen tokens seen left reaches.split (nothing_left tokens seen left end program is reaches) in
    let long : length seen ≡ length before + suc (length behind) = ap length split ∙ length-append before (t ∷ behind) in
    let here : IsBeyond tokens (length before) = subst (λ x. IsBeyond x (length before)) same beyond in
    let below : length before < length tokens = omega (arith, ap length same) in
    is.1 (length before) below here
no_fault tokens end program fault is (r.at_stop seen left reaches none stop) =
    let empty : left ≡ [] = nothing_left tokens seen left end program is reaches in
    let same : seen ≡ tokens = all_seen tokens seen left reaches.split empty in
    let there : AtStop seen [] end fault = subst (λ x. AtStop seen x end fault) empty stop in
    let whole : AtStop tokens [] end fault = subst (λ x. AtStop x [] end fault) same there in
    whole.0 program.items is.0.0

pub faults_once : (tokens : List Terminal) (end : Place) → FaultsOnce tokens end
faults_once tokens end = record {
  one_fault = λ r q a b. one_fault tokens end r q a b;
  never_both = λ program r is faulty. no_fault tokens end program r is faulty;
}
