-- Ranks in a graph without rounds.
use Rattle.std.proofs.Common.{◌≡◌, ℕ, zero, suc, ◌<◌, ◌≤◌, ◌==◌, ◌&&◌, ◌||◌, ◌⊎◌, inl, inr, ◌∙◌, sym, refl, ap, subst, Bool, true, false, true≢false, List, [], ◌∷◌, arith}
use Rattle.std.specs.List.{list_any}
use Rattle.std.proofs.lemmas.Bool.{eqb-true, eq-eqb, cases_Bool}
use Rattle.c_meaning.specs.Checks.Recursion.{reaches}
use Rattle.expanded_programs.proofs.ElaboratedPrograms.Counts.{count, count_low, Implies, count_less, search}

-- an edge from one node to another
abbrev pub IsEdge : List (ℕ × ℕ) → ℕ → ℕ → Type 0
IsEdge [] a b = ⊥
IsEdge (l ∷ ls) a b = ((l.0 ≡ a) × (l.1 ≡ b)) ⊎ IsEdge ls a b

or_cases : (a b : Bool) → (a || b) ≡ true → (a ≡ true) ⊎ (b ≡ true)
or_cases true b h = inl refl
or_cases false b h = inr h

or_right : (a b : Bool) → b ≡ true → (a || b) ≡ true
or_right true b h = refl
or_right false b h = h

or_left : (a b : Bool) → a ≡ true → (a || b) ≡ true
or_left a b h = ap (λ z. z || b) h

and_both : (a b : Bool) → a ≡ true → b ≡ true → (a && b) ≡ true
and_both a b h g = ap (λ z. z && b) h ∙ g

and_first : (a b : Bool) → (a && b) ≡ true → (a ≡ true) × (b ≡ true)
and_first true b h = (refl, h)
and_first false b h = absurd (true≢false (sym h))

-- an edge to a node that passes a test
some_edge : (q : ℕ → Bool) (ls : List (ℕ × ℕ)) (a : ℕ) → list_any (λ l. (l.0 == a) && q l.1) ls ≡ true → (b : ℕ) × IsEdge ls a b × (q b ≡ true)
some_edge q [] a h = absurd (true≢false (sym h))
some_edge q (l ∷ ls) a h = elim (or_cases ((l.0 == a) && q l.1) (list_any (λ l. (l.0 == a) && q l.1) ls) h) [
  | inl e ↦ let both = and_first (l.0 == a) (q l.1) e in (l.1, inl (eqb-true l.0 a both.0, refl), both.1)
  | inr e ↦ let rest = some_edge q ls a e in (rest.0, inr rest.1, rest.2)
]

edge_some : (q : ℕ → Bool) (ls : List (ℕ × ℕ)) (a b : ℕ) → IsEdge ls a b → q b ≡ true → list_any (λ l. (l.0 == a) && q l.1) ls ≡ true
edge_some q [] a b h e = absurd h
edge_some q (l ∷ ls) a b h e = elim h [
  | inl same ↦ or_left ((l.0 == a) && q l.1) (list_any (λ l. (l.0 == a) && q l.1) ls) (and_both (l.0 == a) (q l.1) (eq-eqb l.0 a same.0) (subst (λ z. q z ≡ true) (sym same.1) e))
  | inr rest ↦ or_right ((l.0 == a) && q l.1) (list_any (λ l. (l.0 == a) && q l.1) ls) (edge_some q ls a b rest e)
]

-- ---- paths

-- by at most so many edges
abbrev pub Comes : List (ℕ × ℕ) → ℕ → ℕ → ℕ → Type 0
Comes ls k a b = reaches ls k a b ≡ true

pub comes_here : (ls : List (ℕ × ℕ)) (k a : ℕ) → Comes ls k a a
comes_here ls zero a = eq-eqb a a refl
comes_here ls (suc k) a = or_left (a == a) _ (eq-eqb a a refl)

pub comes_by : (ls : List (ℕ × ℕ)) (k a b c : ℕ) → IsEdge ls a b → Comes ls k b c → Comes ls (suc k) a c
comes_by ls k a b c edge h = or_right (a == c) _ (edge_some (λ z. reaches ls k z c) ls a b edge h)

pub comes_cases : (ls : List (ℕ × ℕ)) (k a c : ℕ) → Comes ls (suc k) a c → (a ≡ c) ⊎ ((b : ℕ) × IsEdge ls a b × Comes ls k b c)
comes_cases ls k a c h = elim (or_cases (a == c) (list_any (λ l. (l.0 == a) && reaches ls k l.1 c) ls) h) [
  | inl e ↦ inl (eqb-true a c e)
  | inr e ↦ inr (some_edge (λ z. reaches ls k z c) ls a e)
]

comes_at : (ls : List (ℕ × ℕ)) (k a c : ℕ) → a ≡ c → Comes ls k a c
comes_at ls k a c e = subst (λ z. Comes ls k a z) e (comes_here ls k a)

comes_more : (ls : List (ℕ × ℕ)) (k a c : ℕ) → Comes ls k a c → Comes ls (suc k) a c
comes_more ls zero a c h = comes_at ls (suc zero) a c (eqb-true a c h)
comes_more ls (suc k) a c h = elim (comes_cases ls k a c h) [
  | inl e ↦ comes_at ls (suc (suc k)) a c e
  | inr r ↦ comes_by ls (suc k) a r.0 c r.1 (comes_more ls k r.0 c r.2)
]

-- paths are kept where edges are
pub comes_mapped : (ls ms : List (ℕ × ℕ)) (f : ℕ → ℕ) → ((a b : ℕ) → IsEdge ls a b → IsEdge ms (f a) (f b)) → (k a c : ℕ) → Comes ls k a c → Comes ms k (f a) (f c)
comes_mapped ls ms f keeps zero a c h = comes_at ms zero (f a) (f c) (ap f (eqb-true a c h))
comes_mapped ls ms f keeps (suc k) a c h = elim (comes_cases ls k a c h) [
  | inl e ↦ comes_at ms (suc k) (f a) (f c) (ap f e)
  | inr r ↦ comes_by ms k (f a) (f r.0) (f c) (keeps a r.0 r.1) (comes_mapped ls ms f keeps k r.0 c r.2)
]

module _ (ls : List (ℕ × ℕ)) (n m : ℕ) (enough : n ≤ m) (within : (a b : ℕ) → IsEdge ls a b → (a < n) × (b < n)) where
  -- ---- no node more is reached by more edges than there are nodes

  abbrev IsFull : ℕ → ℕ → Type 0
  IsFull g k = (a : ℕ) → Comes ls (suc k) a g → Comes ls k a g

  full_next : (g k : ℕ) → IsFull g k → IsFull g (suc k)
  full_next g k full a h = elim (comes_cases ls (suc k) a g h) [
    | inl e ↦ comes_at ls (suc k) a g e
    | inr r ↦ comes_by ls k a r.0 g r.1 (full r.0 r.2)
  ]

  full_if : (g k : ℕ) → Implies (λ a. reaches ls (suc k) a g) (λ a. reaches ls k a g) n → IsFull g k
  full_if g k h a c = elim (comes_cases ls k a g c) [ inl e ↦ comes_at ls k a g e | inr r ↦ h a (within a r.0 r.1).0 c ]

  grows : (g k : ℕ) → g < n → IsFull g k ⊎ (suc k ≤ count (λ a. reaches ls k a g) n)
  grows g zero lt = inr (
      let none : count (λ a. false) n < count (λ a. reaches ls zero a g) n = count_less (λ a. false) (λ a. reaches ls zero a g) n g (λ i less e. absurd (true≢false (sym e))) lt (comes_here ls zero g) refl in
      omega (arith, none)
      )
  grows g (suc k) lt = elim (grows g k lt) [
    | inl full ↦ inl (full_next g k full)
    | inr many ↦ elim (search (λ a. reaches ls k a g) (λ a. reaches ls (suc k) a g) n) [
      | inl h ↦ inl (full_next g k (full_if g k h))
      | inr r ↦ inr (
          let more = count_less (λ a. reaches ls k a g) (λ a. reaches ls (suc k) a g) n r.0 (λ i less e. comes_more ls k i g e) r.1 r.2 r.3 in
          omega (arith, many, more)
          )
    ]
  ]

  full : (g : ℕ) → g < n → IsFull g m
  full g lt = elim (grows g m lt) [ inl h ↦ h | inr many ↦ let low = count_low (λ a. reaches ls m a g) n in absurd (omega (arith, many, low, enough)) ]

  closed : (a b g : ℕ) → g < n → IsEdge ls a b → Comes ls m b g → Comes ls m a g
  closed a b g lt edge h = full g lt a (comes_by ls m a b g edge h)

  joined : (k a b g : ℕ) → g < n → Comes ls k a b → Comes ls m b g → Comes ls m a g
  joined zero a b g lt h more = subst (λ z. Comes ls m z g) (sym (eqb-true a b h)) more
  joined (suc k) a b g lt h more = elim (comes_cases ls k a b h) [
    | inl e ↦ subst (λ z. Comes ls m z g) (sym e) more
    | inr r ↦ closed a r.0 g lt r.1 (joined k r.0 b g lt r.2 more)
  ]

  -- ---- ranks, where each edge of a round leads to a greater number

  module _ (rises : (a b : ℕ) → IsEdge ls a b → Comes ls m b a → a < b) where
    below : (k a b : ℕ) → a < n → Comes ls k b a → Comes ls m a b → b ≤ a
    below zero a b lt h back = let e = eqb-true b a h in omega (arith, e)
    below (suc k) a b lt h back = elim (comes_cases ls k b a h) [
      | inl e ↦ omega (arith, e)
      | inr r ↦
          let ends = within b r.0 r.1 in
          let on : Comes ls m a r.0 = joined m a b r.0 ends.1 back (closed b r.0 r.0 ends.1 r.1 (comes_here ls m r.0)) in
          let rest = below k a r.0 lt r.2 on in
          let up = rises b r.0 r.1 (joined k r.0 a b ends.0 r.2 back) in
          omega (arith, rest, up)
    ]

    no_round : (a b : ℕ) → IsEdge ls a b → Comes ls m b a → ⊥
    no_round a b edge h =
        let ends = within a b edge in
        let low = below m a b ends.0 h (closed a b b ends.1 edge (comes_here ls m b)) in
        let up = rises a b edge h in
        omega (arith, low, up)

    -- by one edge or more
    abbrev leads : ℕ → ℕ → Bool
    leads a g = list_any (λ l. (l.0 == a) && reaches ls m l.1 g) ls

    leads_nowhere : (a : ℕ) → leads a a ≡ false
    leads_nowhere a = elim (cases_Bool (leads a a)) [
      | inl t ↦ let r = some_edge (λ z. reaches ls m z a) ls a t in absurd (no_round a r.0 r.1 r.2)
      | inr f ↦ f
    ]

    -- how many nodes a node leads to
    abbrev pub rank : ℕ → ℕ
    rank a = count (leads a) n

    pub rank_falls : (a b : ℕ) → IsEdge ls a b → rank b < rank a
    rank_falls a b edge =
        count_less (leads b) (leads a) n b
        (λ g lt e. let r = some_edge (λ z. reaches ls m z g) ls b e in edge_some (λ z. reaches ls m z g) ls a b edge (closed b r.0 g lt r.1 r.2))
        (within a b edge).1 (edge_some (λ z. reaches ls m z b) ls a b edge (comes_here ls m b)) (leads_nowhere b)

    pub rank_low : (a : ℕ) → a < n → rank a < n
    rank_low a lt =
        let less = count_less (leads a) (λ g. true) n a (λ i less e. refl) lt refl (leads_nowhere a) in
        let most = count_low (λ g. true) n in
        omega (arith, less, most)
