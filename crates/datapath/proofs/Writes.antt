-- What is wanted of lists of writes.
use Rattle.std.proofs.Common.{◌≡◌, ℕ, zero, suc, ◌+◌, Bool, true, false, List, [], ◌∷◌, ◌++◌, map, Some, refl, sym, ap, ◌∙◌, subst, inl, inr, true≢false, arith}
use Rattle.std.specs.Prelude.{slice_get, ◌||◌, cond, filter, flat_map, find, if◌then◌else◌}
use Rattle.std.specs.List.{enumerate_from}
use Rattle.std.proofs.lemmas.Bool.{cases_Bool, or_from, or_left, or_right, or_parts}
use Rattle.rtl_logic.specs.Choosing.{Write, is_any_wanted, AllWant}

-- nothing is wanted
abbrev pub NoneWanted : List Write → Type 0
NoneWanted ws = is_any_wanted ws ≡ false

pub none_want : (ws : List Write) (x : ℕ) → NoneWanted ws → AllWant ws x
none_want [] x none = _
none_want (w ∷ ws) x none =
    let parts = or_parts w.wanted (is_any_wanted ws) none in
    (λ e. absurd (true≢false (sym e ∙ parts.0)), none_want ws x parts.1)

pub none_both : (a b : List Write) → NoneWanted a → NoneWanted b → NoneWanted (a ++ b)
none_both [] b none other = other
none_both (w ∷ ws) b none other =
    let parts = or_parts w.wanted (is_any_wanted ws) none in
    or_from w.wanted (is_any_wanted (ws ++ b)) parts.0 (none_both ws b parts.1 other)

pub none_if : (b : Bool) (x y : List Write) → NoneWanted x → NoneWanted y → NoneWanted (if b then x else y)
none_if true x y e f = e
none_if false x y e f = f

pub none_map : {A : Type 0} (f : A → Write) (xs : List A) → ((a : A) → (f a).wanted ≡ false) → NoneWanted (map f xs)
none_map f [] h = refl
none_map f (a ∷ xs) h = or_from (f a).wanted (is_any_wanted (map f xs)) (h a) (none_map f xs h)

-- all that any node wants
pub none_of : {X : Type 0} (f : ℕ × X → List Write) (k : ℕ) (xs : List X) → ((j : ℕ) (x : X) → slice_get xs j ≡ Some x → NoneWanted (f (k + j, x)))
    → NoneWanted (flat_map f (enumerate_from k xs))
none_of f k [] h = refl
none_of f k (x ∷ xs) h =
    let here : k + 0 ≡ k = omega arith in
    none_both (f (k, x)) (flat_map f (enumerate_from (k + 1) xs)) (subst (λ (n : ℕ). NoneWanted (f (n, x))) here (h 0 x refl))
    (none_of f (k + 1) xs (λ j y e. let next : k + suc j ≡ k + 1 + j = omega arith in subst (λ (n : ℕ). NoneWanted (f (n, y))) next (h (suc j) y e)))

-- ---- writes of those that pass a test

pub none_kept : {A : Type 0} (f : A → List Write) (test : A → Bool) (xs : List A) → ((n : ℕ) (a : A) → slice_get xs n ≡ Some a → test a ≡ true → NoneWanted (f a))
    → NoneWanted (flat_map f (filter test xs))
none_kept f test [] h = refl
none_kept f test (a ∷ xs) h = at_first (test a) (λ e. h 0 a refl e) (none_kept f test xs (λ n b e. h (suc n) b e))
  where
    at_first : (b : Bool) → (b ≡ true → NoneWanted (f a)) → NoneWanted (flat_map f (filter test xs)) → NoneWanted (flat_map f (cond b (a ∷ filter test xs) (filter test xs)))
    at_first true first rest = none_both (f a) (flat_map f (filter test xs)) (first refl) rest
    at_first false first rest = rest

pub all_both : (a b : List Write) (x : ℕ) → AllWant a x → AllWant b x → AllWant (a ++ b) x
all_both [] b x all other = other
all_both (w ∷ ws) b x all other = (all.0, all_both ws b x all.1 other)

pub all_kept : {A : Type 0} (f : A → List Write) (test : A → Bool) (xs : List A) (x : ℕ) → ((n : ℕ) (a : A) → slice_get xs n ≡ Some a → test a ≡ true → AllWant (f a) x)
    → AllWant (flat_map f (filter test xs)) x
all_kept f test [] x h = _
all_kept f test (a ∷ xs) x h = at_first (test a) (λ e. h 0 a refl e) (all_kept f test xs x (λ n b e. h (suc n) b e))
  where
    at_first : (b : Bool) → (b ≡ true → AllWant (f a) x) → AllWant (flat_map f (filter test xs)) x → AllWant (flat_map f (cond b (a ∷ filter test xs) (filter test xs))) x
    at_first true first rest = all_both (f a) (flat_map f (filter test xs)) x (first refl) rest
    at_first false first rest = rest

pub some_left : (a b : List Write) → is_any_wanted a ≡ true → is_any_wanted (a ++ b) ≡ true
some_left [] b e = absurd (true≢false (sym e))
some_left (w ∷ ws) b e =
    elim (cases_Bool w.wanted) [
      | inl yes_ ↦ or_left w.wanted (is_any_wanted (ws ++ b)) yes_
      | inr no_ ↦ or_right w.wanted (is_any_wanted (ws ++ b)) (some_left ws b (sym (ap (λ t. t || is_any_wanted ws) no_) ∙ e))
    ]

pub some_right : (a b : List Write) → is_any_wanted b ≡ true → is_any_wanted (a ++ b) ≡ true
some_right [] b e = e
some_right (w ∷ ws) b e = or_right w.wanted (is_any_wanted (ws ++ b)) (some_right ws b e)

pub some_kept : {A : Type 0} (f : A → List Write) (test : A → Bool) (n : ℕ) (xs : List A) (a : A) → slice_get xs n ≡ Some a → test a ≡ true → is_any_wanted (f a) ≡ true
    → is_any_wanted (flat_map f (filter test xs)) ≡ true
some_kept f test n [] a at_ passes some = absurd (cc)
some_kept f test zero (b ∷ xs) a at_ passes some =
    let same : b ≡ a = cc in
    let kept : filter test (b ∷ xs) ≡ b ∷ filter test xs = ap (λ t. cond t (b ∷ filter test xs) (filter test xs)) (ap test same ∙ passes) in
    ap (λ l. is_any_wanted (flat_map f l)) kept ∙ some_left (f b) (flat_map f (filter test xs)) (ap (λ z. is_any_wanted (f z)) same ∙ some)
some_kept f test (suc n) (b ∷ xs) a at_ passes some = at_first (test b) (some_kept f test n xs a at_ passes some)
  where
    at_first : (t : Bool) → is_any_wanted (flat_map f (filter test xs)) ≡ true → is_any_wanted (flat_map f (cond t (b ∷ filter test xs) (filter test xs))) ≡ true
    at_first true rest = some_right (f b) (flat_map f (filter test xs)) rest
    at_first false rest = rest

-- ---- what is found

pub record Found {A : Type 0} (test : A → Bool) (xs : List A) (a : A) : Type 0 where
  pub place : ℕ
  pub stands : slice_get xs place ≡ Some a
  pub passes : test a ≡ true

pub found : {A : Type 0} (test : A → Bool) (xs : List A) (a : A) → find test xs ≡ Some a → Found test xs a
found test [] a e = absurd (cc)
found test (b ∷ xs) a e =
    elim (cases_Bool (test b)) [
      | inl yes_ ↦
          let is : Some b ≡ Some a = sym (ap (λ t. cond t (Some b) (find test xs)) yes_) ∙ e in
          let same : b ≡ a = cc in
          record { place = 0; stands = is; passes = ap test (sym same) ∙ yes_ }
      | inr no_ ↦
          let rest : Found test xs a = found test xs a (sym (ap (λ t. cond t (Some b) (find test xs)) no_) ∙ e) in
          record { place = suc rest.place; stands = rest.stands; passes = rest.passes }
    ]

-- ---- writes of all nodes, and of those that pass a test

pub all_of : {X : Type 0} (f : ℕ × X → List Write) (k : ℕ) (xs : List X) (v : ℕ) → ((j : ℕ) (x : X) → slice_get xs j ≡ Some x → AllWant (f (k + j, x)) v)
    → AllWant (flat_map f (enumerate_from k xs)) v
all_of f k [] v h = _
all_of f k (x ∷ xs) v h =
    let here : k + 0 ≡ k = omega arith in
    all_both (f (k, x)) (flat_map f (enumerate_from (k + 1) xs)) v (subst (λ (n : ℕ). AllWant (f (n, x)) v) here (h 0 x refl))
    (all_of f (k + 1) xs v (λ j y e. let next : k + suc j ≡ k + 1 + j = omega arith in subst (λ (n : ℕ). AllWant (f (n, y)) v) next (h (suc j) y e)))

pub some_of : {X : Type 0} (f : ℕ × X → List Write) (k j : ℕ) (xs : List X) (x : X) → slice_get xs j ≡ Some x → is_any_wanted (f (k + j, x)) ≡ true
    → is_any_wanted (flat_map f (enumerate_from k xs)) ≡ true
some_of f k j [] x at_ some = absurd (cc)
some_of f k zero (y ∷ ys) x at_ some =
    let same : y ≡ x = cc in
    let here : k + 0 ≡ k = omega arith in
    some_left (f (k, y)) _ (ap (λ z. is_any_wanted (f (k, z))) same ∙ subst (λ (n : ℕ). is_any_wanted (f (n, x)) ≡ true) here some)
some_of f k (suc j) (y ∷ ys) x at_ some =
    let next : k + suc j ≡ k + 1 + j = omega arith in
    some_right (f (k, y)) _ (some_of f (k + 1) j ys x at_ (subst (λ (n : ℕ). is_any_wanted (f (n, x)) ≡ true) next some))

pub all_mapped : {A : Type 0} (g : A → Write) (test : A → Bool) (xs : List A) (v : ℕ) → ((n : ℕ) (a : A) → slice_get xs n ≡ Some a → test a ≡ true → (g a).value ≡ v)
    → AllWant (map g (filter test xs)) v
all_mapped g test [] v h = _
all_mapped g test (a ∷ xs) v h = at_first (test a) (λ e. h 0 a refl e) (all_mapped g test xs v (λ n b e. h (suc n) b e))
  where
    at_first : (b : Bool) → (b ≡ true → (g a).value ≡ v) → AllWant (map g (filter test xs)) v → AllWant (map g (cond b (a ∷ filter test xs) (filter test xs))) v
    at_first true first rest = (λ w. first refl, rest)
    at_first false first rest = rest

pub none_mapped : {A : Type 0} (g : A → Write) (test : A → Bool) (xs : List A) → ((n : ℕ) (a : A) → slice_get xs n ≡ Some a → test a ≡ true → ⊥)
    → NoneWanted (map g (filter test xs))
none_mapped g test [] h = refl
none_mapped g test (a ∷ xs) h = at_first (test a) (λ e. h 0 a refl e) (none_mapped g test xs (λ n b e. h (suc n) b e))
  where
    at_first : (b : Bool) → (b ≡ true → ⊥) → NoneWanted (map g (filter test xs)) → NoneWanted (map g (cond b (a ∷ filter test xs) (filter test xs)))
    at_first true first rest = absurd (first refl)
    at_first false first rest = rest

pub some_mapped : {A : Type 0} (g : A → Write) (test : A → Bool) (n : ℕ) (xs : List A) (a : A) → slice_get xs n ≡ Some a → test a ≡ true → (g a).wanted ≡ true
    → is_any_wanted (map g (filter test xs)) ≡ true
some_mapped g test n [] a at_ passes some = absurd (cc)
some_mapped g test zero (b ∷ xs) a at_ passes some =
    let same : b ≡ a = cc in
    let kept : filter test (b ∷ xs) ≡ b ∷ filter test xs = ap (λ t. cond t (b ∷ filter test xs) (filter test xs)) (ap test same ∙ passes) in
    ap (λ l. is_any_wanted (map g l)) kept ∙ or_left (g b).wanted _ (ap (λ z. (g z).wanted) same ∙ some)
some_mapped g test (suc n) (b ∷ xs) a at_ passes some = at_first (test b) (some_mapped g test n xs a at_ passes some)
  where
    at_first : (t : Bool) → is_any_wanted (map g (filter test xs)) ≡ true → is_any_wanted (map g (cond t (b ∷ filter test xs) (filter test xs))) ≡ true
    at_first true rest = or_right (g b).wanted _ rest
    at_first false rest = rest
