-- Who comes to a function by calls: marks, and one call more.
use Rattle.std.proofs.Common.{◌≡◌, ◌≢◌, ℕ, zero, suc, ◌+◌, ◌-◌, ◌<◌, ◌≤◌, ◌==◌, ◌&&◌, ◌||◌, Bool, true, false, List, [], ◌∷◌, ◌++◌, length, set, replicate, take, get_or, refl, sym, ap, subst, ◌∙◌, arith, add-one, get_or-set_same, get_or-set_other, bytes_eq, if◌then◌else◌}
use Rattle.std.specs.List.{list_any}
use Rattle.std.proofs.lemmas.List.{length-replicate, get_or-replicate, length-set, length-append, take_more}
use Rattle.std.proofs.lemmas.List.Elements.{All-append}
use Rattle.std.proofs.lemmas.List.Folds.{list_any-append}
use Rattle.std.specs.declared.alloc.Global.{Global}
use Rattle.std.specs.declared.vec.Vec.{Vec}
use Rattle.std.proofs.lemmas.Bool.{eqb-true}
use Rattle.c_meaning.specs.Checks.Recursion.{Called, Caller, number_of, call_links, links, reaches}
use Rattle.c_calls.specs.Linked.{AreWithin, AreBelow, Marks, sources, row_at, HasSources, RowsAreBelow, is_among, calls_one, Spreads, reaches_before, IsFront}

-- a list of marks of which one is set
pub set_one : (marks : List Bool) (k f : ℕ) (b : Bool) → k < length marks → (f == k) ≡ b → get_or (set marks k true) f false ≡ (b || get_or marks f false)
set_one marks k f true lt e = let same : f ≡ k = eqb-true f k e in ap (λ n. get_or (set marks k true) n false) same ∙ get_or-set_same marks k true false lt
set_one marks k f false lt e = let apart : f ≢ k = grind arith in grind (arith, get_or-set_other)

pub one_marked : (n target f : ℕ) → target < n → f < n → get_or (set (replicate n false) target true) f false ≡ (f == target)
one_marked n target f t lt =
    let long : target < length (replicate n false) = grind (arith, length-replicate) in
    set_one (replicate n false) target f (f == target) long refl ∙ ap (λ b. (f == target) || b) (get_or-replicate n f false false lt) ∙ or_none (f == target)
  where
    or_none : (b : Bool) → (b || false) ≡ b
    or_none true = refl
    or_none false = refl

and_false : (b : Bool) → (b && false) ≡ false
and_false true = refl
and_false false = refl

pub any_same : (p q : ℕ × ℕ → Bool) (size : ℕ) (ls : List (ℕ × ℕ)) → AreWithin size ls → ((l : ℕ × ℕ) → l.0 < size → l.1 < size → p l ≡ q l) → list_any p ls ≡ list_any q ls
any_same p q size [] within same = refl
any_same p q size (l ∷ ls) within same =
    let first = within zero l (omega arith) in
    ap (λ b. b || list_any p ls) (same l first.0 first.1) ∙ ap (λ b. q l || b) (any_same p q size ls (λ k d lt. within (suc k) d (omega arith)) same)

pub number_of_le : (all : List Caller) (name : List ℕ) → number_of all name ≤ length all
number_of_le [] name = omega arith
number_of_le (c ∷ cs) name = below (bytes_eq name c.name) (number_of cs name) (length cs) (number_of_le cs name)
  where
    below : (b : Bool) (n m : ℕ) → n ≤ m → (if b then 0 else n + 1) ≤ suc m
    below true n m le = omega arith
    below false n m le = omega arith

call_links_within : (all : List Caller) (from : ℕ) → from ≤ length all → (calls : List Called) → AreWithin (length all + 1) (call_links all from calls)
call_links_within all from le [] = λ k d lt. absurd (omega arith)
call_links_within all from le (c ∷ cs) = one_further (call_links_within all from le cs)
  where
    one_further : AreWithin (length all + 1) (call_links all from cs) → AreWithin (length all + 1) ((from, number_of all c.name) ∷ call_links all from cs)
    one_further rest zero d lt = let callee : number_of all c.name ≤ length all = number_of_le all c.name in (omega arith, omega arith)
    one_further rest (suc k) d lt = rest k d (omega arith)

pub links_within : (all cs : List Caller) → AreWithin (length all + 1) (links all cs)
links_within all [] = λ k d lt. absurd (omega arith)
links_within all (c ∷ cs) = All-append (λ l. (l.0 < length all + 1) × (l.1 < length all + 1)) (call_links all (number_of all c.name) c.calls) (links all cs) (call_links_within all (number_of all c.name) (number_of_le all c.name) c.calls) (links_within all cs)

-- ---- marking

or_false : (b : Bool) → (b || false) ≡ b
or_false true = refl
or_false false = refl

or_three : (a b c : Bool) → ((a || b) || c) ≡ (a || (b || c))
or_three true b c = refl
or_three false b c = refl

pub spreads_none : (marks : List Bool) (noted : List ℕ) → Spreads (λ f. false) marks noted marks noted
spreads_none marks noted = record { long = refl; marked = λ f lt. sym (or_false (get_or marks f false)); notes = λ base h. h; below = λ h. h }

pub spreads_more : (p q r : ℕ → Bool) (m m1 m2 : List Bool) (n n1 n2 : List ℕ) → Spreads p m n m1 n1 → Spreads q m1 n1 m2 n2 → ((f : ℕ) → r f ≡ (p f || q f)) → Spreads r m n m2 n2
spreads_more p q r m m1 m2 n n1 n2 s t joined = record {
  long = t.long ∙ s.long;
  marked = λ f lt.
      let lt1 : f < length m1 = let e = s.long in omega arith in
      t.marked f lt1 ∙ ap (λ b. b || q f) (s.marked f lt) ∙ or_three (get_or m f false) (p f) (q f) ∙ ap (λ b. get_or m f false || b) (sym (joined f));
  notes = λ base h f lt.
      let lt1 : f < length m1 = let e = s.long in omega arith in
      t.notes base (λ g less. s.notes base h g (let e = s.long in omega arith)) f lt1;
  below = λ h. subst (λ k. AreBelow k n2) s.long (t.below (subst (λ k. AreBelow k n1) (sym s.long) (s.below h)));
}

same_number : (f k : ℕ) → (f == k) ≡ (k == f)
same_number f k = grind arith

among_more : (f x : ℕ) (ns : List ℕ) → is_among f (ns ++ x ∷ []) ≡ (is_among f ns || (x == f))
among_more f x ns = list_any-append (λ n. n == f) ns (x ∷ []) ∙ ap (λ b. is_among f ns || b) (or_false (x == f))

-- one function that is not marked yet
pub spreads_new : (marks : List Bool) (noted : List ℕ) (x : ℕ) → x < length marks → Spreads (λ f. x == f) marks noted (set marks x true) (noted ++ x ∷ [])
spreads_new marks noted x lt = record {
  long = length-set marks x true;
  marked = λ f less. here f ∙ turned (x == f) (get_or marks f false);
  notes = λ base h f less.
      here f ∙ ap (λ b. (x == f) || b) (h f less) ∙ moved (x == f) (base f) (is_among f noted) ∙ ap (λ b. base f || b) (sym (among_more f x noted));
  below = λ h. All-append (λ n. n < length marks) noted (x ∷ []) h (λ k d less. one k d less);
}
  where
    here : (f : ℕ) → get_or (set marks x true) f false ≡ ((x == f) || get_or marks f false)
    here f = set_one marks x f (x == f) lt (same_number f x)

    turned : (a b : Bool) → (a || b) ≡ (b || a)
    turned true true = refl
    turned true false = refl
    turned false b = sym (or_false b)

    moved : (a b c : Bool) → (a || (b || c)) ≡ (b || (c || a))
    moved true true c = refl
    moved true false true = refl
    moved true false false = refl
    moved false true c = refl
    moved false false c = sym (or_false c)

    one : (k d : ℕ) → k < 1 → get_or (x ∷ []) k d < length marks
    one zero d less = lt
    one (suc k) d less = absurd (omega arith)

-- one function that is marked
pub spreads_old : (marks : List Bool) (noted : List ℕ) (x : ℕ) → get_or marks x false ≡ true → Spreads (λ f. x == f) marks noted marks noted
spreads_old marks noted x on = record { long = refl; marked = λ f lt. by f (x == f) refl; notes = λ base h. h; below = λ h. h }
  where
    by : (f : ℕ) (b : Bool) → (x == f) ≡ b → get_or marks f false ≡ (get_or marks f false || b)
    by f true e = let same : x ≡ f = eqb-true x f e in rw (← same) (rw on refl)
    by f false e = sym (or_false (get_or marks f false))

pub among_taken : (f i d : ℕ) (ns : List ℕ) → i < length ns → is_among f (take (i + 1) ns) ≡ (is_among f (take i ns) || (get_or ns i d == f))
among_taken f i d ns lt = ap (is_among f) (take_more ns i d lt) ∙ among_more f (get_or ns i d) (take i ns)

pub calls_taken : (rows : List (Vec ℕ Global)) (f i d : ℕ) (ns : List ℕ) → i < length ns → calls_one rows f (take (i + 1) ns) ≡ (calls_one rows f (take i ns) || is_among f (row_at rows (get_or ns i d)))
calls_taken rows f i d ns lt =
    ap (calls_one rows f) (take_more ns i d lt)
    ∙ list_any-append (λ k. is_among f (row_at rows k)) (take i ns) (get_or ns i d ∷ [])
    ∙ ap (λ b. calls_one rows f (take i ns) || b) (or_false (is_among f (row_at rows (get_or ns i d))))

-- ---- the rows

pub row_is : (rows : List (Vec ℕ Global)) (k : ℕ) (d : Vec ℕ Global) → k < length rows → row_at rows k ≡ (get_or rows k d).items
row_is [] k d lt = absurd (omega arith)
row_is (r ∷ rs) zero d lt = refl
row_is (r ∷ rs) (suc k) d lt = row_is rs k d (omega arith)

pub row_pushed : (rows : List (Vec ℕ Global)) (r : Vec ℕ Global) (k : ℕ) → row_at (rows ++ r ∷ []) k ≡ (if k == length rows then r.items else row_at rows k)
row_pushed [] r zero = refl
row_pushed [] r (suc k) = let e : (suc k == 0) ≡ false = grind arith in sym (ap (λ b. if b then r.items else []) e)
row_pushed (x ∷ rs) r zero = let e : (0 == suc (length rs)) ≡ false = grind arith in sym (ap (λ b. if b then r.items else x.items) e)
row_pushed (x ∷ rs) r (suc k) = let e : (k == length rs) ≡ (suc k == suc (length rs)) = grind arith in row_pushed rs r k ∙ ap (λ b. if b then r.items else row_at rs k) e

pub has_none : (links : List (ℕ × ℕ)) → HasSources links 0 []
has_none links = record { long = refl; right = λ k lt. absurd (omega arith) }

pub has_more : (links : List (ℕ × ℕ)) (n : ℕ) (rows : List (Vec ℕ Global)) (r : Vec ℕ Global) → HasSources links n rows → r.items ≡ sources links n → HasSources links (n + 1) (rows ++ r ∷ [])
has_more links n rows r has same = record { long = length-append rows (r ∷ []) ∙ ap (λ k. k + 1) has.long; right = λ k lt. row_pushed rows r k ∙ by k lt (k == length rows) refl }
  where
    by : (k : ℕ) → k < n + 1 → (b : Bool) → (k == length rows) ≡ b → (if b then r.items else row_at rows k) ≡ sources links k
    by k lt true e = let last : k ≡ length rows = eqb-true k (length rows) e in same ∙ ap (sources links) (sym (last ∙ has.long))
    by k lt false e = let apart : k ≢ length rows = grind arith in let long = has.long in has.right k (omega arith)

pub sources_below : (links : List (ℕ × ℕ)) (size k : ℕ) → AreWithin size links → AreBelow size (sources links k)
sources_below [] size k within = λ j d lt. absurd (omega arith)
sources_below (l ∷ ls) size k within =
    let first = within zero l (omega arith) in
    by (k == l.1) first.0 (sources_below ls size k (λ j d lt. within (suc j) d (omega arith)))
  where
    by : (b : Bool) → l.0 < size → AreBelow size (sources ls k) → AreBelow size (if b then l.0 ∷ sources ls k else sources ls k)
    by true less rest = λ j d lt. front j d lt
      where
        front : (j d : ℕ) → j < suc (length (sources ls k)) → get_or (l.0 ∷ sources ls k) j d < size
        front zero d lt = less
        front (suc j) d lt = rest j d (omega arith)
    by false less rest = rest

pub rows_below : (links : List (ℕ × ℕ)) (size : ℕ) (rows : List (Vec ℕ Global)) → AreWithin size links → HasSources links size rows → RowsAreBelow size rows
rows_below links size rows within has = λ k d lt.
    let less : k < size = let e = has.long in omega arith in
    subst (AreBelow size) (sym (has.right k less) ∙ row_is rows k d lt) (sources_below links size k within)

-- ---- one call more

any_or : {A : Type 0} (p q : A → Bool) (xs : List A) → list_any (λ x. p x || q x) xs ≡ (list_any p xs || list_any q xs)
any_or p q [] = refl
any_or p q (x ∷ xs) = ap (λ b. (p x || q x) || b) (any_or p q xs) ∙ four (p x) (q x) (list_any p xs) (list_any q xs)
  where
    four : (a b c d : Bool) → ((a || b) || (c || d)) ≡ ((a || c) || (b || d))
    four true b c d = refl
    four false true true d = refl
    four false true false d = refl
    four false false c d = refl

any_none : {A : Type 0} (xs : List A) → list_any (λ x. false) xs ≡ false
any_none [] = refl
any_none (x ∷ xs) = any_none xs

any_and : {A : Type 0} (b : Bool) (p : A → Bool) (xs : List A) → list_any (λ x. p x && b) xs ≡ (b && list_any p xs)
any_and true p [] = refl
any_and true p (x ∷ xs) = ap (λ c. (p x && true) || c) (any_and true p xs) ∙ ap (λ c. c || list_any p xs) (and_true (p x))
  where
    and_true : (c : Bool) → (c && true) ≡ c
    and_true true = refl
    and_true false = refl
any_and false p [] = refl
any_and false p (x ∷ xs) = ap (λ c. c || list_any (λ y. p y && false) xs) (and_false (p x)) ∙ any_and false p xs

any_each : {A : Type 0} (p q : A → Bool) → ((x : A) → p x ≡ q x) → (xs : List A) → list_any p xs ≡ list_any q xs
any_each p q same [] = refl
any_each p q same (x ∷ xs) = ap (λ b. b || list_any p xs) (same x) ∙ ap (λ b. q x || b) (any_each p q same xs)

among_source : (f k : ℕ) (l : ℕ × ℕ) (ls : List (ℕ × ℕ)) → is_among f (sources (l ∷ ls) k) ≡ (((k == l.1) && (l.0 == f)) || is_among f (sources ls k))
among_source f k l ls = by (k == l.1)
  where
    by : (b : Bool) → is_among f (if b then l.0 ∷ sources ls k else sources ls k) ≡ ((b && (l.0 == f)) || is_among f (sources ls k))
    by true = refl
    by false = refl

-- the functions that call one of these, by the calls
by_calls : (f : ℕ) (front : List ℕ) (ls : List (ℕ × ℕ)) → list_any (λ k. is_among f (sources ls k)) front ≡ list_any (λ l. (l.0 == f) && is_among l.1 front) ls
by_calls f front [] = any_none front
by_calls f front (l ∷ ls) =
    any_each (λ k. is_among f (sources (l ∷ ls) k)) (λ k. ((k == l.1) && (l.0 == f)) || is_among f (sources ls k)) (λ k. among_source f k l ls) front
    ∙ any_or (λ k. (k == l.1) && (l.0 == f)) (λ k. is_among f (sources ls k)) front
    ∙ ap (λ b. b || list_any (λ k. is_among f (sources ls k)) front) (any_and (l.0 == f) (λ k. k == l.1) front)
    ∙ ap (λ b. ((l.0 == f) && is_among l.1 front) || b) (by_calls f front ls)

any_below : (p q : ℕ → Bool) (size : ℕ) (ns : List ℕ) → AreBelow size ns → ((k : ℕ) → k < size → p k ≡ q k) → list_any p ns ≡ list_any q ns
any_below p q size [] below same = refl
any_below p q size (n ∷ ns) below same =
    ap (λ b. b || list_any p ns) (same n (below zero n (omega arith))) ∙ ap (λ b. q n || b) (any_below p q size ns (λ k d lt. below (suc k) d (omega arith)) same)

so_far : (ls : List (ℕ × ℕ)) (n f g : ℕ) → ((f == g) || list_any (λ l. (l.0 == f) && reaches_before ls n l.1 g) ls) ≡ reaches ls n f g
so_far ls zero f g = ap (λ b. (f == g) || b) (any_each (λ l. (l.0 == f) && false) (λ l. false) (λ l. and_false (l.0 == f)) ls ∙ any_none ls) ∙ or_false (f == g)
so_far ls (suc n) f g = refl

-- by one call more a function comes to the target if it did before, or calls one of the front
one_further : (ls : List (ℕ × ℕ)) (size n g : ℕ) (front : List ℕ) → AreWithin size ls → IsFront ls size n g front → (f : ℕ)
    → reaches ls (suc n) f g ≡ (reaches ls n f g || list_any (λ l. (l.0 == f) && is_among l.1 front) ls)
one_further ls size n g front within is f =
    ap (λ b. (f == g) || b)
    (any_same (λ l. (l.0 == f) && reaches ls n l.1 g) (λ l. ((l.0 == f) && reaches_before ls n l.1 g) || ((l.0 == f) && is_among l.1 front)) size ls within
    (λ l one two. ap (λ b. (l.0 == f) && b) (is.covers l.1 two) ∙ spread (l.0 == f) (reaches_before ls n l.1 g) (is_among l.1 front))
    ∙ any_or (λ l. (l.0 == f) && reaches_before ls n l.1 g) (λ l. (l.0 == f) && is_among l.1 front) ls)
    ∙ sym (or_three (f == g) (list_any (λ l. (l.0 == f) && reaches_before ls n l.1 g) ls) (list_any (λ l. (l.0 == f) && is_among l.1 front) ls))
    ∙ ap (λ b. b || list_any (λ l. (l.0 == f) && is_among l.1 front) ls) (so_far ls n f g)
  where
    spread : (a b c : Bool) → (a && (b || c)) ≡ ((a && b) || (a && c))
    spread true b c = refl
    spread false b c = refl

pub first_front : (ls : List (ℕ × ℕ)) (size target : ℕ) → target < size → IsFront ls size 0 target (target ∷ [])
first_front ls size target lt = record { below = one; covers = λ f less. same_number f target ∙ sym (or_false (target == f)) }
  where
    one : AreBelow size (target ∷ [])
    one zero d less = lt
    one (suc k) d less = absurd (omega arith)

pub record Reached (ls : List (ℕ × ℕ)) (size n target : ℕ) (marks : List Bool) (front : List ℕ) : Type 0 where
  pub marked : Marks ls size n target marks
  pub last : IsFront ls size n target front

pub Reached-more : (ls : List (ℕ × ℕ)) (rows : List (Vec ℕ Global)) (size n target : ℕ) (marks marks' : List Bool) (front front' : List ℕ) → AreWithin size ls → HasSources ls size rows
    → Reached ls size n target marks front → Spreads (λ f. calls_one rows f front) marks [] marks' front' → Reached ls size (n + 1) target marks' front'
Reached-more ls rows size n target marks marks' front front' within has r s =
    subst (λ k. Reached ls size k target marks' front') (sym (add-one n)) (record {
      marked = record { long = s.long ∙ r.marked.long; right = right };
      last = record { below = subst (λ k. AreBelow k front') r.marked.long (s.below (λ k d lt. absurd (omega arith))); covers = covers };
    })
  where
    within_marks : (f : ℕ) → f < size → f < length marks
    within_marks f lt = let e = r.marked.long in omega arith

    callers : (f : ℕ) → calls_one rows f front ≡ list_any (λ l. (l.0 == f) && is_among l.1 front) ls
    callers f = any_below (λ k. is_among f (row_at rows k)) (λ k. is_among f (sources ls k)) size front r.last.below (λ k lt. ap (is_among f) (has.right k lt)) ∙ by_calls f front ls

    right : (f : ℕ) → f < size → get_or marks' f false ≡ reaches ls (suc n) f target
    right f lt =
        s.marked f (within_marks f lt) ∙ ap (λ b. b || calls_one rows f front) (r.marked.right f lt) ∙ ap (λ b. reaches ls n f target || b) (callers f)
        ∙ sym (one_further ls size n target front within r.last f)

    covers : (f : ℕ) → f < size → reaches ls (suc n) f target ≡ (reaches ls n f target || is_among f front')
    covers f lt =
        sym (right f lt) ∙ s.notes (λ g. get_or marks g false) (λ g less. sym (or_false (get_or marks g false))) f (within_marks f lt)
        ∙ ap (λ b. b || is_among f front') (r.marked.right f lt)

-- ---- no function more

settled : (ls : List (ℕ × ℕ)) (size n g : ℕ) → AreWithin size ls → ((f : ℕ) → f < size → reaches ls n f g ≡ reaches_before ls n f g) → (f : ℕ) → reaches ls (suc n) f g ≡ reaches ls n f g
settled ls size n g within same f =
    ap (λ b. (f == g) || b) (any_same (λ l. (l.0 == f) && reaches ls n l.1 g) (λ l. (l.0 == f) && reaches_before ls n l.1 g) size ls within (λ l one two. ap (λ b. (l.0 == f) && b) (same l.1 two)))
    ∙ so_far ls n f g

still : (ls : List (ℕ × ℕ)) (size g : ℕ) → AreWithin size ls → (j n : ℕ) → ((f : ℕ) → f < size → reaches ls n f g ≡ reaches_before ls n f g) → (f : ℕ) → reaches ls (j + n) f g ≡ reaches ls n f g
still ls size g within zero n same f = ap (λ k. reaches ls k f g) (let e : 0 + n ≡ n = omega arith in e)
still ls size g within (suc j) n same f =
    ap (λ k. reaches ls k f g) (let e : suc j + n ≡ j + suc n = omega arith in e)
    ∙ still ls size g within j (suc n) (λ h lt. settled ls size n g within same h) f
    ∙ settled ls size n g within same f

pub Reached-all : (ls : List (ℕ × ℕ)) (size n rounds target : ℕ) (marks : List Bool) → AreWithin size ls → n ≤ rounds → Reached ls size n target marks [] → Marks ls size rounds target marks
Reached-all ls size n rounds target marks within le r = record {
  long = r.marked.long;
  right = λ f lt.
      r.marked.right f lt
      ∙ sym (still ls size target within (rounds - n) n (λ h less. r.last.covers h less ∙ or_false (reaches_before ls n h target)) f)
      ∙ ap (λ k. reaches ls k f target) (let e : (rounds - n) + n ≡ rounds = omega arith in e);
}

pub empty_if : (xs : List ℕ) → length xs ≡ 0 → xs ≡ []
empty_if [] e = refl
empty_if (x ∷ xs) e = absurd (omega arith)
