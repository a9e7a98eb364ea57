-- A list without a least fault is empty, and a least fault is less than none.
use Rattle.std.proofs.Common.{◌≡◌, ℕ, zero, suc, ◌<◌, ◌≤◌, nat_lt, ◌==◌, ◌&&◌, ◌||◌, not, Bool, true, false, List, [], ◌∷◌, ◌++◌, Option, Some, None, is_some, All, IsTrue, refl, sym, ap, subst, ◌∙◌, arith, length, map, get_or, slice_get, bytes_eq, if◌then◌else◌, inl, inr, Vec, Global}
use Rattle.std.proofs.lemmas.Slice.Eq.{bytes_eq-Decides}
use Rattle.hls_base.specs.declared.place.Place.{Place}
use Rattle.hls_base.specs.declared.refusal.Refusal.{Refusal}
use Rattle.c_token.specs.Replacement.{is_in}
use Rattle.std.proofs.lemmas.Bool.{cases_lt}
use Rattle.c_tree.specs.declared.statement.Stmt.{Stmt}
use Rattle.c_tree.specs.View.{body_of}
use Rattle.c_tree.specs.Tree as tree
use Rattle.c_tree.specs.Tree.{ItemTree, ProgramTree}
use Rattle.c_meaning.specs.Checks.Faults.{is_lesser, lesser, least, IsLeast, fault_if}
use Rattle.c_meaning.specs.Checks.Recursion.{callers, recursion_faults}
use Rattle.c_meaning.specs.Checks.Limits.{limit_faults, new_function_places, file_arrays, file_objects, kept_faults}
use Rattle.c_meaning.specs.Checks.Programs.{items_faults, body_names, top_faults, program_faults, is_empty, body_name_of, is_body_of, top_name, is_faultless, is_well_formed}
use Rattle.c_names.proofs.DeclarationsLemmas.Least.{less-trans, less-trans-not}

-- ---- the least fault

lesser_some : (r : Refusal) (s : Option Refusal) → lesser (Some r) s ≡ None → ⊥
lesser_some r None e = cc
lesser_some r (Some s) e = either (is_lesser s r) e
  where
    either : (b : Bool) → (if b then Some s else Some r) ≡ None → ⊥
    either true e = cc
    either false e = cc

pub no_fault : (rs : List Refusal) → least rs ≡ None → rs ≡ []
no_fault [] e = refl
no_fault (r ∷ rs) e = absurd (lesser_some r (least rs) e)

by-self : (a : ℕ) (p : Bool) → (nat_lt a a || ((a == a) && p)) ≡ p
by-self a p = grind arith

less-self : (r : Refusal) → is_lesser r r ≡ false
less-self r = by-self r.place.line _ ∙ by-self r.place.column _ ∙ by-self r.place.part _ ∙ last
  where
    last : nat_lt r.rule r.rule ≡ false
    last = grind arith

less-one-way : (r s : Refusal) (b : Bool) → is_lesser r s ≡ true → is_lesser s r ≡ b → b ≡ false
less-one-way r s true e f = sym (less-trans r s r e f) ∙ less-self r
less-one-way r s false e f = refl

least_of_two : (r m : Refusal) (rs : List Refusal) (b : Bool) (x : Refusal) → is_lesser m r ≡ b → IsLeast rs m → (if b then Some m else Some r) ≡ Some x → IsLeast (r ∷ rs) x
least_of_two r m rs true x e (found, below) is =
    let same : m ≡ x = cc in
    let P : Refusal → Type 0 = λ y. IsLeast (r ∷ rs) y in
    subst P same ((suc found.0, omega (arith, found.1), found.2), all)
  where
    all : All (λ s. is_lesser s m ≡ false) (r ∷ rs)
    all zero d lt = less-one-way m r (is_lesser r m) e refl
    all (suc k) d lt = below k d (omega arith)
least_of_two r m rs false x e (found, below) is =
    let same : r ≡ x = cc in
    let P : Refusal → Type 0 = λ y. IsLeast (r ∷ rs) y in
    subst P same ((zero, omega arith, refl), all)
  where
    all : All (λ s. is_lesser s r ≡ false) (r ∷ rs)
    all zero d lt = less-self r
    all (suc k) d lt = less-trans-not (get_or rs k d) m r (below k d (omega arith)) e

least_alone : (r x : Refusal) (rs : List Refusal) → least rs ≡ None → Some r ≡ Some x → IsLeast (r ∷ rs) x
least_alone r x rs none is =
    let same : r ≡ x = cc in
    let P : Refusal → Type 0 = λ y. IsLeast (r ∷ rs) y in
    let Q : List Refusal → Type 0 = λ ys. IsLeast (r ∷ ys) r in
    subst P same (subst Q (sym (no_fault rs none)) ((zero, omega arith, refl), alone))
  where
    alone : All (λ s. is_lesser s r ≡ false) (r ∷ [])
    alone zero d lt = less-self r
    alone (suc k) d lt = absurd (omega arith)

least_of_more : (r x : Refusal) (rs : List Refusal) (o : Option Refusal) → ((m : Refusal) → least rs ≡ Some m → IsLeast rs m) → least rs ≡ o → lesser (Some r) o ≡ Some x → IsLeast (r ∷ rs) x
least_of_more r x rs None rest e is = least_alone r x rs e is
least_of_more r x rs (Some m) rest e is = least_of_two r m rs (is_lesser m r) x refl (rest m e) is

pub least_is_least : (rs : List Refusal) (x : Refusal) → least rs ≡ Some x → IsLeast rs x
least_is_least [] x e = absurd cc
least_is_least (r ∷ rs) x e = least_of_more r x rs (least rs) (least_is_least rs) refl e

-- ---- a program without faults

last_empty : (xs ys : List Refusal) → xs ++ ys ≡ [] → ys ≡ []
last_empty [] ys e = e
last_empty (x ∷ xs) ys e = absurd cc

not_broken : (b : Bool) (rule : ℕ) (at : Place) → fault_if (not b) rule at ≡ [] → b ≡ true
not_broken true rule at e = refl
not_broken false rule at e = absurd cc

pub top_is_defined : (p : ProgramTree) (top : List ℕ) → program_faults p top ≡ [] → is_in top (body_names p.items) ≡ true
top_is_defined p top e = not_broken (is_in top (body_names p.items)) 19 p.end
    (last_empty (kept_faults 0 (file_objects p.items)) (top_faults top p)
    (last_empty (limit_faults 32 35 (file_arrays p.items)) (kept_faults 0 (file_objects p.items) ++ top_faults top p)
    (last_empty (limit_faults 64 33 (new_function_places [] p.items)) (limit_faults 32 35 (file_arrays p.items) ++ (kept_faults 0 (file_objects p.items) ++ top_faults top p))
    (last_empty (recursion_faults (callers [] p.items) (callers [] p.items)) (limit_faults 64 33 (new_function_places [] p.items) ++ (limit_faults 32 35 (file_arrays p.items) ++ (kept_faults 0 (file_objects p.items) ++ top_faults top p)))
    (last_empty (items_faults (body_names p.items) [] [] p.items) _ e)))))

pub well_formed : (p : ProgramTree) (top : List ℕ) (index : ℕ) → top_name p index ≡ Some top → program_faults p top ≡ [] → IsTrue (is_well_formed p index)
well_formed p top index named clean =
    let P : Option (List ℕ) → Type 0 = λ o. IsTrue (is_faultless p o) in
    let Q : List Refusal → Type 0 = λ rs. IsTrue (is_empty rs) in
    subst P (sym named) (subst Q (sym clean) refl)

-- ---- the top function's item

get-map : {A B : Type 0} (f : A → B) (xs : List A) (i : ℕ) (x : A) → i < length xs → x ≡ get_or xs i x → slice_get (map f xs) i ≡ Some (f x)
get-map f [] i x lt e = absurd (omega arith)
get-map f (y ∷ ys) zero x lt e = ap (λ z. Some (f z)) (sym e)
get-map f (y ∷ ys) (suc i) x lt e = get-map f ys i x (omega arith) e

body_named : (item : ItemTree) (name : List ℕ) → is_body_of name item ≡ true → body_name_of (Some item) ≡ Some name
body_named (tree.objects os) name e = absurd cc
body_named (tree.function f) name e = named (is_some f.body) (bytes_eq name f.name) refl e
  where
    named : (b c : Bool) → bytes_eq name f.name ≡ c → (b && c) ≡ true → (if b then Some f.name else None) ≡ Some name
    named true true same e = ap Some (sym ((bytes_eq-Decides name f.name).0 same))
    named true false same e = absurd cc
    named false c same e = absurd cc

pub body_found : {A : Type 0} (f : A → ItemTree) (xs : List A) (i : ℕ) (x : A) (name : List ℕ) → i < length xs → x ≡ get_or xs i x → is_body_of name (f x) ≡ true → body_name_of (slice_get (map f xs) i) ≡ Some name
body_found f xs i x name lt e is = ap body_name_of (get-map f xs i x lt e) ∙ body_named (f x) name is

pub index_below : (index long : ℕ) (b : Bool) → b ≡ true → (long ≤ index → b ≡ false) → index < long
index_below index long b e f = elim (cases_lt index long) [ inl lt ↦ lt | inr le ↦ absurd (no_more b e (f le)) ]
  where
    no_more : (b : Bool) → b ≡ true → b ≡ false → ⊥
    no_more true e f = cc
    no_more false e f = cc

-- a body is there in the tree where it is there
pub body_some : (body : Option (Vec Stmt Global)) → is_some (body_of body) ≡ is_some body
body_some None = refl
body_some (Some body) = refl
