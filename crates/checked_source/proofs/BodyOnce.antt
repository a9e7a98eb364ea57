-- A program without faults has one body of each function, and so one top function.
use Rattle.std.proofs.Common.{◌≡◌, ℕ, zero, suc, Bool, true, false, List, [], ◌∷◌, ◌++◌, Option, Some, None, is_some, refl, sym, ap, subst, ◌∙◌, slice_get, bytes_eq}
use Rattle.std.specs.Prelude.{◌&&◌, ◌||◌, if◌then◌else◌}
use Rattle.std.proofs.lemmas.Slice.Eq.{bytes_eq-Decides}
use Rattle.hls_base.specs.declared.place.Place.{Place}
use Rattle.hls_base.specs.declared.refusal.Refusal.{Refusal}
use Rattle.c_token.specs.Replacement.{is_in}
use Rattle.c_tree.specs.Tree as tree
use Rattle.c_tree.specs.Tree.{FunctionTree, ItemTree, ProgramTree}
use Rattle.c_meaning.specs.Checks.Faults.{fault_if}
use Rattle.c_meaning.specs.Checks.Names.{Declared, sense_of}
use Rattle.c_meaning.specs.Checks.Calls.{disagrees, with_function, declaration_faults}
use Rattle.c_meaning.specs.Checks.Statements.{function_faults}
use Rattle.c_meaning.specs.Checks.Programs.{items_faults, item_faults, with_body, with_item, body_names, program_faults, top_name, body_name_of}
use Rattle.checked_source.specs.Sources.{IsTopFunction}

-- ---- words

in_front : (word : List ℕ) (xs ys : List (List ℕ)) → is_in word (xs ++ ys) ≡ false → is_in word xs ≡ false
in_front word [] ys e = refl
in_front word (x ∷ xs) ys e = go (bytes_eq word x) e (in_front word xs ys)
  where
    go : (b : Bool) → (b || is_in word (xs ++ ys)) ≡ false → (is_in word (xs ++ ys) ≡ false → is_in word xs ≡ false) → (b || is_in word xs) ≡ false
    go true e rest = absurd cc
    go false e rest = rest e

in_itself : (word : List ℕ) (xs : List (List ℕ)) → is_in word (xs ++ word ∷ []) ≡ true
in_itself word [] = ap (λ b. b || false) ((bytes_eq-Decides word word).1 refl)
in_itself word (x ∷ xs) = go (bytes_eq word x) (in_itself word xs)
  where
    go : (b : Bool) → is_in word (xs ++ word ∷ []) ≡ true → (b || is_in word (xs ++ word ∷ [])) ≡ true
    go true e = refl
    go false e = e

-- ---- faults

first_empty : (xs ys : List Refusal) → xs ++ ys ≡ [] → xs ≡ []
first_empty [] ys e = refl
first_empty (x ∷ xs) ys e = absurd cc

last_empty : (xs ys : List Refusal) → xs ++ ys ≡ [] → ys ≡ []
last_empty [] ys e = e
last_empty (x ∷ xs) ys e = absurd cc

not_broken : (test : Bool) (rule : ℕ) (at : Place) → fault_if test rule at ≡ [] → test ≡ false
not_broken true rule at e = absurd cc
not_broken false rule at e = refl

second_false : (a b c : Bool) → (a || (b && c)) ≡ false → b ≡ true → c ≡ false
second_false true b c e f = absurd cc
second_false false true c e f = e
second_false false false c e f = absurd cc

-- rule 8 at a function with a body
new_body : (bodies before : List (List ℕ)) (names : List Declared) (f : FunctionTree) → item_faults bodies before names (tree.function f) ≡ [] → is_some f.body ≡ true → is_in f.name before ≡ false
new_body bodies before names f none body =
    let declared : declaration_faults before names f ≡ [] = first_empty (declaration_faults before names f) (function_faults bodies (with_function f names) f) none in
    second_false (disagrees f (sense_of f.name names)) (is_some f.body) (is_in f.name before) (not_broken _ 8 f.at declared) body

-- ---- items

-- the function with this name has a body as the item with this index
record HasBody (items : List ItemTree) (name : List ℕ) (index : ℕ) (f : FunctionTree) : Type 0 where
  pub item : slice_get items index ≡ Some (tree.function f)
  pub body : is_some f.body ≡ true
  pub named : f.name ≡ name

before_item : (word : List ℕ) (item : ItemTree) (before : List (List ℕ)) → is_in word (with_body item before) ≡ false → is_in word before ≡ false
before_item word (tree.objects os) before e = e
before_item word (tree.function f) before e = go (is_some f.body) e
  where
    go : (b : Bool) → is_in word (if b then before ++ f.name ∷ [] else before) ≡ false → is_in word before ≡ false
    go true e = in_front word before (f.name ∷ []) e
    go false e = e

rest_clean : (bodies before : List (List ℕ)) (names : List Declared) (item : ItemTree) (items : List ItemTree) → items_faults bodies before names (item ∷ items) ≡ [] → items_faults bodies (with_body item before) (with_item item names) items ≡ []
rest_clean bodies before names item items none = last_empty (item_faults bodies before names item) _ none

head_clean : (bodies before : List (List ℕ)) (names : List Declared) (item : ItemTree) (items : List ItemTree) → items_faults bodies before names (item ∷ items) ≡ [] → item_faults bodies before names item ≡ []
head_clean bodies before names item items none = first_empty (item_faults bodies before names item) (items_faults bodies (with_body item before) (with_item item names) items) none

-- a body behind others is that of another function
new_name : (bodies before : List (List ℕ)) (names : List Declared) (items : List ItemTree) (index : ℕ) (f : FunctionTree) → items_faults bodies before names items ≡ []
    → slice_get items index ≡ Some (tree.function f) → is_some f.body ≡ true → is_in f.name before ≡ false
new_name bodies before names [] index f none item body = absurd cc
new_name bodies before names (first ∷ items) zero f none item body =
    let here : first ≡ tree.function f = cc in
    new_body bodies before names f (subst (λ x. item_faults bodies before names x ≡ []) here (head_clean bodies before names first items none)) body
new_name bodies before names (first ∷ items) (suc index) f none item body =
    before_item f.name first before (new_name bodies (with_body first before) (with_item first names) items index f (rest_clean bodies before names first items none) item body)

-- the first item's name is among the bodies behind it
first_name : (f : FunctionTree) (before : List (List ℕ)) → is_some f.body ≡ true → is_in f.name (with_body (tree.function f) before) ≡ true
first_name f before body = go (is_some f.body) body
  where
    go : (b : Bool) → b ≡ true → is_in f.name (if b then before ++ f.name ∷ [] else before) ≡ true
    go true e = in_itself f.name before
    go false e = absurd cc

not_again : (bodies before : List (List ℕ)) (names : List Declared) (first : ItemTree) (items : List ItemTree) (name : List ℕ) (index : ℕ) (f g : FunctionTree)
    → items_faults bodies before names (first ∷ items) ≡ [] → first ≡ tree.function f → is_some f.body ≡ true → f.name ≡ name → HasBody items name index g → ⊥
not_again bodies before names first items name index f g none here body named again =
    let new : is_in g.name (with_body first before) ≡ false = new_name bodies (with_body first before) (with_item first names) items index g (rest_clean bodies before names first items none) again.item again.body in
    let old : is_in f.name (with_body first before) ≡ true = subst (λ x. is_in f.name (with_body x before) ≡ true) (sym here) (first_name f before body) in
    let same : g.name ≡ f.name = again.named ∙ sym named in
    let both : false ≡ true = sym new ∙ (ap (λ x. is_in x (with_body first before)) same ∙ old) in
    cc

one_item : (bodies before : List (List ℕ)) (names : List Declared) (items : List ItemTree) (name : List ℕ) (i j : ℕ) (f g : FunctionTree)
    → items_faults bodies before names items ≡ [] → HasBody items name i f → HasBody items name j g → i ≡ j
one_item bodies before names [] name i j f g none a b = (let x : ◌≡◌ {A = Option ItemTree} None (Some (tree.function f)) = a.item in absurd cc)
one_item bodies before names (first ∷ items) name zero zero f g none a b = refl
one_item bodies before names (first ∷ items) name zero (suc j) f g none a b =
    let one : Some first ≡ Some (tree.function f) = a.item in
    let here : first ≡ tree.function f = cc in
    absurd (not_again bodies before names first items name j f g none here a.body a.named (record { item = b.item; body = b.body; named = b.named }))
one_item bodies before names (first ∷ items) name (suc i) zero f g none a b =
    let one : Some first ≡ Some (tree.function g) = b.item in
    let here : first ≡ tree.function g = cc in
    absurd (not_again bodies before names first items name i g f none here b.body b.named (record { item = a.item; body = a.body; named = a.named }))
one_item bodies before names (first ∷ items) name (suc i) (suc j) f g none a b =
    ap suc (one_item bodies (with_body first before) (with_item first names) items name i j f g (rest_clean bodies before names first items none)
    (record { item = a.item; body = a.body; named = a.named }) (record { item = b.item; body = b.body; named = b.named }))

-- ---- the top function

has_body : (p : ProgramTree) (top : List ℕ) (i : ℕ) (f : FunctionTree) → IsTopFunction p top i f → HasBody p.items top i f
has_body p top i f is = record { item = is.item; body = is.has_body; named = is.named }

pub one_top : (p : ProgramTree) (top : List ℕ) (i j : ℕ) (f g : FunctionTree) → program_faults p top ≡ [] → IsTopFunction p top i f → IsTopFunction p top j g → i ≡ j
one_top p top i j f g none a b =
    one_item (body_names p.items) [] [] p.items top i j f g (first_empty (items_faults (body_names p.items) [] [] p.items) _ none) (has_body p top i f a) (has_body p top j g b)

pub one_top_function : (p : ProgramTree) (top : List ℕ) (i j : ℕ) (f g : FunctionTree) → program_faults p top ≡ [] → IsTopFunction p top i f → IsTopFunction p top j g → f ≡ g
one_top_function p top i j f g none a b =
    let same : Some (tree.function f) ≡ Some (tree.function g) = sym a.item ∙ (ap (slice_get p.items) (one_top p top i j f g none a b) ∙ b.item) in
    cc

pub top_named : (p : ProgramTree) (index : ℕ) (f : FunctionTree) (top : List ℕ) → top_name p index ≡ Some top → slice_get p.items index ≡ Some (tree.function f) → is_some f.body ≡ true → f.name ≡ top
top_named p index f top named item body = go (is_some f.body) body (ap body_name_of (sym item) ∙ named)
  where
    go : (b : Bool) → b ≡ true → (if b then Some f.name else None) ≡ Some top → f.name ≡ top
    go true e same = cc
    go false e same = absurd cc

body_of : (p : ProgramTree) (index : ℕ) (top : List ℕ) (item : Option ItemTree) → slice_get p.items index ≡ item → body_name_of item ≡ Some top → (g : FunctionTree) × IsTopFunction p top index g
body_of p index top None e named = absurd cc
body_of p index top (Some (tree.objects os)) e named = absurd cc
body_of p index top (Some (tree.function g)) e named = go (is_some g.body) refl named
  where
    go : (b : Bool) → is_some g.body ≡ b → (if b then Some g.name else None) ≡ Some top → (g : FunctionTree) × IsTopFunction p top index g
    go true has same = (g, record { item = e; has_body = has; named = cc })
    go false has same = absurd cc

pub top_of : (p : ProgramTree) (index : ℕ) (top : List ℕ) → top_name p index ≡ Some top → (g : FunctionTree) × IsTopFunction p top index g
top_of p index top named = body_of p index top (slice_get p.items index) refl named
