-- The calls of a chain of operators: what is at the right of each is added from the last to the first.
use Rattle.std.proofs.Common.{◌≡◌, ℕ, ◌+◌, ◌<◌, List, [], ◌∷◌, ◌++◌, length, drop, get_or, Option, Vec, Box, Global, refl, sym, ap, ◌∙◌, append_assoc, append-nil}
use Rattle.std.specs.Prelude.{Result, OnOk}
use Rattle.std.proofs.lemmas.List.{at_drop_more}
use Rattle.std.proofs.lemmas.Result.{on_ok_weaker}
use Rattle.hls_base.specs.declared.place.Place.{Place}
use Rattle.c_tree.specs.declared.operator.Binary.{Binary}
use Rattle.c_tree.specs.declared.expression.Expr.{Expr}
use Rattle.c_tree.specs.declared.expression.Expr.TheVariants as e
use Rattle.c_tree.specs.declared.expression.Target.{Target}
use Rattle.c_tree.specs.Tree as tree
use Rattle.c_tree.specs.Tree.{ItemTree}
use Rattle.c_tree.specs.View.{tree_of, target_of}
use Rattle.c_meaning.specs.Checks.Names.{Declared}
use Rattle.c_meaning.specs.Checks.Recursion.{Called, calls, target_calls, callers}
use Rattle.c_meaning.specs.Checks.Programs.{with_item}
use Rattle.c_calls.specs.Called.{backwards}
use Rattle.c_names.proofs.DeclarationsLemmas.Trees.{binary_tree, choice_tree, assign_tree, comma_tree}

pub backwards_more : (found : List (Vec Called Global)) (last : Vec Called Global) → backwards (found ++ last ∷ []) ≡ last.items ++ backwards found
backwards_more [] last = sym (append-nil last.items)
backwards_more (f ∷ found) last = ap (λ xs. xs ++ f.items) (backwards_more found last) ∙ append_assoc last.items (backwards found) f.items

module _ (names : List Declared) (before after : List (Vec Called Global)) (found : Vec Called Global) (done total : List Called) (grown : after ≡ before ++ found ∷ []) where
  one_more : (left right : List Called) → found.items ≡ right → (done ++ left) ++ backwards after ≡ (done ++ (left ++ right)) ++ backwards before
  one_more left right f =
      ap (λ xs. (done ++ left) ++ xs) (ap backwards grown ∙ backwards_more before found ∙ ap (λ xs. xs ++ backwards before) f)
      ∙ sym (append_assoc (done ++ left) right (backwards before)) ∙ ap (λ xs. xs ++ backwards before) (append_assoc done left right)

  pub binary_more : (op : Binary) (l r : Box Expr Global) (at : Place) → found.items ≡ calls names (tree_of r.value)
      → (done ++ calls names (tree_of (e.Binary op l r at))) ++ backwards before ≡ total → (done ++ calls names (tree_of l.value)) ++ backwards after ≡ total
  binary_more op l r at f whole =
      one_more (calls names (tree_of l.value)) (calls names (tree_of r.value)) f ∙ ap (λ t. (done ++ calls names t) ++ backwards before) (sym (binary_tree op l r at)) ∙ whole

  pub comma_more : (l r : Box Expr Global) (at : Place) → found.items ≡ calls names (tree_of r.value)
      → (done ++ calls names (tree_of (e.Comma l r at))) ++ backwards before ≡ total → (done ++ calls names (tree_of l.value)) ++ backwards after ≡ total
  comma_more l r at f whole =
      one_more (calls names (tree_of l.value)) (calls names (tree_of r.value)) f ∙ ap (λ t. (done ++ calls names t) ++ backwards before) (sym (comma_tree l r at)) ∙ whole

module _ (names : List Declared) (rest done total : List Called) where
  pub assign_more : (t : Target) (op : Option Binary) (v : Box Expr Global) (at : Place) (done' : List Called) → done' ≡ done ++ target_calls names (target_of t)
      → (done ++ calls names (tree_of (e.Assign t op v at))) ++ rest ≡ total → (done' ++ calls names (tree_of v.value)) ++ rest ≡ total
  assign_more t op v at done' grown whole =
      let value = calls names (tree_of v.value) in
      ap (λ xs. (xs ++ value) ++ rest) grown ∙ ap (λ xs. xs ++ rest) (append_assoc done (target_calls names (target_of t)) value)
      ∙ ap (λ u. (done ++ calls names u) ++ rest) (sym (assign_tree t op v at)) ∙ whole

  pub choice_more : (test left right : Box Expr Global) (at colon : Place) (done' done'' : List Called) → done' ≡ done ++ calls names (tree_of test.value) → done'' ≡ done' ++ calls names (tree_of left.value)
      → (done ++ calls names (tree_of (e.Choice test left right at colon))) ++ rest ≡ total → (done'' ++ calls names (tree_of right.value)) ++ rest ≡ total
  choice_more test left right at colon done' done'' tested grown whole =
      let first = calls names (tree_of test.value) in
      let second = calls names (tree_of left.value) in
      let third = calls names (tree_of right.value) in
      ap (λ xs. (xs ++ third) ++ rest) (grown ∙ ap (λ xs. xs ++ second) tested)
      ∙ ap (λ xs. xs ++ rest) (append_assoc (done ++ first) second third ∙ append_assoc done first (second ++ third))
      ∙ ap (λ u. (done ++ calls names u) ++ rest) (sym (choice_tree test left right at colon)) ∙ whole

-- ---- what is found in parts, one behind another

pub where_found : {T E P Q : Type 0} (r : Result T E) → OnOk r P → (P → Q) → OnOk r Q
where_found r found f = on_ok_weaker r f found

pub two_parts : {B : Type 0} (done mid new first second whole : List B) → whole ≡ first ++ second → mid ≡ done ++ first → new ≡ mid ++ second → new ≡ done ++ whole
two_parts done mid new first second whole parts one two =
    two ∙ ap (λ xs. xs ++ second) one ∙ append_assoc done first second ∙ ap (λ xs. done ++ xs) (sym parts)

pub three_parts : {B : Type 0} (done one two new first second third whole : List B) → whole ≡ first ++ (second ++ third)
    → one ≡ done ++ first → two ≡ one ++ second → new ≡ two ++ third → new ≡ done ++ whole
three_parts done one two new first second third whole parts a b c =
    two_parts done one new first (second ++ third) whole parts a (two_parts one two new second third (second ++ third) refl b c)

pub four_parts : {B : Type 0} (done one two three new first second third fourth whole : List B) → whole ≡ first ++ (second ++ (third ++ fourth))
    → one ≡ done ++ first → two ≡ one ++ second → three ≡ two ++ third → new ≡ three ++ fourth → new ≡ done ++ whole
four_parts done one two three new first second third fourth whole parts a b c d =
    two_parts done one new first (second ++ (third ++ fourth)) whole parts a (three_parts one two three new second third fourth (second ++ (third ++ fourth)) refl b c d)

-- ---- a loop's step where the names go on from element to element

pub grown_thread : {A B S : Type 0} (F : S → List A → List B) (H : S → A → List B) (N : S → A → S) → ((s : S) (x : A) (xs : List A) → F s (x ∷ xs) ≡ H s x ++ F (N s x) xs) →
    (xs : List A) (i : ℕ) (x : A) (s t : S) (done done' total : List B) → i < length xs → x ≡ get_or xs i x → done' ≡ done ++ H s x → t ≡ N s x →
    done ++ F s (drop i xs) ≡ total → done' ++ F t (drop (i + 1) xs) ≡ total
grown_thread F H N law xs i x s t done done' total lt is grown n invariant =
    ap (λ ds. ds ++ F t (drop (i + 1) xs)) grown ∙ ap (λ u. (done ++ H s x) ++ F u (drop (i + 1) xs)) n
    ∙ append_assoc done (H s x) (F (N s x) (drop (i + 1) xs))
    ∙ ap (λ ys. done ++ ys) (sym (law s x (drop (i + 1) xs)) ∙ ap (λ y. F s (y ∷ drop (i + 1) xs)) is ∙ sym (at_drop_more (F s) xs i x lt))
    ∙ invariant

pub callers_more : (names : List Declared) (item : ItemTree) (items : List ItemTree) → callers names (item ∷ items) ≡ callers names (item ∷ []) ++ callers (with_item item names) items
callers_more names (tree.objects os) items = refl
callers_more names (tree.function f) items = refl
