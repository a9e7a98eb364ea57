-- Counts that go up.
use Rattle.std.proofs.Common.{◌≡◌, ◌<◌, ℕ, suc, ◌+◌, Bool, List, [], ◌∷◌, ◌++◌, length, map, take, get_or, slice_get, Some, sym, ap, ap₂, ◌∙◌, subst, arith}
use Rattle.std.specs.Prelude.{fold}
use Rattle.std.specs.List.{enumerate_from}
use Rattle.std.proofs.lemmas.List.{take_more, length-take-le, map-append}
use Rattle.std.proofs.lemmas.List.Sums.{fold-append}
use Rattle.std.proofs.lemmas.Option.{same_Some, slice_get-get_or, slice_get_within}
use Rattle.ir_core.specs.declared.body.Op.{Op}
use Rattle.ir_core.specs.declared.cfg.Node.{Node}
use Rattle.ir_core.specs.declared.timed.Timed.{Timed}
use Rattle.circuit_context.specs.Counting.{reached, reached_in, reached_by, ops_in, ports_from, row_in, span_of, Reaches}
use Rattle.circuit_context.proofs.Loading.{ops_more}

pub enumerate_more : {X : Type 0} (n : ℕ) (xs : List X) (x : X) → enumerate_from n (xs ++ x ∷ []) ≡ enumerate_from n xs ++ (n + length xs, x) ∷ []
enumerate_more n [] x = let e : n ≡ n + 0 = omega arith in ap (λ k. (k, x) ∷ []) e
enumerate_more n (y ∷ xs) x =
    let e : n + 1 + length xs ≡ n + suc (length xs) = omega arith in
    ap (λ l. (n, y) ∷ l) (enumerate_more (n + 1) xs x ∙ ap (λ k. enumerate_from (n + 1) xs ++ (k, x) ∷ []) e)

-- the operations up to one more
reached_more : (a n k : ℕ) (ops : List (Op Timed)) (row : List ℕ) (op : Op Timed) → k < length ops → op ≡ get_or ops k op
    → reached_in a n (take (k + 1) ops) row ≡ reached a (reached_in a n (take k ops) row) op (get_or row k 0)
reached_more a n k ops row op within is =
    let step : ℕ → ℕ × Op Timed → ℕ = λ m x. reached a m x.1 (get_or row x.0 0) in
    let longer = ops_more ops k op within is in
    let number : 0 + length (take k ops) ≡ k = omega (arith, length-take-le k ops (omega (arith, within))) in
    ap (λ l. fold step n (enumerate_from 0 l)) longer
    ∙ (ap (fold step n) (enumerate_more 0 (take k ops) op ∙ ap (λ j. enumerate_from 0 (take k ops) ++ (j, op) ∷ []) number) ∙ fold-append step n (enumerate_from 0 (take k ops)) ((k, op) ∷ []))

pub reaches_more : (xs ys zs : List ℕ) (ops : List (Op Timed)) (row : List ℕ) (k : ℕ) (op : Op Timed) → k < length ops → op ≡ get_or ops k op → Reaches xs ys (λ a n. reached_in a n (take k ops) row)
    → Reaches ys zs (λ a n. reached a n op (get_or row k 0)) → Reaches xs zs (λ a n. reached_in a n (take (k + 1) ops) row)
reaches_more xs ys zs ops row k op within is h g = record {
  count = g.count ∙ h.count;
  each = λ a n at. g.each a (reached_in a n (take k ops) row) (h.each a n at) ∙ ap (λ m. Some m) (sym (reached_more a n k ops row op within is));
}

-- what was there before
earlier : (xs ys : List ℕ) (a m : ℕ) → length ys ≡ length xs → slice_get ys a ≡ Some m → (n : ℕ) × (slice_get xs a ≡ Some n)
earlier xs ys a m same at = (get_or xs a 0, slice_get-get_or xs a 0 (omega (arith, slice_get_within ys a m at, same)))

nodes_longer : (nodes : List (Node Timed)) (k : ℕ) (n : Node Timed) → k < length nodes → n ≡ get_or nodes k n → take (k + 1) nodes ≡ take k nodes ++ n ∷ []
nodes_longer nodes k n within is = take_more nodes k n within ∙ ap (λ o. take k nodes ++ o ∷ []) (sym is)

-- the row of a node
pub row_is : (tables : ℕ → Bool) (n : Node Timed) (span : ℕ) (ops : List (Op Timed)) (row : List ℕ) → span ≡ span_of n → ops ≡ ops_in n → row ≡ ports_from tables span ops [] ops → row ≡ row_in tables n
row_is tables n span ops row wide own is = is ∙ ap₂ (λ s l. ports_from tables s l [] l) wide own

pub rows_more : (tables : ℕ → Bool) (nodes : List (Node Timed)) (rows after : List (List ℕ)) (row : List ℕ) (k : ℕ) (n : Node Timed) → k < length nodes → n ≡ get_or nodes k n → row ≡ row_in tables n
    → rows ≡ map (row_in tables) (take k nodes) → after ≡ rows ++ row ∷ [] → after ≡ map (row_in tables) (take (k + 1) nodes)
rows_more tables nodes rows after row k n within is own was pushed =
    pushed ∙ (ap₂ (λ l r. l ++ r ∷ []) was own ∙ sym (ap (map (row_in tables)) (nodes_longer nodes k n within is) ∙ map-append (row_in tables) (take k nodes) (n ∷ [])))

pub reaches_as : (xs ys : List ℕ) (ops own : List (Op Timed)) (row is : List ℕ) → ops ≡ own → row ≡ is → Reaches xs ys (λ a n. reached_in a n ops row) → Reaches xs ys (λ a n. reached_in a n own is)
reaches_as xs ys ops own row is e f h = subst (λ r. Reaches xs ys (λ a n. reached_in a n own r)) f (subst (λ o. Reaches xs ys (λ a n. reached_in a n o row)) e h)

-- the nodes up to one more
pub nodes_more : (tables : ℕ → Bool) (xs ys : List ℕ) (nodes : List (Node Timed)) (row : List ℕ) (k : ℕ) (n : Node Timed) → k < length nodes → n ≡ get_or nodes k n → row ≡ row_in tables n
    → Reaches xs ys (λ a m. reached_in a m (ops_in n) row) → ((a m : ℕ) → slice_get xs a ≡ Some m → m ≡ reached_by tables a 1 (take k nodes))
    → (a m : ℕ) → slice_get ys a ≡ Some m → m ≡ reached_by tables a 1 (take (k + 1) nodes)
nodes_more tables xs ys nodes row k n within is own h before a m at =
    let was = earlier xs ys a m h.count at in
    let step : ℕ → Node Timed → ℕ = λ j x. reached_in a j (ops_in x) (row_in tables x) in
    let longer = nodes_longer nodes k n within is in
    same_Some m (reached_in a was.0 (ops_in n) row) (sym at ∙ h.each a was.0 was.1)
    ∙ (ap₂ (λ j l. reached_in a j (ops_in n) l) (before a was.0 was.1) own ∙ sym (ap (fold step 1) longer ∙ fold-append step 1 (take k nodes) (n ∷ [])))
