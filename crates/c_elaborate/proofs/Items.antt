-- Items that an initialiser gives, row by row.
use Rattle.std.proofs.Common.{◌≡◌, ℕ, suc, ◌+◌, ◌-◌, ◌*◌, ◌<◌, ◌≤◌, ◌∙◌, sym, ap, List, [], ◌∷◌, ◌++◌, length, drop, get_or, replicate, Option, None, arith, append_assoc, subst, Vec, Global}
use Rattle.std.proofs.Math.Seq.{drop-cons}
use Rattle.std.proofs.Math.ListN.{drop_of_length-le}
use Rattle.hls_base.specs.declared.place.Place.{Place}
use Rattle.hls_base.specs.ArrayAddress.{element_count}
use Rattle.c_tree.specs.declared.object.Init.{Init}
use Rattle.c_tree.specs.declared.object.Init.TheVariants as variant
use Rattle.c_tree.specs.Tree.{Tree}
use Rattle.c_tree.specs.View.{init_of, inits_of}
use Rattle.c_meaning.specs.Statement.{items_of, rows_of}
use Rattle.c_meaning.proofs.InitTrees.{list_tree}

same_rest : (item : Init) (items : List Init) (a b : ℕ) → a ≡ b → item ∷ drop a items ≡ item ∷ drop b items
same_rest item items a b e = ap (λ k. item ∷ drop k items) e

one_row : (n m : ℕ) (inner : List ℕ) (items rest : List Init) (item : Init) → items ≡ item ∷ rest → m ≡ n - 1
    → rows_of n inner (inits_of items) ≡ items_of inner (init_of item) ++ rows_of m inner (inits_of rest)
one_row n m inner items rest item is less =
    ap (λ l. rows_of n inner (inits_of l)) is ∙ ap (λ k. items_of inner (init_of item) ++ rows_of k inner (inits_of rest)) (sym less)

rows_more : (len : ℕ) (inner : List ℕ) (items : List Init) (i : ℕ) (item : Init) → i < length items → item ≡ get_or items i item
    → rows_of (len - i) inner (inits_of (drop i items)) ≡ items_of inner (init_of item) ++ rows_of (len - (i + 1)) inner (inits_of (drop (i + 1) items))
rows_more len inner items i item lt is =
    one_row (len - i) (len - (i + 1)) inner (drop i items) (drop (i + 1) items) item
    (drop-cons items i item lt ∙ (ap (λ x. x ∷ drop (suc i) items) (sym is) ∙ same_rest item items (suc i) (i + 1) (omega arith))) (omega arith)

rows_step : (len : ℕ) (inner : List ℕ) (items : List Init) (i : ℕ) (item : Init) (old new all : List (Option Tree)) → i < length items → item ≡ get_or items i item
    → new ≡ old ++ items_of inner (init_of item) → old ++ rows_of (len - i) inner (inits_of (drop i items)) ≡ all
    → new ++ rows_of (len - (i + 1)) inner (inits_of (drop (i + 1) items)) ≡ all
rows_step len inner items i item old new all lt is added so_far =
    ap (λ l. l ++ rows_of (len - (i + 1)) inner (inits_of (drop (i + 1) items))) added
    ∙ (append_assoc old (items_of inner (init_of item)) (rows_of (len - (i + 1)) inner (inits_of (drop (i + 1) items)))
    ∙ (ap (λ l. old ++ l) (sym (rows_more len inner items i item lt is)) ∙ so_far))

-- the same over a slice of the items
pub rows_turn : (len : ℕ) (inner : List ℕ) (items slice : List Init) (i : ℕ) (item : Init) (old new all : List (Option Tree)) → slice ≡ items → i < length slice → item ≡ get_or slice i item
    → new ≡ old ++ items_of inner (init_of item) → old ++ rows_of (len - i) inner (inits_of (drop i items)) ≡ all
    → new ++ rows_of (len - (i + 1)) inner (inits_of (drop (i + 1) items)) ≡ all
rows_turn len inner items slice i item old new all e lt is added so_far =
    rows_step len inner items i item old new all (subst (λ l. i < length l) e lt) (subst (λ l. item ≡ get_or l i item) e is) added so_far

pub rows_done : (lengths : List ℕ) (len : ℕ) (inner : List ℕ) (init : Init) (items : Vec Init Global) (at : Place) (i count : ℕ) (old new first : List (Option Tree)) → lengths ≡ len ∷ inner → init ≡ variant.List items at
    → length items.items ≤ i → i ≤ length items.items → old ++ rows_of (len - i) inner (inits_of (drop i items.items)) ≡ first ++ rows_of len inner (inits_of items.items)
    → count ≡ (len - length items.items) * element_count inner → new ≡ old ++ replicate count None → new ≡ first ++ items_of lengths (init_of init)
rows_done lengths len inner init items at i count old new first is_lengths is_init past within so_far is_count added =
    added
    ∙ (ap (λ n. old ++ replicate n None) (is_count ∙ same_count)
    ∙ (ap (λ l. old ++ l) (sym (ap (λ l. rows_of (len - i) inner (inits_of l)) (drop_of_length-le items.items past)))
    ∙ (so_far
    ∙ ap (λ l. first ++ l) (sym (ap (λ l. items_of l (init_of init)) is_lengths ∙ (ap (λ o. items_of (len ∷ inner) (init_of o)) is_init ∙ ap (items_of (len ∷ inner)) (list_tree items at)))))))
  where
    same_index : i ≡ length items.items
    same_index = omega (arith, past, within)

    same_count : (len - length items.items) * element_count inner ≡ (len - i) * element_count inner
    same_count = ap (λ k. (len - k) * element_count inner) (sym same_index)
