-- Elements that an initialiser gives, row by row.
use Rattle.std.proofs.Common.{◌≡◌, ℕ, suc, ◌+◌, ◌-◌, ◌*◌, ◌<◌, ◌≤◌, ◌∙◌, sym, ap, List, [], ◌∷◌, ◌++◌, map, length, drop, get_or, replicate, Option, Some, None, ℤ, pos, arith, append_assoc, subst, Vec, Global}
use Rattle.std.proofs.Math.Seq.{drop-cons}
use Rattle.std.proofs.Math.ListN.{drop_of_length-le}
use Rattle.std.proofs.lemmas.List.{map-append}
use Rattle.std.proofs.lemmas.List.Elements.{All-head, All-tail}
use Rattle.hls_base.specs.declared.place.Place.{Place}
use Rattle.hls_base.specs.ArrayAddress.{element_count}
use Rattle.c_token.specs.declared.ctype.CType.{CType}
use Rattle.c_tree.specs.declared.object.Init.{Init}
use Rattle.c_tree.specs.declared.object.Init.TheVariants as variant
use Rattle.c_tree.specs.Tree.{InitTree}
use Rattle.c_tree.specs.View.{init_of, inits_of}
use Rattle.c_meaning.specs.Statement.{items_of, rows_of}
use Rattle.c_meaning.specs.Run.{constant_item}
use Rattle.c_meaning.specs.Limits.{IsWithinLimits}
use Rattle.c_meaning.specs.Run.{file_items}
use Rattle.c_meaning.proofs.DimensionLengths.{inner_count-le}
use Rattle.c_meaning.proofs.InitTrees.{list_tree}
use Rattle.c_meaning.proofs.Rows.{map_replicate}

one_row : (kind : CType) (n m : ℕ) (inner : List ℕ) (items rest : List Init) (item : Init) → items ≡ item ∷ rest → m ≡ n - 1
    → map (constant_item kind) (rows_of n inner (inits_of items)) ≡ map (constant_item kind) (items_of inner (init_of item)) ++ map (constant_item kind) (rows_of m inner (inits_of rest))
one_row kind n m inner items rest item is less =
    ap (λ l. map (constant_item kind) (rows_of n inner (inits_of l))) is
    ∙ (map-append (constant_item kind) (items_of inner (init_of item)) (rows_of (n - 1) inner (inits_of rest))
    ∙ ap (λ k. map (constant_item kind) (items_of inner (init_of item)) ++ map (constant_item kind) (rows_of k inner (inits_of rest))) (sym less))

same_rest : (item : Init) (items : List Init) (a b : ℕ) → a ≡ b → item ∷ drop a items ≡ item ∷ drop b items
same_rest item items a b e = ap (λ k. item ∷ drop k items) e

pub rows_more : (kind : CType) (len : ℕ) (inner : List ℕ) (items : List Init) (i : ℕ) (item : Init) → i < length items → item ≡ get_or items i item
    → map (constant_item kind) (rows_of (len - i) inner (inits_of (drop i items)))
    ≡ map (constant_item kind) (items_of inner (init_of item)) ++ map (constant_item kind) (rows_of (len - (i + 1)) inner (inits_of (drop (i + 1) items)))
rows_more kind len inner items i item lt is =
    one_row kind (len - i) (len - (i + 1)) inner (drop i items) (drop (i + 1) items) item
    (drop-cons items i item lt ∙ (ap (λ x. x ∷ drop (suc i) items) (sym is) ∙ same_rest item items (suc i) (i + 1) (omega arith))) (omega arith)

pub rows_end : (kind : CType) (len : ℕ) (inner : List ℕ) (items : List Init) (i : ℕ) → length items ≤ i
    → map (constant_item kind) (rows_of (len - i) inner (inits_of (drop i items))) ≡ replicate ((len - i) * element_count inner) (Some (pos 0))
rows_end kind len inner items i le =
    ap (λ l. map (constant_item kind) (rows_of (len - i) inner (inits_of l))) (drop_of_length-le items le) ∙ map_replicate (constant_item kind) ((len - i) * element_count inner) None

pub rows_step : (kind : CType) (len : ℕ) (inner : List ℕ) (items : List Init) (i : ℕ) (item : Init) (old new all : List (Option ℤ)) → i < length items → item ≡ get_or items i item
    → new ≡ old ++ map (constant_item kind) (items_of inner (init_of item)) → old ++ map (constant_item kind) (rows_of (len - i) inner (inits_of (drop i items))) ≡ all
    → new ++ map (constant_item kind) (rows_of (len - (i + 1)) inner (inits_of (drop (i + 1) items))) ≡ all
rows_step kind len inner items i item old new all lt is added so_far =
    ap (λ l. l ++ map (constant_item kind) (rows_of (len - (i + 1)) inner (inits_of (drop (i + 1) items)))) added
    ∙ (append_assoc old (map (constant_item kind) (items_of inner (init_of item))) (map (constant_item kind) (rows_of (len - (i + 1)) inner (inits_of (drop (i + 1) items))))
    ∙ (ap (λ l. old ++ l) (sym (rows_more kind len inner items i item lt is)) ∙ so_far))

-- the same over a slice of the items
pub rows_turn : (kind : CType) (len : ℕ) (inner : List ℕ) (items slice : List Init) (i : ℕ) (item : Init) (old new all : List (Option ℤ)) → slice ≡ items → i < length slice → item ≡ get_or slice i item
    → new ≡ old ++ map (constant_item kind) (items_of inner (init_of item)) → old ++ map (constant_item kind) (rows_of (len - i) inner (inits_of (drop i items))) ≡ all
    → new ++ map (constant_item kind) (rows_of (len - (i + 1)) inner (inits_of (drop (i + 1) items))) ≡ all
rows_turn kind len inner items slice i item old new all e lt is added so_far =
    rows_step kind len inner items i item old new all (subst (λ l. i < length l) e lt) (subst (λ l. item ≡ get_or l i item) e is) added so_far

pub rows_done : (kind : CType) (lengths : List ℕ) (len : ℕ) (inner : List ℕ) (init : Init) (items : Vec Init Global) (at : Place) (i count : ℕ) (old new first : List (Option ℤ)) → lengths ≡ len ∷ inner → init ≡ variant.List items at
    → length items.items ≤ i → i ≤ length items.items → old ++ map (constant_item kind) (rows_of (len - i) inner (inits_of (drop i items.items))) ≡ first ++ map (constant_item kind) (rows_of len inner (inits_of items.items))
    → count ≡ (len - length items.items) * element_count inner → new ≡ old ++ replicate count (Some (pos 0)) → new ≡ first ++ map (constant_item kind) (items_of lengths (init_of init))
rows_done kind lengths len inner init items at i count old new first is_lengths is_init past within so_far is_count added =
    added
    ∙ (ap (λ n. old ++ replicate n (Some (pos 0))) (is_count ∙ same_count)
    ∙ (ap (λ l. old ++ l) (sym (rows_end kind len inner items.items i past))
    ∙ (so_far
    ∙ ap (λ l. first ++ map (constant_item kind) l) (sym (ap (λ l. items_of l (init_of init)) is_lengths ∙ (ap (λ o. items_of (len ∷ inner) (init_of o)) is_init ∙ ap (items_of (len ∷ inner)) (list_tree items at)))))))
  where
    same_index : i ≡ length items.items
    same_index = omega (arith, past, within)

    same_count : (len - length items.items) * element_count inner ≡ (len - i) * element_count inner
    same_count = ap (λ k. (len - k) * element_count inner) (sym same_index)

pub no_items : (kind : CType) (n : ℕ) → map (constant_item kind) (replicate n None) ≡ replicate n (Some (pos 0))
no_items kind n = map_replicate (constant_item kind) n None

pub zeros_alone : (kind : CType) (lengths : List ℕ) (init : Option InitTree) (old new : List (Option ℤ)) (count : ℕ) → init ≡ None → count ≡ element_count lengths → old ≡ [] → new ≡ old ++ replicate count (Some (pos 0))
    → new ≡ map (constant_item kind) (file_items lengths init)
zeros_alone kind lengths init old new count is_none is_count empty added =
    added ∙ (ap (λ l. l ++ replicate count (Some (pos 0))) empty ∙ (ap (λ n. replicate n (Some (pos 0))) is_count ∙ (sym (no_items kind (element_count lengths)) ∙ ap (λ o. map (constant_item kind) (file_items lengths o)) (sym is_none))))

pub inner_limits : (lengths : List ℕ) (len : ℕ) (inner : List ℕ) → lengths ≡ len ∷ inner → IsWithinLimits lengths → IsWithinLimits inner
inner_limits lengths len inner is h =
    let g : IsWithinLimits (len ∷ inner) = subst IsWithinLimits is h in
    let le = inner_count-le len inner (All-head (λ n. 0 < n) len inner g.positive) in
    record { positive = All-tail (λ n. 0 < n) len inner g.positive; count = omega (arith, le, g.count) }

pub ruleset initialising = (rows_more, rows_end, no_items)
