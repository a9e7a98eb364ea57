-- The subscripts of an element, one by one.
use Rattle.std.proofs.Common.{◌≡◌, ℕ, ◌+◌, ◌*◌, ◌/◌, ◌%◌, ◌<◌, ◌≤◌, List, [], ◌∷◌, ◌++◌, map, drop, length, get_or, refl, sym, ap, ◌∙◌, arith}
use Rattle.std.proofs.Math.Nat.{mul_assoc, one-le-mul}
use Rattle.std.proofs.lemmas.Grind.{get_or_default_zero}
use Rattle.std.proofs.lemmas.List.{length-drop}
use Rattle.std.proofs.Math.Seq.{take-length}
use Rattle.std.proofs.Common.{◌-◌, take}
use Rattle.hls_base.specs.ArrayAddress.{element_count}
use Rattle.c_value.specs.Values.{int_type}
use Rattle.c_token.specs.declared.ctype.CType.{CType}
use Rattle.pieces.specs.declared.pure_expr.Pure.TheVariants as p
use Rattle.pieces.specs.declared.pure_expr.Pure.TheOpen.{Pure-F}
use Rattle.pieces.specs.declared.pure_expr.Pure.TheFolds.{fold-roll-Pure}
use Rattle.pieces.specs.View.{pure_of, pure_step}
use Rattle.pieces.specs.Trees as tree
use Rattle.pieces.specs.Trees.{PureTree, PureTrees, row}
use Rattle.piece_making.proofs.EffectLaws.{first_dropped}
use Rattle.c_expand.specs.Statements.{subscripts_at, at_least_one}
use Rattle.c_expand.proofs.Leading.{none_left}

-- a row behind these
abbrev pub behind_row : List PureTree → PureTrees → PureTrees
behind_row [] rest = rest
behind_row (x ∷ xs) rest = tree.more x (behind_row xs rest)

behind_pushed : (xs : List PureTree) (x : PureTree) (rest : PureTrees) → behind_row (xs ++ x ∷ []) rest ≡ behind_row xs (tree.more x rest)
behind_pushed [] x rest = refl
behind_pushed (y ∷ xs) x rest = ap (tree.more y) (behind_pushed xs x rest)

behind_none : (xs : List PureTree) → behind_row xs tree.none ≡ row xs
behind_none [] = refl
behind_none (x ∷ xs) = ap (tree.more x) (behind_none xs)

next_length : (lengths : List ℕ) (i : ℕ) → i < length lengths → drop i lengths ≡ get_or lengths i 0 ∷ drop (i + 1) lengths
next_length lengths i lt = first_dropped lengths i (get_or lengths i 0) lt (sym (get_or_default_zero lengths i (get_or lengths i 0) lt))

pub subscript_more : (lengths : List ℕ) (n i read len inner value : ℕ) (xs after : List PureTree) (whole : PureTrees)
    → i < length lengths → read ≡ get_or lengths i 0 → len ≡ at_least_one read → inner ≡ element_count (map at_least_one (drop (i + 1) lengths)) → value ≡ (n / inner) % len
    → after ≡ xs ++ tree.number value int_type ∷ []
    → behind_row xs (subscripts_at (drop i lengths) n) ≡ whole → behind_row after (subscripts_at (drop (i + 1) lengths) n) ≡ whole
subscript_more lengths n i read len inner value xs after whole lt at long count is pushed h =
    let len_is : len ≡ at_least_one (get_or lengths i 0) = long ∙ ap at_least_one at in
    ap (λ (ys : List PureTree). behind_row ys (subscripts_at (drop (i + 1) lengths) n)) pushed
    ∙ (behind_pushed xs (tree.number value int_type) (subscripts_at (drop (i + 1) lengths) n)
    ∙ (ap (λ (v : ℕ). behind_row xs (tree.more (tree.number v int_type) (subscripts_at (drop (i + 1) lengths) n))) (is ∙ (ap (λ (m : ℕ). (n / m) % len) count ∙ ap (λ (m : ℕ). (n / element_count (map at_least_one (drop (i + 1) lengths))) % m) len_is))
    ∙ (ap (λ (ls : List ℕ). behind_row xs (subscripts_at ls n)) (sym (next_length lengths i lt)) ∙ h)))

pub subscripts_end : (lengths : List ℕ) (n i : ℕ) (xs : List PureTree) → length lengths ≤ i → behind_row xs (subscripts_at (drop i lengths) n) ≡ subscripts_at lengths n → row xs ≡ subscripts_at lengths n
subscripts_end lengths n i xs le h = sym (behind_none xs) ∙ (ap (λ (ls : List ℕ). behind_row xs (subscripts_at ls n)) (sym (none_left lengths i le)) ∙ h)

-- one more length counted
pub count_more : (lengths : List ℕ) (i read step count new whole : ℕ) → i < length lengths → read ≡ get_or lengths i 0 → step ≡ at_least_one read → new ≡ count * step
    → count * element_count (map at_least_one (drop i lengths)) ≡ whole → new * element_count (map at_least_one (drop (i + 1) lengths)) ≡ whole
count_more lengths i read step count new whole lt at is made h =
    let rest = element_count (map at_least_one (drop (i + 1) lengths)) in
    let len = at_least_one (get_or lengths i 0) in
    let e : count * (len * rest) ≡ whole = ap (λ (ls : List ℕ). count * element_count (map at_least_one ls)) (sym (next_length lengths i lt)) ∙ h in
    let f : new ≡ count * len = made ∙ ap (λ (n : ℕ). count * n) (is ∙ ap at_least_one at) in
    ap (λ (n : ℕ). n * rest) f ∙ (mul_assoc count len rest ∙ e)

pub count_positive : (count step new : ℕ) → 1 ≤ count → 1 ≤ step → new ≡ count * step → 1 ≤ new
count_positive count step new h k e = let m = one-le-mul h k in omega (arith, m, e)

pub rest_of_lengths : (n : ℕ) (lengths : List ℕ) → take (length lengths - n) (drop n lengths) ≡ drop n lengths
rest_of_lengths n lengths = ap (λ (k : ℕ). take k (drop n lengths)) (sym (length-drop n lengths)) ∙ take-length (drop n lengths)

pub number_tree : (value : ℕ) (kind : CType) → pure_of (p.Number value kind) ≡ tree.number value kind
number_tree value kind = ap pure_of (sym (p.rolls-Number value kind)) ∙ fold-roll-Pure PureTree pure_step (Pure-F.Number value kind)
