-- The pieces that save a value go on, and what is left has the value that there was.
use Rattle.std.proofs.Common.{ℕ, ◌∙◌, sym, refl, ap, ℤ, Bool, true≢false, ◌&&◌, ◌||◌, List, [], ◌∷◌, ◌++◌, arith}
use Rattle.std.specs.Prelude.{nat_lt}
use Rattle.c_value.specs.Values.{convert}
use Rattle.c_value.specs.Operators.{unary_value}
use Rattle.pieces.specs.Trees as tree
use Rattle.pieces.specs.Trees.{PureTree, PureTrees, row}
use Rattle.pieces.specs.Kind.{kind}
use Rattle.piece_making.specs.Making.{State, gives, then_, set_own}
use Rattle.piece_making.specs.Saving.{has_element, saved, all_saved, is_logical}
use Rattle.hls_base.specs.Valued.{is, and_then}
use Rattle.c_meaning.specs.PieceRuns.Values.{Store, computed, element_at, element_number, value, values}
use Rattle.c_meaning.specs.PieceRuns.Pieces.{Frame}
use Rattle.expand_runs.specs.Reading.{UnaryFits, BinaryFits}
use Rattle.expand_runs.specs.Growing.{IsWithin}
use Rattle.expand_runs.proofs.Reading.{value_agrees, values_agree, or_left, or_right}
use Rattle.expand_runs.proofs.Growing.{later_both, later_own, within_before}
use Rattle.expand_runs.proofs.Typing.{first_value, value_number}
use Rattle.expand_runs.proofs.SavedLater.{saved_later, all_later}
use Rattle.expand_runs.proofs.SavingParts.{IsSaved, CanSave, CanSaveAll, AreSaved, still_saved, variable_saved, unary_saved, cast_saved, can_next, binary_saved, left_there, right_there, test_there, binary_set, choice_set, choice_saved, none_saved, more_saved, element_saved, if_behind, skips_binary, skips_choice}

module _ (unary_fits : UnaryFits) (binary_fits : BinaryFits) (f : Frame) (P : ℕ → Type 0) (n : ℕ) (calls : Bool) where
  mutual
    unfolding then_

    -- A value that is there can be saved.
    pub saved_well : (x : PureTree) (s : State) (t : Store) → CanSave f P n calls x s t → IsWithin (saved n calls x s).state f → IsSaved f P n calls s x t (saved n calls x s)
    saved_well (tree.number v k) s t c within = still_saved f P n calls (tree.number v k) s t c.typed refl tt c.types
    saved_well (tree.variable name k) s t c within = variable_saved f P n calls (calls && nat_lt name.0 n) name k s t refl c.reads c.types c.typed within
    saved_well (tree.element array subscripts k at) s t c within =
        let v = c.is_there refl in
        let g = λ (is_ : List ℤ). element_at array.0 (element_number f.arrays array.0 is_) at t in
        let all = all_saved n calls subscripts [] s in
        let q = all_well subscripts [] s t
        (record { reads = c.reads; below = c.below; types = c.types.1; typed = c.typed; are_there = first_value (values f.arrays subscripts t) g v.0 v.1 })
        (within_before all.state (set_own k (tree.element array (row all.value) k at) all.state).state f (later_own k (tree.element array (row all.value) k at) all.state) within) in
        element_saved f P n calls array subscripts k at s t v.0 q v.1 (value_number unary_fits binary_fits f (tree.element array subscripts k at) t v.0 c.typed c.types v.1) within
    saved_well (tree.unary op arg k at) s t c within =
        unary_saved f P n calls op arg k at s t c.types.0
        (saved_well arg s t (record { reads = c.reads; below = c.below; types = c.types.1; typed = c.typed; is_there = λ e. (let v = c.is_there e in first_value (value f.arrays arg t) (λ y. computed (unary_value op (kind arg) y) at) v.0 v.1) }) within)
    saved_well (tree.binary op left right k at) s t c within =
        let x = tree.binary op left right k at in
        let first = saved n calls left s in
        let whole = λ (y : PureTree) (s1 : State). set_own k (tree.binary op y right k at) s1 in
        let there = left_there f P n calls op left right k at s t c in
        if_behind f P n calls (is_logical op && has_element right) x first whole (λ y s1. then_ (saved n calls right s1) (λ z s2. gives (tree.binary op y z k at) s2)) s t
        (λ e within.
        let h = saved_well left s t there (within_before first.state (whole first.value first.state).state f (later_own k (tree.binary op first.value right k at) first.state) within) in
        let v = c.is_there (skips_binary f P n calls (is_logical op) (has_element right) (has_element left) e) in
        binary_set f P n calls op left right k at s t v.0 h (value_agrees f.arrays P t h.after (λ i p. h.variables i (c.below i p)) right c.reads.1 (λ z. h.elements)) v.1
        (value_number unary_fits binary_fits f x t v.0 c.typed c.types v.1) within)
        (λ e within.
        let h = saved_well left s t there (within_before first.state (saved n calls right first.state).state f (saved_later n calls right first.state) within) in
        let g = saved_well right first.state h.after (can_next f P n calls left right s t (right_there f P n calls op left right k at s t e c) h) within in
        binary_saved f P n calls op left right k at s t c.types.0 c.below h g (value_agrees f.arrays P t h.after (λ i p. h.variables i (c.below i p)) right c.reads.1 (λ z. h.elements))) within
    saved_well (tree.choice test left right k) s t c within =
        let x = tree.choice test left right k in
        let first = saved n calls test s in
        let second = saved n calls left first.state in
        let third = saved n calls right second.state in
        let later = saved_later n calls test s in
        let later2 = saved_later n calls left first.state in
        let later3 = saved_later n calls right second.state in
        let whole = λ (y : PureTree) (s1 : State). set_own k (tree.choice y left right k) s1 in
        let there = test_there f P n calls test left right k s t c in
        if_behind f P n calls (has_element left || has_element right) x first whole
        (λ t1 s1. then_ (saved n calls left s1) (λ y s2. then_ (saved n calls right s2) (λ z s3. gives (tree.choice t1 y z k) s3))) s t
        (λ e within.
        let h = saved_well test s t there (within_before first.state (whole first.value first.state).state f (later_own k (tree.choice first.value left right k) first.state) within) in
        let v = c.is_there (skips_choice f P n calls (has_element test) (has_element left) (has_element right) e) in
        choice_set f P n calls test left right k s t v.0 h (value_agrees f.arrays P t h.after (λ i p. h.variables i (c.below i p)) left c.reads.1 (λ z. h.elements))
        (value_agrees f.arrays P t h.after (λ i p. h.variables i (c.below i p)) right c.reads.2 (λ z. h.elements)) v.1 (value_number unary_fits binary_fits f x t v.0 c.typed c.types v.1) within)
        (λ e within.
        let h = saved_well test s t there (within_before first.state third.state f (later_both first.state second.state third.state later2 later3) within) in
        let g = saved_well left first.state h.after (record {
          reads = c.reads.1;
          below = λ i p. (let a = c.below i p in let b = later.more in omega (arith, a, b));
          types = c.types.1;
          typed = h.typed;
          is_there = λ z. absurd (true≢false (sym (or_left (has_element left) (has_element right) z) ∙ e));
        }) (within_before second.state third.state f later3 within) in
        let q = saved_well right second.state g.after (record {
          reads = c.reads.2;
          below = λ i p. (let a = c.below i p in let b = later.more in let d = later2.more in omega (arith, a, b, d));
          types = c.types.2;
          typed = g.typed;
          is_there = λ z. absurd (true≢false (sym (or_right (has_element left) (has_element right) z) ∙ e));
        }) within in
        choice_saved f P n calls test left right k s t c.below h g q
        (value_agrees f.arrays P t h.after (λ i p. h.variables i (c.below i p)) left c.reads.1 (λ z. h.elements))
        (value_agrees f.arrays P t g.after (λ i p. g.variables i (let a = c.below i p in let b = later.more in omega (arith, a, b)) ∙ h.variables i (c.below i p)) right c.reads.2 (λ z a i. g.elements a i ∙ h.elements a i))) within
    saved_well (tree.cast to arg) s t c within =
        cast_saved f P n calls to arg s t
        (saved_well arg s t (record { reads = c.reads; below = c.below; types = c.types; typed = c.typed; is_there = λ e. (let v = c.is_there e in first_value (value f.arrays arg t) (λ y. is (convert to y)) v.0 v.1) }) within)

    pub all_well : (xs : PureTrees) (before : List PureTree) (s : State) (t : Store) → CanSaveAll f P n calls xs s t → IsWithin (all_saved n calls xs before s).state f
        → AreSaved f P n calls s xs before t (all_saved n calls xs before s)
    all_well tree.none before s t c within = none_saved f P n calls before s t c.typed
    all_well (tree.more first rest) before s t c within =
        let vs = c.are_there in
        let g = λ (y : ℤ). and_then (values f.arrays rest t) (λ ys. is (y ∷ ys)) in
        let v = first_value (value f.arrays first t) g vs.0 vs.1 in
        let ws = first_value (values f.arrays rest t) (λ ys. is (v.0 ∷ ys)) vs.0 (ap (λ r. and_then r g) (sym v.1) ∙ vs.1) in
        let x = saved n calls first s in
        let h = saved_well first s t (record { reads = c.reads.0; below = c.below; types = c.types.0; typed = c.typed; is_there = λ e. v })
        (within_before x.state (all_saved n calls rest (before ++ x.value ∷ []) x.state).state f (all_later n calls rest (before ++ x.value ∷ []) x.state) within) in
        let still = values_agree f.arrays P t h.after (λ i p. h.variables i (c.below i p)) rest c.reads.1 h.elements in
        more_saved f P n calls first rest before s t c.below h
        (all_well rest (before ++ x.value ∷ []) x.state h.after
        (record {
          reads = c.reads.1;
          below = λ i p. (let a = c.below i p in let b = (saved_later n calls first s).more in omega (arith, a, b));
          types = c.types.1;
          typed = h.typed;
          are_there = (ws.0, still ∙ ws.1);
        }) within) still
