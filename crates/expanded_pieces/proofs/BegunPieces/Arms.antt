-- The pieces of a switch's body, from which labels lead on.
use Rattle.std.proofs.Common.{◌≡◌, ◌∙◌, ◌<◌, ◌≤◌, ℕ, ◌+◌, Bool, false, ◌||◌, List, [], ◌∷◌, ◌++◌, length, refl, ap, sym, subst, arith, le_refl, suc, Option}
use Rattle.std.specs.Prelude.{◌==◌}
use Rattle.std.proofs.lemmas.List.{length-append}
use Rattle.hls_base.specs.declared.point.Point.{Point}
use Rattle.pieces.specs.declared.piece.Label.{Label}
use Rattle.pieces.specs.Trees as tree
use Rattle.pieces.specs.Trees.{PieceTree, piece_row}
use Rattle.piece_making.specs.Making.{State, Part, then_, emit, inside, inside_switch, label}
use Rattle.passes.specs.Lowering.{is_named, piece_count}
use Rattle.pass_runs.specs.LowerRuns.Suiting.{TargetsThere}
use Rattle.expanded_pieces.proofs.Arms.{named_append, named_first, named_second}
use Rattle.expanded_pieces.proofs.BegunPieces.Hiding.{same_number}
use Rattle.expanded_pieces.proofs.BegunPieces.Ends.{AllEnds, IsNot, all_ends, ends_append, own_ends, own_all}
use Rattle.expanded_pieces.proofs.BegunPieces.Well.{ArmGood, AllArms, arms_append, arms_of}
use Rattle.expanded_pieces.proofs.BegunPieces.Parts.{Between, any, Begun}

targets_more : (n m : ℕ) (ls : List Label) → n ≤ m → TargetsThere n ls → TargetsThere m ls
targets_more n m [] le h = tt
targets_more n m (l ∷ ls) le h = (let q = h.0 in omega (arith, q, le), targets_more n m ls le h.1)

targets_append : (n : ℕ) (xs ys : List Label) → TargetsThere n xs → TargetsThere n ys → TargetsThere n (xs ++ ys)
targets_append n [] ys h g = g
targets_append n (x ∷ xs) ys h g = (h.0, targets_append n xs ys h.1 g)

module _ (kept : Point → Bool) (hidden : ℕ → Bool) where
  -- A part of a switch's body: its labels name marks among its own pieces. Where no other label names a piece of it, its pieces are well in the body.
  pub record ArmsBegun (s : State) (part : Part (Unit {0})) : Type 0 where
    pub made : part.state.made ≡ s.made + length part.pieces
    pub more : length s.variables ≤ length part.state.variables
    pub later : s.calls ≤ part.state.calls
    pub low : (i : ℕ) → i < s.made → is_named part.labels i ≡ false
    pub high : (i : ℕ) → part.state.made ≤ i → is_named part.labels i ≡ false
    pub targets : TargetsThere part.state.made part.labels
    pub arms : (all : List Label) → ((i : ℕ) → s.made ≤ i → i < part.state.made → is_named all i ≡ is_named part.labels i) → AllArms kept hidden all s.made part.pieces
    pub ends : AllEnds (Between s.calls part.state.calls) (piece_row part.pieces)

  -- a part without labels
  pub arms_begun : (s : State) (part : Part (Unit {0})) → Begun kept hidden s.calls any s part → ArmsBegun s part
  arms_begun s part h = record {
    made = h.made;
    more = h.more;
    later = h.later;
    low = λ i lt. ap (λ ls. is_named ls i) h.labels;
    high = λ i lt. ap (λ ls. is_named ls i) h.labels;
    targets = subst (λ ls. TargetsThere part.state.made ls) (sym h.labels) tt;
    arms = λ all quiet. arms_of kept hidden all s.made part.state.made part.pieces h.made h.good (λ i le lt. quiet i le lt ∙ ap (λ ls. is_named ls i) h.labels);
    ends = h.ends;
  }

  pub arms_then : (s : State) (first : Part (Unit {0})) (next : Unit {0} → State → Part (Unit {0})) → ArmsBegun s first → ArmsBegun first.state (next first.value first.state) → ArmsBegun s (then_ first next)
  unfolding then_
  arms_then s first next h g =
      let second = next first.value first.state in
      let e = h.made in
      let f = g.made in
      let since = h.later in
      let last = g.later in
      record {
        made = let l = length-append first.pieces second.pieces in omega (arith, e, f, l);
        more = let m = h.more in let n = g.more in omega (arith, m, n);
        later = omega (arith, since, last);
        low = λ i lt. named_append first.labels second.labels i (h.low i lt) (g.low i (omega (arith, e, lt)));
        high = λ i le. named_append first.labels second.labels i (h.high i (omega (arith, f, le))) (g.high i le);
        targets = targets_append second.state.made first.labels second.labels (targets_more first.state.made second.state.made first.labels (omega (arith, f)) h.targets) g.targets;
        arms = λ all quiet.
            arms_append kept hidden all s.made first.state.made first.pieces second.pieces e
            (h.arms all (λ i le lt. quiet i le (omega (arith, f, lt)) ∙ named_first first.labels second.labels i (g.low i lt)))
            (g.arms all (λ i le lt. quiet i (omega (arith, e, le)) lt ∙ named_second first.labels second.labels i (h.high i le)))
            (own_all (Between first.state.calls second.state.calls) (λ j. AllEnds (IsNot j) (piece_row first.pieces))
            (λ j b. all_ends (Between s.calls first.state.calls) (IsNot j) (λ i q d. let x = q.1 in let y = b.0 in omega (arith, x, y, d)) (piece_row first.pieces) h.ends) second.pieces
            (own_ends (Between first.state.calls second.state.calls) second.pieces g.ends));
        ends = ends_append (Between s.calls second.state.calls) first.pieces second.pieces
            (all_ends (Between s.calls first.state.calls) (Between s.calls second.state.calls) (λ j b. (b.0, let q = b.1 in omega (arith, q, last))) (piece_row first.pieces) h.ends)
            (all_ends (Between first.state.calls second.state.calls) (Between s.calls second.state.calls) (λ j b. (let q = b.0 in omega (arith, q, since), b.1)) (piece_row second.pieces) g.ends);
      }

  not_same : (a b : ℕ) → (a ≡ b → ⊥) → (a == b) ≡ false
  not_same a b h = grind arith

  one_label : (a i : ℕ) → (a ≡ i → ⊥) → (a == i || false) ≡ false
  one_label a i h = ap (λ b. b || false) (not_same a i h)

  -- a label, and its mark
  pub label_begun : (value : Option ℕ) (q : Point) (s : State) → ArmsBegun s (then_ (label value s) (λ u s1. emit (tree.mark q) s1))
  unfolding then_ label emit
  label_begun value q s = record {
    made = omega arith;
    more = le_refl (length s.variables);
    later = le_refl s.calls;
    low = λ i lt. one_label s.made i (λ e. omega (arith, lt, e));
    high = λ i le. one_label s.made i (λ e. omega (arith, le, e));
    targets = (omega arith, tt);
    arms = λ all same. (subst (λ b. ArmGood kept hidden b (tree.mark q)) (sym (same s.made (le_refl s.made) (omega arith) ∙ ap (λ b. b || false) (same_number s.made))) tt, tt, tt);
    ends = (tt, tt);
  }

-- the body of a switch, whose labels are its own
pub record SwitchBegun (kept : Point → Bool) (hidden : ℕ → Bool) (s : State) (part : Part (List PieceTree × List Label)) : Type 0 where
  pub labels : part.labels ≡ []
  pub made : part.state.made ≡ s.made
  pub none : part.pieces ≡ []
  pub more : length s.variables ≤ length part.state.variables
  pub later : s.calls ≤ part.state.calls
  pub targets : TargetsThere (piece_count (piece_row part.value.0)) part.value.1
  pub arms : AllArms kept hidden part.value.1 0 part.value.0
  pub ends : AllEnds (Between s.calls part.state.calls) (piece_row part.value.0)

count_row : (xs : List PieceTree) → piece_count (piece_row xs) ≡ length xs
count_row [] = refl
count_row (x ∷ xs) = ap (λ n. suc n) (count_row xs)

pub switch_begun : (kept : Point → Bool) (hidden : ℕ → Bool) (part : State → Part (Unit {0})) (s : State) → ArmsBegun kept hidden (record s { made = 0 }) (part (record s { made = 0 })) → SwitchBegun kept hidden s (inside_switch part s)
unfolding inside_switch inside
switch_begun kept hidden part s q =
    let p = part (record s { made = 0 }) in
    record {
      labels = refl;
      made = refl;
      none = refl;
      more = q.more;
      later = q.later;
      targets = subst (λ n. TargetsThere n p.labels) (let e = q.made in let d = count_row p.pieces in let same : p.state.made ≡ piece_count (piece_row p.pieces) = omega (arith, e, d) in same) q.targets;
      arms = q.arms p.labels (λ i le lt. refl);
      ends = q.ends;
    }
