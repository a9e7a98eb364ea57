-- The pieces of a switch's body, from which labels lead on.
use Rattle.std.proofs.Common.{◌≡◌, ◌∙◌, ◌<◌, ℕ, ◌+◌, Bool, true, false, ◌||◌, List, [], ◌∷◌, ◌++◌, length, refl, ap, sym, subst, arith, Option}
use Rattle.std.specs.Prelude.{◌==◌}
use Rattle.std.proofs.lemmas.List.{length-append, append-nil, append_assoc}
use Rattle.std.proofs.lemmas.Bool.{false≢true}
use Rattle.pieces.specs.declared.piece.Label.{Label}
use Rattle.pieces.specs.Trees.{PieceTree, piece_row}
use Rattle.piece_making.specs.Making.{State, Part, then_, inside, inside_switch, label}
use Rattle.ir_layout.specs.WellFormed.{Inside}
use Rattle.passes.specs.Lowering.{is_named}
use Rattle.pass_runs.specs.LowerRuns.LoweredTrees.Fitting.{ArmPiecesFit, with_ends, ends_before_arm}
use Rattle.expanded_pieces.proofs.Ends.{arm_ends_more, arm_append}
use Rattle.expanded_pieces.proofs.Parts.{Needs, Meets, EachArray, Fits, meets_more}

pub named_append : (xs ys : List Label) (i : ℕ) → is_named xs i ≡ false → is_named ys i ≡ false → is_named (xs ++ ys) i ≡ false
named_append [] ys i h g = g
named_append (l ∷ xs) ys i h g = either (l.target == i) (λ e. named_append xs ys i e g) h where
  either : (b : Bool) → (is_named xs i ≡ false → is_named (xs ++ ys) i ≡ false) → (b || is_named xs i) ≡ false → (b || is_named (xs ++ ys) i) ≡ false
  either true k e = e
  either false k e = k e

pub named_first : (xs ys : List Label) (i : ℕ) → is_named ys i ≡ false → is_named (xs ++ ys) i ≡ is_named xs i
named_first [] ys i g = g
named_first (l ∷ xs) ys i g = ap (λ b. l.target == i || b) (named_first xs ys i g)

pub named_second : (xs ys : List Label) (i : ℕ) → is_named xs i ≡ false → is_named (xs ++ ys) i ≡ is_named ys i
named_second [] ys i h = refl
named_second (l ∷ xs) ys i h = either (l.target == i) (λ e. named_second xs ys i e) h where
  either : (b : Bool) → (is_named xs i ≡ false → is_named (xs ++ ys) i ≡ is_named ys i) → (b || is_named xs i) ≡ false → (b || is_named (xs ++ ys) i) ≡ is_named ys i
  either true k e = absurd (false≢true (sym e))
  either false k e = k e

module _ (Q : List ℕ → Type 0) (n : Needs) where
  -- A part of a switch's body: its labels name its own pieces or the one behind it. Where no other label names a piece of it but the first one, its pieces fit in the body.
  pub record ArmFits {A : Type 0} (s : State) (part : Part A) : Type 0 where
    pub made : part.state.made ≡ s.made + length part.pieces
    pub low : (i : ℕ) → i < s.made → is_named part.labels i ≡ false
    pub high : (i : ℕ) → part.state.made < i → is_named part.labels i ≡ false
    pub fits : (all : List Label) → ((i : ℕ) → s.made < i → i < part.state.made → is_named all i ≡ is_named part.labels i) → (inside : Inside) → Meets n inside → (rest : List PieceTree)
        → ArmPiecesFit all part.state.made inside (piece_row rest) → ArmPiecesFit all s.made inside (piece_row (part.pieces ++ rest))
    pub each : EachArray Q s.arrays → EachArray Q part.state.arrays

  -- a part without labels
  pub arm_of : {A : Type 0} (s : State) (part : Part A) → Fits Q n s part → ArmFits s part
  arm_of s part h = record {
    made = h.made;
    low = λ i lt. ap (λ ls. is_named ls i) h.labels;
    high = λ i lt. ap (λ ls. is_named ls i) h.labels;
    fits = λ all quiet inside m rest g.
        (let lands = ends_before_arm all part.state.made (piece_row rest) inside.lands in
        arm_append all s.made part.state.made part.pieces rest inside h.made (λ i lt gt. quiet i lt gt ∙ ap (λ ls. is_named ls i) h.labels)
        (h.fits (with_ends lands inside) (meets_more n inside lands (λ j e. arm_ends_more all part.state.made (piece_row rest) inside.lands j e) m)) g);
    each = h.each;
  }

  pub arms_then : {A B : Type 0} (s : State) (first : Part A) (next : A → State → Part B) → ArmFits s first → ArmFits first.state (next first.value first.state) → ArmFits s (then_ first next)
  unfolding then_
  arms_then s first next h g =
      let second = next first.value first.state in
      let e = h.made in
      let f = g.made in
      record {
        made = let l = length-append first.pieces second.pieces in omega (arith, e, f, l);
        low = λ i lt. named_append first.labels second.labels i (h.low i lt) (g.low i (omega (arith, e, lt)));
        high = λ i lt. named_append first.labels second.labels i (h.high i (omega (arith, f, lt))) (g.high i lt);
        fits = λ all quiet inside m rest k.
            subst (λ xs. ArmPiecesFit all s.made inside (piece_row xs)) (sym (append_assoc first.pieces second.pieces rest))
            (h.fits all (λ i lt gt. quiet i lt (omega (arith, f, gt)) ∙ named_first first.labels second.labels i (g.low i gt)) inside m (second.pieces ++ rest)
            (g.fits all (λ i lt gt. quiet i (omega (arith, e, lt)) gt ∙ named_second first.labels second.labels i (h.high i lt)) inside m rest k));
        each = λ a. g.each (h.each a);
      }

  not_same : (a b : ℕ) → (a ≡ b → ⊥) → (a == b) ≡ false
  not_same a b h = grind arith

  one_label : (a i : ℕ) → (a ≡ i → ⊥) → (a == i || false) ≡ false
  one_label a i h = ap (λ b. b || false) (not_same a i h)

  pub label_fits : (value : Option ℕ) (s : State) → ArmFits s (label value s)
  unfolding label
  label_fits value s = record {
    made = omega arith;
    low = λ i lt. one_label s.made i (λ e. omega (arith, lt, e));
    high = λ i lt. one_label s.made i (λ e. omega (arith, lt, e));
    fits = λ all quiet inside m rest k. k;
    each = λ a. a;
  }

-- the body of a switch, whose labels are its own
pub record SwitchFits (Q : List ℕ → Type 0) (n m : Needs) (s : State) (part : Part (List PieceTree × List Label)) : Type 0 where
  pub outside : Fits Q m s part
  pub inner : (inside : Inside) → Meets n inside → ArmPiecesFit part.value.1 0 inside (piece_row part.value.0)

pub switch_fits : (Q : List ℕ → Type 0) (n m : Needs) {A : Type 0} (part : State → Part A) → ((s : State) → ArmFits Q n s (part s)) → (s : State) → SwitchFits Q n m s (inside_switch part s)
unfolding inside_switch inside
switch_fits Q n m part h s =
    let q = h (record s { made = 0 }) in
    let p = part (record s { made = 0 }) in
    record {
      outside = record { made = omega arith; labels = refl; fits = λ i e. tt; each = q.each };
      inner = λ i e. subst (λ xs. ArmPiecesFit p.labels 0 i (piece_row xs)) (append-nil p.pieces) (q.fits p.labels (λ j lt gt. refl) i e [] tt);
    }
