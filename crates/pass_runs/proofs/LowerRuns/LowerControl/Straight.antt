-- Pieces without control of their own, and tests.
use Rattle.std.proofs.Common.{◌≡◌, ◌∙◌, ℕ, Bool, true, false, not, refl, ap, sym, subst, ℤ, List, Option, Some, None, if◌then◌else◌}
use Rattle.std.specs.Prelude.{slice_get, nat_lt, length, ◌==◌}
use Rattle.hls_base.specs.declared.number.VarId.{VarId}
use Rattle.hls_base.specs.declared.number.ArrayId.{ArrayId}
use Rattle.hls_base.specs.declared.place.Place.{Place}
use Rattle.hls_base.specs.declared.point.Point.{Point}
use Rattle.hls_base.specs.declared.refusal.UbRule.TheVariants as ub
use Rattle.c_value.specs.Values.{convert}
use Rattle.c_value.specs.Operators.{is_true}
use Rattle.hls_base.specs.Steps.{goes}
use Rattle.hls_base.specs.Valued.{Valued, is, faulty, valued}
use Rattle.pieces.specs.Trees as tree
use Rattle.pieces.specs.Trees.{PureTree, PureTrees}
use Rattle.c_meaning.specs.PieceRuns.Values.{Store, with_variable, with_element, element_number, value, values}
use Rattle.c_meaning.specs.PieceRuns.Pieces as p
use Rattle.c_meaning.specs.PieceRuns.Pieces.{Frame, piece_run, put_at, type_of, kind_at}
use Rattle.ir_core.specs.Bodies.{Words, Ranged, operand, with_outs}
use Rattle.ir_core.specs.Trees.{BlockTree, no_part}
use Rattle.ir_core.specs.TreeRuns as trees
use Rattle.ir_core.specs.Value.{truth}
use Rattle.passes.specs.Lowering.Blocks.{is_live, goes_on, set, put, with_ops, condition, branching, ends_by_test}
use Rattle.passes.specs.Lowering.{Rest, last, lowered_piece}
use Rattle.pass_runs.specs.LowerRuns.Early.{IsEarly}
use Rattle.pass_runs.specs.LowerRuns.OperatorWords.Words.{OperatorsAgree}
use Rattle.pass_runs.specs.LowerRuns.Suits.{Suits, EachSuits, scope_of}
use Rattle.pass_runs.specs.LowerRuns.Showing.{IsAt, without_number}
use Rattle.pass_runs.proofs.LowerRuns.OperatorWords.Conversions.{naturals_are_words}
use Rattle.pass_runs.proofs.LowerRuns.OperatorWords.Resizing.{conversions_agree}
use Rattle.pass_runs.proofs.LowerRuns.Straight.{condition_computed}
use Rattle.pass_runs.proofs.LowerRuns.Showing.{shows_grows}
use Rattle.pass_runs.proofs.LowerRuns.Whole.{sets_shown, puts_shown}
use Rattle.ir_layout.specs.WellFormed.{Inside}
use Rattle.pass_runs.specs.LowerRuns.Holding.{Holds, ArraysAreShort, IsThere}
use Rattle.pass_runs.proofs.LowerRuns.LowerControl.Following.{Follow, follows_goes, follows_fails}
use Rattle.pass_runs.proofs.LowerRuns.LowerControl.Outs.{with_out_single, if_single}
use Rattle.pass_runs.proofs.LowerRuns.LowerControl.Entering.{within, within_is, Opens, closed_holds}
use Rattle.pass_runs.proofs.LowerRuns.LowerControl.Targets.{Arrives, shapes, Run}

pub holds_truth : (c : Bool) (w : ℕ) → w ≡ truth c → not (w == 0) ≡ c
holds_truth true w e = ap (λ n. not (n == 0)) e
holds_truth false w e = ap (λ n. not (n == 0)) e

module _ (f : Frame) (operators : OperatorsAgree) (short : ArraysAreShort f) (hidden : ℕ → Bool) (t : Words) (b : BlockTree) (r : Ranged) (s : Store) (h : Opens f hidden t b r s) where
  pub live_is : is_live b ≡ true
  live_is = ap goes_on h.live

  -- ---- variables

  pub set_opens : (name : VarId) (x : PureTree) (n : ℤ) → (there : IsThere f name) → Suits f hidden x → value f.arrays x s ≡ is n
      → (next : Ranged) × Opens f (without_number hidden name.0) t (set (scope_of f) name x b) next (with_variable name.0 (convert (type_of (slice_get f.variables name.0)) n) s)
  set_opens name x n there suits is_ =
      let y = sets_shown f hidden t b r s h.at name x there.0 n there.1 suits is_ in (
        y.0,
        record {
          at = subst (λ o. IsAt f (without_number hidden name.0) t (set (scope_of f) name x b) y.0 (with_variable name.0 (convert (type_of o) n) s)) (sym there.1) y.1;
          single = if_single (nat_lt name.0 (length f.variables)) _ b.outs (with_out_single b.outs name _ h.single) h.single;
          live = h.live;
        },
      )

  module _ (kept : Point → Bool) (inside : Inside) (rest : Rest) (outside : ℕ → Bool) where
    pub set_follows : (name : VarId) (x : PureTree) (n : ℕ) → IsThere f name → Suits f hidden x
        → Follow kept (Arrives f inside rest outside (without_number hidden name.0)) (piece_run f (tree.set name x) s n) (within (shapes f) (lowered_piece (scope_of f) (tree.set name x) rest b) t)
    set_follows name x n there suits = by (value f.arrays x s) refl where
      known : p.Way → Store → Run → Type 0
      known = Arrives f inside rest outside (without_number hidden name.0)

      g : Run
      g = within (shapes f) (lowered_piece (scope_of f) (tree.set name x) rest b) t

      by : (v : Valued ℤ) → value f.arrays x s ≡ v → Follow kept known (valued v (p.set f name.0) s n) g
      by (faulty rule at) e = follows_fails kept known rule at g
      by (is m) e =
          let y = set_opens name x m there suits e in
          follows_goes kept known p.on (with_variable name.0 (convert (type_of (slice_get f.variables name.0)) m) s) n g
          (t, set (scope_of f) name x b, y.0, y.1, λ k. ap (λ c. within (shapes f) (rest (if c then set (scope_of f) name x b else b)) t k) live_is)

    -- ---- elements

    pub put_follows : (array : ArrayId) (subscripts : PureTrees) (x : PureTree) (at : Place) (n : ℕ) → EachSuits f hidden subscripts → Suits f hidden x
        → Follow kept (Arrives f inside rest outside hidden) (piece_run f (tree.put array subscripts x at) s n) (within (shapes f) (lowered_piece (scope_of f) (tree.put array subscripts x at) rest b) t)
    put_follows array subscripts x at n suits_each suits = by_all (values f.arrays subscripts s) refl where
      known : p.Way → Store → Run → Type 0
      known = Arrives f inside rest outside hidden

      g : Run
      g = within (shapes f) (lowered_piece (scope_of f) (tree.put array subscripts x at) rest b) t

      there : (is_ : List ℤ) (m : ℤ) → values f.arrays subscripts s ≡ is is_ → value f.arrays x s ≡ is m → (i : Option ℕ) → element_number f.arrays array.0 is_ ≡ i → Follow kept known (put_at f array.0 i m at s n) g
      there is_ m e1 e2 None e = follows_fails kept known ub.Index at g
      there is_ m e1 e2 (Some i) e =
          let y = puts_shown f hidden t b r s h.at array subscripts x at is_ i m (short array.0) suits_each suits e1 e2 e in
          let opens : Opens f hidden t (put (scope_of f) array subscripts x at b) y.0 (with_element array.0 i (convert (kind_at f.arrays array.0) m) s) = record { at = y.1; single = h.single; live = h.live } in
          follows_goes kept known p.on (with_element array.0 i (convert (kind_at f.arrays array.0) m) s) n g (t, put (scope_of f) array subscripts x at b, y.0, opens, λ k. ap (λ c. within (shapes f) (rest (if c then put (scope_of f) array subscripts x at b else b)) t k) live_is)

      by : (is_ : List ℤ) → values f.arrays subscripts s ≡ is is_ → (v : Valued ℤ) → value f.arrays x s ≡ v
          → Follow kept known (valued v (λ y t2. put_at f array.0 (element_number f.arrays array.0 is_) y at t2) s n) g
      by is_ e1 (faulty rule place) e = follows_fails kept known rule place g
      by is_ e1 (is m) e = there is_ m e1 e (element_number f.arrays array.0 is_) refl

      by_all : (v : Valued (List ℤ)) → values f.arrays subscripts s ≡ v
          → Follow kept known (valued v (λ is_ t1. valued (value f.arrays x t1) (λ y t2. put_at f array.0 (element_number f.arrays array.0 is_) y at t2) t1) s n) g
      by_all (faulty rule place) e = follows_fails kept known rule place g
      by_all (is is_) e = by is_ e (value f.arrays x s) refl

  -- ---- tests

  -- the block with the test
  pub record Tested (x : PureTree) (n : ℤ) : Type 0 where
    pub next : Ranged
    pub opens : Opens f hidden t (with_ops (condition x b).ops b) next s
    pub holds : trees.holds next.words next.results (condition x b).operand ≡ is_true n
    pub early : IsEarly (length next.results) (condition x b).operand.value

  pub test_opens : (x : PureTree) (n : ℤ) → Suits f hidden x → value f.arrays x s ≡ is n → Tested x n
  test_opens x n suits is_ =
      let c = condition_computed f hidden t conversions_agree operators naturals_are_words b r s h.at.stands h.at.shows x n suits is_ in record {
        next = c.next;
        opens = record {
          at = record { stands = c.stands; shows = shows_grows f hidden b.outs b.ops (condition x b).ops r c.next s c.grows h.at.shows };
          single = h.single;
          live = h.live;
        };
        holds = holds_truth (is_true n) (operand c.next.words c.next.results (condition x b).operand) c.holds;
        early = c.fits.early;
      }

  -- the last block of a loop's test
  pub test_ends : (x : PureTree) (n : ℤ) → Suits f hidden x → value f.arrays x s ≡ is n
      → (w : Words) × Holds f hidden s w × ((k : ℕ) → within (shapes f) (last (ends_by_test x b)) t k ≡ goes (trees.taken (is_true n)) w k)
  test_ends x n suits is_ =
      let y = test_opens x n suits is_ in
      let b1 = with_ops (condition x b).ops b in
      let w = with_outs b.outs y.next in (
        w,
        closed_holds f hidden t b1 y.next s y.opens.at y.opens.single,
        λ k.
            (ap (λ c. within (shapes f) (last (if c then branching b (condition x b) else b)) t k) live_is
            ∙ within_is (shapes f) (branching b (condition x b)) no_part t y.next y.opens.at.stands k
            ∙ ap (λ c. goes (trees.taken c) w k) y.holds),
      )
