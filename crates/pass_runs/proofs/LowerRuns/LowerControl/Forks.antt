-- Forks: both branches have blocks, or what one sets is set before.
use Rattle.std.proofs.Common.{◌≡◌, ◌∙◌, ℕ, Bool, true, false, refl, ap, sym, subst, inl, inr, ℤ, Option, Some, None, if◌then◌else◌, ◌&&◌}
use Rattle.std.specs.Prelude.{slice_get, is_some, nat_lt, length}
use Rattle.std.proofs.lemmas.Bool.{false≢true}
use Rattle.std.proofs.lemmas.Bool.Decides.{eqb_tells}
use Rattle.hls_base.specs.declared.number.VarId.{VarId}
use Rattle.hls_base.specs.declared.point.Point.{Point}
use Rattle.c_token.specs.declared.ctype.CType.{CType}
use Rattle.c_value.specs.Values.{pattern, convert, number_of}
use Rattle.c_value.specs.Operators.{is_true}
use Rattle.hls_base.specs.Steps.{Ran, goes, then_}
use Rattle.hls_base.specs.Valued.{Valued, is, faulty, valued}
use Rattle.pieces.specs.Trees as tree
use Rattle.pieces.specs.Trees.{PureTree, PieceTrees}
use Rattle.c_meaning.specs.PieceRuns.Values.{Store, with_variable, value}
use Rattle.c_meaning.specs.PieceRuns.Pieces as p
use Rattle.c_meaning.specs.PieceRuns.Pieces.{Frame, piece_run, pieces_run, type_of, behind_fork}
use Rattle.ir_core.specs.Bodies.{Words, Ranged, with_outs}
use Rattle.ir_core.specs.Trees.{branch, BlockTree, SideTree, fork, more_parts}
use Rattle.ir_core.specs.TreeRuns as trees
use Rattle.ir_core.specs.TreeRuns.{parts_run, sequence_run, side_run, way_of}
use Rattle.passes.specs.Lowering.Shapes.{first_point, is_straight}
use Rattle.pass_runs.proofs.LowerRuns.OperatorWords.Resizing.{conversions_agree}
use Rattle.pass_runs.proofs.LowerRuns.LowerControl.Copying.{AreWorded, worded_set}
use Rattle.passes.specs.Lowering.Blocks.{begun, variable_type, value_as, is_live, set, all_set, set_before, with_ops, condition, forking}
use Rattle.passes.specs.Lowering.{Rest, last, followed, side_from, lowered, lowered_piece}
use Rattle.pass_runs.specs.LowerRuns.OperatorWords.Words.{IsWord, OperatorsAgree}
use Rattle.pass_runs.specs.LowerRuns.Suits.{shapes_of, scope_of}
use Rattle.pass_runs.specs.LowerRuns.Showing.{without_number}
use Rattle.pass_runs.specs.LowerRuns.Standing.{Stands}
use Rattle.ir_layout.specs.WellFormed.{Inside}
use Rattle.pass_runs.specs.LowerRuns.LoweredTrees.Fitting.{PiecesFit}
use Rattle.pass_runs.specs.LowerRuns.Holding.{Holds, ArraysAreShort}
use Rattle.pass_runs.specs.LowerRuns.Suiting.{shut, with_hidden, hidden_at_end, PieceSuits, BeginSuits}
use Rattle.pass_runs.proofs.LowerRuns.LowerControl.Suits.{SidesSuit, AloneSuits}
use Rattle.pass_runs.proofs.LowerRuns.LowerControl.Following.{Follow, follows_goes, follows_fails, follows_same, follows_both, follows_weaker}
use Rattle.pass_runs.proofs.LowerRuns.LowerControl.Entering.{within, within_is, stands_same, Opens, closed_holds, Below, holds_weaker}
use Rattle.pass_runs.proofs.LowerRuns.LowerControl.Rests.{first_of, rest_of}
use Rattle.pass_runs.proofs.LowerRuns.LowerControl.Rests.{IsRest}
use Rattle.pass_runs.proofs.LowerRuns.LowerControl.Targets.{Ends, Arrives, last_ends, shapes, Run, behind, within_followed, follows_fork}
use Rattle.pass_runs.proofs.LowerRuns.LowerControl.Straight.{live_is, set_opens, test_opens}

-- ---- two branches

pub follows_if : (f : Frame) (kept : Point → Bool) (known : p.Way → Store → Run → Type 0) (c : Bool) (r q : Ran Store p.Way) (g h : Run) → Follow kept known r g → Follow kept known q h
    → Follow kept known (if c then r else q) (λ k. if c then g k else h k)
follows_if f kept known true r q g h a b = a
follows_if f kept known false r q g h a b = b

set_nothing : (f : Frame) (pieces : PieceTrees) (p : Point) (b : BlockTree) → first_point pieces ≡ Some p → set_before (scope_of f) pieces b ≡ b
set_nothing f pieces p b e = ap (λ o. if is_some o then b else all_set (scope_of f) pieces b) e

set_all : (f : Frame) (pieces : PieceTrees) (b : BlockTree) → first_point pieces ≡ None → set_before (scope_of f) pieces b ≡ all_set (scope_of f) pieces b
set_all f pieces b e = ap (λ o. if is_some o then b else all_set (scope_of f) pieces b) e

module _ (f : Frame) (kept : Point → Bool) where
  -- the blocks of a branch
  abbrev pub side_of : PieceTrees → SideTree
  side_of pieces = side_from (λ b1. lowered (scope_of f) pieces last b1) (first_point pieces)

  -- the branch, from these words on
  abbrev pub SideFollows : Inside → (ℕ → Bool) → Store → Words → PieceTrees → Type 0
  SideFollows inside hidden s w pieces = (n : ℕ) → Follow kept (Ends f inside hidden) (pieces_run f pieces s n) (λ k. side_run (shapes f) (side_of pieces) w k)

  -- a branch that begins at a point, as the induction has it
  abbrev pub BranchFollows : PieceTrees → Type 0
  BranchFollows pieces = (inside : Inside) (hidden : ℕ → Bool) → PiecesFit inside pieces → BeginSuits f kept inside.lands hidden pieces → (s : Store) (w : Words) → Holds f hidden s w → (n : ℕ)
      → Follow kept (Arrives f inside last hidden (hidden_at_end hidden hidden pieces)) (pieces_run f pieces s n) (λ k. side_run (shapes f) (side_of pieces) w k)

  -- a branch that ends; out of one in which nothing jumps away nothing leads
  shut_ends : (inside : Inside) (outside hidden more : ℕ → Bool) (any : BlockTree) → Below f hidden more → (way : p.Way) (s : Store) (q : Run) → Arrives f shut last outside hidden way s q → Ends f inside more way s q
  shut_ends inside outside hidden more any le p.on s q a = last_ends f inside hidden hidden more p.on s q any le le a
  shut_ends inside outside hidden more any le p.broke s q a = absurd (false≢true a.0)
  shut_ends inside outside hidden more any le p.continued s q a = absurd (false≢true a.0)
  shut_ends inside outside hidden more any le (p.left call) s q a = absurd (false≢true a.0)

  module _ (operators : OperatorsAgree) (short : ArraysAreShort f) (hidden : ℕ → Bool) (t : Words) (b : BlockTree) (r : Ranged) (s : Store) (h : Opens f hidden t b r s) (at_end : (pieces : PieceTrees) → Below f (hidden_at_end hidden hidden pieces) hidden)
      (inside : Inside) where
    -- one branch begins at a point, and what the other one sets is set in the block
    pub record Alone (own other : PieceTrees) : Type 0 where
      pub same : (all_set (scope_of f) other b).ops ≡ b.ops
      pub worded : AreWorded f r b.outs → AreWorded f r (all_set (scope_of f) other b).outs
      pub own_follows : SideFollows inside hidden s (with_outs (all_set (scope_of f) other b).outs r) own
      pub other_follows : (n : ℕ) → Follow kept (Ends f inside hidden) (pieces_run f other s n) (λ k. goes trees.on (with_outs (all_set (scope_of f) other b).outs r) k)

    own_branch : (own : PieceTrees) → BranchFollows own → PiecesFit inside own → BeginSuits f kept inside.lands hidden own → (w : Words) → Holds f hidden s w → SideFollows inside hidden s w own
    own_branch own ih fit suits w holds n =
        let run = pieces_run f own s n in
        follows_weaker kept (Arrives f inside last hidden (hidden_at_end hidden hidden own)) (Ends f inside hidden) run.trace run.outcome (λ k. side_run (shapes f) (side_of own) w k)
        (λ way s1 q a. last_ends f inside hidden (hidden_at_end hidden hidden own) hidden way s1 q b (λ i z. z) (at_end own) a) (ih inside hidden fit suits s w holds n)

    alone_empty : (own : PieceTrees) → BranchFollows own → PiecesFit inside own → BeginSuits f kept inside.lands hidden own → Alone own tree.no_pieces
    alone_empty own ih fit suits =
        let w = with_outs b.outs r in
        let holds = closed_holds f hidden t b r s h.at h.single in record {
          same = refl;
          worded = λ x. x;
          own_follows = own_branch own ih fit suits w holds;
          other_follows = λ n. follows_goes kept (Ends f inside hidden) p.on s n (λ k. goes trees.on w k) (tt, (w, holds, λ k. refl));
        }

    alone_number : (own : PieceTrees) (name : VarId) (word : ℕ) (k : CType) → BranchFollows own → (at_end1 : (hidden1 : ℕ → Bool) → Below f (hidden_at_end hidden1 hidden1 own) hidden1) → AloneSuits f kept inside.lands hidden own (tree.then_ (tree.set name (tree.number word k)) tree.no_pieces)
        → Alone own (tree.then_ (tree.set name (tree.number word k)) tree.no_pieces)
    alone_number own name word k ih at_end1 suits =
        let n = number_of k word in
        let k0 = variable_type (scope_of f) name in
        let y = set_opens f operators short hidden t b r s h name (tree.number word k) n suits.0 suits.1 refl in
        let b1 = set (scope_of f) name (tree.number word k) b in
        let s1 = with_variable name.0 (convert (type_of (slice_get f.variables name.0)) n) s in
        let same : y.0 ≡ r = stands_same (shapes f) t b.ops y.0 r y.1.at.stands h.at.stands in
        let w = with_outs b1.outs r in
        let holds : Holds f (without_number hidden name.0) s1 w = subst (λ x. Holds f (without_number hidden name.0) s1 (with_outs b1.outs x)) same (closed_holds f (without_number hidden name.0) t b1 y.0 s1 y.1.at y.1.single) in
        let more = with_hidden hidden name.0 in
        let hold_own : Holds f more s w = record {
          variables = λ i l e apart.
              elim (eqb_tells name.0 i.0) [
                | inl c ↦ absurd (false≢true (sym apart ∙ ap (λ (x : Bool). if x then true else hidden i.0) c.0))
                | inr c ↦
                    let now : hidden i.0 ≡ false = sym (ap (λ (x : Bool). if x then true else hidden i.0) c.0) ∙ apart in
                    subst (λ z. IsWord l z (w.variables i.0)) (ap (λ (x : Bool). if x then convert (type_of (slice_get f.variables name.0)) n else s.variables i.0) c.0)
                    (holds.variables i l e (ap (λ (x : Bool). if x then false else hidden i.0) c.0 ∙ now))
              ];
          arrays = holds.arrays;
        } in
        let ends_below : Below f (hidden_at_end more more own) hidden =
        λ i apart.
        (elim (eqb_tells name.0 i) [
          | inl c ↦ subst (λ j. hidden_at_end more more own j ≡ false) c.1 suits.4
          | inr c ↦ at_end1 more i (ap (λ (x : Bool). if x then true else hidden i) c.0 ∙ apart)
        ]) in record {
          same = refl;
          worded = λ x. worded_set f r b.outs name (value_as b (tree.number word k) k0).operand (nat_lt name.0 (length f.variables)) x tt
              (operators.kept k0 (convert k0 n) (pattern k0 (convert k0 n)) (record { number = conversions_agree.number k0 n; word = refl }));
          own_follows = λ m.
              (let run = pieces_run f own s m in
              follows_weaker kept (Arrives f shut last more (hidden_at_end more more own)) (Ends f inside hidden) run.trace run.outcome (λ k1. side_run (shapes f) (side_of own) w k1)
              (shut_ends inside more (hidden_at_end more more own) hidden b ends_below) (ih shut more suits.3 suits.2 s w hold_own m));
          other_follows = λ m. follows_goes kept (Ends f inside hidden) p.on s1 m (λ k1. goes trees.on w k1)
              (tt, (w, holds_weaker f (without_number hidden name.0) hidden s1 w (λ i e. unhidden name.0 i e) holds, λ k1. refl));
        }
      where
        unhidden : (v i : ℕ) → hidden i ≡ false → without_number hidden v i ≡ false
        unhidden v i e = elim (eqb_tells v i) [
          | inl c ↦ ap (λ (x : Bool). if x then false else hidden i) c.0
          | inr c ↦ ap (λ (x : Bool). if x then false else hidden i) c.0 ∙ e
        ]

    pub alone_is : (own other : PieceTrees) → BranchFollows own → ((hidden1 : ℕ → Bool) → Below f (hidden_at_end hidden1 hidden1 own) hidden1) → PiecesFit inside own → AloneSuits f kept inside.lands hidden own other → Alone own other
    alone_is own tree.no_pieces ih le fit suits = alone_empty own ih fit suits
    alone_is own (tree.then_ (tree.set name (tree.number word k)) tree.no_pieces) ih le fit suits = alone_number own name word k ih le suits
    alone_is own (tree.then_ (tree.set name (tree.number word k)) (tree.then_ first rest)) ih le fit suits = elim suits [ ]
    alone_is own (tree.then_ (tree.set name (tree.variable v k)) rest) ih le fit suits = elim suits [ ]
    alone_is own (tree.then_ (tree.set name (tree.element array subscripts k at)) rest) ih le fit suits = elim suits [ ]
    alone_is own (tree.then_ (tree.set name (tree.unary op arg k at)) rest) ih le fit suits = elim suits [ ]
    alone_is own (tree.then_ (tree.set name (tree.binary op left right k at)) rest) ih le fit suits = elim suits [ ]
    alone_is own (tree.then_ (tree.set name (tree.choice test left right k)) rest) ih le fit suits = elim suits [ ]
    alone_is own (tree.then_ (tree.set name (tree.cast to arg)) rest) ih le fit suits = elim suits [ ]
    alone_is own (tree.then_ (tree.put array subscripts x at) rest) ih le fit suits = elim suits [ ]
    alone_is own (tree.then_ (tree.fork test yes_ no_ end) rest) ih le fit suits = elim suits [ ]
    alone_is own (tree.then_ (tree.repeat_ id post before test body step end) rest) ih le fit suits = elim suits [ ]
    alone_is own (tree.then_ (tree.pick test labels body end) rest) ih le fit suits = elim suits [ ]
    alone_is own (tree.then_ tree.break_ rest) ih le fit suits = elim suits [ ]
    alone_is own (tree.then_ tree.next_ rest) ih le fit suits = elim suits [ ]
    alone_is own (tree.then_ (tree.leave call) rest) ih le fit suits = elim suits [ ]
    alone_is own (tree.then_ (tree.land call end) rest) ih le fit suits = elim suits [ ]
    alone_is own (tree.then_ (tree.mark point) rest) ih le fit suits = elim suits [ ]

    -- ---- the block before the fork

    -- the block with what is set before, and both branches from there
    pub record Prepared (yes_ no_ : PieceTrees) : Type 0 where
      pub block : BlockTree
      pub is_ : set_before (scope_of f) no_ (set_before (scope_of f) yes_ b) ≡ block
      pub same : block.ops ≡ b.ops
      pub worded : AreWorded f r b.outs → AreWorded f r block.outs
      pub yes_follows : SideFollows inside hidden s (with_outs block.outs r) yes_
      pub no_follows : SideFollows inside hidden s (with_outs block.outs r) no_

    pub prepared : (yes_ no_ : PieceTrees) → BranchFollows yes_ → BranchFollows no_ → ((pieces : PieceTrees) (hidden1 : ℕ → Bool) → Below f (hidden_at_end hidden1 hidden1 pieces) hidden1) → PiecesFit inside yes_ → PiecesFit inside no_
        → (o1 o2 : Option Point) → first_point yes_ ≡ o1 → first_point no_ ≡ o2 → SidesSuit f kept inside.lands hidden o1 o2 yes_ no_ → Prepared yes_ no_
    prepared yes_ no_ ih1 ih2 le fit1 fit2 (Some p1) (Some p2) e1 e2 suits =
        let w = with_outs b.outs r in
        let holds = closed_holds f hidden t b r s h.at h.single in record {
          block = b;
          is_ = set_nothing f no_ p2 (set_before (scope_of f) yes_ b) e2 ∙ set_nothing f yes_ p1 b e1;
          same = refl;
          worded = λ x. x;
          yes_follows = own_branch yes_ ih1 fit1 suits.0 w holds;
          no_follows = own_branch no_ ih2 fit2 suits.1 w holds;
        }
    prepared yes_ no_ ih1 ih2 le fit1 fit2 (Some p1) None e1 e2 suits =
        let a = alone_is yes_ no_ ih1 (le yes_) fit1 suits in record {
          block = all_set (scope_of f) no_ b;
          is_ = set_all f no_ (set_before (scope_of f) yes_ b) e2 ∙ ap (all_set (scope_of f) no_) (set_nothing f yes_ p1 b e1);
          same = a.same;
          worded = a.worded;
          yes_follows = a.own_follows;
          no_follows = λ n. follows_same kept (Ends f inside hidden) (pieces_run f no_ s n) (λ k. side_run (shapes f) (side_of no_) (with_outs (all_set (scope_of f) no_ b).outs r) k) (λ k. goes trees.on (with_outs (all_set (scope_of f) no_ b).outs r) k)
              (λ k. ap (λ o. side_run (shapes f) (side_from (λ b1. lowered (scope_of f) no_ last b1) o) (with_outs (all_set (scope_of f) no_ b).outs r) k) e2) (a.other_follows n);
        }
    prepared yes_ no_ ih1 ih2 le fit1 fit2 None (Some p2) e1 e2 suits =
        let a = alone_is no_ yes_ ih2 (le no_) fit2 suits in record {
          block = all_set (scope_of f) yes_ b;
          is_ = set_nothing f no_ p2 (set_before (scope_of f) yes_ b) e2 ∙ set_all f yes_ b e1;
          same = a.same;
          worded = a.worded;
          yes_follows = λ n. follows_same kept (Ends f inside hidden) (pieces_run f yes_ s n) (λ k. side_run (shapes f) (side_of yes_) (with_outs (all_set (scope_of f) yes_ b).outs r) k) (λ k. goes trees.on (with_outs (all_set (scope_of f) yes_ b).outs r) k)
              (λ k. ap (λ o. side_run (shapes f) (side_from (λ b1. lowered (scope_of f) yes_ last b1) o) (with_outs (all_set (scope_of f) yes_ b).outs r) k) e1) (a.other_follows n);
          no_follows = a.own_follows;
        }
    prepared yes_ no_ ih1 ih2 le fit1 fit2 None None e1 e2 suits = elim suits [ ]

-- ---- the whole fork

module _ (f : Frame) (kept : Point → Bool) (operators : OperatorsAgree) (short : ArraysAreShort f) (at_end : (pieces : PieceTrees) (hidden1 : ℕ → Bool) → Below f (hidden_at_end hidden1 hidden1 pieces) hidden1)
    (hidden : ℕ → Bool) (t : Words) (b : BlockTree) (r : Ranged) (s : Store) (h : Opens f hidden t b r s) (inside : Inside) (rest : Rest) (is_rest : IsRest (shapes_of f) rest)
    (test : PureTree) (yes_ no_ : PieceTrees) (end : Point) (fit1 : PiecesFit inside yes_) (fit2 : PiecesFit inside no_) (suits : PieceSuits f kept inside.lands hidden (tree.fork test yes_ no_ end))
    (ih1 : BranchFollows f kept yes_) (ih2 : BranchFollows f kept no_) where
  abbrev known : p.Way → Store → Run → Type 0
  known = Arrives f inside rest hidden hidden

  abbrev g : Run
  g = within (shapes f) (lowered_piece (scope_of f) (tree.fork test yes_ no_ end) rest b) t

  abbrev flag : Bool
  flag = is_live b && is_straight (tree.fork test yes_ no_ end)

  chosen : (x : ℤ) → value f.arrays test s ≡ is x → (n : ℕ) → Follow kept known (then_ (if is_true x then pieces_run f yes_ s n else pieces_run f no_ s n) (λ w t2 n2. behind_fork w end t2 n2)) g
  chosen x e n =
      let y = test_opens f operators short hidden t b r s h test x suits.0 e in
      let b0 = with_ops (condition test b).ops b in
      let ready = prepared f kept operators short hidden t b0 y.next s y.opens (λ pieces. at_end pieces hidden) inside yes_ no_ ih1 ih2 at_end fit1 fit2 (first_point yes_) (first_point no_) refl refl suits.2 in
      let q = rest (begun end) in
      let shape = fork (side_of f kept yes_) (side_of f kept no_) flag in
      let head = record ready.block { exit = branch (condition test b).operand } in
      let w = with_outs ready.block.outs y.next in
      let c = is_true x in
      let stands : Stands (shapes f) t ready.block.ops y.next = subst (λ l. Stands (shapes f) t l y.next) (sym ready.same) y.opens.at.stands in
      let chosen_run : Ran Store p.Way = if c then pieces_run f yes_ s n else pieces_run f no_ s n in
      let sides : Run = λ k. if c then side_run (shapes f) (side_of f kept yes_) w k else side_run (shapes f) (side_of f kept no_) w k in
      follows_same kept known (then_ chosen_run (λ w1 t2 n2. behind_fork w1 end t2 n2)) g (λ k. then_ (sides k) (behind f q))
      (λ k.
      (ap (λ i. within (shapes f) (followed (if i then forking (scope_of f) yes_ no_ b (condition test b) else b) shape q) t k) (live_is f operators short hidden t b r s h)
      ∙ ap (λ (z : BlockTree). within (shapes f) (followed (record z { exit = branch (condition test b).operand }) shape q) t k) ready.is_
      ∙ within_followed f head shape q t k
      ∙ within_is (shapes f) head (more_parts shape (first_of q) (rest_of q)) t y.next stands k
      ∙ ap (λ i. parts_run (shapes f) (more_parts shape (first_of q) (rest_of q)) (trees.taken i) w k) y.holds))
      (follows_both kept (Ends f inside hidden) known chosen_run.trace chosen_run.outcome (λ w1 t2 n2. behind_fork w1 end t2 n2) sides (behind f q)
      (follows_if f kept (Ends f inside hidden) c (pieces_run f yes_ s n) (pieces_run f no_ s n) (λ k. side_run (shapes f) (side_of f kept yes_) w k) (λ k. side_run (shapes f) (side_of f kept no_) w k) (ready.yes_follows n) (ready.no_follows n))
      (λ way s1 n1 q1 a. follows_fork f kept inside rest is_rest hidden hidden end suits.1 (λ i z. z) way s1 n1 q1 a))

  pub fork_follows : (n : ℕ) → Follow kept known (piece_run f (tree.fork test yes_ no_ end) s n) g
  fork_follows n = by (value f.arrays test s) refl where
    by : (v : Valued ℤ) → value f.arrays test s ≡ v
        → Follow kept known (valued v (λ x t1 n1. then_ (if is_true x then pieces_run f yes_ t1 n1 else pieces_run f no_ t1 n1) (λ w t2 n2. behind_fork w end t2 n2)) s n) g
    by (faulty rule at) e = follows_fails kept known rule at g
    by (is x) e = chosen x e n
