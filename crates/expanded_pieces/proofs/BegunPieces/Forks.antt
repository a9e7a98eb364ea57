-- Forks, of which one branch may have no point.
use Rattle.std.proofs.Common.{◌≡◌, ◌≤◌, ℕ, Bool, false, List, [], ◌∷◌, ◌++◌, length, refl, arith, if◌then◌else◌}
use Rattle.std.proofs.lemmas.Bool.{false≢true}
use Rattle.std.proofs.lemmas.List.{length-append}
use Rattle.hls_base.specs.declared.place.Place.{Place}
use Rattle.hls_base.specs.declared.point.Point.{Point}
use Rattle.hls_base.specs.declared.point.PointKind.TheVariants as point
use Rattle.hls_base.specs.declared.number.VarId.{VarId}
use Rattle.c_token.specs.declared.ctype.CType.{CType}
use Rattle.c_value.specs.Values.{int_type}
use Rattle.pieces.specs.Trees as tree
use Rattle.pieces.specs.Trees.{PureTree, PieceTree, piece_row}
use Rattle.piece_making.specs.Making.{State, Part, Inner, gives, then_, emit, inside, fresh}
use Rattle.piece_making.specs.Calls.{Call, point_in}
use Rattle.c_expand.specs.Expressions.{arm, decided, fork_of}
use Rattle.pass_runs.specs.LowerRuns.LoweredTrees.Fitting.{PiecesFit}
use Rattle.pass_runs.specs.LowerRuns.Suiting.{shut, with_hidden}
use Rattle.expanded_pieces.proofs.Parts.{FitsThere, then_fits, set_fits, mark_fits}
use Rattle.expanded_pieces.proofs.Statements.{nothing, meets_nothing}
use Rattle.expanded_pieces.specs.BegunPieces.Reads.{ReadsNone}
use Rattle.expanded_pieces.proofs.BegunPieces.Hiding.{reads_below, with_below, other_shown, set_last}
use Rattle.expanded_pieces.proofs.BegunPieces.Ends.{AllEnds}
use Rattle.expanded_pieces.proofs.BegunPieces.Well.{Good, AllGood, begins_well}
use Rattle.expanded_pieces.proofs.BegunPieces.Parts.{Between, Ready, ready_more, any, Begun, then_at, then_there, gives_begun, emit_begun, set_begun, mark_begun, There, Within, inside_begun}

abbrev pub anything : List ℕ → Type 0
anything lengths = Unit {0}

pub ready_hidden : (hidden : ℕ → Bool) (c : Call) (k : CType) (s : State) → Ready hidden c s → Ready (with_hidden hidden (length s.variables)) c (fresh k s).state
unfolding fresh
ready_hidden hidden c k s r =
    let n = length-append s.variables (k ∷ []) in
    record {
      new = λ i le. other_shown hidden (length s.variables) i (λ e. omega (arith, n, le, e)) (r.new i (omega (arith, n, le)));
      homes = λ cell own e. (let q = (r.homes cell own e).0 in omega (arith, n, q), other_shown hidden (length s.variables) own.0 (λ d. let q = (r.homes cell own e).0 in omega (arith, d, q)) (r.homes cell own e).1);
    }

module _ (kept : Point → Bool) (hidden : ℕ → Bool) where
  -- ---- pieces

  pub fork_both : (test : PureTree) (p q : Point) (xs ys : List PieceTree) (end : Point) → ReadsNone hidden test → AllGood kept hidden (tree.mark p ∷ xs) → AllGood kept hidden (tree.mark q ∷ ys)
      → Good kept hidden (tree.fork test (piece_row (tree.mark p ∷ xs)) (piece_row (tree.mark q ∷ ys)) end)
  fork_both test p q xs ys end t h g lands less a apart b = (
    reads_below less hidden b test t,
    a.2,
    (begins_well kept hidden p xs h.2 lands less a.0 (λ j e. (apart j e).0) b, begins_well kept hidden q ys g.2 lands less a.1 (λ j e. (apart j e).1) b),
  )

  pub fork_empty : (test : PureTree) (p : Point) (xs : List PieceTree) (end : Point) → ReadsNone hidden test → AllGood kept hidden (tree.mark p ∷ xs) → Good kept hidden (tree.fork test (piece_row (tree.mark p ∷ xs)) (piece_row []) end)
  fork_empty test p xs end t h lands less a apart b = (reads_below less hidden b test t, a.2, begins_well kept hidden p xs h.2 lands less a.0 (λ j e. (apart j e).0) b)

  -- the other branch sets the variable, which is hidden in this one until it sets it too
  module _ (test : PureTree) (p : Point) (xs : List PieceTree) (own : VarId) (value : PureTree) (word : ℕ) (end : Point) (t : ReadsNone hidden test) (good : AllGood kept (with_hidden hidden own.0) (tree.mark p ∷ (xs ++ tree.set own value ∷ [])))
      (fits : PiecesFit shut (piece_row (tree.mark p ∷ (xs ++ tree.set own value ∷ [])))) where
    pub fork_second_alone : Good kept hidden (tree.fork test (piece_row (tree.mark p ∷ (xs ++ tree.set own value ∷ []))) (piece_row (tree.set own (tree.number word int_type) ∷ [])) end)
    fork_second_alone lands less a apart b = (
      reads_below less hidden b test t,
      a.2,
      (begins_well kept (with_hidden hidden own.0) p (xs ++ tree.set own value ∷ []) good.2 [] (with_hidden less own.0) a.0 (λ j e. absurd (false≢true e)) (with_below less hidden own.0 b), fits, set_last (with_hidden less own.0) (with_hidden less own.0) (tree.mark p ∷ xs) own value),
    )

    pub fork_first_alone : Good kept hidden (tree.fork test (piece_row (tree.set own (tree.number word int_type) ∷ [])) (piece_row (tree.mark p ∷ (xs ++ tree.set own value ∷ []))) end)
    fork_first_alone lands less a apart b = (
      reads_below less hidden b test t,
      a.2,
      (begins_well kept (with_hidden hidden own.0) p (xs ++ tree.set own value ∷ []) good.2 [] (with_hidden less own.0) a.1 (λ j e. absurd (false≢true e)) (with_below less hidden own.0 b), fits, set_last (with_hidden less own.0) (with_hidden less own.0) (tree.mark p ∷ xs) own value),
    )

  -- ---- parts

  pub fork_begun : (c : Call) (at : Place) (test : PureTree) (left right : List PieceTree) (own : VarId) (k : CType) (low : ℕ) (s : State) → low ≤ s.calls → Good kept hidden (tree.fork test (piece_row left) (piece_row right) (point_in c point.End at))
      → AllEnds (Between low s.calls) (piece_row left) → AllEnds (Between low s.calls) (piece_row right) → hidden own.0 ≡ false → Begun kept hidden low (ReadsNone hidden) s (fork_of c at test left right own k s)
  fork_begun c at test left right own k low s le good l r shown =
      then_at kept hidden low s (emit (tree.fork test (piece_row left) (piece_row right) (point_in c point.End at)) s) (λ u s1. gives (tree.variable own k) s1) le
      (emit_begun kept hidden low (tree.fork test (piece_row left) (piece_row right) (point_in c point.End at)) s good (l, r))
      (gives_begun kept hidden _ (tree.variable own k) shown _)

  -- an arm, which sets the variable at its end
  pub record ArmBegun (own : VarId) (s : State) (part : Part (Inner (Unit {0}))) : Type 0 where
    pub within : Within kept hidden any s part
    pub at : Point
    pub pieces : List PieceTree
    pub value : PureTree
    pub shape : part.value.pieces ≡ tree.mark at ∷ (pieces ++ tree.set own value ∷ [])
    pub fits : PiecesFit shut (piece_row part.value.pieces)

  pub arm_begun : (c : Call) (at : Place) (operand : State → Part PureTree) (converted : PureTree → PureTree) (own : VarId) → ((x : PureTree) → ReadsNone hidden x → ReadsNone hidden (converted x)) → There kept hidden c (ReadsNone hidden) operand
      → FitsThere anything nothing operand → (s : State) → Ready hidden c s → ArmBegun own s (arm c at operand converted own s)
  unfolding inside then_ emit
  arm_begun c at operand converted own reads h f s r =
      let s0 = record s { made = 0 } in
      let q = point_in c point.Arm at in
      let s1 = (emit (tree.mark q) s0).state in
      record {
        within = inside_begun kept hidden (λ s0. then_ (emit (tree.mark q) s0) (λ u s1. then_ (operand s1) (λ value s2. emit (tree.set own (converted value)) s2))) s
            (then_there kept hidden c s0 (ready_more hidden c s s0 (omega arith) r) _ _ (mark_begun kept hidden s0.calls q s0)
            (λ u w s1 r1. then_there kept hidden c s1 r1 _ _ (h s1 r1) (λ x v s2 r2. set_begun kept hidden s2.calls own (converted x) s2 (reads x v))));
        at = q;
        pieces = (operand s1).pieces;
        value = converted (operand s1).value;
        shape = refl;
        fits = (then_fits anything nothing s0 (emit (tree.mark q) s0) (λ u s1. then_ (operand s1) (λ value s2. emit (tree.set own (converted value)) s2)) (mark_fits anything nothing q s0)
            (λ u s1. then_fits anything nothing s1 (operand s1) (λ value s2. emit (tree.set own (converted value)) s2) (f s1) (λ value s2. set_fits anything nothing own (converted value) s2))).fits shut (meets_nothing shut);
      }

-- the other arm, which sets a number
pub record Decided (kept : Point → Bool) (hidden : ℕ → Bool) (own : VarId) (s : State) (part : Part (Inner (Unit {0}))) : Type 0 where
  pub within : Within kept hidden any s part
  pub word : ℕ
  pub shape : part.value.pieces ≡ tree.set own (tree.number word int_type) ∷ []

pub decided_begun : (kept : Point → Bool) (hidden : ℕ → Bool) (is_one : Bool) (own : VarId) (s : State) → Decided kept hidden own s (decided is_one own s)
unfolding inside emit
decided_begun kept hidden is_one own s =
    let word = if is_one then 1 else 0 in
    record {
      within = inside_begun kept hidden (λ s0. emit (tree.set own (tree.number word int_type)) s0) s (set_begun kept hidden s.calls own (tree.number word int_type) (record s { made = 0 }) tt);
      word = word;
      shape = refl;
    }
