-- Where blocks of a whole program begin.
use Rattle.std.proofs.Common.{◌≡◌, ◌∙◌, ℕ, Bool, true, false, List, [], ◌∷◌, ◌++◌, length, refl, ap, sym, subst, append-nil, Option, Some}
use Rattle.std.specs.Prelude.{drop, take}
use Rattle.std.proofs.lemmas.Bool.{false≢true, or_left, or_right}
use Rattle.hls_base.specs.declared.point.Point.{Point}
use Rattle.hls_base.specs.declared.point.PointKind.TheVariants as point
use Rattle.hls_base.specs.declared.number.Kept.{Kept}
use Rattle.hls_base.specs.declared.number.VarId.{VarId}
use Rattle.hls_base.specs.Tallies.{same_point}
use Rattle.hls_base.proofs.SamePoints.{same_point-self}
use Rattle.pieces.specs.Resolved.Core.{CoreFunctionTree, CoreProgramTree}
use Rattle.pieces.specs.Trees as tree
use Rattle.pieces.specs.Trees.{PieceTree, PieceTrees, piece_row}
use Rattle.piece_making.specs.declared.frame.Home.{Home}
use Rattle.piece_making.specs.Making.{State, Part, gives, then_, emit, fresh_result, next_call}
use Rattle.piece_making.specs.Calls.{Call, point_in}
use Rattle.c_expand.specs.Expressions.{Callee}
use Rattle.c_expand.specs.Expansion.{calls, run_through, locals, kept_scalars, file_homes, top_parameters, outermost, top_call, top_run, top_made, named, nothing, expansion}
use Rattle.passes.specs.Lowering.Shapes.{first_point}
use Rattle.pass_runs.specs.LowerRuns.Holding.{none_hidden}
use Rattle.expanded_pieces.specs.Jumps.{AllJumpsFit, ProgramJumpsFit}
use Rattle.expanded_pieces.specs.BegunPieces.Beginning.{BeginsWell}
use Rattle.expanded_pieces.specs.BegunPieces.Points.{KeepsBegun, EachPoint, begins_at, is_among, MarksDiffer, begin_points}
use Rattle.expanded_pieces.specs.BegunPieces.{ExpandedPiecesBeginWell, ExpandedPiecesBeginAtTheirPoints, ExpandedPiecesHaveAPoint}
use Rattle.expanded_pieces.proofs.BegunPieces.Agreeing.{kept_agree}
use Rattle.expanded_pieces.proofs.BegunPieces.Well.{AllGood}
use Rattle.expanded_pieces.proofs.BegunPieces.Statements.{BeginsByMark, begins_first}
use Rattle.expanded_pieces.proofs.BegunPieces.Homes.{Enough, KeptBelow, homes_more, kept_made, below_more, top_housed, locals_housed, file_housed, locals_none, parameters_none, file_none}
use Rattle.expanded_pieces.proofs.BegunPieces.Calls.{result_none, top_call_begun}

-- ---- parts without pieces

behind : {A B : Type 0} {xs : List PieceTree} (first : Part A) (next : A → State → Part B) → first.pieces ≡ [] → (next first.value first.state).pieces ≡ xs → (then_ first next).pieces ≡ xs
unfolding then_
behind first next e f = ap (λ ys. ys ++ (next first.value first.state).pieces) e ∙ f

before : {A B : Type 0} (first : Part A) (x : A → B) → (then_ first (λ a s. gives (x a) s)).pieces ≡ first.pieces
unfolding then_
before first x = append-nil first.pieces

call_none : (s : State) → (next_call s).pieces ≡ []
unfolding next_call
call_none s = refl

run_first : (g : Callee) (c : Call) (fn : CoreFunctionTree) (s : State) → first_point (piece_row (run_through g c fn s).pieces) ≡ Some (point_in c point.Begin fn.at)
unfolding then_ emit
run_first g c fn s = refl

mark_first : (xs : List PieceTree) (q : Point) → first_point (piece_row xs) ≡ Some q → BeginsByMark xs
mark_first (tree.mark point ∷ xs) q e = tt
mark_first xs q e = absurd cc

-- ---- the top function

module _ (p : CoreProgramTree) (fn : CoreFunctionTree) where
  abbrev kept_part : Part (List Kept)
  kept_part = kept_scalars p.file [] nothing

  abbrev params_part : Part (List Home)
  params_part = top_parameters (take fn.params fn.objects) [] kept_part.state

  abbrev file_part : Part (List Home)
  file_part = file_homes p.file kept_part.value [] params_part.state

  abbrev homes_part : Part (List Home)
  homes_part = locals (drop fn.params fn.objects) params_part.value file_part.state

  abbrev call_part : Part (Option VarId)
  call_part = top_call p.functions fn file_part.value (length kept_part.state.variables) homes_part.value homes_part.state

  top_pieces : (top_run p fn nothing).pieces ≡ call_part.pieces
  top_pieces =
      behind kept_part _ (kept_made p.file [] nothing).none
      (behind params_part _ (parameters_none (take fn.params fn.objects) [] kept_part.state)
      (behind file_part _ (file_none p.file kept_part.value [] params_part.state)
      (behind homes_part _ (locals_none (drop fn.params fn.objects) params_part.value file_part.state) (before call_part _))))

  call_pieces : (s : State) (file homes : List Home) (n : ℕ) → first_point (piece_row (top_call p.functions fn file n homes s).pieces) ≡ Some (record { path = []; at = fn.at; kind = point.Begin })
  call_pieces s file homes n =
      let call = next_call s in
      let own = fresh_result fn.result call.state in
      let run = run_through (calls p.functions (length p.functions)) (outermost fn file n homes call.value own.value) fn own.state in
      ap (λ xs. first_point (piece_row xs)) (behind call _ (call_none s) (behind own _ (result_none fn.result call.state) (before run (λ u. own.value))))
      ∙ run_first (calls p.functions (length p.functions)) (outermost fn file n homes call.value own.value) fn own.state

  top_first : first_point (piece_row (top_run p fn nothing).pieces) ≡ Some (record { path = []; at = fn.at; kind = point.Begin })
  top_first = ap (λ xs. first_point (piece_row xs)) top_pieces ∙ call_pieces homes_part.state file_part.value homes_part.value (length kept_part.state.variables)

  top_good : (kept : Point → Bool) → ProgramJumpsFit p → AllJumpsFit false false false fn.body → AllGood kept none_hidden (top_run p fn nothing).pieces
  top_good kept jumps h =
      let k = kept_made p.file [] nothing in
      let enough = subst (λ ks. Enough p.file ks) (sym k.value) k.enough in
      let low = subst (λ ks. KeptBelow (length kept_part.state.variables) ks) (sym k.value) k.low in
      let h1 = top_housed none_hidden (take fn.params fn.objects) [] kept_part.state (λ i e. refl) tt in
      let h2 = file_housed p.file kept_part.value [] params_part.state enough (below_more (length kept_part.state.variables) (length params_part.state.variables) kept_part.value h1.more low) tt in
      let h3 = locals_housed none_hidden (drop fn.params fn.objects) params_part.value file_part.state (λ i e. refl) (homes_more none_hidden (length params_part.state.variables) (length file_part.state.variables) params_part.value h2.more h1.ready) in
      let q = top_call_begun kept p.functions jumps fn h file_part.value (length kept_part.state.variables) homes_part.value homes_part.state
      (homes_more none_hidden (length file_part.state.variables) (length homes_part.state.variables) file_part.value h3.more h2.ready) h3.ready in
      subst (λ xs. AllGood kept none_hidden xs) (sym top_pieces) q.good

  top_begins : (kept : Point → Bool) → ProgramJumpsFit p → AllJumpsFit false false false fn.body → KeepsBegun kept (piece_row (top_run p fn nothing).pieces) → BeginsWell kept [] none_hidden (piece_row (top_run p fn nothing).pieces)
  top_begins kept jumps h k =
      let xs = (top_run p fn nothing).pieces in
      begins_first kept none_hidden xs (mark_first xs _ top_first) (top_good kept jumps h) [] none_hidden (kept_agree kept (piece_row xs) k) (λ j e. absurd (false≢true e)) (λ i e. e)

-- ---- the laws

pub expanded_begin : ExpandedPiecesBeginWell
expanded_begin p top jumps kept k =
    let fn = top.0 in
    let e = top.1 in
    subst (λ o. BeginsWell kept [] none_hidden (named o (top_made p o)).pieces) (sym e) (top_begins p fn kept jumps (jumps p.top fn e) (subst (λ o. KeepsBegun kept (named o (top_made p o)).pieces) e k))

pub expanded_point : ExpandedPiecesHaveAPoint
expanded_point p fn e = subst (λ o. first_point (named o (top_made p o)).pieces ≡ Some (record { path = []; at = fn.at; kind = point.Begin })) (sym e) (top_first p fn)

each_among : (all xs : List Point) → ((q : Point) → is_among xs q ≡ true → is_among all q ≡ true) → EachPoint (λ q. is_among all q ≡ true) xs
each_among all [] h = tt
each_among all (x ∷ xs) h = (h x (or_left (same_point x x) (is_among xs x) (same_point-self x)), each_among all xs (λ q e. h q (or_right (same_point x q) (is_among xs q) e)))

pub keeps_own : (pieces : PieceTrees) → MarksDiffer pieces → KeepsBegun (begins_at pieces) pieces
keeps_own pieces differ = record { begun = each_among (begin_points pieces) (begin_points pieces) (λ q e. e); dropped = differ }

pub expanded_begin_there : ExpandedPiecesBeginAtTheirPoints
expanded_begin_there p top jumps differ = expanded_begin p top jumps (begins_at (expansion p).pieces) (keeps_own (expansion p).pieces differ)
