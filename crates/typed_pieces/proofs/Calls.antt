-- Calls become typed pieces.
use Rattle.std.proofs.Common.{◌≡◌, ◌<◌, ◌≤◌, ℕ, zero, suc, Bool, true, false, refl, sym, subst, arith, List, [], ◌∷◌, ◌++◌, take, slice_get, Option, Some, None}
use Rattle.hls_base.specs.declared.place.Place.{Place}
use Rattle.hls_base.specs.declared.point.Point.{Point}
use Rattle.hls_base.specs.declared.point.PointKind.TheVariants as point
use Rattle.hls_base.specs.declared.number.VarId.{VarId}
use Rattle.c_token.specs.declared.ctype.CType.{CType}
use Rattle.c_value.specs.Values.{int_type}
use Rattle.pieces.specs.Resolved.Core.{FileObjectTree, CoreFunctionTree, CoreProgramTree}
use Rattle.pieces.specs.declared.piece.CallId.{CallId}
use Rattle.piece_making.specs.declared.frame.Home.{Home}
use Rattle.piece_making.specs.Leaving.{any_leaves}
use Rattle.piece_making.specs.Making.{State}
use Rattle.piece_making.specs.Calls.{Call, point_in}
use Rattle.c_meaning.specs.PieceRuns.Pieces.{Frame}
use Rattle.c_expand.specs.Expressions.{Given, Callee, value_or_zero}
use Rattle.c_expand.specs.Expansion.{end_of, run_through, within, value_of, opened, opened_as}
use Rattle.c_expand.specs.Expansion as expansion
use Rattle.expanded_programs.specs.Statements.Scopes.{Setting, enter}
use Rattle.expanded_programs.specs.Calls.Programs.{setting_of, at_start, IsProgramSound}
use Rattle.pass_runs.specs.LowerRuns.OperatorWords.Words.{IsType}
use Rattle.typed_pieces.specs.Typed.{PieceTyped}
use Rattle.typed_pieces.specs.Types.{ProgramHasTypes}
use Rattle.typed_pieces.specs.Worlds.{World, Later, Makes, Anything, IsValue, frame_at}
use Rattle.typed_pieces.specs.Standing.{Result, FileFits, Stands}
use Rattle.typed_pieces.proofs.Typing.{variable_typed}
use Rattle.typed_pieces.proofs.Parts.{IsResult, later_both, then_makes, gives_makes, emit_makes, fresh_result_makes, call_makes}
use Rattle.typed_pieces.proofs.Names.{file_later, own_later}
use Rattle.typed_pieces.proofs.Changes.{int_typed}
use Rattle.typed_pieces.proofs.Actions.{CalleesTyped, marked_makes}
use Rattle.typed_pieces.proofs.Statements.{no_labels, statements_make}
use Rattle.typed_pieces.proofs.Homes.{AllStand, AreGivenTo, given_to, homes_make}

end_typed : (f : Frame) (b : Bool) (call : CallId) (end : Point) → PieceTyped f (end_of b call end)
end_typed f true call end = tt
end_typed f false call end = tt

-- ---- results

result_of : (r : Option CType) (s : State) (w : World s) (own : Option VarId) → IsResult r s w own → (k : CType) → r ≡ Some k → (v : VarId) × (own ≡ Some v) × (slice_get s.variables v.0 ≡ Some k)
result_of r s w own h k e = subst (λ m. IsResult m s w own) e h

result_later : (r : Option CType) {s s1 : State} {w : World s} {w1 : World s1} (own : Option VarId) → Later s w s1 w1 → IsResult r s w own → IsResult r s1 w1 own
result_later None own l h = h
result_later (Some k) own l h = (h.0, h.1, l.variables h.0.0 k h.2)

result_value : (r : Option CType) (s : State) (w : World s) (own : Option VarId) → ((k : CType) → r ≡ Some k → IsType k) → IsResult r s w own → Result r s w (value_of own r)
result_value None s w own t h = subst (λ m. IsValue int_type s (value_or_zero (value_of m None))) (sym h) (record { typed = int_typed s 0 (omega arith); type = refl })
result_value (Some k) s w own t h = subst (λ m. IsValue k s (value_or_zero (value_of m (Some k)))) (sym h.1) (record { typed = variable_typed (frame_at s) h.0 k (t k refl) h.2; type = refl })

-- ---- bodies

-- what stands for the objects of file scope in a call
abbrev pub FileStands : CoreProgramTree → Call → State → Type 0
FileStands p c s = (i : ℕ) (o : FileObjectTree) → slice_get p.file i ≡ Some o → (h : Home) × (slice_get c.file i ≡ Some h) × FileFits s h o

pub file_stands_later : (p : CoreProgramTree) (c : Call) {s s1 : State} {w : World s} {w1 : World s1} → Later s w s1 w1 → FileStands p c s → FileStands p c s1
file_stands_later p c l h i o e = (let f = h i o e in (f.0, f.1, file_later l f.0 o f.2))

module _ (p : CoreProgramTree) (sound : IsProgramSound p) (types : ProgramHasTypes p) where
  -- the setting of the function with this number
  abbrev pub setting : ℕ → CoreFunctionTree → Setting
  setting i fn = setting_of p (λ j. sound.rank j < sound.rank i) fn

  -- calls of the functions of ranks below n
  abbrev pub CallsBelow : ℕ → Callee → Type 1
  CallsBelow n g = (Callable : ℕ → Type 0) (fn : CoreFunctionTree) (c : Call) → ((j : ℕ) → Callable j → sound.rank j < n) → CalleesTyped (setting_of p Callable fn) c g

  pub body_makes : (i : ℕ) (fn : CoreFunctionTree) → slice_get p.functions i ≡ Some fn → (g : Callee) → CallsBelow (sound.rank i) g → (c : Call) → c.objects ≡ fn.objects → (s : State) (w : World s) → FileStands p c s → AllStand fn s w c.homes → IsResult fn.result s w c.result
      → Makes Anything s w (run_through g c fn s)
  body_makes i fn is_fn g calls c objects s w file own result =
      let S = setting i fn in
      let is_sound = sound.functions i fn is_fn in
      let of_c = types.functions i fn is_fn in
      let r = enter fn.outermost (at_start S) in
      then_makes (marked_makes c point.Begin fn.at s w)
      (λ u s1 w1 l1 a.
      (let stands : Stands S c r s1 w1 = record {
        file = λ j o e. (types.file j o e, file_stands_later p c l1 file j o e);
        own = λ j o e. (let h = own j o e in (of_c.objects j o e, (h.0, h.1, own_later l1 fn.params j h.0 o h.2)));
        ready = λ j slot e ready. absurd ready;
        result = λ k e. result_of fn.result s1 w1 c.result (result_later fn.result c.result l1 result) k e;
        objects = objects;
      } in
      then_makes (statements_make S c g (calls (λ j. sound.rank j < sound.rank i) fn c (λ j h. h)) r _ false false false fn.body true int_type s1 w1 stands is_sound.body of_c.body of_c.cases (no_labels int_type w1))
      (λ v s2 w2 l2 b. emit_makes (end_of (any_leaves fn.body true) c.call (point_in c point.End fn.at)) s2 w2 (end_typed (frame_at s2) (any_leaves fn.body true) c.call (point_in c point.End fn.at)))))

  -- ---- calls

  opened_makes : (i : ℕ) (fn : CoreFunctionTree) → slice_get p.functions i ≡ Some fn → (g : Callee) → CallsBelow (sound.rank i) g → (given : List Given) (c : Call) (at : Place) (s : State) (w : World s) → FileStands p c s → AreGivenTo s (take fn.params fn.objects) given
      → Makes (Result fn.result) s w (opened g fn given c at s)
  opened_makes i fn is_fn g calls given c at s w file h =
      then_makes (homes_make fn given s w (sound.functions i fn is_fn).params h)
      (λ homes s1 w1 l1 own. then_makes (call_makes s1 w1)
      (λ call s2 w2 l2 u. then_makes (fresh_result_makes fn.result s2 w2)
      (λ result s3 w3 l3 is.
      (let l = later_both l2 l3 in
      then_makes
      (body_makes i fn is_fn g calls (within c fn homes (c.path ++ at ∷ []) call result) refl s3 w3 (file_stands_later p c (later_both l1 l) file)
      (λ j o e. (let x = own j o e in (x.0, x.1, own_later l fn.params j x.0 o x.2))) is)
      (λ v s4 w4 l4 a. gives_makes (result_value fn.result s4 w4 result (types.functions i fn is_fn).result (result_later fn.result result l4 is)))))))

  below_less : {n : ℕ} (m : ℕ) (g : Callee) → m ≤ n → CallsBelow n g → CallsBelow m g
  below_less m g le calls Callable fn c low = calls Callable fn c (λ j h. (let lt = low j h in omega (arith, lt, le)))

  pub calls_make : (n : ℕ) → CallsBelow n (expansion.calls p.functions n)
  calls_make zero Callable fn c low r callee args k at given s w stands takes h = absurd (let lt = low callee takes.2 in omega (arith, lt))
  calls_make (suc n) Callable fn c low r callee args k at given s w stands takes h =
      let lt = low callee takes.2 in
      let S = setting_of p Callable fn in
      let g = expansion.calls p.functions n in
      let file : FileStands p c s = λ i o e. (stands.file i o e).1 in
      let part = opened_makes callee takes.0 takes.1 g (below_less (sound.rank callee) g (omega (arith, lt)) (calls_make n)) given c at s w file (given_to S r s (take takes.0.params takes.0.objects) args given takes.4 h) in
      subst (λ m. Makes (Result k) s w (opened_as m g given c at s)) (sym takes.1) (subst (λ m. Makes (Result m) s w (opened g takes.0 given c at s)) takes.3 part)
