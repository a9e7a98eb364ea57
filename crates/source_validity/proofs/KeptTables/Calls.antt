-- Calls become pieces that set no table.
use Rattle.std.proofs.Common.{◌≡◌, ◌<◌, ◌≤◌, ℕ, zero, suc, Bool, true, false, refl, sym, subst, arith, List, [], ◌∷◌, ◌++◌, take, slice_get, Some}
use Rattle.hls_base.specs.declared.place.Place.{Place}
use Rattle.hls_base.specs.declared.point.Point.{Point}
use Rattle.hls_base.specs.declared.point.PointKind.TheVariants as point
use Rattle.pieces.specs.Resolved.Core.{FileObjectTree, CoreFunctionTree, CoreProgramTree}
use Rattle.pieces.specs.declared.piece.CallId.{CallId}
use Rattle.pieces.specs.Program.{ArrayTree}
use Rattle.piece_making.specs.declared.frame.Home.{Home}
use Rattle.piece_making.specs.Leaving.{any_leaves}
use Rattle.piece_making.specs.Making.{State}
use Rattle.piece_making.specs.Calls.{Call, point_in}
use Rattle.c_expand.specs.Expressions.{Given, Callee}
use Rattle.c_expand.specs.Expansion.{end_of, run_through, within, opened, opened_as}
use Rattle.c_expand.specs.Expansion as expansion
use Rattle.expanded_programs.specs.Statements.Scopes.{Setting, enter}
use Rattle.expanded_programs.specs.Calls.Programs.{setting_of, at_start, IsProgramSound}
use Rattle.compiled_plans.specs.Operations.{PutsNoTable}
use Rattle.source_validity.specs.KeptTables.Programs.{CallKeeps, ProgramKeepsConstants}
use Rattle.source_validity.specs.KeptTables.Worlds.{World, Later, Makes, Whatever}
use Rattle.source_validity.specs.KeptTables.Standing.{FileKept, Stands, constant_at}
use Rattle.source_validity.proofs.KeptTables.Parts.{later_both, then_makes, gives_makes, emit_makes, fresh_result_makes, call_makes}
use Rattle.source_validity.proofs.KeptTables.Names.{file_later, own_later}
use Rattle.source_validity.proofs.KeptTables.Actions.{CalleesKeep, marked_makes}
use Rattle.source_validity.proofs.KeptTables.Statements.{statements_make}
use Rattle.source_validity.proofs.KeptTables.Homes.{AllStand, AreGivenTo, given_to, homes_make}

end_keeps : (arrays : List ArrayTree) (b : Bool) (call : CallId) (end : Point) → PutsNoTable arrays (end_of b call end)
end_keeps arrays true call end = tt
end_keeps arrays false call end = tt

-- ---- bodies

-- what stands for the objects of file scope in a call
abbrev pub FileStands : CoreProgramTree → Call → State → Type 0
FileStands p c s = (i : ℕ) (o : FileObjectTree) → slice_get p.file i ≡ Some o → (h : Home) × (slice_get c.file i ≡ Some h) × FileKept s h o

pub file_stands_later : (p : CoreProgramTree) (c : Call) {s s1 : State} → Later s s1 → FileStands p c s → FileStands p c s1
file_stands_later p c l h i o e = (let f = h i o e in (f.0, f.1, file_later l f.0 o f.2))

module _ (p : CoreProgramTree) (sound : IsProgramSound p) (fits : ProgramKeepsConstants p) where
  -- the setting of the function with this number
  abbrev pub setting : ℕ → CoreFunctionTree → Setting
  setting i fn = setting_of p (λ j. sound.rank j < sound.rank i) fn

  -- calls of the functions of ranks below n
  abbrev pub CallsBelow : ℕ → Callee → Type 1
  CallsBelow n g = (Callable : ℕ → Type 0) (fn : CoreFunctionTree) (c : Call) → ((j : ℕ) → Callable j → sound.rank j < n) → CalleesKeep (setting_of p Callable fn) c g

  pub body_makes : (i : ℕ) (fn : CoreFunctionTree) → slice_get p.functions i ≡ Some fn → (g : Callee) → CallsBelow (sound.rank i) g → (c : Call) → c.objects ≡ fn.objects → (s : State) → World s → FileStands p c s → AllStand fn s c.homes → Makes Whatever s (run_through g c fn s)
  body_makes i fn is_fn g calls c objects s w file own =
      let S = setting i fn in
      let is_sound = sound.functions i fn is_fn in
      let r = enter fn.outermost (at_start S) in
      then_makes (marked_makes c point.Begin fn.at s w)
      (λ u s1 w1 l1 a.
      (let stands : Stands S c r s1 = record {
        file = file_stands_later p c l1 file;
        own = λ j o e. (let h = own j o e in (h.0, h.1, own_later l1 fn.params j h.0 o h.2));
        ready = λ j slot e ready. absurd ready;
        objects = objects;
      } in
      then_makes (statements_make S c g (calls (λ j. sound.rank j < sound.rank i) fn c (λ j h. h)) r _ false false false fn.body true s1 w1 stands is_sound.body (fits i fn is_fn))
      (λ v s2 w2 l2 b. emit_makes (end_of (any_leaves fn.body true) c.call (point_in c point.End fn.at)) s2 w2 (λ more q. end_keeps more (any_leaves fn.body true) c.call (point_in c point.End fn.at)))))

  -- ---- calls

  opened_makes : (i : ℕ) (fn : CoreFunctionTree) → slice_get p.functions i ≡ Some fn → (g : Callee) → CallsBelow (sound.rank i) g → (given : List Given) (c : Call) (at : Place) (s : State) → World s → FileStands p c s → AreGivenTo s (take fn.params fn.objects) given
      → Makes Whatever s (opened g fn given c at s)
  opened_makes i fn is_fn g calls given c at s w file h =
      then_makes (homes_make fn given s w (sound.functions i fn is_fn).params h)
      (λ homes s1 w1 l1 own. then_makes (call_makes s1 w1)
      (λ call s2 w2 l2 u. then_makes (fresh_result_makes fn.result s2 w2)
      (λ result s3 w3 l3 is.
      (let l = later_both l2 l3 in
      then_makes
      (body_makes i fn is_fn g calls (within c fn homes (c.path ++ at ∷ []) call result) refl s3 w3 (file_stands_later p c (later_both l1 l) file)
      (λ j o e. (let x = own j o e in (x.0, x.1, own_later l fn.params j x.0 o x.2))))
      (λ v s4 w4 l4 a. gives_makes w4 tt)))))

  below_less : {n : ℕ} (m : ℕ) (g : Callee) → m ≤ n → CallsBelow n g → CallsBelow m g
  below_less m g le calls Callable fn c low = calls Callable fn c (λ j h. (let lt = low j h in omega (arith, lt, le)))

  pub calls_make : (n : ℕ) → CallsBelow n (expansion.calls p.functions n)
  calls_make zero Callable fn c low r callee args k at given s w stands takes fit h = absurd (let lt = low callee takes.2 in omega (arith, lt))
  calls_make (suc n) Callable fn c low r callee args k at given s w stands takes fit h =
      let lt = low callee takes.2 in
      let S = setting_of p Callable fn in
      let g = expansion.calls p.functions n in
      let file : FileStands p c s = stands.file in
      let fits_all = subst (λ m. CallKeeps (constant_at S) m args) takes.1 fit in
      let part = opened_makes callee takes.0 takes.1 g (below_less (sound.rank callee) g (omega (arith, lt)) (calls_make n)) given c at s w file (given_to S r s (take takes.0.params takes.0.objects) args given takes.4 fits_all h) in
      subst (λ m. Makes Whatever s (opened_as m g given c at s)) (sym takes.1) part
