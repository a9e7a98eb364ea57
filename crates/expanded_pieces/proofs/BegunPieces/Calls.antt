-- The pieces of calls and of the whole program.
use Rattle.std.proofs.Common.{◌≡◌, ◌<◌, ◌≤◌, ℕ, zero, suc, Bool, true, false, List, [], ◌∷◌, ◌++◌, length, refl, sym, subst, arith, le_refl, Option, Some, None, slice_get}
use Rattle.std.specs.Prelude.{drop}
use Rattle.hls_base.specs.declared.place.Place.{Place}
use Rattle.hls_base.specs.declared.point.Point.{Point}
use Rattle.hls_base.specs.declared.point.PointKind.TheVariants as point
use Rattle.hls_base.specs.declared.number.VarId.{VarId}
use Rattle.c_token.specs.declared.ctype.CType.{CType}
use Rattle.pieces.specs.declared.resolved.expression.Scope.{Scope}
use Rattle.pieces.specs.declared.resolved.expression.Scope.TheVariants as scope
use Rattle.pieces.specs.Resolved.Core.{CoreObjectTree, CoreFunctionTree}
use Rattle.pieces.specs.declared.piece.CallId.{CallId}
use Rattle.pieces.specs.Trees as tree
use Rattle.pieces.specs.Trees.{PureTree, PieceTree, piece_row}
use Rattle.piece_making.specs.declared.frame.Home.{Home}
use Rattle.piece_making.specs.declared.frame.Home.TheVariants as home
use Rattle.piece_making.specs.Making.{State, Part, gives, then_, emit, fresh, fresh_result, next_call}
use Rattle.piece_making.specs.Calls.{Call, point_in, homes_in}
use Rattle.piece_making.specs.Leaving.{any_leaves}
use Rattle.piece_making.specs.Objects.{local_of}
use Rattle.c_expand.specs.Expressions as given
use Rattle.c_expand.specs.Expressions.{Given, Callee}
use Rattle.c_expand.specs.Statements.{statements}
use Rattle.c_expand.specs.Expansion.{parameter, parameters, locals, homes_for, end_of, run_through, within, value_of, opened, opened_as, calls, outermost, top_call}
use Rattle.pass_runs.specs.LowerRuns.Holding.{none_hidden}
use Rattle.expanded_pieces.specs.Jumps.{AllJumpsFit}
use Rattle.expanded_pieces.proofs.Expressions.{CalleesFit}
use Rattle.expanded_pieces.proofs.Calls.{any_object, calls_fit}
use Rattle.expanded_pieces.proofs.BegunPieces.Ends.{AllEnds, OwnEnds, IsNot, all_ends, own_all}
use Rattle.expanded_pieces.proofs.BegunPieces.Parts.{Between, Ready, ready_more, any, own_any, Begun, begun_lower, There, ResultShown, then_by, then_at, then_quiet, then_there, gives_begun, emit_begun, set_begun, mark_begun, fresh_begun, result_begun, slot_begun, call_begun}
use Rattle.expanded_pieces.proofs.BegunPieces.Forks.{anything}
use Rattle.expanded_pieces.proofs.BegunPieces.Expressions.{AllGiven, MayRead, CalleesBegin}
use Rattle.expanded_pieces.proofs.BegunPieces.Statements.{statements_begun}
use Rattle.expanded_pieces.proofs.BegunPieces.Homes.{New, HomesReady, AllHoused, homes_more, home_at, parameters_housed, locals_housed}

-- ---- what stands for objects

module _ (kept : Point → Bool) (hidden : ℕ → Bool) (c : Call) where
  parameter_begun : (o : CoreObjectTree) (x : Given) → AllGiven hidden (x ∷ []) → There kept hidden c any (parameter o x)
  parameter_begun o (given.value_given x) v s r = then_there kept hidden c s r _ _ (fresh_begun kept hidden c o.kind s r) (λ own w s1 r1. then_there kept hidden c s1 r1 _ _ (set_begun kept hidden s1.calls own x s1 v.0) (λ u w1 s2 r2. gives_begun kept hidden s2.calls (home.Variable own) tt s2))
  parameter_begun o (given.array_given name) v s r = gives_begun kept hidden s.calls (home.Array name) tt s

  parameters_begun : (os : List CoreObjectTree) (xs : List Given) (before : List Home) → AllGiven hidden xs → There kept hidden c any (parameters os xs before)
  parameters_begun [] xs before v s r = gives_begun kept hidden s.calls before tt s
  parameters_begun (o ∷ os) [] before v s r = gives_begun kept hidden s.calls before tt s
  parameters_begun (o ∷ os) (x ∷ xs) before v s r = then_there kept hidden c s r _ _ (parameter_begun o x (v.0, tt) s r) (λ h w s1 r1. parameters_begun os xs (before ++ h ∷ []) v.1 s1 r1)

  local_begun : (lengths : List ℕ) (k : CType) → There kept hidden c any (local_of lengths k)
  local_begun [] k s r = then_there kept hidden c s r _ _ (fresh_begun kept hidden c k s r) (λ own w s1 r1. gives_begun kept hidden s1.calls (home.Variable own) tt s1)
  local_begun (len ∷ lengths) k s r = then_there kept hidden c s r _ _ (slot_begun kept hidden s) (λ slot w s1 r1. gives_begun kept hidden s1.calls (home.Local slot) tt s1)

  locals_begun : (os : List CoreObjectTree) (before : List Home) → There kept hidden c any (locals os before)
  locals_begun [] before s r = gives_begun kept hidden s.calls before tt s
  locals_begun (o ∷ os) before s r = then_there kept hidden c s r _ _ (local_begun o.lengths o.kind s r) (λ h w s1 r1. locals_begun os (before ++ h ∷ []) s1 r1)

  homes_begun : (fn : CoreFunctionTree) (xs : List Given) → AllGiven hidden xs → There kept hidden c any (homes_for fn xs)
  homes_begun fn xs v s r = then_there kept hidden c s r _ _ (parameters_begun fn.objects xs [] v s r) (λ homes w s1 r1. locals_begun (drop fn.params fn.objects) homes s1 r1)

homes_housed : (hidden : ℕ → Bool) (fn : CoreFunctionTree) (xs : List Given) (s : State) → New hidden s → AllHoused hidden s (homes_for fn xs s)
unfolding then_
homes_housed hidden fn xs s new =
    let first = parameters fn.objects xs [] s in
    let h = parameters_housed hidden fn.objects xs [] s new tt in
    let le = h.more in
    let q = locals_housed hidden (drop fn.params fn.objects) first.value first.state (λ i e. new i (omega (arith, le, e))) h.ready in
    let le1 = q.more in
    record { more = omega (arith, le, le1); ready = q.ready }

-- a call whose objects have these homes
call_ready : (hidden : ℕ → Bool) (c : Call) (s : State) → New hidden s → ((i : ℕ) (own : VarId) → slice_get c.file i ≡ Some (home.Variable own) → (own.0 < length s.variables) × (hidden own.0 ≡ false)) → HomesReady hidden (length s.variables) c.homes → Ready hidden c s
call_ready hidden c s new file h = record { new = new; homes = λ cell own e. either cell.scope cell.number own e } where
  either : (sc : Scope) (i : ℕ) (own : VarId) → slice_get (homes_in c sc) i ≡ Some (home.Variable own) → (own.0 < length s.variables) × (hidden own.0 ≡ false)
  either scope.File i own e = file i own e
  either scope.Call i own e = home_at hidden (length s.variables) c.homes h i own e

file_ready : (hidden : ℕ → Bool) (c : Call) (s : State) → Ready hidden c s → (i : ℕ) (own : VarId) → slice_get c.file i ≡ Some (home.Variable own) → (own.0 < length s.variables) × (hidden own.0 ≡ false)
file_ready hidden c s r i own e = r.homes (record { scope = scope.File; number = i }) own e

pub result_none : (k : Option CType) (s : State) → (fresh_result k s).pieces ≡ []
unfolding fresh_result fresh then_
result_none None s = refl
result_none (Some k) s = refl

-- ---- bodies of functions

module _ (kept : Point → Bool) (hidden : ℕ → Bool) where
  end_begun : (b : Bool) (call : CallId) (end : Point) (s : State) → call.0 < s.calls → Begun kept hidden call.0 any s (emit (end_of b call end) s)
  end_begun true call end s lt = emit_begun kept hidden call.0 (tree.land call end) s (λ lands h a apart b. a) (le_refl call.0, lt)
  end_begun false call end s lt = mark_begun kept hidden call.0 end s

  -- no call that ends in the body has the number of the call itself
  end_apart : (b : Bool) (call : CallId) (end : Point) (low high : ℕ) (xs : List PieceTree) → call.0 < low → AllEnds (Between low high) (piece_row xs) → OwnEnds (λ j. AllEnds (IsNot j) (piece_row xs)) (end_of b call end ∷ [])
  end_apart true call end low high xs lt h = (all_ends (Between low high) (IsNot call.0) (λ i q e. let x = q.0 in omega (arith, x, e, lt)) (piece_row xs) h, tt)
  end_apart false call end low high xs lt h = (tt, tt)

  ended_begun : (b : Bool) (call : CallId) (end : Point) (s : State) (body : State → Part (Unit {0})) → call.0 < s.calls → Begun kept hidden s.calls any s (body s) → Begun kept hidden call.0 any s (then_ (body s) (λ u s1. emit (end_of b call end) s1))
  unfolding emit
  ended_begun b call end s body lt h =
      let le = h.later in
      then_by kept hidden call.0 call.0 s (body s) (λ u s1. emit (end_of b call end) s1) (le_refl call.0) (begun_lower kept hidden call.0 s.calls s (body s) (omega (arith, lt)) h)
      (end_begun b call end (body s).state (omega (arith, lt, le))) (end_apart b call end s.calls (body s).state.calls (body s).pieces lt h.ends)

  run_begun : (g : Callee) (callees : CalleesBegin kept g) (fit : CalleesFit anything g) (c : Call) (fn : CoreFunctionTree) → AllJumpsFit false false false fn.body → (s : State) → Ready hidden c s → c.call.0 < s.calls → Begun kept hidden c.call.0 any s (run_through g c fn s)
  unfolding emit
  run_begun g callees fit c fn h s r lt =
      let q = point_in c point.Begin fn.at in
      let s1 = (emit (tree.mark q) s).state in
      let b = any_leaves fn.body true in
      let end = point_in c point.End fn.at in
      let body = statements g c fn.body true in
      let rest = then_ (body s1) (λ v s2. emit (end_of b c.call end) s2) in
      let r1 = ready_more hidden c s s1 (le_refl (length s.variables)) r in
      then_by kept hidden c.call.0 c.call.0 s (emit (tree.mark q) s) (λ u s1. then_ (body s1) (λ v s2. emit (end_of b c.call end) s2)) (le_refl c.call.0) (mark_begun kept hidden c.call.0 q s)
      (ended_begun b c.call end s1 body lt ((statements_begun kept g callees fit c hidden false false false fn.body true h s1 r1).1 refl))
      (own_all (λ j. Unit {0}) (λ j. AllEnds (IsNot j) (piece_row (tree.mark q ∷ []))) (λ j u. (tt, tt)) rest.pieces (own_any rest.pieces))

  -- a call that is opened: its number, the variable of its result, and its body
  entered_begun : (g : Callee) (callees : CalleesBegin kept g) (fit : CalleesFit anything g) (c : Call) (inner : CallId → Option VarId → Call) (fn : CoreFunctionTree) → AllJumpsFit false false false fn.body
      → ((call : CallId) (own : Option VarId) → (inner call own).call ≡ call) → (s : State) → Ready hidden c s → ((call : CallId) (own : Option VarId) (s1 : State) → length s.variables ≤ length s1.variables → Ready hidden (inner call own) s1)
      → {A : Type 0} {V : A → Type 0} (last : Option VarId → A) → ((own : Option VarId) → ResultShown kept hidden c own → V (last own))
      → Begun kept hidden s.calls V s (then_ (next_call s) (λ call s2. then_ (fresh_result fn.result s2) (λ own s3. then_ (run_through g (inner call own) fn s3) (λ u s4. gives (last own) s4))))
  unfolding next_call
  entered_begun g callees fit c inner fn h number s r ready last shown =
      let call = next_call s in
      let q = call_begun kept hidden s in
      let r1 = ready_more hidden c s call.state q.more r in
      let own = fresh_result fn.result call.state in
      let q1 = result_begun kept hidden c fn.result call.state r1 in
      let m = q.more in
      let m1 = q1.more in
      let l1 = q1.later in
      let l : s.calls < own.state.calls = omega (arith, l1) in
      let d = inner call.value own.value in
      let e = number call.value own.value in
      let run = run_through g d fn own.state in
      let r2 = ready call.value own.value own.state (omega (arith, m, m1)) in
      let whole = subst (λ n. Begun kept hidden n.0 any own.state run) e (run_begun g callees fit d fn h own.state r2 (subst (λ n. n.0 < own.state.calls) (sym e) l)) in
      then_quiet kept hidden s.calls s call _ refl q
      (then_quiet kept hidden s.calls call.state own _ (result_none fn.result call.state) (begun_lower kept hidden s.calls call.state.calls call.state own (omega arith) q1)
      (then_at kept hidden s.calls own.state run (λ u s4. gives (last own.value) s4) (omega (arith, l)) whole (gives_begun kept hidden run.state.calls (last own.value) (shown own.value q1.value) run.state)))

-- ---- calls

value_reads : (kept : Point → Bool) (hidden : ℕ → Bool) (c : Call) (own : Option VarId) (k : Option CType) → ResultShown kept hidden c own → MayRead hidden (value_of own k)
value_reads kept hidden c (Some own) (Some k) shown = shown
value_reads kept hidden c own k shown = tt

opened_begun : (kept : Point → Bool) (g : Callee) (callees : CalleesBegin kept g) (fit : CalleesFit anything g) (fn : CoreFunctionTree) → AllJumpsFit false false false fn.body → (hidden : ℕ → Bool) (xs : List Given) (c : Call) (at : Place) → AllGiven hidden xs
    → There kept hidden c (MayRead hidden) (opened g fn xs c at)
opened_begun kept g callees fit fn h hidden xs c at v s r =
    let homes = homes_for fn xs s in
    let q = homes_begun kept hidden c fn xs v s r in
    let housed = homes_housed hidden fn xs s r.new in
    let s1 = homes.state in
    let r1 = ready_more hidden c s s1 q.more r in
    let inner : CallId → Option VarId → Call = λ call own. within c fn homes.value (c.path ++ at ∷ []) call own in
    then_at kept hidden s.calls s homes _ (le_refl s.calls) q
    (entered_begun kept hidden g callees fit c inner fn h (λ call own. refl) s1 r1
    (λ call own s2 le. let r2 = ready_more hidden c s1 s2 le r1 in call_ready hidden (inner call own) s2 r2.new (file_ready hidden c s2 r2) (homes_more hidden (length s1.variables) (length s2.variables) homes.value le housed.ready)) (λ own. value_of own fn.result) (λ own shown. value_reads kept hidden c own fn.result shown))

abbrev pub BodiesJump : List CoreFunctionTree → Type 0
BodiesJump functions = (i : ℕ) (fn : CoreFunctionTree) → slice_get functions i ≡ Some fn → AllJumpsFit false false false fn.body

module _ (kept : Point → Bool) (functions : List CoreFunctionTree) (bodies : BodiesJump functions) where
  all_fit : (m : ℕ) → CalleesFit anything (calls functions m)
  all_fit m = calls_fit anything functions (λ i fn e. (any_object fn.objects, bodies i fn e)) m

  opened_as_begun : (g : Callee) (callees : CalleesBegin kept g) (fit : CalleesFit anything g) (fn : Option CoreFunctionTree) → ((f : CoreFunctionTree) → fn ≡ Some f → AllJumpsFit false false false f.body) → (hidden : ℕ → Bool) (xs : List Given) (c : Call) (at : Place) → AllGiven hidden xs
      → There kept hidden c (MayRead hidden) (opened_as fn g xs c at)
  opened_as_begun g callees fit None h hidden xs c at v s r = gives_begun kept hidden s.calls None tt s
  opened_as_begun g callees fit (Some fn) h hidden xs c at v s r = opened_begun kept g callees fit fn (h fn refl) hidden xs c at v s r

  calls_begun : (m : ℕ) → CalleesBegin kept (calls functions m)
  calls_begun zero hidden callee xs c at v s r = gives_begun kept hidden s.calls None tt s
  calls_begun (suc m) hidden callee xs c at v s r = opened_as_begun (calls functions m) (calls_begun m) (all_fit m) (slice_get functions callee) (λ f e. bodies callee f e) hidden xs c at v s r

  -- the call of the top function
  pub top_call_begun : (fn : CoreFunctionTree) → AllJumpsFit false false false fn.body → (file : List Home) (file_variables : ℕ) (homes : List Home) (s : State) → HomesReady none_hidden (length s.variables) file → HomesReady none_hidden (length s.variables) homes
      → Begun kept none_hidden s.calls any s (top_call functions fn file file_variables homes s)
  top_call_begun fn h file file_variables homes s r1 r2 =
      let inner : CallId → Option VarId → Call = λ call own. outermost fn file file_variables homes call own in
      let ready : (call : CallId) (own : Option VarId) (s1 : State) → length s.variables ≤ length s1.variables → Ready none_hidden (inner call own) s1 = λ call own s1 le.
      call_ready none_hidden (inner call own) s1 (λ i e. refl) (home_at none_hidden (length s1.variables) file (homes_more none_hidden (length s.variables) (length s1.variables) file le r1)) (homes_more none_hidden (length s.variables) (length s1.variables) homes le r2) in
      let start = inner (record { 0 = 0 }) None in
      entered_begun kept none_hidden (calls functions (length functions)) (calls_begun (length functions)) (all_fit (length functions)) start inner fn h (λ call own. refl) s (ready (record { 0 = 0 }) None s (le_refl (length s.variables))) ready (λ own. own) (λ own shown. tt)
