-- What calls become is counted.
use Rattle.std.proofs.Common.{◌≡◌, ℕ, zero, suc, true, List, [], ◌∷◌, ◌++◌, refl, Option, Some, None}
use Rattle.std.specs.Prelude.{drop, slice_get}
use Rattle.hls_base.specs.declared.place.Place.{Place}
use Rattle.hls_base.specs.declared.point.PointKind.TheVariants as point
use Rattle.pieces.specs.Resolved.Core.{CoreObjectTree, CoreFunctionTree}
use Rattle.c_token.specs.declared.ctype.CType.{CType}
use Rattle.pieces.specs.Trees as tree
use Rattle.piece_making.specs.declared.frame.Home.{Home}
use Rattle.piece_making.specs.declared.frame.Home.TheVariants as home
use Rattle.piece_making.specs.Making.{State, gives, then_, emit, fresh, fresh_result, next_call, new_slot}
use Rattle.piece_making.specs.Leaving.{any_leaves}
use Rattle.piece_making.specs.Objects.{local, local_of}
use Rattle.piece_making.specs.Calls.{Call, point_in}
use Rattle.c_expand.specs.Expressions as e
use Rattle.c_expand.specs.Expressions.{Given, Callee}
use Rattle.c_expand.specs.Statements.{marked, statements}
use Rattle.c_expand.specs.Expansion.{parameter, parameters, locals, homes_for, end_of, run_through, within, opened, opened_as, calls}
use Rattle.expand_runs.specs.Counting.{IsCounted, CalleesCount, AreUnlabelled, CallsAreCounted}
use Rattle.expand_runs.proofs.PieceCounts.Parts.{counted_gives, counted_then, counted_emit, counted_fresh, counted_result, counted_slot, counted_call}
use Rattle.expand_runs.proofs.PieceCounts.Statements.{statements_counted}

parameter_counted : (o : CoreObjectTree) (given : Given) (s : State) → IsCounted s (parameter o given s)
parameter_counted o (e.value_given x) s =
    let own = fresh o.kind s in
    counted_then s own (λ own s1. then_ (emit (tree.set own x) s1) (λ u s2. gives (home.Variable own) s2)) (counted_fresh o.kind s)
    (counted_then own.state (emit (tree.set own.value x) own.state) (λ u s2. gives (home.Variable own.value) s2) (counted_emit _ _) (counted_gives _ _))
parameter_counted o (e.array_given name) s = counted_gives _ s

parameters_counted : (os : List CoreObjectTree) (given : List Given) (before : List Home) (s : State) → IsCounted s (parameters os given before s)
parameters_counted [] given before s = counted_gives before s
parameters_counted (o ∷ os) [] before s = counted_gives before s
parameters_counted (o ∷ os) (x ∷ given) before s =
    let p = parameter o x s in
    counted_then s p (λ h s1. parameters os given (before ++ h ∷ []) s1) (parameter_counted o x s) (parameters_counted os given (before ++ p.value ∷ []) p.state)

local_counted : (lengths : List ℕ) (kind : CType) (s : State) → IsCounted s (local_of lengths kind s)
local_counted [] kind s = counted_then s (fresh kind s) (λ own s1. gives (home.Variable own) s1) (counted_fresh kind s) (counted_gives _ _)
local_counted (len ∷ lengths) kind s = counted_then s (new_slot s) (λ slot s1. gives (home.Local slot) s1) (counted_slot s) (counted_gives _ _)

locals_counted : (os : List CoreObjectTree) (before : List Home) (s : State) → IsCounted s (locals os before s)
locals_counted [] before s = counted_gives before s
locals_counted (o ∷ os) before s =
    let p = local o s in
    counted_then s p (λ h s1. locals os (before ++ h ∷ []) s1) (local_counted o.lengths o.kind s) (locals_counted os (before ++ p.value ∷ []) p.state)

homes_counted : (fn : CoreFunctionTree) (given : List Given) (s : State) → IsCounted s (homes_for fn given s)
homes_counted fn given s =
    let p = parameters fn.objects given [] s in
    counted_then s p (λ homes s1. locals (drop fn.params fn.objects) homes s1) (parameters_counted fn.objects given [] s) (locals_counted (drop fn.params fn.objects) p.value p.state)

through_counted : (g : Callee) (c : Call) → CalleesCount g c → (fn : CoreFunctionTree) → AreUnlabelled fn.body → (s : State) → IsCounted s (run_through g c fn s)
through_counted g c callees fn plain s =
    let m = marked c point.Begin fn.at s in
    let b = statements g c fn.body true m.state in
    counted_then s m (λ u s1. then_ (statements g c fn.body true s1) (λ v s2. emit (end_of (any_leaves fn.body true) c.call (point_in c point.End fn.at)) s2)) (counted_emit _ _)
    (counted_then m.state b (λ v s2. emit (end_of (any_leaves fn.body true) c.call (point_in c point.End fn.at)) s2) (statements_counted g c callees fn.body true m.state plain) (counted_emit _ _))

opened_counted : (g : Callee) → ((c : Call) → CalleesCount g c) → (fn : CoreFunctionTree) → AreUnlabelled fn.body → (given : List Given) (c : Call) (at : Place) (s : State) → IsCounted s (opened g fn given c at s)
opened_counted g callees fn plain given c at s =
    let h = homes_for fn given s in
    let n = next_call h.state in
    let r = fresh_result fn.result n.state in
    let inner = within c fn h.value (c.path ++ at ∷ []) n.value r.value in
    counted_then s h _ (homes_counted fn given s)
    (counted_then h.state n _ (counted_call h.state)
    (counted_then n.state r _ (counted_result fn.result n.state)
    (counted_then r.state (run_through g inner fn r.state) _ (through_counted g inner (callees inner) fn plain r.state) (counted_gives _ _))))

as_counted : (o : Option CoreFunctionTree) (g : Callee) → ((c : Call) → CalleesCount g c) → ((fn : CoreFunctionTree) → o ≡ Some fn → AreUnlabelled fn.body) → (given : List Given) (c : Call) (at : Place) (s : State) → IsCounted s (opened_as o g given c at s)
as_counted None g callees plain given c at s = counted_gives None s
as_counted (Some fn) g callees plain given c at s = opened_counted g callees fn (plain fn refl) given c at s

pub calls_counted : CallsAreCounted
calls_counted functions plain zero c callee given at s = counted_gives None s
calls_counted functions plain (suc n) c callee given at s = as_counted (slice_get functions callee) (calls functions n) (λ d. calls_counted functions plain n d) (λ fn e. plain callee fn e) given c at s
