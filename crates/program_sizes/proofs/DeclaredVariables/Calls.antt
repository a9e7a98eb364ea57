-- What calls become is paid for: the declarations in the body pay for the objects that are no parameters, and the beginning for the result.
use Rattle.std.proofs.Common.{◌≡◌, ℕ, zero, suc, ◌+◌, true, false, arith, refl, sym, ap, ◌∙◌, subst, List, [], ◌∷◌, ◌++◌, length, Option, Some, None, take, drop, slice_get}
use Rattle.std.proofs.lemmas.List.{length-take-le, length-drop}
use Rattle.std.proofs.lemmas.Option.{same_Some}
use Rattle.hls_base.specs.declared.place.Place.{Place}
use Rattle.hls_base.specs.declared.point.PointKind.TheVariants as point
use Rattle.c_token.specs.declared.ctype.CType.{CType}
use Rattle.pieces.specs.Resolved.Core as core
use Rattle.pieces.specs.Resolved.Core.{ArgumentTrees, CoreTree, CoreObjectTree, CoreFunctionTree, CoreProgramTree}
use Rattle.pieces.specs.Trees as tree
use Rattle.pieces.specs.Weight.{call_weight}
use Rattle.piece_making.specs.declared.frame.Home.{Home}
use Rattle.piece_making.specs.Making.{State}
use Rattle.piece_making.specs.Leaving.{any_leaves}
use Rattle.piece_making.specs.Objects.{local_of}
use Rattle.piece_making.specs.Calls.{Call, point_in}
use Rattle.c_expand.specs.Expressions as e
use Rattle.c_expand.specs.Expressions.{Given, Callee}
use Rattle.c_expand.specs.Statements.{marked, statements}
use Rattle.c_expand.specs.Expansion.{parameter, parameters, locals, homes_for, end_of, run_through, within, opened, opened_as, calls}
use Rattle.expand_runs.specs.Fitting.{CallsFit, Taken}
use Rattle.expand_runs.proofs.FineExpressions.{sound_fits}
use Rattle.expanded_programs.specs.Statements.Scopes.{Setting, Reach, TakesAll, objects_in, IsSoundIn, Among, enter}
use Rattle.expanded_programs.specs.Calls.Programs.{at_start, IsProgramSound}
use Rattle.expanded_programs.proofs.Calls.Callees.{setting_at, fits_more}
use Rattle.program_sizes.specs.DeclaredVariables.Declarations.{declarations, EachIsDeclared}
use Rattle.program_sizes.proofs.DeclaredVariables.Paying.{IsPaid, gives_paid, then_paid, known_paid, eased}
use Rattle.program_sizes.proofs.DeclaredVariables.Parts.{emit_paid, plain_paid, own_set_paid, fresh_paid, result_paid, slot_paid, call_paid}
use Rattle.program_sizes.proofs.DeclaredVariables.Expressions.{argument_count, FitsParameters, CalleesPaid}
use Rattle.program_sizes.proofs.DeclaredVariables.Statements.{HaveHomes, statements_paid}
use Rattle.program_sizes.proofs.DeclaredVariables.Homes.{StandFor, homes_stand}

-- ---- objects

parameter_paid : {o : ℕ} {s : State} (x : CoreObjectTree) (given : Given) → IsPaid o o s (parameter x given s)
parameter_paid x (e.value_given v) = then_paid (fresh_paid x.kind) (λ own s1. then_paid (own_set_paid own v) (λ u s2. gives_paid))
parameter_paid x (e.array_given name) = gives_paid

parameters_paid : {o : ℕ} {s : State} (xs : List CoreObjectTree) (given : List Given) (before : List Home) → IsPaid o o s (parameters xs given before s)
parameters_paid [] given before = gives_paid
parameters_paid (x ∷ xs) [] before = gives_paid
parameters_paid (x ∷ xs) (v ∷ given) before = then_paid (parameter_paid x v) (λ h s1. parameters_paid xs given (before ++ h ∷ []))

local_paid : (o : ℕ) {s : State} (lengths : List ℕ) (kind : CType) → IsPaid o (suc o) s (local_of lengths kind s)
local_paid o [] kind = then_paid (fresh_paid kind) (λ own s1. gives_paid)
local_paid o (len ∷ lengths) kind = eased o o (omega arith) (omega arith) (then_paid slot_paid (λ slot s1. gives_paid))

-- at most one variable for each object
pub locals_paid : (o : ℕ) {s : State} (xs : List CoreObjectTree) (before : List Home) → IsPaid o (length xs + o) s (locals xs before s)
locals_paid o [] before = eased o o (omega arith) (omega arith) gives_paid
locals_paid o (x ∷ xs) before = eased o (length xs + suc o) (omega arith) (omega arith) (then_paid (local_paid o x.lengths x.kind) (λ h s1. locals_paid (suc o) xs (before ++ h ∷ [])))

homes_paid : (o : ℕ) {s : State} (fn : CoreFunctionTree) (given : List Given) → IsPaid o (length (drop fn.params fn.objects) + o) s (homes_for fn given s)
homes_paid o fn given = then_paid (parameters_paid fn.objects given []) (λ hs s1. locals_paid o (drop fn.params fn.objects) hs)

-- ---- calls that are known to fit

taken_count : (S : Setting) (r : Reach) (os : List CoreObjectTree) (args : ArgumentTrees) → TakesAll S r os args → argument_count args ≡ length os
taken_count S r [] core.no_argument h = refl
taken_count S r [] (core.more_arguments first rest) h = absurd h
taken_count S r (o ∷ os) core.no_argument h = absurd h
taken_count S r (o ∷ os) (core.more_arguments (core.given v) rest) h = ap suc (taken_count S r os rest h.1)
taken_count S r (o ∷ os) (core.more_arguments (core.array cell) rest) h = ap suc (taken_count S r os rest h.2)

-- a call weighs 1
call_weighs : (path : List Place) (at : Place) → call_weight point.Begin (path ++ at ∷ []) ≡ 1
call_weighs [] at = refl
call_weighs (first ∷ path) at = refl

begin_paid : {o : ℕ} {s : State} (c : Call) (path : List Place) (at here : Place) → c.path ≡ path ++ at ∷ [] → IsPaid (suc o) o s (marked c point.Begin here s)
begin_paid c path at here e =
    let one : call_weight point.Begin c.path ≡ 1 = subst (λ p. call_weight point.Begin p ≡ 1) (sym e) (call_weighs path at) in
    emit_paid (tree.mark (point_in c point.Begin here)) (omega (arith, one))

module _ (p : CoreProgramTree) (sound : IsProgramSound p) (each : EachIsDeclared p) where
  fits_parameters : (i : ℕ) (fn : CoreFunctionTree) (r : Reach) (callee : ℕ) (args : ArgumentTrees) → Taken (objects_in (setting_at p sound i fn) r) callee args → FitsParameters p.functions callee args
  fits_parameters i fn r callee args t called is =
      let found : CoreFunctionTree = t.1.0 in
      let same : found ≡ called = same_Some found called (sym t.1.1 ∙ is) in
      let le = (sound.functions callee called is).params in
      taken_count (setting_at p sound i fn) r (take found.params found.objects) args t.1.4 ∙ ap (λ (z : CoreFunctionTree). length (take z.params z.objects)) same ∙ length-take-le called.params called.objects le

  calls_fit : (i : ℕ) (fn : CoreFunctionTree) (r : Reach) (x : CoreTree) → IsSoundIn (setting_at p sound i fn) r x → CallsFit (FitsParameters p.functions) x
  calls_fit i fn r x h = fits_more (Taken (objects_in (setting_at p sound i fn) r)) (FitsParameters p.functions) (fits_parameters i fn r) x (sound_fits (objects_in (setting_at p sound i fn) r) x h)

  module _ (i : ℕ) (fn : CoreFunctionTree) (is : slice_get p.functions i ≡ Some fn) where
    -- the body pays for the objects that are no parameters
    body_paid : (o : ℕ) {s : State} (g : Callee) (c : Call) → CalleesPaid p.functions g c → c.objects ≡ fn.objects → StandFor fn c.homes → IsPaid (length (drop fn.params fn.objects) + o) o s (statements g c fn.body true s)
    body_paid o g c callees objects stand =
        let S = setting_at p sound i fn in
        let homes : HaveHomes S c = λ j d le e1. (ap (λ os. slice_get os j) objects ∙ e1, stand j d le e1) in
        let few = each i fn is in
        let dropped = length-drop fn.params fn.objects in
        eased (declarations fn.body + o) o (omega (arith, few, dropped)) (omega arith)
        (statements_paid p.functions g c callees S homes (calls_fit i fn) o (enter fn.outermost (at_start S)) (λ j. Among fn.outermost j) false false false fn.body true (sound.functions i fn is).body)

    pub through_paid : (o m : ℕ) {s : State} (g : Callee) (c : Call) → CalleesPaid p.functions g c → c.objects ≡ fn.objects → StandFor fn c.homes → IsPaid m (length (drop fn.params fn.objects) + o) s (marked c point.Begin fn.at s) → IsPaid m o s (run_through g c fn s)
    through_paid o m g c callees objects stand h =
        then_paid h
        (λ u s1. then_paid (body_paid o g c callees objects stand)
        (λ v s2. plain_paid (end_of (any_leaves fn.body true) c.call (point_in c point.End fn.at))))

    opened_paid : (o : ℕ) {s : State} (g : Callee) → ((d : Call) → CalleesPaid p.functions g d) → (given : List Given) → length given ≡ fn.params → (c : Call) (at : Place) → IsPaid o o s (opened g fn given c at s)
    opened_paid o {s} g callees given count c at =
        known_paid (StandFor fn) (homes_stand fn given s (sound.functions i fn is).params count) (homes_paid o fn given)
        (λ hs s1 stand. then_paid call_paid
        (λ call s2. then_paid (result_paid fn.result)
        (λ own s3.
        (let inner = within c fn hs (c.path ++ at ∷ []) call own in
        then_paid (through_paid o (suc (length (drop fn.params fn.objects) + o)) g inner (callees inner) refl stand (begin_paid inner c.path at fn.at refl)) (λ u s4. gives_paid)))))

  opened_as_paid : (o : ℕ) {s : State} (callee : ℕ) (f : Option CoreFunctionTree) → slice_get p.functions callee ≡ f → (g : Callee) → ((d : Call) → CalleesPaid p.functions g d) → (given : List Given) → ((fn : CoreFunctionTree) → slice_get p.functions callee ≡ Some fn → length given ≡ fn.params) → (c : Call) (at : Place)
      → IsPaid o o s (opened_as f g given c at s)
  opened_as_paid o callee None is g callees given count c at = gives_paid
  opened_as_paid o callee (Some fn) is g callees given count c at = opened_paid callee fn is o g callees given (count fn is) c at

  pub calls_paid : (n : ℕ) (c : Call) → CalleesPaid p.functions (calls p.functions n) c
  calls_paid zero c o callee given at s count = gives_paid
  calls_paid (suc n) c o callee given at s count = opened_as_paid o callee (slice_get p.functions callee) refl (calls p.functions n) (calls_paid n) given count c at
