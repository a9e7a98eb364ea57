-- What calls become is paid for: the weight of a call pays for its variables, and for its end where it may be left.
use Rattle.std.proofs.Common.{◌≡◌, ◌≤◌, ℕ, zero, suc, Bool, true, false, arith, refl, sym, subst, List, [], ◌∷◌, ◌++◌, length, Option, Some, None}
use Rattle.std.specs.Prelude.{drop, slice_get}
use Rattle.std.proofs.lemmas.List.{length-drop}
use Rattle.hls_base.specs.declared.place.Place.{Place}
use Rattle.hls_base.specs.declared.point.Point.{Point}
use Rattle.hls_base.specs.declared.point.PointKind.TheVariants as point
use Rattle.c_token.specs.declared.ctype.CType.{CType}
use Rattle.pieces.specs.Resolved.Core.{CoreObjectTree, CoreFunctionTree}
use Rattle.pieces.specs.declared.piece.CallId.{CallId}
use Rattle.pieces.specs.Trees as tree
use Rattle.pieces.specs.Weight.{call_weight}
use Rattle.piece_making.specs.declared.frame.Home.{Home}
use Rattle.piece_making.specs.Making.{State, emit}
use Rattle.piece_making.specs.Leaving.{any_leaves}
use Rattle.piece_making.specs.Objects.{local_of}
use Rattle.piece_making.specs.Calls.{Call, point_in}
use Rattle.c_expand.specs.Expressions as e
use Rattle.c_expand.specs.Expressions.{Given, Callee}
use Rattle.c_expand.specs.Statements.{marked}
use Rattle.c_expand.specs.Expansion.{parameter, parameters, locals, homes_for, end_of, run_through, within, opened, opened_as, calls}
use Rattle.program_sizes.proofs.ExpandedSizes.Accounts.{Account, IsPaid, owing, begun, gives_paid, then_paid, eased}
use Rattle.program_sizes.proofs.ExpandedSizes.Parts.{emit_paid, own_set_paid, fresh_paid, result_paid, slot_paid, call_paid}
use Rattle.program_sizes.proofs.ExpandedSizes.Expressions.{CalleesPaid}
use Rattle.program_sizes.proofs.ExpandedSizes.Statements.{statements_paid}

-- ---- objects

parameter_paid : {o : Account} {s : State} (x : CoreObjectTree) (given : Given) → IsPaid o (λ h. o) s (parameter x given s)
parameter_paid x (e.value_given v) = then_paid (fresh_paid x.kind) (λ own s1. then_paid (own_set_paid own v) (λ u s2. gives_paid))
parameter_paid x (e.array_given name) = gives_paid

parameters_paid : {o : Account} {s : State} (xs : List CoreObjectTree) (given : List Given) (before : List Home) → IsPaid o (λ h. o) s (parameters xs given before s)
parameters_paid [] given before = gives_paid
parameters_paid (x ∷ xs) [] before = gives_paid
parameters_paid (x ∷ xs) (v ∷ given) before = then_paid (parameter_paid x v) (λ h s1. parameters_paid xs given (before ++ h ∷ []))

local_paid : {o : Account} {s : State} (lengths : List ℕ) (kind : CType) → IsPaid o (λ h. owing 1 0 o) s (local_of lengths kind s)
local_paid [] kind = then_paid (fresh_paid kind) (λ own s1. gives_paid)
local_paid {o} (len ∷ lengths) kind = eased o (owing 1 0 o) (omega arith) (omega arith) (omega arith) (omega arith) (then_paid slot_paid (λ slot s1. gives_paid))

-- at most one variable for each object
pub locals_paid : (xs : List CoreObjectTree) (before : List Home) (o : Account) (s : State) → IsPaid o (λ hs. owing (length xs) 0 o) s (locals xs before s)
locals_paid [] before o s = eased o (owing 0 0 o) (omega arith) (omega arith) (omega arith) (omega arith) gives_paid
locals_paid (x ∷ xs) before o s =
    eased (owing (length xs) 0 (owing 1 0 o)) (owing (length (x ∷ xs)) 0 o) (omega arith) (omega arith) (omega arith) (omega arith)
    (then_paid (local_paid x.lengths x.kind) (λ h s1. locals_paid xs (before ++ h ∷ []) (owing 1 0 o) s1))

homes_paid : {o : Account} {s : State} (fn : CoreFunctionTree) (given : List Given) → length fn.objects ≤ 16384 → IsPaid o (λ hs. owing 16384 0 o) s (homes_for fn given s)
homes_paid {o} fn given few =
    then_paid (parameters_paid fn.objects given [])
    (λ hs s1. eased (owing (length (drop fn.params fn.objects)) 0 o) (owing 16384 0 o) (let l = length-drop fn.params fn.objects in omega (arith, few, l)) (omega arith) (omega arith) (omega arith) (locals_paid (drop fn.params fn.objects) hs o s1))

-- ---- bodies

end_paid : {o : Account} {s : State} (left : Bool) (call : CallId) (end : Point) → IsPaid (begun o) (λ u. o) s (emit (end_of left call end) s)
end_paid {o} true call end = emit_paid (tree.land call end) (omega arith) (omega arith) (omega arith) (omega arith)
end_paid {o} false call end = emit_paid (tree.mark end) (omega arith) (omega arith) (omega arith) (omega arith)

-- a function that is run through, where its beginning pays for its end
pub through_paid : {o n : Account} {s : State} (g : Callee) (c : Call) → CalleesPaid g c → (fn : CoreFunctionTree) → IsPaid n (λ u. begun o) s (marked c point.Begin fn.at s) → IsPaid n (λ u. o) s (run_through g c fn s)
through_paid g c callees fn h =
    then_paid h
    (λ u s1. then_paid (statements_paid g c callees fn.body true)
    (λ v s2. end_paid (any_leaves fn.body true) c.call (point_in c point.End fn.at)))

-- a call weighs 1
call_weighs : (path : List Place) (at : Place) → call_weight point.Begin (path ++ at ∷ []) ≡ 1
call_weighs [] at = refl
call_weighs (first ∷ path) at = refl

begin_paid : {o : Account} {s : State} (c : Call) (path : List Place) (at here : Place) → c.path ≡ path ++ at ∷ [] → IsPaid (owing 1 0 (owing 16384 0 o)) (λ u. begun o) s (marked c point.Begin here s)
begin_paid {o} c path at here e =
    let one : call_weight point.Begin c.path ≡ 1 = subst (λ p. call_weight point.Begin p ≡ 1) (sym e) (call_weighs path at) in
    emit_paid (tree.mark (point_in c point.Begin here)) (omega (arith, one)) (omega arith) (omega arith) (omega (arith, one))

-- ---- calls

opened_paid : {o : Account} {s : State} (g : Callee) → ((d : Call) → CalleesPaid g d) → (fn : CoreFunctionTree) → length fn.objects ≤ 16384 → (given : List Given) (c : Call) (at : Place) → IsPaid o (λ x. o) s (opened g fn given c at s)
opened_paid g callees fn few given c at =
    then_paid (homes_paid fn given few)
    (λ hs s1. then_paid call_paid
    (λ call s2. then_paid (result_paid fn.result)
    (λ own s3.
    (let inner = within c fn hs (c.path ++ at ∷ []) call own in
    then_paid (through_paid g inner (callees inner) fn (begin_paid inner c.path at fn.at refl)) (λ u s4. gives_paid)))))

opened_as_paid : {o : Account} {s : State} (f : Option CoreFunctionTree) (g : Callee) → ((d : Call) → CalleesPaid g d) → ((fn : CoreFunctionTree) → f ≡ Some fn → length fn.objects ≤ 16384) → (given : List Given) (c : Call) (at : Place) → IsPaid o (λ x. o) s (opened_as f g given c at s)
opened_as_paid None g callees few given c at = gives_paid
opened_as_paid (Some fn) g callees few given c at = opened_paid g callees fn (few fn refl) given c at

-- no function has too many objects
abbrev pub HaveFew : List CoreFunctionTree → Type 0
HaveFew functions = (i : ℕ) (fn : CoreFunctionTree) → slice_get functions i ≡ Some fn → length fn.objects ≤ 16384

pub calls_paid : (functions : List CoreFunctionTree) → HaveFew functions → (n : ℕ) (c : Call) → CalleesPaid (calls functions n) c
calls_paid functions few zero c o callee given at s = gives_paid
calls_paid functions few (suc n) c o callee given at s = opened_as_paid (slice_get functions callee) (calls functions n) (calls_paid functions few n) (λ fn e. few callee fn e) given c at
