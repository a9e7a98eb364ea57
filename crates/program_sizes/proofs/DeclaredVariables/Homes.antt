-- What stands for the objects of a function: a variable for each scalar, and a place for each array that is no parameter.
use Rattle.std.proofs.Common.{◌≡◌, ◌≤◌, ℕ, zero, suc, ◌+◌, ◌-◌, ◌∙◌, sym, ap, subst, arith, List, [], ◌∷◌, ◌++◌, length, drop, slice_get, Some}
use Rattle.std.proofs.lemmas.List.{length-append, append-nil, append_assoc}
use Rattle.std.proofs.lemmas.Option.{none-some, same_Some}
use Rattle.c_token.specs.declared.ctype.CType.{CType}
use Rattle.pieces.specs.Resolved.Core.{CoreObjectTree, CoreFunctionTree}
use Rattle.piece_making.specs.declared.frame.Home.{Home}
use Rattle.piece_making.specs.Making.{State, then_, fresh, new_slot}
use Rattle.piece_making.specs.Objects.{local, local_of}
use Rattle.c_expand.specs.Expressions.{Given}
use Rattle.c_expand.specs.Expansion.{parameter, parameters, locals, homes_for, top_parameter, top_parameters}
use Rattle.expanded_programs.proofs.Calls.Lists.{get_dropped, get_behind}
use Rattle.program_sizes.proofs.DeclaredVariables.Statements.{IsHomeFor}

abbrev AreHomes : List CoreObjectTree → List Home → Type 0
AreHomes [] [] = Unit {0}
AreHomes [] (h ∷ hs) = ⊥
AreHomes (o ∷ os) [] = ⊥
AreHomes (o ∷ os) (h ∷ hs) = IsHomeFor o.lengths (Some h) × AreHomes os hs

home_there : (os : List CoreObjectTree) (hs : List Home) → AreHomes os hs → (j : ℕ) (o : CoreObjectTree) → slice_get os j ≡ Some o → IsHomeFor o.lengths (slice_get hs j)
home_there [] hs h j o e = absurd (none-some o e)
home_there (p ∷ os) [] h j o e = absurd h
home_there (p ∷ os) (x ∷ hs) h zero o e = subst (λ (z : CoreObjectTree). IsHomeFor z.lengths (Some x)) (same_Some p o e) h.0
home_there (p ∷ os) (x ∷ hs) h (suc j) o e = home_there os hs h.1 j o e

local_home : (lengths : List ℕ) (k : CType) (s : State) → IsHomeFor lengths (Some (local_of lengths k s).value)
unfolding then_ fresh new_slot
local_home [] k s = tt
local_home (len ∷ lengths) k s = tt

locals_are_homes : (os : List CoreObjectTree) (before : List Home) (s : State) → (new : List Home) × ((locals os before s).value ≡ before ++ new) × AreHomes os new
unfolding then_
locals_are_homes [] before s = ([], sym (append-nil before), tt)
locals_are_homes (o ∷ os) before s =
    let p = local o s in
    let q = locals_are_homes os (before ++ p.value ∷ []) p.state in
    (p.value ∷ q.0, q.1 ∙ append_assoc before (p.value ∷ []) q.0, (local_home o.lengths o.kind s, q.2))

-- these stand for the objects that are no parameters
abbrev pub StandFor : CoreFunctionTree → List Home → Type 0
StandFor fn homes = (i : ℕ) (o : CoreObjectTree) → fn.params ≤ i → slice_get fn.objects i ≡ Some o → IsHomeFor o.lengths (slice_get homes i)

pub locals_stand : (fn : CoreFunctionTree) (first : List Home) → length first ≡ fn.params → (s : State) → StandFor fn (locals (drop fn.params fn.objects) first s).value
locals_stand fn first count s i o le e =
    let q = locals_are_homes (drop fn.params fn.objects) first s in
    let j = i - fn.params in
    let there = get_dropped fn.params fn.objects j ∙ ap (slice_get fn.objects) (let z : fn.params + j ≡ i = omega (arith, le) in z) ∙ e in
    subst (IsHomeFor o.lengths) (sym (ap (λ hs. slice_get hs i) q.1 ∙ get_behind first q.0 j i (omega (arith, le, count)))) (home_there (drop fn.params fn.objects) q.0 q.2 j o there)

-- ---- parameters

given_stand : (os : List CoreObjectTree) (given : List Given) (before : List Home) (s : State) → length given ≤ length os → length (parameters os given before s).value ≡ length before + length given
unfolding then_
given_stand [] [] before s le = omega arith
given_stand [] (g ∷ given) before s le = absurd (omega (arith, le))
given_stand (o ∷ os) [] before s le = omega arith
given_stand (o ∷ os) (g ∷ given) before s le =
    let p = parameter o g s in
    let h = given_stand os given (before ++ p.value ∷ []) p.state (omega (arith, le)) in
    let l = length-append before (p.value ∷ []) in
    omega (arith, h, l)

-- as many arguments are given as there are parameters
pub homes_stand : (fn : CoreFunctionTree) (given : List Given) (s : State) → fn.params ≤ length fn.objects → length given ≡ fn.params → StandFor fn (homes_for fn given s).value
unfolding then_
homes_stand fn given s le count =
    let p = parameters fn.objects given [] s in
    let h = given_stand fn.objects given [] s (omega (arith, le, count)) in
    locals_stand fn p.value (omega (arith, h, count)) p.state

pub tops_stand : (os : List CoreObjectTree) (before : List Home) (s : State) → length (top_parameters os before s).value ≡ length before + length os
unfolding then_
tops_stand [] before s = omega arith
tops_stand (o ∷ os) before s =
    let p = top_parameter o s in
    let h = tops_stand os (before ++ p.value ∷ []) p.state in
    let l = length-append before (p.value ∷ []) in
    omega (arith, h, l)
