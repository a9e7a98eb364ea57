-- What stands for the objects of a call and of file scope that are not const is no table.
use Rattle.std.proofs.Common.{◌≡◌, ◌∙◌, ◌≤◌, ℕ, zero, suc, ◌+◌, ◌==◌, Bool, true, false, not, refl, ap, sym, subst, arith, List, [], ◌∷◌, ◌++◌, length, take, drop, slice_get, Some, None, if◌then◌else◌}
use Rattle.std.proofs.lemmas.Bool.{true≢false, ne_eqb}
use Rattle.std.proofs.lemmas.List.{append-nil, append_assoc, take-append-drop, length-take-le}
use Rattle.std.proofs.lemmas.Option.{none-some, same_Some}
use Rattle.hls_base.specs.declared.number.Kept.{Kept}
use Rattle.pieces.specs.Resolved.Core as core
use Rattle.pieces.specs.Resolved.Core.{CoreObjectTree, FileObjectTree, CoreFunctionTree, ArgumentTrees}
use Rattle.piece_making.specs.declared.frame.Home.{Home}
use Rattle.piece_making.specs.declared.frame.Home.TheVariants as home
use Rattle.piece_making.specs.Making.{State, gives, then_, fresh, add_array}
use Rattle.piece_making.specs.Objects.{local_of, host_array, file_array, array_like, first_value}
use Rattle.c_expand.specs.Expressions as e
use Rattle.c_expand.specs.Expressions.{Given}
use Rattle.c_expand.specs.Expansion.{parameter, parameters, locals, homes_for, is_array, is_kept, kept_scalar, kept_scalars, first_kept, file_home, kept_behind, file_homes, top_parameters}
use Rattle.expanded_programs.specs.Statements.Scopes.{Setting, Reach, IsScalar, TakesAll, objects_in}
use Rattle.source_validity.specs.KeptTables.Programs.{ArraysKeep}
use Rattle.source_validity.specs.KeptTables.Worlds.{World, Later, Knows, Makes, IsStored, Whatever}
use Rattle.source_validity.specs.KeptTables.Standing.{AreGiven, FileKept, OwnKept, constant_at}
use Rattle.source_validity.proofs.KeptTables.Parts.{later_both, array_later, then_makes, gives_makes, known, if_makes, declared_makes, fresh_makes, array_makes, slot_makes}
use Rattle.source_validity.proofs.KeptTables.Changes.{set_makes}
use Rattle.source_validity.proofs.KeptTables.Names.{file_later, own_later}

-- ---- the objects of a call

-- homes of these objects, the first of which has this number
abbrev pub OwnHomes : (params : ℕ) → State → ℕ → List CoreObjectTree → List Home → Type 0
OwnHomes params s n [] [] = Unit {0}
OwnHomes params s n [] (h ∷ hs) = ⊥
OwnHomes params s n (o ∷ os) [] = ⊥
OwnHomes params s n (o ∷ os) (h ∷ hs) = OwnKept params s n h o × OwnHomes params s (suc n) os hs

own_homes_later : {s s1 : State} → Later s s1 → (params n : ℕ) (os : List CoreObjectTree) (hs : List Home) → OwnHomes params s n os hs → OwnHomes params s1 n os hs
own_homes_later l params n [] [] h = tt
own_homes_later l params n [] (x ∷ hs) h = absurd h
own_homes_later l params n (o ∷ os) [] h = absurd h
own_homes_later l params n (o ∷ os) (x ∷ hs) h = (own_later l params n x o h.0, own_homes_later l params (suc n) os hs h.1)

module _ (params : ℕ) (s : State) where
  both_homes : (n m : ℕ) (os ps : List CoreObjectTree) (hs gs : List Home) → m ≡ n + length os → OwnHomes params s n os hs → OwnHomes params s m ps gs → OwnHomes params s n (os ++ ps) (hs ++ gs)
  both_homes n m [] ps [] gs e h g = subst (λ j. OwnHomes params s j ps gs) (let q : m ≡ n = omega (arith, e) in q) g
  both_homes n m [] ps (x ∷ hs) gs e h g = absurd h
  both_homes n m (o ∷ os) ps [] gs e h g = absurd h
  both_homes n m (o ∷ os) ps (x ∷ hs) gs e h g = (h.0, both_homes (suc n) m os ps hs gs (omega (arith, e)) h.1 g)

  home_at : (n : ℕ) (os : List CoreObjectTree) (hs : List Home) → OwnHomes params s n os hs → (i m : ℕ) (o : CoreObjectTree) → m ≡ n + i → slice_get os i ≡ Some o → (h : Home) × (slice_get hs i ≡ Some h) × OwnKept params s m h o
  home_at n [] hs h i m o e q = absurd (none-some o q)
  home_at n (p ∷ os) [] h i m o e q = absurd h
  home_at n (p ∷ os) (x ∷ hs) h zero m o e q = (x, refl, subst (λ j. OwnKept params s j x o) (let z : n ≡ m = omega (arith, e) in z) (subst (λ y. OwnKept params s n x y) (same_Some p o q) h.0))
  home_at n (p ∷ os) (x ∷ hs) h (suc i) m o e q = home_at (suc n) os hs h.1 i m o (omega (arith, e)) q

-- what stands for all objects of a function
abbrev pub AllStand : CoreFunctionTree → Knows (List Home)
AllStand fn s homes = (i : ℕ) (o : CoreObjectTree) → slice_get fn.objects i ≡ Some o → (h : Home) × (slice_get homes i ≡ Some h) × OwnKept fn.params s i h o

-- homes of these objects behind other ones
abbrev pub HomesBehind : (params n : ℕ) → List CoreObjectTree → List Home → Knows (List Home)
HomesBehind params n os before s homes = (new : List Home) × (homes ≡ before ++ new) × OwnHomes params s n os new

-- what stands for parameters and what stands for other objects
all_stand : (fn : CoreFunctionTree) → fn.params ≤ length fn.objects → {s s1 : State} → Later s s1 → (first homes : List Home) → HomesBehind fn.params 0 (take fn.params fn.objects) [] s first → HomesBehind fn.params fn.params (drop fn.params fn.objects) first s1 homes
    → AllStand fn s1 homes
all_stand fn le {s1 = s1} l first homes a b i o e =
    let k = fn.params in
    let count : k ≡ 0 + length (take k fn.objects) = (let z = length-take-le k fn.objects le in omega (arith, z)) in
    let both = both_homes k s1 0 k (take k fn.objects) (drop k fn.objects) a.0 b.0 count (own_homes_later l k 0 (take k fn.objects) a.0 a.2) b.2 in
    let whole = subst (λ os. OwnHomes k s1 0 os (a.0 ++ b.0)) (take-append-drop k fn.objects) both in
    let found = home_at k s1 0 fn.objects (a.0 ++ b.0) whole i i o (omega arith) e in
    (found.0, ap (λ hs. slice_get hs i) (b.1 ∙ ap (λ hs. hs ++ b.0) a.1) ∙ found.1, found.2)

-- ---- parameters

-- an expression is given for a scalar, and for an array that is not const one that is no table
abbrev pub IsGivenTo : State → CoreObjectTree → Given → Type 0
IsGivenTo s o (e.value_given x) = IsScalar o
IsGivenTo s o (e.array_given a) = o.constant ≡ false → IsStored s.arrays a

abbrev pub AreGivenTo : State → List CoreObjectTree → List Given → Type 0
AreGivenTo s [] [] = Unit {0}
AreGivenTo s [] (x ∷ given) = ⊥
AreGivenTo s (o ∷ os) [] = ⊥
AreGivenTo s (o ∷ os) (x ∷ given) = IsGivenTo s o x × AreGivenTo s os given

given_to_later : {s s1 : State} → Later s s1 → (o : CoreObjectTree) (x : Given) → IsGivenTo s o x → IsGivenTo s1 o x
given_to_later l o (e.value_given x) h = h
given_to_later l o (e.array_given a) h = λ free. array_later l a (h free)

all_given_later : {s s1 : State} → Later s s1 → (os : List CoreObjectTree) (given : List Given) → AreGivenTo s os given → AreGivenTo s1 os given
all_given_later l [] [] h = tt
all_given_later l [] (x ∷ given) h = absurd h
all_given_later l (o ∷ os) [] h = absurd h
all_given_later l (o ∷ os) (x ∷ given) h = (given_to_later l o x h.0, all_given_later l os given h.1)

module _ (S : Setting) (r : Reach) (s : State) where
  abbrev AreAllGiven : ArgumentTrees → List Given → Type 0
  AreAllGiven args given = AreGiven (constant_at S) (objects_in S r) s args given

  pub given_to : (os : List CoreObjectTree) (args : ArgumentTrees) (given : List Given) → TakesAll S r os args → ArraysKeep (constant_at S) os args → AreAllGiven args given → AreGivenTo s os given
  given_to [] core.no_argument [] t fit h = tt
  given_to [] core.no_argument (x ∷ given) t fit h = absurd h
  given_to [] (core.more_arguments first rest) given t fit h = absurd t
  given_to (o ∷ os) core.no_argument given t fit h = absurd t
  given_to (o ∷ os) (core.more_arguments (core.given v) rest) [] t fit h = absurd h
  given_to (o ∷ os) (core.more_arguments (core.given v) rest) (e.value_given x ∷ given) t fit h = (t.0, given_to os rest given t.1 fit h.1)
  given_to (o ∷ os) (core.more_arguments (core.given v) rest) (e.array_given a ∷ given) t fit h = absurd h.0
  given_to (o ∷ os) (core.more_arguments (core.array cell) rest) [] t fit h = absurd h
  given_to (o ∷ os) (core.more_arguments (core.array cell) rest) (e.value_given x ∷ given) t fit h = absurd h.0
  given_to (o ∷ os) (core.more_arguments (core.array cell) rest) (e.array_given a ∷ given) t fit h = ((λ free. h.0 o.kind t.1 (fit.0 t.0 free)), given_to os rest given t.2 fit.1 h.1)

-- what stands for the object with this number
abbrev OwnHome : (params n : ℕ) → CoreObjectTree → Knows Home
OwnHome params n o s h = OwnKept params s n h o

parameter_makes : (params n : ℕ) (o : CoreObjectTree) (x : Given) (s : State) → World s → IsGivenTo s o x → Makes (OwnHome params n o) s (parameter o x s)
parameter_makes params n o (e.value_given x) s w h = then_makes (fresh_makes o.kind s w) (λ own s1 w1 l v. then_makes (set_makes own x s1 w1) (λ u s2 w2 l2 a. gives_makes w2 h))
parameter_makes params n o (e.array_given a) s w h = gives_makes w h

parameters_make : (params n k : ℕ) (os : List CoreObjectTree) (given : List Given) (before : List Home) (s : State) → World s → AreGivenTo s (take k os) given → Makes (HomesBehind params n (take k os) before) s (parameters os given before s)
parameters_make params n zero [] given before s w h = gives_makes w ([], sym (append-nil before), tt)
parameters_make params n zero (o ∷ os) [] before s w h = gives_makes w ([], sym (append-nil before), tt)
parameters_make params n zero (o ∷ os) (x ∷ given) before s w h = absurd h
parameters_make params n (suc k) [] given before s w h = gives_makes w ([], sym (append-nil before), tt)
parameters_make params n (suc k) (o ∷ os) [] before s w h = absurd h
parameters_make params n (suc k) (o ∷ os) (x ∷ given) before s w h =
    then_makes (parameter_makes params n o x s w h.0)
    (λ y s1 w1 l v. known (parameters_make params (suc n) k os given (before ++ y ∷ []) s1 w1 (all_given_later l (take k os) given h.1)) (λ s2 l2 q. (y ∷ q.0, q.1 ∙ append_assoc before (y ∷ []) q.0, (own_later l2 params n y o v, q.2))))

-- ---- other objects

local_of_makes : (params n : ℕ) (o : CoreObjectTree) (lengths : List ℕ) (s : State) → World s → o.lengths ≡ lengths → params ≤ n → Makes (OwnHome params n o) s (local_of lengths o.kind s)
local_of_makes params n o [] s w e le = then_makes (fresh_makes o.kind s w) (λ own s1 w1 l v. gives_makes w1 e)
local_of_makes params n o (len ∷ lengths) s w e le = then_makes (slot_makes s w) (λ slot s1 w1 l v. gives_makes w1 (le, v))

locals_make : (params n : ℕ) (os : List CoreObjectTree) (before : List Home) (s : State) → World s → params ≤ n → Makes (HomesBehind params n os before) s (locals os before s)
locals_make params n [] before s w le = gives_makes w ([], sym (append-nil before), tt)
locals_make params n (o ∷ os) before s w le =
    then_makes (local_of_makes params n o o.lengths s w refl le)
    (λ y s1 w1 l v. known (locals_make params (suc n) os (before ++ y ∷ []) s1 w1 (omega (arith, le))) (λ s2 l2 q. (y ∷ q.0, q.1 ∙ append_assoc before (y ∷ []) q.0, (own_later l2 params n y o v, q.2))))

pub homes_make : (fn : CoreFunctionTree) (given : List Given) (s : State) → World s → fn.params ≤ length fn.objects → AreGivenTo s (take fn.params fn.objects) given → Makes (AllStand fn) s (homes_for fn given s)
homes_make fn given s w le h =
    then_makes (parameters_make fn.params 0 fn.params fn.objects given [] s w h)
    (λ first s1 w1 l a. known (locals_make fn.params fn.params (drop fn.params fn.objects) first s1 w1 (omega arith)) (λ s2 l2 b. all_stand fn le l2 first _ a b))

-- ---- the top function

scalar_lengths : (lengths : List ℕ) → not (length lengths == 0) ≡ false → lengths ≡ []
scalar_lengths [] h = refl
scalar_lengths (len ∷ lengths) h = absurd (true≢false (sym (ap not (ne_eqb (length (len ∷ lengths)) 0 (λ q. omega (arith, q)))) ∙ h))

top_parameter_makes : (b : Bool) (params n : ℕ) (o : CoreObjectTree) (s : State) → World s → is_array o ≡ b → Makes (OwnHome params n o) s (if b then host_array o s else then_ (fresh o.kind s) (λ own s1. gives (home.Variable own) s1))
top_parameter_makes true params n o s w e = then_makes (array_makes (array_like o None None true) s w) (λ a s1 w1 l v. gives_makes w1 (λ free. v refl))
top_parameter_makes false params n o s w e = then_makes (fresh_makes o.kind s w) (λ own s1 w1 l v. gives_makes w1 (scalar_lengths o.lengths e))

pub top_parameters_make : (params n : ℕ) (os : List CoreObjectTree) (before : List Home) (s : State) → World s → Makes (HomesBehind params n os before) s (top_parameters os before s)
top_parameters_make params n [] before s w = gives_makes w ([], sym (append-nil before), tt)
top_parameters_make params n (o ∷ os) before s w =
    then_makes (top_parameter_makes (is_array o) params n o s w refl)
    (λ y s1 w1 l v. known (top_parameters_make params (suc n) os (before ++ y ∷ []) s1 w1) (λ s2 l2 q. (y ∷ q.0, q.1 ∙ append_assoc before (y ∷ []) q.0, (own_later l2 params n y o v, q.2))))

pub top_locals_make : (fn : CoreFunctionTree) → fn.params ≤ length fn.objects → (s0 : State) (first : List Home) → HomesBehind fn.params 0 (take fn.params fn.objects) [] s0 first → (s : State) → World s → Later s0 s
    → Makes (AllStand fn) s (locals (drop fn.params fn.objects) first s)
top_locals_make fn le s0 first a s w l = known (locals_make fn.params fn.params (drop fn.params fn.objects) first s w (omega arith)) (λ s2 l2 b. all_stand fn le (later_both l l2) first _ a b)

-- ---- file scope

pub kept_make : (os : List FileObjectTree) (before : List Kept) (s : State) → World s → Makes Whatever s (kept_scalars os before s)
kept_make [] before s w = gives_makes w tt
kept_make (o ∷ os) before s w =
    if_makes (is_kept o) (then_ (kept_scalar o s) (λ kept s1. kept_scalars os (before ++ kept ∷ []) s1)) (kept_scalars os before s) s
    (then_makes {V = Whatever} (then_makes (declared_makes 1 s w) (λ u s1 w1 l v. then_makes (fresh_makes o.object.kind s1 w1) (λ own s2 w2 l2 there. gives_makes w2 tt))) (λ kept s1 w1 l v. kept_make os (before ++ kept ∷ []) s1 w1)) (kept_make os before s w)

abbrev pub FileHomes : State → List FileObjectTree → List Home → Type 0
FileHomes s [] [] = Unit {0}
FileHomes s [] (h ∷ hs) = ⊥
FileHomes s (o ∷ os) [] = ⊥
FileHomes s (o ∷ os) (h ∷ hs) = FileKept s h o × FileHomes s os hs

pub file_homes_later : {s s1 : State} → Later s s1 → (os : List FileObjectTree) (hs : List Home) → FileHomes s os hs → FileHomes s1 os hs
file_homes_later l [] [] h = tt
file_homes_later l [] (x ∷ hs) h = absurd h
file_homes_later l (o ∷ os) [] h = absurd h
file_homes_later l (o ∷ os) (x ∷ hs) h = (file_later l x o h.0, file_homes_later l os hs h.1)

pub file_home_at : (s : State) (os : List FileObjectTree) (hs : List Home) → FileHomes s os hs → (i : ℕ) (o : FileObjectTree) → slice_get os i ≡ Some o → (h : Home) × (slice_get hs i ≡ Some h) × FileKept s h o
file_home_at s [] hs h i o q = absurd (none-some o q)
file_home_at s (p ∷ os) [] h i o q = absurd h
file_home_at s (p ∷ os) (x ∷ hs) h zero o q = (x, refl, subst (λ y. FileKept s x y) (same_Some p o q) h.0)
file_home_at s (p ∷ os) (x ∷ hs) h (suc i) o q = file_home_at s os hs h.1 i o q

-- an array of file scope is a table where it is const
info_makes : (b : Bool) (o : FileObjectTree) (s : State) → World s → Makes (λ s1 a. b ≡ false → IsStored s1.arrays a) s (add_array (if b then array_like o.object (Some o.first) None false else array_like o.object None (Some o.first) false) s)
info_makes true o s w = known (array_makes (array_like o.object (Some o.first) None false) s w) (λ s1 l v free. absurd (true≢false free))
info_makes false o s w = known (array_makes (array_like o.object None (Some o.first) false) s w) (λ s1 l v free. v refl)

file_home_makes : (o : FileObjectTree) (kept : List Kept) (s : State) → World s → Makes (λ s1 h. FileKept s1 h o) s (file_home o kept s)
file_home_makes o kept s w = either (is_array o.object) o.object.constant refl where
  either : (a b : Bool) → is_array o.object ≡ a → Makes (λ s1 h. FileKept s1 h o) s (if a then file_array o s else if b then gives (home.Constant (first_value o.first)) s else gives (home.Variable (first_kept kept)) s)
  either true b e = then_makes (declared_makes _ s w) (λ u s1 w1 l v. then_makes (info_makes o.object.constant o s1 w1) (λ a s2 w2 l2 h. gives_makes w2 h))
  either false true e = gives_makes w (scalar_lengths o.object.lengths e)
  either false false e = gives_makes w (scalar_lengths o.object.lengths e)

pub file_homes_make : (os : List FileObjectTree) (kept : List Kept) (before : List Home) (s : State) → World s → Makes (λ s1 homes. (new : List Home) × (homes ≡ before ++ new) × FileHomes s1 os new) s (file_homes os kept before s)
file_homes_make [] kept before s w = gives_makes w ([], sym (append-nil before), tt)
file_homes_make (o ∷ os) kept before s w =
    then_makes (file_home_makes o kept s w)
    (λ y s1 w1 l v. known (file_homes_make os (kept_behind o kept) (before ++ y ∷ []) s1 w1) (λ s2 l2 q. (y ∷ q.0, q.1 ∙ append_assoc before (y ∷ []) q.0, (file_later l2 y o v, q.2))))
