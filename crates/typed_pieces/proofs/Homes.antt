-- What stands for the objects of a call and of file scope is of their types.
use Rattle.std.proofs.Common.{◌≡◌, ◌∙◌, ◌<◌, ◌≤◌, ℕ, zero, suc, ◌+◌, ◌^◌, ◌==◌, Bool, true, false, not, ◌||◌, refl, ap, ap₂, sym, subst, arith, List, [], ◌∷◌, ◌++◌, length, take, drop, slice_get, Some, None, if◌then◌else◌}
use Rattle.std.proofs.lemmas.Bool.{false≢true, true≢false, ne_eqb}
use Rattle.std.proofs.lemmas.Nat.{pow_pos}
use Rattle.std.proofs.lemmas.List.{append-nil, append_assoc, take-append-drop, length-take-le}
use Rattle.std.proofs.lemmas.Option.{none-some, same_Some}
use Rattle.hls_base.specs.declared.number.Kept.{Kept}
use Rattle.c_token.specs.declared.ctype.CType.{CType}
use Rattle.c_value.specs.Values.{width}
use Rattle.pieces.specs.Resolved.Core as core
use Rattle.pieces.specs.Resolved.Core.{CoreObjectTree, FileObjectTree, CoreFunctionTree, ArgumentTrees}
use Rattle.pieces.specs.Trees as tree
use Rattle.piece_making.specs.declared.frame.Home.{Home}
use Rattle.piece_making.specs.declared.frame.Home.TheVariants as home
use Rattle.piece_making.specs.Making.{State, gives, then_, fresh, add_array}
use Rattle.piece_making.specs.Objects.{local_of, host_array, file_array, array_like, first_value}
use Rattle.c_expand.specs.Expressions as e
use Rattle.c_expand.specs.Expressions.{Given}
use Rattle.c_expand.specs.Expansion.{parameter, parameters, locals, homes_for, is_array, is_kept, kept_scalar, kept_scalars, first_kept, file_home, kept_behind, file_homes, top_parameters}
use Rattle.expand_runs.specs.Laws.{FillsObject, AreWords}
use Rattle.expanded_programs.specs.Statements.Scopes.{Setting, Reach, IsScalar, IsArray, TakesAll, objects_in}
use Rattle.typed_pieces.specs.Typed.{IsTyped}
use Rattle.typed_pieces.specs.Worlds.{World, Later, Knows, Makes, HasArray, frame_at}
use Rattle.typed_pieces.specs.Standing.{AreGiven, FileFits, OwnFits}
use Rattle.typed_pieces.proofs.Parts.{later_both, typed_later, array_later, then_makes, gives_makes, known, emit_makes, declared_makes, fresh_makes, array_makes, slot_makes}
use Rattle.typed_pieces.proofs.Names.{file_later, own_later}

-- ---- the objects of a call

-- homes of these objects, the first of which has this number
abbrev pub OwnHomes : (params : ℕ) (s : State) → World s → ℕ → List CoreObjectTree → List Home → Type 0
OwnHomes params s w n [] [] = Unit {0}
OwnHomes params s w n [] (h ∷ hs) = ⊥
OwnHomes params s w n (o ∷ os) [] = ⊥
OwnHomes params s w n (o ∷ os) (h ∷ hs) = OwnFits params s w n h o × OwnHomes params s w (suc n) os hs

own_homes_later : {s s1 : State} {w : World s} {w1 : World s1} → Later s w s1 w1 → (params n : ℕ) (os : List CoreObjectTree) (hs : List Home) → OwnHomes params s w n os hs → OwnHomes params s1 w1 n os hs
own_homes_later l params n [] [] h = tt
own_homes_later l params n [] (x ∷ hs) h = absurd h
own_homes_later l params n (o ∷ os) [] h = absurd h
own_homes_later l params n (o ∷ os) (x ∷ hs) h = (own_later l params n x o h.0, own_homes_later l params (suc n) os hs h.1)

module _ (params : ℕ) (s : State) (w : World s) where
  both_homes : (n m : ℕ) (os ps : List CoreObjectTree) (hs gs : List Home) → m ≡ n + length os → OwnHomes params s w n os hs → OwnHomes params s w m ps gs → OwnHomes params s w n (os ++ ps) (hs ++ gs)
  both_homes n m [] ps [] gs e h g = subst (λ j. OwnHomes params s w j ps gs) (let q : m ≡ n = omega (arith, e) in q) g
  both_homes n m [] ps (x ∷ hs) gs e h g = absurd h
  both_homes n m (o ∷ os) ps [] gs e h g = absurd h
  both_homes n m (o ∷ os) ps (x ∷ hs) gs e h g = (h.0, both_homes (suc n) m os ps hs gs (omega (arith, e)) h.1 g)

  home_at : (n : ℕ) (os : List CoreObjectTree) (hs : List Home) → OwnHomes params s w n os hs → (i m : ℕ) (o : CoreObjectTree) → m ≡ n + i → slice_get os i ≡ Some o → (h : Home) × (slice_get hs i ≡ Some h) × OwnFits params s w m h o
  home_at n [] hs h i m o e q = absurd (none-some o q)
  home_at n (p ∷ os) [] h i m o e q = absurd h
  home_at n (p ∷ os) (x ∷ hs) h zero m o e q = (x, refl, subst (λ j. OwnFits params s w j x o) (let z : n ≡ m = omega (arith, e) in z) (subst (λ y. OwnFits params s w n x y) (same_Some p o q) h.0))
  home_at n (p ∷ os) (x ∷ hs) h (suc i) m o e q = home_at (suc n) os hs h.1 i m o (omega (arith, e)) q

-- what stands for all objects of a function
abbrev pub AllStand : CoreFunctionTree → Knows (List Home)
AllStand fn s w homes = (i : ℕ) (o : CoreObjectTree) → slice_get fn.objects i ≡ Some o → (h : Home) × (slice_get homes i ≡ Some h) × OwnFits fn.params s w i h o

-- homes of these objects behind other ones
abbrev pub HomesBehind : (params n : ℕ) → List CoreObjectTree → List Home → Knows (List Home)
HomesBehind params n os before s w homes = (new : List Home) × (homes ≡ before ++ new) × OwnHomes params s w n os new

-- what stands for parameters and what stands for other objects
all_stand : (fn : CoreFunctionTree) → fn.params ≤ length fn.objects → {s s1 : State} {w : World s} {w1 : World s1} → Later s w s1 w1 → (first homes : List Home) → HomesBehind fn.params 0 (take fn.params fn.objects) [] s w first → HomesBehind fn.params fn.params (drop fn.params fn.objects) first s1 w1 homes
    → AllStand fn s1 w1 homes
all_stand fn le {s1 = s1} {w1 = w1} l first homes a b i o e =
    let k = fn.params in
    let count : k ≡ 0 + length (take k fn.objects) = (let z = length-take-le k fn.objects le in omega (arith, z)) in
    let both = both_homes k s1 w1 0 k (take k fn.objects) (drop k fn.objects) a.0 b.0 count (own_homes_later l k 0 (take k fn.objects) a.0 a.2) b.2 in
    let whole = subst (λ os. OwnHomes k s1 w1 0 os (a.0 ++ b.0)) (take-append-drop k fn.objects) both in
    let found = home_at k s1 w1 0 fn.objects (a.0 ++ b.0) whole i i o (omega arith) e in
    (found.0, ap (λ hs. slice_get hs i) (b.1 ∙ ap (λ hs. hs ++ b.0) a.1) ∙ found.1, found.2)

-- ---- parameters

-- an expression is given for a scalar, and for an array one of its type
abbrev pub IsGivenTo : State → CoreObjectTree → Given → Type 0
IsGivenTo s o (e.value_given x) = IsScalar o × IsTyped (frame_at s) x
IsGivenTo s o (e.array_given a) = IsArray o × HasArray (frame_at s) a o.kind

abbrev pub AreGivenTo : State → List CoreObjectTree → List Given → Type 0
AreGivenTo s [] [] = Unit {0}
AreGivenTo s [] (x ∷ given) = ⊥
AreGivenTo s (o ∷ os) [] = ⊥
AreGivenTo s (o ∷ os) (x ∷ given) = IsGivenTo s o x × AreGivenTo s os given

given_to_later : {s s1 : State} {w : World s} {w1 : World s1} → Later s w s1 w1 → (o : CoreObjectTree) (x : Given) → IsGivenTo s o x → IsGivenTo s1 o x
given_to_later l o (e.value_given x) h = (h.0, typed_later l x h.1)
given_to_later l o (e.array_given a) h = (h.0, array_later l a o.kind h.1)

all_given_later : {s s1 : State} {w : World s} {w1 : World s1} → Later s w s1 w1 → (os : List CoreObjectTree) (given : List Given) → AreGivenTo s os given → AreGivenTo s1 os given
all_given_later l [] [] h = tt
all_given_later l [] (x ∷ given) h = absurd h
all_given_later l (o ∷ os) [] h = absurd h
all_given_later l (o ∷ os) (x ∷ given) h = (given_to_later l o x h.0, all_given_later l os given h.1)

pub given_to : (S : Setting) (r : Reach) (s : State) (os : List CoreObjectTree) (args : ArgumentTrees) (given : List Given) → TakesAll S r os args → AreGiven (objects_in S r) s args given → AreGivenTo s os given
given_to S r s [] core.no_argument [] t h = tt
given_to S r s [] core.no_argument (x ∷ given) t h = absurd h
given_to S r s [] (core.more_arguments first rest) given t h = absurd t
given_to S r s (o ∷ os) core.no_argument given t h = absurd t
given_to S r s (o ∷ os) (core.more_arguments (core.given v) rest) [] t h = absurd h
given_to S r s (o ∷ os) (core.more_arguments (core.given v) rest) (e.value_given x ∷ given) t h = ((t.0, h.0), given_to S r s os rest given t.1 h.1)
given_to S r s (o ∷ os) (core.more_arguments (core.given v) rest) (e.array_given a ∷ given) t h = absurd h.0
given_to S r s (o ∷ os) (core.more_arguments (core.array cell) rest) [] t h = absurd h
given_to S r s (o ∷ os) (core.more_arguments (core.array cell) rest) (e.value_given x ∷ given) t h = absurd h.0
given_to S r s (o ∷ os) (core.more_arguments (core.array cell) rest) (e.array_given a ∷ given) t h = ((t.0, h.0 o.kind t.1), given_to S r s os rest given t.2 h.1)

-- what stands for the object with this number
abbrev OwnHome : (params n : ℕ) → CoreObjectTree → Knows Home
OwnHome params n o s w h = OwnFits params s w n h o

parameter_makes : (params n : ℕ) (o : CoreObjectTree) (x : Given) (s : State) (w : World s) → IsGivenTo s o x → Makes (OwnHome params n o) s w (parameter o x s)
parameter_makes params n o (e.value_given x) s w h =
    then_makes (fresh_makes o.kind s w) (λ own s1 w1 l v. then_makes (emit_makes (tree.set own x) s1 w1 ((o.kind, v), typed_later l x h.1)) (λ u s2 w2 l2 a. gives_makes (h.0, l2.variables own.0 o.kind v)))
parameter_makes params n o (e.array_given a) s w h = gives_makes h

parameters_make : (params n k : ℕ) (os : List CoreObjectTree) (given : List Given) (before : List Home) (s : State) (w : World s) → AreGivenTo s (take k os) given → Makes (HomesBehind params n (take k os) before) s w (parameters os given before s)
parameters_make params n zero [] given before s w h = gives_makes ([], sym (append-nil before), tt)
parameters_make params n zero (o ∷ os) [] before s w h = gives_makes ([], sym (append-nil before), tt)
parameters_make params n zero (o ∷ os) (x ∷ given) before s w h = absurd h
parameters_make params n (suc k) [] given before s w h = gives_makes ([], sym (append-nil before), tt)
parameters_make params n (suc k) (o ∷ os) [] before s w h = absurd h
parameters_make params n (suc k) (o ∷ os) (x ∷ given) before s w h =
    then_makes (parameter_makes params n o x s w h.0)
    (λ y s1 w1 l v. known (parameters_make params (suc n) k os given (before ++ y ∷ []) s1 w1 (all_given_later l (take k os) given h.1)) (λ s2 w2 l2 q. (y ∷ q.0, q.1 ∙ append_assoc before (y ∷ []) q.0, (own_later l2 params n y o v, q.2))))

-- ---- other objects

local_of_makes : (params n : ℕ) (o : CoreObjectTree) (lengths : List ℕ) (s : State) (w : World s) → o.lengths ≡ lengths → params ≤ n → Makes (OwnHome params n o) s w (local_of lengths o.kind s)
local_of_makes params n o [] s w e le = then_makes (fresh_makes o.kind s w) (λ own s1 w1 l v. gives_makes (e, v))
local_of_makes params n o (len ∷ lengths) s w e le = then_makes (slot_makes o.kind s w) (λ slot s1 w1 l v. gives_makes ((λ z. absurd (some_lengths (sym e ∙ z))), le, v)) where
  some_lengths : len ∷ lengths ≡ [] → ⊥
  some_lengths z = absurd cc

locals_make : (params n : ℕ) (os : List CoreObjectTree) (before : List Home) (s : State) (w : World s) → params ≤ n → Makes (HomesBehind params n os before) s w (locals os before s)
locals_make params n [] before s w le = gives_makes ([], sym (append-nil before), tt)
locals_make params n (o ∷ os) before s w le =
    then_makes (local_of_makes params n o o.lengths s w refl le)
    (λ y s1 w1 l v. known (locals_make params (suc n) os (before ++ y ∷ []) s1 w1 (omega (arith, le))) (λ s2 w2 l2 q. (y ∷ q.0, q.1 ∙ append_assoc before (y ∷ []) q.0, (own_later l2 params n y o v, q.2))))

pub homes_make : (fn : CoreFunctionTree) (given : List Given) (s : State) (w : World s) → fn.params ≤ length fn.objects → AreGivenTo s (take fn.params fn.objects) given → Makes (AllStand fn) s w (homes_for fn given s)
homes_make fn given s w le h =
    then_makes (parameters_make fn.params 0 fn.params fn.objects given [] s w h)
    (λ first s1 w1 l a. known (locals_make fn.params fn.params (drop fn.params fn.objects) first s1 w1 (omega arith)) (λ s2 w2 l2 b. all_stand fn le l2 first _ a b))

-- ---- the top function

array_object : (o : CoreObjectTree) → is_array o ≡ true → IsArray o
array_object o h e = false≢true (ap (λ ls. not (length ls == 0)) (sym e) ∙ h)

scalar_lengths : (lengths : List ℕ) → not (length lengths == 0) ≡ false → lengths ≡ []
scalar_lengths [] h = refl
scalar_lengths (len ∷ lengths) h = absurd (true≢false (sym (ap not (ne_eqb (length (len ∷ lengths)) 0 (λ q. omega (arith, q)))) ∙ h))

top_parameter_makes : (b : Bool) (params n : ℕ) (o : CoreObjectTree) (s : State) (w : World s) → is_array o ≡ b → Makes (OwnHome params n o) s w (if b then host_array o s else then_ (fresh o.kind s) (λ own s1. gives (home.Variable own) s1))
top_parameter_makes true params n o s w e = then_makes (array_makes (array_like o None None true) s w (array_object o e)) (λ a s1 w1 l v. gives_makes (array_object o e, v))
top_parameter_makes false params n o s w e = then_makes (fresh_makes o.kind s w) (λ own s1 w1 l v. gives_makes (scalar_lengths o.lengths e, v))

pub top_parameters_make : (params n : ℕ) (os : List CoreObjectTree) (before : List Home) (s : State) (w : World s) → Makes (HomesBehind params n os before) s w (top_parameters os before s)
top_parameters_make params n [] before s w = gives_makes ([], sym (append-nil before), tt)
top_parameters_make params n (o ∷ os) before s w =
    then_makes (top_parameter_makes (is_array o) params n o s w refl)
    (λ y s1 w1 l v. known (top_parameters_make params (suc n) os (before ++ y ∷ []) s1 w1) (λ s2 w2 l2 q. (y ∷ q.0, q.1 ∙ append_assoc before (y ∷ []) q.0, (own_later l2 params n y o v, q.2))))

pub top_locals_make : (fn : CoreFunctionTree) → fn.params ≤ length fn.objects → (s0 : State) (w0 : World s0) (first : List Home) → HomesBehind fn.params 0 (take fn.params fn.objects) [] s0 w0 first → (s : State) (w : World s) → Later s0 w0 s w
    → Makes (AllStand fn) s w (locals (drop fn.params fn.objects) first s)
top_locals_make fn le s0 w0 first a s w l = known (locals_make fn.params fn.params (drop fn.params fn.objects) first s w (omega arith)) (λ s2 w2 l2 b. all_stand fn le (later_both l l2) first _ a b)

-- ---- file scope

-- the variables that are kept for the scalars of these objects
abbrev pub KeptFit : State → List FileObjectTree → List Kept → Type 0
KeptFit s [] kept = Unit {0}
KeptFit s (o ∷ os) kept = (is_kept o ≡ true → slice_get s.variables (first_kept kept).0 ≡ Some o.object.kind) × KeptFit s os (kept_behind o kept)

pub kept_later : {s s1 : State} {w : World s} {w1 : World s1} → Later s w s1 w1 → (os : List FileObjectTree) (kept : List Kept) → KeptFit s os kept → KeptFit s1 os kept
kept_later l [] kept h = tt
kept_later l (o ∷ os) kept h = ((λ e. l.variables (first_kept kept).0 o.object.kind (h.0 e)), kept_later l os (kept_behind o kept) h.1)

abbrev pub KeptBehind : List FileObjectTree → List Kept → Knows (List Kept)
KeptBehind os before s w kept = (new : List Kept) × (kept ≡ before ++ new) × KeptFit s os new

pub kept_make : (os : List FileObjectTree) (before : List Kept) (s : State) (w : World s) → Makes (KeptBehind os before) s w (kept_scalars os before s)
kept_make [] before s w = gives_makes ([], sym (append-nil before), tt)
kept_make (o ∷ os) before s w = either (λ before1 s1 w1. kept_make os before1 s1 w1) (is_kept o) refl where
  kept_if : (b : Bool) (kept : List Kept) → List Kept
  kept_if b kept = if b then drop 1 kept else kept

  fit : (t : State) (b : Bool) (kept : List Kept) → is_kept o ≡ b → (b ≡ true → slice_get t.variables (first_kept kept).0 ≡ Some o.object.kind) → KeptFit t os (kept_if b kept) → KeptFit t (o ∷ os) kept
  fit t b kept e h g = ((λ z. h (sym e ∙ z)), subst (λ x. KeptFit t os (kept_if x kept)) (sym e) g)

  either : ((before1 : List Kept) (s1 : State) (w1 : World s1) → Makes (KeptBehind os before1) s1 w1 (kept_scalars os before1 s1)) → (b : Bool) → is_kept o ≡ b → Makes (KeptBehind (o ∷ os) before) s w (if b then then_ (kept_scalar o s) (λ kept s1. kept_scalars os (before ++ kept ∷ []) s1) else kept_scalars os before s)
  either again true e =
      then_makes (then_makes (declared_makes 1 s w) (λ u s1 w1 l v. then_makes (fresh_makes o.object.kind s1 w1) (λ own s2 w2 l2 there. gives_makes {V = λ s3 w3 k. slice_get s3.variables k.variable.0 ≡ Some o.object.kind} there)))
      (λ k s1 w1 l v. known (again (before ++ k ∷ []) s1 w1)
      (λ s2 w2 l2 q. (k ∷ q.0, q.1 ∙ append_assoc before (k ∷ []) q.0, fit s2 true (k ∷ q.0) e (λ z. l2.variables k.variable.0 o.object.kind v) q.2)))
  either again false e = known (again before s w) (λ s2 w2 l2 q. (q.0, q.1, fit s2 false q.0 e (λ z. absurd (false≢true z)) q.2))

abbrev pub FileHomes : State → List FileObjectTree → List Home → Type 0
FileHomes s [] [] = Unit {0}
FileHomes s [] (h ∷ hs) = ⊥
FileHomes s (o ∷ os) [] = ⊥
FileHomes s (o ∷ os) (h ∷ hs) = FileFits s h o × FileHomes s os hs

pub file_homes_later : {s s1 : State} {w : World s} {w1 : World s1} → Later s w s1 w1 → (os : List FileObjectTree) (hs : List Home) → FileHomes s os hs → FileHomes s1 os hs
file_homes_later l [] [] h = tt
file_homes_later l [] (x ∷ hs) h = absurd h
file_homes_later l (o ∷ os) [] h = absurd h
file_homes_later l (o ∷ os) (x ∷ hs) h = (file_later l x o h.0, file_homes_later l os hs h.1)

pub file_home_at : (s : State) (os : List FileObjectTree) (hs : List Home) → FileHomes s os hs → (i : ℕ) (o : FileObjectTree) → slice_get os i ≡ Some o → (h : Home) × (slice_get hs i ≡ Some h) × FileFits s h o
file_home_at s [] hs h i o q = absurd (none-some o q)
file_home_at s (p ∷ os) [] h i o q = absurd h
file_home_at s (p ∷ os) (x ∷ hs) h zero o q = (x, refl, subst (λ y. FileFits s x y) (same_Some p o q) h.0)
file_home_at s (p ∷ os) (x ∷ hs) h (suc i) o q = file_home_at s os hs h.1 i o q

first_word : (k : CType) (words : List ℕ) → AreWords k words → first_value words < 2 ^ width k
first_word k [] h = pow_pos (width k)
first_word k (n ∷ ns) h = h.0

info_kind : (b : Bool) (o : FileObjectTree) (s : State) (w : World s) → IsArray o.object → o.object.constant ≡ b → Makes (λ s1 w1 a. HasArray (frame_at s1) a o.object.kind) s w (add_array (if b then array_like o.object (Some o.first) None false else array_like o.object None (Some o.first) false) s)
info_kind true o s w some e = array_makes (array_like o.object (Some o.first) None false) s w some
info_kind false o s w some e = array_makes (array_like o.object None (Some o.first) false) s w some

file_home_makes : (o : FileObjectTree) (kept : List Kept) (s : State) (w : World s) → (is_kept o ≡ true → slice_get s.variables (first_kept kept).0 ≡ Some o.object.kind) → (o.object.constant ≡ true → FillsObject o.object o.first) → Makes (λ s1 w1 h. FileFits s1 h o) s w (file_home o kept s)
file_home_makes o kept s w variable words = either (is_array o.object) o.object.constant refl refl where
  either : (a b : Bool) → is_array o.object ≡ a → o.object.constant ≡ b
      → Makes (λ s1 w1 h. FileFits s1 h o) s w (if a then file_array o s else if b then gives (home.Constant (first_value o.first)) s else gives (home.Variable (first_kept kept)) s)
  either true b ea eb = then_makes (declared_makes _ s w) (λ u s1 w1 l v. then_makes (info_kind o.object.constant o s1 w1 (array_object o.object ea) refl) (λ a s2 w2 l2 h. gives_makes (array_object o.object ea, h)))
  either false true ea eb = gives_makes (scalar_lengths o.object.lengths ea, eb, first_word o.object.kind o.first (words eb).1)
  either false false ea eb = gives_makes (scalar_lengths o.object.lengths ea, variable (ap₂ (λ x y. not (x || y)) ea eb))

pub file_homes_make : (os : List FileObjectTree) (kept : List Kept) (before : List Home) (s : State) (w : World s) → KeptFit s os kept → ((i : ℕ) (o : FileObjectTree) → slice_get os i ≡ Some o → o.object.constant ≡ true → FillsObject o.object o.first)
    → Makes (λ s1 w1 homes. (new : List Home) × (homes ≡ before ++ new) × FileHomes s1 os new) s w (file_homes os kept before s)
file_homes_make [] kept before s w h words = gives_makes ([], sym (append-nil before), tt)
file_homes_make (o ∷ os) kept before s w h words =
    then_makes (file_home_makes o kept s w h.0 (words 0 o refl))
    (λ y s1 w1 l v. known (file_homes_make os (kept_behind o kept) (before ++ y ∷ []) s1 w1 (kept_later l os (kept_behind o kept) h.1) (λ i p e. words (suc i) p e))
    (λ s2 w2 l2 q. (y ∷ q.0, q.1 ∙ append_assoc before (y ∷ []) q.0, (file_later l2 y o v, q.2))))
