-- What is given for the parameters of a function that is called.
use Rattle.std.proofs.Common.{◌≡◌, ℕ, zero, suc, ◌+◌, ◌⊎◌, inl, inr, ◌∙◌, sym, refl, ap, subst, ℤ, List, [], ◌∷◌, ◌++◌, length, slice_get, Some, arith}
use Rattle.std.proofs.lemmas.List.{length-append}
use Rattle.std.proofs.lemmas.Option.{none-some, same_Some}
use Rattle.hls_base.specs.declared.number.ArrayId.{ArrayId}
use Rattle.pieces.specs.Resolved.Core as core
use Rattle.pieces.specs.Resolved.Core.{ArgumentTrees, CoreObjectTree}
use Rattle.pieces.specs.Trees.{PureTree}
use Rattle.piece_making.specs.declared.frame.Home.{Home}
use Rattle.piece_making.specs.declared.frame.Home.TheVariants as home
use Rattle.piece_making.specs.Making.{State, then_}
use Rattle.hls_base.specs.Valued.{is}
use Rattle.c_meaning.specs.CoreRuns.Cells.{Spot, Cells, Given, number_given, array_given, Here}
use Rattle.c_meaning.specs.PieceRuns.Values.{Store, value}
use Rattle.c_meaning.specs.PieceRuns.Pieces.{Frame, kind_at}
use Rattle.c_expand.specs.Expressions as e
use Rattle.c_expand.specs.Expansion.{parameter, parameters}
use Rattle.expand_runs.specs.Showing.{Known, IsShown}
use Rattle.expand_runs.specs.Fitting.{HaveShape}
use Rattle.expand_runs.specs.Calling.{AreGiven}
use Rattle.expand_runs.proofs.Growing.{last_one}
use Rattle.expanded_programs.specs.Statements.Scopes.{Setting, Reach, IsScalar, IsArray, TakesAll, objects_in}
use Rattle.expanded_programs.proofs.Calls.Giving.{AreReady, parameters_begin}

-- ---- arguments

module _ (f : Frame) (here : Here) (S : Setting) (r : Reach) (Homes : Spot → Home → Type 0) (Lives : Spot → Type 0) (low : ℕ) (t : Store) where
  abbrev Gives : ArgumentTrees → List Given → List e.Given → Type 0
  Gives args gs hs = AreGiven f here (objects_in S r) Homes Lives low args gs hs t

  pub given_shape : (args : ArgumentTrees) (gs : List Given) (hs : List e.Given) → Gives args gs hs → HaveShape args hs
  given_shape core.no_argument [] [] h = tt
  given_shape core.no_argument [] (x ∷ hs) h = absurd h
  given_shape core.no_argument (g ∷ gs) hs h = absurd h
  given_shape (core.more_arguments (core.given v) rest) (number_given n ∷ gs) (e.value_given y ∷ hs) h = given_shape rest gs hs h.3
  given_shape (core.more_arguments (core.given v) rest) (number_given n ∷ gs) (e.array_given a ∷ hs) h = absurd h
  given_shape (core.more_arguments (core.given v) rest) (number_given n ∷ gs) [] h = absurd h
  given_shape (core.more_arguments (core.given v) rest) (array_given x ∷ gs) hs h = absurd h
  given_shape (core.more_arguments (core.given v) rest) [] hs h = absurd h
  given_shape (core.more_arguments (core.array cell) rest) (array_given x ∷ gs) (e.array_given a ∷ hs) h = given_shape rest gs hs h.2
  given_shape (core.more_arguments (core.array cell) rest) (array_given x ∷ gs) (e.value_given y ∷ hs) h = absurd h
  given_shape (core.more_arguments (core.array cell) rest) (array_given x ∷ gs) [] h = absurd h
  given_shape (core.more_arguments (core.array cell) rest) (number_given n ∷ gs) hs h = absurd h
  given_shape (core.more_arguments (core.array cell) rest) [] hs h = absurd h

  pub given_ready : (args : ArgumentTrees) (gs : List Given) (hs : List e.Given) → Gives args gs hs → AreReady f low hs t
  given_ready core.no_argument [] [] h = tt
  given_ready core.no_argument [] (x ∷ hs) h = absurd h
  given_ready core.no_argument (g ∷ gs) hs h = absurd h
  given_ready (core.more_arguments (core.given v) rest) (number_given n ∷ gs) (e.value_given y ∷ hs) h = ((n, h.0, h.2), given_ready rest gs hs h.3)
  given_ready (core.more_arguments (core.given v) rest) (number_given n ∷ gs) (e.array_given a ∷ hs) h = absurd h
  given_ready (core.more_arguments (core.given v) rest) (number_given n ∷ gs) [] h = absurd h
  given_ready (core.more_arguments (core.given v) rest) (array_given x ∷ gs) hs h = absurd h
  given_ready (core.more_arguments (core.given v) rest) [] hs h = absurd h
  given_ready (core.more_arguments (core.array cell) rest) (array_given x ∷ gs) (e.array_given a ∷ hs) h = given_ready rest gs hs h.2
  given_ready (core.more_arguments (core.array cell) rest) (array_given x ∷ gs) (e.value_given y ∷ hs) h = absurd h
  given_ready (core.more_arguments (core.array cell) rest) (array_given x ∷ gs) [] h = absurd h
  given_ready (core.more_arguments (core.array cell) rest) (number_given n ∷ gs) hs h = absurd h
  given_ready (core.more_arguments (core.array cell) rest) [] hs h = absurd h

  -- a number that has its value in both, or an array that stands for the core's
  abbrev pub GivenAt : ℕ → CoreObjectTree → List Given → List e.Given → Type 0
  GivenAt i o gs hs =
      (IsScalar o × (n : ℤ) × (y : PureTree) × (slice_get gs i ≡ Some (number_given n)) × (slice_get hs i ≡ Some (e.value_given y)) × (value f.arrays y t ≡ is n))
      ⊎ (IsArray o × (x : Spot) × (a : ArrayId) × (slice_get gs i ≡ Some (array_given x)) × (slice_get hs i ≡ Some (e.array_given a)) × Homes x (home.Array a) × Lives x × (kind_at f.arrays a.0 ≡ o.kind))

  pub given_at : (os : List CoreObjectTree) (args : ArgumentTrees) (gs : List Given) (hs : List e.Given) → TakesAll S r os args → Gives args gs hs → (i : ℕ) (o : CoreObjectTree) → slice_get os i ≡ Some o → GivenAt i o gs hs
  given_at [] args gs hs takes h i o e1 = absurd (none-some o e1)
  given_at (o1 ∷ os) core.no_argument gs hs takes h i o e1 = absurd takes
  given_at (o1 ∷ os) (core.more_arguments (core.given v) rest) (number_given n ∷ gs) (e.value_given y ∷ hs) takes h zero o e1 =
      inl (subst IsScalar (same_Some o1 o e1) takes.0, n, y, refl, refl, h.0)
  given_at (o1 ∷ os) (core.more_arguments (core.given v) rest) (number_given n ∷ gs) (e.value_given y ∷ hs) takes h (suc i) o e1 = given_at os rest gs hs takes.1 h.3 i o e1
  given_at (o1 ∷ os) (core.more_arguments (core.given v) rest) (number_given n ∷ gs) (e.array_given a ∷ hs) takes h i o e1 = absurd h
  given_at (o1 ∷ os) (core.more_arguments (core.given v) rest) (number_given n ∷ gs) [] takes h i o e1 = absurd h
  given_at (o1 ∷ os) (core.more_arguments (core.given v) rest) (array_given x ∷ gs) hs takes h i o e1 = absurd h
  given_at (o1 ∷ os) (core.more_arguments (core.given v) rest) [] hs takes h i o e1 = absurd h
  given_at (o1 ∷ os) (core.more_arguments (core.array cell) rest) (array_given x ∷ gs) (e.array_given a ∷ hs) takes h zero o e1 =
      let q = h.1 o1.kind takes.1 in
      let same = same_Some o1 o e1 in
      inr (subst IsArray same takes.0, x, a, refl, refl, subst (λ z. Homes z (home.Array a)) (sym h.0) q.0, subst Lives (sym h.0) q.1, q.2 ∙ ap (λ (z : CoreObjectTree). z.kind) same)
  given_at (o1 ∷ os) (core.more_arguments (core.array cell) rest) (array_given x ∷ gs) (e.array_given a ∷ hs) takes h (suc i) o e1 = given_at os rest gs hs takes.2 h.2 i o e1
  given_at (o1 ∷ os) (core.more_arguments (core.array cell) rest) (array_given x ∷ gs) (e.value_given y ∷ hs) takes h i o e1 = absurd h
  given_at (o1 ∷ os) (core.more_arguments (core.array cell) rest) (array_given x ∷ gs) [] takes h i o e1 = absurd h
  given_at (o1 ∷ os) (core.more_arguments (core.array cell) rest) (number_given n ∷ gs) hs takes h i o e1 = absurd h
  given_at (o1 ∷ os) (core.more_arguments (core.array cell) rest) [] hs takes h i o e1 = absurd h

abbrev IsValueGiven : e.Given → Type 0
IsValueGiven (e.value_given z) = Unit {0}
IsValueGiven (e.array_given b) = ⊥

abbrev array_of : ArrayId → e.Given → ArrayId
array_of d (e.value_given z) = d
array_of d (e.array_given c) = c

-- an array that is given stands for its parameter
pub array_home : (os : List CoreObjectTree) (given : List e.Given) (before : List Home) (s : State) (j : ℕ) (o : CoreObjectTree) (a : ArrayId) → slice_get os j ≡ Some o → slice_get given j ≡ Some (e.array_given a) → slice_get (parameters os given before s).value (length before + j) ≡ Some (home.Array a)
unfolding then_
array_home [] given before s j o a e1 e2 = absurd (none-some o e1)
array_home (o1 ∷ os) [] before s j o a e1 e2 = absurd (none-some _ e2)
array_home (o1 ∷ os) (e.value_given x ∷ given) before s zero o a e1 e2 = absurd (subst IsValueGiven (same_Some (e.value_given x) (e.array_given a) e2) tt)
array_home (o1 ∷ os) (e.array_given b ∷ given) before s zero o a e1 e2 =
    let same : b ≡ a = ap (array_of b) (same_Some (e.array_given b) (e.array_given a) e2) in
    ap (slice_get (parameters os given (before ++ home.Array b ∷ []) s).value) (let z : length before + 0 ≡ length before = omega arith in z)
    ∙ parameters_begin os given (before ++ home.Array b ∷ []) s (length before) (home.Array b) (last_one before (home.Array b)) ∙ ap (λ z. Some (home.Array z)) same
array_home (o1 ∷ os) (g ∷ given) before s (suc j) o a e1 e2 =
    let p = parameter o1 g s in
    let longer = length-append before (p.value ∷ []) in
    subst (λ z. slice_get (parameters (o1 ∷ os) (g ∷ given) before s).value z ≡ Some (home.Array a)) (let z : length (before ++ p.value ∷ []) + j ≡ length before + suc j = omega (arith, longer) in z)
    (array_home os given (before ++ p.value ∷ []) p.state j o a e1 e2)

-- ---- what is known of objects, with those of one call more

abbrev pub known_in : Known → ℕ → List CoreObjectTree → Known
known_in kinds d objects = record {
  types = kinds.types;
  Whole = kinds.Whole;
  Declared = λ x o. ((x.frame ≡ d) × (slice_get objects x.number ≡ Some o)) ⊎ ((x.frame ≡ d → ⊥) × kinds.Declared x o);
}

module _ (f : Frame) (Homes : Spot → Home → Type 0) (Lives : Spot → Type 0) (kinds : Known) (d : ℕ) (objects : List CoreObjectTree) (apart : (x : Spot) → Lives x → x.frame ≡ d → ⊥) where
  pub shown_in : (s : Cells) (t : Store) → IsShown f Homes Lives kinds s t → IsShown f Homes Lives (known_in kinds d objects) s t
  shown_in s t h = record { objects = h.objects; kinds = h.kinds; whole = h.whole; fits = λ x o q l. elim q [ inl e1 ↦ absurd (apart x l e1.0) | inr e1 ↦ h.fits x o e1.1 l ] }

  pub shown_out : (s : Cells) (t : Store) → IsShown f Homes Lives (known_in kinds d objects) s t → IsShown f Homes Lives kinds s t
  shown_out s t h = record { objects = h.objects; kinds = h.kinds; whole = h.whole; fits = λ x o q l. h.fits x o (inr (apart x l, q)) l }
