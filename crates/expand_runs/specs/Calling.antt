-- When the pieces of a call do what the call does.
use Rattle.std.specs.Prelude.{◌≡◌, ℕ, suc, ◌<◌, ◌≤◌, ℤ, Bool, true, List, [], ◌∷◌, ◌++◌, length, unwrap_or, Option, false}
use Rattle.hls_base.specs.declared.place.Place.{Place}
use Rattle.hls_base.specs.declared.number.ArrayId.{ArrayId}
use Rattle.c_token.specs.declared.ctype.CType.{CType}
use Rattle.c_value.specs.Values.{int_type}
use Rattle.pieces.specs.declared.resolved.expression.Cell.{Cell}
use Rattle.pieces.specs.Resolved.Core as core
use Rattle.pieces.specs.Resolved.Core.{ArgumentTree, ArgumentTrees}
use Rattle.pieces.specs.Trees.{PureTree}
use Rattle.piece_making.specs.declared.frame.Home.{Home}
use Rattle.piece_making.specs.declared.frame.Home.TheVariants as home
use Rattle.piece_making.specs.Making.{State, Part}
use Rattle.piece_making.specs.Calls.{Call}
use Rattle.hls_base.specs.Valued.{is}
use Rattle.hls_base.specs.Same.{Same}
use Rattle.c_meaning.specs.CoreRuns.Cells as cells
use Rattle.c_meaning.specs.CoreRuns.Cells.{Spot, Cells, Given, Here, spot_of}
use Rattle.c_meaning.specs.CoreRuns.Expressions.{CoreCalls, number_or_zero}
use Rattle.c_meaning.specs.PieceRuns.Values.{Store, value}
use Rattle.c_meaning.specs.PieceRuns.Pieces.{Frame, Way, kind_at, pieces_run}
use Rattle.pieces.specs.Trees.{piece_row}
use Rattle.c_expand.specs.Expressions as e
use Rattle.c_expand.specs.Expressions.{Callee, value_or_zero}
use Rattle.expand_runs.specs.Reading.{AllRead, HasTypes, IsTyped}
use Rattle.expand_runs.specs.Growing.{IsWithin}
use Rattle.expand_runs.specs.Showing.{Known, IsShown}
use Rattle.expand_runs.specs.Sound.{Objects}
use Rattle.expand_runs.specs.Evaluating.{IsValue, Evaluated}
use Rattle.expand_runs.specs.Worlds.{IsOver}

-- What is given for each argument: a value that comes of variables below a number, or the array that stands for the core's.
abbrev pub AreGiven : Frame → Here → Objects → (Spot → Home → Type 0) → (Spot → Type 0) → ℕ → ArgumentTrees → List Given → List e.Given → Store → Type 0
AreGiven f here o Homes Lives low core.no_argument [] [] t = Unit {0}
AreGiven f here o Homes Lives low (core.more_arguments (core.given v) rest) (cells.number_given n ∷ gs) (e.value_given y ∷ hs) t =
    (value f.arrays y t ≡ is n) × HasTypes f y × AllRead (λ i. i < low) y × AreGiven f here o Homes Lives low rest gs hs t
AreGiven f here o Homes Lives low (core.more_arguments (core.array cell) rest) (cells.array_given x ∷ gs) (e.array_given a ∷ hs) t =
    (x ≡ spot_of here cell) × ((k : CType) → o.Array cell k → Homes (spot_of here cell) (home.Array a) × Lives (spot_of here cell) × (kind_at f.arrays a.0 ≡ k)) × AreGiven f here o Homes Lives low rest gs hs t
AreGiven f here o Homes Lives low args gs hs t = ⊥

-- Control goes on behind the call, and its value is the result where it is used.
pub record HasCalled (f : Frame) (c : Call) (Homes : Spot → Home → Type 0) (Lives : Spot → Type 0) (kinds : Known) (used : Bool) (k : Option CType) (low : ℕ) (part : Part (Option PureTree)) (r : Option ℤ) (s : Cells) (w : Way) (t : Store) : Type 0 where
  pub done : Evaluated f Homes Lives kinds s w t
  pub value : used ≡ true → IsValue f c (λ y. ⊥) low (length part.state.variables) (value_or_zero part.value) (unwrap_or k int_type) (number_or_zero r) t

-- Calls of functions do the same at this place, where at most k points may still be passed.
abbrev pub CallsSame : ℕ → Frame → Here → Call → Objects → (Spot → Home → Type 0) → (Spot → Type 0) → Known → ℕ → ℕ → (Cell → Option ArrayId) → CoreCalls → Callee → Type 0
CallsSame k f here c o Homes Lives kinds base array_base seen cc g =
    (used : Bool) (callee : ℕ) (args : ArgumentTrees) (kd : Option CType) → o.Takes callee args kd → (gs : List Given) (hs : List e.Given) (at : Place) (st : State) → IsOver c base array_base seen st → IsWithin (g callee hs c at st).state f
    → (s : Cells) (t : Store) (n : ℕ) → n ≤ k → IsShown f Homes Lives kinds s t → IsTyped f t → AreGiven f here o Homes Lives (length st.variables) args gs hs t
    → Same false k (HasCalled f c Homes Lives kinds used kd (length st.variables) (g callee hs c at st)) (cc used callee gs (suc here.frame) (here.path ++ at ∷ []) s n) (pieces_run f (piece_row (g callee hs c at st).pieces) t n)
