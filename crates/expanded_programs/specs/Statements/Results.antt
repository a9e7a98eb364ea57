-- What a call leaves.
use Rattle.std.specs.Prelude.{◌≡◌, ℤ, Option, Some}
use Rattle.piece_making.specs.declared.frame.Home.{Home}
use Rattle.piece_making.specs.Calls.{Call}
use Rattle.c_meaning.specs.CoreRuns.Cells.{Spot, Cells}
use Rattle.c_meaning.specs.PieceRuns.Values.{Store}
use Rattle.c_meaning.specs.PieceRuns.Pieces.{Frame}
use Rattle.c_expand.specs.Statements.{result_variable}
use Rattle.expand_runs.specs.Reading.{IsTyped}
use Rattle.expand_runs.specs.Showing.{Known, IsShown}

-- What is shown of the calls that lead to it; a result is in its variable.
pub record HasResult (f : Frame) (c : Call) (Homes0 : Spot → Home → Type 0) (Lives0 : Spot → Type 0) (kinds : Known) (v : Option ℤ) (s : Cells) (t : Store) : Type 0 where
  pub shown : IsShown f Homes0 Lives0 kinds s t
  pub typed : IsTyped f t
  pub number : (x : ℤ) → v ≡ Some x → t.variables (result_variable c.result).0 ≡ x
