-- What the pieces of statements keep.
pub mod Ending
pub mod Each
pub mod Scopes
pub mod Frames
pub mod Results
use Rattle.std.specs.Prelude.{◌≡◌, ℕ, ◌≤◌, Bool, true, false, List, [], Option, Some}
use Rattle.hls_base.specs.declared.number.ArrayId.{ArrayId}
use Rattle.c_token.specs.declared.ctype.CType.{CType}
use Rattle.pieces.specs.Resolved.Core.{CoreObjectTree, FileObjectTree, CoreStmtTrees}
use Rattle.piece_making.specs.declared.frame.Home.{Home}
use Rattle.piece_making.specs.Making.{State}
use Rattle.piece_making.specs.Calls.{Call}
use Rattle.piece_making.specs.Leaving.{any_leaves}
use Rattle.pieces.specs.Trees.{piece_row}
use Rattle.hls_base.specs.Same.{Same}
use Rattle.c_meaning.specs.CoreRuns.Cells.{Spot, Cells, Here}
use Rattle.c_meaning.specs.CoreRuns.Expressions.{CoreCalls}
use Rattle.c_meaning.specs.CoreRuns.Statements as core
use Rattle.c_meaning.specs.PieceRuns.Values.{Store}
use Rattle.c_meaning.specs.PieceRuns.Pieces.{Frame, pieces_run}
use Rattle.c_expand.specs.Expressions.{Callee}
use Rattle.c_expand.specs.Statements.{statements}
use Rattle.c_expand.specs.Expansion.{calls}
use Rattle.expand_runs.specs.Growing.{IsWithin}
use Rattle.expand_runs.specs.Showing.{Known}
use Rattle.expanded_programs.specs.Statements.Ending.{Ends}
use Rattle.expanded_programs.specs.Statements.Results.{HasResult}
use Rattle.expanded_programs.specs.Statements.Scopes.{Setting, Reach, Among, behind_all, StmtsSound}
use Rattle.expanded_programs.specs.Statements.Frames.{IsFrame, IsScene, Relates, seen_all}

-- The objects of file scope and of a function that calls none, and what is known of them: what stands for each, which lifetimes have begun, of which type each is, which are written from the start, how they are declared, and of the function's own objects which live and which arrays were reached.
pub record Tables : Type 0 where
  pub file : List FileObjectTree
  pub params : ℕ
  pub objects : List CoreObjectTree
  pub result : Option CType
  pub homes : Spot → Option Home
  pub lives : Spot → Bool
  pub types : Spot → CType
  pub whole : Spot → Bool
  pub declared : Spot → Option CoreObjectTree
  pub alive : ℕ → Bool
  pub ready : ℕ → Bool

abbrev pub setting_of : Tables → Setting
setting_of m = record { file = m.file; functions = []; Callable = λ i. ⊥; params = m.params; objects = m.objects; result = m.result }

abbrev pub known_of : Tables → Known
known_of m = record { types = m.types; Whole = λ x. m.whole x ≡ true; Declared = λ x o. m.declared x ≡ Some o }

abbrev pub reach_of : Tables → Reach
reach_of m = record { Lives = λ i. m.alive i ≡ true; Ready = λ i. m.ready i ≡ true }

abbrev pub HomesOf : Tables → Spot → Home → Type 0
HomesOf m x h = m.homes x ≡ Some h

abbrev pub LivesOf : Tables → Spot → Type 0
LivesOf m x = m.lives x ≡ true

-- no call is opened
abbrev pub no_calls : Callee
no_calls = calls [] 0

-- what relates the stores
abbrev pub RelatedBy : Tables → Frame → Here → Call → Reach → (ℕ → Option ArrayId) → Cells → Store → Type 0
RelatedBy m f here c r seen s t = Relates f here c (HomesOf m) (LivesOf m) (known_of m) r seen s t

abbrev pub Nowhere : Cells → Store → Type 0
Nowhere s t = ⊥

-- Statements behind which no `break`, `continue` or label of a switch round them may stand, from stores that are related: where they end, their pieces end behind the same points and with stores that are related, or with the result in its variable; where they wait, so do the pieces. Nothing is said of undefined behaviour.
abbrev pub StatementsKeepRuns : Type 0
StatementsKeepRuns = (m : Tables) (f : Frame) (k : ℕ) (here : Here) (c : Call) (fresh base : ℕ) → IsFrame f here c (setting_of m) (HomesOf m) (LivesOf m) (known_of m) fresh base
    → (cc : CoreCalls) (tail : Bool) (body : CoreStmtTrees) (own : List ℕ) (seen : ℕ → Option ArrayId) → StmtsSound (setting_of m) (reach_of m) (λ i. Among own i) false false false body
    → (st : State) → IsScene f c (setting_of m) (HomesOf m) base (reach_of m) seen st → IsWithin (statements no_calls c body tail st).state f
    → (s : Cells) (t : Store) (n : ℕ) → n ≤ k → RelatedBy m f here c (reach_of m) seen s t
    → Same false k (Ends (RelatedBy m f here c (behind_all body (reach_of m)) (seen_all no_calls c body tail st seen)) Nowhere Nowhere (HasResult f c (HomesOf m) (LivesOf m) (known_of m)) c.call tail (any_leaves body tail))
    (core.statements cc tail body here s n) (pieces_run f (piece_row (statements no_calls c body tail st).pieces) t n)
