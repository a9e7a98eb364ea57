-- What the block that is open keeps as pieces without control of their own add to it.
pub mod OperatorWords
pub mod Early
pub mod Suits
pub mod Standing
pub mod Showing
pub mod LoweredTrees
pub mod Following
pub mod Holding
pub mod Suiting
pub mod LoweredRuns
use Rattle.std.specs.Prelude.{◌≡◌, ℕ, Bool, ℤ, List, slice_get, Some}
use Rattle.hls_base.specs.declared.place.Place.{Place}
use Rattle.hls_base.specs.declared.number.ArrayId.{ArrayId}
use Rattle.hls_base.specs.declared.number.VarId.{VarId}
use Rattle.c_token.specs.declared.ctype.CType.{CType}
use Rattle.c_value.specs.Values.{convert}
use Rattle.c_value.specs.Operators.{is_true}
use Rattle.ir_core.specs.Value.{truth}
use Rattle.pieces.specs.Trees.{PureTree, PureTrees}
use Rattle.hls_base.specs.Valued.{is}
use Rattle.c_meaning.specs.PieceRuns.Values.{Store, with_variable, with_element, lengths_in, element_number, value, values}
use Rattle.c_meaning.specs.PieceRuns.Pieces.{Frame, kind_at}
use Rattle.ir_core.specs.Bodies.{Words, Ranged, operand}
use Rattle.ir_core.specs.Trees.{BlockTree}
use Rattle.passes.specs.Lowering.Operations.{Emitted}
use Rattle.passes.specs.Lowering.Blocks.{value_as, condition, set, put}
use Rattle.pass_runs.specs.LowerRuns.OperatorWords.Words.{IsWord}
use Rattle.pass_runs.specs.LowerRuns.Suits as suits
use Rattle.pass_runs.specs.LowerRuns.Suits.{EachSuits, shapes_of, scope_of}
use Rattle.pass_runs.specs.LowerRuns.Standing.{Stands}
use Rattle.pass_runs.specs.LowerRuns.Showing.{IsAt, AreShort, without_number}

-- the operations that were added are performed without a fault, leave the words of variables and memories as they were, and the operand has a word of which this is known
abbrev pub Performs : Frame → Words → Ranged → Emitted → (ℕ → Type 0) → Type 0
Performs f t r x P = (next : Ranged) × Stands (shapes_of f) t x.ops next × (next.words ≡ r.words) × P (operand next.words next.results x.operand)

-- Where an expression has a value, its operations give it, as one of the type to which it is converted.
abbrev pub ValuesAreComputed : Type 0
ValuesAreComputed = (f : Frame) (hidden : ℕ → Bool) (t : Words) (b : BlockTree) (r : Ranged) (s : Store) → IsAt f hidden t b r s
    → (x : PureTree) (k : CType) (n : ℤ) → suits.Suits f hidden x → value f.arrays x s ≡ is n → Performs f t r (value_as b x k) (IsWord k (convert k n))

-- As a condition they give the bit that says whether it is other than 0.
abbrev pub ConditionsAreComputed : Type 0
ConditionsAreComputed = (f : Frame) (hidden : ℕ → Bool) (t : Words) (b : BlockTree) (r : Ranged) (s : Store) → IsAt f hidden t b r s
    → (x : PureTree) (n : ℤ) → suits.Suits f hidden x → value f.arrays x s ≡ is n → Performs f t r (condition x b) (λ w. w ≡ truth (is_true n))

-- Behind a variable that is set the block shows the store in which it has the value.
abbrev pub SetsAreShown : Type 0
SetsAreShown = (f : Frame) (hidden : ℕ → Bool) (t : Words) (b : BlockTree) (r : Ranged) (s : Store) → IsAt f hidden t b r s
    → (variable : VarId) (x : PureTree) (k : CType) (n : ℤ) → slice_get f.variables variable.0 ≡ Some k → suits.Suits f hidden x → value f.arrays x s ≡ is n
    → (next : Ranged) × IsAt f (without_number hidden variable.0) t (set (scope_of f) variable x b) next (with_variable variable.0 (convert k n) s)

-- Behind an element that is written, with subscripts within their dimensions, it shows the store in which it has the value.
abbrev pub PutsAreShown : Type 0
PutsAreShown = (f : Frame) (hidden : ℕ → Bool) (t : Words) (b : BlockTree) (r : Ranged) (s : Store) → IsAt f hidden t b r s
    → (array : ArrayId) (subscripts : PureTrees) (x : PureTree) (at : Place) (is_ : List ℤ) (i : ℕ) (n : ℤ) → AreShort (lengths_in (slice_get f.arrays array.0)) → EachSuits f hidden subscripts → suits.Suits f hidden x
    → values f.arrays subscripts s ≡ is is_ → value f.arrays x s ≡ is n → element_number f.arrays array.0 is_ ≡ Some i
    → (next : Ranged) × IsAt f hidden t (put (scope_of f) array subscripts x at b) next (with_element array.0 i (convert (kind_at f.arrays array.0) n) s)
