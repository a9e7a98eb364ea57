-- What the block that is open shows of a store.
use Rattle.std.specs.Prelude.{◌≡◌, ℕ, ◌≤◌, ◌==◌, Bool, false, ℤ, List, [], ◌∷◌, map, unsigned_abs, slice_get, Some, if◌then◌else◌}
use Rattle.hls_base.specs.declared.number.VarId.{VarId}
use Rattle.c_token.specs.declared.ctype.CType.{CType}
use Rattle.c_value.specs.Values.{width}
use Rattle.ir_core.specs.declared.body.Out.{Out}
use Rattle.c_meaning.specs.PieceRuns.Values.{Store, lengths_in, element_number}
use Rattle.c_meaning.specs.PieceRuns.Pieces.{Frame, kind_at}
use Rattle.ir_core.specs.Bodies.{OpTree, Words, Ranged, operand, address_of}
use Rattle.ir_core.specs.Trees.{BlockTree}
use Rattle.passes.specs.Lowering.Outs.{held}
use Rattle.pass_runs.specs.LowerRuns.OperatorWords.Words.{IsWord}
use Rattle.pass_runs.specs.LowerRuns.Suits.{shapes_of}
use Rattle.pass_runs.specs.LowerRuns.Standing.{Stands, Fits}

-- The words of memories are those of the elements, where each subscript is within its dimension.
abbrev pub ArraysShown : Frame → (ℕ → ℕ → ℕ) → (ℕ → ℕ → ℤ) → Type 0
ArraysShown f memories elements = (a : ℕ) (is_ : List ℤ) (i : ℕ) → element_number f.arrays a is_ ≡ Some i
    → IsWord (kind_at f.arrays a) (elements a i) (memories a (address_of (lengths_in (slice_get f.arrays a)) (map unsigned_abs is_)))

module _ (f : Frame) (hidden : ℕ → Bool) where
  -- The variables that are not hidden hold their numbers.
  pub record Shows (outs : List Out) (ops : List OpTree) (r : Ranged) (s : Store) : Type 0 where
    pub fits : (i : VarId) (k : CType) → slice_get f.variables i.0 ≡ Some k → Fits (shapes_of f) ops r (held outs i) (width k)
    pub variables : (i : VarId) (k : CType) → slice_get f.variables i.0 ≡ Some k → hidden i.0 ≡ false → IsWord k (s.variables i.0) (operand r.words r.results (held outs i))
    pub arrays : ArraysShown f r.words.memories s.elements

  -- In a block that was entered with these words, the operations so far were performed, and what variables hold shows the store.
  pub record IsAt (t : Words) (b : BlockTree) (r : Ranged) (s : Store) : Type 0 where
    pub stands : Stands (shapes_of f) t b.ops r
    pub shows : Shows b.outs b.ops r s

-- no length is above 65,536
abbrev pub AreShort : List ℕ → Type 0
AreShort [] = Unit {0}
AreShort (len ∷ dims) = (len ≤ 65536) × AreShort dims

-- a variable that is set is not hidden
abbrev pub without_number : (ℕ → Bool) → ℕ → ℕ → Bool
without_number hidden v i = if v == i then false else hidden i
