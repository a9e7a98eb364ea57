-- The contents with which a run may begin, when it has ended, and what stands at file scope after a reset.
use Rattle.std.specs.Prelude.{◌≡◌, ℕ, ◌^◌, ◌<◌, List, [], map, length, take, filter, count_by, get_or, slice_get, slice_index, Some, None, is_some}
use Rattle.hls_base.specs.ArrayAddress.{addresses}
use Rattle.hls_base.specs.FileScope.{FileScope}
use Rattle.hls_base.specs.declared.number.Kept.{Kept}
use Rattle.hls_base.specs.declared.number.VarId.{VarId}
use Rattle.ir_core.specs.Bodies.{Words}
use Rattle.ir_core.specs.FirstContents.{given_at, elements_or_none}
use Rattle.clock_ir.specs.ClockRuns.{Phase, ended}
use Rattle.datapath.specs.Plans.{Plan, Array, array_at, depth, host_arrays}

-- ---- contents

-- the elements that the words of an array hold, row by row
abbrev pub elements : Array → (ℕ → ℕ) → List ℕ
elements a words = map words (addresses a.dims)

-- which of the arrays of file scope it is
abbrev pub file_number : Plan → ℕ → ℕ
file_number p a = count_by (λ (b : Array). is_some b.first) (take a p.arrays)

-- The scalars and arrays of file scope hold this, and the arrays that the host reaches these elements.
pub record HoldsArrays (p : Plan) (file_scope : FileScope) (arrays : List (List ℕ)) (t : Words) : Type 0 where
  pub scalars : (k : ℕ) (s : Kept) → slice_get p.kept k ≡ Some s → t.variables s.variable.0 ≡ slice_index file_scope.scalars k
  pub host : (a : ℕ) → a < length (host_arrays p) → elements (array_at p a) (t.memories a) ≡ get_or arrays a []
  pub file : (a : ℕ) (first : List ℕ) → (array_at p a).first ≡ Some first → elements (array_at p a) (t.memories a) ≡ get_or file_scope.arrays (file_number p a) []

-- Variables and the words of arrays have their widths, and there is nothing where there is no array.
pub record HaveWidths (p : Plan) (t : Words) : Type 0 where
  pub variables : (v bits : ℕ) → slice_get p.program.shapes.widths v ≡ Some bits → t.variables v < 2 ^ bits
  pub arrays : (a : ℕ) (array : Array) → slice_get p.arrays a ≡ Some array → (address : ℕ) → t.memories a address < 2 ^ array.bits
  pub nothing : (a : ℕ) → slice_get p.arrays a ≡ None → (address : ℕ) → t.memories a address ≡ 0

-- Contents with which a run may begin: the parameters have the arguments, and the tables their words. Other variables and words may hold anything that has their widths.
pub record Begins (p : Plan) (file_scope : FileScope) (arguments : List ℕ) (arrays : List (List ℕ)) (t : Words) : Type 0 where
  pub arguments_ : (k : ℕ) (v : VarId) → slice_get p.parameters k ≡ Some v → t.variables v.0 ≡ slice_index arguments k
  pub holds : HoldsArrays p file_scope arrays t
  pub tables : (a address : ℕ) (words : List ℕ) → (array_at p a).table ≡ Some words → address < 2 ^ depth p a
      → t.memories a address ≡ given_at (addresses (array_at p a).dims) words address 0
  pub widths : HaveWidths p t

-- ---- ends

abbrev pub HasEnded : Phase → Type 0
HasEnded (ended word words) = Unit {0}
HasEnded phase = ⊥

-- ---- file scope

-- what stands at file scope after a reset
abbrev pub first_file_scope : Plan → FileScope
first_file_scope p = record {
  scalars = map (λ (s : Kept). s.value) p.kept;
  arrays = map (λ (a : Array). elements_or_none a.first) (filter (λ (a : Array). is_some a.first) p.arrays);
}
