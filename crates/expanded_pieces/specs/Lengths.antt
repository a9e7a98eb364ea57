-- What the lengths of all arrays of a program are.
use Rattle.std.specs.Prelude.{ℕ, List, [], ◌∷◌}
use Rattle.pieces.specs.Resolved.Core.{CoreObjectTree, FileObjectTree, CoreFunctionTree, CoreProgramTree}
use Rattle.pass_runs.specs.LowerRuns.Showing.{AreShort}

abbrev pub EachObject : (List ℕ → Type 0) → List CoreObjectTree → Type 0
EachObject Q [] = Unit {0}
EachObject Q (o ∷ os) = Q o.lengths × EachObject Q os

abbrev pub EachFileObject : (List ℕ → Type 0) → List FileObjectTree → Type 0
EachFileObject Q [] = Unit {0}
EachFileObject Q (o ∷ os) = Q o.object.lengths × EachFileObject Q os

abbrev pub EachFunction : (List ℕ → Type 0) → List CoreFunctionTree → Type 0
EachFunction Q [] = Unit {0}
EachFunction Q (fn ∷ fns) = EachObject Q fn.objects × EachFunction Q fns

-- no length is above 65,536
abbrev pub ProgramLengthsFit : CoreProgramTree → Type 0
ProgramLengthsFit p = EachFileObject AreShort p.file × EachFunction AreShort p.functions
