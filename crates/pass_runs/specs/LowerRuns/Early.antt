-- Operands that name operations which stand before.
use Rattle.std.specs.Prelude.{ℕ, ◌<◌, List, [], ◌∷◌, Option, Some, None}
use Rattle.ir_core.specs.declared.body.Operand.{Operand}
use Rattle.ir_core.specs.declared.body.Source.{Source}
use Rattle.ir_core.specs.declared.body.Source.TheVariants as source

-- a source that is no result of an operation but of the first n
abbrev pub IsEarly : ℕ → Source → Type 0
IsEarly n (source.Result op) = op.0 < n
IsEarly n s = Unit {0}

abbrev pub AreEarly : ℕ → List Operand → Type 0
AreEarly n [] = Unit {0}
AreEarly n (x ∷ xs) = IsEarly n x.value × AreEarly n xs

abbrev pub IsEarlyIfThere : ℕ → Option Operand → Type 0
IsEarlyIfThere n None = Unit {0}
IsEarlyIfThere n (Some x) = IsEarly n x.value
