-- The outputs of the module of a function.
use Rattle.std.specs.Prelude.{ℕ, List, [], ◌∷◌, codes, Option, Some, None}
use Rattle.rtl_core.specs.declared.design.Atom.{Atom}
use Rattle.rtl_core.specs.declared.design.OutPin.{OutPin}
use Rattle.rtl_core.specs.declared.pins.Shown.{Shown}
use Rattle.rtl_core.specs.FramePins.{result_bits}

abbrev pub output_of : List ℕ → ℕ → Atom → OutPin
output_of name bits from = record { name = name; bits = bits; from = from }

abbrev pub result_shown : Option ℕ → Atom → List OutPin
result_shown None from = []
result_shown (Some bits) from = output_of (codes "ret") bits from ∷ []

-- the outputs that show these atoms, where the result has so many bits
abbrev pub shown_by : ℕ → Shown → List OutPin
shown_by bits s = output_of (codes "ready") 1 s.ready ∷ output_of (codes "done") 1 s.done ∷ output_of (codes "h_rdata") 64 s.element ∷ result_shown (result_bits bits) s.result
