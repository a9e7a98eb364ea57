-- Which names of pins leave the names of registers, memories and wires free.
use Rattle.std.specs.Prelude.{ℕ, List, [], ◌∷◌, codes}
use Rattle.std.specs.List.{All, Contains}
use Rattle.rtl_core.specs.Netlist.{Netlist}
use Rattle.rtl_core.specs.Valid.{pin_names}
use Rattle.rtl_core.specs.ModuleTokens.{IsNumber}

-- `r`, `m` or `w`, and behind it digits alone
abbrev pub IsNumbered : List ℕ → Type 0
IsNumbered [] = ⊥
IsNumbered (c ∷ cs) = Contains (codes "rmw") c × IsNumber cs

abbrev pub HasPrintableNames : Netlist → Type 0
HasPrintableNames d = All (λ name. ¬ IsNumbered name) (pin_names d)
