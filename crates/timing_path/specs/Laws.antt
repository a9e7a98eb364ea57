-- What the definition of the longest path fixes.
use Rattle.std.specs.Prelude.{◌≡◌, ℕ, List, []}
use Rattle.rtl_core.specs.Netlist.{Netlist}
use Rattle.timing_path.specs.Paths.{IsPath, path_delay, IsLongest}

-- there is only one
abbrev pub LongestIsUnique : Type 0
LongestIsUnique = (d : Netlist) (m n : ℕ) (ks js : List ℕ) → IsLongest d m ks → IsLongest d n js → (m ≡ n) × (ks ≡ js)

-- where no path has a delay, it is the empty list
abbrev pub NoDelayGivesNoWires : Type 0
NoDelayGivesNoWires = (d : Netlist) (n : ℕ) (ks : List ℕ) → IsLongest d n ks → ((js : List ℕ) → IsPath d js → path_delay d js ≡ 0) → (n ≡ 0) × (ks ≡ [])
