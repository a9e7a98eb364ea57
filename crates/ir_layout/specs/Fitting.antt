-- The values of the check without where they lie in memory.
use Rattle.std.specs.Prelude.{ℕ, List, map, reverse}
use Rattle.ir_core.specs.declared.tree.LandId.{LandId}
use Rattle.ir_layout.specs.declared.fits.Jumps.{Jumps}
use Rattle.ir_layout.specs.declared.fits.Kind.{Kind}
use Rattle.ir_layout.specs.declared.fits.Kind.TheVariants as kind
use Rattle.ir_layout.specs.WellFormed.{Inside, Ahead, one_way, a_test, a_switch}

abbrev pub land_number : LandId → ℕ
land_number land = land.0

-- the nearest one is the last one
abbrev pub numbered : List LandId → List ℕ
numbered lands = reverse (map land_number lands)

abbrev pub inside_of : Jumps → List ℕ → Inside
inside_of jumps lands = record { leave = jumps.leave; again = jumps.again; lands = lands }

abbrev pub kind_view : Kind → Ahead
kind_view kind.OneWay = one_way
kind_view kind.Test = a_test
kind_view (kind.Switch cases) = a_switch cases
