-- Which register holds a place.
use Rattle.std.specs.Prelude.{◌≡◌, ℕ, ◌==◌, ◌&&◌, nat_le, Bool, List, find, count_by, Some}
use Rattle.reg_binding.specs.declared.registers.Held.{Held}
use Rattle.datapath.specs.Reading.{is_place}

-- the first row that tells of this place of the results of operation `op` of node i names this register
pub record IsHeldBy (held : List Held) (i op place register : ℕ) : Type 0 where
  pub row : Held
  pub found : find (is_place i op place) held ≡ Some row
  pub register_ : row.register ≡ register

-- the register holds no more than one place of node i
abbrev pub holds_one : List Held → ℕ → ℕ → Bool
holds_one held i register = nat_le (count_by (λ (g : Held). (g.node.0 == i) && (g.register == register)) held) 1
