-- Levels of picks.
use Rattle.std.specs.Prelude.{◌≡◌, ◌<◌, ◌-◌, ◌*◌, ◌+◌, ◌%◌, ◌^◌, ◌==◌, ℕ, List, length, get_or, if◌then◌else◌}
use Rattle.std.specs.List.{All}
use Rattle.rtl_core.specs.declared.design.Atom.{Atom}
use Rattle.rtl_core.specs.declared.design.Atom.TheVariants as atom
use Rattle.rtl_core.specs.Netlist.{Netlist}
use Rattle.rtl_core.specs.ClockStep.{widths}
use Rattle.rtl_core.specs.Valid.{HasBits}
use Rattle.rtl_logic.specs.Making.{Always, Appends, IsSound}

abbrev pub no_atom : Atom
no_atom = atom.Constant 0 0

abbrev pub constant_of : ℕ → ℕ → Atom
constant_of bits word = atom.Constant bits (word % 2 ^ bits)

-- what stands at this place of a level
abbrev pub at_place : (Atom → ℕ) → List Atom → ℕ → ℕ
at_place v level k = v (get_or level k no_atom)

-- of each of so many pairs of neighbours the second where the test is 1, else the first
pub record Halves (d e : Netlist) (bits : ℕ) (test : Atom) (level : List Atom) (pairs : ℕ) (above : List Atom) : Type 0 where
  pub appends : Appends d e
  pub sound : IsSound e
  pub fits : All (HasBits (widths e) bits) above
  pub count : length above ≡ pairs
  pub value : Always e (λ v. (k : ℕ) → k < pairs → at_place v above k ≡ (if v test == 1 then at_place v level (2 * k + 1) else at_place v level (2 * k)))

-- The words that the lowest bits of the address leave, so many of `depth`: at each place the word whose address begins with the place.
pub record IsLevel (d e : Netlist) (depth bits : ℕ) (addr : Atom) (words : List ℕ) (low : ℕ) (level : List Atom) : Type 0 where
  pub appends : Appends d e
  pub sound : IsSound e
  pub fits : All (HasBits (widths e) bits) level
  pub count : length level ≡ 2 ^ (depth - low)
  pub value : Always e (λ v. (k : ℕ) → k < length level → at_place v level k ≡ get_or words (k * 2 ^ low + v addr % 2 ^ low) 0)
