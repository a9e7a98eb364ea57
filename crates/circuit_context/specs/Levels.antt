-- Words of which the one that the host named is chosen, bit by bit of its number.
use Rattle.std.specs.Prelude.{◌≡◌, ◌<◌, ℕ, ◌+◌, ◌*◌, ◌^◌, ◌%◌, ◌==◌, List, length, slice_get, Option, Some, if◌then◌else◌}
use Rattle.rtl_core.specs.declared.design.Atom.{Atom}
use Rattle.rtl_core.specs.Netlist.{Netlist}
use Rattle.rtl_core.specs.ClockStep.{State, seen, widths}
use Rattle.rtl_core.specs.Valid.{HasBits}
use Rattle.rtl_logic.specs.Making.{Appends, IsSound, Always}
use Rattle.datapath.specs.Plans.{Plan, host_arrays}
use Rattle.datapath.specs.Cycles.{Register, Named, Word, Contents}
use Rattle.datapath.specs.CircuitWires.Carrying.{IsMoment, IsBegun}

-- all have 64 bits
abbrev pub AreWords : Netlist → List Atom → Type 0
AreWords d xs = (j : ℕ) (a : Atom) → slice_get xs j ≡ Some a → HasBits (widths d) 64 a

abbrev pub IsWord : Netlist → Option Atom → Type 0
IsWord d o = (a : Atom) → o ≡ Some a → HasBits (widths d) 64 a

-- ---- half of the words

-- the second of two where the bit is 1
abbrev pub of_two : ℕ → Option Atom → Option Atom → Option Atom
of_two bit first second = if bit == 1 then second else first

abbrev pub IsPicked : Atom → Option Atom → Option Atom → (Atom → ℕ) → ℕ → Type 0
IsPicked test first second v x = (a : Atom) → of_two (v test) first second ≡ Some a → x ≡ v a

abbrev pub neighbour : List Atom → ℕ → ℕ → Option Atom
neighbour xs j bit = of_two bit (slice_get xs (2 * j)) (slice_get xs (2 * j + 1))

-- at this place is an atom with the value of that one
abbrev pub IsAt : List Atom → ℕ → (Atom → ℕ) → Atom → Type 0
IsAt ys j v a = (b : Atom) × ((slice_get ys j ≡ Some b) × (v b ≡ v a))

-- of the first so many pairs of neighbours the one is left that the bit chooses
pub record HalvesPart (d e : Netlist) (test : Atom) (k : ℕ) (xs ys : List Atom) : Type 0 where
  pub appends : Appends d e
  pub sound : IsSound e
  pub count : length ys ≡ k
  pub fits : AreWords e ys
  pub shows : Always e (λ v. (j : ℕ) (a : Atom) → j < k → neighbour xs j (v test) ≡ Some a → IsAt ys j v a)

-- of each pair of neighbours the one is left that the bit chooses
pub record HalvesTo (d e : Netlist) (test : Atom) (xs ys : List Atom) : Type 0 where
  pub appends : Appends d e
  pub sound : IsSound e
  pub fits : AreWords e ys
  pub shows : Always e (λ v. (j : ℕ) (a : Atom) → neighbour xs j (v test) ≡ Some a → IsAt ys j v a)

-- ---- what the words are

-- the atom at this place is the word that was read last at port 0 of an array
abbrev pub IsWordAt : List Atom → ℕ → (Atom → ℕ) → Contents → ℕ → Type 0
IsWordAt xs j v x a = (b : Atom) × ((slice_get xs j ≡ Some b) × (v b ≡ x.regs (Word a 0)))

-- the words of the first so many arrays
pub record MakesWords (p : Plan) (names : List Register) (d e : Netlist) (k : ℕ) (xs : List Atom) : Type 0 where
  pub appends : Appends d e
  pub begun : IsBegun p names e
  pub count : length xs ≡ k
  pub fits : AreWords e xs
  pub shows : (f : Netlist) (s : State) (pins : List ℕ) (x : Contents) → IsMoment p names e f s pins x → (j : ℕ) → j < k → IsWordAt xs j (seen f s pins) x j

-- the array number j of those whose number has the low bits of the one that is named
abbrev pub with_low : Contents → ℕ → ℕ → ℕ
with_low x b j = j * 2 ^ b + x.regs Named % 2 ^ b

-- The words of the arrays whose numbers have so many low bits of the one that the host named.
pub record MakesLevel (p : Plan) (names : List Register) (d e : Netlist) (b : ℕ) (xs : List Atom) : Type 0 where
  pub appends : Appends d e
  pub begun : IsBegun p names e
  pub fits : AreWords e xs
  pub shows : (f : Netlist) (s : State) (pins : List ℕ) (x : Contents) → IsMoment p names e f s pins x
      → (j : ℕ) → with_low x b j < length (host_arrays p) → IsWordAt xs j (seen f s pins) x (with_low x b j)
