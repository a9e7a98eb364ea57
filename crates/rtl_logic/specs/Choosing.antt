-- Values of which each is wanted in some cycles, and the one that is chosen.
use Rattle.std.specs.Prelude.{◌≡◌, ◌<◌, ℕ, ◌==◌, Bool, true, false, List, [], ◌∷◌, map, length, Option, Some, None}
use Rattle.std.specs.List.{All, list_any}
use Rattle.rtl_core.specs.declared.design.Atom.{Atom}
use Rattle.rtl_core.specs.Netlist.{Netlist}
use Rattle.rtl_core.specs.ClockStep.{Widths, bit_of, widths}
use Rattle.rtl_core.specs.Valid.{HasBits}
use Rattle.rtl_logic.specs.declared.select.Choice.{Choice}
use Rattle.rtl_logic.specs.declared.select.Wanted.{Wanted}
use Rattle.rtl_logic.specs.Making.{IsSound, Appends, Always, Shows}

-- ---- guarded writes

-- in this cycle the value is wanted, or not
pub record Write : Type 0 where
  pub wanted : Bool
  pub value : ℕ

abbrev pub where_ : Bool → ℕ → Write
where_ wanted value = record { wanted = wanted; value = value }

abbrev pub is_any_wanted : List Write → Bool
is_any_wanted writes = list_any (λ (w : Write). w.wanted) writes

-- all that is wanted is this value
abbrev pub AllWant : List Write → ℕ → Type 0
AllWant [] x = Unit {0}
AllWant (w ∷ ws) x = (w.wanted ≡ true → w.value ≡ x) × AllWant ws x

abbrev pub IsElse : Option ℕ → ℕ → Type 0
IsElse None x = Unit {0}
IsElse (Some y) x = x ≡ y

-- What is written is the value that is wanted. Where none is wanted it is the other one, if there is one. Nothing is said where two values are wanted, and where there is nothing.
pub record Takes (writes : List Write) (other : Option ℕ) (x : ℕ) : Type 0 where
  pub wanted : (y : ℕ) → is_any_wanted writes ≡ true → AllWant writes y → x ≡ y
  pub else_ : is_any_wanted writes ≡ false → IsElse other x

-- ---- bits

-- one of the bits is 1
abbrev pub is_any : (Atom → ℕ) → List Atom → Bool
is_any v bits = list_any (λ b. v b == 1) bits

-- Bits in place of others: in each cycle one of them is 1 where one of the others is.
pub record StandForBits (d e : Netlist) (bits level : List Atom) : Type 0 where
  pub appends : Appends d e
  pub sound : IsSound e
  pub fits : All (HasBits (widths e) 1) level
  pub any : Always e (λ v. is_any v level ≡ is_any v bits)

-- ---- choices

-- a bit, and a value of so many bits
pub record ChoiceFits (w : Widths) (n : ℕ) (c : Choice) : Type 0 where
  pub when : HasBits w 1 c.when
  pub value : HasBits w n c.value

-- what one choice wants in a cycle
abbrev pub write_in : (Atom → ℕ) → Choice → Write
write_in v c = where_ (v c.when == 1) (v c.value)

-- what the choices want in a cycle, in their order
abbrev pub writes_in : (Atom → ℕ) → List Choice → List Write
writes_in v choices = map (write_in v) choices

-- Choices in place of others: in each cycle one of them is wanted where one of the others is, and all that they want is what all others want.
pub record StandForChoices (d e : Netlist) (n : ℕ) (choices level : List Choice) : Type 0 where
  pub appends : Appends d e
  pub sound : IsSound e
  pub fits : All (ChoiceFits (widths e) n) level
  pub any : Always e (λ v. is_any_wanted (writes_in v level) ≡ is_any_wanted (writes_in v choices))
  pub all : (y : ℕ) → Always e (λ v. AllWant (writes_in v choices) y → AllWant (writes_in v level) y)

-- One choice in place of all: it is wanted where one of them is, and its value is the one that is wanted.
pub record Chooses (d e : Netlist) (n : ℕ) (choices : List Choice) (c : Choice) : Type 0 where
  pub appends : Appends d e
  pub sound : IsSound e
  pub when : Shows e 1 c.when (λ v x. x ≡ bit_of (is_any_wanted (writes_in v choices)))
  pub value : Shows e n c.value (λ v x. Takes (writes_in v choices) None x)

-- the choice in place of all, none where there is nothing to choose
abbrev pub IsChoice : Netlist → Netlist → ℕ → List Choice → Option Choice → Type 0
IsChoice d e n choices None = (choices ≡ []) × Appends d e × IsSound e
IsChoice d e n choices (Some c) = (0 < length choices) × Chooses d e n choices c

-- 0 where there is no choice at all
abbrev pub zero_for_none : List Choice → Option ℕ
zero_for_none [] = Some 0
zero_for_none (c ∷ cs) = None

-- the choices that a group of them with one value stands for
abbrev pub choices_in : Wanted → List Choice
choices_in group = map (λ (b : Atom). record { when = b; value = group.value }) group.when.items

-- a group of one choice or more
abbrev pub IsSome : Wanted → Type 0
IsSome group = 0 < length group.when.items
