-- Rows of values that the pins of an interface can have.
use Rattle.std.proofs.Common.{◌≡◌, ◌<◌, ℕ, suc, ◌^◌, List, [], ◌∷◌, map, length, replicate, refl, sym, ap, ◌∙◌, subst, arith}
use Rattle.std.proofs.Math.Nat.{mod-eq_of_lt}
use Rattle.rtl_core.specs.declared.design.Pin.{Pin}
use Rattle.rtl_core.specs.Netlist.{Netlist}
use Rattle.rtl_core.specs.Interface.{Interface, HasPins, argument_pins}
use Rattle.rtl_core.specs.ClockStep.{input_widths, Fit, fit_none, fit_one, ArePins}
use Rattle.verilog_cycle.specs.Simulation.{modulo_widths, reduced_pins}
use Rattle.verilog_cycle.proofs.Powered.{zeros_fit}
use Rattle.cosim_levels.specs.Pins.Host.{low_row, reset_row, start_row, write_row, read_row}

argument_widths : (k : ℕ) (scalars : List ℕ) → map (λ (p : Pin). p.bits) (argument_pins k scalars) ≡ scalars
argument_widths k [] = refl
argument_widths k (bits ∷ scalars) = ap (λ l. bits ∷ l) (argument_widths (suc k) scalars)

abbrev pub host_widths : List ℕ → List ℕ
host_widths scalars = 1 ∷ 1 ∷ 1 ∷ 1 ∷ 5 ∷ 16 ∷ 64 ∷ scalars

pub widths_are : (d : Netlist) (i : Interface) → HasPins d i → input_widths d ≡ host_widths i.scalars
widths_are d i h = ap (map (λ (p : Pin). p.bits)) h.inputs ∙ ap host_widths (argument_widths 0 i.scalars)

same_values : (ws xs : List ℕ) → Fit ws xs → modulo_widths ws xs ≡ xs
same_values _ _ fit_none = refl
same_values _ _ (fit_one bits x ws xs h fit) = ap (λ y. y ∷ modulo_widths ws xs) (mod-eq_of_lt h) ∙ ap (λ l. x ∷ l) (same_values ws xs fit)

-- values that fit the pins of the interface
abbrev pub IsRow : Interface → List ℕ → Type 0
IsRow i row = Fit (host_widths i.scalars) row

pub row_pins : (d : Netlist) (i : Interface) (row : List ℕ) → HasPins d i → IsRow i row → ArePins d row
row_pins d i row h fit = subst (λ ws. Fit ws row) (sym (widths_are d i h)) fit

pub row_kept : (d : Netlist) (i : Interface) (row : List ℕ) → HasPins d i → IsRow i row → reduced_pins d row ≡ row
row_kept d i row h fit = same_values (input_widths d) row (row_pins d i row h fit)

row_of : (i : Interface) (reset start enable write select address data_ : ℕ) (arguments : List ℕ) → reset < 2 → start < 2 → enable < 2 → write < 2 → select < 32 → address < 2 ^ 16 → data_ < 2 ^ 64
    → Fit i.scalars arguments → IsRow i (reset ∷ start ∷ enable ∷ write ∷ select ∷ address ∷ data_ ∷ arguments)
row_of i reset start enable write select address data_ arguments r s e w n a x fit =
    fit_one 1 reset _ _ r (fit_one 1 start _ _ s (fit_one 1 enable _ _ e (fit_one 1 write _ _ w (fit_one 5 select _ _ n (fit_one 16 address _ _ a (fit_one 64 data_ _ _ x fit))))))

module _ (i : Interface) (n : ℕ) (count : n ≡ length i.scalars) where
  zeros : Fit i.scalars (replicate n 0)
  zeros = zeros_fit i.scalars n count

  pub low_fits : IsRow i (low_row n)
  low_fits = row_of i 0 0 0 0 0 0 0 (replicate n 0) (omega arith) (omega arith) (omega arith) (omega arith) (omega arith) (omega arith) (omega arith) zeros

  pub reset_fits : IsRow i (reset_row n)
  reset_fits = row_of i 1 0 0 0 0 0 0 (replicate n 0) (omega arith) (omega arith) (omega arith) (omega arith) (omega arith) (omega arith) (omega arith) zeros

  pub write_fits : (array address word : ℕ) → array < 32 → address < 2 ^ 16 → word < 2 ^ 64 → IsRow i (write_row n array address word)
  write_fits array address word h g f = row_of i 0 0 1 1 array address word (replicate n 0) (omega arith) (omega arith) (omega arith) (omega arith) h g f zeros

  pub read_fits : (array address : ℕ) → array < 32 → address < 2 ^ 16 → IsRow i (read_row n array address)
  read_fits array address h g = row_of i 0 0 1 0 array address 0 (replicate n 0) (omega arith) (omega arith) (omega arith) (omega arith) h g (omega arith) zeros

pub start_fits : (i : Interface) (scalars : List ℕ) → Fit i.scalars scalars → IsRow i (start_row scalars)
start_fits i scalars fit = row_of i 0 1 0 0 0 0 0 scalars (omega arith) (omega arith) (omega arith) (omega arith) (omega arith) (omega arith) (omega arith) fit
