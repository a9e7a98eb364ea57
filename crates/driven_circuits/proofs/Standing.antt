-- A circuit that follows a box does so from cycle to cycle.
use Rattle.std.proofs.Common.{◌≡◌, ℕ, List, [], ◌∷◌, length, sym, subst}
use Rattle.std.specs.List.{All}
use Rattle.std.proofs.lemmas.List.Elements.{All-nil, All-cons}
use Rattle.rtl_core.specs.Netlist.{Netlist}
use Rattle.rtl_core.specs.Interface.{Interface, HasPins, reset_of}
use Rattle.rtl_core.specs.ClockStep.{ArePins, stepped, outputs}
use Rattle.rtl_core.specs.Box.{Answers, Box, BoxStep}
use Rattle.rtl_core.specs.Agreement.{Shows, IsBroken, Follows}
use Rattle.cosim_levels.specs.Pins.Host.{Driven, clocked}
use Rattle.driven_circuits.proofs.Rows.{IsRow, row_pins, row_kept}

-- values that the pins can have, with reset low
abbrev pub IsQuiet : Netlist → List ℕ → Type 0
IsQuiet d pins = ArePins d pins × (reset_of pins ≡ 0)

-- a circuit with the pins of this interface stands where a box does, and follows it along all rows without a reset
pub record Stands (i : Interface) (answers : Answers) (s : Driven) (b : Box) : Type 0 where
  pub pins : HasPins s.netlist i
  pub arguments : s.arguments ≡ length i.scalars
  pub follows : (rest : List (List ℕ)) → All (IsQuiet s.netlist) rest → Follows s.netlist i answers s.state b rest

-- one cycle: the circuit shows what the box does, and stands where the next box does
pub record Goes (i : Interface) (answers : Answers) (s : Driven) (b next : Box) : Type 0 where
  pub shows : Shows b s.outs
  pub stands : Stands i answers s next

-- behind a cycle with these values, as they are
clocked_with : Driven → List ℕ → Driven
clocked_with s pins = record { netlist = s.netlist; arguments = s.arguments; state = stepped s.netlist s.state pins; outs = outputs s.netlist s.state pins }

goes_with : (i : Interface) (answers : Answers) (s : Driven) (b next : Box) (pins : List ℕ) → Stands i answers s b → ¬ IsBroken b.phase → IsQuiet s.netlist pins → BoxStep i answers b pins next → Goes i answers (clocked_with s pins) b next
unfolding clocked_with
goes_with i answers s b next pins stands whole quiet step =
    let d = s.netlist in
    record {
      shows = (stands.follows (pins ∷ []) (All-cons (IsQuiet d) pins [] quiet (All-nil (IsQuiet d))) whole).0;
      stands = record {
        pins = stands.pins;
        arguments = stands.arguments;
        follows = λ rest all. (stands.follows (pins ∷ rest) (All-cons (IsQuiet d) pins rest quiet all) whole).1 next step;
      };
    }

pub goes : (i : Interface) (answers : Answers) (s : Driven) (b next : Box) (row : List ℕ) → Stands i answers s b → ¬ IsBroken b.phase → IsRow i row → reset_of row ≡ 0 → BoxStep i answers b row next → Goes i answers (clocked s row) b next
unfolding clocked_with
goes i answers s b next row stands whole fit low step =
    subst (λ pins. Goes i answers (clocked_with s pins) b next) (sym (row_kept s.netlist i row stands.pins fit))
    (goes_with i answers s b next row stands whole (row_pins s.netlist i row stands.pins fit, low) step)
