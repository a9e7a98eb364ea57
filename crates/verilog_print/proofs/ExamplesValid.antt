-- The example circuits are valid, and their names can be printed.
use Rattle.std.proofs.Common.{◌≡◌, ◌≢◌, ◌⊎◌, inl, inr, ℕ, ◌<◌, ◌≤◌, true, refl, ap, List, [], ◌∷◌, length, get_or, arith}
use Rattle.std.specs.Prelude.{codes, nat_lt}
use Rattle.std.proofs.lemmas.Bool.{ltb-true}
use Rattle.std.proofs.lemmas.List.Elements.{All-nil, All-from_recursion, All-weaker}
use Rattle.rtl_core.specs.declared.design.Pin.{Pin}
use Rattle.rtl_core.specs.ClockStep.{widths}
use Rattle.rtl_core.specs.Valid.{IsLetter, IsDigit, IsName, IsBetween, reserved_words, pin_names, RegisterFits, PortFits, MemoryFits, OutputFits, IsValid}
use Rattle.verilog_print.specs.PrintableNames.{IsNumbered, HasPrintableNames}
use Rattle.verilog_print.specs.Examples.{counter, machine, first_port, store}
use Rattle.verilog_print.proofs.Names.{not_numbered}
use Rattle.verilog_print.proofs.Lists.{all_pass}

one_letter : (c : ℕ) → IsLetter c → IsName (c ∷ [])
one_letter c letter = record {
  identifier = (letter, All-nil (λ c. IsLetter c ⊎ IsDigit c));
  free =
      All-weaker (λ word. nat_lt 1 (length word) ≡ true) (λ word. word ≢ c ∷ [])
      (λ word long same. let more = ltb-true 1 (length word) long in omega (arith, more, ap length same)) reserved_words (all_pass (λ word. nat_lt 1 (length word)) reserved_words refl);
}

small_letter : (c : ℕ) → (97 ≤ c) × (c ≤ 122) → IsName (c ∷ [])
small_letter c h = one_letter c (inr (inl h))

differ : (c d : ℕ) → c ≢ d → c ∷ [] ≢ d ∷ []
differ c d h same = h (ap (λ s. get_or s 0 0) same)

letters_differ : (c d : ℕ) → c < d → c ∷ [] ≢ d ∷ []
letters_differ c d h = differ c d (λ e. omega arith)

abbrev IsFree : List ℕ → Type 0
IsFree name = ¬ IsNumbered name

pub counter_valid : IsValid counter
counter_valid = record {
  name = small_letter 116 (omega arith, omega arith);
  names = All-from_recursion IsName (pin_names counter) (small_letter 97 (omega arith, omega arith), (small_letter 121 (omega arith, omega arith), tt));
  distinct = (All-from_recursion (λ y. codes "a" ≢ y) (codes "y" ∷ []) (letters_differ 97 121 (omega arith), tt), (All-nil (λ z. codes "y" ≢ z), tt));
  inputs = All-from_recursion (λ (p : Pin). IsBetween 1 64 p.bits) counter.inputs ((omega arith, omega arith), tt);
  wires = ((omega arith, omega arith), (refl, refl), tt);
  regs = All-from_recursion (RegisterFits (widths counter)) counter.regs (record { bits = (omega arith, omega arith); enable = (refl, (omega arith, omega arith), omega arith); next = refl }, tt);
  mems = All-nil (MemoryFits (widths counter));
  outputs = All-from_recursion (OutputFits (widths counter)) counter.outputs (record { bits = (omega arith, omega arith); from = refl }, tt);
}

pub counter_names : HasPrintableNames counter
counter_names = All-from_recursion IsFree (pin_names counter) (not_numbered (codes "a") refl, (not_numbered (codes "y") refl, tt))

pub machine_valid : IsValid machine
machine_valid = record {
  name = small_letter 117 (omega arith, omega arith);
  names =
      All-from_recursion IsName (pin_names machine)
      (small_letter 97 (omega arith, omega arith), (small_letter 116 (omega arith, omega arith), (small_letter 121 (omega arith, omega arith), (small_letter 122 (omega arith, omega arith), tt))));
  distinct = (
    All-from_recursion (λ y. codes "a" ≢ y) (codes "t" ∷ codes "y" ∷ codes "z" ∷ []) (letters_differ 97 116 (omega arith), (letters_differ 97 121 (omega arith), (letters_differ 97 122 (omega arith), tt))),
    (
      All-from_recursion (λ y. codes "t" ≢ y) (codes "y" ∷ codes "z" ∷ []) (letters_differ 116 121 (omega arith), (letters_differ 116 122 (omega arith), tt)),
      (All-from_recursion (λ y. codes "y" ≢ y) (codes "z" ∷ []) (letters_differ 121 122 (omega arith), tt), (All-nil (λ x. codes "z" ≢ x), tt)),
    ),
  );
  inputs = All-from_recursion (λ (p : Pin). IsBetween 1 64 p.bits) machine.inputs ((omega arith, omega arith), ((omega arith, omega arith), tt));
  wires = (
    (omega arith, omega arith),
    ((λ c. c), (8, refl, omega arith, omega arith, refl)),
    (
      (omega arith, omega arith),
      (store, refl, record { bits = refl; wide = refl; port = (0, first_port, refl, refl) }),
      (
        (omega arith, omega arith),
        (refl, refl, refl),
        (
          (omega arith, omega arith),
          (refl, (2, refl)),
          (
            (omega arith, omega arith),
            (8, 8, refl, refl, refl),
            (
              (omega arith, omega arith),
              (refl, (omega arith, omega arith), omega arith),
              (
                (omega arith, omega arith),
                (refl, (128, refl, (refl, (omega arith, omega arith), omega arith))),
                ((omega arith, omega arith), refl, tt),
              ),
            ),
          ),
        ),
      ),
    ),
  );
  regs = All-from_recursion (RegisterFits (widths machine)) machine.regs (record { bits = (omega arith, omega arith); enable = refl; next = refl }, tt);
  mems = All-from_recursion (MemoryFits (widths machine)) machine.mems (memory_fits, tt);
  outputs =
      All-from_recursion (OutputFits (widths machine)) machine.outputs
      (record { bits = (omega arith, omega arith); from = refl }, (record { bits = (omega arith, omega arith); from = refl }, tt));
}
  where
    memory_fits : MemoryFits (widths machine) store
    memory_fits = record {
      bits = (omega arith, omega arith);
      depth = (omega arith, omega arith);
      some = omega arith;
      ports =
          All-from_recursion (PortFits (widths machine) store) store.ports (
            record { addr = refl; enable = refl; value = refl },
            (record { addr = (refl, (omega arith, omega arith), omega arith); enable = (refl, (omega arith, omega arith), omega arith); value = refl }, tt),
          );
    }

pub machine_names : HasPrintableNames machine
machine_names = All-from_recursion IsFree (pin_names machine) (not_numbered (codes "a") refl, (not_numbered (codes "t") refl, (not_numbered (codes "y") refl, (not_numbered (codes "z") refl, tt))))
