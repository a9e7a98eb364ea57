-- Worked examples: the counter of nine lines, and texts that are refused.
use Rattle.std.proofs.Common.{◌≡◌, inl, inr, ℕ, zero, suc, get_or, subst, ◌<◌, List, [], ◌∷◌, ◌++◌, length, map, codes, Some, None, refl, sym, arith}
use Rattle.std.specs.List.{Contains}
use Rattle.hls_base.specs.declared.place.Place.{Place}
use Rattle.hls_base.specs.declared.refusal.Refusal.{Refusal}
use Rattle.rtl_core.specs.declared.design.Pair.TheVariants as pair
use Rattle.rtl_core.specs.ModuleTokens.{Token}
use Rattle.rtl_core.specs.ModuleSyntax.{Named, Fixed, syntax_tokens}
use Rattle.rtl_core.proofs.Examples.{counter}
use Rattle.rtl_core.proofs.CounterText.{counter_syntax}
use Rattle.verilog_syntax.specs.declared.form.Form.TheVariants as f
use Rattle.verilog_syntax.specs.declared.form.Form.{Form}
use Rattle.hls_base.specs.TextPlaces.{text_start, place_after}
use Rattle.verilog_read.specs.Numbers.{declared_bits, depth_of}
use Rattle.verilog_syntax.specs.Lexemes.{over}
use Rattle.verilog_syntax.specs.Forms.{FitsAll, classes_of, IsModule}
use Rattle.verilog_syntax.specs.PlacedSyntax.{PlacedName, PlacedOperand, between, PlacedWire, Drive, register, PlacedModule}
use Rattle.verilog_syntax.specs.Marks.{module_marks}
use Rattle.verilog_read.specs.Earliest.{first_fault}
use Rattle.verilog_read.specs.Faults.{module_faults}
use Rattle.verilog_read.specs.Circuit.{circuit_of}
use Rattle.verilog_syntax.specs.TextSyntax.{limit, unknown, early}
use Rattle.verilog_read.specs.TextFaults.{IsFirstFault, too_long, at_front}
use Rattle.verilog_syntax.proofs.Pieces.{nothing_first}
use Rattle.verilog_syntax.proofs.Runs.{opened}
use Rattle.verilog_syntax.proofs.Reading.{finish}
use Rattle.verilog_syntax.proofs.Unplaced.{syntax_of, mark_token}

abbrev place : ℕ → ℕ → Place
place line column = record { line = line; column = column; part = 0 }

abbrev name : ℕ → ℕ → List ℕ → PlacedName
name line column text = record { text = text; place = place line column }

abbrev operand : ℕ → ℕ → List ℕ → PlacedOperand
operand line column text = record { operand = Named text; place = place line column }

abbrev refusal : ℕ → ℕ → ℕ → Refusal
refusal rule line column = record { rule = rule; place = place line column }

-- ---- places

two_lines : place_after text_start (codes "input a;" ++ (10 ∷ codes "ab")) ≡ place 2 3
two_lines = refl

-- ---- numbers

wide : declared_bits (codes "7") ≡ 8
wide = refl

too_wide : declared_bits (codes "99999999999999999999") ≡ 129
too_wide = refl

deep : depth_of (codes "1023") ≡ Some 10
deep = refl

no_depth : depth_of (codes "2") ≡ None
no_depth = refl

-- ---- the counter

abbrev counter_wire : PlacedWire
counter_wire = record { high = codes "3"; name = name 6 12 (codes "w0"); net = between pair.Add (operand 6 17 (codes "r0")) (operand 6 22 (codes "a")); place = place 6 17 }

abbrev counter_edge : ℕ → Drive
counter_edge line = register (record { operand = Fixed 1 1; place = place line 27 }) (name line 33 (codes "r0")) (operand line 39 (codes "w0"))

abbrev counter_module : PlacedModule
counter_module = record {
  name = name 1 8 (codes "t");
  header = name 1 16 (codes "a") ∷ name 1 19 (codes "y") ∷ [];
  inputs = record { high = codes "3"; name = name 3 13 (codes "a") } ∷ [];
  outputs = record { high = codes "3"; name = name 4 14 (codes "y") } ∷ [];
  regs = record { high = codes "3"; name = name 5 11 (codes "r0") } ∷ [];
  mems = [];
  wires = counter_wire ∷ [];
  assigns = record { name = name 7 8 (codes "y"); from = operand 7 12 (codes "r0") } ∷ [];
  drives = counter_edge 8 ∷ [];
}

says_the_syntax : syntax_of counter_module ≡ counter_syntax
says_the_syntax = refl

has_the_tokens : map mark_token (module_marks counter_module) ≡ syntax_tokens counter_syntax
has_the_tokens = refl

is_the_counter : circuit_of counter_module ≡ counter
is_the_counter = refl

has_no_fault : first_fault (module_faults counter_module) ≡ None
has_no_fault = refl

-- ---- one text for each rule

-- rule 50: no token begins with `#`
number_sign : IsFirstFault (codes "#") (refusal 50 1 1)
number_sign =
    at_front (refusal 50 1 1) (omega arith)
    (unknown [] (codes "#") text_start (over (codes "#") text_start) (nothing_first (codes "#") (omega arith) refl refl refl (λ e. absurd (omega (arith, e))) (λ more. absurd (omega (arith, more))) refl) (finish f.Start))

-- rule 51: the empty text ends too early
empty_text : IsFirstFault [] (refusal 51 1 1)
empty_text = at_front (refusal 51 1 1) (omega arith) (early [] text_start (over [] text_start) (finish f.Start) no_module)
  where
    no_end : f.Start ≡ f.ModuleEnd → ⊥
    no_end e = absurd cc

    only : (x : Form) → Contains (f.Head ∷ []) x → x ≡ f.Head
    only x (i, low, is) = first i low is
      where
        first : (i : ℕ) → i < 1 → get_or (f.Head ∷ []) i x ≡ x → x ≡ f.Head
        first zero low is = sym is
        first (suc i) low is = absurd (omega (arith, low))

    no_first : (next : Form) (taken rest : List Token) → [] ≡ taken ++ rest → next ≡ f.Head → FitsAll (classes_of next) taken → ⊥
    no_first next (t ∷ ts) rest e is fits = absurd cc
    no_first next [] rest e is fits = subst (λ x. FitsAll (classes_of x) []) is fits

    no_module : ¬ IsModule []
    no_module h = elim (opened f.Start [] h) [
      | inl e ↦ absurd (no_end e.0)
      | inr s ↦ no_first s.next s.taken s.rest s.whole (only s.next s.may) s.fits
    ]

-- rule 52: the wire is not declared
without_wire : first_fault (module_faults (record counter_module { wires = [] })) ≡ Some (refusal 52 8 39)
without_wire = refl

-- rule 53: a wire of three bits has a sum of four
narrow_wire : first_fault (module_faults (record counter_module { wires = record counter_wire { high = codes "2" } ∷ [] })) ≡ Some (refusal 53 6 17)
narrow_wire = refl

-- rule 54: the register is assigned in two blocks
two_blocks : first_fault (module_faults (record counter_module { drives = counter_edge 8 ∷ counter_edge 9 ∷ [] })) ≡ Some (refusal 54 9 33)
two_blocks = refl

-- rule 55: the wire is used in its own declaration
own_wire : first_fault (module_faults (record counter_module { wires = record counter_wire { net = between pair.Add (operand 6 17 (codes "w0")) (operand 6 22 (codes "a")) } ∷ [] })) ≡ Some (refusal 55 6 17)
own_wire = refl

-- rule 56: more bytes than a text may have
many_bytes : (bytes : List ℕ) → limit < length bytes → IsFirstFault bytes (refusal 56 1 1)
many_bytes bytes h = too_long h
