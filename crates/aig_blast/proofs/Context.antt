-- What is known of the literals of an atom.
use Rattle.std.proofs.Common.{◌≡◌, ◌<◌, ◌^◌, ℕ, inl, inr, Bool, List, [], map, length, get_or, sym, ap, ◌∙◌, subst}
use Rattle.std.specs.List.{All}
use Rattle.std.specs.Prelude.{slice_get, Some}
use Rattle.std.proofs.lemmas.Bool.{cases_lt}
use Rattle.std.proofs.lemmas.List.{get_or_past}
use Rattle.std.proofs.lemmas.List.Elements.{All-nil}
use Rattle.std.proofs.lemmas.Option.{get_or_from_slice_get}
use Rattle.std.proofs.Math.ListN.{get_or-map}
use Rattle.std.proofs.Math.Nat.{mod-eq_of_lt}
use Rattle.aig_graph.specs.Making.{Gates, IsLiteral}
use Rattle.aig_graph.specs.Words.{worded, numbers, word_at, bits}
use Rattle.aig_graph.proofs.Making.{Constants}
use Rattle.aig_graph.proofs.Constants.{constant_length, constant_fits, number_constant}
use Rattle.rtl_core.specs.declared.design.Atom.{Atom}
use Rattle.rtl_core.specs.declared.design.Atom.TheVariants as atom
use Rattle.rtl_core.specs.declared.design.Wire.{Wire}
use Rattle.rtl_core.specs.Netlist.{Netlist}
use Rattle.rtl_core.specs.ClockStep.{Widths, widths_after, value_of}
use Rattle.rtl_core.specs.Valid.{HasBits}
use Rattle.aig_blast.specs.declared.literals.Literals.{Literals}
use Rattle.aig_blast.specs.Literals.{literals_of, shown, pins_shown, AreShaped, AreOf}

word_length : (lss : List (List ℕ)) (ws : List ℕ) (k n : ℕ) → map length lss ≡ ws → slice_get ws k ≡ Some n → length (word_at lss k) ≡ n
word_length lss ws k n e h = sym (get_or-map length lss k []) ∙ (ap (λ z. get_or z k 0) e ∙ get_or_from_slice_get ws k n 0 h)

pub atom_length : (d : Netlist) (ws : List Wire) (t : Literals) → AreShaped d ws t → (n : ℕ) (a : Atom) → HasBits (widths_after d ws) n a → length (literals_of t a) ≡ n
atom_length d ws t s n (atom.Constant bits value) h = constant_length bits value ∙ h.0
atom_length d ws t s n (atom.Input k) h = word_length t.inputs.items (widths_after d ws).inputs k n s.inputs h
atom_length d ws t s n (atom.Reg k) h = word_length t.regs.items (widths_after d ws).regs k n s.regs h
atom_length d ws t s n (atom.Wire k) h = word_length t.wires.items (widths_after d ws).wires k n s.wires h

word_fits : (e : Gates) (lss : List (List ℕ)) (k : ℕ) → All (All (IsLiteral e)) lss → All (IsLiteral e) (word_at lss k)
word_fits e lss k h = elim (cases_lt k (length lss)) [
  | inl lt ↦ h k [] lt
  | inr le ↦ subst (All (IsLiteral e)) (sym (get_or_past lss k [] le)) (All-nil (IsLiteral e))
]

pub atom_fits : (e : Gates) (t : Literals) → AreOf e t → (a : Atom) → All (IsLiteral e) (literals_of t a)
atom_fits e t h (atom.Constant bits value) = constant_fits e bits value
atom_fits e t h (atom.Input k) = word_fits e t.inputs.items k h.inputs
atom_fits e t h (atom.Reg k) = word_fits e t.regs.items k h.regs
atom_fits e t h (atom.Wire k) = word_fits e t.wires.items k h.wires

-- the literals show the value of the atom over what all literals show
pub atom_value : (w : List Bool) (k : Constants w) (t : Literals) (v : Widths) (n : ℕ) (a : Atom) → HasBits v n a → shown t w a ≡ value_of (pins_shown t w) (numbers w t.regs.items) (numbers w t.wires.items) a
atom_value w c t v n (atom.Constant bits value) h = number_constant w bits value c ∙ mod-eq_of_lt (subst (λ z. value < 2 ^ z) (sym h.0) h.2)
atom_value w c t v n (atom.Input k) h = sym (get_or-map (worded w) t.inputs.items k [])
atom_value w c t v n (atom.Reg k) h = sym (get_or-map (worded w) t.regs.items k [])
atom_value w c t v n (atom.Wire k) h = sym (get_or-map (worded w) t.wires.items k [])
