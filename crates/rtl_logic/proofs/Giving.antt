-- What the wires of each kind of operation show.
use Rattle.std.proofs.Common.{◌≡◌, ◌≤◌, ◌-◌, ◌%◌, ◌^◌, ℕ, Bool, [], ◌∷◌, sym, ap, ◌∙◌}
use Rattle.std.specs.Prelude.{◌==◌, nat_eq, if◌then◌else◌}
use Rattle.std.proofs.Math.Nat.{zero-mod}
use Rattle.ir_core.specs.declared.body.OpKind.{OpKind}
use Rattle.ir_core.specs.Timing.{result_bits}
use Rattle.ir_core.specs.Value.{value, truth, chosen, shifted_left}
use Rattle.ir_core.specs.declared.body.OpKind.TheVariants as o
use Rattle.rtl_core.specs.declared.design.Atom.{Atom}
use Rattle.rtl_core.specs.declared.design.Atom.TheVariants as atom
use Rattle.rtl_core.specs.declared.design.Pair.TheVariants as pair
use Rattle.rtl_core.specs.Netlist.{Netlist}
use Rattle.rtl_core.specs.ClockStep.{bit_of, pair_value, widths, seen}
use Rattle.rtl_core.specs.Valid.{HasBits}
use Rattle.rtl_logic.specs.Making.{IsSound, Makes}
use Rattle.rtl_logic.proofs.Showing.{there, bound, follows_here}
use Rattle.rtl_logic.specs.declared.operations.Arguments.{Arguments}
use Rattle.rtl_logic.proofs.Patterns.{natural, itself, negation, complement}
use Rattle.rtl_logic.proofs.Shifting.{left_is}
use Rattle.rtl_logic.proofs.Comparing.{bit_truth, chosen_is}

-- the atom has what an operation of this kind gives
abbrev pub Gives : Netlist → Netlist → Bool → ℕ → ℕ → Arguments → OpKind → Atom → Type 0
Gives d e signed bits from of kind a = Makes d e (result_bits kind bits) a (λ v x. x ≡ value kind signed bits from (v of.first ∷ v of.second ∷ v of.third ∷ []))

module _ (d e : Netlist) (signed : Bool) (n from : ℕ) (of : Arguments) (a : Atom) (h : n ≤ 64) where
  pub left_given : Makes d e n a (λ v x. x ≡ pair_value pair.Left n (v of.first) (v of.second)) → Gives d e signed n from of o.Shl a
  left_given made = follows_here d e n a (λ v x. x ≡ pair_value pair.Left n (v of.first) (v of.second)) (λ v x. x ≡ shifted_left n (v of.first) (v of.second)) (λ y c s pins x se st are k.
      let v = seen c s pins in k ∙ left_is n (v of.first) (v of.second) h) made

  pub equal_given : Makes d e 1 a (λ v x. x ≡ bit_of (v of.first == v of.second)) → Gives d e signed n from of o.Eq a
  equal_given made = follows_here d e 1 a (λ v x. x ≡ bit_of (v of.first == v of.second)) (λ v x. x ≡ truth (nat_eq (v of.first) (v of.second))) (λ y c s pins x se st are k.
      let v = seen c s pins in k ∙ bit_truth (nat_eq (v of.first) (v of.second))) made

  pub not_given : HasBits (widths d) n of.first → Makes d e n a (λ v x. x ≡ 2 ^ n - 1 - v of.first) → Gives d e signed n from of o.Not a
  not_given fits made = follows_here d e n a (λ v x. x ≡ 2 ^ n - 1 - v of.first) (λ v x. x ≡ value o.Not signed n from (v of.first ∷ v of.second ∷ v of.third ∷ [])) (λ y c s pins x se st are k.
      k ∙ sym (complement n (seen c s pins of.first) h (bound d n of.first fits c s pins x se st are))) made

  pub negative_given : (zero_ : Atom) → zero_ ≡ atom.Constant n (0 % 2 ^ n) → HasBits (widths d) n of.first → Makes d e n a (λ v x. x ≡ pair_value pair.Sub n (v zero_) (v of.first)) → Gives d e signed n from of o.Neg a
  negative_given zero_ is fits made = follows_here d e n a (λ v x. x ≡ pair_value pair.Sub n (v zero_) (v of.first)) (λ v x. x ≡ value o.Neg signed n from (v of.first ∷ v of.second ∷ v of.third ∷ [])) (λ y c s pins x se st are k.
      let v = seen c s pins in
      k ∙ ap (λ m. pair_value pair.Sub n m (v of.first)) (ap v is ∙ zero-mod (2 ^ n)) ∙ sym (negation n (v of.first) h (bound d n of.first fits c s pins x se st are))) made

  pub chosen_given : HasBits (widths d) 1 of.first → HasBits (widths d) n of.second → HasBits (widths d) n of.third → Makes d e n a (λ v x. x ≡ (if v of.first == 1 then v of.second else v of.third))
      → Gives d e signed n from of o.Select a
  chosen_given t f g made = follows_here d e n a (λ v x. x ≡ (if v of.first == 1 then v of.second else v of.third)) (λ v x. x ≡ chosen n (v of.first) (v of.second) (v of.third)) (λ y c s pins x se st are k.
      let v = seen c s pins in
      k ∙ chosen_is n (v of.first) (v of.second) (v of.third) h (bound d 1 of.first t c s pins x se st are) (bound d n of.second f c s pins x se st are) (bound d n of.third g c s pins x se st are)) made

  pub narrow_given : Makes d e n a (λ v x. x ≡ v of.first % 2 ^ n) → Gives d e signed n from of o.Narrow a
  narrow_given made = follows_here d e n a (λ v x. x ≡ v of.first % 2 ^ n) (λ v x. x ≡ value o.Narrow signed n from (v of.first ∷ v of.second ∷ v of.third ∷ [])) (λ y c s pins x se st are k.
      k ∙ sym (natural n (seen c s pins of.first) h)) made

pub copy_given : (d : Netlist) (signed : Bool) (n from : ℕ) (of : Arguments) → n ≤ 64 → IsSound d → HasBits (widths d) n of.first → Gives d d signed n from of o.Copy of.first
copy_given d signed n from of h sound fits = there d n of.first (λ v x. x ≡ value o.Copy signed n from (v of.first ∷ v of.second ∷ v of.third ∷ [])) sound fits (λ c s pins x se st are.
    sym (itself n (seen c s pins of.first) h (bound d n of.first fits c s pins x se st are)))
