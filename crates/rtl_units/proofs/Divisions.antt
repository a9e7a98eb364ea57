-- The wires of a divider, part by part.
use Rattle.std.proofs.Common.{◌≡◌, ℕ, ◌+◌, List, [], ◌∷◌, ◌++◌, refl, sym, ap, ◌∙◌, append_assoc}
use Rattle.rtl_core.specs.declared.design.Atom.{Atom}
use Rattle.rtl_core.specs.declared.design.Atom.TheVariants as atom
use Rattle.rtl_core.specs.declared.design.Pair.TheVariants as pair
use Rattle.rtl_core.specs.declared.design.Net.TheVariants as net
use Rattle.rtl_core.specs.declared.design.Reg.{Reg}
use Rattle.rtl_core.specs.declared.design.Wire.{Wire}
use Rattle.rtl_core.specs.Netlist.{Netlist}
use Rattle.rtl_units.specs.declared.divider.Division.{Division}
use Rattle.rtl_units.specs.declared.divider.State.{State}
use Rattle.rtl_units.specs.declared.divider.Subtraction.{Subtraction}
use Rattle.rtl_units.specs.Fragments.{wire_of, up, grown}
use Rattle.rtl_units.specs.Division.{signs_wires, absolute_wires, take_wires, subtract_wires, subtraction_at, choose_wires, step_wires, divider_registers, divider_wires}

-- what is appended twice
joined : {X : Type 0} (first a b xs ys : List X) → a ≡ first ++ xs → b ≡ a ++ ys → b ≡ first ++ (xs ++ ys)
joined first a b xs ys e f = f ∙ (ap (λ l. l ++ ys) e ∙ append_assoc first xs ys)

pub step_joined : (n m bits : ℕ) (s : State) (x : Subtraction) (first a b : List Wire) → a ≡ first ++ subtract_wires n bits s → m ≡ up 5 n → x ≡ subtraction_at n
    → b ≡ a ++ choose_wires m bits s.dividend x → b ≡ first ++ step_wires n bits s
step_joined n m bits s x first a b e place is f =
    let chosen : choose_wires m bits s.dividend x ≡ choose_wires (up 5 n) bits s.dividend (subtraction_at n) =
    ap (λ k. choose_wires k bits s.dividend x) place ∙ ap (λ y. choose_wires (up 5 n) bits s.dividend y) is in
    joined first a b (subtract_wires n bits s) (choose_wires (up 5 n) bits s.dividend (subtraction_at n)) e (f ∙ ap (λ l. a ++ l) chosen)

-- the sign of the quotient
abbrev differ : Atom → Atom → List Wire
differ left right = wire_of 1 (net.Two pair.Xor left right) ∷ []

pub take_joined : (n m : ℕ) (d : Division) (left right : Atom) (first a b c : List Wire) → a ≡ first ++ signs_wires n d → m ≡ up 6 n → left ≡ atom.Wire (up 2 n)
    → right ≡ atom.Wire (up 5 n) → b ≡ a ++ absolute_wires m d left right → c ≡ b ++ differ left right → c ≡ first ++ take_wires n d
take_joined n m d left right first a b c e place is_left is_right f g =
    let l : Atom = atom.Wire (up 2 n) in
    let r : Atom = atom.Wire (up 5 n) in
    let values : absolute_wires m d left right ≡ absolute_wires (up 6 n) d l r =
    ap (λ k. absolute_wires k d left right) place ∙ (ap (λ x. absolute_wires (up 6 n) d x right) is_left ∙ ap (λ y. absolute_wires (up 6 n) d l y) is_right) in
    let sign : differ left right ≡ differ l r = ap (λ x. differ x right) is_left ∙ ap (λ y. differ l y) is_right in
    let behind : c ≡ a ++ (absolute_wires (up 6 n) d l r ++ differ l r) =
    joined a b c (absolute_wires (up 6 n) d l r) (differ l r) (f ∙ ap (λ x. a ++ x) values) (g ∙ ap (λ x. b ++ x) sign) in
    joined first a c (signs_wires n d) (absolute_wires (up 6 n) d l r ++ differ l r) e behind

-- a divider is appended, the registers numbered from r on and the wires from n on
pub divider_grown : (d e : Netlist) (x : Division) (r n first next : ℕ) (regs : List Reg) (wires : List Wire) → first ≡ r → next ≡ n → regs ≡ divider_registers next x
    → wires ≡ divider_wires first next x → e ≡ grown d regs [] wires → e ≡ grown d (divider_registers n x) [] (divider_wires r n x)
divider_grown d e x r n first next regs wires is_first is_next f g h =
    h
    ∙ (ap (λ l. grown d l [] wires) (f ∙ ap (λ k. divider_registers k x) is_next)
    ∙ ap (λ l. grown d (divider_registers n x) [] l) (g ∙ (ap (λ k. divider_wires k next x) is_first ∙ ap (λ k. divider_wires r k x) is_next)))
