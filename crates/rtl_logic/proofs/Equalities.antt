-- Wires that a comparison finds equal are the same.
use Rattle.std.proofs.Common.{◌≡◌, ℕ, Bool, true, false, ◌&&◌, refl, ap, Option, Some, None}
use Rattle.std.specs.Prelude.{◌==◌}
use Rattle.std.specs.Option.{option_eq}
use Rattle.std.proofs.lemmas.Bool.{false≢true}
use Rattle.std.proofs.lemmas.Bool.Decides.{Decides-eqb}
use Rattle.rtl_core.specs.declared.design.Atom.{Atom}
use Rattle.rtl_core.specs.declared.design.Atom.TheVariants as atom
use Rattle.rtl_core.specs.declared.design.Pair.{Pair}
use Rattle.rtl_core.specs.declared.design.Pair.TheVariants as pair
use Rattle.rtl_core.specs.declared.design.Net.{Net}
use Rattle.rtl_core.specs.declared.design.Net.TheVariants as net
use Rattle.rtl_core.specs.declared.design.Wire.{Wire}
use Rattle.rtl_core.specs.contracts.design.AtomPartialEq.TheImpl as atom_impl
use Rattle.rtl_core.specs.contracts.design.PairPartialEq.TheImpl as pair_impl
use Rattle.rtl_core.specs.contracts.design.NetPartialEq.TheImpl as net_impl
use Rattle.rtl_core.specs.contracts.design.WirePartialEq.TheImpl as wire_impl

pub first : (a b : Bool) → (a && b) ≡ true → a ≡ true
first true b e = refl
first false b e = e

pub second : (a b : Bool) → (a && b) ≡ true → b ≡ true
second true b e = e
second false b e = absurd (false≢true e)

number_same : (x y : ℕ) → (x == y) ≡ true → x ≡ y
number_same x y e = (Decides-eqb x y).0 e

abbrev pub atom_eq : Atom → Atom → Bool
atom_eq = atom_impl.eq-value.it

pub atom_same : (x y : Atom) → atom_eq x y ≡ true → x ≡ y
atom_same (atom.Constant a v) (atom.Constant b w) e =
    let p = number_same a b (first (a == b) (v == w) e) in let q = number_same v w (second (a == b) (v == w) e) in λ i. atom.Constant (p i) (q i)
atom_same (atom.Input x) (atom.Input y) e = ap (λ n. atom.Input n) (number_same x y e)
atom_same (atom.Reg x) (atom.Reg y) e = ap (λ n. atom.Reg n) (number_same x y e)
atom_same (atom.Wire x) (atom.Wire y) e = ap (λ n. atom.Wire n) (number_same x y e)
atom_same x y e = absurd (false≢true e)

abbrev pub pair_eq : Pair → Pair → Bool
pair_eq = pair_impl.eq-value.it

pair_same : (x y : Pair) → pair_eq x y ≡ true → x ≡ y
pair_same pair.Add pair.Add e = refl
pair_same pair.Sub pair.Sub e = refl
pair_same pair.Mul pair.Mul e = refl
pair_same pair.And pair.And e = refl
pair_same pair.Or pair.Or e = refl
pair_same pair.Xor pair.Xor e = refl
pair_same pair.Equal pair.Equal e = refl
pair_same pair.Below pair.Below e = refl
pair_same pair.Left pair.Left e = refl
pair_same pair.Right pair.Right e = refl
pair_same x y e = absurd (false≢true e)

abbrev pub net_eq : Net → Net → Bool
net_eq = net_impl.eq-value.it

pub net_same : (x y : Net) → net_eq x y ≡ true → x ≡ y
net_same (net.Copy a) (net.Copy b) e = ap (λ x. net.Copy x) (atom_same a b e)
net_same (net.Not a) (net.Not b) e = ap (λ x. net.Not x) (atom_same a b e)
net_same (net.Two op a b) (net.Two op2 c d) e =
    let rest = second (pair_eq op op2) (atom_eq a c && atom_eq b d) e in
    let o = pair_same op op2 (first (pair_eq op op2) (atom_eq a c && atom_eq b d) e) in
    let p = atom_same a c (first (atom_eq a c) (atom_eq b d) rest) in
    let q = atom_same b d (second (atom_eq a c) (atom_eq b d) rest) in
    λ i. net.Two (o i) (p i) (q i)
net_same (net.Pick t a b) (net.Pick u c d) e =
    let rest = second (atom_eq t u) (atom_eq a c && atom_eq b d) e in
    let o = atom_same t u (first (atom_eq t u) (atom_eq a c && atom_eq b d) e) in
    let p = atom_same a c (first (atom_eq a c) (atom_eq b d) rest) in
    let q = atom_same b d (second (atom_eq a c) (atom_eq b d) rest) in
    λ i. net.Pick (o i) (p i) (q i)
net_same (net.Join a b) (net.Join c d) e =
    let p = atom_same a c (first (atom_eq a c) (atom_eq b d) e) in let q = atom_same b d (second (atom_eq a c) (atom_eq b d) e) in λ i. net.Join (p i) (q i)
net_same (net.Part a high low) (net.Part b high2 low2) e =
    let rest = second (atom_eq a b) ((high == high2) && (low == low2)) e in
    let o = atom_same a b (first (atom_eq a b) ((high == high2) && (low == low2)) e) in
    let p = number_same high high2 (first (high == high2) (low == low2) rest) in
    let q = number_same low low2 (second (high == high2) (low == low2) rest) in
    λ i. net.Part (o i) (p i) (q i)
net_same (net.Word m a) (net.Word n b) e =
    let p = number_same m n (first (m == n) (atom_eq a b) e) in let q = atom_same a b (second (m == n) (atom_eq a b) e) in λ i. net.Word (p i) (q i)
net_same x y e = absurd (false≢true e)

pub wire_same : (x y : Wire) → wire_impl.eq-value.it x y ≡ true → x ≡ y
wire_same x y e =
    let p = number_same x.bits y.bits (first (x.bits == y.bits) (net_eq x.net y.net) e) in
    let q = net_same x.net y.net (second (x.bits == y.bits) (net_eq x.net y.net) e) in
    λ i. record { bits = p i; net = q i }

pub some_net_same : (x : Option Net) (y : Net) → option_eq net_eq x (Some y) ≡ true → x ≡ Some y
some_net_same None y e = absurd (false≢true e)
some_net_same (Some x) y e = ap (λ n. Some n) (net_same x y e)
