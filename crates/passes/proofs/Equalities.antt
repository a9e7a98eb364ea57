-- What a comparison finds equal is the same.
use Rattle.std.proofs.Common.{◌≡◌, ◌∙◌, ℕ, ◌⊎◌, inl, inr, ⊎_elim, refl, ap, sym, subst, Bool, true, false, ◌&&◌, Option, Some, None}
use Rattle.ir_core.specs.declared.body.Simple.{Simple}
use Rattle.ir_core.specs.declared.body.Source.{Source}
use Rattle.ir_core.specs.declared.body.Operand.{Operand}
use Rattle.std.specs.Prelude.{nat_eq, ◌==◌, slice_get}
use Rattle.std.specs.Option.{option_eq}
use Rattle.std.specs.Bool.{beq}
use Rattle.std.specs.Cmp.{booleans_Decides}
use Rattle.std.proofs.lemmas.Bool.Decides.{Decides-eqb}
use Rattle.ir_core.specs.declared.body.Simple.TheVariants as s
use Rattle.ir_core.specs.declared.body.Pairing.{Pairing}
use Rattle.ir_core.specs.declared.body.OpKind.{OpKind}
use Rattle.ir_core.specs.declared.body.OpKind.TheVariants as o
use Rattle.ir_core.specs.declared.body.Source.TheVariants as source
use Rattle.ir_core.specs.contracts.body.SimplePartialEq.TheImpl as simple_impl
use Rattle.ir_core.specs.contracts.body.PairingPartialEq.TheImpl as pairing_impl
use Rattle.ir_core.specs.contracts.body.SourcePartialEq.TheImpl as source_impl
use Rattle.ir_core.specs.Bodies.{OpTree}
use Rattle.passes.specs.Numbering.Equal.{kind_eq, operand_eq, has_same, is_equal}

pub false_true : {A : Type 0} → false ≡ true → A
false_true e = cc

pub first : (a b : Bool) → (a && b) ≡ true → a ≡ true
first true b e = refl
first false b e = e

pub second : (a b : Bool) → (a && b) ≡ true → b ≡ true
second true b e = e
second false b e = false_true e

abbrev pub Sound : {A : Type 0} → (A → A → Bool) → Type 0
Sound {A} E = (x y : A) → E x y ≡ true → x ≡ y

pub number_same : Sound nat_eq
number_same x y e = (Decides-eqb x y).0 e

bool_same : Sound beq
bool_same x y e = (booleans_Decides x y).0 e

pub option_same : {A : Type 0} (E : A → A → Bool) → Sound E → Sound (option_eq E)
option_same E s None None e = refl
option_same E s None (Some y) e = false_true e
option_same E s (Some x) None e = false_true e
option_same E s (Some x) (Some y) e = ap (λ z. Some z) (s x y e)

-- ---- kinds

simple_same : Sound simple_impl.eq-value.it
simple_same s.Add s.Add e = refl
simple_same s.Sub s.Sub e = refl
simple_same s.And s.And e = refl
simple_same s.Or s.Or e = refl
simple_same s.Xor s.Xor e = refl
simple_same x y e = false_true e

pairing_same : Sound pairing_impl.eq-value.it
pairing_same x y e =
    let e1 = first (simple_impl.eq-value.it x.first y.first) (simple_impl.eq-value.it x.second y.second && beq x.left y.left) e in
    let e2 = second (simple_impl.eq-value.it x.first y.first) (simple_impl.eq-value.it x.second y.second && beq x.left y.left) e in
    let p1 = simple_same x.first y.first e1 in
    let p2 = simple_same x.second y.second (first (simple_impl.eq-value.it x.second y.second) (beq x.left y.left) e2) in
    let p3 = bool_same x.left y.left (second (simple_impl.eq-value.it x.second y.second) (beq x.left y.left) e2) in
    λ i. record { first = p1 i; second = p2 i; left = p3 i }

-- one of two
abbrev sides : {A B : Type 0} → (A → A → Bool) → (B → B → Bool) → A ⊎ B → A ⊎ B → Bool
sides E F c d = ⊎_elim (λ x. ⊎_elim (λ y. E x y) (λ y. false) d) (λ x. ⊎_elim (λ y. false) (λ y. F x y) d) c

sides_same : {A B : Type 0} {E : A → A → Bool} {F : B → B → Bool} → Sound E → Sound F → Sound (sides E F)
sides_same h k (inl x) (inl y) e = ap inl (h x y e)
sides_same h k (inl x) (inr y) e = false_true e
sides_same h k (inr x) (inl y) e = false_true e
sides_same h k (inr x) (inr y) e = ap inr (k x y e)

abbrev Unit_or : Type 0 → Type 0
Unit_or A = Unit {0} ⊎ A

unit_or : {A : Type 0} {F : A → A → Bool} → Sound F → Sound (sides (λ (x y : Unit {0}). true) F)
unit_or h = sides_same (λ x y e. refl) h

-- the kinds, one beside another
abbrev Kinds : Type 0
Kinds = Unit_or (Unit_or (Unit_or (Unit_or (Unit_or (Unit_or (Unit_or (Unit_or (Unit_or (Unit_or (Unit_or (Unit_or (Unit_or (Unit_or (Unit_or (Unit_or (Unit_or (Unit_or (Unit_or (Unit_or (Unit_or (Unit_or (Unit_or ((Pairing × Unit {0}) ⊎ ⊥)))))))))))))))))))))))

abbrev side_of : OpKind → Kinds
side_of o.Add = inl tt
side_of o.Sub = inr (inl tt)
side_of o.Mul = inr (inr (inl tt))
side_of o.Div = inr (inr (inr (inl tt)))
side_of o.Rem = inr (inr (inr (inr (inl tt))))
side_of o.And = inr (inr (inr (inr (inr (inl tt)))))
side_of o.Or = inr (inr (inr (inr (inr (inr (inl tt))))))
side_of o.Xor = inr (inr (inr (inr (inr (inr (inr (inl tt)))))))
side_of o.Shl = inr (inr (inr (inr (inr (inr (inr (inr (inl tt))))))))
side_of o.Shr = inr (inr (inr (inr (inr (inr (inr (inr (inr (inl tt)))))))))
side_of o.Eq = inr (inr (inr (inr (inr (inr (inr (inr (inr (inr (inl tt))))))))))
side_of o.Ne = inr (inr (inr (inr (inr (inr (inr (inr (inr (inr (inr (inl tt)))))))))))
side_of o.Lt = inr (inr (inr (inr (inr (inr (inr (inr (inr (inr (inr (inr (inl tt))))))))))))
side_of o.Le = inr (inr (inr (inr (inr (inr (inr (inr (inr (inr (inr (inr (inr (inl tt)))))))))))))
side_of o.Not = inr (inr (inr (inr (inr (inr (inr (inr (inr (inr (inr (inr (inr (inr (inl tt))))))))))))))
side_of o.Neg = inr (inr (inr (inr (inr (inr (inr (inr (inr (inr (inr (inr (inr (inr (inr (inl tt)))))))))))))))
side_of o.Select = inr (inr (inr (inr (inr (inr (inr (inr (inr (inr (inr (inr (inr (inr (inr (inr (inl tt))))))))))))))))
side_of o.Widen = inr (inr (inr (inr (inr (inr (inr (inr (inr (inr (inr (inr (inr (inr (inr (inr (inr (inl tt)))))))))))))))))
side_of o.Narrow = inr (inr (inr (inr (inr (inr (inr (inr (inr (inr (inr (inr (inr (inr (inr (inr (inr (inr (inl tt))))))))))))))))))
side_of o.Truth = inr (inr (inr (inr (inr (inr (inr (inr (inr (inr (inr (inr (inr (inr (inr (inr (inr (inr (inr (inl tt)))))))))))))))))))
side_of o.Copy = inr (inr (inr (inr (inr (inr (inr (inr (inr (inr (inr (inr (inr (inr (inr (inr (inr (inr (inr (inr (inl tt))))))))))))))))))))
side_of o.Load = inr (inr (inr (inr (inr (inr (inr (inr (inr (inr (inr (inr (inr (inr (inr (inr (inr (inr (inr (inr (inr (inl tt)))))))))))))))))))))
side_of o.Store = inr (inr (inr (inr (inr (inr (inr (inr (inr (inr (inr (inr (inr (inr (inr (inr (inr (inr (inr (inr (inr (inr (inl tt))))))))))))))))))))))
side_of (o.Fused p) = inr (inr (inr (inr (inr (inr (inr (inr (inr (inr (inr (inr (inr (inr (inr (inr (inr (inr (inr (inr (inr (inr (inr (inl (p, tt))))))))))))))))))))))))

abbrev kind_at : Kinds → OpKind
kind_at k = ⊎_elim (λ u. o.Add) (⊎_elim (λ u. o.Sub) (⊎_elim (λ u. o.Mul) (⊎_elim (λ u. o.Div) (⊎_elim (λ u. o.Rem) (⊎_elim (λ u. o.And) (⊎_elim (λ u. o.Or) (⊎_elim (λ u. o.Xor) (⊎_elim (λ u. o.Shl) (⊎_elim (λ u. o.Shr) (⊎_elim (λ u. o.Eq) (⊎_elim (λ u. o.Ne) (⊎_elim (λ u. o.Lt) (⊎_elim (λ u. o.Le) (⊎_elim (λ u. o.Not) (⊎_elim (λ u. o.Neg) (⊎_elim (λ u. o.Select) (⊎_elim (λ u. o.Widen) (⊎_elim (λ u. o.Narrow) (⊎_elim (λ u. o.Truth) (⊎_elim (λ u. o.Copy) (⊎_elim (λ u. o.Load) (⊎_elim (λ u. o.Store) (⊎_elim (λ p. o.Fused p.0) absurd))))))))))))))))))))))) k

kind_back : (x : OpKind) → kind_at (side_of x) ≡ x
kind_back o.Add = refl
kind_back o.Sub = refl
kind_back o.Mul = refl
kind_back o.Div = refl
kind_back o.Rem = refl
kind_back o.And = refl
kind_back o.Or = refl
kind_back o.Xor = refl
kind_back o.Shl = refl
kind_back o.Shr = refl
kind_back o.Eq = refl
kind_back o.Ne = refl
kind_back o.Lt = refl
kind_back o.Le = refl
kind_back o.Not = refl
kind_back o.Neg = refl
kind_back o.Select = refl
kind_back o.Widen = refl
kind_back o.Narrow = refl
kind_back o.Truth = refl
kind_back o.Copy = refl
kind_back o.Load = refl
kind_back o.Store = refl
kind_back (o.Fused p) = refl

kinds_same : (x y : OpKind) → kind_eq x y ≡ true → side_of x ≡ side_of y
kinds_same x y e = unit_or (unit_or (unit_or (unit_or (unit_or (unit_or (unit_or (unit_or (unit_or (unit_or (unit_or (unit_or (unit_or (unit_or (unit_or (unit_or (unit_or (unit_or (unit_or (unit_or (unit_or (unit_or (unit_or (sides_same (λ p q e1 i. (pairing_same p.0 q.0 e1 i, tt)) (λ p q e1. absurd p)))))))))))))))))))))))) (side_of x) (side_of y) e

pub kind_same : Sound kind_eq
kind_same x y e = sym (kind_back x) ∙ ap kind_at (kinds_same x y e) ∙ kind_back y

-- ---- operands

source_same : Sound source_impl.eq-value.it
source_same (source.Constant x) (source.Constant y) e = ap (λ n. source.Constant n) (number_same x y e)
source_same (source.Variable x) (source.Variable y) e = let p = number_same x.0 y.0 e in λ i. source.Variable (record { 0 = p i })
source_same (source.Result x) (source.Result y) e = let p = number_same x.0 y.0 e in λ i. source.Result (record { 0 = p i })
source_same x y e = false_true e

pub operand_same : Sound operand_eq
operand_same x y e =
    let p = source_same x.value y.value (first (source_impl.eq-value.it x.value y.value) (x.distance == y.distance) e) in
    let q = number_same x.distance y.distance (second (source_impl.eq-value.it x.value y.value) (x.distance == y.distance) e) in
    λ i. record { value = p i; distance = q i }

-- ---- operations

-- of the same kind, sign and width, on the same first three operands
pub record Alike (x y : OpTree) : Type 0 where
  pub kind : x.kind ≡ y.kind
  pub signed : x.signed ≡ y.signed
  pub bits : x.bits ≡ y.bits
  pub first : slice_get x.args 0 ≡ slice_get y.args 0
  pub second : slice_get x.args 1 ≡ slice_get y.args 1
  pub third : slice_get x.args 2 ≡ slice_get y.args 2

pub equal_alike : (x y : OpTree) → is_equal x y ≡ true → Alike x y
equal_alike x y e =
    let b3 = has_same 2 x.args y.args in
    let b2 = has_same 1 x.args y.args in
    let b1 = has_same 0 x.args y.args in
    let e1 = second (kind_eq x.kind y.kind) (beq x.signed y.signed && (x.bits == y.bits && (b1 && (b2 && b3)))) e in
    let e2 = second (beq x.signed y.signed) (x.bits == y.bits && (b1 && (b2 && b3))) e1 in
    let e3 = second (x.bits == y.bits) (b1 && (b2 && b3)) e2 in
    let e4 = second b1 (b2 && b3) e3 in
    record {
      kind = kind_same x.kind y.kind (first (kind_eq x.kind y.kind) (beq x.signed y.signed && (x.bits == y.bits && (b1 && (b2 && b3)))) e);
      signed = bool_same x.signed y.signed (first (beq x.signed y.signed) (x.bits == y.bits && (b1 && (b2 && b3))) e1);
      bits = number_same x.bits y.bits (first (x.bits == y.bits) (b1 && (b2 && b3)) e2);
      first = option_same operand_eq operand_same (slice_get x.args 0) (slice_get y.args 0) (first b1 (b2 && b3) e3);
      second = option_same operand_eq operand_same (slice_get x.args 1) (slice_get y.args 1) (first b2 b3 e4);
      third = option_same operand_eq operand_same (slice_get x.args 2) (slice_get y.args 2) (second b2 b3 e4);
    }

-- ---- what is the same is found equal

both : (a b : Bool) → a ≡ true → b ≡ true → (a && b) ≡ true
both true b e h = h
both false b e h = e

number_refl : (n : ℕ) → (n == n) ≡ true
number_refl n = (Decides-eqb n n).1 refl

simple_refl : (x : Simple) → simple_impl.eq-value.it x x ≡ true
simple_refl s.Add = refl
simple_refl s.Sub = refl
simple_refl s.And = refl
simple_refl s.Or = refl
simple_refl s.Xor = refl

pairing_refl : (p : Pairing) → pairing_impl.eq-value.it p p ≡ true
pairing_refl p =
    both (simple_impl.eq-value.it p.first p.first) (simple_impl.eq-value.it p.second p.second && beq p.left p.left) (simple_refl p.first)
    (both (simple_impl.eq-value.it p.second p.second) (beq p.left p.left) (simple_refl p.second) ((booleans_Decides p.left p.left).1 refl))

kind_refl : (x : OpKind) → kind_eq x x ≡ true
kind_refl o.Add = refl
kind_refl o.Sub = refl
kind_refl o.Mul = refl
kind_refl o.Div = refl
kind_refl o.Rem = refl
kind_refl o.And = refl
kind_refl o.Or = refl
kind_refl o.Xor = refl
kind_refl o.Shl = refl
kind_refl o.Shr = refl
kind_refl o.Eq = refl
kind_refl o.Ne = refl
kind_refl o.Lt = refl
kind_refl o.Le = refl
kind_refl o.Not = refl
kind_refl o.Neg = refl
kind_refl o.Select = refl
kind_refl o.Widen = refl
kind_refl o.Narrow = refl
kind_refl o.Truth = refl
kind_refl o.Copy = refl
kind_refl o.Load = refl
kind_refl o.Store = refl
kind_refl (o.Fused p) = pairing_refl p

source_refl : (x : Source) → source_impl.eq-value.it x x ≡ true
source_refl (source.Constant w) = number_refl w
source_refl (source.Variable v) = number_refl v.0
source_refl (source.Result op) = number_refl op.0

operand_refl : (x : Operand) → operand_eq x x ≡ true
operand_refl x = both (source_impl.eq-value.it x.value x.value) (x.distance == x.distance) (source_refl x.value) (number_refl x.distance)

option_refl : (x : Option Operand) → option_eq operand_eq x x ≡ true
option_refl None = refl
option_refl (Some x) = operand_refl x

pub alike_equal : (x y : OpTree) → Alike x y → is_equal x y ≡ true
alike_equal x y h =
    let third = subst (λ z. option_eq operand_eq (slice_get x.args 2) z ≡ true) h.third (option_refl (slice_get x.args 2)) in
    let second_ = subst (λ z. option_eq operand_eq (slice_get x.args 1) z ≡ true) h.second (option_refl (slice_get x.args 1)) in
    let first_ = subst (λ z. option_eq operand_eq (slice_get x.args 0) z ≡ true) h.first (option_refl (slice_get x.args 0)) in
    let bits = subst (λ z. (x.bits == z) ≡ true) h.bits (number_refl x.bits) in
    let signed = subst (λ z. beq x.signed z ≡ true) h.signed ((booleans_Decides x.signed x.signed).1 refl) in
    let kind = subst (λ z. kind_eq x.kind z ≡ true) h.kind (kind_refl x.kind) in
    let b3 = has_same 2 x.args y.args in
    let b2 = has_same 1 x.args y.args in
    let b1 = has_same 0 x.args y.args in
    both (kind_eq x.kind y.kind) (beq x.signed y.signed && (x.bits == y.bits && (b1 && (b2 && b3)))) kind
    (both (beq x.signed y.signed) (x.bits == y.bits && (b1 && (b2 && b3))) signed (both (x.bits == y.bits) (b1 && (b2 && b3)) bits (both b1 (b2 && b3) first_ (both b2 b3 second_ third))))

pub alike_back : (x y : OpTree) → Alike x y → Alike y x
alike_back x y h = record { kind = sym h.kind; signed = sym h.signed; bits = sym h.bits; first = sym h.first; second = sym h.second; third = sym h.third }

pub equal_back : (x y : OpTree) → is_equal x y ≡ false → is_equal y x ≡ false
equal_back x y e = by_test (is_equal y x) refl where
  by_test : (b : Bool) → is_equal y x ≡ b → b ≡ false
  by_test false h = refl
  by_test true h = false_true (sym e ∙ alike_equal x y (alike_back y x (equal_alike y x h)))
