-- What a comparison finds the same is the same.
use Rattle.std.proofs.Common.{◌≡◌, ℕ, Bool, true, false, ◌&&◌, refl, ap, ◌∙◌}
use Rattle.std.specs.Prelude.{◌==◌}
use Rattle.std.proofs.lemmas.Bool.{false≢true}
use Rattle.std.proofs.lemmas.Bool.Decides.{Decides-eqb}
use Rattle.hls_base.specs.declared.number.ArrayId.{ArrayId}
use Rattle.hls_base.specs.declared.number.NodeId.{NodeId}
use Rattle.hls_base.specs.declared.number.VarId.{VarId}
use Rattle.circuit_context.specs.declared.wanted.role.UnitRegister.{UnitRegister}
use Rattle.circuit_context.specs.declared.wanted.role.UnitRegister.TheVariants as of_unit
use Rattle.circuit_context.specs.declared.wanted.role.Role.{Role}
use Rattle.circuit_context.specs.declared.wanted.role.Role.TheVariants as role
use Rattle.circuit_context.specs.declared.wanted.role.UnitKind.{UnitKind}
use Rattle.circuit_context.specs.declared.wanted.role.UnitKind.TheVariants as kind
use Rattle.circuit_context.specs.declared.wanted.role.SharedUnit.{SharedUnit}
use Rattle.circuit_context.specs.declared.wanted.role.Target.{Target}
use Rattle.circuit_context.specs.declared.wanted.role.Target.TheVariants as t
use Rattle.circuit_context.specs.contracts.wanted.role.UnitRegisterPartialEq.TheImpl as unit_register_impl
use Rattle.circuit_context.specs.contracts.wanted.role.RolePartialEq.TheImpl as role_impl
use Rattle.circuit_context.specs.contracts.wanted.role.UnitKindPartialEq.TheImpl as kind_impl
use Rattle.circuit_context.specs.contracts.wanted.role.SharedUnitPartialEq.TheImpl as unit_impl
use Rattle.circuit_context.specs.contracts.wanted.role.TargetPartialEq.TheImpl as target_impl
use Rattle.circuit_context.specs.Wanted.Roles.{same_unit_register, same_role, same_kind, same_unit, same_target}

first : (a b : Bool) → (a && b) ≡ true → a ≡ true
first true b e = refl
first false b e = e

second : (a b : Bool) → (a && b) ≡ true → b ≡ true
second true b e = e
second false b e = absurd (false≢true e)

number_is : (x y : ℕ) → (x == y) ≡ true → x ≡ y
number_is x y e = (Decides-eqb x y).0 e

number_same : (x : ℕ) → (x == x) ≡ true
number_same x = (Decides-eqb x x).1 refl

array_is : (a b : ArrayId) → (a.0 == b.0) ≡ true → a ≡ b
array_is a b e = let p = number_is a.0 b.0 e in λ i. record { 0 = p i }

node_is : (a b : NodeId) → (a.0 == b.0) ≡ true → a ≡ b
node_is a b e = let p = number_is a.0 b.0 e in λ i. record { 0 = p i }

variable_is : (a b : VarId) → (a.0 == b.0) ≡ true → a ≡ b
variable_is a b e = let p = number_is a.0 b.0 e in λ i. record { 0 = p i }

both : {A : Type 0} (f : ℕ → ℕ → A) (b c n m : ℕ) → ((b == c) && (n == m)) ≡ true → f b n ≡ f c m
both f b c n m e = let p = number_is b c (first (b == c) (n == m) e) in let q = number_is n m (second (b == c) (n == m) e) in λ i. f (p i) (q i)

port_is : {A : Type 0} (f : ArrayId → ℕ → A) (a b : ArrayId) (n m : ℕ) → ((a.0 == b.0) && (n == m)) ≡ true → f a n ≡ f b m
port_is f a b n m e = let p = array_is a b (first (a.0 == b.0) (n == m) e) in let q = number_is n m (second (a.0 == b.0) (n == m) e) in λ i. f (p i) (q i)

pub same_unit_register_is : (a b : UnitRegister) → same_unit_register a b ≡ true → a ≡ b
same_unit_register_is (of_unit.Left b n) (of_unit.Left c m) e = both of_unit.Left b c n m e
same_unit_register_is (of_unit.Right b n) (of_unit.Right c m) e = both of_unit.Right b c n m e
same_unit_register_is (of_unit.Product b n) (of_unit.Product c m) e = both of_unit.Product b c n m e
same_unit_register_is (of_unit.Steps b n) (of_unit.Steps c m) e = both of_unit.Steps b c n m e
same_unit_register_is (of_unit.Dividend b n) (of_unit.Dividend c m) e = both of_unit.Dividend b c n m e
same_unit_register_is (of_unit.Remainder b n) (of_unit.Remainder c m) e = both of_unit.Remainder b c n m e
same_unit_register_is (of_unit.Divisor b n) (of_unit.Divisor c m) e = both of_unit.Divisor b c n m e
same_unit_register_is (of_unit.QuotientSign b n) (of_unit.QuotientSign c m) e = both of_unit.QuotientSign b c n m e
same_unit_register_is (of_unit.RemainderSign b n) (of_unit.RemainderSign c m) e = both of_unit.RemainderSign b c n m e
same_unit_register_is a b e = absurd (false≢true e)

pub same_role_is : (a b : Role) → same_role a b ≡ true → a ≡ b
same_role_is role.Ready role.Ready e = refl
same_role_is role.Done role.Done e = refl
same_role_is role.Initial role.Initial e = refl
same_role_is role.Time role.Time e = refl
same_role_is (role.Active a) (role.Active b) e = ap role.Active (node_is a b e)
same_role_is (role.Load a) (role.Load b) e = ap role.Load (node_is a b e)
same_role_is (role.Gate a) (role.Gate b) e = ap role.Gate (number_is a b e)
same_role_is (role.Passed a) (role.Passed b) e = ap role.Passed (number_is a b e)
same_role_is role.Waited role.Waited e = refl
same_role_is (role.Variable a) (role.Variable b) e = ap role.Variable (variable_is a b e)
same_role_is (role.Value a) (role.Value b) e = ap role.Value (number_is a b e)
same_role_is role.Result role.Result e = refl
same_role_is (role.Word a n) (role.Word b m) e = port_is role.Word a b n m e
same_role_is role.Named role.Named e = refl
same_role_is (role.OfUnit a) (role.OfUnit b) e = ap role.OfUnit (same_unit_register_is a b e)
same_role_is a b e = absurd (false≢true e)

pub same_kind_is : (a b : UnitKind) → same_kind a b ≡ true → a ≡ b
same_kind_is kind.Multiplier kind.Multiplier e = refl
same_kind_is kind.Divider kind.Divider e = refl
same_kind_is a b e = absurd (false≢true e)

pub same_unit_is : (a b : SharedUnit) → same_unit a b ≡ true → a ≡ b
same_unit_is a b e =
    let rest = second (same_kind a.kind b.kind) ((a.bits == b.bits) && (a.number == b.number)) e in
    let o = same_kind_is a.kind b.kind (first (same_kind a.kind b.kind) ((a.bits == b.bits) && (a.number == b.number)) e) in
    let p = number_is a.bits b.bits (first (a.bits == b.bits) (a.number == b.number) rest) in
    let q = number_is a.number b.number (second (a.bits == b.bits) (a.number == b.number) rest) in
    λ i. record { kind = o i; bits = p i; number = q i }

pub same_target_is : (a b : Target) → same_target a b ≡ true → a ≡ b
same_target_is (t.Register a) (t.Register b) e = ap t.Register (same_role_is a b e)
same_target_is (t.Left a) (t.Left b) e = ap t.Left (same_unit_is a b e)
same_target_is (t.Right a) (t.Right b) e = ap t.Right (same_unit_is a b e)
same_target_is (t.Signed a) (t.Signed b) e = ap t.Signed (same_unit_is a b e)
same_target_is (t.Address a n) (t.Address b m) e = port_is t.Address a b n m e
same_target_is (t.Stored a n) (t.Stored b m) e = port_is t.Stored a b n m e
same_target_is (t.Refused a n) (t.Refused b m) e = port_is t.Refused a b n m e
same_target_is (t.Entered a) (t.Entered b) e = ap t.Entered (node_is a b e)
same_target_is t.Ended t.Ended e = refl
same_target_is t.Tested t.Tested e = refl
same_target_is a b e = absurd (false≢true e)

-- ---- each is the same as itself

both_same : (a b : Bool) → a ≡ true → b ≡ true → (a && b) ≡ true
both_same a b p q = ap (λ x. x && b) p ∙ q

numbers_same : (b n : ℕ) → ((b == b) && (n == n)) ≡ true
numbers_same b n = both_same (b == b) (n == n) (number_same b) (number_same n)

pub same_unit_register_self : (a : UnitRegister) → same_unit_register a a ≡ true
same_unit_register_self (of_unit.Left b n) = numbers_same b n
same_unit_register_self (of_unit.Right b n) = numbers_same b n
same_unit_register_self (of_unit.Product b n) = numbers_same b n
same_unit_register_self (of_unit.Steps b n) = numbers_same b n
same_unit_register_self (of_unit.Dividend b n) = numbers_same b n
same_unit_register_self (of_unit.Remainder b n) = numbers_same b n
same_unit_register_self (of_unit.Divisor b n) = numbers_same b n
same_unit_register_self (of_unit.QuotientSign b n) = numbers_same b n
same_unit_register_self (of_unit.RemainderSign b n) = numbers_same b n

pub same_role_self : (a : Role) → same_role a a ≡ true
same_role_self role.Ready = refl
same_role_self role.Done = refl
same_role_self role.Initial = refl
same_role_self role.Time = refl
same_role_self (role.Active a) = number_same a.0
same_role_self (role.Load a) = number_same a.0
same_role_self (role.Gate a) = number_same a
same_role_self (role.Passed a) = number_same a
same_role_self role.Waited = refl
same_role_self (role.Variable a) = number_same a.0
same_role_self (role.Value a) = number_same a
same_role_self role.Result = refl
same_role_self (role.Word a n) = numbers_same a.0 n
same_role_self role.Named = refl
same_role_self (role.OfUnit a) = same_unit_register_self a

pub same_kind_self : (a : UnitKind) → same_kind a a ≡ true
same_kind_self kind.Multiplier = refl
same_kind_self kind.Divider = refl

pub same_unit_self : (a : SharedUnit) → same_unit a a ≡ true
same_unit_self a = both_same (same_kind a.kind a.kind) ((a.bits == a.bits) && (a.number == a.number)) (same_kind_self a.kind) (numbers_same a.bits a.number)

pub same_target_self : (a : Target) → same_target a a ≡ true
same_target_self (t.Register a) = same_role_self a
same_target_self (t.Left a) = same_unit_self a
same_target_self (t.Right a) = same_unit_self a
same_target_self (t.Signed a) = same_unit_self a
same_target_self (t.Address a n) = numbers_same a.0 n
same_target_self (t.Stored a n) = numbers_same a.0 n
same_target_self (t.Refused a n) = numbers_same a.0 n
same_target_self (t.Entered a) = number_same a.0
same_target_self t.Ended = refl
same_target_self t.Tested = refl

-- ---- comparisons in code

pub unit_register_eq_is : (a b : UnitRegister) → unit_register_impl.eq-value.it a b ≡ same_unit_register a b
unit_register_eq_is (of_unit.Left b n) (of_unit.Left c m) = refl
unit_register_eq_is (of_unit.Right b n) (of_unit.Right c m) = refl
unit_register_eq_is (of_unit.Product b n) (of_unit.Product c m) = refl
unit_register_eq_is (of_unit.Steps b n) (of_unit.Steps c m) = refl
unit_register_eq_is (of_unit.Dividend b n) (of_unit.Dividend c m) = refl
unit_register_eq_is (of_unit.Remainder b n) (of_unit.Remainder c m) = refl
unit_register_eq_is (of_unit.Divisor b n) (of_unit.Divisor c m) = refl
unit_register_eq_is (of_unit.QuotientSign b n) (of_unit.QuotientSign c m) = refl
unit_register_eq_is (of_unit.RemainderSign b n) (of_unit.RemainderSign c m) = refl
unit_register_eq_is a b = refl

pub role_eq_is : (a b : Role) → role_impl.eq-value.it a b ≡ same_role a b
role_eq_is role.Ready role.Ready = refl
role_eq_is role.Done role.Done = refl
role_eq_is role.Initial role.Initial = refl
role_eq_is role.Time role.Time = refl
role_eq_is (role.Active a) (role.Active b) = refl
role_eq_is (role.Load a) (role.Load b) = refl
role_eq_is (role.Gate a) (role.Gate b) = refl
role_eq_is (role.Passed a) (role.Passed b) = refl
role_eq_is role.Waited role.Waited = refl
role_eq_is (role.Variable a) (role.Variable b) = refl
role_eq_is (role.Value a) (role.Value b) = refl
role_eq_is role.Result role.Result = refl
role_eq_is (role.Word a n) (role.Word b m) = refl
role_eq_is role.Named role.Named = refl
role_eq_is (role.OfUnit a) (role.OfUnit b) = unit_register_eq_is a b
role_eq_is a b = refl

pub kind_eq_is : (a b : UnitKind) → kind_impl.eq-value.it a b ≡ same_kind a b
kind_eq_is kind.Multiplier kind.Multiplier = refl
kind_eq_is kind.Divider kind.Divider = refl
kind_eq_is a b = refl

pub unit_eq_is : (a b : SharedUnit) → unit_impl.eq-value.it a b ≡ same_unit a b
unit_eq_is a b = ap (λ x. x && ((a.bits == b.bits) && (a.number == b.number))) (kind_eq_is a.kind b.kind)

pub target_eq_is : (a b : Target) → target_impl.eq-value.it a b ≡ same_target a b
target_eq_is (t.Register a) (t.Register b) = role_eq_is a b
target_eq_is (t.Left a) (t.Left b) = unit_eq_is a b
target_eq_is (t.Right a) (t.Right b) = unit_eq_is a b
target_eq_is (t.Signed a) (t.Signed b) = unit_eq_is a b
target_eq_is (t.Address a n) (t.Address b m) = refl
target_eq_is (t.Stored a n) (t.Stored b m) = refl
target_eq_is (t.Refused a n) (t.Refused b m) = refl
target_eq_is (t.Entered a) (t.Entered b) = refl
target_eq_is t.Ended t.Ended = refl
target_eq_is t.Tested t.Tested = refl
target_eq_is a b = refl
