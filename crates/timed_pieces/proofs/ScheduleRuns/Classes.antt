-- The order of the classes of units.
use Rattle.std.proofs.Common.{List, ◌≡◌, ℕ, ◌+◌, ◌<◌, ◌≤◌, ◌⊎◌, inl, inr, Bool, true, false, cond, refl, ap, arith, ltb-false, eqb-true, eq-eqb}
use Rattle.std.specs.Prelude.{◌==◌, nat_lt, Option, Some, None, if◌then◌else◌}
use Rattle.std.specs.declared.cmp.Ordering.{Ordering}
use Rattle.std.specs.declared.cmp.Ordering.TheVariants.{Less, Equal, Greater}
use Rattle.std.specs.Ordering.{is_lt, ordering_then}
use Rattle.hls_base.specs.declared.number.ArrayId.{ArrayId}
use Rattle.ir_core.specs.declared.body.Op.{Op}
use Rattle.ir_core.specs.declared.body.OpKind.{OpKind}
use Rattle.ir_core.specs.declared.body.OpKind.TheVariants as o
use Rattle.ir_core.specs.declared.cfg.Memory.{Memory}
use Rattle.ir_core.specs.declared.stamp.Untimed.{Untimed}
use Rattle.ir_core.specs.Timing.{occupancy, unit_class, port, is_table}
use Rattle.ir_core.specs.declared.timing.UnitClass.{UnitClass}
use Rattle.ir_core.specs.declared.timing.UnitClass.TheVariants as u
use Rattle.unit_binding.specs.declared.bind.Request.{Request}
use Rattle.unit_binding.specs.Binding.{same_class, is_class}
use Rattle.report_rows.specs.Timing.{class_order, request_order}
use Rattle.clock_ir.specs.WellTimed.{class_in, occupancy_in}
use Rattle.clock_runs.proofs.Lists.{some_same, no_some}

-- how long an operation of the class holds its unit
abbrev pub held_by : UnitClass → ℕ
held_by (u.Multiplier bits) = 1
held_by (u.Divider bits) = bits + 2
held_by (u.Port array) = 1

pub held_some : (c : UnitClass) → 1 ≤ held_by c
held_some (u.Multiplier bits) = omega arith
held_some (u.Divider bits) = omega arith
held_some (u.Port array) = omega arith

port_held : (memories : List Memory) (array : Option ArrayId) (c : UnitClass) → port memories array ≡ Some c → 1 ≡ held_by c
port_held memories None c e = absurd (no_some e)
port_held memories (Some a) c e = by_table (is_table memories a) a c e
  where
    by_table : (b : Bool) (a : ArrayId) (c : UnitClass) → (if b then None else Some (u.Port a)) ≡ Some c → 1 ≡ held_by c
    by_table true a c e = absurd (no_some e)
    by_table false a c e = ap held_by (some_same e)

-- an operation holds a unit of its class for the class's time
pub class_held : (kind : OpKind) (bits : ℕ) (array : Option ArrayId) (memories : List Memory) (c : UnitClass) → unit_class kind bits array memories ≡ Some c → occupancy kind bits ≡ held_by c
class_held o.Mul bits array memories c e = ap held_by (some_same e)
class_held o.Div bits array memories c e = ap held_by (some_same e)
class_held o.Rem bits array memories c e = ap held_by (some_same e)
class_held o.Load bits array memories c e = port_held memories array c e
class_held o.Store bits array memories c e = port_held memories array c e
class_held kind bits array memories c e = absurd (no_some e)

pub held_in : (memories : List Memory) (p : Option (Op Untimed)) (c : UnitClass) → class_in memories p ≡ Some c → occupancy_in p ≡ held_by c
held_in memories None c e = absurd (no_some e)
held_in memories (Some op) c e = class_held op.kind op.bits op.array memories c e

abbrev kind : UnitClass → ℕ
kind (u.Multiplier bits) = 0
kind (u.Divider bits) = 1
kind (u.Port array) = 2

abbrev number : UnitClass → ℕ
number (u.Multiplier bits) = bits
number (u.Divider bits) = bits
number (u.Port array) = array.0

-- no further back in the order
abbrev pub Upto : UnitClass → UnitClass → Type 0
Upto c d = (kind c < kind d) ⊎ ((kind c ≡ kind d) × (number c ≤ number d))

pub upto_own : (c : UnitClass) → Upto c c
upto_own c = inr (refl, omega arith)

pub upto_trans : (c d e : UnitClass) → Upto c d → Upto d e → Upto c e
upto_trans c d e h g = elim h [
  | inl x ↦ elim g [ inl y ↦ inl (omega arith) | inr y ↦ inl (let z = y.0 in omega arith) ]
  | inr x ↦ elim g [ inl y ↦ inl (let z = x.0 in omega arith) | inr y ↦ inr ((let z = x.0 in let w = y.0 in omega arith), (let z = x.1 in let w = y.1 in omega arith)) ]
]

array_is : (x y : ArrayId) → x.0 ≡ y.0 → x ≡ y
array_is x y e = (λ i. record { 0 = e i })

alike : (c d : UnitClass) → kind c ≡ kind d → number c ≡ number d → c ≡ d
alike (u.Multiplier x) (u.Multiplier y) k n = ap u.Multiplier n
alike (u.Multiplier x) (u.Divider y) k n = absurd (omega arith)
alike (u.Multiplier x) (u.Port y) k n = absurd (omega arith)
alike (u.Divider x) (u.Multiplier y) k n = absurd (omega arith)
alike (u.Divider x) (u.Divider y) k n = ap u.Divider n
alike (u.Divider x) (u.Port y) k n = absurd (omega arith)
alike (u.Port x) (u.Multiplier y) k n = absurd (omega arith)
alike (u.Port x) (u.Divider y) k n = absurd (omega arith)
alike (u.Port x) (u.Port y) k n = ap u.Port (array_is x y n)

pub upto_both : (c d : UnitClass) → Upto c d → Upto d c → c ≡ d
upto_both c d h g = elim h [
  | inl x ↦ elim g [ inl y ↦ absurd (omega arith) | inr y ↦ absurd (let z = y.0 in omega arith) ]
  | inr x ↦ elim g [ inl y ↦ absurd (let z = x.0 in omega arith) | inr y ↦ alike c d x.0 (let z = x.1 in let w = y.1 in omega arith) ]
]

same_class_is : (c d : UnitClass) → same_class c d ≡ true → c ≡ d
same_class_is (u.Multiplier x) (u.Multiplier y) e = ap u.Multiplier (eqb-true x y e)
same_class_is (u.Multiplier x) (u.Divider y) e = (cc)
same_class_is (u.Multiplier x) (u.Port y) e = (cc)
same_class_is (u.Divider x) (u.Multiplier y) e = (cc)
same_class_is (u.Divider x) (u.Divider y) e = ap u.Divider (eqb-true x y e)
same_class_is (u.Divider x) (u.Port y) e = (cc)
same_class_is (u.Port x) (u.Multiplier y) e = (cc)
same_class_is (u.Port x) (u.Divider y) e = (cc)
same_class_is (u.Port x) (u.Port y) e = ap u.Port (array_is x y (eqb-true x.0 y.0 e))

pub class_is : (p : Option UnitClass) (c : UnitClass) → is_class p c ≡ true → p ≡ Some c
class_is None c e = (cc)
class_is (Some d) c e = ap Some (same_class_is d c e)

pub class_own : (c : UnitClass) → is_class (Some c) c ≡ true
class_own (u.Multiplier x) = eq-eqb x x refl
class_own (u.Divider x) = eq-eqb x x refl
class_own (u.Port x) = eq-eqb x.0 x.0 refl

not_less : (b c : Bool) (rest : Ordering) → is_lt (ordering_then (cond b Less (cond c Equal Greater)) rest) ≡ false → b ≡ false
not_less true c rest e = e
not_less false c rest e = refl

number_up : (x y : ℕ) (rest : Ordering) → is_lt (ordering_then (cond (nat_lt x y) Less (cond (x == y) Equal Greater)) rest) ≡ false → y ≤ x
number_up x y rest e = ltb-false x y (not_less (nat_lt x y) (x == y) rest e)

class_up : (c d : UnitClass) (rest : Ordering) → is_lt (ordering_then (class_order c d) rest) ≡ false → Upto d c
class_up (u.Multiplier x) (u.Multiplier y) rest e = inr (refl, number_up x y rest e)
class_up (u.Multiplier x) (u.Divider y) rest e = (cc)
class_up (u.Multiplier x) (u.Port y) rest e = (cc)
class_up (u.Divider x) (u.Multiplier y) rest e = inl (omega arith)
class_up (u.Divider x) (u.Divider y) rest e = inr (refl, number_up x y rest e)
class_up (u.Divider x) (u.Port y) rest e = (cc)
class_up (u.Port x) (u.Multiplier y) rest e = inl (omega arith)
class_up (u.Port x) (u.Divider y) rest e = inl (omega arith)
class_up (u.Port x) (u.Port y) rest e = inr (refl, number_up x.0 y.0 rest e)

-- requests in order have classes in order
pub request_up : (p q : Request) → is_lt (request_order q p) ≡ false → Upto p.class q.class
request_up p q e = class_up q.class p.class _ e
