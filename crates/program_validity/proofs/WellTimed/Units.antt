-- Units are free when their next operations start.
use Rattle.std.proofs.Common.{◌≡◌, ◌≢◌, ℕ, ◌+◌, ◌*◌, ◌<◌, ◌≤◌, ◌==◌, ◌∙◌, sym, refl, ap, ap₂, Bool, true, ◌&&◌, List, map, Option, Some, None, if◌then◌else◌, inl, inr, arith}
use Rattle.std.specs.Prelude.{slice_get, slice_index, nat_le}
use Rattle.std.specs.Option.{option_map}
use Rattle.std.specs.List.{list_all}
use Rattle.std.proofs.lemmas.Bool.{cases_Bool, cases_lt, cond-true, cond-false, and_parts, and_from, leb-true, le-leb, lt-leb, eqb-true, eq-eqb}
use Rattle.ir_core.specs.declared.body.Op.{Op}
use Rattle.ir_core.specs.declared.cfg.Memory.{Memory}
use Rattle.ir_core.specs.declared.stamp.Untimed.{Untimed}
use Rattle.ir_core.specs.declared.timing.UnitClass.{UnitClass}
use Rattle.ir_core.specs.declared.timing.UnitClass.TheVariants as u
use Rattle.ir_core.specs.declared.timed.Timed.{Timed}
use Rattle.clock_ir.specs.WellTimed.{class_in, occupancy_in, ShareUnit, TakeTurns, TakeTurnsAgain}
use Rattle.program_validity.specs.Untimed.{untimed_op}
use Rattle.program_validity.specs.Checks.{in_time, class_of, one_class, same_class, held, take_turns, units_in_time, free_again}
use Rattle.program_validity.proofs.WellTimed.Lists.{no_some, get_map}
use Rattle.program_validity.proofs.WellTimed.Tests.{all_get, all_from, each_pair, pair_at, pairs_from}
use Rattle.program_validity.proofs.WellTimed.Edges.{AreTimes}
use Rattle.program_validity.proofs.WellTimed.OperationKinds.{some_cycle}

-- operation k is on unit k
abbrev pub AreUnits : List ℕ → List (Op Timed) → Type 0
AreUnits units ops = (k : ℕ) (op : Op Timed) → slice_get ops k ≡ Some op → slice_index units k ≡ op.stamp.bound

-- ---- classes

one_class_true : (x y : UnitClass) → one_class x y ≡ true → x ≡ y
one_class_true (u.Multiplier x) (u.Multiplier y) e = ap u.Multiplier (eqb-true x y e)
one_class_true (u.Multiplier x) (u.Divider y) e = absurd (cc)
one_class_true (u.Multiplier x) (u.Port y) e = absurd (cc)
one_class_true (u.Divider x) (u.Multiplier y) e = absurd (cc)
one_class_true (u.Divider x) (u.Divider y) e = ap u.Divider (eqb-true x y e)
one_class_true (u.Divider x) (u.Port y) e = absurd (cc)
one_class_true (u.Port x) (u.Multiplier y) e = absurd (cc)
one_class_true (u.Port x) (u.Divider y) e = absurd (cc)
one_class_true (u.Port x) (u.Port y) e = ap (λ n. u.Port (record { 0 = n })) (eqb-true x.0 y.0 e)

one_class_itself : (x : UnitClass) → one_class x x ≡ true
one_class_itself (u.Multiplier x) = eq-eqb x x refl
one_class_itself (u.Divider x) = eq-eqb x x refl
one_class_itself (u.Port x) = eq-eqb x.0 x.0 refl

same_class_true : (x y : Option UnitClass) → same_class x y ≡ true → (class : UnitClass) × ((x ≡ Some class) × (y ≡ Some class))
same_class_true None y e = absurd (cc)
same_class_true (Some x) None e = absurd (cc)
same_class_true (Some x) (Some y) e = (x, (refl, ap (λ z. Some z) (sym (one_class_true x y e))))

same_class_from : (x y : Option UnitClass) (class : UnitClass) → x ≡ Some class → y ≡ Some class → same_class x y ≡ true
same_class_from x y class e f = ap₂ same_class e f ∙ one_class_itself class

-- ---- waiting

pub waits_true : (interval : Option ℕ) (start later cycles : ℕ) → in_time interval start later cycles 0 ≡ true → start + cycles ≤ later
waits_true None start later cycles e = leb-true (start + cycles) later e
waits_true (Some i) start later cycles e = (let h = leb-true (start + cycles) (later + i * 0) e in omega arith)

pub waits_from : (interval : Option ℕ) (start later cycles : ℕ) → start + cycles ≤ later → in_time interval start later cycles 0 ≡ true
waits_from None start later cycles h = le-leb (start + cycles) later h
waits_from (Some i) start later cycles h = le-leb (start + cycles) (later + i * 0) (omega arith)

again_true : (i start later cycles : ℕ) → in_time (Some i) start later cycles 1 ≡ true → start + cycles ≤ later + i
again_true i start later cycles e = (let h = leb-true (start + cycles) (later + i * 1) e in omega arith)

-- the same where there is a next iteration
abbrev pub AgainBy : Option ℕ → ℕ → ℕ → ℕ → Type 0
AgainBy None start later cycles = Unit {0}
AgainBy (Some i) start later cycles = start + cycles ≤ later + i

again_from : (interval : Option ℕ) (start later cycles : ℕ) → AgainBy interval start later cycles → in_time interval start later cycles 1 ≡ true
again_from None start later cycles h = refl
again_from (Some i) start later cycles h = le-leb (start + cycles) (later + i * 1) (omega (arith, h))

-- ---- pairs

-- two operations on one unit, of which the one that starts first is the first, take turns
record InOrder (interval : Option ℕ) (one other : Op Timed) : Type 0 where
  before : one.stamp.start ≤ other.stamp.start → take_turns interval one other ≡ true
  behind : other.stamp.start < one.stamp.start → take_turns interval other one ≡ true

on_one : Op Timed → Op Timed → List Memory → Bool
on_one one other memories = same_class (class_of memories one) (class_of memories other) && one.stamp.bound == other.stamp.bound

in_order : (interval : Option ℕ) (memories : List Memory) (one other : Op Timed) → units_in_time interval memories one other ≡ true → (class : UnitClass) → class_of memories one ≡ Some class → class_of memories other ≡ Some class
    → one.stamp.bound ≡ other.stamp.bound → InOrder interval one other
in_order interval memories one other h class e f b =
    let on = and_from (same_class (class_of memories one) (class_of memories other)) (one.stamp.bound == other.stamp.bound) (same_class_from (class_of memories one) (class_of memories other) class e f) (eq-eqb one.stamp.bound other.stamp.bound b) in
    let by_start = if nat_le one.stamp.start other.stamp.start then take_turns interval one other else take_turns interval other one in
    let holds : by_start ≡ true = sym (cond-true _ by_start true on) ∙ h in
    record {
      before = λ le. sym (cond-true _ (take_turns interval one other) (take_turns interval other one) (le-leb one.stamp.start other.stamp.start le)) ∙ holds;
      behind = λ lt. sym (cond-false _ (take_turns interval one other) (take_turns interval other one) (lt-leb one.stamp.start other.stamp.start lt)) ∙ holds;
    }

from_order : (interval : Option ℕ) (memories : List Memory) (one other : Op Timed)
    → ((class : UnitClass) → class_of memories one ≡ Some class → class_of memories other ≡ Some class → one.stamp.bound ≡ other.stamp.bound → InOrder interval one other)
    → units_in_time interval memories one other ≡ true
from_order interval memories one other h =
    let p = same_class (class_of memories one) (class_of memories other) && one.stamp.bound == other.stamp.bound in
    let by_start = if nat_le one.stamp.start other.stamp.start then take_turns interval one other else take_turns interval other one in
    elim (cases_Bool p) [
      | inl on ↦
          let parts = and_parts (same_class (class_of memories one) (class_of memories other)) (one.stamp.bound == other.stamp.bound) on in
          let class = same_class_true (class_of memories one) (class_of memories other) parts.0 in
          let order = h class.0 class.1.0 class.1.1 (eqb-true one.stamp.bound other.stamp.bound parts.1) in
          let holds : by_start ≡ true = (elim (cases_lt other.stamp.start one.stamp.start) [
            | inl lt ↦ cond-false _ (take_turns interval one other) (take_turns interval other one) (lt-leb one.stamp.start other.stamp.start lt) ∙ order.behind lt
            | inr le ↦ cond-true _ (take_turns interval one other) (take_turns interval other one) (le-leb one.stamp.start other.stamp.start le) ∙ order.before le
          ]) in
          cond-true _ by_start true on ∙ holds
      | inr off ↦ cond-false _ by_start true off
    ]

-- ---- bodies

module _ (interval : Option ℕ) (memories : List Memory) (ops : List (Op Timed)) (times units : List ℕ) (are : AreTimes times ops) (on : AreUnits units ops) where
  abbrev plain : List (Op Untimed)
  plain = map untimed_op ops

  found_in : (o : Option (Op Timed)) (class : UnitClass) → class_in memories (option_map untimed_op o) ≡ Some class → (op : Op Timed) × ((o ≡ Some op) × (class_of memories op ≡ Some class))
  found_in None class e = absurd (no_some e)
  found_in (Some op) class e = (op, (refl, e))

  found : (k : ℕ) (class : UnitClass) → class_in memories (slice_get plain k) ≡ Some class → (op : Op Timed) × ((slice_get ops k ≡ Some op) × (class_of memories op ≡ Some class))
  found k class e = found_in (slice_get ops k) class (ap (class_in memories) (sym (get_map untimed_op ops k)) ∙ e)

  cycles_of : (k : ℕ) (op : Op Timed) → slice_get ops k ≡ Some op → occupancy_in (slice_get plain k) ≡ held op
  cycles_of k op e = ap occupancy_in (get_map untimed_op ops k ∙ ap (option_map untimed_op) e)

  class_at : (k : ℕ) (op : Op Timed) → slice_get ops k ≡ Some op → class_in memories (slice_get plain k) ≡ class_of memories op
  class_at k op e = ap (class_in memories) (get_map untimed_op ops k ∙ ap (option_map untimed_op) e)

  -- operations of numbers k and n on one unit, of which k starts no later
  turns_of : each_pair (units_in_time interval memories) ops ≡ true → (k n : ℕ) (one other : Op Timed) (class : UnitClass) → slice_get ops k ≡ Some one → slice_get ops n ≡ Some other → class_of memories one ≡ Some class → class_of memories other ≡ Some class
      → one.stamp.bound ≡ other.stamp.bound → k ≢ n → one.stamp.start ≤ other.stamp.start → take_turns interval one other ≡ true
  turns_of h k n one other class e f c d b differ le =
      elim (cases_lt k n) [
        | inl lt ↦ (in_order interval memories one other (pair_at (units_in_time interval memories) ops k n one other h lt e f) class c d b).before le
        | inr ge ↦
            let lt : n < k = below k n ge differ in
            let order = in_order interval memories other one (pair_at (units_in_time interval memories) ops n k other one h lt f e) class d c (sym b) in
            elim (cases_lt one.stamp.start other.stamp.start) [
              | inl sooner ↦ order.behind sooner
              | inr same ↦
                  let first = (and_parts (in_time interval other.stamp.start one.stamp.start (held other) 0) (in_time interval one.stamp.start other.stamp.start (held one) 1) (order.before same)).0 in
                  let late = waits_true interval other.stamp.start one.stamp.start (held other) first in
                  let some = some_cycle other.kind other.bits in
                  absurd (omega arith)
            ]
      ]
    where
      below : (k n : ℕ) → n ≤ k → k ≢ n → n < k
      below k n le differ = elim (cases_lt n k) [
        | inl lt ↦ lt
        | inr ge ↦ absurd (differ (let e : k ≡ n = omega arith in e))
      ]

  pub turns_from : each_pair (units_in_time interval memories) ops ≡ true → TakeTurns memories plain times units
  turns_from h k n share le =
      let one = found k share.class share.first in
      let other = found n share.class share.second in
      let s = are.starts k one.0 one.1.0 in
      let t = are.starts n other.0 other.1.0 in
      let bound = sym (on k one.0 one.1.0) ∙ share.unit ∙ on n other.0 other.1.0 in
      let turns = turns_of h k n one.0 other.0 share.class one.1.0 other.1.0 one.1.1 other.1.1 bound share.differ (omega arith) in
      let first = (and_parts (in_time interval one.0.stamp.start other.0.stamp.start (held one.0) 0) (in_time interval other.0.stamp.start one.0.stamp.start (held other.0) 1) turns).0 in
      let free = waits_true interval one.0.stamp.start other.0.stamp.start (held one.0) first in
      let cycles = cycles_of k one.0 one.1.0 in
      omega arith

  -- what the definition asks for, of an interval that may not be there
  abbrev pub AreFreeAgain : Option ℕ → Type 0
  AreFreeAgain None = Unit {0}
  AreFreeAgain (Some i) = TakeTurnsAgain memories plain times units i

  pub turns_to : TakeTurns memories plain times units → AreFreeAgain interval → each_pair (units_in_time interval memories) ops ≡ true
  turns_to h again = pairs_from (units_in_time interval memories) ops (λ k n one other lt e f.
      let s = are.starts k one e in
      let t = are.starts n other f in
      let p = cycles_of k one e in
      let q = cycles_of n other f in
      from_order interval memories one other (λ class c d b.
      let share : ShareUnit memories plain units k n = record { class = class; first = class_at k one e ∙ c; second = class_at n other f ∙ d; unit = on k one e ∙ b ∙ sym (on n other f); differ = λ z. (let w = z in omega arith) } in
      let back : ShareUnit memories plain units n k = record { class = class; first = class_at n other f ∙ d; second = class_at k one e ∙ c; unit = on n other f ∙ sym b ∙ sym (on k one e); differ = λ z. (let w = z in omega arith) } in
      record {
        before = λ le.
            (let now = h k n share (omega arith) in
            and_from (in_time interval one.stamp.start other.stamp.start (held one) 0) (in_time interval other.stamp.start one.stamp.start (held other) 1)
            (waits_from interval one.stamp.start other.stamp.start (held one) (omega arith))
            (again_from interval other.stamp.start one.stamp.start (held other) (later interval again k n share one other s t q le)));
        behind = λ less.
            (let now = h n k back (omega arith) in
            and_from (in_time interval other.stamp.start one.stamp.start (held other) 0) (in_time interval one.stamp.start other.stamp.start (held one) 1)
            (waits_from interval other.stamp.start one.stamp.start (held other) (omega arith))
            (again_from interval one.stamp.start other.stamp.start (held one) (later interval again n k back other one t s p (omega arith))));
      }))
    where
      later : (interval : Option ℕ) → AreFreeAgain interval → (k n : ℕ) → ShareUnit memories plain units k n → (one other : Op Timed) → slice_index times (k + 1) ≡ one.stamp.start → slice_index times (n + 1) ≡ other.stamp.start
          → occupancy_in (slice_get plain n) ≡ held other → one.stamp.start ≤ other.stamp.start → AgainBy interval other.stamp.start one.stamp.start (held other)
      later None again k n share one other s t q le = tt
      later (Some i) again k n share one other s t q le = (let h = again.others k n share (omega arith) in omega arith)

-- a unit is free again for the next iteration
pub again_turns : (i : ℕ) (memories : List Memory) (ops : List (Op Timed)) (times units : List ℕ) → AreTimes times ops → AreUnits units ops → each_pair (units_in_time (Some i) memories) ops ≡ true
    → list_all (λ op. free_again (Some i) (class_of memories op) (held op)) ops ≡ true → TakeTurnsAgain memories (map untimed_op ops) times units i
again_turns i memories ops times units are on pairs free = record {
  others = λ k n share le.
      (let one = found (Some i) memories ops times units are on k share.class share.first in
      let other = found (Some i) memories ops times units are on n share.class share.second in
      let s = are.starts k one.0 one.1.0 in
      let t = are.starts n other.0 other.1.0 in
      let bound = sym (on k one.0 one.1.0) ∙ share.unit ∙ on n other.0 other.1.0 in
      let turns = turns_of (Some i) memories ops times units are on pairs k n one.0 other.0 share.class one.1.0 other.1.0 one.1.1 other.1.1 bound share.differ (omega arith) in
      let second = (and_parts (in_time (Some i) one.0.stamp.start other.0.stamp.start (held one.0) 0) (in_time (Some i) other.0.stamp.start one.0.stamp.start (held other.0) 1) turns).1 in
      let next = again_true i other.0.stamp.start one.0.stamp.start (held other.0) second in
      let cycles = cycles_of (Some i) memories ops times units are on n other.0 other.1.0 in
      omega arith);
  own = λ k class e.
      (let one = found (Some i) memories ops times units are on k class e in
      let at = all_get (λ op. free_again (Some i) (class_of memories op) (held op)) ops k one.0 free one.1.0 in
      let less = leb-true (held one.0) i (ap (λ c. free_again (Some i) c (held one.0)) (sym one.1.1) ∙ at) in
      let cycles = cycles_of (Some i) memories ops times units are on k one.0 one.1.0 in
      omega arith);
}

pub free_to : (i : ℕ) (memories : List Memory) (ops : List (Op Timed)) (times units : List ℕ) → AreTimes times ops → AreUnits units ops → TakeTurnsAgain memories (map untimed_op ops) times units i
    → list_all (λ op. free_again (Some i) (class_of memories op) (held op)) ops ≡ true
free_to i memories ops times units are on h = all_from (λ op. free_again (Some i) (class_of memories op) (held op)) ops (λ k op e. by_class k op e (class_of memories op) refl)
  where
    by_class : (k : ℕ) (op : Op Timed) → slice_get ops k ≡ Some op → (class : Option UnitClass) → class_of memories op ≡ class → free_again (Some i) class (held op) ≡ true
    by_class k op e None c = refl
    by_class k op e (Some class) c =
        let own = h.own k class (class_at (Some i) memories ops times units are on k op e ∙ c) in
        let cycles = cycles_of (Some i) memories ops times units are on k op e in
        le-leb (held op) i (omega arith)
