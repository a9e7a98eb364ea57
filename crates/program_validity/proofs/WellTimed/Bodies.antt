-- What is judged of a body is what the definition asks for.
use Rattle.std.proofs.Common.{◌≡◌, ℕ, zero, suc, ◌+◌, ◌*◌, ◌^◌, ◌<◌, ◌∙◌, sym, refl, ap, Bool, true, ◌&&◌, List, [], ◌∷◌, map, length, get_or, Option, Some, None, inl, inr, arith}
use Rattle.std.specs.Prelude.{slice_get, slice_index, nat_lt, nat_le}
use Rattle.std.specs.List.{list_all, All, Contains}
use Rattle.std.proofs.lemmas.Bool.{cases_lt, and_parts, and_from, or_cases, or_left, or_right, leb-true, le-leb, ltb-true, lt-ltb}
use Rattle.std.proofs.lemmas.List.{get_or_past}
use Rattle.std.proofs.lemmas.List.Elements.{All-contains, Contains-get_or}
use Rattle.std.proofs.lemmas.List.Sums.{AllPass-from_list_all, list_all-from_AllPass}
use Rattle.ir_core.specs.declared.body.Body.{Body}
use Rattle.ir_core.specs.declared.body.Op.{Op}
use Rattle.ir_core.specs.declared.cfg.Memory.{Memory}
use Rattle.ir_core.specs.declared.timed.Timed.{Timed}
use Rattle.dep_graph.specs.declared.edge.Edge.{Edge}
use Rattle.dep_graph.specs.Dependences.{edges_of}
use Rattle.unit_binding.specs.Copies.{AreTimedCopies, IsTimedBody}
use Rattle.clock_ir.specs.WellTimed.{Keeps}
use Rattle.program_validity.specs.Untimed.{untimed_op, untimed_body}
use Rattle.program_validity.specs.Checks.{data_in_time, test_in_time, accesses_in_time, class_of, held, units_in_time, free_again, is_early, op_in_time, pair_in_time, ops_in_time, body_in_time}
use Rattle.program_validity.proofs.WellTimed.Lists.{some_same, no_some}
use Rattle.program_validity.proofs.WellTimed.Tests.{all_both, all_from, each_pair}
use Rattle.program_validity.proofs.WellTimed.Edges.{AreTimes, kept, all_kept, edges_kept}
use Rattle.program_validity.proofs.WellTimed.Units.{AreUnits}

-- ---- the times and units of a body

abbrev pub times_of : List (Op Timed) → List ℕ
times_of ops = 0 ∷ map (λ (op : Op Timed). op.stamp.start) ops

abbrev pub units_of : List (Op Timed) → List ℕ
units_of ops = map (λ (op : Op Timed). op.stamp.bound) ops

start_at : (ops : List (Op Timed)) (k : ℕ) (op : Op Timed) → slice_get ops k ≡ Some op → slice_index (map (λ (o : Op Timed). o.stamp.start) ops) k ≡ op.stamp.start
start_at [] k op e = absurd (no_some e)
start_at (o ∷ ops) zero op e = ap (λ (p : Op Timed). p.stamp.start) (some_same e)
start_at (o ∷ ops) (suc k) op e = start_at ops k op e

unit_at : (ops : List (Op Timed)) (k : ℕ) (op : Op Timed) → slice_get ops k ≡ Some op → slice_index (map (λ (o : Op Timed). o.stamp.bound) ops) k ≡ op.stamp.bound
unit_at [] k op e = absurd (no_some e)
unit_at (o ∷ ops) zero op e = ap (λ (p : Op Timed). p.stamp.bound) (some_same e)
unit_at (o ∷ ops) (suc k) op e = unit_at ops k op e

pub times_are : (ops : List (Op Timed)) → AreTimes (times_of ops) ops
times_are ops = record {
  begins = refl;
  starts = λ k op e. ap (slice_index (times_of ops)) (let z : k + 1 ≡ suc k = omega arith in z) ∙ start_at ops k op e;
}

pub units_are : (ops : List (Op Timed)) → AreUnits (units_of ops) ops
units_are ops k op e = unit_at ops k op e

none_at : (ops : List (Op Timed)) (k : ℕ) → slice_get ops k ≡ None → slice_index (map (λ (o : Op Timed). o.stamp.start) ops) k ≡ 0
none_at [] k e = refl
none_at (o ∷ ops) zero e = absurd (cc)
none_at (o ∷ ops) (suc k) e = none_at ops k e

-- where there is no operation, there is no time
abbrev pub IsShort : List ℕ → List (Op Timed) → Type 0
IsShort times ops = (k : ℕ) → slice_get ops k ≡ None → slice_index times (k + 1) ≡ 0

pub times_short : (ops : List (Op Timed)) → IsShort (times_of ops) ops
times_short ops k e = ap (slice_index (times_of ops)) (let z : k + 1 ≡ suc k = omega arith in z) ∙ none_at ops k e

-- ---- copies

abbrev AreAt : List ℕ → List ℕ → ℕ → List (Op Timed) → Type 0
AreAt times units k ops = (i : ℕ) (op : Op Timed) → slice_get ops i ≡ Some op → (slice_index times (k + i + 1) ≡ op.stamp.start) × (slice_index units (k + i) ≡ op.stamp.bound)

copies_from : (times units : List ℕ) (k : ℕ) (ops : List (Op Timed)) → AreAt times units k ops → AreTimedCopies times units k (map untimed_op ops) ops
copies_from times units k [] h = tt
copies_from times units k (op ∷ ops) h =
    let first = h zero op refl in
    let time : slice_index times (k + 1) ≡ op.stamp.start = ap (slice_index times) (let z : k + 1 ≡ k + 0 + 1 = omega arith in z) ∙ first.0 in
    let unit : slice_index units k ≡ op.stamp.bound = ap (slice_index units) (let z : k ≡ k + 0 = omega arith in z) ∙ first.1 in (
      record { same_kind = refl; same_sign = refl; same_bits = refl; same_args = refl; same_array = refl; same_guard = refl; same_flag = refl; at_time = sym time; on_unit = sym unit },
      copies_from times units (suc k) ops (λ i o e.
          let next = h (suc i) o e in (
            ap (slice_index times) (let z : suc k + i + 1 ≡ k + suc i + 1 = omega arith in z) ∙ next.0,
            ap (slice_index units) (let z : suc k + i ≡ k + suc i = omega arith in z) ∙ next.1,
          )),
    )

copies_at : (times units : List ℕ) (k : ℕ) (ops : List (Op Timed)) → AreTimedCopies times units k (map untimed_op ops) ops → AreAt times units k ops
copies_at times units k [] h i op e = absurd (no_some e)
copies_at times units k (o ∷ ops) h zero op e = (
  ap (slice_index times) (let z : k + 0 + 1 ≡ k + 1 = omega arith in z) ∙ sym h.0.at_time ∙ ap (λ (p : Op Timed). p.stamp.start) (some_same e),
  ap (slice_index units) (let z : k + 0 ≡ k = omega arith in z) ∙ sym h.0.on_unit ∙ ap (λ (p : Op Timed). p.stamp.bound) (some_same e),
)
copies_at times units k (o ∷ ops) h (suc i) op e =
    let next = copies_at times units (suc k) ops h.1 i op e in (
      ap (slice_index times) (let z : k + suc i + 1 ≡ suc k + i + 1 = omega arith in z) ∙ next.0,
      ap (slice_index units) (let z : k + suc i ≡ suc k + i = omega arith in z) ∙ next.1,
    )

pub body_is : (b : Body Timed) → IsTimedBody (times_of b.ops.items) (units_of b.ops.items) (untimed_body b) b
body_is b =
    let ops = b.ops.items in
    record {
      ops = copies_from (times_of ops) (units_of ops) 0 ops (λ i op e. (
        ap (slice_index (times_of ops)) (let z : 0 + i + 1 ≡ i + 1 = omega arith in z) ∙ (times_are ops).starts i op e,
        ap (slice_index (units_of ops)) (let z : 0 + i ≡ i = omega arith in z) ∙ units_are ops i op e,
      ));
      outs = refl;
      test = refl;
    }

pub times_in : (times units : List ℕ) (b : Body Timed) → slice_index times 0 ≡ 0 → IsTimedBody times units (untimed_body b) b → AreTimes times b.ops.items
times_in times units b zero_ is = record {
  begins = zero_;
  starts = λ k op e. ap (slice_index times) (let z : k + 1 ≡ 0 + k + 1 = omega arith in z) ∙ (copies_at times units 0 b.ops.items is.ops k op e).0;
}

pub units_in : (times units : List ℕ) (b : Body Timed) → IsTimedBody times units (untimed_body b) b → AreUnits units b.ops.items
units_in times units b is k op e = ap (slice_index units) (let z : k ≡ 0 + k = omega arith in z) ∙ (copies_at times units 0 b.ops.items is.ops k op e).1

-- ---- early times

early_in : (ops : List (Op Timed)) → list_all is_early ops ≡ true → (k d : ℕ) → k < length (map (λ (o : Op Timed). o.stamp.start) ops) → get_or (map (λ (o : Op Timed). o.stamp.start) ops) k d < 2 ^ 32
early_in [] h k d lt = absurd (omega arith)
early_in (op ∷ ops) h zero d lt = ltb-true op.stamp.start (2 ^ 32) (and_parts (is_early op) (list_all is_early ops) h).0
early_in (op ∷ ops) h (suc k) d lt = early_in ops (and_parts (is_early op) (list_all is_early ops) h).1 k d (omega arith)

pub early_times : (ops : List (Op Timed)) → list_all is_early ops ≡ true → All (λ t. t < 2 ^ 32) (times_of ops)
early_times ops h zero d lt = (let z : 0 < 2 ^ 32 = omega arith in z)
early_times ops h (suc k) d lt = early_in ops h k d (omega arith)

pub early_ops : (times : List ℕ) (ops : List (Op Timed)) → AreTimes times ops → All (λ t. t < 2 ^ 32) times → list_all is_early ops ≡ true
early_ops times ops are h = all_from is_early ops (λ k op e.
    let start = are.starts k op e in
    let small : slice_index times (k + 1) < 2 ^ 32 = (elim (cases_lt (k + 1) (length times)) [
      | inl lt ↦ h (k + 1) 0 lt
      | inr past ↦ (let none = get_or_past times (k + 1) 0 past in omega arith)
    ]) in
    lt-ltb op.stamp.start (2 ^ 32) (omega arith))

-- ---- edges

pub loop_edges : (ii : ℕ) (times : List ℕ) (edges : List Edge) → all_kept (Some ii) times edges ≡ true → All (Keeps times ii) edges
loop_edges ii times edges h k d lt =
    let e = get_or edges k d in
    leb-true (slice_index times e.from + e.latency) (slice_index times e.to + ii * e.distance) (AllPass-from_list_all (kept (Some ii) times) edges h k d lt)

pub loop_edges_to : (ii : ℕ) (times : List ℕ) (edges : List Edge) → All (Keeps times ii) edges → all_kept (Some ii) times edges ≡ true
loop_edges_to ii times edges h = list_all-from_AllPass (kept (Some ii) times) edges (λ k d lt.
    let e = get_or edges k d in
    le-leb (slice_index times e.from + e.latency) (slice_index times e.to + ii * e.distance) (h k d lt))

abbrev pub KeepsNow : List ℕ → List Edge → Type 0
KeepsNow times edges = (e : Edge) → Contains edges e → e.distance ≡ 0 → Keeps times 0 e

pub block_edges : (times : List ℕ) (edges : List Edge) → all_kept None times edges ≡ true → KeepsNow times edges
block_edges times edges h e c none =
    let passes = All-contains (λ x. kept None times x ≡ true) edges e (AllPass-from_list_all (kept None times) edges h) c in
    elim (or_cases (nat_lt 0 e.distance) (nat_le (slice_index times e.from + e.latency) (slice_index times e.to)) passes) [
      | inl far ↦ (let some = ltb-true 0 e.distance far in absurd (omega arith))
      | inr near ↦ (let le = leb-true (slice_index times e.from + e.latency) (slice_index times e.to) near in omega arith)
    ]

pub block_edges_to : (times : List ℕ) (edges : List Edge) → KeepsNow times edges → all_kept None times edges ≡ true
block_edges_to times edges h = list_all-from_AllPass (kept None times) edges (λ k d lt.
    let e = get_or edges k d in
    elim (cases_lt 0 e.distance) [
      | inl far ↦ or_left (nat_lt 0 e.distance) (nat_le (slice_index times e.from + e.latency) (slice_index times e.to)) (lt-ltb 0 e.distance far)
      | inr near ↦
          let le = h e (Contains-get_or edges k d lt) (omega arith) in
          or_right (nat_lt 0 e.distance) (nat_le (slice_index times e.from + e.latency) (slice_index times e.to)) (le-leb (slice_index times e.from + e.latency) (slice_index times e.to) (omega arith))
    ])

-- ---- all of a body

pub record IsInTime (interval : Option ℕ) (memories : List Memory) (b : Body Timed) (ops : List (Op Timed)) : Type 0 where
  pub early : list_all is_early ops ≡ true
  pub waits : list_all (λ op. data_in_time interval b op && test_in_time interval b op) ops ≡ true
  pub free : list_all (λ op. free_again interval (class_of memories op) (held op)) ops ≡ true
  pub accesses : each_pair (accesses_in_time interval b) ops ≡ true
  pub units : each_pair (units_in_time interval memories) ops ≡ true

module _ (interval : Option ℕ) (memories : List Memory) (b : Body Timed) where
  abbrev waiting : Op Timed → Bool
  waiting op = data_in_time interval b op && test_in_time interval b op

  abbrev freed : Op Timed → Bool
  freed op = free_again interval (class_of memories op) (held op)

  parts : (ops : List (Op Timed)) → ops_in_time interval memories b ops ≡ true → IsInTime interval memories b ops
  parts [] h = record { early = refl; waits = refl; free = refl; accesses = refl; units = refl }
  parts (op ∷ ops) h =
      let x = and_parts (op_in_time interval memories b op && list_all (pair_in_time interval memories b op) ops) (ops_in_time interval memories b ops) h in
      let y = and_parts (op_in_time interval memories b op) (list_all (pair_in_time interval memories b op) ops) x.0 in
      let early = and_parts (is_early op) (data_in_time interval b op && (test_in_time interval b op && freed op)) y.0 in
      let data_ = and_parts (data_in_time interval b op) (test_in_time interval b op && freed op) early.1 in
      let test = and_parts (test_in_time interval b op) (freed op) data_.1 in
      let pairs = and_parts (list_all (accesses_in_time interval b op) ops) (list_all (units_in_time interval memories op) ops) (sym (all_both (accesses_in_time interval b op) (units_in_time interval memories op) ops) ∙ y.1) in
      let rest = parts ops x.1 in
      record {
        early = and_from (is_early op) (list_all is_early ops) early.0 rest.early;
        waits = and_from (waiting op) (list_all waiting ops) (and_from (data_in_time interval b op) (test_in_time interval b op) data_.0 test.0) rest.waits;
        free = and_from (freed op) (list_all freed ops) test.1 rest.free;
        accesses = and_from (list_all (accesses_in_time interval b op) ops) (each_pair (accesses_in_time interval b) ops) pairs.0 rest.accesses;
        units = and_from (list_all (units_in_time interval memories op) ops) (each_pair (units_in_time interval memories) ops) pairs.1 rest.units;
      }

  whole : (ops : List (Op Timed)) → IsInTime interval memories b ops → ops_in_time interval memories b ops ≡ true
  whole [] h = refl
  whole (op ∷ ops) h =
      let early = and_parts (is_early op) (list_all is_early ops) h.early in
      let waits = and_parts (waiting op) (list_all waiting ops) h.waits in
      let both = and_parts (data_in_time interval b op) (test_in_time interval b op) waits.0 in
      let free = and_parts (freed op) (list_all freed ops) h.free in
      let accesses = and_parts (list_all (accesses_in_time interval b op) ops) (each_pair (accesses_in_time interval b) ops) h.accesses in
      let units = and_parts (list_all (units_in_time interval memories op) ops) (each_pair (units_in_time interval memories) ops) h.units in
      let one = and_from (is_early op) (data_in_time interval b op && (test_in_time interval b op && freed op)) early.0
      (and_from (data_in_time interval b op) (test_in_time interval b op && freed op) both.0 (and_from (test_in_time interval b op) (freed op) both.1 free.0)) in
      let pairs = all_both (accesses_in_time interval b op) (units_in_time interval memories op) ops ∙ and_from (list_all (accesses_in_time interval b op) ops) (list_all (units_in_time interval memories op) ops) accesses.0 units.0 in
      and_from (op_in_time interval memories b op && list_all (pair_in_time interval memories b op) ops) (ops_in_time interval memories b ops)
      (and_from (op_in_time interval memories b op) (list_all (pair_in_time interval memories b op) ops) one pairs)
      (whole ops (record { early = early.1; waits = waits.1; free = free.1; accesses = accesses.1; units = units.1 }))

  pub body_parts : body_in_time interval memories b ≡ true → IsInTime interval memories b b.ops.items
  body_parts h = parts b.ops.items h

  pub body_whole : IsInTime interval memories b b.ops.items → body_in_time interval memories b ≡ true
  body_whole h = whole b.ops.items h

-- the edges of a body are kept where its operations wait
pub edges_from : (interval : Option ℕ) (memories : List Memory) (b : Body Timed) (times : List ℕ) → AreTimes times b.ops.items → IsInTime interval memories b b.ops.items → all_kept interval times (edges_of (untimed_body b)) ≡ true
edges_from interval memories b times are h =
    edges_kept interval b times are ∙ and_from (list_all (λ op. data_in_time interval b op && test_in_time interval b op) b.ops.items) (each_pair (accesses_in_time interval b) b.ops.items) h.waits h.accesses

pub record Waits (interval : Option ℕ) (b : Body Timed) : Type 0 where
  pub waits : list_all (λ op. data_in_time interval b op && test_in_time interval b op) b.ops.items ≡ true
  pub accesses : each_pair (accesses_in_time interval b) b.ops.items ≡ true

pub edges_to : (interval : Option ℕ) (b : Body Timed) (times : List ℕ) → AreTimes times b.ops.items → all_kept interval times (edges_of (untimed_body b)) ≡ true → Waits interval b
edges_to interval b times are h =
    let p = and_parts (list_all (λ op. data_in_time interval b op && test_in_time interval b op) b.ops.items) (each_pair (accesses_in_time interval b) b.ops.items) (sym (edges_kept interval b times are) ∙ h) in
    record { waits = p.0; accesses = p.1 }
