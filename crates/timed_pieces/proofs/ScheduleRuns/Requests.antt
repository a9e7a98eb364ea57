-- The operations that share units, as requests: each comes once, and behind those of the classes before its own.
use Rattle.std.proofs.Common.{◌≡◌, ◌≢◌, ℕ, zero, suc, ◌+◌, ◌<◌, ◌≤◌, inl, inr, List, [], ◌∷◌, ◌++◌, length, get_or, true≢false, false, refl, sym, ap, subst, ◌∙◌, arith, ne_eqb, eq-eqb}
use Rattle.std.specs.Prelude.{Bool, ◌==◌, slice_get, Option, Some, None}
use Rattle.std.specs.Ordering.{is_lt}
use Rattle.std.specs.List.{All, AllByRecursion, IsDistinct}
use Rattle.std.specs.List.Sorted.{IsSorted}
use Rattle.std.proofs.lemmas.List.Elements.{All-nil, All-cons, All-head, All-tail, All-append, All-weaker, All-contains, recursion_from_All, All-from_recursion}
use Rattle.std.proofs.lemmas.Map.Keys.{IsDistinct-head, IsDistinct-tail, IsDistinct-cons}
use Rattle.ir_core.specs.declared.body.Op.{Op}
use Rattle.ir_core.specs.declared.cfg.Memory.{Memory}
use Rattle.ir_core.specs.declared.stamp.Untimed.{Untimed}
use Rattle.ir_core.specs.Timing.{unit_class, occupancy}
use Rattle.ir_core.specs.declared.timing.UnitClass.{UnitClass}
use Rattle.unit_binding.specs.declared.bind.Request.{Request}
use Rattle.unit_binding.specs.Binding.{request_of, requests_from}
use Rattle.report_rows.specs.Timing.{request_order}
use Rattle.clock_runs.proofs.Lists.{some_same, no_some}
use Rattle.timed_pieces.proofs.ScheduleRuns.Serving.{Has, has_right, has_contains}
use Rattle.timed_pieces.proofs.ScheduleRuns.Classes.{held_by, Upto, class_held, request_up}
use Rattle.timed_pieces.proofs.ScheduleRuns.Dealing.{Follow}

-- ---- each operation of a class makes a request

pub record IsAsked (requests : List Request) (op : ℕ) (class : UnitClass) : Type 0 where
  pub request : Request
  pub there : Has request requests
  pub of_class : request.class ≡ class
  pub of_op : request.op ≡ op

-- a request of an operation with one of these numbers
pub record IsOf (low high : ℕ) (r : Request) : Type 0 where
  pub from : low ≤ r.op
  pub upto : r.op < high
  pub held : r.occupancy ≡ held_by r.class

abbrev pub same_op : Request → Request → Bool
same_op r s = r.op == s.op

module _ (times : List ℕ) (memories : List Memory) where
  abbrev class_of : Op Untimed → Option UnitClass
  class_of op = unit_class op.kind op.bits op.array memories

  first_asked : (time k held : ℕ) (p : Option UnitClass) (class : UnitClass) (rest : List Request) → p ≡ Some class → IsAsked (request_of p time k held ++ rest) k class
  first_asked time k held None class rest e = absurd (no_some e)
  first_asked time k held (Some c) class rest e = record {
    request = record { class = c; time = time; op = k; occupancy = held };
    there = inl refl;
    of_class = some_same e;
    of_op = refl;
  }

  pub all_asked : (k : ℕ) (ops : List (Op Untimed)) (i : ℕ) (op : Op Untimed) (class : UnitClass) → slice_get ops i ≡ Some op → class_of op ≡ Some class → IsAsked (requests_from times memories k ops) (k + i) class
  all_asked k [] i op class e f = absurd (no_some e)
  all_asked k (p ∷ ops) zero op class e f =
      let same : class_of p ≡ Some class = ap class_of (some_same e) ∙ f in
      let first = first_asked (get_or times (k + 1) 0) k (occupancy p.kind p.bits) (class_of p) class (requests_from times memories (suc k) ops) same in
      record { request = first.request; there = first.there; of_class = first.of_class; of_op = (let z = first.of_op in omega arith) }
  all_asked k (p ∷ ops) (suc i) op class e f =
      let later = all_asked (suc k) ops i op class e f in
      record {
        request = later.request;
        there = has_right later.request (request_of (class_of p) (get_or times (k + 1) 0) k (occupancy p.kind p.bits)) (requests_from times memories (suc k) ops) later.there;
        of_class = later.of_class;
        of_op = (let z = later.of_op in omega arith);
      }

  -- ---- each request is of one of these operations

  one_of : (k high held time : ℕ) (p : Option UnitClass) → k < high → ((c : UnitClass) → p ≡ Some c → held ≡ held_by c) → All (IsOf k high) (request_of p time k held)
  one_of k high held time None lt h = All-nil (IsOf k high)
  one_of k high held time (Some c) lt h = All-cons (IsOf k high) (record { class = c; time = time; op = k; occupancy = held }) [] (record { from = omega arith; upto = lt; held = h c refl }) (All-nil (IsOf k high))

  pub all_of : (k : ℕ) (ops : List (Op Untimed)) → All (IsOf k (k + length ops)) (requests_from times memories k ops)
  all_of k [] = All-nil (IsOf k (k + 0))
  all_of k (p ∷ ops) =
      let high = k + suc (length ops) in
      let rest : All (IsOf k high) (requests_from times memories (suc k) ops) =
      All-weaker (IsOf (suc k) (suc k + length ops)) (IsOf k high) (λ r h. record { from = (let z = h.from in omega arith); upto = (let z = h.upto in omega arith); held = h.held }) (requests_from times memories (suc k) ops) (all_of (suc k) ops) in
      All-append (IsOf k high) (request_of (class_of p) (get_or times (k + 1) 0) k (occupancy p.kind p.bits)) (requests_from times memories (suc k) ops)
      (one_of k high (occupancy p.kind p.bits) (get_or times (k + 1) 0) (class_of p) (omega arith) (λ c e. class_held p.kind p.bits p.array memories c e)) rest

  -- ---- each comes once

  one_more : (time k held : ℕ) (p : Option UnitClass) (rest : List Request) → All (λ r. suc k ≤ r.op) rest → IsDistinct same_op rest → IsDistinct same_op (request_of p time k held ++ rest)
  one_more time k held None rest above distinct = distinct
  one_more time k held (Some c) rest above distinct =
      let r : Request = record { class = c; time = time; op = k; occupancy = held } in
      IsDistinct-cons same_op r rest
      (recursion_from_All (λ s. same_op r s ≡ false) rest (All-weaker (λ (s : Request). suc k ≤ s.op) (λ s. same_op r s ≡ false) (λ s h. ne_eqb k s.op (λ e. omega arith)) rest above)) distinct

  pub all_once : (k : ℕ) (ops : List (Op Untimed)) → IsDistinct same_op (requests_from times memories k ops)
  unfolding IsDistinct
  all_once k [] = tt
  all_once k (p ∷ ops) =
      one_more (get_or times (k + 1) 0) k (occupancy p.kind p.bits) (class_of p) (requests_from times memories (suc k) ops)
      (All-weaker (IsOf (suc k) (suc k + length ops)) (λ (r : Request). suc k ≤ r.op) (λ r h. h.from) (requests_from times memories (suc k) ops) (all_of (suc k) ops)) (all_once (suc k) ops)

-- ---- one after another

-- the first one is of no earlier class
Rises : Option UnitClass → List Request → Type 0
Rises class [] = Unit {0}
Rises class (q ∷ qs) = (c : UnitClass) → class ≡ Some c → Upto c q.class

tail_sorted : (q : Request) (qs : List Request) → IsSorted request_order (q ∷ qs) → IsSorted request_order qs
tail_sorted q qs sorted k d low lt =
    let e : suc k + 1 ≡ suc (k + 1) = omega arith in
    subst (λ n. is_lt (request_order (get_or (q ∷ qs) n d) (get_or qs k d)) ≡ false) e (sorted (suc k) d (omega arith) (omega arith))

next_rises : (q : Request) (qs : List Request) → IsSorted request_order (q ∷ qs) → Rises (Some q.class) qs
unfolding Rises
next_rises q [] sorted = tt
next_rises q (p ∷ qs) sorted =
    let up : Upto q.class p.class = request_up q p (sorted 0 q (omega arith) (omega arith)) in
    (λ c e. subst (λ x. Upto x p.class) (some_same e) up)

follow : (count : ℕ) (requests done : List Request) (class : Option UnitClass) → All (IsOf 0 count) requests → IsDistinct same_op requests → IsSorted request_order requests → Rises class requests
    → ((r q : Request) → Has r done → Has q requests → r.op ≢ q.op) → Follow count done class requests
unfolding Rises
follow count [] done class all once sorted rises apart = tt
follow count (q ∷ qs) done class all once sorted rises apart =
    let own : IsOf 0 count q = All-head (IsOf 0 count) q qs all in
    let differ : AllByRecursion (λ s. same_op q s ≡ false) qs = IsDistinct-head same_op q qs once in (
      record {
        inside = own.upto;
        other = λ r h. apart r q h (inl refl);
        rises = rises;
        held = own.held;
      },
      follow count qs (q ∷ done) (Some q.class) (All-tail (IsOf 0 count) q qs all) (IsDistinct-tail same_op q qs once) (tail_sorted q qs sorted) (next_rises q qs sorted)
          (λ r s h g. elim h [
            | inl e ↦ (λ same. true≢false (sym (eq-eqb r.op s.op same) ∙ ap (λ (x : Request). same_op x s) e ∙ All-contains (λ x. same_op q x ≡ false) qs s (All-from_recursion (λ x. same_op q x ≡ false) qs differ) (has_contains s qs g)))
            | inr old ↦ apart r s old (inr g)
          ]),
    )

pub all_follow : (count : ℕ) (requests : List Request) → All (IsOf 0 count) requests → IsDistinct same_op requests → IsSorted request_order requests → Follow count [] None requests
unfolding Rises
all_follow count requests all once sorted = follow count requests [] None all once sorted (none_before requests) (λ r q h g. absurd h)
  where
    none_before : (requests : List Request) → Rises None requests
    none_before [] = tt
    none_before (q ∷ qs) = (λ c e. absurd (no_some e))
