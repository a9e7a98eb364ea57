-- Requests that are sorted have ranks that rise within each class.
use Rattle.std.proofs.Common.{◌≡◌, ℕ, suc, ◌+◌, ◌*◌, ◌<◌, ◌≤◌, ◌⊎◌, inl, inr, List, [], ◌∷◌, ◌++◌, length, get_or, true, false, refl, subst, ne_eqb, arith}
use Rattle.std.specs.Prelude.{Bool, ◌==◌, slice_index, Option, Some, None}
use Rattle.std.specs.Ordering.{is_lt}
use Rattle.std.specs.declared.cmp.Ordering.{Ordering}
use Rattle.std.specs.List.{All, AllByRecursion, IsDistinct}
use Rattle.std.specs.List.Sorted.{IsSorted, IsPermutation}
use Rattle.std.proofs.lemmas.Nat.{mul-le}
use Rattle.std.proofs.lemmas.Bool.Decides.{nat_tests}
use Rattle.std.proofs.lemmas.List.Elements.{All-nil, All-cons, All-head, All-tail, All-append, All-weaker, recursion_from_All}
use Rattle.std.proofs.lemmas.List.Sorted.{All-permutation}
use Rattle.std.proofs.lemmas.Map.Keys.{IsDistinct-head, IsDistinct-tail, IsDistinct-cons, IsDistinct-IsPermutation}
use Rattle.ir_core.specs.declared.body.Op.{Op}
use Rattle.ir_core.specs.declared.cfg.Memory.{Memory}
use Rattle.ir_core.specs.declared.stamp.Untimed.{Untimed}
use Rattle.ir_core.specs.Timing.{unit_class, occupancy}
use Rattle.ir_core.specs.declared.timing.UnitClass.{UnitClass}
use Rattle.unit_binding.specs.declared.bind.Request.{Request}
use Rattle.unit_binding.specs.Binding.{is_class, request_of, requests_from}
use Rattle.unit_binding.proofs.Serving.{ServesByTime}
use Rattle.unit_binding.proofs.Dealing.{Climb}

-- ---- ranks

-- nodes by their times, and those of one time by their numbers
abbrev pub rank_of : List ℕ → ℕ → ℕ → ℕ
rank_of times nodes node = slice_index times node * nodes + node

-- at a time no earlier, a greater number has the greater rank
pub number_ranks : (t u nodes a b : ℕ) → t ≤ u → a < b → t * nodes + a < u * nodes + b
number_ranks t u nodes a b le lt = omega (arith, mul-le t nodes u nodes le (omega arith))

-- a later time has the greater rank
pub time_ranks : (t u nodes a b : ℕ) → t < u → a < nodes → t * nodes + a < u * nodes + b
time_ranks t u nodes a b lt inside =
    let one_more : suc t * nodes ≡ t * nodes + nodes = grind arith in
    omega (arith, mul-le (suc t) nodes u nodes (omega arith) (omega arith), one_more)

-- ---- requests

abbrev same_op : Request → Request → Bool
same_op r s = r.op == s.op

same_either : (x y : ℕ) → (x == y) ≡ (y == x)
same_either x y = grind (arith, nat_tests)

greater : (a b : ℕ) → a ≤ b → (a == b) ≡ false → a < b
greater a b le differ = grind (arith, nat_tests)

module _ (times : List ℕ) where
  -- a request of an operation with one of these numbers, at its time
  record IsOf (low high : ℕ) (r : Request) : Type 0 where
    from : low ≤ r.op
    upto : r.op < high
    at : r.time ≡ slice_index times (r.op + 1)

  module _ (memories : List Memory) where
    abbrev class_of : Op Untimed → Option UnitClass
    class_of op = unit_class op.kind op.bits op.array memories

    one_of : (k high held : ℕ) (p : Option UnitClass) → k < high → All (IsOf k high) (request_of p (slice_index times (k + 1)) k held)
    one_of k high held None lt = All-nil (IsOf k high)
    one_of k high held (Some c) lt =
        All-cons (IsOf k high) (record { class = c; time = slice_index times (k + 1); op = k; occupancy = held }) [] (record { from = omega arith; upto = lt; at = refl }) (All-nil (IsOf k high))

    all_of : (k : ℕ) (ops : List (Op Untimed)) → All (IsOf k (k + length ops)) (requests_from times memories k ops)
    all_of k [] = All-nil (IsOf k (k + 0))
    all_of k (p ∷ ops) =
        let high = k + suc (length ops) in
        let rest : All (IsOf k high) (requests_from times memories (suc k) ops) =
        All-weaker (IsOf (suc k) (suc k + length ops)) (IsOf k high) (λ r h. record { from = (let z = h.from in omega arith); upto = (let z = h.upto in omega arith); at = h.at }) (requests_from times memories (suc k) ops) (all_of (suc k) ops) in
        All-append (IsOf k high) (request_of (class_of p) (slice_index times (k + 1)) k (occupancy p.kind p.bits)) (requests_from times memories (suc k) ops)
        (one_of k high (occupancy p.kind p.bits) (class_of p) (omega arith)) rest

    one_more : (time k held : ℕ) (p : Option UnitClass) (rest : List Request) → All (λ r. suc k ≤ r.op) rest → IsDistinct same_op rest → IsDistinct same_op (request_of p time k held ++ rest)
    one_more time k held None rest above distinct = distinct
    one_more time k held (Some c) rest above distinct =
        let r : Request = record { class = c; time = time; op = k; occupancy = held } in
        IsDistinct-cons same_op r rest
        (recursion_from_All (λ s. same_op r s ≡ false) rest (All-weaker (λ (s : Request). suc k ≤ s.op) (λ s. same_op r s ≡ false) (λ s h. ne_eqb k s.op (λ e. omega arith)) rest above)) distinct

    all_once : (k : ℕ) (ops : List (Op Untimed)) → IsDistinct same_op (requests_from times memories k ops)
    unfolding IsDistinct
    all_once k [] = tt
    all_once k (p ∷ ops) =
        one_more (slice_index times (k + 1)) k (occupancy p.kind p.bits) (class_of p) (requests_from times memories (suc k) ops)
        (All-weaker (IsOf (suc k) (suc k + length ops)) (λ (r : Request). suc k ≤ r.op) (λ r h. h.from) (requests_from times memories (suc k) ops) (all_of (suc k) ops)) (all_once (suc k) ops)

  -- ---- in order

  module _ (order : Request → Request → Ordering) (by_time : ServesByTime order) (count : ℕ) where
    abbrev pub key : ℕ → ℕ
    key op = rank_of times (count + 1) (op + 1)

    tail_sorted : (q : Request) (qs : List Request) → IsSorted order (q ∷ qs) → IsSorted order qs
    tail_sorted q qs sorted k d low lt =
        let e : suc k + 1 ≡ suc (k + 1) = omega arith in
        subst (λ n. is_lt (order (get_or (q ∷ qs) n d) (get_or qs k d)) ≡ false) e (sorted (suc k) d (omega arith) (omega arith))

    pair_ranks : (q p : Request) → IsOf 0 count q → (q.time < p.time) ⊎ ((q.time ≡ p.time) × (q.op ≤ p.op)) → same_op q p ≡ false → IsOf 0 count p → key q.op < key p.op
    pair_ranks q p of_q serves differ of_p =
        let first = of_q.at in
        let second = of_p.at in
        let inside = of_q.upto in
        elim serves [
          | inl lt ↦ time_ranks (slice_index times (q.op + 1)) (slice_index times (p.op + 1)) (count + 1) (q.op + 1) (p.op + 1) (omega arith) (omega arith)
          | inr le ↦
              (let same = le.0 in let upto = le.1 in
              number_ranks (slice_index times (q.op + 1)) (slice_index times (p.op + 1)) (count + 1) (q.op + 1) (p.op + 1) (omega arith) (let z = greater q.op p.op upto differ in omega arith))
        ]

    -- the first one is beyond the limit, where it is of the class
    Begins : Option UnitClass → ℕ → List Request → Type 0
    Begins class limit [] = Unit {0}
    Begins class limit (q ∷ qs) = is_class class q.class ≡ true → limit ≤ key q.op

    next_begins : (q : Request) (qs : List Request) → All (IsOf 0 count) (q ∷ qs) → IsDistinct same_op (q ∷ qs) → IsSorted order (q ∷ qs) → Begins (Some q.class) (key q.op + 1) qs
    unfolding Begins
    next_begins q [] all once sorted = tt
    next_begins q (p ∷ qs) all once sorted =
        let of_q : IsOf 0 count q = All-head (IsOf 0 count) q (p ∷ qs) all in
        let of_p : IsOf 0 count p = All-head (IsOf 0 count) p qs (All-tail (IsOf 0 count) q (p ∷ qs) all) in
        let differ : AllByRecursion (λ s. same_op q s ≡ false) (p ∷ qs) = IsDistinct-head same_op q (p ∷ qs) once in
        (λ same. (let lt = pair_ranks q p of_q (by_time q p same (sorted 0 q (omega arith) (omega arith))) differ.0 of_p in omega arith))

    climbs : (requests : List Request) (class : Option UnitClass) (limit : ℕ) → All (IsOf 0 count) requests → IsDistinct same_op requests → IsSorted order requests → Begins class limit requests → Climb key class limit requests
    unfolding Begins
    climbs [] class limit all once sorted begins = tt
    climbs (q ∷ qs) class limit all once sorted begins = (
      begins,
      climbs qs (Some q.class) (key q.op + 1) (All-tail (IsOf 0 count) q qs all) (IsDistinct-tail same_op q qs once) (tail_sorted q qs sorted) (next_begins q qs all once sorted),
    )

    begin : (requests : List Request) → Begins None 0 requests
    unfolding Begins
    begin [] = tt
    begin (q ∷ qs) = (λ same. omega arith)

    pub requests_climb : (memories : List Memory) (ops : List (Op Untimed)) (requests : List Request) → length ops ≡ count → IsPermutation (requests_from times memories 0 ops) requests → IsSorted order requests → Climb key None 0 requests
    requests_climb memories ops requests long moved sorted =
        let all = requests_from times memories 0 ops in
        climbs requests None 0
        (All-permutation (IsOf 0 count) all requests moved (subst (λ n. All (IsOf 0 n) all) (let z : 0 + length ops ≡ count = omega arith in z) (all_of memories 0 ops)))
        (IsDistinct-IsPermutation same_op (λ r s. same_either r.op s.op) all requests moved (all_once memories 0 ops))
        sorted (begin requests)

-- requests are of operations of the body
pub requests_inside : (times : List ℕ) (memories : List Memory) (ops : List (Op Untimed)) (requests : List Request) → IsPermutation (requests_from times memories 0 ops) requests → All (λ (q : Request). q.op < length ops) requests
requests_inside times memories ops requests moved =
    All-permutation (λ (q : Request). q.op < length ops) (requests_from times memories 0 ops) requests moved
    (All-weaker (IsOf times 0 (0 + length ops)) (λ (q : Request). q.op < length ops) (λ q h. (let z = h.upto in omega arith)) (requests_from times memories 0 ops) (all_of times memories 0 ops))
