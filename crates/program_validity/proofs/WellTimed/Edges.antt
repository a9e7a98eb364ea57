-- The edges of a body are kept where its operations start in time.
use Rattle.std.proofs.Common.{◌≡◌, ℕ, zero, suc, ◌+◌, ◌<◌, ◌==◌, ◌∙◌, sym, refl, ap, ap₂, Bool, true, false, not, ◌&&◌, ◌||◌, List, [], ◌∷◌, ◌++◌, map, Option, Some, None, pos, negsuc, min, if◌then◌else◌, inl, inr, arith}
use Rattle.std.specs.Prelude.{slice_get, slice_index, option_to_list, nat_lt}
use Rattle.std.specs.Option.{option_map}
use Rattle.std.specs.List.{list_all}
use Rattle.std.proofs.lemmas.Bool.{cases_eq, eq-eqb, ne_eqb, lt-ltb, le-ltb}
use Rattle.std.proofs.lemmas.List.Folds.{list_all-append}
use Rattle.hls_base.specs.declared.number.ArrayId.{ArrayId}
use Rattle.hls_base.specs.declared.number.OpId.{OpId}
use Rattle.ir_core.specs.declared.body.Body.{Body}
use Rattle.ir_core.specs.declared.body.Op.{Op}
use Rattle.ir_core.specs.declared.body.Operand.{Operand}
use Rattle.ir_core.specs.declared.stamp.Untimed.{Untimed}
use Rattle.ir_core.specs.Timing.{latency}
use Rattle.ir_core.specs.declared.timed.Timed.{Timed}
use Rattle.dep_graph.specs.declared.access.Meeting.{Meeting}
use Rattle.dep_graph.specs.declared.access.Meeting.TheVariants as m
use Rattle.dep_graph.specs.declared.edge.Edge.{Edge}
use Rattle.dep_graph.specs.declared.edge.Why.{Why}
use Rattle.dep_graph.specs.declared.edge.Why.TheVariants as w
use Rattle.dep_graph.specs.Offsets.{sums_of}
use Rattle.dep_graph.specs.Meetings.{Reach, is_store, subscripts_of, reach_of, reaches_from, distances_between}
use Rattle.dep_graph.specs.Dependences.{gather, maker_of, edge_behind, edges_behind, data_edge, data_edges, test_maker, control_edges, op_edges, memory_edge, edges_at, is_pair, memory_edges, edges_of_reaches, edges_of}
use Rattle.program_validity.specs.Untimed.{untimed_op, untimed_body}
use Rattle.program_validity.specs.Checks.{in_time, op_at, made_in_time, operand_in_time, data_in_time, test_in_time, gap, meeting_in_time, distances, same_array, accesses_in_time}
use Rattle.program_validity.proofs.WellTimed.Lists.{nth_get, get_map}
use Rattle.program_validity.proofs.WellTimed.Tests.{and_true, all_same, all_gather, each_pair, square, square_pairs}

-- operation k starts at the time of node k + 1
pub record AreTimes (times : List ℕ) (ops : List (Op Timed)) : Type 0 where
  pub begins : slice_index times 0 ≡ 0
  pub starts : (k : ℕ) (op : Op Timed) → slice_get ops k ≡ Some op → slice_index times (k + 1) ≡ op.stamp.start

abbrev pub kept : Option ℕ → List ℕ → Edge → Bool
kept interval times e = in_time interval (slice_index times e.from) (slice_index times e.to) e.latency e.distance

abbrev pub all_kept : Option ℕ → List ℕ → List Edge → Bool
all_kept interval times edges = list_all (kept interval times) edges

eqb_swapped : (x y : ℕ) → (x == y) ≡ (y == x)
eqb_swapped x y = elim (cases_eq x y) [
  | inl e ↦ eq-eqb x y e ∙ sym (eq-eqb y x (sym e))
  | inr n ↦ ne_eqb x y n ∙ sym (ne_eqb y x (λ e. n (sym e)))
]

module _ (interval : Option ℕ) (b : Body Timed) (times : List ℕ) (are : AreTimes times b.ops.items) where
  abbrev ops : List (Op Timed)
  ops = b.ops.items

  abbrev plain : Body Untimed
  plain = untimed_body b

  abbrev kept_all : List Edge → Bool
  kept_all edges = all_kept interval times edges

  -- ---- values

  behind_kept : (j : ℕ) (o : Option (Op Timed)) (to later distance : ℕ) (why : Why) → slice_get ops j ≡ o → slice_index times to ≡ later
      → kept_all (edge_behind j (option_map untimed_op o) to distance why) ≡ made_in_time interval o later distance
  behind_kept j None to later distance why e t = refl
  behind_kept j (Some op) to later distance why e t =
      and_true (in_time interval (slice_index times (j + 1)) (slice_index times to) (latency op.kind op.bits) distance)
      ∙ ap₂ (λ x y. in_time interval x y (latency op.kind op.bits) distance) (are.starts j op e) t

  made_kept : (maker : Option OpId) (to later distance : ℕ) (why : Why) → slice_index times to ≡ later → kept_all (edges_behind plain.ops.items maker to distance why) ≡ made_in_time interval (op_at ops maker) later distance
  made_kept None to later distance why t = refl
  made_kept (Some j) to later distance why t =
      ap (λ o. kept_all (edge_behind j.0 o to distance why)) (nth_get plain.ops.items j.0 ∙ get_map untimed_op ops j.0) ∙ behind_kept j.0 (slice_get ops j.0) to later distance why refl t

  operand_kept : (to later : ℕ) (x : Operand) → slice_index times to ≡ later → kept_all (data_edge plain to x) ≡ operand_in_time interval b later x
  operand_kept to later x t = made_kept (maker_of b.outs.items x) to later x.distance w.Data t

  operands_kept : (to later : ℕ) (xs : List Operand) → slice_index times to ≡ later → kept_all (gather (data_edge plain to) xs) ≡ list_all (operand_in_time interval b later) xs
  operands_kept to later xs t =
      all_gather (kept interval times) (data_edge plain to) xs ∙ all_same (λ x. kept_all (data_edge plain to x)) (operand_in_time interval b later) xs (λ x. operand_kept to later x t)

  data_kept : (to : ℕ) (op : Op Timed) → slice_index times to ≡ op.stamp.start → kept_all (data_edges plain to (untimed_op op)) ≡ data_in_time interval b op
  data_kept to op t =
      list_all-append (kept interval times) (gather (data_edge plain to) op.args.items) (gather (data_edge plain to) (option_to_list op.guard))
      ∙ ap₂ (λ x y. x && y) (operands_kept to op.stamp.start op.args.items t) (operands_kept to op.stamp.start (option_to_list op.guard) t)

  control_kept : (to : ℕ) (op : Op Timed) → slice_index times to ≡ op.stamp.start → kept_all (control_edges plain to (untimed_op op)) ≡ test_in_time interval b op
  control_kept to op t =
      elim (is_store op.kind) as (λ s. kept_all (if s then edges_behind plain.ops.items (test_maker b.test) to 0 w.Control else []) ≡ (if s then made_in_time interval (op_at ops (test_maker b.test)) op.stamp.start 0 else true)) [
        | true ↦ made_kept (test_maker b.test) to op.stamp.start 0 w.Control t
        | false ↦ refl
      ]

  -- the operations from operation k on
  abbrev Behind : ℕ → List (Op Timed) → Type 0
  Behind k rest = (i : ℕ) (op : Op Timed) → slice_get rest i ≡ Some op → slice_index times (k + i + 1) ≡ op.stamp.start

  behind_next : (k : ℕ) (op : Op Timed) (rest : List (Op Timed)) → Behind k (op ∷ rest) → Behind (suc k) rest
  behind_next k op rest h i o e = ap (slice_index times) (let z : suc k + i + 1 ≡ k + suc i + 1 = omega arith in z) ∙ h (suc i) o e

  behind_first : (k : ℕ) (op : Op Timed) (rest : List (Op Timed)) → Behind k (op ∷ rest) → slice_index times (k + 1) ≡ op.stamp.start
  behind_first k op rest h = ap (slice_index times) (let z : k + 1 ≡ k + 0 + 1 = omega arith in z) ∙ h zero op refl

  abbrev waits : Op Timed → Bool
  waits op = data_in_time interval b op && test_in_time interval b op

  ops_kept : (k : ℕ) (rest : List (Op Timed)) → Behind k rest → kept_all (op_edges plain k (map untimed_op rest)) ≡ list_all waits rest
  ops_kept k [] h = refl
  ops_kept k (op ∷ rest) h =
      let t = behind_first k op rest h in
      let data_ = data_edges plain (k + 1) (untimed_op op) in
      let control = control_edges plain (k + 1) (untimed_op op) in
      list_all-append (kept interval times) (data_ ++ control) (op_edges plain (suc k) (map untimed_op rest))
      ∙ ap₂ (λ x y. x && y) (list_all-append (kept interval times) data_ control ∙ ap₂ (λ x y. x && y) (data_kept (k + 1) op t) (control_kept (k + 1) op t)) (ops_kept (suc k) rest (behind_next k op rest h))

  -- ---- accesses

  abbrev reach_at : ℕ → Op Timed → ArrayId → Reach
  reach_at k op array = record { op = k; array = array; is_store = is_store op.kind; subscripts = subscripts_of plain (sums_of plain) (untimed_op op) }

  one_edge : (k n : ℕ) (from to : Op Timed) (a c : ArrayId) (distance : ℕ) → slice_index times (k + 1) ≡ from.stamp.start → slice_index times (n + 1) ≡ to.stamp.start
      → kept_all (memory_edge (reach_at k from a) (reach_at n to c) distance ∷ []) ≡ in_time interval from.stamp.start to.stamp.start (gap from) distance
  one_edge k n from to a c distance s t =
      and_true (in_time interval (slice_index times (k + 1)) (slice_index times (n + 1)) (gap from) distance) ∙ ap₂ (λ x y. in_time interval x y (gap from) distance) s t

  near_edge : (k n : ℕ) (from to : Op Timed) (a c : ArrayId) (before : Bool) → slice_index times (k + 1) ≡ from.stamp.start → slice_index times (n + 1) ≡ to.stamp.start
      → kept_all (if before then memory_edge (reach_at k from a) (reach_at n to c) 0 ∷ [] else []) ≡ (not before || in_time interval from.stamp.start to.stamp.start (gap from) 0)
  near_edge k n from to a c true s t = one_edge k n from to a c 0 s t
  near_edge k n from to a c false s t = refl

  meeting_kept : (k n : ℕ) (from to : Op Timed) (a c : ArrayId) (before : Bool) (meeting : Meeting) → nat_lt k n ≡ before → slice_index times (k + 1) ≡ from.stamp.start → slice_index times (n + 1) ≡ to.stamp.start
      → kept_all (edges_at (reach_at k from a) (reach_at n to c) meeting) ≡ meeting_in_time interval from to before meeting
  meeting_kept k n from to a c before m.Never o s t = refl
  meeting_kept k n from to a c before (m.At (pos zero)) o s t =
      ap (λ x. kept_all (if x then memory_edge (reach_at k from a) (reach_at n to c) 0 ∷ [] else [])) o ∙ near_edge k n from to a c before s t
  meeting_kept k n from to a c before (m.At (pos (suc d))) o s t = one_edge k n from to a c (min (suc d) 65536) s t
  meeting_kept k n from to a c before (m.At (negsuc d)) o s t = refl
  meeting_kept k n from to a c before m.Always o s t =
      list_all-append (kept interval times) (if nat_lt k n then memory_edge (reach_at k from a) (reach_at n to c) 0 ∷ [] else []) (memory_edge (reach_at k from a) (reach_at n to c) 1 ∷ [])
      ∙ ap₂ (λ x y. x && y) (ap (λ x. kept_all (if x then memory_edge (reach_at k from a) (reach_at n to c) 0 ∷ [] else [])) o ∙ near_edge k n from to a c before s t) (one_edge k n from to a c 1 s t)

  abbrev pair_kept : Reach → Reach → Bool
  pair_kept x y = kept_all (memory_edges x y)

  if_kept : (p : Bool) (es : List Edge) → kept_all (if p then es else []) ≡ (if p then kept_all es else true)
  if_kept true es = refl
  if_kept false es = refl

  -- which pairs count
  pair_counts : (x y differ first second : Bool) → differ ≡ true → x ≡ y → ((x && differ) && (first || second)) ≡ (y && (first || second))
  pair_counts true true true first second h e = refl
  pair_counts false false true first second h e = refl
  pair_counts x y false first second h e = absurd (cc)
  pair_counts true false true first second h e = absurd (cc)
  pair_counts false true true first second h e = absurd (cc)

  or_swapped : (x y : Bool) → (x || y) ≡ (y || x)
  or_swapped true true = refl
  or_swapped true false = refl
  or_swapped false true = refl
  or_swapped false false = refl

  both_if : (p x y : Bool) → ((if p then x else true) && (if p then y else true)) ≡ (if p then x && y else true)
  both_if true x y = refl
  both_if false x y = refl

  two_kept : (k n : ℕ) (one other : Op Timed) (a c : ArrayId) → k < n → slice_index times (k + 1) ≡ one.stamp.start → slice_index times (n + 1) ≡ other.stamp.start
      → (pair_kept (reach_at k one a) (reach_at n other c) && pair_kept (reach_at n other c) (reach_at k one a))
      ≡ (if a.0 == c.0 && (is_store one.kind || is_store other.kind) then meeting_in_time interval one other true (distances b one other) && meeting_in_time interval other one false (distances b other one) else true)
  two_kept k n one other a c lt s t =
      let first = is_store one.kind in
      let second = is_store other.kind in
      let p = a.0 == c.0 && (first || second) in
      let forth : is_pair (reach_at k one a) (reach_at n other c) ≡ p = pair_counts (a.0 == c.0) (a.0 == c.0) (not (k == n)) first second (ap not (ne_eqb k n (λ e. (let z = e in omega arith)))) refl in
      let back : is_pair (reach_at n other c) (reach_at k one a) ≡ p =
      pair_counts (c.0 == a.0) (a.0 == c.0) (not (n == k)) second first (ap not (ne_eqb n k (λ e. (let z = e in omega arith)))) (eqb_swapped c.0 a.0) ∙ ap (λ z. a.0 == c.0 && z) (or_swapped second first) in
      let there = edges_at (reach_at k one a) (reach_at n other c) (distances b one other) in
      let here = edges_at (reach_at n other c) (reach_at k one a) (distances b other one) in
      ap₂ (λ x y. kept_all (if x then there else []) && kept_all (if y then here else [])) forth back
      ∙ ap₂ (λ x y. x && y) (if_kept p there) (if_kept p here)
      ∙ both_if p (kept_all there) (kept_all here)
      ∙ ap₂ (λ x y. if p then x && y else true) (meeting_kept k n one other a c true (distances b one other) (lt-ltb k n lt) s t) (meeting_kept n k other one c a false (distances b other one) (le-ltb n k (omega arith)) t s)

  no_array : (one : Op Timed) (rest : List (Op Timed)) → one.array ≡ None → list_all (accesses_in_time interval b one) rest ≡ true
  no_array one [] e = refl
  no_array one (other ∷ rest) e =
      ap₂ (λ x y. x && y) (ap (λ z. if same_array z other.array && (is_store one.kind || is_store other.kind) then meeting_in_time interval one other true (distances b one other) && meeting_in_time interval other one false (distances b other one) else true) e) (no_array one rest e)

  abbrev both_kept : Reach → Reach → Bool
  both_kept x y = pair_kept x y && pair_kept y x

  -- an access with those among the operations from operation n on
  with_later : (k n : ℕ) (one : Op Timed) (a : ArrayId) (rest : List (Op Timed)) → one.array ≡ Some a → k < n → slice_index times (k + 1) ≡ one.stamp.start → Behind n rest
      → list_all (both_kept (reach_at k one a)) (reaches_from plain (sums_of plain) n (map untimed_op rest)) ≡ list_all (accesses_in_time interval b one) rest
  with_later k n one a [] e lt s h = refl
  with_later k n one a (other ∷ rest) e lt s h =
      let t = behind_first n other rest h in
      let later = reaches_from plain (sums_of plain) (suc n) (map untimed_op rest) in
      let others = with_later k (suc n) one a rest e (omega arith) s (behind_next n other rest h) in
      let judged : Option ArrayId → Option ArrayId → Bool = λ x y. if same_array x y && (is_store one.kind || is_store other.kind) then meeting_in_time interval one other true (distances b one other) && meeting_in_time interval other one false (distances b other one) else true in
      let found : (o : Option ArrayId) → list_all (both_kept (reach_at k one a)) (reach_of plain (sums_of plain) n (untimed_op other) o) ≡ judged (Some a) o = λ o. elim o as (λ z. list_all (both_kept (reach_at k one a)) (reach_of plain (sums_of plain) n (untimed_op other) z) ≡ judged (Some a) z) [
        | None ↦ refl
        | Some c ↦ and_true (both_kept (reach_at k one a) (reach_at n other c)) ∙ two_kept k n one other a c lt s t
      ] in
      list_all-append (both_kept (reach_at k one a)) (reach_of plain (sums_of plain) n (untimed_op other) other.array) later
      ∙ ap₂ (λ x y. x && y) (found other.array ∙ ap (λ z. judged z other.array) (sym e)) others

  pairs_behind : (k : ℕ) (one : Op Timed) (o : Option ArrayId) (rest : List (Op Timed)) → one.array ≡ o → slice_index times (k + 1) ≡ one.stamp.start → Behind (suc k) rest
      → each_pair both_kept (reach_of plain (sums_of plain) k (untimed_op one) o ++ reaches_from plain (sums_of plain) (suc k) (map untimed_op rest))
      ≡ (list_all (accesses_in_time interval b one) rest && each_pair both_kept (reaches_from plain (sums_of plain) (suc k) (map untimed_op rest)))
  pairs_behind k one None rest e s h = ap (λ x. x && each_pair both_kept (reaches_from plain (sums_of plain) (suc k) (map untimed_op rest))) (sym (no_array one rest e))
  pairs_behind k one (Some a) rest e s h = ap (λ x. x && each_pair both_kept (reaches_from plain (sums_of plain) (suc k) (map untimed_op rest))) (with_later k (suc k) one a rest e (omega arith) s h)

  pairs_kept : (k : ℕ) (rest : List (Op Timed)) → Behind k rest → each_pair both_kept (reaches_from plain (sums_of plain) k (map untimed_op rest)) ≡ each_pair (accesses_in_time interval b) rest
  pairs_kept k [] h = refl
  pairs_kept k (op ∷ rest) h =
      pairs_behind k op op.array rest refl (behind_first k op rest h) (behind_next k op rest h) ∙ ap (λ x. list_all (accesses_in_time interval b op) rest && x) (pairs_kept (suc k) rest (behind_next k op rest h))

  itself_kept : (x : Reach) → pair_kept x x ≡ true
  itself_kept x =
      let here = edges_at x x (distances_between x.subscripts x.subscripts) in
      let none : is_pair x x ≡ false = pair_none (x.array.0 == x.array.0) (x.is_store || x.is_store) (not (x.op == x.op)) (ap not (eq-eqb x.op x.op refl)) in
      ap (λ p. kept_all (if p then here else [])) none
    where
      pair_none : (a c d : Bool) → d ≡ false → ((a && d) && c) ≡ false
      pair_none true c false h = refl
      pair_none false c false h = refl
      pair_none a c true h = absurd (cc)

  reaches_kept : (rs : List Reach) → kept_all (edges_of_reaches rs) ≡ square pair_kept rs
  reaches_kept rs =
      all_gather (kept interval times) (λ x. gather (memory_edges x) rs) rs
      ∙ all_same (λ x. kept_all (gather (memory_edges x) rs)) (λ x. list_all (pair_kept x) rs) rs (λ x. all_gather (kept interval times) (memory_edges x) rs)

  -- all edges
  pub edges_kept : all_kept interval times (edges_of (untimed_body b)) ≡ (list_all (λ op. data_in_time interval b op && test_in_time interval b op) b.ops.items && each_pair (accesses_in_time interval b) b.ops.items)
  edges_kept =
      let h : Behind 0 ops = λ i op e. ap (slice_index times) (let z : 0 + i + 1 ≡ i + 1 = omega arith in z) ∙ are.starts i op e in
      let rs = reaches_from plain (sums_of plain) 0 (map untimed_op ops) in
      list_all-append (kept interval times) (op_edges plain 0 (map untimed_op ops)) (edges_of_reaches rs)
      ∙ ap₂ (λ x y. x && y) (ops_kept 0 ops h) (reaches_kept rs ∙ square_pairs pair_kept rs itself_kept ∙ pairs_kept 0 ops h)
