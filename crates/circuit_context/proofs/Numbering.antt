-- The ports of a plan's accesses.
use Rattle.std.proofs.Common.{◌≡◌, ◌<◌, ◌⊎◌, inl, inr, ℕ, zero, suc, ◌+◌, ◌%◌, Bool, true, false, ◌&&◌, ◌||◌, List, [], ◌∷◌, length, map, take, get_or, slice_get, cond, filter, Option, Some, None, is_some, refl, sym, ap, ap₂, ◌∙◌, subst, arith}
use Rattle.std.specs.Prelude.{count_by, max, fold, unwrap_or, if◌then◌else◌}
use Rattle.std.specs.List.{enumerate_from, flat_map, range_with_len}
use Rattle.std.specs.Option.{option_map}
use Rattle.std.proofs.Math.Bool.{and-true}
use Rattle.std.proofs.lemmas.List.{ext_get_or, length-map, take-map}
use Rattle.std.proofs.lemmas.List.Concat.{flat_map-cons}
use Rattle.std.proofs.lemmas.List.Elements.{filter-append}
use Rattle.std.proofs.lemmas.List.Folds.{fold-map}
use Rattle.std.proofs.lemmas.List.FromFn.{length-map-range_with_len, get_or-map-range_with_len}
use Rattle.std.proofs.lemmas.List.Sums.{fold-append}
use Rattle.std.proofs.lemmas.Option.{none-some, same_Some, slice_get-map, slice_get-get_or, get_or_from_slice_get}
use Rattle.hls_base.specs.declared.number.ArrayId.{ArrayId}
use Rattle.ir_core.specs.declared.body.Op.{Op}
use Rattle.ir_core.specs.declared.cfg.Cfg.{Cfg}
use Rattle.ir_core.specs.declared.cfg.Memory.{Memory}
use Rattle.ir_core.specs.declared.cfg.Node.{Node}
use Rattle.ir_core.specs.declared.cfg.Node.TheVariants as node
use Rattle.ir_core.specs.declared.timed.Timed.{Timed}
use Rattle.clock_ir.specs.Flows.{TimedOp, timed_op}
use Rattle.clock_ir.specs.ClockRuns.{timed_node}
use Rattle.reg_binding.specs.declared.registers.Registers.{Registers}
use Rattle.datapath.specs.Plans.{Plan, Placed, array_of, array_at, no_array, body_at, body_of, node_units, placed_in, span, unit_of}
use Rattle.datapath.specs.Ports.{is_load, is_store, is_array, is_beside, store_unit, changed_with, memory_port, port_of, last_port, port_count}
use Rattle.datapath.proofs.Programs.{node_body}
use Rattle.circuit_context.specs.Bank.Banks.{IsPlanOf}
use Rattle.circuit_context.specs.declared.ports.PortNumbers.{PortNumbers}
use Rattle.circuit_context.specs.Counting.{loads_at, is_store_at, first_store, tables_in, array_if, accessed_by, port_for, port_if, reached, reached_in, reached_by, ops_in, span_of, row_in, AreNumbered}
use Rattle.circuit_context.specs.Numbers.{ArePorts, HasPlaces}
use Rattle.circuit_context.proofs.Loading.{ports_get, ports_length, number_same}

-- ---- lists

pub map_get : {X Y : Type 0} (f : X → Y) (xs : List X) (k : ℕ) (y : Y) → slice_get (map f xs) k ≡ Some y → (x : X) × (slice_get xs k ≡ Some x) × (y ≡ f x)
map_get f [] k y at = absurd (none-some y at)
map_get f (x ∷ xs) zero y at = (x, refl, sym (same_Some (f x) y at))
map_get f (x ∷ xs) (suc k) y at = map_get f xs k y at

pub at_within : {X : Type 0} (f : X → ℕ) (xs : List X) (i k : ℕ) → k < get_or (map f xs) i 0 → i < length xs
at_within f [] i k h = absurd (omega (arith, h))
at_within f (x ∷ xs) zero k h = omega arith
at_within f (x ∷ xs) (suc i) k h = omega (arith, at_within f xs i k h)

pub at_own : {X : Type 0} (f : X → ℕ) (xs : List X) (i k : ℕ) (x : X) → k < get_or (map f xs) i 0 → slice_get xs i ≡ Some x → k < f x
at_own f [] i k x h at = absurd (omega (arith, h))
at_own f (y ∷ xs) zero k x h at = subst (λ z. k < f z) (same_Some y x at) h
at_own f (y ∷ xs) (suc i) k x h at = at_own f xs i k x h at

-- ---- a plan and its program

-- what a plan has of these nodes and memories
pub record IsOf (p : Plan) (memories : List Memory) (nodes : List (Node Timed)) : Type 0 where
  pub program : p.program.nodes ≡ map timed_node nodes
  pub units : p.units ≡ map node_units nodes
  pub arrays : p.arrays ≡ map array_of memories

pub plan_is_of : (p : Plan) (cfg : Cfg Timed) (registers : Registers) → IsPlanOf p cfg registers → IsOf p cfg.frame.memories.items cfg.nodes.items
plan_is_of p cfg registers e = record { program = ap (λ (q : Plan). q.program.nodes) e; units = ap (λ (q : Plan). q.units) e; arrays = ap (λ (q : Plan). q.arrays) e }

body_ops : (n : Node Timed) → (body_of (timed_node n)).ops ≡ map timed_op (ops_in n)
body_ops (node.Plain b) = refl
body_ops (node.Looped r) = refl

units_are : (n : Node Timed) → node_units n ≡ map (λ (op : Op Timed). op.stamp.bound) (ops_in n)
units_are (node.Plain b) = refl
units_are (node.Looped r) = refl

ops_at : (p : Plan) (memories : List Memory) (nodes : List (Node Timed)) (i : ℕ) (n : Node Timed) → IsOf p memories nodes → slice_get nodes i ≡ Some n → (body_at p i).ops ≡ map timed_op (ops_in n)
ops_at p memories nodes i n h at = ap (λ b. b.ops) (node_body p nodes i n h.program at) ∙ body_ops n

abbrev bound_of : Op Timed → ℕ
bound_of op = op.stamp.bound

units_at : (p : Plan) (memories : List Memory) (nodes : List (Node Timed)) (i : ℕ) (n : Node Timed) → IsOf p memories nodes → slice_get nodes i ≡ Some n → get_or p.units i [] ≡ map bound_of (ops_in n)
units_at p memories nodes i n h at =
    get_or_from_slice_get p.units i (node_units n) [] (ap (λ l. slice_get l i) h.units ∙ (slice_get-map node_units nodes i ∙ ap (option_map node_units) at)) ∙ units_are n

-- the first store of a time, in the plan and in the program
stores_are : (width a time : ℕ) (ops : List (Op Timed)) → store_unit a width time (map timed_op ops) (map bound_of ops) ≡ first_store width a time ops
stores_are width a time [] = refl
stores_are width a time (op ∷ ops) = ap (λ (rest : Option ℕ). if is_store_at width a time op then Some op.stamp.bound else rest) (stores_are width a time ops)

unit_is : (p : Plan) (memories : List Memory) (nodes : List (Node Timed)) (i k : ℕ) (n : Node Timed) (op : Op Timed) → IsOf p memories nodes → slice_get nodes i ≡ Some n → slice_get (ops_in n) k ≡ Some op
    → unit_of p (record { node = i; number = k; op = timed_op op }) ≡ op.stamp.bound
unit_is p memories nodes i k n op h at there =
    ap (λ l. get_or l k 0) (units_at p memories nodes i n h at)
    ∙ get_or_from_slice_get (map bound_of (ops_in n)) k op.stamp.bound 0 (slice_get-map bound_of (ops_in n) k ∙ ap (option_map bound_of) there)

-- ---- the port of an access

pub port_is : (p : Plan) (memories : List Memory) (nodes : List (Node Timed)) (i k : ℕ) (n : Node Timed) (op : Op Timed) (array : ArrayId) → IsOf p memories nodes → slice_get nodes i ≡ Some n
    → slice_get (ops_in n) k ≡ Some op → accessed_by op ≡ Some array
    → port_of p array.0 (record { node = i; number = k; op = timed_op op }) ≡ port_if (tables_in memories) (span_of n) (ops_in n) (take k (ops_in n)) op
port_is p memories nodes i k n op array h at there by_ =
    let a = array.0 in
    let x : Placed = record { node = i; number = k; op = timed_op op } in
    let ops = ops_in n in
    let tables : is_some (array_at p a).table ≡ tables_in memories a = ap (λ l. is_some (get_or l a no_array).table) h.arrays in
    let width : span p i ≡ span_of n = ap (λ b. max 1 b.interval) (node_body p nodes i n h.program at) in
    let before : take k (body_at p i).ops ≡ map timed_op (take k ops) = ap (take k) (ops_at p memories nodes i n h at) ∙ take-map timed_op k ops in
    let count : count_by (is_beside p x a) (take k (body_at p i).ops) ≡ count_by (loads_at (span_of n) a (op.stamp.start % span_of n)) (take k ops) =
    ap (count_by (is_beside p x a)) before
    ∙ (fold-map (λ (m : ℕ) (o : TimedOp). m + cond (is_beside p x a o) 1 0) timed_op 0 (take k ops) ∙ ap (λ (s : ℕ). count_by (loads_at s a (op.stamp.start % s)) (take k ops)) width) in
    let first : store_unit a (span p i) (op.stamp.start % span p i) (body_at p i).ops (get_or p.units i []) ≡ first_store (span_of n) a (op.stamp.start % span_of n) ops =
    ap₂ (λ (l : List TimedOp) (us : List ℕ). store_unit a (span p i) (op.stamp.start % span p i) l us) (ops_at p memories nodes i n h at) (units_at p memories nodes i n h at)
    ∙ (ap (λ (s : ℕ). store_unit a s (op.stamp.start % s) (map timed_op ops) (map bound_of ops)) width ∙ stores_are (span_of n) a (op.stamp.start % span_of n) ops) in
    ap (λ (b : Bool). if b then count_by (is_beside p x a) (take k (body_at p i).ops) else memory_port p a x) tables
    ∙ (ap₂ (λ (m u : ℕ). if tables_in memories a then m else u) count
    (ap₂ (λ (f : Option ℕ) (u : ℕ). changed_with (unwrap_or f 0) u) first (unit_is p memories nodes i k n op h at there))
    ∙ sym (ap (port_for (tables_in memories) (span_of n) ops (take k ops) op) by_))

-- ---- how many ports

abbrev is_for : ℕ → Placed → Bool
is_for a x = is_array a x.op.op.array && (is_load x.op.op.kind || is_store x.op.op.kind)

abbrev rise : Plan → ℕ → ℕ → Placed → ℕ
rise p a m x = max m (last_port p a x + 1)

abbrev placing : ℕ → ℕ × TimedOp → Placed
placing i o = record { node = i; number = o.0; op = o.1 }

if_kept : {X : Type 0} (g : ℕ → X → ℕ) (m : ℕ) (b : Bool) (x : X) (xs : List X) → fold g m (cond b (x ∷ xs) xs) ≡ fold g (if b then g m x else m) xs
if_kept g m true x xs = refl
if_kept g m false x xs = refl

over_ops : (test : Placed → Bool) (g : ℕ → Placed → ℕ) (h : ℕ → ℕ × Op Timed → ℕ) (i k m : ℕ) (ops : List (Op Timed))
    → ((j m : ℕ) (op : Op Timed) → slice_get ops j ≡ Some op → (if test (placing i (k + j, timed_op op)) then g m (placing i (k + j, timed_op op)) else m) ≡ h m (k + j, op))
    → fold g m (filter test (map (placing i) (enumerate_from k (map timed_op ops)))) ≡ fold h m (enumerate_from k ops)
over_ops test g h i k m [] e = refl
over_ops test g h i k m (op ∷ ops) e =
    let first : k + 0 ≡ k = omega arith in
    let here : (if test (placing i (k, timed_op op)) then g m (placing i (k, timed_op op)) else m) ≡ h m (k, op) =
    subst (λ (n : ℕ). (if test (placing i (n, timed_op op)) then g m (placing i (n, timed_op op)) else m) ≡ h m (n, op)) first (e 0 m op refl) in
    let rest : List Placed = map (placing i) (enumerate_from (k + 1) (map timed_op ops)) in
    if_kept g m (test (placing i (k, timed_op op))) (placing i (k, timed_op op)) (filter test rest)
    ∙ (ap (λ n. fold g n (filter test rest)) here
    ∙ over_ops test g h i (k + 1) (h m (k, op)) ops (λ j n o at.
    let next : k + suc j ≡ k + 1 + j = omega arith in
    subst (λ (l : ℕ). (if test (placing i (l, timed_op o)) then g n (placing i (l, timed_op o)) else n) ≡ h n (l, o)) next (e (suc j) n o at)))

over_nodes : (test : Placed → Bool) (g : ℕ → Placed → ℕ) (h : ℕ → Node Timed → ℕ) (k m : ℕ) (nodes : List (Node Timed))
    → ((j m : ℕ) (n : Node Timed) → slice_get nodes j ≡ Some n → fold g m (filter test (placed_in (k + j, timed_node n))) ≡ h m n)
    → fold g m (filter test (flat_map placed_in (enumerate_from k (map timed_node nodes)))) ≡ fold h m nodes
over_nodes test g h k m [] e = refl
over_nodes test g h k m (n ∷ nodes) e =
    let first : k + 0 ≡ k = omega arith in
    let here : fold g m (filter test (placed_in (k, timed_node n))) ≡ h m n = subst (λ (l : ℕ). fold g m (filter test (placed_in (l, timed_node n))) ≡ h m n) first (e 0 m n refl) in
    let rest : List Placed = flat_map placed_in (enumerate_from (k + 1) (map timed_node nodes)) in
    ap (λ l. fold g m (filter test l)) (flat_map-cons placed_in (k, timed_node n) (enumerate_from (k + 1) (map timed_node nodes)))
    ∙ (ap (fold g m) (filter-append test (placed_in (k, timed_node n)) rest)
    ∙ (fold-append g m (filter test (placed_in (k, timed_node n))) (filter test rest)
    ∙ (ap (λ o. fold g o (filter test rest)) here
    ∙ over_nodes test g h (k + 1) (h m n) nodes (λ j o x at.
    let next : k + suc j ≡ k + 1 + j = omega arith in
    subst (λ (l : ℕ). fold g o (filter test (placed_in (l, timed_node x))) ≡ h o x) next (e (suc j) o x at)))))

with_access : (a : ℕ) (b : Bool) (o : Option ArrayId) → (is_array a o && b) ≡ is_array a (array_if b o)
with_access a true o = and-true (is_array a o)
with_access a false o = none (is_array a o) where
  none : (c : Bool) → (c && false) ≡ false
  none true = refl
  none false = refl

some_array : (a : ℕ) (o : Option ArrayId) → is_array a o ≡ true → (array : ArrayId) × (o ≡ Some array) × (array.0 ≡ a)
some_array a None e = absurd cc
some_array a (Some array) e = (array, refl, number_same array.0 a e)

op_rises : (p : Plan) (memories : List Memory) (nodes : List (Node Timed)) (a i j m : ℕ) (n : Node Timed) (op : Op Timed) → IsOf p memories nodes → slice_get nodes i ≡ Some n → slice_get (ops_in n) j ≡ Some op
    → (if is_for a (placing i (j, timed_op op)) then rise p a m (placing i (j, timed_op op)) else m) ≡ reached a m op (get_or (row_in (tables_in memories) n) j 0)
op_rises p memories nodes a i j m n op h at there =
    ap (λ (b : Bool). if b then rise p a m (placing i (j, timed_op op)) else m) (with_access a (is_load op.kind || is_store op.kind) op.array) ∙ either (is_array a (accessed_by op)) refl where
      either : (b : Bool) → is_array a (accessed_by op) ≡ b → (if b then rise p a m (placing i (j, timed_op op)) else m) ≡ (if b then max m (max (get_or (row_in (tables_in memories) n) j 0) op.stamp.bound + 1) else m)
      either false e = refl
      either true e =
          let found = some_array a (accessed_by op) e in
          let port = port_is p memories nodes i j n op found.0 h at there found.1 in
          let row = get_or_from_slice_get (row_in (tables_in memories) n) j _ 0 (ports_get (tables_in memories) (span_of n) (ops_in n) [] (ops_in n) j op there) in
          ap₂ (λ (k u : ℕ). max m (max k u + 1)) (ap (λ (b : ℕ). port_of p b (placing i (j, timed_op op))) (sym found.2) ∙ (port ∙ sym row)) (unit_is p memories nodes i j n op h at there)

node_rises : (p : Plan) (memories : List Memory) (nodes : List (Node Timed)) (a i m : ℕ) (n : Node Timed) → IsOf p memories nodes → slice_get nodes i ≡ Some n
    → fold (rise p a) m (filter (is_for a) (placed_in (i, timed_node n))) ≡ reached_in a m (ops_in n) (row_in (tables_in memories) n)
node_rises p memories nodes a i m n h at =
    ap (λ l. fold (rise p a) m (filter (is_for a) (map (placing i) (enumerate_from 0 l)))) (body_ops n)
    ∙ over_ops (is_for a) (rise p a) (λ l x. reached a l x.1 (get_or (row_in (tables_in memories) n) x.0 0)) i 0 m (ops_in n) (λ j l op there.
    let same : j ≡ 0 + j = omega arith in
    subst (λ (k : ℕ). (if is_for a (placing i (k, timed_op op)) then rise p a l (placing i (k, timed_op op)) else l) ≡ reached a l op (get_or (row_in (tables_in memories) n) k 0)) same
    (op_rises p memories nodes a i j l n op h at there))

pub counts_are : (p : Plan) (memories : List Memory) (nodes : List (Node Timed)) (a : ℕ) → IsOf p memories nodes → port_count p a ≡ reached_by (tables_in memories) a 1 nodes
counts_are p memories nodes a h =
    ap (λ l. fold (rise p a) 1 (filter (is_for a) (flat_map placed_in (enumerate_from 0 l)))) h.program
    ∙ over_nodes (is_for a) (rise p a) (λ l x. reached_in a l (ops_in x) (row_in (tables_in memories) x)) 0 1 nodes (λ j m n at.
    let same : j ≡ 0 + j = omega arith in
    subst (λ (k : ℕ). fold (rise p a) m (filter (is_for a) (placed_in (k, timed_node n))) ≡ reached_in a m (ops_in n) (row_in (tables_in memories) n)) same (node_rises p memories nodes a j m n h at))

-- ---- all ports

is_access : (a b : Bool) → (a ≡ true) ⊎ (b ≡ true) → (a || b) ≡ true
is_access a b (inl e) = ap (λ c. c || b) e
is_access true b (inr e) = refl
is_access false b (inr e) = e

pub ports_are : (p : Plan) (memories : List Memory) (nodes : List (Node Timed)) (ports : PortNumbers) → IsOf p memories nodes → AreNumbered memories nodes ports → ArePorts p ports
ports_are p memories nodes ports h g = record {
  counts =
      let many : length p.arrays ≡ length memories = ap length h.arrays ∙ length-map memories array_of in
      ext_get_or 0 ports.counts.items (map (port_count p) (range_with_len 0 (length p.arrays))) (g.count ∙ (sym many ∙ sym (length-map-range_with_len (port_count p) 0 (length p.arrays))))
      (λ a within.
      g.counts a (get_or ports.counts.items a 0) (slice_get-get_or ports.counts.items a 0 within)
      ∙ (sym (counts_are p memories nodes a h) ∙ sym (get_or-map-range_with_len (port_count p) 0 (length p.arrays) a a 0 (omega (arith, within, many, g.count)) (omega arith))));
  numbers = λ i k port row it array there access own at number.
      let of_node = map_get (row_in (tables_in memories)) nodes i row (sym (ap (λ l. slice_get l i) g.numbers) ∙ at) in
      let n = of_node.0 in
      let of_op = map_get timed_op (ops_in n) k it (sym (ap (λ l. slice_get l k) (ops_at p memories nodes i n h of_node.1)) ∙ there) in
      let op = of_op.0 in
      let loads : (is_load op.kind || is_store op.kind) ≡ true = subst (λ (t : TimedOp). (is_load t.op.kind || is_store t.op.kind) ≡ true) of_op.2 (is_access (is_load it.op.kind) (is_store it.op.kind) access) in
      let by_ : accessed_by op ≡ Some array = ap (λ (b : Bool). array_if b op.array) loads ∙ subst (λ (t : TimedOp). t.op.array ≡ Some array) of_op.2 own in
      let listed : slice_get row k ≡ Some (port_if (tables_in memories) (span_of n) (ops_in n) (take k (ops_in n)) op) =
      ap (λ l. slice_get l k) of_node.2 ∙ ports_get (tables_in memories) (span_of n) (ops_in n) [] (ops_in n) k op of_op.1 in
      same_Some port _ (sym number ∙ listed)
      ∙ (sym (port_is p memories nodes i k n op array h of_node.1 of_op.1 by_) ∙ ap (λ (t : TimedOp). port_of p array.0 (record { node = i; number = k; op = t })) (sym of_op.2));
}

-- ---- places

lengths_of : {X : Type 0} (f : X → List ℕ) (xs : List X) → map (λ x. length (f x)) xs ≡ map length (map f xs)
lengths_of f [] = refl
lengths_of f (x ∷ xs) = ap (λ l. length (f x) ∷ l) (lengths_of f xs)

rows_long : (tables : ℕ → Bool) (nodes : List (Node Timed)) → map length (map (row_in tables) nodes) ≡ map (λ n. length (ops_in n)) nodes
rows_long tables [] = refl
rows_long tables (n ∷ nodes) = ap₂ (λ k l. k ∷ l) (ports_length tables (span_of n) (ops_in n) [] (ops_in n)) (rows_long tables nodes)

pub places_are : (memories : List Memory) (nodes : List (Node Timed)) (ports : PortNumbers) → AreNumbered memories nodes ports → HasPlaces nodes memories ports
places_are memories nodes ports g = record {
  rows = λ i. ap (λ l. get_or l i 0) (lengths_of (λ r. r.items) ports.numbers.items ∙ (ap (map length) g.numbers ∙ rows_long (tables_in memories) nodes));
  counts = g.count;
}
