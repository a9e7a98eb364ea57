-- No port of an array is used twice in one cycle.
use Rattle.std.proofs.Common.{◌≡◌, ◌≢◌, ℕ, zero, suc, ◌+◌, ◌-◌, ◌*◌, ◌/◌, ◌%◌, ◌≤◌, inl, inr, true, false, List, [], ◌∷◌, map, Option, Some, None, is_some, refl, sym, ap, ◌∙◌, subst, arith, get_or}
use Rattle.std.specs.Prelude.{slice_get, slice_index, ◌==◌, ◌||◌, nat_le}
use Rattle.std.proofs.lemmas.Bool.{and_parts, eqb-true, leb-true, cond-false, cases_Bool, cases_lt, cases_eq}
use Rattle.std.proofs.Math.Nat.{mod-add-div'}
use Rattle.std.proofs.lemmas.Option.{slice_get_within}
use Rattle.hls_base.specs.declared.number.ArrayId.{ArrayId}
use Rattle.ir_core.specs.declared.body.Op.{Op}
use Rattle.ir_core.specs.declared.body.OpKind.{OpKind}
use Rattle.ir_core.specs.declared.body.OpKind.TheVariants as o
use Rattle.ir_core.specs.declared.cfg.Block.{Block}
use Rattle.ir_core.specs.declared.cfg.Loop.{Loop}
use Rattle.ir_core.specs.declared.cfg.Memory.{Memory}
use Rattle.ir_core.specs.declared.cfg.Node.{Node}
use Rattle.ir_core.specs.declared.cfg.Node.TheVariants as node
use Rattle.ir_core.specs.declared.stamp.Untimed.{Untimed}
use Rattle.ir_core.specs.declared.timing.UnitClass.TheVariants as u
use Rattle.ir_core.specs.Timing.{latency, occupancy, has_table, port, unit_class}
use Rattle.ir_core.specs.declared.timed.Timed.{Timed}
use Rattle.unit_binding.specs.Copies.{IsTimedCopy, AreTimedCopies}
use Rattle.block_schedule.specs.Schedules.{ready_at}
use Rattle.clock_ir.specs.Flows.{TimedOp, TimedBody, timed_op}
use Rattle.clock_ir.specs.ClockRuns.{TimedNode, timed_node}
use Rattle.clock_ir.specs.WellTimed.{class_in, occupancy_in, ShareUnit, IsWellTimedBlock, IsWellTimedLoop, IsWellTimedNode}
use Rattle.clock_runs.proofs.Lists.{some_same, no_some}
use Rattle.datapath.specs.Plans.{Plan, Placed, Array, array_of, no_array, array_at, body_of, body_at, span, node_units, unit_of}
use Rattle.datapath.specs.Cycles.{Time, Active, Cycle, holds}
use Rattle.datapath.specs.Reading.{at}
use Rattle.datapath.specs.Ports.{is_load, is_store, is_array, memory_port, port_of}
use Rattle.circuit_agreement.specs.CircuitFlow.Compiled.{IsCompiled}
use Rattle.circuit_agreement.proofs.MemoryPorts.{unit_same}
use Rattle.circuit_agreement.proofs.Nodes.{node_of, body_found, positive}
use Rattle.circuit_agreement.proofs.CircuitStores.Operations.{Accesses, array_named}

-- ---- remainders

-- two numbers less than w apart with one remainder are equal
pub same_turn : (w a b : ℕ) → a % w ≡ b % w → a + 1 ≤ b → b + 1 ≤ a + w → ⊥
same_turn w a b e low high =
    let first : a % w + a / w * w ≡ a = mod-add-div' a w in
    let second : b % w + b / w * w ≡ b = mod-add-div' b w in
    elim (cases_lt (a / w) (b / w)) [
      | inr under ↦ let m : b / w * w ≤ a / w * w = grow (b / w) (a / w) w under in omega (arith, first, second, m, e, low)
      | inl over ↦
          let m : (a / w + 1) * w ≤ b / w * w = grow (a / w + 1) (b / w) w (omega (arith, over)) in
          let split : (a / w + 1) * w ≡ a / w * w + w = omega arith in
          omega (arith, first, second, m, split, e, high)
    ]
  where
    grow : (m n w : ℕ) → m ≤ n → m * w ≤ n * w
    grow m n w h = (let d : n ≡ m + (n - m) = omega (arith, h) in let e : n * w ≡ m * w + (n - m) * w = (ap (λ k. k * w) d ∙ (let z : (m + (n - m)) * w ≡ m * w + (n - m) * w = omega arith in z)) in omega (arith, e))

-- two operations that are at their times in one cycle
pub same_time : (p : Plan) (c : Cycle) (i s t : ℕ) → at p c i s ≡ true → at p c i t ≡ true → s % span p i ≡ t % span p i
same_time p c i s t e f =
    elim (cases_Bool (nat_le (span p i) 1)) [
      | inl short ↦
          let one : span p i ≡ 1 = (let h = leb-true (span p i) 1 short in let m : 1 ≤ span p i = omega arith in omega (arith, h, m)) in
          let zero_ : (k : ℕ) → k % 1 ≡ 0 = λ k. omega arith in
          (ap (λ w. s % w) one ∙ zero_ s) ∙ sym (ap (λ w. t % w) one ∙ zero_ t)
      | inr long ↦
          let first : (c.regs Time == s % span p i) ≡ true = sym (ap (λ b. b || (c.regs Time == s % span p i)) long) ∙ (and_parts (holds c (Active i)) _ e).1 in
          let second : (c.regs Time == t % span p i) ≡ true = sym (ap (λ b. b || (c.regs Time == t % span p i)) long) ∙ (and_parts (holds c (Active i)) _ f).1 in
          sym (eqb-true (c.regs Time) _ first) ∙ eqb-true (c.regs Time) _ second
    ]

-- ---- what an operation with a time is made from

pub record From (times units : List ℕ) (ops : List (Op Untimed)) (j : ℕ) (it : TimedOp) (unit : ℕ) : Type 0 where
  pub op : Op Untimed
  pub there : slice_get ops j ≡ Some op
  pub kind : it.op.kind ≡ op.kind
  pub bits : it.op.bits ≡ op.bits
  pub array : it.op.array ≡ op.array
  pub start : it.start ≡ slice_index times (j + 1)
  pub unit_ : unit ≡ slice_index units j

from_copies : (times units : List ℕ) (k : ℕ) (ops : List (Op Untimed)) (copies : List (Op Timed)) (j : ℕ) (it : TimedOp) → AreTimedCopies times units k ops copies
    → slice_get (map timed_op copies) j ≡ Some it
    → (op : Op Untimed) × ((slice_get ops j ≡ Some op) × ((copy : Op Timed) × ((IsTimedCopy op (slice_index times (k + j + 1)) (slice_index units (k + j)) copy) × ((timed_op copy ≡ it)
    × (get_or (map (λ (c : Op Timed). c.stamp.bound) copies) j 0 ≡ copy.stamp.bound)))))
from_copies times units k [] [] j it h e = absurd (no_some e)
from_copies times units k [] (c ∷ cs) j it h e = absurd h
from_copies times units k (op ∷ ops) [] j it h e = absurd h
from_copies times units k (op ∷ ops) (c ∷ cs) zero it h e =
    let n : k + 1 ≡ k + 0 + 1 = omega arith in
    let m : k ≡ k + 0 = omega arith in
    let copy : IsTimedCopy op (slice_index times (k + 0 + 1)) (slice_index units (k + 0)) c =
    subst (λ (q : ℕ). IsTimedCopy op (slice_index times q) (slice_index units (k + 0)) c) n (subst (λ (q : ℕ). IsTimedCopy op (slice_index times (k + 1)) (slice_index units q) c) m h.0) in
    (op, (refl, (c, (copy, (some_same e, refl)))))
from_copies times units k (op ∷ ops) (c ∷ cs) (suc j) it h e =
    let r = from_copies times units (suc k) ops cs j it h.1 e in
    let n : suc k + j + 1 ≡ k + suc j + 1 = omega arith in
    let m : suc k + j ≡ k + suc j = omega arith in
    let copy : IsTimedCopy r.0 (slice_index times (k + suc j + 1)) (slice_index units (k + suc j)) r.1.1.0 =
    subst (λ (q : ℕ). IsTimedCopy r.0 (slice_index times q) (slice_index units (k + suc j)) r.1.1.0) n
    (subst (λ (q : ℕ). IsTimedCopy r.0 (slice_index times (suc k + j + 1)) (slice_index units q) r.1.1.0) m r.1.1.1.0) in
    (r.0, (r.1.0, (r.1.1.0, (copy, (r.1.1.1.1.0, r.1.1.1.1.1)))))

pub from_body : (times units : List ℕ) (ops : List (Op Untimed)) (copies : List (Op Timed)) (j : ℕ) (it : TimedOp) → AreTimedCopies times units 0 ops copies
    → slice_get (map timed_op copies) j ≡ Some it → From times units ops j it (get_or (map (λ (c : Op Timed). c.stamp.bound) copies) j 0)
from_body times units ops copies j it h e =
    let r = from_copies times units 0 ops copies j it h e in
    let copy = r.1.1.1.0 in
    let is = r.1.1.1.1.0 in
    let n : 0 + j + 1 ≡ j + 1 = omega arith in
    let m : 0 + j ≡ j = omega arith in
    record {
      op = r.0;
      there = r.1.0;
      kind = ap (λ (z : TimedOp). z.op.kind) (sym is) ∙ copy.same_kind;
      bits = ap (λ (z : TimedOp). z.op.bits) (sym is) ∙ copy.same_bits;
      array = ap (λ (z : TimedOp). z.op.array) (sym is) ∙ copy.same_array;
      start = ap (λ (z : TimedOp). z.start) (sym is) ∙ (copy.at_time ∙ ap (slice_index times) n);
      unit_ = r.1.1.1.1.1 ∙ (copy.on_unit ∙ ap (slice_index units) m);
    }

-- ---- accesses of one port

abbrev IsAccess : OpKind → Type 0
IsAccess kind = (is_load kind || is_store kind) ≡ true

record OfPort (kind : OpKind) (bits : ℕ) : Type 0 where
  takes : 1 ≤ latency kind bits
  holds_ : occupancy kind bits ≡ 1
  class : (array : Option ArrayId) (memories : List Memory) → unit_class kind bits array memories ≡ port memories array

of_port : (kind : OpKind) (bits : ℕ) → IsAccess kind → OfPort kind bits
of_port o.Load bits e = record { takes = omega arith; holds_ = refl; class = λ array memories. refl }
of_port o.Store bits e = record { takes = omega arith; holds_ = refl; class = λ array memories. refl }
of_port o.Add bits e = absurd (cc)
of_port o.Sub bits e = absurd (cc)
of_port o.Mul bits e = absurd (cc)
of_port o.Div bits e = absurd (cc)
of_port o.Rem bits e = absurd (cc)
of_port o.And bits e = absurd (cc)
of_port o.Or bits e = absurd (cc)
of_port o.Xor bits e = absurd (cc)
of_port o.Shl bits e = absurd (cc)
of_port o.Shr bits e = absurd (cc)
of_port o.Eq bits e = absurd (cc)
of_port o.Ne bits e = absurd (cc)
of_port o.Lt bits e = absurd (cc)
of_port o.Le bits e = absurd (cc)
of_port o.Not bits e = absurd (cc)
of_port o.Neg bits e = absurd (cc)
of_port o.Select bits e = absurd (cc)
of_port o.Widen bits e = absurd (cc)
of_port o.Narrow bits e = absurd (cc)
of_port o.Truth bits e = absurd (cc)
of_port o.Copy bits e = absurd (cc)
of_port (o.Fused pairing) bits e = absurd (cc)

-- an array without a table, among the memories
no_table : (ms : List Memory) (a : ℕ) → (get_or (map array_of ms) a no_array).table ≡ None → has_table (slice_get ms a) ≡ false
no_table [] a e = refl
no_table (m ∷ ms) zero e = ap is_some e
no_table (m ∷ ms) (suc a) e = no_table ms a e

abbrev array_number : ℕ → ArrayId
array_number n = record { 0 = n }

same_id : (a b : ArrayId) → a.0 ≡ b.0 → a ≡ b
same_id a b e = ap array_number e

-- Operations of one body that take one unit do so at different times, less than an interval apart.
abbrev TurnsOf : List Memory → List (Op Untimed) → List ℕ → List ℕ → ℕ → Type 0
TurnsOf memories ops times units w =
    (j m : ℕ) (one other : Op Untimed) → slice_get ops j ≡ Some one → slice_get ops m ≡ Some other → IsAccess one.kind → IsAccess other.kind → ShareUnit memories ops units j m
    → slice_index times (j + 1) ≤ slice_index times (m + 1) → (slice_index times (j + 1) + 1 ≤ slice_index times (m + 1)) × (slice_index times (m + 1) + 1 ≤ slice_index times (j + 1) + w)

block_turns : (memories : List Memory) (region : Block Untimed) (timed : Block Timed) (times units : List ℕ) → IsWellTimedBlock memories region timed times units
    → TurnsOf memories region.body.ops.items times units timed.length
block_turns memories region timed times units w j m one other at_ there first second share low =
    let apart = w.turns j m share low in
    let held = ap occupancy_in at_ ∙ (of_port one.kind one.bits first).holds_ in
    let ends = w.long_enough.ops m (slice_get_within region.body.ops.items m other there) in
    let is = ap (ready_at times m) there in
    let some = (of_port other.kind other.bits second).takes in
    (omega (arith, apart, held), omega (arith, ends, is, some))

loop_turns : (memories : List Memory) (region : Loop Untimed) (timed : Loop Timed) (times units : List ℕ) → IsWellTimedLoop memories region timed times units
    → TurnsOf memories region.body.ops.items times units timed.ii
loop_turns memories region timed times units w j m one other at_ there first second share low =
    let apart = w.turns j m share low in
    let again = w.turns_again.others j m share low in
    let held = ap occupancy_in at_ ∙ (of_port one.kind one.bits first).holds_ in
    let held_too = ap occupancy_in there ∙ (of_port other.kind other.bits second).holds_ in
    (omega (arith, apart, held), omega (arith, again, held_too))

-- what the operations of a node are made from, and that they take turns
record NodeTurns (memories : List Memory) (body : TimedBody) (bounds : List ℕ) : Type 0 where
  times : List ℕ
  units : List ℕ
  ops : List (Op Untimed)
  from : (j : ℕ) (it : TimedOp) → slice_get body.ops j ≡ Some it → From times units ops j it (get_or bounds j 0)
  turns : TurnsOf memories ops times units body.interval

turns_at : (memories : List Memory) (one : Node Untimed) (timed : Node Timed) → IsWellTimedNode memories one timed → NodeTurns memories (body_of (timed_node timed)) (node_units timed)
turns_at memories (node.Plain region) (node.Plain timed) w = record {
  times = w.0;
  units = w.1.0;
  ops = region.body.ops.items;
  from = λ j it e. from_body w.0 w.1.0 region.body.ops.items timed.body.ops.items j it w.1.1.body.ops e;
  turns = block_turns memories region timed w.0 w.1.0 w.1.1;
}
turns_at memories (node.Looped region) (node.Looped timed) w = record {
  times = w.0;
  units = w.1.0;
  ops = region.body.ops.items;
  from = λ j it e. from_body w.0 w.1.0 region.body.ops.items timed.body.ops.items j it w.1.1.body.ops e;
  turns = loop_turns memories region timed w.0 w.1.0 w.1.1;
}
turns_at memories (node.Plain region) (node.Looped timed) w = absurd w
turns_at memories (node.Looped region) (node.Plain timed) w = absurd w

mapped_at : {A B : Type 0} (f : A → B) (xs : List A) (i : ℕ) (x : A) (d : B) → slice_get xs i ≡ Some x → get_or (map f xs) i d ≡ f x
mapped_at f [] i x d e = absurd (no_some e)
mapped_at f (y ∷ xs) zero x d e = ap f (some_same e)
mapped_at f (y ∷ xs) (suc i) x d e = mapped_at f xs i x d e

module _ (p : Plan) (k : IsCompiled p) where
  pub arrays_are : p.arrays ≡ map array_of k.untimed.frame.memories.items
  arrays_are = ap (λ (q : Plan). q.arrays) k.plan ∙ k.memories

  turns_of : (i : ℕ) (n : TimedNode) → slice_get p.program.nodes i ≡ Some n → NodeTurns k.untimed.frame.memories.items (body_at p i) (get_or p.units i [])
  turns_of i n there =
      let o = node_of p k i n there in
      let bounds : get_or p.units i [] ≡ node_units o.timed =
      ap (λ (q : Plan). get_or q.units i []) k.plan ∙ mapped_at node_units k.timed.nodes.items i o.timed [] o.there_timed in
      let body : body_of (timed_node o.timed) ≡ body_at p i = ap body_of o.is ∙ sym (body_found p i n there) in
      subst (λ (b : TimedBody). NodeTurns k.untimed.frame.memories.items b (get_or p.units i [])) body
      (subst (λ (us : List ℕ). NodeTurns k.untimed.frame.memories.items (body_of (timed_node o.timed)) us) (sym bounds) (turns_at k.untimed.frame.memories.items o.untimed o.timed o.well_timed))

  module _ (i : ℕ) (n : TimedNode) (there : slice_get p.program.nodes i ≡ Some n) (a : ℕ) (plain : (array_at p a).table ≡ None) where
    abbrev memories : List Memory
    memories = k.untimed.frame.memories.items

    untabled : (one : ArrayId) → one.0 ≡ a → has_table (slice_get memories one.0) ≡ false
    untabled one e = ap (λ (q : ℕ). has_table (slice_get memories q)) e ∙ no_table memories a (ap (λ (ms : List Array). (get_or ms a no_array).table) (sym arrays_are) ∙ plain)

    class_of : (op : Op Untimed) (one : ArrayId) → IsAccess op.kind → op.array ≡ Some one → one.0 ≡ a → class_in memories (Some op) ≡ Some (u.Port one)
    class_of op one kind is e =
        (of_port op.kind op.bits kind).class op.array memories ∙ (ap (port memories) is ∙ cond-false _ _ _ (untabled one e))

    port_is : (x : Placed) → port_of p a x ≡ memory_port p a x
    port_is x = cond-false _ _ _ (ap is_some plain)

    -- where both are at their times in one cycle
    same_unit : (x z : Placed) → x.node ≡ i → z.node ≡ i → port_of p a x ≡ port_of p a z → x.op.start % (body_at p i).interval ≡ z.op.start % (body_at p i).interval → unit_of p x ≡ unit_of p z
    same_unit x z e d same turn =
        let wide : span p i ≡ (body_at p i).interval = (positive p i n k there).1 in
        let turn_of : (y : Placed) → y.node ≡ i → y.op.start % span p y.node ≡ y.op.start % (body_at p i).interval = λ y l. ap (λ (q : ℕ). y.op.start % span p q) l ∙ ap (λ (w : ℕ). y.op.start % w) wide in
        unit_same p a x z (e ∙ sym d) (turn_of x e ∙ (turn ∙ sym (turn_of z d))) (sym (port_is x) ∙ (same ∙ port_is z))

    -- an access in this node
    record InNode (j : ℕ) (it : TimedOp) : Type 0 where
      stands_ : slice_get (body_at p i).ops j ≡ Some it
      array : is_array a it.op.array ≡ true
      kind : IsAccess it.op.kind

    share : (j m : ℕ) (it other : TimedOp) → InNode j it → InNode m other → get_or (get_or p.units i []) j 0 ≡ get_or (get_or p.units i []) m 0 → j ≢ m
        → ShareUnit memories (turns_of i n there).ops (turns_of i n there).units j m
    share j m it other one two same differ =
        let t = turns_of i n there in
        let f = t.from j it one.stands_ in
        let g = t.from m other two.stands_ in
        let x = array_named a it.op.array one.array in
        let y = array_named a other.op.array two.array in
        let first : class_in memories (slice_get t.ops j) ≡ Some (u.Port x.one) =
        ap (class_in memories) f.there ∙ class_of f.op x.one (subst IsAccess f.kind one.kind) (sym f.array ∙ x.is) x.number in
        let second : class_in memories (slice_get t.ops m) ≡ Some (u.Port y.one) =
        ap (class_in memories) g.there ∙ class_of g.op y.one (subst IsAccess g.kind two.kind) (sym g.array ∙ y.is) y.number in
        record {
          class = u.Port x.one;
          first = first;
          second = second ∙ ap (λ (q : ArrayId). Some (u.Port q)) (same_id y.one x.one (y.number ∙ sym x.number));
          unit = sym f.unit_ ∙ (same ∙ g.unit_);
          differ = differ;
        }

    apart : (j m : ℕ) (it other : TimedOp) → InNode j it → InNode m other → get_or (get_or p.units i []) j 0 ≡ get_or (get_or p.units i []) m 0 → j ≢ m
        → it.start % (body_at p i).interval ≡ other.start % (body_at p i).interval → it.start ≤ other.start → ⊥
    apart j m it other one two same differ turn low =
        let t = turns_of i n there in
        let f = t.from j it one.stands_ in
        let g = t.from m other two.stands_ in
        let r = t.turns j m f.op g.op f.there g.there (subst IsAccess f.kind one.kind) (subst IsAccess g.kind two.kind) (share j m it other one two same differ) (omega (arith, low, f.start, g.start)) in
        same_turn (body_at p i).interval it.start other.start turn (omega (arith, r.0, f.start, g.start)) (omega (arith, r.1, f.start, g.start))

    in_node : (x : Placed) → Accesses p a x → x.node ≡ i → InNode x.number x.op
    in_node x h e = record { stands_ = ap (λ (q : ℕ). slice_get (body_at p q).ops x.number) (sym e) ∙ h.stands_; array = h.array; kind = h.kind }

    -- two accesses at one port that are at their times in one cycle are one access
    pub one_user : (x z : Placed) → Accesses p a x → Accesses p a z → x.node ≡ i → z.node ≡ i → port_of p a x ≡ port_of p a z
        → x.op.start % (body_at p i).interval ≡ z.op.start % (body_at p i).interval → x.number ≡ z.number
    one_user x z h g e d same turn =
        let unit : (y : Placed) → y.node ≡ i → unit_of p y ≡ get_or (get_or p.units i []) y.number 0 = λ y l. ap (λ (q : ℕ). get_or (get_or p.units q []) y.number 0) l in
        let units : get_or (get_or p.units i []) x.number 0 ≡ get_or (get_or p.units i []) z.number 0 = sym (unit x e) ∙ (same_unit x z e d same turn ∙ unit z d) in
        elim (cases_eq x.number z.number) [
          | inl is ↦ is
          | inr differ ↦ absurd (elim (cases_lt z.op.start x.op.start) [
            | inl after ↦ apart z.number x.number z.op x.op (in_node z g d) (in_node x h e) (sym units) (λ l. differ (sym l)) (sym turn) (omega (arith, after))
            | inr before ↦ apart x.number z.number x.op z.op (in_node x h e) (in_node z g d) units differ turn before
          ])
        ]
