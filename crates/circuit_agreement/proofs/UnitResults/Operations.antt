-- The operations of a plan, and what they are made from.
use Rattle.std.proofs.Common.{◌≡◌, ℕ, zero, suc, ◌+◌, ◌%◌, ◌<◌, ◌≤◌, true, List, [], ◌∷◌, Some, refl, sym, ap, ◌∙◌, subst, inl, inr, true≢false, arith}
use Rattle.std.specs.Prelude.{nat_le, ◌==◌, ◌||◌, slice_get, slice_index, get_or}
use Rattle.std.specs.List.{enumerate_from}
use Rattle.std.proofs.lemmas.Bool.{cases_eq, and_parts, and_from, and_left}
use Rattle.std.proofs.lemmas.Nat.{mod_below}
use Rattle.ir_core.specs.declared.body.Body.{Body}
use Rattle.ir_core.specs.declared.body.Op.{Op}
use Rattle.ir_core.specs.declared.cfg.Node.{Node}
use Rattle.ir_core.specs.declared.stamp.Untimed.{Untimed}
use Rattle.ir_core.specs.declared.timed.Timed.{Timed}
use Rattle.unit_binding.specs.Copies.{IsTimedCopy, AreTimedCopies, IsTimedBody}
use Rattle.clock_ir.specs.Flows.{TimedOp, TimedBody, timed_op, timed_body}
use Rattle.clock_ir.specs.ClockRuns.{TimedNode}
use Rattle.clock_runs.proofs.Lists.{no_some, some_same}
use Rattle.datapath.specs.Plans.{Plan, Placed, body_of, body_at, span, numbered, placed_in, all_ops, units_of, node_units, unit_of}
use Rattle.datapath.specs.Cycles.{Register, Time, Active, Contents, Cycle, holds}
use Rattle.datapath.specs.Reading.{at, is_starting}
use Rattle.datapath.specs.Standing.{IsInside}
use Rattle.circuit_agreement.specs.CircuitFlow.Compiled.{IsCompiled}
use Rattle.circuit_agreement.proofs.Nodes.{body_found}
use Rattle.circuit_agreement.specs.UnitResults.UnderWay.{placed_at}
use Rattle.circuit_agreement.proofs.UnitResults.Lists.{In, Mapped, from_map, in_map, in_numbered, from_numbered, in_flat, from_flat, get_map}
use Rattle.circuit_agreement.proofs.UnitResults.Times.{shows, shown}

-- ---- all operations

pub op_in : (p : Plan) (i k : ℕ) (n : TimedNode) (it : TimedOp) → slice_get p.program.nodes i ≡ Some n → slice_get (body_at p i).ops k ≡ Some it → In (all_ops p) (placed_at i k it)
op_in p i k n it at_node is =
    let node_ = in_numbered 0 p.program.nodes i n at_node in
    let there : slice_get (body_of n).ops k ≡ Some it = ap (λ (b : TimedBody). slice_get b.ops k) (sym (body_found p i n at_node)) ∙ is in
    let op_ = in_numbered 0 (body_of n).ops k it there in
    let put : ℕ × TimedOp → Placed = λ (o : ℕ × TimedOp). record { node = 0 + i; number = o.0; op = o.1 } in
    let inside = in_map put (enumerate_from 0 (body_of n).ops) op_.place (0 + k, it) op_.stands in
    let node_is : 0 + i ≡ i = omega arith in
    let op_is : 0 + k ≡ k = omega arith in
    subst (λ (j : ℕ). In (all_ops p) (placed_at j k it)) node_is
    (subst (λ (m : ℕ). In (all_ops p) (placed_at (0 + i) m it)) op_is (in_flat placed_in (numbered p) node_.place (0 + i, n) (placed_at (0 + i) (0 + k) it) node_.stands inside))

pub record Stands (p : Plan) (x : Placed) : Type 0 where
  pub node : TimedNode
  pub there : slice_get p.program.nodes x.node ≡ Some node
  pub is : slice_get (body_at p x.node).ops x.number ≡ Some x.op

pub op_from : (p : Plan) (m : ℕ) (x : Placed) → slice_get (all_ops p) m ≡ Some x → Stands p x
op_from p m x e =
    let h = from_flat placed_in (numbered p) m x e in
    let n = from_numbered 0 p.program.nodes h.place h.from h.there in
    let put : ℕ × TimedOp → Placed = λ (o : ℕ × TimedOp). record { node = h.from.0; number = o.0; op = o.1 } in
    let g : Mapped put (enumerate_from 0 (body_of h.from.1).ops) h.inside.place x = from_map put (enumerate_from 0 (body_of h.from.1).ops) h.inside.place x h.inside.stands in
    let o = from_numbered 0 (body_of h.from.1).ops h.inside.place g.from g.there in
    let here : h.place ≡ x.node = (let z : h.place ≡ 0 + h.place = omega arith in z) ∙ (sym n.0 ∙ ap (λ (y : Placed). y.node) g.is) in
    let number_ : h.inside.place ≡ x.number = (let z : h.inside.place ≡ 0 + h.inside.place = omega arith in z) ∙ (sym o.0 ∙ ap (λ (y : Placed). y.number) g.is) in
    let there_ : slice_get p.program.nodes x.node ≡ Some h.from.1 = subst (λ (j : ℕ). slice_get p.program.nodes j ≡ Some h.from.1) here n.1 in
    record {
      node = h.from.1;
      there = there_;
      is = ap (λ (b : TimedBody). slice_get b.ops x.number) (body_found p x.node h.from.1 there_)
          ∙ (subst (λ (j : ℕ). slice_get (body_of h.from.1).ops j ≡ Some g.from.1) number_ o.1 ∙ ap (λ (y : Placed). Some y.op) g.is);
    }

-- ---- operations that start

module _ (p : Plan) (c : Cycle) (x : Contents) (i time : ℕ) (same : c.regs ≡ x.regs) (inside : IsInside i (time % span p i) x) (some : 1 ≤ span p i) where
  active : c.regs (Active i) ≡ 1
  active = ap (λ (r : Register → ℕ). r (Active i)) same ∙ inside.active

  now : c.regs Time ≡ time % span p i
  now = ap (λ (r : Register → ℕ). r Time) same ∙ inside.time

  pub at_from : (t : ℕ) → t % span p i ≡ time % span p i → at p c i t ≡ true
  at_from t e = and_from _ _ (ap (λ (k : ℕ). k == 1) active) (shows (span p i) (c.regs Time) t some (e ∙ sym now))

  pub at_says : (t : ℕ) → at p c i t ≡ true → t % span p i ≡ time % span p i
  at_says t e =
      let positive : 0 < span p i = omega (arith, some) in
      let parts = and_parts _ _ e in
      shown (span p i) (time % span p i) t some (mod_below time (span p i) positive) (sym (ap (λ (k : ℕ). nat_le (span p i) 1 || (k == t % span p i)) now) ∙ parts.1)

  -- only this node is under way
  pub starts_here : (o : Placed) → is_starting p c o ≡ true → o.node ≡ i
  starts_here o e =
      elim (cases_eq o.node i) [
        | inl here ↦ here
        | inr other ↦ absurd (true≢false (sym e ∙ and_left (holds c (Active o.node)) _ (ap (λ (k : ℕ). k == 1) (ap (λ (r : Register → ℕ). r (Active o.node)) same ∙ inside.others o.node other))))
      ]

-- ---- operations of the program without times

record Copied (times units : List ℕ) (base k : ℕ) (os : List (Op Untimed)) (c : Op Timed) : Type 0 where
  op : Op Untimed
  there : slice_get os k ≡ Some op
  copy : IsTimedCopy op (slice_index times (base + k + 1)) (slice_index units (base + k)) c

copied : (times units : List ℕ) (base k : ℕ) (os : List (Op Untimed)) (cs : List (Op Timed)) (c : Op Timed) → AreTimedCopies times units base os cs → slice_get cs k ≡ Some c
    → Copied times units base k os c
copied times units base k [] [] c h e = absurd (no_some e)
copied times units base k [] (d ∷ cs) c h e = absurd h
copied times units base k (o ∷ os) [] c h e = absurd h
copied times units base zero (o ∷ os) (d ∷ cs) c h e =
    let here : base ≡ base + 0 = omega arith in
    record {
      op = o;
      there = refl;
      copy = subst (λ (j : ℕ). IsTimedCopy o (slice_index times (j + 1)) (slice_index units j) c) here (subst (λ z. IsTimedCopy o (slice_index times (base + 1)) (slice_index units base) z) (some_same e) h.0);
    }
copied times units base (suc k) (o ∷ os) (d ∷ cs) c h e =
    let r = copied times units (suc base) k os cs c h.1 e in
    let next : suc base + k ≡ base + suc k = omega arith in
    record { op = r.op; there = r.there; copy = subst (λ (j : ℕ). IsTimedCopy r.op (slice_index times (j + 1)) (slice_index units j) c) next r.copy }

-- an operation of node i, and what it is made from
pub record OpOf (p : Plan) (i k : ℕ) (it : TimedOp) (os : List (Op Untimed)) (times units : List ℕ) : Type 0 where
  pub op : Op Untimed
  pub there : slice_get os k ≡ Some op
  pub kind : it.op.kind ≡ op.kind
  pub bits : it.op.bits ≡ op.bits
  pub array : it.op.array ≡ op.array
  pub start : it.start ≡ slice_index times (k + 1)
  pub unit : unit_of p (placed_at i k it) ≡ slice_index units k

pub op_of : (p : Plan) (i k interval : ℕ) (it : TimedOp) (before : Body Untimed) (body : Body Timed) (times units : List ℕ) → body_at p i ≡ timed_body interval body
    → get_or p.units i [] ≡ units_of body → IsTimedBody times units before body → slice_get (body_at p i).ops k ≡ Some it → OpOf p i k it before.ops.items times units
op_of p i k interval it before body times units is_body is_units timed is =
    let m = from_map timed_op body.ops.items k it (ap (λ (b : TimedBody). slice_get b.ops k) (sym is_body) ∙ is) in
    let c = copied times units 0 k before.ops.items body.ops.items m.from timed.ops m.there in
    let place : 0 + k ≡ k = omega arith in
    let same : timed_op m.from ≡ it = m.is in
    record {
      op = c.op;
      there = c.there;
      kind = ap (λ (z : TimedOp). z.op.kind) (sym same) ∙ c.copy.same_kind;
      bits = ap (λ (z : TimedOp). z.op.bits) (sym same) ∙ c.copy.same_bits;
      array = ap (λ (z : TimedOp). z.op.array) (sym same) ∙ c.copy.same_array;
      start = ap (λ (z : TimedOp). z.start) (sym same) ∙ (c.copy.at_time ∙ ap (λ (j : ℕ). slice_index times (j + 1)) place);
      unit = ap (λ (us : List ℕ). get_or us k 0) is_units
          ∙ (get_map (λ (o : Op Timed). o.stamp.bound) body.ops.items k m.from 0 m.there ∙ (c.copy.on_unit ∙ ap (slice_index units) place));
    }

-- the units of the operations of a node
pub units_found : (p : Plan) (c : IsCompiled p) (i : ℕ) (node : Node Timed) → slice_get c.timed.nodes.items i ≡ Some node → get_or p.units i [] ≡ node_units node
units_found p c i node e = ap (λ (q : Plan). get_or q.units i []) c.plan ∙ get_map node_units c.timed.nodes.items i node [] e
