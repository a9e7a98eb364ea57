-- No unit is taken by two operations at a time.
use Rattle.std.proofs.Common.{◌≡◌, ◌≢◌, ℕ, ◌+◌, ◌-◌, ◌%◌, ◌<◌, ◌≤◌, true, List, [], ◌⊎◌, Option, Some, sym, ap, ◌∙◌, inl, inr, mod-eq_of_lt, arith}
use Rattle.std.specs.Prelude.{slice_get, get_or}
use Rattle.std.proofs.lemmas.Bool.{cases_lt, cases_eq}
use Rattle.std.proofs.lemmas.Option.{slice_get_within}
use Rattle.hls_base.specs.declared.number.ArrayId.{ArrayId}
use Rattle.ir_core.specs.declared.body.Op.{Op}
use Rattle.ir_core.specs.declared.body.OpKind.{OpKind}
use Rattle.ir_core.specs.declared.body.OpKind.TheVariants as o
use Rattle.ir_core.specs.declared.cfg.End.{End}
use Rattle.ir_core.specs.declared.cfg.Memory.{Memory}
use Rattle.ir_core.specs.declared.cfg.Node.{Node}
use Rattle.ir_core.specs.declared.cfg.Node.TheVariants as node
use Rattle.ir_core.specs.declared.stamp.Untimed.{Untimed}
use Rattle.ir_core.specs.declared.timed.Timed.{Timed}
use Rattle.ir_core.specs.declared.timing.UnitClass.{UnitClass}
use Rattle.ir_core.specs.Timing as timing
use Rattle.ir_core.specs.Timing.{occupancy, unit_class}
use Rattle.block_schedule.specs.Schedules.{ready_at}
use Rattle.clock_ir.specs.Flows.{TimedOp, TimedBody, latency, timed_body, is_at}
use Rattle.clock_ir.specs.ClockRuns.{TimedNode, block, timed_node}
use Rattle.clock_ir.specs.WellTimed.{class_in, occupancy_in, ShareUnit, IsWellTimedNode}
use Rattle.clock_runs.proofs.Lists.{some_same}
use Rattle.datapath.specs.Plans.{Plan, body_of, body_at, node_units, unit_of}
use Rattle.circuit_agreement.specs.CircuitFlow.Compiled.{IsCompiled}
use Rattle.circuit_agreement.proofs.Nodes.{node_of, body_found}
use Rattle.circuit_agreement.specs.UnitResults.UnderWay.{IsWithin, placed_at}
use Rattle.circuit_agreement.proofs.UnitResults.Times.{near, at_parts, same_rest}
use Rattle.circuit_agreement.proofs.UnitResults.Operations.{OpOf, op_of, units_found}

abbrev pub occupied : TimedOp → ℕ
occupied it = occupancy it.op.kind it.op.bits

abbrev pub class_of : List Memory → TimedOp → Option UnitClass
class_of memories it = unit_class it.op.kind it.op.bits it.op.array memories

-- ---- what is known of the times of a node

-- two operations of a node that take the same unit
pub record Share (p : Plan) (i : ℕ) (memories : List Memory) (k m : ℕ) (one other : TimedOp) : Type 0 where
  pub is : slice_get (body_at p i).ops k ≡ Some one
  pub is_other : slice_get (body_at p i).ops m ≡ Some other
  pub class : UnitClass
  pub first : class_of memories one ≡ Some class
  pub second : class_of memories other ≡ Some class
  pub unit : unit_of p (placed_at i k one) ≡ unit_of p (placed_at i m other)

pub record Ending (p : Plan) (i : ℕ) : Type 0 where
  pub body : TimedBody
  pub end_ : End
  pub is : slice_get p.program.nodes i ≡ Some (block body end_)
  pub same : body_at p i ≡ body
  pub ends : (k : ℕ) (it : TimedOp) → slice_get (body_at p i).ops k ≡ Some it → it.start + latency it ≤ (body_at p i).interval

pub record Again (p : Plan) (i : ℕ) (memories : List Memory) : Type 0 where
  pub others : (k m : ℕ) (one other : TimedOp) → Share p i memories k m one other → k ≢ m → one.start ≤ other.start → other.start + occupied other ≤ one.start + (body_at p i).interval
  pub own : (k : ℕ) (it : TimedOp) (class : UnitClass) → slice_get (body_at p i).ops k ≡ Some it → class_of memories it ≡ Some class → occupied it ≤ (body_at p i).interval

pub record Turns (p : Plan) (i : ℕ) (memories : List Memory) : Type 0 where
  pub turns : (k m : ℕ) (one other : TimedOp) → Share p i memories k m one other → k ≢ m → one.start ≤ other.start → one.start + occupied one ≤ other.start
  pub around : Ending p i ⊎ Again p i memories

-- ---- they are those of the program without times

class_is : (p : Plan) (i k : ℕ) (it : TimedOp) (os : List (Op Untimed)) (times units : List ℕ) (memories : List Memory) (o : OpOf p i k it os times units) → class_in memories (slice_get os k) ≡ class_of memories it
class_is p i k it os times units memories o =
    ap (class_in memories) o.there
    ∙ (ap (λ (a : OpKind). unit_class a o.op.bits o.op.array memories) (sym o.kind)
    ∙ (ap (λ (b : ℕ). unit_class it.op.kind b o.op.array memories) (sym o.bits) ∙ ap (λ (a : Option ArrayId). unit_class it.op.kind it.op.bits a memories) (sym o.array)))

occupied_is : (p : Plan) (i k : ℕ) (it : TimedOp) (os : List (Op Untimed)) (times units : List ℕ) (o : OpOf p i k it os times units) → occupancy_in (slice_get os k) ≡ occupied it
occupied_is p i k it os times units o =
    ap occupancy_in o.there ∙ (ap (λ (a : OpKind). occupancy a o.op.bits) (sym o.kind) ∙ ap (λ (b : ℕ). occupancy it.op.kind b) (sym o.bits))

shares : (p : Plan) (i : ℕ) (memories : List Memory) (k m : ℕ) (one other : TimedOp) (os : List (Op Untimed)) (times units : List ℕ) → Share p i memories k m one other → k ≢ m
    → OpOf p i k one os times units → OpOf p i m other os times units → ShareUnit memories os units k m
shares p i memories k m one other os times units s different a b = record {
  class = s.class;
  first = class_is p i k one os times units memories a ∙ s.first;
  second = class_is p i m other os times units memories b ∙ s.second;
  unit = sym a.unit ∙ (s.unit ∙ b.unit);
  differ = different;
}

turns_at : (p : Plan) (c : IsCompiled p) (i : ℕ) (n : TimedNode) → slice_get p.program.nodes i ≡ Some n → (u : Node Untimed) (t : Node Timed) → timed_node t ≡ n
    → slice_get c.timed.nodes.items i ≡ Some t → IsWellTimedNode c.untimed.frame.memories.items u t → Turns p i c.untimed.frame.memories.items
turns_at p c i n e (node.Plain u) (node.Plain t) same there w =
    let memories : List Memory = c.untimed.frame.memories.items in
    let times : List ℕ = w.0 in
    let units : List ℕ = w.1.0 in
    let wt = w.1.1 in
    let body_is : body_at p i ≡ timed_body t.length t.body = body_found p i n e ∙ ap body_of (sym same) in
    let units_are : get_or p.units i [] ≡ node_units (node.Plain t) = units_found p c i (node.Plain t) there in
    let of : (k : ℕ) (it : TimedOp) → slice_get (body_at p i).ops k ≡ Some it → OpOf p i k it u.body.ops.items times units =
    λ (k : ℕ) (it : TimedOp) is. op_of p i k t.length it u.body t.body times units body_is units_are wt.body is in
    record {
      turns = λ k m one other s different before.
          let a = of k one s.is in
          let b = of m other s.is_other in
          let sa = a.start in let sb = b.start in
          let o = occupied_is p i k one u.body.ops.items times units a in
          let h = wt.turns k m (shares p i memories k m one other u.body.ops.items times units s different a b) (omega (arith, sa, sb, before)) in
          omega (arith, h, o, sa, sb);
      around = inl (record {
        body = timed_body t.length t.body;
        end_ = t.end;
        is = e ∙ ap Some (sym same);
        same = body_is;
        ends = λ k it is.
            let a = of k it is in
            let within = slice_get_within u.body.ops.items k a.op a.there in
            let h = wt.long_enough.ops k within in
            let r : ready_at times k (slice_get u.body.ops.items k) ≡ it.start + latency it =
            ap (ready_at times k) a.there
            ∙ (ap (λ (x : ℕ). x + timing.latency a.op.kind a.op.bits) (sym a.start)
            ∙ (ap (λ (z : OpKind). it.start + timing.latency z a.op.bits) (sym a.kind) ∙ ap (λ (z : ℕ). it.start + timing.latency it.op.kind z) (sym a.bits))) in
            let l : (body_at p i).interval ≡ t.length = ap (λ (b : TimedBody). b.interval) body_is in
            omega (arith, h, r, l);
      });
    }
turns_at p c i n e (node.Looped u) (node.Looped t) same there w =
    let memories : List Memory = c.untimed.frame.memories.items in
    let times : List ℕ = w.0 in
    let units : List ℕ = w.1.0 in
    let wt = w.1.1 in
    let body_is : body_at p i ≡ timed_body t.ii t.body = body_found p i n e ∙ ap body_of (sym same) in
    let units_are : get_or p.units i [] ≡ node_units (node.Looped t) = units_found p c i (node.Looped t) there in
    let wide : (body_at p i).interval ≡ t.ii = ap (λ (b : TimedBody). b.interval) body_is in
    let of : (k : ℕ) (it : TimedOp) → slice_get (body_at p i).ops k ≡ Some it → OpOf p i k it u.body.ops.items times units =
    λ (k : ℕ) (it : TimedOp) is. op_of p i k t.ii it u.body t.body times units body_is units_are wt.body is in
    record {
      turns = λ k m one other s different before.
          let a = of k one s.is in
          let b = of m other s.is_other in
          let sa = a.start in let sb = b.start in
          let o = occupied_is p i k one u.body.ops.items times units a in
          let h = wt.turns k m (shares p i memories k m one other u.body.ops.items times units s different a b) (omega (arith, sa, sb, before)) in
          omega (arith, h, o, sa, sb);
      around = inr (record {
        others = λ k m one other s different before.
            let a = of k one s.is in
            let b = of m other s.is_other in
            let sa = a.start in let sb = b.start in
            let o = occupied_is p i m other u.body.ops.items times units b in
            let h = wt.turns_again.others k m (shares p i memories k m one other u.body.ops.items times units s different a b) (omega (arith, sa, sb, before)) in
            omega (arith, h, o, sa, sb, wide);
        own = λ k it class is h.
            let a = of k it is in
            let o = occupied_is p i k it u.body.ops.items times units a in
            let l = wt.turns_again.own k class (class_is p i k it u.body.ops.items times units memories a ∙ h) in
            omega (arith, l, o, wide);
      });
    }
turns_at p c i n e (node.Plain u) (node.Looped t) same there w = absurd w
turns_at p c i n e (node.Looped u) (node.Plain t) same there w = absurd w

pub turns_of : (p : Plan) (c : IsCompiled p) (i : ℕ) (n : TimedNode) → slice_get p.program.nodes i ≡ Some n → Turns p i c.untimed.frame.memories.items
turns_of p c i n e = let o = node_of p c i n e in turns_at p c i n e o.untimed o.timed o.is o.there_timed o.well_timed

-- ---- no two at a time

occupied_some : (kind : OpKind) (bits : ℕ) → 1 ≤ occupancy kind bits
occupied_some o.Div bits = omega arith
occupied_some o.Rem bits = omega arith
occupied_some kind bits = omega arith

pub record Alone (k m d : ℕ) : Type 0 where
  pub now : d ≡ 0
  pub same : k ≡ m

-- while an operation has its unit no other one starts there, and it does not again
pub alone : (p : Plan) (i : ℕ) (memories : List Memory) (time k m d : ℕ) (one other : TimedOp) → Turns p i memories → IsWithin p i time → Share p i memories k m one other
    → is_at (body_at p i).interval (one.start + d) time ≡ true → d < occupied one → other.start % (body_at p i).interval ≡ time % (body_at p i).interval → 1 ≤ latency other → Alone k m d
alone p i memories time k m d one other t within s started early starts some =
    let w : ℕ = (body_at p i).interval in
    let rest : (one.start + d) % w ≡ other.start % w = same_rest w (one.start + d) time started ∙ sym starts in
    elim t.around [
      | inl ending ↦
          let width : w ≡ ending.body.interval = ap (λ (b : TimedBody). b.interval) ending.same in
          let fits : time < w = let h = within ending.body ending.end_ ending.is in omega (arith, h, width) in
          let at_ = at_parts w (one.start + d) time started in
          let begun = at_.begun in
          let turn = at_.turn in
          let small : (time - (one.start + d)) % w ≡ time - (one.start + d) = mod-eq_of_lt (omega (arith, fits)) in
          let exact : time ≡ one.start + d = omega (arith, turn, small, begun) in
          let ends_ = ending.ends m other s.is_other in
          let low : other.start < w = omega (arith, ends_, some) in
          let now : other.start ≡ time = sym (mod-eq_of_lt low) ∙ (starts ∙ mod-eq_of_lt fits) in
          elim (cases_eq k m) [
            | inl e ↦ let h : one.start ≡ other.start = ap (λ (z : TimedOp). z.start) (some_same (sym s.is ∙ (ap (slice_get (body_at p i).ops) e ∙ s.is_other))) in record { now = omega (arith, exact, now, h); same = e }
            | inr different ↦ let h = t.turns k m one other s different (omega (arith, exact, now)) in absurd (omega (arith, h, exact, now, early))
          ]
      | inr again ↦
          elim (cases_eq k m) [
            | inl e ↦
                let h : one.start ≡ other.start = ap (λ (z : TimedOp). z.start) (some_same (sym s.is ∙ (ap (slice_get (body_at p i).ops) e ∙ s.is_other))) in
                let own = again.own k one s.class s.is s.first in
                let n : other.start ≡ one.start + d = near w other.start (one.start + d) (omega (arith, h)) (omega (arith, h, own, early)) (sym rest) in
                record { now = omega (arith, n, h); same = e }
            | inr different ↦
                elim (cases_lt other.start one.start) [
                  | inl later ↦
                      let back : Share p i memories m k other one = record { is = s.is_other; is_other = s.is; class = s.class; first = s.second; second = s.first; unit = sym s.unit } in
                      let h = again.others m k other one back (λ (e : m ≡ k). different (sym e)) (omega (arith, later)) in
                      let n : other.start ≡ one.start + d = near w other.start (one.start + d) (omega (arith, later)) (omega (arith, h, early)) (sym rest) in
                      absurd (omega (arith, n, later))
                  | inr sooner ↦
                      let h = t.turns k m one other s different sooner in
                      let g = again.others k m one other s different sooner in
                      let o = occupied_some other.op.kind other.op.bits in
                      let n : one.start + d ≡ other.start = near w (one.start + d) other.start (omega (arith, h, early)) (omega (arith, g, o)) rest in
                      absurd (omega (arith, n, h, early))
                ]
          ]
    ]
