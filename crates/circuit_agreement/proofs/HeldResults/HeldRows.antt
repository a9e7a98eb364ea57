-- Rows whose values are to be held, each with its life.
use Rattle.std.proofs.Common.{◌≡◌, ℕ, ◌+◌, ◌-◌, ◌*◌, ◌≤◌, ◌⊎◌, Bool, Some, sym, ap, ap₂, find, ◌∙◌, subst, arith}
use Rattle.std.specs.Prelude.{slice_get}
use Rattle.hls_base.specs.declared.number.OpId.{OpId}
use Rattle.ir_core.specs.declared.timed.Timed.{Timed}
use Rattle.ir_core.specs.declared.cfg.Block.{Block}
use Rattle.ir_core.specs.declared.cfg.Loop.{Loop}
use Rattle.ir_core.specs.declared.cfg.Node.{Node}
use Rattle.ir_core.specs.declared.cfg.Node.TheVariants as node
use Rattle.reg_binding.specs.declared.life.Life.{Life}
use Rattle.reg_binding.specs.declared.registers.Held.{Held}
use Rattle.reg_binding.specs.Lives as lives
use Rattle.reg_binding.specs.Lives.{last_read, is_taken_over, node_period, period}
use Rattle.reg_binding.specs.Pools.{Has}
use Rattle.reg_binding.specs.Sharing.{IsThere}
use Rattle.clock_ir.specs.Flows.{Flow, ready}
use Rattle.clock_runs.proofs.Lists.{some_same}
use Rattle.datapath.specs.Plans.{Plan, body_at}
use Rattle.datapath.specs.Cycles.{Value, Contents, Cycle}
use Rattle.datapath.specs.Reading.{is_place, held_by, result_at}
use Rattle.circuit_agreement.specs.CircuitFlow.Compiled.{IsCompiled}
use Rattle.circuit_agreement.specs.CircuitFlow.HeldResults.Holding.{lives_at, HasEntry, IsHeld, HoldsResults}
use Rattle.circuit_agreement.proofs.HeldResults.Nodes.{reads_at, made, period_is, block_shape, loop_shape, life_op}
use Rattle.circuit_agreement.proofs.HeldResults.Spans.{IsSpan, span_of}

-- ---- rows of a node

abbrev pub row_in : ℕ → OpId → ℕ → ℕ → Held
row_in i op j r = record { node = record { 0 = i }; op = op; place = j; register = r }

pub as_row : (i : ℕ) (h : Held) → h.node.0 ≡ i → h ≡ row_in i h.op h.place h.register
as_row i h e = (λ k. record { node = record { 0 = e k }; op = h.op; place = h.place; register = h.register })

pub row_same : (g h : Held) → g.node.0 ≡ h.node.0 → g.op.0 ≡ h.op.0 → g.place ≡ h.place → g.register ≡ h.register → g ≡ h
row_same g h e o l r = (λ k. record { node = record { 0 = e k }; op = record { 0 = o k }; place = l k; register = r k })

-- ---- what is held, of a node that is known

pub record HeldAt (p : Plan) (c : IsCompiled p) (i : ℕ) (nd : Node Timed) (h : Held) (time : ℕ) : Type 0 where
  pub life : Life
  pub lives : Has (lives_at p c nd) life
  pub op : life.op ≡ h.op.0
  pub place : life.place ≡ h.place
  pub there : IsThere (node_period nd) life time
  pub made : (ready (body_at p i) h.op + h.place * (body_at p i).interval ≤ time) ⊎ HasEntry p i h

module _ (p : Plan) (c : IsCompiled p) (i : ℕ) (nd : Node Timed) (stands : slice_get c.timed.nodes.items i ≡ Some nd) (h : Held) (time : ℕ) where
  pub held_at : IsHeld p c i h time → HeldAt p c i nd h time
  held_at hd =
      let e : hd.node ≡ nd = some_same (sym hd.stands ∙ stands) in record {
        life = hd.life;
        lives = subst (λ (n : Node Timed). Has (lives_at p c n) hd.life) e hd.lives;
        op = hd.op;
        place = hd.place;
        there = subst (λ (n : Node Timed). IsThere (node_period n) hd.life time) e hd.there;
        made = hd.made;
      }

  pub is_held : HeldAt p c i nd h time → IsHeld p c i h time
  is_held ha = record { node = nd; stands = stands; life = ha.life; lives = ha.lives; op = ha.op; place = ha.place; there = ha.there; made = ha.made }

-- what is read in a place is what the chain holds there
pub read_place : (p : Plan) (c : IsCompiled p) (i : ℕ) (f : Flow) (x : Contents) (cycle : Cycle) → cycle.regs ≡ x.regs → (op : OpId) (m : ℕ) (h : Held) → Has p.held h
    → find (is_place i op.0 m) p.held ≡ Some h → h.node.0 ≡ i → h.op.0 ≡ op.0 → h.place ≡ m → IsHeld p c i h f.time → HoldsResults p c i f x
    → result_at p cycle i op.0 m ≡ f.chain op.0 m
read_place p c i f x cycle same op m h there found_ here o n hd holds_ =
    ap (held_by cycle) found_ ∙ (ap (λ q. q (Value h.register)) same ∙ (holds_.held there.0 h there.1 here hd ∙ ap₂ (λ k j. f.chain k j) o n))

-- the operation of a life
pub life_made : (p : Plan) (c : IsCompiled p) (i : ℕ) (nd : Node Timed) → slice_get c.timed.nodes.items i ≡ Some nd → (life : Life) → Has (lives_at p c nd) life → (op : OpId) → life.op ≡ op.0
    → 1 ≤ ready (body_at p i) op
life_made p c i nd stands life h op same = (let o = life_op p c nd life h in (made p c i nd stands life.op o.0 o.1 op same).some)

-- ---- blocks

-- held from the time on at which it is there
pub record BlockRow (p : Plan) (i : ℕ) (op : OpId) (j : ℕ) (life : Life) : Type 0 where
  pub last : ℕ
  pub soon : ready (body_at p i) op ≤ last
  pub start : life.start ≡ ready (body_at p i) op
  pub long : life.length ≡ last - ready (body_at p i) op + 1
  pub first : j ≡ 0

pub block_row : (p : Plan) (c : IsCompiled p) (i : ℕ) (b : Block Timed) → slice_get c.timed.nodes.items i ≡ Some (node.Plain b) → (op : OpId) (j : ℕ) (life : Life)
    → Has (lives_at p c (node.Plain b)) life → life.op ≡ op.0 → life.place ≡ j → BlockRow p i op j life
block_row p c i b stands op j life h same at =
    let s = block_shape p c b life h in
    let m = made p c i (node.Plain b) stands life.op s.op s.there op same in
    let e = m.ready_is in
    let soon = s.soon in
    let start = ap (λ (l : Life). l.start) s.is in
    let long = ap (λ (l : Life). l.length) s.is in
    record { last = s.last; soon = omega (arith, e, soon); start = omega (arith, e, start); long = omega (arith, e, long); first = sym at ∙ ap (λ (l : Life). l.place) s.is }

-- ---- loops

pub record LoopRow (p : Plan) (c : IsCompiled p) (i : ℕ) (r : Loop Timed) (op : OpId) (j : ℕ) (life : Life) : Type 0 where
  pub last : ℕ
  pub read : last_read (reads_at p c (node.Looped r)) op.0 ≡ Some last
  pub soon : ready (body_at p i) op + j * (body_at p i).interval ≤ last
  pub span : IsSpan (body_at p i).interval (ready (body_at p i) op) last j (is_taken_over r.body.outs.items op.0) life

pub loop_row : (p : Plan) (c : IsCompiled p) (i : ℕ) (r : Loop Timed) → slice_get c.timed.nodes.items i ≡ Some (node.Looped r) → (op : OpId) (j : ℕ) (life : Life)
    → Has (lives_at p c (node.Looped r)) life → life.op ≡ op.0 → life.place ≡ j → LoopRow p c i r op j life
loop_row p c i r stands op j life h same at =
    let s = loop_shape p c r life h in
    let m = made p c i (node.Looped r) stands life.op s.op s.there op same in
    let taken : ℕ → Bool = is_taken_over r.body.outs.items in
    let one : IsSpan (period r) (lives.ready s.op) s.last life.place (taken life.op) life =
    subst (IsSpan (period r) (lives.ready s.op) s.last life.place (taken life.op)) (sym s.is) (span_of r.body.outs.items (period r) life.op s.op s.last life.place) in
    let two : IsSpan (body_at p i).interval (ready (body_at p i) op) s.last life.place (taken life.op) life =
    subst (λ (n : ℕ). IsSpan (body_at p i).interval n s.last life.place (taken life.op) life) (sym m.ready_is)
    (subst (λ (n : ℕ). IsSpan n (lives.ready s.op) s.last life.place (taken life.op) life) (period_is p c i r stands) one) in
    let soon_here : ready (body_at p i) op + life.place * (body_at p i).interval ≤ s.last =
    subst (λ (n : ℕ). n + life.place * (body_at p i).interval ≤ s.last) (sym m.ready_is) (subst (λ (n : ℕ). lives.ready s.op + life.place * n ≤ s.last) (period_is p c i r stands) s.soon) in
    record {
      last = s.last;
      read = ap (last_read (reads_at p c (node.Looped r))) (sym same) ∙ s.read;
      soon = subst (λ (n : ℕ). ready (body_at p i) op + n * (body_at p i).interval ≤ s.last) at soon_here;
      span = subst (λ (n : ℕ). IsSpan (body_at p i).interval (ready (body_at p i) op) s.last j (taken n) life) same
          (subst (λ (n : ℕ). IsSpan (body_at p i).interval (ready (body_at p i) op) s.last n (taken life.op) life) at two);
    }
