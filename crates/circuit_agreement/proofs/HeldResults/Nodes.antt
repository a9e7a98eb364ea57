-- Nodes of compiled programs with their operations, lives and reads.
use Rattle.std.proofs.Common.{◌≡◌, ℕ, ◌<◌, ◌≤◌, Bool, List, map, Some, refl, sym, ap, ◌∙◌, arith}
use Rattle.std.specs.Prelude.{slice_get}
use Rattle.std.specs.Option.{option_map}
use Rattle.std.proofs.lemmas.Option.{slice_get-map}
use Rattle.hls_base.specs.declared.number.OpId.{OpId}
use Rattle.ir_core.specs.declared.timed.Timed.{Timed}
use Rattle.ir_core.specs.declared.body.Op.{Op}
use Rattle.ir_core.specs.declared.body.Out.{Out}
use Rattle.ir_core.specs.declared.cfg.Block.{Block}
use Rattle.ir_core.specs.declared.cfg.Loop.{Loop}
use Rattle.ir_core.specs.declared.cfg.Node.{Node}
use Rattle.ir_core.specs.declared.cfg.Node.TheVariants as node
use Rattle.reg_binding.specs.Liveness.{summary_of, is_behind}
use Rattle.reg_binding.specs.declared.life.Life.{Life}
use Rattle.reg_binding.specs.declared.life.Read.{Read}
use Rattle.reg_binding.specs.Lives as lives
use Rattle.reg_binding.specs.Lives.{block_reads, loop_reads, last_read, block_life, chain_lives, chain_life, period}
use Rattle.reg_binding.specs.Pools.{Has}
use Rattle.clock_ir.specs.Flows.{TimedBody, timed_op, ready, ready_in}
use Rattle.clock_ir.specs.ClockRuns.{TimedProgram, timed_node}
use Rattle.clock_runs.proofs.Chains.{takes}
use Rattle.clock_runs.proofs.Lists.{some_same}
use Rattle.datapath.specs.Plans.{Plan, body_of, body_at, span}
use Rattle.circuit_agreement.specs.CircuitFlow.Compiled.{IsCompiled}
use Rattle.circuit_agreement.proofs.Nodes.{program, body_found, positive}
use Rattle.circuit_agreement.specs.CircuitFlow.HeldResults.Holding.{lives_at}
use Rattle.circuit_agreement.proofs.HeldResults.Lives.{BlockLife, block_life_of, LoopLife, loop_life_of, held_once}

abbrev pub ops_in : Node Timed → List (Op Timed)
ops_in (node.Plain b) = b.body.ops.items
ops_in (node.Looped r) = r.body.ops.items

abbrev pub outs_in : Node Timed → List Out
outs_in (node.Plain b) = b.body.outs.items
outs_in (node.Looped r) = r.body.outs.items

abbrev pub behind_at : (p : Plan) → IsCompiled p → Node Timed → ℕ → Bool
behind_at p c nd = is_behind c.live (summary_of nd)

abbrev pub reads_at : (p : Plan) → IsCompiled p → Node Timed → List Read
reads_at p c (node.Plain b) = block_reads (behind_at p c (node.Plain b)) b
reads_at p c (node.Looped r) = loop_reads (behind_at p c (node.Looped r)) r

-- ---- the node in the plan

module _ (p : Plan) (c : IsCompiled p) (i : ℕ) (nd : Node Timed) (stands : slice_get c.timed.nodes.items i ≡ Some nd) where
  pub in_plan : slice_get p.program.nodes i ≡ Some (timed_node nd)
  in_plan =
      ap (λ (q : TimedProgram). slice_get q.nodes i) (program p c) ∙ (slice_get-map timed_node c.timed.nodes.items i ∙ ap (option_map timed_node) stands)

  pub body_is : body_at p i ≡ body_of (timed_node nd)
  body_is = body_found p i (timed_node nd) in_plan

  pub wide : 1 ≤ (body_at p i).interval
  wide = (positive p i (timed_node nd) c in_plan).0

  pub span_is : span p i ≡ (body_at p i).interval
  span_is = (positive p i (timed_node nd) c in_plan).1

ops_timed : (nd : Node Timed) → (body_of (timed_node nd)).ops ≡ map timed_op (ops_in nd)
ops_timed (node.Plain b) = refl
ops_timed (node.Looped r) = refl

-- an operation whose result some row tells of
pub record Made (p : Plan) (i : ℕ) (op : OpId) (it : Op Timed) : Type 0 where
  pub timed : slice_get (body_at p i).ops op.0 ≡ Some (timed_op it)
  pub ready_is : ready (body_at p i) op ≡ lives.ready it
  pub some : 1 ≤ ready (body_at p i) op

pub made : (p : Plan) (c : IsCompiled p) (i : ℕ) (nd : Node Timed) → slice_get c.timed.nodes.items i ≡ Some nd → (k : ℕ) (it : Op Timed) → slice_get (ops_in nd) k ≡ Some it → (op : OpId) → k ≡ op.0
    → Made p i op it
made p c i nd stands k it there op same =
    let e : slice_get (body_at p i).ops op.0 ≡ Some (timed_op it) =
    ap (λ (b : TimedBody). slice_get b.ops op.0) (body_is p c i nd stands)
    ∙ (ap (λ xs. slice_get xs op.0) (ops_timed nd) ∙ (slice_get-map timed_op (ops_in nd) op.0 ∙ ap (option_map timed_op) (ap (slice_get (ops_in nd)) (sym same) ∙ there))) in
    let r : ready (body_at p i) op ≡ lives.ready it = ap ready_in e in
    let t = takes (timed_op it) in
    record { timed = e; ready_is = r; some = omega (arith, r, t) }

-- ---- lives

pub period_is : (p : Plan) (c : IsCompiled p) (i : ℕ) (r : Loop Timed) → slice_get c.timed.nodes.items i ≡ Some (node.Looped r) → period r ≡ (body_at p i).interval
period_is p c i r stands =
    let w = wide p c i (node.Looped r) stands in
    let e : (body_at p i).interval ≡ r.ii = ap (λ (b : TimedBody). b.interval) (body_is p c i (node.Looped r) stands) in
    omega (arith, w, e)

pub wide_period : (r : Loop Timed) → 0 < period r
wide_period r = omega arith

pub block_shape : (p : Plan) (c : IsCompiled p) (b : Block Timed) (life : Life) → Has (lives_at p c (node.Plain b)) life → BlockLife b.body.ops.items (reads_at p c (node.Plain b)) life
block_shape p c b life h = block_life_of b.body.ops.items (reads_at p c (node.Plain b)) life h

pub loop_shape : (p : Plan) (c : IsCompiled p) (r : Loop Timed) (life : Life) → Has (lives_at p c (node.Looped r)) life
    → LoopLife r.body.ops.items r.body.outs.items (period r) (reads_at p c (node.Looped r)) life
loop_shape p c r life h = loop_life_of r.body.ops.items r.body.outs.items (period r) (reads_at p c (node.Looped r)) life (wide_period r) h

-- the operation of a life
pub life_op : (p : Plan) (c : IsCompiled p) (nd : Node Timed) (life : Life) → Has (lives_at p c nd) life → (op : Op Timed) × (slice_get (ops_in nd) life.op ≡ Some op)
life_op p c (node.Plain b) life h = (let s = block_shape p c b life h in (s.op, s.there))
life_op p c (node.Looped r) life h = (let s = loop_shape p c r life h in (s.op, s.there))

-- a value of an operation has one life in each place
pub one_life : (p : Plan) (c : IsCompiled p) (nd : Node Timed) (one other : Life) → Has (lives_at p c nd) one → Has (lives_at p c nd) other → one.op ≡ other.op → one.place ≡ other.place
    → one ≡ other
one_life p c (node.Plain b) one other h g same at =
    let s = block_shape p c b one h in
    let t = block_shape p c b other g in
    let op_ : s.op ≡ t.op = some_same (sym s.there ∙ (ap (slice_get b.body.ops.items) same ∙ t.there)) in
    let last_ : s.last ≡ t.last = some_same (sym s.read ∙ (ap (last_read (reads_at p c (node.Plain b))) same ∙ t.read)) in
    s.is ∙ ((λ k. held_once (same k) (op_ k) (last_ k)) ∙ sym t.is)
one_life p c (node.Looped r) one other h g same at =
    let s = loop_shape p c r one h in
    let t = loop_shape p c r other g in
    let op_ : s.op ≡ t.op = some_same (sym s.there ∙ (ap (slice_get r.body.ops.items) same ∙ t.there)) in
    let last_ : s.last ≡ t.last = some_same (sym s.read ∙ (ap (last_read (reads_at p c (node.Looped r))) same ∙ t.read)) in
    s.is ∙ ((λ k. chain_life r.body.outs.items (period r) (same k) (op_ k) (last_ k) (at k)) ∙ sym t.is)
