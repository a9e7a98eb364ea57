-- In compiled programs the test of a loop is known when it may be left and when its stores start, and blocks end behind the start of each operation.
use Rattle.std.proofs.Common.{◌≡◌, ℕ, ◌<◌, ◌≤◌, List, length, get_or, Some, None, sym, ap, ◌∙◌, subst}
use Rattle.std.specs.Prelude.{slice_get}
use Rattle.std.proofs.lemmas.Option.{slice_get_within, get_or_from_slice_get}
use Rattle.ir_core.specs.declared.body.OpKind.TheVariants as o
use Rattle.ir_core.specs.declared.cfg.End.{End}
use Rattle.ir_core.specs.declared.cfg.Memory.{Memory}
use Rattle.ir_core.specs.declared.cfg.Node.{Node}
use Rattle.ir_core.specs.declared.cfg.Node.TheVariants as node
use Rattle.ir_core.specs.declared.stamp.Untimed.{Untimed}
use Rattle.ir_core.specs.declared.timed.Timed.{Timed}
use Rattle.ir_core.specs.Bodies.{Shapes, Words}
use Rattle.clock_ir.specs.Flows.{TimedOp, TimedBody, timed_body, known}
use Rattle.clock_ir.specs.ClockRuns.{TimedNode, block, overlapped, timed_node}
use Rattle.clock_ir.specs.WellTimed.{IsWellTimedNode}
use Rattle.clock_runs.specs.Premises.{IsSoundNode}
use Rattle.clock_runs.proofs.Effects.{storing, sort_of}
use Rattle.clock_runs.proofs.Settings.{nothing}
use Rattle.clock_runs.proofs.Order.{AreShort}
use Rattle.clock_runs.proofs.TimedBlocks as blocks
use Rattle.clock_runs.proofs.TimedLoops as loops
use Rattle.datapath.specs.Plans.{Plan, body_of, body_at}
use Rattle.circuit_agreement.specs.CircuitFlow.Compiled.{IsCompiled}
use Rattle.circuit_agreement.proofs.Nodes.{NodeOf, node_of, shapes, body_found}

-- any contents serve, since times do not depend on them
abbrev no_words : Words
no_words = record { variables = λ v. 0; memories = λ a address. 0 }

abbrev exit_of : TimedNode → ℕ
exit_of (block body end_) = 0
exit_of (overlapped body exit next) = exit

-- ---- loops

known_by : (shapes_ : Shapes) (memories : List Memory) (u : Node Untimed) (t : Node Timed) (body : TimedBody) (exit next : ℕ) → IsWellTimedNode memories u t → IsSoundNode shapes_ u
    → timed_node t ≡ overlapped body exit next → known body ≤ exit
known_by shapes_ memories (node.Plain u) (node.Plain t) body exit next w s e = absurd (cc)
known_by shapes_ memories (node.Plain u) (node.Looped t) body exit next w s e = absurd w
known_by shapes_ memories (node.Looped u) (node.Plain t) body exit next w s e = absurd w
known_by shapes_ memories (node.Looped u) (node.Looped t) body exit next w s e =
    let le : known (timed_body t.ii t.body) ≤ t.exit = (loops.can_exit shapes_ memories u t w.0 w.1.0 w.1.1 s no_words).known in
    let same : timed_body t.ii t.body ≡ body = ap body_of e in
    subst (λ n. known body ≤ n) (ap exit_of e) (subst (λ (b : TimedBody). known b ≤ t.exit) same le)

stores_by : (shapes_ : Shapes) (memories : List Memory) (u : Node Untimed) (t : Node Timed) (body : TimedBody) (exit next k : ℕ) (it : TimedOp) → IsWellTimedNode memories u t → IsSoundNode shapes_ u
    → timed_node t ≡ overlapped body exit next → slice_get body.ops k ≡ Some it → it.op.kind ≡ o.Store → known body ≤ it.start
stores_by shapes_ memories (node.Plain u) (node.Plain t) body exit next k it w s e at_ kind = absurd (cc)
stores_by shapes_ memories (node.Plain u) (node.Looped t) body exit next k it w s e at_ kind = absurd w
stores_by shapes_ memories (node.Looped u) (node.Plain t) body exit next k it w s e at_ kind = absurd w
stores_by shapes_ memories (node.Looped u) (node.Looped t) body exit next k it w s e at_ kind =
    let timed : TimedBody = timed_body t.ii t.body in
    let same : timed ≡ body = ap body_of e in
    let there : slice_get timed.ops k ≡ Some it = ap (λ (b : TimedBody). slice_get b.ops k) same ∙ at_ in
    let within : k < length timed.ops = slice_get_within timed.ops k it there in
    let is : get_or timed.ops k nothing ≡ it = get_or_from_slice_get timed.ops k it nothing there in
    let store : sort_of (get_or timed.ops k nothing).op.kind ≡ storing = ap (λ (q : TimedOp). sort_of q.op.kind) is ∙ ap sort_of kind in
    let le : known timed ≤ (get_or timed.ops k nothing).start = ((loops.timely shapes_ memories u t w.0 w.1.0 w.1.1 s no_words).test_before k within store).1 in
    subst (λ (q : TimedOp). known body ≤ q.start) is (subst (λ (b : TimedBody). known b ≤ (get_or timed.ops k nothing).start) same le)

-- ---- blocks

early_by : (shapes_ : Shapes) (short : AreShort shapes_) (memories : List Memory) (u : Node Untimed) (t : Node Timed) (body : TimedBody) (end_ : End) (k : ℕ) (it : TimedOp) → IsWellTimedNode memories u t
    → IsSoundNode shapes_ u → timed_node t ≡ block body end_ → slice_get body.ops k ≡ Some it → it.start < body.interval
early_by shapes_ short memories (node.Looped u) (node.Looped t) body end_ k it w s e at_ = absurd (cc)
early_by shapes_ short memories (node.Plain u) (node.Looped t) body end_ k it w s e at_ = absurd w
early_by shapes_ short memories (node.Looped u) (node.Plain t) body end_ k it w s e at_ = absurd w
early_by shapes_ short memories (node.Plain u) (node.Plain t) body end_ k it w s e at_ =
    let timed : TimedBody = timed_body t.length t.body in
    let same : timed ≡ body = ap body_of e in
    let there : slice_get timed.ops k ≡ Some it = ap (λ (b : TimedBody). slice_get b.ops k) same ∙ at_ in
    let within : k < length timed.ops = slice_get_within timed.ops k it there in
    let is : get_or timed.ops k nothing ≡ it = get_or_from_slice_get timed.ops k it nothing there in
    let lt : (get_or timed.ops k nothing).start < timed.interval = blocks.early shapes_ short memories u t w.0 w.1.0 w.1.1 s no_words k within in
    subst (λ (q : TimedOp). q.start < body.interval) is (subst (λ (b : TimedBody). (get_or timed.ops k nothing).start < b.interval) same lt)

untested_by : (shapes_ : Shapes) (memories : List Memory) (u : Node Untimed) (t : Node Timed) (body : TimedBody) (end_ : End) → IsWellTimedNode memories u t → IsSoundNode shapes_ u → timed_node t ≡ block body end_
    → body.test ≡ None
untested_by shapes_ memories (node.Looped u) (node.Looped t) body end_ w s e = absurd (cc)
untested_by shapes_ memories (node.Plain u) (node.Looped t) body end_ w s e = absurd w
untested_by shapes_ memories (node.Looped u) (node.Plain t) body end_ w s e = absurd w
untested_by shapes_ memories (node.Plain u) (node.Plain t) body end_ w s e = ap (λ (b : TimedBody). b.test) (sym (ap body_of e)) ∙ (w.1.1.body.test ∙ s.untested)

-- ---- nodes of compiled programs

module _ (p : Plan) (c : IsCompiled p) (i : ℕ) where
  module _ (body : TimedBody) (exit next : ℕ) (at_ : slice_get p.program.nodes i ≡ Some (overlapped body exit next)) where
    pub loop_body : body_at p i ≡ body
    loop_body = body_found p i (overlapped body exit next) at_

    found_loop : NodeOf p c i (overlapped body exit next)
    found_loop = node_of p c i (overlapped body exit next) at_

    -- the test is known no later than the exit
    pub known_at_exit : known (body_at p i) ≤ exit
    known_at_exit =
        subst (λ (b : TimedBody). known b ≤ exit) (sym loop_body)
        (known_by p.program.shapes c.untimed.frame.memories.items found_loop.untimed found_loop.timed body exit next found_loop.well_timed found_loop.sound found_loop.is)

    -- and before a store starts
    pub known_at_store : (k : ℕ) (it : TimedOp) → slice_get (body_at p i).ops k ≡ Some it → it.op.kind ≡ o.Store → known (body_at p i) ≤ it.start
    known_at_store k it op kind =
        subst (λ (b : TimedBody). known b ≤ it.start) (sym loop_body)
        (stores_by p.program.shapes c.untimed.frame.memories.items found_loop.untimed found_loop.timed body exit next k it found_loop.well_timed found_loop.sound found_loop.is
        (ap (λ (b : TimedBody). slice_get b.ops k) (sym loop_body) ∙ op) kind)

  module _ (body : TimedBody) (end_ : End) (at_ : slice_get p.program.nodes i ≡ Some (block body end_)) where
    block_body : body_at p i ≡ body
    block_body = body_found p i (block body end_) at_

    found_block : NodeOf p c i (block body end_)
    found_block = node_of p c i (block body end_) at_

    short : AreShort p.program.shapes
    short = subst AreShort (sym (shapes p c)) c.sound.dims

    -- each operation of a block starts before it ends
    pub starts_within : (k : ℕ) (it : TimedOp) → slice_get (body_at p i).ops k ≡ Some it → it.start < (body_at p i).interval
    starts_within k it op =
        subst (λ (b : TimedBody). it.start < b.interval) (sym block_body)
        (early_by p.program.shapes short c.untimed.frame.memories.items found_block.untimed found_block.timed body end_ k it found_block.well_timed found_block.sound found_block.is
        (ap (λ (b : TimedBody). slice_get b.ops k) (sym block_body) ∙ op))

    -- a block has no test
    pub no_test : (body_at p i).test ≡ None
    no_test =
        ap (λ (b : TimedBody). b.test) block_body
        ∙ untested_by p.program.shapes c.untimed.frame.memories.items found_block.untimed found_block.timed body end_ found_block.well_timed found_block.sound found_block.is
