-- What is read in a cycle is what the clocked run reads.
use Rattle.std.proofs.Common.{◌≡◌, ℕ, zero, suc, ◌+◌, ◌*◌, ◌<◌, ◌≤◌, ◌⊎◌, find, true, List, [], Some, None, inl, inr, refl, sym, ap, ap₂, ◌∙◌, subst, arith}
use Rattle.std.specs.Prelude.{slice_get}
use Rattle.std.proofs.lemmas.Bool.{cond-false}
use Rattle.hls_base.specs.declared.number.OpId.{OpId}
use Rattle.ir_core.specs.declared.timed.Timed.{Timed}
use Rattle.ir_core.specs.declared.body.Operand.{Operand}
use Rattle.ir_core.specs.declared.body.Out.{Out}
use Rattle.ir_core.specs.declared.body.Source.{Source}
use Rattle.ir_core.specs.declared.cfg.Block.{Block}
use Rattle.ir_core.specs.declared.cfg.Loop.{Loop}
use Rattle.ir_core.specs.declared.cfg.Node.{Node}
use Rattle.ir_core.specs.declared.cfg.Node.TheVariants as node
use Rattle.reg_binding.specs.declared.life.Life.{Life}
use Rattle.reg_binding.specs.declared.registers.Held.{Held}
use Rattle.reg_binding.specs.Lives.{is_taken_over, node_period, period, chain_life}
use Rattle.reg_binding.specs.Pools.{Has}
use Rattle.reg_binding.specs.Sharing.{IsThere}
use Rattle.ir_core.specs.Bodies.{word}
use Rattle.clock_ir.specs.Flows.{TimedOp, TimedBody, Flow, timed_body, ready, known, is_at, place, held, operand_at}
use Rattle.clock_ir.specs.ClockRuns.{block, overlapped, later}
use Rattle.clock_runs.proofs.Lists.{some_same}
use Rattle.clock_runs.proofs.Numbers.{turn, is_at_true}
use Rattle.datapath.specs.Plans.{Plan, body_at}
use Rattle.datapath.specs.Cycles.{Variable, Contents, Cycle}
use Rattle.datapath.specs.Reading.{is_place, result_at, read_from, read_by, operand}
use Rattle.datapath.specs.Blocks.{EndReads}
use Rattle.datapath.proofs.BlockSteps.{first_place}
use Rattle.circuit_agreement.specs.CircuitFlow.Compiled.{IsCompiled}
use Rattle.circuit_agreement.specs.CircuitFlow.Flows.{HoldsVariables}
use Rattle.circuit_agreement.specs.CircuitFlow.Reads.{IsThereLast, IsRead, by_argument, by_guard, by_test, by_end, by_out, by_exit}
use Rattle.circuit_agreement.proofs.Nodes.{NodeOf, node_of}
use Rattle.circuit_agreement.specs.CircuitFlow.HeldResults.Holding.{lives_at, HoldsResults}
use Rattle.circuit_agreement.specs.CircuitFlow.HeldResults.{HeldResultsAreSeen}
use Rattle.circuit_agreement.proofs.HeldResults.Times.{placed}
use Rattle.circuit_agreement.proofs.HeldResults.Lives.{LastRead, last_of, held_once, in_block_lives, chain_op, in_loop_lives}
use Rattle.circuit_agreement.proofs.HeldResults.Spans.{IsSpan, held_where_read}
use Rattle.circuit_agreement.proofs.HeldResults.Nodes.{reads_at, in_plan, body_is, wide, made, period_is, wide_period}
use Rattle.circuit_agreement.proofs.HeldResults.Rows.{place_row}
use Rattle.circuit_agreement.proofs.HeldResults.HeldRows.{HeldAt, is_held, read_place, LoopRow, loop_row}
use Rattle.circuit_agreement.proofs.HeldResults.LoopRows.{entry_at, entry_is, there_out}
use Rattle.circuit_agreement.proofs.HeldResults.BlockRows.{straight}
use Rattle.circuit_agreement.proofs.HeldResults.Outs.{entry_taken}
use Rattle.circuit_agreement.proofs.HeldResults.Readings.{StaysAs, by_constant, by_variable, ReadsWord, EntersLive, ReadsResult, Reading, OpOf, op_of_node, block_argument, block_guard, block_end, block_out}
use Rattle.circuit_agreement.proofs.HeldResults.LoopReadings.{loop_argument, loop_guard, loop_test, loop_exit}

-- ---- words

module _ (p : Plan) (i : ℕ) (f : Flow) (x : Contents) (cycle : Cycle) (same : cycle.regs ≡ x.regs) (variables : HoldsVariables p i f.entry x) where
  stays_same : (s : Source) → StaysAs p i s → read_from cycle s ≡ word (record { variables = f.entry; memories = f.memories }) [] s
  stays_same _ (by_constant word) = refl
  stays_same _ (by_variable v live) = ap (λ r. r (Variable v.0)) same ∙ variables v.0 live

  sees_word : (y : Operand) (t : ℕ) → ReadsWord p i y → operand p cycle i t y ≡ operand_at (body_at p i) f t y
  sees_word y t r = (ap (read_by p cycle i t y) r.maker ∙ stays_same y.value r.stays) ∙ sym (ap (held (body_at p i) f t y) r.maker)

-- ---- results

module _ (p : Plan) (c : IsCompiled p) (i : ℕ) (f : Flow) (x : Contents) (cycle : Cycle) (same : cycle.regs ≡ x.regs) (holds : HoldsResults p c i f x) where
  abbrev w : ℕ
  w = (body_at p i).interval

  abbrev a : OpId → ℕ
  a op = ready (body_at p i) op

  -- the row of a place, with what is read there
  row_read : (nd : Node Timed) → slice_get c.timed.nodes.items i ≡ Some nd → (op : OpId) (j : ℕ) (life : Life) → Has (lives_at p c nd) life → life.op ≡ op.0 → life.place ≡ j
      → IsThere (node_period nd) life f.time → (a op + j * w ≤ f.time) ⊎ EntersLive p i op.0 → result_at p cycle i op.0 j ≡ f.chain op.0 j
  row_read nd stands op j life in_ op_ at there made_ =
      let pr = place_row p c i nd stands life in_ in
      let h : Held = pr.row_ in
      let same_op : h.op.0 ≡ op.0 = pr.op_ ∙ op_ in
      let same_place : h.place ≡ j = pr.place ∙ at in
      let e : a h.op ≡ a op = ap (λ k. a (record { 0 = k })) same_op in
      let z : h.place * w ≡ j * w = ap (λ k. k * w) same_place in
      let ha : HeldAt p c i nd h f.time = record {
        life = life;
        lives = in_;
        op = sym pr.op_;
        place = sym pr.place;
        there = there;
        made = elim made_ [
          | inl low ↦ inl (omega (arith, low, e, z))
          | inr entry ↦ inr (record { variable = entry.variable; entry = ap₂ (λ n k. entry_at p n k) pr.here same_op ∙ entry.entry; live = entry.live })
        ];
      } in
      read_place p c i f x cycle same op j h pr.there (ap₂ (λ k n. find (is_place i k n) p.held) (sym op_) (sym at) ∙ pr.found_) pr.here same_op same_place (is_held p c i nd stands h f.time ha) holds

  sees_place : (y : Operand) (t : ℕ) (nd : Node Timed) (r : ReadsResult p c i nd y t) → result_at p cycle i r.op.0 (place w (a r.op) t y.distance) ≡ f.chain r.op.0 (place w (a r.op) t y.distance)
      → operand p cycle i t y ≡ operand_at (body_at p i) f t y
  sees_place y t nd r e = (ap (read_by p cycle i t y) r.maker ∙ e) ∙ sym (ap (held (body_at p i) f t y) r.maker)

  -- ---- blocks

  sees_in_block : (b : Block Timed) → slice_get c.timed.nodes.items i ≡ Some (node.Plain b) → (y : Operand) (t : ℕ) → ReadsResult p c i (node.Plain b) y t → is_at w t f.time ≡ true
      → operand p cycle i t y ≡ operand_at (body_at p i) f t y
  sees_in_block b stands y t r now =
      let nd : Node Timed = node.Plain b in
      let op : OpId = r.op in
      let m = made p c i nd stands op.0 r.it r.found op refl in
      let none : y.distance ≡ 0 = elim r.near [
        | inl none ↦ none
        | inr entry ↦ absurd (let e : entry_at p i op.0 ≡ None = cond-false _ _ _ (straight p c i b stands) in let clash : None ≡ Some entry.1.variable = sym e ∙ entry.1.entry in cc)
      ] in
      let z : y.distance * w ≡ 0 * w = ap (λ n. n * w) none in
      let ready_ = r.ready_ in
      let short = holds.within (straight p c i b stands) in
      let e : f.time ≡ turn w t f.time * w + t = is_at_true w t f.time now in
      let at_t : f.time ≡ t = one_turn (turn w t f.time) e short in
      let first : place w (a op) t y.distance ≡ 0 = first_place w (a op) t y.distance none (omega (arith, ready_, z)) (omega (arith, at_t, short)) in
      let l : LastRead (reads_at p c nd) op.0 (t + y.distance * w) = last_of (reads_at p c nd) op.0 (t + y.distance * w) r.read in
      let late = l.late in
      let same_ready = m.ready_is in
      let in_ = in_block_lives b.body.ops.items (reads_at p c nd) op.0 l.last r.it r.found l.is (omega (arith, same_ready, ready_, late)) in
      let e0 : result_at p cycle i op.0 0 ≡ f.chain op.0 0 =
      row_read nd stands op 0 (held_once op.0 r.it l.last) in_ refl refl (omega (arith, same_ready, ready_, z, at_t), omega (arith, same_ready, ready_, z, at_t, late)) (inl (omega (arith, ready_, z, at_t))) in
      sees_place y t nd r (subst (λ n. result_at p cycle i op.0 n ≡ f.chain op.0 n) (sym first) e0)
    where
      one_turn : (n : ℕ) → f.time ≡ n * w + t → f.time < w → f.time ≡ t
      one_turn zero e short = omega (arith, e)
      one_turn (suc n) e short = absurd (let y1 : suc n * w ≡ n * w + w = omega arith in omega (arith, e, short, y1))

  -- ---- loops

  sees_in_loop : (r : Loop Timed) → slice_get c.timed.nodes.items i ≡ Some (node.Looped r) → (y : Operand) (t : ℕ) → ReadsResult p c i (node.Looped r) y t → is_at w t f.time ≡ true
      → operand p cycle i t y ≡ operand_at (body_at p i) f t y
  sees_in_loop r stands y t rr now =
      let nd : Node Timed = node.Looped r in
      let op : OpId = rr.op in
      let outs : List Out = r.body.outs.items in
      let j : ℕ = place w (a op) t y.distance in
      let some : 0 < w = (let h = wide p c i nd stands in omega (arith, h)) in
      let m = made p c i nd stands op.0 rr.it rr.found op refl in
      let pl = placed w (a op) t y.distance some rr.ready_ in
      let placed_is = pl.1.0 in
      let small = pl.1.1 in
      let l : LastRead (reads_at p c nd) op.0 (t + y.distance * w) = last_of (reads_at p c nd) op.0 (t + y.distance * w) rr.read in
      let late = l.late in
      let same_ready = m.ready_is in
      let per : period r ≡ w = period_is p c i r stands in
      let turns : j * period r ≡ j * w = ap (λ n. j * n) per in
      let life : Life = chain_life outs (period r) op.0 rr.it l.last j in
      let in_ : Has (lives_at p c nd) life =
      in_loop_lives r.body.ops.items outs (period r) (reads_at p c nd) op.0 l.last j rr.it (wide_period r) rr.found l.is (omega (arith, same_ready, placed_is, late, turns)) in
      let parts = chain_op outs (period r) op.0 rr.it l.last j in
      let row : LoopRow p c i r op j life = loop_row p c i r stands op j life in_ parts.0 parts.1 in
      let span_ : IsSpan w (a op) l.last j (is_taken_over outs op.0) life = subst (λ n. IsSpan w (a op) n j (is_taken_over outs op.0) life) (some_same (sym row.read ∙ l.is)) row.span in
      let near : (y.distance ≡ 0) ⊎ ((y.distance ≡ 1) × (is_taken_over outs op.0 ≡ true)) = elim rr.near [
        | inl none ↦ inl none
        | inr one ↦ inr (one.0, entry_taken p outs op.0 one.1.variable (sym (entry_is p c i r stands op.0) ∙ one.1.entry))
      ] in
      let e : f.time ≡ turn w t f.time * w + t = is_at_true w t f.time now in
      let there : IsThere (Some w) life f.time =
      subst (λ n. IsThere (Some w) life n) (sym e) (held_where_read w (a op) l.last j t y.distance pl.0 (turn w t f.time) (is_taken_over outs op.0) life some span_ placed_is small late near) in
      let made_ : (a op + j * w ≤ f.time) ⊎ EntersLive p i op.0 = elim rr.near [
        | inl none ↦ inl (let z : y.distance * w ≡ 0 * w = ap (λ n. n * w) none in omega (arith, placed_is, z, e))
        | inr one ↦ inr one.1
      ] in
      sees_place y t nd rr (row_read nd stands op j life in_ parts.0 parts.1 (there_out p c i r stands life f.time there) made_)

-- ---- what is read in a node

module _ (p : Plan) (c : IsCompiled p) (i : ℕ) where
  in_its_body : (nd : Node Timed) → slice_get c.timed.nodes.items i ≡ Some nd → (k : ℕ) (it : TimedOp) → slice_get (body_at p i).ops k ≡ Some it → OpOf nd k it
  in_its_body nd stands k it e = op_of_node nd k it (ap (λ (z : TimedBody). slice_get z.ops k) (sym (body_is p c i nd stands)) ∙ e)

  arg_of : (nd : Node Timed) (k n : ℕ) (it : TimedOp) (y : Operand) (o : OpOf nd k it) → slice_get it.op.args n ≡ Some y → slice_get o.op.args.items n ≡ Some y
  arg_of nd k n it y o e = ap (λ (z : TimedOp). slice_get z.op.args n) o.is ∙ e

  guard_of : (nd : Node Timed) (k : ℕ) (it : TimedOp) (y : Operand) (o : OpOf nd k it) → it.op.guard ≡ Some y → o.op.guard ≡ Some y
  guard_of nd k it y o e = ap (λ (z : TimedOp). z.op.guard) o.is ∙ e

  block_reading : (b : Block Timed) → slice_get c.timed.nodes.items i ≡ Some (node.Plain b) → (y : Operand) (t : ℕ) → IsRead p i y t → Reading p c i (node.Plain b) y t
  block_reading b stands _ _ (by_argument k n it y e is) =
      let o = in_its_body (node.Plain b) stands k it e in
      subst (λ (z : TimedOp). Reading p c i (node.Plain b) y z.start) o.is (block_argument p c i b stands k n o.op y o.there_ (arg_of (node.Plain b) k n it y o is))
  block_reading b stands _ _ (by_guard k it y e is) =
      let o = in_its_body (node.Plain b) stands k it e in
      subst (λ (z : TimedOp). Reading p c i (node.Plain b) y z.start) o.is (block_guard p c i b stands k o.op y o.there_ (guard_of (node.Plain b) k it y o is))
  block_reading b stands _ _ (by_test body exit next y at is) =
      absurd (let clash : overlapped body exit next ≡ block (timed_body b.length b.body) b.end = some_same (sym at ∙ in_plan p c i (node.Plain b) stands) in cc)
  block_reading b stands _ _ (by_end body end_ y at reads) =
      let one : block body end_ ≡ block (timed_body b.length b.body) b.end = some_same (sym at ∙ in_plan p c i (node.Plain b) stands) in
      let ends : end_ ≡ b.end = cc in
      block_end p c i b stands y (subst (λ z. EndReads z y) ends reads)
  block_reading b stands _ _ (by_out body end_ n out at is live last) =
      let one : block body end_ ≡ block (timed_body b.length b.body) b.end = some_same (sym at ∙ in_plan p c i (node.Plain b) stands) in
      let bodies : body ≡ timed_body b.length b.body = cc in
      block_out p c i b stands n out (ap (λ (z : TimedBody). slice_get z.outs n) (sym bodies) ∙ is) live (subst (λ z. IsThereLast z out.value) (bodies ∙ sym (body_is p c i (node.Plain b) stands)) last)
  block_reading b stands _ _ (by_exit body exit next n out at is live) =
      absurd (let clash : overlapped body exit next ≡ block (timed_body b.length b.body) b.end = some_same (sym at ∙ in_plan p c i (node.Plain b) stands) in cc)

  loop_reading : (r : Loop Timed) → slice_get c.timed.nodes.items i ≡ Some (node.Looped r) → (y : Operand) (t : ℕ) → IsRead p i y t → Reading p c i (node.Looped r) y t
  loop_reading r stands _ _ (by_argument k n it y e is) =
      let o = in_its_body (node.Looped r) stands k it e in
      subst (λ (z : TimedOp). Reading p c i (node.Looped r) y z.start) o.is (loop_argument p c i r stands k n o.op y o.there_ (arg_of (node.Looped r) k n it y o is))
  loop_reading r stands _ _ (by_guard k it y e is) =
      let o = in_its_body (node.Looped r) stands k it e in
      subst (λ (z : TimedOp). Reading p c i (node.Looped r) y z.start) o.is (loop_guard p c i r stands k o.op y o.there_ (guard_of (node.Looped r) k it y o is))
  loop_reading r stands _ _ (by_test body exit next y at is) =
      let one : overlapped body exit next ≡ overlapped (timed_body r.ii r.body) r.exit r.next.0 = some_same (sym at ∙ in_plan p c i (node.Looped r) stands) in
      let bodies : body ≡ timed_body r.ii r.body = cc in
      subst (λ z. Reading p c i (node.Looped r) y (known z)) (sym bodies) (loop_test p c i r stands y (ap (λ (z : TimedBody). z.test) (sym bodies) ∙ is))
  loop_reading r stands _ _ (by_end body end_ y at reads) =
      absurd (let clash : block body end_ ≡ overlapped (timed_body r.ii r.body) r.exit r.next.0 = some_same (sym at ∙ in_plan p c i (node.Looped r) stands) in cc)
  loop_reading r stands _ _ (by_out body end_ n out at is live last) =
      absurd (let clash : block body end_ ≡ overlapped (timed_body r.ii r.body) r.exit r.next.0 = some_same (sym at ∙ in_plan p c i (node.Looped r) stands) in cc)
  loop_reading r stands _ _ (by_exit body exit next n out at is live) =
      let one : overlapped body exit next ≡ overlapped (timed_body r.ii r.body) r.exit r.next.0 = some_same (sym at ∙ in_plan p c i (node.Looped r) stands) in
      let bodies : body ≡ timed_body r.ii r.body = cc in
      let exits : exit ≡ r.exit = cc in
      subst (λ z. Reading p c i (node.Looped r) (later out.value) z) (sym exits) (loop_exit p c i r stands n out (ap (λ (z : TimedBody). slice_get z.outs n) (sym bodies) ∙ is) live)

-- ---- all that is read

sees : (p : Plan) (c : IsCompiled p) (i : ℕ) (nd : Node Timed) (f : Flow) (x : Contents) (cycle : Cycle) → slice_get c.timed.nodes.items i ≡ Some nd → HoldsResults p c i f x
    → HoldsVariables p i f.entry x → cycle.regs ≡ x.regs → (y : Operand) (t : ℕ) → IsRead p i y t → is_at (body_at p i).interval t f.time ≡ true → operand p cycle i t y ≡ operand_at (body_at p i) f t y
sees p c i (node.Plain b) f x cycle stands holds variables same y t read now = elim (block_reading p c i b stands y t read) [
  | inl stays ↦ sees_word p i f x cycle same variables y t stays
  | inr result ↦ sees_in_block p c i f x cycle same holds b stands y t result now
]
sees p c i (node.Looped r) f x cycle stands holds variables same y t read now = elim (loop_reading p c i r stands y t read) [
  | inl stays ↦ sees_word p i f x cycle same variables y t stays
  | inr result ↦ sees_in_loop p c i f x cycle same holds r stands y t result now
]

pub results_seen : HeldResultsAreSeen
results_seen p c i n f x cycle at holds variables same y t read now =
    let o : NodeOf p c i n = node_of p c i n at in
    sees p c i o.timed f x cycle o.there_timed holds variables same y t read now
