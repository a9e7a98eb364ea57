-- What the rows of a block take in a cycle.
use Rattle.std.proofs.Common.{◌≡◌, ◌≢◌, ℕ, suc, ◌+◌, ◌-◌, ◌*◌, ◌%◌, ◌<◌, ◌≤◌, ◌||◌, Bool, true, false, Some, inl, inr, refl, sym, ap, ◌∙◌, subst, arith, mod-eq_of_lt}
use Rattle.std.specs.Prelude.{slice_get}
use Rattle.std.proofs.lemmas.Bool.{cond-false, cases_eq, true≢false}
use Rattle.hls_base.specs.declared.number.OpId.{OpId}
use Rattle.ir_core.specs.declared.timed.Timed.{Timed}
use Rattle.ir_core.specs.declared.cfg.Block.{Block}
use Rattle.ir_core.specs.declared.cfg.Node.{Node}
use Rattle.ir_core.specs.declared.cfg.Node.TheVariants as node
use Rattle.reg_binding.specs.declared.life.Life.{Life}
use Rattle.reg_binding.specs.declared.registers.Held.{Held}
use Rattle.reg_binding.specs.Lives.{node_period}
use Rattle.reg_binding.specs.Pools.{Has}
use Rattle.reg_binding.specs.Sharing.{IsThere}
use Rattle.clock_ir.specs.Flows.{TimedBody, Flow, is_at, ready}
use Rattle.clock_runs.proofs.Numbers.{is_at_sure}
use Rattle.clock_runs.proofs.Reading.{ready_is}
use Rattle.datapath.specs.Plans.{Plan, body_at, span}
use Rattle.datapath.specs.Cycles.{Contents, Cycle}
use Rattle.rtl_logic.specs.Choosing.{is_any_wanted, AllWant}
use Rattle.datapath.specs.Reading.{at}
use Rattle.datapath.specs.Control.{is_loop}
use Rattle.datapath.specs.Values.{moved, block_writes, held_writes}
use Rattle.datapath.specs.Standing.{IsInside}
use Rattle.circuit_agreement.specs.CircuitFlow.Compiled.{IsCompiled}
use Rattle.circuit_agreement.specs.CircuitFlow.HeldResults.Holding.{lives_at}
use Rattle.circuit_agreement.proofs.HeldResults.Nodes.{in_plan, body_is, wide, life_op}
use Rattle.circuit_agreement.proofs.HeldResults.Coming.{at_true, arrival_at}
use Rattle.circuit_agreement.proofs.HeldResults.HeldRows.{row_in, HeldAt, life_made, block_row}
use Rattle.circuit_agreement.proofs.HeldResults.BlockTimes.{block_setting, placed_op, times_of}

module _ (p : Plan) (c : IsCompiled p) (i : ℕ) (b : Block Timed) (stands : slice_get c.timed.nodes.items i ≡ Some (node.Plain b)) where
  abbrev nd : Node Timed
  nd = node.Plain b

  abbrev w : ℕ
  w = (body_at p i).interval

  abbrev a : OpId → ℕ
  a op = ready (body_at p i) op

  some : 0 < w
  some = (let h = wide p c i nd stands in omega (arith, h))

  pub straight : is_loop (slice_get p.program.nodes i) ≡ false
  straight = ap is_loop (in_plan p c i nd stands)

  -- a result is there as the block ends
  in_time : (life : Life) → Has (lives_at p c nd) life → (op : OpId) → life.op ≡ op.0 → a op ≤ w
  in_time life h op same =
      let o = life_op p c nd life h in
      let there : slice_get b.body.ops.items op.0 ≡ Some o.0 = ap (slice_get b.body.ops.items) (sym same) ∙ o.1 in
      let q = placed_op p.program.shapes b op.0 o.0 there in
      let d = (times_of p c i b stands).done_ op.0 q.1 in
      let e : a op ≡ _ = ap (λ (x : TimedBody). ready x op) (body_is p c i nd stands) ∙ ready_is (block_setting p.program.shapes b) op q.1 in
      let l : w ≡ b.length = ap (λ (x : TimedBody). x.interval) (body_is p c i nd stands) in
      omega (arith, d, e, l)

  module _ (f : Flow) (x : Contents) (cycle : Cycle) (same : cycle.regs ≡ x.regs) (inside : IsInside i (f.time % span p i) x) (short : f.time + 1 < w) where
    block_row_writes : (h : Held) → h.node.0 ≡ i → held_writes p cycle h ≡ block_writes p cycle h
    block_row_writes h here = cond-false _ _ _ (ap (λ k. is_loop (slice_get p.program.nodes k)) here ∙ straight)

    last_one : (t : Bool) → (t || false) ≡ t
    last_one true = refl
    last_one false = refl

    pub block_wanted : (op : OpId) (j reg : ℕ) → is_any_wanted (held_writes p cycle (row_in i op j reg)) ≡ at p cycle i (a op - 1)
    block_wanted op j reg = ap is_any_wanted (block_row_writes (row_in i op j reg) refl) ∙ last_one (at p cycle i (a op - 1))

    pub block_moves : (op : OpId) (j reg : ℕ) → HeldAt p c i nd (row_in i op j reg) (suc f.time) → is_any_wanted (held_writes p cycle (row_in i op j reg)) ≡ is_at w (a op) (suc f.time)
    block_moves op j reg hd =
        let row = block_row p c i b stands op j hd.life hd.lives hd.op hd.place in
        let start = row.start in
        let low = hd.there.0 in
        block_wanted op j reg ∙ arrival_at p c i nd stands f x cycle same inside (a op) (life_made p c i nd stands hd.life hd.lives op hd.op) (omega (arith, start, low))

    pub block_all : (op : OpId) (j reg : ℕ) → HeldAt p c i nd (row_in i op j reg) (suc f.time)
        → AllWant (held_writes p cycle (row_in i op j reg)) (moved p cycle (row_in i op j reg) j)
    block_all op j reg hd =
        let row = block_row p c i b stands op j hd.life hd.lives hd.op hd.place in
        subst (λ ws. AllWant ws (moved p cycle (row_in i op j reg) j)) (sym (block_row_writes (row_in i op j reg) refl))
        ((λ on. ap (moved p cycle (row_in i op j reg)) (sym row.first)), _)

    -- a value that comes is held in the next cycle
    pub block_comes : (op : OpId) (j reg : ℕ) (life : Life) → Has (lives_at p c nd) life → life.op ≡ op.0 → life.place ≡ j → is_any_wanted (held_writes p cycle (row_in i op j reg)) ≡ true
        → IsThere (node_period nd) life (suc f.time)
    block_comes op j reg life lives op_ place on =
        let row = block_row p c i b stands op j life lives op_ place in
        let first = life_made p c i nd stands life lives op op_ in
        let late = in_time life lives op op_ in
        let rest : f.time % w ≡ (a op - 1) % w = at_true p c i nd stands f x cycle same inside (a op - 1) (sym (block_wanted op j reg) ∙ on) in
        let one : f.time % w ≡ f.time = mod-eq_of_lt (omega (arith, short)) in
        let two : (a op - 1) % w ≡ a op - 1 = mod-eq_of_lt (omega (arith, late, first, some)) in
        let start = row.start in
        let long = row.long in
        (omega (arith, rest, one, two, start, first), omega (arith, rest, one, two, start, first, long))

    pub block_stays : (op : OpId) (j reg : ℕ) → HeldAt p c i nd (row_in i op j reg) (suc f.time) → is_at w (a op) (suc f.time) ≡ false → HeldAt p c i nd (row_in i op j reg) f.time
    block_stays op j reg hd off =
        let row = block_row p c i b stands op j hd.life hd.lives hd.op hd.place in
        let start = row.start in
        let low = hd.there.0 in
        let high = hd.there.1 in
        let z : j * w ≡ 0 * w = ap (λ n. n * w) row.first in
        let other : a op ≢ suc f.time = λ e. true≢false (sym (is_at_sure w some 0 (a op) (suc f.time) (omega (arith, e))) ∙ off) in
        let now : a op ≤ f.time = elim (cases_eq (a op) (suc f.time)) [ inl e ↦ absurd (other e) | inr differ ↦ omega (arith, differ, start, low) ] in
        record {
          life = hd.life;
          lives = hd.lives;
          op = hd.op;
          place = hd.place;
          there = (omega (arith, now, start), omega (arith, high));
          made = inl (omega (arith, now, z));
        }
