-- From cycle to cycle registers take the results that come, and hold the others.
use Rattle.std.proofs.Common.{◌≡◌, ◌≢◌, ℕ, zero, suc, ◌+◌, ◌-◌, ◌%◌, ◌<◌, ◌==◌, ◌&&◌, Bool, true, false, List, map, Some, inl, inr, refl, sym, ap, ◌∙◌, subst, arith}
use Rattle.std.specs.Prelude.{slice_get}
use Rattle.std.proofs.lemmas.Bool.{and_from, cond-true, cond-false, cases_Bool, cases_eq, eq-eqb, eqb-true, lt-leb, false_from_ne_true}
use Rattle.hls_base.specs.declared.number.OpId.{OpId}
use Rattle.ir_core.specs.declared.timed.Timed.{Timed}
use Rattle.ir_core.specs.declared.body.Op.{Op}
use Rattle.ir_core.specs.declared.body.OpKind.{OpKind}
use Rattle.ir_core.specs.declared.body.OpKind.TheVariants as o
use Rattle.ir_core.specs.declared.cfg.Block.{Block}
use Rattle.ir_core.specs.declared.cfg.Loop.{Loop}
use Rattle.ir_core.specs.declared.cfg.Node.{Node}
use Rattle.ir_core.specs.declared.cfg.Node.TheVariants as node
use Rattle.ir_core.specs.Timing as timing
use Rattle.reg_binding.specs.declared.life.Life.{Life}
use Rattle.reg_binding.specs.declared.registers.Held.{Held}
use Rattle.reg_binding.specs.Lives.{node_period}
use Rattle.reg_binding.specs.Pools.{Has}
use Rattle.reg_binding.specs.Sharing.{IsThere}
use Rattle.ir_core.specs.Bodies.{OpTree, Shapes, Words, first_bits, effect}
use Rattle.clock_ir.specs.Flows.{TimedOp, TimedBody, Flow, timed_op, latency, is_at, ready, ready_in, pushed, operand_at, holds_at, given, chain_behind, tick}
use Rattle.clock_ir.specs.ClockRuns.{timed_node}
use Rattle.clock_runs.proofs.Accesses.{store_kind}
use Rattle.clock_runs.proofs.Effects.{Sort, computing, loading, storing, sort_of}
use Rattle.datapath.specs.Plans.{Plan, body_at, span}
use Rattle.datapath.specs.Cycles.{Active, Load, Value, Contents, Cycle, in_cycle}
use Rattle.rtl_logic.specs.Choosing.{is_any_wanted, AllWant}
use Rattle.datapath.specs.Reading.{result_at}
use Rattle.datapath.specs.Control.{is_loop}
use Rattle.datapath.specs.Values.{arriving_of, arriving_as, arriving, is_alone, moved, held_writes}
use Rattle.datapath.specs.Circuits.{IsAfter}
use Rattle.datapath.specs.Standing.{IsInside}
use Rattle.datapath.proofs.BlockSteps.{other_node}
use Rattle.datapath.proofs.Writes.{NoneWanted, none_want, none_kept, all_kept, some_kept}
use Rattle.circuit_agreement.specs.CircuitFlow.Compiled.{IsCompiled}
use Rattle.circuit_agreement.specs.CircuitFlow.Flows.{Arrives, CountsIntervals}
use Rattle.circuit_agreement.proofs.Nodes.{NodeOf, node_of}
use Rattle.circuit_agreement.specs.CircuitFlow.HeldResults.Holding.{lives_at, IsHeld, HoldsResults}
use Rattle.circuit_agreement.specs.CircuitFlow.HeldResults.{ResultsStayHeld}
use Rattle.circuit_agreement.proofs.HeldResults.Lists.{counts_two}
use Rattle.circuit_agreement.proofs.HeldResults.Nodes.{Made, made, life_op}
use Rattle.circuit_agreement.proofs.HeldResults.Rows.{own_life, same_row}
use Rattle.circuit_agreement.proofs.HeldResults.HeldRows.{row_in, as_row, row_same, HeldAt, held_at, is_held}
use Rattle.circuit_agreement.proofs.HeldResults.LoopRows.{moves_now, stays_held, moved_is_held, all_moved, loop_wanted, place_before}
use Rattle.circuit_agreement.proofs.HeldResults.BlockRows.{block_moves, block_all, block_comes, block_stays}
use Rattle.circuit_agreement.proofs.HeldResults.HeldRows.{block_row}

-- ---- the clocked run

pub ticked : (shapes : Shapes) (b : TimedBody) (f : Flow) (k j : ℕ) → (tick shapes b f).chain k j ≡ chain_behind shapes b f k (slice_get b.ops k) j
unfolding tick
ticked shapes b f k j = refl

pub ticked_time : (shapes : Shapes) (b : TimedBody) (f : Flow) → (tick shapes b f).time ≡ suc f.time
unfolding tick
ticked_time shapes b f = refl

-- ---- stores give 0

stored_none : (shapes : Shapes) (op : OpTree) (allowed : Bool) (from : ℕ) (args : List ℕ) (t : Words) → (effect shapes op o.Store allowed from args t).result ≡ 0
stored_none shapes op true from args t = refl
stored_none shapes op false from args t = refl

store_gives : (shapes : Shapes) (op : OpTree) (kind : OpKind) (allowed : Bool) (from : ℕ) (args : List ℕ) (t : Words) → kind ≡ o.Store → (effect shapes op kind allowed from args t).result ≡ 0
store_gives shapes op kind allowed from args t e = subst (λ k. (effect shapes op k allowed from args t).result ≡ 0) (sym e) (stored_none shapes op allowed from args t)

given_none : (shapes : Shapes) (b : TimedBody) (f : Flow) (it : TimedOp) → it.op.kind ≡ o.Store → given shapes b f it ≡ 0
given_none shapes b f it e =
    store_gives shapes it.op it.op.kind (holds_at b f it.start it.op.guard) (first_bits shapes.widths (map (λ (q : TimedOp). q.op) b.ops) it.op it.op.args) (map (operand_at b f it.start) it.op.args)
    (record { variables = f.entry; memories = f.memories }) e

arrives_by : (p : Plan) (i : ℕ) (f : Flow) (c : Cycle) (k : ℕ) (it : TimedOp) (sort : Sort) → sort_of it.op.kind ≡ sort → Arrives p i f c → slice_get (body_at p i).ops k ≡ Some it
    → is_at (body_at p i).interval (it.start + latency it) (suc f.time) ≡ true
    → arriving p c i k ≡ pushed (given p.program.shapes (body_at p i) f it) (f.under_way k) (latency it - 1)
arrives_by p i f c k it computing is arrives there now = arrives k it there (λ e. absurd (let clash : sort_of o.Store ≡ computing = sym (ap sort_of e) ∙ is in cc)) now
arrives_by p i f c k it loading is arrives there now = arrives k it there (λ e. absurd (let clash : sort_of o.Store ≡ loading = sym (ap sort_of e) ∙ is in cc)) now
arrives_by p i f c k it storing is arrives there now =
    let store : it.op.kind ≡ o.Store = store_kind it.op.kind is in
    let one : latency it ≡ 1 = ap (λ kind. timing.latency kind it.op.bits) store in
    let none = given_none p.program.shapes (body_at p i) f it store in
    (ap (arriving_of p c i k) there ∙ ap (λ kind. arriving_as kind p c (record { node = i; number = k; op = it })) store)
    ∙ sym (ap (λ n. pushed (given p.program.shapes (body_at p i) f it) (f.under_way k) (n - 1)) one ∙ none)

-- ---- what is known of the rows of a node in a cycle

pub record Turning (p : Plan) (c : IsCompiled p) (i : ℕ) (nd : Node Timed) (f : Flow) (x : Contents) (cycle : Cycle) : Type 0 where
  pub wanted : (op : OpId) (j reg : ℕ) → HeldAt p c i nd (row_in i op j reg) (suc f.time)
      → is_any_wanted (held_writes p cycle (row_in i op j reg)) ≡ is_at (body_at p i).interval (ready (body_at p i) op) (suc f.time)
  pub all : (op : OpId) (j reg : ℕ) → HeldAt p c i nd (row_in i op j reg) (suc f.time) → AllWant (held_writes p cycle (row_in i op j reg)) (moved p cycle (row_in i op j reg) j)
  pub comes : (op : OpId) (j reg : ℕ) (life : Life) → Has (lives_at p c nd) life → life.op ≡ op.0 → life.place ≡ j → is_any_wanted (held_writes p cycle (row_in i op j reg)) ≡ true
      → is_alone p (row_in i op j reg) ≡ false → IsThere (node_period nd) life (suc f.time)
  pub stays : (op : OpId) (j reg : ℕ) → HeldAt p c i nd (row_in i op j reg) (suc f.time) → is_at (body_at p i).interval (ready (body_at p i) op) (suc f.time) ≡ false
      → HeldAt p c i nd (row_in i op j reg) f.time
  pub before : (op : OpId) (m reg : ℕ) → HeldAt p c i nd (row_in i op (suc m) reg) (suc f.time) → is_at (body_at p i).interval (ready (body_at p i) op) (suc f.time) ≡ true
      → HoldsResults p c i f x → result_at p cycle i op.0 m ≡ f.chain op.0 m

turning_loop : (p : Plan) (c : IsCompiled p) (i : ℕ) (r : Loop Timed) (f : Flow) (x : Contents) (cycle : Cycle) → slice_get c.timed.nodes.items i ≡ Some (node.Looped r) → cycle.regs ≡ x.regs
    → IsInside i (f.time % span p i) x → CountsIntervals p i f cycle → Turning p c i (node.Looped r) f x cycle
turning_loop p c i r f x cycle stands same inside counts = record {
  wanted = λ op j reg hd. loop_wanted p c i r stands f x cycle same inside counts (row_in i op j reg) refl ∙ moves_now p c i r stands f x cycle same inside counts op j reg hd;
  all = λ op j reg hd. all_moved p c i r stands f x cycle same inside counts (row_in i op j reg) refl;
  comes = λ op j reg life lives op_ place on shared.
      moved_is_held p c i r stands f x cycle same inside counts op j reg life lives op_ place
      (sym (loop_wanted p c i r stands f x cycle same inside counts (row_in i op j reg) refl) ∙ on) shared;
  stays = λ op j reg hd off. stays_held p c i r stands f x cycle same inside counts op j reg hd off;
  before = λ op m reg hd on holds. place_before p c i r stands f x cycle same inside counts op m reg hd on holds;
}

turning_block : (p : Plan) (c : IsCompiled p) (i : ℕ) (b : Block Timed) (f : Flow) (x : Contents) (cycle : Cycle) → slice_get c.timed.nodes.items i ≡ Some (node.Plain b) → cycle.regs ≡ x.regs
    → IsInside i (f.time % span p i) x → f.time + 1 < (body_at p i).interval → Turning p c i (node.Plain b) f x cycle
turning_block p c i b f x cycle stands same inside short = record {
  wanted = λ op j reg hd. block_moves p c i b stands f x cycle same inside short op j reg hd;
  all = λ op j reg hd. block_all p c i b stands f x cycle same inside short op j reg hd;
  comes = λ op j reg life lives op_ place on shared. block_comes p c i b stands f x cycle same inside short op j reg life lives op_ place on;
  stays = λ op j reg hd off. block_stays p c i b stands f x cycle same inside short op j reg hd off;
  before = λ op m reg hd on holds. absurd (let z = (block_row p c i b stands op (suc m) hd.life hd.lives hd.op hd.place).first in omega (arith, z));
}

-- ---- one cycle

module _ (p : Plan) (c : IsCompiled p) (i : ℕ) (nd : Node Timed) (stands : slice_get c.timed.nodes.items i ≡ Some nd) (f : Flow) (x y : Contents) (cycle : Cycle) (same : cycle.regs ≡ x.regs)
    (inside : IsInside i (f.time % span p i) x) (after : IsAfter p cycle y) (t : Turning p c i nd f x cycle) where
  -- a register that two rows share
  not_alone : (g h : Held) → Has p.held g → Has p.held h → g.node.0 ≡ h.node.0 → g.register ≡ h.register → g ≢ h → is_alone p g ≡ false
  not_alone g h at_g at_h here reg differ =
      let two = counts_two (λ (k : Held). (k.node.0 == g.node.0) && (k.register == g.register)) p.held g h at_g at_h differ
      (and_from _ _ (eq-eqb g.node.0 g.node.0 refl) (eq-eqb g.register g.register refl))
      (and_from _ _ (eq-eqb h.node.0 g.node.0 (sym here)) (eq-eqb h.register g.register (sym reg))) in
      lt-leb _ 1 (omega (arith, two))

  away_off : (g : Held) → g.node.0 ≢ i → NoneWanted (held_writes p cycle g)
  away_off g other =
      other_node p cycle g (ap (λ r. r (Active g.node.0)) same ∙ inside.others g.node.0 other) (ap (λ r. r (Load g.node.0)) same ∙ inside.load g.node.0)

  module _ (op : OpId) (j reg : ℕ) (at_h : Has p.held (row_in i op j reg)) (hd : HeldAt p c i nd (row_in i op j reg) (suc f.time)) where
    abbrev h : Held
    h = row_in i op j reg

    -- another row with this register takes nothing
    other_off : (op' : OpId) (j' : ℕ) → Has p.held (row_in i op' j' reg) → row_in i op' j' reg ≢ h → NoneWanted (held_writes p cycle (row_in i op' j' reg))
    other_off op' j' at_g differ =
        false_from_ne_true _ (λ on.
        (let g : Held = row_in i op' j' reg in
        let l = own_life p c i nd stands g at_g refl in
        let there = t.comes op' j' reg l.life l.lives l.op l.place on (not_alone g h at_g at_h refl refl differ) in
        let one = same_row p c i nd stands g h l.life hd.life (suc f.time) at_g at_h refl refl refl l.lives hd.lives l.op hd.op l.place hd.place there hd.there in
        differ (row_same g h refl one.0 one.1 refl)))

    -- each row with this register is of another node, is this one, or takes nothing
    each_row : (P : Held → Type 0) → ((g : Held) → NoneWanted (held_writes p cycle g) → P g) → P h → (g : Held) → Has p.held g → (g.register == reg) ≡ true → P g
    each_row P off own g at_g passes =
        elim (cases_eq g.node.0 i) [
          | inr other ↦ off g (away_off g other)
          | inl here ↦
              let named : g ≡ row_in i g.op g.place reg = (λ k. record { node = record { 0 = here k }; op = g.op; place = g.place; register = eqb-true g.register reg passes k }) in
              elim (cases_eq g.op.0 op.0) [
                | inl same_op ↦ elim (cases_eq g.place j) [
                  | inl same_place ↦ subst P (sym (row_same g h here same_op same_place (eqb-true g.register reg passes))) own
                  | inr apart ↦ off g (subst (λ (z : Held). NoneWanted (held_writes p cycle z)) (sym named) (other_off g.op g.place (subst (Has p.held) named at_g) (λ e. apart (ap (λ (r : Held). r.place) e))))
                ]
                | inr apart ↦ off g (subst (λ (z : Held). NoneWanted (held_writes p cycle z)) (sym named) (other_off g.op g.place (subst (Has p.held) named at_g) (λ e. apart (ap (λ (r : Held). r.op.0) e))))
              ]
        ]

    abbrev comes_now : Bool
    comes_now = is_at (body_at p i).interval (ready (body_at p i) op) (suc f.time)

    takes : comes_now ≡ true → y.regs (Value reg) ≡ moved p cycle h j
    takes now =
        (after.regs (Value reg)).wanted (moved p cycle h j)
        (some_kept (held_writes p cycle) (λ (g : Held). g.register == reg) at_h.0 p.held h at_h.1 (eq-eqb reg reg refl) (t.wanted op j reg hd ∙ now))
        (all_kept (held_writes p cycle) (λ (g : Held). g.register == reg) p.held (moved p cycle h j) (λ n g at_g passes.
        each_row (λ (z : Held). AllWant (held_writes p cycle z) (moved p cycle h j)) (λ z none. none_want (held_writes p cycle z) (moved p cycle h j) none) (t.all op j reg hd) g (n, at_g) passes))

    keeps : comes_now ≡ false → y.regs (Value reg) ≡ cycle.regs (Value reg)
    keeps off =
        (after.regs (Value reg)).else_
        (none_kept (held_writes p cycle) (λ (g : Held). g.register == reg) p.held (λ n g at_g passes.
        each_row (λ (z : Held). NoneWanted (held_writes p cycle z)) (λ z none. none) (t.wanted op j reg hd ∙ off) g (n, at_g) passes))

    -- the operation of the row
    abbrev it : Op Timed
    it = (life_op p c nd hd.life hd.lives).0

    made_ : Made p i op it
    made_ = made p c i nd stands hd.life.op it (life_op p c nd hd.life hd.lives).1 op hd.op

    chain_is : (tick p.program.shapes (body_at p i) f).chain op.0 j ≡ chain_behind p.program.shapes (body_at p i) f op.0 (Some (timed_op it)) j
    chain_is = ticked p.program.shapes (body_at p i) f op.0 j ∙ ap (λ z. chain_behind p.program.shapes (body_at p i) f op.0 z j) made_.timed

    at_ready : ready (body_at p i) op ≡ (timed_op it).start + latency (timed_op it)
    at_ready = ap ready_in made_.timed

    comes_there : comes_now ≡ true → is_at (body_at p i).interval ((timed_op it).start + latency (timed_op it)) (suc f.time) ≡ true
    comes_there now = ap (λ n. is_at (body_at p i).interval n (suc f.time)) (sym at_ready) ∙ now

    chain_comes : comes_now ≡ true → (tick p.program.shapes (body_at p i) f).chain op.0 j
        ≡ pushed (pushed (given p.program.shapes (body_at p i) f (timed_op it)) (f.under_way op.0) (latency (timed_op it) - 1)) (f.chain op.0) j
    chain_comes now = chain_is ∙ ap (λ (l : ℕ → ℕ). l j) (cond-true _ _ _ (comes_there now))

    chain_stays : comes_now ≡ false → (tick p.program.shapes (body_at p i) f).chain op.0 j ≡ f.chain op.0 j
    chain_stays off = chain_is ∙ ap (λ (l : ℕ → ℕ). l j) (cond-false _ _ _ (ap (λ n. is_at (body_at p i).interval n (suc f.time)) (sym at_ready) ∙ off))

    moved_is : comes_now ≡ true → Arrives p i f cycle → HoldsResults p c i f x → (j' : ℕ) → HeldAt p c i nd (row_in i op j' reg) (suc f.time)
        → moved p cycle (row_in i op j reg) j' ≡ pushed (pushed (given p.program.shapes (body_at p i) f (timed_op it)) (f.under_way op.0) (latency (timed_op it) - 1)) (f.chain op.0) j'
    moved_is now arrives holds zero ha = arrives_by p i f cycle op.0 (timed_op it) (sort_of (timed_op it).op.kind) refl arrives made_.timed (comes_there now)
    moved_is now arrives holds (suc m) ha = t.before op m reg ha now holds

    pub row_steps : Arrives p i f cycle → HoldsResults p c i f x → y.regs (Value reg) ≡ (tick p.program.shapes (body_at p i) f).chain op.0 j
    row_steps arrives holds = elim (cases_Bool comes_now) [
      | inl now ↦ takes now ∙ (moved_is now arrives holds j hd ∙ sym (chain_comes now))
      | inr off ↦
          keeps off
          ∙ (ap (λ r. r (Value reg)) same
          ∙ (holds.held at_h.0 (row_in i op j reg) at_h.1 refl (is_held p c i nd stands (row_in i op j reg) f.time (t.stays op j reg hd off)) ∙ sym (chain_stays off)))
    ]

-- ---- any node

turning : (p : Plan) (c : IsCompiled p) (i : ℕ) (nd : Node Timed) (f : Flow) (x : Contents) (cycle : Cycle) → slice_get c.timed.nodes.items i ≡ Some nd → cycle.regs ≡ x.regs
    → IsInside i (f.time % span p i) x → (is_loop (Some (timed_node nd)) ≡ true → CountsIntervals p i f cycle) → (is_loop (Some (timed_node nd)) ≡ false → f.time + 1 < (body_at p i).interval)
    → Turning p c i nd f x cycle
turning p c i (node.Plain b) f x cycle stands same inside counts short = turning_block p c i b f x cycle stands same inside (short refl)
turning p c i (node.Looped r) f x cycle stands same inside counts short = turning_loop p c i r f x cycle stands same inside (counts refl)

pub stays_held_law : ResultsStayHeld
stays_held_law p c i n f x y pins at inside holds step arrives counts short =
    let cycle : Cycle = in_cycle x step.signals pins in
    let node_ : NodeOf p c i n = node_of p c i n at in
    let nd : Node Timed = node_.timed in
    let is = node_.is in
    let t : Turning p c i nd f x cycle =
    turning p c i nd f x cycle node_.there_timed refl inside (λ e. counts (ap (λ z. is_loop (Some z)) (sym is) ∙ e)) (λ e. short (ap (λ z. is_loop (Some z)) (sym is) ∙ e)) in
    let later = ticked_time p.program.shapes (body_at p i) f in record {
      within = λ e.
          (let s = short (sym (ap is_loop at) ∙ e) in
          subst (λ n. n < (body_at p i).interval) (sym later) (let z : suc f.time < (body_at p i).interval = omega (arith, s) in z));
      held = λ n h there here hd.
          (let named : h ≡ row_in i h.op h.place h.register = as_row i h here in
          let in_ : IsHeld p c i (row_in i h.op h.place h.register) (suc f.time) = subst (λ m. IsHeld p c i (row_in i h.op h.place h.register) m) later (subst (λ z. IsHeld p c i z (tick p.program.shapes (body_at p i) f).time) named hd) in
          row_steps p c i nd node_.there_timed f x y cycle refl inside step.is_after t h.op h.place h.register (n, there ∙ ap (λ z. Some z) named)
          (held_at p c i nd node_.there_timed (row_in i h.op h.place h.register) (suc f.time) in_) arrives holds);
    }
