-- The first cycle of a node: no result is there, and the chains of a loop begin with what variables hold.
use Rattle.std.proofs.Common.{◌≡◌, ◌≢◌, ℕ, ◌<◌, ◌==◌, true, false, List, [], ◌∷◌, ◌++◌, Option, Some, None, inl, inr, refl, sym, ap, ◌∙◌, subst, arith}
use Rattle.std.specs.Prelude.{slice_get}
use Rattle.std.proofs.lemmas.Bool.{cond-true, cond-false, cases_eq, eq-eqb, eqb-true, or_left, or_from, ne_eqb, true≢false}
use Rattle.hls_base.specs.declared.number.OpId.{OpId}
use Rattle.ir_core.specs.declared.timed.Timed.{Timed}
use Rattle.ir_core.specs.declared.cfg.End.{End}
use Rattle.ir_core.specs.declared.cfg.Loop.{Loop}
use Rattle.ir_core.specs.declared.cfg.Node.{Node}
use Rattle.ir_core.specs.declared.cfg.Node.TheVariants as node
use Rattle.reg_binding.specs.declared.life.Life.{Life}
use Rattle.reg_binding.specs.declared.registers.Held.{Held}
use Rattle.reg_binding.specs.Lives.{is_taken_over, node_period}
use Rattle.reg_binding.specs.Pools.{Has}
use Rattle.reg_binding.specs.Sharing.{IsThere}
use Rattle.ir_core.specs.Bodies.{Words}
use Rattle.clock_ir.specs.Flows.{TimedBody, ready, entered, first_flow}
use Rattle.clock_ir.specs.ClockRuns.{block, overlapped, timed_node}
use Rattle.datapath.specs.Plans.{Plan, body_at}
use Rattle.datapath.specs.Cycles.{Active, Load, Variable, Value, Contents, Cycle, in_cycle, holds}
use Rattle.rtl_logic.specs.Choosing.{Write, where_, is_any_wanted, AllWant}
use Rattle.datapath.specs.Control.{is_loop}
use Rattle.datapath.specs.Values.{entry_of, moves, moved, entry_writes, loop_writes, held_writes}
use Rattle.datapath.specs.Circuits.{IsAfter}
use Rattle.datapath.specs.Standing.{IsLoading}
use Rattle.datapath.proofs.Controller.{on}
use Rattle.datapath.proofs.BlockSteps.{other_node, moves_off}
use Rattle.datapath.proofs.Writes.{NoneWanted, none_want, none_both, all_both, all_kept, some_kept, some_left}
use Rattle.circuit_agreement.specs.CircuitFlow.Compiled.{IsCompiled}
use Rattle.circuit_agreement.specs.CircuitFlow.Flows.{HoldsVariables}
use Rattle.circuit_agreement.proofs.Nodes.{NodeOf, node_of, body_found, positive}
use Rattle.circuit_agreement.specs.CircuitFlow.HeldResults.Holding.{lives_at, IsHeld}
use Rattle.circuit_agreement.specs.CircuitFlow.HeldResults.{NothingIsHeldFirst, EntriesAreHeld}
use Rattle.circuit_agreement.proofs.HeldResults.Spans.{IsSpan, held_first, first_held}
use Rattle.circuit_agreement.proofs.HeldResults.Nodes.{body_is}
use Rattle.circuit_agreement.proofs.HeldResults.Outs.{entry_entered}
use Rattle.circuit_agreement.proofs.HeldResults.Rows.{own_life, same_row}
use Rattle.circuit_agreement.proofs.HeldResults.HeldRows.{row_in, as_row, row_same, HeldAt, held_at, life_made, block_row, loop_row}
use Rattle.circuit_agreement.proofs.HeldResults.LoopRows.{looped, entry_is, taken_over, there_in, there_out}

first_time : (b : TimedBody) (t : Words) → (first_flow b t).time ≡ 0
unfolding first_flow
first_time b t = refl

first_chain : (b : TimedBody) (t : Words) (k : ℕ) → (first_flow b t).chain k 0 ≡ entered b.outs t.variables k
unfolding first_flow
first_chain b t k = refl

-- ---- blocks

none_first : (p : Plan) (c : IsCompiled p) (i : ℕ) (nd : Node Timed) (body : TimedBody) (end_ : End) (h : Held) → slice_get c.timed.nodes.items i ≡ Some nd → timed_node nd ≡ block body end_
    → HeldAt p c i nd h 0 → ⊥
none_first p c i (node.Plain b) body end_ h stands is hd =
    let row = block_row p c i b stands h.op h.place hd.life hd.lives hd.op hd.place in
    let start = row.start in
    let low = hd.there.0 in
    let first = life_made p c i (node.Plain b) stands hd.life hd.lives h.op hd.op in
    omega (arith, start, low, first)
none_first p c i (node.Looped r) body end_ h stands is hd = (cc)

pub nothing_first : NothingIsHeldFirst
nothing_first p c i body end_ t x at =
    let n : NodeOf p c i (block body end_) = node_of p c i (block body end_) at in
    let w = (positive p i (block body end_) c at).0 in record {
      within = λ e. subst (λ m. m < (body_at p i).interval) (sym (first_time body t)) (let z : 0 < (body_at p i).interval = omega (arith, w) in z);
      held = λ k h there here hd.
          absurd (none_first p c i n.timed body end_ h n.there_timed n.is (held_at p c i n.timed n.there_timed h 0 (subst (λ m. IsHeld p c i h m) (first_time body t) hd)));
    }

-- ---- loops

module _ (p : Plan) (c : IsCompiled p) (i : ℕ) (r : Loop Timed) (stands : slice_get c.timed.nodes.items i ≡ Some (node.Looped r)) (t : Words) (x y : Contents) (cycle : Cycle) (same : cycle.regs ≡ x.regs)
    (loading : IsLoading i x) (variables : HoldsVariables p i t.variables x) (after : IsAfter p cycle y) where
  abbrev nd : Node Timed
  nd = node.Looped r

  -- what a variable has at entry is held in the first cycle
  first_there : (op : OpId) (j reg u : ℕ) (life : Life) → Has (lives_at p c nd) life → life.op ≡ op.0 → life.place ≡ j → j ≡ 0 → entry_of p (row_in i op j reg) ≡ Some u → IsThere (node_period nd) life 0
  first_there op j reg u life lives op_ place at_first is =
      let w : ℕ = (body_at p i).interval in
      let row = loop_row p c i r stands op j life lives op_ place in
      let one : IsSpan w (ready (body_at p i) op) row.last j true life = subst (λ b. IsSpan w (ready (body_at p i) op) row.last j b life) (taken_over p c i r stands op j reg u is) row.span in
      there_out p c i r stands life 0 (first_held w (ready (body_at p i) op) row.last life (subst (λ m. IsSpan w (ready (body_at p i) op) row.last m true life) at_first one))

  inactive : (j : ℕ) → cycle.regs (Active j) ≡ 0
  inactive j = ap (λ q. q (Active j)) same ∙ loading.active j

  writes_are : (op : OpId) (j reg : ℕ) → held_writes p cycle (row_in i op j reg) ≡ loop_writes p cycle (row_in i op j reg)
  writes_are op j reg = cond-true _ _ _ (looped p c i r stands)

  moves_none : (op : OpId) (j reg : ℕ) → NoneWanted (where_ (moves p cycle (row_in i op j reg) (entry_of p (row_in i op j reg))) (moved p cycle (row_in i op j reg) j) ∷ [])
  moves_none op j reg = or_from _ false (moves_off p cycle (row_in i op j reg) (entry_of p (row_in i op j reg)) (inactive i)) refl

  module _ (op : OpId) (reg : ℕ) (at_h : Has p.held (row_in i op 0 reg)) (hd : HeldAt p c i nd (row_in i op 0 reg) 0) (v : ℕ) (entry : entry_of p (row_in i op 0 reg) ≡ Some v) where
    abbrev h : Held
    h = row_in i op 0 reg

    abbrev entry_write : List Write
    entry_write = where_ (holds cycle (Load i)) (cycle.regs (Variable v)) ∷ []

    own_writes : held_writes p cycle h ≡ entry_write ++ where_ (moves p cycle h (entry_of p h)) (moved p cycle h 0) ∷ []
    own_writes = writes_are op 0 reg ∙ ap (λ e. entry_writes cycle h e ++ where_ (moves p cycle h (entry_of p h)) (moved p cycle h 0) ∷ []) entry

    -- another row with this register takes nothing
    other_none : (op' : OpId) (j : ℕ) → Has p.held (row_in i op' j reg) → row_in i op' j reg ≢ h → (e : Option ℕ) → entry_of p (row_in i op' j reg) ≡ e
        → NoneWanted (entry_writes cycle (row_in i op' j reg) e)
    other_none op' j at_g differ None is = refl
    other_none op' j at_g differ (Some u) is = elim (cases_eq j 0) [
      | inr behind ↦ ap is_any_wanted (cond-false _ (where_ (holds cycle (Load i)) (cycle.regs (Variable u)) ∷ []) [] (ne_eqb j 0 behind))
      | inl at_first ↦
          let g : Held = row_in i op' j reg in
          let l = own_life p c i nd stands g at_g refl in
          let one = same_row p c i nd stands g h l.life hd.life 0 at_g at_h refl refl refl l.lives hd.lives l.op hd.op l.place hd.place (first_there op' j reg u l.life l.lives l.op l.place at_first is) hd.there in
          absurd (differ (row_same g h refl one.0 one.1 refl))
    ]

    other_off : (op' : OpId) (j : ℕ) → Has p.held (row_in i op' j reg) → row_in i op' j reg ≢ h → NoneWanted (held_writes p cycle (row_in i op' j reg))
    other_off op' j at_g differ =
        ap is_any_wanted (writes_are op' j reg)
        ∙ none_both (entry_writes cycle (row_in i op' j reg) (entry_of p (row_in i op' j reg))) _ (other_none op' j at_g differ (entry_of p (row_in i op' j reg)) refl) (moves_none op' j reg)

    each_row : (n : ℕ) (g : Held) → slice_get p.held n ≡ Some g → (g.register == reg) ≡ true → AllWant (held_writes p cycle g) (cycle.regs (Variable v))
    each_row n g at_g passes =
        elim (cases_eq g.node.0 i) [
          | inr other ↦ none_want (held_writes p cycle g) _ (other_node p cycle g (inactive g.node.0) (ap (λ q. q (Load g.node.0)) same ∙ loading.others g.node.0 other))
          | inl here ↦
              let named : g ≡ row_in i g.op g.place reg = (λ k. record { node = record { 0 = here k }; op = g.op; place = g.place; register = eqb-true g.register reg passes k }) in
              let at_named : Has p.held (row_in i g.op g.place reg) = subst (Has p.held) named (n, at_g) in
              elim (cases_eq g.op.0 op.0) [
                | inl same_op ↦ elim (cases_eq g.place 0) [
                  | inl same_place ↦ subst (λ (z : Held). AllWant (held_writes p cycle z) (cycle.regs (Variable v))) (sym (row_same g h here same_op same_place (eqb-true g.register reg passes))) own
                  | inr apart ↦ subst (λ (z : Held). AllWant (held_writes p cycle z) (cycle.regs (Variable v))) (sym named) (none_want _ _ (other_off g.op g.place at_named (λ e. apart (ap (λ (q : Held). q.place) e))))
                ]
                | inr apart ↦ subst (λ (z : Held). AllWant (held_writes p cycle z) (cycle.regs (Variable v))) (sym named) (none_want _ _ (other_off g.op g.place at_named (λ e. apart (ap (λ (q : Held). q.op.0) e))))
              ]
        ]
      where
        own : AllWant (held_writes p cycle h) (cycle.regs (Variable v))
        own = subst (λ ws. AllWant ws (cycle.regs (Variable v))) (sym own_writes) (all_both entry_write (where_ (moves p cycle h (entry_of p h)) (moved p cycle h 0) ∷ []) (cycle.regs (Variable v)) ((λ w. refl), _) (none_want (where_ (moves p cycle h (entry_of p h)) (moved p cycle h 0) ∷ []) (cycle.regs (Variable v)) (moves_none op 0 reg)))

    takes_entry : y.regs (Value reg) ≡ cycle.regs (Variable v)
    takes_entry =
        let own : is_any_wanted (held_writes p cycle h) ≡ true =
        ap is_any_wanted own_writes ∙ some_left entry_write (where_ (moves p cycle h (entry_of p h)) (moved p cycle h 0) ∷ []) (or_left (holds cycle (Load i)) false (on cycle (Load i) (ap (λ q. q (Load i)) same ∙ loading.load))) in
        (after.regs (Value reg)).wanted (cycle.regs (Variable v))
        (some_kept (held_writes p cycle) (λ (g : Held). g.register == reg) at_h.0 p.held h at_h.1 (eq-eqb reg reg refl) own)
        (all_kept (held_writes p cycle) (λ (g : Held). g.register == reg) p.held (cycle.regs (Variable v)) each_row)

  entry_held : (body : TimedBody) → body_at p i ≡ body → (op : OpId) (j reg : ℕ) → Has p.held (row_in i op j reg) → HeldAt p c i nd (row_in i op j reg) 0 → y.regs (Value reg) ≡ (first_flow body t).chain op.0 j
  entry_held body is op j reg at_h hd =
      let first = life_made p c i nd stands hd.life hd.lives op hd.op in
      let row = loop_row p c i r stands op j hd.life hd.lives hd.op hd.place in
      let f = held_first (body_at p i).interval (ready (body_at p i) op) row.last j (is_taken_over r.body.outs.items op.0) hd.life first row.span (there_in p c i r stands hd.life 0 hd.there) in
      elim hd.made [
        | inl low ↦ absurd (omega (arith, low, first))
        | inr entry ↦
            let at_zero : row_in i op j reg ≡ row_in i op 0 reg = ap (λ n. row_in i op n reg) f.1 in
            let e : entry_of p (row_in i op 0 reg) ≡ Some entry.variable = entry.entry in
            let outs_are : body.outs ≡ r.body.outs.items = ap (λ (b : TimedBody). b.outs) (sym is ∙ body_is p c i nd stands) in
            takes_entry op reg (subst (Has p.held) at_zero at_h) (subst (λ z. HeldAt p c i nd z 0) at_zero hd) entry.variable e
            ∙ (ap (λ q. q (Variable entry.variable)) same
            ∙ (variables entry.variable entry.live
            ∙ sym (ap (λ n. (first_flow body t).chain op.0 n) f.1
            ∙ (first_chain body t op.0 ∙ (ap (λ l. entered l t.variables op.0) outs_are ∙ entry_entered p r.body.outs.items t.variables op.0 entry.variable (sym (entry_is p c i r stands op.0) ∙ e))))))
      ]

loop_node : (nd : Node Timed) (body : TimedBody) (exit next : ℕ) → timed_node nd ≡ overlapped body exit next → (r : Loop Timed) × (nd ≡ node.Looped r)
loop_node (node.Plain b) body exit next e = absurd (cc)
loop_node (node.Looped r) body exit next e = (r, refl)

pub entries_held : EntriesAreHeld
entries_held p c i body exit next t x y pins at loading variables step =
    let n : NodeOf p c i (overlapped body exit next) = node_of p c i (overlapped body exit next) at in
    let l = loop_node n.timed body exit next n.is in
    let stands : slice_get c.timed.nodes.items i ≡ Some (node.Looped l.0) = n.there_timed ∙ ap (λ z. Some z) l.1 in
    let cycle : Cycle = in_cycle x step.signals pins in record {
      within = λ e. absurd (true≢false (sym (ap is_loop at) ∙ e));
      held = λ k h there here hd.
          (let named : h ≡ row_in i h.op h.place h.register = as_row i h here in
          let in_ : IsHeld p c i (row_in i h.op h.place h.register) 0 =
          subst (λ m. IsHeld p c i (row_in i h.op h.place h.register) m) (first_time body t) (subst (λ z. IsHeld p c i z (first_flow body t).time) named hd) in
          entry_held p c i l.0 stands t x y cycle refl loading variables step.is_after body (body_found p i (overlapped body exit next) at) h.op h.place h.register (k, there ∙ ap (λ z. Some z) named)
          (held_at p c i (node.Looped l.0) stands (row_in i h.op h.place h.register) 0 in_));
    }
