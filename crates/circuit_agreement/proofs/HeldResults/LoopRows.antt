-- What the rows of a loop take in a cycle.
use Rattle.std.proofs.Common.{◌≡◌, ℕ, zero, suc, ◌+◌, ◌-◌, ◌*◌, ◌%◌, ◌<◌, ◌≤◌, ◌⊎◌, ◌==◌, ◌&&◌, ◌||◌, not, Bool, true, false, List, [], ◌∷◌, ◌++◌, find, Option, Some, None, inl, inr, refl, sym, ap, ap₂, ◌∙◌, subst, arith, if◌then◌else◌}
use Rattle.std.specs.Prelude.{slice_get}
use Rattle.std.proofs.lemmas.Bool.{and_parts, and_left, or_from, or_parts, not_from_true, cond-true, cond-false, cond_both, cases_eq, eq-eqb, true≢false}
use Rattle.hls_base.specs.declared.number.OpId.{OpId}
use Rattle.ir_core.specs.declared.timed.Timed.{Timed}
use Rattle.ir_core.specs.declared.body.Out.{Out}
use Rattle.ir_core.specs.declared.cfg.Loop.{Loop}
use Rattle.ir_core.specs.declared.cfg.Node.{Node}
use Rattle.ir_core.specs.declared.cfg.Node.TheVariants as node
use Rattle.reg_binding.specs.declared.life.Life.{Life}
use Rattle.reg_binding.specs.declared.registers.Held.{Held}
use Rattle.reg_binding.specs.Lives.{last_read, is_taken_over, node_period, period, chain_life}
use Rattle.reg_binding.specs.Pools.{Has}
use Rattle.reg_binding.specs.Sharing.{IsThere}
use Rattle.clock_ir.specs.Flows.{TimedBody, Flow, is_at, ready}
use Rattle.clock_runs.proofs.Lists.{some_no, some_same}
use Rattle.clock_runs.proofs.Numbers.{is_at_sure}
use Rattle.datapath.specs.Plans.{Plan, body_at, span}
use Rattle.datapath.specs.Cycles.{Load, Variable, Contents, Cycle, holds}
use Rattle.rtl_logic.specs.Choosing.{Write, where_, is_any_wanted, AllWant}
use Rattle.datapath.specs.Reading.{at, at_iteration, is_place, result_at}
use Rattle.datapath.specs.Control.{is_loop}
use Rattle.datapath.specs.Values.{entry_in, entry_of, is_alone, moves, entry_writes, moved, loop_writes, held_writes}
use Rattle.datapath.specs.Standing.{IsInside}
use Rattle.datapath.proofs.Controller.{off}
use Rattle.datapath.proofs.Writes.{NoneWanted, none_want, none_if, all_both}
use Rattle.circuit_agreement.specs.CircuitFlow.Compiled.{IsCompiled}
use Rattle.circuit_agreement.specs.CircuitFlow.Flows.{CountsIntervals}
use Rattle.circuit_agreement.specs.CircuitFlow.HeldResults.Holding.{lives_at, HasEntry, HoldsResults}
use Rattle.circuit_agreement.proofs.HeldResults.Times.{arrival_same}
use Rattle.circuit_agreement.proofs.HeldResults.Lives.{chain_op, in_loop_lives}
use Rattle.circuit_agreement.proofs.HeldResults.Spans.{IsSpan, held_before, held_next, held_for_next, from_beginning}
use Rattle.circuit_agreement.proofs.HeldResults.Nodes.{reads_at, in_plan, body_is, wide, period_is, wide_period, loop_shape}
use Rattle.circuit_agreement.proofs.HeldResults.Rows.{place_row}
use Rattle.circuit_agreement.proofs.HeldResults.Outs.{entry_taken}
use Rattle.circuit_agreement.proofs.HeldResults.Coming.{arrival_at, iteration_same}
use Rattle.circuit_agreement.proofs.HeldResults.HeldRows.{row_in, HeldAt, is_held, read_place, life_made, LoopRow, loop_row}

-- the entry of a chain, by the numbers of its node and its operation
abbrev pub entry_at : Plan → ℕ → ℕ → Option ℕ
entry_at p i k = if is_loop (slice_get p.program.nodes i) then entry_in p (body_at p i).outs k else None

pub same_entry : (p : Plan) (i : ℕ) (g h : Held) → g.node.0 ≡ h.node.0 → g.op.0 ≡ h.op.0 → HasEntry p i h → HasEntry p i g
same_entry p i g h e o has = record {
  variable = has.variable;
  entry = ap₂ (λ n k. entry_at p n k) e o ∙ has.entry;
  live = has.live;
}

module _ (p : Plan) (c : IsCompiled p) (i : ℕ) (r : Loop Timed) (stands : slice_get c.timed.nodes.items i ≡ Some (node.Looped r)) where
  abbrev nd : Node Timed
  nd = node.Looped r

  abbrev w : ℕ
  w = (body_at p i).interval

  abbrev a : OpId → ℕ
  a op = ready (body_at p i) op

  some : 0 < w
  some = (let h = wide p c i nd stands in omega (arith, h))

  pub looped : is_loop (slice_get p.program.nodes i) ≡ true
  looped = ap is_loop (in_plan p c i nd stands)

  pub entry_is : (k : ℕ) → entry_at p i k ≡ entry_in p r.body.outs.items k
  entry_is k = cond-true _ _ _ looped ∙ ap (λ (b : TimedBody). entry_in p b.outs k) (body_is p c i nd stands)

  pub taken_over : (op : OpId) (j reg v : ℕ) → entry_of p (row_in i op j reg) ≡ Some v → is_taken_over r.body.outs.items op.0 ≡ true
  taken_over op j reg v e = entry_taken p r.body.outs.items op.0 v (sym (entry_is op.0) ∙ e)

  -- in the loop's own numbers
  pub there_in : (life : Life) (time : ℕ) → IsThere (node_period nd) life time → IsThere (Some w) life time
  there_in life time h = subst (λ n. IsThere (Some n) life time) (period_is p c i r stands) h

  pub there_out : (life : Life) (time : ℕ) → IsThere (Some w) life time → IsThere (node_period nd) life time
  there_out life time h = subst (λ n. IsThere (Some n) life time) (sym (period_is p c i r stands)) h

  -- ---- in a cycle of the loop

  module _ (f : Flow) (x : Contents) (cycle : Cycle) (same : cycle.regs ≡ x.regs) (inside : IsInside i (f.time % span p i) x) (counts : CountsIntervals p i f cycle) where
    iteration_at : (op : OpId) (k : ℕ) → 1 ≤ a op → (k ≡ 0) ⊎ (a op + k * w ≤ f.time + 1) → at_iteration p cycle i (a op - 1 + k * w) ≡ is_at w (a op) (suc f.time)
    iteration_at op k first low = iteration_same p c i nd stands f x cycle same inside counts (a op - 1 + k * w) ∙ arrival_same w (a op) k f.time some first low

    -- the write of a value that is to be held then is wanted where a result comes
    module _ (op : OpId) (j reg : ℕ) (hd : HeldAt p c i nd (row_in i op j reg) (suc f.time)) where
      abbrev h : Held
      h = row_in i op j reg

      first : 1 ≤ a op
      first = life_made p c i nd stands hd.life hd.lives op hd.op

      row : LoopRow p c i r op j hd.life
      row = loop_row p c i r stands op j hd.life hd.lives hd.op hd.place

      low_none : entry_of p h ≡ None → a op + j * w ≤ suc f.time
      low_none e = elim hd.made [
        | inl low ↦ low
        | inr entry ↦ absurd (some_no (sym entry.entry ∙ e))
      ]

      low_some : (v : ℕ) → entry_of p h ≡ Some v → (j ≡ 0) ⊎ (a op + (j - 1) * w ≤ suc f.time)
      low_some v e = go j (subst (λ t. IsSpan w (a op) row.last j t hd.life) (taken_over op j reg v e) row.span)
        where
          go : (j : ℕ) → IsSpan w (a op) row.last j true hd.life → (j ≡ 0) ⊎ (a op + (j - 1) * w ≤ suc f.time)
          go zero s = inl refl
          go (suc m) s =
              let l = from_beginning w (a op) row.last m (suc f.time) hd.life s (there_in hd.life (suc f.time) hd.there) in
              let z : (suc m - 1) * w ≡ m * w = ap (λ n. n * w) (let y : suc m - 1 ≡ m = omega arith in y) in
              inr (omega (arith, l, z))

      moves_then : (e : Option ℕ) → entry_of p h ≡ e → moves p cycle h e ≡ is_at w (a op) (suc f.time)
      moves_then None e =
          let low = low_none e in
          let z : (j - 0) * w ≡ j * w = ap (λ n. n * w) (let y : j - 0 ≡ j = omega arith in y) in
          cond_both (is_alone p h) (at p cycle i (a op - 1)) (at_iteration p cycle i (a op - 1 + (j - 0) * w)) (λ (b : Bool). b ≡ is_at w (a op) (suc f.time))
          (λ alone. arrival_at p c i nd stands f x cycle same inside (a op) first (omega (arith, low))) (λ shared. iteration_at op (j - 0) first (inr (omega (arith, low, z))))
      moves_then (Some v) e =
          let low = low_some v e in
          cond_both (is_alone p h && not (j == 0)) (at p cycle i (a op - 1)) (at_iteration p cycle i (a op - 1 + (j - 1) * w)) (λ (b : Bool). b ≡ is_at w (a op) (suc f.time))
          (λ alone. arrival_at p c i nd stands f x cycle same inside (a op) first (elim low [
            | inl none ↦ absurd (true≢false (sym (and_parts (is_alone p h) (not (j == 0)) alone).1 ∙ not_from_true (j == 0) (eq-eqb j 0 none)))
            | inr some_ ↦ omega (arith, some_)
          ]))
          (λ shared. iteration_at op (j - 1) first (elim low [ inl none ↦ inl (omega (arith, none)) | inr some_ ↦ inr (omega (arith, some_)) ]))

      pub moves_now : moves p cycle h (entry_of p h) ≡ is_at w (a op) (suc f.time)
      moves_now = moves_then (entry_of p h) refl

      -- a value that does not come in the next cycle is held now
      pub stays_held : is_at w (a op) (suc f.time) ≡ false → HeldAt p c i nd h f.time
      stays_held off = record {
        life = hd.life;
        lives = hd.lives;
        op = hd.op;
        place = hd.place;
        there = there_out hd.life f.time (held_before w (a op) row.last j f.time (is_taken_over r.body.outs.items op.0) hd.life some row.span (there_in hd.life (suc f.time) hd.there) off);
        made = elim hd.made [
          | inl low ↦ inl (elim (cases_eq (a op + j * w) (suc f.time)) [
            | inl now ↦ absurd (true≢false (sym (is_at_sure w some j (a op) (suc f.time) (omega (arith, now))) ∙ off))
            | inr other ↦ omega (arith, low, other)
          ])
          | inr entry ↦ inr entry
        ];
      }

    -- a value that is moved into a register that others share is held in the next cycle
    pub moved_is_held : (op : OpId) (j reg : ℕ) (life : Life) → Has (lives_at p c nd) life → life.op ≡ op.0 → life.place ≡ j → moves p cycle (row_in i op j reg) (entry_of p (row_in i op j reg)) ≡ true
        → is_alone p (row_in i op j reg) ≡ false → IsThere (node_period nd) life (suc f.time)
    moved_is_held op j reg life lives op_ place on shared = go (entry_of p (row_in i op j reg)) refl on
      where
        first : 1 ≤ a op
        first = life_made p c i nd stands life lives op op_

        row : LoopRow p c i r op j life
        row = loop_row p c i r stands op j life lives op_ place

        held_by_time : (k : ℕ) → (k ≡ j) ⊎ ((k ≡ j - 1) × (is_taken_over r.body.outs.items op.0 ≡ true)) → at_iteration p cycle i (a op - 1 + k * w) ≡ true → IsThere (node_period nd) life (suc f.time)
        held_by_time k which on =
            there_out life (suc f.time) (held_next w (a op) row.last j k f.time (is_taken_over r.body.outs.items op.0) life some first row.span which
            (sym (iteration_same p c i nd stands f x cycle same inside counts (a op - 1 + k * w)) ∙ on))

        go : (e : Option ℕ) → entry_of p (row_in i op j reg) ≡ e → moves p cycle (row_in i op j reg) e ≡ true → IsThere (node_period nd) life (suc f.time)
        go None e on = held_by_time (j - 0) (inl (omega arith)) (sym (cond-false _ _ _ shared) ∙ on)
        go (Some v) e on = held_by_time (j - 1) (inr (refl, taken_over op j reg v e)) (sym (cond-false _ _ _ (and_left _ (not (j == 0)) shared)) ∙ on)

    -- ---- the writes of a row

    entries_off : (h : Held) (e : Option ℕ) → h.node.0 ≡ i → NoneWanted (entry_writes cycle h e)
    entries_off h None here = refl
    entries_off h (Some v) here =
        none_if (h.place == 0) (where_ (holds cycle (Load h.node.0)) (cycle.regs (Variable v)) ∷ []) []
        (or_from _ false (off cycle (Load h.node.0) (ap (λ q. q (Load h.node.0)) same ∙ inside.load h.node.0)) refl) refl

    loop_row_writes : (h : Held) → h.node.0 ≡ i → held_writes p cycle h ≡ loop_writes p cycle h
    loop_row_writes h here = cond-true _ _ _ (ap (λ k. is_loop (slice_get p.program.nodes k)) here ∙ looped)

    pub loop_wanted : (h : Held) → h.node.0 ≡ i → is_any_wanted (held_writes p cycle h) ≡ moves p cycle h (entry_of p h)
    loop_wanted h here =
        ap is_any_wanted (loop_row_writes h here) ∙ joined (entry_writes cycle h (entry_of p h)) (entries_off h (entry_of p h) here)
      where
        last_one : (b : Bool) → (b || false) ≡ b
        last_one true = refl
        last_one false = refl

        joined : (ws : List Write) → NoneWanted ws → is_any_wanted (ws ++ where_ (moves p cycle h (entry_of p h)) (moved p cycle h h.place) ∷ []) ≡ moves p cycle h (entry_of p h)
        joined [] none = last_one (moves p cycle h (entry_of p h))
        joined (v ∷ ws) none =
            let parts = or_parts v.wanted (is_any_wanted ws) none in
            ap (λ b. b || is_any_wanted (ws ++ where_ (moves p cycle h (entry_of p h)) (moved p cycle h h.place) ∷ [])) parts.0 ∙ joined ws parts.1

    pub all_moved : (h : Held) → h.node.0 ≡ i → AllWant (held_writes p cycle h) (moved p cycle h h.place)
    all_moved h here =
        subst (λ ws. AllWant ws (moved p cycle h h.place)) (sym (loop_row_writes h here))
        (all_both (entry_writes cycle h (entry_of p h)) _ (moved p cycle h h.place) (none_want _ _ (entries_off h (entry_of p h) here)) ((λ on. refl), _))

    -- ---- the place before

    pub place_before : (op : OpId) (m reg : ℕ) → HeldAt p c i nd (row_in i op (suc m) reg) (suc f.time) → is_at w (a op) (suc f.time) ≡ true → HoldsResults p c i f x
        → result_at p cycle i op.0 m ≡ f.chain op.0 m
    place_before op m reg hd on holds_ =
        let s = loop_shape p c r hd.life hd.lives in
        let row = loop_row p c i r stands op (suc m) hd.life hd.lives hd.op hd.place in
        let first = life_made p c i nd stands hd.life hd.lives op hd.op in
        let outs : List Out = r.body.outs.items in
        let life : Life = chain_life outs (period r) op.0 s.op s.last m in
        let there : slice_get r.body.ops.items op.0 ≡ Some s.op = ap (slice_get r.body.ops.items) (sym hd.op) ∙ s.there in
        let read : last_read (reads_at p c nd) op.0 ≡ Some s.last = ap (last_read (reads_at p c nd)) (sym hd.op) ∙ s.read in
        let soon = s.soon in
        let place = hd.place in
        let at : hd.life.place * period r ≡ m * period r + period r = ap (λ n. n * period r) place ∙ (let y : suc m * period r ≡ m * period r + period r = omega arith in y) in
        let in_ : Has (lives_at p c nd) life =
        in_loop_lives r.body.ops.items outs (period r) (reads_at p c nd) op.0 s.last m s.op (wide_period r) there read (omega (arith, soon, at)) in
        let parts = chain_op outs (period r) op.0 s.op s.last m in
        let pr = place_row p c i nd stands life in_ in
        let before = loop_row p c i r stands op m life in_ parts.0 parts.1 in
        let is_there : IsThere (Some w) life f.time =
        held_for_next w (a op) row.last m f.time (is_taken_over outs op.0) hd.life life some first row.soon row.span
        (subst (λ n. IsSpan w (a op) n m (is_taken_over outs op.0) life) (some_same (sym before.read ∙ row.read)) before.span)
        (there_in hd.life (suc f.time) hd.there) on in
        let h' : Held = pr.row_ in
        let ha : HeldAt p c i nd h' f.time = record {
          life = life;
          lives = in_;
          op = sym pr.op_;
          place = sym pr.place;
          there = there_out life f.time is_there;
          made = elim hd.made [
            | inl low ↦ inl (made_before op m low h' (pr.op_ ∙ parts.0) (pr.place ∙ parts.1))
            | inr entry ↦ inr (same_entry p i h' (row_in i op (suc m) reg) pr.here (pr.op_ ∙ parts.0) entry)
          ];
        } in
        read_place p c i f x cycle same op m h' pr.there (ap₂ (λ o n. find (is_place i o n) p.held) (sym parts.0) (sym parts.1) ∙ pr.found_) pr.here (pr.op_ ∙ parts.0) (pr.place ∙ parts.1) (is_held p c i nd stands h' f.time ha) holds_
      where
        made_before : (op : OpId) (m : ℕ) → a op + suc m * w ≤ suc f.time → (h' : Held) → h'.op.0 ≡ op.0 → h'.place ≡ m → a h'.op + h'.place * w ≤ f.time
        made_before op m low h' o n =
            let e : a h'.op ≡ a op = ap (λ k. a (record { 0 = k })) o in
            let z : h'.place * w ≡ m * w = ap (λ k. k * w) n in
            let y : suc m * w ≡ m * w + w = omega arith in
            omega (arith, low, e, z, y, some)
