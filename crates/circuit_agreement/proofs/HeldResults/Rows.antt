-- The rows of a node and its lives: each life has its row, and two rows whose values are there in one cycle have registers of their own.
use Rattle.std.proofs.Common.{◌≡◌, ℕ, zero, suc, ◌<◌, ◌==◌, ◌&&◌, true, List, [], ◌∷◌, map, length, filter, find, zip, slice_index, Some, inl, inr, refl, sym, ap, ◌∙◌, subst, arith}
use Rattle.std.specs.Prelude.{slice_get}
use Rattle.std.proofs.lemmas.List.Sorted.{IsPermutation-sym}
use Rattle.std.proofs.lemmas.Option.{slice_get_within, slice_get-get_or}
use Rattle.std.proofs.lemmas.Bool.{and_from, and_parts, eq-eqb, eqb-true, cases_eq, cases_lt}
use Rattle.ir_core.specs.declared.timed.Timed.{Timed}
use Rattle.ir_core.specs.declared.cfg.Node.{Node}
use Rattle.reg_binding.specs.declared.life.Life.{Life}
use Rattle.reg_binding.specs.declared.registers.Held.{Held}
use Rattle.reg_binding.specs.Lives.{node_period}
use Rattle.reg_binding.specs.Pools.{Has}
use Rattle.reg_binding.specs.Sharing.{IsThere, life_at, no_life}
use Rattle.reg_binding.specs.Assigned.{row, is_of, AreRows}
use Rattle.reg_binding.proofs.Rows.{row_at}
use Rattle.clock_runs.proofs.Lists.{no_some, some_same}
use Rattle.datapath.specs.Plans.{Plan}
use Rattle.datapath.specs.Reading.{is_place}
use Rattle.datapath.proofs.Writes.{found}
use Rattle.circuit_agreement.specs.CircuitFlow.Compiled.{IsCompiled}
use Rattle.circuit_agreement.specs.CircuitFlow.HeldResults.Holding.{lives_at}
use Rattle.circuit_agreement.proofs.HeldResults.Lists.{in_order, in_kept, from_kept, is_found}
use Rattle.circuit_agreement.proofs.HeldResults.Nodes.{one_life}

zipped : (i : ℕ) (order : List Life) (choices : List ℕ) (k : ℕ) (h : Held) → slice_get (map (row i) (zip order choices)) k ≡ Some h
    → (k < length order) × (h ≡ row i (life_at order k, slice_index choices k))
zipped i [] choices k h e = absurd (no_some e)
zipped i (l ∷ order) [] k h e = absurd (no_some e)
zipped i (l ∷ order) (r ∷ choices) zero h e = (omega arith, sym (some_same e))
zipped i (l ∷ order) (r ∷ choices) (suc k) h e = (let z = zipped i order choices k h e in let lt = z.0 in (omega (arith, lt), z.1))

module _ (p : Plan) (c : IsCompiled p) (i : ℕ) (nd : Node Timed) (stands : slice_get c.timed.nodes.items i ≡ Some nd) where
  held_is : p.held ≡ c.registers.held.items
  held_is = ap (λ (q : Plan). q.held) c.plan

  abbrev rows : AreRows i (lives_at p c nd) (node_period nd) c.registers.widths.items (filter (is_of i) c.registers.held.items)
  rows = c.assigned.rows i nd (slice_get_within c.timed.nodes.items i nd stands) stands

  pub record RowLife (h : Held) : Type 0 where
    pub number : ℕ
    pub within : number < length rows.order
    pub is : h ≡ row i (life_at rows.order number, slice_index rows.choices number)

  pub row_life : (h : Held) → Has p.held h → h.node.0 ≡ i → RowLife h
  row_life h there here =
      let kept : Has (filter (is_of i) c.registers.held.items) h = in_kept (is_of i) c.registers.held.items h (subst (λ l. Has l h) held_is there) (eq-eqb h.node.0 i here) in
      let z = zipped i rows.order rows.choices kept.0 h (ap (λ l. slice_get l kept.0) (sym rows.rows_) ∙ kept.1) in
      record { number = kept.0; within = z.0; is = z.1 }

  -- its life
  pub life_in : (h : Held) (r : RowLife h) → Has (lives_at p c nd) (life_at rows.order r.number)
  life_in h r = in_order rows.order (lives_at p c nd) (life_at rows.order r.number) (IsPermutation-sym (lives_at p c nd) rows.order rows.same)
      (r.number, slice_get-get_or rows.order r.number no_life r.within)

  pub record OwnLife (h : Held) : Type 0 where
    pub life : Life
    pub lives : Has (lives_at p c nd) life
    pub op : life.op ≡ h.op.0
    pub place : life.place ≡ h.place

  pub own_life : (h : Held) → Has p.held h → h.node.0 ≡ i → OwnLife h
  own_life h there here =
      let r = row_life h there here in record {
        life = life_at rows.order r.number;
        lives = life_in h r;
        op = ap (λ (k : Held). k.op.0) (sym r.is);
        place = ap (λ (k : Held). k.place) (sym r.is);
      }

  -- a life has a row
  pub record LifeRow (life : Life) : Type 0 where
    pub row_ : Held
    pub there : Has p.held row_
    pub here : row_.node.0 ≡ i
    pub op : row_.op.0 ≡ life.op
    pub place : row_.place ≡ life.place

  pub life_row : (life : Life) → Has (lives_at p c nd) life → LifeRow life
  life_row life h =
      let o = in_order (lives_at p c nd) rows.order life rows.same h in
      let below = slice_get_within rows.order o.0 life o.1 in
      let is : life_at rows.order o.0 ≡ life = some_same (sym (slice_get-get_or rows.order o.0 no_life below) ∙ o.1) in
      let at = row_at i rows.order rows.choices o.0 below rows.shared.count in
      record {
        row_ = row i (life_at rows.order o.0, slice_index rows.choices o.0);
        there = subst (λ l. Has l (row i (life_at rows.order o.0, slice_index rows.choices o.0))) (sym held_is)
            (from_kept (is_of i) c.registers.held.items _ (o.0, ap (λ l. slice_get l o.0) rows.rows_ ∙ at));
        here = refl;
        op = ap (λ (l : Life). l.op) is;
        place = ap (λ (l : Life). l.place) is;
      }

  -- where a register has two values in one cycle, they are one
  pub same_row : (g h : Held) (lg lh : Life) (time : ℕ) → Has p.held g → Has p.held h → g.node.0 ≡ i → h.node.0 ≡ i → g.register ≡ h.register
      → Has (lives_at p c nd) lg → Has (lives_at p c nd) lh → lg.op ≡ g.op.0 → lh.op ≡ h.op.0 → lg.place ≡ g.place → lh.place ≡ h.place
      → IsThere (node_period nd) lg time → IsThere (node_period nd) lh time → (g.op.0 ≡ h.op.0) × (g.place ≡ h.place)
  same_row g h lg lh time at_g at_h here there same in_g in_h op_g op_h place_g place_h is_g is_h =
      let a = row_life g at_g here in
      let b = row_life h at_h there in
      let la : lg ≡ life_at rows.order a.number = one_life p c nd lg (life_at rows.order a.number) in_g (life_in g a) (op_g ∙ ap (λ (r : Held). r.op.0) a.is) (place_g ∙ ap (λ (r : Held). r.place) a.is) in
      let lb : lh ≡ life_at rows.order b.number = one_life p c nd lh (life_at rows.order b.number) in_h (life_in h b) (op_h ∙ ap (λ (r : Held). r.op.0) b.is) (place_h ∙ ap (λ (r : Held). r.place) b.is) in
      let reg : slice_index rows.choices a.number ≡ slice_index rows.choices b.number = sym (ap (λ (r : Held). r.register) a.is) ∙ (same ∙ ap (λ (r : Held). r.register) b.is) in
      let on_a : IsThere (node_period nd) (life_at rows.order a.number) time = subst (λ l. IsThere (node_period nd) l time) la is_g in
      let on_b : IsThere (node_period nd) (life_at rows.order b.number) time = subst (λ l. IsThere (node_period nd) l time) lb is_h in
      elim (cases_eq a.number b.number) [
        | inl e ↦
            let one : g ≡ row i (life_at rows.order b.number, slice_index rows.choices b.number) = a.is ∙ ap (λ n. row i (life_at rows.order n, slice_index rows.choices n)) e in
            let both : g ≡ h = one ∙ sym b.is in
            (ap (λ (r : Held). r.op.0) both, ap (λ (r : Held). r.place) both)
        | inr differ ↦ elim (cases_lt a.number b.number) [
          | inl less ↦ absurd (rows.shared.apart a.number b.number less b.within reg (record { time = time; there = on_a; there_too = on_b }))
          | inr more ↦ absurd (rows.shared.apart b.number a.number (omega (arith, more, differ)) a.within (sym reg) (record { time = time; there = on_b; there_too = on_a }))
        ]
      ]

  -- ---- the row of a place

  pub record PlaceRow (op j : ℕ) : Type 0 where
    pub row_ : Held
    pub found_ : find (is_place i op j) p.held ≡ Some row_
    pub there : Has p.held row_
    pub here : row_.node.0 ≡ i
    pub op_ : row_.op.0 ≡ op
    pub place : row_.place ≡ j

  pub place_row : (life : Life) → Has (lives_at p c nd) life → PlaceRow life.op life.place
  place_row life h =
      let r = life_row life h in
      let passes : is_place i life.op life.place r.row_ ≡ true =
      and_from _ _ (eq-eqb r.row_.node.0 i r.here) (and_from _ _ (eq-eqb r.row_.op.0 life.op r.op) (eq-eqb r.row_.place life.place r.place)) in
      let f = is_found (is_place i life.op life.place) p.held r.row_ r.there passes in
      let d = found (is_place i life.op life.place) p.held f.0 f.1 in
      let parts = and_parts (f.0.node.0 == i) ((f.0.op.0 == life.op) && (f.0.place == life.place)) d.passes in
      let others = and_parts (f.0.op.0 == life.op) (f.0.place == life.place) parts.1 in
      record {
        row_ = f.0;
        found_ = f.1;
        there = (d.place, d.stands);
        here = eqb-true f.0.node.0 i parts.0;
        op_ = eqb-true f.0.op.0 life.op others.0;
        place = eqb-true f.0.place life.place others.1;
      }
