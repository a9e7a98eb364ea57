-- What the constraints of blocks and loops say of their times.
use Rattle.std.proofs.Common.{◌≡◌, ℕ, ◌+◌, ◌*◌, ◌≤◌, inl, inr, List, [], ◌∷◌, ◌++◌, length, sym, ap, subst, arith}
use Rattle.std.specs.Prelude.{◌==◌, slice_index, Bool, true, false, Some, None, if◌then◌else◌}
use Rattle.std.specs.List.{cons_option}
use Rattle.std.proofs.lemmas.Int.{ints}
use Rattle.dep_graph.specs.declared.edge.Edge.{Edge}
use Rattle.diff_solve.specs.declared.solve.Constraint.{Constraint}
use Rattle.diff_solve.specs.Times.{Meets}
use Rattle.unit_binding.specs.declared.binding.UnitOrder.{UnitOrder}
use Rattle.unit_binding.specs.Times.{edge_constraint, edge_constraints}
use Rattle.block_schedule.specs.Constraints as block
use Rattle.modulo_loop.specs.Rules as loop
use Rattle.clock_ir.specs.WellTimed.{Keeps}
use Rattle.clock_runs.specs.Premises.{Each}
use Rattle.timed_pieces.proofs.ScheduleRuns.Serving.{Has, InTurn}

pub each_front : {A : Type 0} (P : A → Type 0) (xs ys : List A) → Each P (xs ++ ys) → Each P xs
each_front P [] ys h = tt
each_front P (x ∷ xs) ys h = (h.0, each_front P xs ys h.1)

pub each_back : {A : Type 0} (P : A → Type 0) (xs ys : List A) → Each P (xs ++ ys) → Each P ys
each_back P [] ys h = h
each_back P (x ∷ xs) ys h = each_back P xs ys h.1

pub each_has : {A : Type 0} (P : A → Type 0) (xs : List A) (x : A) → Each P xs → Has x xs → P x
each_has P [] x h i = absurd i
each_has P (y ∷ ys) x h i = elim i [ inl e ↦ subst P (sym e) h.0 | inr r ↦ each_has P ys x h.1 r ]

abbrev pub start : List ℕ → ℕ → ℕ
start times k = slice_index times (k + 1)

-- ---- blocks

module _ (times : List ℕ) where
  meets_keeps : (e : Edge) → Meets times (edge_constraint e) → Keeps times 0 e
  meets_keeps e h = omega (arith, ints, h)

  one_kept : (b : Bool) (e : Edge) (cs : List Constraint) → Each (Meets times) (cons_option (if b then Some (edge_constraint e) else None) cs) → (b ≡ true → Keeps times 0 e) × Each (Meets times) cs
  one_kept true e cs h = ((λ yes. meets_keeps e h.0), h.1)
  one_kept false e cs h = ((λ yes. (cc)), h)

  pub edges_kept : (edges : List Edge) → Each (Meets times) (edge_constraints edges) → Each (λ (e : Edge). (e.distance == 0) ≡ true → Keeps times 0 e) edges
  edges_kept [] h = tt
  edges_kept (e ∷ es) h = (let k = one_kept (e.distance == 0) e (edge_constraints es) h in (k.0, edges_kept es k.1))

  block_turn : (held : ℕ) (ops : List ℕ) → Each (Meets times) (block.order_constraints held ops) → InTurn (start times) held ops
  block_turn held [] h = tt
  block_turn held (op ∷ []) h = tt
  block_turn held (op ∷ next ∷ ops) h = ((let z : Meets times (block.serves_next held op next) = h.0 in omega (arith, ints, z)), block_turn held (next ∷ ops) h.1)

  pub block_turns : (orders : List UnitOrder) → Each (Meets times) (block.unit_constraints orders) → Each (λ (o : UnitOrder). InTurn (start times) o.occupancy o.ops.items) orders
  block_turns [] h = tt
  block_turns (o ∷ os) h = (block_turn o.occupancy o.ops.items (each_front (Meets times) (block.order_constraints o.occupancy o.ops.items) (block.unit_constraints os) h), block_turns os (each_back (Meets times) (block.order_constraints o.occupancy o.ops.items) (block.unit_constraints os) h))

-- ---- loops

module _ (times : List ℕ) (ii : ℕ) where
  rule_kept : (e : Edge) → Meets times (loop.at_interval ii e) → Keeps times ii e
  rule_kept e h = omega (arith, ints, h)

  pub rules_kept : (rules : List Edge) → Each (Meets times) (loop.constraints_at ii rules) → Each (Keeps times ii) rules
  rules_kept [] h = tt
  rules_kept (e ∷ es) h = (rule_kept e h.0, rules_kept es h.1)

  loop_turn : (held : ℕ) (ops : List ℕ) → Each (Keeps times ii) (loop.next_rules held ops) → InTurn (start times) held ops
  loop_turn held [] h = tt
  loop_turn held (op ∷ []) h = tt
  loop_turn held (op ∷ next ∷ ops) h = ((let z : Keeps times ii (loop.serves_next held op next) = h.0 in omega arith), loop_turn held (next ∷ ops) h.1)

  -- the first operation of an order is served again behind the last
  abbrev pub Again : UnitOrder → Type 0
  Again o = (op : ℕ) (rest : List ℕ) → o.ops.items ≡ op ∷ rest → start times (slice_index (op ∷ rest) (length rest)) + o.occupancy ≤ start times op + ii

  loop_again : (held : ℕ) (ops : List ℕ) → Each (Keeps times ii) (loop.again_rules held ops) → (op : ℕ) (rest : List ℕ) → ops ≡ op ∷ rest → start times (slice_index (op ∷ rest) (length rest)) + held ≤ start times op + ii
  loop_again held [] h op rest e = absurd (omega (arith, ap length e))
  loop_again held (x ∷ xs) h op rest e =
      let kept : slice_index times (slice_index (x ∷ xs) (length xs) + 1) + held ≤ slice_index times (x + 1) + ii * 1 = h.0 in
      let mine : start times (slice_index (x ∷ xs) (length xs)) + held ≤ start times x + ii = omega arith in
      let first : x ≡ op = (cc) in
      let others : xs ≡ rest = (cc) in
      subst (λ y. start times (slice_index (y ∷ rest) (length rest)) + held ≤ start times y + ii) first (subst (λ ys. start times (slice_index (x ∷ ys) (length ys)) + held ≤ start times x + ii) others mine)

  pub loop_turns : (orders : List UnitOrder) → Each (Keeps times ii) (loop.unit_rules orders) → Each (λ (o : UnitOrder). InTurn (start times) o.occupancy o.ops.items × Again o) orders
  loop_turns [] h = tt
  loop_turns (o ∷ os) h =
      let next = loop.next_rules o.occupancy o.ops.items in
      let again = loop.again_rules o.occupancy o.ops.items in
      let rest = loop.unit_rules os in
      let behind : Each (Keeps times ii) (again ++ rest) = each_back (Keeps times ii) next (again ++ rest) h in
      ((loop_turn o.occupancy o.ops.items (each_front (Keeps times ii) next (again ++ rest) h), loop_again o.occupancy o.ops.items (each_front (Keeps times ii) again rest behind)), loop_turns os (each_back (Keeps times ii) again rest behind))
