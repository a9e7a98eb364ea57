-- What a part of the entries wants of a register that it is for.
use Rattle.std.proofs.Common.{◌≡◌, ℕ, suc, ◌+◌, ◌-◌, ◌%◌, ◌^◌, ◌<◌, ◌≤◌, ◌==◌, true, false, cond, List, [], ◌∷◌, ◌++◌, map, filter, flat_map, length, Option, Some, None, refl, sym, ap, ◌∙◌, append-nil, inl, inr, if◌then◌else◌, arith}
use Rattle.std.specs.Prelude.{slice_get, slice_index, nat_lt}
use Rattle.std.specs.List.{enumerate_from, range_with_len}
use Rattle.std.proofs.lemmas.Bool.{cases_Bool, cond-true, cond-false, eq-eqb, ne_eqb}
use Rattle.hls_base.specs.declared.number.Kept.{Kept}
use Rattle.hls_base.specs.declared.number.NodeId.{NodeId}
use Rattle.hls_base.specs.declared.number.VarId.{VarId}
use Rattle.ir_core.specs.declared.body.Out.{Out}
use Rattle.ir_core.specs.declared.cfg.End.TheVariants as end
use Rattle.reg_binding.specs.declared.registers.Held.{Held}
use Rattle.clock_ir.specs.ClockRuns.{TimedNode, block, overlapped}
use Rattle.rtl_core.specs.Interface.{select_of}
use Rattle.rtl_logic.specs.Choosing.{Write, where_}
use Rattle.datapath.specs.Plans.{Plan, body_of, body_if, body_at, span, numbered, initial_cycles, host_arrays}
use Rattle.datapath.specs.Cycles.{Cycle, Initial, Gate, holds, bit}
use Rattle.datapath.specs.Reading.{operand}
use Rattle.datapath.specs.Control.{is_loop, is_taken, is_loading, is_any_tested, gate_write, passed_write, waited_write, leaves_as, time_bits, wait_bits, next_initial, next_time, next_load, next_active}
use Rattle.datapath.specs.Values.{entry_of, entry_writes, held_writes, value_writes, argument_writes, kept_writes, out_value, out_writes, returned, result_writes}
use Rattle.datapath.specs.Circuits.{always, named_bits}
use Rattle.circuit_context.specs.declared.wanted.role.Role.{Role}
use Rattle.circuit_context.specs.declared.wanted.role.Role.TheVariants as role
use Rattle.circuit_context.specs.declared.wanted.role.Target.TheVariants as t
use Rattle.circuit_context.specs.Wanted.Entries.{Entry, exit_entries, all_exits, parameter_entry, kept_entry, all_beginnings, load_entries, held_entries, all_places, out_entry, out_entries, ways_as, end_entries, all_ends, gate_entries, passed_entries, waited_entries, initial_entries, time_entries, state_entries, named_entries}
use Rattle.fsm_datapath.proofs.LoggedWrites.Lists.{flat_same, all_but_one, range_none, range_one, flat_kept, map_kept, turned, before_other, flat_cond}
use Rattle.fsm_datapath.proofs.LoggedWrites.Wanted.{Wants, here, not_here, none, more, both, if_any, if_none, flat, flat_numbered, mapped, mapped_nothing, tested, alike}
use Rattle.fsm_datapath.proofs.LoggedWrites.Parts.{no_ways, no_outs, no_results}

-- for the register are wanted these writes
abbrev pub Gives : Cycle → Role → List Entry → List Write → Type 0
Gives c r es ws = Wants c (t.Register r) es ws

module _ (p : Plan) (c : Cycle) where
  -- ---- gates

  pub exits_give : Gives c (role.Gate 0) (all_exits p) (flat_map (gate_write p c) (numbered p))
  exits_give = flat (exit_entries p) (gate_write p c) (numbered p) at_node
    where
      at_node : (n : ℕ × TimedNode) → Gives c (role.Gate 0) (exit_entries p n) (gate_write p c n)
      at_node (i, block body end_) = none
      at_node (i, overlapped body exit next) = more (not_here _ refl) (here _ refl)

  pub first_gate_gives : (gates : ℕ) → Gives c (role.Gate 0) (gate_entries p (suc gates)) (where_ (is_loading p c) 1 ∷ [])
  first_gate_gives gates =
      more (here _ refl)
      (alike (mapped _ (λ k. cond (0 == k) (where_ (is_any_tested p c) (c.regs (Gate (k - 1))) ∷ []) []) (range_with_len 1 gates) (λ k. tested _))
      (range_none _ 1 gates (λ m low high. cond-false _ _ _ (ne_eqb 0 m (λ s. absurd (omega (arith, s, low)))))))

  pub next_gate_gives : (gates k : ℕ) → k < gates → Gives c (role.Gate (suc k)) (gate_entries p (suc gates)) (where_ (is_any_tested p c) (c.regs (Gate k)) ∷ [])
  next_gate_gives gates k lt =
      let same : suc k ≡ 1 + k = omega arith in
      let less : 1 + k - 1 ≡ k = omega arith in
      more (not_here _ (ne_eqb (suc k) 0 (λ s. absurd (omega (arith, s)))))
      (alike (mapped _ (λ m. cond (suc k == m) (where_ (is_any_tested p c) (c.regs (Gate (m - 1))) ∷ []) []) (range_with_len 1 gates) (λ m. tested _))
      (range_one _ 1 gates k lt (λ m apart. cond-false _ _ _ (ne_eqb (suc k) m (λ s. apart (omega (arith, s)))))
      ∙ (cond-true _ _ _ (eq-eqb (suc k) (1 + k) same) ∙ ap (λ (n : ℕ). where_ (is_any_tested p c) (c.regs (Gate n)) ∷ []) less)))

  pub passed_give : (stages n : ℕ) → 1 ≤ n → n < 1 + stages → Gives c (role.Passed n) (passed_entries p stages) (passed_write p c n ∷ [])
  passed_give stages n low high =
      let same : n ≡ 1 + (n - 1) = omega (arith, low) in
      alike (mapped _ (λ m. cond (n == m) (passed_write p c m ∷ []) []) (range_with_len 1 stages) (λ m. tested _))
      (range_one _ 1 stages (n - 1) (omega (arith, low, high)) (λ m apart. cond-false _ _ _ (ne_eqb n m (λ s. apart (omega (arith, s, low)))))
      ∙ (cond-true _ _ _ (eq-eqb n (1 + (n - 1)) same) ∙ ap (λ (m : ℕ). passed_write p c m ∷ []) (sym same)))

  pub waited_gives : (wait_bits p == 0) ≡ false → Gives c role.Waited (waited_entries p) (waited_write p c ∷ [])
  waited_gives some = alike (if_any (wait_bits p == 0) none (here _ refl)) (cond-false _ _ _ some)

  -- ---- variables

  pub beginnings_give : (v : VarId) → Gives c (role.Variable v) (all_beginnings p) (argument_writes p c v.0 ++ kept_writes p c v.0)
  beginnings_give v =
      more (not_here _ refl)
      (both
      (alike (mapped parameter_entry (λ x. cond (v.0 == x.1.0) (where_ (is_taken c) (slice_index c.pins (7 + x.0)) ∷ []) []) (enumerate_from 0 p.parameters) (λ x. tested _))
      (flat_same _ (λ x. cond (x.1.0 == v.0) (where_ (is_taken c) (slice_index c.pins (7 + x.0)) ∷ []) []) (enumerate_from 0 p.parameters)
      (λ x. ap (λ b. cond b (where_ (is_taken c) (slice_index c.pins (7 + x.0)) ∷ []) []) (turned v.0 x.1.0))
      ∙ sym (map_kept (λ (x : ℕ × VarId). where_ (is_taken c) (slice_index c.pins (7 + x.0))) (λ (x : ℕ × VarId). x.1.0 == v.0) (enumerate_from 0 p.parameters))))
      (alike (mapped kept_entry (λ x. cond (v.0 == x.variable.0) (where_ (holds c Initial) x.value ∷ []) []) p.kept (λ x. tested _))
      (flat_same _ (λ x. cond (x.variable.0 == v.0) (where_ (holds c Initial) x.value ∷ []) []) p.kept
      (λ x. ap (λ b. cond b (where_ (holds c Initial) x.value ∷ []) []) (turned v.0 x.variable.0))
      ∙ sym (map_kept (λ (x : Kept). where_ (holds c Initial) x.value) (λ (x : Kept). x.variable.0 == v.0) p.kept))))

  abbrev out_write : ℕ × TimedNode → Out → Write
  out_write n x = where_ (leaves_as p c n.0 n.1) (out_value p c n.0 n.1 x)

  pub outs_give : (v : VarId) (n : ℕ × TimedNode) → body_of n.1 ≡ body_at p n.0 → Gives c (role.Variable v) (out_entries p n) (out_writes p c v.0 n)
  outs_give v n same =
      alike (mapped (out_entry p n) (λ x. cond (v.0 == x.variable.0) (out_write n x ∷ []) []) (filter (λ (x : Out). p.savings.behind n.0 x.variable.0) (body_of n.1).outs) (λ x. tested _))
      (flat_kept _ (λ (x : Out). p.savings.behind n.0 x.variable.0) (body_of n.1).outs
      ∙ (flat_same _ (λ x. cond (p.savings.behind n.0 v.0) (cond (x.variable.0 == v.0) (out_write n x ∷ []) []) []) (body_of n.1).outs
      (λ x. before_other (p.savings.behind n.0) v.0 x.variable.0 (out_write n x ∷ []))
      ∙ (flat_cond (p.savings.behind n.0 v.0) (λ x. cond (x.variable.0 == v.0) (out_write n x ∷ []) []) (body_of n.1).outs
      ∙ ap (λ l. cond (p.savings.behind n.0 v.0) l [])
      (sym (map_kept (out_write n) (λ (x : Out). x.variable.0 == v.0) (body_of n.1).outs) ∙ ap (λ b. map (out_write n) (filter (λ (x : Out). x.variable.0 == v.0) b.outs)) same))))

  pub ends_give : (v : VarId) → Gives c (role.Variable v) (all_ends p) (flat_map (out_writes p c v.0) (numbered p))
  ends_give v = flat_numbered (end_entries p) (out_writes p c v.0) p.program.nodes (λ j x e.
      alike (both (outs_give v (j, x) (ap body_if (sym e))) (no_results p c (role.Variable v) refl (j, x) x)) (append-nil _))

  -- ---- results

  pub returns_give : (n : ℕ × TimedNode) (e : TimedNode) → n.1 ≡ e → Gives c role.Result (ways_as p n e) (returned p c n.0 e)
  returns_give n (overlapped body exit next) same = not_here _ refl
  returns_give n (block body (end.Jump next)) same = not_here _ refl
  returns_give n (block body (end.Branch test left right)) same = more (not_here _ refl) (not_here _ refl)
  returns_give n (block body (end.Choose cases other)) same =
      if_none (p.savings.exclusive n.0) (both (mapped_nothing _ cases.items (λ case. refl)) (not_here _ refl)) (no_ways p c role.Result n [] cases.items other)
  returns_give n (block body (end.Return None)) same = more (not_here _ refl) none
  returns_give n (block body (end.Return (Some x))) same =
      alike (more (not_here _ refl) (here _ refl)) (ap (λ e. where_ (leaves_as p c n.0 e) (operand p c n.0 (span p n.0 - 1) x) ∷ []) same)

  pub result_gives : Gives c role.Result (all_ends p) (result_writes p c)
  result_gives = flat (end_entries p) (λ n. returned p c n.0 n.1) (numbered p) (λ n. both (no_outs p c role.Result (λ v. refl) n) (returns_give n n.1 refl))

  -- ---- places

  loads_give : (h : Held) (k : ℕ) → (k == h.register) ≡ true → (v : Option ℕ) → Gives c (role.Value k) (load_entries h v) (entry_writes c h v)
  loads_give h k same None = none
  loads_give h k same (Some v) = if_any (h.place == 0) (here _ same) none

  no_loads : (h : Held) (k : ℕ) → (k == h.register) ≡ false → (v : Option ℕ) → Gives c (role.Value k) (load_entries h v) []
  no_loads h k other None = none
  no_loads h k other (Some v) = if_none (h.place == 0) (not_here _ other) none

  place_gives : (k : ℕ) (h : Held) → Gives c (role.Value k) (held_entries p h) (cond (h.register == k) (held_writes p c h) [])
  place_gives k h = elim (cases_Bool (k == h.register)) [
    | inl e ↦
        alike (if_any (is_loop (slice_get p.program.nodes h.node.0)) (both (loads_give h k e (entry_of p h)) (here _ e)) (here _ e))
        (sym (cond-true _ _ _ (turned h.register k ∙ e)))
    | inr e ↦
        alike (if_none (is_loop (slice_get p.program.nodes h.node.0)) (both (no_loads h k e (entry_of p h)) (not_here _ e)) (not_here _ e))
        (sym (cond-false _ _ _ (turned h.register k ∙ e)))
  ]

  pub places_give : (k : ℕ) → Gives c (role.Value k) (all_places p) (value_writes p c k)
  places_give k = alike (flat (held_entries p) _ p.held (place_gives k)) (sym (flat_kept (held_writes p c) (λ (h : Held). h.register == k) p.held))

  -- ---- states

  load_gives : (i : NodeId) (j : ℕ) (x : TimedNode) → Gives c (role.Load i) (state_entries p (j, x)) (cond (i.0 == j) (if is_loop (Some x) then always (bit (next_load p c j)) else []) [])
  load_gives i j x = elim (cases_Bool (i.0 == j)) [
    | inl e ↦ alike (both (if_any (is_loop (Some x)) (here _ e) none) (not_here _ refl)) (append-nil _ ∙ sym (cond-true _ _ _ e))
    | inr e ↦ alike (both (if_none (is_loop (Some x)) (not_here _ e) none) (not_here _ refl)) (sym (cond-false _ _ _ e))
  ]

  pub loads_gives : (i : NodeId) (x : TimedNode) → slice_get p.program.nodes i.0 ≡ Some x → is_loop (Some x) ≡ true
      → Gives c (role.Load i) (flat_map (state_entries p) (numbered p)) (always (bit (next_load p c i.0)))
  loads_gives i x at_ loop =
      alike (flat (state_entries p) (λ n. cond (i.0 == n.0) (if is_loop (Some n.1) then always (bit (next_load p c n.0)) else []) []) (numbered p) (λ n. load_gives i n.0 n.1))
      (all_but_one _ i.0 p.program.nodes x at_ (λ j y e apart. cond-false _ _ _ (ne_eqb i.0 j (λ s. apart (sym s)))) ∙ (cond-true _ _ _ (eq-eqb i.0 i.0 refl) ∙ cond-true _ _ _ loop))

  active_gives : (i : NodeId) (j : ℕ) (x : TimedNode) → Gives c (role.Active i) (state_entries p (j, x)) (cond (i.0 == j) (always (bit (next_active p c j))) [])
  active_gives i j x = both (if_none (is_loop (Some x)) (not_here _ refl) none) (tested _)

  pub actives_give : (i : NodeId) (x : TimedNode) → slice_get p.program.nodes i.0 ≡ Some x → Gives c (role.Active i) (flat_map (state_entries p) (numbered p)) (always (bit (next_active p c i.0)))
  actives_give i x at_ =
      alike (flat (state_entries p) (λ n. cond (i.0 == n.0) (always (bit (next_active p c n.0))) []) (numbered p) (λ n. active_gives i n.0 n.1))
      (all_but_one _ i.0 p.program.nodes x at_ (λ j y e apart. cond-false _ _ _ (ne_eqb i.0 j (λ s. apart (sym s)))) ∙ cond-true _ _ _ (eq-eqb i.0 i.0 refl))

  pub initial_gives : (initial_cycles p == 0) ≡ false → Gives c role.Initial (initial_entries p) (always (bit (next_initial p c)))
  initial_gives some = alike (if_any (initial_cycles p == 0) none (here _ refl)) (cond-false _ _ _ some)

  pub time_gives : (time_bits p == 0) ≡ false → Gives c role.Time (time_entries p) (always (next_time p c))
  time_gives some = alike (if_any (time_bits p == 0) none (here _ refl)) (cond-false _ _ _ some)

  pub named_gives : nat_lt 1 (length (host_arrays p)) ≡ true → Gives c role.Named (named_entries p) (always (select_of c.pins % 2 ^ named_bits p))
  named_gives some = alike (if_any (nat_lt 1 (length (host_arrays p))) (here _ refl) none) (cond-true _ _ _ some)
