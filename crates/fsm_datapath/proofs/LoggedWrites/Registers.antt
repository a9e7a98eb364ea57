-- What all entries want of a register.
use Rattle.std.proofs.Common.{◌≡◌, ℕ, zero, suc, ◌+◌, ◌%◌, ◌^◌, ◌<◌, ◌≤◌, ◌==◌, true, false, List, [], ◌∷◌, ◌++◌, flat_map, length, Some, refl, ap, ◌∙◌, append-nil, append_assoc, arith}
use Rattle.std.specs.Prelude.{slice_get, nat_lt}
use Rattle.std.proofs.lemmas.Bool.{ne_eqb}
use Rattle.hls_base.specs.declared.number.NodeId.{NodeId}
use Rattle.hls_base.specs.declared.number.VarId.{VarId}
use Rattle.clock_ir.specs.ClockRuns.{TimedNode}
use Rattle.rtl_core.specs.Interface.{select_of}
use Rattle.rtl_logic.specs.Choosing.{where_}
use Rattle.datapath.specs.Plans.{Plan, numbered, initial_cycles, host_arrays}
use Rattle.datapath.specs.Cycles.{Cycle, bit}
use Rattle.datapath.specs.Control.{is_loop, is_loading, gate_write, gate_writes, passed_write, waited_write, time_bits, wait_bits, next_ready, next_done, next_initial, next_time, next_load, next_active}
use Rattle.datapath.specs.Values.{value_writes, argument_writes, kept_writes, out_writes, variable_writes, result_writes}
use Rattle.datapath.specs.Circuits.{always, named_bits}
use Rattle.circuit_context.specs.declared.wanted.role.Role.{Role}
use Rattle.circuit_context.specs.declared.wanted.role.Role.TheVariants as role
use Rattle.circuit_context.specs.declared.wanted.role.UnitRegister.{UnitRegister}
use Rattle.circuit_context.specs.Wanted.Roles.{same_role}
use Rattle.circuit_context.specs.Wanted.Entries.{Entry, always_entry, moves_of, loop_entries, initial_entries, time_entries, all_entries}
use Rattle.fsm_datapath.proofs.LoggedWrites.Wanted.{here, not_here, more, both, alike}
use Rattle.fsm_datapath.proofs.LoggedWrites.Parts.{Lacks, no_exits, no_beginnings, no_places, no_ends, no_gates, no_passed, no_waited, no_states, no_initial, no_time, no_named}
use Rattle.fsm_datapath.proofs.LoggedWrites.Given.{Gives, exits_give, first_gate_gives, next_gate_gives, passed_give, waited_gives, beginnings_give, ends_give, result_gives, places_give, loads_gives, actives_give, initial_gives, time_gives, named_gives}

-- ---- parts that want nothing

-- what the controller wants, but for the nodes
abbrev rest_entries : Plan → List Entry
rest_entries p = always_entry role.Done (λ c. bit (next_done p c)) ∷ always_entry role.Ready (λ c. bit (next_ready p c)) ∷ (initial_entries p ++ time_entries p)

module _ (p : Plan) (c : Cycle) (r : Role) where
  no_moves : same_role r (role.Gate 0) ≡ false → ((v : VarId) → same_role r (role.Variable v) ≡ false) → ((k : ℕ) → same_role r (role.Value k) ≡ false) → same_role r role.Result ≡ false
      → Lacks c r (moves_of p)
  no_moves gate variable value result = both (no_exits p c r gate) (both (no_beginnings p c r variable) (both (no_places p c r value) (no_ends p c r variable result)))

  no_loops : (gates stages : ℕ) → ((k : ℕ) → same_role r (role.Gate k) ≡ false) → ((n : ℕ) → same_role r (role.Passed n) ≡ false) → same_role r role.Waited ≡ false → Lacks c r (loop_entries p gates stages)
  no_loops gates stages gate passed waited = both (no_gates p c r gates gate) (both (no_passed p c r stages passed) (no_waited p c r waited))

  -- but for what each node has
  no_rest : same_role r role.Done ≡ false → same_role r role.Ready ≡ false → same_role r role.Initial ≡ false → same_role r role.Time ≡ false → Lacks c r (rest_entries p)
  no_rest done ready initial time = more (not_here _ done) (more (not_here _ ready) (both (no_initial p c r initial) (no_time p c r time)))

-- ---- each register

module _ (p : Plan) (gates stages : ℕ) (c : Cycle) where
  pub ready_given : Gives c role.Ready (all_entries p gates stages) (always (bit (next_ready p c)))
  ready_given =
      both (no_moves p c role.Ready refl (λ v. refl) (λ k. refl) refl)
      (both (no_loops p c role.Ready gates stages (λ k. refl) (λ n. refl) refl)
      (both (both (no_states p c role.Ready (λ i. refl) (λ i. refl)) (more (not_here _ refl) (more (here _ refl) (both (no_initial p c role.Ready refl) (no_time p c role.Ready refl)))))
      (no_named p c role.Ready refl)))

  pub done_given : Gives c role.Done (all_entries p gates stages) (always (bit (next_done p c)))
  done_given =
      both (no_moves p c role.Done refl (λ v. refl) (λ k. refl) refl)
      (both (no_loops p c role.Done gates stages (λ k. refl) (λ n. refl) refl)
      (both (both (no_states p c role.Done (λ i. refl) (λ i. refl)) (more (here _ refl) (more (not_here _ refl) (both (no_initial p c role.Done refl) (no_time p c role.Done refl)))))
      (no_named p c role.Done refl)))

  pub initial_given : (initial_cycles p == 0) ≡ false → Gives c role.Initial (all_entries p gates stages) (always (bit (next_initial p c)))
  initial_given some =
      both (no_moves p c role.Initial refl (λ v. refl) (λ k. refl) refl)
      (both (no_loops p c role.Initial gates stages (λ k. refl) (λ n. refl) refl)
      (both (both (no_states p c role.Initial (λ i. refl) (λ i. refl)) (more (not_here _ refl) (more (not_here _ refl) (both (initial_gives p c some) (no_time p c role.Initial refl)))))
      (no_named p c role.Initial refl)))

  pub time_given : (time_bits p == 0) ≡ false → Gives c role.Time (all_entries p gates stages) (always (next_time p c))
  time_given some =
      both (no_moves p c role.Time refl (λ v. refl) (λ k. refl) refl)
      (both (no_loops p c role.Time gates stages (λ k. refl) (λ n. refl) refl)
      (both (both (no_states p c role.Time (λ i. refl) (λ i. refl)) (more (not_here _ refl) (more (not_here _ refl) (both (no_initial p c role.Time refl) (time_gives p c some)))))
      (no_named p c role.Time refl)))

  pub active_given : (i : NodeId) (x : TimedNode) → slice_get p.program.nodes i.0 ≡ Some x → Gives c (role.Active i) (all_entries p gates stages) (always (bit (next_active p c i.0)))
  active_given i x at_ =
      both (no_moves p c (role.Active i) refl (λ v. refl) (λ k. refl) refl)
      (both (no_loops p c (role.Active i) gates stages (λ k. refl) (λ n. refl) refl)
      (both (both (actives_give p c i x at_) (no_rest p c (role.Active i) refl refl refl refl)) (no_named p c (role.Active i) refl)))

  pub load_given : (i : NodeId) (x : TimedNode) → slice_get p.program.nodes i.0 ≡ Some x → is_loop (Some x) ≡ true → Gives c (role.Load i) (all_entries p gates stages) (always (bit (next_load p c i.0)))
  load_given i x at_ loop =
      both (no_moves p c (role.Load i) refl (λ v. refl) (λ k. refl) refl)
      (both (no_loops p c (role.Load i) gates stages (λ k. refl) (λ n. refl) refl)
      (both (both (loads_gives p c i x at_ loop) (no_rest p c (role.Load i) refl refl refl refl)) (no_named p c (role.Load i) refl)))

  pub passed_given : (n : ℕ) → 1 ≤ n → n < 1 + stages → Gives c (role.Passed n) (all_entries p gates stages) (passed_write p c n ∷ [])
  passed_given n low high =
      both (no_moves p c (role.Passed n) refl (λ v. refl) (λ k. refl) refl)
      (both (both (no_gates p c (role.Passed n) gates (λ k. refl)) (both (passed_give p c stages n low high) (no_waited p c (role.Passed n) refl)))
      (both (both (no_states p c (role.Passed n) (λ i. refl) (λ i. refl)) (no_rest p c (role.Passed n) refl refl refl refl)) (no_named p c (role.Passed n) refl)))

  pub waited_given : (wait_bits p == 0) ≡ false → Gives c role.Waited (all_entries p gates stages) (waited_write p c ∷ [])
  waited_given some =
      both (no_moves p c role.Waited refl (λ v. refl) (λ k. refl) refl)
      (both (both (no_gates p c role.Waited gates (λ k. refl)) (both (no_passed p c role.Waited stages (λ k. refl)) (waited_gives p c some)))
      (both (both (no_states p c role.Waited (λ i. refl) (λ i. refl)) (no_rest p c role.Waited refl refl refl refl)) (no_named p c role.Waited refl)))

  pub named_given : nat_lt 1 (length (host_arrays p)) ≡ true → Gives c role.Named (all_entries p gates stages) (always (select_of c.pins % 2 ^ named_bits p))
  named_given some =
      both (no_moves p c role.Named refl (λ v. refl) (λ k. refl) refl)
      (both (no_loops p c role.Named gates stages (λ k. refl) (λ n. refl) refl)
      (both (both (no_states p c role.Named (λ i. refl) (λ i. refl)) (no_rest p c role.Named refl refl refl refl)) (named_gives p c some)))

  pub variable_given : (v : VarId) → Gives c (role.Variable v) (all_entries p gates stages) (variable_writes p c v.0)
  variable_given v =
      alike
      (both (both (no_exits p c (role.Variable v) refl) (both (beginnings_give p c v) (both (no_places p c (role.Variable v) (λ k. refl)) (ends_give p c v))))
      (both (no_loops p c (role.Variable v) gates stages (λ k. refl) (λ n. refl) refl)
      (both (both (no_states p c (role.Variable v) (λ i. refl) (λ i. refl)) (no_rest p c (role.Variable v) refl refl refl refl)) (no_named p c (role.Variable v) refl))))
      (append-nil _ ∙ append_assoc (argument_writes p c v.0) (kept_writes p c v.0) (flat_map (out_writes p c v.0) (numbered p)))

  pub value_given : (k : ℕ) → Gives c (role.Value k) (all_entries p gates stages) (value_writes p c k)
  value_given k =
      alike
      (both (both (no_exits p c (role.Value k) refl) (both (no_beginnings p c (role.Value k) (λ v. refl)) (both (places_give p c k) (no_ends p c (role.Value k) (λ v. refl) refl))))
      (both (no_loops p c (role.Value k) gates stages (λ k. refl) (λ n. refl) refl)
      (both (both (no_states p c (role.Value k) (λ i. refl) (λ i. refl)) (no_rest p c (role.Value k) refl refl refl refl)) (no_named p c (role.Value k) refl))))
      (append-nil _ ∙ append-nil _)

  pub result_given : Gives c role.Result (all_entries p gates stages) (result_writes p c)
  result_given =
      alike
      (both (both (no_exits p c role.Result refl) (both (no_beginnings p c role.Result (λ v. refl)) (both (no_places p c role.Result (λ k. refl)) (result_gives p c))))
      (both (no_loops p c role.Result gates stages (λ k. refl) (λ n. refl) refl)
      (both (both (no_states p c role.Result (λ i. refl) (λ i. refl)) (no_rest p c role.Result refl refl refl refl)) (no_named p c role.Result refl))))
      (append-nil _)

  pub unit_given : (r : UnitRegister) → Gives c (role.OfUnit r) (all_entries p gates stages) []
  unit_given r =
      both (no_moves p c (role.OfUnit r) refl (λ v. refl) (λ k. refl) refl)
      (both (no_loops p c (role.OfUnit r) gates stages (λ k. refl) (λ n. refl) refl)
      (both (both (no_states p c (role.OfUnit r) (λ i. refl) (λ i. refl)) (no_rest p c (role.OfUnit r) refl refl refl refl)) (no_named p c (role.OfUnit r) refl)))

module _ (p : Plan) (stages : ℕ) (c : Cycle) where
  -- gates, of which there are some
  pub gate_given : (gates k : ℕ) → k < suc gates → Gives c (role.Gate k) (all_entries p (suc gates) stages) (gate_writes p c k)
  gate_given gates zero lt =
      alike
      (both (both (exits_give p c) (both (no_beginnings p c (role.Gate 0) (λ v. refl)) (both (no_places p c (role.Gate 0) (λ k. refl)) (no_ends p c (role.Gate 0) (λ v. refl) refl))))
      (both (both (first_gate_gives p c gates) (both (no_passed p c (role.Gate 0) stages (λ k. refl)) (no_waited p c (role.Gate 0) refl)))
      (both (both (no_states p c (role.Gate 0) (λ i. refl) (λ i. refl)) (no_rest p c (role.Gate 0) refl refl refl refl)) (no_named p c (role.Gate 0) refl))))
      (ap (λ l. l ++ where_ (is_loading p c) 1 ∷ []) (append-nil (flat_map (gate_write p c) (numbered p))))
  gate_given gates (suc k) lt =
      both (no_moves p c (role.Gate (suc k)) (ne_eqb (suc k) 0 (λ s. absurd (omega (arith, s)))) (λ v. refl) (λ k. refl) refl)
      (both (both (next_gate_gives p c gates k (omega (arith, lt))) (both (no_passed p c (role.Gate (suc k)) stages (λ k. refl)) (no_waited p c (role.Gate (suc k)) refl)))
      (both (both (no_states p c (role.Gate (suc k)) (λ i. refl) (λ i. refl)) (no_rest p c (role.Gate (suc k)) refl refl refl refl)) (no_named p c (role.Gate (suc k)) refl)))
