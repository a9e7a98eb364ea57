-- Registers for which a part of the entries wants nothing.
use Rattle.std.proofs.Common.{◌≡◌, ℕ, zero, suc, ◌==◌, false, List, [], ◌∷◌, ◌++◌, filter, flat_map, length, Option, Some, None, refl}
use Rattle.std.specs.Prelude.{slice_get, nat_lt}
use Rattle.std.specs.List.{enumerate_from, range_with_len}
use Rattle.hls_base.specs.declared.number.NodeId.{NodeId}
use Rattle.hls_base.specs.declared.number.VarId.{VarId}
use Rattle.ir_core.specs.declared.body.Operand.{Operand}
use Rattle.ir_core.specs.declared.body.Out.{Out}
use Rattle.ir_core.specs.declared.cfg.End.TheVariants as end
use Rattle.reg_binding.specs.declared.registers.Held.{Held}
use Rattle.clock_ir.specs.ClockRuns.{TimedNode, block, overlapped}
use Rattle.datapath.specs.Plans.{Plan, body_of, numbered, initial_cycles, host_arrays}
use Rattle.datapath.specs.Cycles.{Cycle}
use Rattle.datapath.specs.Control.{is_loop, time_bits, wait_bits}
use Rattle.datapath.specs.Values.{entry_of}
use Rattle.circuit_context.specs.declared.wanted.role.Role.{Role}
use Rattle.circuit_context.specs.declared.wanted.role.Role.TheVariants as role
use Rattle.circuit_context.specs.declared.wanted.role.Target.TheVariants as t
use Rattle.circuit_context.specs.Wanted.Roles.{same_role}
use Rattle.circuit_context.specs.Wanted.Entries.{Entry, node_of, exit_entries, all_exits, parameter_entry, kept_entry, all_beginnings, load_entries, held_entries, all_places, out_entry, out_entries, ordered_ways, ways_as, end_entries, all_ends, gate_entries, passed_entries, waited_entries, initial_entries, time_entries, state_entries, named_entries}
use Rattle.fsm_datapath.proofs.LoggedWrites.Wanted.{Wants, not_here, none, more, both, if_none, flat_nothing, mapped_nothing}

-- for the register is wanted nothing
abbrev pub Lacks : Cycle → Role → List Entry → Type 0
Lacks c r es = Wants c (t.Register r) es []

module _ (p : Plan) (c : Cycle) (r : Role) where
  pub no_exits : same_role r (role.Gate 0) ≡ false → Lacks c r (all_exits p)
  no_exits apart = flat_nothing (exit_entries p) (numbered p) at_node
    where
      at_node : (n : ℕ × TimedNode) → Lacks c r (exit_entries p n)
      at_node (i, block body end_) = none
      at_node (i, overlapped body exit next) = more (not_here _ refl) (not_here _ apart)

  pub no_beginnings : ((v : VarId) → same_role r (role.Variable v) ≡ false) → Lacks c r (all_beginnings p)
  no_beginnings apart =
      more (not_here _ refl)
      (both (mapped_nothing parameter_entry (enumerate_from 0 p.parameters) (λ x. apart x.1)) (mapped_nothing kept_entry p.kept (λ k. apart k.variable)))

  pub no_places : ((k : ℕ) → same_role r (role.Value k) ≡ false) → Lacks c r (all_places p)
  no_places apart = flat_nothing (held_entries p) p.held at_place
    where
      no_loads : (h : Held) (v : Option ℕ) → Lacks c r (load_entries h v)
      no_loads h None = none
      no_loads h (Some v) = if_none (h.place == 0) (not_here _ (apart h.register)) none

      at_place : (h : Held) → Lacks c r (held_entries p h)
      at_place h =
          if_none (is_loop (slice_get p.program.nodes h.node.0)) (both (no_loads h (entry_of p h)) (not_here _ (apart h.register))) (not_here _ (apart h.register))

  -- where control goes is for no register
  pub no_ways : (n : ℕ × TimedNode) (before cases : List (Operand × NodeId)) (other : NodeId) → Lacks c r (ordered_ways p n before cases other)
  no_ways n before [] other = not_here _ refl
  no_ways n before (case ∷ cases) other = more (not_here _ refl) (no_ways n (before ++ case ∷ []) cases other)

  pub no_outs : ((v : VarId) → same_role r (role.Variable v) ≡ false) → (n : ℕ × TimedNode) → Lacks c r (out_entries p n)
  no_outs apart n = mapped_nothing (out_entry p n) (filter (λ (x : Out). p.savings.behind n.0 x.variable.0) (body_of n.1).outs) (λ x. apart x.variable)

  pub no_results : same_role r role.Result ≡ false → (n : ℕ × TimedNode) (e : TimedNode) → Lacks c r (ways_as p n e)
  no_results apart n (overlapped body exit next) = not_here _ refl
  no_results apart n (block body (end.Jump next)) = not_here _ refl
  no_results apart n (block body (end.Branch test left right)) = more (not_here _ refl) (not_here _ refl)
  no_results apart n (block body (end.Choose cases other)) =
      if_none (p.savings.exclusive n.0) (both (mapped_nothing _ cases.items (λ case. refl)) (not_here _ refl)) (no_ways n [] cases.items other)
  no_results apart n (block body (end.Return None)) = more (not_here _ refl) none
  no_results apart n (block body (end.Return (Some x))) = more (not_here _ refl) (not_here _ apart)

  pub no_ends : ((v : VarId) → same_role r (role.Variable v) ≡ false) → same_role r role.Result ≡ false → Lacks c r (all_ends p)
  no_ends apart also = flat_nothing (end_entries p) (numbered p) (λ n. both (no_outs apart n) (no_results also n n.1))

  pub no_gates : (gates : ℕ) → ((k : ℕ) → same_role r (role.Gate k) ≡ false) → Lacks c r (gate_entries p gates)
  no_gates zero apart = none
  no_gates (suc gates) apart = more (not_here _ (apart 0)) (mapped_nothing _ (range_with_len 1 gates) (λ k. apart k))

  pub no_passed : (stages : ℕ) → ((k : ℕ) → same_role r (role.Passed k) ≡ false) → Lacks c r (passed_entries p stages)
  no_passed stages apart = mapped_nothing _ (range_with_len 1 stages) (λ k. apart k)

  pub no_waited : same_role r role.Waited ≡ false → Lacks c r (waited_entries p)
  no_waited apart = if_none (wait_bits p == 0) none (not_here _ apart)

  pub no_states : ((i : NodeId) → same_role r (role.Load i) ≡ false) → ((i : NodeId) → same_role r (role.Active i) ≡ false) → Lacks c r (flat_map (state_entries p) (numbered p))
  no_states apart also = flat_nothing (state_entries p) (numbered p) (λ n. both (if_none (is_loop (Some n.1)) (not_here _ (apart (node_of n.0))) none) (not_here _ (also (node_of n.0))))

  pub no_initial : same_role r role.Initial ≡ false → Lacks c r (initial_entries p)
  no_initial apart = if_none (initial_cycles p == 0) none (not_here _ apart)

  pub no_time : same_role r role.Time ≡ false → Lacks c r (time_entries p)
  no_time apart = if_none (time_bits p == 0) none (not_here _ apart)

  pub no_named : same_role r role.Named ≡ false → Lacks c r (named_entries p)
  no_named apart = if_none (nat_lt 1 (length (host_arrays p))) (not_here _ apart) none
