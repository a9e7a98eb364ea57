-- The registers that a circuit has are those that its list has.
use Rattle.std.proofs.Common.{◌≡◌, ℕ, ◌+◌, Bool, true, false, List, [], ◌∷◌, ◌++◌, map, flat_map, length, Some, refl, sym, ap, ◌∙◌, subst, true≢false, arith}
use Rattle.std.specs.Prelude.{slice_get, nat_lt}
use Rattle.std.specs.List.{range_with_len}
use Rattle.reg_binding.specs.Pools.{Has}
use Rattle.reg_binding.proofs.Members.{at_first, at_later}
use Rattle.clock_ir.specs.ClockRuns.{TimedNode}
use Rattle.datapath.specs.Plans.{Plan, numbered, initial_cycles, host_arrays}
use Rattle.datapath.specs.Cycles as c
use Rattle.datapath.specs.Cycles.{Register}
use Rattle.datapath.specs.Control.{is_loop, time_bits, wait_bits}
use Rattle.datapath.specs.Ports.{port_count}
use Rattle.circuit_context.specs.declared.wanted.role.Role.{Role}
use Rattle.circuit_context.specs.declared.wanted.role.Role.TheVariants as role
use Rattle.circuit_context.specs.declared.wanted.role.UnitRegister.{UnitRegister}
use Rattle.circuit_context.specs.declared.wanted.role.UnitRegister.TheVariants as of_unit
use Rattle.circuit_context.specs.Wanted.Roles.{named, named_of_unit}
use Rattle.circuit_context.specs.Wanted.Entries.{roles_if, node_of, variable_of, node_roles, word_roles, control_roles, loop_roles, value_roles, port_roles, all_roles}
use Rattle.fsm_datapath.specs.LoggedWrites.Roles.{HasRegister}
use Rattle.fsm_datapath.proofs.LoggedWrites.Members.{Each, each_none, each_more, each_both, each_map, each_flat, each_range, each_numbered, in_left, in_right, in_flat, in_map, from_map, in_range, in_numbered}

pub no_unit : (p : Plan) (gates stages : ℕ) (r : UnitRegister) → HasRegister p gates stages (named_of_unit r) → ⊥
no_unit p gates stages (of_unit.Left bits n) h = h
no_unit p gates stages (of_unit.Right bits n) h = h
no_unit p gates stages (of_unit.Product bits n) h = h
no_unit p gates stages (of_unit.Steps bits n) h = h
no_unit p gates stages (of_unit.Dividend bits n) h = h
no_unit p gates stages (of_unit.Remainder bits n) h = h
no_unit p gates stages (of_unit.Divisor bits n) h = h
no_unit p gates stages (of_unit.QuotientSign bits n) h = h
no_unit p gates stages (of_unit.RemainderSign bits n) h = h

module _ (p : Plan) (gates stages : ℕ) where
  abbrev Are : List Role → Type 0
  Are = Each (λ (r : Role). HasRegister p gates stages (named r))

  are_if : (b : Bool) (r : Role) → (b ≡ true → HasRegister p gates stages (named r)) → Are (roles_if b r)
  are_if true r h = each_more (h refl) each_none
  are_if false r h = each_none

  control_are : Are (control_roles p)
  control_are =
      each_more tt
      (each_more tt
      (each_both (are_if (nat_lt 0 (initial_cycles p)) role.Initial (λ e. e))
      (each_both (are_if (nat_lt 0 (time_bits p)) role.Time (λ e. e))
      (each_flat node_roles (numbered p) (record { all = λ n has. at_node n ((each_numbered 0 p.program.nodes).all n has) })))))
    where
      at_node : (n : ℕ × TimedNode) → (j : ℕ) × ((n.0 ≡ 0 + j) × (slice_get p.program.nodes j ≡ Some n.1)) → Are (node_roles n)
      at_node n h =
          let at_ : slice_get p.program.nodes n.0 ≡ Some n.1 = (let same : n.0 ≡ h.0 = omega (arith, h.1.0) in ap (slice_get p.program.nodes) same ∙ h.1.1) in
          each_more (n.1, at_) (are_if (is_loop (Some n.1)) (role.Load (node_of n.0)) (λ e. (n.1, (at_, e))))

  loops_are : Are (loop_roles p gates stages)
  loops_are =
      each_both (each_map role.Gate (range_with_len 0 gates) (record { all = λ m has. let h = (each_range 0 gates).all m has in omega (arith, h.1) }))
      (each_both (each_map role.Passed (range_with_len 1 stages) (each_range 1 stages)) (are_if (nat_lt 0 (wait_bits p)) role.Waited (λ e. e)))

  values_are : Are (value_roles p)
  values_are =
      each_both (each_map _ (range_with_len 0 (length p.program.shapes.widths)) (record { all = λ m has. let h = (each_range 0 (length p.program.shapes.widths)).all m has in omega (arith, h.1) }))
      (each_both (each_map role.Value (range_with_len 0 (length p.widths)) (record { all = λ m has. let h = (each_range 0 (length p.widths)).all m has in omega (arith, h.1) }))
      (are_if (nat_lt 0 p.result) role.Result (λ e. e)))

  ports_are : Are (port_roles p)
  ports_are =
      each_both
      (each_flat (word_roles p) (range_with_len 0 (length p.arrays)) (record {
        all = λ a has.
            let h = (each_range 0 (length p.arrays)).all a has in
            each_map _ (range_with_len 0 (port_count p a)) (record { all = λ n has. let g = (each_range 0 (port_count p a)).all n has in (omega (arith, h.1), omega (arith, g.1)) });
      }))
      (are_if (nat_lt 1 (length (host_arrays p))) role.Named (λ e. e))

  pub roles_are : Are (all_roles p gates stages)
  roles_are = each_both control_are (each_both loops_are (each_both values_are ports_are))

  -- ---- and the other way

  in_if : (b : Bool) (r : Role) → b ≡ true → Has (roles_if b r) r
  in_if true r e = at_first r []
  in_if false r e = absurd (true≢false (sym e))

  abbrev Listed : Role → Type 0
  Listed r = Has (all_roles p gates stages) r

  in_control : (r : Role) → Has (control_roles p) r → Listed r
  in_control r h = in_left (control_roles p) _ r h

  abbrev rest_roles : List Role
  rest_roles = roles_if (nat_lt 0 (initial_cycles p)) role.Initial ++ (roles_if (nat_lt 0 (time_bits p)) role.Time ++ flat_map node_roles (numbered p))

  in_rest : (r : Role) → Has rest_roles r → Listed r
  in_rest r h = in_control r (at_later role.Ready (role.Done ∷ rest_roles) r (at_later role.Done rest_roles r h))

  in_loops : (r : Role) → Has (loop_roles p gates stages) r → Listed r
  in_loops r h = in_right (control_roles p) _ r (in_left (loop_roles p gates stages) _ r h)

  in_values : (r : Role) → Has (value_roles p) r → Listed r
  in_values r h = in_right (control_roles p) _ r (in_right (loop_roles p gates stages) _ r (in_left (value_roles p) _ r h))

  in_ports : (r : Role) → Has (port_roles p) r → Listed r
  in_ports r h = in_right (control_roles p) _ r (in_right (loop_roles p gates stages) _ r (in_right (value_roles p) _ r h))

  in_nodes : (r : Role) (n : ℕ × TimedNode) → slice_get p.program.nodes n.0 ≡ Some n.1 → Has (node_roles n) r → Listed r
  in_nodes r n at_ h =
      let same : 0 + n.0 ≡ n.0 = omega arith in
      in_rest r (in_right (roles_if (nat_lt 0 (initial_cycles p)) role.Initial) _ r (in_right (roles_if (nat_lt 0 (time_bits p)) role.Time) _ r
      (in_flat node_roles (numbered p) n r (subst (λ (m : ℕ). Has (numbered p) (m, n.1)) same (in_numbered 0 n.0 p.program.nodes n.1 at_)) h)))

  pub listed : (r : Role) → HasRegister p gates stages (named r) → Listed r
  listed role.Ready h = in_control role.Ready (at_first role.Ready (role.Done ∷ rest_roles))
  listed role.Done h = in_control role.Done (at_later role.Ready (role.Done ∷ rest_roles) role.Done (at_first role.Done rest_roles))
  listed role.Initial h = in_rest role.Initial (in_left (roles_if (nat_lt 0 (initial_cycles p)) role.Initial) _ _ (in_if _ role.Initial h))
  listed role.Time h =
      in_rest role.Time (in_right (roles_if (nat_lt 0 (initial_cycles p)) role.Initial) _ _ (in_left (roles_if (nat_lt 0 (time_bits p)) role.Time) _ _ (in_if _ role.Time h)))
  listed (role.Active i) h = in_nodes (role.Active i) (i.0, h.0) h.1 (at_first (role.Active i) _)
  listed (role.Load i) h = in_nodes (role.Load i) (i.0, h.0) h.1.0 (at_later (role.Active i) (roles_if (is_loop (Some h.0)) (role.Load i)) (role.Load i) (in_if _ (role.Load i) h.1.1))
  listed (role.Gate k) h = in_loops (role.Gate k) (in_left (map role.Gate (range_with_len 0 gates)) _ _ (in_map role.Gate _ k (in_range 0 gates k (omega arith) (omega (arith, h)))))
  listed (role.Passed n) h =
      in_loops (role.Passed n) (in_right (map role.Gate (range_with_len 0 gates)) _ _ (in_left (map role.Passed (range_with_len 1 stages)) _ _ (in_map role.Passed _ n (in_range 1 stages n h.0 h.1))))
  listed role.Waited h =
      in_loops role.Waited (in_right (map role.Gate (range_with_len 0 gates)) _ _ (in_right (map role.Passed (range_with_len 1 stages)) _ _ (in_if _ role.Waited h)))
  listed (role.Variable v) h =
      in_values (role.Variable v) (in_left _ _ _ (in_map (λ (v : ℕ). role.Variable (variable_of v)) _ v.0 (in_range 0 (length p.program.shapes.widths) v.0 (omega arith) (omega (arith, h)))))
  listed (role.Value k) h =
      in_values (role.Value k) (in_right (map (λ (v : ℕ). role.Variable (variable_of v)) (range_with_len 0 (length p.program.shapes.widths))) _ _
      (in_left _ _ _ (in_map role.Value _ k (in_range 0 (length p.widths) k (omega arith) (omega (arith, h))))))
  listed role.Result h =
      in_values role.Result (in_right (map (λ (v : ℕ). role.Variable (variable_of v)) (range_with_len 0 (length p.program.shapes.widths))) _ _
      (in_right (map role.Value (range_with_len 0 (length p.widths))) _ _ (in_if _ role.Result h)))
  listed (role.Word a n) h =
      in_ports (role.Word a n) (in_left (flat_map (word_roles p) (range_with_len 0 (length p.arrays))) _ _
      (in_flat (word_roles p) (range_with_len 0 (length p.arrays)) a.0 _ (in_range 0 (length p.arrays) a.0 (omega arith) (omega (arith, h.0)))
      (in_map (λ (n : ℕ). role.Word (record { 0 = a.0 }) n) (range_with_len 0 (port_count p a.0)) n (in_range 0 (port_count p a.0) n (omega arith) (omega (arith, h.1))))))
  listed role.Named h = in_ports role.Named (in_right (flat_map (word_roles p) (range_with_len 0 (length p.arrays))) _ _ (in_if _ role.Named h))
  listed (role.OfUnit r) h = absurd (no_unit p gates stages r h)

  -- ---- their names

  abbrev IsNamed : Register → Type 0
  IsNamed r = Has (map named (all_roles p gates stages)) r

  by_role : (r : Role) → HasRegister p gates stages (named r) → IsNamed (named r)
  by_role r h = in_map named (all_roles p gates stages) r (listed r h)

  pub in_names : (r : Register) → HasRegister p gates stages r → IsNamed r
  in_names c.Ready h = by_role role.Ready h
  in_names c.Done h = by_role role.Done h
  in_names c.Initial h = by_role role.Initial h
  in_names c.Time h = by_role role.Time h
  in_names (c.Active i) h = by_role (role.Active (node_of i)) h
  in_names (c.Load i) h = by_role (role.Load (node_of i)) h
  in_names (c.Gate k) h = by_role (role.Gate k) h
  in_names (c.Passed n) h = by_role (role.Passed n) h
  in_names c.Waited h = by_role role.Waited h
  in_names (c.Variable v) h = by_role (role.Variable (variable_of v)) h
  in_names (c.Value k) h = by_role (role.Value k) h
  in_names c.Result h = by_role role.Result h
  in_names (c.Word a n) h = by_role (role.Word (record { 0 = a }) n) h
  in_names c.Named h = by_role role.Named h
  in_names (c.Left bits n) h = absurd h
  in_names (c.Right bits n) h = absurd h
  in_names (c.Product bits n) h = absurd h
  in_names (c.Steps bits n) h = absurd h
  in_names (c.Dividend bits n) h = absurd h
  in_names (c.Remainder bits n) h = absurd h
  in_names (c.Divisor bits n) h = absurd h
  in_names (c.QuotientSign bits n) h = absurd h
  in_names (c.RemainderSign bits n) h = absurd h

  pub from_names : (r : Register) → IsNamed r → HasRegister p gates stages r
  from_names r h = (let m = from_map named (all_roles p gates stages) r h in subst (HasRegister p gates stages) (sym m.1.1) (roles_are.all m.0 m.1.0))
