-- Registers of units that a circuit does not have.
use Rattle.std.proofs.Common.{◌≡◌, ℕ, suc, ◌+◌, ◌-◌, ◌*◌, ◌%◌, ◌^◌, ◌<◌, ◌==◌, ◌||◌, ◌&&◌, Bool, true, false, cond, List, [], ◌∷◌, map, filter, Some, inl, inr, refl, sym, ap, ap₂, ◌∙◌, subst, true≢false, mod-lt, pow_pos, pow-suc, if◌then◌else◌, arith}
use Rattle.std.specs.List.{list_any, enumerate_from}
use Rattle.std.proofs.lemmas.Bool.{cases_Bool, and_parts, eqb-true}
use Rattle.ir_core.specs.declared.body.OpKind.{OpKind}
use Rattle.ir_core.specs.declared.body.OpKind.TheVariants as o
use Rattle.ir_core.specs.declared.timing.UnitClass.TheVariants as u
use Rattle.reg_binding.specs.Pools.{Has}
use Rattle.reg_binding.proofs.Members.{at_first, at_later}
use Rattle.rtl_logic.specs.Choosing.{where_}
use Rattle.datapath.specs.Plans.{Plan, Placed, all_ops, unit_of}
use Rattle.datapath.specs.Cycles.{Register, Left, Right, Signal, LeftOf, RightOf, AddressOf, StoredOf, Cycle}
use Rattle.datapath.specs.Units.{is_of_class, is_dividing}
use Rattle.circuit_context.specs.declared.wanted.role.UnitKind.{UnitKind}
use Rattle.circuit_context.specs.declared.wanted.role.UnitKind.TheVariants as kind
use Rattle.circuit_context.specs.declared.wanted.role.SharedUnit.{SharedUnit}
use Rattle.circuit_context.specs.Wanted.Roles.{class_as}
use Rattle.circuit_context.specs.Wanted.Entries.{unit_at}
use Rattle.circuit_context.specs.Wanted.Driving.{Seen, IsUnseen}
use Rattle.circuit_units.specs.declared.units.units.UnitWires.{UnitWires}
use Rattle.circuit_units.specs.declared.units.units.UnitTable.{UnitTable}
use Rattle.circuit_units.specs.Units.{registers_as, sign_registers, unit_registers, unit_signals, registers_of, used_as, AreUnitsOf}
use Rattle.circuit_units.specs.declared.memories.memories.PortTable.{PortTable}
use Rattle.circuit_units.specs.Memories.{port_signals, array_signals, signals_of as port_signals_of}
use Rattle.fsm_datapath.specs.LoggedWrites.Roles.{IsOfUnit}
use Rattle.fsm_datapath.specs.LoggedWrites.Parts.{all_signals}
use Rattle.fsm_datapath.proofs.LoggedWrites.Members.{Each, each_none, each_more, each_both, each_flat, in_flat, from_map}
use Rattle.fsm_datapath.proofs.LoggedWrites.Taking.{Fitting}

-- ---- the registers of units are of units

signs_of : (b : Bool) (bits n : ℕ) → Each IsOfUnit (sign_registers b bits n)
signs_of true bits n = each_more tt (each_more tt each_none)
signs_of false bits n = each_none

each_as : (p : Plan) (k : UnitKind) (bits n : ℕ) → Each IsOfUnit (registers_as p k bits n)
each_as p kind.Multiplier bits n = each_more tt (each_more tt (each_more tt each_none))
each_as p kind.Divider bits n = each_more tt (each_more tt (each_more tt (each_more tt (signs_of _ bits n))))

pub all_of_units : (p : Plan) (units : UnitTable) → Each IsOfUnit (registers_of p units)
all_of_units p units = each_flat (λ (w : UnitWires). unit_registers p w.unit) units.wires.items (record { all = λ w has. each_as p w.unit.kind w.unit.bits w.unit.number })

-- ---- signals that are unseen

-- what no signal of the list is
abbrev pub Lacks : List Seen → Signal → Type 0
Lacks sigs signal = Each (λ (x : Seen). x.0 ≡ signal → ⊥) sigs

pub unseen : (sigs : List Seen) (signal : Signal) → Lacks sigs signal → IsUnseen sigs signal
unseen sigs signal h k a e = h.all (signal, a) (k, e) refl

ports_lack : (ports : PortTable) (signal : Signal) → ((a n : ℕ) → AddressOf a n ≡ signal → ⊥) → ((a n : ℕ) → StoredOf a n ≡ signal → ⊥) → Lacks (port_signals_of ports) signal
ports_lack ports signal h g =
    each_flat array_signals (enumerate_from 0 (map (λ ports. ports.items) ports.ports.items)) (record {
      all = λ a has.
          each_flat (port_signals a.0) (enumerate_from 0 a.1) (record { all = λ n there. each_more (h a.0 n.0) (each_more (g a.0 n.0) each_none) });
    })

left_there : (p : Plan) (k : UnitKind) (b m bits n : ℕ) → LeftOf (class_as k b) m ≡ LeftOf (u.Multiplier bits) n → Has (registers_as p k b m) (Left bits n)
left_there p kind.Multiplier b m bits n e = (0, ap₂ (λ (x : ℕ) (y : ℕ). Some (Left x y)) (cc) (cc))
left_there p kind.Divider b m bits n e = absurd (cc)

right_there : (p : Plan) (k : UnitKind) (b m bits n : ℕ) → RightOf (class_as k b) m ≡ RightOf (u.Multiplier bits) n → Has (registers_as p k b m) (Right bits n)
right_there p kind.Multiplier b m bits n e = (1, ap₂ (λ (x : ℕ) (y : ℕ). Some (Right x y)) (cc) (cc))
right_there p kind.Divider b m bits n e = absurd (cc)

module _ (p : Plan) (units : UnitTable) where
  -- a register of a unit that there is
  of_unit_there : (w : UnitWires) (r : Register) → Has units.wires.items w → Has (unit_registers p w.unit) r → Has (registers_of p units) r
  of_unit_there w r has there = in_flat (λ (w : UnitWires). unit_registers p w.unit) units.wires.items w r has there

  pub left_unseen : (ports : PortTable) (bits n : ℕ) → (Has (registers_of p units) (Left bits n) → ⊥) → IsUnseen (all_signals units ports) (LeftOf (u.Multiplier bits) n)
  left_unseen ports bits n h =
      unseen (all_signals units ports) (LeftOf (u.Multiplier bits) n)
      (each_both
      (each_flat unit_signals units.wires.items (record {
        all = λ w has.
            each_more (λ e. h (of_unit_there w (Left bits n) has (left_there p w.unit.kind w.unit.bits w.unit.number bits n e))) (each_more (λ e. cc) (each_more (λ e. cc) each_none));
      }))
      (ports_lack ports (LeftOf (u.Multiplier bits) n) (λ a m e. cc) (λ a m e. cc)))

  pub right_unseen : (ports : PortTable) (bits n : ℕ) → (Has (registers_of p units) (Right bits n) → ⊥) → IsUnseen (all_signals units ports) (RightOf (u.Multiplier bits) n)
  right_unseen ports bits n h =
      unseen (all_signals units ports) (RightOf (u.Multiplier bits) n)
      (each_both
      (each_flat unit_signals units.wires.items (record {
        all = λ w has.
            each_more (λ e. cc) (each_more (λ e. h (of_unit_there w (Right bits n) has (right_there p w.unit.kind w.unit.bits w.unit.number bits n e))) (each_more (λ e. cc) each_none));
      }))
      (ports_lack ports (RightOf (u.Multiplier bits) n) (λ a m e. cc) (λ a m e. cc)))

  -- ---- dividers without users

  filter_none : {A : Type 0} (test : A → Bool) (xs : List A) → ((x : A) → Has xs x → test x ≡ true → ⊥) → filter test xs ≡ []
  filter_none test [] h = refl
  filter_none test (x ∷ xs) h =
      elim (cases_Bool (test x)) [
        | inl yes_ ↦ absurd (h x (at_first x xs) yes_)
        | inr no_ ↦ ap (λ b. cond b (x ∷ filter test xs) (filter test xs)) no_ ∙ filter_none test xs (λ y has. h y (at_later x xs y has))
      ]

  divider_used : (x : Placed) (k : OpKind) (bits b : ℕ) → is_of_class (u.Divider bits) k b ≡ true → (used_as p k x ≡ Some (unit_at p kind.Divider x)) × (bits ≡ b)
  divider_used x o.Div bits b e = (refl, eqb-true bits b e)
  divider_used x o.Rem bits b e = (refl, eqb-true bits b e)
  divider_used x k bits b e = absurd (true≢false (sym e))

  -- where a register of each divider is missing
  pub no_division : AreUnitsOf p (map (λ (w : UnitWires). w.unit) units.wires.items) → (f : ℕ → ℕ → Register) → ((b m : ℕ) → Has (registers_as p kind.Divider b m) (f b m))
      → (bits n : ℕ) → (Has (registers_of p units) (f bits n) → ⊥) → (c : Cycle) → is_dividing p c bits n ≡ false
  no_division are f in_ bits n h c = ap (list_any _) (filter_none _ (all_ops p) at_op)
    where
      at_op : (x : Placed) → Has (all_ops p) x → (is_of_class (u.Divider bits) x.op.op.kind x.op.op.bits && (unit_of p x == n)) ≡ true → ⊥
      at_op x has e =
          let both = and_parts (is_of_class (u.Divider bits) x.op.op.kind x.op.op.bits) (unit_of p x == n) e in
          let used = divider_used x x.op.op.kind bits x.op.op.bits both.0 in
          let listed = are.all has.0 x (unit_at p kind.Divider x) has.1 used.0 in
          let w = from_map (λ (w : UnitWires). w.unit) units.wires.items (unit_at p kind.Divider x) listed in
          let there : Has (unit_registers p (unit_at p kind.Divider x)) (f bits n) =
          subst (λ (m : ℕ). Has (registers_as p kind.Divider x.op.op.bits (unit_of p x)) (f bits m)) (eqb-true (unit_of p x) n both.1)
          (subst (λ (b : ℕ). Has (registers_as p kind.Divider x.op.op.bits (unit_of p x)) (f b (unit_of p x))) (sym used.1) (in_ x.op.op.bits (unit_of p x))) in
          h (of_unit_there w.0 (f bits n) w.1.0 (subst (λ (unit : SharedUnit). Has (unit_registers p unit) (f bits n)) w.1.1 there))

-- ---- what fits

-- no division begins
pub fitting_division : (bits : ℕ) (begins running : Bool) (first next : ℕ) → begins ≡ false → (running ≡ true → next < 2 ^ bits)
    → Fitting bits (where_ (begins || running) (if begins then first else next) ∷ [])
fitting_division bits true running first next e h = absurd (true≢false e)
fitting_division bits false running first next e h = (h, tt)

pub doubled_fits : (bits x y : ℕ) → 0 < bits → y < 2 → x % 2 ^ (bits - 1) * 2 + y < 2 ^ bits
doubled_fits bits x y some small =
    let same : bits ≡ suc (bits - 1) = omega (arith, some) in
    let less : x % 2 ^ (bits - 1) < 2 ^ (bits - 1) = mod-lt x (pow_pos (bits - 1)) in
    let power : 2 ^ bits ≡ 2 ^ (bits - 1) * 2 = ap (λ n. 2 ^ n) same ∙ pow-suc 2 (bits - 1) in
    omega (arith, less, power, small)
