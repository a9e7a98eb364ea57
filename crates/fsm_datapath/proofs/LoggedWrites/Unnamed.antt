-- For registers that a circuit does not have nothing is logged.
use Rattle.std.proofs.Common.{◌≡◌, ℕ, true, ◌==◌, ◌⊎◌, List, [], ◌∷◌, ◌++◌, map, inl, inr, refl, sym, ap, ap₂, ◌∙◌, subst, true≢false}
use Rattle.std.proofs.lemmas.Bool.{cases_Bool, and_parts, eqb-true}
use Rattle.reg_binding.specs.Pools.{Has}
use Rattle.reg_binding.proofs.Members.{at_first, at_later}
use Rattle.datapath.specs.Plans.{Plan}
use Rattle.datapath.specs.Cycles as reg
use Rattle.datapath.specs.Cycles.{Register, Cycle}
use Rattle.datapath.specs.Circuits.{register_writes}
use Rattle.circuit_context.specs.declared.wanted.role.Role.{Role}
use Rattle.circuit_context.specs.declared.wanted.role.Role.TheVariants as role
use Rattle.circuit_context.specs.declared.wanted.role.UnitRegister.{UnitRegister}
use Rattle.circuit_context.specs.declared.wanted.role.UnitRegister.TheVariants as of_unit
use Rattle.circuit_context.specs.declared.wanted.role.Target.{Target}
use Rattle.circuit_context.specs.declared.wanted.role.Target.TheVariants as t
use Rattle.circuit_context.specs.Wanted.Roles.{same_role, same_unit_register, same_target, named, named_of_unit}
use Rattle.circuit_context.specs.Wanted.Entries.{Entry, variable_of, all_roles, all_entries}
use Rattle.circuit_context.specs.Wanted.Logs.{IsThere}
use Rattle.circuit_context.specs.Wanted.Driving.{IsUnnamed}
use Rattle.fsm_datapath.specs.LoggedWrites.Wanted.{wanted_of}
use Rattle.fsm_datapath.specs.LoggedWrites.Roles.{HasRegister, IsOfUnit, IsOfValue, AreAllThere, names_with}
use Rattle.fsm_datapath.specs.LoggedWrites.{LoggedNowhereElse, UnnamedAreGivenNothing}
use Rattle.fsm_datapath.proofs.LoggedWrites.Members.{in_left, in_either}
use Rattle.fsm_datapath.proofs.LoggedWrites.Wanted.{wanted_first, wanted_not}
use Rattle.fsm_datapath.proofs.LoggedWrites.Registers.{variable_given, value_given, result_given, unit_given}
use Rattle.fsm_datapath.proofs.LoggedWrites.Roles.{roles_are, listed, from_names, in_names}

-- registers that are the same have one name
same_unit_name : (r s : UnitRegister) → same_unit_register r s ≡ true → named_of_unit r ≡ named_of_unit s
same_unit_name (of_unit.Left b n) (of_unit.Left d m) e = (let both = and_parts (b == d) (n == m) e in ap₂ reg.Left (eqb-true b d both.0) (eqb-true n m both.1))
same_unit_name (of_unit.Right b n) (of_unit.Right d m) e = (let both = and_parts (b == d) (n == m) e in ap₂ reg.Right (eqb-true b d both.0) (eqb-true n m both.1))
same_unit_name (of_unit.Product b n) (of_unit.Product d m) e = (let both = and_parts (b == d) (n == m) e in ap₂ reg.Product (eqb-true b d both.0) (eqb-true n m both.1))
same_unit_name (of_unit.Steps b n) (of_unit.Steps d m) e = (let both = and_parts (b == d) (n == m) e in ap₂ reg.Steps (eqb-true b d both.0) (eqb-true n m both.1))
same_unit_name (of_unit.Dividend b n) (of_unit.Dividend d m) e = (let both = and_parts (b == d) (n == m) e in ap₂ reg.Dividend (eqb-true b d both.0) (eqb-true n m both.1))
same_unit_name (of_unit.Remainder b n) (of_unit.Remainder d m) e = (let both = and_parts (b == d) (n == m) e in ap₂ reg.Remainder (eqb-true b d both.0) (eqb-true n m both.1))
same_unit_name (of_unit.Divisor b n) (of_unit.Divisor d m) e = (let both = and_parts (b == d) (n == m) e in ap₂ reg.Divisor (eqb-true b d both.0) (eqb-true n m both.1))
same_unit_name (of_unit.QuotientSign b n) (of_unit.QuotientSign d m) e = (let both = and_parts (b == d) (n == m) e in ap₂ reg.QuotientSign (eqb-true b d both.0) (eqb-true n m both.1))
same_unit_name (of_unit.RemainderSign b n) (of_unit.RemainderSign d m) e = (let both = and_parts (b == d) (n == m) e in ap₂ reg.RemainderSign (eqb-true b d both.0) (eqb-true n m both.1))
same_unit_name r s e = absurd (true≢false (sym e))

same_name : (r s : Role) → same_role r s ≡ true → named r ≡ named s
same_name role.Ready role.Ready e = refl
same_name role.Done role.Done e = refl
same_name role.Initial role.Initial e = refl
same_name role.Time role.Time e = refl
same_name (role.Active i) (role.Active j) e = ap reg.Active (eqb-true i.0 j.0 e)
same_name (role.Load i) (role.Load j) e = ap reg.Load (eqb-true i.0 j.0 e)
same_name (role.Gate i) (role.Gate j) e = ap reg.Gate (eqb-true i j e)
same_name (role.Passed i) (role.Passed j) e = ap reg.Passed (eqb-true i j e)
same_name role.Waited role.Waited e = refl
same_name (role.Variable i) (role.Variable j) e = ap reg.Variable (eqb-true i.0 j.0 e)
same_name (role.Value i) (role.Value j) e = ap reg.Value (eqb-true i j e)
same_name role.Result role.Result e = refl
same_name role.Named role.Named e = refl
same_name (role.Word a n) (role.Word b m) e = (let both = and_parts (a.0 == b.0) (n == m) e in ap₂ reg.Word (eqb-true a.0 b.0 both.0) (eqb-true n m both.1))
same_name (role.OfUnit a) (role.OfUnit b) e = same_unit_name a b e
same_name r s e = absurd (true≢false (sym e))

-- a register that is not of a unit
of_no_unit : (r : Role) → IsOfUnit (named r) → (u : UnitRegister) × (r ≡ role.OfUnit u)
of_no_unit (role.OfUnit u) h = (u, refl)
of_no_unit role.Ready h = absurd h
of_no_unit role.Done h = absurd h
of_no_unit role.Initial h = absurd h
of_no_unit role.Time h = absurd h
of_no_unit (role.Active i) h = absurd h
of_no_unit (role.Load i) h = absurd h
of_no_unit (role.Gate k) h = absurd h
of_no_unit (role.Passed n) h = absurd h
of_no_unit role.Waited h = absurd h
of_no_unit (role.Variable v) h = absurd h
of_no_unit (role.Value k) h = absurd h
of_no_unit role.Result h = absurd h
of_no_unit (role.Word a n) h = absurd h
of_no_unit role.Named h = absurd h

nothing_wanted : (c : Cycle) (target : Target) (es : List Entry) → ((it : Entry) → Has es it → same_target target it.target ≡ true → wanted_of c target es ≡ []) → wanted_of c target es ≡ []
nothing_wanted c target es h = elim (none_or_some c target es) [ inl e ↦ e | inr some ↦ h some.0 some.1.0 some.1.1 ]
  where
    none_or_some : (c : Cycle) (target : Target) (es : List Entry) → (wanted_of c target es ≡ []) ⊎ ((it : Entry) × (Has es it × (same_target target it.target ≡ true)))
    none_or_some c target [] = inl refl
    none_or_some c target (it ∷ es) =
        elim (cases_Bool (same_target target it.target)) [
          | inl e ↦ inr (it, (at_first it es, e))
          | inr e ↦
              elim (none_or_some c target es) [
                | inl rest ↦ inl (wanted_first c target it es ∙ ap₂ (λ a b. a ++ b) (wanted_not c target it e) rest)
                | inr some ↦ inr (some.0, (at_later it es some.0 some.1.0, some.1.1))
              ]
        ]

module _ (p : Plan) (gates stages : ℕ) (units : List Register) (there : AreAllThere p gates stages units) where
  -- what a register of this name has is logged where the circuit has it
  target_there : (r : Role) (target : Target) → same_target (t.Register r) target ≡ true → IsThere (names_with p gates stages units) target → Has (names_with p gates stages units) (named r)
  target_there r (t.Register s) e h = subst (λ (x : Register). Has (names_with p gates stages units) x) (sym (same_name r s e)) h
  target_there r (t.Left unit) e h = absurd (true≢false (sym e))
  target_there r (t.Right unit) e h = absurd (true≢false (sym e))
  target_there r (t.Signed unit) e h = absurd (true≢false (sym e))
  target_there r (t.Address a n) e h = absurd (true≢false (sym e))
  target_there r (t.Stored a n) e h = absurd (true≢false (sym e))
  target_there r (t.Refused a n) e h = absurd (true≢false (sym e))
  target_there r (t.Entered i) e h = absurd (true≢false (sym e))
  target_there r t.Ended e h = absurd (true≢false (sym e))
  target_there r t.Tested e h = absurd (true≢false (sym e))

  pub nowhere_else : (r : Role) (c : Cycle) → (Has (all_roles p gates stages) r → ⊥) → wanted_of c (t.Register r) (all_entries p gates stages) ≡ []
  nowhere_else r c unlisted = nothing_wanted c (t.Register r) (all_entries p gates stages) at_entry
    where
      at_entry : (it : Entry) → Has (all_entries p gates stages) it → same_target (t.Register r) it.target ≡ true → wanted_of c (t.Register r) (all_entries p gates stages) ≡ []
      at_entry it has e =
          elim (in_either (map named (all_roles p gates stages)) units (named r) (target_there r it.target e (there.there has.0 it has.1))) [
            | inl is ↦ absurd (unlisted (listed p gates stages r (from_names p gates stages (named r) is)))
            | inr unit ↦
                let u = of_no_unit r (there.of_units unit.0 (named r) unit.1) in
                subst (λ (r : Role). wanted_of c (t.Register r) (all_entries p gates stages) ≡ []) (sym u.1) (unit_given p gates stages c u.0).is
          ]

  -- a register for values
  given_nothing : (r : Register) (c : Cycle) → (HasRegister p gates stages r → ⊥) → IsOfValue r → register_writes p c r ≡ []
  given_nothing (reg.Variable v) c not_there is =
      sym (variable_given p gates stages c (variable_of v)).is ∙ nowhere_else (role.Variable (variable_of v)) c (λ h. not_there ((roles_are p gates stages).all (role.Variable (variable_of v)) h))
  given_nothing (reg.Value k) c not_there is = sym (value_given p gates stages c k).is ∙ nowhere_else (role.Value k) c (λ h. not_there ((roles_are p gates stages).all (role.Value k) h))
  given_nothing reg.Result c not_there is = sym (result_given p gates stages c).is ∙ nowhere_else role.Result c (λ h. not_there ((roles_are p gates stages).all role.Result h))
  given_nothing r c not_there is = absurd is

-- what is unnamed is not there
pub not_there : (p : Plan) (gates stages : ℕ) (units : List Register) (r : Register) → IsUnnamed (names_with p gates stages units) r → HasRegister p gates stages r → ⊥
not_there p gates stages units r unnamed h = (let has = in_left (map named (all_roles p gates stages)) units r (in_names p gates stages r h) in unnamed has.0 has.1)

pub logged_nowhere_else : LoggedNowhereElse
logged_nowhere_else p gates stages units r c there unlisted = nowhere_else p gates stages units there r c (λ h. unlisted h.0 h.1)

pub unnamed_are_given_nothing : UnnamedAreGivenNothing
unnamed_are_given_nothing p gates stages units r c there unnamed is = given_nothing p gates stages units there r c (not_there p gates stages units r unnamed) is
