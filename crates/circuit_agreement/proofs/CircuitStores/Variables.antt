-- What variables take while no node is under way: arguments, and first values.
use Rattle.std.proofs.Common.{◌≡◌, ◌≢◌, ℕ, zero, suc, ◌+◌, true, false, List, [], ◌∷◌, ◌++◌, drop, Some, refl, sym, ap, ◌∙◌, subst, arith}
use Rattle.std.specs.Prelude.{slice_get, slice_index, filter, flat_map, ◌==◌}
use Rattle.std.specs.List.{enumerate_from}
use Rattle.std.proofs.lemmas.Bool.{or_from, or_left, or_right, eq-eqb, eqb-true}
use Rattle.hls_base.specs.declared.number.Kept.{Kept}
use Rattle.hls_base.specs.declared.number.VarId.{VarId}
use Rattle.rtl_core.specs.Interface.{arguments_of}
use Rattle.datapath.specs.Plans.{Plan, numbered}
use Rattle.datapath.specs.Cycles.{Initial, Variable, Contents, Cycle, holds}
use Rattle.rtl_logic.specs.Choosing.{Write, where_, is_any_wanted, AllWant}
use Rattle.datapath.specs.Control.{is_taken}
use Rattle.datapath.specs.Values.{argument_writes, kept_writes, out_writes, variable_writes}
use Rattle.datapath.specs.Circuits.{IsCycle, IsAfter}
use Rattle.clock_runs.proofs.Lists.{some_same}
use Rattle.circuit_agreement.specs.CircuitFlow.Compiled.{IsCompiled}
use Rattle.circuit_agreement.proofs.CircuitStores.Lists.{Has, has_kept, from_kept, has_numbered, from_numbered, Numbered}
use Rattle.circuit_agreement.proofs.CircuitStores.Wanted.{some_wanted, all_wanted, none_wanted, none_all, all_both, any_both}
use Rattle.circuit_agreement.proofs.CircuitStores.Outside.{IsResting, no_outs}

-- ---- pins

pub argument_at : (pins : List ℕ) (n k : ℕ) → slice_index pins (n + k) ≡ slice_index (drop n pins) k
argument_at pins zero k = ap (slice_index pins) (let e : 0 + k ≡ k = omega arith in e)
argument_at [] (suc n) k = refl
argument_at (x ∷ pins) (suc n) k = ap (slice_index (x ∷ pins)) (let e : suc n + k ≡ suc (n + k) = omega arith in e) ∙ argument_at pins n k

module _ (p : Plan) (c : Cycle) (is_cycle : IsCycle p c) (rest : IsResting c) (y : Contents) (after : IsAfter p c y) where
  abbrev writes : ℕ → List Write
  writes v = variable_writes p c v

  rest_wanted : (v : ℕ) → is_any_wanted (kept_writes p c v) ≡ false → is_any_wanted (kept_writes p c v ++ flat_map (out_writes p c v) (numbered p)) ≡ false
  rest_wanted v e = any_both (kept_writes p c v) (flat_map (out_writes p c v) (numbered p)) ∙ or_from _ _ e (no_outs p c is_cycle rest v)

  pub none_kept : (v : ℕ) → holds c Initial ≡ false → is_any_wanted (kept_writes p c v) ≡ false
  none_kept v e = none_wanted (λ (s : Kept). where_ (holds c Initial) s.value) (filter (λ (s : Kept). s.variable.0 == v) p.kept) (λ s h. e)

  -- nothing is given to the variable
  pub stays : (v : ℕ) → is_any_wanted (argument_writes p c v) ≡ false → is_any_wanted (kept_writes p c v) ≡ false → y.regs (Variable v) ≡ c.regs (Variable v)
  stays v one two =
      (after.regs (Variable v)).else_ (any_both (argument_writes p c v) _ ∙ or_from _ _ one (rest_wanted v two))

  abbrev argument : ℕ × VarId → Write
  argument x = where_ (is_taken c) (slice_index c.pins (7 + x.0))

  abbrev given_to : ℕ → List (ℕ × VarId)
  given_to v = filter (λ (x : ℕ × VarId). x.1.0 == v) (enumerate_from 0 p.parameters)

  pub no_arguments : (v : ℕ) → is_taken c ≡ false → is_any_wanted (argument_writes p c v) ≡ false
  no_arguments v e = none_wanted argument (given_to v) (λ x h. e)

  -- who is given an argument
  parameter : (v : ℕ) (x : ℕ × VarId) → Has (given_to v) x → (slice_get p.parameters x.0 ≡ Some x.1) × (x.1.0 ≡ v)
  parameter v x h =
      let r = from_kept (λ (z : ℕ × VarId). z.1.0 == v) (enumerate_from 0 p.parameters) x h in
      let n : Numbered 0 p.parameters x = from_numbered 0 p.parameters x r.0 in
      (ap (slice_get p.parameters) (n.is ∙ (let e : 0 + n.place ≡ n.place = omega arith in e)) ∙ n.there, eqb-true x.1.0 v r.1)

  -- a variable that is no parameter is given none
  pub no_parameter : (v : ℕ) → ((k : ℕ) (w : VarId) → slice_get p.parameters k ≡ Some w → w.0 ≢ v) → is_any_wanted (argument_writes p c v) ≡ false
  no_parameter v none = none_wanted argument (given_to v) (λ x h. let r = parameter v x h in absurd (none x.0 x.1 r.0 r.1))

  pub takes_argument : IsCompiled p → holds c Initial ≡ false → is_taken c ≡ true → (k : ℕ) (v : VarId) → slice_get p.parameters k ≡ Some v → y.regs (Variable v.0) ≡ slice_index (arguments_of c.pins) k
  takes_argument compiled uninitial taken k v at_ =
      let zero_ : 0 + k ≡ k = omega arith in
      let there : Has (given_to v.0) (k, v) =
      has_kept (λ (z : ℕ × VarId). z.1.0 == v.0) (enumerate_from 0 p.parameters) (k, v)
      (subst (λ (q : ℕ). Has (enumerate_from 0 p.parameters) (q, v)) zero_ (has_numbered 0 k p.parameters v at_)) (eq-eqb v.0 v.0 refl) in
      let some : is_any_wanted (argument_writes p c v.0) ≡ true = some_wanted argument (given_to v.0) (k, v) there taken in
      let all : AllWant (argument_writes p c v.0) (slice_index c.pins (7 + k)) = all_wanted argument (given_to v.0) (slice_index c.pins (7 + k)) (λ x h e.
      let r = parameter v.0 x h in ap (λ q. slice_index c.pins (7 + q)) (compiled.frame.parameters x.0 k x.1 v r.0 at_ r.1)) in
      (after.regs (Variable v.0)).wanted (slice_index c.pins (7 + k)) (any_both (argument_writes p c v.0) _ ∙ or_left _ _ some)
      (all_both (argument_writes p c v.0) _ (slice_index c.pins (7 + k)) all (none_all _ (slice_index c.pins (7 + k)) (rest_wanted v.0 (none_kept v.0 uninitial))))
      ∙ argument_at c.pins 7 k

  abbrev first_value : Kept → Write
  first_value s = where_ (holds c Initial) s.value

  abbrev kept_in : ℕ → List Kept
  kept_in v = filter (λ (s : Kept). s.variable.0 == v) p.kept

  pub takes_first : IsCompiled p → holds c Initial ≡ true → is_taken c ≡ false → (k : ℕ) (s : Kept) → slice_get p.kept k ≡ Some s → y.regs (Variable s.variable.0) ≡ s.value
  takes_first compiled initial untaken k s at_ =
      let v : ℕ = s.variable.0 in
      let there : Has (kept_in v) s = has_kept (λ (z : Kept). z.variable.0 == v) p.kept s (record { place = k; there = at_ }) (eq-eqb v v refl) in
      let some : is_any_wanted (kept_writes p c v) ≡ true = some_wanted first_value (kept_in v) s there initial in
      let all : AllWant (kept_writes p c v) s.value = all_wanted first_value (kept_in v) s.value (λ z h e.
      let r = from_kept (λ (q : Kept). q.variable.0 == v) p.kept z h in
      let same : r.0.place ≡ k = compiled.frame.kept r.0.place k z s r.0.there at_ (eqb-true z.variable.0 v r.1) in
      ap (λ (q : Kept). q.value) (some_same (sym r.0.there ∙ (ap (slice_get p.kept) same ∙ at_)))) in
      (after.regs (Variable v)).wanted s.value (any_both (argument_writes p c v) _ ∙ or_right _ _ (any_both (kept_writes p c v) _ ∙ or_left _ _ some))
      (all_both (argument_writes p c v) _ s.value (none_all _ s.value (no_arguments v untaken))
      (all_both (kept_writes p c v) _ s.value all (none_all _ s.value (no_outs p c is_cycle rest v))))
