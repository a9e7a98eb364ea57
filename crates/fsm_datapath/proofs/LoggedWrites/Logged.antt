-- What is logged for each register that a circuit has.
use Rattle.std.proofs.Common.{◌≡◌, ℕ, zero, suc, ◌==◌, false, true, arith}
use Rattle.std.specs.Prelude.{nat_lt}
use Rattle.std.proofs.lemmas.Bool.{ne_eqb, ltb-true}
use Rattle.datapath.specs.Plans.{Plan}
use Rattle.datapath.specs.Cycles.{Cycle}
use Rattle.datapath.specs.Circuits.{register_writes}
use Rattle.circuit_context.specs.declared.wanted.role.Role.{Role}
use Rattle.circuit_context.specs.declared.wanted.role.Role.TheVariants as role
use Rattle.circuit_context.specs.Wanted.Roles.{named}
use Rattle.circuit_context.specs.Wanted.Entries.{all_entries}
use Rattle.fsm_datapath.specs.LoggedWrites.Wanted.{IsNoWord}
use Rattle.fsm_datapath.specs.LoggedWrites.Roles.{HasRegister}
use Rattle.fsm_datapath.specs.LoggedWrites.{LoggedForRegisters}
use Rattle.fsm_datapath.proofs.LoggedWrites.Given.{Gives}
use Rattle.fsm_datapath.proofs.LoggedWrites.Registers.{ready_given, done_given, initial_given, time_given, active_given, load_given, gate_given, passed_given, waited_given, variable_given, value_given, result_given, named_given}
use Rattle.fsm_datapath.proofs.LoggedWrites.Roles.{roles_are, no_unit}

-- above 0
some : (n : ℕ) → nat_lt 0 n ≡ true → (n == 0) ≡ false
some n e = ne_eqb n 0 (λ s. absurd (omega (arith, s, ltb-true 0 n e)))

pub given_of : (p : Plan) (gates stages : ℕ) (r : Role) (c : Cycle) → HasRegister p gates stages (named r) → IsNoWord r → Gives c r (all_entries p gates stages) (register_writes p c (named r))
given_of p gates stages role.Ready c h no_word = ready_given p gates stages c
given_of p gates stages role.Done c h no_word = done_given p gates stages c
given_of p gates stages role.Initial c h no_word = initial_given p gates stages c (some _ h)
given_of p gates stages role.Time c h no_word = time_given p gates stages c (some _ h)
given_of p gates stages (role.Active i) c h no_word = active_given p gates stages c i h.0 h.1
given_of p gates stages (role.Load i) c h no_word = load_given p gates stages c i h.0 h.1.0 h.1.1
given_of p zero stages (role.Gate k) c h no_word = absurd (omega (arith, h))
given_of p (suc gates) stages (role.Gate k) c h no_word = gate_given p stages c gates k h
given_of p gates stages (role.Passed n) c h no_word = passed_given p gates stages c n h.0 h.1
given_of p gates stages role.Waited c h no_word = waited_given p gates stages c (some _ h)
given_of p gates stages (role.Variable v) c h no_word = variable_given p gates stages c v
given_of p gates stages (role.Value k) c h no_word = value_given p gates stages c k
given_of p gates stages role.Result c h no_word = result_given p gates stages c
given_of p gates stages (role.Word a n) c h no_word = absurd no_word
given_of p gates stages role.Named c h no_word = named_given p gates stages c h
given_of p gates stages (role.OfUnit r) c h no_word = absurd (no_unit p gates stages r h)

pub logged_for_registers : LoggedForRegisters
logged_for_registers p gates stages k r c at_ no_word = (given_of p gates stages r c ((roles_are p gates stages).all r (k, at_)) no_word).is
