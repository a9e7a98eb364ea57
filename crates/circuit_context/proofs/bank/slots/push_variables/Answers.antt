use Rattle.std.proofs.Common.{◌∙◌, ℕ, slice_index, [], ◌∷◌, sym, ap, subst, arith}
use Rattle.circuit_context.specs.declared.wanted.role.Role.TheVariants as role
use Rattle.circuit_context.specs.Wanted.Entries.{variable_of}
use Rattle.circuit_context.specs.Bank.Slots.{Adds}
use Rattle.circuit_context.proofs.BankLemmas.Adding.{adds_numbered}
use Rattle.circuit_context.proofs.bank.slots.push_variables.Goals as goal

pub loop-number-preserved : goal.loop-number-preserved
loop-number-preserved c = λ p widths.
    let k = c.loop-number.number in
    let same = c.number_of.ensures in
    adds_numbered p (λ n. role.Variable (variable_of n)) 0 k k c.args.slots.now.items c.loop-number.slots.items c.push.new.slots.items (omega arith) (c.loop-number.invariant p widths)
    (subst (λ (n : ℕ). Adds p c.loop-number.slots.items c.push.new.slots.items (role.Variable (variable_of n) ∷ [])) same
    (c.in_ok-push.ensures p (ap (λ l. slice_index l k) (sym widths) ∙ ap (slice_index p.program.shapes.widths) (sym same))))
