use Rattle.std.proofs.Common.{ℕ, ◌≤◌, ◌^◌, Option, subst, rules}
use Rattle.std.specs.Prelude.{IfSome}
use Rattle.command_words.proofs.Values.{stops}
use Rattle.command_words.proofs.number.value_of.Goals as goal

pub returns-in_default-clause-none : goal.returns-in_default-clause-none
returns-in_default-clause-none c =
    let P : Option ℕ → Type 0 = λ o. IfSome o (λ n. 2 ^ 64 ≤ n) in
    subst P c.loop-byte.invariant (stops _ _ _ c.args.digits.now (search rules) c.in_default.ensures.none)
