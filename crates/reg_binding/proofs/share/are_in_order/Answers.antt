use Rattle.std.proofs.Common.{◌≡◌, ℕ, ◌+◌, refl, subst, arith}
use Rattle.reg_binding.specs.Sharing.{life_at}
use Rattle.reg_binding.specs.Pools.{Precedes, IsLasting}
use Rattle.reg_binding.proofs.Pools.{in_order_more}
use Rattle.reg_binding.proofs.share.are_in_order.Goals.{else-number-gt0-via-then-number-gt0+else-not-precedes, else-number-gt0-via-else-number-gt0}
use Rattle.reg_binding.proofs.share.are_in_order.Goals as goal

pub loop-number-preserved : goal.loop-number-preserved
loop-number-preserved c =
    let lives = c.args.lives.now in
    let n = c.loop-number.number in
    let lasting : IsLasting (life_at lives n) = c.if-not-is_lasting.ensures.0 refl in
    let follows : (k : ℕ) → k + 1 ≡ n → Precedes (life_at lives k) (life_at lives n) = λ k e. (elim c.else-number-gt0.branch [
      | else-number-gt0-via-then-number-gt0+else-not-precedes w ↦ subst (λ (m : ℕ). Precedes (life_at lives m) (life_at lives n)) (omega arith) (w.precedes.ensures.0 w.if-not-precedes.false)
      | else-number-gt0-via-else-number-gt0 w ↦ absurd (omega (arith, w.if-number-gt0.false, e))
    ]) in
    in_order_more lives n c.loop-number.invariant lasting follows
