-- What a block holds behind its last cycle.
use Rattle.std.proofs.Common.{◌≡◌, ℕ, ◌*◌, ◌<◌, true, inl, inr, sym, ap, ◌∙◌, subst, arith, le_refl}
use Rattle.ir_core.specs.declared.body.Operand.{Operand}
use Rattle.ir_core.specs.Bodies.{Words, operand}
use Rattle.clock_ir.specs.Flows.{operand_at}
use Rattle.clock_runs.proofs.Settings.{Setting, op_at, count_of, after, moment, Runs, flow, IsReady, IsTimely, KeepsOrder, passes_from}
use Rattle.clock_runs.proofs.Numbers.{earlier_turn}
use Rattle.clock_runs.proofs.Iterations.{moment_start}
use Rattle.clock_runs.proofs.Same.{Same, operands_same}
use Rattle.clock_runs.proofs.Memories.{same_word, same_all}

-- all starts before the block ends
module _ (s : Setting) (w : IsTimely s) (order : KeepsOrder s s.body.interval) (always : (t : Words) → passes_from s t ≡ true)
    (early : (k : ℕ) → k < count_of s → (op_at s k).start < s.body.interval) where
  abbrev last : ℕ
  last = s.body.interval

  same_then : Same s last
  same_then = same_all s w last order last (le_refl last)

  runs_first : (k : ℕ) → k < count_of s → Runs s 0 k
  runs_first k lt = ((λ j less. absurd (omega arith)), lt, inr (always (moment s 0)))

  pub block_memories : (memory address : ℕ) → (flow s last).memories memory address ≡ (after s s.start (count_of s)).memories memory address
  block_memories memory address =
      same_word s w last same_then last (le_refl last) order 0 (count_of s) memory address (le_refl (count_of s))
      (λ p q lt h. elim h [
        | inl before ↦ absurd (omega arith)
        | inr e ↦ subst (λ j. Runs s j q) (sym e.0) (runs_first q lt)
      ])
      (λ p q r st h. elim h [
        | inl before ↦ absurd (omega arith)
        | inr e ↦ (let soon = early q r.1 in let none : p * s.body.interval ≡ 0 * s.body.interval = ap (λ x. x * s.body.interval) e.0 in omega arith)
      ])
      (λ p q r st begins lt. (
      let less : p * s.body.interval < 1 * s.body.interval = omega arith in
      let first = earlier_turn s.body.interval p 1 less in
      inr (omega arith, r.1)))
      ∙ ap (λ (t : Words). (after s t (count_of s)).memories memory address) (moment_start s)

  pub block_operands : (x : Operand) → IsReady s (count_of s) last x → operand_at s.body (flow s last) last x ≡ operand s.start (after s s.start (count_of s)).results x
  block_operands x h =
      operands_same s w last same_then 0 (count_of s) last last (λ j less. absurd (omega arith)) runs_first (omega arith) (omega arith) x h
      ∙ ap (λ (t : Words). operand t (after s t (count_of s)).results x) (moment_start s)
