use Rattle.std.proofs.Common.{◌≡◌, ◌<◌, ◌||◌, ℕ, false, length, drop, get_or}
use Rattle.op_chain.specs.Fusing.{is_taken}
use Rattle.op_chain.proofs.bodies.mark_taken.Given as goal

abbrev pub invariant-loop-choice : goal.invariant-loop-choice
invariant-loop-choice l = record {
  count : length l.taken ≡ length l.initial.taken;
  taken : (u : ℕ) → u < length l.initial.taken → (get_or l.taken u false || is_taken (drop l.choice-index l.choices) u) ≡ (get_or l.initial.taken u false || is_taken l.choices u);
}
