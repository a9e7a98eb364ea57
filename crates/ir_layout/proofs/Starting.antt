-- Where the arms of a switch begin.
use Rattle.std.proofs.Common.{◌≡◌, ◌<◌, ◌∙◌, ◌+◌, ℕ, zero, suc, refl, ap, sym, arith, List, [], ◌∷◌, ◌++◌, append_assoc, drop, length, map, get_or, Option, Some, None}
use Rattle.ir_core.specs.declared.tree.Sequence.{Sequence}
use Rattle.ir_core.specs.Trees.{ArmTrees, no_arm, more_arms, arm_row, sequence_of}
use Rattle.ir_layout.specs.Sizes.{sequence_size, arms_size}
use Rattle.ir_layout.specs.Layout.{by_case, arm_start, other_start}
use Rattle.ir_layout.specs.Listing.{AreArmsSized}
use Rattle.ir_layout.specs.Views.{arm_starts_from, other_in}
use Rattle.ir_layout.proofs.Listing.{size_here, one_more}

pub start_in : (place after : ℕ) (arms : ArmTrees) (i : ℕ) → after ≡ place + arms_size arms → get_or (arm_starts_from place arms) i after ≡ arm_start place arms i
start_in place after no_arm i e = omega (arith, e)
start_in place after (more_arms first rest) zero e = refl
start_in place after (more_arms first rest) (suc i) e = start_in (place + sequence_size first) after rest i (omega (arith, e))

starts_in : (place after : ℕ) (arms : ArmTrees) (targets : List ℕ) → after ≡ place + arms_size arms → map (λ i. get_or (arm_starts_from place arms) i after) targets ≡ map (arm_start place arms) targets
starts_in place after arms [] e = refl
starts_in place after arms (x ∷ xs) e = ap (λ y. y ∷ map (λ i. get_or (arm_starts_from place arms) i after) xs) (start_in place after arms x e) ∙ ap (λ l. arm_start place arms x ∷ l) (starts_in place after arms xs e)

other_starts : (place after : ℕ) (arms : ArmTrees) (o : Option ℕ) → after ≡ place + arms_size arms → other_in (arm_starts_from place arms) after o ≡ other_start place after arms o
other_starts place after arms None e = refl
other_starts place after arms (Some i) e = start_in place after arms i e

-- by the list of starts
pub cases_lead : (place after first other : ℕ) (arms : ArmTrees) (targets cases starts : List ℕ) (o : Option ℕ) → after ≡ place + arms_size arms → first ≡ place → starts ≡ arm_starts_from first arms
    → cases ≡ map (λ i. get_or starts i after) targets → other ≡ other_in starts after o → by_case cases other ≡ by_case (map (arm_start place arms) targets) (other_start place after arms o)
cases_lead place after first other arms targets cases starts o e f s h1 h2 =
    let same : starts ≡ arm_starts_from place arms = s ∙ ap (λ p. arm_starts_from p arms) f in
    ap (λ l. by_case l other) (h1 ∙ ap (λ l. map (λ i. get_or l i after) targets) same ∙ starts_in place after arms targets e)
    ∙ ap (λ x. by_case (map (arm_start place arms) targets) x) (h2 ∙ ap (λ l. other_in l after o) same ∙ other_starts place after arms o e)

-- ---- the first node of the next arm

starts_after : (sizes : List ℕ) (i place next : ℕ) (arms : List Sequence) → i < length arms → next ≡ place + get_or sizes place 0 → AreArmsSized sizes place (arm_row (map sequence_of (drop i arms)))
    → arm_starts_from place (arm_row (map sequence_of (drop i arms))) ≡ place ∷ arm_starts_from next (arm_row (map sequence_of (drop (suc i) arms)))
starts_after sizes i place next [] lt e h = absurd (omega (arith, lt))
starts_after sizes zero place next (s ∷ ss) lt e h = ap (λ i. place ∷ arm_starts_from i (arm_row (map sequence_of ss))) (sym (e ∙ ap (λ n. place + n) (size_here sizes place (sequence_of s) h.0)))
starts_after sizes (suc i) place next (s ∷ ss) lt e h = starts_after sizes i place next ss (omega (arith, lt)) e h

pub next_start : (sizes : List ℕ) (i place next : ℕ) (arms : List Sequence) (starts more whole : List ℕ) → i < length arms → next ≡ place + get_or sizes place 0 → AreArmsSized sizes place (arm_row (map sequence_of (drop i arms)))
    → more ≡ starts ++ place ∷ [] → starts ++ arm_starts_from place (arm_row (map sequence_of (drop i arms))) ≡ whole → more ++ arm_starts_from next (arm_row (map sequence_of (drop (i + 1) arms))) ≡ whole
next_start sizes i place next arms starts more whole lt e h m k =
    let rest = arm_starts_from next (arm_row (map sequence_of (drop (i + 1) arms))) in
    ap (λ l. l ++ rest) m ∙ append_assoc starts (place ∷ []) rest
    ∙ ap (λ l. starts ++ l) (sym (starts_after sizes i place next arms lt e h ∙ ap (λ j. place ∷ arm_starts_from next (arm_row (map sequence_of (drop j arms)))) (one_more i))) ∙ k
