-- Behind an overlapped loop control goes on, with no more points left than before.
use Rattle.std.proofs.Common.{◌≡◌, ◌∙◌, ◌≤◌, ℕ, zero, suc, Bool, true, false, refl, sym, arith, take, drop, []}
use Rattle.std.specs.Prelude.{if◌then◌else◌}
use Rattle.hls_base.specs.declared.point.Point.{Point}
use Rattle.hls_base.specs.Steps.{Ran, goes, then_, reached}
use Rattle.ir_core.specs.Bodies.{Shapes, Words, Ranged, operations, with_outs}
use Rattle.ir_core.specs.Trees.{BodyTree}
use Rattle.ir_core.specs.TreeRuns.{Way, on, Turn, again, over, if_again, repeat, way_behind, tested, goes_round, iterated, iteration, overlapped_run}
use Rattle.flat_programs.proofs.Runs.{then_assoc, reached_same, valued_same}

module _ {C : Type 0} (shapes : Shapes) (p : Point) (b : BodyTree) where
  -- what comes of a turn, with at most so many points
  abbrev Alike : ℕ → Turn → (Turn → Words → ℕ → Ran Words C) → (Turn → Words → ℕ → Ran Words C) → Type 0
  Alike n turn f g = (t1 : Words) (n1 : ℕ) → n1 ≤ n → f turn t1 n1 ≡ g turn t1 n1

  iterated_same : (r : Ranged) (t : Words) (m n : ℕ) (f g : Turn → Words → ℕ → Ran Words C) → m ≤ n → Alike n again f g → then_ (iterated shapes b r t m) f ≡ then_ (iterated shapes b r t m) g
  iterated_same r t m n f g le h =
      valued_same (operations shapes b.ops (drop (tested b.test) b.ops) r.results r.words) (λ r1 t1 n1. goes again (with_outs b.outs r1) n1) (λ r1 t1 n1. goes again (with_outs b.outs r1) n1) f g t m (λ x. h (with_outs b.outs x) m le)

  -- a test that holds or not
  choice_same : (y : Bool) (r : Ranged) (t : Words) (n : ℕ) (f g : Turn → Words → ℕ → Ran Words C) → Alike n again f g → Alike n over f g
      → then_ (if y then reached p (iterated shapes b r) t n else goes over t n) f ≡ then_ (if y then reached p (iterated shapes b r) t n else goes over t n) g
  choice_same true r t n f g h1 h2 = reached_same p (iterated shapes b r) (iterated shapes b r) f g t n (λ m e. iterated_same r t m n f g (omega (arith, e)) h1)
  choice_same false r t n f g h1 h2 = h2 t n (omega arith)

  iteration_same : (t : Words) (n : ℕ) (f g : Turn → Words → ℕ → Ran Words C) → Alike n again f g → Alike n over f g → then_ (iteration shapes p b t n) f ≡ then_ (iteration shapes p b t n) g
  iteration_same t n f g h1 h2 =
      let part = λ (r : Ranged) (t1 : Words) (n1 : ℕ). if goes_round b.test r.words r.results then reached p (iterated shapes b r) r.words n1 else goes over r.words n1 in
      valued_same (operations shapes b.ops (take (tested b.test) b.ops) [] t) part part f g t n (λ r. choice_same (goes_round b.test r.words r.results) r r.words n f g h1 h2)

  repeat_same : (j : ℕ) (t : Words) (n : ℕ) (f g : Turn → Words → ℕ → Ran Words C) → Alike n over f g → then_ (repeat j (iteration shapes p b) t n) f ≡ then_ (repeat j (iteration shapes p b) t n) g
  repeat_same zero t n f g h = refl
  repeat_same (suc j) t n f g h =
      let round = iteration shapes p b in
      let next = λ (u : Turn) (t1 : Words) (n1 : ℕ). if_again u (repeat j round) t1 n1 in
      then_assoc (round t n) next f
      ∙ iteration_same t n (λ u t1 n1. then_ (next u t1 n1) f) (λ u t1 n1. then_ (next u t1 n1) g)
      (λ t1 n1 le. repeat_same j t1 n1 f g (λ t2 n2 le2. h t2 n2 (omega (arith, le, le2))))
      h
      ∙ sym (then_assoc (round t n) next g)

  pub overlapped_same : (t : Words) (n : ℕ) (f g : Way → Words → ℕ → Ran Words C) → ((t1 : Words) (n1 : ℕ) → n1 ≤ n → f on t1 n1 ≡ g on t1 n1)
      → then_ (overlapped_run shapes p b t n) f ≡ then_ (overlapped_run shapes p b t n) g
  overlapped_same t n f g h =
      let all = repeat (suc n) (iteration shapes p b) t n in
      let behind = λ (u : Turn) (t1 : Words) (n1 : ℕ). goes (way_behind u) t1 n1 in
      then_assoc all behind f
      ∙ repeat_same (suc n) t n (λ u t1 n1. then_ (behind u t1 n1) f) (λ u t1 n1. then_ (behind u t1 n1) g) h
      ∙ sym (then_assoc all behind g)
