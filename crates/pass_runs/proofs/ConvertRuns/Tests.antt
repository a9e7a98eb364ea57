-- What is known of the block of a loop's test.
use Rattle.std.proofs.Common.{◌≡◌, ◌∙◌, ℕ, zero, suc, ◌+◌, Bool, true, false, ◌&&◌, not, refl, ap, sym, subst, arith, List, [], ◌∷◌, ◌++◌, append_assoc, append-nil, length, take, drop, length-take-le}
use Rattle.std.specs.Prelude.{◌==◌}
use Rattle.std.proofs.lemmas.Bool.{eqb-true}
use Rattle.ir_core.specs.declared.body.Operand.{Operand}
use Rattle.ir_core.specs.declared.body.Out.{Out}
use Rattle.ir_core.specs.declared.body.Source.{Source}
use Rattle.ir_core.specs.declared.body.Source.TheVariants as source
use Rattle.hls_base.specs.Valued.{Valued, is, and_then}
use Rattle.ir_core.specs.Bodies.{OpTree, Shapes, Words, Performed, operations}
use Rattle.ir_core.specs.Trees.{branch, BlockTree}
use Rattle.ir_core.specs.TreeRuns.{tested_by}
use Rattle.passes.specs.Conversion.Joining.{needs_guard}
use Rattle.passes.specs.Conversion.Overlapping.{none_needs_guard, is_test}
use Rattle.pass_runs.specs.ConvertRuns.Typed.{IsEarly, HasBits, OpsAreTyped, ExitIsTyped, BlockIsTyped}
use Rattle.pass_runs.proofs.ConvertRuns.Lists.{within}
use Rattle.pass_runs.proofs.ConvertRuns.Idle.{harmless}

both_true : (x y : Bool) → (x && y) ≡ true → (x ≡ true) × (y ≡ true)
both_true true y e = (refl, e)
both_true false y e = absurd cc

not_true : (x : Bool) → not x ≡ true → x ≡ false
not_true true e = absurd cc
not_true false e = refl

no_outs : (xs : List Out) → (length xs == 0) ≡ true → xs ≡ []
no_outs [] e = refl
no_outs (x ∷ xs) e = let h = eqb-true (length (x ∷ xs)) 0 e in absurd (omega (arith, h))

module _ (head : BlockTree) (test : Operand) (h : is_test head test ≡ true) where
  both : ((length head.outs == 0) ≡ true) × (none_needs_guard (drop (tested_by test.value) head.ops) ≡ true)
  both = both_true (length head.outs == 0) (none_needs_guard (drop (tested_by test.value) head.ops)) h

  pub sets_nothing : head.outs ≡ []
  sets_nothing = no_outs head.outs both.0

  pub none_behind : none_needs_guard (drop (tested_by test.value) head.ops) ≡ true
  none_behind = both.1

-- ---- the operations up to the test

pub tested_early : (s : Source) → IsEarly (tested_by s) s
tested_early (source.Constant w) = tt
tested_early (source.Variable v) = tt
tested_early (source.Result i) = omega arith

module _ (widths words : List ℕ) where
  pub first_typed : (before ops : List OpTree) (k : ℕ) → OpsAreTyped widths words before ops → OpsAreTyped widths words before (take k ops)
  first_typed before ops zero h = tt
  first_typed before [] (suc k) h = tt
  first_typed before (x ∷ ops) (suc k) h = (h.0, first_typed (before ++ x ∷ []) ops k h.1)

  test_end : (ops : List OpTree) (n : ℕ) (s : Source) → HasBits widths words ops n s → tested_by s ≡ length (take (tested_by s) ops)
  test_end ops n (source.Constant w) h = refl
  test_end ops n (source.Variable v) h = refl
  test_end ops n (source.Result i) h = let l = within ops i.0 h.0 h.1 in sym (length-take-le (i.0 + 1) ops (omega (arith, l)))

  -- The last of them makes the test; or there is none.
  pub tested_end : (head : BlockTree) (test : Operand) → BlockIsTyped widths words head → head.exit ≡ branch test → tested_by test.value ≡ length (take (tested_by test.value) head.ops)
  tested_end head test h e = test_end head.ops 1 test.value (subst (ExitIsTyped widths words head.ops) e h.exit)

-- ---- operations that need no guard change nothing

pub none_changes : (shapes : Shapes) (w ops : List OpTree) (results : List ℕ) (t : Words) → none_needs_guard ops ≡ true → (more : List ℕ) × (operations shapes w ops results t ≡ is (record { results = results ++ more; words = t }))
none_changes shapes w [] results t h = ([], ap (λ l. is (record { results = l; words = t })) (sym (append-nil results)))
none_changes shapes w (op ∷ ops) results t h =
    let b = both_true (not (needs_guard op)) (none_needs_guard ops) h in
    let i = harmless shapes w results t op (not_true (needs_guard op) b.0) in
    let r = none_changes shapes w ops (results ++ i.0.result ∷ []) t b.1 in (
      i.0.result ∷ r.0,
      ap (λ (x : Valued Performed). and_then x (λ p. operations shapes w ops (results ++ p.result ∷ []) p.words)) i.1
          ∙ ap (λ u. operations shapes w ops (results ++ i.0.result ∷ []) u) i.2
          ∙ r.1
          ∙ ap (λ l. is (record { results = l; words = t })) (append_assoc results (i.0.result ∷ []) r.0),
    )
