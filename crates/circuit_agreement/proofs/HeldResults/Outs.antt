-- Which variable takes a result over.
use Rattle.std.proofs.Common.{◌≡◌, ◌≢◌, ℕ, suc, ◌==◌, Bool, true, false, List, [], ◌∷◌, Option, Some, None, inl, inr, refl, sym, ap, ◌∙◌, arith, if◌then◌else◌}
use Rattle.std.proofs.lemmas.Bool.{cases_Bool, cond-true, cond-false, or_left, or_right, eqb-true, ne_eqb}
use Rattle.hls_base.specs.declared.number.OpId.{OpId}
use Rattle.ir_core.specs.declared.body.Out.{Out}
use Rattle.ir_core.specs.declared.body.Source.{Source}
use Rattle.ir_core.specs.declared.body.Source.TheVariants as source
use Rattle.dep_graph.specs.Offsets.{result_of, maker}
use Rattle.reg_binding.specs.Lives as lives
use Rattle.reg_binding.specs.Lives.{is_taken_over, result_or, maker_from}
use Rattle.clock_ir.specs.Flows.{is_result, entered}
use Rattle.clock_runs.specs.Premises.{Each, NamesResult, AreApart}
use Rattle.clock_runs.proofs.Lists.{some_same, no_some}
use Rattle.datapath.specs.Plans.{Plan}
use Rattle.datapath.specs.Values.{entry_in}

-- both ways to ask whether a source is the result
same_result : (k : ℕ) (s : Source) → lives.is_result k s ≡ is_result k s
same_result k (source.Constant w) = refl
same_result k (source.Variable v) = refl
same_result k (source.Result op) = refl

some_variable : (b : Bool) (v w : ℕ) → (if b then Some v else None) ≡ Some w → (b ≡ true) × (v ≡ w)
some_variable true v w e = (refl, some_same e)
some_variable false v w e = absurd (no_some e)

-- the variable whose next value an operation makes takes its result over
pub entry_taken : (p : Plan) (xs : List Out) (k v : ℕ) → entry_in p xs k ≡ Some v → is_taken_over xs k ≡ true
entry_taken p [] k v e = absurd (no_some e)
entry_taken p (x ∷ xs) k v e = elim (cases_Bool (is_result k x.value.value)) [
  | inl on ↦ or_left _ _ (same_result k x.value.value ∙ on)
  | inr off ↦ or_right _ _ (entry_taken p xs k v (sym (cond-false _ _ _ off) ∙ e))
]

-- the chain begins with what this variable holds
pub entry_entered : (p : Plan) (xs : List Out) (f : ℕ → ℕ) (k v : ℕ) → entry_in p xs k ≡ Some v → entered xs f k ≡ f v
entry_entered p [] f k v e = absurd (no_some e)
entry_entered p (x ∷ xs) f k v e = elim (cases_Bool (is_result k x.value.value)) [
  | inl on ↦ cond-true _ _ _ on ∙ ap f (some_variable (p.savings.read x.variable.0) x.variable.0 v (sym (cond-true _ _ _ on) ∙ e)).1
  | inr off ↦ cond-false _ _ _ off ∙ entry_entered p xs f k v (sym (cond-false _ _ _ off) ∙ e)
]

-- where the variable is read
pub entered_entry : (p : Plan) (xs : List Out) (k v : ℕ) → entered xs (λ w. suc w) k ≡ suc v → p.savings.read v ≡ true → entry_in p xs k ≡ Some v
entered_entry p [] k v e read = absurd (omega (arith, e))
entered_entry p (x ∷ xs) k v e read = elim (cases_Bool (is_result k x.value.value)) [
  | inl on ↦
      let up : suc x.variable.0 ≡ suc v = sym (cond-true _ _ _ on) ∙ e in
      let same : x.variable.0 ≡ v = omega (arith, up) in
      cond-true _ _ _ on ∙ (cond-true _ _ _ (ap p.savings.read same ∙ read) ∙ ap (λ w. Some w) same)
  | inr off ↦ cond-false _ _ _ off ∙ entered_entry p xs k v (sym (cond-false _ _ _ off) ∙ e) read
]

-- ---- what makes a variable

-- no out has the variable
unmade : (xs : List Out) (v : ℕ) (known : Option ℕ) → Each (λ (y : Out). y.variable.0 ≢ v) xs → maker_from known xs v ≡ known
unmade [] v known h = refl
unmade (x ∷ xs) v known h = ap (λ (o : Option ℕ). maker_from o xs v) (cond-false _ _ _ (ne_eqb x.variable.0 v h.0)) ∙ unmade xs v known h.1

each_other : (xs : List Out) (x : Out) (v : ℕ) → x.variable.0 ≡ v → Each (λ (y : Out). (y.variable.0 ≢ x.variable.0) × (y.value.value ≢ x.value.value)) xs → Each (λ (y : Out). y.variable.0 ≢ v) xs
each_other [] x v e h = tt
each_other (y ∷ ys) x v e h = ((λ f. h.0.0 (f ∙ sym e)), each_other ys x v e h.1)

-- the lives know the same maker
pub maker_known : (k : ℕ) (xs : List Out) (v : ℕ) (j : OpId) (known : Option ℕ) → Each (NamesResult k) xs → AreApart xs → maker xs v ≡ Some j → maker_from known xs v ≡ Some j.0
maker_known k [] v j known h a e = absurd (no_some e)
maker_known k (x ∷ xs) v j known h a e = elim (cases_Bool (x.variable.0 == v)) [
  | inl on ↦
      let same : h.0.0 ≡ j = some_same (sym (cond-true _ _ _ on ∙ ap result_of h.0.1.0) ∙ e) in
      ap (λ (o : Option ℕ). maker_from o xs v) (cond-true _ _ _ on ∙ ap (result_or known) h.0.1.0)
      ∙ (unmade xs v (Some h.0.0.0) (each_other xs x v (eqb-true x.variable.0 v on) a.0) ∙ ap (λ (z : OpId). Some z.0) same)
  | inr off ↦
      ap (λ (o : Option ℕ). maker_from o xs v) (cond-false _ _ _ off) ∙ maker_known k xs v j known h.1 a.1 (sym (cond-false _ _ _ off) ∙ e)
]
