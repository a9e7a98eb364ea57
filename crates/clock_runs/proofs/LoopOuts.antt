-- The outs of a loop: each names a result, and no two have one variable or one value.
use Rattle.std.proofs.Common.{◌≡◌, ◌≢◌, ℕ, ◌<◌, ◌==◌, ◌∙◌, sym, refl, ap, subst, true, List, [], ◌∷◌, Some, inl, inr}
use Rattle.std.proofs.lemmas.Bool.{cases_Bool, cond-true, cond-false, eqb-true, eq-eqb, ne_eqb}
use Rattle.hls_base.specs.declared.number.OpId.{OpId}
use Rattle.ir_core.specs.declared.body.Out.{Out}
use Rattle.ir_core.specs.declared.body.Source.{Source}
use Rattle.ir_core.specs.declared.body.Source.TheVariants as source
use Rattle.dep_graph.specs.Offsets.{result_of, maker}
use Rattle.modulo_loop.specs.Rules as rules
use Rattle.clock_ir.specs.Flows.{is_result, entered}
use Rattle.clock_runs.specs.Premises.{Each, NamesResult, AreApart}
use Rattle.clock_runs.proofs.Settings.{AreOuts}
use Rattle.clock_runs.proofs.Lists.{some_same, no_some, each_map, each_both}

pub outs_apart : (k : ℕ) (xs : List Out) → Each (NamesResult k) xs → AreApart xs → AreOuts xs
outs_apart k [] h a = tt
outs_apart k (x ∷ xs) h a = ((h.0.0, h.0.1.0), each_map (λ (y : Out). (y.variable.0 ≢ x.variable.0) × (y.value.value ≢ x.value.value)) (λ (y : Out). y.variable.0 ≢ x.variable.0) xs (λ y d. d.0) a.0, outs_apart k xs h.1 a.1)

made_here : (x : Out) (xs : List Out) (v : ℕ) (j : OpId) → x.value.value ≡ source.Result j → (x.variable.0 == v) ≡ true → maker (x ∷ xs) v ≡ Some j
made_here x xs v j e on = cond-true _ _ _ on ∙ ap result_of e

pub maker_within : (k : ℕ) (xs : List Out) (v : ℕ) (j : OpId) → Each (NamesResult k) xs → maker xs v ≡ Some j → j.0 < k
maker_within k [] v j h e = absurd (no_some e)
maker_within k (x ∷ xs) v j h e = elim (cases_Bool (x.variable.0 == v)) [
  | inl on ↦ (let same : h.0.0 ≡ j = some_same (sym (made_here x xs v h.0.0 h.0.1.0 on) ∙ e) in subst (λ (z : OpId). z.0 < k) same h.0.1.2)
  | inr off ↦ maker_within k xs v j h.1 (sym (cond-false _ _ _ off) ∙ e)
]

-- no out has this value
unnamed : (k : ℕ) (xs : List Out) (v : ℕ) (j : OpId) (value : Source) → Each (NamesResult k) xs → Each (λ (y : Out). y.value.value ≢ value) xs → maker xs v ≡ Some j → value ≡ source.Result j → ⊥
unnamed k [] v j value h a e is = absurd (no_some e)
unnamed k (x ∷ xs) v j value h a e is = elim (cases_Bool (x.variable.0 == v)) [
  | inl on ↦ (let same : h.0.0 ≡ j = some_same (sym (made_here x xs v h.0.0 h.0.1.0 on) ∙ e) in a.0 (h.0.1.0 ∙ ap source.Result same ∙ sym is))
  | inr off ↦ unnamed k xs v j value h.1 a.1 (sym (cond-false _ _ _ off) ∙ e) is
]

result_same : (i j : OpId) → i.0 ≡ j.0 → i ≡ j
result_same i j e = (λ k. record { 0 = e k })

-- the chain of what makes a variable begins with what the variable holds
pub entered_maker : (k : ℕ) (xs : List Out) (f : ℕ → ℕ) (v : ℕ) (j : OpId) → Each (NamesResult k) xs → AreApart xs → maker xs v ≡ Some j → entered xs f j.0 ≡ f v
entered_maker k [] f v j h a e = absurd (no_some e)
entered_maker k (x ∷ xs) f v j h a e = elim (cases_Bool (x.variable.0 == v)) [
  | inl on ↦
      let same : h.0.0 ≡ j = some_same (sym (made_here x xs v h.0.0 h.0.1.0 on) ∙ e) in
      let is : is_result j.0 x.value.value ≡ true = ap (is_result j.0) h.0.1.0 ∙ eq-eqb h.0.0.0 j.0 (ap (λ (z : OpId). z.0) same) in
      cond-true _ _ _ is ∙ ap f (eqb-true x.variable.0 v on)
  | inr off ↦
      let rest = sym (cond-false _ _ _ off) ∙ e in
      elim (cases_Bool (is_result j.0 x.value.value)) [
        | inl is ↦
            let number : (h.0.0.0 == j.0) ≡ true = sym (ap (is_result j.0) h.0.1.0) ∙ is in
            absurd (unnamed k xs v j x.value.value h.1 (each_map (λ (y : Out). (y.variable.0 ≢ x.variable.0) × (y.value.value ≢ x.value.value)) (λ (y : Out). y.value.value ≢ x.value.value) xs (λ y d. d.1) a.0) rest (h.0.1.0 ∙ ap source.Result (result_same h.0.0 j (eqb-true h.0.0.0 j.0 number))))
        | inr not_ ↦ cond-false _ _ _ not_ ∙ entered_maker k xs f v j h.1 a.1 rest
      ]
]

abbrev pub IsMade : List Out → Out → Type 0
IsMade xs x = (j : OpId) × ((x.value.value ≡ source.Result j) × (maker xs x.variable.0 ≡ Some j))

-- each out's operation makes its variable
pub all_made : (k : ℕ) (xs : List Out) → Each (NamesResult k) xs → AreApart xs → Each (IsMade xs) xs
all_made k [] h a = tt
all_made k (x ∷ xs) h a = (
  (h.0.0, (h.0.1.0, made_here x xs x.variable.0 h.0.0 h.0.1.0 (eq-eqb x.variable.0 x.variable.0 refl))),
  each_both (λ (y : Out). (y.variable.0 ≢ x.variable.0) × (y.value.value ≢ x.value.value)) (IsMade xs) (IsMade (x ∷ xs)) xs
      (λ y d m. (m.0, (m.1.0, cond-false _ _ _ (ne_eqb x.variable.0 y.variable.0 (λ e. d.0 (sym e))) ∙ m.1.1))) a.0 (all_made k xs h.1 a.1),
)

-- the other search for what makes a variable finds the same
pub maker_again : (k : ℕ) (xs : List Out) (v : ℕ) (j : OpId) → Each (NamesResult k) xs → maker xs v ≡ Some j → rules.maker v xs ≡ Some j
maker_again k [] v j h e = absurd (no_some e)
maker_again k (x ∷ xs) v j h e = elim (cases_Bool (x.variable.0 == v)) [
  | inl on ↦
      let same : h.0.0 ≡ j = some_same (sym (made_here x xs v h.0.0 h.0.1.0 on) ∙ e) in
      cond-true _ _ _ on ∙ ap (λ z. rules.result_or (result_of z) (rules.maker v xs)) h.0.1.0 ∙ ap (λ z. Some z) same
  | inr off ↦ cond-false _ _ _ off ∙ maker_again k xs v j h.1 (sym (cond-false _ _ _ off) ∙ e)
]
