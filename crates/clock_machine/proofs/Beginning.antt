-- The lines as a body begins.
use Rattle.std.proofs.Common.{◌≡◌, ◌≢◌, ℕ, zero, suc, ◌%◌, ◌<◌, ◌≤◌, ◌^◌, ◌⊎◌, inl, inr, Bool, true, false, not, List, [], ◌∷◌, length, get_or, slice_get, Option, Some, None, refl, sym, ap, ◌∙◌, subst, arith}
use Rattle.std.proofs.lemmas.Bool.{cases_Bool, cond-true, cond-false, ne_eqb, le-ltb}
use Rattle.std.proofs.lemmas.Option.{slice_get_within, slice_get-get_or}
use Rattle.ir_core.specs.declared.body.Out.{Out}
use Rattle.ir_core.specs.declared.body.Source.{Source}
use Rattle.ir_core.specs.declared.body.Source.TheVariants as source
use Rattle.ir_core.specs.Bodies.{Shapes, Words}
use Rattle.clock_ir.specs.Flows.{TimedOp, TimedBody, is_result, entered, pushed, first_flow}
use Rattle.clock_machine.specs.declared.lines.program.Action.{Action}
use Rattle.clock_machine.specs.declared.lines.program.Line.{Line}
use Rattle.clock_machine.specs.declared.lines.program.Work.{Work}
use Rattle.clock_machine.specs.declared.lines.registers.Registers.{Registers}
use Rattle.clock_machine.specs.Lines.Reads.{Each, entry_in}
use Rattle.clock_machine.specs.Lines.Registers.{HasPushed, held}
use Rattle.clock_machine.specs.Lines.Showing.{HasLines, ShowsChain, ShowsGates, Shows}
use Rattle.clock_machine.proofs.LinesLemmas.Cycles.{rooms_stay, chain_stays, chain_pushed}
use Rattle.clock_machine.specs.Keeping.{IsForm, IsMoment}
use Rattle.clock_machine.specs.Standing.{NamesOne, IsOutOf}
use Rattle.clock_machine.proofs.Made.{apart}

abbrev pub no_values : ℕ → ℕ
no_values j = 0

-- ---- the variable with which a line begins

no_some : {A : Type 0} (x : A) → Some x ≡ None → ⊥
no_some x e = cc

same_some : {A : Type 0} (x y : A) → Some x ≡ Some y → x ≡ y
same_some x y e = cc

pub entered_none : (outs : List Out) (variables : ℕ → ℕ) (k : ℕ) → entry_in outs k ≡ None → entered outs variables k ≡ 0
entered_none [] variables k e = refl
entered_none (x ∷ xs) variables k e = elim (cases_Bool (is_result k x.value.value)) [
  | inl it ↦ absurd (no_some x.variable.0 (sym (cond-true (is_result k x.value.value) (Some x.variable.0) (entry_in xs k) it) ∙ e))
  | inr other ↦
      cond-false (is_result k x.value.value) (variables x.variable.0) (entered xs variables k) other
      ∙ entered_none xs variables k (sym (cond-false (is_result k x.value.value) (Some x.variable.0) (entry_in xs k) other) ∙ e)
]

pub entered_some : (outs : List Out) (variables : ℕ → ℕ) (k v : ℕ) → entry_in outs k ≡ Some v → entered outs variables k ≡ variables v
entered_some [] variables k v e = absurd (no_some v (sym e))
entered_some (x ∷ xs) variables k v e = elim (cases_Bool (is_result k x.value.value)) [
  | inl it ↦
      cond-true (is_result k x.value.value) (variables x.variable.0) (entered xs variables k) it
      ∙ ap variables (same_some x.variable.0 v (sym (cond-true (is_result k x.value.value) (Some x.variable.0) (entry_in xs k) it) ∙ e))
  | inr other ↦
      cond-false (is_result k x.value.value) (variables x.variable.0) (entered xs variables k) other
      ∙ entered_some xs variables k v (sym (cond-false (is_result k x.value.value) (Some x.variable.0) (entry_in xs k) other) ∙ e)
]

not_result : (count k : ℕ) (x : Source) → NamesOne count x → count ≤ k → is_result k x ≡ false
not_result count k (source.Constant w) names le = refl
not_result count k (source.Variable v) names le = refl
not_result count k (source.Result op) names le = ne_eqb op.0 k (λ e. absurd (omega (arith, e, names, le)))

-- no out names an operation beyond the last one
pub entered_beyond : (shapes : Shapes) (count : ℕ) (outs : List Out) (variables : ℕ → ℕ) (k : ℕ) → Each (IsOutOf shapes count) outs → count ≤ k → entered outs variables k ≡ 0
entered_beyond shapes count [] variables k h le = refl
entered_beyond shapes count (x ∷ xs) variables k h le =
    cond-false (is_result k x.value.value) (variables x.variable.0) (entered xs variables k) (not_result count k x.value.value h.0.1 le)
    ∙ entered_beyond shapes count xs variables k h.1 le

-- ---- what lines show

-- a line of zeros shows that no value was there
pub begun_none : (r : Registers) (lines : List Line) (k word : ℕ) → word ≡ 0 → ShowsChain r lines k no_values → ShowsChain r lines k (pushed word no_values)
begun_none r lines k word e h zero line is lt = h zero line is lt ∙ sym e
begun_none r lines k word e h (suc j) line is lt = h (suc j) line is lt

pub shows_first : (shapes : Shapes) (b : TimedBody) (lines : List Line) (r : Registers) (t : Words) → Each (IsOutOf shapes (length b.ops)) b.outs → held r.variables.items ≡ t.variables → HasLines r lines
    → ((k : ℕ) → k < length b.ops → ShowsChain r lines k (pushed (entered b.outs t.variables k) no_values)) → Shows b lines r (first_flow b t)
unfolding first_flow
shows_first shapes b lines r t named entry rooms chains = record {
  entry = entry;
  rooms = rooms;
  chains = chains;
  made = λ k o is i j line at lt low high. absurd (omega (arith, low));
  beyond = λ k. beyond_at k;
}
  where
    beyond_at : (k j : ℕ) → length b.ops ≤ k → pushed (entered b.outs t.variables k) no_values j ≡ 0
    beyond_at k zero le = entered_beyond shapes (length b.ops) b.outs t.variables k named le
    beyond_at k (suc j) le = refl

-- all gates are open
pub all_open : (gates : ℕ → Bool) → ((j : ℕ) → gates j ≡ true) → ShowsGates gates 0
all_open gates h j lt = h j ∙ sym (ap not (le-ltb j 0 (omega arith)))

-- ---- one operation more

none_or : (x : Option ℕ) → (x ≡ None) ⊎ ((v : ℕ) × (x ≡ Some v))
none_or None = inl refl
none_or (Some v) = inr (v, refl)

pub record Begins (b : TimedBody) (lines : List Line) (variables : ℕ → ℕ) (number : ℕ) (r r2 : Registers) : Type 0 where
  pub rooms : HasLines r2 lines
  pub this : ShowsChain r lines number no_values → ShowsChain r2 lines number (pushed (entered b.outs variables number) no_values)
  pub others : (k : ℕ) → k ≢ number → (chain : ℕ → ℕ) → ShowsChain r lines k chain → ShowsChain r2 lines k chain

pub begins_one : (widths : List ℕ) (b : TimedBody) (w : Work) (r0 r r2 : Registers) (variables : ℕ → ℕ) (number : ℕ) (o : TimedOp) (a : Action) → IsForm widths b w r0 → length r.words.items < 2 ^ 63 → HasLines r w.lines.items
    → slice_get b.ops number ≡ Some o → slice_get w.actions.items number ≡ Some a → (a.entry ≡ None → r2 ≡ r) → ((v : ℕ) → a.entry ≡ Some v → HasPushed r r2 w.lines.items number (variables v)) → Begins b w.lines.items variables number r r2
begins_one widths b w r0 r r2 variables number o a form few rooms o_is a_is rests pushes =
    let lines = w.lines.items in
    let entry_is = (form.work.actions number o a o_is a_is).entry in
    elim (none_or a.entry) [
      | inl none_ ↦
          let same = rests none_ in record {
            rooms = subst (λ (x : Registers). HasLines x lines) (sym same) rooms;
            this = λ h. subst (λ (x : Registers). ShowsChain x lines number (pushed (entered b.outs variables number) no_values)) (sym same)
                (begun_none r lines number (entered b.outs variables number) (entered_none b.outs variables number (sym entry_is ∙ none_)) h);
            others = λ k differ chain h. subst (λ (x : Registers). ShowsChain x lines k chain) (sym same) h;
          }
      | inr some_ ↦
          let v = some_.0 in
          let p = pushes v some_.1 in
          let word = entered_some b.outs variables number v (sym entry_is ∙ some_.1) in
          let within = slice_get_within b.ops number o o_is in
          let there : (line : Line) × (slice_get lines number ≡ Some line) =
          (get_or lines number (record { first = 0; length = 0 }), slice_get-get_or lines number _ (omega (arith, within, form.deep.count, form.work.count))) in record {
            rooms = rooms_stay r r2 lines rooms (apart widths b w r0 form r few rooms) number (variables v) there p;
            this = λ h. subst (λ x. ShowsChain r2 lines number (pushed x no_values)) (sym word) (chain_pushed r r2 lines rooms (apart widths b w r0 form r few rooms) number (variables v) there p no_values h);
            others = λ k differ chain h. chain_stays r r2 lines rooms (apart widths b w r0 form r few rooms) number (variables v) there p k chain differ h;
          }
    ]

-- ---- the first cycle

pub first_moment : (b : TimedBody) (t : Words) → 0 < b.interval → IsMoment b (first_flow b t) 0 0
unfolding first_flow
first_moment b t some = record { phase_is = (let z : 0 ≡ 0 % b.interval = omega (arith, some) in z); time_is = omega arith }

pub first_gates : (b : TimedBody) (t : Words) → ShowsGates (first_flow b t).gates 0
unfolding first_flow
first_gates b t = all_open (λ j. true) (λ j. refl)

pub first_memories : (b : TimedBody) (t : Words) → t.memories ≡ (first_flow b t).memories
unfolding first_flow
first_memories b t = refl
