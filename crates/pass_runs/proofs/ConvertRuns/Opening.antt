-- Outs, each variable once.
use Rattle.std.proofs.Common.{◌≡◌, ◌∙◌, ℕ, Bool, true, false, ◌||◌, true≢false, refl, ap, ap₂, sym, List, [], ◌∷◌}
use Rattle.std.proofs.lemmas.Bool.{eqb-true, eq-eqb}
use Rattle.std.specs.Prelude.{◌==◌, if◌then◌else◌, slice_get}
use Rattle.hls_base.specs.declared.number.VarId.{VarId}
use Rattle.ir_core.specs.declared.body.Operand.{Operand}
use Rattle.ir_core.specs.declared.body.Out.{Out}
use Rattle.ir_core.specs.Bodies.{OpTree, Words, operand, with_word}
use Rattle.ir_core.specs.Bodies as b
use Rattle.ir_core.specs.Trees.{BlockTree}
use Rattle.passes.specs.Conversion.Outs.{out, held_or, is_set, with_out, with_outs}
use Rattle.passes.specs.Conversion.Merging.{opened}
use Rattle.pass_runs.specs.ConvertRuns.Blocks.{Once, IsOpen}
use Rattle.pass_runs.specs.ConvertRuns.Typed.{BlockIsTyped, OutIsTyped, OutsAreTyped}

-- ---- numbers that are the same or not

pub same_number : (i j : ℕ) → (i == j) ≡ true → i ≡ j
same_number i j e = eqb-true i j e

pub itself_number : (i : ℕ) → (i == i) ≡ true
itself_number i = eq-eqb i i refl

pub turned_number : (i j : ℕ) → (i == j) ≡ (j == i)
turned_number i j = by (i == j) (j == i) refl refl where
  by : (b c : Bool) → (i == j) ≡ b → (j == i) ≡ c → b ≡ c
  by true true e k = refl
  by false false e k = refl
  by true false e k = absurd (true≢false (sym (eq-eqb j i (sym (eqb-true i j e))) ∙ k))
  by false true e k = absurd (true≢false (sym (eq-eqb i j (sym (eqb-true j i k))) ∙ e))

pub left_false : (x y : Bool) → (x || y) ≡ false → x ≡ false
left_false false y e = refl
left_false true y e = e

pub right_false : (x y : Bool) → (x || y) ≡ false → y ≡ false
right_false false y e = e
right_false true y e = absurd cc

-- ---- each variable once

pub not_set_with : (os : List Out) (v u : VarId) (x : Operand) → is_set os u ≡ false → (u.0 == v.0) ≡ false → is_set (with_out os v x) u ≡ false
not_set_with [] v u x h k = ap (λ b. b || false) k
not_set_with (o ∷ os) v u x h k = by (v.0 == o.variable.0) (not_set_with os v u x (right_false (u.0 == o.variable.0) (is_set os u) h) k) where
  by : (c : Bool) → is_set (with_out os v x) u ≡ false → is_set (if c then out o.variable x ∷ os else o ∷ with_out os v x) u ≡ false
  by true q = h
  by false q = ap₂ (λ a b. a || b) (left_false (u.0 == o.variable.0) (is_set os u) h) q

pub once_with : (os : List Out) (v : VarId) (x : Operand) → Once os → Once (with_out os v x)
once_with [] v x h = (refl, tt)
once_with (o ∷ os) v x h = by (v.0 == o.variable.0) refl (once_with os v x h.1) where
  by : (c : Bool) → (v.0 == o.variable.0) ≡ c → Once (with_out os v x) → Once (if c then out o.variable x ∷ os else o ∷ with_out os v x)
  by true e q = h
  by false e q = (not_set_with os v o.variable x h.0 (turned_number o.variable.0 v.0 ∙ e), q)

pub once_all : (os xs : List Out) → Once os → Once (with_outs os xs)
once_all os [] h = h
once_all os (x ∷ xs) h = once_all (with_out os x.variable x.value) xs (once_with os x.variable x.value h)

-- ---- what the variables hold then

module _ (t : Words) (results : List ℕ) where
  abbrev after : List Out → (ℕ → ℕ) → ℕ → ℕ
  after os f = b.outs os t results f

  outs_free : (os : List Out) (f g : ℕ → ℕ) (i : ℕ) → f i ≡ g i → after os f i ≡ after os g i
  outs_free [] f g i h = h
  outs_free (o ∷ os) f g i h =
      outs_free os (with_word f o.variable.0 (operand t results o.value)) (with_word g o.variable.0 (operand t results o.value)) i (ap (λ w. if o.variable.0 == i then operand t results o.value else w) h)

  pub outs_at : (os : List Out) (f : ℕ → ℕ) (v : VarId) → is_set os v ≡ false → after os f v.0 ≡ f v.0
  outs_at [] f v h = refl
  outs_at (o ∷ os) f v h =
      outs_at os (with_word f o.variable.0 (operand t results o.value)) v (right_false (v.0 == o.variable.0) (is_set os v) h)
      ∙ ap (λ c. if c then operand t results o.value else f v.0) (turned_number o.variable.0 v.0 ∙ left_false (v.0 == o.variable.0) (is_set os v) h)

  set_at : (os : List Out) (f : ℕ → ℕ) (v : VarId) (w : ℕ) → is_set os v ≡ false → after os (with_word f v.0 w) v.0 ≡ w
  set_at os f v w h = outs_at os (with_word f v.0 w) v h ∙ ap (λ c. if c then w else f v.0) (itself_number v.0)

  -- what a variable holds behind outs
  pub held_after : (os : List Out) → Once os → (v : VarId) (x : Operand) → (f : ℕ → ℕ) → operand t results x ≡ f v.0 → operand t results (held_or os v x) ≡ after os f v.0
  held_after [] h v x f e = e
  held_after (o ∷ os) h v x f e = by (v.0 == o.variable.0) refl (held_after os h.1 v x f e) where
    by : (c : Bool) → (v.0 == o.variable.0) ≡ c → operand t results (held_or os v x) ≡ after os f v.0
        → operand t results (if c then o.value else held_or os v x) ≡ after os (with_word f o.variable.0 (operand t results o.value)) v.0
    by true k q =
        let p : o.variable.0 ≡ v.0 = sym (same_number v.0 o.variable.0 k) in
        sym (set_at os f o.variable (operand t results o.value) h.0) ∙ ap (after os (with_word f o.variable.0 (operand t results o.value))) p
    by false k q =
        q ∙ outs_free os f (with_word f o.variable.0 (operand t results o.value)) v.0 (sym (ap (λ c. if c then operand t results o.value else f v.0) (turned_number o.variable.0 v.0 ∙ k)))

  pub with_after : (os : List Out) → Once os → (v : VarId) (x : Operand) (f : ℕ → ℕ) (i : ℕ) → after (with_out os v x) f i ≡ with_word (after os f) v.0 (operand t results x) i
  with_after [] h v x f i = refl
  with_after (o ∷ os) h v x f i = by (v.0 == o.variable.0) refl (with_after os h.1 v x (with_word f o.variable.0 (operand t results o.value)) i) where
    by_place : (c : Bool) → (v.0 == i) ≡ c → v.0 ≡ o.variable.0
        → after os (with_word f o.variable.0 (operand t results x)) i ≡ (if c then operand t results x else after os (with_word f o.variable.0 (operand t results o.value)) i)
    by_place true k p =
        let q : o.variable.0 ≡ i = sym p ∙ same_number v.0 i k in
        ap (after os (with_word f o.variable.0 (operand t results x))) (sym q) ∙ set_at os f o.variable (operand t results x) h.0
    by_place false k p =
        let q : (o.variable.0 == i) ≡ false = ap (λ n. n == i) (sym p) ∙ k in
        outs_free os (with_word f o.variable.0 (operand t results x)) (with_word f o.variable.0 (operand t results o.value)) i
        (ap (λ c. if c then operand t results x else f i) q ∙ sym (ap (λ c. if c then operand t results o.value else f i) q))

    by : (c : Bool) → (v.0 == o.variable.0) ≡ c → after (with_out os v x) (with_word f o.variable.0 (operand t results o.value)) i ≡ with_word (after os (with_word f o.variable.0 (operand t results o.value))) v.0 (operand t results x) i
        → after (if c then out o.variable x ∷ os else o ∷ with_out os v x) f i ≡ with_word (after os (with_word f o.variable.0 (operand t results o.value))) v.0 (operand t results x) i
    by true k q = by_place (v.0 == i) refl (same_number v.0 o.variable.0 k)
    by false k q = q

  pub all_after : (os xs : List Out) → Once os → (f : ℕ → ℕ) → after (with_outs os xs) f ≡ after xs (after os f)
  all_after os [] h f = refl
  all_after os (x ∷ xs) h f =
      all_after (with_out os x.variable x.value) xs (once_with os x.variable x.value h) f ∙ ap (after xs) (λ j i. with_after os h x.variable x.value f i j)

-- ---- widths

module _ (widths words : List ℕ) (ops : List OpTree) where
  out_typed : (o : Out) (v : VarId) (x : Operand) → v.0 ≡ o.variable.0 → OutIsTyped widths words ops (out v x) → OutIsTyped widths words ops (out o.variable x)
  out_typed o v x e h = (h.0, ap (slice_get widths) (sym e) ∙ h.1, h.2)

  pub typed_with : (os : List Out) (v : VarId) (x : Operand) → OutsAreTyped widths words ops os → OutIsTyped widths words ops (out v x) → OutsAreTyped widths words ops (with_out os v x)
  typed_with [] v x h k = (k, tt)
  typed_with (o ∷ os) v x h k = by (v.0 == o.variable.0) refl (typed_with os v x h.1 k) where
    by : (c : Bool) → (v.0 == o.variable.0) ≡ c → OutsAreTyped widths words ops (with_out os v x) → OutsAreTyped widths words ops (if c then out o.variable x ∷ os else o ∷ with_out os v x)
    by true e q = (out_typed o v x (same_number v.0 o.variable.0 e) k, h.1)
    by false e q = (h.0, q)

  pub typed_all : (os xs : List Out) → OutsAreTyped widths words ops os → OutsAreTyped widths words ops xs → OutsAreTyped widths words ops (with_outs os xs)
  typed_all os [] h k = h
  typed_all os (x ∷ xs) h k = typed_all (with_out os x.variable x.value) xs (typed_with os x.variable x.value h k.0) k.1

pub opened_open : (widths words : List ℕ) (block : BlockTree) → BlockIsTyped widths words block → IsOpen widths words (opened block)
opened_open widths words block h = record {
  typed = record { ops = h.ops; outs = typed_all widths words block.ops [] block.outs tt h.outs; exit = h.exit };
  once = once_all [] block.outs tt;
}
