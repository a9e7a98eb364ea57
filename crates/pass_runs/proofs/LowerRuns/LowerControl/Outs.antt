-- What variables hold behind a block that sets each of them at most once.
use Rattle.std.proofs.Common.{◌≡◌, ◌∙◌, ℕ, Bool, true, false, ◌||◌, refl, ap, sym, subst, inl, inr, List, [], ◌∷◌, ◌++◌, if◌then◌else◌}
use Rattle.std.specs.Prelude.{◌==◌}
use Rattle.std.proofs.lemmas.Bool.{false≢true}
use Rattle.std.proofs.lemmas.Bool.Decides.{eqb_tells}
use Rattle.hls_base.specs.declared.number.VarId.{VarId}
use Rattle.ir_core.specs.declared.body.Operand.{Operand}
use Rattle.ir_core.specs.declared.body.Out.{Out}
use Rattle.ir_core.specs.Bodies.{Words, operand, with_word, outs}
use Rattle.passes.specs.Lowering.Operations.{entry_value}
use Rattle.passes.specs.Lowering.Outs.{operand_eq, held, without, own_out, with_out}
use Rattle.passes.specs.Lowering.Copies.{outs_set}

-- each variable is set at most once
abbrev pub AreSingle : List Out → Type 0
AreSingle [] = Unit {0}
AreSingle (x ∷ xs) = (outs_set xs x.variable ≡ false) × AreSingle xs

or_left : (a b : Bool) → (a || b) ≡ false → a ≡ false
or_left true b e = e
or_left false b e = refl

or_right : (a b : Bool) → (a || b) ≡ false → b ≡ false
or_right true b e = absurd (false≢true (sym e))
or_right false b e = e

neither : (a b : Bool) → a ≡ false → b ≡ false → (a || b) ≡ false
neither true b e h = e
neither false b e h = h

other_way : (a b : ℕ) → (a == b) ≡ false → (b == a) ≡ false
other_way a b e = elim (eqb_tells b a) [
  | inl h ↦ absurd (no_same (subst (λ n. (n == b) ≡ false) (sym h.1) e))
  | inr h ↦ h.0
] where
  no_same : (b == b) ≡ false → ⊥
  no_same e = elim (eqb_tells b b) [
    | inl h ↦ false≢true (sym e ∙ h.0)
    | inr h ↦ h.1 refl
  ]

pub outs_none : (xs : List Out) (t : Words) (results : List ℕ) (f : ℕ → ℕ) (i : VarId) → outs_set xs i ≡ false → outs xs t results f i.0 ≡ f i.0
outs_none [] t results f i e = refl
outs_none (x ∷ xs) t results f i e =
    outs_none xs t results (with_word f x.variable.0 (operand t results x.value)) i (or_right (x.variable.0 == i.0) (outs_set xs i) e)
    ∙ ap (λ b. if b then operand t results x.value else f i.0) (or_left (x.variable.0 == i.0) (outs_set xs i) e)

pub same_set : (xs : List Out) (v w : VarId) → v.0 ≡ w.0 → outs_set xs v ≡ false → outs_set xs w ≡ false
same_set xs v w e h = subst (λ x. outs_set xs x ≡ false) (λ i. record { 0 = e i }) h

pub outs_held : (xs : List Out) (t : Words) (results : List ℕ) (f : ℕ → ℕ) (i : VarId) → AreSingle xs → f i.0 ≡ t.variables i.0 → outs xs t results f i.0 ≡ operand t results (held xs i)
outs_held [] t results f i single e = e
outs_held (x ∷ xs) t results f i single e = elim (eqb_tells x.variable.0 i.0) [
  | inl h ↦
      outs_none xs t results (with_word f x.variable.0 (operand t results x.value)) i (same_set xs x.variable i h.1 single.0)
      ∙ ap (λ b. if b then operand t results x.value else f i.0) h.0
      ∙ sym (ap (λ b. operand t results (if b then x.value else held xs i)) h.0)
  | inr h ↦
      outs_held xs t results (with_word f x.variable.0 (operand t results x.value)) i single.1 (ap (λ b. if b then operand t results x.value else f i.0) h.0 ∙ e)
      ∙ sym (ap (λ b. operand t results (if b then x.value else held xs i)) h.0)
]

-- ---- a variable that is set

if_unset : (c : Bool) (o : Out) (xs : List Out) (y : VarId) → outs_set xs y ≡ false → (c ≡ false → (o.variable.0 == y.0) ≡ false) → outs_set (if c then xs else o ∷ xs) y ≡ false
if_unset true o xs y h g = h
if_unset false o xs y h g = neither (o.variable.0 == y.0) (outs_set xs y) (g refl) h

without_less : (xs : List Out) (v y : VarId) → outs_set xs y ≡ false → outs_set (without xs v) y ≡ false
without_less [] v y e = refl
without_less (x ∷ xs) v y e =
    if_unset (x.variable.0 == v.0) x (without xs v) y (without_less xs v y (or_right (x.variable.0 == y.0) (outs_set xs y) e)) (λ c. or_left (x.variable.0 == y.0) (outs_set xs y) e)

without_unset : (xs : List Out) (v : VarId) → outs_set (without xs v) v ≡ false
without_unset [] v = refl
without_unset (x ∷ xs) v = if_unset (x.variable.0 == v.0) x (without xs v) v (without_unset xs v) (λ c. c)

if_still_single : (c : Bool) (o : Out) (xs : List Out) → AreSingle xs → outs_set xs o.variable ≡ false → AreSingle (if c then xs else o ∷ xs)
if_still_single true o xs h e = h
if_still_single false o xs h e = (e, h)

without_single : (xs : List Out) (v : VarId) → AreSingle xs → AreSingle (without xs v)
without_single [] v h = tt
without_single (x ∷ xs) v h = if_still_single (x.variable.0 == v.0) x (without xs v) (without_single xs v h.1) (without_less xs v x.variable h.0)

append_unset : (xs ys : List Out) (y : VarId) → outs_set xs y ≡ false → outs_set ys y ≡ false → outs_set (xs ++ ys) y ≡ false
append_unset [] ys y e h = h
append_unset (x ∷ xs) ys y e h = neither (x.variable.0 == y.0) (outs_set (xs ++ ys) y) (or_left (x.variable.0 == y.0) (outs_set xs y) e) (append_unset xs ys y (or_right (x.variable.0 == y.0) (outs_set xs y) e) h)

append_single : (xs : List Out) (o : Out) → AreSingle xs → outs_set xs o.variable ≡ false → AreSingle (xs ++ o ∷ [])
append_single [] o h e = (refl, tt)
append_single (x ∷ xs) o h e = (
  append_unset xs (o ∷ []) x.variable h.0 (neither (o.variable.0 == x.variable.0) false (other_way x.variable.0 o.variable.0 (or_left (x.variable.0 == o.variable.0) (outs_set xs o.variable) e)) refl),
  append_single xs o h.1 (or_right (x.variable.0 == o.variable.0) (outs_set xs o.variable) e),
)

append_none : (xs : List Out) → AreSingle xs → AreSingle (xs ++ [])
append_none [] h = tt
append_none (x ∷ xs) h = (append_unset xs [] x.variable h.0 refl, append_none xs h.1)

pub with_out_single : (xs : List Out) (v : VarId) (x : Operand) → AreSingle xs → AreSingle (with_out xs v x)
with_out_single xs v x h = by (operand_eq (held xs v) x) where
  own : (b : Bool) → AreSingle (without xs v ++ (if b then [] else record { variable = v; value = x } ∷ []))
  own true = append_none (without xs v) (without_single xs v h)
  own false = append_single (without xs v) (record { variable = v; value = x }) (without_single xs v h) (without_unset xs v)

  by : (b : Bool) → AreSingle (if b then xs else without xs v ++ own_out v x)
  by true = h
  by false = own (operand_eq x (entry_value v))

pub if_single : (b : Bool) (xs ys : List Out) → AreSingle xs → AreSingle ys → AreSingle (if b then xs else ys)
if_single true xs ys h g = h
if_single false xs ys h g = g
