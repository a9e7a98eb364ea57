-- What variables hold behind valid outs.
use Rattle.std.specs.Prelude.{◌==◌, slice_get, if◌then◌else◌}
use Rattle.std.proofs.Common.{◌≡◌, ◌∙◌, ℕ, Bool, true, false, refl, ap, sym, subst, List, [], ◌∷◌, Some}
use Rattle.hls_base.specs.declared.number.VarId.{VarId}
use Rattle.ir_core.specs.declared.body.Operand.{Operand}
use Rattle.ir_core.specs.declared.body.Out.{Out}
use Rattle.ir_core.specs.Bodies.{OpTree}
use Rattle.passes.specs.Conversion.Outs.{out, entry_value, held_or, held, with_out, with_outs}
use Rattle.pass_runs.proofs.ConvertRuns.Opening.{same_number}
use Rattle.valid_trees.specs.Shapes.{FrameShape}
use Rattle.valid_trees.specs.Operands.{IsOperand}
use Rattle.valid_trees.specs.Bodies.{OutIsValid, OutsAreValid}

some_same : {x y : ℕ} → Some x ≡ Some y → x ≡ y
some_same e = cc

module _ (frame : FrameShape) (ops : List OpTree) where
  abbrev Is : ℕ → Operand → Type 0
  Is = IsOperand frame [] ops

  pub held_is : (xs : List Out) → OutsAreValid frame [] ops xs → (v : VarId) (n : ℕ) → slice_get frame.widths v.0 ≡ Some n → (x : Operand) → Is n x → Is n (held_or xs v x)
  held_is [] h v n e x k = k
  held_is (y ∷ xs) h v n e x k = by (v.0 == y.variable.0) refl (held_is xs h.1 v n e x k) where
    by : (c : Bool) → (v.0 == y.variable.0) ≡ c → Is n (held_or xs v x) → Is n (if c then y.value else held_or xs v x)
    by true q z = subst (λ m. Is m y.value) (some_same (sym h.0.there ∙ ap (slice_get frame.widths) (sym (same_number v.0 y.variable.0 q)) ∙ e)) h.0.value
    by false q z = z

  -- behind outs of a block that is entered with it
  pub entry_is : (xs : List Out) → OutsAreValid frame [] ops xs → (v : VarId) (n : ℕ) → slice_get frame.widths v.0 ≡ Some n → Is n (held xs v)
  entry_is xs h v n e = held_is xs h v n e (entry_value v) (record { has = e; distance = refl })

  pub valid_with : (xs : List Out) (v : VarId) (x : Operand) → OutsAreValid frame [] ops xs → OutIsValid frame [] ops (out v x) → OutsAreValid frame [] ops (with_out xs v x)
  valid_with [] v x h k = (k, tt)
  valid_with (y ∷ xs) v x h k = by (v.0 == y.variable.0) refl (valid_with xs v x h.1 k) where
    by : (c : Bool) → (v.0 == y.variable.0) ≡ c → OutsAreValid frame [] ops (with_out xs v x) → OutsAreValid frame [] ops (if c then out y.variable x ∷ xs else y ∷ with_out xs v x)
    by true q z = (record { bits = k.bits; there = ap (slice_get frame.widths) (sym (same_number v.0 y.variable.0 q)) ∙ k.there; value = k.value }, h.1)
    by false q z = (h.0, z)

  pub valid_all : (xs ys : List Out) → OutsAreValid frame [] ops xs → OutsAreValid frame [] ops ys → OutsAreValid frame [] ops (with_outs xs ys)
  valid_all xs [] h k = h
  valid_all xs (y ∷ ys) h k = valid_all (with_out xs y.variable y.value) ys (valid_with xs y.variable y.value h (record { bits = k.0.bits; there = k.0.there; value = k.0.value })) k.1
