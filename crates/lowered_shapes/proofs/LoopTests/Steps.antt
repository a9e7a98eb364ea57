-- As operations are added: where the last value comes early, those that are added behind it only make bits.
use Rattle.std.proofs.Common.{◌≡◌, ◌∙◌, ◌⊎◌, inl, inr, ◌<◌, ◌≤◌, ℕ, true, refl, ap, sym, arith, List, [], ◌∷◌, ◌++◌, length, length-append, Option, Some, None}
use Rattle.std.specs.Prelude.{slice_get}
use Rattle.std.proofs.lemmas.Option.{slice_get_within}
use Rattle.ir_core.specs.declared.body.Operand.{Operand}
use Rattle.ir_core.specs.Bodies.{OpTree}
use Rattle.passes.specs.Numbering.{Scope, result_of, is_common}
use Rattle.passes.specs.NumberRuns.Ordered.{IsEarly, AreEarly}
use Rattle.lowered_shapes.specs.LoopTests.{MakesBit}
use Rattle.lowered_shapes.proofs.LoopTests.Numbers.{kept, value_of, after, new_value, IsComputed, IsJoined, Stays, adds, Grows, grows_one, grows_on, value_stays}
use Rattle.lowered_shapes.proofs.LoopTests.Heights.{height, constant_height, IsSound, early_at, sound_more, joined_behind}

module _ (scope : Scope) where
  -- Of the operations that stay, those from this number on only make bits.
  abbrev pub OnlyBits : List OpTree → ℕ → Type 0
  OnlyBits ops m = (i : ℕ) (k : OpTree) → m ≤ i → slice_get (kept scope ops) i ≡ Some k → MakesBit k

  -- What stands for the operand is made before the operation of this number.
  abbrev pub IsLow : List OpTree → ℕ → Operand → Type 0
  IsLow ops m x = height (value_of scope ops x) ≤ m

  abbrev pub IsLowIfThere : List OpTree → ℕ → Option Operand → Type 0
  IsLowIfThere ops m None = Unit {0}
  IsLowIfThere ops m (Some x) = IsLow ops m x

  -- the first three operands
  abbrev pub AreLow : List OpTree → ℕ → List Operand → Type 0
  AreLow ops m args = IsLowIfThere ops m (slice_get args 0) × IsLowIfThere ops m (slice_get args 1) × IsLowIfThere ops m (slice_get args 2)

  -- Where the operand is low, the operations behind a base that are not only make bits.
  pub record Follows (base ops : List OpTree) (x : Operand) : Type 0 where
    pub sound : IsSound scope ops
    pub grows : Grows scope base ops
    pub early : IsEarly (length ops) x.value
    pub bits : (m : ℕ) → IsLow ops m x → OnlyBits base m → OnlyBits ops m

  -- It is so where an operation's operands are low.
  abbrev pub Waits : List OpTree → List OpTree → List Operand → Type 0
  Waits base ops args = (m : ℕ) → AreLow ops m args → OnlyBits base m → OnlyBits ops m

  -- ---- one operation more

  module _ (ops : List OpTree) (op : OpTree) (s : IsSound scope ops) where
    are_low : (m : ℕ) → ((i : ℕ) (x : Operand) → i < 3 → slice_get op.args i ≡ Some x → IsLow ops m x) → AreLow ops m op.args
    are_low m each = (at 0 (omega arith) (slice_get op.args 0) refl, at 1 (omega arith) (slice_get op.args 1) refl, at 2 (omega arith) (slice_get op.args 2) refl) where
      at : (i : ℕ) → i < 3 → (c : Option Operand) → slice_get op.args i ≡ c → IsLowIfThere ops m c
      at i less None e = tt
      at i less (Some x) e = each i x less e

    bits_more : (m : ℕ) → height (new_value scope ops op) ≤ m → (is_common op.kind ≡ true → AreLow ops m op.args → OnlyBits ops m) → OnlyBits (ops ++ op ∷ []) m
    bits_more m le before i k more e = by (adds scope ops op).becomes where
      by : IsComputed scope ops op ⊎ (IsJoined scope ops op ⊎ Stays scope ops op) → MakesBit k
      by (inl c) =
          let low = are_low m (λ n x less at. (let p = constant_height (value_of scope ops x) (c.arguments n x less at) in omega (arith, p))) in
          before c.common low i k more (ap (λ l. slice_get l i) (sym c.same) ∙ e)
      by (inr (inl j)) =
          let h = ap height j.gives in
          let low = are_low m (λ n x less at. (let p = joined_behind scope ops op s j n x less at in omega (arith, le, p, h))) in
          before j.common low i k more (ap (λ l. slice_get l i) (sym j.same) ∙ e)
      by (inr (inr t)) =
          let p = slice_get_within (kept scope (ops ++ op ∷ [])) i k e in
          let q = ap length t.more in
          let r = length-append (kept scope ops) (after scope ops op ∷ []) in
          let h = ap height t.gives in
          absurd (omega (arith, le, more, p, q, r, h))

    pub follows_more : (base : List OpTree) → Grows scope base ops → AreEarly (length ops) op.args → (is_common op.kind ≡ true → Waits base ops op.args) → Follows base (ops ++ op ∷ []) (result_of (length ops))
    follows_more base g early w = record {
      sound = sound_more scope ops op s early;
      grows = grows_on scope base ops (ops ++ op ∷ []) g (grows_one scope ops op);
      early = let e = length-append ops (op ∷ []) in omega (arith, e);
      bits = λ m le b. bits_more m le (λ common low. w common m low b);
    }

  -- ---- further operations

  pub low_before : (ops more : List OpTree) → Grows scope ops more → (x : Operand) → IsEarly (length ops) x.value → (m : ℕ) → IsLow more m x → IsLow ops m x
  low_before ops more g x early m h = let e = ap height (value_stays scope ops more g x early) in omega (arith, h, e)

  pub waits_on : (base ops more : List OpTree) → Grows scope ops more → ((m : ℕ) → OnlyBits ops m → OnlyBits more m) → (args : List Operand) → AreEarly (length ops) args → Waits base ops args → Waits base more args
  waits_on base ops more g bits args early w m low b = bits m (w m (at 0 (slice_get args 0) refl low.0, at 1 (slice_get args 1) refl low.1, at 2 (slice_get args 2) refl low.2) b) where
    at : (i : ℕ) (c : Option Operand) → slice_get args i ≡ c → IsLowIfThere more m c → IsLowIfThere ops m c
    at i None e h = tt
    at i (Some x) e h = low_before ops more g x (early_at scope (length ops) args early i x e) m h
