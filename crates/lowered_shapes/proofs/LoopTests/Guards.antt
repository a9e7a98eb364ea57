-- The operations that are added for guards only make bits.
use Rattle.std.proofs.Common.{◌≡◌, ◌∙◌, ◌⊎◌, inl, inr, ℕ, Bool, true, false, refl, ap, sym, subst, arith, List, [], ◌∷◌, ◌++◌, length, length-append, Option, Some, None}
use Rattle.std.specs.Prelude.{slice_get, if◌then◌else◌}
use Rattle.ir_core.specs.declared.body.OpKind.TheVariants as o
use Rattle.ir_core.specs.declared.body.Operand.{Operand}
use Rattle.ir_core.specs.Bodies.{OpTree}
use Rattle.passes.specs.Lowering.Operations.{Emitted, added, plain}
use Rattle.passes.specs.Lowering.Guards.{Guard, own_bit, under, bit_of, Guarded, guarded}
use Rattle.passes.specs.Numbering.{Scope}
use Rattle.passes.specs.NumberRuns.Ordered.{IsEarly, AreEarly, IsEarlyIfThere}
use Rattle.passes.proofs.NumberRuns.Lists.{last_or}
use Rattle.pass_runs.proofs.LowerRuns.LoweredTrees.Adding.{early_more, early_if_more, GuardsEarly, guards_more}
use Rattle.lowered_shapes.specs.LoopTests.{MakesBit}
use Rattle.lowered_shapes.proofs.LoopTests.Numbers.{kept, after, IsComputed, IsJoined, Stays, adds, Grows, grows_none, grows_one, grows_on}
use Rattle.lowered_shapes.proofs.LoopTests.Heights.{IsSound, sound_more}
use Rattle.lowered_shapes.proofs.LoopTests.Steps.{OnlyBits}

module _ (scope : Scope) where
  -- ---- the bit of a guard

  record Makes (ops : List OpTree) (y : Emitted) : Type 0 where
    sound : IsSound scope y.ops
    grows : Grows scope ops y.ops
    early : IsEarly (length y.ops) y.operand.value
    bits : (m : ℕ) → OnlyBits scope ops m → OnlyBits scope y.ops m

  nothing_made : (ops : List OpTree) → IsSound scope ops → (x : Operand) → IsEarly (length ops) x.value → Makes ops (record { ops = ops; operand = x })
  nothing_made ops s x early = record { sound = s; grows = grows_none scope ops; early = early; bits = λ m b. b }

  bit_made : (ops : List OpTree) → IsSound scope ops → (op : OpTree) → AreEarly (length ops) op.args → MakesBit (after scope ops op) → Makes ops (added ops op)
  bit_made ops s op early made = record { sound = sound_more scope ops op s early; grows = grows_one scope ops op; early = let e = length-append ops (op ∷ []) in omega (arith, e); bits = bits } where
    bits : (m : ℕ) → OnlyBits scope ops m → OnlyBits scope (ops ++ op ∷ []) m
    bits m b i k le e = by (adds scope ops op).becomes where
      at : (slice_get (kept scope ops) i ≡ Some k) ⊎ ((i ≡ length (kept scope ops)) × (after scope ops op ≡ k)) → MakesBit k
      at (inl h) = b i k le h
      at (inr h) = subst MakesBit h.1 made

      by : IsComputed scope ops op ⊎ (IsJoined scope ops op ⊎ Stays scope ops op) → MakesBit k
      by (inl c) = b i k le (ap (λ l. slice_get l i) (sym c.same) ∙ e)
      by (inr (inl j)) = b i k le (ap (λ l. slice_get l i) (sym j.same) ∙ e)
      by (inr (inr t)) = at (last_or (kept scope ops) (after scope ops op) i k (ap (λ l. slice_get l i) (sym t.more) ∙ e))

  own_made : (ops : List OpTree) → IsSound scope ops → (x : Operand) → IsEarly (length ops) x.value → (holds : Bool) → Makes ops (if holds then record { ops = ops; operand = x } else added ops (plain o.Not 1 (x ∷ [])))
  own_made ops s x early true = nothing_made ops s x early
  own_made ops s x early false = bit_made ops s (plain o.Not 1 (x ∷ [])) (early, tt) (record { kind = inl refl; bits = refl; guard = refl; flag = refl })

  under_made : (ops : List OpTree) (outer : Option Operand) (own : Emitted) → IsEarlyIfThere (length ops) outer → Makes ops own → Makes ops (under outer own)
  under_made ops None own early h = h
  under_made ops (Some x) own early h =
      let op = plain o.And 1 (x ∷ own.operand ∷ []) in
      let y = bit_made own.ops h.sound op (early_more (length ops) (length own.ops) h.grows.count x.value early, (h.early, tt)) (record { kind = inr refl; bits = refl; guard = refl; flag = refl }) in
      record { sound = y.sound; grows = grows_on scope ops own.ops (own.ops ++ op ∷ []) h.grows y.grows; early = y.early; bits = λ m b. y.bits m (h.bits m b) }

  guard_made : (ops : List OpTree) → IsSound scope ops → (outer : Option Operand) (g : Guard) (made : Option Operand) → IsEarlyIfThere (length ops) outer → IsEarly (length ops) g.test.value → IsEarlyIfThere (length ops) made → Makes ops (bit_of ops outer g made)
  guard_made ops s outer g (Some x) early test there_ = nothing_made ops s x there_
  guard_made ops s outer g None early test there_ = under_made ops outer (own_bit ops g) early (own_made ops s g.test test g.holds)

  -- ---- all guards

  pub record Opens (ops : List OpTree) (r : Guarded) : Type 0 where
    pub sound : IsSound scope r.ops
    pub grows : Grows scope ops r.ops
    pub early : GuardsEarly (length r.ops) r.guards
    pub bit : IsEarlyIfThere (length r.ops) r.bit
    pub bits : (m : ℕ) → OnlyBits scope ops m → OnlyBits scope r.ops m

  pub opens : (ops : List OpTree) (guards : List Guard) → IsSound scope ops → GuardsEarly (length ops) guards → Opens ops (guarded ops guards)
  opens ops [] s h = record { sound = s; grows = grows_none scope ops; early = tt; bit = tt; bits = λ m b. b }
  opens ops (g ∷ guards) s h =
      let r = guarded ops guards in
      let around = opens ops guards s h.2 in
      let test = early_more (length ops) (length r.ops) around.grows.count g.test.value h.0 in
      let y = bit_of r.ops r.bit g g.made in
      let b = guard_made r.ops around.sound r.bit g g.made around.bit test (early_if_more (length ops) (length r.ops) around.grows.count g.made h.1) in record {
        sound = b.sound;
        grows = grows_on scope ops r.ops y.ops around.grows b.grows;
        early = (early_more (length r.ops) (length y.ops) b.grows.count g.test.value test, b.early, guards_more (length r.ops) (length y.ops) b.grows.count r.guards around.early);
        bit = b.early;
        bits = λ m before. b.bits m (around.bits m before);
      }
