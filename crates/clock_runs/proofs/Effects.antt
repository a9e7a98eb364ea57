-- What an operation gives and stores, by whether it computes, loads or stores.
use Rattle.std.proofs.Common.{◌≡◌, ℕ, ◌==◌, if◌then◌else◌, ◌⊎◌, inl, inr, List, Bool, true, false, Option, Some, None, refl, sym, ap, ◌∙◌}
use Rattle.std.proofs.lemmas.Bool.{cases_Bool, both_ways, eqb-true, eq-eqb, cond-true, cond-false, false≢true}
use Rattle.hls_base.specs.declared.number.ArrayId.{ArrayId}
use Rattle.ir_core.specs.declared.body.OpKind.{OpKind}
use Rattle.ir_core.specs.declared.body.OpKind.TheVariants as o
use Rattle.ir_core.specs.Value as v
use Rattle.ir_core.specs.Bodies.{OpTree, Shapes, Words, Performed, performed, effect, dims_of, address_of, subscripts, stored, with_word, with_element, loaded, with_stored}

pub data Sort : Type 0 where
  computing : Sort
  loading : Sort
  storing : Sort

abbrev pub sort_of : OpKind → Sort
sort_of o.Load = loading
sort_of o.Store = storing
sort_of _ = computing

-- the words of all memories
abbrev pub Memories : Type 0
Memories = ℕ → ℕ → ℕ

abbrev pub loaded_from : Shapes → Option ArrayId → List ℕ → Memories → ℕ
loaded_from shapes None args memories = 0
loaded_from shapes (Some array) args memories = memories array.0 (address_of (dims_of shapes array) args)

abbrev pub stored_to : Shapes → Option ArrayId → List ℕ → Memories → Memories
stored_to shapes None args memories = memories
stored_to shapes (Some array) args memories = with_element array.0 (address_of (dims_of shapes array) (subscripts args)) (stored args) memories

abbrev pub value_by : Shapes → OpTree → Sort → Bool → ℕ → List ℕ → Memories → ℕ
value_by shapes op computing allowed from args memories = v.value op.kind op.signed op.bits from args
value_by shapes op loading allowed from args memories = if allowed then loaded_from shapes op.array args memories else 0
value_by shapes op storing allowed from args memories = 0

abbrev pub memories_by : Shapes → OpTree → Sort → Bool → List ℕ → Memories → Memories
memories_by shapes op computing allowed args memories = memories
memories_by shapes op loading allowed args memories = memories
memories_by shapes op storing allowed args memories = if allowed then stored_to shapes op.array args memories else memories

-- the same effect
abbrev pub effect_by : Shapes → OpTree → Sort → Bool → ℕ → List ℕ → Words → Performed
effect_by shapes op sort allowed from args t =
    performed (value_by shapes op sort allowed from args t.memories) (record { variables = t.variables; memories = memories_by shapes op sort allowed args t.memories })

load_is : (shapes : Shapes) (op : OpTree) (array : Option ArrayId) (allowed : Bool) (from : ℕ) (args : List ℕ) (t : Words) → op.array ≡ array → effect shapes op o.Load allowed from args t ≡ effect_by shapes op loading allowed from args t
load_is shapes op None true from args t e = ap (λ a. performed (loaded shapes a args t) t) e ∙ ap (λ a. performed (loaded_from shapes a args t.memories) t) (sym e)
load_is shapes op (Some array) true from args t e = ap (λ a. performed (loaded shapes a args t) t) e ∙ ap (λ a. performed (loaded_from shapes a args t.memories) t) (sym e)
load_is shapes op array false from args t e = refl

store_is : (shapes : Shapes) (op : OpTree) (array : Option ArrayId) (allowed : Bool) (from : ℕ) (args : List ℕ) (t : Words) → op.array ≡ array → effect shapes op o.Store allowed from args t ≡ effect_by shapes op storing allowed from args t
store_is shapes op None true from args t e = ap (λ a. performed 0 (with_stored shapes a args t)) e ∙ ap (λ a. performed 0 (record { variables = t.variables; memories = stored_to shapes a args t.memories })) (sym e)
store_is shapes op (Some array) true from args t e = ap (λ a. performed 0 (with_stored shapes a args t)) e ∙ ap (λ a. performed 0 (record { variables = t.variables; memories = stored_to shapes a args t.memories })) (sym e)
store_is shapes op array false from args t e = refl

effect_at : (shapes : Shapes) (op : OpTree) (kind : OpKind) (allowed : Bool) (from : ℕ) (args : List ℕ) (t : Words) → op.kind ≡ kind → effect shapes op kind allowed from args t ≡ effect_by shapes op (sort_of kind) allowed from args t
effect_at shapes op o.Load allowed from args t e = load_is shapes op op.array allowed from args t refl
effect_at shapes op o.Store allowed from args t e = store_is shapes op op.array allowed from args t refl
effect_at shapes op o.Add allowed from args t e = ap (λ k. performed (v.value k op.signed op.bits from args) t) (sym e)
effect_at shapes op o.Sub allowed from args t e = ap (λ k. performed (v.value k op.signed op.bits from args) t) (sym e)
effect_at shapes op o.Mul allowed from args t e = ap (λ k. performed (v.value k op.signed op.bits from args) t) (sym e)
effect_at shapes op o.Div allowed from args t e = ap (λ k. performed (v.value k op.signed op.bits from args) t) (sym e)
effect_at shapes op o.Rem allowed from args t e = ap (λ k. performed (v.value k op.signed op.bits from args) t) (sym e)
effect_at shapes op o.And allowed from args t e = ap (λ k. performed (v.value k op.signed op.bits from args) t) (sym e)
effect_at shapes op o.Or allowed from args t e = ap (λ k. performed (v.value k op.signed op.bits from args) t) (sym e)
effect_at shapes op o.Xor allowed from args t e = ap (λ k. performed (v.value k op.signed op.bits from args) t) (sym e)
effect_at shapes op o.Shl allowed from args t e = ap (λ k. performed (v.value k op.signed op.bits from args) t) (sym e)
effect_at shapes op o.Shr allowed from args t e = ap (λ k. performed (v.value k op.signed op.bits from args) t) (sym e)
effect_at shapes op o.Eq allowed from args t e = ap (λ k. performed (v.value k op.signed op.bits from args) t) (sym e)
effect_at shapes op o.Ne allowed from args t e = ap (λ k. performed (v.value k op.signed op.bits from args) t) (sym e)
effect_at shapes op o.Lt allowed from args t e = ap (λ k. performed (v.value k op.signed op.bits from args) t) (sym e)
effect_at shapes op o.Le allowed from args t e = ap (λ k. performed (v.value k op.signed op.bits from args) t) (sym e)
effect_at shapes op o.Not allowed from args t e = ap (λ k. performed (v.value k op.signed op.bits from args) t) (sym e)
effect_at shapes op o.Neg allowed from args t e = ap (λ k. performed (v.value k op.signed op.bits from args) t) (sym e)
effect_at shapes op o.Select allowed from args t e = ap (λ k. performed (v.value k op.signed op.bits from args) t) (sym e)
effect_at shapes op o.Widen allowed from args t e = ap (λ k. performed (v.value k op.signed op.bits from args) t) (sym e)
effect_at shapes op o.Narrow allowed from args t e = ap (λ k. performed (v.value k op.signed op.bits from args) t) (sym e)
effect_at shapes op o.Truth allowed from args t e = ap (λ k. performed (v.value k op.signed op.bits from args) t) (sym e)
effect_at shapes op o.Copy allowed from args t e = ap (λ k. performed (v.value k op.signed op.bits from args) t) (sym e)
effect_at shapes op (o.Fused p) allowed from args t e = ap (λ k. performed (v.value k op.signed op.bits from args) t) (sym e)

pub effect_is : (shapes : Shapes) (op : OpTree) (allowed : Bool) (from : ℕ) (args : List ℕ) (t : Words) → effect shapes op op.kind allowed from args t ≡ effect_by shapes op (sort_of op.kind) allowed from args t
effect_is shapes op allowed from args t = effect_at shapes op op.kind allowed from args t refl

-- ---- accesses of the word at an address of a memory

abbrev pub Reaches : Shapes → Option ArrayId → List ℕ → ℕ → ℕ → Type 0
Reaches shapes None is_ memory address = ⊥
Reaches shapes (Some array) is_ memory address = (array.0 ≡ memory) × (address_of (dims_of shapes array) is_ ≡ address)

abbrev pub Loads : Shapes → OpTree → Sort → Bool → List ℕ → ℕ → ℕ → Type 0
Loads shapes op computing allowed args memory address = ⊥
Loads shapes op loading allowed args memory address = (allowed ≡ true) × Reaches shapes op.array args memory address
Loads shapes op storing allowed args memory address = ⊥

abbrev pub Stores : Shapes → OpTree → Sort → Bool → List ℕ → ℕ → ℕ → Type 0
Stores shapes op computing allowed args memory address = ⊥
Stores shapes op loading allowed args memory address = ⊥
Stores shapes op storing allowed args memory address = (allowed ≡ true) × Reaches shapes op.array (subscripts args) memory address

pub stores_storing : (shapes : Shapes) (op : OpTree) (sort : Sort) (allowed : Bool) (args : List ℕ) (memory address : ℕ) → Stores shapes op sort allowed args memory address → sort ≡ storing
stores_storing shapes op computing allowed args memory address h = elim h [ ]
stores_storing shapes op loading allowed args memory address h = elim h [ ]
stores_storing shapes op storing allowed args memory address h = refl

-- whether this word is stored, and the word then
abbrev Changes : Shapes → Option ArrayId → List ℕ → Memories → ℕ → ℕ → Type 0
Changes shapes array args memories memory address =
    (Reaches shapes array (subscripts args) memory address × (stored_to shapes array args memories memory address ≡ stored args))
    ⊎ ((Reaches shapes array (subscripts args) memory address → ⊥) × (stored_to shapes array args memories memory address ≡ memories memory address))

changes : (shapes : Shapes) (array : Option ArrayId) (args : List ℕ) (memories : Memories) (memory address : ℕ) → Changes shapes array args memories memory address
changes shapes None args memories memory address = inr ((λ h. h), refl)
changes shapes (Some array) args memories memory address =
    let at = address_of (dims_of shapes array) (subscripts args) in
    let row = with_word (memories memory) at (stored args) in
    elim (cases_Bool (array.0 == memory)) [
      | inr off ↦ inr ((λ h. both_ways _ off (eq-eqb array.0 memory h.0)), ap (λ (f : ℕ → ℕ). f address) (cond-false _ _ _ off))
      | inl on ↦
          let same : stored_to shapes (Some array) args memories memory address ≡ row address = ap (λ (f : ℕ → ℕ). f address) (cond-true _ _ _ on) in
          elim (cases_Bool (at == address)) [
            | inr off ↦ inr ((λ h. both_ways _ off (eq-eqb at address h.1)), same ∙ cond-false _ _ _ off)
            | inl here ↦ inl ((eqb-true array.0 memory on, eqb-true at address here), same ∙ cond-true _ _ _ here)
          ]
    ]

-- an operation stores to a word, or leaves it
pub memory_step : (shapes : Shapes) (op : OpTree) (sort : Sort) (allowed : Bool) (args : List ℕ) (memories : Memories) (memory address : ℕ) →
    (Stores shapes op sort allowed args memory address × (memories_by shapes op sort allowed args memories memory address ≡ stored args))
    ⊎ ((Stores shapes op sort allowed args memory address → ⊥) × (memories_by shapes op sort allowed args memories memory address ≡ memories memory address))
memory_step shapes op computing allowed args memories memory address = inr ((λ h. h), refl)
memory_step shapes op loading allowed args memories memory address = inr ((λ h. h), refl)
memory_step shapes op storing false args memories memory address = inr ((λ h. false≢true h.0), refl)
memory_step shapes op storing true args memories memory address =
    elim (changes shapes op.array args memories memory address) [
      | inl h ↦ inl ((refl, h.0), h.1)
      | inr h ↦ inr ((λ s. h.0 s.1), h.1)
    ]

loaded_same : (shapes : Shapes) (array : Option ArrayId) (args : List ℕ) (f g : Memories) → ((memory address : ℕ) → Reaches shapes array args memory address → f memory address ≡ g memory address)
    → loaded_from shapes array args f ≡ loaded_from shapes array args g
loaded_same shapes None args f g e = refl
loaded_same shapes (Some array) args f g e = e array.0 (address_of (dims_of shapes array) args) (refl, refl)

-- equal words where it loads give equal values
pub value_same : (shapes : Shapes) (op : OpTree) (sort : Sort) (allowed : Bool) (from : ℕ) (args : List ℕ) (f g : Memories)
    → ((memory address : ℕ) → Loads shapes op sort allowed args memory address → f memory address ≡ g memory address)
    → value_by shapes op sort allowed from args f ≡ value_by shapes op sort allowed from args g
value_same shapes op computing allowed from args f g e = refl
value_same shapes op loading true from args f g e = loaded_same shapes op.array args f g (λ memory address h. e memory address (refl, h))
value_same shapes op loading false from args f g e = refl
value_same shapes op storing allowed from args f g e = refl
