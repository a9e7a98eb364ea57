-- The words behind the stores of one cycle of the clocked run.
use Rattle.std.proofs.Common.{◌≡◌, ◌≢◌, ℕ, zero, suc, ◌⊎◌, inl, inr, Bool, true, false, List, [], ◌∷◌, map, Some, None, refl, sym, ap, ◌∙◌, subst, arith}
use Rattle.std.specs.Prelude.{slice_get, if◌then◌else◌}
use Rattle.std.proofs.lemmas.Bool.{cases_Bool, cases_eq, eq-eqb, ne_eqb, cond-true, cond-false, false≢true}
use Rattle.hls_base.specs.declared.number.ArrayId.{ArrayId}
use Rattle.ir_core.specs.declared.body.OpKind.{OpKind}
use Rattle.ir_core.specs.declared.body.OpKind.TheVariants as o
use Rattle.ir_core.specs.Bodies.{Performed, stored, with_word, with_element, first_bits}
use Rattle.clock_ir.specs.Flows.{TimedOp, TimedBody, Flow, operand_at, holds_at, performed, starts, behind_stores, tick}
use Rattle.clock_runs.proofs.Effects.{Memories, Sort, computing, loading, storing, sort_of, stored_to, memories_by, effect_is}
use Rattle.clock_runs.proofs.Lists.{some_same, no_some}
use Rattle.datapath.specs.Plans.{Plan, body_at}
use Rattle.circuit_agreement.specs.CircuitFlow.Flows.{Stores, store_address}

-- the operation stores a word of the array at this address
pub record Alters (p : Plan) (i : ℕ) (f : Flow) (a address : ℕ) (it : TimedOp) : Type 0 where
  pub array : ArrayId
  pub number : array.0 ≡ a
  pub stores : Stores p i f array it
  pub address_ : store_address p i f array it ≡ address

module _ (p : Plan) (i : ℕ) (f : Flow) where
  abbrev body : TimedBody
  body = body_at p i

  abbrev pub arguments_of : TimedOp → List ℕ
  arguments_of it = map (operand_at body f it.start) it.op.args

  abbrev pub word_of : TimedOp → ℕ
  word_of it = stored (arguments_of it)

  abbrev one_store : TimedOp → Memories → Memories
  one_store it memories = if starts body f it then (performed p.program.shapes body f it memories).words.memories else memories

  abbrev allowed : TimedOp → Bool
  allowed it = holds_at body f it.start it.op.guard

  performed_is : (it : TimedOp) (memories : Memories) → (performed p.program.shapes body f it memories).words.memories
      ≡ memories_by p.program.shapes it.op (sort_of it.op.kind) (allowed it) (arguments_of it) memories
  performed_is it memories =
      ap (λ (r : Performed). r.words.memories) (effect_is p.program.shapes it.op (allowed it) (first_bits p.program.shapes.widths (map (λ (q : TimedOp). q.op) body.ops) it.op it.op.args)
      (arguments_of it) (record { variables = f.entry; memories = memories }))

  -- ---- one store

  storing_is : (kind : OpKind) → sort_of kind ≡ storing → kind ≡ o.Store
  storing_is o.Store e = refl
  storing_is o.Load e = absurd (cc)
  storing_is o.Add e = absurd (cc)
  storing_is o.Sub e = absurd (cc)
  storing_is o.Mul e = absurd (cc)
  storing_is o.Div e = absurd (cc)
  storing_is o.Rem e = absurd (cc)
  storing_is o.And e = absurd (cc)
  storing_is o.Or e = absurd (cc)
  storing_is o.Xor e = absurd (cc)
  storing_is o.Shl e = absurd (cc)
  storing_is o.Shr e = absurd (cc)
  storing_is o.Eq e = absurd (cc)
  storing_is o.Ne e = absurd (cc)
  storing_is o.Lt e = absurd (cc)
  storing_is o.Le e = absurd (cc)
  storing_is o.Not e = absurd (cc)
  storing_is o.Neg e = absurd (cc)
  storing_is o.Select e = absurd (cc)
  storing_is o.Widen e = absurd (cc)
  storing_is o.Narrow e = absurd (cc)
  storing_is o.Truth e = absurd (cc)
  storing_is o.Copy e = absurd (cc)
  storing_is (o.Fused pairing) e = absurd (cc)

  module _ (a address : ℕ) where
    -- the word is stored by the operation, whatever the memories hold, or left as it is
    abbrev Does : TimedOp → Type 0
    Does it = (Alters p i f a address it × ((m : Memories) → one_store it m a address ≡ word_of it)) ⊎ ((Alters p i f a address it → ⊥) × ((m : Memories) → one_store it m a address ≡ m a address))

    does_store : (it : TimedOp) (array : ArrayId) → it.op.kind ≡ o.Store → it.op.array ≡ Some array → starts body f it ≡ true → allowed it ≡ true → Does it
    does_store it array kind is start allow =
        let at_ = store_address p i f array it in
        let stores : Stores p i f array it = record { kind = kind; array_ = is; starts_ = start; allowed = allow } in
        let becomes : (m : Memories) → one_store it m ≡ with_element array.0 at_ (word_of it) m = λ m.
        cond-true _ _ _ start ∙ (performed_is it m
        ∙ (ap (λ (k : OpKind). memories_by p.program.shapes it.op (sort_of k) (allowed it) (arguments_of it) m) kind
        ∙ (cond-true _ _ _ allow ∙ ap (λ r. stored_to p.program.shapes r (arguments_of it) m) is))) in
        elim (cases_eq array.0 a) [
          | inr off ↦ inr (
            (λ (h : Alters p i f a address it). off (ap (λ (r : ArrayId). r.0) (some_same (sym is ∙ h.stores.array_)) ∙ h.number)),
            λ m.
                ap (λ (g : Memories). g a address) (becomes m) ∙ ap (λ (g : ℕ → ℕ). g address) (cond-false _ _ _ (ne_eqb array.0 a off)),
          )
          | inl on ↦
              let row : (m : Memories) → one_store it m a address ≡ with_word (m a) at_ (word_of it) address = λ m.
              ap (λ (g : Memories). g a address) (becomes m) ∙ ap (λ (g : ℕ → ℕ). g address) (cond-true _ _ _ (eq-eqb array.0 a on)) in
              elim (cases_eq at_ address) [
                | inl here ↦ inl (record { array = array; number = on; stores = stores; address_ = here }, λ m. row m ∙ cond-true _ _ _ (eq-eqb at_ address here))
                | inr there ↦
                    inr (
                      (λ (h : Alters p i f a address it). there (ap (λ (r : ArrayId). store_address p i f r it) (some_same (sym is ∙ h.stores.array_)) ∙ h.address_)),
                      λ m.
                          row m ∙ cond-false _ _ _ (ne_eqb at_ address there),
                    )
              ]
        ]

    stays_by : (it : TimedOp) (sort : Sort) (allow : Bool) → sort_of it.op.kind ≡ sort → ((m : Memories) → memories_by p.program.shapes it.op sort allow (arguments_of it) m ≡ m)
        → allowed it ≡ allow → (m : Memories) → one_store it m a address ≡ m a address
    stays_by it sort allow is same e m =
        let inside : (performed p.program.shapes body f it m).words.memories ≡ m =
        performed_is it m ∙ (ap (λ s. memories_by p.program.shapes it.op s (allowed it) (arguments_of it) m) is
        ∙ (ap (λ b. memories_by p.program.shapes it.op sort b (arguments_of it) m) e ∙ same m)) in
        elim (cases_Bool (starts body f it)) [
          | inl yes_ ↦ ap (λ (g : Memories). g a address) (cond-true _ _ _ yes_ ∙ inside)
          | inr no_ ↦ ap (λ (g : Memories). g a address) (cond-false _ _ _ no_)
        ]

    none_by : (it : TimedOp) (sort : Sort) → sort_of it.op.kind ≡ sort → (sort ≡ storing → ⊥) → Alters p i f a address it → ⊥
    none_by it sort is other h = other (sym is ∙ ap sort_of h.stores.kind)

    store_does : (it : TimedOp) (array : _) → it.op.kind ≡ o.Store → it.op.array ≡ array → (start allow : Bool) → starts body f it ≡ start → allowed it ≡ allow → Does it
    store_does it (Some array) kind is true true s e = does_store it array kind is s e
    store_does it None kind is true true s e = inr (
      (λ (h : Alters p i f a address it). no_some (sym is ∙ h.stores.array_)),
      λ m.
          stays_by it storing true (ap sort_of kind) (λ m. ap (λ r. stored_to p.program.shapes r (arguments_of it) m) is) e m,
    )
    store_does it array kind is true false s e = inr (
      (λ (h : Alters p i f a address it). false≢true (sym e ∙ h.stores.allowed)),
      λ m.
          stays_by it storing false (ap sort_of kind) (λ m. refl) e m,
    )
    store_does it array kind is false allow s e = inr (
      (λ (h : Alters p i f a address it). false≢true (sym s ∙ h.stores.starts_)),
      λ m.
          ap (λ (g : Memories). g a address) (cond-false _ _ _ s),
    )

    does_by : (it : TimedOp) (sort : Sort) → sort_of it.op.kind ≡ sort → Does it
    does_by it computing is = inr (none_by it computing is (λ e. cc), λ m. stays_by it computing (allowed it) is (λ m. refl) refl m)
    does_by it loading is = inr (none_by it loading is (λ e. cc), λ m. stays_by it loading (allowed it) is (λ m. refl) refl m)
    does_by it storing is = store_does it it.op.array (storing_is it.op.kind is) refl (starts body f it) (allowed it) refl refl

    does : (it : TimedOp) → Does it
    does it = does_by it (sort_of it.op.kind) refl

    -- ---- all stores

    abbrev behind : List TimedOp → Memories → Memories
    behind ops m = behind_stores p.program.shapes body f ops m

    left_by : (it : TimedOp) → (Alters p i f a address it → ⊥) → (m : Memories) → one_store it m a address ≡ m a address
    left_by it none m = elim (does it) [ inl h ↦ absurd (none h.0) | inr h ↦ h.1 m ]

    stored_by : (it : TimedOp) → Alters p i f a address it → (m : Memories) → one_store it m a address ≡ word_of it
    stored_by it some m = elim (does it) [ inl h ↦ h.1 m | inr h ↦ absurd (h.0 some) ]

    pub none_stores : (ops : List TimedOp) (m : Memories) → ((j : ℕ) (it : TimedOp) → slice_get ops j ≡ Some it → Alters p i f a address it → ⊥) → behind ops m a address ≡ m a address
    none_stores [] m none = refl
    none_stores (it ∷ ops) m none = none_stores ops (one_store it m) (λ j other e. none (suc j) other e) ∙ left_by it (none 0 it refl) m

    pub one_stores : (ops : List TimedOp) (m : Memories) (j : ℕ) (it : TimedOp) → slice_get ops j ≡ Some it → Alters p i f a address it
        → ((n : ℕ) (other : TimedOp) → n ≢ j → slice_get ops n ≡ Some other → Alters p i f a address other → ⊥) → behind ops m a address ≡ word_of it
    one_stores [] m j it e some none = absurd (no_some e)
    one_stores (x ∷ ops) m zero it e some none =
        none_stores ops (one_store x m) (λ n other g. none (suc n) other (λ l. cc) g) ∙ (stored_by x (subst (λ z. Alters p i f a address z) (sym (some_same e)) some) m ∙ ap word_of (some_same e))
    one_stores (x ∷ ops) m (suc j) it e some none = one_stores ops (one_store x m) j it e some (λ n other differ g. none (suc n) other (λ l. differ (omega (arith, l))) g)

    -- the one that stores, if any does
    pub record Storing (ops : List TimedOp) : Type 0 where
      pub number : ℕ
      pub it : TimedOp
      pub there : slice_get ops number ≡ Some it
      pub alters : Alters p i f a address it

    pub storing_or_not : (ops : List TimedOp) → Storing ops ⊎ ((j : ℕ) (it : TimedOp) → slice_get ops j ≡ Some it → Alters p i f a address it → ⊥)
    storing_or_not [] = inr (λ j it e. absurd (no_some e))
    storing_or_not (x ∷ ops) =
        elim (does x) [
          | inl h ↦ inl (record { number = 0; it = x; there = refl; alters = h.0 })
          | inr h ↦ elim (storing_or_not ops) [
            | inl r ↦ inl (record { number = suc r.number; it = r.it; there = r.there; alters = r.alters })
            | inr none ↦ inr (after x ops h.0 none)
          ]
        ]
      where
        after : (x : TimedOp) (ops : List TimedOp) → (Alters p i f a address x → ⊥) → ((j : ℕ) (it : TimedOp) → slice_get ops j ≡ Some it → Alters p i f a address it → ⊥)
            → (j : ℕ) (it : TimedOp) → slice_get (x ∷ ops) j ≡ Some it → Alters p i f a address it → ⊥
        after x ops first rest zero it e h = first (subst (λ z. Alters p i f a address z) (sym (some_same e)) h)
        after x ops first rest (suc j) it e h = rest j it e h

pub ticked_memories : (p : Plan) (i : ℕ) (f : Flow) → (tick p.program.shapes (body_at p i) f).memories ≡ behind_stores p.program.shapes (body_at p i) f (body_at p i).ops f.memories
unfolding tick
ticked_memories p i f = refl
