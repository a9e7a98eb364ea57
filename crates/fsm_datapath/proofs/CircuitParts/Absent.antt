-- Nothing is written where there is no array, and 0 serves as a signal there.
use Rattle.std.proofs.Common.{◌≡◌, ℕ, zero, suc, ◌+◌, ◌≤◌, Bool, true, false, List, [], ◌∷◌, ◌++◌, map, length, get_or, Option, Some, None, is_some, inl, inr, refl, sym, ap, ◌∙◌, subst, arith}
use Rattle.std.specs.Prelude.{slice_get, filter, flat_map, ◌%◌, ◌^◌, ◌==◌, ◌&&◌, ◌||◌, not, if◌then◌else◌}
use Rattle.std.specs.List.{enumerate_from, list_any}
use Rattle.std.proofs.lemmas.Bool.{cases_Bool, cases_lt, and_parts, and_left, eqb-true, cond-true, cond-false, false≢true}
use Rattle.ir_core.specs.declared.body.OpKind.{OpKind}
use Rattle.ir_core.specs.declared.body.OpKind.TheVariants as o
use Rattle.clock_ir.specs.Flows.{TimedOp}
use Rattle.clock_ir.specs.ClockRuns.{TimedNode}
use Rattle.datapath.specs.Plans.{Plan, Placed, Array, no_array, array_at, depth, body_at, body_if, body_of, placed_in, all_ops}
use Rattle.datapath.specs.Cycles.{Cycle, Signal, LeftOf, RightOf, SignedOf, AddressOf, StoredOf, Time, resets}
use Rattle.datapath.specs.Circuits.{signal_writes, signal_else}
use Rattle.datapath.specs.Reading.{is_starting, arguments}
use Rattle.rtl_core.specs.Interface.{address_of, data_of}
use Rattle.rtl_logic.specs.Choosing.{Write, where_, is_any_wanted, AllWant, IsElse, Takes}
use Rattle.ir_core.specs.Bodies.{address_of as address_in, subscripts, stored, with_word}
use Rattle.datapath.specs.Ports.{is_load, is_store, is_array, port_of, at_port, stores, element_address, address_writes, is_storing, stored_writes, first_word, outside_address, outside_word, outside_writes, is_enabled, behind_ports}
use Rattle.circuit_context.specs.Wanted.Driving.{IsInside, unseen_address, unseen_value}
use Rattle.fsm_datapath.specs.CircuitParts.{HasSoundArrays}

-- ---- all operations

abbrev Each : (Placed → Type 0) → List Placed → Type 0
Each P [] = Unit {0}
Each P (x ∷ xs) = P x × Each P xs

each_append : (P : Placed → Type 0) (xs ys : List Placed) → Each P xs → Each P ys → Each P (xs ++ ys)
each_append P [] ys h k = k
each_append P (x ∷ xs) ys h k = (h.0, each_append P xs ys h.1 k)

each_placed : (P : Placed → Type 0) (i k : ℕ) (ops : List TimedOp)
    → ((m number : ℕ) (it : TimedOp) → slice_get ops m ≡ Some it → P (record { node = i; number = number; op = it }))
    → Each P (map (λ (n : ℕ × TimedOp). record { node = i; number = n.0; op = n.1 }) (enumerate_from k ops))
each_placed P i k [] h = tt
each_placed P i k (it ∷ ops) h = (h 0 k it refl, each_placed P i (k + 1) ops (λ m number x e. h (suc m) number x e))

each_node : (P : Placed → Type 0) (k : ℕ) (nodes : List TimedNode)
    → ((j m i number : ℕ) (node : TimedNode) (it : TimedOp) → slice_get nodes j ≡ Some node → slice_get (body_of node).ops m ≡ Some it → P (record { node = i; number = number; op = it }))
    → Each P (flat_map placed_in (enumerate_from k nodes))
each_node P k [] h = tt
each_node P k (node ∷ nodes) h =
    each_append P (placed_in (k, node)) (flat_map placed_in (enumerate_from (k + 1) nodes)) (each_placed P k 0 (body_of node).ops (λ m number it e. h 0 m k number node it refl e))
    (each_node P (k + 1) nodes (λ j m i number n it e f. h (suc j) m i number n it e f))

-- ---- no stores

-- of what passes two tests, nothing passes a third
none_left : (first second third : Placed → Bool) (xs : List Placed) → Each (λ x. first x ≡ true → third x ≡ true → ⊥) xs → filter third (filter second (filter first xs)) ≡ []
none_left first second third [] h = refl
none_left first second third (x ∷ xs) h =
    let rest : filter third (filter second (filter first xs)) ≡ [] = none_left first second third xs h.1 in
    elim (cases_Bool (first x)) [
      | inr no_ ↦ ap (λ l. filter third (filter second l)) (cond-false (first x) (x ∷ filter first xs) (filter first xs) no_) ∙ rest
      | inl yes_ ↦ ap (λ l. filter third (filter second l)) (cond-true (first x) (x ∷ filter first xs) (filter first xs) yes_) ∙ one_less (filter first xs) (h.0 yes_) rest
    ]
  where
    last : (ys : List Placed) → (third x ≡ true → ⊥) → filter third ys ≡ [] → filter third (x ∷ ys) ≡ []
    last ys other rest = elim (cases_Bool (third x)) [
      | inl yes_ ↦ absurd (other yes_)
      | inr no_ ↦ cond-false (third x) (x ∷ filter third ys) (filter third ys) no_ ∙ rest
    ]

    one_less : (ys : List Placed) → (third x ≡ true → ⊥) → filter third (filter second ys) ≡ [] → filter third (filter second (x ∷ ys)) ≡ []
    one_less ys other rest = elim (cases_Bool (second x)) [
      | inr no_ ↦ ap (filter third) (cond-false (second x) (x ∷ filter second ys) (filter second ys) no_) ∙ rest
      | inl yes_ ↦ ap (filter third) (cond-true (second x) (x ∷ filter second ys) (filter second ys) yes_) ∙ last (filter second ys) other rest
    ]

store_kind : (kind : OpKind) → is_store kind ≡ true → kind ≡ o.Store
store_kind o.Store e = refl
store_kind o.Add e = absurd (false≢true e)
store_kind o.Sub e = absurd (false≢true e)
store_kind o.Mul e = absurd (false≢true e)
store_kind o.Div e = absurd (false≢true e)
store_kind o.Rem e = absurd (false≢true e)
store_kind o.And e = absurd (false≢true e)
store_kind o.Or e = absurd (false≢true e)
store_kind o.Xor e = absurd (false≢true e)
store_kind o.Shl e = absurd (false≢true e)
store_kind o.Shr e = absurd (false≢true e)
store_kind o.Eq e = absurd (false≢true e)
store_kind o.Ne e = absurd (false≢true e)
store_kind o.Lt e = absurd (false≢true e)
store_kind o.Le e = absurd (false≢true e)
store_kind o.Not e = absurd (false≢true e)
store_kind o.Neg e = absurd (false≢true e)
store_kind o.Select e = absurd (false≢true e)
store_kind o.Widen e = absurd (false≢true e)
store_kind o.Narrow e = absurd (false≢true e)
store_kind o.Truth e = absurd (false≢true e)
store_kind o.Copy e = absurd (false≢true e)
store_kind o.Load e = absurd (false≢true e)
store_kind (o.Fused pairing) e = absurd (false≢true e)

no_stores : (p : Plan) → HasSoundArrays p → (a n : ℕ) → length p.arrays ≤ a → stores p a n ≡ []
no_stores p sound a n past =
    none_left (λ (x : Placed). is_array a x.op.op.array && (is_load x.op.op.kind || is_store x.op.op.kind)) (λ (x : Placed). port_of p a x == n) (λ (x : Placed). is_store x.op.op.kind) (all_ops p)
    (each_node (λ (x : Placed). (is_array a x.op.op.array && (is_load x.op.op.kind || is_store x.op.op.kind)) ≡ true → is_store x.op.op.kind ≡ true → ⊥) 0 p.program.nodes
    (λ j m i number node it at_ inside passes is.
    let there : slice_get (body_at p j).ops m ≡ Some it = ap (λ (n : Option TimedNode). slice_get (body_if n).ops m) at_ ∙ inside in
    let named = sound.stores j m it there (store_kind it.op.kind is) in
    let same : is_array a (Some named.0) ≡ true = ap (is_array a) (sym named.1.0) ∙ (and_parts (is_array a it.op.array) (is_load it.op.kind || is_store it.op.kind) passes).0 in
    let own : named.0.0 ≡ a = eqb-true named.0.0 a same in
    let low = named.1.1 in
    omega (arith, own, low, past)))

no_array_at : (p : Plan) (a : ℕ) → length p.arrays ≤ a → array_at p a ≡ no_array
no_array_at p a past = past_end p.arrays a past
  where
    past_end : (xs : List _) (k : ℕ) → length xs ≤ k → get_or xs k no_array ≡ no_array
    past_end [] k low = refl
    past_end (x ∷ xs) zero low = absurd (omega (arith, low))
    past_end (x ∷ xs) (suc k) low = past_end xs k (omega (arith, low))

outside_idle : (p : Plan) (c : Cycle) (a n : ℕ) → array_at p a ≡ no_array → outside_writes p c a n ≡ false
outside_idle p c a zero none =
    cond-false (array_at p a).host _ _ (ap (λ z. z.host) none) ∙ and_left (is_some (array_at p a).first) _ (ap (λ z. is_some z.first) none)
outside_idle p c a (suc n) none = refl

idle_port : (p : Plan) (c : Cycle) → HasSoundArrays p → (a n : ℕ) → length p.arrays ≤ a → is_enabled p c a n ≡ false
idle_port p c sound a n past =
    and_left (list_any (is_storing p c) (stores p a n) || outside_writes p c a n) (not (resets c))
    (ap (λ l. list_any (is_storing p c) l || outside_writes p c a n) (no_stores p sound a n past) ∙ outside_idle p c a n (no_array_at p a past))

pub words_stay : (p : Plan) (c : Cycle) → HasSoundArrays p → (a : ℕ) → length p.arrays ≤ a → (count n : ℕ) (f : ℕ → ℕ) (address : ℕ) → behind_ports p c a n count f address ≡ f address
words_stay p c sound a past zero n f address = refl
words_stay p c sound a past (suc count) n f address =
    ap (λ (g : ℕ → ℕ). behind_ports p c a (suc n) count g address)
    (cond-false (is_enabled p c a n) (with_word f (c.signals (AddressOf a n)) (c.signals (StoredOf a n))) f (idle_port p c sound a n past))
    ∙ words_stay p c sound a past count (suc n) f address

-- ---- signals

-- one value in all writes
one_value : (f : Placed → Write) (value : ℕ) → ((x : Placed) → (f x).value ≡ value) → (xs : List Placed) (y : ℕ) → is_any_wanted (map f xs) ≡ true → AllWant (map f xs) y → value ≡ y
one_value f value same [] y some all = absurd (false≢true some)
one_value f value same (x ∷ xs) y some all =
    elim (cases_Bool (f x).wanted) [
      | inl yes_ ↦ sym (same x) ∙ all.0 yes_
      | inr no_ ↦ one_value f value same xs y (sym (ap (λ t. t || is_any_wanted (map f xs)) no_) ∙ some) all.1
    ]

takes_one : (f : Placed → Write) (value : ℕ) → ((x : Placed) → (f x).value ≡ value) → (xs : List Placed) (other : Option ℕ) → other ≡ None → Takes (map f xs) other value
takes_one f value same xs other nothing = record { wanted = one_value f value same xs; else_ = λ e. subst (λ o. IsElse o value) (sym nothing) tt }

no_address : (p : Plan) (c : Cycle) (a : ℕ) (x : Placed) → array_at p a ≡ no_array → element_address p c a x ≡ 0
no_address p c a x none = ap (λ (z : Array). address_in z.dims (if is_store x.op.op.kind then subscripts (arguments p c x) else arguments p c x)) none

none_outside : (array : Array) (host first : ℕ) → array ≡ no_array → (if array.host then Some host else (if is_some array.first then Some first else None)) ≡ None
none_outside array host first none = ap (λ (z : Array). if z.host then Some host else (if is_some z.first then Some first else None)) none

no_outside_address : (p : Plan) (c : Cycle) (a n : ℕ) → array_at p a ≡ no_array → outside_address p c a n ≡ None
no_outside_address p c a zero none = none_outside (array_at p a) (address_of c.pins % 2 ^ depth p a) (c.regs Time % 2 ^ depth p a) none
no_outside_address p c a (suc n) none = refl

no_outside_word : (p : Plan) (c : Cycle) (a n : ℕ) → array_at p a ≡ no_array → outside_word p c a n ≡ None
no_outside_word p c a zero none = none_outside (array_at p a) (data_of c.pins % 2 ^ (array_at p a).bits) (first_word p c a) none
no_outside_word p c a (suc n) none = refl

takes_address : (p : Plan) (c : Cycle) (a n : ℕ) → array_at p a ≡ no_array → Takes (address_writes p c a n) (outside_address p c a n) (unseen_value p (AddressOf a n))
takes_address p c a n none =
    let zero_ : unseen_value p (AddressOf a n) ≡ 0 = ap (λ (z : Array). unseen_address p a z.table) none in
    subst (λ v. Takes (address_writes p c a n) (outside_address p c a n) v) (sym zero_)
    (takes_one (λ x. where_ (is_starting p c x) (element_address p c a x)) 0 (λ x. no_address p c a x none) (at_port p a n) (outside_address p c a n) (no_outside_address p c a n none))

takes_stored : (p : Plan) (c : Cycle) → HasSoundArrays p → (a n : ℕ) → length p.arrays ≤ a → Takes (stored_writes p c a n) (outside_word p c a n) 0
takes_stored p c sound a n past =
    subst (λ xs. Takes (map (λ (x : Placed). where_ (is_storing p c x) (stored (arguments p c x))) xs) (outside_word p c a n) 0) (sym (no_stores p sound a n past))
    (takes_one (λ x. where_ (is_storing p c x) 0) 0 (λ x. refl) [] (outside_word p c a n) (no_outside_word p c a n (no_array_at p a past)))

abbrev TakesUnseen : Plan → Cycle → Signal → Type 0
TakesUnseen p c signal = Takes (signal_writes p c signal) (signal_else p c signal) (unseen_value p signal)

-- What stands for a signal that is seen nowhere serves each signal of an array that there is not, and so each signal if it serves those inside.
pub takes_unseen : (p : Plan) (c : Cycle) → HasSoundArrays p → (signal : Signal) → (IsInside p signal → TakesUnseen p c signal) → TakesUnseen p c signal
takes_unseen p c sound (LeftOf class n) inside = inside tt
takes_unseen p c sound (RightOf class n) inside = inside tt
takes_unseen p c sound (SignedOf class n) inside = inside tt
takes_unseen p c sound (AddressOf a n) inside =
    elim (cases_lt a (length p.arrays)) [
      | inl within ↦ inside within
      | inr past ↦ takes_address p c a n (no_array_at p a past)
    ]
takes_unseen p c sound (StoredOf a n) inside =
    elim (cases_lt a (length p.arrays)) [
      | inl within ↦ inside within
      | inr past ↦ takes_stored p c sound a n past
    ]
