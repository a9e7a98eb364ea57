-- Requests that rise within each class are dealt out into orders that rise.
use Rattle.std.proofs.Common.{◌≡◌, ℕ, zero, suc, ◌+◌, ◌<◌, ◌≤◌, ◌⊎◌, inl, inr, Bool, true, false, List, [], ◌∷◌, ◌++◌, length, refl, sym, ap, subst, eqb-true, arith}
use Rattle.std.specs.Prelude.{nat_lt, if◌then◌else◌, Option, Some, None}
use Rattle.std.specs.List.{All}
use Rattle.std.proofs.lemmas.List.Elements.{All-head, All-tail}
use Rattle.hls_base.specs.declared.number.ArrayId.{ArrayId}
use Rattle.hls_base.specs.declared.settings.Units.{Units}
use Rattle.ir_core.specs.declared.timing.UnitClass.{UnitClass}
use Rattle.ir_core.specs.declared.timing.UnitClass.TheVariants as u
use Rattle.unit_binding.specs.declared.bind.Request.{Request}
use Rattle.unit_binding.specs.declared.bind.Turn.{Turn}
use Rattle.unit_binding.specs.Ranks.{RiseBy}
use Rattle.unit_binding.specs.Binding.{Order, Dealt, same_class, is_class, next_unit, opened, longer, served, given, dealt, first_turn, none_dealt}

-- ---- classes

array_is : (x y : ArrayId) → x.0 ≡ y.0 → x ≡ y
array_is x y e = (λ i. record { 0 = e i })

pub same_class_is : (c d : UnitClass) → same_class c d ≡ true → c ≡ d
same_class_is (u.Multiplier x) (u.Multiplier y) e = ap u.Multiplier (eqb-true x y e)
same_class_is (u.Multiplier x) (u.Divider y) e = (cc)
same_class_is (u.Multiplier x) (u.Port y) e = (cc)
same_class_is (u.Divider x) (u.Multiplier y) e = (cc)
same_class_is (u.Divider x) (u.Divider y) e = ap u.Divider (eqb-true x y e)
same_class_is (u.Divider x) (u.Port y) e = (cc)
same_class_is (u.Port x) (u.Multiplier y) e = (cc)
same_class_is (u.Port x) (u.Divider y) e = (cc)
same_class_is (u.Port x) (u.Port y) e = ap u.Port (array_is x y (eqb-true x.0 y.0 e))

pub class_is : (p : Option UnitClass) (c : UnitClass) → is_class p c ≡ true → p ≡ Some c
class_is None c e = (cc)
class_is (Some d) c e = ap Some (same_class_is d c e)

-- ---- keys of operations

module _ (key : ℕ → ℕ) where
  -- all keys of these operations are below
  abbrev pub KeysBelow : ℕ → List ℕ → Type 0
  KeysBelow limit [] = Unit {0}
  KeysBelow limit (op ∷ ops) = (key op < limit) × KeysBelow limit ops

  -- keys rise along these operations
  abbrev pub KeysRise : List ℕ → Type 0
  KeysRise ops = RiseBy key ops

  below_more : (a b : ℕ) (ops : List ℕ) → a ≤ b → KeysBelow a ops → KeysBelow b ops
  below_more a b [] le h = tt
  below_more a b (op ∷ ops) le h = ((let z = h.0 in omega arith), below_more a b ops le h.1)

  below_push : (limit op : ℕ) (ops : List ℕ) → key op < limit → KeysBelow limit ops → KeysBelow limit (ops ++ op ∷ [])
  below_push limit op [] lt h = (lt, tt)
  below_push limit op (p ∷ ops) lt h = (h.0, below_push limit op ops lt h.1)

  rise_push : (op : ℕ) (ops : List ℕ) → KeysRise ops → KeysBelow (key op) ops → KeysRise (ops ++ op ∷ [])
  rise_push op [] h b = tt
  rise_push op (p ∷ []) h b = (b.0, tt)
  rise_push op (p ∷ q ∷ ops) h b = (h.0, rise_push op (q ∷ ops) h.1 b.1)

  -- ---- an order with one more operation

  -- the operations of the order of this number
  abbrev ops_at : List Order → ℕ → List ℕ
  ops_at [] i = []
  ops_at (o ∷ os) zero = o.ops
  ops_at (o ∷ os) (suc i) = ops_at os i

  -- Each order is as it was, or has this operation behind smaller ones.
  abbrev IsServed : List Order → List Order → ℕ → ℕ → Type 0
  IsServed old new op i = (ops_at new i ≡ ops_at old i) ⊎ (KeysBelow (key op) (ops_at old i) × (ops_at new i ≡ ops_at old i ++ op ∷ []))

  longer_served : (os : List Order) (index op : ℕ) → KeysBelow (key op) (ops_at os index) → (i : ℕ) → IsServed os (longer os index op) op i
  longer_served [] index op below i = inl refl
  longer_served (o ∷ os) zero op below zero = inr (below, refl)
  longer_served (o ∷ os) zero op below (suc i) = inl refl
  longer_served (o ∷ os) (suc index) op below zero = inl refl
  longer_served (o ∷ os) (suc index) op below (suc i) = longer_served os index op below i

  new_served : (os : List Order) (unit held op : ℕ) (i : ℕ) → IsServed os (os ++ record { unit = unit; occupancy = held; ops = op ∷ [] } ∷ []) op i
  new_served [] unit held op zero = inr (tt, refl)
  new_served [] unit held op (suc i) = inl refl
  new_served (o ∷ os) unit held op zero = inl refl
  new_served (o ∷ os) unit held op (suc i) = new_served os unit held op i

  served_by : (os : List Order) (index unit : ℕ) (q : Request) → KeysBelow (key q.op) (ops_at os index) → (b : Bool) → (i : ℕ)
      → IsServed os (if b then longer os index q.op else os ++ record { unit = unit; occupancy = q.occupancy; ops = q.op ∷ [] } ∷ []) q.op i
  served_by os index unit q below true i = longer_served os index q.op below i
  served_by os index unit q below false i = new_served os unit q.occupancy q.op i

  served_is : (os : List Order) (index unit : ℕ) (q : Request) → KeysBelow (key q.op) (ops_at os index) → (i : ℕ) → IsServed os (served os index unit q) q.op i
  served_is os index unit q below i = served_by os index unit q below (nat_lt index (length os)) i

  none_at : (os : List Order) (i : ℕ) → length os ≤ i → ops_at os i ≡ []
  none_at [] i le = refl
  none_at (o ∷ os) zero le = absurd (omega arith)
  none_at (o ∷ os) (suc i) le = none_at os i (omega arith)

  -- ---- requests one after another

  -- a request of the class of the one before it, which is at this limit, is beyond it
  abbrev pub Climb : Option UnitClass → ℕ → List Request → Type 0
  Climb class limit [] = Unit {0}
  Climb class limit (q ∷ qs) = (is_class class q.class ≡ true → limit ≤ key q.op) × Climb (Some q.class) (key q.op + 1) qs

  -- orders rise, and those of the class that is served now are below the limit
  record IsClimbing (orders : List Order) (first limit : ℕ) : Type 0 where
    rise : (i : ℕ) → KeysRise (ops_at orders i)
    low : (i : ℕ) → first ≤ i → KeysBelow limit (ops_at orders i)

  module _ (orders : List Order) (turn : Turn) (limit : ℕ) (q : Request) (so_far : IsClimbing orders turn.first limit) (next : is_class turn.class q.class ≡ true → limit ≤ key q.op) where
    abbrev turned : Bool → Turn
    turned b = if b then turn else record { class = Some q.class; first = length orders; unit = 0 }

    turned_low : (b : Bool) → is_class turn.class q.class ≡ b → (i : ℕ) → (turned b).first ≤ i → KeysBelow (key q.op) (ops_at orders i)
    turned_low true e i le = below_more limit (key q.op) (ops_at orders i) (next e) (so_far.low i le)
    turned_low false e i le = subst (KeysBelow (key q.op)) (sym (none_at orders i le)) tt

    turned_class : (b : Bool) → is_class turn.class q.class ≡ b → (turned b).class ≡ Some q.class
    turned_class true e = class_is turn.class q.class e
    turned_class false e = refl

    abbrev now : Turn
    now = opened turn q.class (length orders)

    now_low : (i : ℕ) → now.first ≤ i → KeysBelow (key q.op) (ops_at orders i)
    now_low = turned_low (is_class turn.class q.class) refl

    now_class : now.class ≡ Some q.class
    now_class = turned_class (is_class turn.class q.class) refl

    abbrev new : List Order
    new = served orders (now.first + now.unit) now.unit q

    new_is : (i : ℕ) → IsServed orders new q.op i
    new_is = served_is orders (now.first + now.unit) now.unit q (now_low (now.first + now.unit) (omega arith))

    new_rises : (i : ℕ) → KeysRise (ops_at new i)
    new_rises i = elim (new_is i) [
      | inl same ↦ subst KeysRise (sym same) (so_far.rise i)
      | inr more ↦ subst KeysRise (sym more.1) (rise_push q.op (ops_at orders i) (so_far.rise i) more.0)
    ]

    new_low : (i : ℕ) → now.first ≤ i → KeysBelow (key q.op + 1) (ops_at new i)
    new_low i le =
        let old = below_more (key q.op) (key q.op + 1) (ops_at orders i) (omega arith) (now_low i le) in
        elim (new_is i) [
          | inl same ↦ subst (KeysBelow (key q.op + 1)) (sym same) old
          | inr more ↦ subst (KeysBelow (key q.op + 1)) (sym more.1) (below_push (key q.op + 1) q.op (ops_at orders i) (omega arith) old)
        ]

    climbs : IsClimbing new now.first (key q.op + 1)
    climbs = record { rise = new_rises; low = new_low }

  dealt_rises : (units : Units) (d : Dealt) (turn : Turn) (limit : ℕ) (requests : List Request) → IsClimbing d.orders turn.first limit → Climb turn.class limit requests
      → (i : ℕ) → KeysRise (ops_at (dealt units d turn requests).orders i)
  dealt_rises units d turn limit [] so_far climb = so_far.rise
  dealt_rises units d turn limit (q ∷ qs) so_far climb =
      let step = opened turn q.class (length d.orders) in
      let is = now_class d.orders turn limit q so_far climb.0 in
      dealt_rises units (given d step q) (record { class = step.class; first = step.first; unit = next_unit units q.class step.unit }) (key q.op + 1) qs
      (climbs d.orders turn limit q so_far climb.0) (subst (λ c. Climb c (key q.op + 1) qs) (sym is) climb.1)

  -- all orders
  abbrev pub AllRise : List Order → Type 0
  AllRise [] = Unit {0}
  AllRise (o ∷ os) = KeysRise o.ops × AllRise os

  all_from : (os : List Order) → ((i : ℕ) → KeysRise (ops_at os i)) → AllRise os
  all_from [] h = tt
  all_from (o ∷ os) h = (h 0, all_from os (λ i. h (suc i)))

  pub orders_rise : (units : Units) (count : ℕ) (requests : List Request) → Climb None 0 requests → AllRise (dealt units (none_dealt count) first_turn requests).orders
  orders_rise units count requests climb =
      all_from (dealt units (none_dealt count) first_turn requests).orders
      (dealt_rises units (none_dealt count) first_turn 0 requests (record { rise = λ i. tt; low = λ i le. tt }) climb)

-- ---- operations of orders are operations of requests

module _ (count : ℕ) where
  -- all operations of these orders are below
  abbrev pub AreInside : List Order → Type 0
  AreInside [] = Unit {0}
  AreInside (o ∷ os) = KeysBelow (λ op. op) count o.ops × AreInside os

  longer_inside : (os : List Order) (index op : ℕ) → op < count → AreInside os → AreInside (longer os index op)
  longer_inside [] index op lt h = tt
  longer_inside (o ∷ os) zero op lt h = (below_push (λ x. x) count op o.ops lt h.0, h.1)
  longer_inside (o ∷ os) (suc index) op lt h = (h.0, longer_inside os index op lt h.1)

  new_inside : (os : List Order) (unit held op : ℕ) → op < count → AreInside os → AreInside (os ++ record { unit = unit; occupancy = held; ops = op ∷ [] } ∷ [])
  new_inside [] unit held op lt h = ((lt, tt), tt)
  new_inside (o ∷ os) unit held op lt h = (h.0, new_inside os unit held op lt h.1)

  served_inside : (os : List Order) (index unit : ℕ) (q : Request) → q.op < count → AreInside os → (b : Bool) → AreInside (if b then longer os index q.op else os ++ record { unit = unit; occupancy = q.occupancy; ops = q.op ∷ [] } ∷ [])
  served_inside os index unit q lt h true = longer_inside os index q.op lt h
  served_inside os index unit q lt h false = new_inside os unit q.occupancy q.op lt h

  dealt_inside : (units : Units) (d : Dealt) (turn : Turn) (requests : List Request) → AreInside d.orders → All (λ (q : Request). q.op < count) requests → AreInside (dealt units d turn requests).orders
  dealt_inside units d turn [] h all = h
  dealt_inside units d turn (q ∷ qs) h all =
      let step = opened turn q.class (length d.orders) in
      dealt_inside units (given d step q) (record { class = step.class; first = step.first; unit = next_unit units q.class step.unit }) qs
      (served_inside d.orders (step.first + step.unit) step.unit q (All-head (λ (r : Request). r.op < count) q qs all) h (nat_lt (step.first + step.unit) (length d.orders)))
      (All-tail (λ (r : Request). r.op < count) q qs all)

  pub orders_inside : (units : Units) (ops : ℕ) (requests : List Request) → All (λ (q : Request). q.op < count) requests → AreInside (dealt units (none_dealt ops) first_turn requests).orders
  orders_inside units ops requests all = dealt_inside units (none_dealt ops) first_turn requests tt all

-- ---- units are held for as long as the requests ask

module _ (limit : ℕ) where
  -- all orders hold their units for fewer cycles
  abbrev pub AreShort : List Order → Type 0
  AreShort [] = Unit {0}
  AreShort (o ∷ os) = (o.occupancy < limit) × AreShort os

  longer_short : (os : List Order) (index op : ℕ) → AreShort os → AreShort (longer os index op)
  longer_short [] index op h = tt
  longer_short (o ∷ os) zero op h = (h.0, h.1)
  longer_short (o ∷ os) (suc index) op h = (h.0, longer_short os index op h.1)

  new_short : (os : List Order) (unit held op : ℕ) → held < limit → AreShort os → AreShort (os ++ record { unit = unit; occupancy = held; ops = op ∷ [] } ∷ [])
  new_short [] unit held op lt h = (lt, tt)
  new_short (o ∷ os) unit held op lt h = (h.0, new_short os unit held op lt h.1)

  served_short : (os : List Order) (index unit : ℕ) (q : Request) → q.occupancy < limit → AreShort os → (b : Bool) → AreShort (if b then longer os index q.op else os ++ record { unit = unit; occupancy = q.occupancy; ops = q.op ∷ [] } ∷ [])
  served_short os index unit q lt h true = longer_short os index q.op h
  served_short os index unit q lt h false = new_short os unit q.occupancy q.op lt h

  dealt_short : (units : Units) (d : Dealt) (turn : Turn) (requests : List Request) → AreShort d.orders → All (λ (q : Request). q.occupancy < limit) requests → AreShort (dealt units d turn requests).orders
  dealt_short units d turn [] h all = h
  dealt_short units d turn (q ∷ qs) h all =
      let step = opened turn q.class (length d.orders) in
      dealt_short units (given d step q) (record { class = step.class; first = step.first; unit = next_unit units q.class step.unit }) qs
      (served_short d.orders (step.first + step.unit) step.unit q (All-head (λ (r : Request). r.occupancy < limit) q qs all) h (nat_lt (step.first + step.unit) (length d.orders)))
      (All-tail (λ (r : Request). r.occupancy < limit) q qs all)

  pub orders_short : (units : Units) (ops : ℕ) (requests : List Request) → All (λ (q : Request). q.occupancy < limit) requests → AreShort (dealt units (none_dealt ops) first_turn requests).orders
  orders_short units ops requests all = dealt_short units (none_dealt ops) first_turn requests tt all
