-- Orders that grow.
use Rattle.std.proofs.Common.{◌≡◌, ℕ, zero, suc, ◌+◌, ◌<◌, ◌≤◌, Bool, true, false, List, [], ◌∷◌, ◌++◌, length, map, set, get_or, refl, ap, sym, subst, ap₂, ◌∙◌, drop, add-one, drop-cons, arith, length-append}
use Rattle.std.specs.Prelude.{nat_lt, if◌then◌else◌, Some}
use Rattle.std.proofs.lemmas.List.{length-map, map-append}
use Rattle.std.proofs.lemmas.Bool.{cond_below, cond_above}
use Rattle.unit_binding.specs.declared.binding.UnitOrder.{UnitOrder}
use Rattle.hls_base.specs.declared.settings.Units.{Units}
use Rattle.ir_core.specs.declared.timing.UnitClass.{UnitClass}
use Rattle.unit_binding.specs.declared.bind.Request.{Request}
use Rattle.unit_binding.specs.declared.bind.Turn.{Turn}
use Rattle.unit_binding.specs.declared.binding.Binding.{Binding}
use Rattle.unit_binding.specs.Binding.{Order, Dealt, order_view, binding_view, is_class, opened, next_unit, longer, served, given, dealt}

abbrev pub with_op : Order → ℕ → Order
with_op o op = record { unit = o.unit; occupancy = o.occupancy; ops = o.ops ++ op ∷ [] }

longer_at : (orders : List UnitOrder) (k op : ℕ) (old new : UnitOrder) → k < length orders → old ≡ get_or orders k old →
    order_view new ≡ with_op (order_view old) op → map order_view (set orders k new) ≡ longer (map order_view orders) k op
longer_at [] k op old new lt is e = absurd (omega (arith, lt))
longer_at (o ∷ os) zero op old new lt is e = ap (λ x. x ∷ map order_view os) (e ∙ ap (λ (p : UnitOrder). with_op (order_view p) op) is)
longer_at (o ∷ os) (suc k) op old new lt is e = ap (λ xs. order_view o ∷ xs) (longer_at os k op old new (omega (arith, lt)) is e)

pub served_inside : (orders : List UnitOrder) (k unit : ℕ) (request : Request) (old new : UnitOrder) → k < length orders → old ≡ get_or orders k old →
    order_view new ≡ with_op (order_view old) request.op → map order_view (set orders k new) ≡ served (map order_view orders) k unit request
served_inside orders k unit request old new lt is e =
    let long : length (map order_view orders) ≡ length orders = length-map orders order_view in
    longer_at orders k request.op old new lt is e ∙ cond_below k (length (map order_view orders)) _ _ (omega (arith, long, lt))

pub served_behind : (orders : List UnitOrder) (k unit : ℕ) (request : Request) (new : UnitOrder) → length orders ≤ k →
    order_view new ≡ record { unit = unit; occupancy = request.occupancy; ops = request.op ∷ [] } → map order_view (orders ++ new ∷ []) ≡ served (map order_view orders) k unit request
served_behind orders k unit request new le e =
    let long : length (map order_view orders) ≡ length orders = length-map orders order_view in
    map-append order_view orders (new ∷ []) ∙ ap (λ o. map order_view orders ++ o ∷ []) e ∙ cond_above k (length (map order_view orders)) _ _ _ (omega (arith, long, le)) refl

-- ---- turns

turned_first : (b : Bool) (turn : Turn) (class : UnitClass) (count : ℕ) → turn.first ≤ count → (if b then turn else record { class = Some class; first = count; unit = 0 }).first ≤ count
turned_first true turn class count le = le
turned_first false turn class count le = omega arith

turned_unit : (b : Bool) (turn : Turn) (class : UnitClass) (count : ℕ) → turn.unit < 256 → (if b then turn else record { class = Some class; first = count; unit = 0 }).unit < 256
turned_unit true turn class count lt = lt
turned_unit false turn class count lt = omega arith

pub opened_first : (turn now : Turn) (class : UnitClass) (count : ℕ) → now ≡ opened turn class count → turn.first ≤ count → now.first ≤ count
opened_first turn now class count e le = subst (λ (t : Turn). t.first ≤ count) (sym e) (turned_first (is_class turn.class class) turn class count le)

pub opened_unit : (turn now : Turn) (class : UnitClass) (count : ℕ) → now ≡ opened turn class count → turn.unit < 256 → now.unit < 256
opened_unit turn now class count e lt = subst (λ (t : Turn). t.unit < 256) (sym e) (turned_unit (is_class turn.class class) turn class count lt)

longer_length : (os : List Order) (k op : ℕ) → length (longer os k op) ≡ length os
longer_length [] k op = refl
longer_length (o ∷ os) zero op = refl
longer_length (o ∷ os) (suc k) op = ap suc (longer_length os k op)

served_length : (b : Bool) (os : List Order) (k unit : ℕ) (q : Request)
    → length os ≤ length (if b then longer os k q.op else os ++ record { unit = unit; occupancy = q.occupancy; ops = q.op ∷ [] } ∷ [])
served_length true os k unit q = (let z = longer_length os k q.op in omega arith)
served_length false os k unit q = (let o : Order = record { unit = unit; occupancy = q.occupancy; ops = q.op ∷ [] } in omega (arith, length-append os (o ∷ [])))

-- no order is lost
pub given_room : (old new : Binding) (turn : Turn) (q : Request) → binding_view new ≡ given (binding_view old) turn q → length old.orders.items ≤ length new.orders.items
given_room old new turn q e =
    let before = map order_view old.orders.items in
    let index = turn.first + turn.unit in
    let grown : length before ≤ length (served before index turn.unit q) = served_length (nat_lt index (length before)) before index turn.unit q in
    let same : length (map order_view new.orders.items) ≡ length (served before index turn.unit q) = ap (λ (d : Dealt). length d.orders) e in
    omega (arith, length-map old.orders.items order_view, length-map new.orders.items order_view)

-- what is left to deal out comes to the same
pub goes_on : (units : Units) (requests : List Request) (i : ℕ) (d : Request) (before after final : Dealt) (turn now : Turn) (count unit : ℕ) → i < length requests → count ≡ length before.orders
    → now ≡ opened turn (get_or requests i d).class count → after ≡ given before now (get_or requests i d) → unit ≡ next_unit units (get_or requests i d).class now.unit
    → dealt units before turn (drop i requests) ≡ final → dealt units after (record { class = now.class; first = now.first; unit = unit }) (drop (i + 1) requests) ≡ final
goes_on units requests i d before after final turn now count unit lt counted turned gave next h =
    let q = get_or requests i d in
    let rest = drop (i + 1) requests in
    let split : drop i requests ≡ q ∷ rest = rw add-one (drop-cons requests i d lt) in
    let all : dealt units before turn (q ∷ rest) ≡ final = subst (λ qs. dealt units before turn qs ≡ final) split h in
    let open_turn : now ≡ opened turn q.class (length before.orders) = turned ∙ ap (opened turn q.class) counted in
    ap₂ (λ (x : Dealt) (u : ℕ). dealt units x (record { class = now.class; first = now.first; unit = u }) rest) gave next
    ∙ ap (λ (t : Turn). dealt units (given before t q) (record { class = t.class; first = t.first; unit = next_unit units q.class t.unit }) rest) open_turn
    ∙ all
