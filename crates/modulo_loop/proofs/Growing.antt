-- Rules of lists that grow at the end.
use Rattle.std.proofs.Common.{◌≡◌, ℕ, zero, suc, ◌+◌, ◌-◌, ◌<◌, ◌≤◌, List, [], ◌∷◌, ◌++◌, length, take, slice_index, slice_index_or, refl, ap, sym, ◌∙◌, append_assoc, true, false, Bool, if◌then◌else◌, arith}
use Rattle.std.proofs.lemmas.List.{take_more, append-nil, length-take-le}
use Rattle.ir_core.specs.declared.body.Op.{Op}
use Rattle.ir_core.specs.declared.stamp.Untimed.{Untimed}
use Rattle.dep_graph.specs.declared.edge.Why.TheVariants as w
use Rattle.unit_binding.specs.declared.binding.UnitOrder.{UnitOrder}
use Rattle.modulo_loop.specs.Rules.{next_rules, again_rules, serves_next, unit_rules, store_rules_from}
use Rattle.dep_graph.specs.Meetings.{is_store}

next_grows : (occupancy : ℕ) (ops : List ℕ) (q : ℕ) → suc q < length ops →
    next_rules occupancy (take (suc (suc q)) ops) ≡ next_rules occupancy (take (suc q) ops) ++ serves_next occupancy (slice_index ops q) (slice_index ops (suc q)) ∷ []
next_grows occupancy [] q l = absurd (omega arith)
next_grows occupancy (op ∷ []) q l = absurd (omega arith)
next_grows occupancy (op ∷ next ∷ ops) zero l = refl
next_grows occupancy (op ∷ next ∷ ops) (suc q) l =
    ap (λ es. serves_next occupancy op next ∷ es) (next_grows occupancy (next ∷ ops) q (omega arith))

pub next_more : (occupancy : ℕ) (ops : List ℕ) (p : ℕ) → 1 ≤ p → p < length ops →
    next_rules occupancy (take (p + 1) ops) ≡ next_rules occupancy (take p ops) ++ serves_next occupancy (slice_index ops (p - 1)) (slice_index ops p) ∷ []
next_more occupancy ops zero some l = absurd (omega arith)
next_more occupancy ops (suc q) some l =
    let minus : suc q - 1 ≡ q = omega arith in
    let plus : suc q + 1 ≡ suc (suc q) = omega arith in
    rw (minus, plus) (next_grows occupancy ops q l)

pub again_first : (occupancy : ℕ) (ops : List ℕ) → 0 < length ops →
    again_rules occupancy ops ≡ record { from = slice_index ops (length ops - 1) + 1; to = slice_index ops 0 + 1; latency = occupancy; distance = 1; why = w.Unit } ∷ []
again_first occupancy [] l = absurd (omega arith)
again_first occupancy (op ∷ ops) l =
    let minus : length (op ∷ ops) - 1 ≡ length ops = omega arith in
    rw minus refl

pub again_none : (occupancy : ℕ) (ops : List ℕ) → length ops ≡ 0 → again_rules occupancy ops ≡ []
again_none occupancy [] l = refl
again_none occupancy (op ∷ ops) l = absurd (omega arith)

units_grow : (os ps : List UnitOrder) → unit_rules (os ++ ps) ≡ unit_rules os ++ unit_rules ps
units_grow [] ps = refl
units_grow (o ∷ os) ps =
    let next = next_rules o.occupancy o.ops.items in
    let again = again_rules o.occupancy o.ops.items in
    ap (λ es. next ++ (again ++ es)) (units_grow os ps) ∙ ap (λ es. next ++ es) (sym (append_assoc again (unit_rules os) (unit_rules ps))) ∙ sym (append_assoc next (again ++ unit_rules os) (unit_rules ps))

pub units_more : (os : List UnitOrder) (i : ℕ) (d : UnitOrder) → i < length os →
    unit_rules (take (i + 1) os) ≡ unit_rules (take i os) ++ (next_rules (slice_index_or os i d).occupancy (slice_index_or os i d).ops.items ++ again_rules (slice_index_or os i d).occupancy (slice_index_or os i d).ops.items)
units_more os i d l =
    let o = slice_index_or os i d in
    let next = next_rules o.occupancy o.ops.items in
    let again = again_rules o.occupancy o.ops.items in
    ap unit_rules (take_more os i d l) ∙ units_grow (take i os) (o ∷ []) ∙ ap (λ es. unit_rules (take i os) ++ (next ++ es)) (append-nil again)

stores_grow : (test lat k : ℕ) (os : List (Op Untimed)) (op : Op Untimed) (n : ℕ) → n ≡ k + length os →
    store_rules_from test lat k (os ++ op ∷ []) ≡ store_rules_from test lat k os ++ store_rules_from test lat n (op ∷ [])
stores_grow test lat k [] op n e =
    let same : n ≡ k = omega arith in
    ap (λ m. store_rules_from test lat m (op ∷ [])) (sym same)
stores_grow test lat k (o ∷ os) op n e =
    let rest = stores_grow test lat (suc k) os op n (omega arith) in
    go (is_store o.kind) rest where
      go : (b : Bool) → store_rules_from test lat (suc k) (os ++ op ∷ []) ≡ store_rules_from test lat (suc k) os ++ store_rules_from test lat n (op ∷ []) →
          (if b then record { from = test + 1; to = k + 1; latency = lat; distance = 0; why = w.Control } ∷ store_rules_from test lat (suc k) (os ++ op ∷ []) else store_rules_from test lat (suc k) (os ++ op ∷ []))
          ≡ (if b then record { from = test + 1; to = k + 1; latency = lat; distance = 0; why = w.Control } ∷ store_rules_from test lat (suc k) os else store_rules_from test lat (suc k) os) ++ store_rules_from test lat n (op ∷ [])
      go true rest = ap (λ es. record { from = test + 1; to = k + 1; latency = lat; distance = 0; why = w.Control } ∷ es) rest
      go false rest = rest

pub store_yes : (test lat k : ℕ) (op : Op Untimed) → is_store op.kind ≡ true → store_rules_from test lat k (op ∷ []) ≡ record { from = test + 1; to = k + 1; latency = lat; distance = 0; why = w.Control } ∷ []
store_yes test lat k op e = rw e refl

pub store_no : (test lat k : ℕ) (op : Op Untimed) → is_store op.kind ≡ false → store_rules_from test lat k (op ∷ []) ≡ []
store_no test lat k op e = rw e refl

pub stores_more : (test lat : ℕ) (ops : List (Op Untimed)) (i : ℕ) (d : Op Untimed) → i < length ops →
    store_rules_from test lat 0 (take (i + 1) ops) ≡ store_rules_from test lat 0 (take i ops) ++ store_rules_from test lat i (slice_index_or ops i d ∷ [])
stores_more test lat ops i d l =
    ap (store_rules_from test lat 0) (take_more ops i d l) ∙ stores_grow test lat 0 (take i ops) (slice_index_or ops i d) i (omega (arith, length-take-le i ops (omega arith)))
