-- Constraints of lists that grow at the end.
use Rattle.std.proofs.Common.{◌≡◌, ℕ, zero, suc, ◌+◌, ◌-◌, ◌<◌, ◌≤◌, List, [], ◌∷◌, ◌++◌, length, take, slice_index, slice_index_or, refl, ap, sym, ◌∙◌, append_assoc, arith}
use Rattle.std.proofs.lemmas.List.{take_more, append-nil}
use Rattle.unit_binding.specs.declared.binding.UnitOrder.{UnitOrder}
use Rattle.block_schedule.specs.Constraints.{order_constraints, serves_next, unit_constraints}

order_grows : (occupancy : ℕ) (ops : List ℕ) (q : ℕ) → suc q < length ops →
    order_constraints occupancy (take (suc (suc q)) ops) ≡ order_constraints occupancy (take (suc q) ops) ++ serves_next occupancy (slice_index ops q) (slice_index ops (suc q)) ∷ []
order_grows occupancy [] q l = absurd (omega arith)
order_grows occupancy (op ∷ []) q l = absurd (omega arith)
order_grows occupancy (op ∷ next ∷ ops) zero l = refl
order_grows occupancy (op ∷ next ∷ ops) (suc q) l =
    ap (λ cs. serves_next occupancy op next ∷ cs) (order_grows occupancy (next ∷ ops) q (omega arith))

pub order_more : (occupancy : ℕ) (ops : List ℕ) (p : ℕ) → 1 ≤ p → p < length ops →
    order_constraints occupancy (take (p + 1) ops) ≡ order_constraints occupancy (take p ops) ++ serves_next occupancy (slice_index ops (p - 1)) (slice_index ops p) ∷ []
order_more occupancy ops zero some l = absurd (omega arith)
order_more occupancy ops (suc q) some l =
    let minus : suc q - 1 ≡ q = omega arith in
    let plus : suc q + 1 ≡ suc (suc q) = omega arith in
    rw (minus, plus) (order_grows occupancy ops q l)

pub units_grow : (os ps : List UnitOrder) → unit_constraints (os ++ ps) ≡ unit_constraints os ++ unit_constraints ps
units_grow [] ps = refl
units_grow (o ∷ os) ps = ap (λ cs. order_constraints o.occupancy o.ops.items ++ cs) (units_grow os ps) ∙ sym (append_assoc (order_constraints o.occupancy o.ops.items) (unit_constraints os) (unit_constraints ps))

pub units_more : (os : List UnitOrder) (i : ℕ) (d : UnitOrder) → i < length os →
    unit_constraints (take (i + 1) os) ≡ unit_constraints (take i os) ++ order_constraints (slice_index_or os i d).occupancy (slice_index_or os i d).ops.items
units_more os i d l =
    ap unit_constraints (take_more os i d l) ∙ units_grow (take i os) (slice_index_or os i d ∷ []) ∙ ap (λ cs. unit_constraints (take i os) ++ cs) (append-nil (order_constraints (slice_index_or os i d).occupancy (slice_index_or os i d).ops.items))
