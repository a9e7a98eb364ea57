-- The operations of a plan, among all those of its nodes.
use Rattle.std.proofs.Common.{◌≡◌, ℕ, ◌+◌, ◌≤◌, Bool, true, Option, Some, None, refl, ap, ◌∙◌, subst, arith}
use Rattle.std.specs.Prelude.{slice_get, ◌&&◌, ◌||◌, ◌==◌}
use Rattle.std.specs.List.{enumerate_from}
use Rattle.std.proofs.lemmas.Bool.{and_from, and_parts, eq-eqb, eqb-true}
use Rattle.ir_core.specs.declared.body.OpKind.{OpKind}
use Rattle.ir_core.specs.declared.body.OpKind.TheVariants as o
use Rattle.hls_base.specs.declared.number.ArrayId.{ArrayId}
use Rattle.clock_ir.specs.Flows.{TimedOp}
use Rattle.clock_ir.specs.ClockRuns.{TimedNode}
use Rattle.clock_runs.proofs.Lists.{no_some}
use Rattle.datapath.specs.Plans.{Plan, Placed, body_of, body_if, body_at, numbered, placed_in, all_ops}
use Rattle.datapath.specs.Ports.{is_load, is_store, is_array, port_of, accesses, at_port, stores, last_port, port_count}
use Rattle.circuit_agreement.proofs.CircuitStores.Lists.{Has, has_mapped, Mapped, from_mapped, has_flat, Flat, from_flat, has_numbered, Numbered, from_numbered, has_kept, from_kept, each_most}

-- ---- all operations

-- the operation stands in its node
abbrev pub Stands : Plan → Placed → Type 0
Stands p x = slice_get (body_at p x.node).ops x.number ≡ Some x.op

has_as : (p : Plan) (x : Placed) (node : Option TimedNode) → slice_get p.program.nodes x.node ≡ node → slice_get (body_if node).ops x.number ≡ Some x.op → Has (all_ops p) x
has_as p x None there stands = absurd (no_some stands)
has_as p x (Some node) there stands =
    let zero_ : 0 + x.node ≡ x.node = omega arith in
    let zero_too : 0 + x.number ≡ x.number = omega arith in
    let number : Has (enumerate_from 0 (body_of node).ops) (x.number, x.op) = subst (λ (k : ℕ). Has (enumerate_from 0 (body_of node).ops) (k, x.op)) zero_too (has_numbered 0 x.number (body_of node).ops x.op stands) in
    let inside : Has (placed_in (x.node, node)) x = has_mapped (λ (n : ℕ × TimedOp). record { node = x.node; number = n.0; op = n.1 }) (enumerate_from 0 (body_of node).ops) (x.number, x.op) number in
    let outside : Has (numbered p) (x.node, node) = subst (λ (k : ℕ). Has (numbered p) (k, node)) zero_ (has_numbered 0 x.node p.program.nodes node there) in
    has_flat placed_in (numbered p) (x.node, node) x outside inside

pub has_op : (p : Plan) (x : Placed) → Stands p x → Has (all_ops p) x
has_op p x stands = has_as p x (slice_get p.program.nodes x.node) refl stands

stands_at : (p : Plan) (n : ℕ × TimedNode) (m : ℕ × TimedOp) → slice_get p.program.nodes n.0 ≡ Some n.1 → slice_get (body_of n.1).ops m.0 ≡ Some m.1
    → Stands p (record { node = n.0; number = m.0; op = m.1 })
stands_at p n m there inside = ap (λ (node : Option TimedNode). slice_get (body_if node).ops m.0) there ∙ inside

pub stands : (p : Plan) (x : Placed) → Has (all_ops p) x → Stands p x
stands p x h =
    let outer : Flat placed_in (numbered p) x = from_flat placed_in (numbered p) x h in
    let n : ℕ × TimedNode = outer.from in
    let at_ : Numbered 0 p.program.nodes n = from_numbered 0 p.program.nodes n outer.has in
    let inner : Mapped (λ (m : ℕ × TimedOp). record { node = n.0; number = m.0; op = m.1 }) (enumerate_from 0 (body_of n.1).ops) x =
    from_mapped (λ (m : ℕ × TimedOp). record { node = n.0; number = m.0; op = m.1 }) (enumerate_from 0 (body_of n.1).ops) x outer.in_ in
    let m : ℕ × TimedOp = inner.from in
    let on : Numbered 0 (body_of n.1).ops m = from_numbered 0 (body_of n.1).ops m inner.has in
    let node_ : slice_get p.program.nodes n.0 ≡ Some n.1 = ap (slice_get p.program.nodes) (at_.is ∙ (let e : 0 + at_.place ≡ at_.place = omega arith in e)) ∙ at_.there in
    let op_ : slice_get (body_of n.1).ops m.0 ≡ Some m.1 = ap (slice_get (body_of n.1).ops) (on.is ∙ (let e : 0 + on.place ≡ on.place = omega arith in e)) ∙ on.there in
    subst (λ (z : Placed). Stands p z) inner.is (stands_at p n m node_ op_)

-- ---- accesses

-- an operation that uses a port of the array
pub record Accesses (p : Plan) (a : ℕ) (x : Placed) : Type 0 where
  pub stands_ : Stands p x
  pub array : is_array a x.op.op.array ≡ true
  pub kind : (is_load x.op.op.kind || is_store x.op.op.kind) ≡ true

abbrev accesses_array : ℕ → Placed → Bool
accesses_array a x = is_array a x.op.op.array && (is_load x.op.op.kind || is_store x.op.op.kind)

pub has_access : (p : Plan) (a : ℕ) (x : Placed) → Accesses p a x → Has (accesses p a) x
has_access p a x h = has_kept (accesses_array a) (all_ops p) x (has_op p x h.stands_) (and_from _ _ h.array h.kind)

pub from_access : (p : Plan) (a : ℕ) (x : Placed) → Has (accesses p a) x → Accesses p a x
from_access p a x h =
    let r = from_kept (accesses_array a) (all_ops p) x h in
    let parts = and_parts (is_array a x.op.op.array) (is_load x.op.op.kind || is_store x.op.op.kind) r.1 in
    record { stands_ = stands p x r.0; array = parts.0; kind = parts.1 }

pub has_at_port : (p : Plan) (a n : ℕ) (x : Placed) → Accesses p a x → port_of p a x ≡ n → Has (at_port p a n) x
has_at_port p a n x h e = has_kept (λ (z : Placed). port_of p a z == n) (accesses p a) x (has_access p a x h) (eq-eqb _ n e)

pub from_port : (p : Plan) (a n : ℕ) (x : Placed) → Has (at_port p a n) x → Accesses p a x × (port_of p a x ≡ n)
from_port p a n x h =
    let r = from_kept (λ (z : Placed). port_of p a z == n) (accesses p a) x h in
    (from_access p a x r.0, eqb-true _ n r.1)

pub has_store : (p : Plan) (a n : ℕ) (x : Placed) → Has (at_port p a n) x → is_store x.op.op.kind ≡ true → Has (stores p a n) x
has_store p a n x h e = has_kept (λ (z : Placed). is_store z.op.op.kind) (at_port p a n) x h e

pub from_store : (p : Plan) (a n : ℕ) (x : Placed) → Has (stores p a n) x → Has (at_port p a n) x × (is_store x.op.op.kind ≡ true)
from_store p a n x h = from_kept (λ (z : Placed). is_store z.op.op.kind) (at_port p a n) x h

pub port_counts : (p : Plan) (a : ℕ) (x : Placed) → Accesses p a x → port_of p a x + 1 ≤ port_count p a
port_counts p a x h = let most = each_most (λ (z : Placed). last_port p a z + 1) 1 (accesses p a) x (has_access p a x h) in omega (arith, most)

-- ---- kinds

pub store_kind : (kind : OpKind) → is_store kind ≡ true → kind ≡ o.Store
store_kind o.Store e = refl
store_kind o.Load e = absurd (cc)
store_kind o.Add e = absurd (cc)
store_kind o.Sub e = absurd (cc)
store_kind o.Mul e = absurd (cc)
store_kind o.Div e = absurd (cc)
store_kind o.Rem e = absurd (cc)
store_kind o.And e = absurd (cc)
store_kind o.Or e = absurd (cc)
store_kind o.Xor e = absurd (cc)
store_kind o.Shl e = absurd (cc)
store_kind o.Shr e = absurd (cc)
store_kind o.Eq e = absurd (cc)
store_kind o.Ne e = absurd (cc)
store_kind o.Lt e = absurd (cc)
store_kind o.Le e = absurd (cc)
store_kind o.Not e = absurd (cc)
store_kind o.Neg e = absurd (cc)
store_kind o.Select e = absurd (cc)
store_kind o.Widen e = absurd (cc)
store_kind o.Narrow e = absurd (cc)
store_kind o.Truth e = absurd (cc)
store_kind o.Copy e = absurd (cc)
store_kind (o.Fused pairing) e = absurd (cc)

pub record IsOf (a : ℕ) (array : Option ArrayId) : Type 0 where
  pub one : ArrayId
  pub is : array ≡ Some one
  pub number : one.0 ≡ a

pub array_named : (a : ℕ) (array : Option ArrayId) → is_array a array ≡ true → IsOf a array
array_named a None e = absurd (cc)
array_named a (Some one) e = record { one = one; is = refl; number = eqb-true one.0 a e }
