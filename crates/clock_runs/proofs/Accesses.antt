-- Accesses that are defined reach an element of their array.
use Rattle.std.proofs.Common.{◌≡◌, ℕ, ◌-◌, ◌≤◌, ◌∙◌, sym, refl, ap, subst, Bool, true, false, List, map, take, length, Option, Some, None, if◌then◌else◌, arith}
use Rattle.std.proofs.lemmas.List.{length-map, take-map, take_all, length-take}
use Rattle.hls_base.specs.declared.number.ArrayId.{ArrayId}
use Rattle.hls_base.specs.declared.refusal.UbRule.{UbRule}
use Rattle.ir_core.specs.declared.body.OpKind.{OpKind}
use Rattle.ir_core.specs.declared.body.OpKind.TheVariants as o
use Rattle.ir_core.specs.declared.body.Operand.{Operand}
use Rattle.dep_graph.specs.Meetings.{subscript_count}
use Rattle.ir_core.specs.Bodies.{OpTree, Shapes, Words, dims_of, address_of, is_within, subscripts, fault_of, access_fault}
use Rattle.clock_runs.specs.Premises.{IsSoundAs, IsSoundAccess}
use Rattle.clock_runs.proofs.Effects.{Sort, computing, loading, storing, sort_of, Reaches, Loads, Stores}
use Rattle.clock_runs.proofs.Settings.{Setting, op_at, allows}
use Rattle.clock_runs.proofs.Defined.{reading_in, Defined}

load_kind : (kind : OpKind) → sort_of kind ≡ loading → kind ≡ o.Load
load_kind o.Load e = refl
load_kind o.Store e = (cc)
load_kind o.Add e = (cc)
load_kind o.Sub e = (cc)
load_kind o.Mul e = (cc)
load_kind o.Div e = (cc)
load_kind o.Rem e = (cc)
load_kind o.And e = (cc)
load_kind o.Or e = (cc)
load_kind o.Xor e = (cc)
load_kind o.Shl e = (cc)
load_kind o.Shr e = (cc)
load_kind o.Eq e = (cc)
load_kind o.Ne e = (cc)
load_kind o.Lt e = (cc)
load_kind o.Le e = (cc)
load_kind o.Not e = (cc)
load_kind o.Neg e = (cc)
load_kind o.Select e = (cc)
load_kind o.Widen e = (cc)
load_kind o.Narrow e = (cc)
load_kind o.Truth e = (cc)
load_kind o.Copy e = (cc)
load_kind (o.Fused p) e = (cc)

pub store_kind : (kind : OpKind) → sort_of kind ≡ storing → kind ≡ o.Store
store_kind o.Store e = refl
store_kind o.Load e = (cc)
store_kind o.Add e = (cc)
store_kind o.Sub e = (cc)
store_kind o.Mul e = (cc)
store_kind o.Div e = (cc)
store_kind o.Rem e = (cc)
store_kind o.And e = (cc)
store_kind o.Or e = (cc)
store_kind o.Xor e = (cc)
store_kind o.Shl e = (cc)
store_kind o.Shr e = (cc)
store_kind o.Eq e = (cc)
store_kind o.Ne e = (cc)
store_kind o.Lt e = (cc)
store_kind o.Le e = (cc)
store_kind o.Not e = (cc)
store_kind o.Neg e = (cc)
store_kind o.Select e = (cc)
store_kind o.Widen e = (cc)
store_kind o.Narrow e = (cc)
store_kind o.Truth e = (cc)
store_kind o.Copy e = (cc)
store_kind (o.Fused p) e = (cc)

-- the operands that are subscripts
abbrev pub subscripted : OpTree → List Operand
subscripted op = take (subscript_count op.kind (length op.args)) op.args

-- operation k reaches this word, by subscripts within its array's dimensions
pub record Touches (s : Setting) (t : Words) (k memory address : ℕ) : Type 0 where
  pub allowed : allows (reading_in s t k) (op_at s k).op.guard ≡ true
  pub array : ArrayId
  pub here : (op_at s k).op.array ≡ Some array
  pub same : array.0 ≡ memory
  pub at : address_of (dims_of s.shapes array) (map (reading_in s t k) (subscripted (op_at s k).op)) ≡ address
  pub within : is_within (dims_of s.shapes array) (map (reading_in s t k) (subscripted (op_at s k).op)) ≡ true
  pub few : length (subscripted (op_at s k).op) ≤ length (dims_of s.shapes array)

within_then : (b : Bool) (rule : UbRule) → (if b then None else Some rule) ≡ None → b ≡ true
within_then true rule e = refl
within_then false rule e = (cc)

access_within : (shapes : Shapes) (p : Option ArrayId) (array : ArrayId) (is_ : List ℕ) → p ≡ Some array → access_fault shapes p is_ ≡ None → is_within (dims_of shapes array) is_ ≡ true
access_within shapes p array is_ e none = within_then (is_within (dims_of shapes array) is_) _ (ap (λ q. access_fault shapes q is_) (sym e) ∙ none)

abbrev Reached : Shapes → Option ArrayId → List ℕ → ℕ → ℕ → Type 0
Reached shapes p is_ memory address = (array : ArrayId) × ((p ≡ Some array) × (array.0 ≡ memory) × (address_of (dims_of shapes array) is_ ≡ address))

reached : (shapes : Shapes) (p : Option ArrayId) (is_ : List ℕ) (memory address : ℕ) → Reaches shapes p is_ memory address → Reached shapes p is_ memory address
reached shapes None is_ memory address h = absurd h
reached shapes (Some array) is_ memory address h = (array, (refl, h.0, h.1))

-- the subscripts of a load and of a store
load_subscripts : (op : OpTree) → op.kind ≡ o.Load → subscripted op ≡ op.args
load_subscripts op e = ap (λ k. take (subscript_count k (length op.args)) op.args) e ∙ take_all (length op.args) op.args (omega arith)

store_subscripts : (op : OpTree) (read : Operand → ℕ) → op.kind ≡ o.Store → map read (subscripted op) ≡ subscripts (map read op.args)
store_subscripts op read e =
    ap (λ k. map read (take (subscript_count k (length op.args)) op.args)) e
    ∙ sym (take-map read (length op.args - 1) op.args)
    ∙ ap (λ n. take (n - 1) (map read op.args)) (sym (length-map op.args read))

loads_are : (shapes : Shapes) (op : OpTree) (sort : Sort) (allowed : Bool) (args : List ℕ) (memory address : ℕ) → Loads shapes op sort allowed args memory address → (sort ≡ loading) × (allowed ≡ true) × Reaches shapes op.array args memory address
loads_are shapes op computing allowed args memory address h = absurd h
loads_are shapes op loading allowed args memory address h = (refl, h.0, h.1)
loads_are shapes op storing allowed args memory address h = absurd h

pub stores_are : (shapes : Shapes) (op : OpTree) (sort : Sort) (allowed : Bool) (args : List ℕ) (memory address : ℕ) → Stores shapes op sort allowed args memory address → (sort ≡ storing) × (allowed ≡ true) × Reaches shapes op.array (subscripts args) memory address
stores_are shapes op computing allowed args memory address h = absurd h
stores_are shapes op loading allowed args memory address h = absurd h
stores_are shapes op storing allowed args memory address h = (refl, h.0, h.1)

module _ (s : Setting) (t : Words) (k : ℕ) (ops : List OpTree) (sound : IsSoundAs s.shapes ops (op_at s k).op (op_at s k).op.kind) (defined : Defined s t k) (memory address : ℕ) where
  abbrev op : OpTree
  op = (op_at s k).op

  abbrev read : Operand → ℕ
  read = reading_in s t k

  pub load_touches : Loads s.shapes op (sort_of op.kind) (allows read op.guard) (map read op.args) memory address → Touches s t k memory address
  load_touches h =
      let l = loads_are s.shapes op (sort_of op.kind) (allows read op.guard) (map read op.args) memory address h in
      let kind = load_kind op.kind l.0 in
      let r = reached s.shapes op.array (map read op.args) memory address l.2 in
      let access : IsSoundAccess s.shapes op (length op.args) = subst (λ k. IsSoundAs s.shapes ops op k) kind sound in
      let subs = load_subscripts op kind in
      let none : access_fault s.shapes op.array (map read op.args) ≡ None = ap (λ k. fault_of s.shapes op k (map read op.args)) (sym kind) ∙ defined l.1 access.flagged in
      record {
        allowed = l.1;
        array = r.0;
        here = r.1.0;
        same = r.1.1;
        at = ap (λ xs. address_of (dims_of s.shapes r.0) (map read xs)) subs ∙ r.1.2;
        within = ap (λ xs. is_within (dims_of s.shapes r.0) (map read xs)) subs ∙ access_within s.shapes op.array r.0 (map read op.args) r.1.0 none;
        few = subst (λ xs. length xs ≤ length (dims_of s.shapes r.0)) (sym subs) (access.subscripted r.0 r.1.0);
      }

  pub store_touches : Stores s.shapes op (sort_of op.kind) (allows read op.guard) (map read op.args) memory address → Touches s t k memory address
  store_touches h =
      let l = stores_are s.shapes op (sort_of op.kind) (allows read op.guard) (map read op.args) memory address h in
      let kind = store_kind op.kind l.0 in
      let r = reached s.shapes op.array (subscripts (map read op.args)) memory address l.2 in
      let access : IsSoundAccess s.shapes op (length op.args - 1) = subst (λ k. IsSoundAs s.shapes ops op k) kind sound in
      let subs = store_subscripts op read kind in
      let none : access_fault s.shapes op.array (subscripts (map read op.args)) ≡ None = ap (λ k. fault_of s.shapes op k (map read op.args)) (sym kind) ∙ defined l.1 access.flagged in
      let cut = ap (λ k. length (take (subscript_count k (length op.args)) op.args)) kind ∙ length-take (length op.args - 1) op.args in
      let allowed_few = access.subscripted r.0 r.1.0 in
      record {
        allowed = l.1;
        array = r.0;
        here = r.1.0;
        same = r.1.1;
        at = ap (address_of (dims_of s.shapes r.0)) subs ∙ r.1.2;
        within = ap (is_within (dims_of s.shapes r.0)) subs ∙ access_within s.shapes op.array r.0 (subscripts (map read op.args)) r.1.0 none;
        few = omega arith;
      }
