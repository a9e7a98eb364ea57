-- No two operations store to one word in one cycle.
use Rattle.std.proofs.Common.{◌≡◌, ◌≢◌, ℕ, ◌<◌, ◌≤◌, Bool, true, List, map, Option, Some, inl, inr, refl, sym, ap, ◌∙◌, subst, arith}
use Rattle.std.specs.Prelude.{slice_get}
use Rattle.std.proofs.lemmas.Bool.{cases_order, and_parts}
use Rattle.std.proofs.lemmas.Option.{slice_get_within, get_or_from_slice_get}
use Rattle.hls_base.specs.declared.number.ArrayId.{ArrayId}
use Rattle.ir_core.specs.Bodies.{OpTree, Shapes, dims_of, address_of, subscripts}
use Rattle.clock_ir.specs.Flows.{TimedOp, is_at, runs_at}
use Rattle.clock_runs.proofs.Effects.{Sort, storing, sort_of, Reaches, Stores, stores_storing}
use Rattle.clock_runs.proofs.Settings.{Setting, nothing, op_at, count_of, sort_at, allows, Runs, reading, StoresAt, flow, time_of, IsTimely, KeepsOrder}
use Rattle.clock_runs.proofs.Numbers.{turn, is_at_true}
use Rattle.clock_runs.proofs.Chains.{flow-time}
use Rattle.clock_runs.proofs.Same.{Same, holds_allows, runs_before, open_begins, maps_same, guards_same}
use Rattle.clock_runs.proofs.Storing.{reading_at}
use Rattle.clock_runs.proofs.Memories.{ActsAt, same_all}
use Rattle.circuit_agreement.specs.ApartStores.Apart.{StoresNow, address_now, AreStoresApart}

-- ---- what stores in a cycle

reaches : (shapes : Shapes) (of_ : Option ArrayId) (array : ArrayId) (is_ : List ℕ) → of_ ≡ Some array → Reaches shapes of_ is_ array.0 (address_of (dims_of shapes array) is_)
reaches shapes of_ array is_ e = subst (λ p. Reaches shapes p is_ array.0 (address_of (dims_of shapes array) is_)) (sym e) (refl, refl)

stores : (shapes : Shapes) (op : OpTree) (sort : Sort) (allowed : Bool) (args : List ℕ) (array : ArrayId) → sort ≡ storing → allowed ≡ true → op.array ≡ Some array
    → Stores shapes op sort allowed args array.0 (address_of (dims_of shapes array) (subscripts args))
stores shapes op sort allowed args array e on at =
    subst (λ s. Stores shapes op s allowed args array.0 (address_of (dims_of shapes array) (subscripts args))) (sym e) (on, reaches shapes op.array array (subscripts args) at)

module _ (s : Setting) (time k : ℕ) (array : ArrayId) where
  acts : StoresNow s.body (flow s time) array (op_at s k) → ActsAt s array.0 (address_now s.shapes s.body (flow s time) array (op_at s k)) time k
  acts h = (
    h.starts_,
    stores s.shapes (op_at s k).op (sort_at s k) (allows (reading_at s time k) (op_at s k).op.guard) (map (reading_at s time k) (op_at s k).op.args) array
        (ap sort_of h.kind) (sym (holds_allows s.body (flow s time) (op_at s k).start (op_at s k).op.guard) ∙ h.allowed) h.array_,
  )

  pub acts_there : (it : TimedOp) → slice_get s.body.ops k ≡ Some it → StoresNow s.body (flow s time) array it
      → (k < count_of s) × ActsAt s array.0 (address_now s.shapes s.body (flow s time) array it) time k
  acts_there it there h =
      let same : op_at s k ≡ it = get_or_from_slice_get s.body.ops k it nothing there in (
        slice_get_within s.body.ops k it there,
        subst (λ (x : TimedOp). ActsAt s array.0 (address_now s.shapes s.body (flow s time) array x) time k) same (acts (subst (StoresNow s.body (flow s time) array) (sym same) h)),
      )

-- ---- which iterations store

-- what stores in this cycle is an operation of an iteration that runs
record StoreOf (s : Setting) (memory address time k : ℕ) : Type 0 where
  pub iteration : ℕ
  pub runs : Runs s iteration k
  pub at : time ≡ time_of s iteration k
  pub stores : StoresAt s iteration k memory address

module _ (s : Setting) (w : IsTimely s) (horizon : ℕ) (order : KeepsOrder s horizon) where
  store_of : (memory address time k : ℕ) → time ≤ horizon → k < count_of s → ActsAt s memory address time k → StoreOf s memory address time k
  store_of memory address time k within lt a =
      let f = flow s time in
      let start = (op_at s k).start in
      let same : Same s time = same_all s w horizon order time within in
      let i = turn s.body.interval start f.time in
      let parts = and_parts (is_at s.body.interval start f.time) (runs_at s.body f start) a.0 in
      let at : time ≡ time_of s i k = sym (flow-time s time) ∙ is_at_true s.body.interval start f.time parts.0 in
      let known = w.test_before k lt (stores_storing s.shapes (op_at s k).op (sort_at s k) _ _ memory address a.1) in
      let runs : Runs s i k = runs_before s w i (open_begins s w time same time i start (omega arith) at known.1 parts.1) k lt in
      let guard = guards_same s w time same i k time runs (omega arith) at in
      let args = maps_same s w time same i k time runs (omega arith) at in
      record {
        iteration = i;
        runs = runs;
        at = at;
        stores = subst (λ v. Stores s.shapes (op_at s k).op (sort_at s k) v (map (reading s i k) (op_at s k).op.args) memory address) guard
            (subst (λ ys. Stores s.shapes (op_at s k).op (sort_at s k) (allows (reading_at s time k) (op_at s k).op.guard) ys memory address) args a.1);
      }

  pub not_both : (memory address time k n : ℕ) → time < horizon → k < count_of s → n < count_of s → k ≢ n → ActsAt s memory address time k → ActsAt s memory address time n → ⊥
  not_both memory address time k n within lt_k lt_n differ a b =
      let x = store_of memory address time k (omega arith) lt_k a in
      let y = store_of memory address time n (omega arith) lt_n b in
      let i = x.iteration in
      let j = y.iteration in
      let first = x.at in
      let second = y.at in
      elim (cases_order i j) [
        | inl e ↦ elim (cases_order k n) [
          | inl same ↦ differ same
          | inr o ↦ elim o [
            | inl lt ↦ (let gap = order.store_after_store i k j n memory address (omega arith) (omega arith) x.runs y.runs (inr (e, lt)) x.stores y.stores in omega arith)
            | inr gt ↦ (let gap = order.store_after_store j n i k memory address (omega arith) (omega arith) y.runs x.runs (inr (sym e, gt)) y.stores x.stores in omega arith)
          ]
        ]
        | inr o ↦ elim o [
          | inl lt ↦ (let gap = order.store_after_store i k j n memory address (omega arith) (omega arith) x.runs y.runs (inl lt) x.stores y.stores in omega arith)
          | inr gt ↦ (let gap = order.store_after_store j n i k memory address (omega arith) (omega arith) y.runs x.runs (inl gt) y.stores x.stores in omega arith)
        ]
      ]

  -- so the stores of a cycle before the horizon are apart
  pub apart_here : (time : ℕ) → time < horizon → AreStoresApart s.shapes s.body (flow s time)
  apart_here time within k n one other array there_k there_n differ h g e =
      let a = acts_there s time k array one there_k h in
      let b = acts_there s time n array other there_n g in
      not_both array.0 (address_now s.shapes s.body (flow s time) array one) time k n within a.0 b.0 differ a.1
      (subst (λ address. ActsAt s array.0 address time n) (sym e) b.1)
