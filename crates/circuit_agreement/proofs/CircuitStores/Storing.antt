-- The stores of one cycle, in the circuit and in the clocked run.
use Rattle.std.proofs.Common.{◌≡◌, ◌≢◌, ℕ, zero, suc, ◌%◌, ◌<◌, Bool, true, false, not, List, [], ◌∷◌, map, Option, Some, None, refl, sym, ap, ◌∙◌, subst, inl, inr, arith, get_or}
use Rattle.std.specs.Prelude.{slice_get, ◌==◌, ◌&&◌, ◌||◌, if◌then◌else◌, is_some}
use Rattle.std.specs.List.{list_any}
use Rattle.std.proofs.lemmas.Bool.{cases_eq, eq-eqb, and_from, and_left, and_parts, or_left, not_from_false, cond-true, false≢true}
use Rattle.hls_base.specs.declared.number.ArrayId.{ArrayId}
use Rattle.ir_core.specs.declared.body.OpKind.TheVariants as o
use Rattle.ir_core.specs.declared.body.Operand.{Operand}
use Rattle.ir_core.specs.declared.cfg.Memory.{Memory}
use Rattle.ir_core.specs.Bodies.{Shapes, dims_of, address_of, subscripts, stored}
use Rattle.clock_ir.specs.Flows.{TimedOp, TimedBody, Flow, is_at, runs_at, operand_at, holds_at, starts, behind_stores}
use Rattle.clock_ir.specs.ClockRuns.{TimedNode}
use Rattle.clock_runs.proofs.Lists.{some_same, no_some}
use Rattle.datapath.specs.Plans.{Plan, Placed, Array, array_of, no_array, array_at, body_at, span}
use Rattle.datapath.specs.Cycles.{Ready, Initial, AddressOf, StoredOf, Cycle, in_cycle, holds, resets}
use Rattle.rtl_logic.specs.Choosing.{where_}
use Rattle.datapath.specs.Reading.{at, at_iteration, operand, is_true, is_starting, arguments, is_allowed}
use Rattle.datapath.specs.Control.{may_store}
use Rattle.datapath.specs.Ports.{is_load, is_store, is_array, port_of, at_port, stores, port_count, element_address, is_storing, host_writes, outside_writes, is_enabled, behind_ports}
use Rattle.datapath.specs.Circuits.{IsCycle}
use Rattle.circuit_agreement.specs.CircuitFlow.Reads.{by_argument, by_guard}
use Rattle.circuit_agreement.specs.CircuitFlow.Flows.{Sees, StoresAsRun, Stores, store_address, StoresAreApart}
use Rattle.circuit_agreement.specs.CircuitFlow.Compiled.{IsCompiled}
use Rattle.circuit_agreement.proofs.Nodes.{shapes, positive}
use Rattle.circuit_agreement.specs.CircuitStores.{NodesStore}
use Rattle.circuit_agreement.proofs.CircuitStores.Lists.{Has, some_tested, Tested, any_there, map_same}
use Rattle.circuit_agreement.proofs.CircuitStores.Quiet.{Running, off, off_at, unreset}
use Rattle.circuit_agreement.proofs.CircuitStores.Wanted.{some_wanted, all_wanted}
use Rattle.circuit_agreement.proofs.CircuitStores.Operations.{Accesses, from_port, from_store, has_at_port, has_store, port_counts, store_kind, IsOf, array_named}
use Rattle.circuit_agreement.proofs.CircuitStores.Turns.{arrays_are, one_user, same_time}
use Rattle.circuit_agreement.proofs.CircuitStores.FlowStores.{Alters, word_of, arguments_of, none_stores, one_stores, storing_or_not, ticked_memories}
use Rattle.circuit_agreement.proofs.CircuitStores.Ports.{Writes, none_writes, one_writes}

-- ---- dimensions

same_dims : (ms : List Memory) (a : ℕ) → (get_or (map array_of ms) a no_array).dims ≡ get_or (map (λ (m : Memory). m.dims.items) ms) a []
same_dims [] a = refl
same_dims (m ∷ ms) zero = refl
same_dims (m ∷ ms) (suc a) = same_dims ms a

pub dims_are : (p : Plan) (k : IsCompiled p) (a : ℕ) (array : ArrayId) → array.0 ≡ a → (array_at p a).dims ≡ dims_of p.program.shapes array
dims_are p k a array e =
    ap (λ (xs : List Array). (get_or xs a no_array).dims) (arrays_are p k)
    ∙ (same_dims k.untimed.frame.memories.items a
    ∙ (ap (λ q. get_or (map (λ (m : Memory). m.dims.items) k.untimed.frame.memories.items) q []) (sym e) ∙ ap (λ (s : Shapes). dims_of s array) (sym (shapes p k))))

abbrev placed : ℕ → ℕ → TimedOp → Placed
placed i j it = record { node = i; number = j; op = it }

module _ (p : Plan) (k : IsCompiled p) (i : ℕ) (n : TimedNode) (there : slice_get p.program.nodes i ≡ Some n) (f : Flow) (c : Cycle) (is_cycle : IsCycle p c) (run : Running i c) (sees : Sees p i f c)
    (as_run : StoresAsRun p i f c) where
  abbrev body : TimedBody
  body = body_at p i

  active_here : (j t : ℕ) → at p c j t ≡ true → j ≡ i
  active_here j t e = elim (cases_eq j i) [ inl same ↦ same | inr other ↦ absurd (false≢true (sym (off_at p c j t (run.others j other)) ∙ e)) ]

  no_outside : (a m : ℕ) → outside_writes p c a m ≡ false
  no_outside a zero = by_host (array_at p a).host
    where
      by_host : (b : Bool) → (if b then host_writes p c a else is_some (array_at p a).first && holds c Initial) ≡ false
      by_host true = and_left _ _ (and_left _ _ (off c Ready run.ready))
      by_host false = and_false (is_some (array_at p a).first) (off c Initial run.initial)
        where
          and_false : (b : Bool) {d : Bool} → d ≡ false → (b && d) ≡ false
          and_false true e = e
          and_false false e = refl
  no_outside a (suc m) = refl

  starting : (x : Placed) → is_storing p c x ≡ true → is_starting p c x ≡ true
  starting x e = (and_parts (at p c x.node x.op.start) _ (and_parts (at_iteration p c x.node x.op.start) _ (and_parts (may_store p c x) _ e).0).0).0

  -- ---- what is read

  same_arguments : (j : ℕ) (it : TimedOp) → slice_get body.ops j ≡ Some it → is_at body.interval it.start f.time ≡ true → arguments p c (placed i j it) ≡ arguments_of p i f it
  same_arguments j it at_ now = map_same (operand p c i it.start) (operand_at body f it.start) it.op.args (λ x h. sees x it.start (by_argument j h.place it x at_ h.there) now)

  guard_as : (j : ℕ) (it : TimedOp) (g : Option Operand) → slice_get body.ops j ≡ Some it → is_at body.interval it.start f.time ≡ true → it.op.guard ≡ g
      → is_true p c i it.start g ≡ holds_at body f it.start g
  guard_as j it None at_ now is = refl
  guard_as j it (Some x) at_ now is = ap (λ v. not (v == 0)) (sees x it.start (by_guard j it x at_ is) now)

  -- ---- one store

  -- an operation of this node that stores at this port, in the circuit and in the clocked run
  record At (a m : ℕ) (x : Placed) : Type 0 where
    here : x.node ≡ i
    stands_ : slice_get body.ops x.number ≡ Some x.op
    kind : x.op.op.kind ≡ o.Store
    array : IsOf a x.op.op.array
    starts_ : starts body f x.op ≡ true
    allowed : holds_at body f x.op.start x.op.op.guard ≡ true
    accesses_ : Accesses p a x
    port_ : port_of p a x ≡ m
    storing_ : is_storing p c x ≡ true

  at_time : (it : TimedOp) → starts body f it ≡ true → is_at body.interval it.start f.time ≡ true
  at_time it e = (and_parts (is_at body.interval it.start f.time) (runs_at body f it.start) e).0

  moved : (x : Placed) → x.node ≡ i → placed i x.number x.op ≡ x
  moved x e = ap (λ q. placed q x.number x.op) (sym e)

  -- from the circuit to the clocked run
  from_circuit : (a m : ℕ) (x : Placed) → Has (stores p a m) x → is_storing p c x ≡ true → At a m x
  from_circuit a m x h e =
      let s = from_store p a m x h in
      let port = from_port p a m x s.0 in
      let here : x.node ≡ i = active_here x.node x.op.start (starting x e) in
      let at_ : slice_get body.ops x.number ≡ Some x.op = ap (λ q. slice_get (body_at p q).ops x.number) (sym here) ∙ port.0.stands_ in
      let kind : x.op.op.kind ≡ o.Store = store_kind x.op.op.kind s.1 in
      let both = and_parts (may_store p c (placed i x.number x.op)) (is_allowed p c (placed i x.number x.op)) (ap (is_storing p c) (moved x here) ∙ e) in
      let start : starts body f x.op ≡ true = sym (as_run x.number x.op at_ kind) ∙ both.0 in
      record {
        here = here;
        stands_ = at_;
        kind = kind;
        array = array_named a x.op.op.array port.0.array;
        starts_ = start;
        allowed = sym (guard_as x.number x.op x.op.op.guard at_ (at_time x.op start) refl) ∙ both.1;
        accesses_ = port.0;
        port_ = port.1;
        storing_ = e;
      }

  -- and back
  from_run : (a j : ℕ) (array : ArrayId) (it : TimedOp) → slice_get body.ops j ≡ Some it → Stores p i f array it → array.0 ≡ a → At a (port_of p a (placed i j it)) (placed i j it)
  from_run a j array it at_ s number =
      let named : is_array a it.op.array ≡ true = ap (is_array a) s.array_ ∙ eq-eqb array.0 a number in
      record {
        here = refl;
        stands_ = at_;
        kind = s.kind;
        array = record { one = array; is = s.array_; number = number };
        starts_ = s.starts_;
        allowed = s.allowed;
        accesses_ = record { stands_ = at_; array = named; kind = ap (λ q. is_load q || is_store q) s.kind };
        port_ = refl;
        storing_ = and_from _ _ (as_run j it at_ s.kind ∙ s.starts_) (guard_as j it it.op.guard at_ (at_time it s.starts_) refl ∙ s.allowed);
      }

  module _ (a m : ℕ) (plain : (array_at p a).table ≡ None) (x : Placed) (it : At a m x) where
    has_port : Has (at_port p a m) x
    has_port = has_at_port p a m x it.accesses_ it.port_

    has_stores : Has (stores p a m) x
    has_stores = has_store p a m x has_port (ap is_store it.kind)

    -- whatever else starts at the port in this cycle is the same operation
    alone : (z : Placed) → Has (at_port p a m) z → is_starting p c z ≡ true → z ≡ x
    alone z h e =
        let port = from_port p a m z h in
        let here : z.node ≡ i = active_here z.node z.op.start e in
        let first : at p c i x.op.start ≡ true = ap (λ q. at p c q x.op.start) (sym it.here) ∙ starting x it.storing_ in
        let second : at p c i z.op.start ≡ true = ap (λ q. at p c q z.op.start) (sym here) ∙ e in
        let wide : span p i ≡ body.interval = (positive p i n k there).1 in
        let turn : x.op.start % body.interval ≡ z.op.start % body.interval =
        ap (λ w. x.op.start % w) (sym wide) ∙ (same_time p c i x.op.start z.op.start first second ∙ ap (λ w. z.op.start % w) wide) in
        let number : x.number ≡ z.number = one_user p k i n there a plain x z it.accesses_ port.0 it.here here (it.port_ ∙ sym port.1) turn in
        let at_ : slice_get body.ops x.number ≡ Some z.op = ap (slice_get body.ops) number ∙ (ap (λ q. slice_get (body_at p q).ops z.number) (sym here) ∙ port.0.stands_) in
        let op : z.op ≡ x.op = some_same (sym at_ ∙ it.stands_) in
        ap (λ q. record { node = q; number = z.number; op = z.op }) (here ∙ sym it.here)
        ∙ (ap (λ q. record { node = x.node; number = q; op = z.op }) (sym number) ∙ ap (λ q. record { node = x.node; number = x.number; op = q }) op)

    arguments_are : arguments p c x ≡ arguments_of p i f x.op
    arguments_are = ap (arguments p c) (sym (moved x it.here)) ∙ same_arguments x.number x.op it.stands_ (at_time x.op it.starts_)

    address_is : c.signals (AddressOf a m) ≡ store_address p i f it.array.one x.op
    address_is =
        (is_cycle (AddressOf a m)).wanted (element_address p c a x)
        (some_wanted (λ (z : Placed). where_ (is_starting p c z) (element_address p c a z)) (at_port p a m) x has_port (starting x it.storing_))
        (all_wanted (λ (z : Placed). where_ (is_starting p c z) (element_address p c a z)) (at_port p a m) (element_address p c a x) (λ z h e. ap (element_address p c a) (alone z h e)))
        ∙ (ap (address_of (array_at p a).dims) (cond-true _ _ _ (ap is_store it.kind))
        ∙ (ap (λ ds. address_of ds (subscripts (arguments p c x))) (dims_are p k a it.array.one it.array.number)
        ∙ ap (λ xs. address_of (dims_of p.program.shapes it.array.one) (subscripts xs)) arguments_are))

    word_is : c.signals (StoredOf a m) ≡ word_of p i f x.op
    word_is =
        (is_cycle (StoredOf a m)).wanted (stored (arguments p c x))
        (some_wanted (λ (z : Placed). where_ (is_storing p c z) (stored (arguments p c z))) (stores p a m) x has_stores it.storing_)
        (all_wanted (λ (z : Placed). where_ (is_storing p c z) (stored (arguments p c z))) (stores p a m) (stored (arguments p c x)) (λ z h e.
        ap (λ q. stored (arguments p c q)) (alone z (from_store p a m z h).0 (starting z e))))
        ∙ ap stored arguments_are

    alters : Alters p i f a (c.signals (AddressOf a m)) x.op
    alters = record {
      array = it.array.one;
      number = it.array.number;
      stores = record { kind = it.kind; array_ = it.array.is; starts_ = it.starts_; allowed = it.allowed };
      address_ = sym address_is;
    }

    enabled : is_enabled p c a m ≡ true
    enabled = and_from _ _ (or_left _ _ (any_there (is_storing p c) (stores p a m) x has_stores it.storing_)) (not_from_false _ run.unset)

    within : m < port_count p a
    within = let h = port_counts p a x it.accesses_ in let e = it.port_ in omega (arith, h, e)

  -- ---- all stores

  -- who writes at a port
  record User (a m : ℕ) : Type 0 where
    one : Placed
    at_ : At a m one

  user : (a m : ℕ) → is_enabled p c a m ≡ true → User a m
  user a m e =
      let some = (and_parts (list_any (is_storing p c) (stores p a m) || outside_writes p c a m) (not (resets c)) e).0 in
      let any : list_any (is_storing p c) (stores p a m) ≡ true = or_none (list_any (is_storing p c) (stores p a m)) some (no_outside a m) in
      let t : Tested (is_storing p c) (stores p a m) = some_tested (is_storing p c) (stores p a m) any in
      record { one = t.one; at_ = from_circuit a m t.one t.has t.passes }
    where
      or_none : (b : Bool) {d : Bool} → (b || d) ≡ true → d ≡ false → b ≡ true
      or_none true e g = refl
      or_none false e g = absurd (false≢true (sym g ∙ e))

  module _ (apart : StoresAreApart p i f) (a address : ℕ) (plain : (array_at p a).table ≡ None) where
    abbrev behind : ℕ
    behind = behind_stores p.program.shapes body f body.ops f.memories a address

    -- a port that writes at the address writes what an operation stores there
    writer : (m : ℕ) → Writes p c a address m → (x : Placed) × (At a m x × Alters p i f a address x.op)
    writer m w =
        let y : User a m = user a m w.enabled in
        (y.one, (y.at_, subst (λ q. Alters p i f a q y.one.op) w.address_ (alters a m plain y.one y.at_)))

    -- no two operations store at the address
    one_alters : (j l : ℕ) (it other : TimedOp) → slice_get body.ops j ≡ Some it → slice_get body.ops l ≡ Some other → j ≢ l → Alters p i f a address it → Alters p i f a address other → ⊥
    one_alters j l it other at_ there_ differ first second =
        let same : second.array ≡ first.array = ap array_number (second.number ∙ sym first.number) in
        apart j l it other first.array at_ there_ differ first.stores (subst (λ q. Stores p i f q other) same second.stores)
        (first.address_ ∙ (sym second.address_ ∙ ap (λ q. store_address p i f q other) same))
      where
        array_number : ℕ → ArrayId
        array_number q = record { 0 = q }

    agrees : (words : ℕ → ℕ) → words address ≡ f.memories a address → behind_ports p c a 0 (port_count p a) words address ≡ behind
    agrees words before =
        elim (storing_or_not p i f a address body.ops) [
          | inr none ↦
              none_writes p c a address 0 (port_count p a) words (λ m low high w. let x = writer m w in none x.0.number x.0.op x.1.0.stands_ x.1.1)
              ∙ (before ∙ sym (none_stores p i f a address body.ops f.memories none))
          | inl s ↦
              let x : Placed = placed i s.number s.it in
              let m : ℕ = port_of p a x in
              let y : At a m x = from_run a s.number s.alters.array s.it s.there s.alters.stores s.alters.number in
              let address_ : c.signals (AddressOf a m) ≡ address =
              address_is a m plain x y ∙ (ap (λ (r : ArrayId). store_address p i f r s.it) (some_same (sym y.array.is ∙ s.alters.stores.array_)) ∙ s.alters.address_) in
              let writes : Writes p c a address m = record { enabled = enabled a m plain x y; address_ = address_ } in
              let others : (l : ℕ) → l ≢ m → Writes p c a address l → ⊥ = λ l differ w.
              let z = writer l w in
              one_alters s.number z.0.number s.it z.0.op s.there z.1.0.stands_ (λ e.
              let op : z.0.op ≡ s.it = some_same (sym z.1.0.stands_ ∙ (ap (slice_get body.ops) (sym e) ∙ s.there)) in
              differ (sym z.1.0.port_ ∙ (ap (port_of p a) (sym (moved z.0 z.1.0.here)) ∙ (ap (λ q. port_of p a (placed i q z.0.op)) (sym e) ∙ ap (λ q. port_of p a (placed i s.number q)) op))))
              s.alters z.1.1 in
              one_writes p c a address 0 (port_count p a) m words (omega arith) (let h = within a m plain x y in omega (arith, h)) writes others
              ∙ (word_is a m plain x y
              ∙ sym (one_stores p i f a address body.ops f.memories s.number s.it s.there s.alters (λ l other differ g h. one_alters s.number l s.it other s.there g (λ e. differ (sym e)) s.alters h)))
        ]

-- ---- a cycle of a node

pub nodes_store : NodesStore
nodes_store p i time n f x y pins k there unset inside step holds_ sees as_run apart =
    let c : Cycle = in_cycle x step.signals pins in
    let run : Running i c = record { others = inside.others; ready = inside.busy.ready; initial = inside.busy.initial; unset = unreset pins unset } in
    let ticked = ticked_memories p i f in
    record {
      words = λ a address plain low.
          step.is_after.memories a address
          ∙ (agrees p k i n there f c step.is_cycle run sees as_run apart a address plain (x.memories a) (holds_.words a address plain low) ∙ sym (ap (λ (g : ℕ → ℕ → ℕ). g a address) ticked));
      tables = λ a address words is low.
          ap (λ (g : ℕ → ℕ → ℕ). g a address) ticked
          ∙ (none_stores p i f a address (body_at p i).ops f.memories (λ j it at_ h. stores_no_table p k i f a address words j it is at_ h) ∙ holds_.tables a address words is low);
    }
  where
    stores_no_table : (p : Plan) (k : IsCompiled p) (i : ℕ) (f : Flow) (a address : ℕ) (words : List ℕ) (j : ℕ) (it : TimedOp) → (array_at p a).table ≡ Some words → slice_get (body_at p i).ops j ≡ Some it
        → Alters p i f a address it → ⊥
    stores_no_table p k i f a address words j it is at_ h =
        let r = k.arrays.stores i j it at_ h.stores.kind in
        let same : r.0 ≡ h.array = some_same (sym r.1.0 ∙ h.stores.array_) in
        no_some (sym r.1.1.1 ∙ (ap (λ (q : ArrayId). (array_at p q.0).table) same ∙ (ap (λ q. (array_at p q).table) h.number ∙ is)))
