-- A port reads the word of the load that starts.
use Rattle.std.proofs.Common.{◌≡◌, ℕ, zero, suc, ◌+◌, ◌*◌, ◌%◌, ◌^◌, ◌<◌, Bool, true, false, not, ◌&&◌, List, [], ◌∷◌, map, take, Option, Some, None, refl, sym, ap, ap₂, ◌∙◌, subst, inl, inr, true≢false, pow_pos, pow-add, arith}
use Rattle.std.specs.Prelude.{slice_get, get_or, ◌==◌, ◌||◌, if◌then◌else◌, count_by, is_some}
use Rattle.std.specs.List.{list_any}
use Rattle.std.proofs.lemmas.Bool.{cases_Bool, cases_lt, and_parts, and_from, and_left, and_right, cond-true, cond-false, eqb-true, eq-eqb, or_left, or_right, or_from, not_from_false}
use Rattle.std.proofs.lemmas.Nat.{mul-add-lt, mod_below}
use Rattle.std.proofs.Math.Nat.{mul_comm}
use Rattle.hls_base.specs.ArrayAddress.{address_bits, subscript_bits, addresses}
use Rattle.hls_base.specs.declared.number.ArrayId.{ArrayId}
use Rattle.ir_core.specs.declared.body.OpKind.{OpKind}
use Rattle.ir_core.specs.declared.body.OpKind.TheVariants as o
use Rattle.ir_core.specs.declared.cfg.Memory.{Memory}
use Rattle.ir_core.specs.declared.timing.UnitClass.TheVariants as u
use Rattle.ir_core.specs.Timing.{occupancy, unit_class, has_table, is_table, port}
use Rattle.ir_core.specs.Bodies.{Shapes, effect, first_bits, address_of, dims_of, loaded, subscripts}
use Rattle.ir_core.specs.FirstContents.{given_at, elements_or_none}
use Rattle.clock_ir.specs.Flows.{TimedOp, Flow, is_at, operand_at, holds_at, given}
use Rattle.clock_runs.proofs.Lists.{some_same}
use Rattle.datapath.specs.Plans.{Plan, Placed, Array, array_of, no_array, array_at, depth, body_at, span, all_ops, unit_of}
use Rattle.datapath.specs.Cycles.{Initial, Word, AddressOf, Contents, Signal, Cycle, in_cycle, holds, resets}
use Rattle.rtl_logic.specs.Choosing.{Write, where_, Takes}
use Rattle.datapath.specs.Reading.{is_starting, arguments, is_allowed}
use Rattle.datapath.specs.Control.{may_store}
use Rattle.datapath.specs.Ports.{is_load, is_store, is_array, memory_port, port_of, port_count, accesses, at_port, loads, stores, element_address, is_storing, host_writes, outside_writes, is_enabled, word_of, is_refused, is_reading, read_word}
use Rattle.datapath.specs.Circuits.{IsCycle, IsAfter}
use Rattle.circuit_agreement.specs.CircuitFlow.Compiled.{IsCompiled}
use Rattle.circuit_agreement.specs.CircuitFlow.Flows.{HoldsMemories}
use Rattle.circuit_agreement.proofs.MemoryPorts.{unit_same}
use Rattle.circuit_agreement.proofs.Nodes.{shapes}
use Rattle.circuit_agreement.specs.UnitResults.UnderWay.{placed_at}
use Rattle.circuit_agreement.proofs.UnitResults.Lists.{In, Passes, in_filter, from_filter, any_true, any_false, want_some, want_all, counts_more, get_both}
use Rattle.circuit_agreement.proofs.UnitResults.Times.{same_rest}
use Rattle.circuit_agreement.proofs.UnitResults.Operations.{op_in}
use Rattle.circuit_agreement.proofs.UnitResults.Turns.{occupied, class_of}
use Rattle.circuit_agreement.proofs.UnitResults.Cycles.{Going, reads_arguments, reads_guard, starts_now, Starts, starts_as, same_place, only, span_is}

-- ---- addresses

pub address_fits : (dims is_ : List ℕ) → address_of dims is_ < 2 ^ address_bits dims
address_fits [] is_ = omega arith
address_fits (len ∷ dims) [] = pow_pos (address_bits (len ∷ dims))
address_fits (len ∷ dims) (j ∷ is_) =
    let high : ℕ = 2 ^ subscript_bits len in
    let low : ℕ = 2 ^ address_bits dims in
    let few : j % high < high = mod_below j high (pow_pos (subscript_bits len)) in
    let h : j % high * low + address_of dims is_ < low * high = mul-add-lt (j % high) low (address_of dims is_) high few (address_fits dims is_) in
    let e : low * high ≡ 2 ^ address_bits (len ∷ dims) = mul_comm low high ∙ sym (pow-add 2 (subscript_bits len) (address_bits dims)) in
    subst (λ (m : ℕ). j % high * low + address_of dims is_ < m) e h

-- ---- arrays of a compiled program

tables_in : (ms : List Memory) (a : ℕ) → is_some (get_or (map array_of ms) a no_array).table ≡ has_table (slice_get ms a)
tables_in [] a = refl
tables_in (m ∷ ms) zero = refl
tables_in (m ∷ ms) (suc a) = tables_in ms a

arrays_are : (p : Plan) (c : IsCompiled p) → p.arrays ≡ map array_of c.untimed.frame.memories.items
arrays_are p c = ap (λ (q : Plan). q.arrays) c.plan ∙ c.memories

table_is : (p : Plan) (c : IsCompiled p) (array : ArrayId) → is_table c.untimed.frame.memories.items array ≡ is_some (array_at p array.0).table
table_is p c array = sym (tables_in c.untimed.frame.memories.items array.0) ∙ ap (λ (l : List Array). is_some (get_or l array.0 no_array).table) (sym (arrays_are p c))

pub dims_are : (p : Plan) (c : IsCompiled p) (array : ArrayId) → (array_at p array.0).dims ≡ dims_of p.program.shapes array
dims_are p c array =
    ap (λ (l : List Array). (get_or l array.0 no_array).dims) (arrays_are p c)
    ∙ (get_both array_of (λ (m : Memory). m.dims.items) (λ (b : Array). b.dims) c.untimed.frame.memories.items array.0 no_array [] (λ m. refl) refl
    ∙ ap (λ (s : Shapes). get_or s.dims array.0 []) (sym (shapes p c)))

same_array : (a b : ArrayId) → a.0 ≡ b.0 → a ≡ b
same_array a b e = λ j. record { 0 = e j }

record Names (a : ℕ) (array : Option ArrayId) : Type 0 where
  array_ : ArrayId
  is : array ≡ Some array_
  number : array_.0 ≡ a

names : (a : ℕ) (array : Option ArrayId) → is_array a array ≡ true → Names a array
names a None e = absurd (true≢false (sym e))
names a (Some array) e = record { array_ = array; is = refl; number = eqb-true array.0 a e }

port_class : (p : Plan) (c : IsCompiled p) (array : ArrayId) (kind : OpKind) (bits : ℕ) (of : Option ArrayId) → (is_load kind || is_store kind) ≡ true → of ≡ Some array
    → is_some (array_at p array.0).table ≡ false → unit_class kind bits of c.untimed.frame.memories.items ≡ Some (u.Port array)
port_class p c array o.Load bits of access is none = ap (port c.untimed.frame.memories.items) is ∙ cond-false _ _ _ (table_is p c array ∙ none)
port_class p c array o.Store bits of access is none = ap (port c.untimed.frame.memories.items) is ∙ cond-false _ _ _ (table_is p c array ∙ none)
port_class p c array kind bits of access is none = absurd (true≢false (sym access))

pub taken_where : (b : Bool) (v w : ℕ) (other : Option ℕ) → b ≡ true → Takes (where_ b v ∷ []) other w → w ≡ v
taken_where true v w other e t = t.wanted v refl ((λ e. refl), _)
taken_where false v w other e t = absurd (true≢false (sym e))

-- ---- who is at the port

is_load_at : (kind : OpKind) → is_load kind ≡ true → kind ≡ o.Load
is_load_at o.Load e = refl
is_load_at kind e = absurd (true≢false (sym e))

is_store_at : (kind : OpKind) → is_store kind ≡ true → kind ≡ o.Store
is_store_at o.Store e = refl
is_store_at kind e = absurd (true≢false (sym e))

-- a load of the array that starts at this time of the interval
abbrev beside : ℕ → ℕ → ℕ → TimedOp → Bool
beside a w r it = is_load it.op.kind && (is_array a it.op.array && (it.start % w == r))

record AtPort (p : Plan) (a n : ℕ) (q : Placed) : Type 0 where
  place : ℕ
  stands : slice_get (all_ops p) place ≡ Some q
  array : is_array a q.op.op.array ≡ true
  access : (is_load q.op.op.kind || is_store q.op.op.kind) ≡ true
  port_ : port_of p a q ≡ n

from_port : (p : Plan) (a n m : ℕ) (q : Placed) → slice_get (at_port p a n) m ≡ Some q → AtPort p a n q
from_port p a n m q e =
    let access_ : Placed → Bool = λ (z : Placed). is_array a z.op.op.array && (is_load z.op.op.kind || is_store z.op.op.kind) in
    let h : Passes (λ (z : Placed). port_of p a z == n) (accesses p a) q = from_filter (λ (z : Placed). port_of p a z == n) (accesses p a) m q e in
    let g : Passes access_ (all_ops p) q = from_filter access_ (all_ops p) h.place q h.stands in
    let parts = and_parts (is_array a q.op.op.array) (is_load q.op.op.kind || is_store q.op.op.kind) g.passes in
    record { place = g.place; stands = g.stands; array = parts.0; access = parts.1; port_ = eqb-true (port_of p a q) n h.passes }

module _ (p : Plan) (i : ℕ) (f : Flow) (x : Contents) (signals : Signal → ℕ) (pins : List ℕ) (g : Going p i f x signals pins) (k : ℕ) (it : TimedOp) (array : ArrayId)
    (is : slice_get (body_at p i).ops k ≡ Some it) (load : it.op.kind ≡ o.Load) (of : it.op.array ≡ Some array) (now : is_at (body_at p i).interval it.start f.time ≡ true) where
  abbrev c : Cycle
  c = in_cycle x signals pins

  abbrev a : ℕ
  a = array.0

  abbrev mine : Placed
  mine = placed_at i k it

  abbrev n : ℕ
  n = port_of p array.0 (placed_at i k it)

  abbrev memories : List Memory
  memories = g.compiled.untimed.frame.memories.items

  is_load_ : is_load it.op.kind ≡ true
  is_load_ = ap is_load load

  is_array_ : is_array a it.op.array ≡ true
  is_array_ = ap (is_array a) of ∙ eq-eqb a a refl

  at_this_port : In (at_port p a n) mine
  at_this_port =
      let h = op_in p i k g.node it g.there is in
      let access_ : Placed → Bool = λ (z : Placed). is_array a z.op.op.array && (is_load z.op.op.kind || is_store z.op.op.kind) in
      let r = in_filter access_ (all_ops p) h.place mine h.stands (and_from _ _ is_array_ (or_left (is_load it.op.kind) (is_store it.op.kind) is_load_)) in
      in_filter (λ (z : Placed). port_of p a z == n) (accesses p a) r.place mine r.stands (eq-eqb n n refl)

  starts_mine : is_starting p c mine ≡ true
  starts_mine = starts_now p i f x signals pins g k it now

  -- loads of a table that start together have different ports
  earlier : (w r j m : ℕ) (one : TimedOp) → slice_get (body_at p i).ops j ≡ Some one → is_load one.op.kind ≡ true → is_array a one.op.array ≡ true → one.start % w ≡ r → j < m
      → count_by (beside a w r) (take j (body_at p i).ops) < count_by (beside a w r) (take m (body_at p i).ops)
  earlier w r j m one at_ loads_ names_ rest less =
      counts_more (beside a w r) (body_at p i).ops j m one at_ (and_from _ _ loads_ (and_from _ _ names_ (eq-eqb (one.start % w) r rest))) less

  same_load : (q : Placed) → Starts p i f x signals pins g q → AtPort p a n q → is_load q.op.op.kind ≡ true → is_some (array_at p a).table ≡ true → k ≡ q.number
  same_load q s h loads_ table =
      let w : ℕ = span p i in
      let ops : List TimedOp = (body_at p i).ops in
      let wide : w ≡ (body_at p i).interval = span_is p i f x signals pins g in
      let mine_now : it.start % w ≡ f.time % w = subst (λ (v : ℕ). it.start % v ≡ f.time % v) (sym wide) (same_rest (body_at p i).interval it.start f.time now) in
      let its_now : q.op.start % w ≡ f.time % w = subst (λ (v : ℕ). q.op.start % v ≡ f.time % v) (sym wide) s.now in
      let r : ℕ = f.time % w in
      let q_is : q ≡ placed_at i q.number q.op = (λ j. record { node = s.here j; number = q.number; op = q.op }) in
      let mine_port : n ≡ count_by (beside a w r) (take k ops) = cond-true _ _ _ table ∙ ap (λ (v : ℕ). count_by (beside a w v) (take k ops)) mine_now in
      let its_port : n ≡ count_by (beside a w r) (take q.number ops) =
      sym h.port_ ∙ (ap (port_of p a) q_is ∙ (cond-true _ _ _ table ∙ ap (λ (v : ℕ). count_by (beside a w v) (take q.number ops)) its_now)) in
      elim (cases_lt k q.number) [
        | inl less ↦ let l = earlier w r k q.number it is is_load_ is_array_ mine_now less in absurd (omega (arith, l, mine_port, its_port))
        | inr ge ↦
            elim (cases_lt q.number k) [
              | inl less ↦ let l = earlier w r q.number k q.op s.is loads_ h.array its_now less in absurd (omega (arith, l, mine_port, its_port))
              | inr le ↦ omega (arith, ge, le)
            ]
      ]

  -- only this operation starts at the port
  one_access : (m : ℕ) (q : Placed) → slice_get (at_port p a n) m ≡ Some q → is_starting p c q ≡ true → q ≡ mine
  one_access m q e start =
      let h = from_port p a n m q e in
      let s = starts_as p i f x signals pins g h.place q h.stands start in
      let name = names a q.op.op.array h.array in
      elim (cases_Bool (is_some (array_at p a).table)) [
        | inl table ↦
            elim (cases_Bool (is_load q.op.op.kind)) [
              | inl loads_ ↦ same_place p i f x signals pins g k it q s is (same_load q s h loads_ table)
              | inr other ↦
                  let stores_ : is_store q.op.op.kind ≡ true = sym (ap (λ (b : Bool). b || is_store q.op.op.kind) other) ∙ h.access in
                  let st = g.compiled.arrays.stores i q.number q.op s.is (is_store_at q.op.op.kind stores_) in
                  let number_ : st.0.0 ≡ a = ap (λ (z : ArrayId). z.0) (some_same (sym st.1.0 ∙ name.is)) ∙ name.number in
                  let none : (array_at p a).table ≡ None = subst (λ (z : ℕ). (array_at p z).table ≡ None) number_ st.1.1.1 in
                  absurd (true≢false (sym table ∙ ap is_some none))
            ]
        | inr none ↦
            let early : 0 < occupied it = subst (λ (z : ℕ). 0 < z) (sym (ap (λ (kind : OpKind). occupancy kind it.op.bits) load)) (omega arith) in
            let started : is_at (body_at p i).interval (it.start + 0) f.time ≡ true =
            subst (λ (z : ℕ). is_at (body_at p i).interval z f.time ≡ true) (let z : it.start ≡ it.start + 0 = omega arith in z) now in
            let first : class_of memories it ≡ Some (u.Port array) =
            port_class p g.compiled array it.op.kind it.op.bits it.op.array (or_left (is_load it.op.kind) (is_store it.op.kind) is_load_) of none in
            let its : q.op.op.array ≡ Some array = name.is ∙ ap (λ (z : ArrayId). Some z) (same_array name.array_ array name.number) in
            let second : class_of memories q.op ≡ Some (u.Port array) = port_class p g.compiled array q.op.op.kind q.op.op.bits q.op.op.array h.access its none in
            let its_port : memory_port p a q ≡ n = sym (cond-false _ _ _ none) ∙ h.port_ in
            let mine_port : n ≡ memory_port p a mine = cond-false _ _ _ none in
            let wide : span p i ≡ (body_at p i).interval = span_is p i f x signals pins g in
            let its_turn : q.op.start % span p q.node ≡ f.time % span p i =
            ap (λ (j : ℕ). q.op.start % span p j) s.here ∙ subst (λ (v : ℕ). q.op.start % v ≡ f.time % v) (sym wide) s.now in
            let mine_turn : it.start % span p i ≡ f.time % span p i = subst (λ (v : ℕ). it.start % v ≡ f.time % v) (sym wide) (same_rest (body_at p i).interval it.start f.time now) in
            let unit_ : unit_of p q ≡ unit_of p mine = unit_same p a q mine s.here (its_turn ∙ sym mine_turn) (its_port ∙ mine_port) in
            (only p i f x signals pins g k 0 h.place it q (u.Port array) is started early first h.stands start second unit_).1
      ]

  -- ---- the word

  abbrev args : List ℕ
  args = map (operand_at (body_at p i) f it.start) it.op.args

  abbrev allowed : Bool
  allowed = holds_at (body_at p i) f it.start it.op.guard

  abbrev address : ℕ
  address = address_of (dims_of p.program.shapes array) args

  addressed : IsCycle p c → signals (AddressOf a n) ≡ address
  addressed is_cycle =
      let write : Placed → Write = λ (q : Placed). where_ (is_starting p c q) (element_address p c a q) in
      (is_cycle (AddressOf a n)).wanted (element_address p c a mine)
      (want_some write (at_port p a n) at_this_port.place mine at_this_port.stands starts_mine)
      (want_all write (at_port p a n) (element_address p c a mine) (λ m q e start. ap (element_address p c a) (one_access m q e start)))
      ∙ (ap (λ (kind : OpKind). address_of (array_at p a).dims (if is_store kind then subscripts (arguments p c mine) else arguments p c mine)) load
      ∙ ap₂ (λ (d l : List ℕ). address_of d l) (dims_are p g.compiled array) (reads_arguments p i f c k it g.sees is now))

  fits : address < 2 ^ depth p a
  fits = subst (λ (d : List ℕ). address < 2 ^ address_bits d) (sym (dims_are p g.compiled array)) (address_fits (dims_of p.program.shapes array) args)

  held_word : HoldsMemories p f.memories x → word_of c a (array_at p a) address ≡ f.memories a address
  held_word holds = by_table (array_at p a).table refl
    where
      by_table : (table : Option (List ℕ)) → (array_at p a).table ≡ table → word_of c a (array_at p a) address ≡ f.memories a address
      by_table None e =
          ap (λ (t : Option (List ℕ)). if is_some t then given_at (addresses (array_at p a).dims) (elements_or_none t) address 0 else x.memories a address) e ∙ holds.words a address e fits
      by_table (Some ws) e =
          ap (λ (t : Option (List ℕ)). if is_some t then given_at (addresses (array_at p a).dims) (elements_or_none t) address 0 else x.memories a address) e ∙ sym (holds.tables a address ws e fits)

  given_as : (b : Bool) → allowed ≡ b
      → given p.program.shapes (body_at p i) f it ≡ (effect p.program.shapes it.op o.Load b (first_bits p.program.shapes.widths (map (λ (q : TimedOp). q.op) (body_at p i).ops) it.op it.op.args) args (record { variables = f.entry; memories = f.memories })).result
  given_as b e =
      ap₂ (λ (kind : OpKind) (v : Bool). (effect p.program.shapes it.op kind v (first_bits p.program.shapes.widths (map (λ (q : TimedOp). q.op) (body_at p i).ops) it.op it.op.args) args (record { variables = f.entry; memories = f.memories })).result)
      load e

  load_in : In (loads p a n) mine
  load_in = in_filter (λ (z : Placed). is_load z.op.op.kind) (at_port p a n) at_this_port.place mine at_this_port.stands is_load_

  refused_not : allowed ≡ true → list_any (is_refused p c) (loads p a n) ≡ false
  refused_not e =
      any_false (is_refused p c) (loads p a n) (λ m q at_.
      elim (cases_Bool (is_starting p c q)) [
        | inl start ↦
            let h = from_filter (λ (z : Placed). is_load z.op.op.kind) (at_port p a n) m q at_ in
            let same : q ≡ mine = one_access h.place q h.stands start in
            and_right (is_starting p c q) (not (is_allowed p c q)) (ap (λ (z : Placed). not (is_allowed p c z)) same ∙ ap not (reads_guard p i f c k it g.sees is now ∙ e))
        | inr quiet ↦ and_left (is_starting p c q) (not (is_allowed p c q)) quiet
      ])

  refused_so : allowed ≡ false → list_any (is_refused p c) (loads p a n) ≡ true
  refused_so e = any_true (is_refused p c) (loads p a n) load_in.place mine load_in.stands (and_from _ _ starts_mine (ap not (reads_guard p i f c k it g.sees is now ∙ e)))

  -- nor does the host write, nor the initial sequence
  outside_quiet : (m : ℕ) → outside_writes p c a m ≡ false
  outside_quiet zero = by_host (array_at p a).host
    where
      by_host : (b : Bool) → (if b then host_writes p c a else is_some (array_at p a).first && holds c Initial) ≡ false
      by_host true = and_left _ _ (and_left _ _ (ap (λ (v : ℕ). v == 1) g.inside.busy.ready))
      by_host false = and_right (is_some (array_at p a).first) (holds c Initial) (ap (λ (v : ℕ). v == 1) g.inside.busy.initial)
  outside_quiet (suc m) = refl

  -- nothing is stored at the port
  enabled_not : is_some (array_at p a).table ≡ false → is_enabled p c a n ≡ false
  enabled_not none = and_left (list_any (is_storing p c) (stores p a n) || outside_writes p c a n) (not (resets c)) (or_from (list_any (is_storing p c) (stores p a n)) (outside_writes p c a n) none_stores none_outside)
    where
      none_stores : list_any (is_storing p c) (stores p a n) ≡ false
      none_stores =
          any_false (is_storing p c) (stores p a n) (λ m q at_.
          let h = from_filter (λ (z : Placed). is_store z.op.op.kind) (at_port p a n) m q at_ in
          elim (cases_Bool (is_starting p c q)) [
            | inl start ↦
                let same : q ≡ mine = one_access h.place q h.stands start in
                let stores_ : is_store o.Load ≡ true = ap is_store (sym load) ∙ (ap (λ (z : Placed). is_store z.op.op.kind) (sym same) ∙ h.passes) in
                absurd (true≢false (sym stores_))
            | inr quiet ↦ and_left (may_store p c q) (is_allowed p c q) (and_left _ _ (and_left _ _ quiet))
          ])

      none_outside : outside_writes p c a n ≡ false
      none_outside = outside_quiet n

  reading : is_reading p c a n ≡ true
  reading =
      elim (cases_Bool (is_some (array_at p a).table)) [
        | inl table ↦ or_left (is_some (array_at p a).table) (not ((port_count p a == 1) && is_enabled p c a n)) table
        | inr none ↦
            or_right (is_some (array_at p a).table) (not ((port_count p a == 1) && is_enabled p c a n))
            (not_from_false ((port_count p a == 1) && is_enabled p c a n) (and_right (port_count p a == 1) (is_enabled p c a n) (enabled_not none)))
      ]

  pub word_read : (y : Contents) → IsCycle p c → IsAfter p c y → HoldsMemories p f.memories x → y.regs (Word a n) ≡ given p.program.shapes (body_at p i) f it
  word_read y is_cycle after holds =
      taken_where (is_reading p c a n) (read_word p c a n) (y.regs (Word a n)) (Some (x.regs (Word a n))) reading (after.regs (Word a n))
      ∙ elim (cases_Bool allowed) [
        | inl yes_ ↦
            cond-false _ _ _ (refused_not yes_)
            ∙ (ap (word_of c a (array_at p a)) (addressed is_cycle)
            ∙ (held_word holds ∙ sym (given_as true yes_ ∙ ap (λ (z : Option ArrayId). loaded p.program.shapes z args (record { variables = f.entry; memories = f.memories })) of)))
        | inr no_ ↦ cond-true _ _ _ (refused_so no_) ∙ sym (given_as false no_)
      ]
