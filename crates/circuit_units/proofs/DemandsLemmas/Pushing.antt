-- What operations give to units and ports, one push after another.
use Rattle.std.proofs.Common.{◌≡◌, ◌<◌, ℕ, ◌%◌, ◌^◌, Bool, true, false, List, [], ◌∷◌, ◌++◌, map, sym, ap, ◌∙◌, subst, append_assoc, arith}
use Rattle.std.specs.Prelude.{◌-◌, not, bit_and, Option, is_some, get_or, if◌then◌else◌}
use Rattle.hls_base.specs.declared.number.ArrayId.{ArrayId}
use Rattle.ir_core.specs.declared.body.Operand.{Operand}
use Rattle.ir_core.specs.declared.body.OpKind.TheVariants as o
use Rattle.rtl_core.specs.declared.design.Atom.{Atom}
use Rattle.rtl_core.specs.declared.design.Atom.TheVariants as atom
use Rattle.rtl_core.specs.Netlist.{Netlist}
use Rattle.rtl_core.specs.ClockStep.{bit_of}
use Rattle.rtl_logic.specs.Making.{Appends, Makes}
use Rattle.rtl_logic.specs.Choosing.{where_}
use Rattle.rtl_logic.proofs.Making.{appended, appends_both}
use Rattle.ir_core.specs.Bodies.{address_of, stored}
use Rattle.datapath.specs.Plans.{Plan, Placed, array_at, depth}
use Rattle.datapath.specs.Cycles.{Register, Cycle, bit}
use Rattle.datapath.specs.Reading.{at, operand, arguments, is_true, is_starting}
use Rattle.datapath.specs.Control.{may_store}
use Rattle.datapath.specs.Units.{argument_write}
use Rattle.datapath.specs.Ports.{port_of, is_refused}
use Rattle.datapath.specs.CircuitWires.Carrying.{IsBegun, Carries, Tells, MakesCarrying, MakesTelling}
use Rattle.datapath.proofs.Combining.{carries_on, constant_carries, not_tells, and_tells}
use Rattle.circuit_context.specs.declared.wanted.role.UnitKind.{UnitKind}
use Rattle.circuit_context.specs.declared.wanted.role.SharedUnit.{SharedUnit}
use Rattle.circuit_context.specs.declared.wanted.role.Target.{Target}
use Rattle.circuit_context.specs.declared.wanted.role.Target.TheVariants as t
use Rattle.circuit_context.specs.declared.wanted.log.Push.{Push}
use Rattle.circuit_context.specs.Wanted.Entries.{Entry, entry, bit_entry, unit_at, shared_entries, address_entry, refusal_entries, entries_as}
use Rattle.circuit_context.specs.Wanted.Logs.{IsPush, Logs}
use Rattle.circuit_context.proofs.WantedLemmas.Joining.{pushes_append, pushes_later, logs_one, logs_then}
use Rattle.circuit_context.specs.Contexts.{subscripted, placed}
use Rattle.circuit_units.specs.declared.demands.started.Started.{Started}
use Rattle.circuit_units.specs.declared.demands.accesses.Port.{Port}
use Rattle.circuit_units.specs.Demands.Placing.{placed_as, IsStarted, argument_of, IsPortOf, subscripts_as, stored_entry}
use Rattle.circuit_units.proofs.DemandsLemmas.Reading.{carried_as, argument_is, same_place}

abbrev pub pushed : Target → Atom → Atom → Push
pushed target when value = record { target = target; choice = record { when = when; value = value } }

-- one push more
pub logs_more : (p : Plan) (names : List Register) (d e : Netlist) (a b c : List Push) (push : Push) (es : List Entry) (it : Entry) → Logs p names d e a b es → c ≡ b ++ push ∷ [] → IsPush p names e push it
    → Logs p names d e a c (es ++ it ∷ [])
logs_more p names d e a b c push es it h is k = record {
  more = h.more ++ push ∷ [];
  is = is ∙ (ap (λ l. l ++ push ∷ []) h.is ∙ append_assoc a h.more (push ∷ []));
  appends = h.appends;
  begun = h.begun;
  are = pushes_append p names e h.more (push ∷ []) es (it ∷ []) h.are (k, tt);
}

-- wires are made afterwards
pub logs_before : (p : Plan) (names : List Register) (d e f : Netlist) (a b : List Push) (es : List Entry) → Logs p names d e a b es → Appends e f → IsBegun p names f → Logs p names d f a b es
logs_before p names d e f a b es h after begun = record {
  more = h.more;
  is = h.is;
  appends = appends_both d e f h.appends after;
  begun = begun;
  are = pushes_later p names e f h.more es (appended e f after) h.are;
}

-- a bit that is known
pub known_bit : (p : Plan) (names : List Register) (d : Netlist) (b : Bool) (a : Atom) → a ≡ atom.Constant 1 (bit b) → Carries p names d 1 a (λ (c : Cycle). bit b)
known_bit p names d b a is = subst (λ x. Carries p names d 1 x (λ (c : Cycle). bit b)) (sym is) (constant_carries p names d 1 (bit b) (omega arith, omega arith) (below b)) where
  below : (b : Bool) → bit b < 2 ^ 1
  below true = omega arith
  below false = omega arith

pub sign_bit : (b : Bool) (a : Atom) → a ≡ atom.Constant 1 (bit_of b % 2 ^ 1) → a ≡ atom.Constant 1 (bit b)
sign_bit true a is = is
sign_bit false a is = is

-- ---- shared units

pub shared_logged : (p : Plan) (names : List Register) (d e : Netlist) (l0 l1 l2 l3 : List Push) (it : Started) (k : UnitKind) (when left right signed : Atom)
    → MakesTelling p names d e when (λ (c : Cycle). at p c it.at.node.0 it.at.time)
    → Carries p names e it.op.now.bits left (argument_of p it 0) → Carries p names e it.op.now.bits right (argument_of p it 1) → signed ≡ atom.Constant 1 (bit_of it.op.now.signed % 2 ^ 1)
    → IsStarted p it
    → l1 ≡ l0 ++ pushed (t.Left (record { kind = k; bits = it.op.now.bits; number = it.op.now.stamp.bound })) when left ∷ []
    → l2 ≡ l1 ++ pushed (t.Right (record { kind = k; bits = it.op.now.bits; number = it.op.now.stamp.bound })) when right ∷ []
    → l3 ≡ l2 ++ pushed (t.Signed (record { kind = k; bits = it.op.now.bits; number = it.op.now.stamp.bound })) when signed ∷ []
    → Logs p names d e l0 l3 (shared_entries p (unit_at p k (placed_as it)) (placed_as it))
shared_logged p names d e l0 l1 l2 l3 it k when left right signed starts one other sign h is1 is2 is3 =
    let x : Placed = placed_as it in
    let own : SharedUnit = record { kind = k; bits = it.op.now.bits; number = it.op.now.stamp.bound } in
    let unit : SharedUnit = unit_at p k x in
    let same : own ≡ unit = ap {B = SharedUnit} (λ (n : ℕ). record { kind = k; bits = it.op.now.bits; number = n }) (sym h.unit) in
    let first : IsPush p names e (pushed (t.Left own) when left) (entry (t.Left unit) (λ c. argument_write p c 0 x)) = record {
      target = ap t.Left same;
      there = tt;
      when = starts.carries;
      value = carried_as p names e it.op.now.bits left (argument_of p it 0) (λ c. get_or (arguments p c x) 0 0) (argument_is p it 0) one;
    } in
    let second : IsPush p names e (pushed (t.Right own) when right) (entry (t.Right unit) (λ c. argument_write p c 1 x)) = record {
      target = ap t.Right same;
      there = tt;
      when = starts.carries;
      value = carried_as p names e it.op.now.bits right (argument_of p it 1) (λ c. get_or (arguments p c x) 1 0) (argument_is p it 1) other;
    } in
    let third : IsPush p names e (pushed (t.Signed own) when signed) (entry (t.Signed unit) (λ c. where_ (is_starting p c x) (bit x.op.op.signed))) = record {
      target = ap t.Signed same;
      there = tt;
      when = starts.carries;
      value = known_bit p names e it.op.now.signed signed (sign_bit it.op.now.signed signed sign);
    } in
    let a = logs_one p names d e l0 l1 (pushed (t.Left own) when left) (entry (t.Left unit) (λ c. argument_write p c 0 x)) starts.appends starts.begun is1 first in
    let b = logs_more p names d e l0 l1 l2 (pushed (t.Right own) when right) (entry (t.Left unit) (λ c. argument_write p c 0 x) ∷ []) (entry (t.Right unit) (λ c. argument_write p c 1 x)) a is2 second in
    logs_more p names d e l0 l2 l3 (pushed (t.Signed own) when signed) (entry (t.Left unit) (λ c. argument_write p c 0 x) ∷ entry (t.Right unit) (λ c. argument_write p c 1 x) ∷ [])
    (entry (t.Signed unit) (λ c. where_ (is_starting p c x) (bit x.op.op.signed))) b is3 third

-- ---- ports

-- what is not missing is there
pub is_there : {A : Type 0} (o : Option A) (none : Bool) → is_some o ≡ not none → none ≡ false → is_some o ≡ true
is_there o none is h = is ∙ ap not h

pub address_logged : (p : Plan) (names : List Register) (d e f : Netlist) (l0 l1 : List Push) (it : Started) (port : Port) (subs : List Operand) (when address : Atom) → IsPortOf p it port
    → MakesTelling p names d e when (λ (c : Cycle). at p c it.at.node.0 it.at.time)
    → MakesCarrying p names e f (depth p port.array.0) address (subscripted p it.at.node.0 it.at.time port.array.0 subs)
    → ((f : Operand → ℕ) → map f subs ≡ subscripts_as it.op.now.kind (map f it.op.now.args.items)) → l1 ≡ l0 ++ pushed (t.Address port.array port.number) when address ∷ []
    → Logs p names d f l0 l1 (address_entry p port.array (placed_as it) ∷ [])
address_logged p names d e f l0 l1 it port subs when address h starts made all is =
    logs_one p names d f l0 l1 (pushed (t.Address port.array port.number) when address) (address_entry p port.array (placed_as it)) (appends_both d e f starts.appends made.appends) made.begun is
    (record {
      target = ap (t.Address port.array) h.number;
      there = tt;
      when = carries_on p names e f 1 when (λ c. bit (at p c it.at.node.0 it.at.time)) (appended e f made.appends) starts.carries;
      value = carried_as p names f (depth p port.array.0) address (subscripted p it.at.node.0 it.at.time port.array.0 subs) _
          (λ c. ap (address_of (array_at p port.array.0).dims) (all (operand p c it.at.node.0 it.at.time))) made.carries;
    })

pub refusal_logged : (p : Plan) (names : List Register) (d e f g : Netlist) (l0 l1 : List Push) (it : Started) (port : Port) (starts allowed against refused one : Atom) → IsPortOf p it port
    → is_some it.op.now.guard ≡ true → MakesTelling p names d e starts (λ (c : Cycle). at p c it.at.node.0 it.at.time)
    → Tells p names e allowed (λ (c : Cycle). is_true p c it.at.node.0 it.at.time it.op.now.guard) → Makes e f 1 against (λ v x. x ≡ 2 ^ 1 - 1 - v allowed)
    → Makes f g 1 refused (λ v x. x ≡ bit_and (v starts) (v against)) → one ≡ atom.Constant 1 1 → l1 ≡ l0 ++ pushed (t.Refused port.array port.number) refused one ∷ []
    → Logs p names d g l0 l1 (refusal_entries p port.array (placed_as it))
refusal_logged p names d e f g l0 l1 it port starts allowed against refused one h some begins may turned both is_one is =
    let x : Placed = placed_as it in
    let L : Cycle → Bool = λ c. is_true p c it.at.node.0 it.at.time it.op.now.guard in
    let T : Cycle → Bool = λ c. at p c it.at.node.0 it.at.time in
    let n = not_tells p names e f allowed against L begins.begun may turned in
    let b = and_tells p names f g starts against refused T (λ c. not (L c)) n.begun (carries_on p names e f 1 starts (λ c. bit (T c)) (appended e f n.appends) begins.carries) n.carries both in
    let it_ : Entry = bit_entry (t.Refused port.array (port_of p port.array.0 x)) (λ c. is_refused p c x) in
    let whole : Logs p names d g l0 l1 (it_ ∷ []) = logs_one p names d g l0 l1 (pushed (t.Refused port.array port.number) refused one) it_
    (appends_both d f g (appends_both d e f begins.appends n.appends) b.appends) b.begun is
    (record { target = ap (t.Refused port.array) h.number; there = tt; when = b.carries; value = known_bit p names g true one is_one }) in
    subst (λ (q : Bool). Logs p names d g l0 l1 (if q then it_ ∷ [] else [])) (sym some) whole

pub word_logged : (p : Plan) (names : List Register) (d e f : Netlist) (l0 l1 : List Push) (it : Started) (port : Port) (bits : ℕ) (x : Operand) (word may allowed when : Atom) → IsBegun p names d → IsStarted p it
    → IsPortOf p it port → bits ≡ (array_at p port.array.0).bits → ((f : Operand → ℕ) → f x ≡ stored (map f it.op.now.args.items))
    → Carries p names d bits word (λ (c : Cycle). operand p c it.at.node.0 it.at.time x)
    → MakesTelling p names d e may (λ (c : Cycle). may_store p c (placed it.at.node.0 it.number it.op.now))
    → Tells p names e allowed (λ (c : Cycle). is_true p c it.at.node.0 it.at.time it.op.now.guard) → Makes e f 1 when (λ v x. x ≡ bit_and (v may) (v allowed))
    → l1 ≡ l0 ++ pushed (t.Stored port.array port.number) when word ∷ [] → Logs p names d f l0 l1 (stored_entry p port.array (placed_as it) ∷ [])
word_logged p names d e f l0 l1 it port bits x word may allowed when begun h at_ wide last carries lets guard both is =
    let y : Placed = placed_as it in
    let M : Cycle → Bool = λ c. may_store p c y in
    let G : Cycle → Bool = λ c. is_true p c it.at.node.0 it.at.time it.op.now.guard in
    let mays : Tells p names e may M = subst (λ (z : Placed). Tells p names e may (λ c. may_store p c z)) (same_place p it h) lets.carries in
    let b = and_tells p names e f may allowed when M G lets.begun mays guard both in
    let appends = appends_both d e f lets.appends b.appends in
    let stored_ : Carries p names f bits word (λ c. stored (arguments p c y)) =
    carried_as p names f bits word (λ (c : Cycle). operand p c it.at.node.0 it.at.time x) (λ c. stored (arguments p c y)) (λ c. last (operand p c it.at.node.0 it.at.time))
    (carries_on p names d f bits word (λ (c : Cycle). operand p c it.at.node.0 it.at.time x) (appended d f appends) carries) in
    logs_one p names d f l0 l1 (pushed (t.Stored port.array port.number) when word) (stored_entry p port.array y) appends b.begun is
    (record { target = ap (t.Stored port.array) at_.number; there = tt; when = b.carries; value = subst (λ (n : ℕ). Carries p names f n word (λ c. stored (arguments p c y))) wide stored_ })

-- what a load gives
pub load_logged : (p : Plan) (names : List Register) (d e f : Netlist) (l0 l1 l2 : List Push) (it : Started) (port : Port) → IsPortOf p it port
    → Logs p names d e l0 l1 (address_entry p port.array (placed_as it) ∷ []) → Logs p names e f l1 l2 (refusal_entries p port.array (placed_as it))
    → Logs p names d f l0 l2 (entries_as p o.Load it.op.now.array (placed_as it))
load_logged p names d e f l0 l1 l2 it port h a b =
    subst (λ (q : Option ArrayId). Logs p names d f l0 l2 (entries_as p o.Load q (placed_as it))) (sym h.array)
    (logs_then p names d e f l0 l1 l2 (address_entry p port.array (placed_as it) ∷ []) (refusal_entries p port.array (placed_as it)) a b)

-- what a store gives
pub store_logged : (p : Plan) (names : List Register) (d e f : Netlist) (l0 l1 l2 : List Push) (it : Started) (port : Port) → IsPortOf p it port
    → Logs p names d e l0 l1 (address_entry p port.array (placed_as it) ∷ []) → Logs p names e f l1 l2 (stored_entry p port.array (placed_as it) ∷ [])
    → Logs p names d f l0 l2 (entries_as p o.Store it.op.now.array (placed_as it))
store_logged p names d e f l0 l1 l2 it port h a b =
    subst (λ (q : Option ArrayId). Logs p names d f l0 l2 (entries_as p o.Store q (placed_as it))) (sym h.array)
    (logs_then p names d e f l0 l1 l2 (address_entry p port.array (placed_as it) ∷ []) (stored_entry p port.array (placed_as it) ∷ []) a b)
