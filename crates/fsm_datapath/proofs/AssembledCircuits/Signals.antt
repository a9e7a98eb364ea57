-- Each signal is seen at one atom, or it is given nothing.
use Rattle.std.proofs.Common.{◌≡◌, ℕ, zero, suc, ◌+◌, ◌<◌, ◌≤◌, ◌==◌, ◌&&◌, Bool, true, false, List, [], ◌∷◌, map, filter, fold, max, length, Some, None, inl, inr, refl, sym, ap, ap₂, ◌∙◌, subst, true≢false, le_refl, le_trans, arith}
use Rattle.std.specs.Prelude.{slice_get}
use Rattle.std.specs.List.{enumerate_from, range_with_len}
use Rattle.std.proofs.lemmas.Bool.{cases_lt, and_parts, eqb-true}
use Rattle.ir_core.specs.declared.body.OpKind.{OpKind}
use Rattle.ir_core.specs.declared.body.OpKind.TheVariants as o
use Rattle.ir_core.specs.declared.timing.UnitClass.{UnitClass}
use Rattle.ir_core.specs.declared.timing.UnitClass.TheVariants as u
use Rattle.reg_binding.specs.Pools.{Has}
use Rattle.datapath.specs.Plans.{Plan, Placed, all_ops, unit_of}
use Rattle.datapath.specs.Cycles as c
use Rattle.datapath.specs.Cycles.{Signal, Cycle}
use Rattle.datapath.specs.Circuits.{signal_writes, signal_else}
use Rattle.datapath.specs.Units.{is_of_class, users}
use Rattle.datapath.specs.Ports.{port_of, last_port, port_count, accesses, at_port, is_store, outside_address, outside_word}
use Rattle.circuit_context.specs.declared.wanted.role.UnitKind.{UnitKind}
use Rattle.circuit_context.specs.declared.wanted.role.UnitKind.TheVariants as kind
use Rattle.circuit_context.specs.declared.wanted.role.SharedUnit.{SharedUnit}
use Rattle.circuit_context.specs.Wanted.Roles.{class_as, class_of}
use Rattle.circuit_context.specs.Wanted.Entries.{unit_at}
use Rattle.circuit_context.specs.Wanted.Driving.{Seen, AreSeenOnce, IsUnseen, IsInside}
use Rattle.circuit_units.specs.declared.units.units.UnitTable.{UnitTable}
use Rattle.circuit_units.specs.declared.units.units.UnitWires.{UnitWires}
use Rattle.circuit_units.specs.Units as units
use Rattle.circuit_units.specs.Units.{AreUnitsOf, unit_signals, used_as}
use Rattle.circuit_units.specs.declared.memories.memories.PortWires.{PortWires}
use Rattle.circuit_units.specs.declared.memories.memories.PortTable.{PortTable}
use Rattle.circuit_units.specs.Memories as ports
use Rattle.circuit_units.specs.Memories.{port_signals, array_signals}
use Rattle.fsm_datapath.proofs.LoggedWrites.Members.{Each, each_none, each_more, each_flat, in_left, in_right, in_flat, from_map, in_numbered}
use Rattle.fsm_datapath.specs.AssembledCircuits.Parts.{whole_signals}
use Rattle.fsm_datapath.proofs.AssembledCircuits.Lists.{Once, once_none, once_next, once_both, once_flat, numbered_once, get_map, from_get_map, element_at, filter_none}
use Rattle.fsm_datapath.proofs.AssembledCircuits.Distinct.{unit_as, units_once}

-- ---- which signal a list of signals has

abbrev AreOnce : List Seen → Type 0
AreOnce = Once (λ (x : Seen). x.0)

abbrev class_unit : UnitClass → ℕ → SharedUnit
class_unit (u.Multiplier bits) n = unit_as kind.Multiplier bits n
class_unit (u.Divider bits) n = unit_as kind.Divider bits n
class_unit class n = unit_as kind.Multiplier 0 0

-- the unit of a signal, if it is of one
abbrev signal_unit : Signal → SharedUnit
signal_unit (c.LeftOf class n) = class_unit class n
signal_unit (c.RightOf class n) = class_unit class n
signal_unit (c.SignedOf class n) = class_unit class n
signal_unit signal = unit_as kind.Multiplier 0 0

-- the array and the port of a signal, if it is of one
abbrev signal_array : Signal → ℕ
signal_array (c.AddressOf a n) = a
signal_array (c.StoredOf a n) = a
signal_array signal = 0

abbrev signal_port : Signal → ℕ
signal_port (c.AddressOf a n) = n
signal_port (c.StoredOf a n) = n
signal_port signal = 0

abbrev is_of_port : Signal → Bool
is_of_port (c.AddressOf a n) = true
is_of_port (c.StoredOf a n) = true
is_of_port signal = false

class_back : (k : UnitKind) (bits n : ℕ) → class_unit (class_as k bits) n ≡ unit_as k bits n
class_back kind.Multiplier bits n = refl
class_back kind.Divider bits n = refl

signals_owned : (w : UnitWires) → Each (λ (x : Seen). signal_unit x.0 ≡ w.unit) (unit_signals w)
signals_owned w = (let back = class_back w.unit.kind w.unit.bits w.unit.number in each_more back (each_more back (each_more back each_none)))

unit_signals_once : (w : UnitWires) → AreOnce (unit_signals w)
unit_signals_once w = once_next (each_more (λ e. cc) (each_more (λ e. cc) each_none)) (once_next (each_more (λ e. cc) each_none) (once_next each_none once_none))

units_seen_once : (p : Plan) (table : UnitTable) → AreUnitsOf p (map (λ (w : UnitWires). w.unit) table.wires.items) → AreOnce (units.signals_of table)
units_seen_once p table are =
    once_flat unit_signals (λ (x : Seen). x.0) (λ (w : UnitWires). w.unit) table.wires.items (units_once p table are) (λ w has. unit_signals_once w)
    (λ w v x y has_x has_y same. sym ((signals_owned w).all x has_x) ∙ (ap signal_unit same ∙ (signals_owned v).all y has_y))

port_owned : (a : ℕ) (n : ℕ × PortWires) → Each (λ (x : Seen). signal_port x.0 ≡ n.0) (port_signals a n)
port_owned a n = each_more refl (each_more refl each_none)

port_signals_once : (a : ℕ) (n : ℕ × PortWires) → AreOnce (port_signals a n)
port_signals_once a n = once_next (each_more (λ e. cc) each_none) (once_next each_none once_none)

array_owned : (a : ℕ × List PortWires) → Each (λ (x : Seen). signal_array x.0 ≡ a.0) (array_signals a)
array_owned a = each_flat (port_signals a.0) (enumerate_from 0 a.1) (record { all = λ n has. each_more refl (each_more refl each_none) })

array_signals_once : (a : ℕ × List PortWires) → AreOnce (array_signals a)
array_signals_once a =
    once_flat (port_signals a.0) (λ (x : Seen). x.0) (λ (n : ℕ × PortWires). n.0) (enumerate_from 0 a.1) (numbered_once 0 a.1) (λ n has. port_signals_once a.0 n)
    (λ n m x y has_x has_y same. sym ((port_owned a.0 n).all x has_x) ∙ (ap signal_port same ∙ (port_owned a.0 m).all y has_y))

abbrev rows : PortTable → List (List PortWires)
rows table = map (λ ports. ports.items) table.ports.items

ports_seen_once : (table : PortTable) → AreOnce (ports.signals_of table)
ports_seen_once table =
    once_flat array_signals (λ (x : Seen). x.0) (λ (a : ℕ × List PortWires). a.0) (enumerate_from 0 (rows table)) (numbered_once 0 (rows table)) (λ a has. array_signals_once a)
    (λ a b x y has_x has_y same. sym ((array_owned a).all x has_x) ∙ (ap signal_array same ∙ (array_owned b).all y has_y))

no_ports : (table : UnitTable) → Each (λ (x : Seen). is_of_port x.0 ≡ false) (units.signals_of table)
no_ports table = each_flat unit_signals table.wires.items (record { all = λ w has. each_more refl (each_more refl (each_more refl each_none)) })

all_ports : (table : PortTable) → Each (λ (x : Seen). is_of_port x.0 ≡ true) (ports.signals_of table)
all_ports table =
    each_flat array_signals (enumerate_from 0 (rows table)) (record {
      all = λ a has. each_flat (port_signals a.0) (enumerate_from 0 a.1) (record { all = λ n there. each_more refl (each_more refl each_none) });
    })

pub whole_seen_once : (p : Plan) (table : UnitTable) (port_table : PortTable) → AreUnitsOf p (map (λ (w : UnitWires). w.unit) table.wires.items) → AreSeenOnce (whole_signals table port_table)
whole_seen_once p table port_table are = both.once
  where
    both : AreOnce (whole_signals table port_table)
    both =
        once_both (λ (x : Seen). x.0) (units.signals_of table) (ports.signals_of port_table) (units_seen_once p table are) (ports_seen_once port_table)
        (λ x y has_x has_y same. true≢false (sym ((all_ports port_table).all y has_y) ∙ (ap is_of_port (sym same) ∙ (no_ports table).all x has_x)))

-- ---- units

-- the unit of an operation is of the class
class_used : (p : Plan) (x : Placed) (class : UnitClass) (k : OpKind) (b : ℕ) → is_of_class class k b ≡ true
    → (unit : UnitKind) × ((used_as p k x ≡ Some (unit_at p unit x)) × (class ≡ class_as unit b))
class_used p x (u.Multiplier bits) o.Mul b e = (kind.Multiplier, (refl, ap u.Multiplier (eqb-true bits b e)))
class_used p x (u.Divider bits) o.Div b e = (kind.Divider, (refl, ap u.Divider (eqb-true bits b e)))
class_used p x (u.Divider bits) o.Rem b e = (kind.Divider, (refl, ap u.Divider (eqb-true bits b e)))
class_used p x class k b e = absurd (true≢false (sym e))

module _ (p : Plan) (table : UnitTable) (are : AreUnitsOf p (map (λ (w : UnitWires). w.unit) table.wires.items)) where
  -- where no unit is of this class and number, no operation uses one
  no_users : (class : UnitClass) (n : ℕ) → ((w : UnitWires) → Has table.wires.items w → class ≡ class_of w.unit → n ≡ w.unit.number → ⊥) → users p class n ≡ []
  no_users class n h = filter_none _ (all_ops p) at_op
    where
      at_op : (x : Placed) → Has (all_ops p) x → (is_of_class class x.op.op.kind x.op.op.bits && (unit_of p x == n)) ≡ true → ⊥
      at_op x has e =
          let both = and_parts (is_of_class class x.op.op.kind x.op.op.bits) (unit_of p x == n) e in
          let used = class_used p x class x.op.op.kind x.op.op.bits both.0 in
          let listed = are.all has.0 x (unit_at p used.0 x) has.1 used.1.0 in
          let w = from_map (λ (w : UnitWires). w.unit) table.wires.items (unit_at p used.0 x) listed in
          h w.0 w.1.0 (used.1.1 ∙ ap class_of w.1.1) (sym (eqb-true (unit_of p x) n both.1) ∙ ap (λ (unit : SharedUnit). unit.number) w.1.1)

  -- a signal of a unit is seen
  seen_there : (port_table : PortTable) (w : UnitWires) (x : Seen) → Has table.wires.items w → Has (unit_signals w) x → Has (whole_signals table port_table) x
  seen_there port_table w x has there = in_left (units.signals_of table) (ports.signals_of port_table) x (in_flat unit_signals table.wires.items w x has there)

  pub unseen_left : (port_table : PortTable) (class : UnitClass) (n : ℕ) → IsUnseen (whole_signals table port_table) (c.LeftOf class n) → users p class n ≡ []
  unseen_left port_table class n hidden =
      no_users class n
      (λ w has e f. let h = seen_there port_table w (c.LeftOf class n, w.left) has (0, ap₂ (λ (k : UnitClass) (m : ℕ). Some (c.LeftOf k m, w.left)) (sym e) (sym f)) in hidden h.0 w.left h.1)

  pub unseen_right : (port_table : PortTable) (class : UnitClass) (n : ℕ) → IsUnseen (whole_signals table port_table) (c.RightOf class n) → users p class n ≡ []
  unseen_right port_table class n hidden =
      no_users class n
      (λ w has e f. let h = seen_there port_table w (c.RightOf class n, w.right) has (1, ap₂ (λ (k : UnitClass) (m : ℕ). Some (c.RightOf k m, w.right)) (sym e) (sym f)) in hidden h.0 w.right h.1)

  pub unseen_signed : (port_table : PortTable) (class : UnitClass) (n : ℕ) → IsUnseen (whole_signals table port_table) (c.SignedOf class n) → users p class n ≡ []
  unseen_signed port_table class n hidden =
      no_users class n
      (λ w has e f. let h = seen_there port_table w (c.SignedOf class n, w.signed) has (2, ap₂ (λ (k : UnitClass) (m : ℕ). Some (c.SignedOf k m, w.signed)) (sym e) (sym f)) in hidden h.0 w.signed h.1)

-- ---- ports

max_from : (f : Placed → ℕ) (low : ℕ) (xs : List Placed) → low ≤ fold (λ n (x : Placed). max n (f x + 1)) low xs
max_from f low [] = le_refl low
max_from f low (x ∷ xs) = (let rest = max_from f (max low (f x + 1)) xs in omega (arith, rest))

max_over : (f : Placed → ℕ) (low : ℕ) (xs : List Placed) (k : ℕ) (x : Placed) → slice_get xs k ≡ Some x → f x < fold (λ n (x : Placed). max n (f x + 1)) low xs
max_over f low [] k x at_ = absurd (cc)
max_over f low (y ∷ xs) zero x at_ =
    let same : y ≡ x = cc in
    let here : f y ≡ f x = ap f same in
    let rest = max_from f (max low (f y + 1)) xs in
    omega (arith, rest, here)
max_over f low (y ∷ xs) (suc k) x at_ = max_over f (max low (f y + 1)) xs k x at_

-- the first port is always there
some_port : (p : Plan) (a : ℕ) → 1 ≤ port_count p a
some_port p a = max_from (last_port p a) 1 (accesses p a)

-- behind the last port nothing is read or written
no_access : (p : Plan) (a n : ℕ) → port_count p a ≤ n → at_port p a n ≡ []
no_access p a n past =
    filter_none _ (accesses p a) (λ x has e. let low : last_port p a x < port_count p a = max_over (last_port p a) 1 (accesses p a) has.0 x has.1 in
    let same : port_of p a x ≡ n = eqb-true (port_of p a x) n e in omega (arith, low, same, past))

no_address : (p : Plan) (cycle : Cycle) (a n : ℕ) → 1 ≤ n → outside_address p cycle a n ≡ None
no_address p cycle a zero some = absurd (omega (arith, some))
no_address p cycle a (suc n) some = refl

no_word : (p : Plan) (cycle : Cycle) (a n : ℕ) → 1 ≤ n → outside_word p cycle a n ≡ None
no_word p cycle a zero some = absurd (omega (arith, some))
no_word p cycle a (suc n) some = refl

module _ (p : Plan) (table : UnitTable) (port_table : PortTable) (counts : map (λ ports. length ports.items) port_table.ports.items ≡ map (port_count p) (range_with_len 0 (length p.arrays))) where
  in_row : (a : ℕ) → a < length p.arrays → slice_get (map (port_count p) (range_with_len 0 (length p.arrays))) a ≡ Some (port_count p a)
  in_row a within = get_map (port_count p) (range_with_len 0 (length p.arrays)) a a (let same : 0 + a ≡ a = omega arith in at_range 0 (length p.arrays) a within ∙ ap (λ (m : ℕ). Some m) same)
    where
      at_range : (low n k : ℕ) → k < n → slice_get (range_with_len low n) k ≡ Some (low + k)
      at_range low zero k less = absurd (omega (arith, less))
      at_range low (suc n) zero less = (let here : low ≡ low + 0 = omega arith in ap (λ (m : ℕ). Some m) here)
      at_range low (suc n) (suc k) less = (let next : low + 1 + k ≡ low + suc k = omega arith in at_range (low + 1) n k (omega (arith, less)) ∙ ap (λ (m : ℕ). Some m) next)

  -- the signals of a port that is there are seen
  port_there : (a n : ℕ) → a < length p.arrays → n < port_count p a → (w : PortWires) × ((x : Seen) → Has (port_signals a (n, w)) x → Has (whole_signals table port_table) x)
  port_there a n within below =
      let row = from_get_map (λ ports. length ports.items) port_table.ports.items a (port_count p a) (ap (λ (l : List ℕ). slice_get l a) counts ∙ in_row a within) in
      let w = element_at row.0.items n (subst (λ (k : ℕ). n < k) row.1.1 below) in
      let first : 0 + a ≡ a = omega arith in
      let second : 0 + n ≡ n = omega arith in
      let array_has : Has (enumerate_from 0 (rows port_table)) (a, row.0.items) =
      subst (λ (m : ℕ). Has (enumerate_from 0 (rows port_table)) (m, row.0.items)) first
      (in_numbered 0 a (rows port_table) row.0.items (get_map (λ ports. ports.items) port_table.ports.items a row.0 row.1.0)) in
      let port_has : Has (enumerate_from 0 row.0.items) (n, w.0) = subst (λ (m : ℕ). Has (enumerate_from 0 row.0.items) (m, w.0)) second (in_numbered 0 n row.0.items w.0 w.1) in (
        w.0,
        (λ x has. in_right (units.signals_of table) (ports.signals_of port_table) x
            (in_flat array_signals (enumerate_from 0 (rows port_table)) (a, row.0.items) x array_has (in_flat (port_signals a) (enumerate_from 0 row.0.items) (n, w.0) x port_has has))),
      )

  -- where a signal of a port is not seen, there is no port
  hidden_behind : (a n : ℕ) → a < length p.arrays → ((w : PortWires) → ((x : Seen) → Has (port_signals a (n, w)) x → Has (whole_signals table port_table) x) → ⊥) → port_count p a ≤ n
  hidden_behind a n within hidden = elim (cases_lt n (port_count p a)) [
    | inl less ↦ (let w = port_there a n within less in absurd (hidden w.0 w.1))
    | inr past ↦ past
  ]

  pub unseen_address : (a n : ℕ) → a < length p.arrays → IsUnseen (whole_signals table port_table) (c.AddressOf a n) → port_count p a ≤ n
  unseen_address a n within hidden = hidden_behind a n within (λ w h. let has = h (c.AddressOf a n, w.address) (0, refl) in hidden has.0 w.address has.1)

  pub unseen_stored : (a n : ℕ) → a < length p.arrays → IsUnseen (whole_signals table port_table) (c.StoredOf a n) → port_count p a ≤ n
  unseen_stored a n within hidden = hidden_behind a n within (λ w h. let has = h (c.StoredOf a n, w.stored) (1, refl) in hidden has.0 w.stored has.1)

-- ---- all signals

-- a signal that is seen nowhere is given nothing
pub unseen_given : (p : Plan) (table : UnitTable) (port_table : PortTable) → AreUnitsOf p (map (λ (w : UnitWires). w.unit) table.wires.items)
    → map (λ ports. length ports.items) port_table.ports.items ≡ map (port_count p) (range_with_len 0 (length p.arrays))
    → (signal : Signal) → IsInside p signal → IsUnseen (whole_signals table port_table) signal → (cycle : Cycle) → (signal_writes p cycle signal ≡ []) × (signal_else p cycle signal ≡ None)
unseen_given p table port_table are counts (c.LeftOf class n) inside hidden cycle = (ap (map _) (unseen_left p table are port_table class n hidden), refl)
unseen_given p table port_table are counts (c.RightOf class n) inside hidden cycle = (ap (map _) (unseen_right p table are port_table class n hidden), refl)
unseen_given p table port_table are counts (c.SignedOf class n) inside hidden cycle = (ap (map _) (unseen_signed p table are port_table class n hidden), refl)
unseen_given p table port_table are counts (c.AddressOf a n) inside hidden cycle =
    let past : port_count p a ≤ n = unseen_address p table port_table counts a n inside hidden in
    (ap (map _) (no_access p a n past), no_address p cycle a n (le_trans (some_port p a) past))
unseen_given p table port_table are counts (c.StoredOf a n) inside hidden cycle =
    let past : port_count p a ≤ n = unseen_stored p table port_table counts a n inside hidden in
    (ap (map _) (ap (filter (λ (x : Placed). is_store x.op.op.kind)) (no_access p a n past)), no_word p cycle a n (le_trans (some_port p a) past))
