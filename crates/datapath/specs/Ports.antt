-- The ports of the arrays: operations read and write there, and at port 0 the host, or the initial sequence.
use Rattle.std.specs.Prelude.{ℕ, zero, suc, ◌+◌, ◌%◌, ◌^◌, ◌==◌, ◌&&◌, ◌||◌, nat_lt, max, Bool, true, false, not, List, [], ◌∷◌, map, take, filter, get_or, count_by, fold, Option, Some, None, is_some, unwrap_or, if◌then◌else◌}
use Rattle.std.specs.List.{list_any}
use Rattle.hls_base.specs.ArrayAddress.{addresses}
use Rattle.hls_base.specs.declared.number.ArrayId.{ArrayId}
use Rattle.ir_core.specs.declared.body.OpKind.{OpKind}
use Rattle.ir_core.specs.declared.body.OpKind.TheVariants as o
use Rattle.rtl_core.specs.Interface.{enable_of, write_of, select_of, address_of, data_of}
use Rattle.ir_core.specs.Bodies.{address_of as address_in, subscripts, stored, with_word}
use Rattle.ir_core.specs.FirstContents.{given_at, elements_or_none}
use Rattle.clock_ir.specs.Flows.{TimedOp}
use Rattle.datapath.specs.Plans.{Plan, Placed, Array, array_at, depth, span, body_at, all_ops, unit_of}
use Rattle.datapath.specs.Cycles.{Ready, Initial, Time, AddressOf, StoredOf, Cycle, holds, resets, starts}
use Rattle.rtl_logic.specs.Choosing.{Write, where_}
use Rattle.datapath.specs.Reading.{is_starting, arguments, is_allowed}
use Rattle.datapath.specs.Control.{may_store}

-- ---- who uses a port

abbrev pub is_load : OpKind → Bool
is_load o.Load = true
is_load kind = false

abbrev pub is_store : OpKind → Bool
is_store o.Store = true
is_store kind = false

abbrev pub is_array : ℕ → Option ArrayId → Bool
is_array a None = false
is_array a (Some array) = array.0 == a

-- a load of the same table that starts together with this operation
abbrev pub is_beside : Plan → Placed → ℕ → TimedOp → Bool
is_beside p x a o = is_load o.op.kind && (is_array a o.op.array && (o.start % span p x.node == x.op.start % span p x.node))

-- a store to the array that starts at this time within the span
abbrev pub stores_at : ℕ → ℕ → ℕ → TimedOp → Bool
stores_at a span time o = is_store o.op.kind && (is_array a o.op.array && (o.start % span == time))

-- the unit of the first such store among operations with these units
abbrev pub store_unit : ℕ → ℕ → ℕ → List TimedOp → List ℕ → Option ℕ
store_unit a span time [] units = None
store_unit a span time (o ∷ ops) [] = None
store_unit a span time (o ∷ ops) (unit ∷ units) = if stores_at a span time o then Some unit else store_unit a span time ops units

-- two numbers change places, of which one is 0
abbrev pub changed_with : ℕ → ℕ → ℕ
changed_with n m = if m == n then 0 else (if m == 0 then n else m)

-- The port of a memory is the unit, but the first store of a cycle is at port 0, and what had unit 0 there at the store's. So where no two stores start together, port 0 alone writes.
abbrev pub memory_port : Plan → ℕ → Placed → ℕ
memory_port p a x =
    changed_with (unwrap_or (store_unit a (span p x.node) (x.op.start % span p x.node) (body_at p x.node).ops (get_or p.units x.node [])) 0) (unit_of p x)

-- The loads of a table that start together have a port each.
abbrev pub port_of : Plan → ℕ → Placed → ℕ
port_of p a x = if is_some (array_at p a).table then count_by (is_beside p x a) (take x.number (body_at p x.node).ops) else memory_port p a x

abbrev pub accesses : Plan → ℕ → List Placed
accesses p a = filter (λ (x : Placed). is_array a x.op.op.array && (is_load x.op.op.kind || is_store x.op.op.kind)) (all_ops p)

abbrev pub at_port : Plan → ℕ → ℕ → List Placed
at_port p a n = filter (λ (x : Placed). port_of p a x == n) (accesses p a)

abbrev pub loads : Plan → ℕ → ℕ → List Placed
loads p a n = filter (λ (x : Placed). is_load x.op.op.kind) (at_port p a n)

abbrev pub stores : Plan → ℕ → ℕ → List Placed
stores p a n = filter (λ (x : Placed). is_store x.op.op.kind) (at_port p a n)

-- an array has at least one port, and one for each unit of its accesses
abbrev pub last_port : Plan → ℕ → Placed → ℕ
last_port p a x = max (port_of p a x) (unit_of p x)

abbrev pub port_count : Plan → ℕ → ℕ
port_count p a = fold (λ n (x : Placed). max n (last_port p a x + 1)) 1 (accesses p a)

-- ---- operations

abbrev pub element_address : Plan → Cycle → ℕ → Placed → ℕ
element_address p c a x = address_in (array_at p a).dims (if is_store x.op.op.kind then subscripts (arguments p c x) else arguments p c x)

abbrev pub address_writes : Plan → Cycle → ℕ → ℕ → List Write
address_writes p c a n = map (λ (x : Placed). where_ (is_starting p c x) (element_address p c a x)) (at_port p a n)

abbrev pub is_storing : Plan → Cycle → Placed → Bool
is_storing p c x = may_store p c x && is_allowed p c x

abbrev pub stored_writes : Plan → Cycle → ℕ → ℕ → List Write
stored_writes p c a n = map (λ (x : Placed). where_ (is_storing p c x) (stored (arguments p c x))) (stores p a n)

-- ---- the host, and the initial sequence

-- the host writes where the circuit waits, and an address of this array is named
abbrev pub host_writes : Plan → Cycle → ℕ → Bool
host_writes p c a =
    (holds c Ready && not (starts c)) && (((enable_of c.pins == 1) && (write_of c.pins == 1)) && ((select_of c.pins == a) && nat_lt (address_of c.pins) (2 ^ depth p a)))

abbrev pub first_word : Plan → Cycle → ℕ → ℕ
first_word p c a = given_at (addresses (array_at p a).dims) (elements_or_none (array_at p a).first) (c.regs Time % 2 ^ depth p a) 0

abbrev pub outside_address : Plan → Cycle → ℕ → ℕ → Option ℕ
outside_address p c a zero =
    if (array_at p a).host then Some (address_of c.pins % 2 ^ depth p a)
    else (if is_some (array_at p a).first then Some (c.regs Time % 2 ^ depth p a) else None)
outside_address p c a (suc n) = None

abbrev pub outside_word : Plan → Cycle → ℕ → ℕ → Option ℕ
outside_word p c a zero =
    if (array_at p a).host then Some (data_of c.pins % 2 ^ (array_at p a).bits)
    else (if is_some (array_at p a).first then Some (first_word p c a) else None)
outside_word p c a (suc n) = None

abbrev pub outside_writes : Plan → Cycle → ℕ → ℕ → Bool
outside_writes p c a zero = if (array_at p a).host then host_writes p c a else is_some (array_at p a).first && holds c Initial
outside_writes p c a (suc n) = false

-- ---- a port

-- nothing is written in a cycle of reset
abbrev pub is_enabled : Plan → Cycle → ℕ → ℕ → Bool
is_enabled p c a n = (list_any (is_storing p c) (stores p a n) || outside_writes p c a n) && not (resets c)

-- the words behind what k ports from number n on write, a later one last
abbrev pub behind_ports : Plan → Cycle → ℕ → ℕ → ℕ → (ℕ → ℕ) → ℕ → ℕ
behind_ports p c a n zero words = words
behind_ports p c a n (suc k) words =
    behind_ports p c a (suc n) k (if is_enabled p c a n then with_word words (c.signals (AddressOf a n)) (c.signals (StoredOf a n)) else words)

abbrev pub next_words : Plan → Cycle → ℕ → ℕ → ℕ
next_words p c a = behind_ports p c a 0 (port_count p a) (c.memories a)

abbrev pub word_of : Cycle → ℕ → Array → ℕ → ℕ
word_of c a array address = if is_some array.table then given_at (addresses array.dims) (elements_or_none array.table) address 0 else c.memories a address

-- a load that is not to be gives 0
abbrev pub is_refused : Plan → Cycle → Placed → Bool
is_refused p c x = is_starting p c x && not (is_allowed p c x)

-- The word at a port's address is read in each cycle, but at the only port of a memory in none in which it writes.
abbrev pub is_reading : Plan → Cycle → ℕ → ℕ → Bool
is_reading p c a n = is_some (array_at p a).table || not ((port_count p a == 1) && is_enabled p c a n)

-- the word that is read
abbrev pub read_word : Plan → Cycle → ℕ → ℕ → ℕ
read_word p c a n = if list_any (is_refused p c) (loads p a n) then 0 else word_of c a (array_at p a) (c.signals (AddressOf a n))
