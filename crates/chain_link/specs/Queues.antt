-- The law of a queue: a memory used as a ring holds a list of items. Cited by `laws`.
use Rattle.std.specs.Prelude.{◌≡◌, ℕ, ◌+◌, ◌%◌, ◌^◌, ◌<◌, ◌≤◌, Bool, true, List, [], ◌∷◌, length, slice_index}
use Rattle.rtl_core.specs.declared.design.Atom.TheVariants as atom
use Rattle.rtl_core.specs.ClockStep.{State, bit_of, seen, stepped}
use Rattle.chain_box.specs.Chains.{is_some_item, first, has_room, popped, pushed}
use Rattle.chain_link.specs.Units.{queue_front, queue_back}

-- memories of 2^log words suffice for queues of at most `depth` items
pub record HasLog (depth log : ℕ) : Type 0 where
  pub some : 1 ≤ log
  pub few : log ≤ 16
  pub room : depth ≤ 2 ^ log

-- the words of the memory, the number of the first item's word, and the count of items
pub record Ring : Type 0 where
  pub words : List ℕ
  pub head : ℕ
  pub count : ℕ

abbrev pub ring_state : Ring → State
ring_state r = record { regs = r.head ∷ r.count ∷ []; mems = r.words ∷ [] }

-- Item i is in word (head + i) modulo 2^log.
pub record HoldsQueue (log : ℕ) (r : Ring) (q : List ℕ) : Type 0 where
  pub words : length r.words ≡ 2 ^ log
  pub within : length q ≤ 2 ^ log
  pub head : r.head < 2 ^ log
  pub count : r.count ≡ length q
  pub each : (i : ℕ) → i < length q → slice_index r.words ((r.head + i) % 2 ^ log) ≡ slice_index q i

-- the values of the inputs of `queue_back`
abbrev pub back_pins : ℕ → ℕ → ℕ → ℕ → List ℕ
back_pins reset take give x = reset ∷ take ∷ give ∷ x ∷ []

-- With these contents the wires say whether there is an item, whether there is room, and which item is first. At an edge the first item is removed if `take`, and x is appended if `give`.
pub record QueueWorks (depth log bits : ℕ) (r : Ring) (q : List ℕ) : Type 0 where
  pub some : seen (queue_front depth log bits) (ring_state r) [] (atom.Wire 0) ≡ bit_of (is_some_item q)
  pub room : seen (queue_front depth log bits) (ring_state r) [] (atom.Wire 1) ≡ bit_of (has_room depth q)
  pub first : is_some_item q ≡ true → seen (queue_front depth log bits) (ring_state r) [] (atom.Wire 2) ≡ first q
  pub edge : (take give : Bool) (x : ℕ) → (take ≡ true → is_some_item q ≡ true) → (give ≡ true → has_room depth q ≡ true)
      → (next : Ring) × (stepped (queue_back log bits) (ring_state r) (back_pins 0 (bit_of take) (bit_of give) x) ≡ ring_state next) × HoldsQueue log next (pushed give x (popped take q))

abbrev pub QueuesWork : Type 0
QueuesWork = (depth log bits : ℕ) (r : Ring) (q : List ℕ) → HasLog depth log → HoldsQueue log r q → QueueWorks depth log bits r q

-- After a reset the queue is empty, whatever the contents and the other pins were.
abbrev pub QueuesReset : Type 0
QueuesReset = (log bits : ℕ) (r : Ring) (take give : Bool) (x : ℕ) → length r.words ≡ 2 ^ log
    → (next : Ring) × (stepped (queue_back log bits) (ring_state r) (back_pins 1 (bit_of take) (bit_of give) x) ≡ ring_state next) × HoldsQueue log next []
