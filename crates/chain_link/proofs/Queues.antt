-- The circuits of a queue: what they show is the queue that the ring holds, and so it is behind an edge.
use Rattle.std.proofs.Common.{◌≡◌, ℕ, ◌+◌, ◌-◌, ◌*◌, ◌/◌, ◌%◌, ◌^◌, ◌<◌, ◌≤◌, Bool, true, false, List, [], ◌∷◌, ◌++◌, length, set, refl, ap, ◌∙◌, subst, arith}
use Rattle.std.specs.Prelude.{nat_lt}
use Rattle.std.proofs.lemmas.Bool.{ltb-true, lt-ltb}
use Rattle.std.proofs.lemmas.Nat.{pow_pos, pow-add}
use Rattle.std.proofs.lemmas.List.{length-set}
use Rattle.std.proofs.Math.Nat.{mod-add-mod, mod-eq_of_lt, add-mod_left, div-one}
use Rattle.rtl_core.specs.declared.design.Atom.TheVariants as atom
use Rattle.rtl_core.specs.ClockStep.{State, bit_of, seen, stepped}
use Rattle.chain_box.specs.Chains.{is_some_item, first, has_room, popped, pushed}
use Rattle.chain_link.specs.Units.{queue_front, queue_back}
use Rattle.chain_link.specs.Queues.{HasLog, Ring, ring_state, HoldsQueue, back_pins, QueueWorks}
use Rattle.chain_link.proofs.Holding.{ring, pop_holds, push_holds, first_held}

abbrev state_of : ℕ → ℕ → List ℕ → State
state_of head count words = ring_state (ring words head count)

same_state : (h h2 c c2 : ℕ) (w w2 : List ℕ) → h ≡ h2 → c ≡ c2 → w ≡ w2 → state_of h c w ≡ state_of h2 c2 w2
same_state h h2 c c2 w w2 e f g = ap (λ z. state_of z c w) e ∙ (ap (λ z. state_of h2 z w) f ∙ ap (λ z. state_of h2 c2 z) g)

some_same : (n : ℕ) (q : List ℕ) → n ≡ length q → nat_lt 0 n ≡ is_some_item q
some_same n [] e = ap (λ z. nat_lt 0 z) e
some_same n (x ∷ xs) e = lt-ltb 0 n (omega arith)

-- ---- numbers modulo 2^log and twice that

twice : (log : ℕ) → 2 ^ (log + 1) ≡ 2 ^ log * 2
twice log = pow-add 2 log 1

pub limit_fits : (depth log : ℕ) → depth ≤ 2 ^ log → depth < 2 ^ (log + 1)
limit_fits depth log h = (let some = pow_pos log in let t = twice log in omega arith)

count_up : (log c : ℕ) → c < 2 ^ log → (c + 1) % 2 ^ (log + 1) ≡ c + 1
count_up log c h = mod-eq_of_lt (let some = pow_pos log in let t = twice log in omega arith)

count_down : (log c : ℕ) → 0 < c → c ≤ 2 ^ log → (c + (2 ^ (log + 1) - 1)) % 2 ^ (log + 1) ≡ c - 1
count_down log c some h =
    let n = 2 ^ (log + 1) in
    let p = pow_pos log in
    let t = twice log in
    let sum : c + (n - 1) ≡ n + (c - 1) = omega arith in
    ap (λ z. z % n) sum ∙ (add-mod_left n (c - 1) ∙ mod-eq_of_lt (omega arith))

-- the number of the word behind the last item
behind_last : (log h c : ℕ) → 1 ≤ log → (h + c / 2 ^ 0 % 2 ^ (log - 1 + 1 - 0)) % 2 ^ log ≡ (h + c) % 2 ^ log
behind_last log h c some =
    let bits : log - 1 + 1 - 0 ≡ log = omega arith in
    let here : h + c % 2 ^ log ≡ c % 2 ^ log + h = omega arith in
    let back : c + h ≡ h + c = omega arith in
    ap (λ z. (h + c / 2 ^ 0 % 2 ^ z) % 2 ^ log) bits
    ∙ (ap (λ z. (h + z % 2 ^ log) % 2 ^ log) (div-one c) ∙ (ap (λ z. z % 2 ^ log) here ∙ (mod-add-mod c (2 ^ log) h ∙ ap (λ z. z % 2 ^ log) back)))

-- ---- what a queue shows

module _ (depth log bits : ℕ) (r : Ring) (q : List ℕ) (has : HasLog depth log) (holds : HoldsQueue log r q) where
  some_shown : seen (queue_front depth log bits) (ring_state r) [] (atom.Wire 0) ≡ bit_of (is_some_item q)
  some_shown = ap bit_of (some_same r.count q holds.count)

  room_shown : seen (queue_front depth log bits) (ring_state r) [] (atom.Wire 1) ≡ bit_of (has_room depth q)
  room_shown = ap (λ n. bit_of (nat_lt n depth)) holds.count

  first_shown : is_some_item q ≡ true → seen (queue_front depth log bits) (ring_state r) [] (atom.Wire 2) ≡ first q
  first_shown e = first_held log r q holds e

-- ---- an edge

abbrev Goes : ℕ → ℕ → Ring → Bool → Bool → ℕ → List ℕ → Type 0
Goes log bits r take give x q = (next : Ring) × (stepped (queue_back log bits) (ring_state r) (back_pins 0 (bit_of take) (bit_of give) x) ≡ ring_state next) × HoldsQueue log next q

edge : (depth log bits : ℕ) (r : Ring) (q : List ℕ) → HasLog depth log → HoldsQueue log r q → (take give : Bool) (x : ℕ) → (take ≡ true → is_some_item q ≡ true) → (give ≡ true → has_room depth q ≡ true)
    → Goes log bits r take give x (pushed give x (popped take q))
edge depth log bits r q has holds false false x t g = (r, refl, holds)
edge depth log bits r q has holds false true x t g =
    let few = ltb-true (length q) depth (g refl) in
    let room : length q < 2 ^ log = (let l = has.room in omega arith) in
    let place = (r.head + r.count) % 2 ^ log in
    let count = holds.count in (
      ring (set r.words place x) r.head (r.count + 1),
      same_state r.head r.head _ (r.count + 1) _ (set r.words place x) refl (count_up log r.count (omega arith)) (ap (λ z. set r.words z x) (behind_last log r.head r.count has.some)),
      push_holds log r.words r.head r.count x q holds room,
    )
edge depth log bits r [] has holds true give x t g = absurd (let e : false ≡ true = t refl in (cc))
edge depth log bits r (y ∷ ys) has holds true false x t g =
    let count = holds.count in
    let within = holds.within in (
      ring r.words ((r.head + 1) % 2 ^ log) (r.count - 1),
      same_state ((r.head + 1) % 2 ^ log) ((r.head + 1) % 2 ^ log) _ (r.count - 1) r.words r.words refl (count_down log r.count (omega arith) (omega arith)) refl,
      pop_holds log r.words r.head r.count y ys holds,
    )
edge depth log bits r (y ∷ ys) has holds true true x t g =
    let few = ltb-true (length (y ∷ ys)) depth (g refl) in
    let room : length (y ∷ ys) < 2 ^ log = (let l = has.room in omega arith) in
    let place = (r.head + r.count) % 2 ^ log in
    let words = set r.words place x in
    let all = push_holds log r.words r.head r.count x (y ∷ ys) holds room in
    let back : r.count + 1 - 1 ≡ r.count = omega arith in (
      ring words ((r.head + 1) % 2 ^ log) r.count,
      same_state ((r.head + 1) % 2 ^ log) ((r.head + 1) % 2 ^ log) r.count r.count _ words refl refl (ap (λ z. set r.words z x) (behind_last log r.head r.count has.some)),
      subst (λ z. HoldsQueue log (ring words ((r.head + 1) % 2 ^ log) z) (ys ++ x ∷ [])) back (pop_holds log words r.head (r.count + 1) y (ys ++ x ∷ []) all),
    )

pub queue_works : (depth log bits : ℕ) (r : Ring) (q : List ℕ) → HasLog depth log → HoldsQueue log r q → QueueWorks depth log bits r q
queue_works depth log bits r q has holds = record {
  some = some_shown depth log bits r q has holds;
  room = room_shown depth log bits r q has holds;
  first = first_shown depth log bits r q has holds;
  edge = edge depth log bits r q has holds;
}

-- ---- a reset

empty_holds : (log : ℕ) (words : List ℕ) → length words ≡ 2 ^ log → HoldsQueue log (ring words 0 0) []
empty_holds log words e = record { words = e; within = (omega arith); head = pow_pos log; count = refl; each = λ i lt. absurd (omega arith) }

pub queue_resets : (log bits : ℕ) (r : Ring) (take give : Bool) (x : ℕ) → length r.words ≡ 2 ^ log
    → (next : Ring) × (stepped (queue_back log bits) (ring_state r) (back_pins 1 (bit_of take) (bit_of give) x) ≡ ring_state next) × HoldsQueue log next []
queue_resets log bits r true true x e = (ring _ 0 0, refl, empty_holds log (set r.words _ x) (length-set r.words _ x ∙ e))
queue_resets log bits r true false x e = (ring r.words 0 0, refl, empty_holds log r.words e)
queue_resets log bits r false true x e = (ring _ 0 0, refl, empty_holds log (set r.words _ x) (length-set r.words _ x ∙ e))
queue_resets log bits r false false x e = (ring r.words 0 0, refl, empty_holds log r.words e)
