-- A cycle in which one node is under way, and what the registers that all loops share take in it.
use Rattle.std.proofs.Common.{◌≡◌, ◌≢◌, ℕ, zero, suc, ◌+◌, ◌-◌, ◌*◌, ◌/◌, ◌%◌, ◌^◌, ◌<◌, ◌≤◌, Bool, true, false, not, ◌&&◌, [], ◌∷◌, Some, refl, sym, ap, ap₂, ◌∙◌, subst, arith}
use Rattle.std.specs.Prelude.{◌==◌, ◌||◌, nat_le, slice_get, flat_map, if◌then◌else◌}
use Rattle.std.specs.List.{list_any}
use Rattle.std.proofs.lemmas.Bool.{and_left, and_right, or_from, or_left, or_right, le-leb, cond-true, cond-false, not_from_true, not_from_false}
use Rattle.clock_ir.specs.Flows.{TimedBody, Flow, is_at}
use Rattle.clock_ir.specs.ClockRuns.{TimedNode, overlapped}
use Rattle.datapath.specs.Plans.{Plan, body_at, span, numbered}
use Rattle.datapath.specs.Cycles.{Time, Active, Load, Gate, Passed, Waited, Cycle, holds, bit}
use Rattle.rtl_logic.specs.Choosing.{where_, is_any_wanted, AllWant, Takes}
use Rattle.datapath.specs.Reading.{at, has_passed, at_iteration}
use Rattle.datapath.specs.Control.{is_tested, test_holds, is_loop, is_loading, ends_interval, gate_write, gate_writes, is_any_tested, passed_write, waited_write, wait, wait_as, greatest_wait, wait_bits}
use Rattle.datapath.proofs.Controller.{off, on, holds_bit, off_at, off_tested}
use Rattle.datapath.proofs.Counters.{below_bits, node_within}
use Rattle.datapath.proofs.LeavingBlocks.{by_node}
use Rattle.datapath.proofs.Nodes.{none_passes, some_passes}
use Rattle.datapath.proofs.Writes.{NoneWanted, none_want, none_both, none_if, none_of, all_both, all_of, some_left, some_right, some_of}
use Rattle.circuit_agreement.specs.CircuitFlow.Flows.{CountsIntervals}
use Rattle.circuit_agreement.proofs.LoopGates.Times.{shows, is_at_shown}

-- ---- registers

-- what one write alone gives
pub taken_one : (b : Bool) (value old new : ℕ) → Takes (where_ b value ∷ []) (Some old) new → b ≡ true → new ≡ value
taken_one b value old new t e = t.wanted value (or_left b false e) ((λ w. refl), _)

pub kept_one : (b : Bool) (value old new : ℕ) → Takes (where_ b value ∷ []) (Some old) new → b ≡ false → new ≡ old
kept_one b value old new t e = t.else_ (or_from b false e refl)

-- ---- the node under way

-- a node is under way, and no other, at a time of the clocked run
pub record InNode (p : Plan) (i time_ : ℕ) (c : Cycle) : Type 0 where
  pub some : 0 < (body_at p i).interval
  pub long : span p i ≡ (body_at p i).interval
  pub active : c.regs (Active i) ≡ 1
  pub time : c.regs Time ≡ time_ % (body_at p i).interval
  pub others : (j : ℕ) → j ≢ i → c.regs (Active j) ≡ 0
  pub load : (j : ℕ) → c.regs (Load j) ≡ 0

pub at_is : (p : Plan) (i time t : ℕ) (c : Cycle) → InNode p i time c → at p c i t ≡ shows (body_at p i).interval (time % (body_at p i).interval) t
at_is p i time t c n =
    ap₂ (λ x y. x && (nat_le (span p i) 1 || (y == t % span p i))) (on c (Active i) n.active) n.time
    ∙ ap (λ w. nat_le w 1 || (time % (body_at p i).interval == t % w)) n.long

-- some iteration is at this time in the circuit as in the clocked run
pub at_iteration_is : (p : Plan) (i t : ℕ) (f : Flow) (c : Cycle) → InNode p i f.time c → CountsIntervals p i f c → at_iteration p c i t ≡ is_at (body_at p i).interval t f.time
at_iteration_is p i t f c n counts =
    ap₂ (λ x y. x && y) (at_is p i f.time t c n) (counts (t / span p i) ∙ ap (λ w. nat_le (t / w * (body_at p i).interval) f.time) n.long)
    ∙ is_at_shown (body_at p i).interval t f.time n.some

pub counts_from : (p : Plan) (i : ℕ) (f : Flow) (c : Cycle) → ((n : ℕ) → c.regs (Passed (suc n)) ≡ bit (nat_le (suc n * (body_at p i).interval) f.time)) → CountsIntervals p i f c
counts_from p i f c passed zero = sym (le-leb (0 * (body_at p i).interval) f.time (let z : 0 * (body_at p i).interval ≡ 0 = omega arith in omega (arith, z)))
counts_from p i f c passed (suc n) = holds_bit c (Passed (suc n)) _ (passed n)

-- ---- tests over all nodes

-- where all nodes but one fail a test, the one decides
pub one_decides : (p : Plan) (i : ℕ) (it : TimedNode) (f : ℕ × TimedNode → Bool) (b : Bool) → slice_get p.program.nodes i ≡ Some it → f (i, it) ≡ b
    → ((j : ℕ) (node : TimedNode) → j ≢ i → f (j, node) ≡ false) → list_any f (numbered p) ≡ b
one_decides p i it f true at_ here others = some_passes f i p.program.nodes it at_ here
one_decides p i it f false at_ here others = none_passes f p.program.nodes (by_node p i it (λ j node. f (j, node) ≡ false) at_ here others)

pub not_loading : (p : Plan) (c : Cycle) → ((j : ℕ) → c.regs (Load j) ≡ 0) → is_loading p c ≡ false
not_loading p c load = none_passes (λ n. is_loop (Some n.1) && holds c (Load n.0)) p.program.nodes (λ j node at_. and_right (is_loop (Some node)) _ (off c (Load j) (load j)))

pub loading_now : (p : Plan) (i : ℕ) (body : TimedBody) (exit next : ℕ) (c : Cycle) → slice_get p.program.nodes i ≡ Some (overlapped body exit next) → c.regs (Load i) ≡ 1 → is_loading p c ≡ true
loading_now p i body exit next c at_ e = some_passes (λ n. is_loop (Some n.1) && holds c (Load n.0)) i p.program.nodes (overlapped body exit next) at_ (on c (Load i) e)

-- a node that is not under way does not test
pub off_gate : (p : Plan) (c : Cycle) (j : ℕ) (node : TimedNode) → c.regs (Active j) ≡ 0 → NoneWanted (gate_write p c (j, node))
off_gate p c j node e =
    none_if (is_loop (Some node)) (where_ (is_tested p c j) (bit (holds c (Gate 0) && test_holds p c j)) ∷ []) [] (or_from (is_tested p c j) false (off_tested p c j e) refl) refl

-- ---- the first values of a loop are taken

module _ (p : Plan) (c : Cycle) (loading : is_loading p c ≡ true) where
  pub loads_gate : (y : ℕ) → ((j : ℕ) → c.regs (Active j) ≡ 0) → Takes (gate_writes p c 0) (Some (c.regs (Gate 0))) y → y ≡ 1
  loads_gate y active t =
      t.wanted 1 (some_right (flat_map (gate_write p c) (numbered p)) (where_ (is_loading p c) 1 ∷ []) (or_left (is_loading p c) false loading))
      (all_both (flat_map (gate_write p c) (numbered p)) (where_ (is_loading p c) 1 ∷ []) 1
      (none_want (flat_map (gate_write p c) (numbered p)) 1 (none_of (gate_write p c) 0 p.program.nodes (λ j node is. off_gate p c (0 + j) node (active (0 + j)))))
      ((λ w. refl), _))

  pub loads_passed : (n y : ℕ) → Takes (passed_write p c n ∷ []) (Some (c.regs (Passed n))) y → y ≡ 0
  loads_passed n y t =
      taken_one (is_loading p c || ends_interval p c) (bit (not (is_loading p c) && has_passed c (n - 1))) (c.regs (Passed n)) y t (or_left (is_loading p c) (ends_interval p c) loading)
      ∙ ap bit (and_left (not (is_loading p c)) (has_passed c (n - 1)) (not_from_true _ loading))

  pub loads_waited : (y : ℕ) → Takes (waited_write p c ∷ []) (Some (c.regs Waited)) y → y ≡ 0
  loads_waited y t =
      taken_one (is_loading p c || not (holds c (Gate 0))) (if is_loading p c then 0 else (c.regs Waited + 1) % 2 ^ wait_bits p) (c.regs Waited) y t
      (or_left (is_loading p c) (not (holds c (Gate 0))) loading)
      ∙ cond-true _ _ _ loading

-- ---- a loop under way

module _ (p : Plan) (i time : ℕ) (body : TimedBody) (exit next : ℕ) (c : Cycle) (at_ : slice_get p.program.nodes i ≡ Some (overlapped body exit next)) (n : InNode p i time c) where
  abbrev it : TimedNode
  it = overlapped body exit next

  pub ends_is : ends_interval p c ≡ shows (body_at p i).interval (time % (body_at p i).interval) ((body_at p i).interval - 1)
  ends_is =
      one_decides p i it (λ m. is_loop (Some m.1) && at p c m.0 ((body_at p m.0).interval - 1)) _ at_ (at_is p i time ((body_at p i).interval - 1) c n)
      (λ j node other. and_right (is_loop (Some node)) _ (off_at p c j ((body_at p j).interval - 1) (n.others j other)))

  pub any_tested_is : is_any_tested p c ≡ is_tested p c i
  any_tested_is =
      one_decides p i it (λ m. is_loop (Some m.1) && is_tested p c m.0) _ at_ refl
      (λ j node other. and_right (is_loop (Some node)) _ (off_tested p c j (n.others j other)))

  -- what the first gate takes where an iteration is tested
  abbrev first : ℕ
  first = bit (holds c (Gate 0) && test_holds p c i)

  other_gate : (j : ℕ) (node : TimedNode) → j ≢ i → NoneWanted (gate_write p c (j, node))
  other_gate j node other = off_gate p c j node (n.others j other)

  pub first_gate : (y : ℕ) → Takes (gate_writes p c 0) (Some (c.regs (Gate 0))) y → is_tested p c i ≡ true → y ≡ first
  first_gate y t on_ =
      t.wanted first
      (some_left (flat_map (gate_write p c) (numbered p)) (where_ (is_loading p c) 1 ∷ [])
      (some_of (gate_write p c) 0 i p.program.nodes it at_
      (subst (λ k. is_any_wanted (gate_write p c (k, it)) ≡ true) (let z : i ≡ 0 + i = omega arith in z) (or_left (is_tested p c i) false on_))))
      (all_both (flat_map (gate_write p c) (numbered p)) (where_ (is_loading p c) 1 ∷ []) first
      (all_of (gate_write p c) 0 p.program.nodes first (λ j node is. subst (λ k. AllWant (gate_write p c (k, node)) first) (let z : j ≡ 0 + j = omega arith in z)
      (by_node p i it (λ k m. AllWant (gate_write p c (k, m)) first) at_ ((λ w. refl), _) (λ k m other. none_want (gate_write p c (k, m)) first (other_gate k m other)) j node is)))
      (none_want (where_ (is_loading p c) 1 ∷ []) first (or_from (is_loading p c) false (not_loading p c n.load) refl)))

  pub first_stays : (y : ℕ) → Takes (gate_writes p c 0) (Some (c.regs (Gate 0))) y → is_tested p c i ≡ false → y ≡ c.regs (Gate 0)
  first_stays y t off_ =
      t.else_ (none_both (flat_map (gate_write p c) (numbered p)) (where_ (is_loading p c) 1 ∷ [])
      (none_of (gate_write p c) 0 p.program.nodes (λ j node is. subst (λ k. NoneWanted (gate_write p c (k, node))) (let z : j ≡ 0 + j = omega arith in z)
      (by_node p i it (λ k m. NoneWanted (gate_write p c (k, m))) at_ (or_from (is_tested p c i) false off_ refl) other_gate j node is)))
      (or_from (is_loading p c) false (not_loading p c n.load) refl))

  pub next_gate : (k y : ℕ) → Takes (gate_writes p c (suc k)) (Some (c.regs (Gate (suc k)))) y → is_tested p c i ≡ true → y ≡ c.regs (Gate k)
  next_gate k y t on_ = taken_one (is_any_tested p c) (c.regs (Gate k)) (c.regs (Gate (suc k))) y t (any_tested_is ∙ on_)

  pub next_stays : (k y : ℕ) → Takes (gate_writes p c (suc k)) (Some (c.regs (Gate (suc k)))) y → is_tested p c i ≡ false → y ≡ c.regs (Gate (suc k))
  next_stays k y t off_ = kept_one (is_any_tested p c) (c.regs (Gate k)) (c.regs (Gate (suc k))) y t (any_tested_is ∙ off_)

  -- all gates stay where no iteration is tested
  pub gate_stays : (k y : ℕ) → Takes (gate_writes p c k) (Some (c.regs (Gate k))) y → is_tested p c i ≡ false → y ≡ c.regs (Gate k)
  gate_stays zero y t off_ = first_stays y t off_
  gate_stays (suc k) y t off_ = next_stays k y t off_

  -- ---- intervals

  pub passed_more : (m y : ℕ) → Takes (passed_write p c (suc m) ∷ []) (Some (c.regs (Passed (suc m)))) y → ends_interval p c ≡ true → y ≡ bit (has_passed c m)
  passed_more m y t on_ =
      taken_one (is_loading p c || ends_interval p c) (bit (not (is_loading p c) && has_passed c (suc m - 1))) (c.regs (Passed (suc m))) y t (or_right (is_loading p c) (ends_interval p c) on_)
      ∙ ap₂ (λ b k. bit (not b && has_passed c k)) (not_loading p c n.load) (let z : suc m - 1 ≡ m = omega arith in z)

  pub passed_stays : (m y : ℕ) → Takes (passed_write p c (suc m) ∷ []) (Some (c.regs (Passed (suc m)))) y → ends_interval p c ≡ false → y ≡ c.regs (Passed (suc m))
  passed_stays m y t off_ =
      kept_one (is_loading p c || ends_interval p c) (bit (not (is_loading p c) && has_passed c (suc m - 1))) (c.regs (Passed (suc m))) y t
      (or_from (is_loading p c) (ends_interval p c) (not_loading p c n.load) off_)

  -- ---- waiting

  pub waits_on : (y : ℕ) → Takes (waited_write p c ∷ []) (Some (c.regs Waited)) y → holds c (Gate 0) ≡ false → y ≡ (c.regs Waited + 1) % 2 ^ wait_bits p
  waits_on y t off_ =
      taken_one (is_loading p c || not (holds c (Gate 0))) (if is_loading p c then 0 else (c.regs Waited + 1) % 2 ^ wait_bits p) (c.regs Waited) y t
      (or_right (is_loading p c) _ (not_from_false _ off_))
      ∙ cond-false _ _ _ (not_loading p c n.load)

  pub waits_not : (y : ℕ) → Takes (waited_write p c ∷ []) (Some (c.regs Waited)) y → holds c (Gate 0) ≡ true → y ≡ c.regs Waited
  waits_not y t on_ =
      kept_one (is_loading p c || not (holds c (Gate 0))) (if is_loading p c then 0 else (c.regs Waited + 1) % 2 ^ wait_bits p) (c.regs Waited) y t
      (or_from (is_loading p c) _ (not_loading p c n.load) (not_from_true _ on_))

-- ---- the counter of waiting is wide enough

pub wait_fits : (p : Plan) (i : ℕ) (body : TimedBody) (exit next m : ℕ) → greatest_wait p < 2 ^ 64 → slice_get p.program.nodes i ≡ Some (overlapped body exit next) → m < wait body exit → m < 2 ^ wait_bits p
wait_fits p i body exit next m few at_ lt =
    let most : wait body exit ≤ greatest_wait p = node_within (λ n. wait_as n.1) 0 0 i p.program.nodes (overlapped body exit next) at_ in
    let low = below_bits (greatest_wait p - 1) (omega (arith, few)) in
    omega (arith, most, low, lt)
