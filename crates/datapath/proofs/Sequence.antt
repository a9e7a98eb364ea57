-- The initial sequence, from cycle to cycle.
use Rattle.std.proofs.Common.{◌≡◌, ◌≢◌, ℕ, ◌+◌, ◌-◌, ◌%◌, ◌^◌, ◌<◌, Bool, true, false, not, ◌&&◌, refl, ap, ap₂, ◌∙◌, mod-eq_of_lt, arith}
use Rattle.std.specs.Prelude.{◌==◌, ◌||◌, nat_lt}
use Rattle.std.proofs.lemmas.Bool.{and_from, and_left, and_right, or_from, or_left, not_from_true, not_from_false, ne_eqb, eq-eqb, cond-true, cond-false, lt-ltb}
use Rattle.std.specs.List.{list_any}
use Rattle.clock_ir.specs.ClockRuns.{TimedNode}
use Rattle.datapath.specs.Plans.{Plan, span, numbered, initial_cycles}
use Rattle.datapath.specs.Cycles.{Ready, Done, Initial, Time, Active, Load, Contents, Cycle, in_cycle, holds, resets, starts}
use Rattle.datapath.specs.Control.{is_entered, is_ending, last_initial, next_initial, waits_on, next_ready, stays_as, is_within, goes_on, greatest_time, time_bits}
use Rattle.datapath.specs.Circuits.{IsAfter}
use Rattle.datapath.specs.Standing.{IsWaiting, IsInSequence}
use Rattle.datapath.specs.Laws.{Sequences}
use Rattle.datapath.proofs.Nodes.{none_passes}
use Rattle.datapath.proofs.Counters.{sequence_fits}
use Rattle.datapath.proofs.Controller.{none_left, none_entered, none_ending, off, on, unreset, taken, bit_true, bit_false, done_as, off_stays, not_loaded, stays_inactive}

-- what holds in a cycle of the sequence
record Sequencing (p : Plan) (time : ℕ) (c : Cycle) : Type 0 where
  unset : resets c ≡ false
  ready : c.regs Ready ≡ 0
  done_ : c.regs Done ≡ 0
  initial : holds c Initial ≡ true
  now : c.regs Time ≡ time
  active : (j : ℕ) → c.regs (Active j) ≡ 0
  load : (j : ℕ) → c.regs (Load j) ≡ 0
  some : initial_cycles p ≢ 0

unended : (p : Plan) (time : ℕ) (c : Cycle) → Sequencing p time c → is_ending p c ≡ false
unended p time c s = none_ending p c (none_left p c s.active)

unentered : (p : Plan) (time : ℕ) (c : Cycle) (j : ℕ) → Sequencing p time c → is_entered p c j ≡ false
unentered p time c j s = none_entered p c j (and_left _ (starts c) (off c Ready s.ready)) (none_left p c s.active)

still_waiting : (p : Plan) (time : ℕ) (c : Cycle) → Sequencing p time c → waits_on c Ready ≡ false
still_waiting p time c s = and_left _ (not (starts c)) (off c Ready s.ready)

-- ready behind the last cycle alone
ready_behind_last : (p : Plan) (time : ℕ) (c : Cycle) (b : Bool) → Sequencing p time c → last_initial p c ≡ b → next_ready p c ≡ b
ready_behind_last p time c b s last =
    cond-false _ _ _ (ne_eqb (initial_cycles p) 0 s.some)
    ∙ (ap₂ (λ x y. (x || y) && not (resets c)) (unended p time c s) (ap₂ (λ x y. x || y) (still_waiting p time c s) last) ∙ (ap (λ x. b && not x) s.unset ∙ and_true b))
  where
    and_true : (x : Bool) → (x && not false) ≡ x
    and_true true = refl
    and_true false = refl

no_node : (p : Plan) (time : ℕ) (c : Cycle) → Sequencing p time c
    → list_any (λ (n : ℕ × TimedNode). stays_as p c n.0 n.1 && is_within c (span p n.0)) (numbered p) ≡ false
no_node p time c s = none_passes (λ n. stays_as p c n.0 n.1 && is_within c (span p n.0)) p.program.nodes (λ j node at_. and_left _ (is_within c (span p j)) (off_stays p c j node (s.active j)))

done_off : (p : Plan) (time : ℕ) (c : Cycle) (y : Contents) → Sequencing p time c → IsAfter p c y → y.regs Done ≡ 0
done_off p time c y s after =
    taken _ _ _ (after.regs Done) ∙ bit_false _ (done_as p c false s.unset (or_from (is_ending p c) _ (unended p time c s) (and_left _ (not (starts c)) (off c Done s.done_))))

active_off : (p : Plan) (time : ℕ) (c : Cycle) (y : Contents) (j : ℕ) → Sequencing p time c → IsAfter p c y → y.regs (Active j) ≡ 0
active_off p time c y j s after = stays_inactive p c j y (unentered p time c j s) (s.load j) (s.active j) after

load_off : (p : Plan) (time : ℕ) (c : Cycle) (y : Contents) (j : ℕ) → Sequencing p time c → IsAfter p c y → y.regs (Load j) ≡ 0
load_off p time c y j s after = taken _ _ _ (after.regs (Load j)) ∙ bit_false _ (not_loaded p c j (unentered p time c j s))

continues : (p : Plan) (time : ℕ) (c : Cycle) (y : Contents) → greatest_time p < 2 ^ 64 → Sequencing p time c → IsAfter p c y → time + 1 < initial_cycles p → IsInSequence (time + 1) y
continues p time c y few s after more =
    let differs : (c.regs Time == initial_cycles p - 1) ≡ false = ne_eqb (c.regs Time) (initial_cycles p - 1) (λ e. let n = s.now in omega (arith, e, n, more)) in
    let not_last : last_initial p c ≡ false = and_right (holds c Initial) _ differs in
    let within : is_within c (initial_cycles p) ≡ true = and_from _ _ (lt-ltb 1 (initial_cycles p) (omega (arith, more))) (not_from_false _ differs) in
    let counts : goes_on p c ≡ true = or_left _ _ (and_from _ _ s.initial within) in
    let on_ : next_initial p c ≡ true =
    and_from _ _ (lt-ltb 0 (initial_cycles p) (omega (arith, more))) (or_left _ (resets c) (and_from _ _ s.initial (not_from_false _ not_last))) in
    record {
      ready = taken _ _ _ (after.regs Ready) ∙ bit_false _ (ready_behind_last p time c false s not_last);
      done_ = done_off p time c y s after;
      initial = taken _ _ _ (after.regs Initial) ∙ bit_true _ on_;
      time =
          taken _ _ _ (after.regs Time)
          ∙ (cond-true _ _ _ (and_from _ _ counts (not_from_false _ s.unset)) ∙ (ap (λ t. (t + 1) % 2 ^ time_bits p) s.now ∙ mod-eq_of_lt (sequence_fits p (time + 1) few more)));
      active = λ j. active_off p time c y j s after;
      load = λ j. load_off p time c y j s after;
    }

ends_sequence : (p : Plan) (time : ℕ) (c : Cycle) (y : Contents) → Sequencing p time c → IsAfter p c y → time + 1 ≡ initial_cycles p → IsWaiting false y
ends_sequence p time c y s after full =
    let same : (c.regs Time == initial_cycles p - 1) ≡ true = eq-eqb (c.regs Time) (initial_cycles p - 1) (let n = s.now in omega (arith, n, full)) in
    let last : last_initial p c ≡ true = and_from _ _ s.initial same in
    let stops : goes_on p c ≡ false =
    or_from (holds c Initial && is_within c (initial_cycles p)) _
    (and_right (holds c Initial) _ (and_right (nat_lt 1 (initial_cycles p)) _ (not_from_true _ same)))
    (no_node p time c s) in
    let over : next_initial p c ≡ false = and_right (nat_lt 0 (initial_cycles p)) _ (or_from _ _ (and_right (holds c Initial) _ (not_from_true _ last)) s.unset) in
    record {
      ready = taken _ _ _ (after.regs Ready) ∙ bit_true _ (ready_behind_last p time c true s last);
      done_ = done_off p time c y s after;
      initial = taken _ _ _ (after.regs Initial) ∙ bit_false _ over;
      still = record {
        time = taken _ _ _ (after.regs Time) ∙ cond-false _ _ _ (and_left _ (not (resets c)) stops);
        active = λ j. active_off p time c y j s after;
        load = λ j. load_off p time c y j s after;
      };
    }

pub sequences : Sequences
sequences p time x y pins few r q step =
    let c : Cycle = in_cycle x step.signals pins in
    let s : initial_cycles p ≢ 0 → Sequencing p time c = λ some. record {
      unset = unreset pins r;
      ready = q.ready;
      done_ = q.done_;
      initial = on c Initial q.initial;
      now = q.time;
      active = q.active;
      load = q.load;
      some = some;
    } in
    record {
      goes_on = λ more. continues p time c y few (s (λ e. omega (arith, e, more))) step.is_after more;
      ends_ = λ full. ends_sequence p time c y (s (λ e. omega (arith, e, full))) step.is_after full;
    }
