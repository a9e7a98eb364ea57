-- The registers of the controller, from cycle to cycle.
use Rattle.std.proofs.Common.{◌≡◌, ◌≢◌, ℕ, zero, suc, mod-eq_of_lt, ◌+◌, ◌-◌, ◌/◌, ◌%◌, ◌^◌, ◌<◌, Bool, true, false, not, ◌&&◌, List, Option, Some, None, refl, sym, ap, ap₂, ◌∙◌, subst, inl, inr, arith}
use Rattle.std.specs.Prelude.{◌==◌, ◌||◌, nat_le, nat_lt, slice_get}
use Rattle.std.specs.List.{list_any}
use Rattle.std.proofs.lemmas.Bool.{and_from, and_left, and_right, or_from, or_left, or_right, not_from_true, not_from_false, ne_eqb, eq-eqb, cases_eq, cond-true, cond-false, lt-leb, lt-ltb}
use Rattle.ir_core.specs.declared.cfg.End.{End}
use Rattle.rtl_core.specs.Interface.{reset_of}
use Rattle.clock_ir.specs.Flows.{TimedBody, known}
use Rattle.clock_ir.specs.ClockRuns.{TimedNode, block, overlapped}
use Rattle.datapath.specs.Plans.{Plan, span, numbered, body_at, initial_cycles}
use Rattle.datapath.specs.Cycles.{Register, Ready, Done, Initial, Time, Active, Load, Contents, Cycle, in_cycle, holds, resets, starts, bit}
use Rattle.rtl_logic.specs.Choosing.{Takes}
use Rattle.datapath.specs.Reading.{at, has_passed}
use Rattle.datapath.specs.Control.{has_test, is_tested, wait, leaves_loop, leaves_as, leaves, leads_as, is_taken, is_entered, returns_as, is_ending, next_initial, waits_on, next_ready, next_done, is_loop, leaves_if, begins_as, begins, next_load, next_active, stays_as, is_within, goes_on, next_time, time_bits}
use Rattle.datapath.specs.Ports.{is_enabled, behind_ports, port_count}
use Rattle.datapath.specs.Circuits.{IsAfter, always}
use Rattle.datapath.specs.Standing.{IsStill, IsWaiting, IsInSequence, IsBusy, IsEntered, IsEnteredAs}
use Rattle.datapath.specs.Laws.{ResetsAlways, Waits, Starts, Loads, Stays}
use Rattle.datapath.proofs.Counters.{time_fits}
use Rattle.datapath.proofs.Nodes.{none_passes, some_passes}

-- ---- registers that take a value in each cycle

pub taken : (x y : ℕ) (other : Option ℕ) → Takes (always x) other y → y ≡ x
taken x y other t = t.wanted x refl ((λ e. refl), _)

pub bit_true : (b : Bool) → b ≡ true → bit b ≡ 1
bit_true b e = ap bit e

pub bit_false : (b : Bool) → b ≡ false → bit b ≡ 0
bit_false b e = ap bit e

pub off : (c : Cycle) (r : Register) → c.regs r ≡ 0 → holds c r ≡ false
off c r e = ap (λ x. x == 1) e

pub on : (c : Cycle) (r : Register) → c.regs r ≡ 1 → holds c r ≡ true
on c r e = ap (λ x. x == 1) e

-- ---- a node that is not under way

pub off_at : (p : Plan) (c : Cycle) (i t : ℕ) → c.regs (Active i) ≡ 0 → at p c i t ≡ false
off_at p c i t e = and_left _ _ (off c (Active i) e)

pub off_tested : (p : Plan) (c : Cycle) (i : ℕ) → c.regs (Active i) ≡ 0 → is_tested p c i ≡ false
off_tested p c i e = and_right (has_test p i) _ (and_left _ (has_passed c (known (body_at p i) / span p i)) (off_at p c i (known (body_at p i)) e))

off_loop : (p : Plan) (c : Cycle) (i n : ℕ) → c.regs (Active i) ≡ 0 → leaves_loop p c i n ≡ false
off_loop p c i zero e = and_left _ _ (off_tested p c i e)
off_loop p c i (suc n) e = and_right (has_test p i) _ (and_left _ _ (off c (Active i) e))

pub off_leaves : (p : Plan) (c : Cycle) (i : ℕ) (node : TimedNode) → c.regs (Active i) ≡ 0 → leaves_as p c i node ≡ false
off_leaves p c i (block body end_) e = off_at p c i (span p i - 1) e
off_leaves p c i (overlapped body exit next) e = off_loop p c i (wait body exit) e

off_leaves_if : (p : Plan) (c : Cycle) (i : ℕ) (node : Option TimedNode) → c.regs (Active i) ≡ 0 → leaves_if p c i node ≡ false
off_leaves_if p c i None e = refl
off_leaves_if p c i (Some node) e = off_leaves p c i node e

pub off_stays : (p : Plan) (c : Cycle) (i : ℕ) (node : TimedNode) → c.regs (Active i) ≡ 0 → stays_as p c i node ≡ false
off_stays p c i (block body end_) e = off c (Active i) e
off_stays p c i (overlapped body exit next) e = and_left _ _ (off c (Active i) e)

-- ---- no node is left

-- so it is in a cycle in which none is under way
abbrev pub NoneLeft : Plan → Cycle → Type 0
NoneLeft p c = (j : ℕ) (node : TimedNode) → slice_get p.program.nodes j ≡ Some node → leaves_as p c j node ≡ false

pub none_left : (p : Plan) (c : Cycle) → ((j : ℕ) → c.regs (Active j) ≡ 0) → NoneLeft p c
none_left p c still j node at_ = off_leaves p c j node (still j)

pub none_entered : (p : Plan) (c : Cycle) (j : ℕ) → is_taken c ≡ false → NoneLeft p c → is_entered p c j ≡ false
none_entered p c j untaken none =
    or_from (is_taken c && (p.program.first == j)) (list_any (λ (n : ℕ × TimedNode). leaves p c n && leads_as p c n.0 n.1 j) (numbered p)) (and_left _ _ untaken)
    (none_passes (λ n. leaves p c n && leads_as p c n.0 n.1 j) p.program.nodes (λ k node at_. and_left _ _ (none k node at_)))

pub none_ending : (p : Plan) (c : Cycle) → NoneLeft p c → is_ending p c ≡ false
none_ending p c none = none_passes (λ n. leaves p c n && returns_as n.1) p.program.nodes (λ k node at_. and_left _ _ (none k node at_))

-- ---- reset

-- what comes of a cycle of reset, in each register
reset_load : (p : Plan) (c : Cycle) (j : ℕ) → resets c ≡ true → next_load p c j ≡ false
reset_load p c j r = and_right (is_loop (slice_get p.program.nodes j)) _ (and_right (is_entered p c j) _ (not_from_true _ r))

reset_active : (p : Plan) (c : Cycle) (j : ℕ) → resets c ≡ true → next_active p c j ≡ false
reset_active p c j r = and_right _ _ (not_from_true _ r)

reset_time : (p : Plan) (c : Cycle) → resets c ≡ true → next_time p c ≡ 0
reset_time p c r = cond-false _ _ _ (and_right (goes_on p c) _ (not_from_true _ r))

pub reset_still : (p : Plan) (c : Cycle) (y : Contents) → resets c ≡ true → IsAfter p c y → IsStill y
reset_still p c y r after = record {
  time = taken _ _ _ (after.regs Time) ∙ reset_time p c r;
  active = λ j. taken _ _ _ (after.regs (Active j)) ∙ bit_false _ (reset_active p c j r);
  load = λ j. taken _ _ _ (after.regs (Load j)) ∙ bit_false _ (reset_load p c j r);
}

reset_done : (p : Plan) (c : Cycle) → resets c ≡ true → next_done p c ≡ false
reset_done p c r = and_right _ _ (not_from_true _ r)

-- without an initial sequence the circuit is ready at once
reset_ready : (p : Plan) (c : Cycle) → initial_cycles p ≡ 0 → resets c ≡ true → next_ready p c ≡ true
reset_ready p c none r = cond-true _ _ _ (eq-eqb _ 0 none) ∙ or_right (is_ending p c) _ (or_right (waits_on c Ready) _ r)

reset_unready : (p : Plan) (c : Cycle) → initial_cycles p ≢ 0 → resets c ≡ true → next_ready p c ≡ false
reset_unready p c some r = cond-false _ _ _ (ne_eqb _ 0 some) ∙ and_right _ _ (not_from_true _ r)

no_initial : (p : Plan) (c : Cycle) → initial_cycles p ≡ 0 → next_initial p c ≡ false
no_initial p c none = and_left _ _ (ap (λ n. nat_lt 0 n) none)

positive : (n : ℕ) → n ≢ 0 → nat_lt 0 n ≡ true
positive n h = lt-ltb 0 n (omega (arith, h))

reset_initial : (p : Plan) (c : Cycle) → initial_cycles p ≢ 0 → resets c ≡ true → next_initial p c ≡ true
reset_initial p c some r = and_from _ _ (positive (initial_cycles p) some) (or_right _ _ r)

pub reset_waits : (p : Plan) (c : Cycle) (y : Contents) → initial_cycles p ≡ 0 → resets c ≡ true → IsAfter p c y → IsWaiting false y
reset_waits p c y none r after = record {
  ready = taken _ _ _ (after.regs Ready) ∙ bit_true _ (reset_ready p c none r);
  done_ = taken _ _ _ (after.regs Done) ∙ bit_false _ (reset_done p c r);
  initial = taken _ _ _ (after.regs Initial) ∙ bit_false _ (no_initial p c none);
  still = reset_still p c y r after;
}

pub reset_begins : (p : Plan) (c : Cycle) (y : Contents) → initial_cycles p ≢ 0 → resets c ≡ true → IsAfter p c y → IsInSequence 0 y
reset_begins p c y some r after =
    let still : IsStill y = reset_still p c y r after in
    record {
      ready = taken _ _ _ (after.regs Ready) ∙ bit_false _ (reset_unready p c some r);
      done_ = taken _ _ _ (after.regs Done) ∙ bit_false _ (reset_done p c r);
      initial = taken _ _ _ (after.regs Initial) ∙ bit_true _ (reset_initial p c some r);
      time = still.time;
      active = still.active;
      load = still.load;
    }

-- ---- no reset

pub unreset : (pins : List ℕ) → reset_of pins ≡ 0 → (reset_of pins == 1) ≡ false
unreset pins e = ap (λ r. r == 1) e

-- where no initial sequence is under way none begins
pub stays_uninitial : (p : Plan) (c : Cycle) → holds c Initial ≡ false → resets c ≡ false → next_initial p c ≡ false
stays_uninitial p c none r = and_right (nat_lt 0 (initial_cycles p)) _ (or_from _ _ (and_left _ _ none) r)

-- ready where it waits on, or where the run ends
pub ready_as : (p : Plan) (c : Cycle) (b : Bool) → holds c Initial ≡ false → resets c ≡ false → (is_ending p c || waits_on c Ready) ≡ b → next_ready p c ≡ b
ready_as p c b none r e =
    elim (cases_eq (initial_cycles p) 0) [
      | inl zero_ ↦ cond-true _ _ _ (eq-eqb _ 0 zero_) ∙ (ap (λ x. is_ending p c || (waits_on c Ready || x)) r ∙ (or_unit (is_ending p c) (waits_on c Ready) ∙ e))
      | inr some ↦
          cond-false _ _ _ (ne_eqb _ 0 some)
          ∙ (ap₂ (λ x y. (is_ending p c || (waits_on c Ready || x)) && not y) (and_left _ (c.regs Time == initial_cycles p - 1) none) r
          ∙ (and_unit _ ∙ (or_unit (is_ending p c) (waits_on c Ready) ∙ e)))
    ]
  where
    or_false : (x : Bool) → (x || false) ≡ x
    or_false true = refl
    or_false false = refl

    or_unit : (x y : Bool) → (x || (y || false)) ≡ (x || y)
    or_unit x y = ap (λ z. x || z) (or_false y)

    and_unit : (x : Bool) → (x && not false) ≡ x
    and_unit true = refl
    and_unit false = refl

pub done_as : (p : Plan) (c : Cycle) (b : Bool) → resets c ≡ false → (is_ending p c || waits_on c Done) ≡ b → next_done p c ≡ b
done_as p c b r e = ap₂ (λ x y. x && not y) e r ∙ and_unit b
  where
    and_unit : (x : Bool) → (x && not false) ≡ x
    and_unit true = refl
    and_unit false = refl

or_from_left : (a b : Bool) → a ≡ false → (a || b) ≡ b
or_from_left a b e = ap (λ x. x || b) e

pub holds_bit : (c : Cycle) (r : Register) (b : Bool) → c.regs r ≡ bit b → holds c r ≡ b
holds_bit c r true e = on c r e
holds_bit c r false e = off c r e

still_done : (c : Cycle) (done : Bool) → c.regs Done ≡ bit done → not (starts c) ≡ true → waits_on c Done ≡ done
still_done c done e quiet = ap₂ (λ x y. x && y) (holds_bit c Done done e) quiet ∙ and_true done
  where
    and_true : (x : Bool) → (x && true) ≡ x
    and_true true = refl
    and_true false = refl

-- ---- waiting

no_time : (p : Plan) (c : Cycle) → holds c Initial ≡ false → ((j : ℕ) → c.regs (Active j) ≡ 0) → next_time p c ≡ 0
no_time p c none still =
    cond-false _ _ _ (and_left _ _ (or_from (holds c Initial && is_within c (initial_cycles p)) _ (and_left _ _ none)
    (none_passes (λ n. stays_as p c n.0 n.1 && is_within c (span p n.0)) p.program.nodes (λ j node at_. and_left _ _ (off_stays p c j node (still j))))))

-- a node that is not entered and was not loaded stays as it is
pub not_begun : (p : Plan) (c : Cycle) (j : ℕ) → is_entered p c j ≡ false → c.regs (Load j) ≡ 0 → begins p c j ≡ false
not_begun p c j e l = as_node (slice_get p.program.nodes j)
  where
    as_node : (node : Option TimedNode) → begins_as p c j node ≡ false
    as_node None = refl
    as_node (Some (block body end_)) = e
    as_node (Some (overlapped body exit next)) = off c (Load j) l

pub stays_off : (p : Plan) (c : Cycle) (j : ℕ) → begins p c j ≡ false → c.regs (Active j) ≡ 0 → next_active p c j ≡ false
stays_off p c j none e = and_left _ _ (or_from _ _ none (and_left _ _ (off c (Active j) e)))

pub not_loaded : (p : Plan) (c : Cycle) (j : ℕ) → is_entered p c j ≡ false → next_load p c j ≡ false
not_loaded p c j e = and_right (is_loop (slice_get p.program.nodes j)) _ (and_left _ _ e)

pub waits : Waits
waits p done x y pins r s w step =
    let c : Cycle = in_cycle x step.signals pins in
    let after = step.is_after in
    let unset : resets c ≡ false = unreset pins r in
    let unstarted : starts c ≡ false = ap (λ n. n == 1) s in
    let untaken : is_taken c ≡ false = and_right _ _ unstarted in
    let none : NoneLeft p c = none_left p c w.still.active in
    let unended : is_ending p c ≡ false = none_ending p c none in
    let uninitial : holds c Initial ≡ false = off c Initial w.initial in
    let unentered : (j : ℕ) → is_entered p c j ≡ false = λ j. none_entered p c j untaken none in
    let quiet : not (starts c) ≡ true = not_from_false _ unstarted in
    let ready : waits_on c Ready ≡ true = and_from _ _ (on c Ready w.ready) quiet in
    record {
      ready = taken _ _ _ (after.regs Ready) ∙ bit_true _ (ready_as p c true uninitial unset (or_right (is_ending p c) _ ready));
      done_ = taken _ _ _ (after.regs Done) ∙ ap bit (done_as p c done unset (or_from_left (is_ending p c) _ unended ∙ still_done c done w.done_ quiet));
      initial = taken _ _ _ (after.regs Initial) ∙ bit_false _ (stays_uninitial p c uninitial unset);
      still = record {
        time = taken _ _ _ (after.regs Time) ∙ no_time p c uninitial w.still.active;
        active = λ j. taken _ _ _ (after.regs (Active j)) ∙ bit_false _ (stays_off p c j (not_begun p c j (unentered j) (w.still.load j)) (w.still.active j));
        load = λ j. taken _ _ _ (after.regs (Load j)) ∙ bit_false _ (not_loaded p c j (unentered j));
      };
    }

-- ---- entering a node

-- what holds in the last cycle before node i
pub record Enters (p : Plan) (c : Cycle) (i : ℕ) : Type 0 where
  pub unset : resets c ≡ false
  pub uninitial : holds c Initial ≡ false
  pub unready : (is_ending p c || waits_on c Ready) ≡ false
  pub undone : (is_ending p c || waits_on c Done) ≡ false
  pub enters : is_entered p c i ≡ true
  pub others : (j : ℕ) → j ≢ i → is_entered p c j ≡ false
  pub loads : (j : ℕ) → c.regs (Load j) ≡ 0
  pub left : (j : ℕ) → (holds c (Active j) && not (leaves_if p c j (slice_get p.program.nodes j))) ≡ false
  pub ends_time : goes_on p c ≡ false

enters_busy : (p : Plan) (c : Cycle) (i : ℕ) (y : Contents) → Enters p c i → IsAfter p c y → IsBusy y
enters_busy p c i y e after = record {
  ready = taken _ _ _ (after.regs Ready) ∙ bit_false _ (ready_as p c false e.uninitial e.unset e.unready);
  done_ = taken _ _ _ (after.regs Done) ∙ bit_false _ (done_as p c false e.unset e.undone);
  initial = taken _ _ _ (after.regs Initial) ∙ bit_false _ (stays_uninitial p c e.uninitial e.unset);
}

enters_time : (p : Plan) (c : Cycle) (i : ℕ) (y : Contents) → Enters p c i → IsAfter p c y → y.regs Time ≡ 0
enters_time p c i y e after = taken _ _ _ (after.regs Time) ∙ cond-false _ _ _ (and_left _ _ e.ends_time)

inactive : (p : Plan) (c : Cycle) (i j : ℕ) (y : Contents) → Enters p c i → begins p c j ≡ false → IsAfter p c y → y.regs (Active j) ≡ 0
inactive p c i j y e none after = taken _ _ _ (after.regs (Active j)) ∙ bit_false _ (and_left _ _ (or_from _ _ none (e.left j)))

unloaded : (p : Plan) (c : Cycle) (i j : ℕ) (y : Contents) → Enters p c i → j ≢ i → IsAfter p c y → y.regs (Load j) ≡ 0
unloaded p c i j y e other after = taken _ _ _ (after.regs (Load j)) ∙ bit_false _ (not_loaded p c j (e.others j other))

-- the load register of a node that is no loop
no_loop : (p : Plan) (c : Cycle) (i : ℕ) (y : Contents) → is_loop (slice_get p.program.nodes i) ≡ false → IsAfter p c y → y.regs (Load i) ≡ 0
no_loop p c i y none after = taken _ _ _ (after.regs (Load i)) ∙ bit_false _ (and_left _ _ none)

other_begins : (p : Plan) (c : Cycle) (i j : ℕ) → Enters p c i → j ≢ i → begins p c j ≡ false
other_begins p c i j e other = not_begun p c j (e.others j other) (e.loads j)

all_unloaded : (p : Plan) (c : Cycle) (i : ℕ) (y : Contents) → Enters p c i → is_loop (slice_get p.program.nodes i) ≡ false → IsAfter p c y → (j : ℕ) → y.regs (Load j) ≡ 0
all_unloaded p c i y e none after j =
    elim (cases_eq j i) [ inl same ↦ subst (λ k. y.regs (Load k) ≡ 0) (sym same) (no_loop p c i y none after) | inr other ↦ unloaded p c i j y e other after ]

all_inactive : (p : Plan) (c : Cycle) (i : ℕ) (y : Contents) → Enters p c i → begins p c i ≡ false → IsAfter p c y → (j : ℕ) → y.regs (Active j) ≡ 0
all_inactive p c i y e none after j =
    elim (cases_eq j i) [
      | inl same ↦ subst (λ k. y.regs (Active k) ≡ 0) (sym same) (inactive p c i i y e none after)
      | inr other ↦ inactive p c i j y e (other_begins p c i j e other) after
    ]

entered_as : (p : Plan) (c : Cycle) (i : ℕ) (y : Contents) (node : Option TimedNode) → slice_get p.program.nodes i ≡ node → Enters p c i → IsAfter p c y → IsEnteredAs i node y
entered_as p c i y None is e after =
    let none : begins p c i ≡ false = ap (begins_as p c i) is in (
      enters_busy p c i y e after,
      record { time = enters_time p c i y e after; active = all_inactive p c i y e none after; load = all_unloaded p c i y e (ap is_loop is) after },
    )
entered_as p c i y (Some (block body end_)) is e after =
    let begun : begins p c i ≡ true = ap (begins_as p c i) is ∙ e.enters in
    record {
      busy = enters_busy p c i y e after;
      time = enters_time p c i y e after;
      active = taken _ _ _ (after.regs (Active i)) ∙ bit_true _ (and_from _ _ (or_left _ _ begun) (not_from_false _ e.unset));
      others = λ j other. inactive p c i j y e (other_begins p c i j e other) after;
      load = all_unloaded p c i y e (ap is_loop is) after;
    }
entered_as p c i y (Some (overlapped body exit next)) is e after =
    let none : begins p c i ≡ false = ap (begins_as p c i) is ∙ off c (Load i) (e.loads i) in
    record {
      busy = enters_busy p c i y e after;
      time = enters_time p c i y e after;
      load = taken _ _ _ (after.regs (Load i)) ∙ bit_true _ (and_from _ _ (ap is_loop is) (and_from _ _ e.enters (not_from_false _ e.unset)));
      others = λ j other. unloaded p c i j y e other after;
      active = all_inactive p c i y e none after;
    }

pub entered : (p : Plan) (c : Cycle) (i : ℕ) (y : Contents) → Enters p c i → IsAfter p c y → IsEntered p i y
entered p c i y e after = entered_as p c i y (slice_get p.program.nodes i) refl e after

-- ---- a start

time_stops : (p : Plan) (c : Cycle) → holds c Initial ≡ false → ((j : ℕ) → c.regs (Active j) ≡ 0) → goes_on p c ≡ false
time_stops p c none still =
    or_from (holds c Initial && is_within c (initial_cycles p)) _ (and_left _ _ none)
    (none_passes (λ n. stays_as p c n.0 n.1 && is_within c (span p n.0)) p.program.nodes (λ j node at_. and_left _ _ (off_stays p c j node (still j))))

pub starts_first : Starts
starts_first p done x y pins r s w step =
    let c : Cycle = in_cycle x step.signals pins in
    let started : starts c ≡ true = ap (λ n. n == 1) s in
    let is_now : is_taken c ≡ true = and_from _ _ (on c Ready w.ready) started in
    let none : NoneLeft p c = none_left p c w.still.active in
    let unended : is_ending p c ≡ false = none_ending p c none in
    let uninitial : holds c Initial ≡ false = off c Initial w.initial in
    let unquiet : not (starts c) ≡ false = not_from_true _ started in
    entered p c p.program.first y
    (record {
      unset = unreset pins r;
      uninitial = uninitial;
      unready = or_from _ _ unended (and_right (holds c Ready) _ unquiet);
      undone = or_from _ _ unended (and_right (holds c Done) _ unquiet);
      enters = or_left _ _ (and_from _ _ is_now (eq-eqb p.program.first p.program.first refl));
      others = λ j other.
          or_from (is_taken c && (p.program.first == j)) _ (and_right (is_taken c) _ (ne_eqb p.program.first j (λ e. other (sym e))))
          (none_passes (λ n. leaves p c n && leads_as p c n.0 n.1 j) p.program.nodes (λ k node at_. and_left _ _ (none k node at_)));
      loads = w.still.load;
      left = λ j. and_left _ _ (off c (Active j) (w.still.active j));
      ends_time = time_stops p c uninitial w.still.active;
    })
    step.is_after

-- ---- the first cycle of a loop's time

-- a node that neither is entered nor was loaded, and is not under way
pub stays_inactive : (p : Plan) (c : Cycle) (j : ℕ) (y : Contents) → is_entered p c j ≡ false → c.regs (Load j) ≡ 0 → c.regs (Active j) ≡ 0 → IsAfter p c y → y.regs (Active j) ≡ 0
stays_inactive p c j y e l a after = taken _ _ _ (after.regs (Active j)) ∙ bit_false _ (stays_off p c j (not_begun p c j e l) a)

-- what holds in a cycle of a run in which no node is left
pub record GoesOnInside (p : Plan) (c : Cycle) : Type 0 where
  pub unset : resets c ≡ false
  pub busy_ready : c.regs Ready ≡ 0
  pub busy_done : c.regs Done ≡ 0
  pub busy_initial : c.regs Initial ≡ 0
  pub none : NoneLeft p c

pub stays_busy : (p : Plan) (c : Cycle) (y : Contents) → GoesOnInside p c → IsAfter p c y → IsBusy y
stays_busy p c y g after =
    let unended : is_ending p c ≡ false = none_ending p c g.none in
    let uninitial : holds c Initial ≡ false = off c Initial g.busy_initial in
    record {
      ready = taken _ _ _ (after.regs Ready) ∙ bit_false _ (ready_as p c false uninitial g.unset (or_from _ _ unended (and_left _ _ (off c Ready g.busy_ready))));
      done_ = taken _ _ _ (after.regs Done) ∙ bit_false _ (done_as p c false g.unset (or_from _ _ unended (and_left _ _ (off c Done g.busy_done))));
      initial = taken _ _ _ (after.regs Initial) ∙ bit_false _ (stays_uninitial p c uninitial g.unset);
    }

pub inside_unentered : (p : Plan) (c : Cycle) (j : ℕ) → GoesOnInside p c → is_entered p c j ≡ false
inside_unentered p c j g = none_entered p c j (and_left _ _ (off c Ready g.busy_ready)) g.none

pub loads_first : Loads
loads_first p i body exit next x y pins at_ r l step =
    let c : Cycle = in_cycle x step.signals pins in
    let after = step.is_after in
    let g : GoesOnInside p c = record { unset = unreset pins r; busy_ready = l.busy.ready; busy_done = l.busy.done_; busy_initial = l.busy.initial; none = none_left p c l.active } in
    let begun : begins p c i ≡ true = ap (begins_as p c i) at_ ∙ on c (Load i) l.load in
    record {
      busy = stays_busy p c y g after;
      time = taken _ _ _ (after.regs Time) ∙ no_time p c (off c Initial l.busy.initial) l.active;
      active = taken _ _ _ (after.regs (Active i)) ∙ bit_true _ (and_from _ _ (or_left _ _ begun) (not_from_false _ g.unset));
      others = λ j other. stays_inactive p c j y (inside_unentered p c j g) (l.others j other) (l.active j) after;
      load = λ j. taken _ _ _ (after.regs (Load j)) ∙ bit_false _ (not_loaded p c j (inside_unentered p c j g));
    }

-- ---- a block that goes on

long : (n time : ℕ) → time + 1 < n → nat_le n 1 ≡ false
long n time h = lt-leb n 1 (omega arith)

not_last : (p : Plan) (c : Cycle) (i time : ℕ) → c.regs Time ≡ time → time + 1 < span p i → at p c i (span p i - 1) ≡ false
not_last p c i time is h =
    let small : (span p i - 1) % span p i ≡ span p i - 1 = mod-eq_of_lt (omega arith) in
    and_right (holds c (Active i)) _
    (or_from _ _ (long (span p i) time h) (ne_eqb (c.regs Time) ((span p i - 1) % span p i) (λ e. omega (arith, e, is, small, h))))

-- no node is left in a cycle of a block that is not its last one
pub none_left_inside : (p : Plan) (c : Cycle) (i time : ℕ) (body : TimedBody) (end_ : End) → slice_get p.program.nodes i ≡ Some (block body end_) → time + 1 < span p i
    → c.regs Time ≡ time → ((j : ℕ) → j ≢ i → c.regs (Active j) ≡ 0) → (j : ℕ) (node : TimedNode) → slice_get p.program.nodes j ≡ Some node → leaves_as p c j node ≡ false
none_left_inside p c i time body end_ at_ h now others j node is =
    let here : leaves_as p c i (block body end_) ≡ false = not_last p c i time now h in
    elim (cases_eq j i) [
      | inl same ↦
          let it : node ≡ block body end_ = let e : Some node ≡ Some (block body end_) = sym is ∙ (ap (slice_get p.program.nodes) same ∙ at_) in cc in
          subst (λ n. leaves_as p c j n ≡ false) (sym it) (subst (λ k. leaves_as p c k (block body end_) ≡ false) (sym same) here)
      | inr other ↦ off_leaves p c j node (others j other)
    ]

pub stays_inside : Stays
stays_inside p i time body end_ x y pins few at_ h r inside step =
    let c : Cycle = in_cycle x step.signals pins in
    let after = step.is_after in
    let here : leaves_as p c i (block body end_) ≡ false = not_last p c i time inside.time h in
    let none : NoneLeft p c = none_left_inside p c i time body end_ at_ h inside.time inside.others in
    let g : GoesOnInside p c = record { unset = unreset pins r; busy_ready = inside.busy.ready; busy_done = inside.busy.done_; busy_initial = inside.busy.initial; none = none } in
    let active : holds c (Active i) ≡ true = on c (Active i) inside.active in
    let unleft : leaves_if p c i (slice_get p.program.nodes i) ≡ false = ap (leaves_if p c i) at_ ∙ here in
    let within : is_within c (span p i) ≡ true =
    and_from _ _ (lt-ltb 1 (span p i) (omega arith)) (not_from_false _ (ne_eqb (c.regs Time) (span p i - 1) (λ e. omega (arith, e, inside.time, h)))) in
    let counts : goes_on p c ≡ true =
    or_right (holds c Initial && is_within c (initial_cycles p)) _
    (some_passes (λ n. stays_as p c n.0 n.1 && is_within c (span p n.0)) i p.program.nodes (block body end_) at_ (and_from _ _ active within)) in
    let fits : time + 1 < 2 ^ time_bits p = time_fits p i (block body end_) (time + 1) few at_ h in
    record {
      busy = stays_busy p c y g after;
      time =
          taken _ _ _ (after.regs Time)
          ∙ (cond-true _ _ _ (and_from _ _ counts (not_from_false _ g.unset)) ∙ (ap (λ t. (t + 1) % 2 ^ time_bits p) inside.time ∙ mod-eq_of_lt fits));
      active = taken _ _ _ (after.regs (Active i)) ∙ bit_true _ (and_from _ _ (or_right (begins p c i) _ (and_from _ _ active (not_from_false _ unleft))) (not_from_false _ g.unset));
      others = λ j other. stays_inactive p c j y (inside_unentered p c j g) (inside.load j) (inside.others j other) after;
      load = λ j. taken _ _ _ (after.regs (Load j)) ∙ bit_false _ (not_loaded p c j (inside_unentered p c j g));
    }

-- ---- memories in a cycle of reset

disabled : (p : Plan) (c : Cycle) (a n : ℕ) → resets c ≡ true → is_enabled p c a n ≡ false
disabled p c a n r = and_right _ _ (not_from_true _ r)

quiet_ports : (p : Plan) (c : Cycle) (a n k : ℕ) (words : ℕ → ℕ) (address : ℕ) → resets c ≡ true → behind_ports p c a n k words address ≡ words address
quiet_ports p c a n zero words address r = refl
quiet_ports p c a n (suc k) words address r =
    ap (λ (w : ℕ → ℕ). behind_ports p c a (suc n) k w address) (cond-false _ _ _ (disabled p c a n r)) ∙ quiet_ports p c a (suc n) k words address r

pub resets_always : ResetsAlways
resets_always p x y pins r step =
    let c : Cycle = in_cycle x step.signals pins in
    let after = step.is_after in
    let set : resets c ≡ true = ap (λ n. n == 1) r in
    record {
      waits = λ none. reset_waits p c y none set after;
      begins = λ some. reset_begins p c y some set after;
      memories = λ a address. after.memories a address ∙ quiet_ports p c a 0 (port_count p a) (x.memories a) address set;
    }
