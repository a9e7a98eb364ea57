-- A block is left.
use Rattle.std.proofs.Common.{◌≡◌, ◌≢◌, ℕ, ◌-◌, ◌%◌, ◌<◌, true, false, not, ◌&&◌, List, Option, Some, refl, sym, ap, ◌∙◌, subst, inl, inr, mod-eq_of_lt, arith}
use Rattle.std.specs.Prelude.{◌==◌, nat_le, nat_lt, slice_get, max}
use Rattle.std.specs.List.{list_any}
use Rattle.std.proofs.lemmas.Bool.{and_from, and_left, and_right, or_from, or_left, or_right, not_from_true, ne_eqb, eq-eqb, cases_eq, cond-false}
use Rattle.ir_core.specs.declared.body.Operand.{Operand}
use Rattle.ir_core.specs.declared.cfg.End.{End}
use Rattle.ir_core.specs.declared.cfg.End.TheVariants as end
use Rattle.ir_core.specs.FlatRuns.{to, ends}
use Rattle.clock_ir.specs.Flows.{TimedBody}
use Rattle.clock_ir.specs.ClockRuns.{TimedNode, block, going_by}
use Rattle.datapath.specs.Plans.{Plan, span, numbered, body_at, initial_cycles}
use Rattle.datapath.specs.Cycles.{Ready, Done, Initial, Time, Active, Load, Contents, Cycle, in_cycle, holds, resets, starts}
use Rattle.datapath.specs.Reading.{operand}
use Rattle.datapath.specs.Control.{leaves_as, leaves, is_to, end_leads, leads_as, is_taken, is_entered, is_return, returns_as, is_ending, waits_on, leaves_if, begins, stays_as, is_within, goes_on}
use Rattle.rtl_core.specs.Interface.{reset_of}
use Rattle.datapath.specs.Circuits.{IsAfter, Step}
use Rattle.datapath.specs.Standing.{IsWaiting, IsInside, IsEntered}
use Rattle.datapath.specs.Laws.{leads_to, Leaves, LeavesBlocks}
use Rattle.datapath.proofs.Nodes.{none_passes, some_passes}
use Rattle.datapath.proofs.Controller.{off, on, unreset, taken, bit_true, bit_false, ready_as, done_as, stays_uninitial, not_begun, not_loaded, off_leaves, off_stays, entered}

-- ---- ends

pub no_return : (read : Operand → ℕ) (e : End) (j : ℕ) → going_by read e ≡ to j → is_return e ≡ false
no_return read (end.Jump n) j h = refl
no_return read (end.Branch test left right) j h = refl
no_return read (end.Choose cases other) j h = refl
no_return read (end.Return x) j h = absurd (cc)

pub is_returned : (read : Operand → ℕ) (e : End) (word : Option ℕ) → going_by read e ≡ ends word → is_return e ≡ true
is_returned read (end.Jump n) word h = absurd (cc)
is_returned read (end.Branch test left right) word h = absurd (cc)
is_returned read (end.Choose cases other) word h = absurd (cc)
is_returned read (end.Return x) word h = refl

-- ---- the last cycle

pub record LastCycle (p : Plan) (i : ℕ) (body : TimedBody) (end_ : End) (c : Cycle) : Type 0 where
  pub node : slice_get p.program.nodes i ≡ Some (block body end_)
  pub leads_ : (k : ℕ) → leads_as p c i (block body end_) k ≡ is_to k (leads_to p i end_ c)
  pub unset : resets c ≡ false
  pub ready : c.regs Ready ≡ 0
  pub done_ : c.regs Done ≡ 0
  pub initial : c.regs Initial ≡ 0
  pub time : c.regs Time ≡ span p i - 1
  pub active : c.regs (Active i) ≡ 1
  pub others : (j : ℕ) → j ≢ i → c.regs (Active j) ≡ 0
  pub load : (j : ℕ) → c.regs (Load j) ≡ 0

pub left_now : (p : Plan) (i : ℕ) (body : TimedBody) (end_ : End) (c : Cycle) → c.regs Time ≡ span p i - 1 → c.regs (Active i) ≡ 1 → leaves_as p c i (block body end_) ≡ true
left_now p i body end_ c now active =
    let some : 0 < span p i = positive (body_at p i).interval in
    let small : (span p i - 1) % span p i ≡ span p i - 1 = mod-eq_of_lt (omega (arith, some)) in
    and_from _ _ (on c (Active i) active) (or_right (nat_le (span p i) 1) _ (eq-eqb (c.regs Time) ((span p i - 1) % span p i) (now ∙ sym small)))
  where
    positive : (n : ℕ) → 0 < max 1 n
    positive n = omega arith

is_left : (p : Plan) (i : ℕ) (body : TimedBody) (end_ : End) (c : Cycle) → LastCycle p i body end_ c → leaves_as p c i (block body end_) ≡ true
is_left p i body end_ c l = left_now p i body end_ c l.time l.active

-- what holds of the block and of all nodes that are not left holds of each node
pub by_node : (p : Plan) (i : ℕ) (it : TimedNode) (P : ℕ → TimedNode → Type 0) → slice_get p.program.nodes i ≡ Some it → P i it
    → ((j : ℕ) (node : TimedNode) → j ≢ i → P j node) → (j : ℕ) (node : TimedNode) → slice_get p.program.nodes j ≡ Some node → P j node
by_node p i it P at_ here others j node is =
    elim (cases_eq j i) [
      | inl same ↦
          let e : Some node ≡ Some it = sym is ∙ (ap (slice_get p.program.nodes) same ∙ at_) in
          let found_ : node ≡ it = cc in
          subst (λ n. P j n) (sym found_) (subst (λ k. P k it) (sym same) here)
      | inr other ↦ others j node other
    ]

leads : (p : Plan) (i : ℕ) (body : TimedBody) (end_ : End) (c : Cycle) (k : ℕ) → LastCycle p i body end_ c → leads_as p c i (block body end_) k ≡ is_to k (leads_to p i end_ c)
leads p i body end_ c k l = l.leads_ k

untaken : (p : Plan) (i : ℕ) (body : TimedBody) (end_ : End) (c : Cycle) → LastCycle p i body end_ c → is_taken c ≡ false
untaken p i body end_ c l = and_left _ (starts c) (off c Ready l.ready)

not_entered : (p : Plan) (i : ℕ) (body : TimedBody) (end_ : End) (c : Cycle) (k : ℕ) → LastCycle p i body end_ c → is_to k (leads_to p i end_ c) ≡ false → is_entered p c k ≡ false
not_entered p i body end_ c k l away =
    or_from (is_taken c && (p.program.first == k)) (list_any (λ (n : ℕ × TimedNode). leaves p c n && leads_as p c n.0 n.1 k) (numbered p))
    (and_left _ (p.program.first == k) (untaken p i body end_ c l))
    (none_passes (λ n. leaves p c n && leads_as p c n.0 n.1 k) p.program.nodes (by_node p i (block body end_) (λ j node. (leaves_as p c j node && leads_as p c j node k) ≡ false) l.node
    (and_right (leaves_as p c i (block body end_)) _ (leads p i body end_ c k l ∙ away)) (λ j node other. and_left _ (leads_as p c j node k) (off_leaves p c j node (l.others j other)))))

is_entered_now : (p : Plan) (i : ℕ) (body : TimedBody) (end_ : End) (c : Cycle) (k : ℕ) → LastCycle p i body end_ c → is_to k (leads_to p i end_ c) ≡ true → is_entered p c k ≡ true
is_entered_now p i body end_ c k l there =
    or_right (is_taken c && (p.program.first == k)) _
    (some_passes (λ n. leaves p c n && leads_as p c n.0 n.1 k) i p.program.nodes (block body end_) l.node
    (and_from _ _ (is_left p i body end_ c l) (leads p i body end_ c k l ∙ there)))

not_ending : (p : Plan) (i : ℕ) (body : TimedBody) (end_ : End) (c : Cycle) → LastCycle p i body end_ c → is_return end_ ≡ false → is_ending p c ≡ false
not_ending p i body end_ c l away =
    none_passes (λ n. leaves p c n && returns_as n.1) p.program.nodes (by_node p i (block body end_) (λ j node. (leaves_as p c j node && returns_as node) ≡ false) l.node
    (and_right (leaves_as p c i (block body end_)) _ away) (λ j node other. and_left _ (returns_as node) (off_leaves p c j node (l.others j other))))

ending : (p : Plan) (i : ℕ) (body : TimedBody) (end_ : End) (c : Cycle) → LastCycle p i body end_ c → is_return end_ ≡ true → is_ending p c ≡ true
ending p i body end_ c l there = some_passes (λ n. leaves p c n && returns_as n.1) i p.program.nodes (block body end_) l.node (and_from _ _ (is_left p i body end_ c l) there)

-- no node goes on
all_left : (p : Plan) (i : ℕ) (body : TimedBody) (end_ : End) (c : Cycle) → LastCycle p i body end_ c → (j : ℕ) → (holds c (Active j) && not (leaves_if p c j (slice_get p.program.nodes j))) ≡ false
all_left p i body end_ c l j =
    elim (cases_eq j i) [
      | inl same ↦
          subst (λ k. (holds c (Active k) && not (leaves_if p c k (slice_get p.program.nodes k))) ≡ false) (sym same)
          (and_right (holds c (Active i)) _ (not_from_true _ (ap (leaves_if p c i) l.node ∙ is_left p i body end_ c l)))
      | inr other ↦ and_left _ _ (off c (Active j) (l.others j other))
    ]

time_ends : (p : Plan) (i : ℕ) (body : TimedBody) (end_ : End) (c : Cycle) → LastCycle p i body end_ c → goes_on p c ≡ false
time_ends p i body end_ c l =
    or_from (holds c Initial && is_within c (initial_cycles p)) _ (and_left _ (is_within c (initial_cycles p)) (off c Initial l.initial))
    (none_passes (λ n. stays_as p c n.0 n.1 && is_within c (span p n.0)) p.program.nodes (by_node p i (block body end_) (λ j node. (stays_as p c j node && is_within c (span p j)) ≡ false) l.node
    (and_right (stays_as p c i (block body end_)) _ (and_right (nat_lt 1 (span p i)) _ (not_from_true _ (eq-eqb (c.regs Time) (span p i - 1) l.time))))
    (λ j node other. and_left _ (is_within c (span p j)) (off_stays p c j node (l.others j other)))))

-- ---- where it leads

leaves_for : (p : Plan) (i : ℕ) (body : TimedBody) (end_ : End) (c : Cycle) (y : Contents) (j : ℕ) → LastCycle p i body end_ c → IsAfter p c y → leads_to p i end_ c ≡ to j → IsEntered p j y
leaves_for p i body end_ c y j l after there =
    let unended : is_ending p c ≡ false = not_ending p i body end_ c l (no_return _ end_ j there) in
    entered p c j y
    (record {
      unset = l.unset;
      uninitial = off c Initial l.initial;
      unready = or_from (is_ending p c) (waits_on c Ready) unended (and_left _ _ (off c Ready l.ready));
      undone = or_from (is_ending p c) (waits_on c Done) unended (and_left _ _ (off c Done l.done_));
      enters = is_entered_now p i body end_ c j l (ap (is_to j) there ∙ eq-eqb j j refl);
      others = λ k other. not_entered p i body end_ c k l (ap (is_to k) there ∙ ne_eqb j k (λ e. other (sym e)));
      loads = l.load;
      left = all_left p i body end_ c l;
      ends_time = time_ends p i body end_ c l;
    })
    after

leaves_last : (p : Plan) (i : ℕ) (body : TimedBody) (end_ : End) (c : Cycle) (y : Contents) (word : Option ℕ) → LastCycle p i body end_ c → IsAfter p c y → leads_to p i end_ c ≡ ends word
    → IsWaiting true y
leaves_last p i body end_ c y word l after there =
    let ended_ : is_ending p c ≡ true = ending p i body end_ c l (is_returned _ end_ word there) in
    let unentered : (k : ℕ) → is_entered p c k ≡ false = λ k. not_entered p i body end_ c k l (ap (is_to k) there) in
    let uninitial = off c Initial l.initial in
    record {
      ready = taken _ _ _ (after.regs Ready) ∙ bit_true _ (ready_as p c true uninitial l.unset (or_left _ (waits_on c Ready) ended_));
      done_ = taken _ _ _ (after.regs Done) ∙ bit_true _ (done_as p c true l.unset (or_left _ (waits_on c Done) ended_));
      initial = taken _ _ _ (after.regs Initial) ∙ bit_false _ (stays_uninitial p c uninitial l.unset);
      still = record {
        time = taken _ _ _ (after.regs Time) ∙ cond-false _ _ _ (and_left _ _ (time_ends p i body end_ c l));
        active = λ j. taken _ _ _ (after.regs (Active j)) ∙ bit_false _ (and_left _ _ (or_from (begins p c j) _ (not_begun p c j (unentered j) (l.load j)) (all_left p i body end_ c l j)));
        load = λ j. taken _ _ _ (after.regs (Load j)) ∙ bit_false _ (not_loaded p c j (unentered j));
      };
    }

-- a block is left so wherever its cases lead as their order says
pub leaves_as_led : (p : Plan) (i : ℕ) (body : TimedBody) (end_ : End) (x y : Contents) (pins : List ℕ) → slice_get p.program.nodes i ≡ Some (block body end_) → reset_of pins ≡ 0
    → IsInside i (span p i - 1) x → (step : Step p x pins y)
    → ((k : ℕ) → leads_as p (in_cycle x step.signals pins) i (block body end_) k ≡ is_to k (leads_to p i end_ (in_cycle x step.signals pins)))
    → Leaves p i end_ (in_cycle x step.signals pins) y
leaves_as_led p i body end_ x y pins at_ r inside step led =
    let c : Cycle = in_cycle x step.signals pins in
    let l : LastCycle p i body end_ c = record {
      node = at_;
      leads_ = led;
      unset = unreset pins r;
      ready = inside.busy.ready;
      done_ = inside.busy.done_;
      initial = inside.busy.initial;
      time = inside.time;
      active = inside.active;
      others = inside.others;
      load = inside.load;
    } in
    record { enters = λ j there. leaves_for p i body end_ c y j l step.is_after there; ends_ = λ word there. leaves_last p i body end_ c y word l step.is_after there }

pub leaves_blocks : LeavesBlocks
leaves_blocks p i body end_ x y pins at_ ordered r inside step =
    leaves_as_led p i body end_ x y pins at_ r inside step (λ k. ap (λ b. end_leads (operand p (in_cycle x step.signals pins) i (span p i - 1)) b end_ k) ordered)
