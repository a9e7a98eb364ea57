-- A loop goes on, and is left.
use Rattle.std.proofs.Common.{◌≡◌, ◌≢◌, ℕ, ◌+◌, ◌-◌, ◌%◌, ◌^◌, ◌<◌, true, false, not, ◌&&◌, Some, refl, sym, ap, ◌∙◌, subst, inl, inr, mod-eq_of_lt, div-add-mod', ◌/◌, ◌*◌, arith}
use Rattle.std.specs.Prelude.{◌==◌, nat_lt, slice_get}
use Rattle.std.specs.List.{list_any}
use Rattle.std.proofs.lemmas.Bool.{and_from, and_left, and_right, or_from, or_right, not_from_true, not_from_false, ne_eqb, eq-eqb, cases_eq, cond-true, cond-false, lt-ltb}
use Rattle.std.proofs.lemmas.Nat.{div-mul-add}
use Rattle.clock_ir.specs.ClockRuns.{TimedNode, overlapped}
use Rattle.datapath.specs.Plans.{Plan, span, numbered, initial_cycles}
use Rattle.datapath.specs.Cycles.{Ready, Done, Initial, Time, Active, Load, Cycle, in_cycle, holds, resets, starts}
use Rattle.datapath.specs.Control.{leaves_as, leaves, leads_as, is_taken, returns_as, is_ending, waits_on, leaves_if, begins, stays_as, is_within, goes_on, greatest_time, next_time, time_bits}
use Rattle.datapath.specs.Laws.{StaysInLoops, LeavesLoops}
use Rattle.datapath.proofs.Nodes.{none_passes, some_passes}
use Rattle.datapath.proofs.Counters.{time_fits}
use Rattle.datapath.proofs.Controller.{NoneLeft, off, on, unreset, taken, bit_true, bit_false, off_leaves, off_stays, not_loaded, stays_inactive, GoesOnInside, stays_busy, inside_unentered, entered}
use Rattle.datapath.proofs.LeavingBlocks.{by_node}

whole : (n : ℕ) → 0 < n → n % n ≡ 0
whole n h = let d = div-add-mod' n n in let one : n / n ≡ 1 = ap (λ k. k / n) (let e : n ≡ 1 * n + 0 = omega arith in e) ∙ div-mul-add 1 n 0 h in let q : n / n * n ≡ n = ap (λ k. k * n) one ∙ (let e : 1 * n ≡ n = omega arith in e) in omega (arith, d, q)

-- ---- going on

-- the time of a loop that goes on
counts_on : (p : Plan) (c : Cycle) (i time : ℕ) (it : TimedNode) → greatest_time p < 2 ^ 64 → slice_get p.program.nodes i ≡ Some it → time < span p i → resets c ≡ false
    → c.regs Initial ≡ 0 → c.regs Time ≡ time → ((j : ℕ) → j ≢ i → c.regs (Active j) ≡ 0) → stays_as p c i it ≡ true → next_time p c ≡ (time + 1) % span p i
counts_on p c i time it few at_ h unset initial now others stays_ =
    elim (cases_eq time (span p i - 1)) [
      | inl last ↦
          let none : goes_on p c ≡ false =
          or_from (holds c Initial && is_within c (initial_cycles p)) _ (and_left _ (is_within c (initial_cycles p)) (off c Initial initial))
          (none_passes (λ n. stays_as p c n.0 n.1 && is_within c (span p n.0)) p.program.nodes (by_node p i it (λ j node. (stays_as p c j node && is_within c (span p j)) ≡ false) at_
          (and_right (stays_as p c i it) _ (and_right (nat_lt 1 (span p i)) _ (not_from_true _ (eq-eqb (c.regs Time) (span p i - 1) (now ∙ last)))))
          (λ j node other. and_left _ (is_within c (span p j)) (off_stays p c j node (others j other))))) in
          let full : time + 1 ≡ span p i = omega (arith, last, h) in
          cond-false _ _ _ (and_left _ (not (resets c)) none) ∙ sym (ap (λ t. t % span p i) full ∙ whole (span p i) (omega (arith, h)))
      | inr more ↦
          let low : time + 1 < span p i = omega (arith, more, h) in
          let within : is_within c (span p i) ≡ true =
          and_from _ _ (lt-ltb 1 (span p i) (omega (arith, low))) (not_from_false _ (ne_eqb (c.regs Time) (span p i - 1) (λ e. more (sym now ∙ e)))) in
          let some : goes_on p c ≡ true =
          or_right (holds c Initial && is_within c (initial_cycles p)) _
          (some_passes (λ n. stays_as p c n.0 n.1 && is_within c (span p n.0)) i p.program.nodes it at_ (and_from _ _ stays_ within)) in
          let fits : time + 1 < 2 ^ time_bits p = time_fits p i it (time + 1) few at_ low in
          cond-true _ _ _ (and_from _ _ some (not_from_false _ unset))
          ∙ (ap (λ t. (t + 1) % 2 ^ time_bits p) now ∙ (mod-eq_of_lt fits ∙ sym (mod-eq_of_lt low)))
    ]

pub stays_in_loops : StaysInLoops
stays_in_loops p i time body exit next x y pins few at_ h r inside step unleft =
    let c : Cycle = in_cycle x step.signals pins in
    let after = step.is_after in
    let it : TimedNode = overlapped body exit next in
    let none : NoneLeft p c =
    by_node p i it (λ j node. leaves_as p c j node ≡ false) at_ unleft (λ j node other. off_leaves p c j node (inside.others j other)) in
    let g : GoesOnInside p c = record { unset = unreset pins r; busy_ready = inside.busy.ready; busy_done = inside.busy.done_; busy_initial = inside.busy.initial; none = none } in
    let active : holds c (Active i) ≡ true = on c (Active i) inside.active in
    let stays_ : stays_as p c i it ≡ true = and_from _ _ active (not_from_false _ unleft) in
    let unleft_if : leaves_if p c i (slice_get p.program.nodes i) ≡ false = ap (leaves_if p c i) at_ ∙ unleft in
    record {
      busy = stays_busy p c y g after;
      time = taken _ _ _ (after.regs Time) ∙ counts_on p c i time it few at_ h g.unset inside.busy.initial inside.time inside.others stays_;
      active = taken _ _ _ (after.regs (Active i)) ∙ bit_true _ (and_from _ _ (or_right (begins p c i) _ (and_from _ _ active (not_from_false _ unleft_if))) (not_from_false _ g.unset));
      others = λ j other. stays_inactive p c j y (inside_unentered p c j g) (inside.load j) (inside.others j other) after;
      load = λ j. taken _ _ _ (after.regs (Load j)) ∙ bit_false _ (not_loaded p c j (inside_unentered p c j g));
    }

-- ---- leaving

pub leaves_loops : LeavesLoops
leaves_loops p i time body exit next x y pins at_ r inside step left_ =
    let c : Cycle = in_cycle x step.signals pins in
    let it : TimedNode = overlapped body exit next in
    let untaken : is_taken c ≡ false = and_left _ (starts c) (off c Ready inside.busy.ready) in
    let unended : is_ending p c ≡ false =
    none_passes (λ n. leaves p c n && returns_as n.1) p.program.nodes (by_node p i it (λ j node. (leaves_as p c j node && returns_as node) ≡ false) at_
    (and_right (leaves_as p c i it) _ refl) (λ j node other. and_left _ (returns_as node) (off_leaves p c j node (inside.others j other)))) in
    entered p c next y
    (record {
      unset = unreset pins r;
      uninitial = off c Initial inside.busy.initial;
      unready = or_from (is_ending p c) (waits_on c Ready) unended (and_left _ _ (off c Ready inside.busy.ready));
      undone = or_from (is_ending p c) (waits_on c Done) unended (and_left _ _ (off c Done inside.busy.done_));
      enters =
          or_right (is_taken c && (p.program.first == next)) _
          (some_passes (λ n. leaves p c n && leads_as p c n.0 n.1 next) i p.program.nodes it at_ (and_from _ _ left_ (eq-eqb next next refl)));
      others = λ k other.
          or_from (is_taken c && (p.program.first == k)) (list_any (λ (n : ℕ × TimedNode). leaves p c n && leads_as p c n.0 n.1 k) (numbered p))
          (and_left _ (p.program.first == k) untaken)
          (none_passes (λ n. leaves p c n && leads_as p c n.0 n.1 k) p.program.nodes (by_node p i it (λ j node. (leaves_as p c j node && leads_as p c j node k) ≡ false) at_
          (and_right (leaves_as p c i it) _ (ne_eqb next k (λ e. other (sym e)))) (λ j node away. and_left _ (leads_as p c j node k) (off_leaves p c j node (inside.others j away)))));
      loads = inside.load;
      left = λ j.
          elim (cases_eq j i) [
            | inl same ↦
                subst (λ k. (holds c (Active k) && not (leaves_if p c k (slice_get p.program.nodes k))) ≡ false) (sym same)
                (and_right (holds c (Active i)) _ (not_from_true _ (ap (leaves_if p c i) at_ ∙ left_)))
            | inr away ↦ and_left _ _ (off c (Active j) (inside.others j away))
          ];
      ends_time =
          or_from (holds c Initial && is_within c (initial_cycles p)) _ (and_left _ (is_within c (initial_cycles p)) (off c Initial inside.busy.initial))
          (none_passes (λ n. stays_as p c n.0 n.1 && is_within c (span p n.0)) p.program.nodes (by_node p i it (λ j node. (stays_as p c j node && is_within c (span p j)) ≡ false) at_
          (and_left _ (is_within c (span p i)) (and_right (holds c (Active i)) _ (not_from_true _ left_))) (λ j node away. and_left _ (is_within c (span p j)) (off_stays p c j node (inside.others j away)))));
    })
    step.is_after
