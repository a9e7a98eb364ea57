-- A circuit that is in no node, and does not wait, stays so.
use Rattle.std.proofs.Common.{◌≡◌, ℕ, false, List, ◌∙◌}
use Rattle.std.specs.Prelude.{◌&&◌}
use Rattle.std.proofs.lemmas.Bool.{and_left, or_from, cond-false}
use Rattle.rtl_core.specs.Interface.{reset_of}
use Rattle.datapath.specs.Plans.{Plan, span, initial_cycles}
use Rattle.datapath.specs.Cycles.{Ready, Done, Initial, Time, Active, Load, Contents, Cycle, in_cycle, holds, resets, starts}
use Rattle.datapath.specs.Control.{is_taken, is_entered, is_ending, stays_as, is_within}
use Rattle.datapath.specs.Circuits.{Step}
use Rattle.datapath.specs.Standing.{IsBusy, IsStill}
use Rattle.datapath.proofs.Nodes.{none_passes}
use Rattle.datapath.proofs.Controller.{taken, bit_false, off, off_stays, NoneLeft, none_left, none_entered, none_ending, unreset, stays_uninitial, ready_as, done_as, not_begun, stays_off, not_loaded}

pub stays_idle : (p : Plan) (x y : Contents) (pins : List ℕ) → reset_of pins ≡ 0 → IsBusy x → IsStill x → Step p x pins y → IsBusy y × IsStill y
stays_idle p x y pins r busy still step =
    let c : Cycle = in_cycle x step.signals pins in
    let after = step.is_after in
    let unset : resets c ≡ false = unreset pins r in
    let untaken : is_taken c ≡ false = and_left _ (starts c) (off c Ready busy.ready) in
    let none : NoneLeft p c = none_left p c still.active in
    let unended : is_ending p c ≡ false = none_ending p c none in
    let uninitial : holds c Initial ≡ false = off c Initial busy.initial in
    let unentered : (j : ℕ) → is_entered p c j ≡ false = λ j. none_entered p c j untaken none in (
      record {
        ready = taken _ _ _ (after.regs Ready) ∙ bit_false _ (ready_as p c false uninitial unset (or_from _ _ unended (and_left _ _ (off c Ready busy.ready))));
        done_ = taken _ _ _ (after.regs Done) ∙ bit_false _ (done_as p c false unset (or_from _ _ unended (and_left _ _ (off c Done busy.done_))));
        initial = taken _ _ _ (after.regs Initial) ∙ bit_false _ (stays_uninitial p c uninitial unset);
      },
      record {
        time = taken _ _ _ (after.regs Time) ∙ cond-false _ _ _ (and_left _ _ (or_from (holds c Initial && is_within c (initial_cycles p)) _ (and_left _ _ uninitial)
            (none_passes (λ n. stays_as p c n.0 n.1 && is_within c (span p n.0)) p.program.nodes (λ j node at_. and_left _ _ (off_stays p c j node (still.active j))))));
        active = λ j. taken _ _ _ (after.regs (Active j)) ∙ bit_false _ (stays_off p c j (not_begun p c j (unentered j) (still.load j)) (still.active j));
        load = λ j. taken _ _ _ (after.regs (Load j)) ∙ bit_false _ (not_loaded p c j (unentered j));
      },
    )
