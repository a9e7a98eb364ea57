-- What a run of the module shows.
use Rattle.std.proofs.Common.{◌≡◌, ◌<◌, ◌≤◌, ℕ, suc, ◌-◌, ◌%◌, ◌^◌, List, [], ◌∷◌, ◌++◌, length, Option, Some, None, refl, sym, ap, ◌∙◌, subst, arith, append_assoc}
use Rattle.std.specs.Option.{option_map}
use Rattle.std.proofs.Math.Nat.{mod-eq_of_lt}
use Rattle.hls_base.specs.FileScope.{FileScope}
use Rattle.hls_base.specs.ArrayAddress.{addresses}
use Rattle.rtl_core.specs.Netlist.{Netlist}
use Rattle.rtl_core.specs.ClockStep.{Fit, widths}
use Rattle.rtl_core.specs.Valid.{IsValid}
use Rattle.rtl_core.specs.Interface.{ArrayShape, Interface, ready_of, done_of, ret_of}
use Rattle.rtl_core.specs.Box.{Answers, Ended, Idle, Busy, Done, Box, BoxStep}
use Rattle.rtl_core.specs.Agreement.{Agrees, ShowsValue, held_arrays}
use Rattle.cosim_levels.specs.Pins.Host.{Driven, clocked_all, start_row, waited, first_high}
use Rattle.cosim_levels.specs.Pins.ModuleRun.{all_write_rows, read_arrays, begun, started, shown_from, shown_when, run_when, module_run}
use Rattle.driven_circuits.specs.Fitting.{IsReached, WordsFit, AreArrays}
use Rattle.driven_circuits.specs.Driven.{IsShownResult, RunShows}
use Rattle.driven_circuits.proofs.Places.{there, one_longer, address_count}
use Rattle.driven_circuits.proofs.Rows.{start_fits}
use Rattle.driven_circuits.proofs.Standing.{Stands, Goes, goes}
use Rattle.driven_circuits.proofs.Waiting.{at_phase, ready_late, ready_comes, done_late, done_comes}
use Rattle.driven_circuits.proofs.Serving.{AllHaveRoom, words_from, arrays_from, arrays_written, arrays_read}
use Rattle.driven_circuits.proofs.Beginning.{power_up, rooms, counts_held, begins}

-- ---- elements that fit are shown whole

words_same : (bits : ℕ) (at words done : List ℕ) (j : ℕ) → length words ≡ length at → length done ≡ j → WordsFit bits words → words_from bits (done ++ words) j at ≡ words
words_same bits [] [] done j e n fit = refl
words_same bits [] (w ∷ words) done j e n fit = absurd (omega (arith, e))
words_same bits (a ∷ at) [] done j e n fit = absurd (omega (arith, e))
words_same bits (a ∷ at) (w ∷ words) done j e n fit =
    ap (λ x. x % 2 ^ bits ∷ words_from bits (done ++ w ∷ words) (suc j) at) (there done words w 0 j n)
    ∙ ap (λ x. x ∷ words_from bits (done ++ w ∷ words) (suc j) at) (mod-eq_of_lt fit.0)
    ∙ ap (λ l. w ∷ words_from bits l (suc j) at) (sym (append_assoc done (w ∷ []) words))
    ∙ ap (λ l. w ∷ l) (words_same bits at words (done ++ w ∷ []) (suc j) (omega (arith, e)) (one_longer done w ∙ ap suc n) fit.1)

arrays_same : (shapes : List ArrayShape) (elements done : List (List ℕ)) (k : ℕ) → length done ≡ k → AreArrays shapes elements → arrays_from (done ++ elements) k shapes ≡ elements
arrays_same [] [] done k n fit = refl
arrays_same [] (words ∷ elements) done k n fit = absurd fit
arrays_same (a ∷ shapes) [] done k n fit = absurd fit
arrays_same (a ∷ shapes) (words ∷ elements) done k n fit =
    ap (λ l. words_from a.bits l 0 (addresses a.dims) ∷ arrays_from (done ++ words ∷ elements) (suc k) shapes) (there done elements words [] k n)
    ∙ ap (λ l. l ∷ arrays_from (done ++ words ∷ elements) (suc k) shapes) (words_same a.bits (addresses a.dims) words [] 0 (fit.0.count ∙ sym (address_count a.dims)) refl fit.0.fit)
    ∙ ap (λ l. words ∷ arrays_from l (suc k) shapes) (sym (append_assoc done (words ∷ []) elements))
    ∙ ap (λ l. words ∷ l) (arrays_same shapes elements (done ++ words ∷ []) (suc k) (one_longer done words ∙ ap suc n) fit.1)

-- ---- a whole run

returned : (bits result : Option ℕ) (ret : ℕ) → ShowsValue result ret → IsShownResult bits result (option_map (λ n. ret % 2 ^ n) bits)
returned bits None ret h = tt
returned bits (Some x) ret h = ap (λ y. option_map (λ n. y % 2 ^ n) bits) h

module _ (d : Netlist) (i : Interface) (init : ℕ) (first : FileScope) (answers : Answers) (valid : IsValid d) (agrees : Agrees d i init first answers) (reached : IsReached i)
    (scalars : List ℕ) (arrays : List (List ℕ)) (scalars_fit : Fit i.scalars scalars) (arrays_fit : AreArrays i.arrays arrays)
    (cycles : ℕ) (result : Option ℕ) (elements : List (List ℕ)) (left : FileScope) (is_answer : answers first scalars arrays (Ended cycles result elements left))
    (limit : ℕ) (some : 2 ≤ cycles) (ready_soon : init < limit) where
  room : AllHaveRoom i.arrays
  room = rooms (widths d) d.mems i.arrays agrees.arrays valid.mems reached.short

  abbrev ready : Driven
  ready = waited (begun d i) (suc init)

  abbrev run : Driven
  run = started i ready scalars arrays

  ready_at : (first_high ready_of (begun d i) limit ≡ Some (suc init)) × Stands i answers ready (at_phase i answers (held_arrays i.arrays (power_up d).mems) first Idle)
  ready_at = ready_comes i answers (held_arrays i.arrays (power_up d).mems) first (begun d i) init limit (begins d i init first answers agrees) ready_soon

  filled : Stands i answers (clocked_all ready (all_write_rows (length i.scalars) 0 i.arrays arrays)) (at_phase i answers arrays first Idle)
  filled = arrays_written i answers reached.few first i.arrays ready 0 [] [] (held_arrays i.arrays (power_up d).mems) arrays refl refl refl room (counts_held d.mems i.arrays _ agrees.arrays) arrays_fit ready_at.1

  begins_run : Stands i answers run (at_phase i answers arrays first (Busy (cycles - 1) result elements left))
  begins_run =
      let b : Box = at_phase i answers arrays first Idle in
      let next : Box = at_phase i answers arrays first (Busy (cycles - 1) result elements left) in
      let taken : BoxStep i answers b (start_row scalars) next = record { taken = λ h. (Ended cycles result elements left, is_answer, refl); kept = λ h. absurd (h refl) } in
      (goes i answers (clocked_all ready (all_write_rows (length i.scalars) 0 i.arrays arrays)) b next (start_row scalars) filled (λ x. x) (start_fits i scalars scalars_fit) refl taken).stands

  abbrev after_run : Box
  after_run = at_phase i answers elements left (Done result)

  begins_busy : Stands i answers run (at_phase i answers arrays first (Busy (suc (cycles - 2)) result elements left))
  begins_busy =
      let busy : cycles - 1 ≡ suc (cycles - 2) = omega arith in
      subst (λ n. Stands i answers run (at_phase i answers arrays first (Busy n result elements left))) busy begins_run

  done_at : cycles ≤ limit → (first_high done_of run limit ≡ Some cycles) × Goes i answers (waited run cycles) after_run after_run
  done_at enough =
      let all : suc (suc (cycles - 2)) ≡ cycles = omega arith in
      subst (λ n. (first_high done_of run limit ≡ Some n) × Goes i answers (waited run n) after_run after_run) all
      (done_comes i answers arrays first result elements left run (cycles - 2) limit begins_busy (omega arith))

  pub run_shows : cycles ≤ limit → AreArrays i.arrays elements → RunShows d i scalars arrays limit cycles result elements
  run_shows enough fit =
      let done = done_at enough in
      let read : read_arrays (waited run cycles) 0 i.arrays ≡ arrays_from elements 0 i.arrays = arrays_read i answers reached.few left i.arrays (waited run cycles) 0 [] elements result refl refl room done.1.stands in
      record {
        shown = shown_from i (waited run cycles) cycles;
        ends = ap (run_when i (begun d i) scalars arrays limit) ready_at.0 ∙ ap (shown_when i run) done.0;
        shows = record { time = refl; returned = returned i.result result (ret_of (waited run cycles).outs) done.1.shows.result; arrays = read ∙ arrays_same i.arrays elements [] 0 refl fit };
      }

  -- the run is not over within fewer cycles
  pub run_waits : limit < cycles → module_run d i scalars arrays limit ≡ None
  run_waits fewer =
      ap (run_when i (begun d i) scalars arrays limit) ready_at.0
      ∙ ap (shown_when i run) (done_late i answers arrays first result elements left run (cycles - 2) limit begins_busy (omega arith))

-- the circuit is not ready within as many cycles as its initial sequence has
pub sequence_waits : (d : Netlist) (i : Interface) (init : ℕ) (first : FileScope) (answers : Answers) → Agrees d i init first answers → (scalars : List ℕ) (arrays : List (List ℕ)) (limit : ℕ) → limit ≤ init → module_run d i scalars arrays limit ≡ None
sequence_waits d i init first answers agrees scalars arrays limit fewer =
    ap (run_when i (begun d i) scalars arrays limit) (ready_late i answers (held_arrays i.arrays (power_up d).mems) first (begun d i) init limit (begins d i init first answers agrees) fewer)
