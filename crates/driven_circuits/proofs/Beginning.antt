-- The circuit begins as the box does.
use Rattle.std.proofs.Common.{◌≤◌, ℕ, ◌^◌, List, [], ◌∷◌, length, take, drop, replicate, slice_index, refl, sym, ap, subst}
use Rattle.std.specs.List.{All}
use Rattle.std.proofs.lemmas.List.{length-map, length-replicate}
use Rattle.std.proofs.lemmas.List.Elements.{All-head, All-tail}
use Rattle.hls_base.specs.FileScope.{FileScope}
use Rattle.hls_base.specs.ArrayAddress.{addresses}
use Rattle.rtl_core.specs.Netlist.{Netlist, Memory}
use Rattle.rtl_core.specs.ClockStep.{State, Widths, ArePins}
use Rattle.rtl_core.specs.Valid.{MemoryFits}
use Rattle.rtl_core.specs.Interface.{ArrayShape, Interface, HoldArrays, reset_of}
use Rattle.rtl_core.specs.Box.{Answers, initial}
use Rattle.rtl_core.specs.Agreement.{Agrees, held_arrays}
use Rattle.verilog_cycle.specs.Simulation.{reduced_pins, words_modulo, powered_words, powered_up, contents_count}
use Rattle.verilog_cycle.proofs.Powered.{powered_is_state}
use Rattle.cosim_levels.specs.Pins.Host.{reset_row}
use Rattle.cosim_levels.specs.Pins.ModuleRun.{begun}
use Rattle.driven_circuits.specs.Fitting.{ArraysAreShort}
use Rattle.driven_circuits.proofs.Rows.{row_pins, row_kept, reset_fits}
use Rattle.driven_circuits.proofs.Standing.{Stands}
use Rattle.driven_circuits.proofs.Waiting.{at_phase}
use Rattle.driven_circuits.proofs.Serving.{AllHaveRoom, HaveCounts}

-- the memories of a valid circuit leave room in the pins for their arrays
pub rooms : (w : Widths) (ms : List Memory) (shapes : List ArrayShape) → HoldArrays ms shapes → All (MemoryFits w) ms → ArraysAreShort shapes → AllHaveRoom shapes
rooms w ms [] holds fit short = tt
rooms w [] (a ∷ shapes) holds fit short = absurd holds
rooms w (m ∷ ms) (a ∷ shapes) holds fit short =
    let one = All-head (MemoryFits w) m ms fit in (
      record { bits = subst (λ n. n ≤ 64) holds.0 one.bits.1; depth = subst (λ n. n ≤ 16) holds.1 one.depth.1; short = short.0 },
      rooms w ms shapes holds.2 (All-tail (MemoryFits w) m ms fit) short.1,
    )

pub counts_held : (ms : List Memory) (shapes : List ArrayShape) (xs : List ℕ) → HoldArrays ms shapes → HaveCounts shapes (held_arrays shapes (powered_words ms xs))
counts_held ms [] xs holds = tt
counts_held [] (a ∷ shapes) xs holds = absurd holds
counts_held (m ∷ ms) (a ∷ shapes) xs holds = (length-map (addresses a.dims) (λ address. slice_index (words_modulo m.bits (take (2 ^ m.depth_log) xs)) address), counts_held ms shapes (drop (2 ^ m.depth_log) xs) holds.2)

abbrev pub power_up : Netlist → State
power_up d = powered_up d (replicate (contents_count d) 0)

pub begins : (d : Netlist) (i : Interface) (init : ℕ) (first : FileScope) (answers : Answers) → Agrees d i init first answers
    → Stands i answers (begun d i) (at_phase i answers (held_arrays i.arrays (power_up d).mems) first (initial init))
begins d i init first answers agrees =
    let n = length i.scalars in
    let fits = reset_fits i n refl in
    let kept = row_kept d i (reset_row n) agrees.pins fits in
    record {
      pins = agrees.pins;
      arguments = refl;
      follows = λ rest all.
          agrees.follows (power_up d) (reduced_pins d (reset_row n)) rest (powered_is_state d (replicate (contents_count d) 0) (length-replicate (contents_count d) 0))
          (subst (ArePins d) (sym kept) (row_pins d i (reset_row n) agrees.pins fits)) (ap reset_of kept) all;
    }
