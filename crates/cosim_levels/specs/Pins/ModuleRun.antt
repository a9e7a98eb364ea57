-- One run of the module of a function, from contents 0: reset is high for one cycle, `ready` is waited for, each element is written, start is high for one cycle, `done` is waited for, and each element is read.
use Rattle.std.specs.Prelude.{ℕ, suc, ◌%◌, ◌^◌, List, [], ◌∷◌, ◌++◌, length, replicate, Option, Some, None}
use Rattle.std.specs.Option.{option_map}
use Rattle.hls_base.specs.ArrayAddress.{addresses}
use Rattle.rtl_core.specs.Netlist.{Netlist}
use Rattle.rtl_core.specs.Interface.{ArrayShape, Interface, ready_of, done_of, read_data_of, ret_of}
use Rattle.verilog_cycle.specs.Simulation.{powered_up, contents_count}
use Rattle.cosim_levels.specs.declared.pins.drive.Shown.{Shown}
use Rattle.cosim_levels.specs.Pins.Host.{Driven, clocked, clocked_all, reset_row, start_row, write_row, waited, first_high, asked}

-- the cycles that write these words at these addresses of an array, of so many arguments
abbrev pub write_rows : ℕ → ℕ → List ℕ → List ℕ → List (List ℕ)
write_rows n array [] words = []
write_rows n array (a ∷ rest) [] = []
write_rows n array (a ∷ rest) (w ∷ ws) = write_row n array a w ∷ write_rows n array rest ws

-- the cycles that write the elements of all arrays from number k on
abbrev pub all_write_rows : ℕ → ℕ → List ArrayShape → List (List ℕ) → List (List ℕ)
all_write_rows n k [] given = []
all_write_rows n k (a ∷ arrays) [] = []
all_write_rows n k (a ∷ arrays) (words ∷ given) = write_rows n k (addresses a.dims) words ++ all_write_rows n (suc k) arrays given

-- the low bits of what is read at these addresses of an array, one after another
abbrev pub read_words : Driven → ℕ → ℕ → List ℕ → List ℕ
read_words s array bits [] = []
read_words s array bits (a ∷ rest) = read_data_of (asked s array a).outs % 2 ^ bits ∷ read_words (asked s array a) array bits rest

abbrev pub behind_reads : Driven → ℕ → List ℕ → Driven
behind_reads s array [] = s
behind_reads s array (a ∷ rest) = behind_reads (asked s array a) array rest

abbrev pub read_arrays : Driven → ℕ → List ArrayShape → List (List ℕ)
read_arrays s k [] = []
read_arrays s k (a ∷ arrays) = read_words s k a.bits (addresses a.dims) ∷ read_arrays (behind_reads s k (addresses a.dims)) (suc k) arrays

-- contents 0, in the cycle behind that of reset
abbrev pub begun : Netlist → Interface → Driven
begun d i =
    let power_up : Driven = record { netlist = d; arguments = length i.scalars; state = powered_up d (replicate (contents_count d) 0); outs = replicate (length d.outputs) 0 } in
    clocked power_up (reset_row (length i.scalars))

-- behind the cycle of start
abbrev pub started : Interface → Driven → List ℕ → List (List ℕ) → Driven
started i s scalars arrays = clocked (clocked_all s (all_write_rows (length i.scalars) 0 i.arrays arrays)) (start_row scalars)

-- what is shown from the first cycle with `done` on
abbrev pub shown_from : Interface → Driven → ℕ → Shown
shown_from i s cycles = record { ret = option_map (λ bits. ret_of s.outs % 2 ^ bits) i.result; arrays = read_arrays s 0 i.arrays; cycles = cycles }

abbrev pub shown_when : Interface → Driven → Option ℕ → Option Shown
shown_when i s None = None
shown_when i s (Some k) = Some (shown_from i (waited s k) k)

abbrev pub run_when : Interface → Driven → List ℕ → List (List ℕ) → ℕ → Option ℕ → Option Shown
run_when i s scalars arrays cycles None = None
run_when i s scalars arrays cycles (Some k) =
    let run : Driven = started i (waited s k) scalars arrays in
    shown_when i run (first_high done_of run cycles)

-- what a run shows, if `ready` and then `done` come within so many cycles each
abbrev pub module_run : Netlist → Interface → List ℕ → List (List ℕ) → ℕ → Option Shown
module_run d i scalars arrays cycles = run_when i (begun d i) scalars arrays cycles (first_high ready_of (begun d i) cycles)
