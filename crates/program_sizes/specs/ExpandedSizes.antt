-- How large the programs are that core programs are expanded to.
use Rattle.std.specs.Prelude.{◌+◌, ◌≤◌, ◌<◌, ◌^◌, length}
use Rattle.pieces.specs.Resolved.Core.{CoreProgramTree}
use Rattle.c_expand.specs.Expansion.{expansion, expanded_weight}
use Rattle.pieces.specs.Program.{ExpandedTree}
use Rattle.pieces.specs.Weight.{piece_weights}
use Rattle.passes.specs.Lands.{land_count}
use Rattle.passes.specs.Objects.{HasFewObjects}

-- The pieces weigh little and are gone on with in few places behind calls that were left, and there are numbers for the variables and the arrays.
pub record IsSmall (e : ExpandedTree) : Type 0 where
  pub weight : piece_weights e.pieces ≤ 8192
  pub lands : land_count e.pieces ≤ 8193
  pub variables : length e.variables < 2 ^ 32
  pub arrays : length e.arrays < 2 ^ 32

-- What a program is expanded to that weighs no more than it may: its pieces weigh as little, and there are numbers for its variables and arrays.
abbrev pub ExpansionsAreSmall : Type 0
ExpansionsAreSmall = (p : CoreProgramTree) → HasFewObjects p → expanded_weight p ≤ 8192 → IsSmall (expansion p)

-- The pieces weigh no more than the program does, and at most one call more than weighs has a place behind it: that of the top function.
pub record IsWeighed (p : CoreProgramTree) : Type 0 where
  pub weight : piece_weights (expansion p).pieces ≤ expanded_weight p
  pub lands : land_count (expansion p).pieces ≤ expanded_weight p + 1

abbrev pub ExpansionsAreWeighed : Type 0
ExpansionsAreWeighed = (p : CoreProgramTree) → HasFewObjects p → IsWeighed p
