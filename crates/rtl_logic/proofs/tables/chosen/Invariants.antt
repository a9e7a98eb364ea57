use Rattle.std.proofs.Common.{◌≡◌, ◌<◌, ◌^◌, ℕ, length}
use Rattle.std.specs.List.{All}
use Rattle.rtl_core.specs.ClockStep.{widths}
use Rattle.rtl_core.specs.Valid.{HasBits, IsBetween}
use Rattle.rtl_logic.specs.Making.{circuit, IsSound}
use Rattle.rtl_logic.specs.Levels.{IsLevel}
use Rattle.rtl_logic.proofs.tables.chosen.Given as goal

abbrev pub invariant-loop-place : goal.invariant-loop-place
invariant-loop-place l = (depth : ℕ) → IsSound (circuit l.initial.logic) → IsBetween 1 64 l.bits → HasBits (widths (circuit l.initial.logic)) depth l.addr → length l.words ≡ 2 ^ depth → All (λ w. w < 2 ^ l.bits) l.words
    → IsLevel (circuit l.initial.logic) (circuit l.logic) depth l.bits l.addr l.words l.place l.level.items
