use Rattle.std.proofs.Common.{◌≡◌, map, take}
use Rattle.rtl_logic.specs.Levels.{constant_of}
use Rattle.rtl_logic.proofs.tables.constants.Given as goal

abbrev pub invariant-loop-word : goal.invariant-loop-word
invariant-loop-word l = l.level.items ≡ map (constant_of l.bits) (take l.word-index l.words)
