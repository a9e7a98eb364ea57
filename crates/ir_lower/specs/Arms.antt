-- Which pieces of a switch's body begin an arm, and how many arms begin before each.
use Rattle.std.specs.Prelude.{ℕ, Bool, ◌&&◌, nat_lt, List, if◌then◌else◌}
use Rattle.pieces.specs.declared.piece.Label.{Label}
use Rattle.passes.specs.Lowering.{is_named, arms_before}

-- one of so many pieces, which a label names
abbrev pub begins_arm : List Label → ℕ → ℕ → Bool
begins_arm labels pieces i = nat_lt i pieces && is_named labels i

-- how many arms begin before one of so many pieces
abbrev pub arms_until : List Label → ℕ → ℕ → ℕ
arms_until labels pieces i = if nat_lt i pieces then arms_before labels i else 0
