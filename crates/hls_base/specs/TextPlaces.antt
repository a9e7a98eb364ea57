-- Where the bytes of a text stand: an LF ends a line, and a column counts bytes.
use Rattle.std.specs.Prelude.{ℕ, ◌+◌, ◌==◌, List, [], ◌∷◌, if◌then◌else◌}
use Rattle.hls_base.specs.declared.place.Place.{Place}

abbrev pub next_place : Place → ℕ → Place
next_place at byte =
    if byte == 10 then record { line = at.line + 1; column = 1; part = 0 }
    else record { line = at.line; column = at.column + 1; part = 0 }

-- the place just behind these bytes
abbrev pub place_after : Place → List ℕ → Place
place_after at [] = at
place_after at (byte ∷ bytes) = place_after (next_place at byte) bytes

abbrev pub text_start : Place
text_start = record { line = 1; column = 1; part = 0 }
