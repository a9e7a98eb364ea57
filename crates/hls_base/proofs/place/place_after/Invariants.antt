use Rattle.std.proofs.Common.{◌≡◌, ◌+◌, ◌≤◌, drop}
use Rattle.hls_base.specs.TextPlaces.{place_after}
use Rattle.hls_base.proofs.place.place_after.Given as goal

abbrev pub invariant-loop-byte : goal.invariant-loop-byte
invariant-loop-byte l =
    (place_after l.place (drop l.byte-index l.bytes) ≡ place_after l.fn.at l.bytes)
    × (l.place.line ≤ l.fn.at.line + l.byte-index) × (l.place.column ≤ l.fn.at.column + l.byte-index)
