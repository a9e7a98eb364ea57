use Rattle.std.proofs.Common.{◌≡◌, ◌+◌, ◌≤◌, drop}
use Rattle.hls_base.specs.TextPlaces.{place_after, text_start}
use Rattle.aig_text.proofs.places.capped_place_after.Given as goal

abbrev pub invariant-loop-byte : goal.invariant-loop-byte
invariant-loop-byte l =
    (place_after (record { line = l.lines + 1; column = l.columns + 1; part = 0 }) (drop l.byte-index l.bytes) ≡ place_after text_start l.bytes)
    × (l.lines ≤ l.byte-index) × (l.columns ≤ l.byte-index)
