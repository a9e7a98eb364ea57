-- Calls by the fields of the code's records.
use Rattle.std.specs.Prelude.{ℕ, Bool, List}
use Rattle.hls_base.specs.declared.place.Place.{Place}
use Rattle.c_meaning.specs.Checks.Recursion.{Called, Caller}

abbrev pub called_view : List ℕ → Place → Called
called_view name at = record { name = name; at = at }

abbrev pub caller_view : List ℕ → Bool → List Called → Caller
caller_view name has_body calls = record { name = name; has_body = has_body; calls = calls }
