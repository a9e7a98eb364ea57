-- An access by the fields of the code's record.
use Rattle.std.specs.Prelude.{ℕ, List, Option, Some, None}
use Rattle.hls_base.specs.declared.place.Place.{Place}
use Rattle.c_meaning.specs.Checks.Conflicts.{Access, read, change}

abbrev pub access_view : List ℕ → Option Place → Access
access_view name None = read name
access_view name (Some at) = change name at
