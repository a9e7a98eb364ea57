-- How a place is written: `line:column`, and `line:column.part` inside the replacement of a macro name.
use Rattle.std.specs.Prelude.{ℕ, List, [], ◌++◌, codes, zero, suc}
use Rattle.std.specs.Fmt.{decimal}
use Rattle.hls_base.specs.declared.place.Place.{Place}

-- nothing for a token of the source itself
abbrev pub part_text : ℕ → List ℕ
part_text zero = []
part_text (suc k) = codes "." ++ decimal (suc k)

abbrev pub place_text : Place → List ℕ
place_text p = decimal p.line ++ (codes ":" ++ (decimal p.column ++ part_text p.part))
