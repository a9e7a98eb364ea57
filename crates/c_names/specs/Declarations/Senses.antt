-- What a name stands for, of the code's enum.
use Rattle.std.specs.Prelude.{ℕ, List}
use Rattle.c_meaning.specs.Checks.Names as names
use Rattle.c_names.specs.declared.declarations.names.Sense.{Sense}
use Rattle.c_names.specs.declared.declarations.names.Sense.TheVariants as s

abbrev pub sense_view : Sense → names.Sense
sense_view (s.Object shape) = names.object shape
sense_view (s.Function result params) = names.function result params.items

abbrev pub declared_view : List ℕ → Sense → names.Declared
declared_view name sense = record { name = name; sense = sense_view sense }
