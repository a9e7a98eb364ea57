-- Lengths, of the code's enum.
use Rattle.c_meaning.specs.Checks.Lengths as lengths
use Rattle.c_names.specs.declared.declarations.lengths.Length.{Length}
use Rattle.c_names.specs.declared.declarations.lengths.Length.TheVariants as l

abbrev pub length_view : Length → lengths.Length
length_view (l.Number n) = lengths.number n
length_view l.LeftOut = lengths.left_out
length_view l.NoConstant = lengths.no_constant
