-- The suffix of a constant in the code and in the definitions.
use Rattle.std.specs.Prelude.{Option, Some, None}
use Rattle.c_token.specs.Constants as c
use Rattle.c_lexer.specs.declared.constant.Suffix.{Suffix}
use Rattle.c_lexer.specs.declared.constant.Suffix.TheVariants as s

abbrev pub suffix_view : Suffix → c.Suffix
suffix_view s.Plain = c.plain
suffix_view s.Unsigned = c.unsigned
suffix_view s.Long = c.long
suffix_view s.UnsignedLong = c.unsigned_long

abbrev pub option_suffix : Option Suffix → Option c.Suffix
option_suffix None = None
option_suffix (Some suffix) = Some (suffix_view suffix)
