-- The words of a type, in any order, C11 6.7.2.
use Rattle.std.specs.Prelude.{true, false, Option, Some, None}
use Rattle.c_tree.specs.declared.specifier.Specifier.{Specifier}
use Rattle.c_tree.specs.declared.specifier.Specifier.TheVariants as s
use Rattle.c_syntax.specs.declared.sorts.words.Words.{Words}
use Rattle.c_syntax.specs.declared.sorts.words.Words.TheVariants as w
use Rattle.c_syntax.specs.declared.sorts.words.Signedness.{Signedness}
use Rattle.c_syntax.specs.declared.sorts.words.Signedness.TheVariants as g

abbrev pub with_char : Words → Option Words
with_char (w.Int sign false) = Some (w.Char sign)
with_char _ = None

abbrev pub with_short : Words → Option Words
with_short (w.Int sign int) = Some (w.Short sign int)
with_short _ = None

abbrev pub with_long : Words → Option Words
with_long (w.Int sign int) = Some (w.Long sign int)
with_long (w.Long sign int) = Some (w.LongLong sign int)
with_long _ = None

abbrev pub with_int : Words → Option Words
with_int (w.Short sign false) = Some (w.Short sign true)
with_int (w.Int sign false) = Some (w.Int sign true)
with_int (w.Long sign false) = Some (w.Long sign true)
with_int (w.LongLong sign false) = Some (w.LongLong sign true)
with_int _ = None

abbrev pub with_sign : Words → Signedness → Option Words
with_sign (w.Char g.Silent) sign = Some (w.Char sign)
with_sign (w.Short g.Silent int) sign = Some (w.Short sign int)
with_sign (w.Int g.Silent int) sign = Some (w.Int sign int)
with_sign (w.Long g.Silent int) sign = Some (w.Long sign int)
with_sign (w.LongLong g.Silent int) sign = Some (w.LongLong sign int)
with_sign _ sign = None

-- the words with one more, if some type has them all
abbrev pub with_word : Words → Specifier → Option Words
with_word words s.Void = None
with_word words s.Bool = None
with_word words s.Char = with_char words
with_word words s.Short = with_short words
with_word words s.Int = with_int words
with_word words s.Long = with_long words
with_word words s.Signed = with_sign words g.Signed
with_word words s.Unsigned = with_sign words g.Unsigned

-- the words that begin with this one
abbrev pub starting : Specifier → Words
starting s.Void = w.Void
starting s.Bool = w.Bool
starting s.Char = w.Char g.Silent
starting s.Short = w.Short g.Silent false
starting s.Int = w.Int g.Silent true
starting s.Long = w.Long g.Silent false
starting s.Signed = w.Int g.Signed false
starting s.Unsigned = w.Int g.Unsigned false
