use Rattle.std.proofs.Common.{refl, ap, sym, ◌∙◌}
use Rattle.c_parser.specs.Cursor.Types.{opens_cast}
use Rattle.c_parser.proofs.CursorLemmas.WordLists.{lacks_paren}
use Rattle.c_parser.proofs.cursor.cursor.Cursor.cast.Goals as goal

pub returns-in_default : goal.returns-in_default
returns-in_default c = (refl, ap opens_cast (sym c.self.view_is) ∙ lacks_paren _ c.in_default.ensures.1)
