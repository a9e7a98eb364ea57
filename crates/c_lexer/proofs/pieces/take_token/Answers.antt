use Rattle.std.proofs.Common.{◌≡◌, ◌∙◌, sym, ap, refl, rules}
use Rattle.c_lexer.specs.Views.{line_of}
use Rattle.c_lexer.specs.declared.cursor.Line.TheVariants as l
use Rattle.c_lexer.proofs.Found.{skipped}
use Rattle.c_lexer.proofs.pieces.take_token.Goals as goal

pub returns-then-eq : goal.returns-then-eq
returns-then-eq c =
    let same : c.line.result ≡ l.Pragma = search rules in
    skipped c.args.cursor.now c.take_gap.new.cursor c.args.tokens.now.items c.args.tokens.now.items
    (sym c.line.ensures ∙ ap line_of same) c.requires c.take_gap.ensures refl
