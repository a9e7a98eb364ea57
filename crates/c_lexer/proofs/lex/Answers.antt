use Rattle.std.proofs.Common.{◌∙◌, sym, ap}
use Rattle.c_token.specs.Characters.{opening}
use Rattle.c_token.specs.SourceText.{start_of, FirstFault}
use Rattle.c_lexer.proofs.Progress.{stepped, through, first_fault, spelled}
use Rattle.c_lexer.proofs.lex.Goals as goal

pub loop-begins-preserved : goal.loop-begins-preserved
loop-begins-preserved c =
    stepped (start_of c.args.source.now) c.loop-begins.cursor c.take_piece.new.cursor c.loop-begins.tokens.items c.take_piece.new.tokens.items
    c.in_ok-take_piece.ensures c.loop-begins.invariant

pub returns-in_err-take_piece-clause-refused : goal.returns-in_err-take_piece-clause-refused
returns-in_err-take_piece-clause-refused c =
    through _ c.in_err-take_piece.field-0.0 c.loop-begins.cursor c.take_piece.new.cursor c.loop-begins.tokens.items c.take_piece.new.tokens.items
    (λ r. FirstFault c.args.source.now r) c.from_residual.ensures.1 (λ y e. e) c.in_err-take_piece.ensures
    (λ r found. first_fault c.args.source.now c.loop-begins.cursor c.loop-begins.tokens.items r c.if-source-gt-SOURCE_LIMIT.false c.loop-begins.invariant found)

pub returns-clause-spelled : goal.returns-clause-spelled
returns-clause-spelled c =
    spelled c.args.source.now c.loop-begins.cursor c.loop-begins.tokens.items c.if-source-gt-SOURCE_LIMIT.false c.loop-begins.invariant
    (ap opening (sym c.left.ensures) ∙ c.in_default.ensures)
