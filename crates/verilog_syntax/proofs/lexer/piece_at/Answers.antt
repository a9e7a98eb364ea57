use Rattle.std.proofs.Common.{sym, ◌∙◌}
use Rattle.verilog_syntax.proofs.Pieces.{white_first}
use Rattle.verilog_syntax.proofs.lexer.piece_at.Goals as goal

pub returns-then-is_white : goal.returns-then-is_white
returns-then-is_white c = white_first c.args.left.now c.requires (sym c.is_white.ensures ∙ c.if-is_white.true)
