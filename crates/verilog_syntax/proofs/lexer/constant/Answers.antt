use Rattle.std.proofs.Common.{sym, subst, ◌≤◌, length}
use Rattle.std.proofs.lemmas.List.Sums.{prefix_len-le-length}
use Rattle.verilog_syntax.specs.Characters.{is_hex_digit}
use Rattle.verilog_syntax.proofs.lexer.constant.Goals as goal

pub split_at-requires-2 : goal.split_at-requires-2
split_at-requires-2 c = subst (λ n. n ≤ length c.split_at.result.1.now) (sym c.hex_digits_length.ensures) (prefix_len-le-length is_hex_digit c.split_at.result.1.now)
