use Rattle.std.proofs.Common.{sym, subst, ◌≤◌, length}
use Rattle.verilog_syntax.specs.Characters.{is_digit}
use Rattle.std.proofs.lemmas.List.Sums.{prefix_len-le-length}
use Rattle.verilog_syntax.proofs.Numerals.{number_first, constant_first}
use Rattle.verilog_syntax.proofs.lexer.number.Goals as goal

pub split_at-requires : goal.split_at-requires
split_at-requires c = subst (λ n. n ≤ length c.args.left.now) (sym c.digits_length-n.ensures) (prefix_len-le-length is_digit c.args.left.now)

pub returns-in-Some : goal.returns-in-Some
returns-in-Some c =
    constant_first c.args.left.now c.digits_length-n.result c.in-Some.bits c.split_at.result.0.now c.split_at.result.1.now c.in-Some.digits c.requires.some c.requires.digit c.digits_length-n.ensures
    c.split_at.ensures.front c.split_at.ensures.back c.in-Some.ensures.0 c.in-Some.ensures.1 c.in-Some.ensures.2

pub returns-in-None : goal.returns-in-None
returns-in-None c =
    number_first c.args.left.now c.digits_length-n.result c.split_at.result.0 c.split_at.result.1.now c.requires.some c.requires.digit c.digits_length-n.ensures
    c.split_at.ensures.front c.split_at.ensures.back c.in-None.ensures
