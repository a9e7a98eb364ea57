use Rattle.std.proofs.Common.{Some, None, ◌∙◌, inl, inr, arith, ap, subst}
use Rattle.std.specs.List.{prefix_len}
use Rattle.std.proofs.lemmas.List.Sums.{prefix_len-le-length}
use Rattle.verilog_syntax.specs.Fronts.{ClosesFirst}
use Rattle.verilog_syntax.proofs.Comments.{in_line, line_first, block_first, slash_first}
use Rattle.verilog_syntax.proofs.lexer.comment.Goals as goal

pub returns-then-left-lt2 : goal.returns-then-left-lt2
returns-then-left-lt2 c = slash_first c.args.left.now c.requires.some c.requires.slash (λ long. absurd (omega arith)) (inl (λ long. absurd (omega arith)))

pub overflow_add-result : goal.overflow_add-result
overflow_add-result c = omega (arith, c.line_length.ensures, prefix_len-le-length in_line c.split_at.result.1.now, c.split_at.ensures.back_len)

pub returns-then-left-eq47 : goal.returns-then-left-eq47
returns-then-left-eq47 c =
    line_first c.args.left.now c.line_length.result c.if-left-lt2.false c.requires.slash c.if-left-eq47.true (c.line_length.ensures ∙ ap (prefix_len in_line) c.split_at.ensures.back)

pub returns-in-Some : goal.returns-in-Some
returns-in-Some c =
    block_first c.args.left.now c.in-Some.n c.if-left-lt2.false c.requires.slash c.if-left-eq42.true (subst (λ x. ClosesFirst x (Some c.in-Some.n)) c.split_at.ensures.back c.in-Some.ensures)

pub returns-in-None : goal.returns-in-None
returns-in-None c =
    slash_first c.args.left.now c.requires.some c.requires.slash (λ long. c.if-left-eq47.false) (inr (subst (λ x. ClosesFirst x None) c.split_at.ensures.back c.in-None.ensures))

pub returns-else-left-eq42 : goal.returns-else-left-eq42
returns-else-left-eq42 c = slash_first c.args.left.now c.requires.some c.requires.slash (λ long. c.if-left-eq47.false) (inl (λ long. c.if-left-eq42.false))
