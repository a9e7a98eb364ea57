use Rattle.std.proofs.Common.{◌≡◌, ◌++◌, ◌∙◌, ap, get_or, arith}
use Rattle.aig_text.specs.GraphText.{output_line, number_text}
use Rattle.aig_text.proofs.Prints.{more_lines, all_lines}
use Rattle.aig_text.proofs.print.print_outputs.Goals as goal

pub loop-literal-preserved : goal.loop-literal-preserved
loop-literal-preserved c =
    let i = c.loop-literal.literal-index in
    let before = c.loop-literal.out.items in
    let e : c.from.result ≡ get_or c.args.literals.now i 0 = omega (arith, c.from.ensures) in
    more_lines (λ k. output_line) 0 c.args.literals.now i i 0 _ before _ (omega arith) (omega arith) c.loop-literal.invariant
    (c.in_ok-print_number.ensures ∙ ap (λ n. before ++ number_text 10 n) e)

pub returns : goal.returns
returns c = all_lines (λ k. output_line) 0 _ _ _ _ (omega arith) c.loop-literal.invariant
