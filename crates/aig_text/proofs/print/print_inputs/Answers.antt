use Rattle.std.proofs.Common.{◌≡◌, ◌++◌, ◌∙◌, ap, arith}
use Rattle.aig_text.specs.GraphText.{input_lines}
use Rattle.aig_text.proofs.Prints.{more_inputs}
use Rattle.aig_text.proofs.print.print_inputs.Goals as goal

pub loop-k-preserved : goal.loop-k-preserved
loop-k-preserved c = more_inputs c.loop-k.k _ _ _ _ (omega (arith, c.from.ensures)) c.loop-k.invariant c.in_ok-print_number.ensures

pub returns : goal.returns
returns c =
    let e : c.loop-k.k ≡ c.args.count = omega (arith, c.loop-k-test.false, c.loop-k.auto.k-end) in
    c.loop-k.invariant ∙ ap (λ n. c.args.out.now.items ++ input_lines 1 n) e
