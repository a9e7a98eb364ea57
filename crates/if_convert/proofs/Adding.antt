-- Lists that grow at their ends.
use Rattle.std.proofs.Common.{◌≡◌, ℕ, List, [], ◌∷◌, ◌++◌, Option, refl}
use Rattle.ir_core.specs.Bodies.{OpTree}
use Rattle.ir_core.specs.declared.body.Operand.{Operand}
use Rattle.ir_core.specs.declared.body.Out.{Out}
use Rattle.passes.specs.Conversion.Joining.{Joined, joined_op, joined_ops}

pub joined_more : (widths : List ℕ) (outs : List Out) (test : Option Operand) (s : Joined) (ops : List OpTree) (op : OpTree)
    → joined_ops widths outs test s (ops ++ op ∷ []) ≡ joined_op widths outs test (joined_ops widths outs test s ops) op
joined_more widths outs test s [] op = refl
joined_more widths outs test s (o ∷ ops) op = joined_more widths outs test (joined_op widths outs test s o) ops op
