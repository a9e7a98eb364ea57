-- A line, as its open block changes.
use Rattle.std.proofs.Common.{◌≡◌, ◌∙◌, Bool, true, false, ap, sym, List}
use Rattle.std.specs.Prelude.{if◌then◌else◌}
use Rattle.ir_core.specs.declared.body.Out.{Out}
use Rattle.ir_core.specs.Trees.{BlockTree, branch, choose}
use Rattle.passes.specs.Lowering.Operations.{Emitted}
use Rattle.pieces.specs.Trees.{PieceTrees}
use Rattle.passes.specs.Lowering.Blocks.{Scope, is_live, branching, Cases, choosing, with_ops, set_before, forking}
use Rattle.passes.specs.Lowering.{Rest}
use Rattle.ir_lower.specs.declared.line.Line.{Line}
use Rattle.ir_lower.specs.Lines.{open_of, behind, ended}

-- What is never reached stays as it is.
pub still : (line : Line) (rest : Rest) (f : BlockTree → BlockTree) (t : Bool) → t ≡ is_live (open_of line) → t ≡ false → ended line rest ≡ ended line (λ b. rest (if is_live b then f b else b))
still line rest f t e h = sym (ap (λ l. behind line.closed (rest (if l then f (open_of line) else open_of line))) (sym e ∙ h))

pub moved : (line : Line) (rest : Rest) (f : BlockTree → BlockTree) (t : Bool) (b : BlockTree) → t ≡ is_live (open_of line) → t ≡ true → b ≡ f (open_of line) → behind line.closed (rest b) ≡ ended line (λ b. rest (if is_live b then f b else b))
moved line rest f t b e h p = ap (λ b. behind line.closed (rest b)) p ∙ sym (ap (λ l. behind line.closed (rest (if l then f (open_of line) else open_of line))) (sym e ∙ h))

-- the block with its test
pub tested_block : (b : BlockTree) (x y : Emitted) (outs : List Out) → x ≡ y → outs ≡ b.outs → record b { ops = x.ops; outs = outs; exit = branch x.operand } ≡ branching b y
tested_block b x y outs e o = λ i. record b { ops = (e i).ops; outs = o i; exit = branch (e i).operand }

pub chosen_block : (b : BlockTree) (x y : Cases) (outs : List Out) → x ≡ y → outs ≡ b.outs → record b { ops = x.ops; outs = outs; exit = choose x.operands } ≡ choosing b y
chosen_block b x y outs e o = λ i. record b { ops = (e i).ops; outs = o i; exit = choose (e i).operands }

pub forked_block : (scope : Scope) (yes_ no_ : PieceTrees) (b d1 d2 d3 : BlockTree) (x y : Emitted) → x ≡ y → d1 ≡ with_ops x.ops b → d2 ≡ set_before scope yes_ d1 → d3 ≡ set_before scope no_ d2
    → record d3 { exit = branch x.operand } ≡ forking scope yes_ no_ b y
forked_block scope yes_ no_ b d1 d2 d3 x y e e1 e2 e3 =
    ap (λ (d : BlockTree). record d { exit = branch x.operand }) (e3 ∙ ap (set_before scope no_) (e2 ∙ ap (set_before scope yes_) e1)) ∙ ap (forking scope yes_ no_ b) e
