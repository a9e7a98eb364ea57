use Rattle.std.proofs.Common.{◌≡◌, ℕ, ◌∙◌, ap, map, take, length, arith}
use Rattle.std.proofs.lemmas.List.{take_all}
use Rattle.ir_core.specs.declared.body.Out.{Out}
use Rattle.ir_core.specs.Bodies.{operand}
use Rattle.flat_programs.specs.Machine.Held.{holding}
use Rattle.flat_programs.proofs.MachineLemmas.Reading.{read_more}
use Rattle.flat_programs.proofs.machine.operands.read_outs.Goals as goal

pub loop-index-preserved : goal.loop-index-preserved
loop-index-preserved c = λ m.
    read_more (λ (x : Out). operand (holding c.args.variables.now m) c.args.results.now x.value) c.args.outs.now c.loop-index.into c.loop-index.index c.read.result _ c.loop-index-test.true (omega arith) (c.read.ensures m) (c.loop-index.invariant m)

pub returns : goal.returns
returns c = λ m.
    let f : Out → ℕ = λ x. operand (holding c.args.variables.now m) c.args.results.now x.value in
    let end : c.loop-index.index ≡ length c.args.outs.now = omega arith in
    ap (λ n. take n c.loop-index.into) (let e : length c.args.outs.now ≡ c.loop-index.index = omega arith in e) ∙ c.loop-index.invariant m
    ∙ ap (map f) (take_all c.loop-index.index c.args.outs.now (omega arith))
