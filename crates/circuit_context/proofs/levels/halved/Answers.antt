use Rattle.std.proofs.Common.{◌+◌, ◌*◌, List, get_or, Some, subst, sym, arith}
use Rattle.std.proofs.lemmas.Option.{slice_get-get_or}
use Rattle.rtl_core.specs.declared.design.Atom.{Atom}
use Rattle.rtl_core.specs.declared.design.Atom.TheVariants as atom
use Rattle.rtl_logic.specs.Making.{circuit}
use Rattle.circuit_context.specs.Levels.{HalvesPart}
use Rattle.circuit_context.proofs.Halving.{step_halved, all_halved}
use Rattle.circuit_context.proofs.levels.halved.Goals as goal

pub loop-k-preserved : goal.loop-k-preserved
loop-k-preserved c = λ sound test words.
    let d = circuit c.args.logic.now in
    let f = circuit c.picked.new.logic in
    let first = get_or c.args.level.now (2 * c.loop-k.k) (atom.Constant 0 0) in
    let there = sym (slice_get-get_or c.args.level.now (2 * c.loop-k.k) (atom.Constant 0 0) (omega (arith, c.loop-k-test.true))) in
    subst (HalvesPart d f c.args.test (c.loop-k.k + 1) c.args.level.now) (sym {A = List Atom} c.in_ok-push.ensures.items)
    (step_halved d (circuit c.loop-k.logic) f c.args.test c.in_ok-picked.field-0 c.loop-k.k c.args.level.now c.loop-k.half.items (Some first) c.word_at-second.result there c.word_at-second.ensures
    (c.loop-k.invariant sound test words) test words c.in_ok-picked.ensures)

pub returns : goal.returns
returns c = λ sound test words.
    all_halved (circuit c.args.logic.now) (circuit c.loop-k.logic) c.args.test c.loop-k.k c.args.level.now c.loop-k.half.items (omega (arith, c.loop-k-test.false)) (c.loop-k.invariant sound test words)
