use Rattle.std.proofs.Common.{◌≡◌, ◌+◌, List, subst, sym, arith}
use Rattle.rtl_core.specs.declared.design.Atom.{Atom}
use Rattle.rtl_logic.specs.Making.{circuit}
use Rattle.circuit_context.specs.Levels.{MakesWords}
use Rattle.circuit_context.proofs.Choosing.{more_words}
use Rattle.circuit_context.proofs.host.words.Goals as goal

pub word-requires : goal.word-requires
word-requires c = omega (arith, c.loop-array-test.true, c.requires)

pub loop-array-preserved : goal.loop-array-preserved
loop-array-preserved c = λ p names context begun.
    let d = circuit c.args.logic.now in
    let f = circuit c.word.new.logic in
    subst (MakesWords p names d f (c.loop-array.array + 1)) (sym {A = List Atom} c.in_ok-push.ensures.items)
    (more_words p names d (circuit c.loop-array.logic) f c.loop-array.array c.loop-array.level.items c.in_ok-word.field-0 (c.loop-array.invariant p names context begun)
    (λ here. c.in_ok-word.ensures p names context here))

pub returns : goal.returns
returns c = λ p names context begun.
    let same : c.loop-array.array ≡ c.args.count = omega (arith, c.loop-array-test.false, c.loop-array.auto.array-end) in
    subst (λ n. MakesWords p names (circuit c.args.logic.now) (circuit c.loop-array.logic) n c.loop-array.level.items) same (c.loop-array.invariant p names context begun)
