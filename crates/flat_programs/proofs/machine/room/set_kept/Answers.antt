use Rattle.std.proofs.Common.{length, sym, ◌∙◌, subst}
use Rattle.flat_programs.specs.Machine.Sizes.{KeptThere}
use Rattle.flat_programs.proofs.MachineLemmas.Reading.{kept_more}
use Rattle.flat_programs.proofs.machine.room.set_kept.Goals as goal

pub loop-one-preserved : goal.loop-one-preserved
loop-one-preserved c = λ h.
    let there : KeptThere c.args.kept.now (length c.loop-one.variables) = subst (KeptThere c.args.kept.now) (sym c.loop-one.auto.variables) h in
    kept_more c.args.kept.now c.loop-one.one-index _ c.loop-one.variables c.set_word.new.words there c.loop-one-test.true c.set_word.ensures ∙ c.loop-one.invariant h
