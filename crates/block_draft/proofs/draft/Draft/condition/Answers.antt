use Rattle.std.proofs.Common.{refl}
use Rattle.block_draft.proofs.draft.Draft.condition.Goals as goal

pub returns-clause-test : goal.returns-clause-test
returns-clause-test c = λ point exit. c.emit_test.ensures

pub returns-clause-outs : goal.returns-clause-outs
returns-clause-outs c = refl
