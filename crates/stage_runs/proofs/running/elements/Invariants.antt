use Rattle.std.proofs.Common.{◌≡◌, length}
use Rattle.flat_programs.specs.Machine.States.{words_of}
use Rattle.stage_runs.specs.Stages.{AreElements}
use Rattle.stage_runs.proofs.running.elements.Given as goal

abbrev pub invariant-loop-index : goal.invariant-loop-index
invariant-loop-index l = (length l.words.items ≡ l.index) × AreElements l.machine.cfg.now (words_of l.machine.state) l.array l.words.items
