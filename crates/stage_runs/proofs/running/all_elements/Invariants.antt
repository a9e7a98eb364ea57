use Rattle.std.proofs.Common.{◌≡◌, length, map, take}
use Rattle.flat_programs.specs.Machine.States.{words_of}
use Rattle.stage_runs.specs.Stages.{AreArrays}
use Rattle.stage_runs.proofs.running.all_elements.Given as goal

abbrev pub invariant-loop-k : goal.invariant-loop-k
invariant-loop-k l = (length l.arrays.items ≡ l.k) × AreArrays l.machine.cfg.now (words_of l.machine.state) l.arrays.items × (map length l.arrays.items ≡ map length (take l.k l.given))
