use Rattle.std.proofs.Common.{length}
use Rattle.c_machine.proofs.waiting.binding.+bind_parameters.Given as goal

abbrev pub decreases-bind_parameters : goal.decreases-bind_parameters
decreases-bind_parameters l = length l.params.now
