use Rattle.std.proofs.Common.{◌≡◌, [], drop}
use Rattle.c_meaning.specs.Declarations.{objects_of}
use Rattle.c_elaborate.specs.Programs.{file_names}
use Rattle.c_elaborate.proofs.file.file_names.Given as goal

abbrev pub invariant-loop-i : goal.invariant-loop-i
invariant-loop-i l = file_names l.i l.names (objects_of (drop l.i l.declared)) ≡ file_names 0 [] (objects_of l.declared)
