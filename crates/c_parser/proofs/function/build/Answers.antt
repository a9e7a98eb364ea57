use Rattle.std.proofs.Common.{refl}
use Rattle.c_parser.proofs.FunctionForms.{program_derives, program_only, program_never}
use Rattle.c_parser.proofs.function.build.Goals as goal

pub returns-in-Ok-clause-found : goal.returns-in-Ok-clause-found
returns-in-Ok-clause-found c = program_derives _ _ _ _ _ _ c.new-cursor.ensures refl c.in-Ok.ensures.found

pub returns-in-Ok-clause-only : goal.returns-in-Ok-clause-only
returns-in-Ok-clause-only c = program_only _ _ _ _ _ _ c.new-cursor.ensures refl c.in-Ok.ensures.found

pub returns-in-Err-Absent-clause-none : goal.returns-in-Err-Absent-clause-none
returns-in-Err-Absent-clause-none c = program_never _ _ _ c.new-cursor.ensures (rw c.in-Err-Absent.field-0-is at c.in-Err-Absent.ensures.absent)
