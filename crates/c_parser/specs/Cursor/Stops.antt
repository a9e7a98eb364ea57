-- What holds where there is no tree, and not for want of memory.
use Rattle.std.specs.Prelude.{Result, Ok, Err}
use Rattle.c_parser.specs.declared.cursor.stop.Stop.{Stop}
use Rattle.c_parser.specs.declared.cursor.stop.Stop.TheVariants.{Absent, Memory}

abbrev pub IfAbsent : {A : Type 0} → Result A Stop → Type 0 → Type 0
IfAbsent (Ok x) P = Unit {0}
IfAbsent (Err Absent) P = P
IfAbsent (Err Memory) P = Unit {0}
