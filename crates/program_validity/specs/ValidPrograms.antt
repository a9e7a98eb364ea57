-- Valid programs name what is there.
use Rattle.std.specs.Prelude.{◌≡◌, true}
use Rattle.ir_core.specs.declared.cfg.Cfg.{Cfg}
use Rattle.ir_core.specs.declared.stamp.Untimed.{Untimed}
use Rattle.flat_programs.specs.Machine.Rest.{IsWhole}
use Rattle.program_validity.specs.Programs.{is_valid}

abbrev pub ValidProgramsAreWhole : Type 0
ValidProgramsAreWhole = (cfg : Cfg Untimed) → is_valid cfg ≡ true → IsWhole cfg
