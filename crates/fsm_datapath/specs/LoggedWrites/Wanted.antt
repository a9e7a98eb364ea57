-- What entries want of one target.
use Rattle.std.specs.Prelude.{List, map, filter}
use Rattle.rtl_logic.specs.Choosing.{Write}
use Rattle.datapath.specs.Cycles.{Cycle}
use Rattle.circuit_context.specs.declared.wanted.role.Role.{Role}
use Rattle.circuit_context.specs.declared.wanted.role.Role.TheVariants as role
use Rattle.circuit_context.specs.declared.wanted.role.Target.{Target}
use Rattle.circuit_context.specs.Wanted.Roles.{same_target}
use Rattle.circuit_context.specs.Wanted.Entries.{Entry}

-- the writes of the entries for this target, in order
abbrev pub wanted_of : Cycle → Target → List Entry → List Write
wanted_of c target entries = map (λ (it : Entry). it.write c) (filter (λ (it : Entry). same_target target it.target) entries)

-- the register is not that of a word that is read at a port
abbrev pub IsNoWord : Role → Type 0
IsNoWord (role.Word array port) = ⊥
IsNoWord r = Unit {0}
