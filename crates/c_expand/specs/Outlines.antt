-- What the expanded program has beside its pieces.
use Rattle.c_expand.specs.declared.expand.Outline as declared
use Rattle.c_expand.specs.Expansion.{Outline}

abbrev pub outline_of : declared.Outline → Outline
outline_of o = record { kept = o.kept.items; params = o.params.items; result = o.result }
