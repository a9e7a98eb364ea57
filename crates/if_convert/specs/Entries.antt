-- What a map has set, in order.
use Rattle.std.specs.Prelude.{List, map}
use Rattle.hls_base.specs.declared.number.VarId.{VarId}
use Rattle.indexmap.specs.IndexMap.{IndexMap}
use Rattle.ir_core.specs.declared.body.Operand.{Operand}
use Rattle.ir_core.specs.declared.body.Out.{Out}
use Rattle.passes.specs.Conversion.Outs.{out}

abbrev pub out_of : VarId × Operand → Out
out_of entry = out entry.0 entry.1

abbrev pub outs_of : {S : Type 0} → IndexMap VarId Operand S → List Out
outs_of sets = map out_of sets.entries
