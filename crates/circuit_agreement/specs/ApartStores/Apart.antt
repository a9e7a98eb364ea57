-- When runs have a meaning, and when the stores of one cycle change different words.
use Rattle.std.specs.Prelude.{◌≡◌, ◌≢◌, ℕ, true, map, slice_get, Option, Some}
use Rattle.hls_base.specs.declared.number.ArrayId.{ArrayId}
use Rattle.ir_core.specs.declared.body.OpKind.TheVariants as o
use Rattle.ir_core.specs.declared.cfg.Cfg.{Cfg}
use Rattle.ir_core.specs.declared.stamp.Untimed.{Untimed}
use Rattle.hls_base.specs.Steps.{went, waiting}
use Rattle.ir_core.specs.Bodies.{Shapes, Words, dims_of, address_of, subscripts}
use Rattle.ir_core.specs.FlatRuns.{flat_run}
use Rattle.clock_ir.specs.Flows.{TimedOp, TimedBody, Flow, operand_at, holds_at, starts}

-- The run from these contents ends, or goes on for ever: its behaviour is never undefined.
pub data HasMeaning (cfg : Cfg Untimed) (t : Words) : Type 0 where
  ends : (n : ℕ) (word : Option ℕ) (words : Words) (left : ℕ) → (flat_run cfg t n).outcome ≡ went word words left → HasMeaning cfg t
  goes_on : ((n : ℕ) → (flat_run cfg t n).outcome ≡ waiting) → HasMeaning cfg t

-- this operation stores into this array in this cycle
pub record StoresNow (body : TimedBody) (f : Flow) (array : ArrayId) (it : TimedOp) : Type 0 where
  pub kind : it.op.kind ≡ o.Store
  pub array_ : it.op.array ≡ Some array
  pub starts_ : starts body f it ≡ true
  pub allowed : holds_at body f it.start it.op.guard ≡ true

-- at this address
abbrev pub address_now : Shapes → TimedBody → Flow → ArrayId → TimedOp → ℕ
address_now shapes body f array it = address_of (dims_of shapes array) (subscripts (map (operand_at body f it.start) it.op.args))

-- Two operations that store into one array in this cycle do so at different addresses.
abbrev pub AreStoresApart : Shapes → TimedBody → Flow → Type 0
AreStoresApart shapes body f = (k n : ℕ) (one other : TimedOp) (array : ArrayId) → slice_get body.ops k ≡ Some one → slice_get body.ops n ≡ Some other → k ≢ n
    → StoresNow body f array one → StoresNow body f array other → address_now shapes body f array one ≢ address_now shapes body f array other
