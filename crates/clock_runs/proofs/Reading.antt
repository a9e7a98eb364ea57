-- Each operand of an iteration is the value that it names.
use Rattle.std.proofs.Common.{◌≡◌, ℕ, zero, suc, ◌+◌, ◌*◌, ◌<◌, Option, Some, None, inl, inr, refl, sym, ap, ◌∙◌, arith}
use Rattle.hls_base.specs.declared.number.OpId.{OpId}
use Rattle.ir_core.specs.declared.body.Operand.{Operand}
use Rattle.ir_core.specs.declared.body.Source.{Source}
use Rattle.ir_core.specs.declared.body.Source.TheVariants as source
use Rattle.dep_graph.specs.Offsets.{maker}
use Rattle.dep_graph.specs.Dependences.{maker_by}
use Rattle.clock_ir.specs.Flows.{ready, ready_in, place, held, operand_at}
use Rattle.clock_runs.proofs.Numbers.{count, place_same, place_before}
use Rattle.clock_runs.proofs.Settings.{Setting, count_of, flow, available, val, IsCarried, IsReadyAs, IsReady}
use Rattle.clock_runs.proofs.Chains.{there, flow-entry, chain_holds, chain_entry}

-- what a variable holds as the iteration i begins, if this operation makes it
abbrev pub variable_in : Setting → ℕ → ℕ → Option OpId → ℕ
variable_in s zero v j = s.start.variables v
variable_in s (suc i) v None = s.start.variables v
variable_in s (suc i) v (Some j) = val s i j.0

abbrev pub source_in : Setting → ℕ → Source → ℕ
source_in s i (source.Constant c) = c
source_in s i (source.Variable v) = variable_in s i v.0 (maker s.carried v.0)
source_in s i (source.Result j) = val s i j.0

-- an operand of the iteration i
abbrev pub read_in : Setting → ℕ → Operand → ℕ
read_in s i x = source_in s i x.value

pub ready_is : (s : Setting) (j : OpId) → j.0 < count_of s → ready s.body j ≡ available s j.0
ready_is s j lt = ap ready_in (there s j.0 lt)

unmade : (s : Setting) (i v : ℕ) → maker s.carried v ≡ None → s.start.variables v ≡ variable_in s i v (maker s.carried v)
unmade s i v e = none i ∙ ap (variable_in s i v) (sym e)
  where
    none : (i : ℕ) → s.start.variables v ≡ variable_in s i v None
    none zero = refl
    none (suc i) = refl

module _ (s : Setting) (some : 0 < s.body.interval) where
  pub carried_place : (i time v : ℕ) (j : OpId) → IsCarried s time v j → (now : ℕ) → now ≡ i * s.body.interval + time
      → (flow s now).chain j.0 (place s.body.interval (available s j.0) time 1) ≡ variable_in s i v (Some j)
  carried_place zero time v j c now at =
      chain_entry s j.0 c.within some now (place s.body.interval (available s j.0) time 1)
      (ap (count s.body.interval (available s j.0)) at ∙ place_before s.body.interval (available s j.0) time 0 some c.there ∙ (let z : 0 + place s.body.interval (available s j.0) time 1 ≡ place s.body.interval (available s j.0) time 1 = omega arith in z))
      ∙ c.entry
  carried_place (suc i) time v j c now at =
      chain_holds s j.0 c.within some now (place s.body.interval (available s j.0) time 1) i
      (ap (count s.body.interval (available s j.0)) at ∙ place_before s.body.interval (available s j.0) time (suc i) some c.there ∙ (let z : suc i + place s.body.interval (available s j.0) time 1 ≡ i + suc (place s.body.interval (available s j.0) time 1) = omega arith in z))

  abbrev operand_here : ℕ → ℕ → Source → ℕ → Option OpId → ℕ
  operand_here now time value distance op = held s.body (flow s now) time (record { value = value; distance = distance }) op

  reads_as : (i k time : ℕ) (value : Source) (distance : ℕ) → IsReadyAs s k time value distance → (now : ℕ) → now ≡ i * s.body.interval + time
      → operand_here now time value distance (maker_by s.body.outs distance value) ≡ source_in s i value
  reads_as i k time (source.Constant c) distance h now at = refl
  reads_as i k time (source.Variable v) distance h now at =
      elim h [
        | inl fixed ↦
            ap (λ d. operand_here now time (source.Variable v) distance (maker_by s.body.outs d (source.Variable v))) fixed.0
            ∙ ap (λ (f : ℕ → ℕ). f v.0) (flow-entry s now)
            ∙ unmade s i v.0 fixed.1
        | inr changed ↦
            let j = changed.1.0 in
            let c = changed.1.1 in
            ap (λ d. operand_here now time (source.Variable v) d (maker_by s.body.outs d (source.Variable v))) changed.0
            ∙ ap (operand_here now time (source.Variable v) 1) c.made
            ∙ ap (λ a. (flow s now).chain j.0 (place s.body.interval a time 1)) (ready_is s j c.within)
            ∙ carried_place i time v.0 j c now at
            ∙ ap (variable_in s i v.0) (sym c.carries)
      ]
  reads_as i k time (source.Result j) distance h now at =
      ap (λ d. (flow s now).chain j.0 (place s.body.interval (ready s.body j) time d)) h.0
      ∙ ap (λ a. (flow s now).chain j.0 (place s.body.interval a time 0)) (ready_is s j h.2)
      ∙ chain_holds s j.0 h.2 some now (place s.body.interval (available s j.0) time 0) i
      (ap (count s.body.interval (available s j.0)) at ∙ place_same s.body.interval (available s j.0) time i some h.3)

  pub reads_in : (i k time : ℕ) (x : Operand) → IsReady s k time x → (now : ℕ) → now ≡ i * s.body.interval + time
      → operand_at s.body (flow s now) time x ≡ read_in s i x
  reads_in i k time x h now at = reads_as i k time x.value x.distance h now at
