-- The theorem about linked circuits, cited by `link`.
use Rattle.std.specs.Prelude.{◌≡◌, ℕ, List, [], ◌∷◌, codes, Option}
use Rattle.rtl_core.specs.Netlist.{Netlist}
use Rattle.rtl_core.specs.Valid.{IsValid}
use Rattle.chain_box.specs.StageBoxes.{StageBox}
use Rattle.chain_box.specs.Chains.{ComeTo}
use Rattle.chain_box.specs.Agreement.{HasChainPins, AreStagesOf, AgreesWithChain, Composes, AllAnswer, AlwaysComposes}
use Rattle.chain_link.specs.Linking.{data_in, result_bits}

-- the width of the items taken out
abbrev pub data_out : List Netlist → ℕ
data_out [] = 0
data_out (d ∷ []) = result_bits d
data_out (d ∷ (e ∷ ds)) = data_out (e ∷ ds)

-- The circuit is valid and has these pins, whatever the stages do. If each stage agrees with its box, the circuit agrees with the chain of these boxes. If moreover no result depends on file-scope contents, the items taken out are the composed results of the items put in, as long as no box is broken; and for all pin values, if every start has a meaningful answer.
pub record IsLinked (stages : List Netlist) (depth : ℕ) (d : Netlist) : Type 0 where
  pub valid : IsValid d
  pub name : d.name ≡ codes "hls_chain"
  pub pins : HasChainPins d (data_in stages) (data_out stages)
  pub agrees : (boxes : List StageBox) → AreStagesOf stages boxes → AgreesWithChain d depth boxes
  pub composes : (boxes : List StageBox) (results : List (ℕ → Option ℕ)) → AreStagesOf stages boxes → ComeTo boxes results → Composes d depth boxes results
  pub always : (boxes : List StageBox) (results : List (ℕ → Option ℕ)) → AreStagesOf stages boxes → ComeTo boxes results → AllAnswer boxes → AlwaysComposes d results
