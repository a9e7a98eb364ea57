-- The law of a chain: items come out in order, each once, composed.
use Rattle.std.specs.Prelude.{◌≡◌, ℕ, List, ◌++◌, map, Option, Some}
use Rattle.chain_box.specs.StageBoxes.{StageBox}
use Rattle.chain_box.specs.Chains.{Pins, Outs, begun, ChainRuns, items_in, items_out, ComeTo, composed}

-- The items taken out are the first of the composed results of the items put in, in order, each once, for every pattern of stalls. An item whose run diverges or is undefined has no result, and no later item passes it.
abbrev pub ChainsCompose : Type 0
ChainsCompose = (depth : ℕ) (stages : List StageBox) (results : List (ℕ → Option ℕ)) (pins : List Pins) (outs : List Outs) → ComeTo stages results → ChainRuns depth (begun stages) pins outs
    → (rest : List (Option ℕ)) × (map Some (items_out pins outs) ++ rest ≡ map (composed results) (items_in pins outs))
