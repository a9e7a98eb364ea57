-- Worked runs of two stages: the first adds 1 in 3 cycles, and the second doubles in 4. Reset is in cycle 0, so the lists begin with cycle 1.
use Rattle.std.specs.Prelude.{◌≡◌, ℕ, ◌+◌, ◌*◌, Bool, true, false, List, [], ◌∷◌, ◌++◌, map, replicate, drop, slice_index, Some}
use Rattle.hls_base.specs.FileScope.{FileScope}
use Rattle.rtl_core.specs.Box.{Ended}
use Rattle.chain_box.specs.StageBoxes.{StageBox}
use Rattle.chain_box.specs.Chains.{Pins, Outs, begun, ChainRuns, items_in, items_out}

abbrev pub no_objects : FileScope
no_objects = record { scalars = []; arrays = [] }

-- a 32-bit stage that computes f in so many cycles
abbrev pub computes : ℕ → (ℕ → ℕ) → StageBox
computes cycles f = record {
  argument = 32;
  result = 32;
  init = 0;
  file_scope = no_objects;
  answers = λ file_scope arguments arrays n. Some (Ended cycles (Some (f (slice_index arguments 0))) [] file_scope);
}

abbrev pub two_stages : List StageBox
two_stages = computes 3 (λ x. x + 1) ∷ computes 4 (λ x. x * 2) ∷ []

abbrev pub pins : Bool → ℕ → Bool → Pins
pins valid item take = record { in_valid = valid; in_data = item; out_take = take }

-- three items in cycles 1 to 3; the user always takes
abbrev pub streaming : List Pins
streaming = pins true 5 true ∷ pins true 6 true ∷ pins true 7 true ∷ replicate 16 (pins false 0 true)

-- an item is offered in every cycle, and the user never takes
abbrev pub stalled : List Pins
stalled = replicate 40 (pins true 9 false)

abbrev pub valid_in : List Outs → List Bool
valid_in os = map (λ (o : Outs). o.out_valid) os

abbrev pub room_in : List Outs → List Bool
room_in os = map (λ (o : Outs). o.in_room) os

-- With depth 2, `out_valid` is 1 exactly in cycles 11, 15 and 19 of the first 19. With depth 1, five items are taken, and there is no room from cycle 13 on.
pub record ExamplesRun : Type 0 where
  pub cycles : (outs : List Outs) → ChainRuns 2 (begun two_stages) streaming outs → valid_in outs ≡ replicate 10 false ++ true ∷ replicate 3 false ++ true ∷ replicate 3 false ++ true ∷ []
  pub results : (outs : List Outs) → ChainRuns 2 (begun two_stages) streaming outs → items_out streaming outs ≡ 12 ∷ 14 ∷ 16 ∷ []
  pub five : (outs : List Outs) → ChainRuns 1 (begun two_stages) stalled outs → items_in stalled outs ≡ 9 ∷ 9 ∷ 9 ∷ 9 ∷ 9 ∷ []
  pub full : (outs : List Outs) → ChainRuns 1 (begun two_stages) stalled outs → drop 12 (room_in outs) ≡ replicate 28 false
  pub runs : (outs : List Outs) × ChainRuns 2 (begun two_stages) streaming outs
