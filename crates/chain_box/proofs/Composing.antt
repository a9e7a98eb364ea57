-- A circuit that agrees with a chain gives the composed results of the items that its pins take.
use Rattle.std.proofs.Common.{◌≡◌, ℕ, Bool, true, false, ◌&&◌, List, [], ◌∷◌, ◌++◌, map, Option, Some, refl, sym, ap, ◌∙◌}
use Rattle.std.specs.Prelude.{◌==◌, slice_index}
use Rattle.std.proofs.lemmas.Bool.{and_parts}
use Rattle.rtl_core.specs.Netlist.{Netlist}
use Rattle.rtl_core.specs.ClockStep.{State, bit_of, stepped, outputs}
use Rattle.chain_box.specs.StageBoxes.{StageBox}
use Rattle.chain_box.specs.Chains.{Chain, Pins, Outs, chain_outs, begun, ChainRuns, item_if, put_in, taken_out, items_in, items_out, ComeTo, composed}
use Rattle.chain_box.specs.Agreement.{pins_of, outs_of, ShowsOuts, FollowsChain, AgreesWithChain, circuit_outs, all_pins, RunsSoundly, Composes}
use Rattle.chain_box.proofs.Flow.{composes}

-- what the chain shows on the way
outs_along : (depth : ℕ) (rest : List (List ℕ)) (c : Chain) → RunsSoundly depth c rest → List Outs
outs_along depth [] c run = []
outs_along depth (pins ∷ rest) c run = chain_outs depth c ∷ outs_along depth rest run.1.0 run.1.2

runs_along : (depth : ℕ) (rest : List (List ℕ)) (c : Chain) (run : RunsSoundly depth c rest) → ChainRuns depth c (all_pins rest) (outs_along depth rest c run)
unfolding outs_along
runs_along depth [] c run = tt
runs_along depth (pins ∷ rest) c run = (refl, (run.1.0, run.1.1, runs_along depth rest run.1.0 run.1.2))

bit_is : (b : Bool) → (bit_of b == 1) ≡ b
bit_is true = refl
bit_is false = refl

item_same : (b d : Bool) (x y : ℕ) → b ≡ d → (d ≡ true → x ≡ y) → item_if b x ≡ item_if d y
item_same b true x y e f = ap (λ z. item_if z x) e ∙ ap (λ z. z ∷ []) (f refl)
item_same b false x y e f = ap (λ z. item_if z x) e

out_same : (p : Pins) (o : Outs) (outs : List ℕ) → ShowsOuts o outs → taken_out p (outs_of outs) ≡ taken_out p o
out_same p o outs h =
    item_same (p.out_take && (slice_index outs 1 == 1)) (p.out_take && o.out_valid) (slice_index outs 2) o.out_data (ap (λ z. p.out_take && (z == 1)) h.out_valid ∙ ap (λ z. p.out_take && z) (bit_is o.out_valid))
    (λ e. h.out_data (and_parts _ _ e).1)

in_same : (p : Pins) (o : Outs) (outs : List ℕ) → ShowsOuts o outs → put_in p (outs_of outs) ≡ put_in p o
in_same p o outs h =
    item_same (p.in_valid && (slice_index outs 0 == 1)) (p.in_valid && o.in_room) p.in_data p.in_data (ap (λ z. p.in_valid && (z == 1)) h.in_room ∙ ap (λ z. p.in_valid && z) (bit_is o.in_room)) (λ e. refl)

all_out_same : (d : Netlist) (depth : ℕ) (rest : List (List ℕ)) (s : State) (c : Chain) (run : RunsSoundly depth c rest) → FollowsChain d depth s c rest
    → items_out (all_pins rest) (circuit_outs d s rest) ≡ items_out (all_pins rest) (outs_along depth rest c run)
unfolding outs_along
all_out_same d depth [] s c run h = refl
all_out_same d depth (pins ∷ rest) s c run h =
    let now = h run.0 in
    ap (λ z. z ++ items_out (all_pins rest) (circuit_outs d (stepped d s pins) rest)) (out_same (pins_of pins) (chain_outs depth c) (outputs d s pins) now.0)
    ∙ ap (λ z. taken_out (pins_of pins) (chain_outs depth c) ++ z) (all_out_same d depth rest (stepped d s pins) run.1.0 run.1.2 (now.1 run.1.0 run.1.1))

all_in_same : (d : Netlist) (depth : ℕ) (rest : List (List ℕ)) (s : State) (c : Chain) (run : RunsSoundly depth c rest) → FollowsChain d depth s c rest
    → items_in (all_pins rest) (circuit_outs d s rest) ≡ items_in (all_pins rest) (outs_along depth rest c run)
unfolding outs_along
all_in_same d depth [] s c run h = refl
all_in_same d depth (pins ∷ rest) s c run h =
    let now = h run.0 in
    ap (λ z. z ++ items_in (all_pins rest) (circuit_outs d (stepped d s pins) rest)) (in_same (pins_of pins) (chain_outs depth c) (outputs d s pins) now.0)
    ∙ ap (λ z. put_in (pins_of pins) (chain_outs depth c) ++ z) (all_in_same d depth rest (stepped d s pins) run.1.0 run.1.2 (now.1 run.1.0 run.1.1))

pub agreeing_composes : (d : Netlist) (depth : ℕ) (boxes : List StageBox) (results : List (ℕ → Option ℕ)) → AgreesWithChain d depth boxes → ComeTo boxes results → Composes d depth boxes results
agreeing_composes d depth boxes results agrees come power_up start rest stream run =
    let s = stepped d power_up start in
    let follows = agrees power_up start rest stream in
    let law = composes depth boxes results (all_pins rest) (outs_along depth rest (begun boxes) run) come (runs_along depth rest (begun boxes) run) in (
      law.0,
      ap (λ z. map (λ (x : ℕ). Some x) z ++ law.0) (all_out_same d depth rest s (begun boxes) run follows) ∙ (law.1 ∙ ap (λ z. map (composed results) z) (sym (all_in_same d depth rest s (begun boxes) run follows))),
    )
