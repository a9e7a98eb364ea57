-- What a move from a step that follows at once keeps.
use Rattle.std.proofs.Common.{◌≡◌, ◌∙◌, ℕ, ◌+◌, ◌<◌, sym, ap, arith}
use Rattle.c_machine.specs.Frames as f
use Rattle.c_machine.specs.Frames.{Configuration, Step}
use Rattle.c_machine.specs.Rest.{rest_of}
use Rattle.c_machine.specs.Sound.{Sound, within}
use Rattle.c_machine.specs.Shape.{step_fits, Shaped}
use Rattle.c_machine.specs.Moves.{stepped}
use Rattle.c_machine.proofs.Moving.{stepped-rest}
use Rattle.c_machine.proofs.Soundness.{stepped-sound}
use Rattle.c_machine.proofs.Shaping.{stepped-shaped}
use Rattle.c_machine.proofs.Meters.{stepped-meter}
use Rattle.c_machine.proofs.Weights.{weight, control_size, step_size, stack_size, stepped-less}

pub sound-within : (step : Step) (m : Configuration) → m.control ≡ f.next step → Sound m → within m.meter.passed m.stack
sound-within step m now h = rw now at h

pub moved-rest : (left : ℕ) (step : Step) (m m1 : Configuration) → m.control ≡ f.next step → Sound m → m1 ≡ stepped step m → rest_of left m1 ≡ rest_of left m
moved-rest left step m m1 now h is =
    ap (λ x. rest_of left x) is ∙ stepped-rest left step m (sound-within step m now h) ∙ ap (λ c. rest_of left (record m { control = c })) (sym now)

pub moved-sound : (step : Step) (m m1 : Configuration) → m.control ≡ f.next step → Sound m → m1 ≡ stepped step m → Sound m1
moved-sound step m m1 now h is = rw is (stepped-sound step m (sound-within step m now h))

pub shape-fits : (step : Step) (m : Configuration) → m.control ≡ f.next step → Shaped m → step_fits step m.stack
shape-fits step m now h = rw now at h

pub moved-shaped : (step : Step) (m m1 : Configuration) → m.control ≡ f.next step → Shaped m → m1 ≡ stepped step m → Shaped m1
moved-shaped step m m1 now h is = rw is (stepped-shaped step m (shape-fits step m now h))

pub moved-meter : (step : Step) (m m1 : Configuration) → m1 ≡ stepped step m → m1.meter ≡ m.meter
moved-meter step m m1 is = ap (λ (x : Configuration). x.meter) is ∙ stepped-meter step m

pub moved-less : (step : Step) (m m1 : Configuration) → m.control ≡ f.next step → m1 ≡ stepped step m → weight m1 < weight m
moved-less step m m1 now is =
    let less = stepped-less step m in
    let there : weight m ≡ 1 + step_size step + stack_size m.stack = ap (λ c. control_size c (stack_size m.stack)) now in
    let here : weight m1 ≡ weight (stepped step m) = ap weight is in
    omega (arith, less, there, here)

pub ruleset running = (moved-rest, moved-sound, moved-shaped, moved-meter, moved-less, sound-within)
