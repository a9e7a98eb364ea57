-- What each frame of a machine waits for is what the step or the frame above it gives: a value, or the end of a statement.
use Rattle.std.specs.Prelude.{Bool, true, false, List, [], ◌∷◌}
use Rattle.c_machine.specs.Frames as f
use Rattle.c_machine.specs.Frames.{ValueFrame, Frame, Step, Control, Configuration}

abbrev pub gives_value : ValueFrame → Bool
gives_value (f.acting more) = false
gives_value (f.initial object element) = false
gives_value (f.if_test tail body other at) = false
gives_value (f.switch_test body at) = false
gives_value (f.loop_test l spent) = false
gives_value (f.returning tail) = false
gives_value _ = true

-- The uppermost frame waits for a value, or else for the end of a statement, and so on down to the top function.
abbrev pub awaits : List Frame → Bool → Type 0
awaits [] wanted = ⊥
awaits (f.on_value frame ∷ k) true = awaits k (gives_value frame)
awaits (f.on_value frame ∷ k) false = ⊥
awaits (f.on_end frame ∷ k) true = ⊥
awaits (f.on_end (f.called_by used fn count) ∷ k) false = awaits k true
awaits (f.on_end (f.top fn count) ∷ k) false = Unit {0}
awaits (f.on_end _ ∷ k) false = awaits k false

-- A function ends.
abbrev pub awaits_return : List Frame → Type 0
awaits_return (f.on_end (f.called_by used fn count) ∷ k) = awaits k true
awaits_return (f.on_end (f.top fn count) ∷ k) = Unit {0}
awaits_return _ = ⊥

abbrev pub step_fits : Step → List Frame → Type 0
step_fits (f.evaluate used e) k = awaits k true
step_fits (f.give v) k = awaits k true
step_fits (f.subscripts others u) k = awaits k true
step_fits (f.arguments others callee used at) k = awaits k true
step_fits (f.finish n) k = awaits_return k
step_fits _ k = awaits k false

abbrev pub control_fits : Control → List Frame → Type 0
control_fits (f.next step) k = step_fits step k
control_fits (f.before kind at step) k = step_fits step k
control_fits f.stuck k = ⊥
control_fits _ k = Unit {0}

abbrev pub Shaped : Configuration → Type 0
Shaped m = control_fits m.control m.stack
