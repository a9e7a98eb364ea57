-- Each iteration and each call passes a point, so a machine counts no more of them than points.
use Rattle.std.specs.Prelude.{ℕ, ◌+◌, ◌<◌, List, [], ◌∷◌}
use Rattle.c_machine.specs.Frames as f
use Rattle.c_machine.specs.Frames.{ValueFrame, EndFrame, Frame, Control, Configuration}
use Rattle.c_machine.specs.Rest.{calls_in}

-- the points that are passed, with the one that control stands before
abbrev pub points_at : Control → ℕ → ℕ
points_at (f.before kind at step) passed = passed + 1
points_at _ passed = passed

abbrev pub value_fits : ℕ → ValueFrame → Type 0
value_fits points (f.loop_test l spent) = spent < points
value_fits points _ = Unit {0}

abbrev pub end_fits : ℕ → EndFrame → Type 0
end_fits points (f.loop_body l spent) = spent < points
end_fits points (f.loop_step l spent) = spent < points
end_fits points _ = Unit {0}

abbrev pub frame_fits : ℕ → Frame → Type 0
frame_fits points (f.on_value frame) = value_fits points frame
frame_fits points (f.on_end frame) = end_fits points frame

abbrev pub all_fit : ℕ → List Frame → Type 0
all_fit points [] = Unit {0}
all_fit points (frame ∷ frames) = frame_fits points frame × all_fit points frames

abbrev pub within : ℕ → List Frame → Type 0
within points frames = (calls_in frames < points) × all_fit points frames

abbrev pub Sound : Configuration → Type 0
Sound m = within (points_at m.control m.meter.passed) m.stack
