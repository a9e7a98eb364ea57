-- What the machine's moves keep.
use Rattle.std.specs.Prelude.{◌≡◌}
use Rattle.c_machine.specs.Frames as f
use Rattle.c_machine.specs.Frames.{Step, Configuration}
use Rattle.c_machine.specs.Moves.{stepped}
use Rattle.c_machine.specs.Sound.{Sound}
use Rattle.c_machine.specs.Shape.{Shaped}
use Rattle.c_machine.specs.Following.{keeps_following}

-- Behind a move, the machine follows every run that it followed before, and stands as a machine may.
pub record IsMoved (step : Step) (m : Configuration) : Type 0 where
  pub follows : keeps_following m (stepped step m)
  pub sound : Sound (stepped step m)
  pub shaped : Shaped (stepped step m)

abbrev pub MovesFollow : Type 0
MovesFollow = (step : Step) (m : Configuration) → m.control ≡ f.next step → Sound m → Shaped m → IsMoved step m
