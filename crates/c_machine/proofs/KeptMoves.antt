-- What a move keeps.
use Rattle.std.proofs.Common.{refl}
use Rattle.c_machine.specs.Moves.{stepped}
use Rattle.c_machine.specs.Laws.{MovesFollow}
use Rattle.c_machine.proofs.Running.{moved-rest, moved-sound, moved-shaped, moved-meter}
use Rattle.c_machine.proofs.Keeping.{keeps-same}

pub moves_follow : MovesFollow
moves_follow step m now sound shaped = record {
  follows = keeps-same m (stepped step m) (moved-meter step m (stepped step m) refl) (λ left. moved-rest left step m (stepped step m) now sound refl);
  sound = moved-sound step m (stepped step m) now sound refl;
  shaped = moved-shaped step m (stepped step m) now shaped refl;
}
