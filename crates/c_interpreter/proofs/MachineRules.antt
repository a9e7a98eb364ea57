-- What the machine's moves and points keep, where the code makes them.
use Rattle.c_machine.proofs.Running.{moved-rest, moved-sound, moved-shaped, moved-meter, moved-less, sound-within}
use Rattle.c_machine.proofs.Keeping.{keeps-none, keeps-same, keeps-both, keeps-counted, sound-counted, shaped-counted, more-counted}

pub ruleset running = (moved-rest, moved-sound, moved-shaped, moved-meter, moved-less, sound-within)

pub ruleset keeping = (keeps-none, keeps-same, keeps-both, keeps-counted, sound-counted, shaped-counted, more-counted)
