use Rattle.timed_pieces.proofs.StartedWords.Starting.{started_words_hold}
use Rattle.timed_pieces.proofs.started_words.started_words_hold.Goals as goal

pub returns : goal.returns
returns c = started_words_hold
