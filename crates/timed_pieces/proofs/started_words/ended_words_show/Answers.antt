use Rattle.timed_pieces.proofs.StartedWords.Ending.{ended_words_show}
use Rattle.timed_pieces.proofs.started_words.ended_words_show.Goals as goal

pub returns : goal.returns
returns c = ended_words_show
