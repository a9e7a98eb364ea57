use Rattle.timed_pieces.proofs.StartedWords.FirstWidths.{first_words_fit}
use Rattle.timed_pieces.proofs.started_words.first_words_fit.Goals as goal

pub returns : goal.returns
returns c = first_words_fit
