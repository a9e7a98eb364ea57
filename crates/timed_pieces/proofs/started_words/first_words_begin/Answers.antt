use Rattle.timed_pieces.proofs.StartedWords.FirstWords.{first_words_begin}
use Rattle.timed_pieces.proofs.started_words.first_words_begin.Goals as goal

pub returns : goal.returns
returns c = first_words_begin
