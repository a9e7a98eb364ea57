use Rattle.std.proofs.Common.{arith, ap, sym, length, append-nil}
use Rattle.c_parser.proofs.CursorLemmas.Readings.{grows_more, grows_last, repeated_more}
use Rattle.c_parser.proofs.CursorLemmas.TypeWords.{sign_found_here, no_words_here, word_goes_on, word_apart}
use Rattle.c_parser.proofs.cursor.types.kind_words.Goals as goal

pub loop-word-preserved : goal.loop-word-preserved
loop-word-preserved c = let s = c.in-Some.ensures in record {
  shorter = omega (arith, c.loop-word.invariant.shorter, ap length s.1);
  grows = grows_more _ _ _ _ _ _ c.in_ok-push.ensures.items c.loop-word.invariant.grows
      (repeated_more word_apart _ _ _ (word_goes_on _ _ _ s) (sign_found_here _ _ _ s));
}

pub returns-clause-found : goal.returns-clause-found
returns-clause-found c = grows_last _ _ _ _ _ _ (sym (append-nil _)) c.loop-word.invariant.grows (no_words_here _ _ c.in_default.ensures.0 c.in_default.ensures.1)
