use Rattle.std.proofs.Common.{subst}
use Rattle.aig_text.specs.Reading.{IsShared}
use Rattle.aig_text.proofs.Atoms.{word_stuck, word_found}
use Rattle.aig_text.proofs.cursor.Cursor.word.Goals as goal

pub returns-then-n-word : goal.returns-then-n-word
returns-then-n-word c =
    let n = c.shared_length-n.result in
    word_stuck _ _ _ _ (subst (λ z. IsShared c.args.word.now z n) c.self.view_is c.shared_length-n.ensures.shared) c.advance.ensures c.if-n-word.true

pub returns : goal.returns
returns c =
    let n = c.shared_length-n.result in
    word_found _ _ _ _ (subst (λ z. IsShared c.args.word.now z n) c.self.view_is c.shared_length-n.ensures.shared) c.advance.ensures c.if-n-word.false
