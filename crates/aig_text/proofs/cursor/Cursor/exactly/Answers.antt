use Rattle.std.proofs.Common.{◌≡◌, ◌∙◌, ◌∷◌, [], sym, subst, arith}
use Rattle.aig_text.specs.GraphText.{numeral, number_text}
use Rattle.aig_text.specs.Reading.{Reads, Found, Stuck, word}
use Rattle.aig_text.proofs.Numerals.{numeral_decimal}
use Rattle.aig_text.proofs.Reading.{passed, joined}
use Rattle.aig_text.proofs.Atoms.{word_later, word_first_stuck, word_later_stuck}
use Rattle.aig_text.proofs.cursor.Cursor.exactly.Goals as goal

pub returns-in_err-word : goal.returns-in_err-word
returns-in_err-word c =
    let e : c.as_bytes.result.now ≡ numeral c.args.n = c.as_bytes.ensures.value ∙ (c.format.ensures.text ∙ sym (numeral_decimal c.args.n (omega (arith, c.ranges.n.fits)))) in
    passed (λ r. Reads (word (number_text c.args.end c.args.n)) r c.args.self.now c.word.new.self) _ c.from_residual.ensures.1 (λ y e. e) (λ y h. h) c.in_err-word.ensures
    (λ k. word_first_stuck (numeral c.args.n) (c.args.end ∷ []) _ _ (subst (λ w. Stuck (word w) c.args.self.now c.word.new.self) e k))

pub returns : goal.returns
returns c =
    let e : c.as_bytes.result.now ≡ numeral c.args.n = c.as_bytes.ensures.value ∙ (c.format.ensures.text ∙ sym (numeral_decimal c.args.n (omega (arith, c.ranges.n.fits)))) in
    let f = subst (λ w. Found (word w) tt c.args.self.now c.word.new.self) e c.in_ok-word.ensures in
    joined (word (c.args.end ∷ [])) _ (λ r. Reads (word (number_text c.args.end c.args.n)) r c.args.self.now c.word-2.new.self) c.word-2.ensures
    (λ x k. word_later (numeral c.args.n) (c.args.end ∷ []) _ _ _ f k) (λ y h. h) (λ k. word_later_stuck (numeral c.args.n) (c.args.end ∷ []) _ _ _ f k)
