-- Bytes are the text of one circuit at most.
use Rattle.std.proofs.Common.{◌≡◌, ℕ, List, [], ◌∷◌, ◌++◌, codes, append_assoc, sym, ap, ◌∙◌, subst}
use Rattle.rtl_core.specs.ModuleTokens.{Token, IsToken, IsLongest, Spells}
use Rattle.rtl_core.specs.ModuleTokens as spelled
use Rattle.rtl_core.specs.ModuleText.{Means}
use Rattle.verilog_syntax.specs.Lexemes.{IsGap}
use Rattle.verilog_syntax.specs.Lexemes as gap
use Rattle.verilog_syntax.proofs.OneReading.{same_gap, gap_no_token, gap_some, same_longest, opened, nothing, with_gap, with_token, empty_front, none_spelled}
use Rattle.verilog_syntax.proofs.OneSyntax.{same_syntax}
use Rattle.verilog_syntax.proofs.TokenSizes.{token_some}
use Rattle.verilog_read.proofs.OneCircuit.{one_circuit}
use Rattle.hls_flow.specs.AgreedComparisons.{TextsHaveOneCircuit}

-- what stands behind a gap is spelled by the same tokens
behind_gap : (text rest : List ℕ) (tokens : List Token) → IsGap text rest → Spells (text ++ rest) tokens → Spells rest tokens
behind_gap text rest tokens g s = elim (opened (text ++ rest) tokens s) [
  | nothing e n ↦ absurd (empty_front text rest e (gap_some text rest g))
  | with_gap t r e h more ↦ subst (λ x. Spells x tokens) (sym (same_gap text rest t r g h e)) more
  | with_token t r token ts e is longest n more ↦ absurd (gap_no_token text rest t r token g is e)
]

-- and behind a token by the others
behind_token : (text rest : List ℕ) (token : Token) (tokens : List Token) → IsToken text token → IsLongest text rest → Spells (text ++ rest) tokens → (more : List Token) × (tokens ≡ token ∷ more) × Spells rest more
behind_token text rest token tokens is longest s = elim (opened (text ++ rest) tokens s) [
  | nothing e n ↦ absurd (empty_front text rest e (token_some text token is))
  | with_gap t r e h more ↦ absurd (gap_no_token t r text rest token h is (sym e))
  | with_token t r other ts e is2 longest2 n more ↦
      let same = same_longest text rest t r token other is longest is2 longest2 e in (ts, n ∙ ap (λ x. x ∷ ts) (sym same.0), subst (λ x. Spells x ts) (sym same.1) more)
]

same_tokens : (bytes : List ℕ) (tokens others : List Token) → Spells bytes tokens → Spells bytes others → tokens ≡ others
same_tokens _ _ others spelled.over s = sym (none_spelled others s)
same_tokens _ tokens others (spelled.white c rest ts w h) s = same_tokens rest tokens others h (behind_gap (c ∷ []) rest others (gap.white c rest w) s)
same_tokens _ tokens others (spelled.line_comment body rest ts no_end at h) s =
    same_tokens rest tokens others h (behind_gap (codes "//" ++ body) rest others (gap.line_comment body rest no_end at) s)
same_tokens _ tokens others (spelled.block_comment body rest ts no_end h) s =
    let text : List ℕ = codes "/*" ++ (body ++ codes "*/") in
    let split : codes "/*" ++ (body ++ (codes "*/" ++ rest)) ≡ text ++ rest = ap (λ x. 47 ∷ 42 ∷ x) (sym (append_assoc body (codes "*/") rest)) in
    same_tokens rest tokens others h (behind_gap text rest others (gap.block_comment body rest no_end) (subst (λ x. Spells x others) split s))
same_tokens _ _ others (spelled.a_token text rest token more is longest h) s =
    let p = behind_token text rest token others is longest s in
    ap (λ x. token ∷ x) (same_tokens rest more p.0 h p.2) ∙ sym p.1

pub one_circuit_of : TextsHaveOneCircuit
one_circuit_of bytes d e first second =
    let tokens = same_tokens bytes first.tokens second.tokens first.spelled second.spelled in
    let same = same_syntax second.syntax first.syntax (sym second.derived ∙ (sym tokens ∙ first.derived)) in
    one_circuit first.syntax d e first.means (subst (λ s. Means s e) same second.means)
