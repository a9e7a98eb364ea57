-- Comments at the front of some bytes.
use Rattle.std.proofs.Common.{◌≡◌, ◌⊎◌, inl, inr, Some, None, ℕ, ◌+◌, ◌<◌, ◌≤◌, Bool, true, false, not, eqb, List, [], ◌∷◌, ◌++◌, length, take, drop, get_or, codes, append_assoc, refl, sym, ap, ◌∙◌, subst, arith}
use Rattle.std.specs.List.{prefix_len, All}
use Rattle.std.proofs.lemmas.Bool.{false≢true, not-true, eqb-true, eq-eqb, both_ways, cases_Bool}
use Rattle.std.proofs.lemmas.List.{take-append-drop, length-append, length-take-le}
use Rattle.rtl_core.specs.ModuleTokens.{Token, IsToken, IsWhite, IsAtLineEnd}
use Rattle.rtl_core.proofs.Tokens.{every, every_true, Ends}
use Rattle.verilog_syntax.specs.declared.lexer.Piece.TheVariants as piece
use Rattle.verilog_syntax.specs.Fronts.{ClosesFirst}
use Rattle.verilog_syntax.specs.Lexemes.{IsGap}
use Rattle.verilog_syntax.specs.Lexemes as gap
use Rattle.verilog_syntax.specs.Views.{StandsFirst}
use Rattle.verilog_syntax.proofs.Fronts.{front_every, front_ends, front_size, begins_with_two, closed_split, closes_at, no_end_before}
use Rattle.verilog_syntax.proofs.Pieces.{no_token}

abbrev pub in_line : ℕ → Bool
in_line c = not (eqb c 10)

line_end : (rest : List ℕ) → Ends (λ c. in_line c ≡ false) rest → IsAtLineEnd rest
line_end [] e = tt
line_end (c ∷ cs) e = elim (cases_Bool (eqb c 10)) [ inl t ↦ eqb-true c 10 t | inr f ↦ absurd (false≢true (sym e ∙ ap not f)) ]

line_bytes : (text : List ℕ) → every in_line text ≡ true → All (λ c. c ≡ 10 → ⊥) text
line_bytes text e k d h = λ is. both_ways _ (not-true _ (every_true in_line text e k d h)) (eq-eqb _ 10 is)

pub line_first : (bytes : List ℕ) (n : ℕ) → 2 ≤ length bytes → get_or bytes 0 0 ≡ 47 → get_or bytes 1 0 ≡ 47 → n ≡ prefix_len in_line (drop 2 bytes) → StandsFirst bytes (piece.Gap (2 + n))
line_first bytes n long one two is =
    let body = drop 2 bytes in
    let m = prefix_len in_line body in
    let size = front_size in_line body in (
      codes "//" ++ take m body,
      drop m body,
      begins_with_two 47 47 bytes long one two ∙ ap (λ x. 47 ∷ 47 ∷ x) (sym (take-append-drop m body)),
      omega (arith, size, is),
      omega arith,
      gap.line_comment (take m body) (drop m body) (line_bytes _ (front_every in_line body)) (line_end _ (front_ends in_line body)),
    )

pub block_first : (bytes : List ℕ) (n : ℕ) → 2 ≤ length bytes → get_or bytes 0 0 ≡ 47 → get_or bytes 1 0 ≡ 42 → ClosesFirst (drop 2 bytes) (Some n) → StandsFirst bytes (piece.Gap (n + 4))
block_first bytes n long one two first =
    let body = drop 2 bytes in
    let size : length (take n body) ≡ n = length-take-le n body (omega (arith, first.0.0)) in (
      codes "/*" ++ (take n body ++ codes "*/"),
      drop (n + 2) body,
      begins_with_two 47 42 bytes long one two ∙ ap (λ x. 47 ∷ 42 ∷ x) (closed_split body n first.0 ∙ sym (append_assoc (take n body) (codes "*/") (drop (n + 2) body))),
      omega (arith, size, length-append (take n body) (codes "*/")),
      omega arith,
      gap.block_comment (take n body) (drop (n + 2) body) (λ before after e. no_end_before body n first before after e),
    )

-- the byte behind the first one, if there is one
abbrev pub Second : (ℕ → Type 0) → List ℕ → Type 0
Second P bytes = 2 ≤ length bytes → P (get_or bytes 1 0)

no_white : (c : ℕ) → c ≡ 47 → IsWhite c → ⊥
no_white c e (inl h) = omega arith
no_white c e (inr h) = omega arith

no_comment : (c : ℕ) (cs : List ℕ) → c ≡ 47 → Second (λ d. d ≡ 47 → ⊥) (c ∷ cs) → (Second (λ d. d ≡ 42 → ⊥) (c ∷ cs) ⊎ ClosesFirst (drop 2 (c ∷ cs)) None)
    → (text rest : List ℕ) → c ∷ cs ≡ text ++ rest → IsGap text rest → ⊥
no_comment c cs slash line block _ _ e (gap.white x rest is) = no_white x (let k : x ≡ c = cc in k ∙ slash) is
no_comment c cs slash line block _ _ e (gap.line_comment body rest all end) =
    line (omega (arith, ap length e)) (ap (λ x. get_or x 1 0) e)
no_comment c cs slash line (inl block) _ _ e (gap.block_comment body rest first) =
    block (omega (arith, ap length e)) (ap (λ x. get_or x 1 0) e)
no_comment c cs slash line (inr open_ended) _ _ e (gap.block_comment body rest first) =
    open_ended (length body) (closes_at (drop 2 (c ∷ cs)) body rest (ap (drop 2) e ∙ append_assoc body (codes "*/") rest))

abbrev Absent : List ℕ → ℕ → Type 0
Absent cs x = (text rest : List ℕ) (token : Token) → x ∷ cs ≡ text ++ rest → IsToken text token → ⊥

pub slash_first : (bytes : List ℕ) → 0 < length bytes → get_or bytes 0 0 ≡ 47 → Second (λ d. d ≡ 47 → ⊥) bytes → (Second (λ d. d ≡ 42 → ⊥) bytes ⊎ ClosesFirst (drop 2 bytes) None)
    → StandsFirst bytes piece.Nothing
slash_first [] some slash line block = absurd (omega (arith, some))
slash_first (c ∷ cs) some slash line block = record {
  some = some;
  gap = no_comment c cs slash line block;
  token = λ text rest token e tok. subst (Absent cs) (sym slash) (no_token 47 cs refl refl (refl, λ d ds h. refl)) text rest token e tok;
}
