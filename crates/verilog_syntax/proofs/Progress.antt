-- How the tokens grow while a text is read.
use Rattle.std.proofs.Common.{◌≡◌, inl, inr, ℕ, ◌+◌, ◌≤◌, List, [], ◌∷◌, ◌++◌, length, take, drop, append-nil, refl, sym, ap, ◌∙◌, subst, arith}
use Rattle.std.specs.List.{All}
use Rattle.std.proofs.lemmas.List.{take_at, drop_at, length-append, length-take-le, length-drop, map-append}
use Rattle.std.proofs.lemmas.List.Elements.{All-nil, All-push}
use Rattle.hls_base.specs.declared.place.Place.{Place}
use Rattle.verilog_syntax.specs.declared.token.Kind.{Kind}
use Rattle.verilog_syntax.specs.declared.token.Token.{Token}
use Rattle.verilog_syntax.specs.declared.lexer.Piece.TheVariants as piece
use Rattle.hls_base.specs.TextPlaces.{place_after, text_start}
use Rattle.verilog_syntax.specs.Lexemes.{Lexeme, Reads, over, a_gap, a_token, NothingBegins}
use Rattle.verilog_syntax.specs.Views.{StandsFirst, token_of, lexeme_of, lexemes_of, IsProper, Lexes}

pub reads_on : (bytes : List ℕ) (at : Place) (xs : List Lexeme) (mid : List ℕ) (there : Place) (ys : List Lexeme) (rest : List ℕ) (end : Place)
    → Reads bytes at xs mid there → Reads mid there ys rest end → Reads bytes at (xs ++ ys) rest end
reads_on _ _ _ _ _ ys rest end (over bytes at) r = r
reads_on _ at xs mid there ys rest end (a_gap text bytes at2 ls rest2 end2 gap q) r = a_gap text bytes at (xs ++ ys) rest end gap (reads_on bytes (place_after at text) xs mid there ys rest end q r)
reads_on _ at _ mid there ys rest end (a_token text bytes at2 token ls rest2 end2 is longest q) r =
    a_token text bytes at token (ls ++ ys) rest end is longest (reads_on bytes (place_after at text) ls mid there ys rest end q r)

-- the text is read up to these bytes
pub record Progress (bytes : List ℕ) (tokens : List Token) (left : List ℕ) (place : Place) : Type 0 where
  pub reads : Reads bytes text_start (lexemes_of tokens) left place
  pub proper : All (λ (x : Token). IsProper x.kind) tokens
  pub line : place.line + length left ≤ length bytes + 1
  pub column : place.column + length left ≤ length bytes + 1

pub begun : (bytes : List ℕ) → Progress bytes [] bytes text_start
begun bytes = record { reads = over bytes text_start; proper = All-nil (λ (x : Token). IsProper x.kind); line = omega arith; column = omega arith }

-- a text of n bytes at the front, as `split_at` gives it
parts : (left text rest : List ℕ) (n : ℕ) → left ≡ text ++ rest → length text ≡ n → (take n left ≡ text) × (drop n left ≡ rest)
parts left text rest n e size = (ap (take n) e ∙ take_at text rest n size, ap (drop n) e ∙ drop_at text rest n size)

pub gap_taken : (bytes : List ℕ) (tokens : List Token) (left : List ℕ) (place next : Place) (n : ℕ) → StandsFirst left (piece.Gap n) → next ≡ place_after place (take n left)
    → next.line ≤ place.line + length (take n left) → next.column ≤ place.column + length (take n left) → Progress bytes tokens left place → Progress bytes tokens (drop n left) next
gap_taken bytes tokens left place next n (text, rest, e, size, some, gap) is line column p =
    let s = parts left text rest n e size in
    let here : next ≡ place_after place text = is ∙ ap (place_after place) s.0 in
    let step : Reads left place [] (drop n left) next =
    subst (λ x. Reads x place [] (drop n left) next) (sym e)
    (a_gap text rest place [] (drop n left) next gap (subst (λ x. Reads rest (place_after place text) [] x next) (sym s.1) (subst (λ x. Reads rest (place_after place text) [] rest x) (sym here) (over rest (place_after place text))))) in
    let fits : n ≤ length left = omega (arith, ap length e ∙ length-append text rest, size) in
    let long = length-take-le n left fits in
    record {
      reads = subst (λ x. Reads bytes text_start x (drop n left) next) (append-nil (lexemes_of tokens)) (reads_on bytes text_start (lexemes_of tokens) left place [] (drop n left) next p.reads step);
      proper = p.proper;
      line = omega (arith, line, p.line, length-drop n left, long, fits);
      column = omega (arith, column, p.column, length-drop n left, long, fits);
    }

pub token_taken : (bytes : List ℕ) (tokens new : List Token) (left : List ℕ) (place next : Place) (kind : Kind) (n : ℕ) → StandsFirst left (piece.Lexeme kind n) → new ≡ tokens ++ record { kind = kind; place = place } ∷ []
    → next ≡ place_after place (take n left) → next.line ≤ place.line + length (take n left) → next.column ≤ place.column + length (take n left) → Progress bytes tokens left place
    → Progress bytes new (drop n left) next
token_taken bytes tokens new left place next kind n (text, rest, e, size, some, token, longest, proper) more is line column p =
    let s = parts left text rest n e size in
    let here : next ≡ place_after place text = is ∙ ap (place_after place) s.0 in
    let x : Token = record { kind = kind; place = place } in
    let step : Reads left place (lexeme_of x ∷ []) (drop n left) next =
    subst (λ y. Reads y place (lexeme_of x ∷ []) (drop n left) next) (sym e)
    (a_token text rest place (token_of kind) [] (drop n left) next token longest
    (subst (λ y. Reads rest (place_after place text) [] y next) (sym s.1) (subst (λ y. Reads rest (place_after place text) [] rest y) (sym here) (over rest (place_after place text))))) in
    let fits : n ≤ length left = omega (arith, ap length e ∙ length-append text rest, size) in
    let long = length-take-le n left fits in
    let whole : lexemes_of tokens ++ lexeme_of x ∷ [] ≡ lexemes_of new = sym (ap lexemes_of more ∙ map-append lexeme_of tokens (x ∷ [])) in
    record {
      reads = subst (λ y. Reads bytes text_start y (drop n left) next) whole (reads_on bytes text_start (lexemes_of tokens) left place (lexeme_of x ∷ []) (drop n left) next p.reads step);
      proper = subst (All (λ (y : Token). IsProper y.kind)) (sym more) (All-push (λ (y : Token). IsProper y.kind) tokens x p.proper proper);
      line = omega (arith, line, p.line, length-drop n left, long, fits);
      column = omega (arith, column, p.column, length-drop n left, long, fits);
    }

pub at_end : (bytes : List ℕ) (tokens : List Token) (left : List ℕ) (place : Place) → length left ≡ 0 → Progress bytes tokens left place → Lexes bytes tokens (record { rule = 51; place = place })
at_end bytes tokens [] place e p = record { rest = []; reads = p.reads; proper = p.proper; ends = inl (refl, refl) }
at_end bytes tokens (x ∷ xs) place e p = absurd (omega (arith, e))

pub at_unknown : (bytes : List ℕ) (tokens : List Token) (left : List ℕ) (place : Place) → NothingBegins left → Progress bytes tokens left place → Lexes bytes tokens (record { rule = 50; place = place })
at_unknown bytes tokens left place none p = record { rest = left; reads = p.reads; proper = p.proper; ends = inr (none, refl) }

-- what the code does with a piece: it takes m bytes, and goes on at the next place
pub record Moves (left text rest : List ℕ) (m : ℕ) (place next : Place) : Type 0 where
  pub front : text ≡ take m left
  pub back : rest ≡ drop m left
  pub value : next ≡ place_after place text
  pub line : next.line ≤ place.line + length text
  pub column : next.column ≤ place.column + length text

pub gap_moved : (bytes : List ℕ) (tokens us : List Token) (left text rest : List ℕ) (place next : Place) (n m : ℕ) → StandsFirst left (piece.Gap n) → m ≡ n → us ≡ tokens → Moves left text rest m place next
    → Progress bytes tokens left place → Progress bytes us rest next
gap_moved bytes tokens us left text rest place next n m stands e f moves p =
    let front : text ≡ take n left = moves.front ∙ ap (λ k. take k left) e in
    let back : rest ≡ drop n left = moves.back ∙ ap (λ k. drop k left) e in
    subst (λ x. Progress bytes x rest next) (sym f)
    (subst (λ x. Progress bytes tokens x next) (sym back)
    (gap_taken bytes tokens left place next n stands (moves.value ∙ ap (place_after place) front) (subst (λ x. next.line ≤ place.line + length x) front moves.line)
    (subst (λ x. next.column ≤ place.column + length x) front moves.column) p))

pub token_moved : (bytes : List ℕ) (tokens us : List Token) (left text rest : List ℕ) (place next : Place) (kind : Kind) (n m : ℕ) → StandsFirst left (piece.Lexeme kind n) → m ≡ n
    → us ≡ tokens ++ record { kind = kind; place = place } ∷ [] → Moves left text rest m place next → Progress bytes tokens left place → Progress bytes us rest next
token_moved bytes tokens us left text rest place next kind n m stands e f moves p =
    let front : text ≡ take n left = moves.front ∙ ap (λ k. take k left) e in
    let back : rest ≡ drop n left = moves.back ∙ ap (λ k. drop k left) e in
    subst (λ x. Progress bytes us x next) (sym back)
    (token_taken bytes tokens us left place next kind n stands f (moves.value ∙ ap (place_after place) front) (subst (λ x. next.line ≤ place.line + length x) front moves.line)
    (subst (λ x. next.column ≤ place.column + length x) front moves.column) p)
