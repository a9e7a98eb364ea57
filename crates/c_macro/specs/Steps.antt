-- What the reader has read, and what it does with the next part.
use Rattle.std.specs.Prelude.{◌≡◌, ℕ, ◌<◌, List, [], ◌∷◌, ◌++◌, length, Result, Ok, Err}
use denote.Ref.{Bor}
use Rattle.hls_base.specs.declared.refusal.Fail.{Fail}
use Rattle.hls_base.specs.declared.refusal.Fail.TheVariants.{Refused, Memory}
use Rattle.hls_base.specs.declared.refusal.Refusal.{Refusal}
use Rattle.c_token.specs.declared.token.Token.{Token}
use Rattle.c_token.specs.Replacement.{Reading, Part, Divides, TokenBecomes, count, Outcome, behind}
use Rattle.c_macro.specs.declared.reader.Reader.{Reader}

abbrev pub reading_of : Reader → Reading
reading_of r = record { table = r.macros; included = r.included; defines = r.defines; tokens = length r.output.tokens; words = r.output.words }

-- a directive was obeyed, or refused
abbrev pub Obeys : Result Reading Refusal → Result (Unit {0}) Fail → Reader → Reader → Type 0
Obeys wanted (Ok _) old new = (wanted ≡ Ok (reading_of new)) × (new.output ≡ old.output)
Obeys wanted (Err (Refused r)) old new = wanted ≡ Err r
Obeys wanted (Err Memory) old new = Unit {0}

-- a token of the source was taken, or refused
abbrev pub TakesToken : List Token → Result (Unit {0}) Fail → Reader → Reader → Type 0
TakesToken front (Ok _) old new =
    (token : Token) × (tokens : List Token) × (words : ℕ) × (front ≡ token ∷ []) × TokenBecomes old.included old.macros token tokens words
    × (count (reading_of old) token (length tokens) words ≡ Ok (reading_of new)) × (new.output.tokens ≡ old.output.tokens ++ tokens)
TakesToken front (Err (Refused r)) old new =
    (token : Token) × (tokens : List Token) × (words : ℕ) × (front ≡ token ∷ []) × TokenBecomes old.included old.macros token tokens words
    × (count (reading_of old) token (length tokens) words ≡ Err r)
TakesToken front (Err Memory) old new = Unit {0}

-- what the tokens that are left become is put behind what was put out
abbrev pub Follows : List Token → List Token → Reader → Reader → Type 0
Follows left rest old new = (parts : List Part) (result : Result (List Token) Refusal) → Divides rest parts → Outcome (reading_of new) parts result
    → (whole : List Part) × (answer : Result (List Token) Refusal) × Divides left whole × Outcome (reading_of old) whole answer
    × (behind old.output.tokens answer ≡ behind new.output.tokens result)

-- a part was taken, or has the first fault
abbrev pub Steps : List Token → Result (Bor (List Token)) Fail → Reader → Reader → Type 0
Steps left (Ok rest) old new = Follows left rest.now old new × (length rest.now < length left)
Steps left (Err (Refused r)) old new = (parts : List Part) × Divides left parts × Outcome (reading_of old) parts (Err r)
Steps left (Err Memory) old new = Unit {0}
