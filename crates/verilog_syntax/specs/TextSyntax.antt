-- What a text says, and the fault of its length or its tokens.
use Rattle.std.specs.Prelude.{◌≡◌, ℕ, ◌<◌, ◌≤◌, List, [], ◌∷◌, ◌++◌, length, nat_lt, slice_index_or, true, false, if◌then◌else◌}
use Rattle.std.specs.List.{All}
use Rattle.hls_base.specs.declared.place.Place.{Place}
use Rattle.hls_base.specs.declared.refusal.Refusal.{Refusal}
use Rattle.hls_base.specs.declared.refusal.Fail.{Fail}
use Rattle.hls_base.specs.declared.refusal.Fail.TheVariants as fail
use Rattle.verilog_syntax.specs.declared.token.Token.{Token}
use Rattle.verilog_syntax.specs.declared.parser.Stop.{Stop}
use Rattle.verilog_syntax.specs.declared.parser.Stop.TheVariants as stop
use Rattle.verilog_syntax.specs.ModuleViews.{blank}
use Rattle.hls_base.specs.TextPlaces.{text_start}
use Rattle.verilog_syntax.specs.Lexemes.{Lexeme, tokens_of, Reads, NothingBegins}
use Rattle.verilog_syntax.specs.Forms.{IsModule, BeginsModule}
use Rattle.verilog_syntax.specs.PlacedSyntax.{PlacedWire, PlacedModule}
use Rattle.verilog_syntax.specs.Marks.{NetStands, Stand, in_blocks, module_marks}
use Rattle.verilog_syntax.specs.Parsing.{IsNamed}

abbrev pub limit : ℕ
limit = 67108864

-- the bytes are the text of what the module says, at its places
pub record Says (bytes : List ℕ) (m : PlacedModule) : Type 0 where
  pub lexemes : List Lexeme
  pub end : Place
  pub reads : Reads bytes text_start lexemes [] end
  pub stand : Stand lexemes (module_marks m)
  pub grammar : IsModule (tokens_of lexemes)
  pub blocks : in_blocks false m.drives ≡ true
  pub nets : All (λ (x : PlacedWire). NetStands x.place x.net) m.wires
  pub named : IsNamed m

-- A byte at which no token begins, where the tokens before it are those with which a module's text begins; the first token that no module's text has there; or the end of a text that is none, though one begins with its tokens.
pub data FrontFault (bytes : List ℕ) : Refusal → Type 0 where
  unknown : (lexemes : List Lexeme) (rest : List ℕ) (place : Place) → Reads bytes text_start lexemes rest place → NothingBegins rest → BeginsModule (tokens_of lexemes)
      → FrontFault bytes (record { rule = 50; place = place })
  misplaced : (before : List Lexeme) (wrong : Lexeme) (after : List Lexeme) (rest : List ℕ) (end : Place) → Reads bytes text_start (before ++ wrong ∷ after) rest end → BeginsModule (tokens_of before)
      → ¬ BeginsModule (tokens_of (before ++ wrong ∷ [])) → FrontFault bytes (record { rule = 51; place = wrong.place })
  early : (lexemes : List Lexeme) (end : Place) → Reads bytes text_start lexemes [] end → BeginsModule (tokens_of lexemes) → ¬ IsModule (tokens_of lexemes)
      → FrontFault bytes (record { rule = 51; place = end })

-- the fault of a text before anything of what it says is looked at: its length, then its tokens
pub data IsSyntaxFault (bytes : List ℕ) : Refusal → Type 0 where
  over_long : limit < length bytes → IsSyntaxFault bytes (record { rule = 56; place = text_start })
  of_tokens : (fault : Refusal) → length bytes ≤ limit → FrontFault bytes fault → IsSyntaxFault bytes fault

-- where the tokens are refused that go on with no token behind so many
abbrev pub refusal_behind : List Token → Refusal → ℕ → Refusal
refusal_behind tokens end n = if nat_lt n (length tokens) then record { rule = 51; place = (slice_index_or tokens n blank).place } else end

abbrev pub failure_of : List Token → Refusal → Stop → Fail
failure_of tokens end (stop.Behind n) = fail.Refused (refusal_behind tokens end n)
failure_of tokens end stop.Memory = fail.Memory
