-- What was put out.
use Rattle.std.specs.Prelude.{ℕ, List}
use Rattle.c_token.specs.declared.token.Token.{Token}

-- the tokens so far, and how many words were replaced
pub record Emitted : Type 0 where
  pub tokens : List Token
  pub words : ℕ
