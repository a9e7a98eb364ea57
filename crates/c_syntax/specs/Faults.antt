-- The rule of the token with which no program goes on.
use Rattle.std.specs.Prelude.{ℕ, nat_lt, if◌then◌else◌}
use Rattle.c_token.specs.declared.token.TokenKind.{TokenKind}
use Rattle.c_tree.specs.Limits.{nesting_limit}
use Rattle.c_tree.specs.Refusal.{rule_of}

-- where so many constructs are open
abbrev pub rule_at_stop : ℕ → TokenKind → ℕ
rule_at_stop open_before kind = if nat_lt nesting_limit open_before then 32 else rule_of kind
