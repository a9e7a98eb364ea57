use Rattle.std.proofs.Common.{◌∙◌}
use Rattle.c_macro.proofs.SameTokens.{same_sign}
use Rattle.c_macro.proofs.tokens.is_punct.Goals as goal

pub returns-in-Punct : goal.returns-in-Punct
returns-in-Punct c = rw c.in-Punct.is (c.eq.ensures ∙ same_sign c.in-Punct.other c.args.punct)
