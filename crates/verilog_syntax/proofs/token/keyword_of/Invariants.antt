use Rattle.std.proofs.Common.{◌≢◌, take}
use Rattle.rtl_core.specs.Valid.{reserved_words}
use Rattle.std.specs.List.{All}
use Rattle.verilog_syntax.proofs.token.keyword_of.Given as goal

abbrev pub invariant-loop-keyword : goal.invariant-loop-keyword
invariant-loop-keyword l = All (λ word. word ≢ l.text) (take l.keyword-index reserved_words)
