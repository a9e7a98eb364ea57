use Rattle.verilog_syntax.proofs.Classes.{no_keyword}
use Rattle.verilog_syntax.proofs.form.is_keyword.Goals as goal

pub returns-in_default : goal.returns-in_default
returns-in_default c = no_keyword c.args.kind c.args.wanted c.requires c.in_default.not-Keyword
