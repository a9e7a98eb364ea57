use Rattle.verilog_syntax.proofs.Classes.{no_name}
use Rattle.verilog_syntax.proofs.form.is_name.Goals as goal

pub returns-in_default : goal.returns-in_default
returns-in_default c = no_name c.args.kind c.in_default.not-Name
