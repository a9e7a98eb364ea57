use Rattle.std.proofs.Common.{◌∙◌, ap}
use Rattle.std.specs.Option.{is_some}
use Rattle.verilog_read.proofs.NameEntries.{at, insert_new, none_of}
use Rattle.verilog_read.proofs.names.Names.declare.Goals as goal

pub returns-clause-scope : goal.returns-clause-scope
returns-clause-scope c = λ q.
    ap (λ m. at q m) c.in_ok-insert.ensures.entries
    ∙ insert_new c.args.self.now.entries.entries c.args.name c.args.entry q (none_of _ c.is_some.result (c.is_some.ensures ∙ ap (λ o. is_some o) c.find.ensures) c.if-is_some.false)
