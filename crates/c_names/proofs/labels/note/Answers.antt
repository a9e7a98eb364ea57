use Rattle.std.proofs.Common.{sym}
use Rattle.c_names.proofs.LabelsLemmas.Noted.{none_noted}
use Rattle.c_names.proofs.labels.note.Goals as goal

pub returns-in-Faulty-clause-found : goal.returns-in-Faulty-clause-found
returns-in-Faulty-clause-found c = rw c.in-Faulty.is (sym (none_noted c.args.noted.now.keys))
