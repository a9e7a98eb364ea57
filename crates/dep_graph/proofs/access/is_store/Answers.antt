use Rattle.std.proofs.Common.{sym, ap}
use Rattle.dep_graph.specs.Meetings as spec
use Rattle.dep_graph.proofs.OtherKinds.{other_is_no_store}
use Rattle.dep_graph.proofs.access.is_store.Goals as goal

pub returns-in-Store : goal.returns-in-Store
returns-in-Store c = sym (ap spec.is_store c.in-Store.is)

pub returns-in_default : goal.returns-in_default
returns-in_default c = other_is_no_store c.args.kind c.in_default.not-Store
