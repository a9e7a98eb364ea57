use Rattle.source_validity.proofs.LeadingHosts.Whole.{hosts_first}
use Rattle.source_validity.proofs.leading_hosts.expanded_hosts_come_first.Goals as goal

pub returns : goal.returns
returns c = hosts_first
