use Rattle.hls_cli.proofs.run.run.Goals as goal

pub returns-clause-status : goal.returns-clause-status
returns-clause-status g c = c.answer.ensures.known

pub returns-clause-made : goal.returns-clause-made
returns-clause-made g c = c.answer.ensures.made

pub returns-clause-refused : goal.returns-clause-refused
returns-clause-refused g c = c.answer.ensures.refused

pub returns-clause-usage : goal.returns-clause-usage
returns-clause-usage g c = c.answer.ensures.usage

pub returns-clause-compared : goal.returns-clause-compared
returns-clause-compared g c = c.answer.ensures.compared

pub returns-clause-fault : goal.returns-clause-fault
returns-clause-fault g c = c.answer.ensures.fault

pub returns-clause-after_fault : goal.returns-clause-after_fault
returns-clause-after_fault g c = c.answer.ensures.after_fault

pub returns-clause-after_memory : goal.returns-clause-after_memory
returns-clause-after_memory g c = c.answer.ensures.after_memory

pub returns-clause-complete : goal.returns-clause-complete
returns-clause-complete g c = c.answer.ensures.complete
