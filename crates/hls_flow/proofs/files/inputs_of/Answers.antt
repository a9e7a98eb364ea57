use Rattle.hls_flow.proofs.files.inputs_of.Goals as goal

pub returns-in-Ok-clause-found : goal.returns-in-Ok-clause-found
returns-in-Ok-clause-found c = rw (c.deref.ensures.value, c.items.ensures) at c.in-Ok.ensures.inputs

pub returns-in-Ok-clause-fit : goal.returns-in-Ok-clause-fit
returns-in-Ok-clause-fit c = rw c.deref.ensures.value at c.in-Ok.ensures.fit

pub returns-in-Err-Line-clause-refused : goal.returns-in-Err-Line-clause-refused
returns-in-Err-Line-clause-refused c = rw (c.in-Err-Line.field-0-is, c.deref.ensures.value, c.items.ensures) at c.in-Err-Line.ensures.refused
