use Rattle.cycle_report.specs.PlainReport.{plain_of}
use Rattle.hls_flow.proofs.scheduled.scheduled.Goals as goal

pub returns-clause-made : goal.returns-clause-made
returns-clause-made c = record {
  scheduled = record {
    untimed = c.in_ok-compiled.compiled.untimed;
    timed = c.in_ok-compiled.compiled.timed;
    frame = c.in_ok-compiled.ensures.frame;
    init = c.in_ok-compiled.ensures.init;
    flat = c.in_ok-compiled.ensures.flat;
    is_timed = c.in_ok-compiled.ensures.timed;
    reported = c.in_ok-compiled.ensures.report;
    longer = c.in_ok-compiled.ensures.longer;
  };
  circuit = c.in_ok-compiled.ensures.circuit;
}

pub returns-clause-compiled : goal.returns-clause-compiled
returns-clause-compiled c = record {
  rows = (plain_of c.in_ok-compiled.compiled.report).loops;
  flat = c.in_ok-compiled.ensures.flat;
  is_timed = c.in_ok-compiled.ensures.timed;
  frame = c.in_ok-compiled.ensures.frame;
}
