use Rattle.std.proofs.Common.{refl}
use Rattle.hls_base.proofs.OutsideLemmas.{HasRisen-before}
use Rattle.hls_cli.specs.Ends.{done, failed, starved}
use Rattle.hls_cli.specs.Lines.{fault_line, memory_line}
use Rattle.hls_cli.proofs.OneLine.{cut_line}
use Rattle.hls_cli.proofs.run.finish.Goals as goal

pub returns-in-Ok : goal.returns-in-Ok
returns-in-Ok g c = done refl c.in-Ok.ensures.all

pub returns-in-Err-Failed : goal.returns-in-Err-Failed
returns-in-Err-Failed g c =
    failed c.stop_for_fault.ensures.status (HasRisen-before _ _ _ (c.in-Err-Failed.ensures.failed (cc)) c.stop_for_fault.ensures.count)
    (cut_line c.args.line.now fault_line _ _ _ c.in-Err-Failed.ensures.prefix c.stop_for_fault.ensures.line)

pub returns-in-Err-Memory : goal.returns-in-Err-Memory
returns-in-Err-Memory g c = starved c.stop_for_memory.ensures.status (cut_line c.args.line.now memory_line _ _ _ c.in-Err-Memory.ensures.prefix c.stop_for_memory.ensures.line)
