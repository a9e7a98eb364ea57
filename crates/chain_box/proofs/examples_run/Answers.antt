use Rattle.std.proofs.Common.{ap, refl, drop}
use Rattle.chain_box.specs.Chains.{begun, items_in, items_out}
use Rattle.chain_box.specs.Examples.{two_stages, streaming, stalled, valid_in, room_in}
use Rattle.chain_box.proofs.Running.{AreSole, chain_run, runs_as, runs_so}
use Rattle.chain_box.proofs.examples_run.Goals as goal

are_sole : AreSole (begun two_stages).links
are_sole = (λ file_scope x arrays n. refl, (λ file_scope x arrays n. refl, tt))

pub returns : goal.returns
returns c = record {
  cycles = λ outs run. ap valid_in (runs_as 2 streaming (begun two_stages) outs are_sole run);
  results = λ outs run. ap (λ z. items_out streaming z) (runs_as 2 streaming (begun two_stages) outs are_sole run);
  five = λ outs run. ap (λ z. items_in stalled z) (runs_as 1 stalled (begun two_stages) outs are_sole run);
  full = λ outs run. ap (λ z. drop 12 (room_in z)) (runs_as 1 stalled (begun two_stages) outs are_sole run);
  runs = (chain_run 2 (begun two_stages) streaming, runs_so 2 streaming (begun two_stages) are_sole);
}
