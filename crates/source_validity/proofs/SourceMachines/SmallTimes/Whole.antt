-- Small programs that are given times have small ones.
use Rattle.std.proofs.Common.{arith}
use Rattle.source_validity.specs.SourceMachines.SmallTimes.{TimedProgramsHaveSmallTimes}
use Rattle.source_validity.proofs.SourceMachines.SmallTimes.Nodes.{nodes_early, nodes_count}

pub times_small : TimedProgramsHaveSmallTimes
times_small units untimed timed rows small forward near is =
    let memories = untimed.frame.memories.items in
    let times = is.nodes in
    let count = nodes_count memories units untimed.nodes.items timed.nodes.items times.found times.each in
    let few = small.nodes in
    record {
      few = omega (arith, count, few);
      nodes = nodes_early memories units untimed.nodes.items timed.nodes.items times.found forward near times.each;
    }
