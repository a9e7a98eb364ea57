use Rattle.std.proofs.Common.{◌≡◌, ◌++◌, map}
use Rattle.std.specs.List.{range_with_len}
use Rattle.reg_binding.specs.Lives.{chain_life}
use Rattle.reg_binding.proofs.loop_reads.push_places.Given as goal

abbrev pub invariant-loop-number : goal.invariant-loop-number
invariant-loop-number l = l.lives.items ≡ l.initial.lives.items ++ map (chain_life l.outs l.period l.id l.op l.last) (range_with_len 0 l.number)
