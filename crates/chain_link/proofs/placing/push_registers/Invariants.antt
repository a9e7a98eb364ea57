use Rattle.std.proofs.Common.{◌≡◌, ◌++◌, map, take}
use Rattle.chain_box.specs.StageEmbedding.Placing.{renamed_register}
use Rattle.chain_link.specs.Places.{place_of}
use Rattle.chain_link.proofs.placing.push_registers.Given as goal

abbrev pub invariant-loop-reg : goal.invariant-loop-reg
invariant-loop-reg l = l.all.items ≡ l.initial.all.items ++ map (renamed_register (place_of l.spot)) (take l.reg-index l.regs)
