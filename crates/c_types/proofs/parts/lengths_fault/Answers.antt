use Rattle.std.proofs.Common.{refl, map}
use Rattle.std.specs.Option.{option_map}
use Rattle.c_tree.specs.View.{tree_of}
use Rattle.c_meaning.specs.Checks.Expressions.{optional_faults, lengths_faults}
use Rattle.c_names.proofs.DeclarationsLemmas.Least.{least_loop}
use Rattle.c_types.proofs.parts.lengths_fault.Goals as goal

pub loop-length-preserved : goal.loop-length-preserved
loop-length-preserved c = least_loop (λ xs. lengths_faults c.args.bodies.now c.args.names.now (map (option_map tree_of) xs)) c.args.lengths.now c.loop-length.length-index c.length-item.result
    (optional_faults c.args.bodies.now c.args.names.now (option_map tree_of c.length-item.result))
    _ _ _ _ c.loop-length-test.true c.length-item.is refl c.in_ok-optional_fault.ensures c.lesser-worst.ensures c.loop-length.invariant
