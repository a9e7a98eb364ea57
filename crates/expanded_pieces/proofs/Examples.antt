-- Where breaks, continues and labels may stand, in a few statements.
use Rattle.std.proofs.Common.{refl, true, false, [], Some, None}
use Rattle.std.proofs.lemmas.Bool.{false≢true}
use Rattle.hls_base.specs.declared.place.Place.{Place}
use Rattle.c_value.specs.Values.{int_type}
use Rattle.pieces.specs.Resolved.Core as core
use Rattle.expanded_pieces.specs.Jumps.{JumpsFit}

module _ (at : Place) where
  -- a break in a loop, and one that stands in none
  in_a_loop : JumpsFit false false false (core.while_ (core.number 1 int_type) core.break_ at)
  in_a_loop = refl

  in_no_loop : JumpsFit false false false core.break_ → ⊥
  in_no_loop h = false≢true h

  -- a switch in a loop: a break leaves the switch, and a continue goes on with the loop
  in_a_switch : JumpsFit false true true (core.switch_ (core.number 1 int_type) [] (core.more_stmts (core.case_ (Some 1) core.break_ at) (core.more_stmts (core.case_ None core.continue_ at) core.no_stmt)) at)
  in_a_switch = ((refl, refl), ((refl, refl), tt))

  -- a label in a block within the switch does not stand directly in it
  in_a_block : JumpsFit false false false (core.switch_ (core.number 1 int_type) [] (core.more_stmts (core.block [] (core.more_stmts (core.case_ (Some 1) core.break_ at) core.no_stmt)) core.no_stmt) at) → ⊥
  in_a_block h = false≢true h.0.0.0
