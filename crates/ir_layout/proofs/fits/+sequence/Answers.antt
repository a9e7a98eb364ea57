use Rattle.std.proofs.Common.{◌≡◌, ◌∙◌, ap, sym, subst}
use Rattle.std.specs.Option.{option_map}
use Rattle.std.proofs.lemmas.Result.{on_ok_weaker}
use Rattle.ir_core.specs.Trees.{shape_of, sequence_of, side_of, loop}
use Rattle.ir_layout.specs.WellFormed.{one_way, a_test, in_test, in_body, in_step, SequenceFits, ShapeFits, SideFits, StepFits}
use Rattle.ir_layout.specs.Fitting.{numbered, inside_of}
use Rattle.ir_layout.proofs.Fitting.{on_ok_both}
use Rattle.ir_layout.proofs.Parts.{loop_out}
use Rattle.ir_layout.proofs.fits.+sequence.Goals as goal

pub check_shape-returns-in_ok-check_sequence-in-Loop-clause-fits : goal.check_shape-returns-in_ok-check_sequence-in-Loop-clause-fits
check_shape-returns-in_ok-check_sequence-in-Loop-clause-fits t c =
    let inside = inside_of c.args.jumps (numbered c.args.places.now.lands.items) in
    let step = side_of (option_map (λ part. sequence_of part.value) c.in-Loop.step) in
    let same : shape_of c.args.shape.now ≡ loop c.in-Loop.post (sequence_of c.in-Loop.test.value) (sequence_of c.in-Loop.body.value) step c.in-Loop.eligible =
    ap shape_of c.in-Loop.is ∙ loop_out c.in-Loop.post c.in-Loop.test c.in-Loop.body c.in-Loop.step c.in-Loop.eligible in
    let test : SequenceFits in_test a_test (sequence_of c.in-Loop.test.value) = subst (λ s. SequenceFits in_test a_test (sequence_of s)) c.deref.ensures c.in_ok-check_test-in-Loop.ensures in
    let body : SequenceFits (in_body inside) one_way (sequence_of c.in-Loop.body.value) = subst (λ s. SequenceFits (in_body inside) one_way (sequence_of s)) c.deref-in-Loop.ensures c.in_ok-check_sequence-in-Loop.ensures.fits in
    on_ok_weaker c.check_step.result (λ h. subst (ShapeFits inside) (sym same) (test, body, h.0, h.1))
    (on_ok_both (SideFits (in_step inside) step) (StepFits c.in-Loop.post step) c.check_step.result (c.check_step.ensures.fits inside (sym c.in_ok-check_sequence-in-Loop.ensures.lands)) c.check_step.ensures.place)
