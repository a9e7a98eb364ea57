use Rattle.std.proofs.Common.{◌∙◌, sym, ap, refl, arith, length, map, append-nil}
use Rattle.std.specs.Option.{option_map}
use Rattle.c_tree.specs.View.{tree_of}
use Rattle.c_parser.proofs.CursorLemmas.Exits.{through}
use Rattle.c_parser.proofs.CursorLemmas.Readings.{step_found, step_never, then_found, then_stuck, grows_more, grows_last, grows_never, pushed, repeated_more, repeated_never, sign_found}
use Rattle.c_parser.proofs.Optionals.{lengths_step, no_more_lengths, lengths_end, lengths_apart}
use Rattle.c_parser.proofs.object.lengths.Goals as goal

pub returns-in_err-e-clause-absent : goal.returns-in_err-e-clause-absent
returns-in_err-e-clause-absent c = let o = c.loop-alloc-test.ensures in
    through _ c.in_err-e.field-0.0 _ _ c.from_residual.ensures.1 (λ y e. e) c.in_err-e.ensures.absent
    (λ n. step_never _ _ (lengths_step _) (grows_never _ _ _ c.loop-alloc.invariant.grows (repeated_never lengths_apart _ (no_more_lengths _ _ _ o.1) (then_stuck _ _ _ (sign_found _ _ _ _ o.1) n))))

pub loop-alloc-preserved : goal.loop-alloc-preserved
loop-alloc-preserved c = let o = c.loop-alloc-test.ensures in record {
  shorter = omega (arith, c.loop-alloc.invariant.shorter, c.in_ok-e.ensures.shorter, ap length o.1);
  grows = grows_more _ _ _ _ _ _ (ap (map (option_map tree_of)) c.in_ok-push.ensures.items ∙ pushed (option_map tree_of) _ _) c.loop-alloc.invariant.grows
      (repeated_more lengths_apart _ _ _ (no_more_lengths _ _ _ o.1) (then_found _ _ _ _ _ _ refl (sign_found _ _ _ _ o.1) c.in_ok-e.ensures.found));
}

pub returns-clause-found : goal.returns-clause-found
returns-clause-found c = let o = c.loop-alloc-test.ensures in
    step_found _ _ _ _ _ refl (lengths_step _) (grows_last _ _ _ _ _ _ (sym (append-nil _)) c.loop-alloc.invariant.grows (lengths_end _ _ o.0 o.1))
