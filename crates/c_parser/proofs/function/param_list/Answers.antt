use Rattle.std.proofs.Common.{◌∙◌, ap, refl, arith, length, map}
use Rattle.c_token.specs.declared.punct.Punct.TheVariants as p
use Rattle.c_tree.specs.View.{param_of}
use Rattle.c_parser.proofs.CursorLemmas.Exits.{through}
use Rattle.c_parser.proofs.CursorLemmas.Readings.{grows_more, grows_last, grows_never, listed_more, listed_never, listed_closed, listed_unclosed, pushed}
use Rattle.c_parser.proofs.Subscripts.{paren_no_comma}
use Rattle.c_parser.proofs.Actions.{comma_separates, closer_separates}
use Rattle.c_parser.proofs.function.param_list.Goals as goal

pub returns-in_err-one-clause-absent : goal.returns-in_err-one-clause-absent
returns-in_err-one-clause-absent c =
    through _ c.in_err-one.field-0.0 _ _ c.from_residual.ensures.1 (λ y e. e) c.in_err-one.ensures.absent
    (λ n. grows_never _ _ _ c.loop-all.invariant.grows (listed_never p.RightParen paren_no_comma comma_separates (closer_separates p.RightParen refl) _ n))

pub loop-all-preserved : goal.loop-all-preserved
loop-all-preserved c = let x = c.if-not-eat.ensures in record {
  shorter = omega (arith, c.loop-all.invariant.shorter, c.in_ok-one.ensures.shorter, ap length x.1);
  grows = grows_more _ _ _ _ _ _ (ap (map param_of) c.in_ok-push.ensures.items ∙ pushed param_of _ _) c.loop-all.invariant.grows
      (listed_more p.RightParen paren_no_comma comma_separates (closer_separates p.RightParen refl) _ _ _ _ x.0 c.in_ok-one.ensures.found x.1);
}

pub returns-in_err-expect-clause-absent : goal.returns-in_err-expect-clause-absent
returns-in_err-expect-clause-absent c = let x = c.if-not-eat.ensures in
    through _ c.in_err-expect.field-0.0 _ _ c.from_residual-in_err-expect.ensures.1 (λ y e. e) c.in_err-expect.ensures.absent
    (λ n. grows_never _ _ _ c.loop-all.invariant.grows (listed_unclosed p.RightParen paren_no_comma comma_separates (closer_separates p.RightParen refl) _ _ _ _ c.in_ok-one.ensures.found x.0 x.1 n))

pub returns-clause-found : goal.returns-clause-found
returns-clause-found c = let x = c.if-not-eat.ensures in
    grows_last _ _ _ _ _ _ (ap (map param_of) c.in_ok-push.ensures.items ∙ pushed param_of _ _) c.loop-all.invariant.grows
    (listed_closed p.RightParen paren_no_comma comma_separates (closer_separates p.RightParen refl) _ _ _ _ _ _ c.in_ok-one.ensures.found x.0 c.in_ok-expect.ensures.found)
