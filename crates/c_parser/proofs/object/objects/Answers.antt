use Rattle.std.proofs.Common.{◌∙◌, ap, arith, length, map}
use Rattle.c_token.specs.declared.punct.Punct.TheVariants as p
use Rattle.c_tree.specs.View.{object_of}
use Rattle.c_parser.proofs.CursorLemmas.Exits.{through}
use Rattle.c_parser.proofs.CursorLemmas.Readings.{grows_more, grows_last, grows_never, listed_more, listed_never, listed_closed, listed_unclosed, pushed}
use Rattle.c_parser.proofs.Subscripts.{comma_ends}
use Rattle.c_parser.proofs.Declarations.{semicolon_ends, semicolon_no_comma}
use Rattle.c_parser.proofs.object.objects.Goals as goal

pub returns-in_err-one-clause-absent : goal.returns-in_err-one-clause-absent
returns-in_err-one-clause-absent c = through _ c.in_err-one.field-0.0 _ _ c.from_residual.ensures.1 (λ y e. e) c.in_err-one.ensures.absent
    (λ n. grows_never _ _ _ c.loop-all.invariant.grows (listed_never p.Semicolon semicolon_no_comma comma_ends semicolon_ends _ n))

pub loop-all-preserved : goal.loop-all-preserved
loop-all-preserved c = let x = c.if-not-eat.ensures in record {
  shorter = omega (arith, c.loop-all.invariant.shorter, c.in_ok-one.ensures.shorter, ap length x.1);
  grows = grows_more _ _ _ _ _ _ (ap (map object_of) c.in_ok-push.ensures.items ∙ pushed object_of _ _) c.loop-all.invariant.grows
      (listed_more p.Semicolon semicolon_no_comma comma_ends semicolon_ends _ _ _ _ x.0 c.in_ok-one.ensures.found x.1);
}

pub returns-in_err-expect-clause-absent : goal.returns-in_err-expect-clause-absent
returns-in_err-expect-clause-absent c = let x = c.if-not-eat.ensures in
    through _ c.in_err-expect.field-0.0 _ _ c.from_residual-in_err-expect.ensures.1 (λ y e. e) c.in_err-expect.ensures.absent
    (λ n. grows_never _ _ _ c.loop-all.invariant.grows (listed_unclosed p.Semicolon semicolon_no_comma comma_ends semicolon_ends _ _ _ _ c.in_ok-one.ensures.found x.0 x.1 n))

pub returns-clause-found : goal.returns-clause-found
returns-clause-found c = let x = c.if-not-eat.ensures in
    grows_last _ _ _ _ _ _ (ap (map object_of) c.in_ok-push.ensures.items ∙ pushed object_of _ _) c.loop-all.invariant.grows
    (listed_closed p.Semicolon semicolon_no_comma comma_ends semicolon_ends _ _ _ _ _ _ c.in_ok-one.ensures.found x.0 c.in_ok-expect.ensures.found)
