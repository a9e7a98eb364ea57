use Rattle.std.proofs.Common.{◌≡◌, ◌∙◌, sym, ap, ◌++◌, ◌∷◌, length, length-append, arith}
use Rattle.c_token.specs.Replacement.{none_first, begins_line}
use Rattle.c_macro.specs.Steps.{Steps}
use Rattle.c_macro.proofs.Expanding.{through}
use Rattle.c_macro.proofs.Taking.{parts_of_list, line_of_list, rest-shorter, not_directive, directive_steps, directive_follows, token_steps, token_goes_on}
use Rattle.c_macro.proofs.reader.Reader.take_part.Goals as goal

pub returns-in_err-obey-clause-steps : goal.returns-in_err-obey-clause-steps
returns-in_err-obey-clause-steps c =
    let hash = c.index-front-0.result in
    let front = c.split_at.result.0.now in
    let rest = c.split_at.result.1.now in
    let line = c.split_at-then-is_directive.result.0.now in
    let after = c.split_at-then-is_directive.result.1.now in
    let whole = parts_of_list c.args.left.now 1 front rest c.split_at.ensures.front c.split_at.ensures.back in
    through (λ r. Steps c.args.left.now r c.args.self.now c.obey.new.self) c.from_residual.result c.in_err-obey.field-0.0 c.from_residual.ensures.1 (λ y e. e)
    (directive_steps c.args.left.now line after c.args.self.now c.obey.new.self hash c.in_err-obey.field-0.0
    (line_of_list c.args.left.now front rest line after c.line_length.result hash whole c.split_at.ensures.front_len c.index-front-0.is c.split_at-then-is_directive.ensures.front c.split_at-then-is_directive.ensures.back)
    (sym c.is_directive.ensures ∙ c.if-is_directive.true)
    (ap none_first c.split_at-then-is_directive.ensures.front ∙ c.line_length.ensures.same_line) (ap begins_line c.split_at-then-is_directive.ensures.back ∙ c.line_length.ensures.next_line) c.in_err-obey.ensures)

pub returns-in_err-take_token-clause-steps : goal.returns-in_err-take_token-clause-steps
returns-in_err-take_token-clause-steps c =
    let front = c.split_at.result.0.now in
    let rest = c.split_at.result.1.now in
    let whole = parts_of_list c.args.left.now 1 front rest c.split_at.ensures.front c.split_at.ensures.back in
    let from = c.from_residual-in_err-take_token.ensures in
    through (λ r. Steps c.args.left.now r c.args.self.now c.take_token.new.self) c.from_residual-in_err-take_token.result c.in_err-take_token.field-0.0 from.1 (λ y e. e)
    (token_steps c.args.left.now front rest c.args.self.now c.take_token.new.self c.in_err-take_token.field-0.0 whole
    (not_directive front c.index-front-0.result c.index-front-0.is (sym c.is_directive.ensures ∙ c.if-is_directive.false)) c.in_err-take_token.ensures.token)

pub returns-in_ok-obey-clause-steps : goal.returns-in_ok-obey-clause-steps
returns-in_ok-obey-clause-steps c =
    let hash = c.index-front-0.result in
    let front = c.split_at.result.0.now in
    let rest = c.split_at.result.1.now in
    let line = c.split_at-then-is_directive.result.0.now in
    let after = c.split_at-then-is_directive.result.1.now in
    let whole = parts_of_list c.args.left.now 1 front rest c.split_at.ensures.front c.split_at.ensures.back in
    let lines = line_of_list c.args.left.now front rest line after c.line_length.result hash whole c.split_at.ensures.front_len c.index-front-0.is c.split_at-then-is_directive.ensures.front c.split_at-then-is_directive.ensures.back in
    let long : length c.args.left.now ≡ length (hash ∷ (line ++ after)) = ap length lines in
    let both = length-append line after in (
      directive_follows c.args.left.now line after c.args.self.now c.obey.new.self hash lines
          (sym c.is_directive.ensures ∙ c.if-is_directive.true)
          (ap none_first c.split_at-then-is_directive.ensures.front ∙ c.line_length.ensures.same_line) (ap begins_line c.split_at-then-is_directive.ensures.back ∙ c.line_length.ensures.next_line) c.in_ok-obey.ensures.0 c.in_ok-obey.ensures.1,
      omega arith,
    )

pub returns-in_ok-take_token-clause-steps : goal.returns-in_ok-take_token-clause-steps
returns-in_ok-take_token-clause-steps c =
    let front = c.split_at.result.0.now in
    let rest = c.split_at.result.1.now in
    let whole = parts_of_list c.args.left.now 1 front rest c.split_at.ensures.front c.split_at.ensures.back in (
      token_goes_on c.args.left.now front rest c.args.self.now c.take_token.new.self whole
          (not_directive front c.index-front-0.result c.index-front-0.is (sym c.is_directive.ensures ∙ c.if-is_directive.false)) c.in_ok-take_token.ensures.token,
      rest-shorter c.args.left.now front rest whole c.split_at.ensures.front_len,
    )
