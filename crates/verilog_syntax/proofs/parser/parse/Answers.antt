use Rattle.std.proofs.Common.{◌∙◌, sym, ap, subst, arith, length}
use Rattle.std.proofs.lemmas.Bool.{false≢true}
use Rattle.std.proofs.lemmas.List.Elements.{All-drop}
use Rattle.std.specs.List.{All, Contains}
use Rattle.verilog_syntax.specs.declared.token.Token.{Token}
use Rattle.verilog_syntax.specs.Views.{IsProper}
use Rattle.verilog_syntax.specs.Parsing.{tokens_in, FitsSome, IsReached}
use Rattle.verilog_syntax.proofs.Forms.{tokens_long}
use Rattle.verilog_syntax.proofs.Reading.{begun, read_on, stopped, too_long, read_whole, taken_some}
use Rattle.verilog_syntax.proofs.parser.parse.Goals as goal

pub loop-last-init : goal.loop-last-init
loop-last-init c = begun c.args.tokens.now _ c.new-module.ensures

pub split_at-requires : goal.split_at-requires
split_at-requires c = c.loop-last.invariant.within

pub find_form-requires : goal.find_form-requires
find_form-requires c = subst (All (λ (x : Token). IsProper x.kind)) (sym c.split_at.ensures.back) (All-drop (λ (x : Token). IsProper x.kind) c.loop-last.seen c.args.tokens.now c.requires)

pub loop-last-preserved : goal.loop-last-preserved
loop-last-preserved c =
    read_on c.args.tokens.now c.split_at.result.1.now c.split_at-in-Ok.result.0.now c.loop-last.last c.in-Ok.form c.loop-last.seen _ _ _ c.split_at.ensures.back c.split_at-in-Ok.ensures.front
    (ap length c.classes-n.ensures) (subst (λ x. Contains x c.in-Ok.form) c.followers.ensures c.in-Ok.ensures.0) c.in-Ok.ensures.1 c.in-Ok.ensures.2 c.in_ok-add-in-Ok.ensures c.loop-last.invariant

pub returns-in-Err-clause-stopped : goal.returns-in-Err-clause-stopped
returns-in-Err-clause-stopped c =
    stopped c.args.tokens.now c.split_at.result.1.now c.loop-last.last c.loop-last.seen c.in-Err.n _ c.split_at.ensures.back (λ e. false≢true (sym c.loop-last-test.true ∙ c.is_module_end.ensures.1 e))
    (subst (All (FitsSome (tokens_in c.split_at.result.1.now) c.in-Err.n)) c.followers.ensures c.in-Err.ensures.0)
    (subst (IsReached (tokens_in c.split_at.result.1.now) c.in-Err.n) c.followers.ensures c.in-Err.ensures.1) c.loop-last.invariant

pub returns-then-seen-tokens-clause-stopped : goal.returns-then-seen-tokens-clause-stopped
returns-then-seen-tokens-clause-stopped c = too_long c.args.tokens.now c.loop-last.last c.loop-last.seen _ (c.is_module_end.ensures.0 c.loop-last-test.false) c.if-seen-tokens.true c.loop-last.invariant

pub returns-clause-parsed : goal.returns-clause-parsed
returns-clause-parsed c = read_whole c.args.tokens.now c.loop-last.last c.loop-last.seen _ (c.is_module_end.ensures.0 c.loop-last-test.false) c.if-seen-tokens.false c.loop-last.invariant

pub loop-last-smaller : goal.loop-last-smaller
loop-last-smaller c =
    let some = taken_some c.loop-last.last c.in-Ok.form (subst (λ x. Contains x c.in-Ok.form) c.followers.ensures c.in-Ok.ensures.0) in
    omega (arith, some, c.in-Ok.ensures.1, ap length c.classes-n.ensures, c.split_at.ensures.back_len, c.loop-last.invariant.within)

pub overflow_add-result : goal.overflow_add-result
overflow_add-result c =
    let w = stopped c.args.tokens.now c.split_at.result.1.now c.loop-last.last c.loop-last.seen c.in-Err.n _ c.split_at.ensures.back (λ e. false≢true (sym c.loop-last-test.true ∙ c.is_module_end.ensures.1 e))
    (subst (All (FitsSome (tokens_in c.split_at.result.1.now) c.in-Err.n)) c.followers.ensures c.in-Err.ensures.0)
    (subst (IsReached (tokens_in c.split_at.result.1.now) c.in-Err.n) c.followers.ensures c.in-Err.ensures.1) c.loop-last.invariant in
    omega (arith, w.within, tokens_long c.args.tokens.now)
