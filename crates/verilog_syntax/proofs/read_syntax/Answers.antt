use Rattle.std.proofs.Common.{List, Err, subst}
use Rattle.verilog_syntax.specs.declared.token.Token.{Token}
use Rattle.verilog_syntax.specs.declared.module.Module.{Module}
use Rattle.verilog_syntax.specs.ModuleViews.{module_view}
use Rattle.verilog_syntax.specs.Parsing.{IsParsed, StopsRight, tokens_in}
use Rattle.verilog_syntax.specs.TextSyntax.{over_long}
use Rattle.verilog_syntax.proofs.OneFront.{says_once, one_fault, refused_once}
use Rattle.verilog_syntax.proofs.Texts.{refused_stop, refused_end, says}
use Rattle.verilog_syntax.proofs.read_syntax.Goals as goal

pub returns-then-bytes-gt-TEXT_LIMIT : goal.returns-then-bytes-gt-TEXT_LIMIT
returns-then-bytes-gt-TEXT_LIMIT c =
    let first = over_long c.if-bytes-gt-TEXT_LIMIT.true in record { within = tt; says = tt; only = tt; refused = first; once = λ q is. one_fault c.args.bytes.now q _ is first }

pub returns-in-Ok : goal.returns-in-Ok
returns-in-Ok c =
    let m = module_view c.in-Ok.module in
    let lexed = c.in_ok-lexed.lexed in
    let parsed = subst (λ (x : List Token). IsParsed x m) c.deref.ensures.value c.in-Ok.ensures.parsed in
    let said = says c.args.bytes.now lexed.tokens.items lexed.end m c.in_ok-lexed.ensures parsed c.if-lexed-eq51.true in
    record { within = c.if-bytes-gt-TEXT_LIMIT.false; says = said; only = λ q is. says_once c.args.bytes.now q m is said; refused = tt; once = tt }

pub returns-in-Ok-2 : goal.returns-in-Ok-2
returns-in-Ok-2 c =
    let m = module_view c.in-Ok-2.field-0 in
    let lexed = c.in_ok-lexed.lexed in
    let parsed = subst (λ (x : List Token). IsParsed x m) c.deref.ensures.value c.in-Ok-2.ensures.parsed in
    let first = refused_end c.args.bytes.now lexed.tokens.items lexed.end m c.if-bytes-gt-TEXT_LIMIT.false c.in_ok-lexed.ensures parsed c.if-lexed-eq51.false in
    record { within = tt; says = tt; only = tt; refused = first; once = λ q is. one_fault c.args.bytes.now q lexed.end is first }

pub returns : goal.returns
returns c =
    let lexed = c.in_ok-lexed.lexed in
    let first = refused_stop Module c.args.bytes.now lexed.tokens.items lexed.end c.in-Err.stop c.failure_of.result c.if-bytes-gt-TEXT_LIMIT.false c.in_ok-lexed.ensures
    (subst (λ (x : List Token). StopsRight (tokens_in x) c.in-Err.stop) c.deref.ensures.value c.in-Err.ensures.stopped) c.failure_of.ensures in
    record { within = tt; says = tt; only = tt; refused = first; once = refused_once {A = Module} c.args.bytes.now (Err c.failure_of.result) first }
