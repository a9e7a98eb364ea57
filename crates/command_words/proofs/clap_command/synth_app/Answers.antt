use Rattle.std.proofs.lemmas.Result.{IfOk-weaker}
use Rattle.command_words.proofs.Chains.{rule_added, stays_local}
use Rattle.command_words.proofs.clap_command.synth_app.Goals as goal

pub returns-clause-app : goal.returns-clause-app
returns-clause-app c =
    let app-1 = rule_added _ _ _ _ _ c.in_ok-arg.ensures c.positional.ensures.local c.positional.ensures.rule c.new.ensures.app in
    let app-2 = rule_added _ _ _ _ _ c.in_ok-arg-2.ensures c.positional-2.ensures.local c.positional-2.ensures.rule app-1 in
    let app-3 = rule_added _ _ _ _ _ c.in_ok-arg-3.ensures c.positional-3.ensures.local c.positional-3.ensures.rule app-2 in
    let app-4 = rule_added _ _ _ _ _ c.in_ok-arg-4.ensures c.required_option.ensures.local c.required_option.ensures.rule app-3 in
    let app-5 = rule_added _ _ _ _ _ c.in_ok-arg-5.ensures c.option.ensures.local c.option.ensures.rule app-4 in
    let app-6 = rule_added _ _ _ _ _ c.in_ok-arg-6.ensures c.option-2.ensures.local c.option-2.ensures.rule app-5 in
    let app-7 = rule_added _ _ _ _ _ c.in_ok-arg-7.ensures c.option-3.ensures.local c.option-3.ensures.rule app-6 in
    let app-8 = rule_added _ _ _ _ _ c.in_ok-arg-8.ensures c.option-4.ensures.local c.option-4.ensures.rule app-7 in
    IfOk-weaker c.arg-9.result _ _ (λ last added. rule_added _ last _ _ _ added c.flag.ensures.local c.flag.ensures.rule app-8) c.arg-9.ensures

pub returns-clause-local : goal.returns-clause-local
returns-clause-local c =
    let local-1 = stays_local _ _ _ c.in_ok-arg.ensures c.positional.ensures.local c.new.ensures.local in
    let local-2 = stays_local _ _ _ c.in_ok-arg-2.ensures c.positional-2.ensures.local local-1 in
    let local-3 = stays_local _ _ _ c.in_ok-arg-3.ensures c.positional-3.ensures.local local-2 in
    let local-4 = stays_local _ _ _ c.in_ok-arg-4.ensures c.required_option.ensures.local local-3 in
    let local-5 = stays_local _ _ _ c.in_ok-arg-5.ensures c.option.ensures.local local-4 in
    let local-6 = stays_local _ _ _ c.in_ok-arg-6.ensures c.option-2.ensures.local local-5 in
    let local-7 = stays_local _ _ _ c.in_ok-arg-7.ensures c.option-3.ensures.local local-6 in
    let local-8 = stays_local _ _ _ c.in_ok-arg-8.ensures c.option-4.ensures.local local-7 in
    IfOk-weaker c.arg-9.result _ _ (λ last added. stays_local _ last _ added c.flag.ensures.local local-8) c.arg-9.ensures
