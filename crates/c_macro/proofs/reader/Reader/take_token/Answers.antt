use Rattle.std.proofs.Common.{◌∙◌, sym, refl, ap}
use Rattle.c_token.specs.declared.token.Token.{Token}
use Rattle.c_macro.proofs.Taking.{front_takes_word, front_takes_other}
use Rattle.c_macro.proofs.reader.Reader.take_token.Goals as goal

pub returns-then-names_macro-clause-token : goal.returns-then-names_macro-clause-token
returns-then-names_macro-clause-token c =
    front_takes_word c.args.self.now _ c.args.front.now c.index-front-0.result c.len.result 256 c.expand.result c.expand.new.output c.requires.one c.index-front-0.is
    (sym c.names_macro.ensures ∙ c.if-names_macro.true) (refl, refl, refl, refl) c.len.ensures c.expand.ensures.expanded

pub returns-clause-token : goal.returns-clause-token
returns-clause-token c =
    let token = c.index-front-0.result in
    let kept : Token = record { kind = c.in_ok-typed_kind.field-0; place = token.place; first = token.first; glued = token.glued } in
    front_takes_other c.args.self.now _ c.args.front.now token kept c.push.result c.push.new.self c.requires.one c.index-front-0.is
    (sym c.names_macro.ensures ∙ c.if-names_macro.false) (refl, refl, refl, refl)
    (ap (λ k. record token { kind = k }) c.in_ok-typed_kind.ensures) c.requires.within c.push.ensures.pushed c.push.ensures.within c.push.ensures.refused
