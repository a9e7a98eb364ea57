use Rattle.std.proofs.Common.{◌≡◌, ◌+◌, ◌++◌, [], ◌∷◌, take, sym, ap, ◌∙◌, append_assoc, arith}
use Rattle.std.proofs.lemmas.Grind.{common_steps}
use Rattle.modulo_loop.specs.Rules.{latency_of, store_rules_from}
use Rattle.modulo_loop.proofs.Growing.{stores_more, store_yes, store_no}
use Rattle.modulo_loop.proofs.rules.add_store_rules.Goals.{then-is_store+in_ok-push, else-is_store}
use Rattle.modulo_loop.proofs.rules.add_store_rules.Goals as goal

pub loop-number-preserved : goal.loop-number-preserved
loop-number-preserved c =
    let ops = c.args.ops.now in
    let i = c.loop-number.number in
    let op = c.index-ops-number.result in
    let test = c.in-Some.test in
    let lat = latency_of ops test in
    let grown : store_rules_from test.0 lat 0 (take (i + 1) ops) ≡ store_rules_from test.0 lat 0 (take i ops) ++ store_rules_from test.0 lat i (op ∷ []) =
    stores_more test.0 lat ops i op (omega arith) ∙ ap (λ o. store_rules_from test.0 lat 0 (take i ops) ++ store_rules_from test.0 lat i (o ∷ [])) (sym c.index-ops-number.is) in
    elim c.if-is_store.branch [
      | then-is_store+in_ok-push w ↦
          let store = store_yes test.0 lat i op (sym c.is_store.ensures ∙ w.if-is_store.true) in
          grind (arith, common_steps, grown, store, append_assoc)
      | else-is_store w ↦
          let other = store_no test.0 lat i op (sym c.is_store.ensures ∙ w.if-is_store.false) in
          grind (arith, common_steps, grown, other, append_assoc)
    ]
