use Rattle.std.proofs.Common.{◌++◌, ◌∷◌, [], List, map, arith, ap, sym, ◌∙◌, append_assoc}
use Rattle.std.specs.List.{range_with_len}
use Rattle.std.proofs.lemmas.List.FromFn.{map-range_with_len_more}
use Rattle.reg_binding.specs.declared.life.Life.{Life}
use Rattle.reg_binding.specs.Lives.{chain_life}
use Rattle.reg_binding.proofs.loop_reads.push_places.Goals as goal

pub loop-number-preserved : goal.loop-number-preserved
loop-number-preserved c =
    let f = chain_life c.args.outs.now c.args.period c.args.id c.args.op.now c.args.last in
    let n = c.loop-number.number in
    let life = c.chain_life.result in
    let old = c.args.lives.now.items in
    let so_far : List Life = map f (range_with_len 0 n) in
    c.in_ok-push.ensures.items
    ∙ ap (λ (xs : List Life). xs ++ life ∷ []) c.loop-number.invariant
    ∙ append_assoc old so_far (life ∷ [])
    ∙ ap (λ (x : Life). old ++ (so_far ++ x ∷ [])) c.chain_life.ensures
    ∙ ap (λ (xs : List Life). old ++ xs) (sym (map-range_with_len_more f 0 n n (omega arith)))
