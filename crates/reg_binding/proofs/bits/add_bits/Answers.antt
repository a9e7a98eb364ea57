use Rattle.std.proofs.Common.{◌<◌, length, get_or, refl, ap, sym, ◌∙◌, arith}
use Rattle.std.proofs.lemmas.Bool.{false≢true}
use Rattle.reg_binding.specs.Sets.{free_bits}
use Rattle.reg_binding.proofs.FreeBits.{fewer_then}
use Rattle.reg_binding.proofs.LiveVariables.Words.{or_has, joined_more, joined_left, joined_past}
use Rattle.reg_binding.proofs.bits.add_bits.Goals.{then-index-others+then-add_word, else-index-others, else-index-others-via-then-index-others+else-add_word, else-index-others-via-else-index-others}
use Rattle.reg_binding.proofs.bits.add_bits.Goals as goal

pub loop-index-preserved : goal.loop-index-preserved
loop-index-preserved c =
    let start = c.args.words.now.items in let others = c.args.others.now in
    let xs = c.loop-index.words.items in let i = c.loop-index.index in
    let kept = c.loop-index.invariant in
    let inside : i < length xs = omega arith in
    elim c.if-index-others.branch [
      | then-index-others+then-add_word w ↦
          let new = w.add_word.new.words.items in let done = w.add_word.ensures in
          rw (w.words-is, w.more-is) (record {
            count = done.count ∙ kept.count;
            added = joined_more start others xs i inside new done.here done.others kept.added kept.left;
            left = joined_left start others xs i inside new done.others kept.left;
            same = λ e. absurd (false≢true (sym e));
            fewer = λ _. fewer_then c.loop-index.more (free_bits start) (free_bits xs) (free_bits new) (λ e. ap (λ v. free_bits v.items) (kept.same e)) kept.fewer (done.fewer w.if-add_word.true);
          })
      | else-index-others w ↦ elim w.else-index-others.branch [
        | else-index-others-via-then-index-others+else-add_word v ↦
            let done = v.add_word.ensures in
            let now = done.same v.if-add_word.false in
            rw (w.words-is, v.words-is, now, w.more-is) (record {
              count = kept.count;
              added = joined_more start others xs i inside xs (sym (ap (λ u. get_or u.items i 0) now) ∙ done.here) (λ k e. refl) kept.added kept.left;
              left = λ k l. kept.left k (omega arith);
              same = kept.same;
              fewer = kept.fewer;
            })
        | else-index-others-via-else-index-others v ↦
            rw (w.words-is, v.words-is, w.more-is) (record {
              count = kept.count;
              added = joined_past start others xs i inside kept.added kept.left (omega arith);
              left = λ k l. kept.left k (omega arith);
              same = kept.same;
              fewer = kept.fewer;
            })
      ]
    ]

pub returns-clause-bits : goal.returns-clause-bits
returns-clause-bits c = λ n l. or_has c.args.words.now.items c.args.others.now c.loop-index.words.items n (c.loop-index.invariant.added _ (omega arith))
