use Rattle.std.proofs.Common.{◌≡◌, ◌∙◌, ◌+◌, ℕ, ap, length, arith, ◌&&◌}
use Rattle.std.proofs.lemmas.Bool.{lt-ltb}
use Rattle.std.proofs.lemmas.List.{length_push}
use Rattle.passes.specs.Lowering.{is_named}
use Rattle.ir_lower.specs.Arms.{arms_until}
use Rattle.ir_lower.proofs.Arming.{counts_next, counts_more, counts_all}
use Rattle.ir_lower.proofs.arms.arm_counts.Goals as goal

pub loop-i-preserved : goal.loop-i-preserved
loop-i-preserved c =
    let labels = c.args.labels.now in
    let i = c.loop-i.i in
    let before = c.loop-i.invariant in
    let counts = c.loop-i.counts.items in
    let named : c.begins.result ≡ is_named labels i = c.begins.ensures ∙ c.in_ok-named.ensures i ∙ ap (λ b. b && is_named labels i) (lt-ltb i c.args.pieces c.loop-i-test.true) in record {
      now = counts_next labels i c.loop-i.count c.in_ok-count.count c.begins.result named before.now c.in_ok-count.ensures;
      as_many = ap (length {A = ℕ}) c.in_ok-push.ensures.items ∙ length_push counts c.loop-i.count ∙ ap (λ n. n + 1) before.as_many;
      counts = counts_more labels counts c.push.new.self.items i c.loop-i.count before.as_many before.now c.in_ok-push.ensures.items before.counts;
    }

pub returns : goal.returns
returns c = λ k.
    let labels = c.args.labels.now in
    let all : c.loop-i.i ≡ c.args.pieces = omega arith in
    counts_all labels c.loop-i.counts.items c.loop-i.i c.loop-i.invariant.as_many c.loop-i.invariant.counts k ∙ ap (λ n. arms_until labels n k) all
