use Rattle.std.proofs.Common.{◌≡◌, ℕ, ◌+◌, ◌<◌, ◌++◌, [], ◌∷◌, List, None, length, inl, inr, refl, sym, ap, subst, ◌∙◌, append_assoc, arith}
use Rattle.std.proofs.lemmas.List.{length-append}
use Rattle.reg_binding.specs.Sharing.{IsShared, life_at}
use Rattle.reg_binding.proofs.Sharing.{used_same, used_more}
use Rattle.reg_binding.proofs.Pools.{in_order_less, turned_pool}
use Rattle.reg_binding.proofs.share.share_in_order.Goals as goal

pub loop-life-preserved : goal.loop-life-preserved
loop-life-preserved c =
    let lives = c.args.lives.now in
    let n = c.loop-life.life-index in
    let choices = c.loop-life.choices.items in
    let widths = c.loop-life.widths.items in
    let old_length = length c.args.widths.now.items in
    let known = c.loop-life.invariant in
    let count = known.shared.count in
    let r = c.in_ok-take.field-0 in
    let width = (life_at lives n).width in
    let in_ : n < length lives = omega (arith, c.loop-life-test.true, c.loop-life.auto.life-index-end) in
    let turned = turned_pool lives n choices widths known.pool.0 c.loop-life.pool c.turned-pool.result in_ c.requires known.pool.1 known.pool.2 known.last
    c.turned-pool.ensures.width c.turned-pool.ensures.same c.turned-pool.ensures.fresh in
    let takes = c.in_ok-take.ensures.taken lives n choices turned.0 refl (in_order_less lives (length lives) (n + 1) (omega (arith, in_)) c.requires)
    c.turned-pool.ensures.width turned.1 known.shared turned.2 in
    let width_is : c.take.new.self.width ≡ width = c.take.ensures.width ∙ c.turned-pool.ensures.width in
    rw c.in_ok-push.ensures.items (record {
      shared = takes.shared;
      grown = elim takes.grown [
        | inl e ↦ (known.grown.0, e ∙ known.grown.1)
        | inr g ↦ (known.grown.0 ++ width ∷ [], g.0 ∙ ap (λ (xs : List ℕ). xs ++ width ∷ []) known.grown.1 ∙ append_assoc c.args.widths.now.items known.grown.0 (width ∷ []))
      ];
      used = λ k low lt. elim takes.grown [
        | inl e ↦ used_same choices r n old_length (length widths) count known.used k low (omega (arith, lt, ap length e))
        | inr g ↦ used_more choices r n old_length (length widths) count g.1 known.used k low (omega (arith, lt, ap length g.0, length-append widths (width ∷ [])))
      ];
      pool = (
        (life_at lives n).start,
        takes.pool_,
        λ i le lt same. elim (c.requires.order n i (omega arith) lt) [
          | inl less ↦ absurd (omega (arith, less, same, width_is))
          | inr equal ↦ equal.1
        ],
      );
      last = λ i e. (let is : i ≡ n = omega arith in ap (λ (k : ℕ). (life_at lives k).width) is ∙ sym width_is);
    })

pub returns-clause-shared : goal.returns-clause-shared
returns-clause-shared c =
    let all : c.loop-life.life-index ≡ length c.args.lives.now = omega (arith, c.loop-life-test.false, c.loop-life.auto.life-index-end) in
    subst (λ (n : ℕ). IsShared None c.args.lives.now n c.loop-life.widths.items c.loop-life.choices.items) all c.loop-life.invariant.shared

pub returns-clause-used : goal.returns-clause-used
returns-clause-used c = λ r low lt.
    (let found = c.loop-life.invariant.used r low lt in (found.0, omega (arith, found.1, c.loop-life-test.false, c.loop-life.auto.life-index-end), found.2))
