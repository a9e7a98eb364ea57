use Rattle.std.proofs.Common.{◌≡◌, ℕ, ◌<◌, ◌++◌, [], ◌∷◌, length, slice_index, sym, ap, subst, ◌∙◌, append_assoc, arith}
use Rattle.std.proofs.lemmas.List.{append-nil, length-append}
use Rattle.reg_binding.specs.Sharing.{Meet, life_at, IsShared}
use Rattle.reg_binding.proofs.Sharing.{IsShared-more, used_same, used_more, before, behind}
use Rattle.reg_binding.proofs.share.share_by_comparing.Goals.{then-register-len+in_ok-push, else-register-len}
use Rattle.reg_binding.proofs.share.share_by_comparing.Goals as goal

pub loop-life-preserved : goal.loop-life-preserved
loop-life-preserved c =
    let period = c.args.period in
    let lives = c.args.lives.now in
    let n = c.loop-life.life-index in
    let widths = c.loop-life.widths.items in
    let choices = c.loop-life.choices.items in
    let r = c.in_ok-register.register in
    let shared = c.loop-life.invariant.shared in
    let grown = c.loop-life.invariant.grown in
    let chosen = c.in_ok-register.ensures in
    let count = shared.count in
    let free : (i : ℕ) → i < n → slice_index choices i ≡ r → Meet period (life_at lives i) (life_at lives n) → ⊥ = rw (c.deref.ensures.value, count) at chosen.apart in
    let low : (k : ℕ) → k < r → slice_index widths k ≡ (life_at lives n).width → (i : ℕ) × (i < n) × (slice_index choices i ≡ k) × Meet period (life_at lives i) (life_at lives n) = rw (c.deref.ensures.value, c.deref-in-loop-life.ensures.value, count) at chosen.lowest in
    elim c.if-register-len.branch [
      | then-register-len+in_ok-push w ↦
          let width = (life_at lives n).width in
          let is_new : r ≡ length widths = omega (arith, chosen.most) in
          let now : c.if-register-len.widths.items ≡ widths ++ width ∷ [] = ap (λ v. v.items) w.widths-is ∙ w.in_ok-push.ensures.items in
          let long = length-append widths (width ∷ []) in
          rw (now, c.in_ok-push-2.ensures.items) (record {
            shared = IsShared-more period lives n widths choices (width ∷ []) r shared (omega (arith, long, is_new)) (behind widths width r is_new) free
                (λ k k_lt same. low k k_lt (sym (before widths (width ∷ []) k (omega (arith, is_new))) ∙ same));
            grown = (grown.0 ++ width ∷ [], ap (λ xs. xs ++ width ∷ []) grown.1 ∙ append_assoc c.args.widths.now.items grown.0 (width ∷ []));
            used = λ k low_k lt. used_more choices r n (length c.args.widths.now.items) (length widths) count is_new c.loop-life.invariant.used k low_k (omega (arith, long, lt));
          })
      | else-register-len w ↦
          let now : c.if-register-len.widths.items ≡ widths ++ [] = ap (λ v. v.items) w.widths-is ∙ sym (append-nil widths) in
          let same_widths = append-nil widths in
          let r_in : r < length widths = omega arith in
          let fit : slice_index widths r ≡ (life_at lives n).width = rw c.deref-in-loop-life.ensures.value at (chosen.fits (rw c.deref-in-loop-life.ensures.value r_in)) in
          rw (now, c.in_ok-push-2.ensures.items) (record {
            shared = IsShared-more period lives n widths choices [] r shared (rw same_widths r_in) (rw same_widths fit) free (rw same_widths low);
            grown = (grown.0, same_widths ∙ grown.1);
            used = λ k low_k lt. used_same choices r n (length c.args.widths.now.items) (length widths) count c.loop-life.invariant.used k low_k (rw same_widths at lt);
          })
    ]

pub returns-clause-shared : goal.returns-clause-shared
returns-clause-shared c =
    let all : c.loop-life.life-index ≡ length c.args.lives.now = omega (arith, c.loop-life-test.false, c.loop-life.auto.life-index-end) in
    subst (λ (n : ℕ). IsShared c.args.period c.args.lives.now n c.loop-life.widths.items c.loop-life.choices.items) all c.loop-life.invariant.shared

pub returns-clause-used : goal.returns-clause-used
returns-clause-used c = λ r low lt. (let found = c.loop-life.invariant.used r low lt in (found.0, omega (arith, found.1, c.loop-life-test.false, c.loop-life.auto.life-index-end), found.2))
