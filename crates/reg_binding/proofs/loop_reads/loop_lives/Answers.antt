use Rattle.std.proofs.Common.{◌≡◌, ◌*◌, ◌^◌, ◌<◌, ℕ, Option, None, length, get_or, sym, ap, subst, ◌∙◌, arith}
use Rattle.std.specs.Prelude.{IfSome}
use Rattle.std.specs.List.{All}
use Rattle.std.proofs.lemmas.List.Elements.{All-from_get_or, All-get_or}
use Rattle.reg_binding.specs.Sets.{has}
use Rattle.reg_binding.specs.Lives.{last_read, loop_reads, period}
use Rattle.reg_binding.proofs.Soon.{last_soon}
use Rattle.reg_binding.proofs.loop_reads.loop_lives.Goals as goal

pub push_chain-requires-clause-soon : goal.push_chain-requires-clause-soon
push_chain-requires-clause-soon c =
    let region = c.args.region.now in
    let behind = has c.args.behind.now in
    let last = c.in_ok-last.last.items in
    let IsSoon : Option ℕ → Type 0 = λ x. IfSome x (λ time. time < 2 ^ 32 * period region) in
    let told : (k : ℕ) → k < length last → get_or last k None ≡ last_read (loop_reads behind region) k =
    λ k lt. c.in_ok-last.ensures.last k (omega (arith, c.in_ok-last.ensures.count)) ∙ ap (λ reads. last_read reads k) (c.deref.ensures.value ∙ c.in_ok-reads.ensures) in
    let all : All IsSoon last = All-from_get_or IsSoon last None (λ k lt. subst IsSoon (sym (told k lt)) (last_soon region c.requires behind k)) in
    let within : c.loop-number.number < length last = omega (arith, c.loop-number-test.true, c.loop-number.auto.number-end, c.len-number-end.ensures, c.in_ok-last.ensures.count, c.len.ensures) in
    subst IsSoon (sym c.index-in-loop-number.ensures) (All-get_or IsSoon last c.loop-number.number c.index-in-loop-number.result.now within all)
