use Rattle.std.proofs.Common.{◌≡◌, ℕ, List, [], get_or, map, ap, ◌∙◌}
use Rattle.std.specs.Prelude.{slice_get, Some}
use Rattle.std.proofs.lemmas.List.{take_all}
use Rattle.ir_core.specs.declared.cfg.Memory.{Memory}
use Rattle.ir_core.specs.FirstContents.{first_word_in, first_word}
use Rattle.flat_programs.specs.declared.memory.bank.Bank.{Bank}
use Rattle.flat_programs.specs.Memory.Contents.{word_in}
use Rattle.flat_programs.proofs.MemoryLemmas.Banks.{dims_push, words_push}
use Rattle.flat_programs.proofs.memory.memories.Memories.new.Goals as goal

pub loop-number-preserved : goal.loop-number-preserved
loop-number-preserved c =
    let bs = c.loop-number.banks.items in
    let m = c.index-memories-number.result in
    let b = c.in_ok-new.field-0 in
    let arrays = c.items-arrays.result.now in
    let pushed = c.in_ok-push.ensures.items in
    let dims_b : Bank → List ℕ = λ x. x.lengths.items in
    let dims_m : Memory → List ℕ = λ x. x.dims.items in
    let words : (a : ℕ) → word_in (Some b) a ≡ first_word_in (Some m) (get_or arrays c.loop-number.number []) a =
    λ a. c.in_ok-new.ensures.words a ∙ ap (λ given. first_word m given a) c.given_to.ensures in
    let ms = c.args.memories.now in
    let dims_is = dims_push dims_b dims_m bs ms c.loop-number.number b m c.loop-number-test.true c.index-memories-number.is c.in_ok-new.ensures.lengths c.loop-number.invariant.0 in
    let words_is = words_push dims_b dims_m word_in first_word_in bs ms arrays c.loop-number.number b m c.loop-number-test.true c.index-memories-number.is c.loop-number.invariant.0 words c.loop-number.invariant.1 in
    (ap (map dims_b) pushed ∙ dims_is, λ k a. ap (λ xs. word_in (slice_get xs k) a) pushed ∙ words_is k a)

pub returns-clause-dims : goal.returns-clause-dims
returns-clause-dims c = c.loop-number.invariant.0 ∙ ap (map (λ (m : Memory). m.dims.items)) (take_all c.loop-number.number c.args.memories.now c.loop-number-test.false)

pub returns-clause-words : goal.returns-clause-words
returns-clause-words c =
    let arrays = c.items-arrays.result.now in
    let all = take_all c.loop-number.number c.args.memories.now c.loop-number-test.false in
    let pointwise : (k a : ℕ) → word_in (slice_get c.loop-number.banks.items k) a ≡ first_word_in (slice_get c.args.memories.now k) (get_or c.args.inputs.now.arrays k []) a =
    λ k a. c.loop-number.invariant.1 k a ∙ ap (λ ms. first_word_in (slice_get ms k) (get_or arrays k []) a) all ∙ ap (λ xs. first_word_in (slice_get c.args.memories.now k) (get_or xs k []) a) c.items-arrays.ensures in
    λ j. λ k a. pointwise k a j
