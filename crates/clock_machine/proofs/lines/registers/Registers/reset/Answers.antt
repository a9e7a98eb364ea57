use Rattle.std.proofs.Common.{◌≡◌, ◌+◌, ◌++◌, length, get_or, take, drop, ap, ap₂, ◌∙◌, arith}
use Rattle.clock_machine.specs.Lines.Registers.{place_back, value_back}
use Rattle.clock_machine.proofs.LinesLemmas.Rings.{place_far, written_back}
use Rattle.clock_machine.proofs.lines.registers.Registers.reset.Goals as goal

pub returns-clause-zero : goal.returns-clause-zero
returns-clause-zero c = λ k back line is small lt deep.
    let r = c.args.self.now in
    let words = c.zero_words.new.words in
    let heads = c.zero_numbers.new.numbers in
    let words_count : length words ≡ r.words.len = omega (arith, c.zero_words.auto.words, ap length c.deref_mut.ensures.value, r.words.ok.0) in
    let heads_count : length heads ≡ r.heads.len = omega (arith, c.zero_numbers.auto.numbers, ap length c.deref_mut-2.ensures.value, r.heads.ok.0) in
    let head_is : get_or (take r.heads.len (heads ++ drop (length heads) r.heads.items)) k 0 ≡ 0 = ap (λ xs. get_or xs k 0) (written_back r.heads.len heads r.heads.items heads_count) ∙ c.zero_numbers.ensures k lt in
    let place = place_far line.length 0 back (omega arith) in
    ap₂ (λ ws h. value_back ws line h back) (written_back r.words.len words r.words.items words_count) head_is
    ∙ c.zero_words.ensures (line.first + place_back line.length 0 back) (let far = c.extent.ensures k line is in omega (arith, place, far, small, deep))
