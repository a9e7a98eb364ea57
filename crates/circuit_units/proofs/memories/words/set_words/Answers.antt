use Rattle.std.proofs.Common.{◌<◌, ◌≤◌, length, take, subst, arith}
use Rattle.std.proofs.lemmas.List.{take_all}
use Rattle.std.proofs.lemmas.Option.{slice_get-get_or}
use Rattle.rtl_logic.specs.Making.{circuit}
use Rattle.circuit_units.specs.Memories.Places.{SetsWords}
use Rattle.circuit_units.proofs.MemoriesLemmas.Arrays.{ready_later}
use Rattle.circuit_units.proofs.MemoriesLemmas.Registers.{no_words, reading_later}
use Rattle.circuit_units.proofs.MemoriesLemmas.Steps.{place_at, words_taken}
use Rattle.circuit_units.proofs.memories.words.set_words.Goals as goal

pub loop-port-init : goal.loop-port-init
loop-port-init c = λ p names addresses ready place reads counts. no_words p names (circuit c.args.logic.now) c.args.first.array.0 ready.begun

pub loop-port-preserved : goal.loop-port-preserved
loop-port-preserved c = λ p names addresses ready place reads counts.
    let d = circuit c.args.logic.now in
    let e = circuit c.loop-port.logic in
    let f = circuit c.set_word.new.logic in
    let a = c.args.first.array.0 in
    let n = c.loop-port.port in
    let within : n < length c.args.reads.now = omega (arith, c.counted-port-end.ensures) in
    let there = reads n _ (slice_get-get_or c.args.reads.now n _ within) in
    let h : SetsWords p names d e a (take n addresses) = c.loop-port.invariant p names addresses ready place reads counts in
    let later = reading_later p names d e a n there.0 _ h.extends in
    words_taken p names d e f a n addresses there.0 there.1 h
    (c.in_ok-set_word.ensures p names there.0 (ready_later p names c.args.of.now c.args.groups.now d e h.extends h.begun ready) (place_at p c.args.first n place) (later there.2).word (later there.2).when)

pub returns : goal.returns
returns c = λ p names addresses ready place reads counts.
    let past : length addresses ≤ c.loop-port.port = omega (arith, counts, c.counted-port-end.ensures, c.loop-port-test.false) in
    subst (SetsWords p names (circuit c.args.logic.now) (circuit c.loop-port.logic) c.args.first.array.0) (take_all c.loop-port.port addresses past) (c.loop-port.invariant p names addresses ready place reads counts)
