use Rattle.std.proofs.Common.{◌≡◌, ◌∙◌, refl, subst, sym, arith}
use Rattle.std.specs.Prelude.{length, map, filter}
use Rattle.std.proofs.lemmas.List.{length-map}
use Rattle.std.proofs.lemmas.List.Sums.{length-filter, count_by-le-length}
use Rattle.rtl_logic.specs.Making.{circuit}
use Rattle.datapath.specs.Plans.{Array, array_of, host_arrays, plan_of}
use Rattle.datapath.specs.LeftOut.{savings_of}
use Rattle.datapath.specs.Cycles.{Named}
use Rattle.datapath.specs.Circuits.{width}
use Rattle.circuit_context.proofs.Standing.{program_of}
use Rattle.circuit_context.specs.Levels.{MakesLevel}
use Rattle.circuit_context.proofs.Widths.{hosts_within}
use Rattle.circuit_context.proofs.Choosing.{all_words, element_made, no_name}
use Rattle.circuit_context.proofs.host.element.Goals as goal

pub counted-count-requires : goal.counted-count-requires
counted-count-requires c =
    let of = c.args.of.now in
    let arrays = map array_of of.cfg.now.frame.memories.items in
    let counted : c.host_memories.result ≡ length (filter (λ (a : Array). a.host) arrays) = c.host_memories.ensures (plan_of of.cfg.now of.registers.now (savings_of of.cfg.now of.live)) refl in
    omega (arith, counted, length-filter (λ (a : Array). a.host) arrays, count_by-le-length (λ (a : Array). a.host) arrays, length-map of.cfg.now.frame.memories.items array_of, of.few.arrays)

pub words-requires : goal.words-requires
words-requires c =
    let of = c.args.of.now in
    let counted : c.host_memories.result ≡ length (host_arrays (plan_of of.cfg.now of.registers.now (savings_of of.cfg.now of.live))) =
    c.host_memories.ensures (plan_of of.cfg.now of.registers.now (savings_of of.cfg.now of.live)) refl in
    omega (arith, counted, hosts_within of, c.counted-count.ensures)

pub returns-then-count-lt2 : goal.returns-then-count-lt2
returns-then-count-lt2 c = λ p names context begun.
    let d = circuit c.args.logic.now in
    let e = circuit c.words.new.logic in
    let counted : c.host_memories.result ≡ length (host_arrays p) = c.host_memories.ensures p (program_of p names c.args.of.now context).arrays in
    let same : c.counted-count.result ≡ c.host_memories.result = c.counted-count.ensures in
    let level : MakesLevel p names d e 0 c.deref.result.now =
    subst (MakesLevel p names d e 0) (sym c.deref.ensures.value) (all_words p names d e c.counted-count.result c.in_ok-words.words.items (same ∙ counted) (c.in_ok-words.ensures p names context begun)) in
    element_made p names d e 0 c.deref.result.now c.first_word.result (no_name p c.counted-count.result (same ∙ counted) c.if-count-lt2.true) level c.first_word.ensures.first c.first_word.ensures.fits

pub returns : goal.returns
returns c = λ p names context begun.
    let d = circuit c.args.logic.now in
    let e = circuit c.words.new.logic in
    let f = circuit c.chosen.new.logic in
    let counted : c.host_memories.result ≡ length (host_arrays p) = c.host_memories.ensures p (program_of p names c.args.of.now context).arrays in
    let same : c.counted-count.result ≡ c.host_memories.result = c.counted-count.ensures in
    let whole : MakesLevel p names d e 0 c.in_ok-words.words.items = all_words p names d e c.counted-count.result c.in_ok-words.words.items (same ∙ counted) (c.in_ok-words.ensures p names context begun) in
    let left : MakesLevel p names d f (width p Named) c.deref-2.result.now =
    subst (MakesLevel p names d f (width p Named)) (sym c.deref-2.ensures.value) (c.in_ok-left.ensures p names d context whole) in
    element_made p names d f (width p Named) c.deref-2.result.now c.first_word-2.result refl left c.first_word-2.ensures.first c.first_word-2.ensures.fits
