use Rattle.std.proofs.Common.{◌∙◌, ◌<◌, ◌&&◌, None, Some, refl, ap, ap₂, sym, arith, length}
use Rattle.std.specs.Prelude.{slice_get, get_or, if◌then◌else◌}
use Rattle.std.specs.Option.{option_copied}
use Rattle.std.proofs.lemmas.Option.{slice_get_read, slice_get-get_or}
use Rattle.indexmap.specs.IndexMap.{get}
use Rattle.ir_core.specs.Bodies.{op_of}
use Rattle.value_number.specs.Views.{key_eq}
use Rattle.value_number.proofs.Showing.{earlier_is, first_within, none_there}
use Rattle.value_number.proofs.block.Numbering.earlier.Goals as goal
use Rattle.value_number.proofs.block.Numbering.earlier.Goals.{else-apart-via-then-apart+else-index, else-apart-via-else-apart}

pub returns-then-index : goal.returns-then-index
returns-then-index c = λ s h.
    let op = op_of c.args.op.now in
    let i = c.in-Some.first.now in
    let flags = c.args.self.now.makes_out.items in
    let common = sym c.is_common.ensures ∙ c.if-not-is_common.false in
    let found = sym (h.firsts op common) ∙ ap (get key_eq c.args.self.now.firsts) (sym c.new.ensures) ∙ sym c.get.ensures.value ∙ ap option_copied c.in-Some.is in
    let flag = ap (λ l. slice_get l i) (sym h.makes_out) ∙ slice_get_read flags (length flags) i c.index.result.now refl (omega (arith, c.if-first-len.true, c.len.ensures)) c.index.ensures in
    sym (earlier_is s op c.args.apart c.index.result.now i (none_there c.args.op.now.guard (sym c.is_some.ensures ∙ c.if-is_some.false)) common found flag
    ∙ ap₂ (λ a b. if a && b then None else Some i) c.if-apart.true c.if-index.true)

pub returns-else-apart : goal.returns-else-apart
returns-else-apart c = λ s h.
    let op = op_of c.args.op.now in
    let i = c.in-Some.first.now in
    let flags = c.args.self.now.makes_out.items in
    let common = sym c.is_common.ensures ∙ c.if-not-is_common.false in
    let found = sym (h.firsts op common) ∙ ap (get key_eq c.args.self.now.firsts) (sym c.new.ensures) ∙ sym c.get.ensures.value ∙ ap option_copied c.in-Some.is in
    let within : i < length flags = omega (arith, c.if-first-len.true, c.len.ensures) in
    let open_ = none_there c.args.op.now.guard (sym c.is_some.ensures ∙ c.if-is_some.false) in
    elim c.else-apart.branch [
      | else-apart-via-then-apart+else-index w ↦
          sym (earlier_is s op c.args.apart w.index.result.now i open_ common found (ap (λ l. slice_get l i) (sym h.makes_out) ∙ slice_get_read flags (length flags) i w.index.result.now refl within w.index.ensures)
          ∙ ap₂ (λ a b. if a && b then None else Some i) w.if-apart.true w.if-index.false)
      | else-apart-via-else-apart w ↦
          sym (earlier_is s op c.args.apart (get_or flags i c.args.apart) i open_ common found (ap (λ l. slice_get l i) (sym h.makes_out) ∙ slice_get-get_or flags i c.args.apart within)
          ∙ ap (λ a. if a && get_or flags i c.args.apart then None else Some i) w.if-apart.false)
    ]

pub returns-in_default : goal.returns-in_default
returns-in_default c = λ s h.
    let op = op_of c.args.op.now in
    let common = sym c.is_common.ensures ∙ c.if-not-is_common.false in
    let found = sym (h.firsts op common) ∙ ap (get key_eq c.args.self.now.firsts) (sym c.new.ensures) ∙ sym c.get.ensures.value ∙ ap option_copied c.in-Some.is in
    let within = first_within s op c.in-Some.first.now found in
    let count = ap length h.makes_out in
    absurd (omega (arith, within, count, c.if-first-len.false, c.len.ensures))
