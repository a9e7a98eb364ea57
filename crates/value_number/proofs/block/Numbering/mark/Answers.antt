use Rattle.std.proofs.Common.{◌∙◌, true, refl, ap, sym, arith, length}
use Rattle.std.proofs.lemmas.List.{length-map}
use Rattle.std.specs.Prelude.{slice_set}
use Rattle.passes.specs.Numbering as n
use Rattle.passes.proofs.Growing.{flags_of, flags_not_set}
use Rattle.value_number.proofs.Showing.{marks, flags_set, flags_beyond}
use Rattle.value_number.proofs.block.Numbering.mark.Goals as goal
use Rattle.value_number.proofs.block.Numbering.mark.Goals.{else-is_out-via-then-is_out+else-first-len, else-is_out-via-else-is_out}

pub returns-then-first-len-clause-shows : goal.returns-then-first-len-clause-shows
returns-then-first-len-clause-shows c = λ s h.
    marks c.args.self.now _ s c.args.is_out c.args.first refl refl refl
    (sym (ap (λ b. flags_of (n.with_out b s.ops c.args.first)) c.if-is_out.true ∙ flags_set s.ops c.args.first ∙ ap (λ l. slice_set l c.args.first true) (sym h.makes_out))) h

pub returns-else-is_out-clause-shows : goal.returns-else-is_out-clause-shows
returns-else-is_out-clause-shows c = elim c.else-is_out.branch [
  | else-is_out-via-then-is_out+else-first-len w ↦ λ s h. marks c.args.self.now _ s c.args.is_out c.args.first refl refl refl
      (let e = ap length h.makes_out in let f = length-map s.ops (λ (k : n.Kept). k.makes_out) in h.makes_out ∙ sym (flags_beyond c.args.is_out s.ops c.args.first (omega (arith, w.if-first-len.false, w.len.ensures, e, f)))) h
  | else-is_out-via-else-is_out w ↦ λ s h.
      marks c.args.self.now _ s c.args.is_out c.args.first refl refl refl (h.makes_out ∙ sym (ap (λ b. flags_of (n.with_out b s.ops c.args.first)) w.if-is_out.false ∙ flags_not_set s.ops c.args.first)) h
]
