-- What is read of variables and lines is what the operands hold.
use Rattle.std.proofs.Common.{◌≡◌, ℕ, ◌<◌, ◌≤◌, ◌^◌, ltb, inl, inr, List, length, get_or, slice_get, Option, Some, None, refl, sym, ap, ◌∙◌, subst, arith}
use Rattle.std.proofs.lemmas.Bool.{cases_Bool, ltb-true, ltb-false}
use Rattle.std.proofs.lemmas.Option.{slice_get-get_or}
use Rattle.hls_base.specs.declared.number.OpId.{OpId}
use Rattle.ir_core.specs.declared.body.Operand.{Operand}
use Rattle.ir_core.specs.declared.body.Source.{Source}
use Rattle.ir_core.specs.declared.body.Source.TheVariants as source
use Rattle.clock_ir.specs.Flows as flows
use Rattle.clock_ir.specs.Flows.{TimedBody, Flow, place, ready}
use Rattle.clock_machine.specs.declared.lines.program.Line.{Line}
use Rattle.clock_machine.specs.declared.lines.program.Read.TheVariants as read
use Rattle.clock_machine.specs.declared.lines.program.Work.{Work}
use Rattle.clock_machine.specs.declared.lines.registers.Registers.{Registers}
use Rattle.clock_machine.specs.Lines.Registers.{LineIsWithin, ReadIsWithin, word_read, value_in}
use Rattle.clock_machine.specs.Lines.Reads.{read_from, read_made, read_by, read_of, IsCovered}
use Rattle.clock_machine.specs.Lines.Forms.{IsDeep}
use Rattle.clock_machine.specs.Lines.Showing.{Shows}

module _ (b : TimedBody) (w : Work) (r : Registers) (f : Flow) (depth size : ℕ) (count : length w.actions.items ≡ length b.ops) (deep : IsDeep depth size w) (few : length r.words.items < 2 ^ 63) (h : Shows b w.lines.items r f) where
  abbrev lines : List Line
  lines = w.lines.items

  line_read : (k j : ℕ) → k < length b.ops → j ≤ depth → ReadIsWithin r lines (read.Value k j) × (word_read r lines (read.Value k j) ≡ f.chain k j)
  line_read k j lt le =
      let line = get_or lines k (record { first = 0; length = 0 }) in
      let is : slice_get lines k ≡ Some line = slice_get-get_or lines k _ (omega (arith, lt, count, deep.count)) in
      let room = h.rooms k line is in
      let long = (deep.lines k line is).length in
      let within : j < line.length = omega (arith, le, long, deep.long, room.in_words, few) in (
        subst (λ x. LineIsWithin r x k j) (sym is) (record { in_words = room.in_words; head_in_line = room.head_in_line; deep_enough = within }),
        ap (λ x. value_in r x k j) is ∙ h.chains k lt j line is within,
      )

  made_read : (k j : ℕ) → IsCovered depth (read_made (ltb k (length b.ops)) k j)
      → ReadIsWithin r lines (read_made (ltb k (length b.ops)) k j) × (word_read r lines (read_made (ltb k (length b.ops)) k j) ≡ f.chain k j)
  made_read k j = elim (cases_Bool (ltb k (length b.ops))) [
    | inl yes_ ↦ subst (λ x. IsCovered depth (read_made x k j) → ReadIsWithin r lines (read_made x k j) × (word_read r lines (read_made x k j) ≡ f.chain k j)) (sym yes_) (λ le. line_read k j (ltb-true k (length b.ops) yes_) le)
    | inr no_ ↦ subst (λ x. IsCovered depth (read_made x k j) → ReadIsWithin r lines (read_made x k j) × (word_read r lines (read_made x k j) ≡ f.chain k j)) (sym no_) (λ le. (tt, sym (h.beyond k j (ltb-false k (length b.ops) no_))))
  ]

  from_entry : (t : ℕ) (x : Operand) (value : Source) → x.value ≡ value → ReadIsWithin r lines (read_from value) × (word_read r lines (read_from value) ≡ flows.held b f t x None)
  from_entry t x (source.Constant c) e = (tt, rw e refl)
  from_entry t x (source.Variable v) e = (tt, ap (λ g. g v.0) h.entry ∙ rw e refl)
  from_entry t x (source.Result op) e = (tt, rw e refl)

  by_maker : (t : ℕ) (x : Operand) (m : Option OpId) → IsCovered depth (read_by b t x.distance x.value m)
      → ReadIsWithin r lines (read_by b t x.distance x.value m) × (word_read r lines (read_by b t x.distance x.value m) ≡ flows.held b f t x m)
  by_maker t x (Some op) le = made_read op.0 (place b.interval (ready b op) t x.distance) le
  by_maker t x None le = from_entry t x x.value refl

  -- an operand is read as the definition has it
  pub reads_operand : (t : ℕ) (x : Operand) → IsCovered depth (read_of b t x) → ReadIsWithin r lines (read_of b t x) × (word_read r lines (read_of b t x) ≡ flows.operand_at b f t x)
  reads_operand t x le = by_maker t x _ le
