use Rattle.std.proofs.Common.{◌≡◌, ℕ, ◌+◌, ◌<◌, ◌^◌, inl, inr, List, length, get_or, slice_get, Some, sym, ap, ◌∙◌, subst, arith}
use Rattle.std.proofs.lemmas.Bool.{cases_eq}
use Rattle.std.proofs.lemmas.Option.{slice_get_within, slice_get-get_or}
use Rattle.clock_ir.specs.Flows.{entered, pushed}
use Rattle.clock_machine.specs.declared.lines.program.Line.{Line}
use Rattle.clock_machine.specs.Lines.Registers.{HasPushed, held, value_in}
use Rattle.clock_machine.specs.Lines.Showing.{ShowsChain}
use Rattle.clock_machine.proofs.Beginning.{no_values, shows_first, begins_one}
use Rattle.clock_machine.proofs.Staying.{some_action, few_words}
use Rattle.clock_machine.proofs.Storing.{some_op}
use Rattle.clock_machine.proofs.keeping.begin_lines.Goals as goal

pub loop-number-init : goal.loop-number-init
loop-number-init c = record {
  variables = c.reset.ensures.variables;
  sizes = c.reset.ensures.sizes;
  shows = λ shapes b form room.
      let w = c.args.work.now in
      let ls = w.lines.items in
      let r1 = c.reset.new.self in
      let Zeros : List Line → Type 0 = λ xs. (k back : ℕ) (line : Line) → slice_get xs k ≡ Some line → line.first + line.length < 2 ^ 64 → k < length xs → back < line.length → value_in r1 (Some line) k back ≡ 0 in
      let zeros = subst Zeros c.deref.ensures.value c.reset.ensures.zero in
      let Heads : List Line → Type 0 = λ xs. (k : ℕ) → k < length xs → get_or r1.heads.items k 0 ≡ 0 in
      let heads = subst Heads c.deref.ensures.value c.reset.ensures.heads in
      record {
        rooms = λ k line is.
            let lt = slice_get_within ls k line is in
            let inside = room.words k line is in
            let long = (form.deep.lines k line is).length in
            let first = heads k lt in
            record {
              there = is;
              has_head = omega (arith, lt, room.heads, c.reset.ensures.sizes.heads);
              in_words = omega (arith, inside, c.reset.ensures.sizes.words);
              head_in_line = omega (arith, first, long, form.deep.long);
            };
        begun = λ k lt less. absurd (omega (arith, less));
        others = λ k lt le j line is less.
            (let inside = room.words k line is in
            zeros k j line is (omega (arith, inside, form.few)) (slice_get_within ls k line is) less);
      };
}

pub loop-number-preserved : goal.loop-number-preserved
loop-number-preserved c =
    let w = c.args.work.now in
    let r0 = c.args.registers.now in
    let r = c.loop-number.registers in
    let r2 = c.begin_one.new.registers in
    let number = c.loop-number.number in
    let inv = c.loop-number.invariant in
    let sizes = c.begin_one.ensures.sizes in record {
      variables = c.begin_one.ensures.variables ∙ inv.variables;
      sizes = record { variables = sizes.variables ∙ inv.sizes.variables; words = sizes.words ∙ inv.sizes.words; heads = sizes.heads ∙ inv.sizes.heads };
      shows = λ shapes b form room.
          let so_far = inv.shows shapes b form room in
          let lt : number < length w.actions.items = omega (arith, c.loop-number-test.true, c.len-number-end.ensures, w.actions.ok.0) in
          let within : number < length b.ops = omega (arith, lt, form.work.count) in
          let o = get_or b.ops number (some_op b.ops number within) in
          let o_is = slice_get-get_or b.ops number (some_op b.ops number within) within in
          let a = get_or w.actions.items number (some_action w.actions.items number lt) in
          let a_is = slice_get-get_or w.actions.items number (some_action w.actions.items number lt) lt in
          let variables = held r0.variables.items in
          let one = begins_one shapes.widths b w r0 r r2 variables number o a form (few_words r) so_far.rooms o_is a_is (λ e. c.begin_one.ensures.rests a a_is e)
          (λ v e. subst (λ vs. HasPushed r r2 w.lines.items number (held vs.items v)) inv.variables (c.begin_one.ensures.pushes a v a_is e)) in
          record {
            rooms = one.rooms;
            begun = λ k less before. elim (cases_eq k number) [
              | inl same ↦ subst (λ i. ShowsChain r2 w.lines.items i (pushed (entered b.outs variables i) no_values)) (sym same) (one.this (so_far.others number within (omega arith)))
              | inr differ ↦ one.others k differ (pushed (entered b.outs variables k) no_values) (so_far.begun k less (omega (arith, before, differ)))
            ];
            others = λ k less after. one.others k (λ e. absurd (omega (arith, e, after))) no_values (so_far.others k less (omega (arith, after)));
          };
    }

pub returns-clause-shows : goal.returns-clause-shows
returns-clause-shows c = λ shapes b memories form room whole.
    let w = c.args.work.now in
    let r0 = c.args.registers.now in
    let r = c.loop-number.registers in
    let inv = c.loop-number.invariant in
    let shown = inv.shows shapes b form room in
    shows_first shapes b w.lines.items r (record { variables = held r0.variables.items; memories = memories }) whole.outs (ap (λ vs. held vs.items) inv.variables) shown.rooms
    (λ k lt. shown.begun k lt (omega (arith, lt, form.work.count, c.loop-number-test.false, c.loop-number.auto.number-end, c.len-number-end.ensures, w.actions.ok.0)))
