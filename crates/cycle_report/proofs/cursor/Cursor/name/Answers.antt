use Rattle.std.proofs.Common.{◌∙◌, subst, sym, ap, take}
use Rattle.cycle_report.specs.ReportForm.{is_letter, is_word_byte}
use Rattle.cycle_report.specs.Reading.{Found, begins_with, name}
use Rattle.cycle_report.proofs.Atoms.{IsRun, name_none, name_over, name_found}
use Rattle.cycle_report.proofs.cursor.Cursor.name.Goals as goal

pub returns-then-not-begins_with_letter : goal.returns-then-not-begins_with_letter
returns-then-not-begins_with_letter c =
    let h = ap (begins_with is_letter) (sym c.left-left.ensures) ∙ (sym c.begins_with_letter.ensures ∙ c.if-not-begins_with_letter.true) in
    name_none c.args.self.now h

pub returns-then-begins_with_word_byte : goal.returns-then-begins_with_word_byte
returns-then-begins_with_word_byte c =
    let n = c.run_length-n.result in
    let h = ap (begins_with is_letter) (sym c.left-left.ensures) ∙ (sym c.begins_with_letter.ensures ∙ c.if-not-begins_with_letter.false) in
    let e = c.run_length-n.ensures in
    let run : IsRun c.left-left.result.now n = record { within = e.within; most = e.most; all = e.run; ends = e.ends } in
    let k = ap (begins_with is_word_byte) (sym c.left.ensures) ∙ (sym c.begins_with_word_byte.ensures ∙ c.if-begins_with_word_byte.true) in
    name_over c.args.self.now n c.advance.new.self h (subst (λ z. IsRun z n) c.left-left.ensures run) c.advance.ensures k

pub returns : goal.returns
returns c =
    let n = c.run_length-n.result in
    let h = ap (begins_with is_letter) (sym c.left-left.ensures) ∙ (sym c.begins_with_letter.ensures ∙ c.if-not-begins_with_letter.false) in
    let e = c.run_length-n.ensures in
    let run : IsRun c.left-left.result.now n = record { within = e.within; most = e.most; all = e.run; ends = e.ends } in
    let k = ap (begins_with is_word_byte) (sym c.left.ensures) ∙ (sym c.begins_with_word_byte.ensures ∙ c.if-begins_with_word_byte.false) in
    let f = name_found c.args.self.now n c.advance.new.self h (subst (λ z. IsRun z n) c.left-left.ensures run) c.advance.ensures k in
    subst (λ z. Found name z c.args.self.now c.advance.new.self) (ap (take n) (sym c.left-left.ensures) ∙ (sym c.split_at.ensures.front ∙ sym c.in_ok-from_slice.ensures)) f
