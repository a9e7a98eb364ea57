use Rattle.std.proofs.Common.{◌≡◌, ◌≤◌, sym, subst, arith}
use Rattle.aig_text.specs.Reading as reading
use Rattle.aig_text.specs.Reading.{Reads, Found, Stuck, AtMost, number_so}
use Rattle.aig_text.proofs.Reading.{passed}
use Rattle.aig_text.proofs.Atoms.{number_found, number_end}
use Rattle.aig_text.proofs.cursor.Cursor.number.Goals as goal

pub returns-in_err-n : goal.returns-in_err-n
returns-in_err-n c =
    let e : c.from.result ≡ c.args.high = omega (arith, c.from.ensures) in
    passed (λ r. Reads (reading.number c.args.high c.args.end) r c.args.self.now c.digits.new.self) _ c.from_residual.ensures.1 (λ y e. e) (λ y h. h) c.in_err-n.ensures
    (λ k. subst (λ z. Stuck (number_so (AtMost z) c.args.end) c.args.self.now c.digits.new.self) e (k c.args.end c.requires))

pub returns-in_err-word : goal.returns-in_err-word
returns-in_err-word c =
    let e : c.from.result ≡ c.args.high = omega (arith, c.from.ensures) in
    let d = c.in_ok-n.ensures in
    passed (λ r. Reads (reading.number c.args.high c.args.end) r c.args.self.now c.word.new.self) _ c.from_residual-in_err-word.ensures.1 (λ y e. e) (λ y h. h) c.in_err-word.ensures
    (λ k. number_end (AtMost c.args.high) c.args.end d.0 _ _ _ c.requires (subst (λ z. d.0 ≤ z) e d.2) d.3 d.4 k)

pub returns : goal.returns
returns c =
    let e : c.from.result ≡ c.args.high = omega (arith, c.from.ensures) in
    let d = c.in_ok-n.ensures in
    subst (λ n. Found (reading.number c.args.high c.args.end) n c.args.self.now c.word.new.self) (sym d.1)
    (number_found (AtMost c.args.high) c.args.end d.0 _ _ _ (subst (λ z. d.0 ≤ z) e d.2) d.3 c.in_ok-word.ensures)
