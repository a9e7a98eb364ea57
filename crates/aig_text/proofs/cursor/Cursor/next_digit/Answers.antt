use Rattle.std.proofs.Common.{◌≡◌, ◌+◌, ◌∷◌, ◌∙◌, drop, get_or, sym, ap, arith, drop-cons}
use Rattle.aig_text.proofs.cursor.Cursor.next_digit.Goals as goal

pub returns-then-byte-le57 : goal.returns-then-byte-le57
returns-then-byte-le57 c =
    let left = c.self.inside.left.now in
    let item = c.in_ok-byte.ensures.item in
    let byte = c.in_ok-byte.field-0.now in
    let same : get_or left 0 0 ≡ 48 + c.from.result = omega (arith, item.3.1 0, c.from.ensures, c.if-byte-ge48.true) in
    (omega (arith, c.from.ensures, c.if-byte-le57.true), (drop 1 left, sym c.self.view_is ∙ (drop-cons left 0 0 item.3.0 ∙ ap (λ z. z ∷ drop 1 left) same)))
