use Rattle.std.proofs.Common.{◌≡◌, ◌∙◌, ◌∷◌, ◌++◌, [], arith}
use Rattle.aig_text.specs.GraphText.{number_text}
use Rattle.aig_text.proofs.Prints.{written, more_number}
use Rattle.aig_text.proofs.print.print_number.Goals as goal

pub returns : goal.returns
returns c =
    let x = c.args.out.now.items in
    let y = c.extend_from_slice.new.self.items in
    let z = c.extend_from_slice-2.new.self.items in
    written {Q = z ≡ x ++ number_text c.args.end c.args.n} c.extend_from_slice-2.result z (y ++ (c.args.end ∷ [])) y c.extend_from_slice-2.ensures.items
    (λ e. more_number c.args.n c.args.end x y z _ (omega (arith, c.ranges.n.fits)) (c.as_bytes.ensures.value ∙ c.format.ensures.text) c.in_ok-extend_from_slice.ensures.items e)
