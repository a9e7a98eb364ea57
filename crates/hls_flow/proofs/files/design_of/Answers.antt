use Rattle.std.proofs.Common.{◌≡◌, true, false, refl, sym, ◌∙◌}
use Rattle.rtl_core.specs.Netlist.{netlist_of}
use Rattle.hls_flow.specs.Verdicts.{no_module, other_pins}
use Rattle.hls_flow.proofs.files.design_of.Goals as goal

pub returns-then-branch-clause-found : goal.returns-then-branch-clause-found
returns-then-branch-clause-found c = record {
  is = rw c.items-text.ensures at c.in-Ok.ensures.text;
  small = rw c.items-text.ensures at c.in-Ok.ensures.within;
  pins = c.in_ok-has_pins.ensures.0 c.if-branch.true;
}

pub returns-in_ok-place-clause-refused : goal.returns-in_ok-place-clause-refused
returns-in_ok-place-clause-refused c =
    other_pins (netlist_of c.in-Ok.design) c.in_ok-place.place (rw c.items-text.ensures at c.in-Ok.ensures.text) (rw c.items-text.ensures at c.in-Ok.ensures.within)
    (λ pins. let same : false ≡ true = sym c.if-branch.false ∙ c.in_ok-has_pins.ensures.1 pins in cc) (rw c.items-text.ensures at c.in_ok-place.ensures) refl

pub returns-in-Err-Refused-clause-refused : goal.returns-in-Err-Refused-clause-refused
returns-in-Err-Refused-clause-refused c = rw c.in-Err-Refused.field-0-is (no_module (rw (c.in-Err-Refused.field-0-is, c.items-text.ensures) at c.in-Err-Refused.ensures.refused))
