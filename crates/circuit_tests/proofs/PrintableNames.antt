-- The names of a circuit's pins.
use Rattle.std.proofs.Common.{List, ◌++◌, map}
use Rattle.std.specs.List.{All}
use Rattle.std.proofs.lemmas.List.Elements.{All-append, All-map}
use Rattle.rtl_core.specs.declared.design.Pin.{Pin}
use Rattle.rtl_core.specs.declared.design.OutPin.{OutPin}
use Rattle.verilog_print.specs.PrintableNames.{IsNumbered}

pub names_printable : (ins : List Pin) (outs : List OutPin) → All (λ (p : Pin). ¬ IsNumbered p.name) ins → All (λ (o : OutPin). ¬ IsNumbered o.name) outs
    → All (λ name. ¬ IsNumbered name) (map (λ (p : Pin). p.name) ins ++ map (λ (o : OutPin). o.name) outs)
names_printable ins outs h k =
    All-append (λ name. ¬ IsNumbered name) (map (λ (p : Pin). p.name) ins) (map (λ (o : OutPin). o.name) outs) (All-map (λ name. ¬ IsNumbered name) (λ (p : Pin). p.name) ins h)
    (All-map (λ name. ¬ IsNumbered name) (λ (o : OutPin). o.name) outs k)
