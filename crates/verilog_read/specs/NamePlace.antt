-- Where the name of a module stands in its text.
use Rattle.std.specs.Prelude.{◌≡◌, ℕ, List}
use Rattle.hls_base.specs.declared.place.Place.{Place}
use Rattle.verilog_syntax.specs.PlacedSyntax.{PlacedModule}
use Rattle.verilog_syntax.specs.TextSyntax.{Says}

pub record IsNamePlace (bytes : List ℕ) (place : Place) : Type 0 where
  pub said : PlacedModule
  pub says : Says bytes said
  pub here : place ≡ said.name.place
