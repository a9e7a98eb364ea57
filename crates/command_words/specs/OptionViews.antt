-- Options as the definitions see them.
use Rattle.std.specs.Prelude.{ℕ, List, Option, Some, None}
use Rattle.std.specs.Option.{option_map}
use Rattle.command_words.specs.declared.options.Options.{Options}
use Rattle.command_words.specs.declared.options.Reading.{Reading}
use Rattle.command_words.specs.Options as spec

abbrev pub options_view : Options → spec.Options
options_view o = record { top = option_map (λ w. w.now) o.top; mul = option_map (λ w. w.now) o.mul; div = option_map (λ w. w.now) o.div; ports = option_map (λ w. w.now) o.ports; period = option_map (λ w. w.now) o.period; points = option_map (λ w. w.now) o.points; cycles = option_map (λ w. w.now) o.cycles; plain = o.plain }

-- the options that words give behind those that were read
abbrev pub reading_behind : Option Reading → List (List ℕ) → Option spec.Options
reading_behind None ws = None
reading_behind (Some r) ws = spec.options_behind (Some (options_view r.options)) (option_map (λ w. w.now) r.name) ws
