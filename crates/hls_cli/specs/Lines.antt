-- Lines that the program puts.
use Rattle.std.specs.Prelude.{ℕ, List, ◌++◌, codes}
use Rattle.std.specs.Fmt.{decimal}
use Rattle.hls_base.specs.declared.refusal.Refusal.{Refusal}
use Rattle.hls_base.specs.PlaceText.{place_text}
use Rattle.hls_flow.specs.declared.soak.Summary.{Summary}
use Rattle.command_words.specs.Commands.{Synth}

abbrev pub made_line : Synth → List ℕ
made_line c = codes "made hls_" ++ (c.top ++ codes "\n")

abbrev pub refusal_line : Refusal → List ℕ
refusal_line r = codes "rule " ++ (decimal r.rule ++ (codes " at " ++ (place_text r.place ++ codes "\n")))

abbrev pub soak_line : ℕ → Summary → List ℕ
soak_line number s =
    codes "soak " ++ (decimal number ++ (codes " muls " ++ (decimal s.muls ++ (codes " cycles " ++ (decimal s.cycles ++ (codes " ret " ++ (decimal s.ret ++ codes " agree\n")))))))

abbrev pub usage_line : List ℕ
usage_line = codes "usage: hls COMMAND ARGUMENTS\n"

abbrev pub fault_line : List ℕ
fault_line = codes "fault\n"

abbrev pub memory_line : List ℕ
memory_line = codes "memory\n"
