-- What a run of `timing`, `blast` or `link` gives.
use Rattle.std.specs.Prelude.{◌≡◌, ◌⊎◌, ◌≤◌, ℕ, List, length, Option}
use Rattle.hls_base.specs.Outside.{Files, IsAbsent}
use Rattle.command_words.specs.Commands.{Blast, Link}
use Rattle.module_commands.specs.declared.outcome.Outcome.{Outcome}
use Rattle.module_commands.specs.Work.{IsTimingWork, IsBlastWork, IsLinkWork, IsOneAbsent}
use Rattle.hls_cli.specs.Words.{IsTimingOf, IsBlastOf, IsLinkOf}

-- The words are one of the three commands, this is what it gives, and the file of this name is written if there are bytes for it. `timing` has none.
pub data IsModuleOutcome (words : List (List ℕ)) (files : Option Files) (name : List ℕ) (o : Outcome) : Type 0 where
  of_timing : (m : List ℕ) → IsTimingOf words m → IsTimingWork m files o → IsModuleOutcome words files name o
  of_blast : (c : Blast) → IsBlastOf words c → name ≡ c.graph → IsBlastWork c files o → IsModuleOutcome words files name o
  of_link : (c : Link) → IsLinkOf words c → name ≡ c.chain → IsLinkWork c files o → IsModuleOutcome words files name o

-- the words are one of them, and a module that it reads is not there
pub data IsModuleMissing (words : List (List ℕ)) (files : Option Files) : Type 0 where
  of_timing : (m : List ℕ) → IsTimingOf words m → IsAbsent files m → IsModuleMissing words files
  of_blast : (c : Blast) → IsBlastOf words c → IsAbsent files c.module_file → IsModuleMissing words files
  of_link : (c : Link) → IsLinkOf words c → length c.stages ≤ 16 → IsOneAbsent files c.stages → IsModuleMissing words files
