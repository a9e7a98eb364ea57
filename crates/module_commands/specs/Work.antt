-- The work of the commands `timing`, `blast` and `link` on files: what is read, what it gives, and what is left.
use Rattle.std.specs.Prelude.{◌≡◌, ◌⊎◌, ◌<◌, ◌≤◌, ℕ, List, [], ◌∷◌, length, take, Option, None, Some, IsSomeAnd}
use Rattle.hls_base.specs.Outside.{Files, WhereTold, AreFirstBytes, IsAbsent, IsWritten, IsCutShort}
use Rattle.command_words.specs.Commands.{Blast, Link}
use Rattle.chain_link.specs.Faults.{refusal_at}
use Rattle.module_commands.specs.declared.outcome.Outcome.{Outcome}
use Rattle.module_commands.specs.Outcomes.{IsTiming, IsBlast, IsLink, IsRefusal, IsRead, IsReadAndSmall, AreReadAsStages}

-- ---- what is read

-- of each module one byte more than the largest has
abbrev pub read_bytes : ℕ
read_bytes = 67108865

-- the first bytes of these files, in order
abbrev pub AreFirstTexts : Option Files → List (List ℕ) → List (List ℕ) → Type 0
AreFirstTexts files [] [] = Unit {0}
AreFirstTexts files [] (t ∷ ts) = ⊥
AreFirstTexts files (n ∷ ns) [] = ⊥
AreFirstTexts files (n ∷ ns) (t ∷ ts) = AreFirstBytes files n read_bytes t × AreFirstTexts files ns ts

-- one of these files is not there
abbrev pub IsOneAbsent : Option Files → List (List ℕ) → Type 0
IsOneAbsent files [] = ⊥
IsOneAbsent files (n ∷ ns) = IsAbsent files n ⊎ IsOneAbsent files ns

-- ---- what it gives

abbrev pub IsTimingWork : List ℕ → Option Files → Outcome → Type 0
IsTimingWork name files o = (text : List ℕ) × AreFirstBytes files name read_bytes text × IsTiming text o

abbrev pub IsBlastWork : Blast → Option Files → Outcome → Type 0
IsBlastWork c files o = (text : List ℕ) × AreFirstBytes files c.module_file read_bytes text × IsBlast text o

-- more than 16 stages are refused before any is read
pub data IsLinkWork (c : Link) (files : Option Files) (o : Outcome) : Type 0 where
  of_texts : (texts : List (List ℕ)) → length c.stages ≤ 16 → AreFirstTexts files c.stages texts → IsLink texts c.depth o → IsLinkWork c files o
  too_many : 16 < length c.stages → IsRefusal (refusal_at 82 1) o → IsLinkWork c files o

-- ---- what is left

-- no file changed
abbrev pub SameFiles : Files → Files → Type 0
SameFiles old new = (name : List ℕ) → new name ≡ old name

-- the file of this name is written if there are bytes for it, and every other file is as before
abbrev pub Leaves : List ℕ → Option (List ℕ) → Files → Files → Type 0
Leaves name None old new = SameFiles old new
Leaves name (Some bytes) old new = IsWritten name bytes old new

-- The work stopped before its line: nothing was written, or the file of its outcome was cut short.
pub data IsStoppedWork (W : Outcome → Type 0) (name : List ℕ) (old new : Option Files) : Type 0 where
  unwritten : WhereTold SameFiles old new → IsStoppedWork W name old new
  cut : (o : Outcome) (bytes : List ℕ) → W o → o.written ≡ Some bytes → WhereTold (IsCutShort name bytes) old new → IsStoppedWork W name old new

-- ---- what is done unless a fault or want of memory comes

-- the file is there, and is a module
abbrev pub CanTime : Option Files → List ℕ → Type 0
CanTime told name = IsSomeAnd told (λ files. IsSomeAnd (files name) (λ whole. IsRead (take read_bytes whole)))

-- the same, and the module is small enough
abbrev pub CanBlast : Option Files → List ℕ → Type 0
CanBlast told name = IsSomeAnd told (λ files. IsSomeAnd (files name) (λ whole. IsReadAndSmall (take read_bytes whole)))

-- the files are there, and are modules that can be linked
abbrev pub CanLink : Option Files → List (List ℕ) → Type 0
CanLink told names = IsSomeAnd told (λ files. (texts : List (List ℕ)) × AreFirstTexts (Some files) names texts × AreReadAsStages texts)
