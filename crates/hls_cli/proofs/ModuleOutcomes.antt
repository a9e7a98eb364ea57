-- Outcomes of commands on modules: their status, and that what can be done is done.
use Rattle.std.proofs.Common.{◌≡◌, ◌⊎◌, ◌≤◌, ℕ, List, [], ◌∷◌, length, Option, Some, None, inl, inr, refl, sym, ◌∙◌, subst}
use Rattle.std.specs.Prelude.{take, IsSomeAnd}
use Rattle.hls_base.specs.Outside.{Files, WhereTold, IsAbsent}
use Rattle.hls_base.proofs.OutsideLemmas.{WhereTold-same}
use Rattle.command_words.specs.Commands as command
use Rattle.command_words.specs.Commands.{Blast, Link}
use Rattle.module_commands.specs.declared.outcome.Outcome.{Outcome}
use Rattle.module_commands.specs.Outcomes.{IsTiming, IsBlast, IsLink, IsRead, IsReadAndSmall}
use Rattle.module_commands.specs.Work as work
use Rattle.module_commands.specs.Work.{read_bytes, AreFirstTexts, IsOneAbsent, IsTimingWork, IsLinkWork, SameFiles, Leaves, CanTime, CanBlast, CanLink}
use Rattle.hls_cli.specs.ModuleRuns as runs
use Rattle.hls_cli.specs.ModuleRuns.{IsModuleOutcome, IsModuleMissing}
use Rattle.hls_cli.specs.Words.{IsTimingOf, IsBlastOf, IsLinkOf}
use Rattle.hls_cli.specs.Completeness.{IsComplete}
use Rattle.hls_cli.specs.Completeness as complete

-- ---- the status

abbrev IsKnown : ℕ → Type 0
IsKnown n = (n ≡ 0) ⊎ (n ≡ 8)

timing_status : (text : List ℕ) (o : Outcome) → IsTiming text o → IsKnown o.status
timing_status text o (IsTiming.done d is it) = inl it.status
timing_status text o (IsTiming.refused r is it) = inr it.status

blast_status : (text : List ℕ) (o : Outcome) → IsBlast text o → IsKnown o.status
blast_status text o (IsBlast.done d is small it) = inl it.status
blast_status text o (IsBlast.refused r is it) = inr it.status
blast_status text o (IsBlast.too_large d r is large it) = inr it.status

link_status : (texts : List (List ℕ)) (depth : ℕ) (o : Outcome) → IsLink texts depth o → IsKnown o.status
link_status texts depth o (IsLink.done ds are few stages it) = inl it.status
link_status texts depth o (IsLink.refused r is it) = inr it.status
link_status texts depth o (IsLink.unlinked ds r are fault it) = inr it.status

link_work_status : (c : Link) (files : Option Files) (o : Outcome) → IsLinkWork c files o → IsKnown o.status
link_work_status c files o (work.of_texts texts few are is) = link_status texts c.depth o is
link_work_status c files o (work.too_many many is) = inr is.status

pub outcome_status : (words : List (List ℕ)) (files : Option Files) (name : List ℕ) (o : Outcome) → IsModuleOutcome words files name o → IsKnown o.status
outcome_status words files name o (runs.of_timing m is (text, first, it)) = timing_status text o it
outcome_status words files name o (runs.of_blast c is named (text, first, it)) = blast_status text o it
outcome_status words files name o (runs.of_link c is named it) = link_work_status c files o it

-- ---- `timing` writes nothing

timing_written : (text : List ℕ) (o : Outcome) → IsTiming text o → o.written ≡ None
timing_written text o (IsTiming.done d is it) = it.written
timing_written text o (IsTiming.refused r is it) = it.written

pub timing_leaves : (name : List ℕ) (files : Option Files) (o : Outcome) (m : List ℕ) (old new : Option Files) → IsTimingWork m files o → new ≡ old → WhereTold (Leaves name o.written) old new
timing_leaves name files o m old new (text, first, it) same =
    subst (λ w. WhereTold (Leaves name w) old new) (sym (timing_written text o it)) (WhereTold-same SameFiles old new same (λ x n. refl))

-- ---- a module that is not there is not read

none_there : (P : List ℕ → Type 0) (found : Option (List ℕ)) → found ≡ None → IsSomeAnd found P → ⊥
none_there P None e it = it
none_there P (Some whole) e it = let clash : Some whole ≡ None = e in cc

absent_module : (P : List ℕ → Type 0) (told : Option Files) (name : List ℕ) → IsAbsent told name → IsSomeAnd told (λ files. IsSomeAnd (files name) (λ whole. P (take read_bytes whole))) → ⊥
absent_module P None name absent it = it
absent_module P (Some files) name absent it = none_there (λ whole. P (take read_bytes whole)) (files name) absent it

one_absent : (files : Files) (names texts : List (List ℕ)) → IsOneAbsent (Some files) names → AreFirstTexts (Some files) names texts → ⊥
one_absent files [] texts absent are = absent
one_absent files (n ∷ ns) [] absent are = are
one_absent files (n ∷ ns) (t ∷ ts) (inl absent) are = none_there (λ whole. t ≡ take read_bytes whole) (files n) absent are.0
one_absent files (n ∷ ns) (t ∷ ts) (inr absent) are = one_absent files ns ts absent are.1

absent_stage : (told : Option Files) (names : List (List ℕ)) → IsOneAbsent told names → CanLink told names → ⊥
absent_stage None names absent can = can
absent_stage (Some files) names absent can = one_absent files names can.0 absent can.1

-- ---- words are one command

one_timing : (words : List (List ℕ)) (m n : List ℕ) → IsTimingOf words m → IsTimingOf words n → m ≡ n
one_timing words m n first second = let e : Some (command.timing m) ≡ Some (command.timing n) = sym first ∙ second in cc

one_blast : (words : List (List ℕ)) (c d : Blast) → IsBlastOf words c → IsBlastOf words d → c ≡ d
one_blast words c d first second = let e : Some (command.blast c) ≡ Some (command.blast d) = sym first ∙ second in cc

one_link : (words : List (List ℕ)) (c d : Link) → IsLinkOf words c → IsLinkOf words d → c ≡ d
one_link words c d first second = let e : Some (command.link c) ≡ Some (command.link d) = sym first ∙ second in cc

-- ---- what can be done is done

pub timing_completes : (words : List (List ℕ)) (files : Option Files) (m : List ℕ) (n : ℕ) → IsTimingOf words m → (CanTime files m → n ≡ 0) → IsComplete words files → n ≡ 0
timing_completes words files m n is well (complete.of_timing w it can) = well (subst (λ x. CanTime files x) (one_timing words w m it is) can)
timing_completes words files m n is well (complete.of_synth w fs it told can) = let e : Some (command.synth w) ≡ Some (command.timing m) = sym it ∙ is in absurd cc
timing_completes words files m n is well (complete.of_cosim w fs it told can) = let e : Some (command.cosim w) ≡ Some (command.timing m) = sym it ∙ is in absurd cc
timing_completes words files m n is well (complete.of_soak w it) = let e : Some (command.soak w) ≡ Some (command.timing m) = sym it ∙ is in absurd cc
timing_completes words files m n is well (complete.of_blast w it can) = let e : Some (command.blast w) ≡ Some (command.timing m) = sym it ∙ is in absurd cc
timing_completes words files m n is well (complete.of_link w it can) = let e : Some (command.link w) ≡ Some (command.timing m) = sym it ∙ is in absurd cc

pub blast_completes : (words : List (List ℕ)) (files : Option Files) (c : Blast) (n : ℕ) → IsBlastOf words c → (CanBlast files c.module_file → n ≡ 0) → IsComplete words files → n ≡ 0
blast_completes words files c n is well (complete.of_blast w it can) = well (subst (λ x. CanBlast files x.module_file) (one_blast words w c it is) can)
blast_completes words files c n is well (complete.of_synth w fs it told can) = let e : Some (command.synth w) ≡ Some (command.blast c) = sym it ∙ is in absurd cc
blast_completes words files c n is well (complete.of_cosim w fs it told can) = let e : Some (command.cosim w) ≡ Some (command.blast c) = sym it ∙ is in absurd cc
blast_completes words files c n is well (complete.of_soak w it) = let e : Some (command.soak w) ≡ Some (command.blast c) = sym it ∙ is in absurd cc
blast_completes words files c n is well (complete.of_timing w it can) = let e : Some (command.timing w) ≡ Some (command.blast c) = sym it ∙ is in absurd cc
blast_completes words files c n is well (complete.of_link w it can) = let e : Some (command.link w) ≡ Some (command.blast c) = sym it ∙ is in absurd cc

pub link_completes : (words : List (List ℕ)) (files : Option Files) (c : Link) (n : ℕ) → IsLinkOf words c → (CanLink files c.stages → n ≡ 0) → IsComplete words files → n ≡ 0
link_completes words files c n is well (complete.of_link w it can) = well (subst (λ x. CanLink files x.stages) (one_link words w c it is) can)
link_completes words files c n is well (complete.of_synth w fs it told can) = let e : Some (command.synth w) ≡ Some (command.link c) = sym it ∙ is in absurd cc
link_completes words files c n is well (complete.of_cosim w fs it told can) = let e : Some (command.cosim w) ≡ Some (command.link c) = sym it ∙ is in absurd cc
link_completes words files c n is well (complete.of_soak w it) = let e : Some (command.soak w) ≡ Some (command.link c) = sym it ∙ is in absurd cc
link_completes words files c n is well (complete.of_timing w it can) = let e : Some (command.timing w) ≡ Some (command.link c) = sym it ∙ is in absurd cc
link_completes words files c n is well (complete.of_blast w it can) = let e : Some (command.blast w) ≡ Some (command.link c) = sym it ∙ is in absurd cc

missing_timing : (words : List (List ℕ)) (files : Option Files) (m : List ℕ) → IsTimingOf words m → IsAbsent files m → IsComplete words files → ⊥
missing_timing words files m is absent (complete.of_timing w it can) = absent_module IsRead files m absent (subst (λ x. CanTime files x) (one_timing words w m it is) can)
missing_timing words files m is absent (complete.of_synth w fs it told can) = let e : Some (command.synth w) ≡ Some (command.timing m) = sym it ∙ is in cc
missing_timing words files m is absent (complete.of_cosim w fs it told can) = let e : Some (command.cosim w) ≡ Some (command.timing m) = sym it ∙ is in cc
missing_timing words files m is absent (complete.of_soak w it) = let e : Some (command.soak w) ≡ Some (command.timing m) = sym it ∙ is in cc
missing_timing words files m is absent (complete.of_blast w it can) = let e : Some (command.blast w) ≡ Some (command.timing m) = sym it ∙ is in cc
missing_timing words files m is absent (complete.of_link w it can) = let e : Some (command.link w) ≡ Some (command.timing m) = sym it ∙ is in cc

missing_blast : (words : List (List ℕ)) (files : Option Files) (c : Blast) → IsBlastOf words c → IsAbsent files c.module_file → IsComplete words files → ⊥
missing_blast words files c is absent (complete.of_blast w it can) = absent_module IsReadAndSmall files c.module_file absent (subst (λ x. CanBlast files x.module_file) (one_blast words w c it is) can)
missing_blast words files c is absent (complete.of_synth w fs it told can) = let e : Some (command.synth w) ≡ Some (command.blast c) = sym it ∙ is in cc
missing_blast words files c is absent (complete.of_cosim w fs it told can) = let e : Some (command.cosim w) ≡ Some (command.blast c) = sym it ∙ is in cc
missing_blast words files c is absent (complete.of_soak w it) = let e : Some (command.soak w) ≡ Some (command.blast c) = sym it ∙ is in cc
missing_blast words files c is absent (complete.of_timing w it can) = let e : Some (command.timing w) ≡ Some (command.blast c) = sym it ∙ is in cc
missing_blast words files c is absent (complete.of_link w it can) = let e : Some (command.link w) ≡ Some (command.blast c) = sym it ∙ is in cc

missing_link : (words : List (List ℕ)) (files : Option Files) (c : Link) → IsLinkOf words c → IsOneAbsent files c.stages → IsComplete words files → ⊥
missing_link words files c is absent (complete.of_link w it can) = absent_stage files c.stages absent (subst (λ x. CanLink files x.stages) (one_link words w c it is) can)
missing_link words files c is absent (complete.of_synth w fs it told can) = let e : Some (command.synth w) ≡ Some (command.link c) = sym it ∙ is in cc
missing_link words files c is absent (complete.of_cosim w fs it told can) = let e : Some (command.cosim w) ≡ Some (command.link c) = sym it ∙ is in cc
missing_link words files c is absent (complete.of_soak w it) = let e : Some (command.soak w) ≡ Some (command.link c) = sym it ∙ is in cc
missing_link words files c is absent (complete.of_timing w it can) = let e : Some (command.timing w) ≡ Some (command.link c) = sym it ∙ is in cc
missing_link words files c is absent (complete.of_blast w it can) = let e : Some (command.blast w) ≡ Some (command.link c) = sym it ∙ is in cc

pub missing_module : (words : List (List ℕ)) (files : Option Files) → IsModuleMissing words files → IsComplete words files → ⊥
missing_module words files (runs.of_timing m is absent) it = missing_timing words files m is absent it
missing_module words files (runs.of_blast c is absent) it = missing_blast words files c is absent it
missing_module words files (runs.of_link c is few absent) it = missing_link words files c is absent it

pub or_missing : {A B C : Type 0} → (B → C) → A ⊎ B → A ⊎ C
or_missing f (inl a) = inl a
or_missing f (inr b) = inr (f b)
