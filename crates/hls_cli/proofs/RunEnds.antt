-- What a run's status says, from what its work gave and what the last put gave.
use Rattle.std.proofs.Common.{◌≡◌, ◌⊎◌, ◌≤◌, ℕ, List, Option, Some, None, Result, Ok, Err, IfOk, inl, inr, refl, sym, ◌∙◌, subst, arith}
use Rattle.hls_base.specs.declared.refusal.Refusal.{Refusal}
use Rattle.hls_base.specs.Outside.{Files, HasRisen, WhereTold, IsAbsent, PutsAll, PutsPrefix}
use Rattle.hls_base.proofs.OutsideLemmas.{WhereTold-same}
use Rattle.hls_flow.specs.FirstFault.{IsAccepted, IsFirstFault}
use Rattle.hls_flow.proofs.Faults.{accepted_has_no_fault}
use Rattle.command_words.specs.Commands as command
use Rattle.command_words.specs.Commands.{Synth, Cosim, Blast, Link}
use Rattle.hls_cli.specs.declared.work.Answer.{Answer}
use Rattle.hls_flow.specs.declared.verdict.CosimInputs.{CosimInputs}
use Rattle.hls_cli.specs.Comparisons.{IsGiven, IsCosimAnswer, IsCosimWork, answers, IsSoakWork, IsComparisonAnswer}
use Rattle.hls_cli.specs.Comparisons as comparisons
use Rattle.hls_cli.specs.Ends.{Seen, between, Ends, IsFinish, done, failed, starved}
use Rattle.hls_cli.specs.Lines.{fault_line, memory_line, usage_line}
use Rattle.hls_cli.specs.ModuleRuns.{IsModuleOutcome, IsModuleMissing}
use Rattle.hls_cli.specs.Words.{IsSynth, IsCosim, IsSoak, IsUsage, IsComparison, IsOnModules}
use Rattle.hls_cli.specs.Work as work
use Rattle.hls_cli.specs.Work.{IsSynthWork, IsVerdictStatus}
use Rattle.module_commands.specs.declared.outcome.Outcome.{Outcome}
use Rattle.module_commands.specs.Work.{SameFiles, Leaves, IsStoppedWork}
use Rattle.hls_cli.specs.SynthRun.{IsSourceOf, IsRefused, IsStopped, PutsCutLine, Outside, RanToModule, RanToRefusal, RanToUsage, RanToVerdict, RanToOutcome, IsCutOff, HasFault}
use Rattle.hls_cli.specs.SynthRun as run
use Rattle.hls_cli.specs.Completeness.{IsComplete}
use Rattle.hls_cli.specs.Completeness as complete
use Rattle.hls_cli.proofs.Comparable.{all_there, comparable_agrees}
use Rattle.hls_cli.proofs.ModuleOutcomes.{outcome_status, missing_module}

pub same_files : (old new : Option Files) → new ≡ old → WhereTold SameFiles old new
same_files old new e = subst (λ n. WhereTold SameFiles old n) (sym e) (WhereTold-same SameFiles old old refl (λ x name. refl))

-- ---- words are one command

one_command : (words : List (List ℕ)) (c d : Synth) → IsSynth words c → IsSynth words d → d ≡ c
one_command words c d first second = let e : Some (command.synth d) ≡ Some (command.synth c) = sym second ∙ first in cc

one_comparison : (words : List (List ℕ)) (c d : Cosim) → IsCosim words c → IsCosim words d → c ≡ d
one_comparison words c d first second = let e : Some (command.cosim c) ≡ Some (command.cosim d) = sym first ∙ second in cc

no_usage : (words : List (List ℕ)) (old : Option Files) → IsUsage words → IsComplete words old → ⊥
no_usage words old is (complete.of_synth c files it told can) = let e : Some (command.synth c) ≡ None = sym it ∙ is in cc
no_usage words old is (complete.of_cosim c files it told can) = let e : Some (command.cosim c) ≡ None = sym it ∙ is in cc
no_usage words old is (complete.of_soak n it) = let e : Some (command.soak n) ≡ None = sym it ∙ is in cc
no_usage words old is (complete.of_timing w it can) = let e : Some (command.timing w) ≡ None = sym it ∙ is in cc
no_usage words old is (complete.of_blast w it can) = let e : Some (command.blast w) ≡ None = sym it ∙ is in cc
no_usage words old is (complete.of_link w it can) = let e : Some (command.link w) ≡ None = sym it ∙ is in cc

-- ---- an accepted source is refused by no status

one_source : (c : Synth) (files : Files) (s t : List ℕ) → IsSourceOf c files s → IsSourceOf c files t → s ≡ t
one_source c files s t first second =
    let found : Some first.whole ≡ Some second.whole = sym first.found ∙ second.found in
    let whole : first.whole ≡ second.whole = cc in
    let e1 = first.first in
    let e2 = second.first in
    cc

not_both : (c : Synth) (files : Files) (s t : List ℕ) (fault : Refusal) → IsSourceOf c files s → IsSourceOf c files t → IsFirstFault s c.top fault → IsAccepted t c.top → ⊥
not_both c files s t fault first second refused accepted =
    let same : s ≡ t = one_source c files s t first second in
    let here : IsFirstFault t c.top fault = subst (λ u. IsFirstFault u c.top fault) same refused in
    accepted_has_no_fault t c.top fault accepted here

refused_told : (c : Synth) (files : Files) (s : List ℕ) (fault : Refusal) (new : Option Files) → IsSourceOf c files s → IsAccepted s c.top → WhereTold (IsRefused c fault) (Some files) new → ⊥
refused_told c files s fault None is accepted told = told
refused_told c files s fault (Some new) is accepted told = not_both c files told.source s fault told.source_is is told.first_fault accepted

never_refused : (words : List (List ℕ)) (c : Synth) (fault : Refusal) (old new : Option Files) → IsSynth words c → WhereTold (IsRefused c fault) old new → IsComplete words old → ⊥
never_refused words c fault old new is refused (complete.of_synth d files it told can) =
    let same : c ≡ d = one_command words d c it is in
    let here : WhereTold (IsRefused d fault) old new = subst (λ x. WhereTold (IsRefused x fault) old new) same refused in
    refused_told d files can.source fault new can.source_is can.accepted (subst (λ f. WhereTold (IsRefused d fault) f new) told here)
never_refused words c fault old new is refused (complete.of_cosim d files it told can) = let e : Some (command.cosim d) ≡ Some (command.synth c) = sym it ∙ is in cc
never_refused words c fault old new is refused (complete.of_soak n it) = let e : Some (command.soak n) ≡ Some (command.synth c) = sym it ∙ is in cc
never_refused words c fault old new is refused (complete.of_timing w it can) = let e : Some (command.timing w) ≡ Some (command.synth c) = sym it ∙ is in cc
never_refused words c fault old new is refused (complete.of_blast w it can) = let e : Some (command.blast w) ≡ Some (command.synth c) = sym it ∙ is in cc
never_refused words c fault old new is refused (complete.of_link w it can) = let e : Some (command.link w) ≡ Some (command.synth c) = sym it ∙ is in cc

absent_source : (words : List (List ℕ)) (c : Synth) (old : Option Files) → IsSynth words c → IsAbsent old c.source → IsComplete words old → ⊥
absent_source words c old is absent (complete.of_synth d files it told can) =
    let same : c ≡ d = one_command words d c it is in
    let there : IsAbsent (Some files) d.source = subst (λ f. IsAbsent f d.source) told (subst (λ x. IsAbsent old x.source) same absent) in
    let e : None ≡ Some can.source_is.whole = sym there ∙ can.source_is.found in
    cc
absent_source words c old is absent (complete.of_cosim d files it told can) = let e : Some (command.cosim d) ≡ Some (command.synth c) = sym it ∙ is in cc
absent_source words c old is absent (complete.of_soak n it) = let e : Some (command.soak n) ≡ Some (command.synth c) = sym it ∙ is in cc
absent_source words c old is absent (complete.of_timing w it can) = let e : Some (command.timing w) ≡ Some (command.synth c) = sym it ∙ is in cc
absent_source words c old is absent (complete.of_blast w it can) = let e : Some (command.blast w) ≡ Some (command.synth c) = sym it ∙ is in cc
absent_source words c old is absent (complete.of_link w it can) = let e : Some (command.link w) ≡ Some (command.synth c) = sym it ∙ is in cc

-- ---- files that agree are found to agree

cosim_absent : (words : List (List ℕ)) (c : Cosim) (old : Option Files) → IsCosim words c
    → IsAbsent old c.source ⊎ (IsAbsent old c.module_file ⊎ (IsAbsent old c.report ⊎ IsAbsent old c.run)) → IsComplete words old → ⊥
cosim_absent words c old is absent (complete.of_synth d files it told can) = let e : Some (command.synth d) ≡ Some (command.cosim c) = sym it ∙ is in cc
cosim_absent words c old is absent (complete.of_soak n it) = let e : Some (command.soak n) ≡ Some (command.cosim c) = sym it ∙ is in cc
cosim_absent words c old is absent (complete.of_timing w it can) = let e : Some (command.timing w) ≡ Some (command.cosim c) = sym it ∙ is in cc
cosim_absent words c old is absent (complete.of_blast w it can) = let e : Some (command.blast w) ≡ Some (command.cosim c) = sym it ∙ is in cc
cosim_absent words c old is absent (complete.of_link w it can) = let e : Some (command.link w) ≡ Some (command.cosim c) = sym it ∙ is in cc
cosim_absent words c old is absent (complete.of_cosim d files it told can) =
    let same : c ≡ d = one_comparison words c d is it in
    all_there d files can.given can.given_is
    (subst (λ f. IsAbsent f d.source ⊎ (IsAbsent f d.module_file ⊎ (IsAbsent f d.report ⊎ IsAbsent f d.run))) told
    (subst (λ x. IsAbsent old x.source ⊎ (IsAbsent old x.module_file ⊎ (IsAbsent old x.report ⊎ IsAbsent old x.run))) same absent))

cosim_completes : (words : List (List ℕ)) (c : Cosim) (old : Option Files) (n : ℕ) (lines : List ℕ) → IsCosim words c → IsCosimWork c old n lines → IsComplete words old → n ≡ 0
cosim_completes words c old n lines is work (complete.of_synth d files it told can) = let e : Some (command.synth d) ≡ Some (command.cosim c) = sym it ∙ is in absurd cc
cosim_completes words c old n lines is work (complete.of_soak m it) = let e : Some (command.soak m) ≡ Some (command.cosim c) = sym it ∙ is in absurd cc
cosim_completes words c old n lines is work (complete.of_timing w it can) = let e : Some (command.timing w) ≡ Some (command.cosim c) = sym it ∙ is in absurd cc
cosim_completes words c old n lines is work (complete.of_blast w it can) = let e : Some (command.blast w) ≡ Some (command.cosim c) = sym it ∙ is in absurd cc
cosim_completes words c old n lines is work (complete.of_link w it can) = let e : Some (command.link w) ≡ Some (command.cosim c) = sym it ∙ is in absurd cc
cosim_completes words c old n lines is work (complete.of_cosim d files it told can) =
    let same : c ≡ d = one_comparison words c d is it in
    comparable_agrees d files n lines can (subst (λ f. IsCosimWork d f n lines) told (subst (λ x. IsCosimWork x old n lines) same work))

-- ---- what one status says

module _ (words : List (List ℕ)) (old new : Seen) where
  -- nothing that could be compiled was left
  abbrev Hopeless : Type 0
  Hopeless = IsComplete words old.files → ⊥

  ends_made : RanToModule words (between old new) ⊎ (RanToVerdict words 0 (between old new) ⊎ RanToOutcome words 0 (between old new)) → Ends words old new 0
  ends_made ran = record {
    known = omega arith;
    made = λ e. ran;
    refused = λ e. absurd (cc);
    usage = λ e. absurd (cc);
    compared = λ e. absurd (omega (arith, e));
    fault = λ e. absurd (cc);
    after_fault = λ e. absurd (cc);
    after_memory = λ e. absurd (cc);
    complete = λ it shelf sink. inl refl;
  }

  ends_refused : RanToRefusal words (between old new) ⊎ RanToVerdict words 1 (between old new) → Hopeless → Ends words old new 1
  ends_refused ran never = record {
    known = omega arith;
    made = λ e. absurd (cc);
    refused = λ e. ran;
    usage = λ e. absurd (omega (arith, e));
    compared = λ e. absurd (omega (arith, e));
    fault = λ e. absurd (omega (arith, e));
    after_fault = λ e. absurd (omega (arith, e));
    after_memory = λ e. absurd (omega (arith, e));
    complete = λ it shelf sink. absurd (never it);
  }

  ends_usage : RanToUsage words (between old new) → Hopeless → Ends words old new 2
  ends_usage ran never = record {
    known = omega arith;
    made = λ e. absurd (omega (arith, e));
    refused = λ e. absurd (omega (arith, e));
    usage = λ e. ran;
    compared = λ e. absurd (omega (arith, e));
    fault = λ e. absurd (omega (arith, e));
    after_fault = λ e. absurd (omega (arith, e));
    after_memory = λ e. absurd (omega (arith, e));
    complete = λ it shelf sink. absurd (never it);
  }

  ends_compared : (status : ℕ) → 5 ≤ status → status ≤ 9 → RanToVerdict words status (between old new) ⊎ RanToOutcome words status (between old new) → Hopeless → Ends words old new status
  ends_compared status high low ran never = record {
    known = low;
    made = λ e. absurd (omega (arith, e, high));
    refused = λ e. absurd (omega (arith, e, high));
    usage = λ e. absurd (omega (arith, e, high));
    compared = λ e. ran;
    fault = λ e. absurd (omega (arith, e, high));
    after_fault = λ e. absurd (omega (arith, e, high));
    after_memory = λ e. absurd (omega (arith, e, high));
    complete = λ it shelf sink. absurd (never it);
  }

  ends_failed : HasFault words old.files old.shelf_faults new.shelf_faults old.sink_faults new.sink_faults → IsCutOff words fault_line (between old new)
      → (IsComplete words old.files → (¬ HasRisen old.shelf_faults new.shelf_faults) → (¬ HasRisen old.sink_faults new.sink_faults) → ⊥) → Ends words old new 3
  ends_failed risen cut never = record {
    known = omega arith;
    made = λ e. absurd (omega (arith, e));
    refused = λ e. absurd (omega (arith, e));
    usage = λ e. absurd (omega (arith, e));
    compared = λ e. absurd (omega (arith, e));
    fault = λ e. risen;
    after_fault = λ e. cut;
    after_memory = λ e. absurd (omega (arith, e));
    complete = λ it shelf sink. absurd (never it shelf sink);
  }

  ends_starved : IsCutOff words memory_line (between old new) → Ends words old new 4
  ends_starved cut = record {
    known = omega arith;
    made = λ e. absurd (omega (arith, e));
    refused = λ e. absurd (omega (arith, e));
    usage = λ e. absurd (omega (arith, e));
    compared = λ e. absurd (omega (arith, e));
    fault = λ e. absurd (omega (arith, e));
    after_fault = λ e. absurd (omega (arith, e));
    after_memory = λ e. cut;
    complete = λ it shelf sink. inr refl;
  }

  -- the sink failed as the lines were put
  ends_cut : (status : ℕ) → status ≡ 3 → HasRisen old.sink_faults new.sink_faults → IsCutOff words fault_line (between old new) → Ends words old new status
  ends_cut status e rose cut = subst (Ends words old new) (sym e) (ends_failed (inr (inl rose)) cut (λ it shelf sink. sink rose))

  ends_cut_short : (status : ℕ) → status ≡ 4 → IsCutOff words memory_line (between old new) → Ends words old new status
  ends_cut_short status e cut = subst (Ends words old new) (sym e) (ends_starved cut)

  -- the work failed before there was a line
  pub synth_failed : (c : Synth) (status : ℕ) → status ≡ 3 → IsSynth words c → HasRisen old.shelf_faults new.shelf_faults ⊎ IsAbsent old.files c.source
      → WhereTold (IsStopped c) old.files new.files → WhereTold (PutsPrefix fault_line) old.bytes new.bytes → Ends words old new status
  synth_failed c status e is (inl rose) files bytes = subst (Ends words old new) (sym e) (ends_failed (inl rose) (run.stopped c is files bytes) (λ it shelf sink. shelf rose))
  synth_failed c status e is (inr absent) files bytes =
      subst (Ends words old new) (sym e) (ends_failed (inr (inr (run.of_synth c is absent))) (run.stopped c is files bytes) (λ it shelf sink. absent_source words c old.files is absent it))

  pub synth_starved : (c : Synth) (status : ℕ) → status ≡ 4 → IsSynth words c → WhereTold (IsStopped c) old.files new.files → WhereTold (PutsPrefix memory_line) old.bytes new.bytes → Ends words old new status
  synth_starved c status e is files bytes = ends_cut_short status e (run.stopped c is files bytes)

  -- ---- what was made, or refused

  synth_cut : (c : Synth) (a : Answer) (put last : List ℕ) → IsSynth words c → IsSynthWork c old.files new.files a → put ≡ a.lines → WhereTold (PutsCutLine put last) old.bytes new.bytes
      → IsCutOff words last (between old new)
  synth_cut c a put last is (work.made zero said files) e bytes = run.at_made c is files (subst (λ l. WhereTold (PutsCutLine l last) old.bytes new.bytes) (e ∙ said) bytes)
  synth_cut c a put last is (work.refused fault one said files) e bytes = run.at_refusal c fault is files (subst (λ l. WhereTold (PutsCutLine l last) old.bytes new.bytes) (e ∙ said) bytes)

  synth_done : (c : Synth) (a : Answer) (put : List ℕ) (status : ℕ) → IsSynth words c → IsSynthWork c old.files new.files a → put ≡ a.lines → status ≡ a.status → WhereTold (PutsAll put) old.bytes new.bytes
      → Ends words old new status
  synth_done c a put status is (work.made zero said files) e same bytes =
      subst (Ends words old new) (sym (same ∙ zero))
      (ends_made (inl (record { command = c; is = is; files = files; bytes = subst (λ l. WhereTold (PutsAll l) old.bytes new.bytes) (e ∙ said) bytes })))
  synth_done c a put status is (work.refused fault one said files) e same bytes =
      subst (Ends words old new) (sym (same ∙ one))
      (ends_refused (inl (record { command = c; is = is; fault = fault; files = files; bytes = subst (λ l. WhereTold (PutsAll l) old.bytes new.bytes) (e ∙ said) bytes }))
      (λ it. never_refused words c fault old.files new.files is files it))

  pub synth_ends : (c : Synth) (a : Answer) (put : List ℕ) (status : ℕ) → IsSynth words c → IsSynthWork c old.files new.files a → put ≡ a.lines
      → IsFinish a.status put old.bytes new.bytes old.sink_faults new.sink_faults status → Ends words old new status
  synth_ends c a put status is it e (done same bytes) = synth_done c a put status is it e same bytes
  synth_ends c a put status is it e (failed three rose bytes) = ends_cut status three rose (synth_cut c a put fault_line is it e bytes)
  synth_ends c a put status is it e (starved four bytes) = ends_cut_short status four (synth_cut c a put memory_line is it e bytes)

  -- ---- comparisons

  -- what nothing is wrong with ends with status 0
  abbrev EndsWell : ℕ → Type 0
  EndsWell n = IsComplete words old.files → n ≡ 0

  -- the status is that of a verdict
  ends_verdict : (n : ℕ) → IsVerdictStatus n → RanToVerdict words n (between old new) → EndsWell n → Ends words old new n
  ends_verdict n (inl zero) ran well = subst (Ends words old new) (sym zero) (ends_made (inr (inl (subst (λ k. RanToVerdict words k (between old new)) zero ran))))
  ends_verdict n (inr (inl one)) ran well =
      subst (Ends words old new) (sym one) (ends_refused (inr (subst (λ k. RanToVerdict words k (between old new)) one ran)) (λ it. omega (arith, one, well it)))
  ends_verdict n (inr (inr (high, low))) ran well = ends_compared n high low (inl ran) (λ it. omega (arith, high, well it))

  verdict_cut : (n : ℕ) (put lines last : List ℕ) → IsComparisonAnswer words old.files n lines → put ≡ lines → new.files ≡ old.files → WhereTold (PutsCutLine put last) old.bytes new.bytes
      → IsCutOff words last (between old new)
  verdict_cut n put lines last answer e same bytes =
      run.at_comparison n put (subst (IsComparisonAnswer words old.files n) (sym e) answer) (same_files old.files new.files same) bytes

  verdict_ends : (n : ℕ) (put lines : List ℕ) (status : ℕ) → IsVerdictStatus n → IsComparisonAnswer words old.files n lines → put ≡ lines → new.files ≡ old.files → EndsWell n
      → IsFinish n put old.bytes new.bytes old.sink_faults new.sink_faults status → Ends words old new status
  verdict_ends n put lines status is answer e same well (done kept bytes) =
      subst (Ends words old new) (sym kept)
      (ends_verdict n is
      (record { lines = put; answer = subst (IsComparisonAnswer words old.files n) (sym e) answer; files = same_files old.files new.files same; bytes = bytes }) well)
  verdict_ends n put lines status is answer e same well (failed three rose bytes) = ends_cut status three rose (verdict_cut n put lines fault_line answer e same bytes)
  verdict_ends n put lines status is answer e same well (starved four bytes) = ends_cut_short status four (verdict_cut n put lines memory_line answer e same bytes)

  pub cosim_ends : (c : Cosim) (n : ℕ) (put lines : List ℕ) (status : ℕ) → IsCosim words c → IsVerdictStatus n → IsCosimWork c old.files n lines → put ≡ lines → new.files ≡ old.files
      → IsFinish n put old.bytes new.bytes old.sink_faults new.sink_faults status → Ends words old new status
  cosim_ends c n put lines status is known it e same finish =
      verdict_ends n put lines status known (comparisons.of_cosim c is it) e same (λ whole. cosim_completes words c old.files n lines is it whole) finish

  pub soak_ends : (number n : ℕ) (put lines : List ℕ) (status : ℕ) → IsSoak words number → n ≡ 0 → IsSoakWork number n lines → put ≡ lines → new.files ≡ old.files
      → IsFinish n put old.bytes new.bytes old.sink_faults new.sink_faults status → Ends words old new status
  soak_ends number n put lines status is zero it e same finish =
      verdict_ends n put lines status (inl zero) (comparisons.of_soak number is it) e same (λ whole. zero) finish

  -- the work of a comparison stopped before there was a line
  pub cosim_failed : (c : Cosim) (status : ℕ) → status ≡ 3 → IsCosim words c
      → HasRisen old.shelf_faults new.shelf_faults ⊎ (IsAbsent old.files c.source ⊎ (IsAbsent old.files c.module_file ⊎ (IsAbsent old.files c.report ⊎ IsAbsent old.files c.run)))
      → new.files ≡ old.files → WhereTold (PutsPrefix fault_line) old.bytes new.bytes → Ends words old new status
  cosim_failed c status e is (inl rose) same bytes =
      subst (Ends words old new) (sym e)
      (ends_failed (inl rose) (run.uncompared (inl (c, is)) (same_files old.files new.files same) bytes) (λ it shelf sink. shelf rose))
  cosim_failed c status e is (inr absent) same bytes =
      subst (Ends words old new) (sym e)
      (ends_failed (inr (inr (run.of_cosim c is absent))) (run.uncompared (inl (c, is)) (same_files old.files new.files same) bytes) (λ it shelf sink. cosim_absent words c old.files is absent it))

  pub comparison_starved : (status : ℕ) → status ≡ 4 → IsComparison words → new.files ≡ old.files → WhereTold (PutsPrefix memory_line) old.bytes new.bytes → Ends words old new status
  comparison_starved status e is same bytes = ends_cut_short status e (run.uncompared is (same_files old.files new.files same) bytes)

  -- ---- commands on modules

  outcome_cut : (name : List ℕ) (o : Outcome) (put last : List ℕ) → IsModuleOutcome words old.files name o → WhereTold (Leaves name o.written) old.files new.files → put ≡ o.line
      → WhereTold (PutsCutLine put last) old.bytes new.bytes → IsCutOff words last (between old new)
  outcome_cut name o put last is files e bytes = run.at_outcome name o is files (subst (λ l. WhereTold (PutsCutLine l last) old.bytes new.bytes) e bytes)

  ends_outcome : (n : ℕ) → (n ≡ 0) ⊎ (n ≡ 8) → RanToOutcome words n (between old new) → EndsWell n → Ends words old new n
  ends_outcome n (inl zero) ran well = subst (Ends words old new) (sym zero) (ends_made (inr (inr (subst (λ k. RanToOutcome words k (between old new)) zero ran))))
  ends_outcome n (inr eight) ran well = ends_compared n (omega (arith, eight)) (omega (arith, eight)) (inr ran) (λ it. omega (arith, eight, well it))

  pub outcome_ends : (name : List ℕ) (o : Outcome) (put : List ℕ) (status : ℕ) → IsModuleOutcome words old.files name o → WhereTold (Leaves name o.written) old.files new.files → put ≡ o.line → EndsWell o.status
      → IsFinish o.status put old.bytes new.bytes old.sink_faults new.sink_faults status → Ends words old new status
  outcome_ends name o put status is files e well (done kept bytes) =
      subst (Ends words old new) (sym kept)
      (ends_outcome o.status (outcome_status words old.files name o is)
      (record { name = name; outcome = o; is = is; status_is = refl; files = files; bytes = subst (λ l. WhereTold (PutsAll l) old.bytes new.bytes) e bytes }) well)
  outcome_ends name o put status is files e well (failed three rose bytes) = ends_cut status three rose (outcome_cut name o put fault_line is files e bytes)
  outcome_ends name o put status is files e well (starved four bytes) = ends_cut_short status four (outcome_cut name o put memory_line is files e bytes)

  -- the work stopped before there was a line
  pub modules_failed : (name : List ℕ) (status : ℕ) → status ≡ 3 → IsOnModules words → HasRisen old.shelf_faults new.shelf_faults ⊎ IsModuleMissing words old.files
      → IsStoppedWork (IsModuleOutcome words old.files name) name old.files new.files → WhereTold (PutsPrefix fault_line) old.bytes new.bytes → Ends words old new status
  modules_failed name status e is (inl rose) stopped bytes = subst (Ends words old new) (sym e) (ends_failed (inl rose) (run.unfinished name is stopped bytes) (λ it shelf sink. shelf rose))
  modules_failed name status e is (inr missing) stopped bytes =
      subst (Ends words old new) (sym e)
      (ends_failed (inr (inr (run.of_modules missing))) (run.unfinished name is stopped bytes) (λ it shelf sink. missing_module words old.files missing it))

  pub modules_starved : (name : List ℕ) (status : ℕ) → status ≡ 4 → IsOnModules words → IsStoppedWork (IsModuleOutcome words old.files name) name old.files new.files
      → WhereTold (PutsPrefix memory_line) old.bytes new.bytes → Ends words old new status
  modules_starved name status e is stopped bytes = ends_cut_short status e (run.unfinished name is stopped bytes)

  -- ---- words that are no command, or were not read

  pub usage_ends : (put : List ℕ) (status : ℕ) → IsUsage words → put ≡ usage_line → new.files ≡ old.files → IsFinish 2 put old.bytes new.bytes old.sink_faults new.sink_faults status
      → Ends words old new status
  usage_ends put status is e same (done kept bytes) =
      subst (Ends words old new) (sym kept)
      (ends_usage (record { usage = is; files = same_files old.files new.files same; bytes = subst (λ l. WhereTold (PutsAll l) old.bytes new.bytes) e bytes }) (λ it. no_usage words old.files is it))
  usage_ends put status is e same (failed three rose bytes) =
      ends_cut status three rose (run.at_usage is (same_files old.files new.files same) (subst (λ l. WhereTold (PutsCutLine l fault_line) old.bytes new.bytes) e bytes))
  usage_ends put status is e same (starved four bytes) =
      ends_cut_short status four (run.at_usage is (same_files old.files new.files same) (subst (λ l. WhereTold (PutsCutLine l memory_line) old.bytes new.bytes) e bytes))

  pub unread_ends : (status : ℕ) → status ≡ 4 → new.files ≡ old.files → WhereTold (PutsPrefix memory_line) old.bytes new.bytes → Ends words old new status
  unread_ends status e same bytes = ends_cut_short status e (run.unread refl (same_files old.files new.files same) bytes)

-- what a comparison says of what was read
pub cosim_work : {E : Type 0} (c : Cosim) (files : Option Files) (given : CosimInputs) (r : Result Answer E) → IsGiven c files given → IfOk r (λ a. IsCosimAnswer given a.status a.lines)
    → IfOk r (λ a. IsCosimWork c files a.status a.lines)
cosim_work c files given (Ok a) is answer = answers given is answer
cosim_work c files given (Err e) is answer = tt
