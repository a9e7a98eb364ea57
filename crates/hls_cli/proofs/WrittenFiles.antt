-- How a read of the source and two writes are joined to what they left.
use Rattle.std.proofs.Common.{◌≡◌, ℕ, List, take, Option, Some, None, Result, Ok, Err, OnErr, refl, sym, ◌∙◌, subst}
use Rattle.std.specs.Prelude.{IsSomeAnd}
use Rattle.hls_base.specs.declared.refusal.Refusal.{Refusal}
use Rattle.hls_base.specs.Outside.{Files, WhereTold, AreFirstBytes, IsWritten, IsCutShort}
use Rattle.hls_base.proofs.OutsideLemmas.{WhereTold-then, WhereTold-same}
use Rattle.hls_flow.specs.FirstFault.{IsFirstFault}
use Rattle.hls_flow.specs.Synthesis.{IsSynthesis}
use Rattle.command_words.specs.Commands.{Synth}
use Rattle.command_words.specs.CommandViews.{NamesThreeFiles}
use Rattle.hls_cli.specs.Words.{settings_of}
use Rattle.module_commands.specs.Work.{SameFiles}
use Rattle.hls_cli.specs.SynthRun.{IsSourceOf, IsMade, IsRefused, IsStopped}
use Rattle.hls_cli.specs.SynthRun as run
use Rattle.hls_cli.specs.Work.{AreWritten, AreCutShort}
use Rattle.hls_cli.specs.Work as work

-- ---- two writes

-- both were whole
pub both_written : (c : Synth) (m p : List ℕ) (old between new : Option Files) → WhereTold (IsWritten c.report p) old between → WhereTold (IsWritten c.module_file m) between new →
    WhereTold (AreWritten c m p) old new
both_written c m p old between new first second = WhereTold-then old between new first second (λ x y z a b. record { between = y; report = a; module_file = b })

module_cut : (c : Synth) (m p : List ℕ) (old between new : Option Files) → WhereTold (IsWritten c.report p) old between → WhereTold (IsCutShort c.module_file m) between new →
    WhereTold (AreCutShort c m p) old new
module_cut c m p old between new first second = WhereTold-then old between new first second (λ x y z a b. work.at_module y a b)

-- the second write failed, where the first did not; its names and bytes are those of the command
pub second_cut : {E : Type 0} (r : Result (Unit {0}) E) (c : Synth) (m p name text name2 text2 : List ℕ) (old between new : Option Files) →
    name ≡ c.report → text ≡ p → name2 ≡ c.module_file → text2 ≡ m →
    WhereTold (IsWritten name text) old between → OnErr r (WhereTold (IsCutShort name2 text2) between new) → OnErr r (WhereTold (AreCutShort c m p) old new)
second_cut (Ok x) c m p name text name2 text2 old between new e1 e2 e3 e4 first second = second
second_cut (Err e) c m p name text name2 text2 old between new e1 e2 e3 e4 first second =
    module_cut c m p old between new
    (subst (λ t. WhereTold (IsWritten c.report t) old between) e2 (subst (λ n. WhereTold (IsWritten n text) old between) e1 first))
    (subst (λ t. WhereTold (IsCutShort c.module_file t) between new) e4 (subst (λ n. WhereTold (IsCutShort n text2) between new) e3 second))

-- ---- a read and what follows

source_of : (c : Synth) (files : Files) (name source : List ℕ) (before : Option (List ℕ)) → name ≡ c.source → files name ≡ before → IsSomeAnd before (λ whole. source ≡ take 65537 whole) → IsSourceOf c files source
source_of c files name source None e found first = absurd first
source_of c files name source (Some whole) e found first = record { whole = whole; found = subst (λ n. files n ≡ Some whole) e found; first = first }

told_at : {A : Type 0} {R S : A → A → Type 0} → (old new : Option A) → WhereTold R old new → ((x y : A) → old ≡ Some x → R x y → S x y) → WhereTold S old new
told_at None None told f = tt
told_at None (Some y) told f = told
told_at (Some x) None told f = told
told_at (Some x) (Some y) told f = f x y refl told

-- what stood outside when the source was read, and what came of it
after_read : {R S : Files → Files → Type 0} → (c : Synth) (name source : List ℕ) (old read new : Option Files) → name ≡ c.source →
    AreFirstBytes old name 65537 source → read ≡ old → WhereTold R read new → ((x y : Files) → IsSourceOf c x source → R x y → S x y) → WhereTold S old new
after_read {R} {S} c name source old read new e bytes same told f =
    told_at old new (subst (λ o. WhereTold R o new) same told)
    (λ x y at r.
    let here : AreFirstBytes (Some x) name 65537 source = subst (λ o. AreFirstBytes o name 65537 source) at bytes in
    f x y (source_of c x name source (x name) e refl here) r)

made : (c : Synth) (source m p : List ℕ) → NamesThreeFiles c → IsSynthesis source (settings_of c) m p → (x y : Files) → IsSourceOf c x source → AreWritten c m p x y → IsMade c x y
made c source m p names correct x y is w = record {
  source = source;
  source_is = is;
  module_bytes = m;
  report_bytes = p;
  correct = correct;
  module_is = w.module_file.whole;
  report_is = w.module_file.others c.report (λ e. names.module_report (sym e)) ∙ w.report.whole;
  others = λ name not_module not_report. w.module_file.others name not_module ∙ w.report.others name not_report;
}

pub made_files : (c : Synth) (name source m p : List ℕ) (old read new : Option Files) → NamesThreeFiles c → name ≡ c.source → AreFirstBytes old name 65537 source → read ≡ old →
    IsSynthesis source (settings_of c) m p → WhereTold (AreWritten c m p) read new → WhereTold (IsMade c) old new
made_files c name source m p old read new names e bytes same correct told = after_read c name source old read new e bytes same told (made c source m p names correct)

stopped : (c : Synth) (source m p : List ℕ) → IsSynthesis source (settings_of c) m p → (x y : Files) → IsSourceOf c x source → AreCutShort c m p x y → IsStopped c x y
stopped c source m p correct x y is (work.at_report cut) = run.report_cut source m p is correct cut
stopped c source m p correct x y is (work.at_module between written cut) = run.module_cut source m p between is correct written cut

pub stopped_files : (c : Synth) (name source m p : List ℕ) (old read new : Option Files) → name ≡ c.source → AreFirstBytes old name 65537 source → read ≡ old →
    IsSynthesis source (settings_of c) m p → WhereTold (AreCutShort c m p) read new → WhereTold (IsStopped c) old new
stopped_files c name source m p old read new e bytes same correct told = after_read c name source old read new e bytes same told (stopped c source m p correct)

refused : (c : Synth) (source : List ℕ) (fault : Refusal) → IsFirstFault source c.top fault → (x y : Files) → IsSourceOf c x source → SameFiles x y → IsRefused c fault x y
refused c source fault first x y is same = record { source = source; source_is = is; first_fault = first; same = same }

pub refused_files : (c : Synth) (name source : List ℕ) (fault : Refusal) (old read : Option Files) → name ≡ c.source → AreFirstBytes old name 65537 source → read ≡ old →
    IsFirstFault source c.top fault → WhereTold (IsRefused c fault) old read
refused_files c name source fault old read e bytes same first =
    after_read c name source old read read e bytes same (WhereTold-same SameFiles read read refl (λ x name. refl)) (refused c source fault first)

pub on_err : {A E : Type 0} (r : Result A E) (P : Type 0) → P → OnErr r P
on_err (Ok x) P h = tt
on_err (Err e) P h = h
