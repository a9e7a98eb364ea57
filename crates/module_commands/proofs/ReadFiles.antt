-- Files that are read one after another, and what is left of an outcome's file.
use Rattle.std.proofs.Common.{◌≡◌, ◌⊎◌, ◌≤◌, ◌<◌, ◌++◌, inl, inr, ℕ, suc, List, [], ◌∷◌, length, take, Option, Some, None, Result, Ok, Err, OnErr, refl, sym, ap, subst, ◌∙◌, append_assoc, append-nil, arith}
use Rattle.std.specs.Prelude.{IsSomeAnd}
use Rattle.hls_base.specs.Outside.{Files, HasRisen, WhereTold, AreFirstBytes, IsAbsent, IsCutShort}
use Rattle.module_commands.specs.declared.outcome.Outcome.{Outcome}
use Rattle.rtl_core.specs.Netlist.{Netlist}
use Rattle.module_commands.specs.Outcomes.{AreModules, AreReadAsStages}
use Rattle.module_commands.specs.Work.{read_bytes, AreFirstTexts, IsOneAbsent, IsStoppedWork, CanLink}
use Rattle.module_commands.specs.Work as work

-- ---- the bytes that are read are those of the file

found_first : (P : List ℕ → Type 0) (found : Option (List ℕ)) (text : List ℕ) → IsSomeAnd found (λ whole. text ≡ take read_bytes whole) → IsSomeAnd found (λ whole. P (take read_bytes whole)) → P text
found_first P None text is holds = absurd is
found_first P (Some whole) text is holds = subst P (sym is) holds

pub first_holds : (P : List ℕ → Type 0) (told : Option Files) (name text : List ℕ) → AreFirstBytes told name read_bytes text → IsSomeAnd told (λ files. IsSomeAnd (files name) (λ whole. P (take read_bytes whole))) → P text
first_holds P None name text is holds = absurd holds
first_holds P (Some files) name text is holds = found_first P (files name) text is holds

first_once : (found : Option (List ℕ)) (a b : List ℕ) → IsSomeAnd found (λ whole. a ≡ take read_bytes whole) → IsSomeAnd found (λ whole. b ≡ take read_bytes whole) → a ≡ b
first_once None a b x y = absurd x
first_once (Some whole) a b x y = x ∙ sym y

texts_once : (files : Files) (names texts others : List (List ℕ)) → AreFirstTexts (Some files) names texts → AreFirstTexts (Some files) names others → texts ≡ others
texts_once files [] [] [] x y = refl
texts_once files [] [] (o ∷ os) x y = absurd y
texts_once files [] (t ∷ ts) others x y = absurd x
texts_once files (n ∷ ns) [] others x y = absurd x
texts_once files (n ∷ ns) (t ∷ ts) [] x y = absurd y
texts_once files (n ∷ ns) (t ∷ ts) (o ∷ os) x y =
    let first : t ≡ o = first_once (files n) t o x.0 y.0 in
    let rest : ts ≡ os = texts_once files ns ts os x.1 y.1 in
    cc

pub stages_hold : (told : Option Files) (names texts : List (List ℕ)) → AreFirstTexts told names texts → CanLink told names → AreReadAsStages texts
stages_hold None names texts is can = absurd can
stages_hold (Some files) names texts is can = subst AreReadAsStages (texts_once files names can.0 texts can.1 is) can.2

-- ---- several files

-- what is known when the texts of the files before `rest` were read
pub record ReadUpTo (files : Option Files) (whole rest texts : List (List ℕ)) : Type 0 where
  pub texts_are : (ts : List (List ℕ)) → AreFirstTexts files rest ts → AreFirstTexts files whole (texts ++ ts)
  pub absent : IsOneAbsent files rest → IsOneAbsent files whole

pub none_read : (files : Option Files) (whole : List (List ℕ)) → ReadUpTo files whole whole []
none_read files whole = record { texts_are = λ ts are. are; absent = λ one. one }

pub one_read : (files : Option Files) (whole rest : List (List ℕ)) (name : List ℕ) (texts : List (List ℕ)) (text : List ℕ)
    → AreFirstBytes files name read_bytes text → ReadUpTo files whole (name ∷ rest) texts → ReadUpTo files whole rest (texts ++ text ∷ [])
one_read files whole rest name texts text is b = record {
  texts_are = λ ts are. subst (AreFirstTexts files whole) (sym (append_assoc texts (text ∷ []) ts)) (b.texts_are (text ∷ ts) (is, are));
  absent = λ one. b.absent (inr one);
}

pub all_read : (files : Option Files) (whole texts : List (List ℕ)) → ReadUpTo files whole [] texts → AreFirstTexts files whole texts
all_read files whole texts b = subst (AreFirstTexts files whole) (append-nil texts) (b.texts_are [] tt)

-- ---- faults

pub risen_after : (a b c : ℕ) → a ≤ b → HasRisen b c → HasRisen a c
risen_after a b c low (inl rose) = inl (omega (arith, low, rose))
risen_after a b c low (inr last) = inr last

-- ---- what is left

pub cut_work : {A E : Type 0} (r : Result A E) (o : Outcome) (name bytes : List ℕ) (old new : Option Files) → o.written ≡ Some bytes → OnErr r (WhereTold (IsCutShort name bytes) old new)
    → OnErr r (IsStoppedWork (λ x. x ≡ o) name old new)
cut_work (Ok x) o name bytes old new written short = tt
cut_work (Err e) o name bytes old new written short = work.cut o bytes refl written short

pub stopped_work : (W V : Outcome → Type 0) (name : List ℕ) (old new : Option Files) → ((o : Outcome) → W o → V o) → IsStoppedWork W name old new → IsStoppedWork V name old new
stopped_work W V name old new f (work.unwritten same) = work.unwritten same
stopped_work W V name old new f (work.cut o bytes is written short) = work.cut o bytes (f o is) written short

pub on_err : {A E : Type 0} (r : Result A E) (P : Type 0) → P → OnErr r P
on_err (Ok x) P p = tt
on_err (Err e) P p = p

-- ---- the number of stages

texts_are_many : (told : Option Files) (names texts : List (List ℕ)) → AreFirstTexts told names texts → length texts ≡ length names
texts_are_many told [] [] is = refl
texts_are_many told [] (t ∷ ts) is = absurd is
texts_are_many told (n ∷ ns) [] is = absurd is
texts_are_many told (n ∷ ns) (t ∷ ts) is = ap suc (texts_are_many told ns ts is.1)

modules_are_many : (texts : List (List ℕ)) (ds : List Netlist) → AreModules texts ds → length ds ≡ length texts
modules_are_many [] [] are = refl
modules_are_many [] (d ∷ ds) are = absurd are
modules_are_many (t ∷ ts) [] are = absurd are
modules_are_many (t ∷ ts) (d ∷ ds) are = ap suc (modules_are_many ts ds are.1)

pub few_link : (told : Option Files) (names : List (List ℕ)) → CanLink told names → length names ≤ 16
few_link None names can = absurd can
few_link (Some files) names can =
    let stages = can.2 in
    let as_names : length can.0 ≡ length names = texts_are_many (Some files) names can.0 can.1 in
    let as_texts : length stages.0 ≡ length can.0 = modules_are_many can.0 stages.0 stages.1 in
    let few : length stages.0 ≤ 16 = stages.2.1 in
    omega (arith, as_names, as_texts, few)
