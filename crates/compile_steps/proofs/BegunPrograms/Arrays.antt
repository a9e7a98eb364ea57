-- Arrays of expanded programs have contents that fill them, or none, and those of the host come first.
use Rattle.std.proofs.Common.{◌≡◌, ℕ, suc, sym, refl, subst, Bool, true, false, List, [], ◌∷◌, ◌++◌, Option, Some, None, if◌then◌else◌}
use Rattle.pieces.specs.Resolved.Core.{CoreObjectTree, FileObjectTree}
use Rattle.piece_making.specs.Objects.{array_like, file_info}
use Rattle.pieces.specs.Program.{ArrayTree}
use Rattle.c_expand.specs.Expansion.{is_array}
use Rattle.c_elaborate.specs.Homes.{Each}
use Rattle.expand_runs.specs.Laws.{FillsObject, FillObjects, kept_objects}
use Rattle.expanded_programs.specs.Outlines.{files_of, hosts_of}
use Rattle.expanded_programs.proofs.Plain.{IsPlain, ArePlain}
use Rattle.expanded_programs.proofs.Started.{Takes}
use Rattle.timed_pieces.specs.StartedWords.FirstWords.{HasOneSource, FillsIfAny, HasContents, FillHosts}
use Rattle.compile_steps.specs.BegunPrograms.{KeptFills, FillKept, FilesFill}

-- ---- contents

hosts_step : (b : Bool) (o : CoreObjectTree) (os : List CoreObjectTree) → Each HasContents (hosts_of os) → Each HasContents (if b then array_like o None None true ∷ hosts_of os else hosts_of os)
hosts_step true o os h = (record { source = tt; table = tt; initial = tt }, h)
hosts_step false o os h = h

pub hosts_have : (os : List CoreObjectTree) → Each HasContents (hosts_of os)
hosts_have [] = tt
hosts_have (o ∷ os) = hosts_step (is_array o) o os (hosts_have os)

file_has : (b : Bool) (o : FileObjectTree) → FillsObject o.object o.first → HasContents (if b then array_like o.object (Some o.first) None false else array_like o.object None (Some o.first) false)
file_has true o fills = record { source = tt; table = fills; initial = tt }
file_has false o fills = record { source = tt; table = tt; initial = fills }

files_step : (b : Bool) (o : FileObjectTree) (os : List FileObjectTree) → FillsObject o.object o.first → Each HasContents (files_of os) → Each HasContents (if b then file_info o ∷ files_of os else files_of os)
files_step true o os fills h = (file_has o.object.constant o fills, h)
files_step false o os fills h = h

pub files_have : (os : List FileObjectTree) → FilesFill os → Each HasContents (files_of os)
files_have [] fills = tt
files_have (o ∷ os) fills = files_step (is_array o.object) o os (fills 0 o refl) (files_have os (λ i q at. fills (suc i) q at))

plain_has : (a : ArrayTree) → IsPlain a → HasContents a
plain_has a h = record {
  source = subst (λ b. HasOneSource b a.table a.initial) (sym h.host) (subst (λ t. HasOneSource false t a.initial) (sym h.table) tt);
  table = subst (FillsIfAny a) (sym h.table) tt;
  initial = subst (FillsIfAny a) (sym h.initial) tt;
}

pub plain_have : (xs : List ArrayTree) → ArePlain xs → Each HasContents xs
plain_have [] h = tt
plain_have (a ∷ xs) h = (plain_has a h.0, plain_have xs h.1)

-- an array that the host reaches keeps nothing at file scope
pub host_apart : (a : ArrayTree) → HasContents a → a.host ≡ true → a.initial ≡ None
host_apart a h is = by a.table a.initial (subst (λ b. HasOneSource b a.table a.initial) is h.source) where
  by : (table initial : Option (List ℕ)) → HasOneSource true table initial → initial ≡ None
  by None None g = refl
  by None (Some row) g = absurd g
  by (Some row) initial g = absurd g

-- ---- rows for the host

abbrev IsInner : ArrayTree → Type 0
IsInner a = a.host ≡ false

info_inner : (b : Bool) (o : FileObjectTree) → (if b then array_like o.object (Some o.first) None false else array_like o.object None (Some o.first) false).host ≡ false
info_inner true o = refl
info_inner false o = refl

inner_step : (b : Bool) (o : FileObjectTree) (os : List FileObjectTree) → Each IsInner (files_of os) → Each IsInner (if b then file_info o ∷ files_of os else files_of os)
inner_step true o os h = (info_inner o.object.constant o, h)
inner_step false o os h = h

pub files_inner : (os : List FileObjectTree) → Each IsInner (files_of os)
files_inner [] = tt
files_inner (o ∷ os) = inner_step (is_array o.object) o os (files_inner os)

pub plain_inner : (xs : List ArrayTree) → ArePlain xs → Each IsInner xs
plain_inner [] h = tt
plain_inner (a ∷ xs) h = (h.0.host, plain_inner xs h.1)

pub none_filled : (xs : List ArrayTree) → Each IsInner xs → FillHosts xs []
none_filled [] h = refl
none_filled (a ∷ xs) h = (h.0, none_filled xs h.1)

fill_step : (b : Bool) (o : CoreObjectTree) (os : List CoreObjectTree) (rest : List ArrayTree) (scalars : List ℕ) (rows : List (List ℕ))
    → ((scalars1 : List ℕ) (rows1 : List (List ℕ)) → FillObjects os scalars1 rows1 → FillHosts (hosts_of os ++ rest) rows1)
    → Takes b o os scalars rows → FillHosts ((if b then array_like o None None true ∷ hosts_of os else hosts_of os) ++ rest) rows
fill_step true o os rest scalars rows h takes = subst (FillHosts (array_like o None None true ∷ (hosts_of os ++ rest))) (sym takes.2) (refl, takes.3, h scalars takes.1 takes.4)
fill_step false o os rest scalars rows h takes = h takes.1 rows takes.4

pub hosts_fill : (os : List CoreObjectTree) (rest : List ArrayTree) (scalars : List ℕ) (rows : List (List ℕ)) → Each IsInner rest → FillObjects os scalars rows → FillHosts (hosts_of os ++ rest) rows
hosts_fill [] rest scalars rows inner fill = subst (FillHosts rest) (sym fill.1) (none_filled rest inner)
hosts_fill (o ∷ os) rest scalars rows inner fill = fill_step (is_array o) o os rest scalars rows (λ scalars1 rows1. hosts_fill os rest scalars1 rows1 inner) fill

-- ---- rows of file scope

given_step : (x y : Bool) (o : FileObjectTree) (os : List FileObjectTree) (rest : List ArrayTree) (words : List ℕ) (rows : List (List ℕ)) → is_array o.object ≡ x
    → ((words1 : List ℕ) (rows1 : List (List ℕ)) → FillObjects (kept_objects os) words1 rows1 → FillKept (files_of os ++ rest) rows1)
    → FillObjects (if y then kept_objects os else o.object ∷ kept_objects os) words rows
    → FillKept ((if x then (if y then array_like o.object (Some o.first) None false else array_like o.object None (Some o.first) false) ∷ files_of os else files_of os) ++ rest) rows
given_step true true o os rest words rows is h fill = h words rows fill
given_step true false o os rest words rows is h fill =
    let z = subst (λ b. Takes b o.object (kept_objects os) words rows) is fill in
    subst (FillKept (array_like o.object None (Some o.first) false ∷ (files_of os ++ rest))) (sym z.2) (z.3, h words z.1 z.4)
given_step false true o os rest words rows is h fill = h words rows fill
given_step false false o os rest words rows is h fill = (let z = subst (λ b. Takes b o.object (kept_objects os) words rows) is fill in h z.1 rows z.4)

files_fill : (os : List FileObjectTree) (rest : List ArrayTree) (words : List ℕ) (rows : List (List ℕ)) → FillKept rest [] → FillObjects (kept_objects os) words rows → FillKept (files_of os ++ rest) rows
files_fill [] rest words rows none fill = subst (FillKept rest) (sym fill.1) none
files_fill (o ∷ os) rest words rows none fill = given_step (is_array o.object) o.object.constant o os rest words rows refl (λ words1 rows1. files_fill os rest words1 rows1 none) fill

none_kept : (xs : List ArrayTree) → ArePlain xs → FillKept xs []
none_kept [] h = refl
none_kept (a ∷ xs) h = subst (λ o. KeptFills o a [] (FillKept xs []) (FillKept xs [])) (sym h.0.initial) (none_kept xs h.1)

behind_step : (b : Bool) (o : CoreObjectTree) (os : List CoreObjectTree) (rest : List ArrayTree) (rows : List (List ℕ)) → FillKept (hosts_of os ++ rest) rows
    → FillKept ((if b then array_like o None None true ∷ hosts_of os else hosts_of os) ++ rest) rows
behind_step true o os rest rows h = h
behind_step false o os rest rows h = h

behind_hosts : (os : List CoreObjectTree) (rest : List ArrayTree) (rows : List (List ℕ)) → FillKept rest rows → FillKept (hosts_of os ++ rest) rows
behind_hosts [] rest rows h = h
behind_hosts (o ∷ os) rest rows h = behind_step (is_array o) o os rest rows (behind_hosts os rest rows h)

pub kept_fill : (ps : List CoreObjectTree) (os : List FileObjectTree) (more : List ArrayTree) (words : List ℕ) (rows : List (List ℕ)) → ArePlain more → FillObjects (kept_objects os) words rows → FillKept (hosts_of ps ++ (files_of os ++ more)) rows
kept_fill ps os more words rows plain fill = behind_hosts ps (files_of os ++ more) rows (files_fill os more words rows (none_kept more plain) fill)
