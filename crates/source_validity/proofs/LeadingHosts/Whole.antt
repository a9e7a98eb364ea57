-- The arrays of an expanded program that the host reaches come first.
use Rattle.std.proofs.Common.{◌≡◌, ℕ, zero, suc, Bool, true, false, sym, ap, ◌∙◌, subst, arith, List, [], ◌∷◌, ◌++◌, Some, None, refl, if◌then◌else◌}
use Rattle.std.specs.Prelude.{slice_get}
use Rattle.pieces.specs.Resolved.Core.{CoreObjectTree, FileObjectTree}
use Rattle.pieces.specs.Program.{ArrayTree}
use Rattle.piece_making.specs.Objects.{array_like}
use Rattle.c_expand.specs.Expansion.{is_array}
use Rattle.clock_runs.proofs.Lists.{some_same, no_some}
use Rattle.expanded_programs.specs.Outlines.{files_of, hosts_of}
use Rattle.expanded_programs.proofs.Plain.{ArePlain}
use Rattle.expanded_programs.proofs.TopStores.{params, outlined, all_arrays}
use Rattle.compiled_plans.specs.Frames.{HostsComeFirst}
use Rattle.source_validity.specs.LeadingHosts.{ExpandedHostsComeFirst}

true_false : {A : Type 0} → true ≡ false → A
true_false e = cc

-- all of these arrays are such that the host reaches them, or that it does not
abbrev AllAre : Bool → List ArrayTree → Type 0
AllAre host xs = (i : ℕ) (a : ArrayTree) → slice_get xs i ≡ Some a → a.host ≡ host

no_array : (host : Bool) → AllAre host []
no_array host i a e = absurd (no_some e)

more_arrays : (host : Bool) (x : ArrayTree) (xs : List ArrayTree) → x.host ≡ host → AllAre host xs → AllAre host (x ∷ xs)
more_arrays host x xs e h zero a at = ap (λ (z : ArrayTree). z.host) (sym (some_same at)) ∙ e
more_arrays host x xs e h (suc i) a at = h i a at

both : (host : Bool) (xs ys : List ArrayTree) → AllAre host xs → AllAre host ys → AllAre host (xs ++ ys)
both host [] ys h k = k
both host (x ∷ xs) ys h k = more_arrays host x (xs ++ ys) (h zero x refl) (both host xs ys (λ i a e. h (suc i) a e) k)

hosts_are : (os : List CoreObjectTree) → AllAre true (hosts_of os)
hosts_are [] = no_array true
hosts_are (o ∷ os) = by (is_array o) (hosts_are os) where
  by : (c : Bool) → AllAre true (hosts_of os) → AllAre true (if c then array_like o None None true ∷ hosts_of os else hosts_of os)
  by true h = more_arrays true _ (hosts_of os) refl h
  by false h = h

files_are : (os : List FileObjectTree) → AllAre false (files_of os)
files_are [] = no_array false
files_are (o ∷ os) = by (is_array o.object) o.object.constant (files_are os) where
  by : (c d : Bool) → AllAre false (files_of os) → AllAre false (if c then (if d then array_like o.object (Some o.first) None false else array_like o.object None (Some o.first) false) ∷ files_of os else files_of os)
  by true true h = more_arrays false _ (files_of os) refl h
  by true false h = more_arrays false _ (files_of os) refl h
  by false d h = h

plain_are : (xs : List ArrayTree) → ArePlain xs → AllAre false xs
plain_are [] h = no_array false
plain_are (x ∷ xs) h = more_arrays false x xs h.0.host (plain_are xs h.1)

come_first : (xs ys : List ArrayTree) → AllAre true xs → AllAre false ys → HostsComeFirst (xs ++ ys)
come_first [] ys h k i n a b at bt l e = true_false (sym e ∙ k n b bt)
come_first (x ∷ xs) ys h k zero n a b at bt l e = h zero a at
come_first (x ∷ xs) ys h k (suc i) zero a b at bt l e = absurd (omega (arith, l))
come_first (x ∷ xs) ys h k (suc i) (suc n) a b at bt l e = come_first xs ys (λ j c q. h (suc j) c q) k i n a b at bt (omega (arith, l)) e

pub hosts_first : ExpandedHostsComeFirst
hosts_first p sound =
    let fn = sound.top.0 in
    let is_fn = sound.top.1 in
    let own = outlined p sound fn is_fn in
    subst HostsComeFirst (sym (all_arrays p sound fn is_fn))
    (come_first (hosts_of (params p sound fn is_fn)) (files_of p.file ++ own.more) (hosts_are (params p sound fn is_fn)) (both false (files_of p.file) own.more (files_are p.file) (plain_are own.more own.plain)))
