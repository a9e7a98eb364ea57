-- How the facts of one call after another are joined.
use Rattle.std.proofs.Common.{◌≡◌, ◌<◌, ◌≤◌, ◌^◌, ℕ, List, length, Option, Some, None, inl, inr, arith}
use Rattle.std.proofs.Math.Seq.{take-length}
use Rattle.hls_base.specs.Outside.{Files, HasRisen, NeverFalls, WhereTold, IsWritten, IsCutShort, PutsAll, PutsPrefix}

pub NeverFalls-then : (a b c : ℕ) → NeverFalls a b → NeverFalls b c → NeverFalls a c
NeverFalls-then a b c first second = record { never_falls = omega arith; fits = second.fits }

-- it rose in a later call
pub HasRisen-after : (a b c : ℕ) → NeverFalls a b → HasRisen b c → HasRisen a c
HasRisen-after a b c first (inl rose) = inl (omega arith)
HasRisen-after a b c first (inr last) = inr last

-- it rose in an earlier call
pub HasRisen-before : (a b c : ℕ) → HasRisen a b → NeverFalls b c → HasRisen a c
HasRisen-before a b c (inl rose) second = inl (omega arith)
HasRisen-before a b c (inr last) second =
    let kept : b ≤ c = second.never_falls in
    let fits : c < 2 ^ 64 = second.fits in
    inr (omega arith)

pub WhereTold-then : {A : Type 0} {R S T : A → A → Type 0} → (a b c : Option A) → WhereTold R a b → WhereTold S b c → ((x y z : A) → R x y → S y z → T x z) → WhereTold T a c
WhereTold-then None None None r s f = tt
WhereTold-then None None (Some z) r s f = s
WhereTold-then None (Some y) c r s f = absurd r
WhereTold-then (Some x) None c r s f = absurd r
WhereTold-then (Some x) (Some y) None r s f = s
WhereTold-then (Some x) (Some y) (Some z) r s f = f x y z r s

pub WhereTold-weaker : {A : Type 0} {R S : A → A → Type 0} → (a b : Option A) → WhereTold R a b → ((x y : A) → R x y → S x y) → WhereTold S a b
WhereTold-weaker None None r f = tt
WhereTold-weaker None (Some y) r f = r
WhereTold-weaker (Some x) None r f = r
WhereTold-weaker (Some x) (Some y) r f = f x y r

-- what stays is in any relation that holds of a thing and itself
pub WhereTold-same : {A : Type 0} (R : A → A → Type 0) → (a b : Option A) → b ≡ a → ((x : A) → R x x) → WhereTold R a b
WhereTold-same R None b e f = rw e tt
WhereTold-same R (Some x) b e f = rw e (f x)

-- a whole write is one that may have been cut short
pub IsCutShort-whole : (name bytes : List ℕ) (old new : Files) → IsWritten name bytes old new → IsCutShort name bytes old new
IsCutShort-whole name bytes old new written = record {
  file = inr (length bytes, rw (take-length bytes) written.whole);
  others = written.others;
}

pub PutsPrefix-whole : (bytes old new : List ℕ) → PutsAll bytes old new → PutsPrefix bytes old new
PutsPrefix-whole bytes old new all = (length bytes, rw (take-length bytes) all)
