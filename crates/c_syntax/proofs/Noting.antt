-- What is noted of each token that was taken, with the constructs that are open just before it.
use Rattle.std.proofs.Common.{◌≡◌, ℕ, Bool, true, false, List, [], ◌∷◌, length, map, refl, ap, sym, ◌∙◌}
use Rattle.std.specs.Prelude.{nat_lt, nat_eq, ◌||◌, if◌then◌else◌}
use Rattle.std.proofs.lemmas.List.{length-map}
use Rattle.c_syntax.specs.declared.steps.goal.Raise.{Raise}
use Rattle.c_syntax.specs.declared.steps.goal.Raise.TheVariants as r
use Rattle.c_syntax.specs.declared.steps.goal.Take.{Take}
use Rattle.c_syntax.specs.Steps.{deeper}
use Rattle.c_syntax.specs.Notes as shown

pub record Noted : Type 0 where
  pub nesting : ℕ
  pub surplus : Bool
  pub open_before : ℕ

-- one construct more holds the token, and was open before it
abbrev pub within : Noted → Noted
within m = record m { nesting = deeper m.nesting; open_before = deeper m.open_before }

-- one construct more begins with the token
abbrev pub heading : Noted → Noted
heading m = record m { nesting = deeper m.nesting }

-- the tokens behind this index are held by one construct more
abbrev pub hold_behind : ℕ → List Noted → List Noted
hold_behind n [] = []
hold_behind n (m ∷ ms) = if nat_lt n (length ms) then within m ∷ hold_behind n ms else (m ∷ ms)

-- and the token at this index, which begins the construct
abbrev pub hold_from : ℕ → List Noted → List Noted
hold_from n [] = []
hold_from n (m ∷ ms) = if nat_lt n (length ms) then within m ∷ hold_from n ms else (if nat_eq n (length ms) then heading m ∷ ms else (m ∷ ms))

abbrev pub raised : Raise → List Noted → List Noted
raised r.Nothing ms = ms
raised (r.From n) ms = hold_from n ms
raised (r.Behind n) ms = hold_behind n ms
raised (r.Both n) ms = hold_from n (hold_behind n ms)

abbrev pub blank : Noted
blank = record { nesting = 0; surplus = false; open_before = 0 }

-- what is noted of the token with this index
abbrev pub entry : List Noted → ℕ → Noted
entry [] i = blank
entry (m ∷ ms) i = if nat_eq i (length ms) then m else entry ms i

-- ---- without what is open before

abbrev pub thin : Noted → shown.Noted
thin m = record { nesting = m.nesting; surplus = m.surplus }

abbrev pub thins : List Noted → List shown.Noted
thins ms = map thin ms

abbrev pub is_beyond : Noted → Bool
is_beyond m = nat_lt 64 m.nesting || m.surplus

pub thins_length : (ms : List Noted) → length (thins ms) ≡ length ms
thins_length ms = length-map ms thin

thins_behind : (n : ℕ) (ms : List Noted) → thins (hold_behind n ms) ≡ shown.hold_behind n (thins ms)
thins_behind n [] = refl
thins_behind n (m ∷ ms) =
    step (nat_lt n (length ms)) (thins_behind n ms)
    ∙ ap (λ k. if nat_lt n k then shown.within (thin m) ∷ shown.hold_behind n (thins ms) else (thin m ∷ thins ms)) (sym (thins_length ms))
  where
    step : (b : Bool) → thins (hold_behind n ms) ≡ shown.hold_behind n (thins ms)
        → thins (if b then within m ∷ hold_behind n ms else (m ∷ ms)) ≡ (if b then shown.within (thin m) ∷ shown.hold_behind n (thins ms) else (thin m ∷ thins ms))
    step true rest = ap (λ x. shown.within (thin m) ∷ x) rest
    step false rest = refl

thins_from : (n : ℕ) (ms : List Noted) → thins (hold_from n ms) ≡ shown.hold_from n (thins ms)
thins_from n [] = refl
thins_from n (m ∷ ms) =
    step (nat_lt n (length ms)) (nat_eq n (length ms)) (thins_from n ms)
    ∙ ap (λ k. if nat_lt n k then shown.within (thin m) ∷ shown.hold_from n (thins ms) else (if nat_eq n k then shown.within (thin m) ∷ thins ms else (thin m ∷ thins ms))) (sym (thins_length ms))
  where
    step : (b c : Bool) → thins (hold_from n ms) ≡ shown.hold_from n (thins ms)
        → thins (if b then within m ∷ hold_from n ms else (if c then heading m ∷ ms else (m ∷ ms)))
        ≡ (if b then shown.within (thin m) ∷ shown.hold_from n (thins ms) else (if c then shown.within (thin m) ∷ thins ms else (thin m ∷ thins ms)))
    step true c rest = ap (λ x. shown.within (thin m) ∷ x) rest
    step false true rest = refl
    step false false rest = refl

thins_raised : (raise : Raise) (ms : List Noted) → thins (raised raise ms) ≡ shown.raised raise (thins ms)
thins_raised r.Nothing ms = refl
thins_raised (r.From n) ms = thins_from n ms
thins_raised (r.Behind n) ms = thins_behind n ms
thins_raised (r.Both n) ms = thins_from n (hold_behind n ms) ∙ ap (shown.hold_from n) (thins_behind n ms)

-- one token more
abbrev pub noting : Take → ℕ → List Noted → List Noted
noting take before ms = record { nesting = take.nesting; surplus = take.surplus; open_before = before } ∷ raised take.raise ms

pub thins_noting : (take : Take) (before : ℕ) (ms : List Noted) → thins (noting take before ms) ≡ shown.noting take (thins ms)
thins_noting take before ms = ap (λ x. record { nesting = take.nesting; surplus = take.surplus } ∷ x) (thins_raised take.raise ms)

pub thins_entry : (ms : List Noted) (i : ℕ) → shown.entry (thins ms) i ≡ thin (entry ms i)
thins_entry [] i = refl
thins_entry (m ∷ ms) i = ap (λ k. if nat_eq i k then thin m else shown.entry (thins ms) i) (thins_length ms) ∙ step (nat_eq i (length ms)) (thins_entry ms i)
  where
    step : (b : Bool) → shown.entry (thins ms) i ≡ thin (entry ms i) → (if b then thin m else shown.entry (thins ms) i) ≡ thin (if b then m else entry ms i)
    step true rest = refl
    step false rest = rest
