-- What is noted of each token that was taken, the last one first.
use Rattle.std.specs.Prelude.{◌≡◌, ℕ, ◌<◌, ◌≤◌, nat_lt, nat_eq, ◌||◌, Bool, true, false, List, [], ◌∷◌, length, get_or, if◌then◌else◌}
use Rattle.c_syntax.specs.declared.steps.goal.Raise.{Raise}
use Rattle.c_syntax.specs.declared.steps.goal.Raise.TheVariants as r
use Rattle.c_syntax.specs.declared.steps.goal.Take.{Take}
use Rattle.c_syntax.specs.Steps.{deeper}

-- how many constructs hold the token, and whether it is an operator too many
pub record Noted : Type 0 where
  pub nesting : ℕ
  pub surplus : Bool

-- one construct more holds the token
abbrev pub within : Noted → Noted
within m = record m { nesting = deeper m.nesting }

-- the tokens behind this index are held by one construct more
abbrev pub hold_behind : ℕ → List Noted → List Noted
hold_behind n [] = []
hold_behind n (m ∷ ms) = if nat_lt n (length ms) then within m ∷ hold_behind n ms else (m ∷ ms)

-- and the token at this index, which begins the construct
abbrev pub hold_from : ℕ → List Noted → List Noted
hold_from n [] = []
hold_from n (m ∷ ms) = if nat_lt n (length ms) then within m ∷ hold_from n ms else (if nat_eq n (length ms) then within m ∷ ms else (m ∷ ms))

abbrev pub raised : Raise → List Noted → List Noted
raised r.Nothing ms = ms
raised (r.From n) ms = hold_from n ms
raised (r.Behind n) ms = hold_behind n ms
raised (r.Both n) ms = hold_from n (hold_behind n ms)

-- one token more
abbrev pub noting : Take → List Noted → List Noted
noting take ms = record { nesting = take.nesting; surplus = take.surplus } ∷ raised take.raise ms

-- beyond a limit
abbrev pub is_beyond : Noted → Bool
is_beyond m = nat_lt 64 m.nesting || m.surplus

abbrev pub blank : Noted
blank = record { nesting = 0; surplus = false }

-- what is noted of the token with this index
abbrev pub entry : List Noted → ℕ → Noted
entry [] i = blank
entry (m ∷ ms) i = if nat_eq i (length ms) then m else entry ms i

-- The nestings are those of the tokens before the first one that is beyond a limit, if there is one.
pub record Shows (nestings : List ℕ) (beyond : Bool) (noted : List Noted) : Type 0 where
  pub here : (i : ℕ) → i < length nestings → entry noted i ≡ record { nesting = get_or nestings i 0; surplus = false }
  pub within_limit : (i : ℕ) → i < length nestings → get_or nestings i 0 ≤ 64
  pub all : beyond ≡ false → length nestings ≡ length noted
  pub first : beyond ≡ true → is_beyond (entry noted (length nestings)) ≡ true
  pub inside : beyond ≡ true → length nestings < length noted
