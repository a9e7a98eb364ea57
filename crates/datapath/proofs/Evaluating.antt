-- From all contents and pins a circuit goes on.
use Rattle.std.proofs.Common.{◌≡◌, ℕ, Bool, true, false, List, [], ◌∷◌, Option, Some, None, refl}
use Rattle.std.specs.Prelude.{if◌then◌else◌, ◌||◌}
use Rattle.datapath.specs.Plans.{Plan}
use Rattle.datapath.specs.Cycles.{Contents, Signal, LeftOf, RightOf, SignedOf, AddressOf, StoredOf, Cycle, in_cycle}
use Rattle.rtl_logic.specs.Choosing.{Write, is_any_wanted, AllWant, IsElse, Takes}
use Rattle.datapath.specs.Circuits.{signal_writes, signal_else, register_writes, IsCycle, Step}
use Rattle.datapath.specs.Ports.{next_words}

abbrev pub else_or_none : Option ℕ → ℕ
else_or_none None = 0
else_or_none (Some x) = x

-- the first value that is wanted
abbrev pub first_wanted : List Write → Option ℕ → ℕ
first_wanted [] other = else_or_none other
first_wanted (w ∷ ws) other = if w.wanted then w.value else first_wanted ws other

first_at : (wanted any : Bool) (x rest y : ℕ) → (wanted || any) ≡ true → (wanted ≡ true → x ≡ y) → (any ≡ true → rest ≡ y) → (if wanted then x else rest) ≡ y
first_at true any x rest y some this later = this refl
first_at false any x rest y some this later = later some

is_first : (ws : List Write) (other : Option ℕ) (y : ℕ) → is_any_wanted ws ≡ true → AllWant ws y → first_wanted ws other ≡ y
is_first [] other y some all = absurd (cc)
is_first (w ∷ ws) other y some all = first_at w.wanted (is_any_wanted ws) w.value (first_wanted ws other) y some all.0 (λ e. is_first ws other y e all.1)

else_at : (wanted any : Bool) (x rest : ℕ) (P : ℕ → Type 0) → (wanted || any) ≡ false → (any ≡ false → P rest) → P (if wanted then x else rest)
else_at true any x rest P none later = absurd (cc)
else_at false any x rest P none later = later none

is_else : (ws : List Write) (other : Option ℕ) → is_any_wanted ws ≡ false → IsElse other (first_wanted ws other)
is_else [] None none = _
is_else [] (Some x) none = refl
is_else (w ∷ ws) other none = else_at w.wanted (is_any_wanted ws) w.value (first_wanted ws other) (IsElse other) none (λ e. is_else ws other e)

pub takes_first : (ws : List Write) (other : Option ℕ) → Takes ws other (first_wanted ws other)
takes_first ws other = record { wanted = λ y some all. is_first ws other y some all; else_ = λ none. is_else ws other none }

-- ---- one way to go on

abbrev pub first_signals : Plan → Contents → List ℕ → Signal → ℕ
first_signals p x pins signal = first_wanted (signal_writes p (in_cycle x (λ s. 0) pins) signal) (signal_else p (in_cycle x (λ s. 0) pins) signal)

abbrev pub first_cycle : Plan → Contents → List ℕ → Cycle
first_cycle p x pins = in_cycle x (first_signals p x pins) pins

abbrev pub first_after : Plan → Contents → List ℕ → Contents
first_after p x pins = record {
  regs = λ r. first_wanted (register_writes p (first_cycle p x pins) r) (Some (x.regs r));
  memories = λ a address. next_words p (first_cycle p x pins) a address;
}

are_signals : (p : Plan) (x : Contents) (pins : List ℕ) → IsCycle p (first_cycle p x pins)
are_signals p x pins (LeftOf class n) = takes_first _ _
are_signals p x pins (RightOf class n) = takes_first _ _
are_signals p x pins (SignedOf class n) = takes_first _ _
are_signals p x pins (AddressOf a n) = takes_first _ _
are_signals p x pins (StoredOf a n) = takes_first _ _

pub goes_on : (p : Plan) (x : Contents) (pins : List ℕ) → Step p x pins (first_after p x pins)
goes_on p x pins = record {
  signals = first_signals p x pins;
  is_cycle = are_signals p x pins;
  is_after = record { regs = λ r. takes_first (register_writes p (first_cycle p x pins) r) (Some (x.regs r)); memories = λ a address. refl };
}
