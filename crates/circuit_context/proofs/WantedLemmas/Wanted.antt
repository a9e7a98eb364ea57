-- What is wanted of a target in a cycle is what its entries want.
use Rattle.std.proofs.Common.{◌≡◌, ℕ, Bool, true, false, List, [], ◌∷◌, map, refl, sym, ap, subst, ◌∙◌}
use Rattle.std.specs.Prelude.{◌==◌, filter, if◌then◌else◌}
use Rattle.std.specs.List.{All}
use Rattle.std.proofs.lemmas.Bool.{false≢true}
use Rattle.std.proofs.lemmas.List.Elements.{All-nil, All-cons}
use Rattle.rtl_core.specs.Netlist.{Netlist}
use Rattle.rtl_core.specs.ClockStep.{State, widths, seen}
use Rattle.rtl_core.specs.Valid.{HasBits}
use Rattle.rtl_logic.specs.declared.select.Choice.{Choice}
use Rattle.rtl_logic.specs.Choosing.{Write, where_, ChoiceFits, write_in, writes_in}
use Rattle.datapath.specs.Plans.{Plan}
use Rattle.datapath.specs.Cycles.{Register, Contents, Signal, Cycle, in_cycle}
use Rattle.datapath.specs.CircuitWires.Carrying.{IsMoment}
use Rattle.datapath.proofs.Combining.{bit_is}
use Rattle.circuit_context.specs.declared.wanted.role.Target.{Target}
use Rattle.circuit_context.specs.declared.wanted.log.Push.{Push}
use Rattle.circuit_context.specs.Wanted.Roles.{same_target, choices_of}
use Rattle.circuit_context.specs.Wanted.Entries.{Entry}
use Rattle.circuit_context.specs.Wanted.Logs.{target_bits, IsPush, ArePushes}
use Rattle.circuit_context.proofs.WantedLemmas.Same.{same_target_is}

-- what the entries want of a target in a cycle, in order
abbrev pub wanted_in : Cycle → Target → List Entry → List Write
wanted_in c target entries = map (λ (it : Entry). it.write c) (filter (λ (it : Entry). same_target target it.target) entries)

wanted_one : (p : Plan) (names : List Register) (d : Netlist) (push : Push) (it : Entry) → IsPush p names d push it
    → (e : Netlist) (s : State) (pins : List ℕ) (x : Contents) (signals : Signal → ℕ) → IsMoment p names d e s pins x
    → write_in (seen e s pins) push.choice ≡ it.write (in_cycle x signals pins)
wanted_one p names d push it h e s pins x signals m =
    let w : Write = it.write (in_cycle x signals pins) in
    let one : (seen e s pins push.choice.when == 1) ≡ w.wanted = ap (λ n. n == 1) (h.when.value_ e s pins x signals m) ∙ bit_is w.wanted in
    let other : seen e s pins push.choice.value ≡ w.value = h.value.value_ e s pins x signals m in
    λ i. where_ (one i) (other i)

pub wanted_as : (p : Plan) (names : List Register) (d : Netlist) (pushes : List Push) (entries : List Entry) (target : Target) → ArePushes p names d pushes entries
    → (e : Netlist) (s : State) (pins : List ℕ) (x : Contents) (signals : Signal → ℕ) → IsMoment p names d e s pins x
    → writes_in (seen e s pins) (choices_of target pushes) ≡ wanted_in (in_cycle x signals pins) target entries
wanted_as p names d [] [] target h e s pins x signals m = refl
wanted_as p names d (push ∷ pushes) (it ∷ entries) target h e s pins x signals m =
    by (same_target target push.target) (same_target target it.target) (ap (same_target target) h.0.target) (wanted_as p names d pushes entries target h.1 e s pins x signals m) where
      by : (a b : Bool) → a ≡ b → writes_in (seen e s pins) (choices_of target pushes) ≡ wanted_in (in_cycle x signals pins) target entries
          → map (write_in (seen e s pins)) (map (λ (q : Push). q.choice) (if a then push ∷ filter (λ (q : Push). same_target target q.target) pushes else filter (λ (q : Push). same_target target q.target) pushes))
          ≡ map (λ (j : Entry). j.write (in_cycle x signals pins)) (if b then it ∷ filter (λ (j : Entry). same_target target j.target) entries else filter (λ (j : Entry). same_target target j.target) entries)
      by true true same rest = let one = wanted_one p names d push it h.0 e s pins x signals m in λ i. one i ∷ rest i
      by false false same rest = rest
      by true false same rest = absurd (false≢true (sym same))
      by false true same rest = absurd (false≢true same)
wanted_as p names d [] (it ∷ entries) target h e s pins x signals m = absurd h
wanted_as p names d (push ∷ pushes) [] target h e s pins x signals m = absurd h

choice_fits : (p : Plan) (names : List Register) (d : Netlist) (push : Push) (it : Entry) (target : Target) → IsPush p names d push it → same_target target push.target ≡ true
    → ChoiceFits (widths d) (target_bits p target) push.choice
choice_fits p names d push it target h same =
    let is : it.target ≡ target = sym (same_target_is target push.target same ∙ h.target) in
    record { when = h.when.fits; value = subst (λ (u : Target). HasBits (widths d) (target_bits p u) push.choice.value) is h.value.fits }

-- the choices of a target have its width
pub choices_fit : (p : Plan) (names : List Register) (d : Netlist) (pushes : List Push) (entries : List Entry) (target : Target) → ArePushes p names d pushes entries
    → All (ChoiceFits (widths d) (target_bits p target)) (choices_of target pushes)
choices_fit p names d [] [] target h = All-nil (ChoiceFits (widths d) (target_bits p target))
choices_fit p names d (push ∷ pushes) (it ∷ entries) target h = by (same_target target push.target) refl (choices_fit p names d pushes entries target h.1) where
  Fits : Choice → Type 0
  Fits = ChoiceFits (widths d) (target_bits p target)

  by : (b : Bool) → same_target target push.target ≡ b → All Fits (choices_of target pushes)
      → All Fits (map (λ (q : Push). q.choice) (if b then push ∷ filter (λ (q : Push). same_target target q.target) pushes else filter (λ (q : Push). same_target target q.target) pushes))
  by true same rest = All-cons Fits push.choice (choices_of target pushes) (choice_fits p names d push it target h.0 same) rest
  by false same rest = rest
choices_fit p names d [] (it ∷ entries) target h = absurd h
choices_fit p names d (push ∷ pushes) [] target h = absurd h
