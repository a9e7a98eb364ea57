-- The bit that tells whether something is wanted of a target, and other bits of which one is 1.
use Rattle.std.proofs.Common.{◌≡◌, Bool, true, false, List, [], ◌∷◌, ◌++◌, map, refl, sym, ap, ap₂, ◌∙◌, subst}
use Rattle.std.specs.Prelude.{◌==◌, ◌&&◌, ◌||◌, filter, cond}
use Rattle.std.proofs.Math.Bool.{or-false}
use Rattle.std.proofs.lemmas.List.Elements.{All-nil, All-cons, All-push, All-weaker}
use Rattle.std.proofs.lemmas.List.Folds.{list_any-append}
use Rattle.rtl_core.specs.declared.design.Atom.{Atom}
use Rattle.rtl_core.specs.Netlist.{Netlist}
use Rattle.rtl_core.specs.ClockStep.{bit_of, widths, seen}
use Rattle.rtl_core.specs.Valid.{HasBits}
use Rattle.rtl_core.proofs.Stability.{Extends}
use Rattle.rtl_logic.specs.declared.select.Choice.{Choice}
use Rattle.rtl_logic.specs.Making.{Appends, Makes}
use Rattle.rtl_logic.specs.Choosing.{is_any}
use Rattle.rtl_logic.proofs.Making.{appended, appends_none, appends_both, fits_later}
use Rattle.datapath.specs.Plans.{Plan}
use Rattle.datapath.specs.Cycles.{Register, Cycle, in_cycle, bit}
use Rattle.datapath.specs.CircuitWires.Carrying.{IsBegun, Tells, MakesTelling}
use Rattle.datapath.proofs.Combining.{made_carries, bit_is, bit_same, moment_same}
use Rattle.circuit_context.specs.declared.wanted.log.Push.{Push}
use Rattle.circuit_context.specs.declared.wanted.role.Target.{Target}
use Rattle.circuit_context.specs.Wanted.Roles.{same_target, choices_of}
use Rattle.circuit_context.specs.Wanted.Entries.{Entry}
use Rattle.circuit_context.specs.Wanted.Logs.{ArePushes}
use Rattle.circuit_control.specs.Gathered.{is_asked, TellTogether, MakesTogether}

-- ---- bits of which one is 1

-- no bit at all
pub none_together : (p : Plan) (names : List Register) (d : Netlist) → TellTogether p names d [] (λ c. false)
none_together p names d = record { fits = All-nil (HasBits (widths d) 1); any = λ e s pins x signals m. refl }

-- one bit more, in front
one_together : (p : Plan) (names : List Register) (d : Netlist) (a : Atom) (bits : List Atom) (here rest : Cycle → Bool) → Tells p names d a here → TellTogether p names d bits rest
    → TellTogether p names d (a ∷ bits) (λ c. here c || rest c)
one_together p names d a bits here rest h k = record {
  fits = All-cons (HasBits (widths d) 1) a bits h.fits k.fits;
  any = λ e s pins x signals m. ap₂ (λ l r. l || r) (ap (λ n. n == 1) (h.value_ e s pins x signals m) ∙ bit_is (here (in_cycle x signals pins))) (k.any e s pins x signals m);
}

-- the same, said in another way
pub together_as : (p : Plan) (names : List Register) (d : Netlist) (bits : List Atom) (one other : Cycle → Bool) → ((c : Cycle) → one c ≡ other c) → TellTogether p names d bits one → TellTogether p names d bits other
together_as p names d bits one other same h = record { fits = h.fits; any = λ e s pins x signals m. h.any e s pins x signals m ∙ same (in_cycle x signals pins) }

-- one bit more, at the end
pub last_together : (p : Plan) (names : List Register) (d : Netlist) (bits after : List Atom) (a : Atom) (rest here : Cycle → Bool) → TellTogether p names d bits rest → Tells p names d a here → after ≡ bits ++ a ∷ []
    → TellTogether p names d after (λ c. rest c || here c)
last_together p names d bits after a rest here k h pushed = subst (λ l. TellTogether p names d l (λ c. rest c || here c)) (sym pushed) (record {
  fits = All-push (HasBits (widths d) 1) bits a k.fits h.fits;
  any = λ e s pins x signals m.
      let v = seen e s pins in
      list_any-append (λ b. v b == 1) bits (a ∷ [])
      ∙ ap₂ (λ l r. l || r) (k.any e s pins x signals m) (or-false (v a == 1) ∙ (ap (λ n. n == 1) (h.value_ e s pins x signals m) ∙ bit_is (here (in_cycle x signals pins))));
})

pub together_later : (p : Plan) (names : List Register) (d e : Netlist) (bits : List Atom) (holds_ : Cycle → Bool) → Appends d e → TellTogether p names d bits holds_ → TellTogether p names e bits holds_
together_later p names d e bits holds_ more h =
    let longer : Extends d e = appended d e more in
    record {
      fits = All-weaker (HasBits (widths d) 1) (HasBits (widths e) 1) (fits_later d e longer 1) bits h.fits;
      any = λ f s pins x signals m. h.any f s pins x signals (moment_same p names d e f s pins x longer m);
    }

-- ---- bits that are made

pub none_made : (p : Plan) (names : List Register) (d : Netlist) → IsBegun p names d → MakesTogether p names d d [] (λ c. false)
none_made p names d begun = record { appends = appends_none d; begun = begun; tell = none_together p names d }

pub last_made : (p : Plan) (names : List Register) (d e f : Netlist) (bits after : List Atom) (a : Atom) (rest here : Cycle → Bool) → MakesTogether p names d e bits rest → MakesTelling p names e f a here
    → after ≡ bits ++ a ∷ [] → MakesTogether p names d f after (λ c. rest c || here c)
last_made p names d e f bits after a rest here h made pushed = record {
  appends = appends_both d e f h.appends made.appends;
  begun = made.begun;
  tell = last_together p names f bits after a rest here (together_later p names e f bits rest made.appends h.tell) made.carries pushed;
}

pub made_as : (p : Plan) (names : List Register) (d e : Netlist) (bits : List Atom) (one other : Cycle → Bool) → ((c : Cycle) → one c ≡ other c) → MakesTogether p names d e bits one → MakesTogether p names d e bits other
made_as p names d e bits one other same h = record { appends = h.appends; begun = h.begun; tell = together_as p names e bits one other same h.tell }

-- the bit that is made of them
pub any_tells : (p : Plan) (names : List Register) (d e : Netlist) (bits : List Atom) (a : Atom) (holds_ : Cycle → Bool) → IsBegun p names d → TellTogether p names d bits holds_
    → Makes d e 1 a (λ v x. x ≡ bit_of (is_any v bits)) → MakesTelling p names d e a holds_
any_tells p names d e bits a holds_ begun h made =
    made_carries p names d e 1 a (λ v x. x ≡ bit_of (is_any v bits)) (λ c. bit (holds_ c)) begun made
    (λ f s pins x signals m is. is ∙ (ap bit_of (h.any f s pins x signals m) ∙ bit_same (holds_ (in_cycle x signals pins))))

-- ---- what is wanted of a target

abbrev whens : Target → List Push → List Atom
whens target pushes = map (λ (choice : Choice). choice.when) (choices_of target pushes)

pub asked_together : (p : Plan) (names : List Register) (d : Netlist) (target : Target) (pushes : List Push) (entries : List Entry) → ArePushes p names d pushes entries
    → TellTogether p names d (whens target pushes) (is_asked target entries)
asked_together p names d target [] [] h = none_together p names d
asked_together p names d target [] (it ∷ entries) h = absurd h
asked_together p names d target (push ∷ pushes) [] h = absurd h
asked_together p names d target (push ∷ pushes) (it ∷ entries) h =
    by (asked_together p names d target pushes entries h.1) (same_target target push.target) (ap (same_target target) h.0.target)
  where
    by : TellTogether p names d (whens target pushes) (is_asked target entries) → (b : Bool) → b ≡ same_target target it.target
        → TellTogether p names d
        (map (λ (choice : Choice). choice.when)
        (map (λ (one : Push). one.choice) (cond b (push ∷ filter (λ (one : Push). same_target target one.target) pushes) (filter (λ (one : Push). same_target target one.target) pushes)))) (is_asked target (it ∷ entries))
    by rest true same =
        together_as p names d (push.choice.when ∷ whens target pushes) (λ c. (it.write c).wanted || is_asked target entries c) (is_asked target (it ∷ entries))
        (λ c. ap (λ b. (b && (it.write c).wanted) || is_asked target entries c) same)
        (one_together p names d push.choice.when (whens target pushes) (λ c. (it.write c).wanted) (is_asked target entries) h.0.when rest)
    by rest false same =
        together_as p names d (whens target pushes) (is_asked target entries) (is_asked target (it ∷ entries)) (λ c. ap (λ b. (b && (it.write c).wanted) || is_asked target entries c) same) rest
