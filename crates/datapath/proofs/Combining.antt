-- What atoms carry that are made from others, and what stays where wires and registers are appended or a register is set.
use Rattle.std.proofs.Common.{◌≡◌, ◌<◌, ℕ, zero, suc, ◌+◌, ◌-◌, ◌^◌, Bool, true, false, List, [], ◌∷◌, ◌++◌, map, refl, sym, ap, ◌∙◌, subst}
use Rattle.std.specs.Prelude.{not, ◌&&◌, ◌||◌, ◌==◌, bit_and, bit_or, if◌then◌else◌, ◌%◌}
use Rattle.std.proofs.lemmas.List.{append-nil, map-append}
use Rattle.rtl_core.specs.declared.design.Atom.{Atom}
use Rattle.rtl_core.specs.declared.design.Atom.TheVariants as atom
use Rattle.rtl_core.specs.declared.design.Reg.{Reg}
use Rattle.rtl_core.specs.Netlist.{Netlist}
use Rattle.rtl_core.specs.ClockStep.{State, bit_of, register_widths, seen}
use Rattle.rtl_core.specs.Valid.{IsBetween}
use Rattle.rtl_core.proofs.Stability.{Extends}
use Rattle.rtl_core.proofs.Growth.{wires_grow}
use Rattle.rtl_logic.specs.Making.{IsSound, Appends, Makes, with_next_at, with_next}
use Rattle.rtl_logic.proofs.Making.{goes_on, appended, fits_later, stays}
use Rattle.datapath.specs.Plans.{Plan}
use Rattle.datapath.specs.Cycles.{Register, Contents, Signal, Cycle, in_cycle, bit}
use Rattle.datapath.specs.Circuits.{width}
use Rattle.datapath.specs.CircuitWires.Carrying.{IsMoment, Carries, Tells, IsBegun, MakesCarrying, MakesTelling, idle, AppendsRegisters}

-- ---- wires

-- a moment of a circuit with more wires is one of the circuit
pub moment_same : (p : Plan) (names : List Register) (d e f : Netlist) (s : State) (pins : List ℕ) (x : Contents) → Extends d e → IsMoment p names e f s pins x → IsMoment p names d f s pins x
moment_same p names d e f s pins x longer m = record { extends = goes_on d e f longer m.extends; sound = m.sound; state = m.state; pins_ = m.pins_; more = m.more; holds = m.holds }

-- an atom goes on to carry its value where the registers stay
pub carries_on : (p : Plan) (names : List Register) (d e : Netlist) (bits : ℕ) (a : Atom) (value : Cycle → ℕ) → Extends d e → Carries p names d bits a value → Carries p names e bits a value
carries_on p names d e bits a value longer h = record {
  fits = fits_later d e longer bits a h.fits;
  value_ = λ f s pins x signals m. h.value_ f s pins x signals (moment_same p names d e f s pins x longer m);
}

pub begun_after : (p : Plan) (names : List Register) (d e : Netlist) → IsBegun p names d → Appends d e → IsSound e → IsBegun p names e
begun_after p names d e h appends sound = record {
  named = ap register_widths appends.is ∙ h.named;
  pins = ap (λ (n : Netlist). n.inputs) appends.is ∙ h.pins;
  sound = sound;
}

-- in each cycle of each circuit that this one becomes, the values of all atoms are as P says
abbrev pub InCycles : Plan → List Register → Netlist → ((Atom → ℕ) → Cycle → Type 0) → Type 0
InCycles p names d P = (e : Netlist) (s : State) (pins : List ℕ) (x : Contents) (signals : Signal → ℕ) → IsMoment p names d e s pins x → P (seen e s pins) (in_cycle x signals pins)

-- an atom that is made carries a value if it follows from what the wires show
pub made_carries : (p : Plan) (names : List Register) (d e : Netlist) (bits : ℕ) (a : Atom) (P : (Atom → ℕ) → ℕ → Type 0) (value : Cycle → ℕ) → IsBegun p names d → Makes d e bits a P
    → InCycles p names d (λ v c. P v (v a) → v a ≡ value c) → MakesCarrying p names d e bits a value
made_carries p names d e bits a P value h made follows =
    let longer = appended d e made.appends in
    record {
      appends = made.appends;
      begun = begun_after p names d e h made.appends made.sound;
      carries = record {
        fits = made.shows.fits;
        value_ = λ f s pins x signals m. follows f s pins x signals (moment_same p names d e f s pins x longer m) (made.shows.value f s pins m.extends m.sound m.state m.pins_);
      };
    }

pub bit_and_tells : (x y : Bool) → bit_and (bit x) (bit y) ≡ bit (x && y)
bit_and_tells true true = refl
bit_and_tells true false = refl
bit_and_tells false true = refl
bit_and_tells false false = refl

pub bit_or_tells : (x y : Bool) → bit_or (bit x) (bit y) ≡ bit (x || y)
bit_or_tells true true = refl
bit_or_tells true false = refl
bit_or_tells false true = refl
bit_or_tells false false = refl

pub bit_not_tells : (x : Bool) → 2 ^ 1 - 1 - bit x ≡ bit (not x)
bit_not_tells true = refl
bit_not_tells false = refl

pub bit_same : (x : Bool) → bit_of x ≡ bit x
bit_same true = refl
bit_same false = refl

pub and_tells : (p : Plan) (names : List Register) (d e : Netlist) (l r a : Atom) (L R : Cycle → Bool) → IsBegun p names d → Tells p names d l L → Tells p names d r R
    → Makes d e 1 a (λ v x. x ≡ bit_and (v l) (v r)) → MakesTelling p names d e a (λ c. L c && R c)
and_tells p names d e l r a L R h left right made =
    made_carries p names d e 1 a (λ v x. x ≡ bit_and (v l) (v r)) (λ c. bit (L c && R c)) h made (λ f s pins x signals m is.
    let c : Cycle = in_cycle x signals pins in
    is ∙ (ap (λ n. bit_and n (seen f s pins r)) (left.value_ f s pins x signals m)
    ∙ (ap (bit_and (bit (L c))) (right.value_ f s pins x signals m) ∙ bit_and_tells (L c) (R c))))

pub or_tells : (p : Plan) (names : List Register) (d e : Netlist) (l r a : Atom) (L R : Cycle → Bool) → IsBegun p names d → Tells p names d l L → Tells p names d r R
    → Makes d e 1 a (λ v x. x ≡ bit_or (v l) (v r)) → MakesTelling p names d e a (λ c. L c || R c)
or_tells p names d e l r a L R h left right made =
    made_carries p names d e 1 a (λ v x. x ≡ bit_or (v l) (v r)) (λ c. bit (L c || R c)) h made (λ f s pins x signals m is.
    let c : Cycle = in_cycle x signals pins in
    is ∙ (ap (λ n. bit_or n (seen f s pins r)) (left.value_ f s pins x signals m)
    ∙ (ap (bit_or (bit (L c))) (right.value_ f s pins x signals m) ∙ bit_or_tells (L c) (R c))))

pub not_tells : (p : Plan) (names : List Register) (d e : Netlist) (b a : Atom) (L : Cycle → Bool) → IsBegun p names d → Tells p names d b L
    → Makes d e 1 a (λ v x. x ≡ 2 ^ 1 - 1 - v b) → MakesTelling p names d e a (λ c. not (L c))
not_tells p names d e b a L h one made =
    made_carries p names d e 1 a (λ v x. x ≡ 2 ^ 1 - 1 - v b) (λ c. bit (not (L c))) h made (λ f s pins x signals m is.
    is ∙ (ap (λ n. 2 ^ 1 - 1 - n) (one.value_ f s pins x signals m) ∙ bit_not_tells (L (in_cycle x signals pins))))

pub equal_tells : (p : Plan) (names : List Register) (d e : Netlist) (n : ℕ) (l r a : Atom) (L R : Cycle → ℕ) → IsBegun p names d → Carries p names d n l L → Carries p names d n r R
    → Makes d e 1 a (λ v x. x ≡ bit_of (v l == v r)) → MakesTelling p names d e a (λ c. L c == R c)
equal_tells p names d e n l r a L R h left right made =
    made_carries p names d e 1 a (λ v x. x ≡ bit_of (v l == v r)) (λ c. bit (L c == R c)) h made (λ f s pins x signals m is.
    let c : Cycle = in_cycle x signals pins in
    is ∙ (ap (λ k. bit_of (k == seen f s pins r)) (left.value_ f s pins x signals m)
    ∙ (ap (λ k. bit_of (L c == k)) (right.value_ f s pins x signals m) ∙ bit_same (L c == R c))))

pub sum_carries : (p : Plan) (names : List Register) (d e : Netlist) (n : ℕ) (l r a : Atom) (L R : Cycle → ℕ) → IsBegun p names d → Carries p names d n l L → Carries p names d n r R
    → Makes d e n a (λ v x. x ≡ (v l + v r) % 2 ^ n) → MakesCarrying p names d e n a (λ c. (L c + R c) % 2 ^ n)
sum_carries p names d e n l r a L R h left right made =
    made_carries p names d e n a (λ v x. x ≡ (v l + v r) % 2 ^ n) (λ c. (L c + R c) % 2 ^ n) h made (λ f s pins x signals m is.
    is ∙ (ap (λ k. (k + seen f s pins r) % 2 ^ n) (left.value_ f s pins x signals m)
    ∙ ap (λ k. (L (in_cycle x signals pins) + k) % 2 ^ n) (right.value_ f s pins x signals m)))

pub bit_is : (x : Bool) → (bit x == 1) ≡ x
bit_is true = refl
bit_is false = refl

pub pick_carries : (p : Plan) (names : List Register) (d e : Netlist) (n : ℕ) (t l r a : Atom) (T : Cycle → Bool) (L R : Cycle → ℕ) → IsBegun p names d → Tells p names d t T
    → Carries p names d n l L → Carries p names d n r R → Makes d e n a (λ v x. x ≡ (if v t == 1 then v l else v r)) → MakesCarrying p names d e n a (λ c. if T c then L c else R c)
pick_carries p names d e n t l r a T L R h test left right made =
    made_carries p names d e n a (λ v x. x ≡ (if v t == 1 then v l else v r)) (λ c. if T c then L c else R c) h made (λ f s pins x signals m is.
    let c : Cycle = in_cycle x signals pins in
    is ∙ (ap (λ b. if b then seen f s pins l else seen f s pins r) (ap (λ k. k == 1) (test.value_ f s pins x signals m) ∙ bit_is (T c))
    ∙ (ap (λ k. if T c then k else seen f s pins r) (left.value_ f s pins x signals m) ∙ ap (λ k. if T c then L c else k) (right.value_ f s pins x signals m))))

pub constant_carries : (p : Plan) (names : List Register) (d : Netlist) (n k : ℕ) → IsBetween 1 128 n → k < 2 ^ n → Carries p names d n (atom.Constant n k) (λ c. k)
constant_carries p names d n k between less = record { fits = (refl, between, less); value_ = λ f s pins x signals m. refl }

-- the same value, said in another way
pub carries_as : (p : Plan) (names : List Register) (d e : Netlist) (bits : ℕ) (a : Atom) (value other : Cycle → ℕ) → ((c : Cycle) → value c ≡ other c) → MakesCarrying p names d e bits a value
    → MakesCarrying p names d e bits a other
carries_as p names d e bits a value other same h = record {
  appends = h.appends;
  begun = h.begun;
  carries = record { fits = h.carries.fits; value_ = λ f s pins x signals m. h.carries.value_ f s pins x signals m ∙ same (in_cycle x signals pins) };
}

-- nothing is made where the atom is there
pub there_already : (p : Plan) (names : List Register) (d : Netlist) (bits : ℕ) (a : Atom) (value : Cycle → ℕ) → IsBegun p names d → Carries p names d bits a value → MakesCarrying p names d d bits a value
there_already p names d bits a value h carries = record { appends = record { more = []; is = ap (λ ws. record d { wires = ws }) (sym (append-nil d.wires)) }; begun = h; carries = carries }

-- ---- registers

idle_widths : (p : Plan) (more : List Register) → map (λ (r : Reg). r.bits) (map (λ r. idle (width p r)) more) ≡ map (width p) more
idle_widths p [] = refl
idle_widths p (r ∷ rs) = ap (λ l. width p r ∷ l) (idle_widths p rs)

abbrev with_registers : Netlist → List Reg → Netlist
with_registers d more = record d { regs = d.regs ++ more }

longer_registers : (d : Netlist) (more : List Reg) → Extends d (with_registers d more)
longer_registers d more = record { inputs = refl; more_regs = map (λ (r : Reg). r.bits) more; regs = map-append (λ (r : Reg). r.bits) d.regs more; more_wires = []; wires = sym (append-nil d.wires) }

-- registers that are appended have their names
pub appends_named : (p : Plan) (names more : List Register) (d e : Netlist) → IsBegun p names d → e ≡ record d { regs = d.regs ++ map (λ r. idle (width p r)) more } → AppendsRegisters p names more d e
appends_named p names more d e h is =
    let regs = map (λ r. idle (width p r)) more in
    let f : Netlist = with_registers d regs in
    let whole : IsBegun p (names ++ more) f = record {
      named = map-append (λ (r : Reg). r.bits) d.regs regs ∙ (ap (λ l. l ++ map (λ (r : Reg). r.bits) regs) h.named ∙ (ap (λ l. map (width p) names ++ l) (idle_widths p more) ∙ sym (map-append (width p) names more)));
      pins = h.pins;
      sound = wires_grow d f [] (longer_registers d regs) (sym (append-nil d.mems)) [] d.wires h.sound;
    } in
    record { is = is; begun = subst (IsBegun p (names ++ more)) (sym is) whole }

pub registers_extend : (p : Plan) (names more : List Register) (d e : Netlist) → AppendsRegisters p names more d e → Extends d e
registers_extend p names more d e x = subst (Extends d) (sym x.is) (longer_registers d (map (λ r. idle (width p r)) more))

-- ---- what a register takes

set_widths : (k : ℕ) (enable next : Atom) (regs : List Reg) → map (λ (r : Reg). r.bits) (with_next_at k enable next regs) ≡ map (λ (r : Reg). r.bits) regs
set_widths k enable next [] = refl
set_widths zero enable next (r ∷ rs) = refl
set_widths (suc k) enable next (r ∷ rs) = ap (λ l. r.bits ∷ l) (set_widths k enable next rs)

-- a circuit goes on as it was where a register is set
pub set_extends : (d : Netlist) (register enable next : Atom) → Extends d (with_next d register enable next)
set_extends d (atom.Constant bits value) enable next = stays d
set_extends d (atom.Input k) enable next = stays d
set_extends d (atom.Wire k) enable next = stays d
set_extends d (atom.Reg k) enable next = record {
  inputs = refl;
  more_regs = [];
  regs = set_widths k enable next d.regs ∙ sym (append-nil (register_widths d));
  more_wires = [];
  wires = sym (append-nil d.wires);
}

set_begun_at : (p : Plan) (names : List Register) (d : Netlist) (k : ℕ) (enable next : Atom) → IsBegun p names d → IsBegun p names (with_next d (atom.Reg k) enable next)
set_begun_at p names d k enable next h =
    let e : Netlist = with_next d (atom.Reg k) enable next in
    record {
      named = set_widths k enable next d.regs ∙ h.named;
      pins = h.pins;
      sound = wires_grow d e [] (set_extends d (atom.Reg k) enable next) (sym (append-nil d.mems)) [] d.wires h.sound;
    }

pub set_begun : (p : Plan) (names : List Register) (d : Netlist) (register enable next : Atom) → IsBegun p names d → IsBegun p names (with_next d register enable next)
set_begun p names d (atom.Constant bits value) enable next h = h
set_begun p names d (atom.Input k) enable next h = h
set_begun p names d (atom.Wire k) enable next h = h
set_begun p names d (atom.Reg k) enable next h = set_begun_at p names d k enable next h
