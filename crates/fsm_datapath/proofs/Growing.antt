-- What stays where a circuit gets more registers and wires.
use Rattle.std.proofs.Common.{◌≡◌, ◌<◌, ℕ, zero, suc, ◌+◌, List, [], ◌∷◌, ◌++◌, length, map, slice_get, Some, refl, sym, ap, subst, ◌∙◌, arith}
use Rattle.std.proofs.lemmas.Option.{none-some, same_Some, slice_get_within}
use Rattle.std.proofs.lemmas.List.{length-map}
use Rattle.circuit_context.proofs.BankLemmas.Naming.{named_apart}
use Rattle.rtl_core.specs.declared.design.Atom.{Atom}
use Rattle.rtl_core.specs.declared.design.Reg.{Reg}
use Rattle.rtl_core.specs.Netlist.{Netlist, Memory}
use Rattle.rtl_core.proofs.Stability.{Extends, get_same}
use Rattle.rtl_logic.proofs.Making.{fits_later}
use Rattle.datapath.specs.Plans.{Plan}
use Rattle.datapath.specs.Cycles.{Register, Cycle}
use Rattle.datapath.specs.Circuits.{width}
use Rattle.datapath.specs.Netlists.{memory_of}
use Rattle.datapath.specs.CircuitWires.Carrying.{IsBegun, AppendsRegisters, idle}
use Rattle.datapath.proofs.Carrying as carrying
use Rattle.datapath.proofs.Combining.{moment_same, carries_on}
use Rattle.circuit_context.specs.declared.wanted.role.Role.{Role}
use Rattle.circuit_context.specs.declared.wanted.role.Target.{Target}
use Rattle.circuit_context.specs.declared.wanted.role.Target.TheVariants as t
use Rattle.circuit_context.specs.declared.wanted.log.Push.{Push}
use Rattle.circuit_context.specs.Wanted.Roles.{named}
use Rattle.circuit_context.specs.Wanted.Entries.{Entry}
use Rattle.circuit_context.specs.Wanted.Logs.{target_bits, IsThere, ArePushes, CarriesSome}
use Rattle.circuit_context.specs.Wanted.Driving.{Seen, ShowsSignal, IsPort, IsMemory}

-- ---- more registers

pub some_more : (p : Plan) (names more : List Register) (d e : Netlist) (a : Atom) (value : Cycle → ℕ) → IsBegun p names d → IsBegun p (names ++ more) e → Extends d e → CarriesSome p names d a value
    → CarriesSome p (names ++ more) e a value
some_more p names more d e a value begun after longer h = record { bits = h.bits; carries = carrying.stays p names more d e h.bits a value begun.named after.named longer h.carries }

pub there_more : (names more : List Register) (target : Target) → IsThere names target → IsThere (names ++ more) target
there_more names more (t.Register r) h = (h.0, get_same names (names ++ more) more h.0 (named r) refl h.1)
there_more names more (t.Left unit) h = tt
there_more names more (t.Right unit) h = tt
there_more names more (t.Signed unit) h = tt
there_more names more (t.Address a n) h = tt
there_more names more (t.Stored a n) h = tt
there_more names more (t.Refused a n) h = tt
there_more names more (t.Entered node) h = tt
there_more names more t.Ended h = tt
there_more names more t.Tested h = tt

pub pushes_more : (p : Plan) (names more : List Register) (d e : Netlist) (pushes : List Push) (entries : List Entry) → IsBegun p names d → IsBegun p (names ++ more) e → Extends d e
    → ArePushes p names d pushes entries → ArePushes p (names ++ more) e pushes entries
pushes_more p names more d e [] [] begun after longer h = tt
pushes_more p names more d e (push ∷ pushes) (it ∷ entries) begun after longer h = (
  record {
    target = h.0.target;
    there = there_more names more it.target h.0.there;
    when = carrying.stays p names more d e 1 push.choice.when _ begun.named after.named longer h.0.when;
    value = carrying.stays p names more d e (target_bits p it.target) push.choice.value _ begun.named after.named longer h.0.value;
  },
  pushes_more p names more d e pushes entries begun after longer h.1,
)
pushes_more p names more d e [] (it ∷ entries) begun after longer h = absurd h
pushes_more p names more d e (push ∷ pushes) [] begun after longer h = absurd h

-- ---- more wires

pub some_later : (p : Plan) (names : List Register) (d e : Netlist) (a : Atom) (value : Cycle → ℕ) → Extends d e → CarriesSome p names d a value → CarriesSome p names e a value
some_later p names d e a value longer h = record { bits = h.bits; carries = carries_on p names d e h.bits a value longer h.carries }

pub signal_later : (p : Plan) (names : List Register) (d e : Netlist) (x : Seen) → Extends d e → ShowsSignal p names d x → ShowsSignal p names e x
signal_later p names d e x longer h = record {
  bits = h.bits;
  carries = record {
    fits = fits_later d e longer h.bits x.1 h.carries.fits;
    value_ = λ f s pins y signals m. h.carries.value_ f s pins y signals (moment_same p names d e f s pins y longer m);
  };
}

pub memory_later : (p : Plan) (names : List Register) (sigs : List Seen) (d e : Netlist) (a : ℕ) (m : Memory) → Extends d e → e.mems ≡ d.mems → IsMemory p names sigs d a m → IsMemory p names sigs e a m
memory_later p names sigs d e a m longer same h = record {
  stands = ap (λ l. slice_get l (memory_of p a)) same ∙ h.stands;
  bits = h.bits;
  depth_log = h.depth_log;
  count = h.count;
  ports = λ n port at.
      let was : IsPort p names sigs d a n port = h.ports n port at in
      record { address = was.address; value = was.value; enable = carries_on p names d e 1 port.enable _ longer was.enable };
}

-- ---- registers that are appended

appended_at : (p : Plan) (roles : List Role) (k : ℕ) (r : Role) → slice_get roles k ≡ Some r → slice_get (map (λ x. idle (width p x)) (map named roles)) k ≡ Some (idle (width p (named r)))
appended_at p [] k r at = absurd (none-some r at)
appended_at p (q ∷ roles) zero r at = ap (λ x. Some (idle (width p (named x)))) (same_Some q r at)
appended_at p (q ∷ roles) (suc k) r at = appended_at p roles k r at

-- registers that are appended to none keep what they have
pub appended_idle : (p : Plan) (roles : List Role) (d e : Netlist) (k : ℕ) (r : Role) → IsBegun p [] d → AppendsRegisters p [] (map named roles) d e → slice_get roles k ≡ Some r
    → slice_get e.regs k ≡ Some (idle (width p (named r)))
appended_idle p roles d e k r begun appends at =
    ap (λ (n : Netlist). slice_get n.regs k) appends.is
    ∙ (ap (λ l. slice_get (l ++ map (λ x. idle (width p x)) (map named roles)) k) (no_registers d.regs begun.named) ∙ appended_at p roles k r at) where
      no_registers : (regs : List Reg) → map (λ (x : Reg). x.bits) regs ≡ [] → regs ≡ []
      no_registers [] h = refl
      no_registers (x ∷ regs) h = absurd (omega (arith, ap length h))

-- ---- what is logged

pub entry_there : (p : Plan) (names : List Register) (d : Netlist) (pushes : List Push) (entries : List Entry) (k : ℕ) (it : Entry) → ArePushes p names d pushes entries → slice_get entries k ≡ Some it
    → IsThere names it.target
entry_there p names d [] [] k it h at = absurd (none-some it at)
entry_there p names d (push ∷ pushes) (x ∷ entries) zero it h at = subst (λ (y : Entry). IsThere names y.target) (same_Some x it at) h.0.there
entry_there p names d (push ∷ pushes) (x ∷ entries) (suc k) it h at = entry_there p names d pushes entries k it h.1 at
entry_there p names d [] (x ∷ entries) k it h at = absurd h
entry_there p names d (push ∷ pushes) [] k it h at = absurd h

-- ---- lists of names

number_below : (p : Plan) (names : List Register) (regs : List Reg) (k : ℕ) (r : Register) → map (λ (x : Reg). x.bits) regs ≡ map (width p) names → slice_get names k ≡ Some r → k < length regs
number_below p names regs k r named at =
    let within = slice_get_within names k r at in
    let same = sym (length-map regs (λ (x : Reg). x.bits)) ∙ (ap length named ∙ length-map names (width p)) in
    omega (arith, within, same)

-- a register that has a name is there
pub is_there : (p : Plan) (names : List Register) (d : Netlist) (k : ℕ) (r : Register) → IsBegun p names d → slice_get names k ≡ Some r → k < length d.regs
is_there p names d k r begun at = number_below p names d.regs k r begun.named at

pub first_names : (names more : List Register) (k : ℕ) (r : Register) → slice_get names k ≡ Some r → slice_get (names ++ more) k ≡ Some r
first_names names more k r at = get_same names (names ++ more) more k r refl at

pub last_names : (names more : List Register) (k : ℕ) → slice_get (names ++ more) (length names + k) ≡ slice_get more k
last_names [] more k =
    let same : 0 + k ≡ k = omega arith in
    ap (slice_get more) same
last_names (n ∷ names) more k =
    let same : length (n ∷ names) + k ≡ suc (length names + k) = omega arith in
    ap (slice_get (n ∷ (names ++ more))) same ∙ last_names names more k

-- ---- lists of roles

-- roles with the same names are the same
pub roles_same : (one other : List Role) → map named one ≡ map named other → one ≡ other
roles_same [] [] e = refl
roles_same [] (r ∷ other) e = absurd (omega (arith, ap length e))
roles_same (r ∷ one) [] e = absurd (omega (arith, ap length e))
roles_same (r ∷ one) (q ∷ other) e = joined (roles_same one other (ap tail_of e)) where
  tail_of : List Register → List Register
  tail_of [] = []
  tail_of (x ∷ xs) = xs

  joined : one ≡ other → r ∷ one ≡ q ∷ other
  joined rest = let first = named_apart r q (same_Some (named r) (named q) (ap (λ l. slice_get l 0) e)) in λ i. first i ∷ rest i
