-- The array that the host names.
use Rattle.std.proofs.Common.{◌≡◌, ◌<◌, ℕ, ◌%◌, ◌^◌, true, false, List, [], ◌∷◌, ◌++◌, length, map, slice_get, refl, sym, ap, ◌∙◌, subst, arith}
use Rattle.std.specs.Prelude.{nat_lt, if◌then◌else◌}
use Rattle.std.proofs.lemmas.Bool.{lt-ltb, le-ltb}
use Rattle.rtl_core.specs.declared.design.Atom.{Atom}
use Rattle.rtl_core.specs.declared.design.Atom.TheVariants as atom
use Rattle.rtl_core.specs.declared.design.Pin.{Pin}
use Rattle.rtl_core.specs.Netlist.{Netlist}
use Rattle.rtl_core.specs.Interface.{select_of}
use Rattle.rtl_logic.specs.Making.{Appends, Makes}
use Rattle.rtl_logic.proofs.Making.{appends_none}
use Rattle.datapath.specs.Plans.{Plan, host_arrays}
use Rattle.datapath.specs.Cycles.{Register, Named, Cycle}
use Rattle.datapath.specs.Circuits.{width, named_bits}
use Rattle.datapath.specs.CircuitWires.Carrying.{IsRegister, IsBegun, Carries, Tells, MakesCarrying}
use Rattle.datapath.proofs.Combining.{made_carries, constant_carries}
use Rattle.circuit_context.specs.declared.wanted.role.Role.TheVariants as role
use Rattle.circuit_context.specs.declared.wanted.role.Target.TheVariants as t
use Rattle.circuit_context.specs.declared.wanted.log.Push.{Push}
use Rattle.circuit_context.specs.Wanted.Entries.{always_entry, named_entries}
use Rattle.circuit_context.specs.Wanted.Logs.{Logs}
use Rattle.circuit_context.proofs.WantedLemmas.Joining.{logs_none, logs_one, logs_behind}

pub select_carries : (p : Plan) (names : List Register) (d : Netlist) → IsBegun p names d → Carries p names d 5 (atom.Input 4) (λ c. select_of c.pins)
select_carries p names d begun = record {
  fits = ap (λ l. slice_get (map (λ (q : Pin). q.bits) l) 4) begun.pins;
  value_ = λ e s pins x signals m. refl;
}

pub select_made : (p : Plan) (names : List Register) (d e : Netlist) (bits : ℕ) (a : Atom) → IsBegun p names d → Makes d e bits a (λ v x. x ≡ v (atom.Input 4) % 2 ^ bits)
    → MakesCarrying p names d e bits a (λ c. select_of c.pins % 2 ^ bits)
select_made p names d e bits a begun made =
    made_carries p names d e bits a (λ v x. x ≡ v (atom.Input 4) % 2 ^ bits) (λ c. select_of c.pins % 2 ^ bits) begun made (λ f s pins x signals m is.
    is ∙ ap (λ k. k % 2 ^ bits) ((select_carries p names d begun).value_ f s pins x signals m))

one_tells : (p : Plan) (names : List Register) (d : Netlist) (a : Atom) → a ≡ atom.Constant 1 (1 % 2 ^ 1) → Tells p names d a (λ c. true)
one_tells p names d a is = subst (λ b. Tells p names d b (λ c. true)) (sym is) (constant_carries p names d 1 1 (omega arith, omega arith) (omega arith))

pub name_pushed : (p : Plan) (names : List Register) (d : Netlist) (before after : List Push) (r when value : Atom) (taken : Cycle → ℕ) → IsBegun p names d → IsRegister names r Named
    → when ≡ atom.Constant 1 (1 % 2 ^ 1) → Carries p names d (width p Named) value taken → after ≡ before ++ record { target = t.Register role.Named; choice = record { when = when; value = value } } ∷ []
    → Logs p names d d before after (always_entry role.Named taken ∷ [])
name_pushed p names d before after r when value taken begun there one carries pushed =
    logs_one p names d d before after (record { target = t.Register role.Named; choice = record { when = when; value = value } }) (always_entry role.Named taken) (appends_none d) begun pushed
    (record { target = refl; there = (there.number, there.named); when = one_tells p names d when one; value = carries })

-- ---- all

pub nothing_named : (p : Plan) (names : List Register) (d : Netlist) (log : List Push) (k : ℕ) → k ≡ length (host_arrays p) → k < 2 → IsBegun p names d → Logs p names d d log log (named_entries p)
nothing_named p names d log k all few begun =
    let none : nat_lt 1 (length (host_arrays p)) ≡ false = le-ltb 1 (length (host_arrays p)) (omega (arith, all, few)) in
    subst (Logs p names d d log log) (sym (ap (λ b. if b then always_entry role.Named (λ c. select_of c.pins % 2 ^ named_bits p) ∷ [] else []) none)) (logs_none p names d log begun)

pub name_carries : (p : Plan) (names : List Register) (d e : Netlist) (bits : ℕ) (a : Atom) → bits ≡ named_bits p → MakesCarrying p names d e bits a (λ c. select_of c.pins % 2 ^ bits)
    → Carries p names e (named_bits p) a (λ c. select_of c.pins % 2 ^ named_bits p)
name_carries p names d e bits a wide made = subst (λ n. Carries p names e n a (λ c. select_of c.pins % 2 ^ n)) wide made.carries

pub one_named : (p : Plan) (names : List Register) (d e : Netlist) (before after : List Push) (k : ℕ) → k ≡ length (host_arrays p) → 1 < k → Appends d e
    → Logs p names e e before after (always_entry role.Named (λ c. select_of c.pins % 2 ^ named_bits p) ∷ []) → Logs p names d e before after (named_entries p)
one_named p names d e before after k all some appends pushed =
    let more : nat_lt 1 (length (host_arrays p)) ≡ true = lt-ltb 1 (length (host_arrays p)) (subst (λ n. 1 < n) all some) in
    let entries = ap (λ b. if b then always_entry role.Named (λ c. select_of c.pins % 2 ^ named_bits p) ∷ [] else []) more in
    logs_behind p names d e e before after (named_entries p) appends (subst (Logs p names e e before after) (sym entries) pushed)
