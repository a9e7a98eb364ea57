-- Registers that are driven.
use Rattle.std.proofs.Common.{◌≡◌, ◌≢◌, ◌≤◌, ◌<◌, ◌⊎◌, inl, inr, ℕ, zero, suc, ◌+◌, Bool, true, false, List, [], ◌∷◌, ◌++◌, length, map, slice_get, Some, None, Option, refl, sym, ap, subst, ◌∙◌, arith}
use Rattle.std.specs.Prelude.{◌==◌, if◌then◌else◌}
use Rattle.std.proofs.lemmas.Bool.{false≢true}
use Rattle.std.proofs.lemmas.Option.{none-some, same_Some, get_or_from_slice_get, slice_get_within, slice_get-map}
use Rattle.rtl_core.specs.declared.design.Atom.{Atom}
use Rattle.rtl_core.specs.declared.design.Atom.TheVariants as atom
use Rattle.rtl_core.specs.declared.design.Reg.{Reg}
use Rattle.rtl_core.specs.Netlist.{Netlist}
use Rattle.rtl_core.specs.ClockStep.{bit_of, bits_of, seen, widths}
use Rattle.rtl_core.specs.Valid.{IsBetween}
use Rattle.rtl_core.proofs.Stability.{Extends}
use Rattle.rtl_logic.specs.declared.select.Choice.{Choice}
use Rattle.rtl_logic.specs.Making.{Appends, with_next_at, next_set, with_next}
use Rattle.std.specs.List.{All}
use Rattle.rtl_logic.specs.Choosing.{ChoiceFits, Write, Takes, is_any_wanted, writes_in, Chooses, IsChoice}
use Rattle.rtl_logic.proofs.Making.{goes_on, appended, stays}
use Rattle.datapath.specs.Plans.{Plan}
use Rattle.datapath.specs.Cycles.{Register, in_cycle}
use Rattle.datapath.specs.Circuits.{width, register_writes}
use Rattle.datapath.specs.CircuitWires.Carrying.{IsMoment, IsBegun, idle}
use Rattle.datapath.proofs.Carrying.{register}
use Rattle.datapath.proofs.Combining.{moment_same, begun_after, set_extends, set_begun}
use Rattle.circuit_context.specs.Wanted.Driving.{Seen, IsDriven}
use Rattle.hls_base.specs.declared.number.ArrayId.{ArrayId}
use Rattle.circuit_context.specs.declared.wanted.role.Role.{Role}
use Rattle.circuit_context.specs.declared.wanted.role.Role.TheVariants as role
use Rattle.circuit_context.specs.declared.wanted.role.Target.TheVariants as t
use Rattle.circuit_context.specs.declared.wanted.log.Push.{Push}
use Rattle.circuit_context.specs.Wanted.Roles.{named, choices_of}
use Rattle.circuit_context.specs.Wanted.Entries.{Entry}
use Rattle.circuit_context.proofs.WantedLemmas.Wanted.{wanted_as, choices_fit}
use Rattle.std.specs.Option.{option_map}
use Rattle.rtl_core.proofs.Stability.{get_same}
use Rattle.circuit_context.specs.Wanted.Logs.{ArePushes}
use Rattle.circuit_context.proofs.WantedLemmas.Joining.{pushes_later}
use Rattle.circuit_control.specs.Drives.{StandFor, WantAsWritten, AreIdle, IsWord, IsNoWord, CanDrive, CanDriveRole, DrivesOne, DrivesRole, DrivesRegisters}

-- ---- one register is set

pub set_there : (k : ℕ) (enable next : Atom) (regs : List Reg) (reg : Reg) → slice_get regs k ≡ Some reg → slice_get (with_next_at k enable next regs) k ≡ Some (next_set enable next reg)
set_there k enable next [] reg h = absurd (none-some reg h)
set_there zero enable next (r ∷ rs) reg h = ap (λ o. option_set o) h where
  option_set : Option Reg → Option Reg
  option_set None = None
  option_set (Some x) = Some (next_set enable next x)
set_there (suc k) enable next (r ∷ rs) reg h = set_there k enable next rs reg h

pub set_elsewhere : (k j : ℕ) (enable next : Atom) (regs : List Reg) → j ≢ k → slice_get (with_next_at k enable next regs) j ≡ slice_get regs j
set_elsewhere k j enable next [] h = refl
set_elsewhere zero zero enable next (r ∷ rs) h = absurd (h refl)
set_elsewhere zero (suc j) enable next (r ∷ rs) h = refl
set_elsewhere (suc k) zero enable next (r ∷ rs) h = refl
set_elsewhere (suc k) (suc j) enable next (r ∷ rs) h = set_elsewhere k j enable next rs (λ e. h (ap suc e))

-- ---- what a register takes

-- one choice in place of writes that stand for others gives what these others want
chosen_takes : (ws vs : List Write) (when value old : ℕ) → StandFor ws vs → when ≡ bit_of (is_any_wanted ws) → Takes ws None value → Takes vs (Some old) (if when == 1 then value else old)
chosen_takes ws vs when value old stand is takes = by (is_any_wanted ws) refl where
  by : (b : Bool) → is_any_wanted ws ≡ b → Takes vs (Some old) (if when == 1 then value else old)
  by true any = record {
    wanted = λ y some all. ap (λ n. if n == 1 then value else old) (is ∙ ap bit_of any) ∙ takes.wanted y any (stand.all y all);
    else_ = λ none. absurd (false≢true (sym none ∙ (sym stand.any ∙ any)));
  }
  by false any = record {
    wanted = λ y some all. absurd (false≢true (sym any ∙ (stand.any ∙ some)));
    else_ = λ none. ap (λ n. if n == 1 then value else old) (is ∙ ap bit_of any);
  }

-- nothing is wanted
nothing_takes : (vs : List Write) (old : ℕ) → StandFor [] vs → Takes vs (Some old) old
nothing_takes vs old stand = record {
  wanted = λ y some all. absurd (false≢true (stand.any ∙ some));
  else_ = λ none. refl;
}

-- a register that is driven stays so where it stays as it is
pub driven_later : (p : Plan) (names : List Register) (sigs : List Seen) (d e : Netlist) (k : ℕ) (r : Register) → Extends d e → slice_get e.regs k ≡ slice_get d.regs k → IsDriven p names sigs d k r → IsDriven p names sigs e k r
driven_later p names sigs d e k r longer same h = record {
  reg = h.reg;
  stands = same ∙ h.stands;
  takes = λ f s pins x signals m follow. h.takes f s pins x signals (moment_same p names d e f s pins x longer m) follow;
}

-- a register has as many bits as its name says
pub has_width : (p : Plan) (names : List Register) (d : Netlist) (k : ℕ) (r : Register) (bits : ℕ) → IsBegun p names d → slice_get names k ≡ Some r → bits ≡ bits_of (widths d) (atom.Reg k)
    → bits ≢ 0 → bits ≤ 64 → IsBetween 1 128 (width p r)
has_width p names d k r bits begun named is some less =
    let carries = register p names d (atom.Reg k) r begun.named (record { number = k; is = refl; named = named }) in
    let same : bits ≡ width p r = is ∙ get_or_from_slice_get (widths d).regs k (width p r) 0 carries.fits in
    (positive (width p r) (λ e. some (same ∙ e)), omega (arith, less, same)) where
      positive : (n : ℕ) → n ≢ 0 → 1 ≤ n
      positive zero h = absurd (h refl)
      positive (suc n) h = omega arith

-- ---- one register is driven

regs_same : (d e : Netlist) → Appends d e → e.regs ≡ d.regs
regs_same d e h = ap (λ (n : Netlist). n.regs) h.is

pub nothing_driven : (p : Plan) (names : List Register) (d e : Netlist) (k : ℕ) (r : Register) (choices : List Choice) → CanDrive p names d k r choices → IsChoice d e (width p r) choices None
    → DrivesOne p names d e k r
nothing_driven p names d e k r choices h none =
    let longer : Extends d e = appended d e none.1 in
    let same : e.regs ≡ d.regs = regs_same d e none.1 in
    record {
      extends = longer;
      begun = begun_after p names d e h.begun none.1 none.2;
      driven = record {
        reg = idle (width p r);
        stands = ap (λ l. slice_get l k) same ∙ h.idle_;
        takes = λ f s pins x signals m follow.
            let stand = h.stand f s pins x signals (moment_same p names d e f s pins x longer m) in
            nothing_takes (register_writes p (in_cycle x signals pins) r) (x.regs r)
            (subst (λ l. StandFor (writes_in (seen f s pins) l) (register_writes p (in_cycle x signals pins) r)) none.0 stand);
      };
      others = λ j other. ap (λ l. slice_get l j) same;
      memories = ap (λ (n : Netlist). n.mems) none.1.is;
      outputs = ap (λ (n : Netlist). n.outputs) none.1.is;
    }

pub one_driven : (p : Plan) (names : List Register) (d e : Netlist) (k : ℕ) (r : Register) (choices : List Choice) (c : Choice) → CanDrive p names d k r choices → IsChoice d e (width p r) choices (Some c)
    → DrivesOne p names d (with_next e (atom.Reg k) c.when c.value) k r
one_driven p names d e k r choices c h some =
    let made : Chooses d e (width p r) choices c = some.1 in
    let after : Netlist = with_next e (atom.Reg k) c.when c.value in
    let longer : Extends d e = appended d e made.appends in
    let set_on : Extends e after = set_extends e (atom.Reg k) c.when c.value in
    let same : e.regs ≡ d.regs = regs_same d e made.appends in
    record {
      extends = goes_on d e after longer set_on;
      begun = set_begun p names e (atom.Reg k) c.when c.value (begun_after p names d e h.begun made.appends made.sound);
      driven = record {
        reg = next_set c.when c.value (idle (width p r));
        stands = set_there k c.when c.value e.regs (idle (width p r)) (ap (λ l. slice_get l k) same ∙ h.idle_);
        takes = λ f s pins x signals m follow.
            let inner : IsMoment p names e f s pins x = moment_same p names e after f s pins x set_on m in
            chosen_takes (writes_in (seen f s pins) choices) (register_writes p (in_cycle x signals pins) r) (seen f s pins c.when) (seen f s pins c.value) (x.regs r)
            (h.stand f s pins x signals (moment_same p names d e f s pins x longer inner))
            (made.when.value f s pins inner.extends inner.sound inner.state inner.pins_)
            (made.value.value f s pins inner.extends inner.sound inner.state inner.pins_);
      };
      others = λ j other. set_elsewhere k j c.when c.value e.regs other ∙ ap (λ l. slice_get l j) same;
      memories = ap (λ (n : Netlist). n.mems) made.appends.is;
      outputs = ap (λ (n : Netlist). n.outputs) made.appends.is;
    }

-- ---- the register of a role

-- what is logged for a role stands for what the plan writes
pub can_drive : (p : Plan) (names : List Register) (d : Netlist) (k : ℕ) (r : Role) (pushes : List Push) (entries : List Entry) (choices : List Choice) → CanDriveRole p names d k r pushes entries
    → IsNoWord r → choices ≡ choices_of (t.Register r) pushes → CanDrive p names d k (named r) choices
can_drive p names d k r pushes entries choices h other is = record {
  begun = h.begun;
  named_ = h.named_;
  idle_ = h.idle_ other;
  fit = subst (All (ChoiceFits (widths d) (width p (named r)))) (sym is) (choices_fit p names d pushes entries (t.Register r) h.pushes_);
  stand = λ e s pins x signals m.
      let same = ap (writes_in (seen e s pins)) is ∙ wanted_as p names d pushes entries (t.Register r) h.pushes_ e s pins x signals m in
      subst (λ ws. StandFor ws (register_writes p (in_cycle x signals pins) (named r))) (sym same) (h.wanted other (in_cycle x signals pins));
}

pub role_driven : (p : Plan) (names : List Register) (d e : Netlist) (k : ℕ) (r : Role) → IsNoWord r → DrivesOne p names d e k (named r) → DrivesRole p names d e k r
role_driven p names d e k r other h = record {
  extends = h.extends;
  begun = h.begun;
  driven = λ no. h.driven;
  word = λ word. absurd (other word);
  others = h.others;
  memories = h.memories;
  outputs = h.outputs;
}

pub word_stays : (p : Plan) (names : List Register) (d : Netlist) (k : ℕ) (r : Role) → IsBegun p names d → IsWord r → DrivesRole p names d d k r
word_stays p names d k r begun word = record {
  extends = stays d;
  begun = begun;
  driven = λ no. absurd (no word);
  word = λ w. refl;
  others = λ j other. refl;
  memories = refl;
  outputs = refl;
}

-- ---- all registers

-- the first n registers are driven, and all others are as they were
pub record PartlyDriven (p : Plan) (names : List Register) (roles : List Role) (n : ℕ) (d e : Netlist) : Type 0 where
  pub extends : Extends d e
  pub begun : IsBegun p names e
  pub driven : (k : ℕ) (r : Role) → k < n → slice_get roles k ≡ Some r → IsNoWord r → IsDriven p names [] e k (named r)
  pub words : (k : ℕ) (r : Role) → slice_get roles k ≡ Some r → IsWord r → slice_get e.regs k ≡ slice_get d.regs k
  pub others : (k : ℕ) → n ≤ k → slice_get e.regs k ≡ slice_get d.regs k
  pub memories : e.mems ≡ d.mems
  pub outputs : e.outputs ≡ d.outputs

-- what is logged stands for what the plan writes to each register but for those of words, and each of these keeps what it has so far
pub record CanDriveAll (p : Plan) (names : List Register) (roles : List Role) (d : Netlist) (pushes : List Push) (entries : List Entry) : Type 0 where
  pub begun : IsBegun p names d
  pub named_ : (k : ℕ) (r : Role) → slice_get roles k ≡ Some r → slice_get names k ≡ Some (named r)
  pub pushes_ : ArePushes p names d pushes entries
  pub wanted : WantAsWritten p roles entries
  pub idle_ : AreIdle p roles d

pub can_drive_role : (p : Plan) (names : List Register) (roles : List Role) (d e : Netlist) (n : ℕ) (r : Role) (pushes : List Push) (entries : List Entry) → CanDriveAll p names roles d pushes entries
    → PartlyDriven p names roles n d e → slice_get roles n ≡ Some r → CanDriveRole p names e n r pushes entries
can_drive_role p names roles d e n r pushes entries h partly at = record {
  begun = partly.begun;
  named_ = h.named_ n r at;
  idle_ = λ other. partly.others n (omega arith) ∙ h.idle_ n r at other;
  pushes_ = pushes_later p names d e pushes entries partly.extends h.pushes_;
  wanted = λ other. h.wanted n r at other;
}

pub names_stand : (roles : List Role) (more : List Register) (k : ℕ) (r : Role) → slice_get roles k ≡ Some r → slice_get (map named roles ++ more) k ≡ Some (named r)
names_stand roles more k r at = get_same (map named roles) (map named roles ++ more) more k (named r) refl (slice_get-map named roles k ∙ ap (option_map named) at)

pub none_driven : (p : Plan) (names : List Register) (roles : List Role) (d : Netlist) → IsBegun p names d → PartlyDriven p names roles 0 d d
none_driven p names roles d begun = record {
  extends = stays d;
  begun = begun;
  driven = λ k r less is other. absurd (omega (arith, less));
  words = λ k r is word. refl;
  others = λ k more. refl;
  memories = refl;
  outputs = refl;
}

same_number : (k m : ℕ) → (k ≡ m) ⊎ (k ≢ m)
same_number zero zero = inl refl
same_number zero (suc m) = inr (λ e. absurd (omega (arith, e)))
same_number (suc k) zero = inr (λ e. absurd (omega (arith, e)))
same_number (suc k) (suc m) = further k m (same_number k m) where
  further : (k m : ℕ) → (k ≡ m) ⊎ (k ≢ m) → (suc k ≡ suc m) ⊎ (suc k ≢ suc m)
  further k m (inl e) = inl (ap suc e)
  further k m (inr differ) = inr (λ e. differ (omega (arith, e)))

driven_by : (p : Plan) (names : List Register) (roles : List Role) (n : ℕ) (d e f : Netlist) (r q : Role) (k : ℕ) → (k ≡ n) ⊎ (k ≢ n) → slice_get roles n ≡ Some r → PartlyDriven p names roles n d e
    → DrivesRole p names e f n r → k < n + 1 → slice_get roles k ≡ Some q → IsNoWord q → IsDriven p names [] f k (named q)
driven_by p names roles n d e f r q k (inl same) at h step less is other =
    let role_is : r ≡ q = same_Some r q (sym at ∙ (ap (slice_get roles) (sym same) ∙ is)) in
    subst (λ j. IsDriven p names [] f j (named q)) (sym same) (subst (λ x. IsDriven p names [] f n (named x)) role_is (step.driven (subst IsNoWord (sym role_is) other)))
driven_by p names roles n d e f r q k (inr differ) at h step less is other =
    driven_later p names [] e f k (named q) step.extends (step.others k differ) (h.driven k q (below k n differ less) is other) where
      below : (k n : ℕ) → k ≢ n → k < n + 1 → k < n
      below zero zero differ less = absurd (differ refl)
      below zero (suc n) differ less = omega arith
      below (suc k) zero differ less = absurd (omega (arith, less))
      below (suc k) (suc n) differ less = omega (arith, below k n (λ e. differ (ap suc e)) (omega (arith, less)))

word_by : (p : Plan) (names : List Register) (roles : List Role) (n : ℕ) (d e f : Netlist) (r q : Role) (k : ℕ) → (k ≡ n) ⊎ (k ≢ n) → slice_get roles n ≡ Some r → PartlyDriven p names roles n d e
    → DrivesRole p names e f n r → slice_get roles k ≡ Some q → IsWord q → slice_get f.regs k ≡ slice_get d.regs k
word_by p names roles n d e f r q k (inl same) at h step is word =
    let role_is : r ≡ q = same_Some r q (sym at ∙ (ap (slice_get roles) (sym same) ∙ is)) in
    ap (slice_get f.regs) same ∙ (step.word (subst IsWord (sym role_is) word) ∙ (ap (slice_get e.regs) (sym same) ∙ h.words k q is word))
word_by p names roles n d e f r q k (inr differ) at h step is word = step.others k differ ∙ h.words k q is word

pub one_more : (p : Plan) (names : List Register) (roles : List Role) (n : ℕ) (d e f : Netlist) (r : Role) → slice_get roles n ≡ Some r → PartlyDriven p names roles n d e → DrivesRole p names e f n r
    → PartlyDriven p names roles (n + 1) d f
one_more p names roles n d e f r at h step = record {
  extends = goes_on d e f h.extends step.extends;
  begun = step.begun;
  driven = λ k q less is other. driven_by p names roles n d e f r q k (same_number k n) at h step less is other;
  words = λ k q is word. word_by p names roles n d e f r q k (same_number k n) at h step is word;
  others = λ k more. step.others k (λ e. absurd (omega (arith, more, e))) ∙ h.others k (omega (arith, more));
  memories = step.memories ∙ h.memories;
  outputs = step.outputs ∙ h.outputs;
}

pub all_driven : (p : Plan) (names : List Register) (roles : List Role) (n : ℕ) (d e : Netlist) → n ≡ length roles → PartlyDriven p names roles n d e → DrivesRegisters p names roles d e
all_driven p names roles n d e whole h = record {
  extends = h.extends;
  begun = h.begun;
  driven = λ k r is other. h.driven k r (omega (arith, whole, slice_get_within roles k r is)) is other;
  words = h.words;
  others = λ k more. h.others k (omega (arith, whole, more));
  memories = h.memories;
  outputs = h.outputs;
}

pub no_word : (r : Role) → ((a : ArrayId) (n : ℕ) → r ≡ role.Word a n → ⊥) → IsNoWord r
no_word (role.Word a n) h = λ word. h a n refl
no_word r h = λ word. absurd word
