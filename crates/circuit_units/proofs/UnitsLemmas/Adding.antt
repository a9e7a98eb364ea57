-- What stays while units are added, and units one after another.
use Rattle.std.proofs.Common.{◌≡◌, ◌<◌, ◌⊎◌, inl, inr, ℕ, zero, suc, ◌+◌, List, [], ◌∷◌, ◌++◌, length, map, slice_get, Some, None, refl, sym, ap, ◌∙◌, subst, arith, append_assoc, length-append}
use Rattle.std.specs.Prelude.{◌==◌, ◌||◌, Option}
use Rattle.std.specs.List.{All}
use Rattle.std.proofs.lemmas.Grind.{flat_map-append}
use Rattle.std.proofs.lemmas.List.{append-nil, length-map}
use Rattle.std.proofs.lemmas.List.Elements.{All-nil, All-cons, All-head, All-tail}
use Rattle.std.proofs.lemmas.Option.{none-some}
use Rattle.rtl_core.specs.declared.design.Atom.{Atom}
use Rattle.rtl_core.specs.declared.design.Reg.{Reg}
use Rattle.rtl_core.specs.Netlist.{Netlist}
use Rattle.rtl_core.specs.ClockStep.{State, bit_of, seen, widths}
use Rattle.rtl_core.specs.Valid.{HasBits}
use Rattle.rtl_core.proofs.Stability.{Extends, get_same}
use Rattle.rtl_logic.specs.declared.select.Choice.{Choice}
use Rattle.rtl_logic.specs.Choosing.{Write, is_any, is_any_wanted, writes_in, ChoiceFits, Takes, zero_for_none}
use Rattle.rtl_logic.specs.Making.{Appends, Makes}
use Rattle.rtl_logic.proofs.Making.{stays, goes_on, appended, appends_both, fits_later}
use Rattle.datapath.specs.Plans.{Plan}
use Rattle.datapath.specs.Cycles.{Register, Signal, Cycle, in_cycle, bit}
use Rattle.datapath.specs.Circuits.{width}
use Rattle.datapath.specs.Units.{argument_writes, signed_writes}
use Rattle.datapath.specs.CircuitWires.Carrying.{IsBegun, CarriesWanted, MakesTelling}
use Rattle.datapath.proofs.Carrying as carrying
use Rattle.datapath.proofs.Combining.{moment_same, begun_after, bit_same, made_carries}
use Rattle.circuit_context.specs.declared.wanted.role.SharedUnit.{SharedUnit}
use Rattle.circuit_context.specs.declared.wanted.role.Target.{Target}
use Rattle.circuit_context.specs.declared.wanted.role.Target.TheVariants as t
use Rattle.circuit_context.specs.declared.wanted.log.Groups.{Groups}
use Rattle.circuit_context.specs.declared.wanted.log.Push.{Push}
use Rattle.circuit_context.specs.Wanted.Roles.{class_of, named, given, choices_of}
use Rattle.circuit_context.specs.Wanted.Entries.{Entry, all_demands}
use Rattle.circuit_context.specs.Wanted.Logs.{target_bits, IsThere, ArePushes, CarriesSome}
use Rattle.circuit_context.specs.Wanted.Driving.{Seen, Follow, IsDriven, AreDriven, ShowsSignal}
use Rattle.circuit_context.proofs.WantedLemmas.Joining.{pushes_later}
use Rattle.circuit_units.specs.declared.units.units.UnitWires.{UnitWires}
use Rattle.circuit_units.specs.declared.units.units.UnitInputs.{UnitInputs}
use Rattle.circuit_units.specs.Units.{unit_registers, unit_signals, CarriesAnswers}
use Rattle.circuit_units.specs.Units.Adding.{wanted_in, AreDemands, AreBits, MakesWanted, MakesInputs, registers_in, signals_in, Adds}
use Rattle.circuit_units.proofs.UnitsLemmas.Demands.{choices_show, choices_fit, wanted_left, wanted_right, wanted_signed}

-- ---- what is wanted

-- the demands stay where wires are appended
pub demands_later : (p : Plan) (names : List Register) (d e : Netlist) (groups : Groups) → Extends d e → IsBegun p names e → AreDemands p names d groups → AreDemands p names e groups
demands_later p names d e groups longer begun h = record { begun = begun; pushes = h.pushes; are = pushes_later p names d e h.pushes (all_demands p) longer h.are; given_ = h.given_ }

there_longer : (names more : List Register) (target : Target) → IsThere names target → IsThere (names ++ more) target
there_longer names more (t.Register r) h = (h.0, get_same names (names ++ more) more h.0 (named r) refl h.1)
there_longer names more (t.Left unit) h = tt
there_longer names more (t.Right unit) h = tt
there_longer names more (t.Signed unit) h = tt
there_longer names more (t.Address a n) h = tt
there_longer names more (t.Stored a n) h = tt
there_longer names more (t.Refused a n) h = tt
there_longer names more (t.Entered a) h = tt
there_longer names more t.Ended h = tt
there_longer names more t.Tested h = tt

pushes_longer : (p : Plan) (names more : List Register) (d e : Netlist) → IsBegun p names d → IsBegun p (names ++ more) e → Extends d e → (pushes : List Push) (entries : List Entry)
    → ArePushes p names d pushes entries → ArePushes p (names ++ more) e pushes entries
pushes_longer p names more d e b c longer [] [] h = tt
pushes_longer p names more d e b c longer [] (it ∷ entries) h = absurd h
pushes_longer p names more d e b c longer (push ∷ pushes) [] h = absurd h
pushes_longer p names more d e b c longer (push ∷ pushes) (it ∷ entries) h = (
  record {
    target = h.0.target;
    there = there_longer names more it.target h.0.there;
    when = carrying.stays p names more d e 1 push.choice.when (λ c. bit (it.write c).wanted) b.named c.named longer h.0.when;
    value = carrying.stays p names more d e (target_bits p it.target) push.choice.value (λ c. (it.write c).value) b.named c.named longer h.0.value;
  },
  pushes_longer p names more d e b c longer pushes entries h.1,
)

-- and where registers are appended
pub demands_longer : (p : Plan) (names more : List Register) (d e : Netlist) (groups : Groups) → Extends d e → IsBegun p (names ++ more) e → AreDemands p names d groups → AreDemands p (names ++ more) e groups
demands_longer p names more d e groups longer begun h = record {
  begun = begun;
  pushes = h.pushes;
  are = pushes_longer p names more d e h.begun begun longer h.pushes (all_demands p) h.are;
  given_ = h.given_;
}

takes_any : (choices : List Choice) (writes : List Write) (x : ℕ) → Takes writes (zero_for_none choices) x → Takes writes None x
takes_any choices writes x h = record { wanted = h.wanted; else_ = λ e. tt }

-- what is selected shows what the operations give
pub wanted_made : (p : Plan) (names : List Register) (d e : Netlist) (groups : Groups) (target : Target) (choices : List Choice) (bits : ℕ) (a : Atom) → AreDemands p names d groups
    → choices ≡ given groups target → Makes d e bits a (λ v x. Takes (writes_in v choices) (zero_for_none choices) x) → MakesWanted p names d e bits a (wanted_in target (all_demands p))
wanted_made p names d e groups target choices bits a h is made =
    let longer : Extends d e = appended d e made.appends in
    let same : choices ≡ choices_of target h.pushes = is ∙ h.given_ target in
    record {
      appends = made.appends;
      begun = begun_after p names d e h.begun made.appends made.sound;
      carries = record {
        fits = made.shows.fits;
        value_ = λ f s pins x signals m.
            let v : Atom → ℕ = seen f s pins in
            let shown : writes_in v choices ≡ wanted_in target (all_demands p) (in_cycle x signals pins) =
            ap (writes_in v) same ∙ choices_show p names d f s pins x signals target (moment_same p names d e f s pins x longer m) h.pushes (all_demands p) h.are in
            subst (λ ws. Takes ws None (v a)) shown (takes_any choices (writes_in v choices) (v a) (made.shows.value f s pins m.extends m.sound m.state m.pins_));
      };
    }

pub choices_are : (p : Plan) (names : List Register) (d : Netlist) (groups : Groups) (target : Target) (choices : List Choice) (bits : ℕ) → AreDemands p names d groups → choices ≡ given groups target
    → AreBits p target bits → All (ChoiceFits (widths d) bits) choices
choices_are p names d groups target choices bits h is wide =
    subst (All (ChoiceFits (widths d) bits)) (sym (is ∙ h.given_ target)) (choices_fit p names d target bits wide h.pushes (all_demands p) h.are)

pub whens_fit : (d : Netlist) (bits : ℕ) (choices : List Choice) → All (ChoiceFits (widths d) bits) choices → All (HasBits (widths d) 1) (map (λ (c : Choice). c.when) choices)
whens_fit d bits [] h = All-nil (HasBits (widths d) 1)
whens_fit d bits (c ∷ cs) h =
    All-cons (HasBits (widths d) 1) c.when (map (λ (c : Choice). c.when) cs) (All-head (ChoiceFits (widths d) bits) c cs h).when (whens_fit d bits cs (All-tail (ChoiceFits (widths d) bits) c cs h))

any_when : (v : Atom → ℕ) (choices : List Choice) → is_any v (map (λ (c : Choice). c.when) choices) ≡ is_any_wanted (writes_in v choices)
any_when v [] = refl
any_when v (c ∷ cs) = ap (λ b. (v c.when == 1) || b) (any_when v cs)

-- whether some operation gives the unit its operands
pub starts_made : (p : Plan) (names : List Register) (d e : Netlist) (groups : Groups) (unit : SharedUnit) (choices : List Choice) (a : Atom) → AreDemands p names d groups
    → choices ≡ given groups (t.Left unit) → Makes d e 1 a (λ v x. x ≡ bit_of (is_any v (map (λ (c : Choice). c.when) choices)))
    → MakesTelling p names d e a (λ c. is_any_wanted (argument_writes p c (class_of unit) unit.number 0))
starts_made p names d e groups unit choices a h is made =
    made_carries p names d e 1 a (λ v x. x ≡ bit_of (is_any v (map (λ (c : Choice). c.when) choices))) (λ c. bit (is_any_wanted (argument_writes p c (class_of unit) unit.number 0))) h.begun made
    (λ f s pins x signals m e.
    let v : Atom → ℕ = seen f s pins in
    let c : Cycle = in_cycle x signals pins in
    e ∙ (bit_same (is_any v (map (λ (c : Choice). c.when) choices)) ∙ ap bit (any_when v choices ∙ ap is_any_wanted (ap (writes_in v) (is ∙ h.given_ (t.Left unit))
    ∙ (choices_show p names d f s pins x signals (t.Left unit) m h.pushes (all_demands p) h.are ∙ wanted_left p unit c)))))

-- ---- operands

pub wanted_on : (p : Plan) (names : List Register) (d e : Netlist) (bits : ℕ) (a : Atom) (writes : Cycle → List Write) (other : Cycle → Option ℕ) → Extends d e → CarriesWanted p names d bits a writes other
    → CarriesWanted p names e bits a writes other
wanted_on p names d e bits a writes other longer h = record {
  fits = fits_later d e longer bits a h.fits;
  value_ = λ f s pins x signals m. h.value_ f s pins x signals (moment_same p names d e f s pins x longer m);
}

pub wanted_stays : (p : Plan) (names more : List Register) (d e : Netlist) (bits : ℕ) (a : Atom) (writes : Cycle → List Write) (other : Cycle → Option ℕ) → Extends d e
    → CarriesWanted p names d bits a writes other → CarriesWanted p (names ++ more) e bits a writes other
wanted_stays p names more d e bits a writes other longer h = record {
  fits = fits_later d e longer bits a h.fits;
  value_ = λ f s pins x signals m. h.value_ f s pins x signals (carrying.moment_before p names more d e f s pins x longer m);
}

-- the writes, said in another way
wanted_as : (p : Plan) (names : List Register) (d : Netlist) (bits : ℕ) (a : Atom) (writes others : Cycle → List Write) → ((c : Cycle) → writes c ≡ others c)
    → CarriesWanted p names d bits a writes (λ c. None) → CarriesWanted p names d bits a others (λ c. None)
wanted_as p names d bits a writes others same h = record {
  fits = h.fits;
  value_ = λ f s pins x signals m. subst (λ ws. Takes ws None (seen f s pins a)) (same (in_cycle x signals pins)) (h.value_ f s pins x signals m);
}

pub inputs_made : (p : Plan) (names : List Register) (d e f g : Netlist) (unit : SharedUnit) (x : UnitInputs) → MakesWanted p names d e unit.bits x.left (wanted_in (t.Left unit) (all_demands p))
    → MakesWanted p names e f unit.bits x.right (wanted_in (t.Right unit) (all_demands p)) → MakesWanted p names f g 1 x.signed (wanted_in (t.Signed unit) (all_demands p))
    → MakesInputs p names d g unit x
inputs_made p names d e f g unit x left right signed =
    let last : Extends f g = appended f g signed.appends in
    let later : Extends e g = goes_on e f g (appended e f right.appends) last in
    record {
      appends = appends_both d e g left.appends (appends_both e f g right.appends signed.appends);
      begun = signed.begun;
      are = record {
        left = wanted_on p names e g unit.bits x.left (λ c. argument_writes p c (class_of unit) unit.number 0) (λ c. None) later
            (wanted_as p names e unit.bits x.left (wanted_in (t.Left unit) (all_demands p)) (λ c. argument_writes p c (class_of unit) unit.number 0) (wanted_left p unit) left.carries);
        right = wanted_on p names f g unit.bits x.right (λ c. argument_writes p c (class_of unit) unit.number 1) (λ c. None) last
            (wanted_as p names f unit.bits x.right (wanted_in (t.Right unit) (all_demands p)) (λ c. argument_writes p c (class_of unit) unit.number 1) (wanted_right p unit) right.carries);
        signed = wanted_as p names g 1 x.signed (wanted_in (t.Signed unit) (all_demands p)) (λ c. signed_writes p c (class_of unit) unit.number) (wanted_signed p unit) signed.carries;
      };
    }

-- ---- units one after another

-- a signal that is seen, in a longer circuit
shows_longer : (p : Plan) (names more : List Register) (d e : Netlist) (x : Seen) → Extends d e → ShowsSignal p names d x → ShowsSignal p (names ++ more) e x
shows_longer p names more d e x longer h = record { bits = h.bits; carries = wanted_stays p names more d e h.bits x.1 _ _ longer h.carries }

some_longer : (p : Plan) (names more : List Register) (d e : Netlist) (a : Atom) (value : Cycle → ℕ) → IsBegun p names d → IsBegun p (names ++ more) e → Extends d e
    → CarriesSome p names d a value → CarriesSome p (names ++ more) e a value
some_longer p names more d e a value b c longer h = record { bits = h.bits; carries = carrying.stays p names more d e h.bits a value b.named c.named longer h.carries }

follow_first : (first second : List Seen) (e : Netlist) (s : State) (pins : List ℕ) (signals : Signal → ℕ) → Follow (first ++ second) e s pins signals → Follow first e s pins signals
follow_first [] second e s pins signals h = All-nil (λ (x : Seen). signals x.0 ≡ seen e s pins x.1)
follow_first (x ∷ xs) second e s pins signals h =
    let P : Seen → Type 0 = λ (x : Seen). signals x.0 ≡ seen e s pins x.1 in
    All-cons P x xs (All-head P x (xs ++ second) h) (follow_first xs second e s pins signals (All-tail P x (xs ++ second) h))

follow_second : (first second : List Seen) (e : Netlist) (s : State) (pins : List ℕ) (signals : Signal → ℕ) → Follow (first ++ second) e s pins signals → Follow second e s pins signals
follow_second [] second e s pins signals h = h
follow_second (x ∷ xs) second e s pins signals h =
    let P : Seen → Type 0 = λ (x : Seen). signals x.0 ≡ seen e s pins x.1 in
    follow_second xs second e s pins signals (All-tail P x (xs ++ second) h)

-- a register that is driven, in a longer circuit that leaves it as it is
driven_longer : (p : Plan) (names more : List Register) (sigs : List Seen) (later : List Seen) (d e : Netlist) (k : ℕ) (r : Register) → Extends d e → slice_get e.regs k ≡ slice_get d.regs k
    → IsDriven p names sigs d k r → IsDriven p (names ++ more) (sigs ++ later) e k r
driven_longer p names more sigs later d e k r longer same h = record {
  reg = h.reg;
  stands = same ∙ h.stands;
  takes = λ f s pins x signals m follow.
      h.takes f s pins x signals (carrying.moment_before p names more d e f s pins x longer m) (follow_first sigs later f s pins signals follow);
}

driven_behind : (p : Plan) (names : List Register) (before sigs : List Seen) (e : Netlist) (k : ℕ) (r : Register) → IsDriven p names sigs e k r → IsDriven p names (before ++ sigs) e k r
driven_behind p names before sigs e k r h = record { reg = h.reg; stands = h.stands; takes = λ f s pins x signals m follow. h.takes f s pins x signals m (follow_second before sigs f s pins signals follow) }

-- which of two lists an element is in
pub record IsFirst {A : Type 0} (xs : List A) (k : ℕ) (x : A) : Type 0 where
  stands : slice_get xs k ≡ Some x
  below : k < length xs

pub record IsSecond {A : Type 0} (xs ys : List A) (k : ℕ) (x : A) : Type 0 where
  place : ℕ
  stands : slice_get ys place ≡ Some x
  is : k ≡ length xs + place

pub which : {A : Type 0} (xs ys : List A) (k : ℕ) (x : A) → slice_get (xs ++ ys) k ≡ Some x → IsFirst xs k x ⊎ IsSecond xs ys k x
which [] ys k x e = inr (record { place = k; stands = e; is = omega arith })
which (y ∷ xs) ys zero x e = inl (record { stands = e; below = omega arith })
which (y ∷ xs) ys (suc k) x e = later (which xs ys k x e) where
  later : IsFirst xs k x ⊎ IsSecond xs ys k x → IsFirst (y ∷ xs) (suc k) x ⊎ IsSecond (y ∷ xs) ys (suc k) x
  later (inl h) = inl (record { stands = h.stands; below = omega (arith, h.below) })
  later (inr h) = inr (record { place = h.place; stands = h.stands; is = omega (arith, h.is) })

-- as many registers as names
pub name_count : (p : Plan) (names : List Register) (d : Netlist) → IsBegun p names d → length names ≡ length d.regs
name_count p names d h = sym (length-map names (width p)) ∙ (sym (ap length h.named) ∙ length-map d.regs (λ (g : Reg). g.bits))

-- no unit is added
pub adds_none : (p : Plan) (names : List Register) (d : Netlist) → IsBegun p names d → Adds p names d d []
adds_none p names d begun = record {
  extends = stays d;
  begun = subst (λ ns. IsBegun p ns d) (sym (append-nil names)) begun;
  registers = λ k less. refl;
  memories = refl;
  outputs = refl;
  driven = λ k r e. absurd (none-some r e);
  shown = λ k x e. absurd (none-some x e);
  answers = λ k w e. absurd (none-some w e);
}

-- wires are appended first
pub adds_behind : (p : Plan) (names : List Register) (d e f : Netlist) (ws : List UnitWires) → Appends d e → Adds p names e f ws → Adds p names d f ws
adds_behind p names d e f ws appends h =
    let regs : e.regs ≡ d.regs = ap (λ (n : Netlist). n.regs) appends.is in
    record {
      extends = goes_on d e f (appended d e appends) h.extends;
      begun = h.begun;
      registers = λ k less. h.registers k (subst (λ (l : List Reg). k < length l) (sym regs) less) ∙ ap (λ l. slice_get l k) regs;
      memories = h.memories ∙ ap (λ (n : Netlist). n.mems) appends.is;
      outputs = h.outputs ∙ ap (λ (n : Netlist). n.outputs) appends.is;
      driven = h.driven;
      shown = h.shown;
      answers = h.answers;
    }

module _ (p : Plan) (names : List Register) (d e f : Netlist) (ws vs : List UnitWires) (from : IsBegun p names d) (h : Adds p names d e ws) (k : Adds p (names ++ registers_in p ws) e f vs) where
  abbrev first_regs : List Register
  first_regs = registers_in p ws

  abbrev second_regs : List Register
  second_regs = registers_in p vs

  abbrev before : List Register
  before = names ++ first_regs

  abbrev all_names : List Register
  all_names = before ++ second_regs

  same_regs : registers_in p (ws ++ vs) ≡ first_regs ++ second_regs
  same_regs = flat_map-append (λ (w : UnitWires). unit_registers p w.unit) ws vs

  same_names : names ++ registers_in p (ws ++ vs) ≡ all_names
  same_names = ap (λ l. names ++ l) same_regs ∙ sym (append_assoc names first_regs second_regs)

  same_signals : signals_in (ws ++ vs) ≡ signals_in ws ++ signals_in vs
  same_signals = flat_map-append unit_signals ws vs

  count : length before ≡ length names + length first_regs
  count = length-append names first_regs

  -- a register of the first units stays
  kept_register : (j : ℕ) → j < length first_regs → slice_get f.regs (length names + j) ≡ slice_get e.regs (length names + j)
  kept_register j less = k.registers (length names + j) (omega (arith, less, count, name_count p before e h.begun))

  all_driven : AreDriven p all_names (signals_in ws ++ signals_in vs) f (length names) (first_regs ++ second_regs)
  all_driven j r at = by (which first_regs second_regs j r at) where
    by : IsFirst first_regs j r ⊎ IsSecond first_regs second_regs j r → IsDriven p all_names (signals_in ws ++ signals_in vs) f (length names + j) r
    by (inl x) = driven_longer p before second_regs (signals_in ws) (signals_in vs) e f (length names + j) r k.extends (kept_register j x.below) (h.driven j r x.stands)
    by (inr x) =
        let place : length before + x.place ≡ length names + j = omega (arith, x.is, count) in
        subst (λ n. IsDriven p all_names (signals_in ws ++ signals_in vs) f n r) place (driven_behind p all_names (signals_in ws) (signals_in vs) f (length before + x.place) r (k.driven x.place r x.stands))

  all_shown : (j : ℕ) (x : Seen) → slice_get (signals_in ws ++ signals_in vs) j ≡ Some x → ShowsSignal p all_names f x
  all_shown j x at = by (which (signals_in ws) (signals_in vs) j x at) where
    by : IsFirst (signals_in ws) j x ⊎ IsSecond (signals_in ws) (signals_in vs) j x → ShowsSignal p all_names f x
    by (inl y) = shows_longer p before second_regs e f x k.extends (h.shown j x y.stands)
    by (inr y) = k.shown y.place x y.stands

  all_answers : (j : ℕ) (w : UnitWires) → slice_get (ws ++ vs) j ≡ Some w → CarriesAnswers p all_names f w
  all_answers j w at = by (which ws vs j w at) where
    by : IsFirst ws j w ⊎ IsSecond ws vs j w → CarriesAnswers p all_names f w
    by (inl y) =
        let a = h.answers j w y.stands in
        (some_longer p before second_regs e f w.first _ h.begun k.begun k.extends a.0, some_longer p before second_regs e f w.second _ h.begun k.begun k.extends a.1)
    by (inr y) = k.answers y.place w y.stands

  -- units are added, and then others
  pub adds_then : Adds p names d f (ws ++ vs)
  adds_then = record {
    extends = goes_on d e f h.extends k.extends;
    begun = subst (λ ns. IsBegun p ns f) (sym same_names) k.begun;
    registers = λ j less. k.registers j (omega (arith, less, length-append names first_regs, name_count p before e h.begun, name_count p names d from)) ∙ h.registers j less;
    memories = k.memories ∙ h.memories;
    outputs = k.outputs ∙ h.outputs;
    driven = subst (λ (ns : List Register). AreDriven p ns (signals_in (ws ++ vs)) f (length names) (registers_in p (ws ++ vs))) (sym same_names)
        (subst (λ ss. AreDriven p all_names ss f (length names) (registers_in p (ws ++ vs))) (sym same_signals)
        (subst (AreDriven p all_names (signals_in ws ++ signals_in vs) f (length names)) (sym same_regs) all_driven));
    shown = λ j x at. subst (λ ns. ShowsSignal p ns f x) (sym same_names) (all_shown j x (ap (λ l. slice_get l j) (sym same_signals) ∙ at));
    answers = λ j w at. subst (λ ns. CarriesAnswers p ns f w) (sym same_names) (all_answers j w at);
  }
