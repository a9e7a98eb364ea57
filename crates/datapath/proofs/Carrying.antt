-- What atoms carry while a circuit is made.
use Rattle.std.proofs.Common.{◌≡◌, ℕ, List, ◌++◌, slice_get, slice_index, Some, refl, sym, ap, ◌∙◌, subst, append_assoc}
use Rattle.std.specs.Option.{option_map}
use Rattle.std.proofs.lemmas.Option.{slice_get-map, get_or_from_slice_get}
use Rattle.rtl_core.specs.Netlist.{Netlist}
use Rattle.rtl_core.specs.ClockStep.{State, register_widths, widths, seen}
use Rattle.rtl_core.specs.Valid.{HasBits}
use Rattle.rtl_core.proofs.Stability.{Extends, get_same}
use Rattle.rtl_logic.proofs.Making.{goes_on, fits_later}
use Rattle.datapath.specs.Plans.{Plan}
use Rattle.datapath.specs.Cycles.{Register, Contents}
use Rattle.datapath.specs.Circuits.{width}
use Rattle.datapath.specs.Netlists.{Holds}
use Rattle.datapath.specs.CircuitWires.Carrying.{AreNamed, IsMoment}
use Rattle.datapath.specs.CircuitWires.{CarriedStays, RegistersCarry}

-- a moment of a longer circuit is one of the shorter
pub moment_before : (p : Plan) (names more : List Register) (d e f : Netlist) (s : State) (pins : List ℕ) (x : Contents) → Extends d e → IsMoment p (names ++ more) e f s pins x
    → IsMoment p names d f s pins x
moment_before p names more d e f s pins x longer m = record {
  extends = goes_on d e f longer m.extends;
  sound = m.sound;
  state = m.state;
  pins_ = m.pins_;
  more = more ++ m.more;
  holds = subst (λ ns. Holds p ns s x) (append_assoc names more m.more) m.holds;
}

pub stays : CarriedStays
stays p names more d e bits a value named named_too longer h = record {
  fits = fits_later d e longer bits a h.fits;
  value_ = λ f s pins x signals m. h.value_ f s pins x signals (moment_before p names more d e f s pins x longer m);
}

named_width : (p : Plan) (names : List Register) (d : Netlist) (k : ℕ) (r : Register) → AreNamed p names d → slice_get names k ≡ Some r → slice_get (register_widths d) k ≡ Some (width p r)
named_width p names d k r named h = ap (λ ws. slice_get ws k) named ∙ (slice_get-map (width p) names k ∙ ap (option_map (width p)) h)

held : (p : Plan) (names more : List Register) (s : State) (x : Contents) (k : ℕ) (r : Register) → Holds p (names ++ more) s x → slice_get names k ≡ Some r → slice_index s.regs k ≡ x.regs r
held p names more s x k r h is =
    let longer : slice_get (names ++ more) k ≡ Some r = get_same names (names ++ more) more k r refl is in
    get_or_from_slice_get s.regs k (x.regs r) 0 (ap (λ l. slice_get l k) h.regs ∙ (slice_get-map x.regs (names ++ more) k ∙ ap (option_map x.regs) longer))

pub register : RegistersCarry
register p names d a r named is = record {
  fits = subst (HasBits (widths d) (width p r)) (sym is.is) (named_width p names d is.number r named is.named);
  value_ = λ e s pins x signals m. ap (seen e s pins) is.is ∙ held p names m.more s x is.number r m.holds is.named;
}
