-- Answers replaced: where each answer that is claimed is one that is given, or is Undefined, agreement with the box over the answers that are given is agreement with the box over those that are claimed.
use Rattle.std.proofs.Common.{◌≡◌, ◌⊎◌, ℕ, zero, suc, ◌-◌, ◌%◌, ◌^◌, List, [], ◌∷◌, Bool, true, false, cond, Option, Some, None, inl, inr, refl, sym, subst, mod-lt}
use Rattle.std.specs.Prelude.{◌==◌, slice_get, slice_index, map}
use Rattle.std.specs.Option.{option_and_then, option_map}
use Rattle.std.specs.List.{All}
use Rattle.std.proofs.lemmas.List.Elements.{All-head, All-tail}
use Rattle.std.proofs.lemmas.Bool.{cases_eq}
use Rattle.std.proofs.lemmas.Nat.{pow_pos}
use Rattle.hls_base.specs.FileScope.{FileScope}
use Rattle.hls_base.specs.ArrayAddress.{element_at}
use Rattle.rtl_core.specs.declared.design.Pin.{Pin}
use Rattle.rtl_core.specs.Netlist.{Netlist}
use Rattle.rtl_core.specs.ClockStep.{State, Fit, ArePins, stepped}
use Rattle.rtl_core.specs.Interface.{ArrayShape, Interface, input_pins, reset_of, start_of, enable_of, write_of, select_of, address_of, data_of, arguments_of}
use Rattle.rtl_core.specs.Box.{Answer, Ended, Undefined, Endless, Answers, Phase, Init, Idle, Busy, Done, Forever, Broken, Box, StepIn, BoxStep, Waits, initial, in_phase, entered, element_in, named, elements_of, with_element, accessed, served}
use Rattle.rtl_core.specs.Agreement.{IsBroken, Follows, Agrees}
use Rattle.source_answers.specs.SourceDesigns.SourceCircuits.Fitting.{FitArrays}
use Rattle.source_answers.specs.SourceDesigns.SourceCircuits.Replacing.{StartFits, Replaces}
use Rattle.source_answers.proofs.SourceDesigns.SourceCircuits.Fitting.{FitArrays-at, FitArrays-set, IsArray-set, words_held, held_fit, arguments_fit}

-- pins of a cycle without a reset
abbrev Low : Netlist → List ℕ → Type 0
Low d pins = ArePins d pins × (reset_of pins ≡ 0)

module _ (i : Interface) (Kept : FileScope → Type 0) where
  abbrev PendingFits : Phase → Type 0
  PendingFits (Busy cycles result arrays file_scope) = Kept file_scope × FitArrays i.arrays arrays
  PendingFits _ = Unit {0}

  -- the elements and the file-scope contents of a box fit, and so do those that a run is to leave
  pub record IsFitting (b : Box) : Type 0 where
    pub pending : PendingFits b.phase
    pub kept : Kept b.file_scope
    pub arrays : FitArrays i.arrays b.arrays

  -- ---- the host's access

  access_fits : (b : Box) (pins : List ℕ) (o : Option ArrayShape) → IsFitting b → slice_get i.arrays (select_of pins) ≡ o → IsFitting (accessed b pins (option_and_then (element_in (select_of pins) (address_of pins)) o))
  access_fits b pins None h at = record { pending = h.pending; kept = h.kept; arrays = h.arrays }
  access_fits b pins (Some a) h at = by_number (element_at a.dims (address_of pins))
    where
      writes : (c : Bool) (index : ℕ)
          → IsFitting (cond c
          (record { phase = b.phase; arrays = with_element b.arrays (record { array = select_of pins; index = index; bits = a.bits }) (data_of pins % 2 ^ a.bits); file_scope = b.file_scope; shown = None })
          (record { phase = b.phase; arrays = b.arrays; file_scope = b.file_scope; shown = Some (slice_index (elements_of b.arrays (select_of pins)) index) }))
      writes false index = record { pending = h.pending; kept = h.kept; arrays = h.arrays }
      writes true index = record {
        pending = h.pending;
        kept = h.kept;
        arrays = FitArrays-set i.arrays b.arrays (select_of pins) a _ h.arrays at (IsArray-set a _ index _ (mod-lt (data_of pins) (pow_pos a.bits)) (FitArrays-at i.arrays b.arrays (select_of pins) a h.arrays at));
      }

      by_number : (found : Option ℕ) → IsFitting (accessed b pins (option_map (λ index. record { array = select_of pins; index = index; bits = a.bits }) found))
      by_number None = record { pending = h.pending; kept = h.kept; arrays = h.arrays }
      by_number (Some index) = writes (write_of pins == 1) index

  served_fits : (b : Box) (pins : List ℕ) → IsFitting b → IsFitting (served i b pins)
  served_fits b pins h = by (enable_of pins == 1)
    where
      by : (c : Bool) → IsFitting (cond c (accessed b pins (named i pins)) (in_phase b b.phase))
      by true = access_fits b pins (slice_get i.arrays (select_of pins)) h refl
      by false = record { pending = h.pending; kept = h.kept; arrays = h.arrays }

  -- ---- one cycle

  module _ (given claimed : Answers) (r : Replaces i Kept given claimed) where
    -- the box over the claimed answers is broken, or it is one over the answers that are given, and fits
    abbrev Goes : Box → List ℕ → Box → Type 0
    Goes b pins next = IsBroken next.phase ⊎ (BoxStep i given b pins next × IsFitting next)

    entered_fits : (b : Box) (pins : List ℕ) (answer : Answer) → IsFitting b → StartFits i Kept b.file_scope (arguments_of pins) b.arrays → claimed b.file_scope (arguments_of pins) b.arrays answer
        → IsBroken (entered b answer).phase ⊎ (given b.file_scope (arguments_of pins) b.arrays answer × IsFitting (entered b answer))
    entered_fits b pins Undefined h fits is = inl tt
    entered_fits b pins Endless h fits is = elim (r.covered b.file_scope (arguments_of pins) b.arrays Endless fits is) [
      | inl e ↦ absurd (cc)
      | inr also ↦ inr (also, record { pending = tt; kept = h.kept; arrays = h.arrays })
    ]
    entered_fits b pins (Ended cycles result bs g) h fits is = elim (r.covered b.file_scope (arguments_of pins) b.arrays (Ended cycles result bs g) fits is) [
      | inl e ↦ absurd (cc)
      | inr also ↦ inr (also, record { pending = r.leaves b.file_scope g (arguments_of pins) b.arrays bs cycles result fits is; kept = h.kept; arrays = h.arrays })
    ]

    waits : (b next : Box) (pins : List ℕ) → IsFitting b → Fit i.scalars (arguments_of pins) → Waits i claimed b pins next → IsBroken next.phase ⊎ (Waits i given b pins next × IsFitting next)
    waits b next pins h fits w = elim (cases_eq (start_of pins) 1) [
      | inl e ↦
          let t = w.taken e in
          elim (entered_fits b pins t.0 h record { kept = h.kept; arguments = fits; arrays = h.arrays } t.1) [
            | inl broken ↦ inl (subst (λ (x : Box). IsBroken x.phase) (sym t.2) broken)
            | inr on ↦ inr (record { taken = λ _. (t.0, on.0, t.2); kept = λ ne. absurd (ne e) }, subst IsFitting (sym t.2) on.1)
          ]
      | inr ne ↦ inr (record { taken = λ e. absurd (ne e); kept = w.kept }, subst IsFitting (sym (w.kept ne)) (served_fits b pins h))
    ]

    abbrev boxed : Phase → List (List ℕ) → FileScope → Option ℕ → Box
    boxed phase arrays fs shown = record { phase = phase; arrays = arrays; file_scope = fs; shown = shown }

    initial_pending : (n : ℕ) → PendingFits (initial n)
    initial_pending zero = tt
    initial_pending (suc n) = tt

    goes_in : (phase : Phase) (as' : List (List ℕ)) (fs : FileScope) (shown : Option ℕ) (next : Box) (pins : List ℕ) → IsFitting (boxed phase as' fs shown) → Fit i.scalars (arguments_of pins)
        → StepIn phase i claimed (boxed phase as' fs shown) pins next → Goes (boxed phase as' fs shown) pins next
    goes_in (Init n) as' fs shown next pins h fits step = inr (step, subst IsFitting (sym step) record { pending = initial_pending (n - 1); kept = h.kept; arrays = h.arrays })
    goes_in Idle as' fs shown next pins h fits step = waits (boxed Idle as' fs shown) next pins h fits step
    goes_in (Done result) as' fs shown next pins h fits step = waits (boxed (Done result) as' fs shown) next pins h fits step
    goes_in (Busy zero result bs g) as' fs shown next pins h fits step = inr (step, subst IsFitting (sym step) record { pending = tt; kept = h.pending.0; arrays = h.pending.1 })
    goes_in (Busy (suc zero) result bs g) as' fs shown next pins h fits step = inr (step, subst IsFitting (sym step) record { pending = tt; kept = h.pending.0; arrays = h.pending.1 })
    goes_in (Busy (suc (suc k)) result bs g) as' fs shown next pins h fits step = inr (step, subst IsFitting (sym step) record { pending = h.pending; kept = h.kept; arrays = h.arrays })
    goes_in Forever as' fs shown next pins h fits step = inr (step, subst IsFitting (sym step) record { pending = tt; kept = h.kept; arrays = h.arrays })
    goes_in Broken as' fs shown next pins h fits step = inr (step, subst IsFitting (sym step) record { pending = tt; kept = h.kept; arrays = h.arrays })

    pub goes : (b next : Box) (pins : List ℕ) → IsFitting b → Fit i.scalars (arguments_of pins) → BoxStep i claimed b pins next → Goes b pins next
    goes b next pins = goes_in b.phase b.arrays b.file_scope b.shown next pins

    -- ---- whole streams

    module _ (d : Netlist) (same_pins : d.inputs ≡ input_pins i) where
      of_broken : (rest : List (List ℕ)) (s : State) (b : Box) → IsBroken b.phase → Follows d i claimed s b rest
      of_broken [] s b h = tt
      of_broken (pins ∷ rest) s b h = λ sound. absurd (sound h)

      follows_claimed : (rest : List (List ℕ)) (s : State) (b : Box) → IsFitting b → All (Low d) rest → Follows d i given s b rest → Follows d i claimed s b rest
      follows_claimed [] s b h low f = tt
      follows_claimed (pins ∷ rest) s b h low f = λ sound.
          let now = All-head (Low d) pins rest low in
          let fits = arguments_fit i pins (subst (λ ps. Fit (map (λ (p : Pin). p.bits) ps) pins) same_pins now.0) in (
            (f sound).0,
            λ next step. elim (goes b next pins h fits step) [
              | inl broken ↦ of_broken rest (stepped d s pins) next broken
              | inr on ↦ follows_claimed rest (stepped d s pins) next on.1 (All-tail (Low d) pins rest low) ((f sound).1 next on.0)
            ],
          )

    pub agrees_replaced : (d : Netlist) (init : ℕ) (file_scope : FileScope) → Kept file_scope → Agrees d i init file_scope given → Agrees d i init file_scope claimed
    agrees_replaced d init file_scope kept agrees = record {
      pins = agrees.pins;
      arrays = agrees.arrays;
      follows = λ power_up first rest state pins high low.
          follows_claimed d agrees.pins.inputs rest (stepped d power_up first) _
          record { pending = initial_pending init; kept = kept; arrays = held_fit i.arrays power_up.mems (words_held d.mems i.arrays power_up.mems agrees.arrays state.mems) }
          low (agrees.follows power_up first rest state pins high low);
    }
