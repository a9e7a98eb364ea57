-- The small circuits are valid, but for names.
use Rattle.std.proofs.Common.{◌≡◌, ℕ, ◌+◌, ◌-◌, ◌*◌, ◌^◌, ◌<◌, ◌≤◌, [], ◌∷◌, refl, sym, ap, ◌∙◌, subst, arith}
use Rattle.std.specs.List.{All}
use Rattle.std.proofs.lemmas.Nat.{pow_pos, pow-add}
use Rattle.std.proofs.lemmas.List.Elements.{All-nil, All-cons}
use Rattle.rtl_core.specs.declared.design.Atom.TheVariants as atom
use Rattle.rtl_core.specs.Netlist.{Netlist}
use Rattle.rtl_core.specs.ClockStep.{widths}
use Rattle.rtl_core.specs.Valid.{IsBetween, WiresFit, RegisterFits, PortFits, MemoryFits}
use Rattle.chain_box.specs.StageEmbedding.Placing.{Part}
use Rattle.chain_box.proofs.Assembling.{ReadsFit}
use Rattle.chain_link.specs.Units.{one_of, register_of, low_pins, both_bits, queue_front, queue_back, control, writing_port, reading_port, memory_of}
use Rattle.chain_link.specs.Queues.{HasLog}
use Rattle.chain_link.proofs.Queues.{limit_fits}

one : IsBetween 1 128 1
one = (omega arith, omega arith)

-- a constant of n bits
abbrev IsNumber : ℕ → ℕ → Type 0
IsNumber n value = (n ≡ n) × IsBetween 1 128 n × (value < 2 ^ n)

zero_fits : (n : ℕ) → IsBetween 1 128 n → IsNumber n 0
zero_fits n h = (refl, h, pow_pos n)

one_is_below : (n : ℕ) → 1 ≤ n → 1 < 2 ^ n
one_is_below n h =
    let k = n - 1 in
    let sum : n ≡ k + 1 = omega arith in
    let some = pow_pos k in
    let double : 2 ^ n ≡ 2 ^ k * 2 = ap (λ z. 2 ^ z) sum ∙ pow-add 2 k 1 in
    omega arith

one_fits : (n : ℕ) → IsBetween 1 128 n → IsNumber n 1
one_fits n h = (refl, h, one_is_below n h.0)

pub low_fit : WiresFit low_pins [] low_pins.wires
low_fit =
    let five : IsBetween 1 128 5 = (omega arith, omega arith) in
    let sixteen : IsBetween 1 128 16 = (omega arith, omega arith) in
    let sixty_four : IsBetween 1 128 64 = (omega arith, omega arith) in
    (one, zero_fits 1 one, (five, zero_fits 5 five, (sixteen, zero_fits 16 sixteen, (sixty_four, zero_fits 64 sixty_four, tt))))

pub both_fit : WiresFit both_bits [] both_bits.wires
both_fit = (one, (refl, refl), tt)

pub control_fits : WiresFit control [] control.wires
control_fits = (
  one,
  (refl, refl),
  (
    one,
    (refl, refl),
    (
      one,
      refl,
      (
        one,
        (refl, refl),
        (
          one,
          (refl, refl),
          (
            one,
            (refl, refl),
            (one, (refl, zero_fits 1 one, refl), (one, (refl, one_fits 1 one, refl), (one, (refl, zero_fits 1 one, refl), tt))),
          ),
        ),
      ),
    ),
  ),
)

small : (n : ℕ) → IsBetween 1 64 n → IsBetween 1 128 n
small n h = (h.0, let l = h.1 in omega (arith, l))

module _ (depth log bits : ℕ) (has : HasLog depth log) (b : IsBetween 1 64 bits) where
  abbrev here : IsBetween 1 128 log
  here = (has.some, let l = has.few in omega arith)

  abbrev more : IsBetween 1 128 (log + 1)
  more = (omega arith, let l = has.few in omega arith)

  abbrev bit : IsBetween 1 64 1
  bit = (omega arith, omega arith)

  pub front_fits : WiresFit (queue_front depth log bits) [] (queue_front depth log bits).wires
  front_fits = (
    one,
    (refl, (log + 1, zero_fits (log + 1) more, refl)),
    (
      one,
      (refl, (log + 1, refl, (refl, more, limit_fits depth log has.room))),
      (small bits b, (memory_of log bits (reading_port bits ∷ []), refl, record { bits = refl; wide = refl; port = (0, reading_port bits, refl, refl) }), tt),
    ),
  )

  pub back_fits : WiresFit (queue_back log bits) [] (queue_back log bits).wires
  back_fits =
      let some = has.some in (
        here,
        ((λ x. x), (log + 1, refl, (omega arith), (omega arith), (omega arith))),
        (
          here,
          (refl, refl),
          (
            here,
            (refl, one_fits log here),
            (
              one,
              (refl, refl),
              (
                here,
                (refl, zero_fits log here, refl),
                (
                  more,
                  (refl, one_fits (log + 1) more),
                  (
                    more,
                    (refl, one_fits (log + 1) more),
                    (
                      one,
                      (refl, refl),
                      (
                        one,
                        (refl, refl),
                        (
                          more,
                          (refl, refl, refl),
                          (more, (refl, zero_fits (log + 1) more, refl), tt),
                        ),
                      ),
                    ),
                  ),
                ),
              ),
            ),
          ),
        ),
      )

  back_registers_fit : All (RegisterFits (widths (queue_back log bits))) (queue_back log bits).regs
  back_registers_fit =
      let P = RegisterFits (widths (queue_back log bits)) in
      let few = has.few in
      let first = register_of log (atom.Wire 3) (atom.Wire 4) in
      let second = register_of (log + 1) (atom.Wire 8) (atom.Wire 10) in
      All-cons P first (second ∷ []) (record { bits = (has.some, (omega arith)); enable = refl; next = refl })
      (All-cons P second [] (record { bits = ((omega arith), (omega arith)); enable = refl; next = refl }) (All-nil P))

  back_memories_fit : All (MemoryFits (widths (queue_back log bits))) (queue_back log bits).mems
  back_memories_fit =
      let w = widths (queue_back log bits) in
      let m = memory_of log bits (writing_port ∷ reading_port bits ∷ []) in
      let P = PortFits w m in
      All-cons (MemoryFits w) m []
      (record {
        bits = b;
        depth = (has.some, has.few);
        some = (omega arith);
        ports = All-cons P writing_port (reading_port bits ∷ []) (record { addr = refl; enable = refl; value = refl })
            (All-cons P (reading_port bits) [] (record { addr = refl; enable = zero_fits 1 one; value = zero_fits bits (small bits b) }) (All-nil P));
      })
      (All-nil (MemoryFits w))

  pub back_reads : (q : Part) → q.circuit ≡ queue_back log bits → ReadsFit q
  back_reads q e = record {
    regs = subst (λ (d : Netlist). All (RegisterFits (widths d)) d.regs) (sym e) back_registers_fit;
    mems = subst (λ (d : Netlist). All (MemoryFits (widths d)) d.mems) (sym e) back_memories_fit;
  }

pub control_reads : (q : Part) → q.circuit ≡ control → ReadsFit q
control_reads q e =
    let P = RegisterFits (widths control) in
    let r = register_of 1 (one_of 1) (atom.Wire 8) in
    record {
      regs = subst (λ (d : Netlist). All (RegisterFits (widths d)) d.regs) (sym e) (All-cons P r [] (record { bits = ((omega arith), (omega arith)); enable = one_fits 1 one; next = refl }) (All-nil P));
      mems = subst (λ (d : Netlist). All (MemoryFits (widths d)) d.mems) (sym e) (All-nil (MemoryFits (widths control)));
    }
