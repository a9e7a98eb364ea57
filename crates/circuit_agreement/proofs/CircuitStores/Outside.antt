-- What is written while no node is under way: at port 0, by the host or by the initial sequence.
use Rattle.std.proofs.Common.{◌≡◌, ◌≢◌, ℕ, zero, suc, ◌+◌, ◌<◌, Bool, true, false, [], map, Some, refl, sym, ap, ◌∙◌, subst, inl, inr, arith}
use Rattle.std.specs.Prelude.{filter, flat_map, ◌==◌, if◌then◌else◌}
use Rattle.std.specs.List.{list_any}
use Rattle.std.proofs.lemmas.Bool.{cases_Bool, and_from, and_left, or_from, or_right, not_from_false, cond-true, cond-false, false≢true, eq-eqb, eqb-true}
use Rattle.ir_core.specs.declared.body.Out.{Out}
use Rattle.clock_ir.specs.ClockRuns.{TimedNode}
use Rattle.datapath.specs.Plans.{Plan, Placed, body_at, numbered}
use Rattle.datapath.specs.Cycles.{Active, AddressOf, StoredOf, Cycle, resets}
use Rattle.rtl_logic.specs.Choosing.{Write, where_, is_any_wanted, IsElse}
use Rattle.datapath.specs.Reading.{is_starting, is_allowed, arguments}
use Rattle.datapath.specs.Control.{leaves_as}
use Rattle.datapath.specs.Values.{out_value, out_writes}
use Rattle.datapath.specs.Ports.{at_port, stores, accesses, last_port, port_count, element_address, is_storing, outside_address, outside_word, outside_writes, is_enabled, next_words, is_refused}
use Rattle.datapath.specs.Circuits.{IsCycle}
use Rattle.ir_core.specs.Bodies.{stored, with_word}
use Rattle.circuit_agreement.proofs.CircuitStores.Lists.{none_there, first_most, Flat, from_flat, Has, from_mapped, Mapped, has_none}
use Rattle.circuit_agreement.proofs.CircuitStores.Wanted.{none_wanted}
use Rattle.circuit_agreement.proofs.CircuitStores.Quiet.{off_at, off_leaves}
use Rattle.circuit_agreement.proofs.CircuitStores.Ports.{Writes, none_writes, one_writes}

-- no node is under way, and there is no reset
pub record IsResting (c : Cycle) : Type 0 where
  pub active : (j : ℕ) → c.regs (Active j) ≡ 0
  pub unset : resets c ≡ false

module _ (p : Plan) (c : Cycle) (is_cycle : IsCycle p c) (rest : IsResting c) where
  pub not_starting : (x : Placed) → is_starting p c x ≡ false
  not_starting x = off_at p c x.node x.op.start (rest.active x.node)

  not_storing : (x : Placed) → is_storing p c x ≡ false
  not_storing x = and_left _ (is_allowed p c x) (and_left _ _ (and_left _ _ (not_starting x)))

  pub not_refused : (x : Placed) → is_refused p c x ≡ false
  not_refused x = and_left _ _ (not_starting x)

  module _ (a : ℕ) where
    none_stores : (m : ℕ) → list_any (is_storing p c) (stores p a m) ≡ false
    none_stores m = none_there (is_storing p c) (stores p a m) (λ x h. not_storing x)

    other_ports : (m : ℕ) → is_enabled p c a (suc m) ≡ false
    other_ports m = and_left _ _ (or_from (list_any (is_storing p c) (stores p a (suc m))) false (none_stores (suc m)) refl)

    pub port_off : outside_writes p c a 0 ≡ false → is_enabled p c a 0 ≡ false
    port_off e = and_left _ _ (or_from (list_any (is_storing p c) (stores p a 0)) _ (none_stores 0) e)

    port_on : outside_writes p c a 0 ≡ true → is_enabled p c a 0 ≡ true
    port_on e = and_from _ _ (or_right (list_any (is_storing p c) (stores p a 0)) _ e) (not_from_false _ rest.unset)

    pub outside_address_is : (address : ℕ) → outside_address p c a 0 ≡ Some address → c.signals (AddressOf a 0) ≡ address
    outside_address_is address e =
        subst (λ o. IsElse o (c.signals (AddressOf a 0))) e
        ((is_cycle (AddressOf a 0)).else_ (none_wanted (λ (x : Placed). where_ (is_starting p c x) (element_address p c a x)) (at_port p a 0) (λ x h. not_starting x)))

    pub outside_word_is : (word : ℕ) → outside_word p c a 0 ≡ Some word → c.signals (StoredOf a 0) ≡ word
    outside_word_is word e =
        subst (λ o. IsElse o (c.signals (StoredOf a 0))) e
        ((is_cycle (StoredOf a 0)).else_ (none_wanted (λ (x : Placed). where_ (is_storing p c x) (stored (arguments p c x))) (stores p a 0) (λ x h. not_storing x)))

    -- nothing is written
    pub unchanged : outside_writes p c a 0 ≡ false → (address : ℕ) → next_words p c a address ≡ c.memories a address
    unchanged e address = none_writes p c a address 0 (port_count p a) (c.memories a) (λ m low high w. no_port m w)
      where
        no_port : (m : ℕ) → Writes p c a address m → ⊥
        no_port zero w = false≢true (sym (port_off e) ∙ w.enabled)
        no_port (suc m) w = false≢true (sym (other_ports m) ∙ w.enabled)

    -- one word is written
    pub changed : (at_ word : ℕ) → outside_writes p c a 0 ≡ true → outside_address p c a 0 ≡ Some at_ → outside_word p c a 0 ≡ Some word
        → (address : ℕ) → next_words p c a address ≡ with_word (c.memories a) at_ word address
    changed at_ word on is_address is_word address =
        elim (cases_Bool (at_ == address)) [
          | inl here ↦
              one_writes p c a address 0 (port_count p a) 0 (c.memories a) (omega arith) some
              (record { enabled = port_on on; address_ = outside_address_is at_ is_address ∙ eqb-true at_ address here }) others
              ∙ (outside_word_is word is_word ∙ sym (cond-true _ _ _ here))
          | inr there ↦ none_writes p c a address 0 (port_count p a) (c.memories a) (λ m low high w. no_port m there w) ∙ sym (cond-false _ _ _ there)
        ]
      where
        some : 0 < 0 + port_count p a
        some = let h = first_most (λ (x : Placed). last_port p a x + 1) 1 (accesses p a) in omega (arith, h)

        others : (l : ℕ) → l ≢ 0 → Writes p c a address l → ⊥
        others zero differ w = differ refl
        others (suc l) differ w = false≢true (sym (other_ports l) ∙ w.enabled)

        no_port : (m : ℕ) → (at_ == address) ≡ false → Writes p c a address m → ⊥
        no_port zero there w = false≢true (sym there ∙ eq-eqb at_ address (sym (outside_address_is at_ is_address) ∙ w.address_))
        no_port (suc m) there w = false≢true (sym (other_ports m) ∙ w.enabled)

  -- ---- variables

  -- no node leaves anything
  pub no_outs : (v : ℕ) → is_any_wanted (flat_map (out_writes p c v) (numbered p)) ≡ false
  no_outs v = none_there (λ (w : Write). w.wanted) (flat_map (out_writes p c v) (numbered p)) (λ w h. of_node w (from_flat (out_writes p c v) (numbered p) w h))
    where
      made : (n : ℕ × TimedNode) (w : Write) (b : Bool) → Has (if b then map (λ (x : Out). where_ (leaves_as p c n.0 n.1) (out_value p c n.0 n.1 x)) (filter (λ (x : Out). x.variable.0 == v) (body_at p n.0).outs) else []) w
          → w.wanted ≡ false
      made n w true h =
          let m : Mapped (λ (x : Out). where_ (leaves_as p c n.0 n.1) (out_value p c n.0 n.1 x)) (filter (λ (x : Out). x.variable.0 == v) (body_at p n.0).outs) w =
          from_mapped (λ (x : Out). where_ (leaves_as p c n.0 n.1) (out_value p c n.0 n.1 x)) (filter (λ (x : Out). x.variable.0 == v) (body_at p n.0).outs) w h in
          ap (λ (z : Write). z.wanted) (sym m.is) ∙ off_leaves p c n.0 n.1 (rest.active n.0)
      made n w false h = absurd (has_none w h)

      of_node : (w : Write) → Flat (out_writes p c v) (numbered p) w → w.wanted ≡ false
      of_node w r = made r.from w (p.savings.behind r.from.0 v) r.in_
