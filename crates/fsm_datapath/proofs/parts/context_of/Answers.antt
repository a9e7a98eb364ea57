use Rattle.std.proofs.Common.{◌≡◌, ◌<◌, ◌≤◌, ℕ, zero, suc, Bool, List, [], Some, length, slice_get, slice_index_or, refl, sym, subst, arith}
use Rattle.std.specs.Prelude.{◌^◌}
use Rattle.std.proofs.lemmas.List.{append-nil}
use Rattle.std.proofs.lemmas.Option.{slice_get_within}
use Rattle.ir_core.specs.declared.cfg.Node.{Node}
use Rattle.ir_core.specs.declared.cfg.Node.TheVariants as node
use Rattle.ir_core.specs.declared.timed.Timed.{Timed}
use Rattle.ir_core.specs.Small as small
use Rattle.circuit_context.specs.Counting as ports
use Rattle.datapath.specs.LeftOut.{is_read}
use Rattle.circuit_context.specs.Bank.Banks.{names_of, ArePortCounts}
use Rattle.datapath.specs.Tables.{ArePlaces}
use Rattle.circuit_context.proofs.Programs.{few_parts, short_start}
use Rattle.fsm_datapath.specs.Making.{plan_in}
use Rattle.fsm_datapath.proofs.parts.context_of.Goals as goal

fewer : (n : Node Timed) → length (small.ops_in n) < 2 ^ 25 → length (ports.ops_in n) < 2 ^ 32
fewer (node.Plain b) few = omega (arith, few)
fewer (node.Looped r) few = omega (arith, few)

covered : (n : ℕ) (xs : List Bool) (f : ℕ → Bool) → ((v : ℕ) → v < n → slice_get xs v ≡ Some (f v)) → n ≤ length xs
covered zero xs f h = omega arith
covered (suc n) xs f h = let last = slice_get_within xs n (f n) (h n (omega arith)) in omega (arith, last)

pub ports_of-requires : goal.ports_of-requires
ports_of-requires c = λ k d inside. fewer (slice_index_or c.args.cfg.now.nodes.items k d) ((few_parts c.args.cfg.now c.requires.buildable).operations k d inside)

pub allot-requires-clause-nodes : goal.allot-requires-clause-nodes
allot-requires-clause-nodes c = (few_parts c.args.cfg.now c.requires.buildable).nodes

pub allot-requires-clause-variables : goal.allot-requires-clause-variables
allot-requires-clause-variables c = (few_parts c.args.cfg.now c.requires.buildable).variables

pub allot-requires-clause-arrays : goal.allot-requires-clause-arrays
allot-requires-clause-arrays c = (few_parts c.args.cfg.now c.requires.buildable).arrays

pub allot-requires-clause-start : goal.allot-requires-clause-start
allot-requires-clause-start c = short_start c.args.cfg.now c.requires.buildable.valid

pub invariant_of-result-clause-few : goal.invariant_of-result-clause-few
invariant_of-result-clause-few c = few_parts c.args.cfg.now c.requires.buildable

pub invariant_of-result-clause-start : goal.invariant_of-result-clause-start
invariant_of-result-clause-start c = short_start c.args.cfg.now c.requires.buildable.valid

pub invariant_of-result-clause-told : goal.invariant_of-result-clause-told
invariant_of-result-clause-told c =
    let cfg = c.args.cfg.now in
    covered (length cfg.frame.variables.items) c.in_ok-read.read.items (is_read cfg c.args.live) (c.in_ok-read.ensures c.requires.live.sized (sym c.requires.live.count))

pub returns : goal.returns
returns c =
    let live = c.args.live in
    let p = plan_in c.args.cfg.now c.args.registers.now live in
    let counted = c.in_ok-ports.ensures.ports p c.args.registers.now refl in
    record {
      cfg_ = refl;
      registers_ = refl;
      live_ = refl;
      allotted = λ begun. c.in_ok-bank.ensures p refl (subst (ArePortCounts p) (sym c.deref.ensures.value) counted.counts) begun;
      context = λ begun. record {
        plan = refl;
        more = [];
        names_ = sym (append-nil (names_of c.in_ok-bank.bank));
        small = c.numbers_are_small.ensures.small;
        live_ = c.requires.live;
        places_ = subst (λ l. ArePlaces l c.in_ok-places.places) c.deref-2.ensures.value c.in_ok-places.ensures;
        ports_ = counted;
        read_ = c.in_ok-read.ensures c.requires.live.sized (sym c.requires.live.count);
      };
    }
