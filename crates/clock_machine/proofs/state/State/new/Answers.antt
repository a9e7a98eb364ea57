use Rattle.std.proofs.Common.{◌≡◌, ℕ, ◌<◌, ◌^◌, length, map, refl, ap, ◌∙◌, arith}
use Rattle.std.proofs.lemmas.List.{length-replicate}
use Rattle.ir_core.specs.declared.cfg.Memory.{Memory}
use Rattle.clock_machine.proofs.state.State.new.Goals as goal

pub returns-clause-state : goal.returns-clause-state
returns-clause-state c = λ form whole steady.
    let sizes = c.sizes_of-sizes.result in
    let words = c.in_ok-vec.field-0 in
    let words_count : length words.items ≡ sizes.words = ap length (c.in_ok-vec.ensures.items_if_clones_equal (λ y e. e)) ∙ length-replicate {A = ℕ} sizes.words 0 in
    let heads_count : length c.in_ok-vec-2.field-0.items ≡ sizes.lines = ap length (c.in_ok-vec-2.ensures.items_if_clones_equal (λ y e. e)) ∙ length-replicate {A = ℕ} sizes.lines 0 in
    let args_count : length c.in_ok-vec-3.field-0.items ≡ sizes.args = ap length (c.in_ok-vec-3.ensures.items_if_clones_equal (λ y e. e)) ∙ length-replicate {A = ℕ} sizes.args 0 in
    let fresh_count : length c.in_ok-vec-4.field-0.items ≡ sizes.fresh = ap length (c.in_ok-vec-4.ensures.items_if_clones_equal (λ y e. e)) ∙ length-replicate {A = ℕ} sizes.fresh 0 in
    let few : length words.items < 2 ^ 63 = omega (arith, words.ok.0, words.ok.1, words.small) in
    record {
      form = form;
      whole = whole;
      steady = steady;
      room = λ i it is.
          (let fits = c.sizes_of-sizes.ensures i it is in record {
            lines = record {
              words = λ k line at. (let far = fits.words k line at in omega (arith, far, words_count, few));
              heads = omega (arith, fits.lines, heads_count);
            };
            args = λ k a at. (let far = fits.args k a at in omega (arith, far, args_count));
            given = omega (arith, fits.given, fresh_count);
            taken = omega (arith, fits.taken, fresh_count);
          });
      variables = c.in_ok-first_variables.ensures.length;
      dims = c.in_ok-new.ensures.dims ∙ ap (map (λ (m : Memory). m.dims.items)) c.deref.ensures.value;
      first = refl;
    }
