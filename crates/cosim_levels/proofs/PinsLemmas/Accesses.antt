-- Writes and reads one after another.
use Rattle.std.proofs.Common.{◌≡◌, ℕ, zero, suc, ◌+◌, ◌*◌, ◌/◌, ◌%◌, ◌^◌, ◌<◌, ◌≤◌, min, List, [], ◌∷◌, ◌++◌, map, length, get_or, take, drop, drop-cons, replicate, refl, sym, ap, ◌∙◌, subst, arith, add-one, append_assoc}
use Rattle.std.proofs.Math.Nat.{add-mul-mod_self_right, mod-add-div'}
use Rattle.hls_base.specs.ArrayAddress.{addresses}
use Rattle.rtl_core.specs.Netlist.{Netlist}
use Rattle.rtl_core.specs.ClockStep.{stepped, outputs}
use Rattle.rtl_core.specs.Interface.{read_data_of}
use Rattle.verilog_cycle.specs.Simulation.{modulo_widths, reduced_pins}
use Rattle.cosim_levels.specs.declared.pins.interface.HostArray.{HostArray}
use Rattle.cosim_levels.specs.Pins.Addresses.{in_words}
use Rattle.cosim_levels.specs.Pins.FunctionPins.{shape_of}
use Rattle.cosim_levels.specs.Pins.Host.{Driven, clocked, clocked_all, low_row, write_row, asked, HasHostInputs}
use Rattle.cosim_levels.specs.Pins.ModuleRun.{write_rows, all_write_rows, read_words, behind_reads, read_arrays}

-- ---- addresses are taken modulo 2^16

small_mod : (a : ℕ) → (a % 2 ^ 64) % 2 ^ 16 ≡ a % 2 ^ 16
small_mod a =
    let whole : a % 2 ^ 64 + a / 2 ^ 64 * 2 ^ 64 ≡ a = mod-add-div' a (2 ^ 64) in
    let e : a ≡ a % 2 ^ 64 + (a / 2 ^ 64 * 2 ^ 48) * 2 ^ 16 = omega (arith, whole) in
    sym (ap (λ n. n % 2 ^ 16) e ∙ add-mul-mod_self_right (a % 2 ^ 64) (a / 2 ^ 64 * 2 ^ 48) (2 ^ 16))

module _ (d : Netlist) (h : HasHostInputs d) where
  reduced-row : (e w n array a x : ℕ) → reduced_pins d (0 ∷ 0 ∷ e ∷ w ∷ array ∷ a % 2 ^ 64 ∷ x ∷ replicate n 0) ≡ reduced_pins d (0 ∷ 0 ∷ e ∷ w ∷ array ∷ a ∷ x ∷ replicate n 0)
  reduced-row e w n array a x =
      ap (λ ws. modulo_widths ws (0 ∷ 0 ∷ e ∷ w ∷ array ∷ a % 2 ^ 64 ∷ x ∷ replicate n 0)) h.widths
      ∙ ap (λ y. 0 % 2 ^ 1 ∷ 0 % 2 ^ 1 ∷ e % 2 ^ 1 ∷ w % 2 ^ 1 ∷ array % 2 ^ 5 ∷ y ∷ x % 2 ^ 64 ∷ modulo_widths h.arguments (replicate n 0)) (small_mod a)
      ∙ sym (ap (λ ws. modulo_widths ws (0 ∷ 0 ∷ e ∷ w ∷ array ∷ a ∷ x ∷ replicate n 0)) h.widths)

clocked_by : Driven → List ℕ → Driven
clocked_by s p = record { netlist = s.netlist; arguments = s.arguments; state = stepped s.netlist s.state p; outs = outputs s.netlist s.state p }

same-row : (s : Driven) (e w n array a x : ℕ) → HasHostInputs s.netlist → clocked s (0 ∷ 0 ∷ e ∷ w ∷ array ∷ a % 2 ^ 64 ∷ x ∷ replicate n 0) ≡ clocked s (0 ∷ 0 ∷ e ∷ w ∷ array ∷ a ∷ x ∷ replicate n 0)
unfolding clocked_by
same-row s e w n array a x h = ap (clocked_by s) (reduced-row s.netlist h e w n array a x)

-- ---- writes

clocked_all-append : (s : Driven) (xs ys : List (List ℕ)) → clocked_all s (xs ++ ys) ≡ clocked_all (clocked_all s xs) ys
clocked_all-append s [] ys = refl
clocked_all-append s (x ∷ xs) ys = clocked_all-append (clocked s x) xs ys

pub arguments-clocked_all : (s : Driven) (rows : List (List ℕ)) → (clocked_all s rows).arguments ≡ s.arguments
arguments-clocked_all s [] = refl
arguments-clocked_all s (row ∷ rows) = arguments-clocked_all (clocked s row) rows

pub netlist-clocked_all : (s : Driven) (rows : List (List ℕ)) → (clocked_all s rows).netlist ≡ s.netlist
netlist-clocked_all s [] = refl
netlist-clocked_all s (row ∷ rows) = netlist-clocked_all (clocked s row) rows

rows-more : (n array k : ℕ) (at words : List ℕ) → k < length at → k < length words
    → write_rows n array (take (suc k) at) (take (suc k) words) ≡ write_rows n array (take k at) (take k words) ++ write_row n array (get_or at k 0) (get_or words k 0) ∷ []
rows-more n array k [] words h g = absurd (omega arith)
rows-more n array k (a ∷ at) [] h g = absurd (omega arith)
rows-more n array zero (a ∷ at) (w ∷ words) h g = refl
rows-more n array (suc k) (a ∷ at) (w ∷ words) h g = ap (λ l. write_row n array a w ∷ l) (rows-more n array k at words (omega arith) (omega arith))

rows-all : (n array k : ℕ) (at words : List ℕ) → min (length at) (length words) ≤ k → write_rows n array (take k at) (take k words) ≡ write_rows n array at words
rows-all n array zero [] words h = refl
rows-all n array (suc k) [] words h = refl
rows-all n array zero (a ∷ at) [] h = refl
rows-all n array (suc k) (a ∷ at) [] h = refl
rows-all n array zero (a ∷ at) (w ∷ words) h = absurd (omega arith)
rows-all n array (suc k) (a ∷ at) (w ∷ words) h = ap (λ l. write_row n array a w ∷ l) (rows-all n array k at words (omega arith))

pub write_more : (s new next : Driven) (array k n : ℕ) (at words : List ℕ) → n ≡ min (length at) (length words) → k < n → new ≡ clocked_all s (write_rows s.arguments array (take k at) (take k words))
    → next ≡ clocked new (write_row new.arguments array (get_or at k 0) (get_or words k 0)) → next ≡ clocked_all s (write_rows s.arguments array (take (k + 1) at) (take (k + 1) words))
write_more s new next array k n at words e h is step =
    let rows = write_rows s.arguments array (take k at) (take k words) in
    let row = write_row s.arguments array (get_or at k 0) (get_or words k 0) in
    let same : new.arguments ≡ s.arguments = ap (λ (x : Driven). x.arguments) is ∙ arguments-clocked_all s rows in
    step ∙ ap (λ m. clocked new (write_row m array (get_or at k 0) (get_or words k 0))) same ∙ ap (λ x. clocked x row) is
    ∙ sym (clocked_all-append s rows (row ∷ []))
    ∙ ap (clocked_all s) (sym (rows-more s.arguments array k at words (omega arith) (omega arith)))
    ∙ ap (λ m. clocked_all s (write_rows s.arguments array (take m at) (take m words))) (sym (add-one k))

pub write_over : (s new : Driven) (array k n : ℕ) (at words : List ℕ) → n ≡ min (length at) (length words) → n ≤ k → new ≡ clocked_all s (write_rows s.arguments array (take k at) (take k words))
    → new ≡ clocked_all s (write_rows s.arguments array at words)
write_over s new array k n at words e h is = is ∙ ap (clocked_all s) (rows-all s.arguments array k at words (omega arith))

words-written : (s : Driven) (n array : ℕ) (at words : List ℕ) → HasHostInputs s.netlist → clocked_all s (write_rows n array (in_words at) words) ≡ clocked_all s (write_rows n array at words)
words-written s n array [] words h = refl
words-written s n array (a ∷ at) [] h = refl
words-written s n array (a ∷ at) (w ∷ words) h =
    ap (λ x. clocked_all x (write_rows n array (in_words at) words)) (same-row s 1 1 n array a w h) ∙ words-written (clocked s (write_row n array a w)) n array at words h

-- the arrays before number k were written
pub record AreWritten (old new : Driven) (k : ℕ) (arrays : List HostArray) (given : List (List ℕ)) : Type 0 where
  pub left : clocked_all new (all_write_rows old.arguments k (map shape_of (drop k arrays)) (drop k given)) ≡ clocked_all old (all_write_rows old.arguments 0 (map shape_of arrays) given)
  pub netlist : new.netlist ≡ old.netlist
  pub arguments : new.arguments ≡ old.arguments

pub none_written : (s : Driven) (arrays : List HostArray) (given : List (List ℕ)) → AreWritten s s 0 arrays given
none_written s arrays given = record { left = refl; netlist = refl; arguments = refl }

pub array_written : (old new next : Driven) (k n : ℕ) (arrays : List HostArray) (given : List (List ℕ)) (a : HostArray) (words at : List ℕ) → HasHostInputs old.netlist
    → n ≡ min (length arrays) (length given) → k < n → AreWritten old new k arrays given → a ≡ get_or arrays k a → words ≡ get_or given k words → at ≡ in_words (addresses a.lengths.items)
    → next ≡ clocked_all new (write_rows new.arguments k at words) → AreWritten old next (k + 1) arrays given
array_written old new next k n arrays given a words at h e inside are is is_words is_at step =
    let host : HasHostInputs new.netlist = subst HasHostInputs (sym are.netlist) h in
    let rows = write_rows old.arguments k (addresses a.lengths.items) words in
    let rest = all_write_rows old.arguments (k + 1) (map shape_of (drop (k + 1) arrays)) (drop (k + 1) given) in
    let done : next ≡ clocked_all new rows = step ∙ ap (λ m. clocked_all new (write_rows m k at words)) are.arguments ∙ ap (λ l. clocked_all new (write_rows old.arguments k l words)) is_at
    ∙ words-written new old.arguments k (addresses a.lengths.items) words host in
    let there : drop k arrays ≡ a ∷ drop (k + 1) arrays = drop-cons arrays k a (omega arith) ∙ ap (λ b. b ∷ drop (suc k) arrays) (sym is) ∙ ap (λ m. a ∷ drop m arrays) (sym (add-one k)) in
    let here : drop k given ≡ words ∷ drop (k + 1) given = drop-cons given k words (omega arith) ∙ ap (λ b. b ∷ drop (suc k) given) (sym is_words) ∙ ap (λ m. words ∷ drop m given) (sym (add-one k)) in
    let whole : all_write_rows old.arguments k (map shape_of (drop k arrays)) (drop k given) ≡ rows ++ rest =
    ap (λ l. all_write_rows old.arguments k (map shape_of l) (drop k given)) there ∙ ap (all_write_rows old.arguments k (map shape_of (a ∷ drop (k + 1) arrays))) here
    ∙ ap (λ m. rows ++ all_write_rows old.arguments m (map shape_of (drop (k + 1) arrays)) (drop (k + 1) given)) (sym (add-one k)) in
    record {
      left = ap (λ s. clocked_all s rest) done ∙ sym (clocked_all-append new rows rest) ∙ sym (ap (clocked_all new) whole) ∙ are.left;
      netlist = ap (λ (s : Driven). s.netlist) done ∙ netlist-clocked_all new rows ∙ are.netlist;
      arguments = ap (λ (s : Driven). s.arguments) done ∙ arguments-clocked_all new rows ∙ are.arguments;
    }

no_more_rows : (n k : ℕ) (m : ℕ) (arrays : List HostArray) (given : List (List ℕ)) → min (length arrays) (length given) ≤ m → all_write_rows n k (map shape_of (drop m arrays)) (drop m given) ≡ []
no_more_rows n k zero [] given h = refl
no_more_rows n k (suc m) [] given h = refl
no_more_rows n k zero (a ∷ arrays) [] h = refl
no_more_rows n k (suc m) (a ∷ arrays) [] h = nothing (drop m arrays)
  where
    nothing : (l : List HostArray) → all_write_rows n k (map shape_of l) [] ≡ []
    nothing [] = refl
    nothing (b ∷ l) = refl
no_more_rows n k zero (a ∷ arrays) (w ∷ given) h = absurd (omega arith)
no_more_rows n k (suc m) (a ∷ arrays) (w ∷ given) h = no_more_rows n k m arrays given (omega arith)

pub all_written : (old new : Driven) (k n : ℕ) (arrays : List HostArray) (given : List (List ℕ)) → n ≡ min (length arrays) (length given) → n ≤ k → AreWritten old new k arrays given
    → new ≡ clocked_all old (all_write_rows old.arguments 0 (map shape_of arrays) given)
all_written old new k n arrays given e h are = sym (ap (clocked_all new) (no_more_rows old.arguments k k arrays given (omega arith))) ∙ are.left

-- ---- reads

same-asked : (s : Driven) (array a : ℕ) → HasHostInputs s.netlist → asked s array (a % 2 ^ 64) ≡ asked s array a
same-asked s array a h = ap (λ x. clocked x (low_row s.arguments)) (same-row s 1 0 s.arguments array a 0 h)

pub words-read : (s : Driven) (array bits : ℕ) (at : List ℕ) → HasHostInputs s.netlist → read_words s array bits (in_words at) ≡ read_words s array bits at
words-read s array bits [] h = refl
words-read s array bits (a ∷ at) h =
    ap (λ (x : Driven). read_data_of x.outs % 2 ^ bits ∷ read_words x array bits (in_words at)) (same-asked s array a h)
    ∙ ap (λ l. read_data_of (asked s array a).outs % 2 ^ bits ∷ l) (words-read (asked s array a) array bits at h)

pub words-behind : (s : Driven) (array : ℕ) (at : List ℕ) → HasHostInputs s.netlist → behind_reads s array (in_words at) ≡ behind_reads s array at
words-behind s array [] h = refl
words-behind s array (a ∷ at) h = ap (λ x. behind_reads x array (in_words at)) (same-asked s array a h) ∙ words-behind (asked s array a) array at h

pub netlist-behind : (s : Driven) (array : ℕ) (at : List ℕ) → (behind_reads s array at).netlist ≡ s.netlist
netlist-behind s array [] = refl
netlist-behind s array (a ∷ at) = netlist-behind (asked s array a) array at

pub array_read : (new next : Driven) (k : ℕ) (arrays : List HostArray) (a : HostArray) (all more : List (List ℕ)) (words : List ℕ) (whole : List (List ℕ)) → k < length arrays → a ≡ get_or arrays k a
    → words ≡ read_words new k a.bits (addresses a.lengths.items) → next ≡ behind_reads new k (addresses a.lengths.items) → more ≡ all ++ words ∷ []
    → all ++ read_arrays new k (map shape_of (drop k arrays)) ≡ whole → more ++ read_arrays next (k + 1) (map shape_of (drop (k + 1) arrays)) ≡ whole
array_read new next k arrays a all more words whole inside is is_words step pushed at =
    let rest = map shape_of (drop (k + 1) arrays) in
    let there : drop k arrays ≡ a ∷ drop (k + 1) arrays = drop-cons arrays k a inside ∙ ap (λ b. b ∷ drop (suc k) arrays) (sym is) ∙ ap (λ m. a ∷ drop m arrays) (sym (add-one k)) in
    let same : read_arrays new k (map shape_of (drop k arrays)) ≡ words ∷ read_arrays next (k + 1) rest =
    ap (λ l. read_arrays new k (map shape_of l)) there
    ∙ ap (λ m. read_words new k a.bits (addresses a.lengths.items) ∷ read_arrays (behind_reads new k (addresses a.lengths.items)) m rest) (sym (add-one k))
    ∙ ap (λ x. read_words new k a.bits (addresses a.lengths.items) ∷ read_arrays x (k + 1) rest) (sym step)
    ∙ ap (λ w. w ∷ read_arrays next (k + 1) rest) (sym is_words) in
    ap (λ l. l ++ read_arrays next (k + 1) rest) pushed ∙ append_assoc all (words ∷ []) (read_arrays next (k + 1) rest) ∙ ap (λ l. all ++ l) (sym same) ∙ at
