-- Hexadecimal digits, written from the last to the first.
use Rattle.std.proofs.Common.{◌≡◌, ◌≢◌, ℕ, zero, suc, ◌+◌, ◌-◌, ◌/◌, ◌%◌, ◌^◌, ◌<◌, ◌≤◌, ◌∙◌, sym, refl, ap, false, List, [], ◌∷◌, length, set, drop, arith}
use Rattle.std.proofs.Math.Nat.{pow-suc}
use Rattle.std.specs.Prelude.{if◌then◌else◌, ◌==◌}
use Rattle.std.specs.Fmt.{digits, digits_onto, digit_glyph}
use Rattle.std.proofs.lemmas.Bool.{cond-false, ne_eqb}
use Rattle.std.proofs.lemmas.List.{drop-set, drop_all, length-set}

-- the digits of a number, where those behind it are written
abbrev pub hex_left : ℕ → ℕ → List ℕ → List ℕ
hex_left k left written = if left == 0 then written else digits_onto k 16 false left written

-- one digit more
onto_step : (k n : ℕ) (written : List ℕ) → digits_onto (suc k) 16 false n written ≡ hex_left k (n / 16) (digit_glyph false (n % 16) ∷ written)
onto_step k n written = refl

hex_first : (value : ℕ) → digits 16 false value ≡ hex_left 63 (value / 16) (digit_glyph false (value % 16) ∷ [])
unfolding digits
hex_first value = onto_step 63 value []

hex_step : (k left : ℕ) (written : List ℕ) → left ≢ 0 → hex_left (suc k) left written ≡ hex_left k (left / 16) (digit_glyph false (left % 16) ∷ written)
hex_step k left written some =
    cond-false (left == 0) written (digits_onto (suc k) 16 false left written) (ne_eqb left 0 some) ∙ onto_step k left written

-- The bytes from `start` on are the last digits of the value, and `left` is what stands before them.
pub record AreWritten (value start left : ℕ) (bytes : List ℕ) : Type 0 where
  pub count : length bytes ≡ 32
  pub bound : start < 32
  pub few : left < 16 ^ start
  pub text : hex_left (start + 32) left (drop start bytes) ≡ digits 16 false value

pub written_first : (value digit : ℕ) (bytes : List ℕ) → value < 2 ^ 128 → length bytes ≡ 32 → digit ≡ digit_glyph false (value % 16) → AreWritten value 31 (value / 16) (set bytes 31 digit)
written_first value digit bytes small count is = record {
  count = length-set bytes 31 digit ∙ count;
  bound = omega arith;
  few = omega arith;
  text =
      ap (hex_left 63 (value / 16)) (drop-set bytes 31 digit (omega arith) ∙ ap (λ ys. digit ∷ ys) (drop_all 32 bytes (omega arith)) ∙ ap (λ d. d ∷ []) is)
      ∙ sym (hex_first value);
}

not_first : (value start left : ℕ) (bytes : List ℕ) → AreWritten value start left bytes → left ≢ 0 → 0 < start
not_first value zero left bytes h some = absurd (let few : left < 1 = h.few in some (omega arith))
not_first value (suc start) left bytes h some = omega arith

pub written_more : (value start left digit : ℕ) (bytes : List ℕ) → AreWritten value start left bytes → left ≢ 0 → digit ≡ digit_glyph false (left % 16) → AreWritten value (start - 1) (left / 16) (set bytes (start - 1) digit)
written_more value start left digit bytes h some is =
    let before : ℕ = start - 1 in
    let next : before + 1 ≡ start = omega (arith, not_first value start left bytes h some) in
    let power : 16 ^ start ≡ 16 ^ (suc before) = ap (λ k. 16 ^ k) (let e : start ≡ suc before = omega (arith, next) in e) in
    let fuel : start + 32 ≡ suc (before + 32) = omega (arith, next) in
    let bound : before < length bytes = omega (arith, h.bound, h.count, next) in
    record {
      count = length-set bytes before digit ∙ h.count;
      bound = omega (arith, h.bound, next);
      few = let p = pow-suc 16 before in omega (arith, h.few, power, p);
      text =
          ap (hex_left (before + 32) (left / 16)) (drop-set bytes before digit bound ∙ ap (λ k. digit ∷ drop k bytes) next ∙ ap (λ d. d ∷ drop start bytes) is)
          ∙ sym (hex_step (before + 32) left (drop start bytes) some)
          ∙ ap (λ k. hex_left k left (drop start bytes)) (sym fuel)
          ∙ h.text;
    }

pub not_over : (value start left : ℕ) (bytes : List ℕ) → AreWritten value start left bytes → left ≢ 0 → 1 ≤ start
not_over value start left bytes h some = omega (arith, not_first value start left bytes h some)

pub all_written : (value start left : ℕ) (bytes : List ℕ) → AreWritten value start left bytes → left ≡ 0 → drop start bytes ≡ digits 16 false value
all_written value start left bytes h none = ap (λ n. hex_left (start + 32) n (drop start bytes)) (sym none) ∙ h.text
