-- For which begins the places so far from them lie in their text.
use Rattle.std.proofs.Common.{◌≡◌, ℕ, ◌+◌, ◌-◌, ◌^◌, ◌<◌, ◌≤◌, min, Bool, true, false, cond, nat_lt, ℤ, pos, negsuc, Some, None, [], ◌∷◌, length, map, sym, ◌∙◌, ap, arith}
use Rattle.std.specs.List.{cons_option}
use Rattle.mt_segment_spec.specs.Tables.{Tables, first_place, token_count}
use Rattle.mt_reports.specs.Told.{told_tokens}
use Rattle.mt_reports.proofs.Told.{text_behind}
use Rattle.mt_frequencies.specs.declared.begins.Reach.{Reach}
use Rattle.mt_frequencies.specs.Amounts.{IsReach}
use Rattle.mt_frequencies.specs.Distances.{left_size, right_size}
use Rattle.mt_frequencies.proofs.Placed.{less, not_less}

module _ (tables : Tables) (text first end : ℕ) (there : text < length tables.texts) (first_is : first ≡ first_place tables text) (end_is : end ≡ first_place tables (text + 1)) (within : end ≤ token_count tables) (few : end < 2 ^ 32) where
  size : first_place tables text + told_tokens tables text ≡ end
  size = sym (text_behind tables text there) ∙ sym end_is

  -- where a place lies, and where there is none
  on : (b : Bool) (place at : ℕ) → b ≡ true → first_place tables text + place ≡ at → map (λ p. first_place tables text + p) (cons_option (cond b (Some place) None) []) ≡ at ∷ []
  on b place at e is = ap (λ (c : Bool). map (λ p. first_place tables text + p) (cons_option (cond c (Some place) None) [])) e ∙ ap (λ (p : ℕ). p ∷ []) is

  off : (b : Bool) (place : ℕ) → b ≡ false → map (λ p. first_place tables text + p) (cons_option (cond b (Some place) None) []) ≡ []
  off b place e = ap (λ (c : Bool). map (λ p. first_place tables text + p) (cons_option (cond c (Some place) None) [])) e

  pub reach_is : (distance : ℤ) (reach : Reach) → reach.from ≡ left_size distance → reach.to ≡ end - first - right_size distance → reach.place ≡ min (first + right_size distance) (2 ^ 32 - 1) → IsReach tables text distance reach
  reach_is (pos n) reach from to place = record {
    inside = λ b l m. on (nat_lt (b + n) (told_tokens tables text)) (b + n) (reach.place + (b - reach.from)) (less (b + n) (told_tokens tables text) (omega (arith, m, to, size, first_is))) (omega (arith, l, m, from, to, place, size, first_is, few));
    within = λ b l m. omega (arith, l, m, from, to, place, size, first_is, few, within);
    few = λ b l m. omega (arith, l, m, from, to, place, size, first_is, few);
    before = λ b l. absurd (omega (arith, l, from));
    behind = λ b l m. off (nat_lt (b + n) (told_tokens tables text)) (b + n) (not_less (b + n) (told_tokens tables text) (omega (arith, l, to, size, first_is)));
  }
  reach_is (negsuc n) reach from to place = record {
    inside = λ b l m. on (nat_lt n b) (b - (n + 1)) (reach.place + (b - reach.from)) (less n b (omega (arith, l, from))) (omega (arith, l, m, from, to, place, size, first_is, few));
    within = λ b l m. omega (arith, l, m, from, to, place, size, first_is, few, within);
    few = λ b l m. omega (arith, l, m, from, to, place, size, first_is, few);
    before = λ b l. off (nat_lt n b) (b - (n + 1)) (not_less n b (omega (arith, l, from)));
    behind = λ b l m. absurd (omega (arith, l, m, to, size, first_is));
  }
