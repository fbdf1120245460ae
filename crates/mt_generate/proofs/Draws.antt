-- The generator's numbers behind the draws of a token.
use Rattle.std.proofs.Common.{◌≡◌, ℕ, ◌+◌, ◌*◌, ◌%◌, add-one, ap, ap₂, refl, sym, ◌∙◌, arith, nat_eq}
use Rattle.mt_generate_spec.specs.Draws.{drawn, behind_draws, upper_bits, draw}
use Rattle.mt_generate_spec.specs.Generated.{token_at, token_of, rank_of}

pub no_draw : (seed : ℕ) → seed ≡ behind_draws seed 0
unfolding behind_draws
no_draw seed = refl

one_more : (seed count next : ℕ) → count + 1 ≡ next → drawn (behind_draws seed count) ≡ behind_draws seed next
unfolding behind_draws
one_more seed count next is = rw (← is, add-one)

-- draws that are made beside each other stand one behind the other
pub second_draw : (number first second : ℕ) → first ≡ drawn number → second ≡ drawn (drawn number) → second ≡ drawn first
second_draw number first second one two = two ∙ ap drawn (sym one)

pub third_draw : (number first second third : ℕ) → first ≡ drawn number → second ≡ drawn (drawn number) → third ≡ drawn (drawn (drawn number)) → third ≡ drawn second
third_draw number first second third one two three = three ∙ ap drawn (sym two)

module _ (seed place number first second third : ℕ) (is : number ≡ behind_draws seed (3 * place)) (one : first ≡ drawn number) (two : second ≡ drawn first) (three : third ≡ drawn second) where
  behind_first : first ≡ behind_draws seed (3 * place + 1)
  behind_first = one ∙ ap drawn is ∙ one_more seed (3 * place) _ refl

  behind_second : second ≡ behind_draws seed (3 * place + 1 + 1)
  behind_second = two ∙ ap drawn behind_first ∙ one_more seed (3 * place + 1) _ refl

  behind_third : third ≡ behind_draws seed (3 * place + 2 + 1)
  behind_third = three ∙ ap drawn behind_second ∙ one_more seed (3 * place + 1 + 1) _ (omega arith)

  pub behind_token : third ≡ behind_draws seed (3 * (place + 1))
  behind_token = let e : 3 * place + 2 + 1 ≡ 3 * (place + 1) = omega arith in behind_third ∙ ap (behind_draws seed) e

  pub is_token : (a b c rank : ℕ) → a ≡ upper_bits first → b ≡ upper_bits second → c ≡ upper_bits third → rank ≡ rank_of a b → token_of rank (nat_eq (c % 2) 1) ≡ token_at seed place
  unfolding token_at
  is_token a b c rank fa fb fc is_rank =
      let ea : a ≡ draw seed (3 * place) = fa ∙ ap upper_bits behind_first in
      let eb : b ≡ draw seed (3 * place + 1) = fb ∙ ap upper_bits behind_second in
      let ec : c ≡ draw seed (3 * place + 2) = fc ∙ ap upper_bits behind_third in
      ap₂ (λ r t. token_of r (nat_eq (t % 2) 1)) (is_rank ∙ ap₂ rank_of ea eb) ec
