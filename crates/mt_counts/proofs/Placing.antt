-- A pair that is put among entries with the count 0, and its own count that is put back.
use Rattle.std.proofs.Common.{◌≡◌, ℕ, suc, ◌+◌, Bool, true, false, cond, Option, Some, None, List, [], ◌∷◌, ◌++◌, length, slice_get, refl, ap, ◌∙◌, arith, if◌then◌else◌, not}
use Rattle.std.specs.List.{position_or_len}
use Rattle.std.specs.Map.{keys_of, lookup}
use Rattle.indexmap.specs.IndexMap.{insert_entry, set_value_at}
use Rattle.mt_counts.specs.Tallies.{IsAt}

module _ {K : Type 0} (eq : K → K → Bool) (key : K) where
  -- what is found where the first entry has another key
  found_behind : (e : K × ℕ) (es : List (K × ℕ)) (found : Option ℕ) → found ≡ lookup (eq key) (e ∷ es) → eq key e.0 ≡ false → found ≡ lookup (eq key) es
  found_behind e es found is h = is ∙ ap (λ (b : Bool). cond b (Some e.1) (lookup (eq key) es)) h

  -- and where it has this key
  found_first : (e : K × ℕ) (es : List (K × ℕ)) (found : Option ℕ) → found ≡ lookup (eq key) (e ∷ es) → eq key e.0 ≡ true → found ≡ Some e.1
  found_first e es found is h = is ∙ ap (λ (b : Bool). cond b (Some e.1) (lookup (eq key) es)) h

  nothing_first : (e : K × ℕ) (es : List (K × ℕ)) → None ≡ lookup (eq key) (e ∷ es) → eq key e.0 ≡ true → ⊥
  nothing_first e es none h = let never : None ≡ Some e.1 = found_first e es None none h in cc

  -- a key that is found nowhere goes behind the others
  pub put_behind : (es : List (K × ℕ)) → None ≡ lookup (eq key) es → insert_entry eq es key 0 ≡ es ++ (key, 0) ∷ []
  put_behind [] none = refl
  put_behind (e ∷ es) none = by (eq key e.0) refl (λ (h : eq key e.0 ≡ false). put_behind es (found_behind e es None none h))
    where
      by : (b : Bool) → eq key e.0 ≡ b → (eq key e.0 ≡ false → insert_entry eq es key 0 ≡ es ++ (key, 0) ∷ []) → insert_entry eq (e ∷ es) key 0 ≡ e ∷ (es ++ (key, 0) ∷ [])
      by true h rest = absurd (nothing_first e es none h)
      by false h rest = ap (λ (b : Bool). if b then (e.0, 0) ∷ es else e ∷ insert_entry eq es key 0) h ∙ ap (λ (ys : List (K × ℕ)). e ∷ ys) (rest h)

  -- its place is behind them
  pub place_behind : (es : List (K × ℕ)) → None ≡ lookup (eq key) es → position_or_len (eq key) (keys_of es) ≡ length es
  place_behind [] none = refl
  place_behind (e ∷ es) none = by (eq key e.0) refl (λ (h : eq key e.0 ≡ false). place_behind es (found_behind e es None none h))
    where
      by : (b : Bool) → eq key e.0 ≡ b → (eq key e.0 ≡ false → position_or_len (eq key) (keys_of es) ≡ length es) → position_or_len (eq key) (keys_of (e ∷ es)) ≡ suc (length es)
      by true h rest = absurd (nothing_first e es none h)
      by false h rest =
          let more : 1 + position_or_len (eq key) (keys_of es) ≡ suc (length es) = omega (arith, rest h) in
          ap (λ (b : Bool). cond (not b) (1 + position_or_len (eq key) (keys_of es)) 0) h ∙ more

  -- and stands at its place
  pub place_there : (es : List (K × ℕ)) (count : ℕ) → ((k : K) → eq key k ≡ true → k ≡ key) → Some count ≡ lookup (eq key) es → IsAt es key (position_or_len (eq key) (keys_of es))
  place_there [] count exact some = absurd (let f : ⊥ = cc in f)
  place_there (e ∷ es) count exact some = by (eq key e.0) refl (λ (h : eq key e.0 ≡ false). place_there es count exact (found_behind e es (Some count) some h))
    where
      by : (b : Bool) → eq key e.0 ≡ b → (eq key e.0 ≡ false → IsAt es key (position_or_len (eq key) (keys_of es))) → IsAt (e ∷ es) key (position_or_len (eq key) (keys_of (e ∷ es)))
      by true h rest = record { count = e.1; there = ap (λ (b : Bool). slice_get (e ∷ es) (cond (not b) (1 + position_or_len (eq key) (keys_of es)) 0)) h ∙ ap (λ (k : K). Some (k, e.1)) (exact e.0 h) }
      by false h rest =
          let at = rest h in
          let more : 1 + position_or_len (eq key) (keys_of es) ≡ suc (position_or_len (eq key) (keys_of es)) = omega arith in
          record { count = at.count; there = ap (λ (b : Bool). slice_get (e ∷ es) (cond (not b) (1 + position_or_len (eq key) (keys_of es)) 0)) h ∙ ap (λ (n : ℕ). slice_get (e ∷ es) n) more ∙ at.there }

  -- what stands there is as before where its count is put back
  pub put_back : (es : List (K × ℕ)) (count : ℕ) → Some count ≡ lookup (eq key) es → set_value_at (insert_entry eq es key 0) (position_or_len (eq key) (keys_of es)) count ≡ es
  put_back [] count some = absurd (let f : ⊥ = cc in f)
  put_back (e ∷ es) count some = by (eq key e.0) refl (λ (h : eq key e.0 ≡ false). put_back es count (found_behind e es (Some count) some h))
    where
      written : Bool → List (K × ℕ)
      written b = set_value_at (if b then (e.0, 0) ∷ es else e ∷ insert_entry eq es key 0) (cond (not b) (1 + position_or_len (eq key) (keys_of es)) 0) count

      by : (b : Bool) → eq key e.0 ≡ b → (eq key e.0 ≡ false → set_value_at (insert_entry eq es key 0) (position_or_len (eq key) (keys_of es)) count ≡ es) → written (eq key e.0) ≡ e ∷ es
      by true h rest =
          let found = found_first e es (Some count) some h in
          let is : count ≡ e.1 = cc in
          ap written h ∙ ap (λ (n : ℕ). (e.0, n) ∷ es) is
      by false h rest =
          let more : 1 + position_or_len (eq key) (keys_of es) ≡ suc (position_or_len (eq key) (keys_of es)) = omega arith in
          ap written h ∙ ap (λ (n : ℕ). set_value_at (e ∷ insert_entry eq es key 0) n count) more ∙ ap (λ (ys : List (K × ℕ)). e ∷ ys) (rest h)

  pub put_back_at : (es news : List (K × ℕ)) (place count : ℕ) → place ≡ position_or_len (eq key) (keys_of es) → news ≡ insert_entry eq es key 0 → Some count ≡ lookup (eq key) es → set_value_at news place count ≡ es
  put_back_at es news place count at are some = ap (λ (ys : List (K × ℕ)). set_value_at ys place count) are ∙ ap (λ (n : ℕ). set_value_at (insert_entry eq es key 0) n count) at ∙ put_back es count some
