-- The rows of all ranks.
use Rattle.std.proofs.Common.{◌≡◌, ℕ, ◌+◌, ◌<◌, Bool, List, [], ◌∷◌, ◌++◌, map, length, get_or, ap, refl, sym, ◌∙◌, arith}
use Rattle.std.proofs.lemmas.List.FromFn.{get_or-map-range_with_len, length-map-range_with_len}
use Rattle.std.specs.List.{range_with_len}
use Rattle.mt_generate_spec.specs.Generated.{token_of}
use Rattle.mt_generate.specs.Sources.{rows_of}
use Rattle.mt_generate.proofs.Ranges.{map_range_more}

pub no_rows : (plural : Bool) → [] ≡ rows_of plural 0
unfolding rows_of
no_rows plural = refl

pub rows_more : (plural : Bool) (count : ℕ) (old new : List (List (List ℕ))) (row : List (List ℕ)) → old ≡ rows_of plural count → new ≡ old ++ row ∷ [] → row ≡ (token_of count plural).values → new ≡ rows_of plural (count + 1)
unfolding rows_of
rows_more plural count old new row is more values =
    let f = λ (rank : ℕ). (token_of rank plural).values in
    let e : count ≡ 0 + count = omega arith in
    more ∙ ap (λ rs. rs ++ row ∷ []) is ∙ ap (λ r. map f (range_with_len 0 count) ++ r ∷ []) (values ∙ ap f e) ∙ sym (map_range_more f 0 count)

pub row_at : (plural : Bool) (count rank : ℕ) (rows : List (List (List ℕ))) (row : List (List ℕ)) → rows ≡ rows_of plural count → rank < count → row ≡ get_or rows rank row → row ≡ (token_of rank plural).values
unfolding rows_of
row_at plural count rank rows row is low at =
    let f = λ (rank : ℕ). (token_of rank plural).values in
    at ∙ ap (λ rs. get_or rs rank row) is ∙ get_or-map-range_with_len f 0 count rank rank row low (omega arith)

pub rows_length : (plural : Bool) (count : ℕ) (rows : List (List (List ℕ))) → rows ≡ rows_of plural count → length rows ≡ count
unfolding rows_of
rows_length plural count rows is = ap length is ∙ length-map-range_with_len (λ rank. (token_of rank plural).values) 0 count
