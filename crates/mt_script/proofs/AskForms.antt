-- Questions, behind their first words: each is read exactly where the words have its form. `gives` is what is read, `back` that what has the form is read.
use Rattle.std.proofs.Common.{◌≡◌, ◌≢◌, ℕ, List, [], ◌∷◌, ◌++◌, codes, Some, arith, refl, ℤ, ◌≤ℤ◌}
use Rattle.std.specs.Prelude.{int_le}
use Rattle.std.specs.Fmt.{decimal}
use Rattle.mt_text_spec.specs.Words.{IsIdentifier}
use Rattle.mt_script_spec.specs.Commands.{Ask, Count, Query, Freq, Colloc, Sketch, Thes, HasAskForm, IsSmall, IsSigned}
use Rattle.mt_script.specs.Reading.{cut, identifier_at, small_at, signed_at, rest_at, count_at, query_at, freq_at, colloc_at, sketch_at, thes_at}
use Rattle.mt_script.proofs.Forms.{then_some, if_some, same, joined, cut_at, cut_parts, identifier_gives, identifier_at_yes, identifier_plain, small_gives, small_at_yes, small_plain, signed_gives, signed_at_yes, signed_plain, rest_gives, rest_at_yes, order_from, order_true}

pub count_gives : (words : List ℕ) (ask : Ask) → count_at words ≡ Some ask → HasAskForm ask (codes "count" ++ 32 ∷ words)
unfolding count_at
count_gives words ask e =
    then_some (rest_at words) _ ask e (λ cql at_cql e1.
    let is_cql = rest_gives words cql at_cql in
    let is : words ≡ cql = is_cql.0 in
    rw (← same _ _ e1) (record { words = rw is refl; some = is_cql.1 }))

pub count_back : (cql : List ℕ) → cql ≢ [] → count_at cql ≡ Some (Count cql)
unfolding count_at
count_back cql h_cql = rw (rest_at_yes cql h_cql) refl

pub query_gives : (words : List ℕ) (ask : Ask) → query_at words ≡ Some ask → HasAskForm ask (codes "query" ++ 32 ∷ words)
unfolding query_at
query_gives words ask e =
    then_some (rest_at words) _ ask e (λ cql at_cql e1.
    let is_cql = rest_gives words cql at_cql in
    let is : words ≡ cql = is_cql.0 in
    rw (← same _ _ e1) (record { words = rw is refl; some = is_cql.1 }))

pub query_back : (cql : List ℕ) → cql ≢ [] → query_at cql ≡ Some (Query cql)
unfolding query_at
query_back cql h_cql = rw (rest_at_yes cql h_cql) refl

pub freq_gives : (words : List ℕ) (ask : Ask) → freq_at words ≡ Some ask → HasAskForm ask (codes "freq" ++ 32 ∷ words)
unfolding freq_at
freq_gives words ask e =
    then_some (cut words) _ ask e (λ a cut_a e1. then_some (identifier_at a.0) _ ask e1 (λ attr at_attr e2. then_some (cut a.1) _ ask e2 (λ b cut_b e3. then_some (signed_at 1000 b.0) _ ask e3 (λ offset at_offset e4. then_some (rest_at b.1) _ ask e4 (λ cql at_cql e5.
    let is_attr = identifier_gives a.0 attr at_attr in
    let is_offset = signed_gives 1000 b.0 offset at_offset in
    let is_cql = rest_gives b.1 cql at_cql in
    let is : words ≡ attr ++ 32 ∷ (b.0 ++ 32 ∷ cql) = joined (cut_parts words a cut_a) is_attr.0 (joined (cut_parts a.1 b cut_b) refl (is_cql.0)) in
    rw (← same _ _ e5) (record { written = b.0; words = rw is refl; named = is_attr.1; at = is_offset; some = is_cql.1 }))))))

pub freq_back : (attr : List ℕ) (offset : ℤ) (written : List ℕ) (cql : List ℕ) → IsIdentifier attr → IsSigned 1000 written offset → cql ≢ [] → freq_at (attr ++ 32 ∷ (written ++ 32 ∷ cql)) ≡ Some (Freq attr offset cql)
unfolding freq_at
freq_back attr offset written cql h_attr h_offset h_cql = rw (cut_at attr (written ++ 32 ∷ cql) (identifier_plain attr h_attr), identifier_at_yes attr h_attr, cut_at written cql (signed_plain 1000 written offset (omega arith) h_offset), signed_at_yes 1000 written offset (omega arith) h_offset, rest_at_yes cql h_cql) refl

pub sketch_gives : (words : List ℕ) (ask : Ask) → sketch_at words ≡ Some ask → HasAskForm ask (codes "sketch" ++ 32 ∷ words)
unfolding sketch_at
sketch_gives words ask e =
    then_some (cut words) _ ask e (λ a cut_a e1. then_some (small_at a.0) _ ask e1 (λ least at_least e2. then_some (cut a.1) _ ask e2 (λ b cut_b e3. then_some (small_at b.0) _ ask e3 (λ most at_most e4. then_some (rest_at b.1) _ ask e4 (λ lemma at_lemma e5.
    let is_least = small_gives a.0 least at_least in
    let is_most = small_gives b.0 most at_most in
    let is_lemma = rest_gives b.1 lemma at_lemma in
    let is : words ≡ decimal least ++ 32 ∷ (decimal most ++ 32 ∷ lemma) = joined (cut_parts words a cut_a) is_least.0 (joined (cut_parts a.1 b cut_b) is_most.0 (is_lemma.0)) in
    rw (← same _ _ e5) (record { words = rw is refl; low = is_least.1; high = is_most.1; some = is_lemma.1 }))))))

pub sketch_back : (least : ℕ) (most : ℕ) (lemma : List ℕ) → IsSmall least → IsSmall most → lemma ≢ [] → sketch_at (decimal least ++ 32 ∷ (decimal most ++ 32 ∷ lemma)) ≡ Some (Sketch least most lemma)
unfolding sketch_at
sketch_back least most lemma h_least h_most h_lemma = rw (cut_at (decimal least) (decimal most ++ 32 ∷ lemma) (small_plain least h_least), small_at_yes least h_least, cut_at (decimal most) lemma (small_plain most h_most), small_at_yes most h_most, rest_at_yes lemma h_lemma) refl

pub thes_gives : (words : List ℕ) (ask : Ask) → thes_at words ≡ Some ask → HasAskForm ask (codes "thes" ++ 32 ∷ words)
unfolding thes_at
thes_gives words ask e =
    then_some (cut words) _ ask e (λ a cut_a e1. then_some (small_at a.0) _ ask e1 (λ most at_most e2. then_some (rest_at a.1) _ ask e2 (λ lemma at_lemma e3.
    let is_most = small_gives a.0 most at_most in
    let is_lemma = rest_gives a.1 lemma at_lemma in
    let is : words ≡ decimal most ++ 32 ∷ lemma = joined (cut_parts words a cut_a) is_most.0 (is_lemma.0) in
    rw (← same _ _ e3) (record { words = rw is refl; small = is_most.1; some = is_lemma.1 }))))

pub thes_back : (most : ℕ) (lemma : List ℕ) → IsSmall most → lemma ≢ [] → thes_at (decimal most ++ 32 ∷ lemma) ≡ Some (Thes most lemma)
unfolding thes_at
thes_back most lemma h_most h_lemma = rw (cut_at (decimal most) lemma (small_plain most h_most), small_at_yes most h_most, rest_at_yes lemma h_lemma) refl

pub colloc_gives : (words : List ℕ) (ask : Ask) → colloc_at words ≡ Some ask → HasAskForm ask (codes "colloc" ++ 32 ∷ words)
unfolding colloc_at
colloc_gives words ask e =
    then_some (cut words) _ ask e (λ a cut_a e1. then_some (identifier_at a.0) _ ask e1 (λ attr at_attr e2. then_some (cut a.1) _ ask e2 (λ b cut_b e3. then_some (signed_at 100 b.0) _ ask e3 (λ first at_first e4.
    then_some (cut b.1) _ ask e4 (λ d cut_d e5. then_some (signed_at 100 d.0) _ ask e5 (λ last at_last e6. if_some (int_le first last) _ ask e6 (λ order e7.
    then_some (cut d.1) _ ask e7 (λ f cut_f e8. then_some (small_at f.0) _ ask e8 (λ least at_least e9. then_some (rest_at f.1) _ ask e9 (λ cql at_cql e10.
    let is_attr = identifier_gives a.0 attr at_attr in
    let is_least = small_gives f.0 least at_least in
    let is_cql = rest_gives f.1 cql at_cql in
    let is : words ≡ attr ++ 32 ∷ (b.0 ++ 32 ∷ (d.0 ++ 32 ∷ (decimal least ++ 32 ∷ cql))) =
    joined (cut_parts words a cut_a) is_attr.0 (joined (cut_parts a.1 b cut_b) refl (joined (cut_parts b.1 d cut_d) refl (joined (cut_parts d.1 f cut_f) is_least.0 is_cql.0))) in
    rw (← same _ _ e10) (record {
      begin = b.0;
      end = d.0;
      words = rw is refl;
      named = is_attr.1;
      begins = signed_gives 100 b.0 first at_first;
      ends = signed_gives 100 d.0 last at_last;
      order = order_from first last order;
      small = is_least.1;
      some = is_cql.1;
    })))))))))))

pub colloc_back : (attr : List ℕ) (first last : ℤ) (begin end : List ℕ) (least : ℕ) (cql : List ℕ) → IsIdentifier attr → IsSigned 100 begin first → IsSigned 100 end last → first ≤ℤ last → IsSmall least → cql ≢ [] →
    colloc_at (attr ++ 32 ∷ (begin ++ 32 ∷ (end ++ 32 ∷ (decimal least ++ 32 ∷ cql)))) ≡ Some (Colloc attr first last least cql)
unfolding colloc_at
colloc_back attr first last begin end least cql named begins ends order small some = rw (
  cut_at attr (begin ++ 32 ∷ (end ++ 32 ∷ (decimal least ++ 32 ∷ cql))) (identifier_plain attr named),
  identifier_at_yes attr named,
  cut_at begin (end ++ 32 ∷ (decimal least ++ 32 ∷ cql)) (signed_plain 100 begin first (omega arith) begins),
  signed_at_yes 100 begin first (omega arith) begins,
  cut_at end (decimal least ++ 32 ∷ cql) (signed_plain 100 end last (omega arith) ends),
  signed_at_yes 100 end last (omega arith) ends,
  order_true first last order,
  cut_at (decimal least) cql (small_plain least small),
  small_at_yes least small,
  rest_at_yes cql some,
) refl
