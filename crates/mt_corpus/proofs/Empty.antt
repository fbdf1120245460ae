-- No text is live where no segment has the number of one.
use Rattle.std.proofs.Common.{◌≡◌, ℕ, Bool, true, List, [], ◌∷◌, ◌++◌, length, map, nat_eq, IsTrue, refl, sym, ◌∙◌, ap}
use Rattle.std.specs.List.{list_all}
use Rattle.std.proofs.lemmas.Bool.{and_parts, and_from, eqb-true, eq-eqb}
use Rattle.std.proofs.lemmas.List.{nil_from_length}
use Rattle.mt_text_spec.specs.Texts.{Text}
use Rattle.mt_corpus_spec.specs.Groups.{Group, corpus_of, live_texts}
use Rattle.mt_corpus_spec.specs.Segments.{live_numbers}
use Rattle.mt_decode_laws.specs.Laws.{LiveTextsAreNumbered}

no_front : (xs ys : List Text) → xs ++ ys ≡ [] → (xs ≡ []) × (ys ≡ [])
no_front [] ys e = (refl, e)
no_front (x ∷ xs) ys e = cc

module _ (law : LiveTextsAreNumbered) where
  pub none_live : (groups : List Group) → list_all (λ ns. nat_eq (length ns) 0) (map (live_numbers 0) groups) ≡ true → corpus_of groups ≡ []
  none_live [] e = refl
  none_live (group ∷ groups) e =
      let (one, more) = and_parts (nat_eq (length (live_numbers 0 group)) 0) (list_all (λ ns. nat_eq (length ns) 0) (map (live_numbers 0) groups)) e in
      let none : live_texts group ≡ [] = nil_from_length (live_texts group) ((law group).count ∙ eqb-true (length (live_numbers 0 group)) 0 one) in
      ap (λ (ts : List Text). ts ++ corpus_of groups) none ∙ none_live groups more

  pub live_none : (groups : List Group) → corpus_of groups ≡ [] → list_all (λ ns. nat_eq (length ns) 0) (map (live_numbers 0) groups) ≡ true
  live_none [] e = refl
  live_none (group ∷ groups) e =
      let (one, more) = no_front (live_texts group) (corpus_of groups) e in
      and_from (nat_eq (length (live_numbers 0 group)) 0) (list_all (λ ns. nat_eq (length ns) 0) (map (live_numbers 0) groups)) (eq-eqb (length (live_numbers 0 group)) 0 (sym (law group).count ∙ ap length one)) (live_none groups more)

  -- and a corpus is empty where its lists of live numbers are
  pub empty_tells : (groups gs : List Group) (live : List (List ℕ)) (answer : Bool) → gs ≡ groups → live ≡ map (live_numbers 0) gs → answer ≡ list_all (λ ns. nat_eq (length ns) 0) live →
      (IsTrue answer → corpus_of groups ≡ []) × (corpus_of groups ≡ [] → IsTrue answer)
  empty_tells groups gs live answer e marks is = (
    λ on. ap corpus_of (sym e) ∙ none_live gs (ap (list_all (λ ns. nat_eq (length ns) 0)) (sym marks) ∙ sym is ∙ on),
    λ none. is ∙ ap (list_all (λ ns. nat_eq (length ns) 0)) marks ∙ live_none gs (ap corpus_of e ∙ none),
  )
