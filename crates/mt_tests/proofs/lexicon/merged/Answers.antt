-- The values of two short lexicons are few.
use Rattle.std.proofs.Common.{◌≡◌, ℕ, ◌^◌, ◌<◌, List, [], ◌∷◌, ◌++◌, length, arith, length-append}
use Rattle.std.proofs.lemmas.List.Elements.{All-contains_itself}
use Rattle.mt_store_spec.specs.Lexicons.{AreFew, IsShortest, all_values}
use Rattle.mt_tests.proofs.lexicon.merged.Goals as goal

one_pushed : (none one : List (List (List ℕ))) (a : List (List ℕ)) → none ≡ [] → one ≡ none ++ a ∷ [] → one ≡ a ∷ []
one_pushed none one a e f = rw e at f

two_pushed : (none one two : List (List (List ℕ))) (a b : List (List ℕ)) → none ≡ [] → one ≡ none ++ a ∷ [] → two ≡ one ++ b ∷ [] → two ≡ a ∷ b ∷ []
two_pushed none one two a b e f g = rw (one_pushed none one a e f) at g

few_when_short : IsShortest → (values : List (List ℕ)) → length values < 2 ^ 32 → AreFew values
few_when_short shortest values l = λ lexicon h. let m = shortest values values lexicon (All-contains_itself values) h in omega arith

two_few : IsShortest → (none one two : List (List (List ℕ))) (a b : List (List ℕ)) → none ≡ [] → one ≡ none ++ a ∷ [] → two ≡ one ++ b ∷ [] → length a < 3 → length b < 3 → AreFew (all_values two)
two_few shortest none one two a b e f g l m =
    let short : length (all_values (a ∷ b ∷ [])) < 2 ^ 32 = omega (arith, length-append a (b ++ []), length-append b []) in
    rw (two_pushed none one two a b e f g) (few_when_short shortest (all_values (a ∷ b ∷ [])) short)

pub finish-requires : goal.finish-requires
finish-requires c = two_few c.is_shortest.ensures c.in_ok-merger.merger c.add.new.self c.add-2.new.self c.args.first.now c.args.second.now c.in_ok-merger.ensures c.in_ok-add.ensures.ok c.in_ok-add-2.ensures.ok c.requires.first c.requires.second
