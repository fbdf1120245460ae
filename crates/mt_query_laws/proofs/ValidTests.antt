-- A test that is read from a text is valid.
use Rattle.std.proofs.Common.{ℕ, suc, ◌≡◌, ◌<◌, Bool, true, false, List, [], ◌∷◌, ◌++◌, None, Some, Option, refl, sym, ◌∙◌, ap, arith, length, subst}
use Rattle.std.specs.Prelude.{cond, ◌==◌}
use Rattle.std.specs.Option.{option_map}
use Rattle.std.proofs.lemmas.Bool.{eqb-true}
use Rattle.mt_text_spec.specs.Queries as q
use Rattle.mt_query_spec.specs.Tokens.{Token, Quoted, Word, Mark, string_length}
use Rattle.mt_query_spec.specs.Tokens as t
use Rattle.mt_query_spec.specs.Trees.{Tested, OfToken, OfTag, Comparison, Accepts, Refuses, Equals, Differs, TestRank, TestTree, test_tokens}
use Rattle.mt_query_spec.specs.Trees as tree
use Rattle.mt_query_spec.specs.Meaning.{number_of, or_first, undeclared, first_of, unescaped, compared, test_of, test_unknown}
use Rattle.mt_query_spec.specs.Valid.{is_pattern_text, ValidTest, ValidMaybe}
use Rattle.mt_query_laws.proofs.SoundTokens.{AllSound, sound_front, sound_back, shorter}
use Rattle.mt_query_laws.proofs.Numbering.{number_within}

abbrev quote : ℕ → Bool
quote b = b == 34

-- what a pattern's string writes is the text of a pattern
pub text_valid : (taken : Bool) (content : List ℕ) → string_length taken (content ++ 34 ∷ []) ≡ Some (length content) → is_pattern_text false (unescaped quote taken content) ≡ true
text_valid false [] h = refl
text_valid true [] h = cc
text_valid true (b ∷ content) h = go (b == 34) refl (text_valid false content (shorter (string_length false (content ++ 34 ∷ [])) (length content) h))
  where
    go : (q : Bool) → (b == 34) ≡ q → is_pattern_text false (unescaped quote false content) ≡ true
        → is_pattern_text false (cond q (b ∷ unescaped quote false content) (92 ∷ b ∷ unescaped quote false content)) ≡ true
    go true e k = ap (λ c. is_pattern_text (c == 92) (unescaped quote false content)) (eqb-true b 34 e) ∙ k
    go false e k = rw e k
text_valid false (b ∷ content) h = go (b == 34) refl (b == 92) refl h (λ k. text_valid (b == 92) content k)
  where
    go : (q : Bool) → (b == 34) ≡ q → (s : Bool) → (b == 92) ≡ s
        → cond q (Some 0) (option_map suc (string_length (b == 92) (content ++ 34 ∷ []))) ≡ Some (suc (length content))
        → (string_length (b == 92) (content ++ 34 ∷ []) ≡ Some (length content) → is_pattern_text false (unescaped quote (b == 92) content) ≡ true)
        → is_pattern_text false (cond s (unescaped quote true content) (b ∷ unescaped quote false content)) ≡ true
    go true e s f h k = let z : 0 ≡ suc (length content) = cc in absurd (omega arith)
    go false e true f h k = ap (λ s. is_pattern_text false (unescaped quote s content)) (sym f) ∙ k (shorter (string_length (b == 92) (content ++ 34 ∷ [])) (length content) h)
    go false e false f h k =
        ap (λ s. is_pattern_text s (unescaped quote false content)) f ∙ ap (λ s. is_pattern_text false (unescaped quote s content)) (sym f)
        ∙ k (shorter (string_length (b == 92) (content ++ 34 ∷ [])) (length content) h)

-- a bare string stands only where the default attribute is among the names
abbrev pub HasDefault : Tested → List (List ℕ) → ℕ → Type 0
HasDefault OfToken names default = default < length names
HasDefault OfTag names default = Unit {0}

-- a name that is declared
pub record Declared (names : List (List ℕ)) (name : List ℕ) : Type 0 where
  pub number : ℕ
  pub is : number_of names name ≡ Some number
  pub within : number < length names

pub declared : (names : List (List ℕ)) (at : ℕ) (name : List ℕ) → undeclared at (number_of names name) ≡ None → Declared names name
declared names at name h = go (number_of names name) refl h
  where
    go : (found : Option ℕ) → number_of names name ≡ found → undeclared at found ≡ None → Declared names name
    go None e h = cc
    go (Some n) e h = record { number = n; is = e; within = number_within names name n (sym e) }

pub first_none : (a b : Option ℕ) → first_of a b ≡ None → (a ≡ None) × (b ≡ None)
first_none None b h = (refl, h)
first_none (Some at) b h = cc

compared_valid : (names : List (List ℕ)) (attr : ℕ) (comparison : Comparison) (content : List ℕ) → attr < length names → string_length false (content ++ 34 ∷ []) ≡ Some (length content)
    → ValidTest names (compared attr comparison content)
compared_valid names attr Accepts content h s = (h, text_valid false content s)
compared_valid names attr Refuses content h s = (h, text_valid false content s)
compared_valid names attr Equals content h s = h
compared_valid names attr Differs content h s = h

module _ (names : List (List ℕ)) (default : ℕ) where
  pub test_valid : {of : Tested} {rank : TestRank} (part : TestTree of rank) → HasDefault of names default → AllSound (test_tokens part) → test_unknown names part ≡ None
      → ValidTest names (test_of names default part)
  unfolding test_tokens
  test_valid (tree.Compared at name comparison content) d s u =
      let n = declared names at name u in
      subst (λ found. ValidTest names (compared (or_first found) comparison content)) (sym n.is) (compared_valid names n.number comparison content n.within s.1.1.0)
  test_valid (tree.Bare content) d s u = (d, text_valid false content s.0)
  test_valid (tree.Not inner) d s u = test_valid inner d s.1 u
  test_valid (tree.Bracketed inner) d s u = test_valid inner d (sound_front (test_tokens inner) (Mark t.CloseRound ∷ []) s.1) u
  test_valid (tree.One inner) d s u = test_valid inner d s u
  test_valid (tree.Both left right) d s u =
      let n = first_none (test_unknown names left) (test_unknown names right) u in
      (test_valid left d (sound_front (test_tokens left) (Mark t.And ∷ test_tokens right) s) n.0, test_valid right d (sound_back (test_tokens left) (Mark t.And ∷ test_tokens right) s).1 n.1)
  test_valid (tree.Sole inner) d s u = test_valid inner d s u
  test_valid (tree.Either left right) d s u =
      let n = first_none (test_unknown names left) (test_unknown names right) u in
      (test_valid left d (sound_front (test_tokens left) (Mark t.Bar ∷ test_tokens right) s) n.0, test_valid right d (sound_back (test_tokens left) (Mark t.Bar ∷ test_tokens right) s).1 n.1)

pub maybe_valid : (names : List (List ℕ)) (test : q.Test) → ValidTest names test → ValidMaybe names test
maybe_valid names q.Any v = absurd v
maybe_valid names (q.Pattern attr text negated) v = v
maybe_valid names (q.Literal attr text negated) v = v
maybe_valid names (q.Not inner) v = v
maybe_valid names (q.Both left right) v = v
maybe_valid names (q.Either left right) v = v
