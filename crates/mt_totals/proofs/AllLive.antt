-- Groups of which each text is live, by how many are live.
use Rattle.std.proofs.Common.{◌≡◌, ℕ, zero, suc, ◌+◌, ◌<◌, ◌≤◌, inl, inr, Bool, true, false, List, [], ◌∷◌, length, get_or, refl, sym, ◌∙◌, ap, subst, arith}
use Rattle.std.specs.Prelude.{if◌then◌else◌}
use Rattle.std.specs.List.{All, Contains}
use Rattle.std.proofs.lemmas.Bool.{cases_lt}
use Rattle.std.proofs.lemmas.List.{get_or-map, get_or_default, length-map}
use Rattle.std.proofs.lemmas.List.Elements.{All-nil, All-cons, All-head, All-tail, All-from_get_or}
use Rattle.mt_text_spec.specs.Registries.{Registry}
use Rattle.mt_text_spec.specs.Texts.{Text}
use Rattle.mt_match_spec.specs.Values.{Images}
use Rattle.mt_segment_spec.specs.Tables.{Tables, AreTablesOf}
use Rattle.mt_corpus_spec.specs.Groups.{Group, all_texts}
use Rattle.mt_corpus_spec.specs.Segments.{StandFor, live_numbers}
use Rattle.mt_search.proofs.Groups.{same_count, together}
use Rattle.mt_totals.specs.Whole.{IsWhole}

-- ## One group

abbrev Live : Text × Bool → Type 0
Live member = member.1 ≡ true

few_live : (first : ℕ) (group : Group) → length (live_numbers first group) ≤ length group
few_live first [] = omega arith
few_live first (member ∷ group) = by member.1 (few_live (first + 1) group)
  where
    by : (b : Bool) → length (live_numbers (first + 1) group) ≤ length group → length (if b then first ∷ live_numbers (first + 1) group else live_numbers (first + 1) group) ≤ suc (length group)
    by true rest = omega (arith, rest)
    by false rest = omega (arith, rest)

-- a group is whole where as many texts are live as there are
pub is_whole : (first : ℕ) (group : Group) → length (live_numbers first group) ≡ length group → IsWhole group
is_whole first [] e = All-nil Live
is_whole first (member ∷ group) e = by member.1 refl (is_whole (first + 1) group) e
  where
    by : (b : Bool) → member.1 ≡ b → (length (live_numbers (first + 1) group) ≡ length group → IsWhole group) →
        length (if b then first ∷ live_numbers (first + 1) group else live_numbers (first + 1) group) ≡ suc (length group) → IsWhole (member ∷ group)
    by true is rest e = All-cons Live member group is (rest (omega (arith, e)))
    by false is rest e = let few = few_live (first + 1) group in absurd (omega (arith, few, e))

-- and then each number is that of a live text
pub all_live : (first : ℕ) (group : Group) → IsWhole group → (text : ℕ) → text < length group → Contains (live_numbers first group) (first + text)
all_live first [] whole text l = absurd (omega (arith, l))
all_live first (member ∷ group) whole text l =
    subst (λ (b : Bool). Contains (if b then first ∷ live_numbers (first + 1) group else live_numbers (first + 1) group) (first + text)) (sym (All-head Live member group whole))
    (at (all_live (first + 1) group (All-tail Live member group whole)) text l)
  where
    at : ((text : ℕ) → text < length group → Contains (live_numbers (first + 1) group) (first + 1 + text)) → (text : ℕ) → text < suc (length group) → Contains (first ∷ live_numbers (first + 1) group) (first + text)
    at rest zero l = (0, omega arith, (let e : first ≡ first + 0 = omega arith in e))
    at rest (suc text) l =
        let (k, low, e) = subst (Contains (live_numbers (first + 1) group)) (let f : first + 1 + text ≡ first + suc text = omega arith in f) (rest text (omega (arith, l))) in
        (suc k, omega (arith, low), e)

-- ## Segments

pub as_many_texts : (images : Images) (registry : Registry) (group : Group) (tables : Tables) → AreTablesOf images registry (all_texts group) tables → length tables.texts ≡ length group
as_many_texts images registry group tables are =
    ap (λ (heads : List (List ℕ × ℕ)). length heads) are.texts ∙ length-map (all_texts group) (λ (text : Text). (text.name, length text.tokens)) ∙ length-map group (λ (member : Text × Bool). member.0)

-- as many texts of each segment are live as it has
abbrev pub AsMany : List Tables → List (List ℕ) → (upto : ℕ) → Type 0
AsMany segments live upto = (k : ℕ) (tables : Tables) (numbers : List ℕ) → k < upto → length (get_or live k numbers) ≡ length (get_or segments k tables).texts

no_tables : Tables
no_tables = record { texts = []; attrs = []; structs = [] }

pub all_whole : (images : Images) (registry : Registry) (groups : List Group) (segments : List Tables) (live : List (List ℕ)) → StandFor images registry groups segments live → (upto : ℕ) → length segments ≤ upto → AsMany segments live upto → All IsWhole groups
all_whole images registry groups segments live stand upto end many = All-from_get_or IsWhole groups [] (λ i l.
    let count = same_count (λ group tables. AreTablesOf images registry (all_texts group) tables) groups segments stand.tables in
    let are : AreTablesOf images registry (all_texts (get_or groups i [])) (get_or segments i no_tables) = together (λ group tables. AreTablesOf images registry (all_texts group) tables) groups segments i [] no_tables stand.tables l in
    let texts = as_many_texts images registry (get_or groups i []) (get_or segments i no_tables) are in
    let same = many i no_tables [] (omega (arith, l, count, end)) in
    let numbers : get_or live i [] ≡ live_numbers 0 (get_or groups i []) = ap (λ (all : List (List ℕ)). get_or all i []) stand.marks ∙ get_or-map (live_numbers 0) groups i [] [] l in
    is_whole 0 (get_or groups i []) (sym (ap (λ (ns : List ℕ). length ns) numbers) ∙ same ∙ texts))

-- one segment more
pub next_as_many : (segments : List Tables) (live : List (List ℕ)) (i : ℕ) (tables : Tables) (numbers : List ℕ) → i < length segments → i < length live → tables ≡ get_or segments i tables → numbers ≡ get_or live i numbers → length numbers ≡ length tables.texts →
    AsMany segments live i → AsMany segments live (i + 1)
next_as_many segments live i tables numbers l m t n same many = λ k others more low. elim (cases_lt k i) [
  | inl less ↦ many k others more less
  | inr last ↦
      let e : i ≡ k = omega (arith, low, last) in
      subst (λ (j : ℕ). length (get_or live j more) ≡ length (get_or segments j others).texts) e
      (ap (λ (ns : List ℕ). length ns) (get_or_default live i more numbers m ∙ sym n) ∙ same ∙ ap (λ (x : Tables). length x.texts) (t ∙ get_or_default segments i tables others l))
]
