-- Frequencies over texts.
use Rattle.std.proofs.Common.{◌≡◌, ℕ, ◌+◌, ◌<◌, Bool, true, false, ◌&&◌, inl, inr, List, [], ◌∷◌, map, Option, Some, None, if◌then◌else◌, refl, sym, subst, arith}
use Rattle.std.specs.Str.{bytes_eq}
use Rattle.std.specs.Cmp.Lexicographic.{bytes_decides}
use Rattle.std.proofs.lemmas.Bool.{and_parts}
use Rattle.mt_text_spec.specs.Registries.{Registry}
use Rattle.mt_text_spec.specs.Texts.{Text}
use Rattle.mt_text_spec.specs.Queries.{Grammar}
use Rattle.mt_match_spec.specs.Values.{Images}
use Rattle.mt_count_spec.specs.Instances.{Instance}
use Rattle.mt_count_spec.specs.Counts.{CountsTwo, IsTwo, IsCounted}
use Rattle.mt_count_laws.specs.Laws.{OneCount, OneUnaryCount}
use Rattle.mt_counts.specs.Totals.{total}
use Rattle.mt_counts.specs.Counted.{Counted, f, f_first, f_second, f1, is_three, is_two}
use Rattle.mt_triples.specs.CountsOf.{AreCountsOf}
use Rattle.mt_match_laws.proofs.Members.{Member}
use Rattle.mt_word_sketch_spec.specs.Frequencies.{Frequencies, AreFrequencies}
use Rattle.mt_word_sketch_laws.specs.Laws.{OneFrequencies, PairsAreWithin}
use Rattle.mt_word_sketch_laws.proofs.Sums.{numbers_within}

-- ---- two words together, and each by itself

any_second : (images : Images) (registry : Registry) (text : Text) (name : List ℕ) (x y : List ℕ) (i : Instance) → CountsTwo images registry text name (Some x) (Some y) i → CountsTwo images registry text name (Some x) None i
any_second images registry text name x y i (IsTwo p q h k) = IsTwo p q h tt

any_first : (images : Images) (registry : Registry) (text : Text) (name : List ℕ) (x y : List ℕ) (i : Instance) → CountsTwo images registry text name (Some x) (Some y) i → CountsTwo images registry text name None (Some y) i
any_first images registry text name x y i (IsTwo p q h k) = IsTwo p q tt k

pub within : PairsAreWithin
within images registry grammar corpus fs are name x y =
    let So : Option (List ℕ) → Option (List ℕ) → Text → Instance → Type 0 = λ a b text. IsCounted images registry grammar text (CountsTwo images registry text name a b) in
    record {
      first = numbers_within (So (Some x) (Some y)) (So (Some x) None) corpus (fs.both name x y) (fs.first name x) (λ text i h. record { has = h.has; counts = any_second images registry text name x y i h.counts }) (are.both name x y) (are.first name x);
      second = numbers_within (So (Some x) (Some y)) (So None (Some y)) corpus (fs.both name x y) (fs.second name y) (λ text i h. record { has = h.has; counts = any_first images registry text name x y i h.counts }) (are.both name x y) (are.second name y);
    }

pub one_set : OneCount → OneUnaryCount → OneFrequencies
one_set one one_unary images registry grammar corpus a b h k =
    let both : (name x y : List ℕ) → a.both name x y ≡ b.both name x y = λ name x y. one images registry grammar corpus name (Some x) (Some y) (a.both name x y) (b.both name x y) (h.both name x y) (k.both name x y) in
    let first : (name x : List ℕ) → a.first name x ≡ b.first name x = λ name x. one images registry grammar corpus name (Some x) None (a.first name x) (b.first name x) (h.first name x) (k.first name x) in
    let second : (name y : List ℕ) → a.second name y ≡ b.second name y = λ name y. one images registry grammar corpus name None (Some y) (a.second name y) (b.second name y) (h.second name y) (k.second name y) in
    let alone : (name x : List ℕ) → a.alone name x ≡ b.alone name x = λ name x. one_unary images registry grammar corpus name (Some x) (a.alone name x) (b.alone name x) (h.alone name x) (k.alone name x) in
    λ i. record { both = λ name x y. both name x y i; first = λ name x. first name x i; second = λ name y. second name y i; alone = λ name x. alone name x i }

-- ---- the frequencies of tables of counts

pub frequencies_of : Counted → Frequencies
frequencies_of c = record { both = f c; first = f_first c; second = f_second c; alone = f1 c }

record IsKey {K : Type 0} (test : K → Bool) (es : List (K × ℕ)) : Type 0 where
  pub key : K
  pub there : Member key (map (λ e. e.0) es)
  pub passes : test key ≡ true

has_key : {K : Type 0} (test : K → Bool) (es : List (K × ℕ)) → 0 < total test es → IsKey test es
has_key test [] some = absurd (omega (arith, some))
has_key {K} test (e ∷ es) some = by (test e.0) refl some (has_key test es)
  where
    by : (b : Bool) → test e.0 ≡ b → 0 < (if b then e.1 else 0) + total test es → (0 < total test es → IsKey test es) → IsKey test (e ∷ es)
    by true h some rest = record { key = e.0; there = inl refl; passes = h }
    by false h some rest = let more = rest (omega (arith, some)) in record { key = more.key; there = inr more.there; passes = more.passes }

same : (a b : List ℕ) → bytes_eq a b ≡ true → a ≡ b
same a b = (bytes_decides a b).0

-- What stands somewhere is among these.
pub record Known (fs : Frequencies) : Type 0 where
  pub triples : List (List ℕ × List ℕ × List ℕ)
  pub firsts : List (List ℕ × List ℕ)
  pub alones : List (List ℕ × List ℕ)
  pub each_triple : (name x y : List ℕ) → 0 < fs.both name x y → Member (name, x, y) triples
  pub each_first : (name x : List ℕ) → 0 < fs.first name x → Member (name, x) firsts
  pub each_alone : (name x : List ℕ) → 0 < fs.alone name x → Member (name, x) alones

two_there : (name x : List ℕ) (es : List ((List ℕ × List ℕ) × ℕ)) → 0 < total (is_two name x) es → Member (name, x) (map (λ e. e.0) es)
two_there name x es some =
    let k = has_key (is_two name x) es some in
    let parts = and_parts (bytes_eq name k.key.0) (bytes_eq x k.key.1) k.passes in
    let left : name ≡ k.key.0 = same name k.key.0 parts.0 in
    let right : x ≡ k.key.1 = same x k.key.1 parts.1 in
    let is : ◌≡◌ {A = List ℕ × List ℕ} k.key (name, x) = λ i. (sym left i, sym right i) in
    subst (λ (key : List ℕ × List ℕ). Member key (map (λ e. e.0) es)) is k.there

three_there : (name x y : List ℕ) (es : List ((List ℕ × List ℕ × List ℕ) × ℕ)) → 0 < total (is_three name x y) es → Member (name, x, y) (map (λ e. e.0) es)
three_there name x y es some =
    let k = has_key (is_three name x y) es some in
    let front = and_parts (bytes_eq name k.key.0 && bytes_eq x k.key.1) (bytes_eq y k.key.2) k.passes in
    let parts = and_parts (bytes_eq name k.key.0) (bytes_eq x k.key.1) front.0 in
    let left : name ≡ k.key.0 = same name k.key.0 parts.0 in
    let middle : x ≡ k.key.1 = same x k.key.1 parts.1 in
    let right : y ≡ k.key.2 = same y k.key.2 front.1 in
    let is : ◌≡◌ {A = List ℕ × List ℕ × List ℕ} k.key (name, x, y) = λ i. (sym left i, sym middle i, sym right i) in
    subst (λ (key : List ℕ × List ℕ × List ℕ). Member key (map (λ e. e.0) es)) is k.there

pub known : (c : Counted) → Known (frequencies_of c)
unfolding frequencies_of
known c = record {
  triples = map (λ e. e.0) c.both;
  firsts = map (λ e. e.0) c.first;
  alones = map (λ e. e.0) c.alone;
  each_triple = λ name x y some. three_there name x y c.both some;
  each_first = λ name x some. two_there name x c.first some;
  each_alone = λ name x some. two_there name x c.alone some;
}

pub are_frequencies : (images : Images) (registry : Registry) (grammar : Grammar) (corpus : List Text) (c : Counted) → AreCountsOf images registry grammar corpus c → AreFrequencies images registry grammar corpus (frequencies_of c)
unfolding frequencies_of
are_frequencies images registry grammar corpus c are = record { both = are.both; first = are.first; second = are.second; alone = are.alone }
