-- The calls that are due for several attributes.
use Rattle.std.proofs.Common.{◌≡◌, ℕ, suc, ◌+◌, ◌<◌, ◌==◌, List, [], ◌∷◌, length, map, take, get_or, sum, Option, None, Some, Result, Err, refl, sym, ◌∙◌, ap, ap₂, arith, if◌then◌else◌}
use Rattle.std.specs.Result.{IsErr}
use Rattle.std.specs.List.{All}
use Rattle.std.proofs.lemmas.List.{get_or_default}
use Rattle.std.proofs.lemmas.List.Sums.{sum-map, sum_by_more, sum_by_more_le}
use Rattle.mt_text_spec.specs.Registries.{Registry, Attr}
use Rattle.mt_text_spec.specs.Texts.{Text}
use Rattle.mt_mapper.specs.Calls.{counted, CountedAtMost}
use Rattle.mt_store_spec.specs.Lexicons.{HaveOneLexicon}
use Rattle.mt_segment_spec.specs.Tables.{AttrTables, Tables, AreTablesOf, attr_at, attr_values, tables_at}
use Rattle.mt_segment.proofs.Values.{have, own_values}
use Rattle.mt_segment.specs.Building.{AreAllMapped, HasBase}
use Rattle.mt_segment.specs.Mappers.{AreCalled, calls_due, calls_of, number_of}
use Rattle.mt_segment.proofs.Assembled.{AreFirst, based_on}
use Rattle.mt_segment.proofs.Calls.{AreCounted, called_part, counted_more, halfway_of, same_due}

module _ (images : List ℕ → List ℕ → List ℕ) (attrs : List Attr) (old now : List AttrTables) (number : ℕ) (attr : Attr) (h : AreAllMapped images attrs old now number) (l : number < length attrs)
    (count : length old ≡ length attrs) (is : attr ≡ get_or attrs number attr) (bases : All (HasBase attrs old) attrs) where
  calls_same : (names : List (List ℕ)) (mapper : ℕ) → calls_of names now mapper attr.mapper attr.base ≡ calls_of names old mapper attr.mapper attr.base
  calls_same names mapper = by attr.base refl
    where
      by : (base : Option ℕ) → attr.base ≡ base → calls_of names now mapper attr.mapper base ≡ calls_of names old mapper attr.mapper base
      by None e = refl
      by (Some base) e = rw (h.kept base ((based_on images attrs old now number attr h l count is bases).is_base base e)) refl

  -- those of one attribute more
  pub calls_more : (names : List (List ℕ)) (first before after : List ℕ) → AreCounted (calls_due names old (take number attrs)) first before → AreCounted (λ m. calls_of names now m attr.mapper attr.base) before after →
      AreCounted (calls_due names old (take (number + 1) attrs)) first after
  calls_more names first before after g f = record {
    count = f.count ∙ g.count;
    at = λ m low.
        let due : calls_due names old (take (number + 1) attrs) m ≡ calls_due names old (take number attrs) m + calls_of names now m attr.mapper attr.base =
        sum-map (λ (a : Attr). calls_of names old m a.mapper a.base) (take (number + 1) attrs) ∙ sum_by_more (λ (a : Attr). calls_of names old m a.mapper a.base) attrs number attr l
        ∙ ap₂ ◌+◌ (sym (sum-map (λ (a : Attr). calls_of names old m a.mapper a.base) (take number attrs))) (ap (λ (a : Attr). calls_of names old m a.mapper a.base) (sym is) ∙ sym (calls_same names m)) in
        f.at m (omega (arith, g.count)) ∙ ap (λ (n : ℕ). counted n (calls_of names now m attr.mapper attr.base)) (g.at m low)
        ∙ counted_more (get_or first m 0) (calls_due names old (take number attrs) m) (calls_of names now m attr.mapper attr.base) ∙ ap (counted (get_or first m 0)) (sym due);
  }

  -- where memory runs out while this attribute is mapped
  pub calls_part : {T U E : Type 0} (names : List (List ℕ)) (first before after : List ℕ) (its : Result T E) (error : E) (answer : Result U E) → its ≡ Err error → IsErr answer → AreCounted (calls_due names old (take number attrs)) first before →
      AreCalled (λ m. calls_of names now m attr.mapper attr.base) before after its → AreCalled (calls_due names old attrs) first after answer
  calls_part names first before after its error answer e is_err g f = record {
    count = f.count ∙ g.count;
    each = λ m low.
        let calls : Attr → ℕ = λ a. calls_of names old m a.mapper a.base in
        let part : CountedAtMost (get_or before m 0) (calls_of names now m attr.mapper attr.base) (get_or after m 0) =
        halfway_of (calls_of names now m attr.mapper attr.base) (get_or before m 0) (get_or after m 0) its error e (f.each m (omega (arith, g.count))) in
        let here : calls_of names now m attr.mapper attr.base ≡ calls (get_or attrs number attr) = calls_same names m ∙ ap calls is in
        called_part (calls_due names old attrs m) (get_or first m 0) (get_or after m 0) answer is_err (record {
          more = calls_due names old (take number attrs) m + part.more;
          few = omega (arith, part.few, here, sum-map calls (take number attrs), sum-map calls attrs, sum_by_more_le calls attrs number attr l);
          are = part.are ∙ ap (λ (n : ℕ). counted n part.more) (g.at m low) ∙ counted_more (get_or first m 0) (calls_due names old (take number attrs) m) part.more;
        });
  }

-- those that a mapped attribute makes
pub mapped_due : {T E : Type 0} (names : List (List ℕ)) (tables : List AttrTables) (mapper name : List ℕ) (base : ℕ) (its : Option ℕ) (d : AttrTables) (before after : List ℕ) (answer : Result T E) → its ≡ Some base → base < length tables → name ≡ mapper →
    AreCalled (λ m. if number_of names name == m then length (get_or tables base d).lexicon else 0) before after answer → AreCalled (λ m. calls_of names tables m mapper its) before after answer
mapped_due names tables mapper name base its d before after answer some l e h =
    same_due (λ m. if number_of names name == m then length (get_or tables base d).lexicon else 0) (λ m. calls_of names tables m mapper its) before after answer (λ m.
    ap (λ (n : ℕ). if number_of names name == m then n else 0) (ap (λ (t : AttrTables). length t.lexicon) (get_or_default tables base d (tables_at [] 0) l))
    ∙ ap (λ (n : List ℕ). calls_of names tables m n (Some base)) e ∙ ap (calls_of names tables m mapper) (sym some)) h

-- the tables of the base attributes tell what is due by any tables of the texts
module _ (one_lexicon : HaveOneLexicon) (images : List ℕ → List ℕ → List ℕ) (registry : Registry) (corpus : List Text) (first : List AttrTables) (tables : Tables) (is_first : AreFirst registry corpus first) (are : AreTablesOf images registry corpus tables) where
  same_base : (base : ℕ) → base < length registry.attrs → (attr_at registry base).base ≡ None → (tables_at first base).lexicon ≡ (tables_at tables.attrs base).lexicon
  same_base base l none =
      one_lexicon (attr_values images registry corpus base) (tables_at first base).lexicon (tables_at tables.attrs base).lexicon (rw (own_values images registry corpus base none) (is_first.made.at base l none).have.lexicon)
      (have images registry corpus tables are base l).lexicon

  due_by_tables : (names : List (List ℕ)) (mapper : ℕ) → calls_due names first registry.attrs mapper ≡ calls_due names tables.attrs registry.attrs mapper
  due_by_tables names mapper = ap sum (each registry.attrs is_first.bases)
    where
      one : (attr : Attr) → HasBase registry.attrs first attr → (base : Option ℕ) → attr.base ≡ base → calls_of names first mapper attr.mapper base ≡ calls_of names tables.attrs mapper attr.mapper base
      one attr has None e = refl
      one attr has (Some base) e =
          ap (λ (n : ℕ). if number_of names attr.mapper == mapper then n else 0) (ap length (same_base base (omega (arith, has.there base e, is_first.made.count)) (has.is_base base e)))

      each : (attrs : List Attr) → All (HasBase registry.attrs first) attrs → map (λ attr. calls_of names first mapper attr.mapper attr.base) attrs ≡ map (λ attr. calls_of names tables.attrs mapper attr.mapper attr.base) attrs
      each [] all = refl
      each (attr ∷ attrs) all = ap₂ (λ (n : ℕ) (ns : List ℕ). n ∷ ns) (one attr (all 0 attr (omega arith)) attr.base refl) (each attrs (λ k d l. all (suc k) d (omega arith)))

  pub called_by_tables : {T E : Type 0} (names : List (List ℕ)) (old new : List ℕ) (answer : Result T E) → AreCalled (calls_due names first registry.attrs) old new answer → AreCalled (calls_due names tables.attrs registry.attrs) old new answer
  called_by_tables names old new answer h = same_due (calls_due names first registry.attrs) (calls_due names tables.attrs registry.attrs) old new answer (due_by_tables names) h
