-- Filters that are chained from the last one on, and places of labels.
use Rattle.std.proofs.Common.{◌≡◌, List, [], ◌∷◌, ◌++◌, refl, ◌∙◌, ap, map}
use Rattle.std.specs.Prelude.{reverse}
use Rattle.std.proofs.lemmas.List.{reverse-append}
use Rattle.mt_text_spec.specs.Queries as q
use Rattle.mt_query_spec.specs.Meaning.{FilterOf, chained}
use Rattle.mt_cql.specs.declared.query.Filter.{Filter}
use Rattle.mt_cql.specs.Read.{filter_seen}

abbrev pub chained_onto : List FilterOf → q.Filters → q.Filters
chained_onto [] rest = rest
chained_onto (f ∷ fs) rest = q.More f.kind f.head f.filters (chained_onto fs rest)

pub onto_none : (fs : List FilterOf) → chained_onto fs q.NoMore ≡ chained fs
onto_none [] = refl
onto_none (f ∷ fs) = ap (q.More f.kind f.head f.filters) (onto_none fs)

-- from the last one on
abbrev pub chained_back : List Filter → q.Filters → q.Filters
chained_back [] rest = rest
chained_back (f ∷ fs) rest = chained_back fs (q.More (filter_seen f).kind (filter_seen f).head (filter_seen f).filters rest)

back_last : (fs : List Filter) (f : Filter) (rest : q.Filters)
    → chained_back (fs ++ f ∷ []) rest ≡ q.More (filter_seen f).kind (filter_seen f).head (filter_seen f).filters (chained_back fs rest)
back_last [] f rest = refl
back_last (g ∷ fs) f rest = back_last fs f (q.More (filter_seen g).kind (filter_seen g).head (filter_seen g).filters rest)

back_reverse : (fs : List Filter) (rest : q.Filters) → chained_back (reverse fs) rest ≡ chained_onto (map filter_seen fs) rest
back_reverse [] rest = refl
back_reverse (f ∷ fs) rest =
    ap (λ x. chained_back x rest) (reverse-append (f ∷ []) fs) ∙ back_last (reverse fs) f rest
    ∙ ap (q.More (filter_seen f).kind (filter_seen f).head (filter_seen f).filters) (back_reverse fs rest)

pub back_all : (fs : List Filter) → chained_back (reverse fs) q.NoMore ≡ chained (map filter_seen fs)
back_all fs = back_reverse fs q.NoMore ∙ onto_none (map filter_seen fs)
