-- Spans that are kept for a kind beside others.
use Rattle.std.proofs.Common.{◌≡◌, List, [], ◌∷◌, ◌++◌, subst, sym}
use Rattle.std.specs.List.{All}
use Rattle.std.proofs.lemmas.List.Elements.{All-push}
use Rattle.mt_text_spec.specs.Queries as q
use Rattle.mt_segment_spec.specs.Tables.{Tables}
use Rattle.mt_prepare.specs.Resolved.{AreSpansOf}
use Rattle.mt_prepare.specs.declared.known_spans.KindSpans.{KindSpans}

abbrev pub AreOfKind : Tables → KindSpans → Type 0
AreOfKind tables kept = AreSpansOf tables (record { kind = kept.kind; test = q.Any }) kept.spans

pub one_kind_more : (tables : Tables) (old new : List KindSpans) (kept : KindSpans) → new ≡ old ++ kept ∷ [] → AreOfKind tables kept → All (AreOfKind tables) old → All (AreOfKind tables) new
one_kind_more tables old new kept is own all = subst (All (AreOfKind tables)) (sym is) (All-push (AreOfKind tables) old kept all own)

pub no_kind_more : (tables : Tables) (old new : List KindSpans) → new ≡ old → All (AreOfKind tables) old → All (AreOfKind tables) new
no_kind_more tables old new is all = subst (All (AreOfKind tables)) (sym is) all
