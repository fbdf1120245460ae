-- Laws of frequency lists and collocations.
use Rattle.std.specs.Prelude.{ℕ, ℤ, ◌≡◌, List}
use Rattle.mt_text_spec.specs.Registries.{Registry}
use Rattle.mt_text_spec.specs.Texts.{Text, Span}
use Rattle.mt_match_spec.specs.Values.{Images}
use Rattle.mt_report_spec.specs.Counts.{CollocationText, FrequencyText}

-- there is a frequency list of any spans, for each attribute and distance
abbrev pub HaveFrequencies : Type 0
HaveFrequencies = (images : Images) (registry : Registry) (corpus : List Text) (spans : List Span) (attr : ℕ) (distance : ℤ) →
    (lines : List (List ℕ)) × FrequencyText images registry corpus spans attr distance lines

-- and one only
abbrev pub FrequenciesAreOne : Type 0
FrequenciesAreOne = (images : Images) (registry : Registry) (corpus : List Text) (spans : List Span) (attr : ℕ) (distance : ℤ) (lines others : List (List ℕ)) →
    FrequencyText images registry corpus spans attr distance lines → FrequencyText images registry corpus spans attr distance others → lines ≡ others

-- there is a list of the collocates of any spans, for each attribute, window and least number of spans
abbrev pub HaveCollocates : Type 0
HaveCollocates = (images : Images) (registry : Registry) (corpus : List Text) (spans : List Span) (attr : ℕ) (first last : ℤ) (least : ℕ) →
    (lines : List (List ℕ)) × CollocationText images registry corpus spans attr first last least lines

-- and there is one such list only
abbrev pub CollocatesAreOne : Type 0
CollocatesAreOne = (images : Images) (registry : Registry) (corpus : List Text) (spans : List Span) (attr : ℕ) (first last : ℤ) (least : ℕ) (lines others : List (List ℕ)) →
    CollocationText images registry corpus spans attr first last least lines → CollocationText images registry corpus spans attr first last least others → lines ≡ others
