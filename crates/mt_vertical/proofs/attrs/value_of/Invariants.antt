use Rattle.std.proofs.Common.{◌≡◌, ℕ, List, length}
use denote.Shadow.{shadow}
use denote.Text.{Utf8}
use Rattle.mt_file_spec.specs.Tags.{TagAttr, tag_value}
use Rattle.mt_vertical.specs.TagReading.{ReadsAttrs}
use Rattle.mt_vertical.proofs.attrs.value_of.Given as goal

abbrev pub invariant-loop-attr : goal.invariant-loop-attr
invariant-loop-attr l = record {
  left : (attrs : List TagAttr) (rest : List ℕ) → ReadsAttrs l.text attrs rest →
      (others : List TagAttr) × ReadsAttrs l.rest others rest × (tag_value attrs l.name ≡ tag_value others l.name);
  utf8 : shadow (Utf8 l.rest);
}

abbrev pub decreases-loop-attr : goal.decreases-loop-attr
decreases-loop-attr l = length l.rest
