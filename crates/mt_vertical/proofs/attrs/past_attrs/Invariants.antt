use Rattle.std.proofs.Common.{ℕ, List, length}
use denote.Shadow.{shadow}
use denote.Text.{Utf8}
use Rattle.mt_file_spec.specs.Tags.{TagAttr}
use Rattle.mt_vertical.specs.TagReading.{ReadsAttrs}
use Rattle.mt_vertical.proofs.attrs.past_attrs.Given as goal

abbrev pub invariant-loop-others : goal.invariant-loop-others
invariant-loop-others l = record {
  read : (attrs : List TagAttr) (rest : List ℕ) → ReadsAttrs l.rest attrs rest → (all : List TagAttr) × ReadsAttrs l.text all rest;
  utf8 : shadow (Utf8 l.rest);
}

abbrev pub decreases-loop-others : goal.decreases-loop-others
decreases-loop-others l = length l.rest
