use Rattle.std.proofs.Common.{◌≡◌, ℕ, List, map, take}
use Rattle.mt_file_spec.specs.Tags.{TagAttr, tag_value}
use Rattle.mt_vertical.specs.Readers.{AreShort}
use Rattle.mt_vertical.specs.TagReading.{ReadsAttrs}
use Rattle.mt_vertical.proofs.values.tag_values.Given as goal

abbrev pub invariant-loop-name : goal.invariant-loop-name
invariant-loop-name l = record {
  so_far : (all : List TagAttr) (rest : List ℕ) → ReadsAttrs l.attrs all rest → l.values ≡ map (tag_value all) (take l.name-index l.names);
  short : AreShort l.values;
}
