-- So many characters were passed, and the others are left.
use Rattle.std.proofs.Common.{◌≡◌, ◌≤◌, drop, length, chars, encode_utf8_all}
use Rattle.std.specs.Str.Iter.{chars_rest}
use Rattle.mt_mapper.proofs.cut.first_chars.Given as goal

abbrev pub invariant-loop : goal.invariant-loop
invariant-loop l = record {
  within : l.counter ≤ length (chars l.text);
  left : chars_rest l.others ≡ encode_utf8_all (drop l.counter (chars l.text));
}
