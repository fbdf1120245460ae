-- The numbers so far stand for the values.
use Rattle.std.proofs.Common.{◌≡◌, take, vec_len}
use Rattle.mt_segment.specs.Numbered.{IsNumbered, stands_for}
use Rattle.mt_generate_tables.specs.Coded.{tokens_of, values_of}
use Rattle.mt_generate_tables.proofs.numbering.add_values.Given as goal

abbrev pub invariant-loop-code : goal.invariant-loop-code
invariant-loop-code l = record {
  count : vec_len l.numbers ≡ l.code-index;
  numbered : IsNumbered l.values l.numbers.items;
  values_are : stands_for l.values l.numbers.items ≡ values_of l.column (tokens_of (take l.code-index l.codes));
}
