-- The digits so far stand behind the word.
use Rattle.std.proofs.Common.{◌≡◌, ◌+◌, ◌≤◌, ◌∷◌, [], ◌++◌, length, take, vec_len, vec_capacity}
use Rattle.mt_shell.proofs.state.removing.write_tokens.Given as goal

abbrev pub invariant-loop-digit : goal.invariant-loop-digit
invariant-loop-digit l = record {
  items : l.line.items ≡ (111 ∷ 107 ∷ 32 ∷ []) ++ take l.digit-index l.digit-items;
  len : vec_len l.line ≡ 3 + l.digit-index;
  room : 14 ≤ vec_capacity l.line;
  few : length l.digit-items ≤ 10;
}
