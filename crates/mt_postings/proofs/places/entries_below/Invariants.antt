use Rattle.std.proofs.Common.{◌+◌, ◌-◌, ◌*◌, ◌^◌, ◌<◌, ◌≤◌, length, get_or}
use Rattle.mt_postings.specs.declared.coded.Entry.{Entry}
use Rattle.mt_postings.proofs.places.entries_below.Given as goal

abbrev pub invariant-loop-from : goal.invariant-loop-from
invariant-loop-from g l = record {
  first_order : l.first ≤ l.from;
  order : l.from ≤ l.to;
  within : l.to ≤ length l.entries;
  below : (d : Entry) → l.first < l.from → (get_or l.entries (l.from - 1) d).position < l.least;
  stop : (d : Entry) → l.to < length l.entries → l.least ≤ (get_or l.entries l.to d).position;
  grown : l.initial.steps ≤ l.steps;
  size : 2 ^ (l.steps - l.initial.steps) * (l.to - l.from) ≤ length l.entries - l.first;
  looks : 2 ^ (l.steps - l.initial.steps) ≤ 2 * (length l.entries - l.first) + 1;
}

abbrev pub decreases-loop-from : goal.decreases-loop-from
decreases-loop-from g l = l.to - l.from
