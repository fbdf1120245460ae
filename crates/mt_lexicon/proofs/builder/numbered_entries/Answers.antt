use Rattle.std.proofs.Common.{map}
use Rattle.std.proofs.lemmas.List.{map_push}
use Rattle.std.proofs.lemmas.List.Elements.{All-push}
use Rattle.mt_lexicon.specs.declared.builder.Entry.{Entry}
use Rattle.mt_lexicon.specs.Entries.{BeginsBy}
use Rattle.mt_lexicon.proofs.Sorted.{one_pair_more}
use Rattle.mt_lexicon.proofs.builder.numbered_entries.Goals as goal

pub loop-number-preserved : goal.loop-number-preserved
loop-number-preserved c =
    record {
      numbering = rw (c.in_ok-push.ensures.items, map_push)
          (one_pair_more c.args.values.now c.loop-number.number c.get-value.result.now (map (λ entry. (entry.value.now, entry.number)) c.loop-number.entries.items) c.loop-number.invariant.numbering c.get-value.ensures);
      first = rw c.in_ok-push.ensures.items (All-push (λ (entry : Entry). BeginsBy entry.value.now entry.first) c.loop-number.entries.items _ c.loop-number.invariant.first c.first_eight.ensures);
    }
