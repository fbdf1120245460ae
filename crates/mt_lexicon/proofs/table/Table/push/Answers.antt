use Rattle.std.proofs.Common.{◌≡◌, ◌<◌, ◌∙◌, length, arith, refl, rules}
use Rattle.std.proofs.lemmas.List.{length-map, length-set, get_or_default}
use Rattle.mt_lexicon.specs.Hashed.{hashes}
use Rattle.mt_lexicon.specs.declared.table.Link.{Link}
use Rattle.mt_lexicon.proofs.Chains.{links_more}
use Rattle.mt_lexicon.proofs.table.Table.push.Goals as goal

pub invariant_of-self : goal.invariant_of-self
invariant_of-self c =
    let links = c.self.inside.links.items in
    let ends = c.self.inside.ends.items in
    let own = rw (← c.self.view_is) at c.bucket-bucket.ensures.bucket in
    let within : c.bucket-bucket.result < length ends = rw (← c.self.view_is) at c.bucket-bucket.ensures.within in
    let room : length (hashes links) < length ends = rw (← c.self.view_is) at c.requires.room in
    let count = length-map links (λ (l : Link). l.hash) in
    let less = rw (← c.self.view_is) at c.requires.few in
    let end : c.len.result ≡ length c.push_reserved.new.self.items = search rules in
    let same = length-set ends c.bucket-bucket.result c.len.result in (
      links_more links c.push_reserved.new.self.items ends c.args.hash c.bucket-bucket.result c.len.result _ c.self.invariant.0 c.push_reserved.ensures.items refl
          (c.index-below.ensures ∙ get_or_default ends c.bucket-bucket.result c.index-below.result.now 0 within) own within room end,
      omega (arith, c.push_reserved.ensures.len, count),
      omega (arith, same, c.push_reserved.ensures.capacity, c.self.invariant.2),
    )
