use Rattle.std.proofs.Common.{◌+◌, ◌≡◌, ◌∙◌, Bool, true, false, ap, length, arith}
use Rattle.std.proofs.lemmas.List.{length-set, length-replicate}
use Rattle.mt_generate_tables.specs.Coded.{tokens_of}
use Rattle.mt_generate_tables.proofs.Codes.{none_marked, one_drawn, one_marked}
use Rattle.mt_generate_tables.proofs.drawing.draw.Goals as goal

pub loop-init : goal.loop-init
loop-init c = record {
  seed = ap (λ s. s.seed) c.at-source.ensures;
  place = omega (arith, ap (λ s. s.place) c.at-source.ensures);
  room = c.requires.room;
  count = c.requires.empty;
  drawn = ap tokens_of c.requires.none;
  long = ap length c.requires.marks ∙ length-replicate {A = Bool} 2000 false;
  marked = rw c.requires.none (none_marked c.args.marks.now c.requires.marks);
}

pub loop-preserved : goal.loop-preserved
loop-preserved c =
    let inv = c.loop.invariant in
    record {
      seed = ap (λ s. s.seed) c.draw.ensures.next ∙ inv.seed;
      place = omega (arith, ap (λ s. s.place) c.draw.ensures.next, inv.place);
      room = omega (arith, c.push_reserved.ensures.capacity, inv.room);
      count = c.push_reserved.ensures.len ∙ ap (λ n. n + 1) inv.count;
      drawn = one_drawn c.args.seed c.args.from c.loop.counter c.loop.codes.items c.push_reserved.new.self.items _ c.code_of-code.result _ _ inv.drawn c.code_of-code.ensures.token c.draw.ensures.token inv.seed inv.place c.push_reserved.ensures.items;
      long = length-set c.loop.marks c.code_of-code.result true ∙ inv.long;
      marked = one_marked c.loop.codes.items c.push_reserved.new.self.items c.loop.marks c.code_of-code.result inv.marked inv.long c.code_of-code.ensures.low c.push_reserved.ensures.items;
    }

pub returns-clause-tokens : goal.returns-clause-tokens
returns-clause-tokens c = let e : c.loop.counter ≡ c.args.tokens = omega arith in rw (← e) c.loop.invariant.drawn
