use Rattle.std.proofs.Common.{ℕ, ◌≡◌, ◌≤◌, ◌++◌, [], List, sym, ap, ◌∙◌, subst, arith, rules, append_assoc}
use Rattle.std.proofs.lemmas.List.{length-append, append-nil, nil_from_length}
use Rattle.mt_store_spec.specs.Positions.{codes}
use Rattle.mt_postings.specs.Following.{Follow}
use Rattle.mt_postings.specs.Kept.{IsEnd, AreEntries}
use Rattle.mt_postings.proofs.Runs.{follow_front, follow_run, follow_low, next_some, end_run, written_run, cut_joined}
use Rattle.mt_postings.proofs.coded.write.Goals as goal

pub write_run-requires-clause-follow : goal.write_run-requires-clause-follow
write_run-requires-clause-follow c =
    let least = c.loop-rest.end.least in
    let f = c.loop-rest.invariant.follow in
    let j = cut_joined c.run_len.result c.loop-rest.rest.now c.split_at.result.0.now c.split_at.result.1.now c.split_at.ensures.front c.split_at.ensures.back in
    follow_front least c.split_at.result.0.now c.split_at.result.1.now (subst (Follow least) (sym j) f) (follow_low least c.loop-rest.rest.now f)

pub note-requires : goal.note-requires
note-requires c =
    let n = c.split_at.ensures.front_len in
    let some = c.run_len.ensures.some in
    let s = next_some c.loop-rest.end.least c.split_at.result.0.now (omega arith) in
    subst (λ x. 1 ≤ x) (sym c.in_ok-write_run.ensures.least) s

pub loop-rest-preserved : goal.loop-rest-preserved
loop-rest-preserved c =
    let run = c.split_at.result.0.now in
    let later = c.split_at.result.1.now in
    let inv = c.loop-rest.invariant in
    let taken = inv.taken in
    let end = c.loop-rest.end in
    let now = c.write_run.new.end in
    let did = c.in_ok-write_run.ensures in
    let j = cut_joined c.run_len.result c.loop-rest.rest.now c.split_at.result.0.now c.split_at.result.1.now c.split_at.ensures.front c.split_at.ensures.back in
    let n = c.split_at.ensures.front_len in
    let some = c.run_len.ensures.some in
    let few = c.run_len.ensures.up_to in
    let sum = length-append taken run in
    let count = inv.count in
    let short = inv.short in
    let counted = did.count in
    let most = did.most in
    let f = subst (Follow end.least) (sym j) inv.follow in
    let w = ap (λ x. c.loop-rest.writer ++ x) (ap (codes end.least) j) ∙ inv.written in
    let join = λ (ps : List ℕ). append_assoc ps taken run in
    let here = λ (ps : List ℕ) (h : IsEnd ps c.args.end.now.count c.args.end.now.least c.args.end.now.bit). end_run (ps ++ taken) run end.count end.least end.bit now.count now.least now.bit (inv.ends ps h) did.count did.least did.bit in
    record {
      taken = taken ++ run;
      split = append_assoc taken run later ∙ ap (λ x. taken ++ x) j ∙ inv.split;
      follow = subst (λ x. Follow x later) (sym did.least) (follow_run end.least run later f);
      count = omega arith;
      short = omega arith;
      written = ap (λ x. c.write_run.new.writer ++ codes x later) did.least ∙ written_run c.loop-rest.writer c.write_run.new.writer (c.args.writer.now ++ codes c.args.end.now.least c.args.more.now) end.least run later did.written w;
      ends = λ ps h. subst (λ x. IsEnd x now.count now.least now.bit) (join ps) (here ps h);
      entries = λ ps before h a.
          let e = inv.ends ps h in
          let k = e.number_is in
          subst (λ x. AreEntries x (before ++ c.note.new.entries.items)) (join ps) (c.in_ok-note.ensures (ps ++ taken) run before (omega arith) (omega arith) (here ps h) (inv.entries ps before h a));
    }

pub returns-clause-entries : goal.returns-clause-entries
returns-clause-entries c = λ ps before h a.
    let none : c.loop-rest.rest.now ≡ [] = nil_from_length c.loop-rest.rest.now (search rules) in
    let all : c.loop-rest.invariant.taken ≡ c.args.more.now = sym (append-nil c.loop-rest.invariant.taken) ∙ ap (λ x. c.loop-rest.invariant.taken ++ x) (sym none) ∙ c.loop-rest.invariant.split in
    subst (λ x. AreEntries (ps ++ x) (before ++ c.loop-rest.entries.items)) all (c.loop-rest.invariant.entries ps before h a)
