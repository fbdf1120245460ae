use Rattle.std.proofs.Common.{◌≡◌, ◌+◌, ◌++◌, map, sym, subst, ◌∙◌}
use Rattle.mt_store_spec.specs.Positions.{ArePositions}
use Rattle.mt_postings.proofs.Merging.{shifted_fits}
use Rattle.mt_postings.proofs.postings.Postings.append_shifted.Goals as goal

pub push_shifted-requires : goal.push_shifted-requires
push_shifted-requires c =
    let same : c.args.part.now ≡ c.as_slice.result.now = sym (c.as_slice.ensures.value ∙ c.in_ok-positions.ensures.all) in
    shifted_fits c.args.shift c.args.self.now c.as_slice.result.now (subst (λ x. ArePositions (c.args.self.now ++ map (λ p. p + c.args.shift) x)) same c.requires)
