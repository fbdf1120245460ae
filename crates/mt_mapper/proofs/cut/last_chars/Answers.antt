use Rattle.std.proofs.Common.{◌≡◌, ℕ, ◌-◌, ◌∙◌, List, ap, length, chars, drop, encode_utf8_all, rules}
use Rattle.std.proofs.lemmas.Str.{chars_from_encodes}
use Rattle.mt_mapper.proofs.Cuts.{back, back_boundary}
use Rattle.mt_mapper.proofs.cut.last_chars.Goals as goal

pub range_from-requires : goal.range_from-requires
range_from-requires c = λ _. back_boundary c.args.text.now _ c.saturating_sub.result c.utf8.text c.first_chars-others.utf8 c.first_chars-others.ensures.front

pub returns : goal.returns
returns c =
    let n : c.count.result ≡ length (chars c.args.text.now) = search (rules, chars_from_encodes) in
    c.range_from.ensures.value ∙ ap (λ (first : List ℕ). drop (length first) c.args.text.now) c.first_chars-others.ensures.front
    ∙ back c.args.text.now c.saturating_sub.result c.utf8.text
    ∙ ap (λ k. encode_utf8_all (drop k (chars c.args.text.now))) (c.saturating_sub.ensures ∙ ap (λ k. k - c.args.count) n)
