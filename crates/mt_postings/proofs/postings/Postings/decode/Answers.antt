use Rattle.std.proofs.Common.{Ok, Err, inl, inr, ap, sym, ◌∙◌}
use Rattle.mt_store_spec.specs.Codes.{bits}
use Rattle.mt_postings.proofs.Coding.{one_list, no_list_of, too_large_of, cut_of, padding_of, not_too_large, not_cut, not_padding}
use Rattle.mt_postings.proofs.postings.Postings.decode.Goals as goal

pub returns-in-Ok-from_slice-clause-code : goal.returns-in-Ok-from_slice-clause-code
returns-in-Ok-from_slice-clause-code c = λ p h l. inl (ap Ok (c.in-Ok-from_slice.ensures ∙ c.as_slice.ensures.value ∙ one_list c.args.bytes.now c.in-Ok.positions.items p c.in-Ok.ensures.ok.0 h (c.in-Ok.ensures.ok.1 ∙ sym l)))

pub returns-in-Ok-from_slice-clause-too_large : goal.returns-in-Ok-from_slice-clause-too_large
returns-in-Ok-from_slice-clause-too_large c = λ bit h. absurd (not_too_large c.args.count c.args.bytes.now c.in-Ok.positions.items bit c.in-Ok.ensures.ok.0 c.in-Ok.ensures.ok.1 h)

pub returns-in-Ok-from_slice-clause-cut : goal.returns-in-Ok-from_slice-clause-cut
returns-in-Ok-from_slice-clause-cut c = λ bit h. absurd (not_cut c.args.count c.args.bytes.now c.in-Ok.positions.items bit c.in-Ok.ensures.ok.0 c.in-Ok.ensures.ok.1 h)

pub returns-in-Ok-from_slice-clause-padding : goal.returns-in-Ok-from_slice-clause-padding
returns-in-Ok-from_slice-clause-padding c = λ bit h. absurd (not_padding c.args.count c.args.bytes.now c.in-Ok.positions.items bit c.in-Ok.ensures.ok.0 c.in-Ok.ensures.ok.1 h)

pub returns-clause-code : goal.returns-clause-code
returns-clause-code c = λ p h l. inr (ap Err (no_list_of c.args.count c.args.bytes.now p c.in-Err.refusal c.in-Err.ensures.err h l))

pub returns-clause-too_large : goal.returns-clause-too_large
returns-clause-too_large c = λ bit h. elim (too_large_of c.args.count (bits c.args.bytes.now) bit c.in-Err.refusal c.in-Err.ensures.err h) [ inl e ↦ inl (ap Err e) | inr e ↦ inr (ap Err e) ]

pub returns-clause-cut : goal.returns-clause-cut
returns-clause-cut c = λ bit h. elim (cut_of c.args.count (bits c.args.bytes.now) bit c.in-Err.refusal c.in-Err.ensures.err h) [ inl e ↦ inl (ap Err e) | inr e ↦ inr (ap Err e) ]

pub returns-clause-padding : goal.returns-clause-padding
returns-clause-padding c = λ bit h. elim (padding_of c.args.count (bits c.args.bytes.now) bit c.in-Err.refusal c.in-Err.ensures.err h) [ inl e ↦ inl (ap Err e) | inr e ↦ inr (ap Err e) ]
