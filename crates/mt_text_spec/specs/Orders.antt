-- The order of spans and rows, and its laws.
use Rattle.std.specs.Prelude.{◌≡◌, ℕ, List}
use Rattle.std.specs.declared.cmp.Ordering.{Ordering}
use Rattle.std.specs.declared.cmp.Ordering.TheVariants.{Less, Equal, Greater}
use Rattle.std.specs.Ordering.{nat_cmp, on, then_cmp, ordering_then, is_eq}
use Rattle.std.specs.Cmp.{IsTotalOrder, then_total, on_total, nat_cmp_total, unsigned_tied}
use Rattle.std.specs.Cmp.Lexicographic.{slice_cmp, nat_list_cmp_total, texts_ties, bytes_decides}
use Rattle.std.proofs.Common.{ap, sym, ◌∙◌, eqb-true}
use Rattle.mt_text_spec.specs.Texts.{Span, Row}

-- spans by the text's number, then by their begin, then by their end
abbrev pub span_cmp : Span → Span → Ordering
span_cmp = then_cmp (on (λ s. s.text) nat_cmp) (then_cmp (on (λ s. s.begin) nat_cmp) (on (λ s. s.end) nat_cmp))

-- rows by their span, then by the places of the labels, the first label first
abbrev pub row_cmp : Row → Row → Ordering
row_cmp = then_cmp (on (λ r. r.span) span_cmp) (on (λ r. r.labels) (slice_cmp nat_cmp))

-- ## Both orders are total

pub span_cmp_total : IsTotalOrder span_cmp
span_cmp_total = then_total (on_total (λ s. s.text) nat_cmp_total) (then_total (on_total (λ s. s.begin) nat_cmp_total) (on_total (λ s. s.end) nat_cmp_total))

pub row_cmp_total : IsTotalOrder row_cmp
row_cmp_total = then_total (on_total (λ r. r.span) span_cmp_total) (on_total (λ r. r.labels) nat_list_cmp_total)

-- ## What neither tells apart is the same

record BothEqual (first second : Ordering) : Type 0 where
  pub first_is : first ≡ Equal
  pub second_is : second ≡ Equal

both : (first second : Ordering) → ordering_then first second ≡ Equal → BothEqual first second
both Less second e = cc
both Equal second e = record { first_is = cc; second_is = e }
both Greater second e = cc

same_number : (m n : ℕ) → nat_cmp m n ≡ Equal → m ≡ n
same_number m n e = eqb-true m n (sym (unsigned_tied m n) ∙ ap is_eq e)

same_places : (ms ns : List ℕ) → slice_cmp nat_cmp ms ns ≡ Equal → ms ≡ ns
same_places ms ns e = (bytes_decides ms ns).0 (texts_ties ms ns ∙ ap is_eq e)

pub same_span : (s t : Span) → span_cmp s t ≡ Equal → s ≡ t
same_span s t e =
    let front = both (nat_cmp s.text t.text) _ e in
    let rest = both (nat_cmp s.begin t.begin) (nat_cmp s.end t.end) front.second_is in
    λ i. record { text = same_number s.text t.text front.first_is i; begin = same_number s.begin t.begin rest.first_is i; end = same_number s.end t.end rest.second_is i }

pub same_row : (r s : Row) → row_cmp r s ≡ Equal → r ≡ s
same_row r s e =
    let parts = both (span_cmp r.span s.span) (slice_cmp nat_cmp r.labels s.labels) e in
    λ i. record { span = same_span r.span s.span parts.first_is i; labels = same_places r.labels s.labels parts.second_is i }
