-- Instances in texts and kinds.
use Rattle.std.proofs.Common.{◌≡◌, ℕ, suc, ◌+◌, ◌-◌, ◌*◌, ◌<◌, ◌≤◌, Bool, true, false, cond, List, [], ◌∷◌, ◌++◌, length, length-append, take, drop, get_or, sym, ◌∙◌, ap, ap₂, arith, ◌⊎◌, inl, inr, append-nil}
use Rattle.std.specs.List.{filter, flat_map}
use Rattle.std.proofs.Math.Nat.{suc-mul}
use Rattle.std.proofs.lemmas.Bool.{cases_lt, eq-eqb, ne_eqb}
use Rattle.std.proofs.lemmas.List.Elements.{filter-append}
use Rattle.std.proofs.lemmas.Nat.{mul-le}
use Rattle.std.proofs.lemmas.List.{length-map, take_more, get_or_append_left, get_or_push, get_or-take, get_or-drop}
use Rattle.mt_text_spec.specs.Texts.{StructSpan, Text}
use Rattle.mt_segment_spec.specs.Tables.{instances_of, is_of_kind}
use Rattle.mt_segment.specs.Building.{AreInstances}
use Rattle.mt_segment.specs.Lists.{groups}
use Rattle.mt_segment.proofs.Blocks.{group_at, group_more, length-groups}

-- ---- one instance more

module _ {X : Type 0} (p : X → Bool) (xs : List X) (i : ℕ) (x : X) (l : i < length xs) (is : x ≡ get_or xs i x) where
  next : filter p (take (i + 1) xs) ≡ filter p (take i xs) ++ cond (p x) (x ∷ []) []
  next = ap (filter p) (take_more xs i x l ∙ ap (λ (y : X). take i xs ++ y ∷ []) (sym is)) ∙ filter-append p (take i xs) (x ∷ [])

  pub kept_more : p x ≡ true → filter p (take (i + 1) xs) ≡ filter p (take i xs) ++ x ∷ []
  kept_more e = next ∙ ap (λ (b : Bool). filter p (take i xs) ++ cond b (x ∷ []) []) e

  pub passed_more : p x ≡ false → filter p (take (i + 1) xs) ≡ filter p (take i xs)
  passed_more e = next ∙ ap (λ (b : Bool). filter p (take i xs) ++ cond b (x ∷ []) []) e ∙ append-nil (filter p (take i xs))

-- a span of the kind is kept, and one of another kind is not
module _ (kind : ℕ) (spans read : List StructSpan) (e : read ≡ spans) (i : ℕ) (l : i < length read) (span : StructSpan) (is : span ≡ get_or read i span) where
  its : span ≡ get_or spans i span
  its = is ∙ ap (λ (xs : List StructSpan). get_or xs i span) e

  pub span_kept : (copy : StructSpan) → copy ≡ span → span.kind ≡ kind → filter (is_of_kind kind) (take i spans) ++ copy ∷ [] ≡ filter (is_of_kind kind) (take (i + 1) spans)
  span_kept copy same of_kind =
      ap (λ (x : StructSpan). filter (is_of_kind kind) (take i spans) ++ x ∷ []) same ∙ sym (kept_more (is_of_kind kind) spans i span (omega (arith, ap length e)) its (eq-eqb span.kind kind of_kind))

  pub span_passed : (span.kind ≡ kind → ⊥) → filter (is_of_kind kind) (take i spans) ≡ filter (is_of_kind kind) (take (i + 1) spans)
  span_passed other = sym (passed_more (is_of_kind kind) spans i span (omega (arith, ap length e)) its (ne_eqb span.kind kind other))

-- ---- one kind more

pub instances_more : (corpus : List Text) (lists new : List (List StructSpan)) (kind : ℕ) → AreInstances corpus lists kind → new ≡ lists ++ instances_of kind corpus → AreInstances corpus new (kind + 1)
instances_more corpus lists new kind h e =
    let size : length (instances_of kind corpus) ≡ length corpus = length-map corpus (λ (text : Text). filter (is_of_kind kind) text.structs) in
    let on : kind + 1 ≡ suc kind = omega arith in
    let all : groups (length corpus) (kind + 1) new ≡ groups (length corpus) kind lists ++ instances_of kind corpus ∷ [] =
    ap₂ (groups (length corpus)) on e ∙ group_more (length corpus) kind lists (instances_of kind corpus) h.count size in
    record {
      count = ap length e ∙ length-append lists (instances_of kind corpus) ∙ ap₂ ◌+◌ h.count size ∙ more kind (length corpus);
      at = λ k l. ap (λ (gs : List (List (List StructSpan))). get_or gs k []) all ∙ by k (cases_lt k kind) l;
    }
  where
    more : (n m : ℕ) → n * m + m ≡ (n + 1) * m
    more n m = let on : n + 1 ≡ suc n = omega arith in omega (arith, suc-mul n m, ap (λ (k : ℕ). k * m) on)

    by : (k : ℕ) → (k < kind) ⊎ (kind ≤ k) → k < kind + 1 → get_or (groups (length corpus) kind lists ++ instances_of kind corpus ∷ []) k [] ≡ instances_of k corpus
    by k (inl low) l = get_or_append_left (groups (length corpus) kind lists) (instances_of kind corpus ∷ []) [] k (omega (arith, length-groups (length corpus) kind lists)) ∙ h.at k low
    by k (inr high) l =
        let same : kind ≡ k = omega arith in
        get_or_push (groups (length corpus) kind lists) (instances_of kind corpus) [] k (length-groups (length corpus) kind lists ∙ same) ∙ ap (λ (n : ℕ). instances_of n corpus) same

-- ---- where they lie

-- the list of a kind and a text
pub list_of : (texts kinds kind text : ℕ) (lists : List (List StructSpan)) → kind < kinds → text < texts → get_or (get_or (groups texts kinds lists) kind []) text [] ≡ get_or lists (kind * texts + text) []
list_of texts kinds kind text lists l m = ap (λ (list : List (List StructSpan)). get_or list text []) (group_at texts kinds lists kind l) ∙ get_or-take texts (drop (kind * texts) lists) text [] m ∙ get_or-drop (kind * texts) lists text []

-- a kind's lists are there
pub kind_within : (texts kinds kind : ℕ) → kind < kinds → kind * texts + texts ≤ kinds * texts
kind_within texts kinds kind l = omega (arith, mul-le (suc kind) texts kinds texts (omega arith) (omega arith), suc-mul kind texts)

-- an item follows others
pub some_before : {X : Type 0} (before : List X) (last : X) → 0 < length (before ++ last ∷ [])
some_before before last = omega (arith, length-append before (last ∷ []))

module _ (texts kinds kind size : ℕ) (lists : List (List StructSpan)) (now : List (List (List StructSpan))) (same : size ≡ texts) (is : groups texts kinds lists ≡ now) (many : length lists ≡ kinds * texts) (l : kind < length now) where
  kind_low : kind < kinds
  kind_low = omega (arith, l, ap length is, length-groups texts kinds lists)

  pub kind_inside : kind * size + size ≤ length lists
  kind_inside = rw same (omega (arith, many, kind_within texts kinds kind kind_low))

  pub kind_items : flat_map (λ list. list) (take (kind * size + size - kind * size) (drop (kind * size) lists)) ≡ flat_map (λ list. list) (get_or now kind [])
  kind_items =
      let count : kind * size + size - kind * size ≡ size = omega arith in
      ap (λ (n : ℕ). flat_map (λ list. list) (take n (drop (kind * size) lists))) count
      ∙ ap (λ (n : ℕ). flat_map (λ list. list) (take n (drop (kind * n) lists))) same
      ∙ ap (flat_map (λ list. list)) (sym (group_at texts kinds lists kind kind_low) ∙ ap (λ (gs : List (List (List StructSpan))). get_or gs kind []) is)

  pub text_inside : (text : ℕ) → text < texts → kind * size + text < length lists
  text_inside text m = omega (arith, kind_inside, same)

  pub text_items : (text : ℕ) → text < texts → get_or lists (kind * size + text) [] ≡ get_or (get_or now kind []) text []
  text_items text m =
      ap (λ (n : ℕ). get_or lists (kind * n + text) []) same ∙ sym (list_of texts kinds kind text lists kind_low m) ∙ ap (λ (gs : List (List (List StructSpan))). get_or (get_or gs kind []) text []) is
