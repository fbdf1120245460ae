-- Lists that grow at their end.
use Rattle.std.proofs.Common.{◌≡◌, ℕ, zero, suc, ◌+◌, ◌-◌, ◌<◌, ◌≤◌, List, [], ◌∷◌, ◌++◌, length, get_or, replicate, refl, sym, ◌∙◌, ap, subst, arith, append_assoc}
use Rattle.std.proofs.lemmas.Grind.{common_steps}
use Rattle.std.proofs.lemmas.List.Elements.{All-push}
use Rattle.mt_text_spec.specs.Texts.{StructSpan, value_bytes_limit}
use Rattle.mt_file_spec.specs.VerticalLines.{first_columns}
use Rattle.mt_vertical.specs.Readers.{AreShort, HasLong, Kept, ended, gathered}

in_seam : (xs ys : List (List ℕ)) (x : List ℕ) → length xs < length (xs ++ x ∷ ys)
in_seam xs ys x = grind (arith, common_steps)

at_seam : (xs ys : List (List ℕ)) (x : List ℕ) → get_or (xs ++ x ∷ ys) (length xs) x ≡ x
at_seam xs ys x = grind (arith, common_steps)

-- one long value among others
any_at : (xs ys : List (List ℕ)) (x : List ℕ) → value_bytes_limit < length x → HasLong (xs ++ x ∷ ys)
any_at xs ys x l = (length xs, x, in_seam xs ys x, at_seam xs ys x, l)

-- the next column
pub column_step : (count i : ℕ) (values : List (List ℕ)) (column : List ℕ) (old new whole : List (List ℕ)) → i < count → values ++ first_columns (count - i) old ≡ whole →
    ((n : ℕ) → first_columns (n + 1) old ≡ column ∷ first_columns n new) → values ++ column ∷ first_columns (count - (i + 1)) new ≡ whole
column_step count i values column old new whole l e step =
    let more : (count - (i + 1)) + 1 ≡ count - i = omega arith in
    ap (λ cs. values ++ cs) (sym (step (count - (i + 1))) ∙ ap (λ n. first_columns n old) more) ∙ e

pub column_kept : (count i : ℕ) (values : List (List ℕ)) (column : List ℕ) (old new whole : List (List ℕ)) → i < count → values ++ first_columns (count - i) old ≡ whole →
    ((n : ℕ) → first_columns (n + 1) old ≡ column ∷ first_columns n new) → (values ++ column ∷ []) ++ first_columns (count - (i + 1)) new ≡ whole
column_kept count i values column old new whole l e step =
    append_assoc values (column ∷ []) (first_columns (count - (i + 1)) new) ∙ column_step count i values column old new whole l e step

pub column_long : (count i : ℕ) (values : List (List ℕ)) (column : List ℕ) (old new whole : List (List ℕ)) → i < count → values ++ first_columns (count - i) old ≡ whole →
    ((n : ℕ) → first_columns (n + 1) old ≡ column ∷ first_columns n new) → value_bytes_limit < length column → HasLong whole
column_long count i values column old new whole l e step long =
    rw (← column_step count i values column old new whole l e step) (any_at values (first_columns (count - (i + 1)) new) column long)

-- a copy more
pub replicate_push : {A : Type 0} → (n : ℕ) (x : A) → replicate n x ++ x ∷ [] ≡ replicate (n + 1) x
replicate_push zero x = refl
replicate_push (suc n) x = let more : suc n + 1 ≡ suc (n + 1) = omega arith in ap (λ xs. x ∷ xs) (replicate_push n x) ∙ ap (λ k. replicate k x) (sym more)

append_nil : {A : Type 0} → (xs : List A) → xs ++ [] ≡ xs
append_nil [] = refl
append_nil (x ∷ xs) = ap (λ ys. x ∷ ys) (append_nil xs)

-- one kind more
pub gathered_push : (kind place : ℕ) (ks : List Kept) (k : Kept) → gathered kind place (ks ++ k ∷ []) ≡ gathered kind place ks ++ (ended (kind + length ks) place k).done
gathered_push kind place [] k =
    let first : kind + 0 ≡ kind = omega arith in
    append_nil (ended kind place k).done ∙ ap (λ n. (ended n place k).done) (sym first)
gathered_push kind place (x ∷ ks) k =
    let next : kind + 1 + length ks ≡ kind + length (x ∷ ks) = omega arith in
    ap (λ rest. (ended kind place x).done ++ rest) (gathered_push (kind + 1) place ks k)
    ∙ sym (append_assoc (ended kind place x).done (gathered (kind + 1) place ks) (ended (kind + 1 + length ks) place k).done)
    ∙ ap (λ n. (ended kind place x).done ++ gathered (kind + 1) place ks ++ (ended n place k).done) next

-- a short value more
pub short_push : (values new : List (List ℕ)) (value column : List ℕ) → new ≡ values ++ value ∷ [] → value ≡ column → AreShort values → length column ≤ value_bytes_limit → AreShort new
short_push values new value column pushed same all short =
    let P : List ℕ → Type 0 = λ v. length v ≤ value_bytes_limit in
    let Q : List (List ℕ) → Type 0 = λ vs. AreShort vs in
    subst Q (sym pushed) (All-push P values value all (subst P (sym same) short))

pub kept_push : (count i : ℕ) (values new : List (List ℕ)) (value column : List ℕ) (old left whole : List (List ℕ)) → new ≡ values ++ value ∷ [] → value ≡ column → i < count →
    values ++ first_columns (count - i) old ≡ whole → ((n : ℕ) → first_columns (n + 1) old ≡ column ∷ first_columns n left) → new ++ first_columns (count - (i + 1)) left ≡ whole
kept_push count i values new value column old left whole pushed same l e step =
    ap (λ vs. vs ++ first_columns (count - (i + 1)) left) (pushed ∙ ap (λ v. values ++ v ∷ []) same) ∙ column_kept count i values column old left whole l e step

pub copy_push : {A : Type 0} → (n : ℕ) (old new : List A) (x y : A) → new ≡ old ++ y ∷ [] → old ≡ replicate n x → y ≡ x → new ≡ replicate (n + 1) x
copy_push n old new x y pushed e same = pushed ∙ ap (λ z. old ++ z ∷ []) same ∙ ap (λ xs. xs ++ x ∷ []) e ∙ replicate_push n x

-- ## A step over a list

pub moved : {A : Type 0} → (xs ys old all : List A) (x : A) → old ≡ x ∷ ys → xs ++ old ≡ all → (xs ++ x ∷ []) ++ ys ≡ all
moved xs ys old all x e is = append_assoc xs (x ∷ []) ys ∙ ap (λ r. xs ++ r) (sym e) ∙ is

snoc_len : {A : Type 0} → (xs : List A) (x : A) → length (xs ++ x ∷ []) ≡ length xs + 1
snoc_len xs x = grind (arith, common_steps)

pub counted : {A : Type 0} → (xs : List A) (x : A) (n : ℕ) → n ≡ length xs → n + 1 ≡ length (xs ++ x ∷ [])
counted xs x n e = omega (arith, e, snoc_len xs x)

pub gathered_more : (place kind : ℕ) (yielded : List Kept) (k : Kept) (all last new : List StructSpan) → new ≡ all ++ last → last ≡ (ended kind place k).done → kind ≡ length yielded →
    all ≡ gathered 0 place yielded → new ≡ gathered 0 place (yielded ++ k ∷ [])
gathered_more place kind yielded k all last new n l e a =
    let here : kind ≡ 0 + length yielded = omega (arith, e) in
    n ∙ ap (λ xs. xs ++ last) a ∙ ap (λ xs. gathered 0 place yielded ++ xs) (l ∙ ap (λ m. (ended m place k).done) here) ∙ sym (gathered_push 0 place yielded k)
