-- Tags: each is read exactly where it is spelled.
use Rattle.std.proofs.Common.{◌≡◌, ℕ, ◌<◌, Bool, true, false, ◌==◌, if◌then◌else◌, List, [], ◌∷◌, ◌++◌, length, take, drop, get_or, codes, refl, sym, ◌∙◌, ap, subst, arith, append_assoc, Option, None, Some}
use Rattle.std.specs.List.{AllPass, prefix_len, list_all}
use Rattle.std.proofs.lemmas.Bool.{and_parts, eqb-true}
use Rattle.std.proofs.lemmas.Grind.{common_steps}
use Rattle.std.proofs.lemmas.List.Elements.{All-from_get_or}
use Rattle.std.proofs.lemmas.List.Sums.{AllPass-from_list_all, list_all-from_AllPass}
use Rattle.memchr.specs.Find.{Nowhere, Passes, is_byte}
use Rattle.mt_text_spec.specs.Words.{is_identifier_start}
use Rattle.mt_file_spec.specs.Tags.{is_space, AreSpaces, differs, IsTag, is_tag_name_byte, IsTagName, TagAttr, Tag, OpeningTag, EmptyTag, ClosingTag, SpellsBegin, SpellsEnd, Spells}
use Rattle.mt_vertical.specs.TagReading.{◌>>=◌, past, starts, behind, identifier_at, tag_name_at, attr_at, ReadsAttrs, ends, tail_at}
use Rattle.mt_vertical.specs.TagForms.{ReadsBegin, ReadsEnd, begin_form, tag_of, IsBegin, IsEnd, BehindTag, IsFound}
use Rattle.mt_vertical.specs.declared.tags.Form.{Form}
use Rattle.mt_vertical.proofs.Steps.{then_some, if_some, same, none_some, some_once, all_head, front_of, take_front, left_of, parts, front_passes, some_pass}
use Rattle.mt_vertical.proofs.AttrForms.{behind_gives, behind_back, starts_of, first_taken, attrs_once, attrs_give, attrs_back}

-- ## Names

start_is_in : (b : ℕ) → is_identifier_start b ≡ true → is_tag_name_byte b ≡ true
start_is_in b e = grind (arith, common_steps)

starts_in : (bytes : List ℕ) → starts is_identifier_start bytes ≡ true → starts is_tag_name_byte bytes ≡ true
starts_in [] e = cc
starts_in (b ∷ bytes) e = start_is_in b e

pub name_gives : (bytes : List ℕ) (found : List ℕ × List ℕ) → tag_name_at bytes ≡ Some found → (bytes ≡ found.0 ++ found.1) × IsTagName found.0
unfolding tag_name_at
name_gives bytes found e =
    let n : ℕ = prefix_len is_tag_name_byte bytes in
    if_some (starts is_identifier_start bytes) (Some (take n bytes, drop n bytes)) found e (λ t r.
    let is : (take n bytes, drop n bytes) ≡ found = same _ _ r in
    let some : 0 < length (take n bytes) = some_pass is_tag_name_byte bytes (starts_in bytes t) in
    rw (← is) (
      parts is_tag_name_byte bytes,
      record {
        some = some;
        first = first_taken is_tag_name_byte is_identifier_start bytes t some;
        each = front_passes is_tag_name_byte bytes;
      },
    ))

drop_front : (xs ys : List ℕ) → drop (length xs) (xs ++ ys) ≡ ys
drop_front xs ys = grind (arith, common_steps)

pub name_back : (name rest : List ℕ) → IsTagName name → starts is_tag_name_byte rest ≡ false → tag_name_at (name ++ rest) ≡ Some (name, rest)
unfolding tag_name_at
name_back name rest is stop =
    rw (front_of is_tag_name_byte name rest is.each stop, starts_of is_identifier_start name rest is.some is.first, take_front name rest, drop_front name rest) refl

-- ## Ends

-- what ends a tag
abbrev pub last : Bool → List ℕ
last false = codes ">"
last true = codes "/>"

-- how a tag ends
pub record IsTail (bytes : List ℕ) (empty : Bool) : Type 0 where
  pub inner : List ℕ
  pub behind : List ℕ
  pub are : bytes ≡ inner ++ (last empty ++ behind)
  pub spaces : AreSpaces inner
  pub spaces_behind : AreSpaces behind

ends_gives : (bytes : List ℕ) → ends bytes ≡ true → (rest : List ℕ) × (bytes ≡ 62 ∷ rest) × AreSpaces rest
unfolding ends
ends_gives [] e = cc
ends_gives (b ∷ bytes) e =
    let both = and_parts (b == 62) (list_all is_space bytes) e in
    (bytes, ap (λ c. c ∷ bytes) (eqb-true b 62 both.0), AllPass-from_list_all is_space bytes both.1)

ends_back : (rest : List ℕ) → AreSpaces rest → ends (62 ∷ rest) ≡ true
unfolding ends
ends_back rest s = list_all-from_AllPass is_space rest s

slash_no_end : (rest : List ℕ) → ends (47 ∷ rest) ≡ false
unfolding ends
slash_no_end rest = refl

cases_if : {A P : Type 0} → (b : Bool) (x y z : A) → (if b then x else y) ≡ z → (b ≡ true → x ≡ z → P) → (b ≡ false → y ≡ z → P) → P
cases_if true x y z e k l = k refl e
cases_if false x y z e k l = l refl e

pub tail_gives : (bytes : List ℕ) (empty : Bool) → tail_at bytes ≡ Some empty → IsTail bytes empty
unfolding tail_at
tail_gives bytes empty e =
    let rest : List ℕ = past is_space bytes in
    let front : List ℕ = take (prefix_len is_space bytes) bytes in
    let closes : List ℕ → Option Bool = λ rest. if ends rest then Some true else None in
    cases_if (ends rest) (Some false) (behind 47 rest >>= closes) (Some empty) e
    (λ t r. let is : false ≡ empty = same false empty r in
    let g = ends_gives rest t in
    rw (← is) (record { inner = front; behind = g.0; are = parts is_space bytes ∙ ap (λ s. front ++ s) g.1; spaces = front_passes is_space bytes; spaces_behind = g.2 }))
    (λ t r. then_some (behind 47 rest) closes empty r (λ more b r2. if_some (ends more) (Some true) empty r2 (λ u r3.
    let is : true ≡ empty = same true empty r3 in
    let g = ends_gives more u in
    rw (← is) (record {
      inner = front;
      behind = g.0;
      are = parts is_space bytes ∙ ap (λ s. front ++ s) (behind_gives 47 rest more b ∙ ap (λ s. 47 ∷ s) g.1);
      spaces = front_passes is_space bytes;
      spaces_behind = g.2;
    }))))

pub tail_back : (inner rest : List ℕ) (empty : Bool) → AreSpaces inner → AreSpaces rest → tail_at (inner ++ (last empty ++ rest)) ≡ Some empty
unfolding tail_at
tail_back inner rest false s t = rw (left_of is_space inner (62 ∷ rest) s refl, ends_back rest t) refl
tail_back inner rest true s t = rw (left_of is_space inner (47 ∷ 62 ∷ rest) s refl, slash_no_end (62 ∷ rest), behind_back 47 (62 ∷ rest), ends_back rest t) refl

-- no attribute stands where a tag ends
no_name : (empty : Bool) (rest : List ℕ) → identifier_at (last empty ++ rest) ≡ None
unfolding identifier_at
no_name false rest = refl
no_name true rest = refl

stops_spaces : (empty : Bool) (rest : List ℕ) → starts is_space (last empty ++ rest) ≡ false
stops_spaces false rest = refl
stops_spaces true rest = refl

cases_none : {A : Type 0} → (b : Bool) (o : Option A) → o ≡ None → (if b then o else None) ≡ None
cases_none true o e = e
cases_none false o e = refl

no_attr : (inner rest : List ℕ) (empty : Bool) → AreSpaces inner → attr_at (inner ++ (last empty ++ rest)) ≡ None
unfolding attr_at
no_attr inner rest empty s = cases_none (starts is_space (inner ++ (last empty ++ rest))) _
    (rw (left_of is_space inner (last empty ++ rest) s (stops_spaces empty rest), no_name empty rest) refl)

-- ## Whole tags

joined : (name spelling inner close behind : List ℕ) → name ++ (spelling ++ (inner ++ (close ++ behind))) ≡ name ++ spelling ++ inner ++ close ++ behind
joined name spelling inner close behind = simp append_assoc refl

pub begin_gives : (bytes name region : List ℕ) (attrs : List TagAttr) (empty : Bool) → ReadsBegin bytes name region attrs empty → SpellsBegin (last empty) (60 ∷ bytes) name attrs
begin_gives bytes name region attrs empty r =
    let n = name_gives bytes (name, region) r.named in
    let a = attrs_give region attrs r.tail r.read in
    let t = tail_gives r.tail empty r.ended in
    record {
      spelling = a.front;
      inner = t.inner;
      behind = t.behind;
      are = ap (λ s. 60 ∷ s) (n.0 ∙ ap (λ s. name ++ s) (a.are ∙ ap (λ s. a.front ++ s) t.are) ∙ joined name a.front t.inner (last empty) t.behind);
      named = n.1;
      attributes = a.spelled;
      spaces = t.spaces;
      spaces_behind = t.spaces_behind;
    }

space_no_name : (b : ℕ) → is_space b ≡ true → is_tag_name_byte b ≡ false
space_no_name b e = let is : b ≡ 32 = eqb-true b 32 e in rw is refl

spaces_no_name : (bytes : List ℕ) → starts is_space bytes ≡ true → starts is_tag_name_byte bytes ≡ false
spaces_no_name [] e = refl
spaces_no_name (b ∷ bytes) e = space_no_name b e

starts_attr : (bytes : List ℕ) (attr : TagAttr) (rest : List ℕ) → attr_at bytes ≡ Some (attr, rest) → starts is_space bytes ≡ true
unfolding attr_at
starts_attr bytes attr rest e = if_some (starts is_space bytes) _ (attr, rest) e (λ t r. t)

ends_name : (inner rest : List ℕ) (empty : Bool) → AreSpaces inner → starts is_tag_name_byte (inner ++ (last empty ++ rest)) ≡ false
ends_name [] rest false s = refl
ends_name [] rest true s = refl
ends_name (b ∷ inner) rest empty s = space_no_name b (all_head (λ b. is_space b ≡ true) b inner s)

stops_name : (bytes : List ℕ) (attrs : List TagAttr) (inner rest : List ℕ) (empty : Bool) → AreSpaces inner → ReadsAttrs bytes attrs (inner ++ (last empty ++ rest)) →
    starts is_tag_name_byte bytes ≡ false
stops_name bytes [] inner rest empty s r = rw r.1 (ends_name inner rest empty s)
stops_name bytes (attr ∷ attrs) inner rest empty s r = spaces_no_name bytes (starts_attr bytes attr r.0 r.1)

pub rest_same : (a b : ℕ) (xs ys : List ℕ) → a ∷ xs ≡ b ∷ ys → xs ≡ ys
rest_same a b xs ys e = cc

head_same : (a b : ℕ) (xs ys : List ℕ) → a ∷ xs ≡ b ∷ ys → a ≡ b
head_same a b xs ys e = cc

pub begin_back : (bytes name : List ℕ) (attrs : List TagAttr) (empty : Bool) → SpellsBegin (last empty) (60 ∷ bytes) name attrs → (region : List ℕ) × ReadsBegin bytes name region attrs empty
begin_back bytes name attrs empty s =
    let tail : List ℕ = s.inner ++ (last empty ++ s.behind) in
    let region : List ℕ = s.spelling ++ tail in
    let are : bytes ≡ name ++ region = rest_same 60 60 bytes (name ++ s.spelling ++ s.inner ++ last empty ++ s.behind) s.are ∙ sym (joined name s.spelling s.inner (last empty) s.behind) in
    let read : ReadsAttrs region attrs tail = attrs_back s.spelling attrs tail s.attributes (no_attr s.inner s.behind empty s.spaces) in (
      region,
      record {
        named = ap tag_name_at are ∙ name_back name region s.named (stops_name region attrs s.inner s.behind empty s.spaces read);
        tail = tail;
        read = read;
        ended = tail_back s.inner s.behind empty s.spaces s.spaces_behind;
      },
    )

joined_end : (name inner rest : List ℕ) → name ++ (inner ++ 62 ∷ rest) ≡ name ++ inner ++ 62 ∷ rest
joined_end name inner rest = simp append_assoc refl

pub end_gives : (bytes name : List ℕ) → ReadsEnd bytes name → SpellsEnd (60 ∷ 47 ∷ bytes) name
end_gives bytes name r =
    let n = name_gives bytes (name, r.tail) r.named in
    let t = tail_gives r.tail false r.ended in
    record {
      inner = t.inner;
      behind = t.behind;
      are = ap (λ s. 60 ∷ 47 ∷ s) (n.0 ∙ ap (λ s. name ++ s) t.are ∙ joined_end name t.inner t.behind);
      named = n.1;
      spaces = t.spaces;
      spaces_behind = t.spaces_behind;
    }

pub end_back : (bytes name : List ℕ) → SpellsEnd (60 ∷ 47 ∷ bytes) name → ReadsEnd bytes name
end_back bytes name s =
    let tail : List ℕ = s.inner ++ 62 ∷ s.behind in
    let are : bytes ≡ name ++ tail =
    rest_same 47 47 bytes (name ++ s.inner ++ 62 ∷ s.behind) (rest_same 60 60 (47 ∷ bytes) (47 ∷ (name ++ s.inner ++ 62 ∷ s.behind)) s.are) ∙ sym (joined_end name s.inner s.behind) in
    record {
      tail = tail;
      named = ap tag_name_at are ∙ name_back name tail s.named (ends_name s.inner s.behind false s.spaces);
      ended = tail_back s.inner s.behind false s.spaces s.spaces_behind;
    }

-- ## What stands behind `<`

begin_spells : (bytes name region : List ℕ) (attrs : List TagAttr) (empty : Bool) → ReadsBegin bytes name region attrs empty → BehindTag bytes (begin_form empty) name region
begin_spells bytes name region attrs false r = record { attrs = attrs; inside = (r.tail, r.read); spelled = begin_gives bytes name region attrs false r }
begin_spells bytes name region attrs true r = record { attrs = attrs; inside = (r.tail, r.read); spelled = begin_gives bytes name region attrs true r }

pub begin_found : (bytes name region : List ℕ) (f : Form) → IsBegin bytes f name region → BehindTag bytes f name region
begin_found bytes name region f i = rw i.formed (begin_spells bytes name region i.attrs i.empty i.read)

pub end_found : (bytes rest name region : List ℕ) (f : Form) → behind 47 bytes ≡ Some rest → IsEnd rest f name → BehindTag bytes f name region
end_found bytes rest name region f b i = rw (i.formed, behind_gives 47 bytes rest b) (record { attrs = []; inside = tt; spelled = end_gives rest name i.read })

no_slash : (name rest : List ℕ) (b : ℕ) (bytes : List ℕ) → IsTagName name → b ∷ bytes ≡ name ++ rest → b ≡ 47 → ⊥
no_slash [] rest b bytes n e f = let some : 0 < 0 = n.some in absurd (omega arith)
no_slash (x ∷ name) rest b bytes n e f =
    let first : is_identifier_start x ≡ true = n.first in
    let is : x ≡ 47 = sym (head_same b x bytes (name ++ rest) e) ∙ f in
    let bad : is_identifier_start 47 ≡ true = sym (ap is_identifier_start is) ∙ first in cc

pub begin_no_slash : (bytes rest name : List ℕ) (attrs : List TagAttr) (close : List ℕ) → behind 47 bytes ≡ Some rest → SpellsBegin close (60 ∷ bytes) name attrs → ⊥
begin_no_slash bytes rest name attrs close b s =
    let are : bytes ≡ name ++ (s.spelling ++ (s.inner ++ (close ++ s.behind))) =
    rest_same 60 60 bytes (name ++ s.spelling ++ s.inner ++ close ++ s.behind) s.are ∙ sym (joined name s.spelling s.inner close s.behind) in
    no_slash name (s.spelling ++ (s.inner ++ (close ++ s.behind))) 47 rest s.named (sym (behind_gives 47 bytes rest b) ∙ are) refl

-- behind `</` no other tag is
pub no_end : (bytes rest : List ℕ) → behind 47 bytes ≡ Some rest → ((name : List ℕ) → ¬ ReadsEnd rest name) → (tag : Tag) → ¬ Spells (60 ∷ bytes) tag
no_end bytes rest b none (OpeningTag name attrs) s = begin_no_slash bytes rest name attrs (codes ">") b s
no_end bytes rest b none (EmptyTag name attrs) s = begin_no_slash bytes rest name attrs (codes "/>") b s
no_end bytes rest b none (ClosingTag name) s = none name (end_back rest name (let P : List ℕ → Type 0 = λ r. SpellsEnd (60 ∷ r) name in subst P (behind_gives 47 bytes rest b) s))

end_has_slash : (bytes name : List ℕ) → behind 47 bytes ≡ None → SpellsEnd (60 ∷ bytes) name → ⊥
end_has_slash bytes name none s =
    let are : bytes ≡ 47 ∷ (name ++ s.inner ++ 62 ∷ s.behind) = rest_same 60 60 bytes (47 ∷ (name ++ s.inner ++ 62 ∷ s.behind)) s.are in
    none_some (behind 47 bytes) (name ++ s.inner ++ 62 ∷ s.behind) none (ap (λ b. behind 47 b) are ∙ behind_back 47 (name ++ s.inner ++ 62 ∷ s.behind))

pub no_begin : (bytes : List ℕ) → behind 47 bytes ≡ None → ((name region : List ℕ) (attrs : List TagAttr) (empty : Bool) → ¬ ReadsBegin bytes name region attrs empty) →
    (tag : Tag) → ¬ Spells (60 ∷ bytes) tag
no_begin bytes b none (OpeningTag name attrs) s = let r = begin_back bytes name attrs false s in none name r.0 attrs false r.1
no_begin bytes b none (EmptyTag name attrs) s = let r = begin_back bytes name attrs true s in none name r.0 attrs true r.1
no_begin bytes b none (ClosingTag name) s = end_has_slash bytes name b s

-- without an end behind the attributes there is no tag
pub no_tail : (bytes name region tail : List ℕ) (attrs : List TagAttr) → tag_name_at bytes ≡ Some (name, region) → ReadsAttrs region attrs tail → tail_at tail ≡ None →
    (other_name other_region : List ℕ) (others : List TagAttr) (empty : Bool) → ¬ ReadsBegin bytes other_name other_region others empty
no_tail bytes name region tail attrs n a t other_name other_region others empty r =
    let both : (name, region) ≡ (other_name, other_region) = some_once (tag_name_at bytes) (name, region) (other_name, other_region) n r.named in
    let same_region : region ≡ other_region = ap (λ p. p.1) both in
    let once = attrs_once other_region attrs others tail r.tail (let P : List ℕ → Type 0 = λ b. ReadsAttrs b attrs tail in subst P same_region a) r.read in
    none_some (tail_at tail) empty t (ap tail_at once.1 ∙ r.ended)

-- ## The line

pub no_bracket : (line : List ℕ) → behind 60 line ≡ None → (tag : Tag) → ¬ IsTag line tag
no_bracket line none (OpeningTag name attrs) t = none_some (behind 60 line) (name ++ t.spelled.spelling ++ t.spelled.inner ++ codes ">" ++ t.spelled.behind) none
    (ap (λ b. behind 60 b) t.spelled.are ∙ behind_back 60 (name ++ t.spelled.spelling ++ t.spelled.inner ++ codes ">" ++ t.spelled.behind))
no_bracket line none (EmptyTag name attrs) t = none_some (behind 60 line) (name ++ t.spelled.spelling ++ t.spelled.inner ++ codes "/>" ++ t.spelled.behind) none
    (ap (λ b. behind 60 b) t.spelled.are ∙ behind_back 60 (name ++ t.spelled.spelling ++ t.spelled.inner ++ codes "/>" ++ t.spelled.behind))
no_bracket line none (ClosingTag name) t = none_some (behind 60 line) (47 ∷ (name ++ t.spelled.inner ++ 62 ∷ t.spelled.behind)) none
    (ap (λ b. behind 60 b) t.spelled.are ∙ behind_back 60 (47 ∷ (name ++ t.spelled.inner ++ 62 ∷ t.spelled.behind)))

differs_from : (b : ℕ) → ¬ ((b == 9) ≡ true) → differs 9 b ≡ true
differs_from b n = grind (arith, n)

free_of_tabs : (line : List ℕ) → Nowhere (Passes (is_byte 9) line) 0 (length line) → AllPass (differs 9) line
free_of_tabs line none = All-from_get_or (λ b. differs 9 b ≡ true) line 0 (λ k l. differs_from (get_or line k 0) (λ e. none k (omega arith) l e))

pub no_tab : (line seen : List ℕ) → seen ≡ line → Nowhere (Passes (is_byte 9) seen) 0 (length seen) → AllPass (differs 9) line
no_tab line seen s none = subst (AllPass (differs 9)) s (free_of_tabs seen none)

a_tab : (line : List ℕ) (k : ℕ) → k < length line → Passes (is_byte 9) line k → AllPass (differs 9) line → ⊥
a_tab line k l e all = let h : differs 9 (get_or line k 0) ≡ true = all k 0 l in grind (arith, h, e)

pub found_line : (line bytes name region : List ℕ) (f : Form) → behind 60 line ≡ Some bytes → AllPass (differs 9) line → BehindTag bytes f name region → IsFound line f name region
found_line line bytes name region f b t h = record {
  attrs = h.attrs;
  inside = h.inside;
  spelled = record { spelled = let P : List ℕ → Type 0 = λ l. Spells l (tag_of f name h.attrs) in subst P (sym (behind_gives 60 line bytes b)) h.spelled; untabbed = t };
}

pub no_line : (line bytes : List ℕ) → behind 60 line ≡ Some bytes → ((tag : Tag) → ¬ Spells (60 ∷ bytes) tag) → (tag : Tag) → ¬ IsTag line tag
no_line line bytes b none tag t = none tag (let P : List ℕ → Type 0 = λ l. Spells l tag in subst P (behind_gives 60 line bytes b) t.spelled)

pub tabbed_line : (line : List ℕ) (k : ℕ) → k < length line → Passes (is_byte 9) line k → (tag : Tag) → ¬ IsTag line tag
tabbed_line line k l e tag t = a_tab line k l e t.untabbed
