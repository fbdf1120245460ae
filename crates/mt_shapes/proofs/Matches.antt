-- What tables tell of matches, and what is added to them.
use Rattle.std.proofs.Common.{◌≡◌, ℕ, ◌+◌, ◌-◌, ◌/◌, ◌<◌, ◌≤◌, ◌⊎◌, min, List, length, refl, sym, ◌∙◌, ap, subst, inl, inr, arith}
use Rattle.std.proofs.lemmas.Bool.{cases_eq}
use Rattle.mt_text_spec.specs.Texts.{unset}
use Rattle.mt_match_spec.specs.Matches as m
use Rattle.mt_match_spec.specs.Labels.{no_labels, united}
use Rattle.mt_places.specs.Places.{In, HasJust}
use Rattle.mt_automaton.specs.Windows.{moved}
use Rattle.mt_automaton.specs.Parts.{Seen, Stands}
use Rattle.mt_automaton.specs.declared.view.Mark.{Mark}
use Rattle.mt_shapes.proofs.Bits.{in_room}
use Rattle.mt_shapes.proofs.Labels.{joined_labels, all_within, united_length, no_labels_within}
use Rattle.mt_shapes.specs.declared.shape.Shape.{Shape}
use Rattle.mt_shapes.specs.declared.table.Entry.{Entry}
use Rattle.mt_shapes.specs.Shapes.{IsOf, Suits}
use Rattle.mt_shapes.specs.Tables.{entry, Fine, AddsListed, IsMatchBelow, IsMatchOf, Adds, IsMarked, IsStretch, IsStretchBelow}

-- ## What was added

pub of_listed_by : (tokens : ℕ) (shape : Shape) (Q : ℕ → Type 0) (R : m.Relation) (old new : List Entry) → ((b e : ℕ) (l : List ℕ) → Q b → e ≡ b + shape.length → l ≡ moved b shape.labels → R b e l)
    → ((b e : ℕ) (l : List ℕ) → R b e l → Q b) → ((b e : ℕ) (l : List ℕ) → R b e l → e ≡ b + shape.length) → ((b e : ℕ) (l : List ℕ) → R b e l → l ≡ moved b shape.labels)
    → AddsListed tokens (λ other b. (other ≡ shape) × Q b) old new → Adds tokens R old new
of_listed_by tokens shape Q R old new to begins ends labels a = record {
  fine = a.fine;
  sound = λ b e l r. elim (a.sound (entry new r.at).shape b (record { at = r.at; within = r.below; shape_is = refl; is_in = r.is.is_in })) [
    | inl was ↦ inl (record {
      at = was.at;
      below = was.within;
      is = record { is_in = was.is_in; end_is = r.is.end_is ∙ ap (λ (s : Shape). b + s.length) (sym was.shape_is); labels_are = r.is.labels_are ∙ ap (λ (s : Shape). moved b s.labels) (sym was.shape_is) };
    })
    | inr p ↦ inr (to b e l p.1 (r.is.end_is ∙ ap (λ (s : Shape). b + s.length) p.0) (r.is.labels_are ∙ ap (λ (s : Shape). moved b s.labels) p.0))
  ];
  kept = λ b e l r.
      let k = a.kept (entry old r.at).shape b (record { at = r.at; within = r.below; shape_is = refl; is_in = r.is.is_in }) in
      record {
        at = k.at;
        below = k.within;
        is = record { is_in = k.is_in; end_is = r.is.end_is ∙ ap (λ (s : Shape). b + s.length) (sym k.shape_is); labels_are = r.is.labels_are ∙ ap (λ (s : Shape). moved b s.labels) (sym k.shape_is) };
      };
  complete = λ b e l p.
      let k = a.complete shape b (refl, begins b e l p) in
      record {
        at = k.at;
        below = k.within;
        is = record { is_in = k.is_in; end_is = ends b e l p ∙ ap (λ (s : Shape). b + s.length) (sym k.shape_is); labels_are = labels b e l p ∙ ap (λ (s : Shape). moved b s.labels) (sym k.shape_is) };
      };
}

pub of_listed : (tokens : ℕ) (shape : Shape) (begins : List ℕ) (old new : List Entry) → AddsListed tokens (λ other b. (other ≡ shape) × In begins b) old new → Adds tokens (IsOf shape begins) old new
of_listed tokens shape begins old new a =
    of_listed_by tokens shape (In begins) (IsOf shape begins) old new (λ b e l q end labels. record { is_in = q; end_is = end; labels_are = labels }) (λ b e l r. r.is_in) (λ b e l r. r.end_is) (λ b e l r. r.labels_are) a

pub adds_nothing : (tokens : ℕ) (R : m.Relation) (old : List Entry) → Fine tokens old → ((b e : ℕ) (l : List ℕ) → R b e l → ⊥) → Adds tokens R old old
adds_nothing tokens R old fine never = record { fine = fine; sound = λ b e l r. inl r; kept = λ b e l r. r; complete = λ b e l p. absurd (never b e l p) }

pub adds_renamed : (tokens : ℕ) (R S : m.Relation) (old new : List Entry) → ((b e : ℕ) (l : List ℕ) → R b e l → S b e l) → ((b e : ℕ) (l : List ℕ) → S b e l → R b e l) → Adds tokens R old new → Adds tokens S old new
adds_renamed tokens R S old new there back a = record {
  fine = a.fine;
  sound = λ b e l r. elim (a.sound b e l r) [ inl was ↦ inl was | inr p ↦ inr (there b e l p) ];
  kept = a.kept;
  complete = λ b e l q. a.complete b e l (back b e l q);
}

-- one after another, and what both are together
pub adds_then : (tokens : ℕ) (R S T : m.Relation) (a b c : List Entry) → ((x y : ℕ) (l : List ℕ) → R x y l → T x y l) → ((x y : ℕ) (l : List ℕ) → S x y l → T x y l)
    → ((x y : ℕ) (l : List ℕ) → T x y l → R x y l ⊎ S x y l) → Adds tokens R a b → Adds tokens S b c → Adds tokens T a c
adds_then tokens R S T a b c first second split n k = record {
  fine = k.fine;
  sound = λ x y l r. elim (k.sound x y l r) [
    | inl was ↦ elim (n.sound x y l was) [ inl old ↦ inl old | inr p ↦ inr (first x y l p) ]
    | inr q ↦ inr (second x y l q)
  ];
  kept = λ x y l r. k.kept x y l (n.kept x y l r);
  complete = λ x y l t. elim (split x y l t) [ inl p ↦ k.kept x y l (n.complete x y l p) | inr q ↦ k.complete x y l q ];
}

-- no begin, so nothing was added
pub none_of : (tokens : ℕ) (shape : Shape) (begins : List ℕ) (old : List Entry) → Fine tokens old → ((b : ℕ) → In begins b → ⊥) → Adds tokens (IsOf shape begins) old old
none_of tokens shape begins old fine empty = adds_nothing tokens (IsOf shape begins) old fine (λ b e l p. empty b p.is_in)

-- ## One entry after another

pub none_yet : (tokens : ℕ) (entries old : List Entry) → Fine tokens old → Adds tokens (IsMatchBelow entries 0) old old
none_yet tokens entries old fine = adds_nothing tokens (IsMatchBelow entries 0) old fine (λ b e l r. let low = r.below in omega (arith, low))

split_below : (entries : List Entry) (n : ℕ) (item : Entry) → item ≡ entry entries n → (b e : ℕ) (l : List ℕ) → IsMatchBelow entries (n + 1) b e l → IsMatchBelow entries n b e l ⊎ IsOf item.shape item.begins b e l
split_below entries n item is b e l r = elim (cases_eq r.at n) [
  | inl here ↦ inr (subst (λ (x : Entry). IsOf x.shape x.begins b e l) (ap (entry entries) here ∙ sym is) r.is)
  | inr other ↦ inl (record { at = r.at; below = let low = r.below in omega (arith, low, other); is = r.is })
]

more_below : (entries : List Entry) (n : ℕ) (b e : ℕ) (l : List ℕ) → IsMatchBelow entries n b e l → IsMatchBelow entries (n + 1) b e l
more_below entries n b e l r = record { at = r.at; below = let low = r.below in omega (arith, low); is = r.is }

item_below : (entries : List Entry) (n : ℕ) (item : Entry) → item ≡ entry entries n → (b e : ℕ) (l : List ℕ) → IsOf item.shape item.begins b e l → IsMatchBelow entries (n + 1) b e l
item_below entries n item is b e l r = record { at = n; below = omega arith; is = subst (λ (x : Entry). IsOf x.shape x.begins b e l) is r }

pub next_entry : (tokens n : ℕ) (entries old mid new : List Entry) (item : Entry) (begins : List ℕ) → item ≡ entry entries n → begins ≡ item.begins → Adds tokens (IsMatchBelow entries n) old mid → Adds tokens (IsOf item.shape begins) mid new
    → Adds tokens (IsMatchBelow entries (n + 1)) old new
next_entry tokens n entries old mid new item begins is copied a b =
    adds_then tokens (IsMatchBelow entries n) (IsOf item.shape item.begins) (IsMatchBelow entries (n + 1)) old mid new (more_below entries n) (item_below entries n item is) (split_below entries n item is) a
    (subst (λ s. Adds tokens (IsOf item.shape s) mid new) copied b)

pub all_entries : (tokens n : ℕ) (entries old new : List Entry) → n ≡ length entries → Adds tokens (IsMatchBelow entries n) old new → Adds tokens (IsMatchOf entries) old new
all_entries tokens n entries old new e a = subst (λ k. Adds tokens (IsMatchBelow entries k) old new) e a

pub item_suits : (tokens n : ℕ) (entries : List Entry) (item : Entry) → item ≡ entry entries n → n < length entries → Fine tokens entries → Suits tokens item.shape item.begins
item_suits tokens n entries item is low fine = subst (λ (x : Entry). Suits tokens x.shape x.begins) (sym is) (fine.suits n low)

-- ## Joined

pub joined_with : (First R S : m.Relation) (b e : ℕ) (l : List ℕ) → ((x y : ℕ) (k : List ℕ) → R x y k → S x y k) → m.Joined First R b e l → m.Joined First S b e l
joined_with First R S b e l to j = record { cut = j.cut; first_labels = j.first_labels; second_labels = j.second_labels; first = j.first; second = to j.cut e j.second_labels j.second; unite = j.unite }

pub joined_by : (Second R S : m.Relation) (b e : ℕ) (l : List ℕ) → ((x y : ℕ) (k : List ℕ) → R x y k → S x y k) → m.Joined R Second b e l → m.Joined S Second b e l
joined_by Second R S b e l to j = record { cut = j.cut; first_labels = j.first_labels; second_labels = j.second_labels; first = to b j.cut j.first_labels j.first; second = j.second; unite = j.unite }

pub none_second : (tokens : ℕ) (First : m.Relation) (entries old : List Entry) → Fine tokens old → Adds tokens (m.Joined First (IsMatchBelow entries 0)) old old
none_second tokens First entries old fine = adds_nothing tokens (m.Joined First (IsMatchBelow entries 0)) old fine (λ b e l j. let low = j.second.below in omega (arith, low))

pub none_first : (tokens : ℕ) (Second : m.Relation) (entries old : List Entry) → Fine tokens old → Adds tokens (m.Joined (IsMatchBelow entries 0) Second) old old
none_first tokens Second entries old fine = adds_nothing tokens (m.Joined (IsMatchBelow entries 0) Second) old fine (λ b e l j. let low = j.first.below in omega (arith, low))

split_second : (First R S T : m.Relation) → ((x y : ℕ) (k : List ℕ) → T x y k → R x y k ⊎ S x y k) → (b e : ℕ) (l : List ℕ) → m.Joined First T b e l → m.Joined First R b e l ⊎ m.Joined First S b e l
split_second First R S T split b e l j = elim (split j.cut e j.second_labels j.second) [
  | inl r ↦ inl (record { cut = j.cut; first_labels = j.first_labels; second_labels = j.second_labels; first = j.first; second = r; unite = j.unite })
  | inr s ↦ inr (record { cut = j.cut; first_labels = j.first_labels; second_labels = j.second_labels; first = j.first; second = s; unite = j.unite })
]

split_first : (Second R S T : m.Relation) → ((x y : ℕ) (k : List ℕ) → T x y k → R x y k ⊎ S x y k) → (b e : ℕ) (l : List ℕ) → m.Joined T Second b e l → m.Joined R Second b e l ⊎ m.Joined S Second b e l
split_first Second R S T split b e l j = elim (split b j.cut j.first_labels j.first) [
  | inl r ↦ inl (record { cut = j.cut; first_labels = j.first_labels; second_labels = j.second_labels; first = r; second = j.second; unite = j.unite })
  | inr s ↦ inr (record { cut = j.cut; first_labels = j.first_labels; second_labels = j.second_labels; first = s; second = j.second; unite = j.unite })
]

pub next_second : (tokens n : ℕ) (First : m.Relation) (entries old mid new : List Entry) (item : Entry) → item ≡ entry entries n → Adds tokens (m.Joined First (IsMatchBelow entries n)) old mid
    → Adds tokens (m.Joined First (IsOf item.shape item.begins)) mid new → Adds tokens (m.Joined First (IsMatchBelow entries (n + 1))) old new
next_second tokens n First entries old mid new item is a b =
    adds_then tokens (m.Joined First (IsMatchBelow entries n)) (m.Joined First (IsOf item.shape item.begins)) (m.Joined First (IsMatchBelow entries (n + 1))) old mid new
    (λ x y l. joined_with First (IsMatchBelow entries n) (IsMatchBelow entries (n + 1)) x y l (more_below entries n))
    (λ x y l. joined_with First (IsOf item.shape item.begins) (IsMatchBelow entries (n + 1)) x y l (item_below entries n item is))
    (split_second First (IsMatchBelow entries n) (IsOf item.shape item.begins) (IsMatchBelow entries (n + 1)) (split_below entries n item is)) a b

pub next_first : (tokens n : ℕ) (Second : m.Relation) (entries old mid new : List Entry) (item : Entry) → item ≡ entry entries n → Adds tokens (m.Joined (IsMatchBelow entries n) Second) old mid
    → Adds tokens (m.Joined (IsOf item.shape item.begins) Second) mid new → Adds tokens (m.Joined (IsMatchBelow entries (n + 1)) Second) old new
next_first tokens n Second entries old mid new item is a b =
    adds_then tokens (m.Joined (IsMatchBelow entries n) Second) (m.Joined (IsOf item.shape item.begins) Second) (m.Joined (IsMatchBelow entries (n + 1)) Second) old mid new
    (λ x y l. joined_by Second (IsMatchBelow entries n) (IsMatchBelow entries (n + 1)) x y l (more_below entries n))
    (λ x y l. joined_by Second (IsOf item.shape item.begins) (IsMatchBelow entries (n + 1)) x y l (item_below entries n item is))
    (split_first Second (IsMatchBelow entries n) (IsOf item.shape item.begins) (IsMatchBelow entries (n + 1)) (split_below entries n item is)) a b

-- ## Two entries

-- where a match of one shape begins behind which one of the other does
abbrev pub Meets : (one other : Shape) (firsts seconds begins : List ℕ) → Type 0
Meets one other firsts seconds begins = HasJust (λ b. In seconds (b + one.length) × In firsts b) begins

pub meets : (one : Shape) (firsts seconds copied moved kept : List ℕ) → copied ≡ seconds → length moved ≡ length copied → HasJust (λ b. In copied (b + one.length)) moved → length kept ≡ length moved
    → HasJust (λ b. In moved b × In firsts b) kept → HasJust (λ b. In seconds (b + one.length) × In firsts b) kept
meets one firsts seconds copied moved kept same wide down kept_wide keep = record {
  sound = λ b h. let s = keep.sound b h in (subst (λ t. In t (b + one.length)) same (down.sound b s.0), s.1);
  complete = λ b p lt. keep.complete b (down.complete b (subst (λ t. In t (b + one.length)) (sym same) p.0) (omega (arith, lt, kept_wide)), p.1) lt;
}

abbrev pub followed : (one other : Shape) → Shape
followed one other = record { length = one.length + other.length; labels = united one.labels (moved one.length other.labels) }

pub two_suit : (tokens : ℕ) (one other : Shape) (firsts seconds begins : List ℕ) → tokens < unset → Suits tokens one firsts → Suits tokens other seconds → length begins ≡ length seconds
    → Meets one other firsts seconds begins → (b : ℕ) → In begins b → Suits tokens (followed one other) begins
two_suit tokens one other firsts seconds begins few s t wide just b is =
    let meet = just.sound b is in
    let far : b + one.length + other.length ≤ tokens = t.inside (b + one.length) meet.0 in
    record {
      width = wide ∙ t.width;
      inside = λ x h. let far = t.inside (x + one.length) (just.sound x h).0 in omega (arith, far);
      nine = united_length one.labels (moved one.length other.labels) ∙ s.nine;
      labels = all_within one.length other.length one.labels other.labels (omega (arith, far, few)) (s.nine ∙ sym t.nine) s.labels t.labels;
    }

to_joined : (tokens : ℕ) (one other : Shape) (firsts seconds begins : List ℕ) → tokens < unset → Suits tokens one firsts → Suits tokens other seconds → Meets one other firsts seconds begins
    → (b e : ℕ) (l : List ℕ) → IsOf (followed one other) begins b e l → m.Joined (IsOf one firsts) (IsOf other seconds) b e l
to_joined tokens one other firsts seconds begins few s t just b e l r =
    let meet = just.sound b r.is_in in
    let far : b + one.length + other.length ≤ tokens = t.inside (b + one.length) meet.0 in
    record {
      cut = b + one.length;
      first_labels = moved b one.labels;
      second_labels = moved (b + one.length) other.labels;
      first = record { is_in = meet.1; end_is = refl; labels_are = refl };
      second = record { is_in = meet.0; end_is = r.end_is ∙ omega arith; labels_are = refl };
      unite = r.labels_are ∙ joined_labels b one.length other.length one.labels other.labels (omega (arith, far, few)) (s.nine ∙ sym t.nine) s.labels t.labels;
    }

from_joined : (tokens : ℕ) (one other : Shape) (firsts seconds begins : List ℕ) → tokens < unset → Suits tokens one firsts → Suits tokens other seconds → length begins ≡ length seconds
    → Meets one other firsts seconds begins → (b e : ℕ) (l : List ℕ) → m.Joined (IsOf one firsts) (IsOf other seconds) b e l → IsOf (followed one other) begins b e l
from_joined tokens one other firsts seconds begins few s t wide just b e l j =
    let cut : j.cut ≡ b + one.length = j.first.end_is in
    let there : In seconds (b + one.length) = subst (In seconds) cut j.second.is_in in
    let far : b + one.length + other.length ≤ tokens = t.inside (b + one.length) there in
    let lt = in_room firsts b j.first.is_in in
    let one_wide = s.width in
    let other_wide = t.width in
    record {
      is_in = just.complete b (there, j.first.is_in) (omega (arith, lt, wide, one_wide, other_wide));
      end_is = let end : e ≡ j.cut + other.length = j.second.end_is in omega (arith, end, cut);
      labels_are = j.unite ∙ ap (λ k. united k j.second_labels) j.first.labels_are ∙ ap (united (moved b one.labels)) (j.second.labels_are ∙ ap (λ k. moved k other.labels) cut)
          ∙ sym (joined_labels b one.length other.length one.labels other.labels (omega (arith, far, few)) (s.nine ∙ sym t.nine) s.labels t.labels);
    }

pub two_joined : (tokens : ℕ) (one other both : Shape) (firsts seconds begins : List ℕ) (old new : List Entry) → tokens < unset → Suits tokens one firsts → Suits tokens other seconds → length begins ≡ length seconds
    → Meets one other firsts seconds begins → both ≡ followed one other → Adds tokens (IsOf both begins) old new → Adds tokens (m.Joined (IsOf one firsts) (IsOf other seconds)) old new
two_joined tokens one other both firsts seconds begins old new few s t wide just is a =
    adds_renamed tokens (IsOf (followed one other) begins) (m.Joined (IsOf one firsts) (IsOf other seconds)) old new (to_joined tokens one other firsts seconds begins few s t just)
    (from_joined tokens one other firsts seconds begins few s t wide just) (subst (λ (x : Shape). Adds tokens (IsOf x begins) old new) is a)

pub two_apart : (tokens : ℕ) (one other : Shape) (firsts seconds begins : List ℕ) (old : List Entry) → tokens < unset → Suits tokens one firsts → Suits tokens other seconds → length begins ≡ length seconds
    → Meets one other firsts seconds begins → ((b : ℕ) → In begins b → ⊥) → Fine tokens old → Adds tokens (m.Joined (IsOf one firsts) (IsOf other seconds)) old old
two_apart tokens one other firsts seconds begins old few s t wide just empty fine =
    adds_nothing tokens (m.Joined (IsOf one firsts) (IsOf other seconds)) old fine (λ b e l j. empty b (from_joined tokens one other firsts seconds begins few s t wide just b e l j).is_in)

-- ## Stretches

pub stretch_suits : (tokens count : ℕ) (begins : List ℕ) → count ≤ tokens → length begins ≡ tokens / 64 + 1 → HasJust (λ b. b < tokens + 1 - count) begins → Suits tokens (record { length = count; labels = no_labels }) begins
stretch_suits tokens count begins low wide just = record {
  width = wide;
  inside = λ b h. let lt = just.sound b h in omega (arith, lt, low);
  nine = refl;
  labels = no_labels_within count;
}

pub are_stretches : (tokens count : ℕ) (shape : Shape) (begins : List ℕ) (old new : List Entry) → count ≤ tokens → length begins ≡ tokens / 64 + 1 → HasJust (λ b. b < tokens + 1 - count) begins → shape ≡ (record { length = count; labels = no_labels })
    → Adds tokens (IsOf shape begins) old new → Adds tokens (IsStretch tokens count) old new
are_stretches tokens count shape begins old new low wide just is a =
    adds_renamed tokens (IsOf (record { length = count; labels = no_labels }) begins) (IsStretch tokens count) old new
    (λ b e l r. record { end_is = r.end_is; inside = let lt = just.sound b r.is_in in let end = r.end_is in omega (arith, lt, low, end); labels_are = r.labels_are })
    (λ b e l r. let end = r.end_is in let far = r.inside in record { is_in = just.complete b (omega (arith, end, far, low)) (omega (arith, end, far, wide)); end_is = end; labels_are = r.labels_are })
    (subst (λ (x : Shape). Adds tokens (IsOf x begins) old new) is a)

pub no_stretch : (tokens least n : ℕ) (old : List Entry) → n ≤ least → Fine tokens old → Adds tokens (IsStretchBelow tokens least n) old old
no_stretch tokens least n old past fine = adds_nothing tokens (IsStretchBelow tokens least n) old fine (λ b e l r. let low = r.low in let high = r.high in omega (arith, low, high, past))

pub next_stretch : (tokens least n : ℕ) (old mid new : List Entry) → least ≤ n → Adds tokens (IsStretchBelow tokens least n) old mid → Adds tokens (IsStretch tokens n) mid new → Adds tokens (IsStretchBelow tokens least (n + 1)) old new
next_stretch tokens least n old mid new on a b =
    adds_then tokens (IsStretchBelow tokens least n) (IsStretch tokens n) (IsStretchBelow tokens least (n + 1)) old mid new
    (λ x y l r. record { count = r.count; low = r.low; high = let h = r.high in omega (arith, h); is = r.is })
    (λ x y l r. record { count = n; low = on; high = omega arith; is = r })
    (λ x y l r. elim (cases_eq r.count n) [
      | inl here ↦ inr (subst (λ k. IsStretch tokens k x y l) here r.is)
      | inr other ↦ inl (record { count = r.count; low = r.low; high = let h = r.high in omega (arith, h, other); is = r.is })
    ]) a b

-- none is longer than the text
pub all_stretches : (tokens least n most end : ℕ) (old new : List Entry) → end ≡ min most tokens + 1 → end ≤ n → (least < n → n ≤ end) → Adds tokens (IsStretchBelow tokens least n) old new
    → Adds tokens (IsStretchBelow tokens least (most + 1)) old new
all_stretches tokens least n most end old new is past within a =
    adds_renamed tokens (IsStretchBelow tokens least n) (IsStretchBelow tokens least (most + 1)) old new
    (λ x y l r. record {
      count = r.count;
      low = r.low;
      high = let h = r.high in let k = r.low in let some : least < n = omega (arith, h, k) in let w = within some in omega (arith, h, w, is);
      is = r.is;
    })
    (λ x y l r. record {
      count = r.count;
      low = r.low;
      high = let h = r.high in let e = r.is.end_is in let i = r.is.inside in omega (arith, h, e, i, is, past);
      is = r.is;
    }) a

-- ## Marks

pub are_marked : (v : Seen) (mark : Mark) (tokens : ℕ) (shape : Shape) (begins : List ℕ) (old new : List Entry) → ((b : ℕ) → Stands v mark b → b + shape.length ≤ tokens) → length begins ≡ tokens / 64 + 1
    → HasJust (Stands v mark) begins → Adds tokens (IsOf shape begins) old new → Adds tokens (IsMarked v mark shape) old new
are_marked v mark tokens shape begins old new inside wide just a =
    adds_renamed tokens (IsOf shape begins) (IsMarked v mark shape) old new (λ b e l r. record { stands = just.sound b r.is_in; end_is = r.end_is; labels_are = r.labels_are })
    (λ b e l r. record { is_in = let far = inside b r.stands in just.complete b r.stands (omega (arith, far, wide)); end_is = r.end_is; labels_are = r.labels_are }) a
