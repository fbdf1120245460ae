-- The lines of a relation, and those of the whole sketch.
use Rattle.std.proofs.Common.{◌≡◌, ℕ, ◌*◌, ◌/◌, ◌<◌, ◌≤◌, Bool, true, false, Result, Ok, Err, IfOk, List, [], ◌∷◌, ◌++◌, length, map, take, codes, get_or, append-nil, append_assoc, refl, sym, ◌∙◌, ap, ap₂, subst, arith}
use Rattle.std.specs.List.{All, Contains, flat_map}
use Rattle.std.specs.Fmt.{decimal}
use Rattle.std.proofs.lemmas.List.{length-map, take_all}
use Rattle.mt_text_spec.specs.Lines.{closed}
use Rattle.mt_text_spec.specs.Registries.{Registry}
use Rattle.mt_text_spec.specs.Texts.{Text}
use Rattle.mt_text_spec.specs.Queries.{Grammar}
use Rattle.mt_match_spec.specs.Values.{Images}
use Rattle.mt_match_laws.proofs.Members.{Member, from_member}
use Rattle.mt_sketch_spec.specs.Score.{IsScore, sixteenths_text}
use Rattle.mt_counts.specs.Counted.{Counted}
use Rattle.mt_counts.specs.declared.listing.Head.{Head}
use Rattle.mt_triples.specs.CountsOf.{AreCountsOf}
use Rattle.mt_word_sketch_spec.specs.Ranks.{Ranked, number_line}
use Rattle.mt_word_sketch_spec.specs.Order.{Weighed}
use Rattle.mt_word_sketch_spec.specs.Frequencies.{Frequencies}
use Rattle.mt_word_sketch_spec.specs.Sketches.{heading_line, IsCollocateLine, LinesBy, RelationLines, BinaryLines}
use Rattle.mt_sketch.specs.Told.{frequencies_of, heading_of, heading_text, IsHeadOf, AreHeadings, IsCandidate, AreShown, IsScored, IsLineOf, AppendsLines, AppendsEach, IsSketchReply}
use Rattle.mt_sketch.proofs.Distinct.{at_index}
use Rattle.mt_sketch.proofs.Writing.{AppendsBlocks, zip_mapped, zip_so}

pub if_ok_two : {T E : Type 0} {P Q S : T → Type 0} (r : Result T E) → ((x : T) → P x → Q x → S x) → IfOk r P → IfOk r Q → IfOk r S
if_ok_two (Ok x) f h k = f x h k
if_ok_two (Err e) f h k = h

-- ---- words that are shown

is_scored : (fs : Frequencies) (name lemma : List ℕ) (least : ℕ) (w : Weighed) → IsCandidate fs name lemma least w → IsScored w
is_scored fs name lemma least w h =
    let part : w.part ≡ 2 * fs.both name lemma w.word = ap (λ (r : Ranked). r.part) h.ranked in
    let some = h.is.some in
    record { some = omega (arith, part, some); within = h.within; small = h.small }

pub all_scored : (fs : Frequencies) (name lemma : List ℕ) (least max : ℕ) (words : List Weighed) → AreShown fs name lemma least max words → All IsScored words
all_scored fs name lemma least max words h = λ k d l. is_scored fs name lemma least (get_or words k d) (h.only (get_or words k d) (from_member words (get_or words k d) (at_index words k d l)))

halved : (n both : ℕ) → n ≡ 2 * both → n / 2 ≡ both
halved n both e = omega (arith, e)

collocate_line : (fs : Frequencies) (name lemma : List ℕ) (least : ℕ) (w : Weighed) (line : List ℕ) → IsCandidate fs name lemma least w → IsLineOf w line → IsCollocateLine fs name lemma w.word line
collocate_line fs name lemma least w line h k =
    let part : w.part ≡ 2 * fs.both name lemma w.word = ap (λ (r : Ranked). r.part) h.ranked in
    record {
      score = k.score;
      scored = subst (λ (r : Ranked). IsScore r.part r.whole k.score) h.ranked k.scored;
      says = k.says ∙ ap (λ (n : ℕ). 9 ∷ w.word ++ 9 ∷ decimal n ++ 9 ∷ sixteenths_text k.score) (halved w.part (fs.both name lemma w.word) part);
    }

-- ---- the lines of a relation

behind : (o t last : List ℕ) → (o ++ t) ++ (9 ∷ last ++ 10 ∷ []) ≡ o ++ closed (t ++ 9 ∷ last)
behind o t last = simp append_assoc

head_line : (fs : Frequencies) (lemma : List ℕ) (head : Head) (last : List ℕ) → IsHeadOf fs lemma head → heading_text head ++ 9 ∷ last ≡ heading_line fs lemma (heading_of head) last
head_line fs lemma head last h = ap (λ (n : ℕ). head.name ++ 9 ∷ decimal n ++ 9 ∷ last) h.is

pub unary_put : (fs : Frequencies) (lemma : List ℕ) (least max : ℕ) (head : Head) (o a b : List ℕ) → head.unary ≡ true → IsHeadOf fs lemma head → a ≡ o ++ heading_text head → b ≡ a ++ (9 ∷ codes "unary" ++ 10 ∷ []) →
    AppendsLines (RelationLines fs lemma least max (heading_of head)) o b
unary_put fs lemma least max head o a b unary h p q =
    let line = heading_line fs lemma (heading_of head) (codes "unary") in
    record {
      lines = line ∷ [];
      are = subst (λ (u : Bool). LinesBy u fs lemma least max (heading_of head) (line ∷ [])) (sym unary) refl;
      more = q ∙ ap (λ (x : List ℕ). x ++ (9 ∷ codes "unary" ++ 10 ∷ [])) p ∙ behind o (heading_text head) (codes "unary") ∙ ap (λ (x : List ℕ). o ++ closed x) (head_line fs lemma head (codes "unary") h)
          ∙ ap (λ (x : List ℕ). o ++ x) (sym (append-nil (closed line)));
    }

pub binary_put : (fs : Frequencies) (lemma : List ℕ) (least max : ℕ) (head : Head) (words : List Weighed) (n : ℕ) (o a b c e : List ℕ) → head.unary ≡ false → IsHeadOf fs lemma head → AreShown fs head.name lemma least max words →
    a ≡ o ++ heading_text head → b ≡ a ++ 9 ∷ decimal n → n ≡ length words → c ≡ b ++ 10 ∷ [] → AppendsEach IsLineOf words c e → AppendsLines (RelationLines fs lemma least max (heading_of head)) o e
binary_put fs lemma least max head words n o a b c e binary h shown p q count r each =
    let names : List Weighed → List (List ℕ) = map (λ (w : Weighed). w.word) in
    let last = decimal (length (names words)) in
    let line = heading_line fs lemma (heading_of head) last in
    let counted : n ≡ length (names words) = count ∙ sym (length-map words (λ (w : Weighed). w.word)) in
    let lines : BinaryLines fs lemma least max (heading_of head) (line ∷ each.lines) = record {
      shown = names words;
      first = shown.first;
      below = each.lines;
      each = zip_mapped (λ (w : Weighed). w.word) (IsCollocateLine fs head.name lemma) words each.lines
          (zip_so IsLineOf (λ w text. IsCollocateLine fs head.name lemma w.word text) words each.lines (λ w text m. collocate_line fs head.name lemma least w text (shown.only w (from_member words w m))) each.are);
      say = refl;
    } in
    let first : c ≡ o ++ closed line = r ∙ ap (λ (x : List ℕ). x ++ 10 ∷ []) (q ∙ ap₂ (λ (x : List ℕ) (k : ℕ). x ++ 9 ∷ decimal k) p counted) ∙ append_assoc (o ++ heading_text head) (9 ∷ last) (10 ∷ [])
    ∙ behind o (heading_text head) last ∙ ap (λ (x : List ℕ). o ++ closed x) (head_line fs lemma head last h) in
    record {
      lines = line ∷ each.lines;
      are = subst (λ (u : Bool). LinesBy u fs lemma least max (heading_of head) (line ∷ each.lines)) (sym binary) lines;
      more = each.more ∙ ap (λ (x : List ℕ). x ++ flat_map closed each.lines) first ∙ append_assoc o (closed line) (flat_map closed each.lines);
    }

-- ---- the whole sketch

pub reply_told : (images : Images) (registry : Registry) (grammar : Grammar) (corpus : List Text) (counted : Counted) (lemma : List ℕ) (least max : ℕ) (heads : List Head) (n : ℕ) (start bytes : List ℕ) → AreCountsOf images registry grammar corpus counted →
    AreHeadings (frequencies_of counted) lemma heads → n ≡ length heads → start ≡ closed (number_line n) →
    AppendsBlocks (λ (head : Head) (block : List (List ℕ)). RelationLines (frequencies_of counted) lemma least max (heading_of head) block) heads start bytes →
    IsSketchReply images registry grammar corpus lemma least max bytes
reply_told images registry grammar corpus counted lemma least max heads n start bytes are headings count first blocks =
    let counts : n ≡ length (map heading_of heads) = count ∙ sym (length-map heads heading_of) in
    record {
      lines = number_line (length (map heading_of heads)) ∷ flat_map (λ (block : List (List ℕ)). block) blocks.blocks;
      are = record {
        frequencies = frequencies_of counted;
        are = record { both = are.both; first = are.first; second = are.second; alone = are.alone };
        text = record {
          headings = map heading_of heads;
          are = headings.are;
          blocks = blocks.blocks;
          each = zip_mapped heading_of (RelationLines (frequencies_of counted) lemma least max) heads blocks.blocks blocks.each;
          say = refl;
        };
      };
      bytes_are = blocks.more ∙ ap (λ (x : List ℕ). x ++ flat_map closed (flat_map (λ (block : List (List ℕ)). block) blocks.blocks)) (first ∙ ap (λ (k : ℕ). closed (number_line k)) counts);
    }

pub head_at : (fs : Frequencies) (lemma : List ℕ) (heads items : List Head) (k : ℕ) (head : Head) → AreHeadings fs lemma heads → items ≡ heads → k < length items → head ≡ get_or items k head → IsHeadOf fs lemma head
head_at fs lemma heads items k head are same low there =
    are.counted head (subst (λ (hs : List Head). Contains hs head) same (from_member items head (subst (λ (h : Head). Member h items) (sym there) (at_index items k head low))))

pub whole : (R : Head → List (List ℕ) → Type 0) (heads items : List Head) (k : ℕ) (old new : List ℕ) → items ≡ heads → length items ≤ k → AppendsBlocks R (take k items) old new → AppendsBlocks R heads old new
whole R heads items k old new same all blocks = subst (λ (hs : List Head). AppendsBlocks R hs old new) (take_all k items all ∙ same) blocks
