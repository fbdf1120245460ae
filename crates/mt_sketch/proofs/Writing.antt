-- Lines that are written one after another.
use Rattle.std.proofs.Common.{◌≡◌, ℕ, ◌+◌, ◌/◌, ◌<◌, inl, inr, ℤ, List, [], ◌∷◌, ◌++◌, length, map, take, get_or, append-nil, append_assoc, refl, sym, ◌∙◌, ap, subst}
use Rattle.std.specs.List.{AllZip, flat_map}
use Rattle.std.specs.Fmt.{decimal}
use Rattle.std.proofs.lemmas.List.{take_more, flat_map_more}
use Rattle.std.proofs.lemmas.Grind.{flat_map-append}
use Rattle.std.proofs.lemmas.Slice.Zip.{all_zipped_more}
use Rattle.mt_text_spec.specs.Lines.{closed}
use Rattle.mt_match_laws.proofs.Members.{Member}
use Rattle.mt_sketch_spec.specs.Score.{IsScore, sixteenths_text}
use Rattle.mt_word_sketch_spec.specs.Ranks.{Ranked}
use Rattle.mt_word_sketch_spec.specs.Order.{Weighed, ranked_of}
use Rattle.mt_sketch.specs.Told.{IsLineOf, AppendsLine, AppendsLines, AppendsEach}

-- ---- one line

joined : (o w n s : List ℕ) → (((((o ++ 9 ∷ []) ++ w) ++ 9 ∷ n) ++ 9 ∷ []) ++ s) ++ 10 ∷ [] ≡ o ++ (((9 ∷ w ++ 9 ∷ n) ++ 9 ∷ s) ++ 10 ∷ [])
joined o w n s = simp append_assoc

put_line : (o w n s a b c d e g : List ℕ) → a ≡ o ++ 9 ∷ [] → b ≡ a ++ w → c ≡ b ++ 9 ∷ n → d ≡ c ++ 9 ∷ [] → e ≡ d ++ s → g ≡ e ++ 10 ∷ [] → g ≡ o ++ closed (9 ∷ w ++ 9 ∷ n ++ 9 ∷ s)
put_line o w n s a b c d e g p q r t u v =
    v ∙ ap (λ (x : List ℕ). x ++ 10 ∷ []) (u ∙ ap (λ (x : List ℕ). x ++ s) (t ∙ ap (λ (x : List ℕ). x ++ 9 ∷ []) (r ∙ ap (λ (x : List ℕ). x ++ 9 ∷ n) (q ∙ ap (λ (x : List ℕ). x ++ w) p)))) ∙ joined o w n s

pub line_put : (word : Weighed) (part part' whole : ℕ) (score : ℤ) (text o a b c d e g : List ℕ) → part ≡ word.part → part' ≡ word.part → ranked_of word ≡ record { word = word.word; part = word.part; whole = whole } → IsScore part whole score → text ≡ word.word →
    a ≡ o ++ 9 ∷ [] → b ≡ a ++ text → c ≡ b ++ 9 ∷ decimal (part' / 2) → d ≡ c ++ 9 ∷ [] → e ≡ d ++ sixteenths_text score → g ≡ e ++ 10 ∷ [] → AppendsLine (IsLineOf word) o g
line_put word part part' whole score text o a b c d e g part_is again whole_is scored text_is p q r t u v =
    let wholes : word.less_one + 1 ≡ whole = ap (λ (x : Ranked). x.whole) whole_is in
    record {
      line = 9 ∷ word.word ++ 9 ∷ decimal (word.part / 2) ++ 9 ∷ sixteenths_text score;
      is = record { score = score; scored = subst (λ (n : ℕ). IsScore word.part n score) (sym wholes) (subst (λ (n : ℕ). IsScore n whole score) part_is scored); says = refl };
      more = put_line o word.word (decimal (word.part / 2)) (sixteenths_text score) a b c d e g p (q ∙ ap (λ (x : List ℕ). a ++ x) text_is) (r ∙ ap (λ (n : ℕ). b ++ 9 ∷ decimal (n / 2)) again) t u v;
    }

-- ---- a line for each

pub none_yet : {X : Type 0} (R : X → List ℕ → Type 0) (o : List ℕ) → AppendsEach R [] o o
none_yet R o = record { lines = []; are = tt; more = sym (append-nil o) }

line_more : (o a b line : List ℕ) (lines : List (List ℕ)) → a ≡ o ++ flat_map closed lines → b ≡ a ++ closed line → b ≡ o ++ flat_map closed (lines ++ line ∷ [])
line_more o a b line lines p q = q ∙ ap (λ (x : List ℕ). x ++ closed line) p ∙ flat_map_more closed o lines line

pub one_more : {X : Type 0} (R : X → List ℕ → Type 0) (xs : List X) (k : ℕ) (x : X) (o a b : List ℕ) → k < length xs → x ≡ get_or xs k x → AppendsEach R (take k xs) o a → AppendsLine (R x) a b → AppendsEach R (take (k + 1) xs) o b
one_more {X} R xs k x o a b low there before line =
    let more : take (k + 1) xs ≡ take k xs ++ x ∷ [] = take_more xs k x low ∙ ap (λ (y : X). take k xs ++ y ∷ []) (sym there) in
    record {
      lines = before.lines ++ line.line ∷ [];
      are = subst (λ (ys : List X). AllZip R ys (before.lines ++ line.line ∷ [])) (sym more) (all_zipped_more R (take k xs) before.lines x line.line before.are line.is);
      more = line_more o a b line.line before.lines before.more line.more;
    }

-- ---- a block of lines for each

pub record AppendsBlocks {X : Type 0} (R : X → List (List ℕ) → Type 0) (xs : List X) (old new : List ℕ) : Type 0 where
  pub blocks : List (List (List ℕ))
  pub each : AllZip R xs blocks
  pub more : new ≡ old ++ flat_map closed (flat_map (λ block. block) blocks)

pub no_blocks : {X : Type 0} (R : X → List (List ℕ) → Type 0) (o : List ℕ) → AppendsBlocks R [] o o
no_blocks R o = record { blocks = []; each = tt; more = sym (append-nil o) }

blocks_join : (blocks : List (List (List ℕ))) (block : List (List ℕ)) → flat_map closed (flat_map (λ b. b) blocks) ++ flat_map closed block ≡ flat_map closed (flat_map (λ b. b) (blocks ++ block ∷ []))
blocks_join blocks block =
    sym (ap (λ (ls : List (List ℕ)). flat_map closed ls) (flat_map-append (λ (b : List (List ℕ)). b) blocks (block ∷ []) ∙ ap (λ (ls : List (List ℕ)). flat_map (λ (b : List (List ℕ)). b) blocks ++ ls) (append-nil block)) ∙ flat_map-append closed (flat_map (λ (b : List (List ℕ)). b) blocks) block)

pub block_more : {X : Type 0} (R : X → List (List ℕ) → Type 0) (xs : List X) (k : ℕ) (x : X) (o a b : List ℕ) → k < length xs → x ≡ get_or xs k x → AppendsBlocks R (take k xs) o a → AppendsLines (R x) a b → AppendsBlocks R (take (k + 1) xs) o b
block_more {X} R xs k x o a b low there before block =
    let more : take (k + 1) xs ≡ take k xs ++ x ∷ [] = take_more xs k x low ∙ ap (λ (y : X). take k xs ++ y ∷ []) (sym there) in
    record {
      blocks = before.blocks ++ block.lines ∷ [];
      each = subst (λ (ys : List X). AllZip R ys (before.blocks ++ block.lines ∷ [])) (sym more) (all_zipped_more R (take k xs) before.blocks x block.lines before.each block.are);
      more = block.more ∙ ap (λ (y : List ℕ). y ++ flat_map closed block.lines) before.more ∙ append_assoc o (flat_map closed (flat_map (λ b. b) before.blocks)) (flat_map closed block.lines)
          ∙ ap (λ (y : List ℕ). o ++ y) (blocks_join before.blocks block.lines);
    }

pub zip_mapped : {X Y Z : Type 0} (g : X → Y) (R : Y → Z → Type 0) (xs : List X) (zs : List Z) → AllZip (λ x z. R (g x) z) xs zs → AllZip R (map g xs) zs
zip_mapped g R [] [] h = tt
zip_mapped g R [] (z ∷ zs) h = absurd h
zip_mapped g R (x ∷ xs) [] h = absurd h
zip_mapped g R (x ∷ xs) (z ∷ zs) h = (h.0, zip_mapped g R xs zs h.1)

pub zip_so : {X Z : Type 0} (R S : X → Z → Type 0) (xs : List X) (zs : List Z) → ((x : X) (z : Z) → Member x xs → R x z → S x z) → AllZip R xs zs → AllZip S xs zs
zip_so R S [] [] f h = tt
zip_so R S [] (z ∷ zs) f h = absurd h
zip_so R S (x ∷ xs) [] f h = absurd h
zip_so R S (x ∷ xs) (z ∷ zs) f h = (f x z (inl refl) h.0, zip_so R S xs zs (λ y w m. f y w (inr m)) h.1)
