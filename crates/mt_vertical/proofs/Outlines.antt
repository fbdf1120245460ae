-- Lines of which the tokens are only counted.
use Rattle.std.proofs.Common.{◌≡◌, ◌≢◌, ℕ, ◌+◌, ◌<◌, ◌≤◌, List, [], ◌∷◌, ◌++◌, length, length-append, replicate, refl, sym, ◌∙◌, ap, subst, arith, Option, None, Some, option_map}
use Rattle.std.specs.Str.Lines.{lines}
use Rattle.std.specs.Str.Iter.{lines_rest, lines_steps}
use Rattle.mt_text_spec.specs.Registries.{Registry, ValidRegistry, base_count}
use Rattle.mt_text_spec.specs.Texts.{Token, Text, StructSpan, text_tokens_limit}
use Rattle.mt_file_spec.specs.Vertical.{FirstTextFault, text_lines}
use Rattle.mt_file_spec.specs.VerticalLines.{columns, first_columns}
use Rattle.mt_vertical.specs.Causes.{text_cause_of}
use Rattle.mt_vertical.specs.Lines.{IsToken}
use Rattle.mt_vertical.specs.Outlines.{IsCounted, IsOutlineOf, with_tokens}
use Rattle.mt_vertical.specs.Readers.{AreShort, HasLong, Kept, IsSound, gathered, no_instances}
use Rattle.mt_vertical.specs.declared.error.TextCause.{TextCause as RustCause}
use Rattle.mt_vertical.specs.declared.error.TextCause.TheVariants.{TooManyTokens, ValueTooLong}
use Rattle.mt_vertical.proofs.LineRoles.{token_did, token_long, token_many, token_read}
use Rattle.mt_vertical.proofs.LinesRead.{ReadsOn, all_lines, bad_line, before_lines, line_refused, line_within, one_line}
use Rattle.mt_vertical.proofs.SoFar.{HasRead, line_is_read, nothing_read, text_is}

-- ## A token

module _ (registry : Registry) (count : ℕ) (kinds : List Kept) (line : List ℕ) where
  pub counted : (next : ℕ) → ValidRegistry registry → IsToken line → AreShort (first_columns (base_count registry.attrs) (columns line)) → count ≢ text_tokens_limit → next ≡ count + 1 →
      IsCounted registry count kinds line next kinds None
  counted next v t short few n = λ tokens e s.
      let token : Token = record { values = first_columns (base_count registry.attrs) (columns line) } in
      let old = with_tokens registry tokens kinds in
      let new = with_tokens registry (tokens ++ token ∷ []) kinds in (
        tokens ++ token ∷ [],
        omega (arith, n, e, length-append tokens (token ∷ [])),
        token_read registry old new line v s t (token_did old old new token.values line refl refl refl refl refl) short (λ full. few (e ∙ full)),
      )

  pub counted_long : ValidRegistry registry → IsToken line → HasLong (first_columns (base_count registry.attrs) (columns line)) → count ≢ text_tokens_limit →
      IsCounted registry count kinds line count kinds (Some (text_cause_of ValueTooLong))
  counted_long v t long few = λ tokens e s. (tokens, e, token_long registry (with_tokens registry tokens kinds) line v s t long (λ full. few (e ∙ full)))

  pub counted_many : IsToken line → count ≡ text_tokens_limit → IsCounted registry count kinds line count kinds (Some (text_cause_of TooManyTokens))
  counted_many t full = λ tokens e s. (tokens, e, token_many registry (with_tokens registry tokens kinds) line s t (sym e ∙ full))

-- ## Lines

-- so much of all lines is read, behind which stand so many tokens, whichever they are
pub record CountsOn {S A : Type 0} (steps : S → Option A → S → Type 0) (view : A → List ℕ) (registry : Registry) (all : List (List ℕ)) (rest : S) (number count : ℕ) (kinds : List Kept) : Type 0 where
  pub tokens : List Token
  pub count_is : count ≡ length tokens
  pub reads : ReadsOn steps view registry all rest number (with_tokens registry tokens kinds)

pub none_counted : {rest : _} (registry : Registry) (text : List ℕ) (count : ℕ) (kinds : List Kept) → lines_rest rest ≡ text → count ≡ 0 → kinds ≡ replicate (length registry.kinds) no_instances →
    CountsOn lines_steps (λ line. line.now) registry (lines text) rest 0 count kinds
none_counted registry text count kinds e n k = record {
  tokens = [];
  count_is = n;
  reads = before_lines registry text (with_tokens registry [] kinds) e (nothing_read registry (lines text) (lines text) (with_tokens registry [] kinds) refl refl refl k);
}

module _ {S A : Type 0} (steps : S → Option A → S → Type 0) (view : A → List ℕ) (registry : Registry) (all : List (List ℕ)) (old : S) (number count : ℕ) (kinds : List Kept) (h : CountsOn steps view registry all old number count kinds) where
  pub is_sound : IsSound registry (with_tokens registry h.tokens kinds)
  is_sound = h.reads.read.sound

  pub few_counted : count ≤ text_tokens_limit
  few_counted = omega (arith, h.count_is, is_sound.few)

  pub kinds_counted : length kinds ≡ length registry.kinds
  kinds_counted = is_sound.count

  module _ (rest : S) where
    pub counts_within : (line : A) → steps old (Some line) rest → number < length all
    counts_within line s = line_within steps view registry all old rest number number (with_tokens registry h.tokens kinds) line s h.reads

    pub counts_more : (line : A) (next more : ℕ) (new : List Kept) (found : Option RustCause) → steps old (Some line) rest → next ≡ number + 1 → found ≡ None →
        IsCounted registry count kinds (view line) more new (option_map text_cause_of found) → CountsOn steps view registry all rest next more new
    counts_more line next more new found s n e is =
        let c = is h.tokens h.count_is is_sound in
        record {
          tokens = c.0;
          count_is = c.1;
          reads = one_line steps view registry all old rest number next (with_tokens registry h.tokens kinds) line (with_tokens registry c.0 new) s n
              (line_is_read registry (with_tokens registry h.tokens kinds) (view line) (with_tokens registry c.0 new) found e c.2) h.reads;
        }

    pub counts_bad : (line : A) (next more : ℕ) (new : List Kept) (found : Option RustCause) (cause : RustCause) (bytes : List ℕ) → steps old (Some line) rest → next ≡ number + 1 → found ≡ Some cause →
        IsCounted registry count kinds (view line) more new (option_map text_cause_of found) → text_lines bytes ≡ all → FirstTextFault registry bytes next (text_cause_of cause)
    counts_bad line next more new found cause bytes s n e is a =
        let c = is h.tokens h.count_is is_sound in
        bad_line steps view registry all old rest number next (with_tokens registry h.tokens kinds) line bytes (text_cause_of cause) s n
        (line_refused registry (with_tokens registry h.tokens kinds) (view line) (with_tokens registry c.0 new) found cause e c.2) a h.reads

    pub outline_is : (name bytes : List ℕ) (tokens : ℕ) (structs : List StructSpan) → steps old None rest → text_lines bytes ≡ all → tokens ≡ count → structs ≡ gathered 0 count kinds →
        IsOutlineOf registry name bytes tokens structs
    outline_is name bytes tokens structs s a t g =
        let state = with_tokens registry h.tokens kinds in
        let whole : Text = record { name = name; tokens = h.tokens; structs = structs } in
        let read : HasRead registry (text_lines bytes) [] number state =
        subst (λ (ls : List (List ℕ)). HasRead registry ls [] number state) (sym a) (all_lines steps view registry all old rest number number state s h.reads) in
        record {
          text = whole;
          read = text_is registry name bytes number state whole read refl refl (g ∙ ap (λ n. gathered 0 n kinds) h.count_is);
          count = t ∙ h.count_is;
          instances = refl;
        }
