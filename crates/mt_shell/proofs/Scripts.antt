-- A run that is done has written the one answer of its script.
use Rattle.std.proofs.Common.{◌≡◌, ℕ, inl, inr, true, List, [], ◌∷◌, ◌++◌, Option, Some, refl, sym, ◌∙◌, ap, append-nil, subst}
use Rattle.mt_shelf_spec.specs.Files.{Files}
use Rattle.mt_script_spec.specs.Commands.{Quit}
use Rattle.mt_script_spec.specs.Script.{Item, Given}
use Rattle.mt_session_spec.specs.World.{first_held}
use Rattle.mt_session_spec.specs.Settings.{Setting}
use Rattle.mt_session_spec.specs.Gains.{Gained, none_gained}
use Rattle.mt_session_spec.specs.Answers.{Answer, output_of}
use Rattle.mt_session_spec.specs.Replies.{Known, Replies, NoneStarved, NoneDeep, first_known}
use Rattle.mt_session_spec.specs.Runs.{Outside, Leaves, AreTheAnswers}
use Rattle.mt_session_spec.specs.Laws.{IsSaidItem, ItemsAreSaid, RepliesAreAnswers}
use Rattle.std.specs.List.{All}
use Rattle.mt_shell.specs.Ends.{NoneFailed, EndsAreAnswers}

nothing_more : {X : Type 0} → (a more : List X) → a ≡ a ++ more → more ≡ []
nothing_more [] more e = sym e
nothing_more (x ∷ a) more e = nothing_more a more cc

none_more : (start end : Outside) (written output : List ℕ) (stored : Option Files) (gained : Gained) → NoneFailed start end → Leaves start written output stored gained end → gained ≡ none_gained
none_more start end written output stored gained n l =
    let f : gained.failed ≡ [] = nothing_more start.failed gained.failed (sym n.failed ∙ l.failed) in
    let r : gained.refused ≡ [] = nothing_more start.refused gained.refused (sym n.refused ∙ l.refused) in
    let P : List (List ℕ) → List (List ℕ) → Gained = λ a b. record { failed = a; refused = b } in
    ap (λ a. P a gained.refused) f ∙ ap (λ b. P [] b) r

the_answers : {setting : Setting} → (said : ItemsAreSaid) (answers_of : RepliesAreAnswers) (items : List Item) (files : Files) (told : Option Files) (gained : Gained) (answers : List Answer) (last : Known) → told ≡ Some files → gained ≡ none_gained →
    All IsSaidItem items → Replies setting items (first_known told) gained answers last → NoneStarved answers → NoneDeep setting items (record { held = first_held; files = files }) → AreTheAnswers setting items files answers
the_answers {setting = setting} said answers_of items files told gained answers last t g all r none deep =
    answers_of setting items files answers last all (subst (λ (o : Option Files). Replies setting items (first_known o) none_gained answers last) t
    (subst (λ (h : Gained). Replies setting items (first_known told) h answers last) g r)) none deep

pub the_law : ItemsAreSaid → RepliesAreAnswers → EndsAreAnswers
the_law said answers_of setting input written start end files t n (inl e) =
    let a = e.answered in
    record {
      ended = true;
      taken = input;
      took = record { back = []; are = sym (append-nil input); rest = e.none_left; whole = λ yes. refl; short = e.short };
      items = a.items;
      rest = a.rest;
      answers = a.answers;
      read = inl a.read;
      held = a.leaves.held;
      one = the_answers said answers_of a.items files start.files a.gained a.answers a.last t (none_more start end written (output_of a.answers) a.last.files a.gained n a.leaves)
          (said true input a.rest a.items a.read.begins) a.replies;
    }
the_law said answers_of setting input written start end files t n (inr e) =
    let a = e.answered in
    record {
      ended = e.ended;
      taken = e.taken;
      took = e.took;
      items = a.items ++ Given Quit ∷ [];
      rest = a.others;
      answers = a.answers;
      read = inr (a.items, refl, a.no_quit, a.read);
      held = a.leaves.held;
      one = the_answers said answers_of (a.items ++ Given Quit ∷ []) files start.files a.gained a.answers a.last t (none_more start end written (output_of a.answers) a.last.files a.gained n a.leaves)
          (said e.ended e.taken a.others (a.items ++ Given Quit ∷ []) a.read) a.replies;
    }
