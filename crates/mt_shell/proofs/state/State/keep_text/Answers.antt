use denote.Param.Send.{param_sync, arg_sync, given_sync}
use Rattle.std.proofs.Common.{ℕ, List, drop, length, refl, sym, subst, ap}
use Rattle.mt_corpus_spec.specs.Images.{AreImagesBy}
use Rattle.mt_corpus_spec.specs.Decoded.{images_in}
use Rattle.mt_segment.specs.Mappers.{named}
use Rattle.mt_session_spec.specs.Settings.{images_of}
use Rattle.mt_shell.specs.Serves.{Kept, Serves}
use Rattle.mt_shell.specs.Holding.{grammar_of}
use Rattle.mt_shell.proofs.Adding.{images_agree, mappers_back, mappers_there, may_keep, no_room, room_for, kept_not}
use Rattle.mt_shell.proofs.Meanings.{not_true}
use Rattle.mt_shell.proofs.state.State.keep_text.Goals as goal

pub returns-then-is_full-clause-means : goal.returns-then-is_full-clause-means
returns-then-is_full-clause-means g c =
    no_room g.setting c.args.self.now.held c.args.text c.refused.result (rw (ap (λ (k : Kept). k.held.groups) c.self.view_is, c.len-tokens.ensures) at (c.if-is_full.ensures.0 refl)) c.refused.ensures

pub build-requires-clause-mappers : goal.build-requires-clause-mappers
build-requires-clause-mappers g c = λ κs within. rw c.deref_mut.ensures.value
    (mappers_there g.M.Mapper.called g.M.Mapper.image c.args.mappers.now.items g.setting c.args.self.now c.self.inside.accepted (grammar_of c.self.inside.rules) c.self.inside.corpus c.self.view_is c.requires.1.1.1.1.1.1.1.1)

pub returns-in_default-clause-means : goal.returns-in_default-clause-means
returns-in_default-clause-means g c = kept_not g.setting c.args.self.now.held c.args.self.now.held c.args.text refl

pub keep_made-requires-sync-R : goal.keep_made-requires-sync-R
keep_made-requires-sync-R g c = λ κs h.
    let agree = images_agree g.setting (named g.M.Mapper.called g.M.Mapper.image c.args.mappers.now.items) c.args.self.now c.self.inside.accepted (grammar_of c.self.inside.rules) c.self.inside.corpus c.self.view_is c.requires.1.1.1.1.1.1.1.1 in
    let images = c.in-Ok.ensures.images (images_of g.setting) (rw c.deref_mut.ensures.value agree) in
    let room = room_for c.args.self.now c.self.inside.accepted (grammar_of c.self.inside.rules) c.self.inside.corpus c.args.text c.len-tokens.result c.self.view_is c.len-tokens.ensures (λ full. not_true (c.if-is_full.ensures.1 full)) in (
      h.0,
      (
        h.1.0,
        (
          h.1.1,
          (
            param_sync 2 _ (arg_sync _ _ g.row.R (given_sync 3 g.row.R c.requires.1.1.1.1.1.0)),
            (
              record { text = c.args.text; may = may_keep c.args.self.now c.self.inside.accepted (grammar_of c.self.inside.rules) c.self.inside.corpus c.args.text c.in-Ok.segment c.self.view_is c.requires.1.1.1.1.1.1.1.0 c.requires.1.1.1.1.1.1.0 room c.in-Ok.ensures.made },
              (subst (λ (k : Kept). AreImagesBy (images_of g.setting) (images_in k.held.registry c.in-Ok.segment)) c.self.view_is images, c.requires.1.1.1.1.1.1.1.1.taken),
            ),
          ),
        ),
      ),
    )

pub returns-clause-means : goal.returns-clause-means
returns-clause-means g c =
    let room = room_for c.args.self.now c.self.inside.accepted (grammar_of c.self.inside.rules) c.self.inside.corpus c.args.text c.len-tokens.result c.self.view_is c.len-tokens.ensures (λ full. not_true (c.if-is_full.ensures.1 full)) in
    c.keep_made.ensures.means c.args.text
    (may_keep c.args.self.now c.self.inside.accepted (grammar_of c.self.inside.rules) c.self.inside.corpus c.args.text c.in-Ok.segment c.self.view_is c.requires.1.1.1.1.1.1.1.0 c.requires.1.1.1.1.1.1.0 room c.in-Ok.ensures.made) c.len-tokens.ensures

pub returns-clause-serves : goal.returns-clause-serves
returns-clause-serves g c =
    let same = mappers_back g.M.Mapper.called g.M.Mapper.image c.deref_mut.result.now c.build.new.mappers (drop (length c.build.new.mappers) c.args.mappers.now.items) c.args.mappers.now.len c.deref_mut.ensures.len c.build.ensures.same in
    let mappers = rw c.deref_mut.ensures.value at same in
    subst (λ (ms : List (List ℕ × (List ℕ → List ℕ))). Serves g.setting ms c.keep_made.new.self) (sym mappers) (c.keep_made.ensures.serves _ c.requires.1.1.1.1.1.1.1.1)
