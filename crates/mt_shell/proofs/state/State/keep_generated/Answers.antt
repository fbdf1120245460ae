use Rattle.std.proofs.Common.{◌∙◌, ℕ, ap, sym, subst, refl}
use Rattle.mt_text_spec.specs.Registries.{ValidRegistry}
use Rattle.mt_generate_spec.specs.Generated.{generated_text}
use Rattle.mt_session_spec.specs.World.{IsFull}
use Rattle.mt_session_spec.specs.Settings.{images_of}
use Rattle.mt_shell.specs.Serves.{Kept}
use Rattle.mt_shell.specs.Holding.{grammar_of}
use Rattle.mt_shell.proofs.Adding.{may_keep, no_room, kept_not}
use Rattle.mt_shell.proofs.Generating.{made_of, no_images, room_here, tokens_are}
use Rattle.mt_shell.proofs.Meanings.{not_true}
use Rattle.mt_shell.proofs.state.State.keep_generated.Goals as goal

-- of the requires, behind those of the type parameters: 1.1.1.1.0 free, 1.1.1.1.1.0 standard, 1.1.1.1.1.1.0 valid, 1.1.1.1.1.1.1 taken

pub returns-then-is_full-clause-means : goal.returns-then-is_full-clause-means
returns-then-is_full-clause-means g c =
    let text = generated_text c.args.name.now c.args.seed c.args.tokens in
    let full : IsFull c.args.self.now.held.groups c.args.tokens = subst (λ (k : Kept). IsFull k.held.groups c.args.tokens) c.self.view_is (c.if-is_full.ensures.0 refl) in
    no_room g.setting c.args.self.now.held text c.refused.result (subst (λ (n : ℕ). IsFull c.args.self.now.held.groups n) (tokens_are c.args.name.now c.args.seed c.args.tokens) full) c.refused.ensures

pub returns-in_default-clause-means : goal.returns-in_default-clause-means
returns-in_default-clause-means g c = kept_not g.setting c.args.self.now.held c.args.self.now.held (generated_text c.args.name.now c.args.seed c.args.tokens) refl

pub returns-in_default-generated_segment-clause-means : goal.returns-in_default-generated_segment-clause-means
returns-in_default-generated_segment-clause-means g c = kept_not g.setting c.args.self.now.held c.args.self.now.held (generated_text c.args.name.now c.args.seed c.args.tokens) refl

pub generated_segment-requires-clause-standard : goal.generated_segment-requires-clause-standard
generated_segment-requires-clause-standard g c = λ κs h. c.registry-registry.ensures.registry ∙ ap (λ (k : Kept). k.held.registry) c.self.view_is ∙ c.requires.1.1.1.1.1.0

pub generated_segment-requires-clause-registry : goal.generated_segment-requires-clause-registry
generated_segment-requires-clause-registry g c = λ κs h. subst ValidRegistry (sym c.registry-registry.ensures.registry) c.registry-registry.ensures.valid

pub generated_segment-requires-clause-text : goal.generated_segment-requires-clause-text
generated_segment-requires-clause-text g c = λ κs h.
    let there = c.registry-registry.ensures.registry ∙ ap (λ (k : Kept). k.held.registry) c.self.view_is in
    rw (there, c.in-Ok.ensures) c.requires.1.1.1.1.1.1.0

pub keep_made-requires-sync-R : goal.keep_made-requires-sync-R
keep_made-requires-sync-R g c = λ κs h.
    let text = generated_text c.args.name.now c.args.seed c.args.tokens in
    let room = room_here c.args.self.now c.self.inside.accepted (grammar_of c.self.inside.rules) c.self.inside.corpus c.args.name.now c.args.seed c.args.tokens c.self.view_is (λ full. not_true (c.if-is_full.ensures.1 full)) in
    let made = made_of c.self.inside.corpus.registry c.registry-registry.result.now c.args.name.now c.in-Ok.own_name c.args.seed c.args.tokens c.in-Ok-generated_segment.segment c.registry-registry.ensures.registry c.in-Ok.ensures c.in-Ok-generated_segment.ensures in (
      h.0,
      (
        h.1.0,
        (
          h.1.1,
          (
            c.requires.1.1.1.0,
            (
              record { text = text; may = may_keep c.args.self.now c.self.inside.accepted (grammar_of c.self.inside.rules) c.self.inside.corpus text c.in-Ok-generated_segment.segment c.self.view_is c.requires.1.1.1.1.1.1.0 c.requires.1.1.1.1.0 room made },
              (no_images (images_of g.setting) c.args.self.now.held.registry c.in-Ok-generated_segment.segment c.requires.1.1.1.1.1.0, c.requires.1.1.1.1.1.1.1),
            ),
          ),
        ),
      ),
    )

pub returns-clause-means : goal.returns-clause-means
returns-clause-means g c =
    let text = generated_text c.args.name.now c.args.seed c.args.tokens in
    let room = room_here c.args.self.now c.self.inside.accepted (grammar_of c.self.inside.rules) c.self.inside.corpus c.args.name.now c.args.seed c.args.tokens c.self.view_is (λ full. not_true (c.if-is_full.ensures.1 full)) in
    let made = made_of c.self.inside.corpus.registry c.registry-registry.result.now c.args.name.now c.in-Ok.own_name c.args.seed c.args.tokens c.in-Ok-generated_segment.segment c.registry-registry.ensures.registry c.in-Ok.ensures c.in-Ok-generated_segment.ensures in
    c.keep_made.ensures.means text (may_keep c.args.self.now c.self.inside.accepted (grammar_of c.self.inside.rules) c.self.inside.corpus text c.in-Ok-generated_segment.segment c.self.view_is c.requires.1.1.1.1.1.1.0 c.requires.1.1.1.1.0 room made)
    (tokens_are c.args.name.now c.args.seed c.args.tokens)
