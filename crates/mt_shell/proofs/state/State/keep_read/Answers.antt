use Rattle.std.proofs.Common.{ℕ, refl, subst}
use Rattle.mt_session_spec.specs.World.{IsFull, ValidHeld}
use Rattle.mt_session_spec.specs.Settings.{images_of}
use Rattle.mt_shell.specs.Serves.{Kept}
use Rattle.mt_shell.specs.Holding.{grammar_of}
use Rattle.mt_shell.proofs.Adding.{images_read, may_keep_read, no_room, room_for, sound, tokens_told}
use Rattle.mt_shell.proofs.Meanings.{not_true}
use Rattle.mt_shell.proofs.state.State.keep_read.Goals as goal

-- of the requires, behind those of the type parameters: 1.1.1.1.0 read, 1.1.1.1.1 taken

pub returns-then-is_full-clause-means : goal.returns-then-is_full-clause-means
returns-then-is_full-clause-means g c = λ name bytes free s.
    let held = c.args.self.now.held in
    let full : IsFull held.groups c.tokens-tokens.result = subst (λ (k : Kept). IsFull k.held.groups c.tokens-tokens.result) c.self.view_is (c.if-is_full.ensures.0 refl) in
    let all = subst (λ (n : ℕ). IsFull held.groups n) (tokens_told held.registry name bytes c.args.segment c.tokens-tokens.result s c.tokens-tokens.ensures.count) full in
    sound g.setting held held name bytes s.text c.refused.result s.read (no_room g.setting held s.text c.refused.result all c.refused.ensures)

pub keep_made-requires-sync-R : goal.keep_made-requires-sync-R
keep_made-requires-sync-R g c = λ κs h.
    let held = c.args.self.now.held in
    let (name, bytes, free, s) = c.requires.1.1.1.1.0 in
    let told = tokens_told held.registry name bytes c.args.segment c.tokens-tokens.result s c.tokens-tokens.ensures.count in
    let room = room_for c.args.self.now c.self.inside.accepted (grammar_of c.self.inside.rules) c.self.inside.corpus s.text c.tokens-tokens.result c.self.view_is told (λ full. not_true (c.if-is_full.ensures.1 full)) in
    let valid = (subst (λ (k : Kept). ValidHeld k.held) c.self.view_is c.self.invariant.held).registry in (
      h.0,
      (
        h.1.0,
        (
          h.1.1,
          (
            c.requires.1.1.1.0,
            (
              record { text = s.text; may = may_keep_read c.args.self.now name bytes c.args.segment free s room },
              (images_read c.images_are_decoded.ensures (images_of g.setting) held.registry name bytes c.args.segment valid s, c.requires.1.1.1.1.1),
            ),
          ),
        ),
      ),
    )

pub returns-clause-means : goal.returns-clause-means
returns-clause-means g c = λ name bytes free s.
    let held = c.args.self.now.held in
    let told = tokens_told held.registry name bytes c.args.segment c.tokens-tokens.result s c.tokens-tokens.ensures.count in
    let room = room_for c.args.self.now c.self.inside.accepted (grammar_of c.self.inside.rules) c.self.inside.corpus s.text c.tokens-tokens.result c.self.view_is told (λ full. not_true (c.if-is_full.ensures.1 full)) in
    sound g.setting held c.keep_made.new.self.held name bytes s.text c.keep_made.result s.read (c.keep_made.ensures.means s.text (may_keep_read c.args.self.now name bytes c.args.segment free s room) told)
