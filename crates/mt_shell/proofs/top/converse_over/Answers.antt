use Rattle.mt_shell.proofs.Starting.{both_within, three_within}
use Rattle.mt_shell.proofs.top.converse_over.Goals as goal

pub converse-requires : goal.converse-requires
converse-requires g c = λ κs h.
    let own = h.0 in
    let live = h.1 in (
      live.0,
      (
        live.1.0,
        (
          live.1.1.0,
          (
            both_within _ _ _ (three_within _ _ _ _ live.1.1.1.0 live.1.1.1.1.0 live.1.1.1.1.1.0)
                (three_within _ _ _ _ (both_within _ _ _ own.0 live.1.1.1.0) (both_within _ _ _ own.1.0 live.1.1.1.1.0) (both_within _ _ _ own.1.1.0 live.1.1.1.1.1.0)),
            (live.1.1.1.1.1.1.0, (c.requires.1.1.1.1.1.1.1.0, (c.requires.1.1.1.1.1.1.1.1.0, (c.requires.1.1.1.1.1.1.1.1.1.0, (c.requires.1.1.1.1.1.1.1.1.1.1.0, (c.requires.1.1.1.1.1.1.1.1.1.1.1.0, c.requires.1.1.1.1.1.1.1.1.1.1.1.1)))))),
          ),
        ),
      ),
    )
