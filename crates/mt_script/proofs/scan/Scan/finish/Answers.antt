use Rattle.std.proofs.Common.{refl}
use Rattle.mt_script.proofs.ScanSteps.{more_here, some_too}
use Rattle.mt_script.proofs.scan.Scan.finish.Goals as goal

pub returns-else-ended-clause-gives : goal.returns-else-ended-clause-gives
returns-else-ended-clause-gives c = more_here c.args.ended c.args.self.now c.find_body.new.self c.if-ended.false c.find_body.ensures.held c.find_body.ensures.start c.find_body.ensures.sound
    (some_too _ _ c.find_body.ensures.header c.requires.some) (c.if-find_body.ensures.part refl)
