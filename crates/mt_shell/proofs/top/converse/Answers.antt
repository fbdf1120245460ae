use Rattle.std.proofs.Common.{ℕ, length-take, ◌≡◌, ◌++◌, length, take, drop, Ok, arith, refl, ap, ◌∙◌}
use Rattle.mt_script.specs.Waits.{Waiting}
use Rattle.mt_shell.proofs.Endings.{no_line, at_first, took_first, took_on, read_on, ends_in_part, ends_at_quit, ends_with_fault, ends_too_long, is_long, ends_at_end, ends_as, finish_good, finish_beside, faults_on, faults_stay, source_fault, faults_at_end, error_faults_beside, error_good, error_ends, error_left, piece_read}
use Rattle.mt_shell.proofs.Endings.{block_kept}
use Rattle.mt_session_spec.specs.Runs.{Outside}
use Rattle.mt_shell.specs.Outsides.{beside}
use Rattle.mt_shell.specs.Serves.{Kept}
use Rattle.mt_shell.proofs.top.converse.Goals as goal

pub loop-taken-init : goal.loop-taken-init
loop-taken-init g c =
    let start = beside (g.E.Edge.seen c.args.edge.now) (g.P.PatternShop.refused c.args.shop.now) in
    let none = ap (λ (w : Waiting). w.bytes) c.requires.1.1.1.1.1.1.1.0 in
    record {
      took = λ input h. took_first input start h;
      reads = λ input h written k. at_first input written c.args.talk.now.reader.bytes c.args.talk.now.session.state.held start h k none (ap (λ (k : Kept). k.held) c.requires.1.1.1.1.1.1.1.1.0);
      serves = c.requires.1.1.1.1.1.1.1.1.1.0;
      ended = ap (λ (w : Waiting). w.ended) c.requires.1.1.1.1.1.1.1.0;
      rest = rw none no_line;
      within = omega arith;
      block = c.requires.1.1.1.1.1.1.1.1.1.1;
      faults = record { source = refl; sink = refl };
      names = refl;
    }

pub returns-in_default-clause-ends : goal.returns-in_default-clause-ends
returns-in_default-clause-ends g c = λ input h written k.
    ends_with_fault input c.loop-taken.talk.reader.bytes c.loop-taken.taken c.loop-taken.talk.session.state.held (beside (g.E.Edge.seen c.args.edge.now) (g.P.PatternShop.refused c.args.shop.now)) (beside (g.E.Edge.seen c.loop-taken.edge) (g.P.PatternShop.refused c.loop-taken.shop)) (beside (g.E.Edge.seen c.read.new.self) (g.P.PatternShop.refused c.loop-taken.shop)) written
    (c.loop-taken.invariant.reads input h written k) c.loop-taken.invariant.rest c.loop-taken.invariant.within (ap (λ (o : Outside). beside o (g.P.PatternShop.refused c.loop-taken.shop)) c.in_default.ensures.only) c.in_default.ensures.kept

pub returns-then-n-eq0-clause-ends : goal.returns-then-n-eq0-clause-ends
returns-then-n-eq0-clause-ends g c = ends_as g.setting c.finish.result (beside (g.E.Edge.seen c.args.edge.now) (g.P.PatternShop.refused c.args.shop.now)) (beside (g.E.Edge.seen c.finish.new.edge) (g.P.PatternShop.refused c.finish.new.shop)) (finish_good c.finish.result _ _ c.finish.ensures.counts).0 (λ input h written k.
    ends_at_end c.finish.result input c.read.new.buf c.loop-taken.talk.reader.bytes c.in-Ok.n c.loop-taken.taken c.loop-taken.talk.session.state.held c.finish.new.talk.session.state.held (beside (g.E.Edge.seen c.args.edge.now) (g.P.PatternShop.refused c.args.shop.now)) (beside (g.E.Edge.seen c.loop-taken.edge) (g.P.PatternShop.refused c.loop-taken.shop))
    (beside (g.E.Edge.seen c.read.new.self) (g.P.PatternShop.refused c.loop-taken.shop)) (beside (g.E.Edge.seen c.finish.new.edge) (g.P.PatternShop.refused c.finish.new.shop)) written (c.loop-taken.invariant.reads input h written k) c.loop-taken.invariant.rest (ap (λ (o : Outside). beside o (g.P.PatternShop.refused c.loop-taken.shop)) c.in-Ok.ensures.only)
    c.in-Ok.ensures.told c.if-n-eq0.true (λ e. omega (arith, length-take {A = ℕ})) c.loop-taken.invariant.within c.finish.ensures.ends (finish_beside c.finish.result (g.E.Edge.seen c.read.new.self) (g.E.Edge.seen c.finish.new.edge) (g.P.PatternShop.refused c.loop-taken.shop) (g.P.PatternShop.refused c.finish.new.shop) c.finish.ensures.counts))

pub loop-taken-preserved : goal.loop-taken-preserved
loop-taken-preserved g c =
    let room : length c.read.new.buf ≡ c.min-room.result = omega (arith, length-take {A = ℕ}) in
    let on = c.in-Ok-On.is ∙ ap Ok c.in-Ok-On.field-0-is in
    let counts = rw on at c.take.ensures.counts in
    record {
      took = λ input h. took_on input c.read.new.buf c.in-Ok.n c.loop-taken.taken _ (beside (g.E.Edge.seen c.loop-taken.edge) (g.P.PatternShop.refused c.loop-taken.shop)) (beside (g.E.Edge.seen c.read.new.self) (g.P.PatternShop.refused c.loop-taken.shop)) (beside (g.E.Edge.seen c.take.new.edge) (g.P.PatternShop.refused c.take.new.shop)) (c.loop-taken.invariant.took input h) c.in-Ok.ensures.told (counts.0).left refl;
      reads = λ input h written k.
          read_on input c.read.new.buf (take c.in-Ok.n (c.read.new.buf ++ drop c.min-room.result c.loop-taken.block)) c.loop-taken.talk.reader.bytes c.take.new.self.reader.bytes c.in-Ok.n c.loop-taken.taken _
          c.loop-taken.talk.session.state.held c.take.new.self.session.state.held (beside (g.E.Edge.seen c.args.edge.now) (g.P.PatternShop.refused c.args.shop.now)) (beside (g.E.Edge.seen c.loop-taken.edge) (g.P.PatternShop.refused c.loop-taken.shop)) (beside (g.E.Edge.seen c.read.new.self) (g.P.PatternShop.refused c.loop-taken.shop)) (beside (g.E.Edge.seen c.take.new.edge) (g.P.PatternShop.refused c.take.new.shop)) written
          (c.loop-taken.invariant.reads input h written k) (ap (λ (o : Outside). beside o (g.P.PatternShop.refused c.loop-taken.shop)) c.in-Ok.ensures.only) c.in-Ok.ensures.told (piece_read c.in-Ok.n c.read.new.buf _ c.in-Ok.ensures.within) (c.take.ensures.on on) (counts.0).left refl;
      serves = c.take.ensures.serves;
      ended = c.take.ensures.ended;
      rest = c.take.ensures.rest on;
      within = omega (arith, c.in-Ok.ensures.within);
      block = block_kept c.read.new.buf c.loop-taken.block c.min-room.result room (omega arith) ∙ c.loop-taken.invariant.block;
      faults = faults_stay (beside (g.E.Edge.seen c.args.edge.now) (g.P.PatternShop.refused c.args.shop.now)) (beside (g.E.Edge.seen c.read.new.self) (g.P.PatternShop.refused c.loop-taken.shop)) (beside (g.E.Edge.seen c.take.new.edge) (g.P.PatternShop.refused c.take.new.shop)) (faults_on (beside (g.E.Edge.seen c.args.edge.now) (g.P.PatternShop.refused c.args.shop.now)) (beside (g.E.Edge.seen c.loop-taken.edge) (g.P.PatternShop.refused c.loop-taken.shop)) (beside (g.E.Edge.seen c.read.new.self) (g.P.PatternShop.refused c.loop-taken.shop)) c.loop-taken.invariant.faults (ap (λ (o : Outside). beside o (g.P.PatternShop.refused c.loop-taken.shop)) c.in-Ok.ensures.only) c.in-Ok.ensures.ok) (record { left = (counts.0).left; faults = (counts.0).faults }) counts.1;
      names = c.take.ensures.names ∙ c.in-Ok.ensures.names ∙ c.loop-taken.invariant.names;
    }

pub returns-in-Err-clause-ends : goal.returns-in-Err-clause-ends
returns-in-Err-clause-ends g c =
    let counts = rw c.in-Err.is at c.take.ensures.counts in
    error_ends c.in-Err.error c.status_of.result (beside (g.E.Edge.seen c.args.edge.now) (g.P.PatternShop.refused c.args.shop.now)) (beside (g.E.Edge.seen c.take.new.edge) (g.P.PatternShop.refused c.take.new.shop)) c.status_of.ensures.failed c.status_of.ensures.starved (λ input h written k.
    ends_in_part input c.read.new.buf (take c.in-Ok.n (c.read.new.buf ++ drop c.min-room.result c.loop-taken.block)) c.loop-taken.talk.reader.bytes c.in-Ok.n c.loop-taken.taken c.loop-taken.talk.session.state.held
    (beside (g.E.Edge.seen c.args.edge.now) (g.P.PatternShop.refused c.args.shop.now)) (beside (g.E.Edge.seen c.loop-taken.edge) (g.P.PatternShop.refused c.loop-taken.shop)) (beside (g.E.Edge.seen c.read.new.self) (g.P.PatternShop.refused c.loop-taken.shop)) (beside (g.E.Edge.seen c.take.new.edge) (g.P.PatternShop.refused c.take.new.shop)) written (c.loop-taken.invariant.reads input h written k) c.loop-taken.invariant.rest (ap (λ (o : Outside). beside o (g.P.PatternShop.refused c.loop-taken.shop)) c.in-Ok.ensures.only)
    c.in-Ok.ensures.told (piece_read c.in-Ok.n c.read.new.buf _ c.in-Ok.ensures.within) (omega (arith, length-take {A = ℕ})) (omega (arith, c.in-Ok.ensures.within, length-take {A = ℕ})) c.in-Err.ensures.part
    (error_left c.in-Err.error (g.E.Edge.seen c.read.new.self) (g.E.Edge.seen c.take.new.edge) counts))

pub returns-in-Ok-eq0-clause-ends : goal.returns-in-Ok-eq0-clause-ends
returns-in-Ok-eq0-clause-ends g c = ends_as g.setting c.finish-in-Ok-eq0.result (beside (g.E.Edge.seen c.args.edge.now) (g.P.PatternShop.refused c.args.shop.now)) (beside (g.E.Edge.seen c.finish-in-Ok-eq0.new.edge) (g.P.PatternShop.refused c.finish-in-Ok-eq0.new.shop)) (finish_good c.finish-in-Ok-eq0.result _ _ c.finish-in-Ok-eq0.ensures.counts).0 (λ input h written k.
    ends_at_end c.finish-in-Ok-eq0.result input c.read-2.new.buf c.loop-taken.talk.reader.bytes c.in-Ok-eq0.field-0 c.loop-taken.taken c.loop-taken.talk.session.state.held c.finish-in-Ok-eq0.new.talk.session.state.held (beside (g.E.Edge.seen c.args.edge.now) (g.P.PatternShop.refused c.args.shop.now))
    (beside (g.E.Edge.seen c.loop-taken.edge) (g.P.PatternShop.refused c.loop-taken.shop)) (beside (g.E.Edge.seen c.read-2.new.self) (g.P.PatternShop.refused c.loop-taken.shop)) (beside (g.E.Edge.seen c.finish-in-Ok-eq0.new.edge) (g.P.PatternShop.refused c.finish-in-Ok-eq0.new.shop)) written (c.loop-taken.invariant.reads input h written k) c.loop-taken.invariant.rest (ap (λ (o : Outside). beside o (g.P.PatternShop.refused c.loop-taken.shop)) c.in-Ok-eq0.ensures.only)
    c.in-Ok-eq0.ensures.told c.in-Ok-eq0.field-0-test (λ e. omega (arith, length-take {A = ℕ})) c.loop-taken.invariant.within c.finish-in-Ok-eq0.ensures.ends (finish_beside c.finish-in-Ok-eq0.result (g.E.Edge.seen c.read-2.new.self) (g.E.Edge.seen c.finish-in-Ok-eq0.new.edge) (g.P.PatternShop.refused c.loop-taken.shop) (g.P.PatternShop.refused c.finish-in-Ok-eq0.new.shop) c.finish-in-Ok-eq0.ensures.counts))

pub returns-in-Ok-read-clause-ends : goal.returns-in-Ok-read-clause-ends
returns-in-Ok-read-clause-ends g c = λ input h written k.
    ends_too_long input c.read-2.new.buf c.loop-taken.talk.reader.bytes c.in-Ok-read.field-0 c.loop-taken.taken c.loop-taken.talk.session.state.held (beside (g.E.Edge.seen c.args.edge.now) (g.P.PatternShop.refused c.args.shop.now)) (beside (g.E.Edge.seen c.loop-taken.edge) (g.P.PatternShop.refused c.loop-taken.shop)) (beside (g.E.Edge.seen c.read-2.new.self) (g.P.PatternShop.refused c.loop-taken.shop)) written
    (c.loop-taken.invariant.reads input h written k) c.loop-taken.invariant.rest (omega arith) (ap (λ (o : Outside). beside o (g.P.PatternShop.refused c.loop-taken.shop)) c.in-Ok-read.ensures.only) c.in-Ok-read.ensures.told c.in-Ok-read.field-0-test.1 (omega (arith, c.in-Ok-read.ensures.within, length-take {A = ℕ}))

pub returns-in-Ok-read-clause-is_long : goal.returns-in-Ok-read-clause-is_long
returns-in-Ok-read-clause-is_long g c = λ e input h.
    is_long input c.read-2.new.buf c.in-Ok-read.field-0 c.loop-taken.taken (beside (g.E.Edge.seen c.loop-taken.edge) (g.P.PatternShop.refused c.loop-taken.shop)) (beside (g.E.Edge.seen c.read-2.new.self) (g.P.PatternShop.refused c.loop-taken.shop)) (c.loop-taken.invariant.took input h) (omega arith) c.in-Ok-read.ensures.told c.in-Ok-read.field-0-test.1

pub returns-in-Err-read-clause-ends : goal.returns-in-Err-read-clause-ends
returns-in-Err-read-clause-ends g c = λ input h written k.
    ends_with_fault input c.loop-taken.talk.reader.bytes c.loop-taken.taken c.loop-taken.talk.session.state.held (beside (g.E.Edge.seen c.args.edge.now) (g.P.PatternShop.refused c.args.shop.now)) (beside (g.E.Edge.seen c.loop-taken.edge) (g.P.PatternShop.refused c.loop-taken.shop)) (beside (g.E.Edge.seen c.read-2.new.self) (g.P.PatternShop.refused c.loop-taken.shop)) written
    (c.loop-taken.invariant.reads input h written k) c.loop-taken.invariant.rest c.loop-taken.invariant.within (ap (λ (o : Outside). beside o (g.P.PatternShop.refused c.loop-taken.shop)) c.in-Err-read.ensures.only) c.in-Err-read.ensures.kept

pub returns-in-Ok-Over-clause-ends : goal.returns-in-Ok-Over-clause-ends
returns-in-Ok-Over-clause-ends g c =
    let over = c.in-Ok-Over.is ∙ ap Ok c.in-Ok-Over.field-0-is in
    let counts = rw over at c.take.ensures.counts in
    λ input h written k.
    ends_at_quit input c.read.new.buf (take c.in-Ok.n (c.read.new.buf ++ drop c.min-room.result c.loop-taken.block)) c.loop-taken.talk.reader.bytes c.in-Ok.n c.loop-taken.taken c.loop-taken.talk.session.state.held
    (beside (g.E.Edge.seen c.args.edge.now) (g.P.PatternShop.refused c.args.shop.now)) (beside (g.E.Edge.seen c.loop-taken.edge) (g.P.PatternShop.refused c.loop-taken.shop)) (beside (g.E.Edge.seen c.read.new.self) (g.P.PatternShop.refused c.loop-taken.shop)) (beside (g.E.Edge.seen c.take.new.edge) (g.P.PatternShop.refused c.take.new.shop)) written (c.loop-taken.invariant.reads input h written k) c.loop-taken.invariant.rest (ap (λ (o : Outside). beside o (g.P.PatternShop.refused c.loop-taken.shop)) c.in-Ok.ensures.only)
    c.in-Ok.ensures.told (piece_read c.in-Ok.n c.read.new.buf _ c.in-Ok.ensures.within) (omega (arith, length-take {A = ℕ})) (omega (arith, c.in-Ok.ensures.within, length-take {A = ℕ})) (c.take.ensures.over over) (counts.0).left

pub returns-in_default-clause-faults : goal.returns-in_default-clause-faults
returns-in_default-clause-faults g c = source_fault (beside (g.E.Edge.seen c.args.edge.now) (g.P.PatternShop.refused c.args.shop.now)) (beside (g.E.Edge.seen c.loop-taken.edge) (g.P.PatternShop.refused c.loop-taken.shop)) (beside (g.E.Edge.seen c.read.new.self) (g.P.PatternShop.refused c.loop-taken.shop)) c.loop-taken.invariant.faults (ap (λ (o : Outside). beside o (g.P.PatternShop.refused c.loop-taken.shop)) c.in_default.ensures.only) c.in_default.ensures.failed

pub returns-in_default-clause-is_long : goal.returns-in_default-clause-is_long
returns-in_default-clause-is_long g c = λ e. cc

pub returns-in_default-clause-good : goal.returns-in_default-clause-good
returns-in_default-clause-good g c = λ e. cc

pub returns-in_default-clause-names : goal.returns-in_default-clause-names
returns-in_default-clause-names g c = c.in_default.ensures.names ∙ c.loop-taken.invariant.names

pub returns-in-Err-read-clause-faults : goal.returns-in-Err-read-clause-faults
returns-in-Err-read-clause-faults g c = source_fault (beside (g.E.Edge.seen c.args.edge.now) (g.P.PatternShop.refused c.args.shop.now)) (beside (g.E.Edge.seen c.loop-taken.edge) (g.P.PatternShop.refused c.loop-taken.shop)) (beside (g.E.Edge.seen c.read-2.new.self) (g.P.PatternShop.refused c.loop-taken.shop)) c.loop-taken.invariant.faults (ap (λ (o : Outside). beside o (g.P.PatternShop.refused c.loop-taken.shop)) c.in-Err-read.ensures.only) c.in-Err-read.ensures.failed

pub returns-in-Err-read-clause-is_long : goal.returns-in-Err-read-clause-is_long
returns-in-Err-read-clause-is_long g c = λ e. cc

pub returns-in-Err-read-clause-good : goal.returns-in-Err-read-clause-good
returns-in-Err-read-clause-good g c = λ e. cc

pub returns-in-Err-read-clause-names : goal.returns-in-Err-read-clause-names
returns-in-Err-read-clause-names g c = c.in-Err-read.ensures.names ∙ c.loop-taken.invariant.names

pub returns-then-n-eq0-clause-faults : goal.returns-then-n-eq0-clause-faults
returns-then-n-eq0-clause-faults g c = faults_at_end c.finish.result (beside (g.E.Edge.seen c.args.edge.now) (g.P.PatternShop.refused c.args.shop.now)) (beside (g.E.Edge.seen c.read.new.self) (g.P.PatternShop.refused c.loop-taken.shop)) (beside (g.E.Edge.seen c.finish.new.edge) (g.P.PatternShop.refused c.finish.new.shop)) (faults_on (beside (g.E.Edge.seen c.args.edge.now) (g.P.PatternShop.refused c.args.shop.now)) (beside (g.E.Edge.seen c.loop-taken.edge) (g.P.PatternShop.refused c.loop-taken.shop)) (beside (g.E.Edge.seen c.read.new.self) (g.P.PatternShop.refused c.loop-taken.shop)) c.loop-taken.invariant.faults (ap (λ (o : Outside). beside o (g.P.PatternShop.refused c.loop-taken.shop)) c.in-Ok.ensures.only) c.in-Ok.ensures.ok) (finish_beside c.finish.result (g.E.Edge.seen c.read.new.self) (g.E.Edge.seen c.finish.new.edge) (g.P.PatternShop.refused c.loop-taken.shop) (g.P.PatternShop.refused c.finish.new.shop) c.finish.ensures.counts)

pub returns-then-n-eq0-clause-is_long : goal.returns-then-n-eq0-clause-is_long
returns-then-n-eq0-clause-is_long g c = λ e. absurd ((finish_good c.finish.result _ _ c.finish.ensures.counts).1 e)

pub returns-then-n-eq0-clause-good : goal.returns-then-n-eq0-clause-good
returns-then-n-eq0-clause-good g c = (finish_good c.finish.result _ _ c.finish.ensures.counts).0

pub returns-then-n-eq0-clause-names : goal.returns-then-n-eq0-clause-names
returns-then-n-eq0-clause-names g c = c.finish.ensures.names ∙ c.in-Ok.ensures.names ∙ c.loop-taken.invariant.names

pub returns-in-Ok-eq0-clause-faults : goal.returns-in-Ok-eq0-clause-faults
returns-in-Ok-eq0-clause-faults g c = faults_at_end c.finish-in-Ok-eq0.result (beside (g.E.Edge.seen c.args.edge.now) (g.P.PatternShop.refused c.args.shop.now)) (beside (g.E.Edge.seen c.read-2.new.self) (g.P.PatternShop.refused c.loop-taken.shop)) (beside (g.E.Edge.seen c.finish-in-Ok-eq0.new.edge) (g.P.PatternShop.refused c.finish-in-Ok-eq0.new.shop)) (faults_on (beside (g.E.Edge.seen c.args.edge.now) (g.P.PatternShop.refused c.args.shop.now)) (beside (g.E.Edge.seen c.loop-taken.edge) (g.P.PatternShop.refused c.loop-taken.shop)) (beside (g.E.Edge.seen c.read-2.new.self) (g.P.PatternShop.refused c.loop-taken.shop)) c.loop-taken.invariant.faults (ap (λ (o : Outside). beside o (g.P.PatternShop.refused c.loop-taken.shop)) c.in-Ok-eq0.ensures.only) c.in-Ok-eq0.ensures.ok) (finish_beside c.finish-in-Ok-eq0.result (g.E.Edge.seen c.read-2.new.self) (g.E.Edge.seen c.finish-in-Ok-eq0.new.edge) (g.P.PatternShop.refused c.loop-taken.shop) (g.P.PatternShop.refused c.finish-in-Ok-eq0.new.shop) c.finish-in-Ok-eq0.ensures.counts)

pub returns-in-Ok-eq0-clause-is_long : goal.returns-in-Ok-eq0-clause-is_long
returns-in-Ok-eq0-clause-is_long g c = λ e. absurd ((finish_good c.finish-in-Ok-eq0.result _ _ c.finish-in-Ok-eq0.ensures.counts).1 e)

pub returns-in-Ok-eq0-clause-good : goal.returns-in-Ok-eq0-clause-good
returns-in-Ok-eq0-clause-good g c = (finish_good c.finish-in-Ok-eq0.result _ _ c.finish-in-Ok-eq0.ensures.counts).0

pub returns-in-Ok-eq0-clause-names : goal.returns-in-Ok-eq0-clause-names
returns-in-Ok-eq0-clause-names g c = c.finish-in-Ok-eq0.ensures.names ∙ c.in-Ok-eq0.ensures.names ∙ c.loop-taken.invariant.names

pub returns-in-Err-clause-faults : goal.returns-in-Err-clause-faults
returns-in-Err-clause-faults g c =
    let counts = rw c.in-Err.is at c.take.ensures.counts in
    error_faults_beside c.in-Err.error c.status_of.result (beside (g.E.Edge.seen c.args.edge.now) (g.P.PatternShop.refused c.args.shop.now)) (g.E.Edge.seen c.read.new.self) (g.E.Edge.seen c.take.new.edge) (g.P.PatternShop.refused c.loop-taken.shop) (g.P.PatternShop.refused c.take.new.shop) c.status_of.ensures.failed c.status_of.ensures.starved (faults_on (beside (g.E.Edge.seen c.args.edge.now) (g.P.PatternShop.refused c.args.shop.now)) (beside (g.E.Edge.seen c.loop-taken.edge) (g.P.PatternShop.refused c.loop-taken.shop)) (beside (g.E.Edge.seen c.read.new.self) (g.P.PatternShop.refused c.loop-taken.shop)) c.loop-taken.invariant.faults (ap (λ (o : Outside). beside o (g.P.PatternShop.refused c.loop-taken.shop)) c.in-Ok.ensures.only) c.in-Ok.ensures.ok) counts

pub returns-in-Err-clause-is_long : goal.returns-in-Err-clause-is_long
returns-in-Err-clause-is_long g c = λ e. absurd ((error_good c.in-Err.error c.status_of.result c.status_of.ensures.failed c.status_of.ensures.starved).1 e)

pub returns-in-Err-clause-good : goal.returns-in-Err-clause-good
returns-in-Err-clause-good g c = (error_good c.in-Err.error c.status_of.result c.status_of.ensures.failed c.status_of.ensures.starved).0

pub returns-in-Err-clause-names : goal.returns-in-Err-clause-names
returns-in-Err-clause-names g c = c.take.ensures.names ∙ c.in-Ok.ensures.names ∙ c.loop-taken.invariant.names

pub returns-in-Ok-Over-clause-faults : goal.returns-in-Ok-Over-clause-faults
returns-in-Ok-Over-clause-faults g c =
    let counts = rw (c.in-Ok-Over.is ∙ ap Ok c.in-Ok-Over.field-0-is) at c.take.ensures.counts in
    faults_stay (beside (g.E.Edge.seen c.args.edge.now) (g.P.PatternShop.refused c.args.shop.now)) (beside (g.E.Edge.seen c.read.new.self) (g.P.PatternShop.refused c.loop-taken.shop)) (beside (g.E.Edge.seen c.take.new.edge) (g.P.PatternShop.refused c.take.new.shop)) (faults_on (beside (g.E.Edge.seen c.args.edge.now) (g.P.PatternShop.refused c.args.shop.now)) (beside (g.E.Edge.seen c.loop-taken.edge) (g.P.PatternShop.refused c.loop-taken.shop)) (beside (g.E.Edge.seen c.read.new.self) (g.P.PatternShop.refused c.loop-taken.shop)) c.loop-taken.invariant.faults (ap (λ (o : Outside). beside o (g.P.PatternShop.refused c.loop-taken.shop)) c.in-Ok.ensures.only) c.in-Ok.ensures.ok) (record { left = counts.0.left; faults = counts.0.faults }) counts.1

pub returns-in-Ok-Over-clause-is_long : goal.returns-in-Ok-Over-clause-is_long
returns-in-Ok-Over-clause-is_long g c = λ e. cc

pub returns-in-Ok-Over-clause-good : goal.returns-in-Ok-Over-clause-good
returns-in-Ok-Over-clause-good g c = λ e. cc

pub returns-in-Ok-Over-clause-names : goal.returns-in-Ok-Over-clause-names
returns-in-Ok-Over-clause-names g c = c.take.ensures.names ∙ c.in-Ok.ensures.names ∙ c.loop-taken.invariant.names

pub returns-in-Ok-read-clause-faults : goal.returns-in-Ok-read-clause-faults
returns-in-Ok-read-clause-faults g c = faults_on (beside (g.E.Edge.seen c.args.edge.now) (g.P.PatternShop.refused c.args.shop.now)) (beside (g.E.Edge.seen c.loop-taken.edge) (g.P.PatternShop.refused c.loop-taken.shop)) (beside (g.E.Edge.seen c.read-2.new.self) (g.P.PatternShop.refused c.loop-taken.shop)) c.loop-taken.invariant.faults (ap (λ (o : Outside). beside o (g.P.PatternShop.refused c.loop-taken.shop)) c.in-Ok-read.ensures.only) c.in-Ok-read.ensures.ok

pub returns-in-Ok-read-clause-good : goal.returns-in-Ok-read-clause-good
returns-in-Ok-read-clause-good g c = λ e. cc

pub returns-in-Ok-read-clause-names : goal.returns-in-Ok-read-clause-names
returns-in-Ok-read-clause-names g c = c.in-Ok-read.ensures.names ∙ c.loop-taken.invariant.names
