use Rattle.std.proofs.Common.{Bool, subst, sym}
use Rattle.drmsim.specs.Statuses.{TestsScript}
use Rattle.drmsim.proofs.test_script.Goals as goal

pub returns-then-lowers-clause-ending : goal.returns-then-lowers-clause-ending
returns-then-lowers-clause-ending g c =
    subst (λ (b : Bool). TestsScript b c.args.reader.now.remaining c.args.writer.now.contents c.lower.new.writer.contents c.lower.result) (sym c.if-lowers.true) c.lower.ensures.ending

pub returns-else-lowers-clause-ending : goal.returns-else-lowers-clause-ending
returns-else-lowers-clause-ending g c =
    subst (λ (b : Bool). TestsScript b c.args.reader.now.remaining c.args.writer.now.contents c.test.new.writer.contents c.test.result) (sym c.if-lowers.false) c.test.ensures.ending
