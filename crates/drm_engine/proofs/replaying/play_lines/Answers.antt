use Rattle.std.proofs.Common.{refl, subst, sym}
use Rattle.std.specs.Io.KnownBytes.{Appends}
use Rattle.drm_core.specs.Lawful.{IsLawful}
use Rattle.drm_core.specs.State.{CoreState}
use Rattle.drm_stream.specs.Streams.{NoWriteFailed}
use Rattle.drm_engine.specs.Replaying.{ToldFront}
use Rattle.drm_engine.proofs.Pieces.{opened_lawful, played_lines}
use Rattle.drm_engine.proofs.replaying.play_lines.Goals as goal

pub write_lines-requires-clause-lawful : goal.write_lines-requires-clause-lawful
write_lines-requires-clause-lawful g c =
    subst IsLawful (sym c.in-Ok-build.ensures.ok.0) (opened_lawful c.args.script.spec c.every_run_is_lawful.ensures)

pub write_lines-requires-clause-limits : goal.write_lines-requires-clause-limits
write_lines-requires-clause-limits g c = rw c.in-Ok-build.ensures.ok.0 c.requires.fits

pub write_lines-requires-clause-known : goal.write_lines-requires-clause-known
write_lines-requires-clause-known g c =
    subst (λ (s : CoreState). g.L.Lines.knows c.args.lines.now s) (sym c.in-Ok-build.ensures.ok.0) (c.requires.known c.args.script.spec)

pub returns-in-Ok-write_lines-clause-ending : goal.returns-in-Ok-write_lines-clause-ending
returns-in-Ok-write_lines-clause-ending g c =
    let p = played_lines g.L.Lines.line c.args.script c.in-Ok-build.core c.write_lines.new.core c.args.script.lines
    (λ text. Appends c.args.writer.now.contents c.write_lines.new.writer.contents text × NoWriteFailed c.args.writer.now c.write_lines.new.writer)
    c.every_run_is_lawful.ensures c.headline.ensures c.in-Ok-build.ensures.ok.0 refl c.requires.exist c.in-Ok-write_lines.ensures in
    (p.0, p.1, (p.2.0, p.2.1, p.2.2, p.2.3.0))

pub returns-in-Ok-write_lines-clause-failures : goal.returns-in-Ok-write_lines-clause-failures
returns-in-Ok-write_lines-clause-failures g c = λ from to read. (read, c.in-Ok-write_lines.ensures.3.1)

pub returns-clause-ending : goal.returns-clause-ending
returns-clause-ending g c =
    let p = played_lines g.L.Lines.line c.args.script c.in-Ok-build.core c.write_lines.new.core c.args.script.lines
    (λ text. ToldFront c.args.writer.now c.write_lines.new.writer text)
    c.every_run_is_lawful.ensures c.headline.ensures c.in-Ok-build.ensures.ok.0 refl c.requires.exist c.in-Err.ensures in
    (p.0, p.1, (p.2.0, p.2.1, p.2.2, p.2.3.0))

pub returns-clause-failures : goal.returns-clause-failures
returns-clause-failures g c = λ from to read. (read, c.in-Err.ensures.3.1)
