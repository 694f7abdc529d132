use Rattle.std.proofs.Common.{[], refl}
use Rattle.drm_engine.proofs.Pieces.{all_written, kept_so_far}
use Rattle.drm_perfetto.specs.Traces.{text_of_trace}
use Rattle.drm_perfetto.proofs.Pens.{adds_more}
use Rattle.drm_perfetto.proofs.tracing.write_trace.Goals as goal

pub returns : goal.returns
returns g c =
    let run = c.put_steps.ensures in
    let text = text_of_trace c.args.core.now.device.spec run.1 in
    let adds = adds_more (adds_more (adds_more c.put_words.ensures c.put_all_names.ensures.adds) run.3.adds) c.put_words-2.ensures in
    let told = adds.told c.args.writer.now [] (rw c.requires.bare (kept_so_far c.args.writer.now [])) in
    (run.0, run.1, run.2, all_written c.args.writer.now c.finish.new.writer c.finish.result text [] refl (c.finish.ensures c.args.writer.now text told))
