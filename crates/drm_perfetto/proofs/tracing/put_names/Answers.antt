use Rattle.std.proofs.Common.{◌≡◌, ℕ, ◌∷◌, [], ap, arith, subst}
use Rattle.drm_perfetto.specs.Pens.{AddsEntries}
use Rattle.drm_perfetto.specs.declared.entry.Entry.TheVariants as entry
use Rattle.drm_perfetto.specs.declared.entry.Track.{Track}
use Rattle.drm_perfetto.specs.Steps.{each}
use Rattle.drm_perfetto.specs.Traces.{track_of}
use Rattle.drm_perfetto.specs.Tracks.{count_of}
use Rattle.drm_perfetto.proofs.Pens.{entries_more, entries_none, entries_same}
use Rattle.drm_perfetto.proofs.RowFacts.{each_more}
use Rattle.drm_perfetto.proofs.tracing.put_names.Goals as goal

pub loop-number-init : goal.loop-number-init
loop-number-init g c = entries_none c.args.pen.now c.args.writer.now

pub loop-number-preserved : goal.loop-number-preserved
loop-number-preserved g c =
    let named = λ (n : ℕ). entry.Name (track_of c.args.lane n) ∷ [] in
    entries_same (each_more c.loop-number.number named)
    (entries_more c.loop-number.invariant (entries_same (ap (λ (t : Track). entry.Name t ∷ []) c.track.ensures) c.put.ensures))

pub returns : goal.returns
returns g c =
    let all : c.loop-number.number ≡ count_of c.args.core.now.device.spec c.args.lane = omega (arith, c.count-number-end.ensures, c.loop-number-test.false, c.loop-number.auto.number-end) in
    subst (λ (k : ℕ). AddsEntries c.args.pen.now c.args.writer.now (each k (λ n. entry.Name (track_of c.args.lane n) ∷ [])) c.loop-number.pen c.loop-number.writer) all c.loop-number.invariant
