use Rattle.std.proofs.Common.{◌≡◌, ◌∙◌, ℕ, ◌<◌, Option, ap, arith, length, length-set, refl, subst, sym}
use Rattle.drm_perfetto.specs.declared.lanes.Row.{Row}
use Rattle.drm_perfetto.specs.Pens.{AddsEntries}
use Rattle.drm_perfetto.specs.Rows.{row_at}
use Rattle.drm_perfetto.specs.Steps.{changed, each}
use Rattle.drm_perfetto.specs.Tracks.{count_of, shown}
use Rattle.drm_perfetto.proofs.Pens.{entries_more, entries_none, entries_same}
use Rattle.drm_perfetto.proofs.Kept.{each_stays, none_followed, none_told, rows_stay, same_is}
use Rattle.drm_perfetto.proofs.RowFacts.{each_more, rows_done, rows_left}
use Rattle.drm_perfetto.proofs.rows.follow.Goals as goal
use Rattle.drm_perfetto.proofs.rows.follow.Goals.{then-not-is_same, else-not-is_same}

pub loop-number-init : goal.loop-number-init
loop-number-init g c = record {
  room = c.requires.room;
  known = c.requires.known;
  done = λ n lt. absurd (omega (arith, lt));
  left = λ n from. refl;
  entries = entries_none c.args.pen.now c.args.writer.now;
}

pub loop-number-preserved : goal.loop-number-preserved
loop-number-preserved g c =
    let core = c.args.core.now in
    let lane = c.args.lane in
    let k = c.loop-number.number in
    let rows = c.loop-number.rows.items in
    let was = c.args.rows.now.items in
    let now = c.shown-new.result in
    let told = λ (n : ℕ). changed lane c.args.change.when c.args.change.cause n (row_at was n) (shown core lane n) in
    let within : k < length rows = omega (arith, c.loop-number.invariant.room, c.count-number-end.ensures, c.loop-number-test.true) in
    let old : c.row_at-old.result ≡ row_at was k = c.row_at-old.ensures ∙ ap (λ (rs : _). row_at rs k) c.as_slice.ensures.value ∙ c.loop-number.invariant.left k (omega arith) in
    let put = ap (λ (r : Option Row). changed lane c.args.change.when c.args.change.cause k r now) old ∙ ap (λ (r : Option Row). changed lane c.args.change.when c.args.change.cause k (row_at was k) r) c.shown-new.ensures.row in
    let was_k : row_at rows k ≡ row_at was k = c.loop-number.invariant.left k (omega arith) in
    elim c.if-not-is_same.branch [
      | then-not-is_same w ↦ rw (w.pen-is, w.writer-is, w.rows-is) (record {
        room = length-set rows k now ∙ c.loop-number.invariant.room;
        known = c.shown-new.ensures.known;
        done = rows_done rows now (shown core lane) k within c.loop-number.invariant.done c.shown-new.ensures.row;
        left = rows_left rows was now k c.loop-number.invariant.left;
        entries = entries_same (each_more k told) (entries_more c.loop-number.invariant.entries (entries_same put w.put_changed.ensures));
      })
      | else-not-is_same w ↦
          let same : c.row_at-old.result ≡ now = same_is c.row_at-old.result now (sym c.is_same.ensures ∙ w.if-not-is_same.false) in
          let stays : row_at was k ≡ shown core lane k = sym old ∙ same ∙ c.shown-new.ensures.row in
          rw (w.pen-is, w.writer-is, w.rows-is) (record {
            room = c.loop-number.invariant.room;
            known = c.shown-new.ensures.known;
            done = rows_stay rows (shown core lane) k c.loop-number.invariant.done (was_k ∙ stays);
            left = λ n from. c.loop-number.invariant.left n (omega (arith, from));
            entries = entries_same (each_stays k told (none_told lane c.args.change.when c.args.change.cause k (row_at was k) (shown core lane k) stays)) c.loop-number.invariant.entries;
          })
    ]

pub returns-then-not-is_moved-clause-entries : goal.returns-then-not-is_moved-clause-entries
returns-then-not-is_moved-clause-entries g c =
    entries_same (none_followed c.args.core.now c.args.lane c.args.change.when c.args.change.cause c.args.rows.now.items (c.requires.kept c.if-not-is_moved.true)) (entries_none c.args.pen.now c.args.writer.now)

pub returns-then-not-is_moved-clause-rows : goal.returns-then-not-is_moved-clause-rows
returns-then-not-is_moved-clause-rows g c = c.requires.kept c.if-not-is_moved.true

pub returns-clause-entries : goal.returns-clause-entries
returns-clause-entries g c =
    let all : c.loop-number.number ≡ count_of c.args.core.now.device.spec c.args.lane = omega (arith, c.count-number-end.ensures, c.loop-number-test.false, c.loop-number.auto.number-end) in
    subst (λ (k : ℕ). AddsEntries c.args.pen.now c.args.writer.now
    (each k (λ n. changed c.args.lane c.args.change.when c.args.change.cause n (row_at c.args.rows.now.items n) (shown c.args.core.now c.args.lane n))) c.loop-number.pen c.loop-number.writer) all c.loop-number.invariant.entries

pub returns-clause-rows : goal.returns-clause-rows
returns-clause-rows g c = (
  c.loop-number.invariant.room,
  λ n lt. c.loop-number.invariant.done n (omega (arith, lt, c.count-number-end.ensures, c.loop-number-test.false)),
)
