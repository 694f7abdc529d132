use Rattle.std.proofs.Common.{◌≡◌, ◌+◌, Some, slice_index_or, slice_get, refl, sym, ap, ◌∙◌, subst, arith, length}
use Rattle.std.proofs.lemmas.List.{length-set}
use Rattle.std.proofs.lemmas.Option.{slice_get_read, slice_get-get_or}
use Rattle.drm_workers.proofs.Tallies.{Tally, counted, passed_over, has_room}
use Rattle.drm_workers.proofs.counting.count_rings.Goals.{then-ring-lt-MOST_RINGS, else-ring-lt-MOST_RINGS}
use Rattle.drm_workers.proofs.counting.count_rings.Goals as goal

pub overflow_add-counts : goal.overflow_add-counts
overflow_add-counts c =
    let rs = c.args.records.now in
    let i = c.loop-record.record-index in
    let r = c.record-item.result in
    let counts = c.loop-record.counts in
    let at : slice_get rs i ≡ Some r = slice_get_read rs (length rs) i r refl c.loop-record-test.true c.record-item.is in
    let here : slice_get counts r.ring ≡ Some (slice_index_or counts r.ring 0) =
    slice_get-get_or counts r.ring 0 (omega (arith, c.loop-record.invariant.0, c.if-ring-lt-MOST_RINGS.true)) in
    let room = has_room rs i r counts (slice_index_or counts r.ring 0) at here c.loop-record.invariant.1 in
    omega (arith, room, c.requires)

pub loop-record-preserved : goal.loop-record-preserved
loop-record-preserved c =
    let rs = c.args.records.now in
    let i = c.loop-record.record-index in
    let r = c.record-item.result in
    let counts = c.loop-record.counts in
    let at : slice_get rs i ≡ Some r = slice_get_read rs (length rs) i r refl c.loop-record-test.true c.record-item.is in
    elim c.if-ring-lt-MOST_RINGS.branch [
      | then-ring-lt-MOST_RINGS w ↦
          let here : slice_get counts r.ring ≡ Some (slice_index_or counts r.ring 0) =
          slice_get-get_or counts r.ring 0 (omega (arith, c.loop-record.invariant.0, w.if-ring-lt-MOST_RINGS.true)) in (
            ap length w.counts-is ∙ (length-set counts r.ring (slice_index_or counts r.ring 0 + 1) ∙ c.loop-record.invariant.0),
            counted rs i r counts c.if-ring-lt-MOST_RINGS.counts (slice_index_or counts r.ring 0) at here w.counts-is c.loop-record.invariant.1,
          )
      | else-ring-lt-MOST_RINGS w ↦ (
        ap length w.counts-is ∙ c.loop-record.invariant.0,
        subst (Tally rs (i + 1)) (sym w.counts-is)
            (passed_over rs i r counts at (omega (arith, c.loop-record.invariant.0, w.if-ring-lt-MOST_RINGS.false)) c.loop-record.invariant.1),
      )
    ]
