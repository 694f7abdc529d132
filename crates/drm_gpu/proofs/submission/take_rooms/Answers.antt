use Rattle.std.proofs.Common.{◌≡◌, ◌∙◌, ap, sym, subst, get_or, ℕ, arith, Some, slice_get, set}
use Rattle.std.specs.Prelude.{IsTrue}
use Rattle.std.proofs.lemmas.Option.{slice_get_within, slice_get-get_or}
use mathlib.Core.Logic.{dite}
use native.Mathlib.Decide.{ℕ_discrete}
use Rattle.drm_lists.proofs.Changed.{get_set_same, get_set_other}
use Rattle.drm_resv.specs.Reservation.{WithRoom}
use Rattle.drm_gpu.proofs.Rooms.{kept_set}
use Rattle.drm_gpu.proofs.submission.take_rooms.Goals as goal

pub returns-in_err-reserve-clause-kept : goal.returns-in_err-reserve-clause-kept
returns-in_err-reserve-clause-kept c =
    let test = c.loop-resv-test.true in
    let same = c.loop-resv.auto.resv-index-end in
    let len = c.loop-resv.auto.held in
    kept_set c.loop-resv.held c.loop-resv.resv-index c.held-item.result c.reserve.new.self (omega (arith, test, same, len)) c.reserve.ensures.kept ∙ c.loop-resv.invariant.kept

pub loop-resv-preserved : goal.loop-resv-preserved
loop-resv-preserved c =
    let hs = c.loop-resv.held in
    let i = c.loop-resv.resv-index in
    let test = c.loop-resv-test.true in
    let same = c.loop-resv.auto.resv-index-end in
    let len = c.loop-resv.auto.held in
    let old = get_or hs i c.held-item.result in
    let new : ℕ × WithRoom = (old.0, c.reserve.new.self) in
    let at_hs = slice_get-get_or hs i c.held-item.result (omega (arith, test, same, len)) in
    record {
      kept = kept_set hs i c.held-item.result c.reserve.new.self (omega (arith, test, same, len)) c.reserve.ensures.kept ∙ c.loop-resv.invariant.kept;
      room = λ k h lt at. dite (ℕ_discrete k i)
          (λ e. let is : Some new ≡ Some h = sym (get_set_same hs i old new at_hs) ∙ (ap (slice_get (set hs i new)) (sym e) ∙ at) in
          let here : new ≡ h = cc (is) in
          subst (λ x. IsTrue x.1.has_room) here c.in_ok-reserve.ensures.ok)
          (λ ne. c.loop-resv.invariant.room k h (omega (arith, lt, ne)) (sym (get_set_other hs i k new (λ e. ne e)) ∙ at));
    }

pub returns-clause-room : goal.returns-clause-room
returns-clause-room c job k h usage at uses =
    let within = slice_get_within c.loop-resv.held k h at in
    let end = c.loop-resv-test.false in
    let same = c.loop-resv.auto.resv-index-end in
    let len = c.loop-resv.auto.held in
    c.loop-resv.invariant.room k h (omega (arith, within, end, same, len)) at
