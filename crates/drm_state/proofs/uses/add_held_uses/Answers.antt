use Rattle.std.proofs.Common.{◌≡◌, ◌∙◌, sym, refl, slice_get, Some, get_or, arith}
use Rattle.std.proofs.lemmas.Option.{slice_get_within, slice_get-get_or}
use Rattle.drm_lists.proofs.Changed.{get_set_other}
use Rattle.drm_fence.specs.Fences.{has_ended_at}
use Rattle.drm_state.proofs.HeldFacts.{held_next}
use Rattle.drm_state.proofs.uses.add_held_uses.Goals as goal

pub add_use-requires-clause-room : goal.add_use-requires-clause-room
add_use-requires-clause-room c usage is =
    let hs = c.loop-buffer.held in
    let i = c.loop-buffer.buffer-index in
    let h = get_or hs i c.buffer-item.result in
    let test = c.loop-buffer-test.true in
    let same = c.loop-buffer.auto.buffer-index-end in
    let len = c.loop-buffer.auto.held in
    let at_hs = slice_get-get_or hs i c.buffer-item.result (omega (arith, test, same, len)) in
    c.requires.room i h usage (sym (c.loop-buffer.invariant.rest i (omega arith)) ∙ at_hs) is

pub loop-buffer-preserved : goal.loop-buffer-preserved
loop-buffer-preserved c =
    let hs = c.loop-buffer.held in
    let i = c.loop-buffer.buffer-index in
    let h = get_or hs i c.buffer-item.result in
    let test = c.loop-buffer-test.true in
    let same = c.loop-buffer.auto.buffer-index-end in
    let len = c.loop-buffer.auto.held in
    let at_hs = slice_get-get_or hs i c.buffer-item.result (omega (arith, test, same, len)) in
    let at_old : slice_get c.args.held.now i ≡ Some h = sym (c.loop-buffer.invariant.rest i (omega arith)) ∙ at_hs in
    record {
      done = held_next (has_ended_at c.args.timeline.now.list) c.args.fence c.args.job.now c.args.held.now hs i h (h.0, c.add_use.new.resv) at_old at_hs refl
          (c.add_use.ensures.used, c.add_use.ensures.unused) c.loop-buffer.invariant.done;
      rest = λ k le. get_set_other hs i k (h.0, c.add_use.new.resv) (λ e. omega (arith, le, e)) ∙ c.loop-buffer.invariant.rest k (omega (arith, le));
    }

pub returns : goal.returns
returns c =
    let end = c.loop-buffer-test.false in
    let same = c.loop-buffer.auto.buffer-index-end in
    let len = c.loop-buffer.auto.held in
    record {
      count = len;
      each = λ k h at.
          let within = slice_get_within c.args.held.now k h at in
          c.loop-buffer.invariant.done k h (omega (arith, within, end, same, len)) at;
    }
