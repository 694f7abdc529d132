use Rattle.std.proofs.Common.{◌≡◌, ◌<◌, ◌≤◌, ◌∙◌, ℕ, ap, sym, subst, arith, get_or, length, Some, slice_get}
use Rattle.std.proofs.lemmas.Option.{slice_get_within, slice_get-get_or}
use mathlib.Core.Logic.{dite}
use native.Mathlib.Decide.{ℕ_discrete}
use Rattle.ww_lock.specs.Rule.{In}
use Rattle.drm_types.specs.declared.access.Access.{Access}
use Rattle.drm_state.specs.Held.{kept_of}
use Rattle.drm_gpu.specs.Submissions.{numbers_of}
use Rattle.drm_gpu.proofs.Holders.{in_kept_of}
use Rattle.drm_gpu.proofs.Claims.{holds_on, in_numbers, off_trans, on_itself, on_trans}
use Rattle.drm_gpu.proofs.Lists.{first_half, in_contains}
use Rattle.drm_gpu.proofs.locking.lock_declared.Goals as goal

pub loop-place-init : goal.loop-place-init
loop-place-init g c = record {
  on = on_itself c.args.gpu.now c.args.job.now c.args.acquire.now c.requires.holding.0;
  held = λ k d lt at. absurd (omega (arith, lt));
}

pub hold-requires-clause-holding : goal.hold-requires-clause-holding
hold-requires-clause-holding g c = (c.loop-place.invariant.on.holding, c.loop-place.invariant.on.sealed ∙ c.requires.holding.1)

pub hold-requires-clause-buffer : goal.hold-requires-clause-buffer
hold-requires-clause-buffer g c =
    let xs = c.args.job.now.declared in
    let i = c.loop-place.place in
    let n = c.index-declared-place.result in
    let lt : i < length xs = subst (λ l. i < length l) c.declared-place-end.ensures c.loop-place-test.true in
    subst (λ l. (get_or l i n).0 < length c.args.gpu.now.spec.buffers) (sym c.declared.ensures)
    (first_half (λ b. b < length c.args.gpu.now.spec.buffers) xs i (get_or xs i n) ((c.jobs_are_the_sound_drafts.ensures c.args.gpu.now.spec c.args.job.now).0 c.requires.job).buffers (slice_get-get_or xs i n lt))

pub returns-then-not-hold-clause-on : goal.returns-then-not-hold-clause-on
returns-then-not-hold-clause-on g c =
    let xs = c.args.job.now.declared in
    let i = c.loop-place.place in
    let n = c.index-declared-place.result in
    let lt : i < length xs = subst (λ l. i < length l) c.declared-place-end.ensures c.loop-place-test.true in
    off_trans c.args.gpu.now c.args.job.now _ c.args.acquire.now c.loop-place.acquire c.hold.new.acquire c.loop-place.invariant.on
    (c.hold.ensures.backs_off c.if-not-hold.true c.args.job.now (i, get_or xs i n, slice_get-get_or xs i n lt, sym (ap (λ l. (get_or l i n).0) c.declared.ensures)))

pub returns-then-not-hold-clause-there : goal.returns-then-not-hold-clause-there
returns-then-not-hold-clause-there g c =
    let xs = c.args.job.now.declared in
    let i = c.loop-place.place in
    let n = c.index-declared-place.result in
    let lt : i < length xs = subst (λ l. i < length l) c.declared-place-end.ensures c.loop-place-test.true in
    subst (λ l. (get_or l i n).0 < length c.args.gpu.now.spec.buffers) (sym c.declared.ensures)
    (first_half (λ b. b < length c.args.gpu.now.spec.buffers) xs i (get_or xs i n) ((c.jobs_are_the_sound_drafts.ensures c.args.gpu.now.spec c.args.job.now).0 c.requires.job).buffers (slice_get-get_or xs i n lt))

pub loop-place-preserved : goal.loop-place-preserved
loop-place-preserved g c =
    let xs = c.args.job.now.declared in
    let i = c.loop-place.place in
    let n = c.index-declared-place.result in
    let lt : i < length xs = subst (λ l. i < length l) c.declared-place-end.ensures c.loop-place-test.true in
    let one = c.hold.ensures.locked c.if-not-hold.false c.args.job.now (i, get_or xs i n, slice_get-get_or xs i n lt, sym (ap (λ l. (get_or l i n).0) c.declared.ensures)) in
    record {
      on = on_trans c.args.gpu.now c.args.job.now c.args.acquire.now c.loop-place.acquire c.hold.new.acquire c.loop-place.invariant.on one;
      held = λ k d less at. dite (ℕ_discrete k i)
          (λ e. let is : Some (get_or xs i n) ≡ Some d = sym (slice_get-get_or xs i n lt) ∙ (ap (slice_get xs) (sym e) ∙ at) in
          let same : get_or xs i n ≡ d = cc (is) in
          subst (λ m. In m (numbers_of c.hold.new.acquire)) (ap (λ l. (get_or l i n).0) c.declared.ensures ∙ ap (λ (z : ℕ × Access). z.0) same) (c.hold.ensures.held c.if-not-hold.false))
          (λ ne. holds_on c.args.gpu.now c.args.job.now d.0 c.loop-place.acquire c.hold.new.acquire one (c.loop-place.invariant.held k d (omega (arith, less, ne)) at));
    }

pub returns-clause-on : goal.returns-clause-on
returns-clause-on g c = c.loop-place.invariant.on

pub returns-clause-there : goal.returns-clause-there
returns-clause-there g c k d at =
    let xs = c.args.job.now.declared in
    let within = slice_get_within xs k d at in
    let end : length xs ≤ c.loop-place.place = subst (λ l. length l ≤ c.loop-place.place) c.declared-place-end.ensures c.loop-place-test.false in
    let held = c.loop-place.acquire.seat.held.items in
    let x = in_numbers d.0 held (c.loop-place.invariant.held k d (omega (arith, within, end)) at) in
    (x.0.kept, in_contains (kept_of held) (d.0, x.0.kept) (in_kept_of d.0 x.0 held x.1))
