use Rattle.std.proofs.Common.{◌≡◌, ◌<◌, ◌≤◌, ◌∙◌, ℕ, ap, sym, subst, arith, get_or, length, Some, slice_get}
use Rattle.std.proofs.lemmas.Option.{slice_get_within, slice_get-get_or}
use mathlib.Core.Logic.{dite}
use native.Mathlib.Decide.{ℕ_discrete}
use Rattle.ww_lock.specs.Rule.{In}
use Rattle.drm_types.specs.declared.access.Access.{Access}
use Rattle.drm_state.specs.Held.{kept_of}
use Rattle.drm_gpu.proofs.Holders.{in_kept, in_kept_of}
use Rattle.drm_gpu.proofs.Lists.{in_contains, contained_in}
use Rattle.drm_gpu.proofs.locking.holds_all.Goals as goal

pub returns-then-not-has_buffer-clause-lacks : goal.returns-then-not-has_buffer-clause-lacks
returns-then-not-has_buffer-clause-lacks c t all =
    let xs = c.args.job.now.declared in
    let i = c.loop-place.place in
    let n = c.index-declared-place.result in
    let lt : i < length xs = subst (λ l. i < length l) c.declared-place-end.ensures c.loop-place-test.true in
    let h = all i (get_or xs i n) (slice_get-get_or xs i n lt) in
    let r = in_kept (get_or xs i n).0 h.0 c.args.held.now (contained_in (kept_of c.args.held.now) ((get_or xs i n).0, h.0) h.1) in
    c.has_buffer.ensures.lacks c.if-not-has_buffer.true r.0 (subst (λ l. In ((get_or l i n).0, r.0) c.args.held.now) (sym c.declared.ensures) r.1)

pub loop-place-preserved : goal.loop-place-preserved
loop-place-preserved c k d less at =
    let xs = c.args.job.now.declared in
    let i = c.loop-place.place in
    let n = c.index-declared-place.result in
    let lt : i < length xs = subst (λ l. i < length l) c.declared-place-end.ensures c.loop-place-test.true in
    dite (ℕ_discrete k i)
    (λ e. let x = c.has_buffer.ensures.held c.if-not-has_buffer.false in
    let is : Some (get_or xs i n) ≡ Some d = sym (slice_get-get_or xs i n lt) ∙ (ap (slice_get xs) (sym e) ∙ at) in
    let same : get_or xs i n ≡ d = cc (is) in
    (x.0, subst (λ m. In (m, x.0) c.args.held.now) (ap (λ l. (get_or l i n).0) c.declared.ensures ∙ ap (λ (z : ℕ × Access). z.0) same) x.1))
    (λ ne. c.loop-place.invariant k d (omega (arith, less, ne)) at)

pub returns-clause-all : goal.returns-clause-all
returns-clause-all c t k d at =
    let xs = c.args.job.now.declared in
    let within = slice_get_within xs k d at in
    let end : length xs ≤ c.loop-place.place = subst (λ l. length l ≤ c.loop-place.place) c.declared-place-end.ensures c.loop-place-test.false in
    let x = c.loop-place.invariant k d (omega (arith, within, end)) at in
    (x.0.kept, in_contains (kept_of c.args.held.now) (d.0, x.0.kept) (in_kept_of d.0 x.0 c.args.held.now x.1))
