use Rattle.std.proofs.Common.{◌≡◌, ◌≢◌, ◌∙◌, ℕ, ap, sym, subst, refl, rules, arith, Some, slice_get}
use Rattle.std.proofs.lemmas.Option.{slice_get_within, slice_get-get_or}
use mathlib.Core.Logic.{dite}
use native.Mathlib.Decide.{ℕ_discrete}
use Rattle.ww_lock.specs.Rule.{In}
use Rattle.drm_resv.specs.Reservation.{WithRoom}
use Rattle.drm_gpu.proofs.Lists.{at_of, in_of}
use Rattle.drm_gpu.proofs.locking.has_buffer.Goals as goal

pub returns-then-eq-clause-held : goal.returns-then-eq-clause-held
returns-then-eq-clause-held c t =
    let xs = c.args.held.now in
    let i = c.loop-place.place in
    let r = c.index-held-place.result in
    let same : r.0 ≡ c.args.buffer = search rules in
    (r.1, subst (λ n. In (n, r.1) xs) same (in_of xs i r (slice_get-get_or xs i r c.loop-place-test.true ∙ ap Some (sym c.index-held-place.is))))

pub loop-place-preserved : goal.loop-place-preserved
loop-place-preserved c k h less at key =
    let xs = c.args.held.now in
    let i = c.loop-place.place in
    let r = c.index-held-place.result in
    let other : r.0 ≢ c.args.buffer = search rules in
    dite (ℕ_discrete k i)
    (λ e. let whole : Some r ≡ Some h = sym (slice_get-get_or xs i r c.loop-place-test.true ∙ ap Some (sym c.index-held-place.is)) ∙ (ap (slice_get xs) (sym e) ∙ at) in
    let is : r ≡ h = cc (whole) in
    other (ap (λ (z : ℕ × WithRoom). z.0) is ∙ key))
    (λ ne. c.loop-place.invariant k h (omega (arith, less, ne)) at key)

pub returns-clause-lacks : goal.returns-clause-lacks
returns-clause-lacks c t x has =
    let xs = c.args.held.now in
    let k = at_of xs (c.args.buffer, x) has in
    let within = slice_get_within xs k.0 (c.args.buffer, x) k.1 in
    let end = c.loop-place-test.false in
    c.loop-place.invariant k.0 (c.args.buffer, x) (omega (arith, within, end)) k.1 refl
