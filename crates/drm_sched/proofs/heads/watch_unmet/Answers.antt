use Rattle.std.proofs.Common.{◌≡◌, ◌<◌, ◌+◌, ℕ, length, take, refl, sym, subst, ◌∙◌, slice_index_or, get_or, List}
use Rattle.std.proofs.lemmas.Option.{slice_get-get_or}
use Rattle.std.proofs.lemmas.List.{take_all}
use Rattle.drm_sched.specs.Heads.{AreWatched}
use Rattle.drm_sched.specs.Watching.{unmet_pairs}
use Rattle.drm_sched.proofs.Watching.{IsWatching, no_pair, watching_more, watching_met}
use Rattle.drm_sched.proofs.heads.watch_unmet.Goals as goal
use Rattle.drm_sched.proofs.heads.watch_unmet.Goals.{then-not-is_met, else-not-is_met}

pub loop-dep-init : goal.loop-dep-init
loop-dep-init c = record { watched = c.requires.none; others = λ e pairs apart are. are; entities = refl; fences = refl }

pub watch-requires-clause-new : goal.watch-requires-clause-new
watch-requires-clause-new c =
    let deps = c.args.deps.now in
    no_pair c.loop-dep.waiters.pairs c.args.journal.now c.args.entity c.args.ring c.loop-dep.dep-index (slice_index_or deps c.loop-dep.dep-index (0, 0)) deps
    c.loop-dep.invariant.watched c.requires.once
    (slice_get-get_or deps c.loop-dep.dep-index (0, 0) c.loop-dep-test.true)

pub loop-dep-preserved : goal.loop-dep-preserved
loop-dep-preserved c =
    let deps = c.args.deps.now in
    let i = c.loop-dep.dep-index in
    let d = slice_index_or deps i (0, 0) in
    elim c.if-not-is_met.branch [
      | then-not-is_met w ↦
          subst (IsWatching c.args.journal.now c.args.entity c.args.ring (take (i + 1) deps) c.args.waiters.now) (sym w.waiters-is)
          (watching_more c.args.journal.now c.args.entity c.args.ring i d deps w.is_on-early.result c.args.waiters.now c.loop-dep.waiters w.watch.new.self c.loop-dep.invariant
          c.loop-dep-test.true (same_read deps i (0, 0) d c.loop-dep-test.true) (sym c.is_met-is_met.ensures ∙ w.if-not-is_met.true) w.is_on-early.ensures
          w.watch.ensures.pairs w.watch.ensures.entities w.watch.ensures.fences)
      | else-not-is_met w ↦
          subst (IsWatching c.args.journal.now c.args.entity c.args.ring (take (i + 1) deps) c.args.waiters.now) (sym w.waiters-is)
          (watching_met c.args.journal.now c.args.entity c.args.ring i d deps c.args.waiters.now c.loop-dep.waiters c.loop-dep.invariant
          c.loop-dep-test.true (same_read deps i (0, 0) d c.loop-dep-test.true) (sym c.is_met-is_met.ensures ∙ w.if-not-is_met.false))
    ]
  where
    same_read : (deps : List (ℕ × ℕ)) (i : ℕ) (x y : ℕ × ℕ) → i < length deps → get_or deps i x ≡ get_or deps i y
    same_read deps i x y lt = let a = slice_get-get_or deps i x lt in let b = slice_get-get_or deps i y lt in cc (a, b)

pub returns-clause-watched : goal.returns-clause-watched
returns-clause-watched c =
    let deps = c.args.deps.now in
    subst (λ ds. AreWatched c.loop-dep.waiters.pairs c.args.entity (unmet_pairs c.args.journal.now c.args.entity c.args.ring ds))
    (take_all c.loop-dep.dep-index deps c.loop-dep-test.false) c.loop-dep.invariant.watched
