use Rattle.std.proofs.Common.{ap, arith, length}
use Rattle.drm_resv.proofs.EndsAre.{job_within, listed_few, of_job}
use Rattle.drm_resv.proofs.stored.StoredDeps.of.Goals as goal

pub start-from-requires : goal.start-from-requires
start-from-requires c =
    let own = c.self.inside in
    let within = job_within own.fences.items own.ends.items _ _ c.args.job c.self.view_is c.requires in
    omega (arith, ap length c.deref.ensures.value, within)

pub index-requires : goal.index-requires
index-requires c =
    let own = c.self.inside in
    let within = job_within own.fences.items own.ends.items _ _ c.args.job c.self.view_is c.requires in omega (arith, own.ends.ok.0, within)

pub slice_bounds-result-count : goal.slice_bounds-result-count
slice_bounds-result-count c =
    let of = of_job _ _ _ _ _ _ _ _ _ c.self.invariant.0 c.self.view_is c.requires c.deref-2.ensures.value c.deref.ensures.value c.start-from.ensures c.index.ensures in
    of.0.ordered

pub slice_bounds-result-start : goal.slice_bounds-result-start
slice_bounds-result-start c =
    let of = of_job _ _ _ _ _ _ _ _ _ c.self.invariant.0 c.self.view_is c.requires c.deref-2.ensures.value c.deref.ensures.value c.start-from.ensures c.index.ensures in
    of.0.ordered

pub slice_bounds-result-end : goal.slice_bounds-result-end
slice_bounds-result-end c =
    let of = of_job _ _ _ _ _ _ _ _ _ c.self.invariant.0 c.self.view_is c.requires c.deref-2.ensures.value c.deref.ensures.value c.start-from.ensures c.index.ensures in
    of.0.within

pub offset_bounds-deref-from : goal.offset_bounds-deref-from
offset_bounds-deref-from c =
    let of = of_job _ _ _ _ _ _ _ _ _ c.self.invariant.0 c.self.view_is c.requires c.deref-2.ensures.value c.deref.ensures.value c.start-from.ensures c.index.ensures in
    omega (arith, of.0.ordered)

pub returns-clause-list : goal.returns-clause-list
returns-clause-list c =
    let of = of_job _ _ _ _ _ _ _ _ _ c.self.invariant.0 c.self.view_is c.requires c.deref-2.ensures.value c.deref.ensures.value c.start-from.ensures c.index.ensures in
    of.1

pub returns-clause-once : goal.returns-clause-once
returns-clause-once c =
    let of = of_job _ _ _ _ _ _ _ _ _ c.self.invariant.0 c.self.view_is c.requires c.deref-2.ensures.value c.deref.ensures.value c.start-from.ensures c.index.ensures in
    of.0.once

pub returns-clause-within : goal.returns-clause-within
returns-clause-within c =
    let of = of_job _ _ _ _ _ _ _ _ _ c.self.invariant.0 c.self.view_is c.requires c.deref-2.ensures.value c.deref.ensures.value c.start-from.ensures c.index.ensures in
    listed_few _ _ _ of.0
