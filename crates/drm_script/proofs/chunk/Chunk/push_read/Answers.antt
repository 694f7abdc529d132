use Rattle.drm_script.proofs.Joined.{joined_read, added_read}
use Rattle.drm_script.proofs.chunk.Chunk.push_read.Goals as goal

pub returns-clause-value : goal.returns-clause-value
returns-clause-value c =
    let job = c.push_job.ensures in
    rw (job.1, c.push_reserved.ensures.items, c.in_ok-reserve.ensures.items, c.in_ok-reserve-2.ensures.items)
    (joined_read c.args.kept c.self.inside.kept.items c.self.inside.jobs.items c.args.self.now job.0 c.push_job.result c.args.words.now c.requires c.self.invariant c.self.view_is job.2)

pub returns-clause-added : goal.returns-clause-added
returns-clause-added c =
    let job = c.push_job.ensures in
    rw (job.1, c.push_reserved.ensures.items, c.in_ok-reserve.ensures.items, c.in_ok-reserve-2.ensures.items)
    (added_read c.args.kept c.self.inside.kept.items c.self.inside.jobs.items c.args.self.now job.0 c.push_job.result c.requires c.self.invariant c.self.view_is)
