use Rattle.std.proofs.Common.{◌≡◌, [], length, rules}
use Rattle.std.proofs.Math.Seq.{set-append_seam}
use Rattle.std.proofs.lemmas.List.{places}
use Rattle.drm_parse.proofs.job.push_job.Goals as goal

pub returns : goal.returns
returns c =
    let place : c.len-place.result ≡ length c.args.jobs.now.items = search (rules, places) in (
      c.fill_job.new.draft,
      rw (c.push_reserved.ensures.items, place) (set-append_seam c.args.jobs.now.items c.bare_draft.result [] c.fill_job.new.draft),
      c.fill_job.ensures,
    )
