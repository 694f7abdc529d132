use Rattle.drm_perfetto.proofs.rows.Rows.of.Goals as goal

pub returns : goal.returns
returns c = record {
  wait = c.in_ok-rows_of.ensures.rows;
  queue = c.in_ok-rows_of-2.ensures.rows;
  ring = c.in_ok-rows_of-3.ensures.rows;
  buffer = c.in_ok-rows_of-4.ensures.rows;
  credits = c.in_ok-rows_of-5.ensures.rows;
  queued = c.in_ok-rows_of-6.ensures.rows;
  known = c.in_ok-rows_of-6.ensures.known;
}
