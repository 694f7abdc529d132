use Rattle.std.proofs.Common.{rules}
use Rattle.drm_parse.specs.Header.{header_of}
use Rattle.drm_parse.proofs.header.read_header.Goals as goal

pub returns-then-eq-clause-value : goal.returns-then-eq-clause-value
unfolding header_of
returns-then-eq-clause-value c = search rules

pub returns-then-eq-clause-fits : goal.returns-then-eq-clause-fits
unfolding header_of
returns-then-eq-clause-fits c = search rules
