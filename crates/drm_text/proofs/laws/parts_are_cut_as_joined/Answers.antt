use Rattle.std.proofs.lemmas.List.Splits.{join_with_byte-slice_split}
use Rattle.drm_text.proofs.PartsJoined.{joined_cut, parts_free}
use Rattle.drm_text.proofs.laws.parts_are_cut_as_joined.Goals as goal

pub returns-clause-joined : goal.returns-clause-joined
returns-clause-joined c = join_with_byte-slice_split

pub returns-clause-cut : goal.returns-clause-cut
returns-clause-cut c = joined_cut

pub returns-clause-free : goal.returns-clause-free
returns-clause-free c = parts_free
