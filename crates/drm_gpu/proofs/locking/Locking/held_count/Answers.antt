use Rattle.std.proofs.Common.{◌∙◌, ap, sym, length}
use Rattle.std.proofs.lemmas.List.{length-map}
use Rattle.drm_resv.specs.Reservation.{WithRoom}
use Rattle.drm_gpu.specs.Submissions.{Submission}
use Rattle.drm_gpu.proofs.locking.Locking.held_count.Goals as goal

pub returns : goal.returns
returns c =
    ap length c.held.ensures ∙ (sym (length-map c.self.inside.acquire.seat.held.items (λ (h : _ × WithRoom). (h.0, h.1.kept))) ∙ ap (λ (s : Submission). length s.held) c.self.view_is)
