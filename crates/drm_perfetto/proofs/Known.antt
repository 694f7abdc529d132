-- What is known of the heads of queues stays so.
use Rattle.std.proofs.Common.{get_or}
use Rattle.drm_state.specs.State.{DeviceState}
use Rattle.drm_state.specs.Grows.{Grows}
use Rattle.drm_reason.specs.Retired.{RetiredStay}
use Rattle.drm_reason.specs.Watching.{KnowledgeStays}
use Rattle.drm_perfetto.specs.declared.watches.Watches.{Watches}
use Rattle.drm_perfetto.specs.Watches.{AreKnown}

pub known_stays : KnowledgeStays → RetiredStay → (old new : DeviceState) (watches : Watches) → Grows old new → AreKnown old watches → AreKnown new watches
known_stays knowledge retired old new watches grows are = record {
  heads = λ k d within. knowledge old new (get_or watches.heads.items k d) grows (are.heads k d within);
  retired = retired old new watches.retired grows are.retired;
}
