-- How a core's tables are kept while its device goes on.
use Rattle.std.proofs.Common.{◌≡◌, ℕ, suc, Bool, true, false, not, ◌||◌, ◌==◌, List, [], ◌∷◌, length, Option, Some, None, refl, sym, ap, subst, ◌∙◌, slice_get}
use Rattle.std.specs.Prelude.{Contains, is_none}
use Rattle.std.specs.Option.{option_map_or}
use Rattle.std.specs.List.{list_any}
use Rattle.std.proofs.lemmas.List.Elements.{All-weaker}
use Rattle.drm_types.specs.declared.spec.DeviceSpec.{DeviceSpec}
use Rattle.drm_job.specs.declared.Draft.{Draft}
use Rattle.drm_job.specs.Conflicts.{conflicts}
use Rattle.drm_packet.specs.declared.Packet.{Packet}
use Rattle.drm_packet.specs.Touches.{touches}
use Rattle.drm_types.specs.Limits.{spec_fault}
use Rattle.drm_state.specs.declared.answer.Refusal.{Refusal}
use Rattle.drm_sched.specs.Begun.{out_or}
use Rattle.drm_sched.specs.Marks.{Mark, MarkedDevice, buffer_out, is_step_blocked, is_out, out_by, ring_out}
use Rattle.drm_state.specs.Outcomes.{next_packet}
use Rattle.drm_state.specs.Ring.{current_of}
use Rattle.drm_core.specs.Laws.{DeviceLaws}
use Rattle.drm_core.specs.declared.cores.CoreTable.{CoreTable}
use Rattle.drm_state.specs.State.{DeviceState}
use Rattle.drm_state.specs.Grows.{EachInPlace, RecordGrows}
use Rattle.drm_core.specs.Cores.{core_state, IsCore, NothingOut}
use Rattle.drm_state.specs.Plans.{MeetsPlan, DepsCover}
use Rattle.drm_core.proofs.CoreSteps.{device_kept}
use Rattle.drm_state.specs.Events.{IsKept}
use Rattle.drm_core.proofs.DeviceFacts.{grew_from, had_not_ended}

-- what covers goes on to cover while the journal grows
pub cover_kept : (old new : DeviceState) (job : Draft) (deps : List (ℕ × ℕ)) → DepsCover old job deps → EachInPlace RecordGrows old.journal new.journal
    → length new.journal ≡ length old.journal → DepsCover new job deps
cover_kept old new job deps cover grows count = record {
  covers = λ i x at meets going.
      let o = grew_from old.journal new.journal i x grows count at in
      let there = cover.covers i o.0 o.1 (subst (λ (z : Draft). conflicts z job ≡ true) o.2.job meets) (had_not_ended o.0.phase x.phase o.2.phase going) in
      (there.0, subst (λ (z : Draft). Contains deps (z.entity, there.0)) (sym o.2.job) there.1, there.2);
  of_jobs = All-weaker (MeetsPlan old.journal job) (MeetsPlan new.journal job) (λ d is.
      let x = grows d.1 is.0 is.1 in
      (x.0, x.1, ap (λ (z : Draft). z.entity) x.2.job ∙ is.2, subst (λ (z : Draft). conflicts z job ≡ true) (sym x.2.job) is.3)) deps cover.of_jobs;
}

-- a device that has no packet out
pub nothing_out_kept : (d u : MarkedDevice) → NothingOut d → u.marks ≡ d.marks → NothingOut u
nothing_out_kept d u none same ring = ap (λ ms. option_map_or (λ m. m) (slice_get ms ring) None) same ∙ none ring

-- it keeps no ring from a step, and no buffer from a look
pub no_ring_out : (d : MarkedDevice) (ring : ℕ) → NothingOut d → ring_out d ring ≡ false
no_ring_out d ring none = ap (λ m. not (is_none m)) (none ring)

pub no_buffer_out : (d : MarkedDevice) (buffer : ℕ) → NothingOut d → is_out d buffer ≡ false
no_buffer_out d buffer none = in_marks d.marks none
  where
    in_marks : (ms : List (Option Mark)) → ((ring : ℕ) → option_map_or (λ m. m) (slice_get ms ring) None ≡ None)
        → list_any (λ m. list_any (λ b. b == buffer) (out_by d.state.journal m)) ms ≡ false
    in_marks [] out = refl
    in_marks (None ∷ ms) out = in_marks ms (λ ring. out (suc ring))
    in_marks (Some m ∷ ms) out = absurd (let never : Some m ≡ None = out 0 in cc (never))

pub nothing_in_way : (d : MarkedDevice) (ring : ℕ) → NothingOut d → is_step_blocked d ring ≡ false
nothing_in_way d ring none = ap (λ b. b || buffer_out d ring) (no_ring_out d ring none) ∙ by_current (current_of d.state ring)
  where
    none_of : (bs : List ℕ) → list_any (is_out d) bs ≡ false
    none_of [] = refl
    none_of (b ∷ bs) = ap (λ t. t || list_any (is_out d) bs) (no_buffer_out d b none) ∙ none_of bs

    by_packet : (o : Option Packet) → option_map_or (λ p. list_any (is_out d) (touches p)) o false ≡ false
    by_packet None = refl
    by_packet (Some p) = none_of (touches p)

    by_current : (o : Option ℕ) → option_map_or (λ f. option_map_or (λ p. list_any (is_out d) (touches p)) (next_packet d.state.journal f) false) o false ≡ false
    by_current None = refl
    by_current (Some f) = by_packet (next_packet d.state.journal f)

-- a refusal that comes behind what keeps a ring out
pub out_is : (b : Bool) (o p : Option Refusal) → b ≡ false → out_or b o ≡ p → o ≡ p
out_is b o p free is = sym (ap (λ b. out_or b o) free) ∙ is

-- the core with another device that the old one grew to
pub device_changed : (laws : DeviceLaws) (c : CoreTable) (u : MarkedDevice) → IsCore c → IsKept c.device.state u.state → u.marks ≡ c.device.marks → IsCore (record c { device = u })
device_changed laws c u core kept marks =
    let spec : u.state.spec ≡ c.device.state.spec = kept.grows.spec in
    record {
      steady = (device_kept laws (core_state c) u.state core.steady kept).steady;
      limits = ap spec_fault spec ∙ core.limits;
      inside = nothing_out_kept c.device u core.inside marks;
      plans = λ ctx plan is.
          let stands = core.plans ctx plan is in
          record {
            covers = cover_kept c.device.state u.state plan.job plan.deps stands.covers kept.grows.journal kept.count;
            holds = stands.holds;
            room = stands.room;
          };
      reservation_count = core.reservation_count ∙ ap (λ (s : DeviceSpec). length s.buffers) (sym spec);
      holder_count = core.holder_count ∙ ap (λ (s : DeviceSpec). length s.buffers) (sym spec);
      context_count = core.context_count;
      tickets = core.tickets;
    }
