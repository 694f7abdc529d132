-- A packet that is reported is a step of the device, and what other rings do leaves it out.
use Rattle.std.proofs.Common.{◌≡◌, ◌≢◌, ℕ, suc, ◌<◌, Bool, true, false, cond, not, ◌==◌, List, [], ◌∷◌, length, Some, None, Option, refl, sym, ap, subst, ◌∙◌, inl, inr, arith, slice_get}
use Rattle.std.specs.Prelude.{Contains, find, is_none, option_map}
use Rattle.std.specs.Option.{option_map_or}
use Rattle.std.proofs.lemmas.List.{get_or-set_other}
use Rattle.drm_lists.proofs.Places.{contains_at}
use Rattle.drm_lists.proofs.Changed.{get_set_other}
use Rattle.drm_types.specs.Firsts.{when}
use Rattle.drm_buffer.specs.Memory.{bytes_of}
use Rattle.drm_packet.specs.declared.Packet.{Packet}
use Rattle.drm_packet.specs.declared.Packet.TheVariants.{Fill, Copy, Add, Stall}
use Rattle.drm_packet.specs.Effect.{effect}
use Rattle.drm_packet.specs.Touches.{touches}
use Rattle.drm_packet.specs.Parts.{target_of, other_bytes}
use Rattle.drm_packet.proofs.Commute.{cases_packet}
use Rattle.drm_state.specs.declared.answer.Answer.{Answer}
use Rattle.drm_state.specs.declared.answer.Answer.TheVariants as answer
use Rattle.drm_state.specs.declared.answer.Refusal.TheVariants.{Idle}
use Rattle.drm_state.specs.declared.journal.JobRecord.{JobRecord}
use Rattle.drm_state.specs.State.{DeviceState}
use Rattle.drm_state.specs.Journal.{is_complete}
use Rattle.drm_state.specs.Ring.{pending_of, current_of}
use Rattle.drm_state.specs.Refusals.{step_refusal}
use Rattle.drm_state.specs.Outcomes.{must_stall, ran_device, stepped_by, step_outcome, at_record}
use Rattle.drm_state.specs.Steady.{IsSteady}
use Rattle.drm_sched.specs.Marks.{Mark, mark_for, IsOut}
use Rattle.drm_state.proofs.Records.{at_test, changed_is}
use Rattle.drm_state.proofs.RanLawful.{IsCurrent, current_is, ran_steady, one_more_ran, is_going}

-- the device's answer and the state that it leaves
abbrev pub Left : Type 0
Left = Answer × DeviceState

-- a report is the step of the ring, as the definition has it
pub report_is_step : (d : DeviceState) (ring : ℕ) (m : Mark) (out : IsOut d ring m)
    → (step_refusal d ring ≡ None) × (step_outcome d ring ≡ (answer.Ran m.fence m.packet, ran_device d m.fence out.packet))
report_is_step d ring m out = (
  ap (λ (o : Option ℕ). when (is_none o) Idle) out.current,
  ap (at_record {A = Left} d steps nothing) out.current
      ∙ (ap (λ o. option_map_or (steps m.fence) o nothing) out.at
      ∙ (ap (λ k. option_map_or (stepped_by d m.fence) (slice_get out.job.job.packets k) nothing) out.count
      ∙ (ap (λ o. option_map_or (stepped_by d m.fence) o nothing) out.next
      ∙ (ap (λ b. cond {A = Left} b (answer.Stalled m.fence, d) (ran (option_map_or (λ (r : JobRecord). r.ran) (slice_get d.journal m.fence) 0)))
      (at_test d.journal m.fence out.job (λ r. must_stall out.packet r.karma.resets) out.at ∙ out.runs)
      ∙ ap ran (ap (λ o. option_map_or (λ (r : JobRecord). r.ran) o 0) out.at ∙ out.count))))),
) where
  nothing : Left
  nothing = (answer.Ok, d)

  steps : ℕ → JobRecord → Left
  steps number r = option_map_or (stepped_by d number) (slice_get r.job.packets r.ran) (answer.Ok, d)

  ran : ℕ → Left
  ran k = (answer.Ran m.fence k, ran_device d m.fence out.packet)

-- a report keeps the device steady
pub report_steady : (d : DeviceState) (ring : ℕ) (m : Mark) (out : IsOut d ring m) → IsSteady d → ring < length d.spec.rings
    → IsSteady (ran_device d m.fence out.packet)
report_steady d ring m out steady here =
    let c = current_is d ring m.fence steady.lawful here out.current in
    let same : c.0 ≡ out.job = cc (c.1.at, out.at) in
    let now = subst (IsCurrent d ring m.fence) same c.1 in
    ran_steady d ring m.fence out.job out.packet steady here now (ap (λ k. slice_get out.job.job.packets k) out.count ∙ out.next)

-- a search by tests that agree on the list
pub find_agree : {X : Type 0} (p q : X → Bool) (xs : List X) → ((k : ℕ) (x : X) → slice_get xs k ≡ Some x → p x ≡ q x) → find p xs ≡ find q xs
find_agree p q [] same = refl
find_agree p q (x ∷ xs) same =
    ap (λ t. cond t (Some x) (find p xs)) (same 0 x refl) ∙ ap (λ o. cond (q x) (Some x) o) (find_agree p q xs (λ k y at. same (suc k) y at))

-- a packet leaves the bytes of each buffer that it does not touch
pub leaves_bytes : (p : Packet) (memory : List (List ℕ)) (b : ℕ) → (Contains (touches p) b → ⊥) → bytes_of (effect p memory) b ≡ bytes_of memory b
leaves_bytes p memory b apart =
    elim (cases_packet p) [
      | inl nothing ↦ ap (λ (n : List (List ℕ)). bytes_of n b) (nothing memory)
      | inr w ↦
          let other : b ≢ w.target = λ e. apart (subst (Contains (touches p)) (sym e) w.touches_target) in
          ap (λ (n : List (List ℕ)). bytes_of n b) (w.is memory) ∙ get_or-set_other memory w.target b _ [] other
    ]

-- a packet finds the same bytes where its buffers have them
pub same_bytes : (p : Packet) (old new : List (List ℕ)) → ((b : ℕ) → Contains (touches p) b → bytes_of new b ≡ bytes_of old b)
    → (option_map (bytes_of new) (target_of p) ≡ option_map (bytes_of old) (target_of p)) × (other_bytes p new ≡ other_bytes p old)
same_bytes (Fill buffer offset len byte) old new same = (ap (λ x. Some x) (same buffer (0, omega arith, refl)), refl)
same_bytes (Copy source from target to len) old new same = (
  ap (λ x. Some x) (same target (1, omega arith, refl)),
  by_source (source == target) source (same source (0, omega arith, refl)),
) where
  by_source : (b : Bool) (s : ℕ) → bytes_of new s ≡ bytes_of old s
      → option_map (bytes_of new) (cond b None (Some s)) ≡ option_map (bytes_of old) (cond b None (Some s))
  by_source true s is = refl
  by_source false s is = ap (λ x. Some x) is
same_bytes (Add source from target to len) old new same = (
  ap (λ x. Some x) (same target (1, omega arith, refl)),
  by_source (source == target) source (same source (0, omega arith, refl)),
) where
  by_source : (b : Bool) (s : ℕ) → bytes_of new s ≡ bytes_of old s
      → option_map (bytes_of new) (cond b None (Some s)) ≡ option_map (bytes_of old) (cond b None (Some s))
  by_source true s is = refl
  by_source false s is = ap (λ x. Some x) is
same_bytes (Stall resets) old new same = (refl, refl)

-- a packet that another ring runs, of other buffers, leaves what is out
pub ran_leaves_out : (d : DeviceState) (ring other f : ℕ) (r : JobRecord) (q : Packet) (m : Mark) (out : IsOut d ring m) → IsSteady d
    → ring < length d.spec.rings → IsCurrent d other f r → ring ≢ other
    → ((b : ℕ) → Contains (touches out.packet) b → Contains (touches q) b → ⊥) → IsOut (ran_device d f q) ring m
ran_leaves_out d ring other f r q m out steady here now apart_rings apart =
    let journal = changed_is d.journal f r one_more_ran now.at in
    let not_here : (k g : ℕ) → slice_get (pending_of d ring) k ≡ Some g → g ≢ f =
    λ k g at_k same.
    let x = ((steady.lawful.rings ring here).pending g).0 (contains_at (pending_of d ring) k g at_k) in
    let is : x.0 ≡ r = cc (x.1, now.at, same) in
    apart_rings (sym x.3 ∙ (ap (λ (z : JobRecord). z.ring) is ∙ now.on_ring)) in
    let going : (k g : ℕ) → slice_get (pending_of d ring) k ≡ Some g → is_going (ran_device d f q).journal g ≡ is_going d.journal g =
    λ k g at_k.
    ap (λ (o : Option JobRecord). option_map_or (λ r. not (is_complete r)) o false)
    (ap (λ (js : List JobRecord). slice_get js g) journal ∙ get_set_other d.journal f g (one_more_ran r) (not_here k g at_k)) in
    let c = current_is d ring m.fence steady.lawful here out.current in
    let fence_other : m.fence ≢ f = not_here c.1.place m.fence c.1.stands in
    let bytes = same_bytes out.packet d.memory (effect q d.memory) (λ b touched. leaves_bytes q d.memory b (apart b touched)) in
    record {
      current = find_agree (is_going (ran_device d f q).journal) (is_going d.journal) (pending_of d ring) going ∙ out.current;
      job = out.job;
      at = ap (λ (js : List JobRecord). slice_get js m.fence) journal ∙ (get_set_other d.journal f m.fence (one_more_ran r) fence_other ∙ out.at);
      count = out.count;
      packet = out.packet;
      next = out.next;
      runs = out.runs;
      write = out.write ∙ sym bytes.0;
      read = out.read ∙ sym bytes.1;
    }

-- a packet that goes out is out
pub begun_is_out : (d : DeviceState) (ring f : ℕ) (r : JobRecord) (p : Packet) → current_of d ring ≡ Some f → slice_get d.journal f ≡ Some r
    → slice_get r.job.packets r.ran ≡ Some p → must_stall p r.karma.resets ≡ false → IsOut d ring (mark_for d f r p)
begun_is_out d ring f r p current at next runs = record {
  current = current;
  job = r;
  at = at;
  count = refl;
  packet = p;
  next = next;
  runs = runs;
  write = refl;
  read = refl;
}
