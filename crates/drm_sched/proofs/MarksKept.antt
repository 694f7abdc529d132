-- A packet that goes out leaves a steady device with packets out.
use Rattle.std.proofs.Common.{◌≡◌, ◌≢◌, ℕ, zero, suc, ◌<◌, true, false, ◌==◌, List, [], ◌∷◌, set, length, Some, None, Option, refl, sym, ap, subst, ◌∙◌, inl, inr, slice_get}
use Rattle.std.specs.Prelude.{Contains}
use Rattle.std.specs.Option.{option_map_or}
use Rattle.std.specs.List.{list_any}
use Rattle.std.proofs.lemmas.Bool.{both_ways, cases_eq, eq-eqb}
use Rattle.std.proofs.lemmas.List.{length-set}
use Rattle.std.proofs.lemmas.Option.{slice_get_within}
use Rattle.drm_lists.proofs.Places.{stands_within, contains_at}
use Rattle.drm_lists.proofs.Changed.{get_set_same, get_set_other}
use Rattle.drm_job.proofs.Apart.{any_from}
use Rattle.drm_packet.specs.declared.Packet.{Packet}
use Rattle.drm_packet.specs.Touches.{touches}
use Rattle.drm_state.specs.declared.journal.JobRecord.{JobRecord}
use Rattle.drm_state.specs.State.{DeviceState}
use Rattle.drm_state.specs.Ring.{current_of}
use Rattle.drm_state.specs.Outcomes.{must_stall, next_packet}
use Rattle.drm_sched.specs.Marks.{Mark, MarkedDevice, mark_of, packet_at, out_by, is_out, buffer_out, mark_for, begun_device, reported_device, IsOut, IsSteadyMarked}
use Rattle.drm_state.proofs.Records.{changed_is}
use Rattle.drm_state.proofs.RanLawful.{current_is, one_more_ran}
use Rattle.drm_sched.proofs.Marks.{begun_is_out, report_steady, ran_leaves_out}

-- the mark of a ring stands in the list
mark_at : (marks : List (Option Mark)) (ring : ℕ) (m : Mark) → option_map_or (λ o. o) (slice_get marks ring) None ≡ Some m → slice_get marks ring ≡ Some (Some m)
mark_at [] ring m is = absurd (cc (is))
mark_at (x ∷ xs) zero m is = ap (λ o. Some o) is
mark_at (x ∷ xs) (suc ring) m is = mark_at xs ring m is

-- a buffer of a mark's packet is out
pub is_out_at : (d : MarkedDevice) (ring b : ℕ) (m : Mark) → mark_of d ring ≡ Some m → Contains (out_by d.state.journal (Some m)) b → is_out d b ≡ true
is_out_at d ring b m is inside =
    any_from (λ o. list_any (λ x. x == b) (out_by d.state.journal o)) d.marks (Some m) (contains_at d.marks ring (Some m) (mark_at d.marks ring m is))
    (any_from (λ x. x == b) (out_by d.state.journal (Some m)) b inside (eq-eqb b b refl))

-- a ring's next packet touches nothing that is out, where no packet blocks the step
pub next_is_free : (d : MarkedDevice) (ring f b : ℕ) (r : JobRecord) (p : Packet) → buffer_out d ring ≡ false → current_of d.state ring ≡ Some f
    → slice_get d.state.journal f ≡ Some r → slice_get r.job.packets r.ran ≡ Some p → Contains (touches p) b → is_out d b ≡ true → ⊥
next_is_free d ring f b r p free current at next touched out =
    let here : buffer_out d ring ≡ list_any (is_out d) (touches p) =
    ap (λ o. option_map_or (λ g. option_map_or (λ q. list_any (is_out d) (touches q)) (next_packet d.state.journal g) false) o false) current
    ∙ ap (λ o. option_map_or (λ q. list_any (is_out d) (touches q)) o false)
    (ap (λ o. option_map_or (λ (z : JobRecord). slice_get z.job.packets z.ran) o None) at ∙ next) in
    both_ways (buffer_out d ring) free (here ∙ any_from (is_out d) (touches p) b touched out)

-- a packet goes out, of which no buffer is out
pub begun_steady : (d : MarkedDevice) (ring f : ℕ) (r : JobRecord) (p : Packet) → IsSteadyMarked d → ring < length d.marks
    → buffer_out d ring ≡ false → current_of d.state ring ≡ Some f → slice_get d.state.journal f ≡ Some r → slice_get r.job.packets r.ran ≡ Some p
    → must_stall p r.karma.resets ≡ false → IsSteadyMarked (begun_device d ring (mark_for d.state f r p))
begun_steady d ring f r p steady here free current at next runs =
    let m = mark_for d.state f r p in
    let new = begun_device d ring m in
    let old = stands_within d.marks ring here in
    let mine : mark_of new ring ≡ Some m =
    ap (λ (o : Option (Option Mark)). option_map_or (λ x. x) o None) (get_set_same d.marks ring old.0 (Some m) old.1) in
    let others : (k : ℕ) → k ≢ ring → mark_of new k ≡ mark_of d k =
    λ k other. ap (λ (o : Option (Option Mark)). option_map_or (λ x. x) o None) (get_set_other d.marks ring k (Some m) other) in
    let mine_is : (k : ℕ) (n : Mark) → k ≡ ring → mark_of new k ≡ Some n → n ≡ m =
    λ k n k_is is. let same : Some m ≡ Some n = sym mine ∙ (ap (mark_of new) (sym k_is) ∙ is) in cc (same) in
    let touched : (b : ℕ) → Contains (out_by d.state.journal (Some m)) b → Contains (touches p) b =
    λ b c. subst (λ (bs : List ℕ). Contains bs b)
    (ap (λ o. option_map_or touches o []) (ap (λ o. option_map_or (λ (z : JobRecord). slice_get z.job.packets r.ran) o None) at ∙ next)) c in
    let alone : (k : ℕ) (n : Mark) → k ≢ ring → mark_of d k ≡ Some n → (b : ℕ) → Contains (out_by d.state.journal (Some m)) b
    → Contains (out_by d.state.journal (Some n)) b → ⊥ =
    λ k n other is b mine_out its. next_is_free d ring f b r p free current at next (touched b mine_out) (is_out_at d k b n is its) in
    record {
      state = steady.state;
      count = length-set d.marks ring (Some m) ∙ steady.count;
      out = λ k n is.
          elim (cases_eq k ring) [
            | inl k_is ↦
                subst (λ x. IsOut d.state k x) (sym (mine_is k n k_is is))
                (subst (λ j. IsOut d.state j m) (sym k_is) (begun_is_out d.state ring f r p current at next runs))
            | inr other ↦ steady.out k n (sym (others k other) ∙ is)
          ];
      apart = λ i j x y apart_rings is_x is_y b in_x in_y.
          elim (cases_eq i ring) [
            | inl i_is ↦
                let j_other : j ≢ ring = λ e. apart_rings (i_is ∙ sym e) in
                alone j y j_other (sym (others j j_other) ∙ is_y) b
                (subst (λ z. Contains (out_by d.state.journal (Some z)) b) (mine_is i x i_is is_x) in_x) in_y
            | inr i_other ↦ elim (cases_eq j ring) [
              | inl j_is ↦ alone i x i_other (sym (others i i_other) ∙ is_x) b
                  (subst (λ z. Contains (out_by d.state.journal (Some z)) b) (mine_is j y j_is is_y) in_y) in_x
              | inr j_other ↦ steady.apart i j x y apart_rings (sym (others i i_other) ∙ is_x) (sym (others j j_other) ∙ is_y) b in_x in_y
            ]
          ];
    }

-- the buffers that a mark keeps out are those of its packet
pub touches_out : (device : DeviceState) (ring : ℕ) (m : Mark) (out : IsOut device ring m) → out_by device.journal (Some m) ≡ touches out.packet
touches_out device ring m out =
    ap (λ o. option_map_or touches o []) (ap (λ o. option_map_or (λ (z : JobRecord). slice_get z.job.packets m.packet) o None) out.at ∙ out.next)

-- a job that has run a packet more keeps its packets
pub same_packet : (journal : List JobRecord) (f g k : ℕ) (r : JobRecord) → slice_get journal f ≡ Some r → packet_at (set journal f (one_more_ran r)) g k ≡ packet_at journal g k
same_packet journal f g k r at =
    elim (cases_eq g f) [
      | inl g_is ↦
          ap (λ n. packet_at (set journal f (one_more_ran r)) n k) g_is
          ∙ (ap (λ o. option_map_or (λ (z : JobRecord). slice_get z.job.packets k) o None) (get_set_same journal f r (one_more_ran r) at)
          ∙ (sym (ap (λ o. option_map_or (λ (z : JobRecord). slice_get z.job.packets k) o None) at) ∙ ap (λ n. packet_at journal n k) (sym g_is)))
      | inr other ↦ ap (λ o. option_map_or (λ (z : JobRecord). slice_get z.job.packets k) o None) (get_set_other journal f g (one_more_ran r) other)
    ]

-- a packet comes back: the device has run it, and nothing else that is out changes
pub reported_steady : (d : MarkedDevice) (ring : ℕ) (m : Mark) (out : IsOut d.state ring m) → IsSteadyMarked d → ring < length d.marks → mark_of d ring ≡ Some m
    → IsSteadyMarked (reported_device d ring m out.packet)
reported_steady d ring m out steady here busy =
    let new = reported_device d ring m out.packet in
    let within : (k : ℕ) → k < length d.marks → k < length d.state.spec.rings = λ k lt. subst (λ n. k < n) steady.count lt in
    let old = stands_within d.marks ring here in
    let none : mark_of new ring ≡ None =
    ap (λ (o : Option (Option Mark)). option_map_or (λ x. x) o None) (get_set_same d.marks ring old.0 None old.1) in
    let others : (k : ℕ) → k ≢ ring → mark_of new k ≡ mark_of d k =
    λ k other. ap (λ (o : Option (Option Mark)). option_map_or (λ x. x) o None) (get_set_other d.marks ring k None other) in
    let not_ring : (k : ℕ) (n : Mark) → mark_of new k ≡ Some n → k ≢ ring =
    λ k n is k_is. let never : None ≡ Some n = sym none ∙ (ap (mark_of new) (sym k_is) ∙ is) in absurd (cc (never)) in
    let was : (k : ℕ) (n : Mark) → mark_of new k ≡ Some n → mark_of d k ≡ Some n = λ k n is. sym (others k (not_ring k n is)) ∙ is in
    let c = current_is d.state ring m.fence steady.state.lawful (within ring here) out.current in
    let journal = changed_is d.state.journal m.fence out.job one_more_ran out.at in
    let same_out : (n : Mark) → out_by new.state.journal (Some n) ≡ out_by d.state.journal (Some n) =
    λ n. ap (λ (js : List JobRecord). option_map_or touches (packet_at js n.fence n.packet) []) journal
    ∙ ap (λ o. option_map_or touches o []) (same_packet d.state.journal m.fence n.fence n.packet out.job out.at) in
    record {
      state = report_steady d.state ring m out steady.state (within ring here);
      count = length-set d.marks ring None ∙ steady.count;
      out = λ k n is.
          let its = steady.out k n (was k n is) in
          let lt : k < length d.marks = slice_get_within d.marks k (Some n) (mark_at d.marks k n (was k n is)) in
          ran_leaves_out d.state k ring m.fence c.0 out.packet n its steady.state (within k lt) c.1 (not_ring k n is)
          (λ b in_its in_mine. steady.apart k ring n m (not_ring k n is) (was k n is) busy b
          (subst (λ (bs : List ℕ). Contains bs b) (sym (touches_out d.state k n its)) in_its)
          (subst (λ (bs : List ℕ). Contains bs b) (sym (touches_out d.state ring m out)) in_mine));
      apart = λ i j x y apart_rings is_x is_y b in_x in_y.
          steady.apart i j x y apart_rings (was i x is_x) (was j y is_y) b
          (subst (λ (bs : List ℕ). Contains bs b) (same_out x) in_x) (subst (λ (bs : List ℕ). Contains bs b) (same_out y) in_y);
    }
