-- What a call tells of its pass.
use Rattle.std.proofs.Common.{◌≡◌, ℕ, [], ◌∷◌, ◌++◌, refl, sym, ap, ◌∙◌, subst, ⊎_elim}
use Rattle.std.specs.Prelude.{◌||◌, IsPermutation}
use Rattle.atomic_table.specs.Seated.{TableId}
use Rattle.ww_lock.specs.Seats.{IsJoined, sees}
use Rattle.ww_lock.specs.Fences.{NotBack}
use Rattle.ww_lock.specs.Parts.{IsWhole}
use Rattle.ww_lock.specs.Rule.{In}
use Rattle.ww_lock.specs.Steps.{IsChain, IsLater}
use Rattle.drm_types.specs.declared.spec.DeviceSpec.{DeviceSpec}
use Rattle.drm_sched.specs.Marks.{MarkedDevice}
use Rattle.drm_gpu.specs.declared.running.OutPacket.{OutPacket}
use Rattle.drm_gpu.specs.Laws.{device_facts}
use Rattle.drm_gpu.specs.Passes.{GpuState, PassState, Seeing, DeviceSeat, Noted, Knows, Seated, IsJoinedOf, HasWaited, IsFound, IsSameBut, Adds, Calls, CallsAs, GrowsTo, word_shown, last_of, gpu_of, noted, pass_of}
use Rattle.drm_gpu.specs.Running.{GoesOut, Starts}
use Rattle.drm_gpu.proofs.Chains.{saw}
use Rattle.drm_gpu.proofs.Grown.{grows_itself, grows_trans}

same_gpu : (gpu : GpuState) (h : TableId) (s : DeviceSpec) → h ≡ gpu.home → s ≡ gpu.spec → record { home = h; spec = s } ≡ gpu
same_gpu gpu h s e f = ap (λ h. record { home = h; spec = s }) e ∙ ap (λ s. record { home = gpu.home; spec = s }) f

-- the device that a seat of it is at
pub at_gpu : (gpu : GpuState) (t : DeviceSeat) → Seated gpu t → gpu_of t.place.table_id (sees t) ≡ gpu
at_gpu gpu t k = same_gpu gpu t.place.table_id (last_of (sees t)).state.spec k.sits.seated k.knows.described

pub of_gpu : (gpu : GpuState) (v : Seeing) → Knows gpu.spec (last_of v) v → gpu_of gpu.home v ≡ gpu
of_gpu gpu v k = same_gpu gpu gpu.home (last_of v).state.spec refl k.described

-- who has seen one pivot has seen no other
only_seen : (spec : DeviceSpec) (v : Seeing) (p : MarkedDevice) → Knows spec (last_of v) v → In p v.pivot.seen → p ≡ last_of v
only_seen spec v p k seen = ⊎_elim (λ is. is) (λ never. absurd never) (subst (In p) k.seen seen)

-- what a caller is told of the device that it finds
pub is_found : (spec : DeviceSpec) (v : Seeing) (p : MarkedDevice) → Knows spec (last_of v) v → IsLater device_facts v p → IsFound p v
is_found spec v p k later = record {
  lawful = later.fine;
  later = later.grown (last_of v) (saw spec (last_of v) v k);
  shows = later.shows;
  alone = λ all. only_seen spec v p k (later.alone all);
}

-- a caller that has not waited yet, one that brought home what it found, and one that waited twice
pub waits_not : (v : Seeing) → HasWaited v v
waits_not v = (grows_itself (last_of v), λ all. refl)

pub waited : (d : MarkedDevice) (v w : Seeing) → IsFound d v → last_of w ≡ d → HasWaited v w
waited d v w f is = (subst (GrowsTo (last_of v)) (sym is) f.later, λ all. is ∙ f.alone all)

-- the part of the device that a caller has is one of what it noted
whole_on : (v s : Seeing) → noted s ≡ noted v → IsWhole v.part → IsWhole s.part
whole_on v s same all = subst (λ (n : Noted). IsWhole n.part) (sym same) all

looked_on : (d : MarkedDevice) (v s : Seeing) → noted s ≡ noted v → ((fence word : ℕ) → In (fence, word) s.looked → NotBack word (word_shown d fence)) → (fence word : ℕ) → In (fence, word) v.looked → NotBack word (word_shown d fence)
looked_on d v s same shows fence word i = shows fence word (subst (λ (n : Noted). In (fence, word) n.looked) (sym same) i)

pub waited_on : (v s t : Seeing) → HasWaited v s → IsSameBut v s → HasWaited s t → HasWaited v t
waited_on v s t one same two = (grows_trans (last_of v) (last_of s) (last_of t) one.0 two.0, λ all. two.1 (whole_on v s same.1 all) ∙ one.1 all)

-- a pass of which only the last device and the calls are others
pass_is : (gpu : GpuState) (old new : PassState) (found : MarkedDevice) (v t : Seeing) (home after : TableId) → pass_of home v ≡ old → new ≡ pass_of after t → old.gpu ≡ gpu → new.gpu ≡ gpu
    → t.pivot.mine ≡ v.pivot.mine ++ (found, last_of t) ∷ [] → noted t ≡ noted v → new ≡ record old { last = new.last; calls = old.calls ++ (found, new.last) ∷ [] }
pass_is gpu old new found v t home after was is at same mine note =
    let all : new.looked ≡ old.looked = ap (λ (p : PassState). p.looked) is ∙ (ap (λ (n : Noted). n.looked) note ∙ ap (λ (p : PassState). p.looked) was) in
    let had : new.had ≡ old.had = ap (λ (p : PassState). p.had) is ∙ (ap (λ (n : Noted). n.had) note ∙ ap (λ (p : PassState). p.had) was) in
    let met : new.met ≡ old.met = ap (λ (p : PassState). p.met) is ∙ (ap (λ (n : Noted). n.met) note ∙ ap (λ (p : PassState). p.met) was) in
    let drew : new.drew ≡ old.drew = ap (λ (p : PassState). p.drew) is ∙ (ap (λ (n : Noted). n.drew) note ∙ ap (λ (p : PassState). p.drew) was) in
    let out : new.tickets_out ≡ old.tickets_out = ap (λ (p : PassState). p.tickets_out) is ∙ (ap (λ (n : Noted). n.tickets_out) note ∙ ap (λ (p : PassState). p.tickets_out) was) in
    let part : new.part ≡ old.part = ap (λ (p : PassState). p.part) is ∙ (ap (λ (n : Noted). n.part) note ∙ ap (λ (p : PassState). p.part) was) in
    let calls : new.calls ≡ old.calls ++ (found, new.last) ∷ [] =
    ap (λ (p : PassState). p.calls) is ∙ (mine ∙ (ap (λ (p : PassState). p.calls ++ (found, last_of t) ∷ []) was ∙ ap (λ (p : PassState). old.calls ++ (found, p.last) ∷ []) (sym is))) in
    λ i. record { gpu = (same ∙ sym at) i; last = new.last; calls = calls i; looked = all i; had = had i; met = met i; drew = drew i; tickets_out = out i; part = part i }

-- nothing but what was seen last has changed, twice
pub same_trans : (v s t : Seeing) → IsSameBut v s → IsSameBut s t → IsSameBut v t
same_trans v s t a b = (b.0 ∙ a.0, b.1 ∙ a.1)

-- what a caller finds that has seen more meanwhile
pub found_back : (d : MarkedDevice) (v s : Seeing) → HasWaited v s → IsSameBut v s → IsFound d s → IsFound d v
found_back d v s on same f = record {
  lawful = f.lawful;
  later = grows_trans (last_of v) (last_of s) d on.0 f.later;
  shows = looked_on d v s same.1 f.shows;
  alone = λ all. f.alone (whole_on v s same.1 all) ∙ on.1 all;
}

-- a caller that saw v entered and saw s, found d and left e, and sees t
pub calls_as : (does : MarkedDevice → MarkedDevice → Type 0) (v s t : Seeing) (d f e : MarkedDevice) → IsFound d v → IsSameBut v s → f ≡ d → GrowsTo d e → last_of t ≡ e → Adds f e s t → does d e → CallsAs does v t
calls_as does v s t d f e found same is on out adds holds =
    let last = sym out in record {
      found = d;
      lawful = found.lawful;
      later = found.later;
      shows = found.shows;
      alone = λ all. ap (λ x. x.state) (found.alone all);
      event = subst (does d) last holds;
      onward = subst (GrowsTo d) last on;
      adds = (
        adds.0 ∙ (ap (λ cs. cs ++ (f, e) ∷ []) same.0 ∙ (ap (λ x. v.pivot.mine ++ (x, e) ∷ []) is ∙ ap (λ x. v.pivot.mine ++ (d, x) ∷ []) last)),
        adds.1 ∙ same.1,
      );
    }

-- a call that followed on an entry which left the device's state
pub calls_after : (does : MarkedDevice → MarkedDevice → Type 0) (v s t : Seeing) → GrowsTo (last_of v) (last_of s) → (IsWhole v.part → (last_of s).state ≡ (last_of v).state) → IsSameBut v s → CallsAs does s t
    → CallsAs does v t
calls_after does v s t on left same c = record {
  found = c.found;
  lawful = c.lawful;
  later = grows_trans (last_of v) (last_of s) c.found on c.later;
  shows = looked_on c.found v s same.1 c.shows;
  alone = λ all. c.alone (whole_on v s same.1 all) ∙ left all;
  event = c.event;
  onward = c.onward;
  adds = (c.adds.0 ∙ ap (λ cs. cs ++ (c.found, last_of t) ∷ []) same.0, c.adds.1 ∙ same.1);
}

-- what a caller that saw v and sees t tells of its pass, which was old
pub calls_are : (does : MarkedDevice → MarkedDevice → Type 0) (gpu : GpuState) (old : PassState) (home after : TableId) (v t : Seeing) → pass_of home v ≡ old → old.gpu ≡ gpu → gpu_of after t ≡ gpu → CallsAs does v t
    → Calls does old (pass_of after t)
calls_are does gpu old home after v t view belongs at c = record {
  found = c.found;
  lawful = c.lawful;
  later = subst (λ (o : PassState). GrowsTo o.last c.found) view c.later;
  shows = subst (λ (o : PassState). (g w : ℕ) → In (g, w) o.looked → NotBack w (word_shown c.found g)) view c.shows;
  alone = subst (λ (o : PassState). IsWhole o.part → c.found.state ≡ o.last.state) view c.alone;
  event = c.event;
  onward = c.onward;
  gpu = at ∙ sym belongs;
  pass = pass_is gpu old (pass_of after t) c.found v t home after view refl belongs at c.adds.0 c.adds.1;
}

-- the same where a packet of a ring went out
pub started_of : (gpu : GpuState) (old : PassState) (home : TableId) (ring : ℕ) (out : OutPacket) (v : Seeing) (s : DeviceSeat) → pass_of home v ≡ old → old.gpu ≡ gpu → GoesOut gpu ring out v s
    → Starts ring old (record { pass = pass_of gpu.home (sees s); ring = out.ring; fence = out.fence; packet = out.packet; is_last = out.is_last })
started_of gpu old home ring out v s view belongs o =
    let at : gpu_of gpu.home (sees s) ≡ gpu = of_gpu gpu (sees s) o.has.seated.knows in
    let new = pass_of gpu.home (sees s) in
    let note = o.same.1 in
    record {
      found = o.found;
      lawful = o.is_found.lawful;
      later = subst (λ (p : PassState). GrowsTo p.last o.found) view o.is_found.later;
      shows = subst (λ (p : PassState). (g w : ℕ) → In (g, w) p.looked → NotBack w (word_shown o.found g)) view o.is_found.shows;
      alone = subst (λ (p : PassState). IsWhole p.part → o.found ≡ p.last) view o.is_found.alone;
      ring_is = o.ring_is;
      free = o.free;
      taken = o.taken;
      out = out;
      begun = o.begun;
      last = o.last;
      gpu = at ∙ sym belongs;
      pass = λ i. record {
        gpu = (at ∙ sym belongs) i;
        last = new.last;
        calls = (o.same.0 ∙ ap (λ (p : PassState). p.calls) view) i;
        looked = (ap (λ (n : Noted). n.looked) note ∙ ap (λ (p : PassState). p.looked) view) i;
        had = (ap (λ (n : Noted). n.had) note ∙ ap (λ (p : PassState). p.had) view) i;
        met = (ap (λ (n : Noted). n.met) note ∙ ap (λ (p : PassState). p.met) view) i;
        drew = (ap (λ (n : Noted). n.drew) note ∙ ap (λ (p : PassState). p.drew) view) i;
        tickets_out = (ap (λ (n : Noted). n.tickets_out) note ∙ ap (λ (p : PassState). p.tickets_out) view) i;
        part = (ap (λ (n : Noted). n.part) note ∙ ap (λ (p : PassState). p.part) view) i;
      };
    }

-- a caller that saw v, as the pass old, entered and saw s, found d and left e, and sees t
pub calls_of : (does : MarkedDevice → MarkedDevice → Type 0) (gpu : GpuState) (old : PassState) (home after : TableId) (v s t : Seeing) (d f e : MarkedDevice) → pass_of home v ≡ old → old.gpu ≡ gpu
    → IsFound d v → IsSameBut v s → f ≡ d → GrowsTo d e → gpu_of after t ≡ gpu → last_of t ≡ e → Adds f e s t → does d e → Calls does old (pass_of after t)
calls_of does gpu old home after v s t d f e view belongs found same is on at out adds holds =
    calls_are does gpu old home after v t view belongs at (calls_as does v s t d f e found same is on out adds holds)

-- a seat r that a pass was opened to entered as s, found d and left e as t
pub called : (does : MarkedDevice → MarkedDevice → Type 0) (gpu : GpuState) (old : PassState) (home : TableId) (r s t : DeviceSeat) (d f e : MarkedDevice) → pass_of home (sees r) ≡ old → old.gpu ≡ gpu
    → IsFound d (sees r) → IsSameBut (sees r) (sees s) → f ≡ d → GrowsTo d e → Seated gpu t × (last_of (sees t) ≡ e) → Adds f e (sees s) (sees t) → does d e
    → Calls does old (pass_of t.place.table_id (sees t))
called does gpu old home r s t d f e view belongs found same is on out adds holds =
    calls_of does gpu old home t.place.table_id (sees r) (sees s) (sees t) d f e view belongs found same is on (at_gpu gpu t out.0) out.1 adds holds

-- what a joined pass shows, where the first pass was opened to v, the other to u, and the joined seat is t
pub joined_of : (gpu : GpuState) (one other : PassState) (h k : TableId) (v u : Seeing) (t : DeviceSeat) → pass_of h v ≡ one → pass_of k u ≡ other → one.gpu ≡ gpu → Knows gpu.spec (last_of v) v → Knows gpu.spec (last_of u) u
    → Seated gpu t → (j : IsJoined GrowsTo v u (sees t)) → IsJoinedOf one other (pass_of t.place.table_id (sees t))
joined_of gpu one other h k v u t first second belongs kv ku seat j =
    let last : last_of (sees t) ≡ j.0 = ap (λ (z : Seeing). last_of z) j.2 in
    let mine : (sees t).pivot.mine ≡ j.1 = ap (λ (z : Seeing). z.pivot.mine) j.2 in
    let both : v.pivot.mine ++ u.pivot.mine ≡ one.calls ++ other.calls = ap (λ (o : PassState). o.calls ++ u.pivot.mine) first ∙ ap (λ (o : PassState). one.calls ++ o.calls) second in
    record {
      gpu = at_gpu gpu t seat ∙ sym belongs;
      later = (
        subst (λ (o : PassState). GrowsTo o.last (last_of (sees t))) first (subst (GrowsTo (last_of v)) (sym last) (j.6 (last_of v) (saw gpu.spec (last_of v) v kv))),
        subst (λ (o : PassState). GrowsTo o.last (last_of (sees t))) second (subst (GrowsTo (last_of u)) (sym last) (j.7 (last_of u) (saw gpu.spec (last_of u) u ku))),
      );
      calls = subst (λ cs. IsPermutation cs (sees t).pivot.mine) both (subst (IsPermutation (v.pivot.mine ++ u.pivot.mine)) (sym mine) j.4);
      chain = subst (IsChain GrowsTo) (sym mine) j.3;
      lefts = λ c i. subst (GrowsTo c.1) (sym last) (j.5 c (subst (In c) mine i));
      looked = ap (λ (z : Seeing). z.looked) j.2 ∙ (ap (λ (o : PassState). o.looked ++ u.looked) first ∙ ap (λ (o : PassState). one.looked ++ o.looked) second);
      had = ap (λ (z : Seeing). z.lock.had) j.2 ∙ (ap (λ (o : PassState). o.had ++ u.lock.had) first ∙ ap (λ (o : PassState). one.had ++ o.had) second);
      met = ap (λ (z : Seeing). z.lock.met) j.2 ∙ (ap (λ (o : PassState). o.met ++ u.lock.met) first ∙ ap (λ (o : PassState). one.met ++ o.met) second);
      drew = ap (λ (z : Seeing). z.lock.drew) j.2 ∙ (ap (λ (o : PassState). o.drew ++ u.lock.drew) first ∙ ap (λ (o : PassState). one.drew ++ o.drew) second);
      tickets_out = ap (λ (z : Seeing). z.lock.ended) j.2 ∙ (ap (λ (o : PassState). o.tickets_out || u.lock.ended) first ∙ ap (λ (o : PassState). one.tickets_out || o.tickets_out) second);
      part = ap (λ (z : Seeing). z.part) j.2 ∙ (ap (λ (o : PassState). o.part ++ u.part) first ∙ ap (λ (o : PassState). one.part ++ o.part) second);
    }
