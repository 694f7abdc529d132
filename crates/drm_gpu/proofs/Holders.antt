-- What a caller that holds values knows goes on to hold.
use Rattle.std.proofs.Common.{◌≡◌, ◌<◌, ◌≤◌, ◌+◌, ℕ, length, slice_index_or, arith, List, [], ◌∷◌, map, refl, sym, ap, ◌∙◌, subst, ⊎_elim, inl, inr, false, vec_capacity}
use Rattle.std.specs.Prelude.{Bool, true, None, ◌==◌, if◌then◌else◌}
use Rattle.ww_lock.proofs.Lists.{key_in, in_without}
use Rattle.ww_lock.specs.Acquiring.{HasTicket, Holds, HoldsOutside, view}
use Rattle.ww_lock.specs.Held.{IsSameKeys, HasAt}
use Rattle.ww_lock.specs.Rule.{In}
use Rattle.ww_lock.specs.Seats.{IsAsOwed, Sits, sees}
use Rattle.ww_lock.specs.Steps.{with_release, without, number_of}
use Rattle.drm_job.specs.declared.Draft.{Draft}
use Rattle.drm_resv.specs.Reservation.{Reservation, WithRoom}
use Rattle.drm_state.specs.Held.{kept_of, HoldsAll, AllFit}
use Rattle.drm_state.specs.Keeps.{KeepsArmed, KeepsBut}
use Rattle.drm_state.specs.Reservation.{Fits}
use Rattle.drm_sched.specs.Marks.{MarkedDevice}
use Rattle.drm_gpu.specs.Passes.{IsPassSeat, Seeing, DeviceSeat, GpuState, PassState, Knows, Seated, Entered, FitsDevice, Fitting, HoldsOn, IsFound, IsSameBut, Adds, Calls, GrowsTo, last_of, pass_of}
use Rattle.drm_gpu.specs.Submissions.{DeviceAcquire, Holding, KeepsOthers}
use Rattle.drm_gpu.proofs.Chains.{knows_same, owes_nothing}
use Rattle.drm_gpu.proofs.Called.{calls_of, of_gpu}
use Rattle.drm_gpu.proofs.Lists.{elem_of, at_of, in_of, contained_in}

-- ---- what is held, with its room and without

pub in_kept : (b : ℕ) (x : Reservation) (hs : List (ℕ × WithRoom)) → In (b, x) (kept_of hs) → (r : WithRoom) × In (b, r) hs × (r.kept ≡ x)
in_kept b x [] h = absurd h
in_kept b x (y ∷ hs) h = ⊎_elim
    (λ e. (y.1, inl (λ i. ((e i).0, y.1)), sym (ap (λ (z : ℕ × Reservation). z.1) e)))
    (λ t. let r = in_kept b x hs t in (r.0, inr r.1, r.2)) h

pub in_kept_of : (b : ℕ) (x : WithRoom) (hs : List (ℕ × WithRoom)) → In (b, x) hs → In (b, x.kept) (kept_of hs)
in_kept_of b x [] h = absurd h
in_kept_of b x (y ∷ hs) h = ⊎_elim (λ e. inl (λ i. ((e i).0, (e i).1.kept))) (λ t. inr (in_kept_of b x hs t)) h

pub fits_kept_of : (d : MarkedDevice) (hs : List (ℕ × WithRoom)) → Fitting d (kept_of hs) → (b : ℕ) (x : WithRoom) → In (b, x) hs → Fits b d.state.journal x.kept
fits_kept_of d hs fit b x h = fit b x.kept (in_kept_of b x hs h)

-- what a seat holds fits the device that was found
pub held_fits : (s : DeviceSeat) (d : MarkedDevice) → IsSameKeys (sees s).lock.owes s.held.items → IsAsOwed FitsDevice s → ((b : ℕ) (y : WithRoom) → In (b, y) (sees s).lock.owes → FitsDevice b d y)
    → (b : ℕ) (x : Reservation) → In (b, x) (kept_of s.held.items) → Fits b d.state.journal x
held_fits s d keys owed owes b x has =
    let r = in_kept b x s.held.items has in
    let y = key_in s.held.items (sees s).lock.owes (sym keys) b r.0 r.1 in
    subst (Fits b d.state.journal) r.2 (owed b y.0 r.0 y.1 r.1 d (owes b y.0 y.1))

-- a buffer that is not owed is not held
pub not_held : (b : ℕ) (owes held : List (ℕ × WithRoom)) → IsSameKeys owes held → ((y : WithRoom) → In (b, y) owes → ⊥) → (y : Reservation) → In (b, y) (kept_of held) → ⊥
not_held b owes held keys none y has =
    let r = in_kept b y held has in
    let o = key_in held owes (sym keys) b r.0 r.1 in
    none o.0 o.1

keys_kept : (hs : List (ℕ × WithRoom)) → map number_of (kept_of hs) ≡ map number_of hs
keys_kept [] = refl
keys_kept (h ∷ hs) = ap (λ ns. h.0 ∷ ns) (keys_kept hs)

pub keys_same : (old new : List (ℕ × WithRoom)) → kept_of new ≡ kept_of old → map number_of new ≡ map number_of old
keys_same old new e = sym (keys_kept new) ∙ (ap (λ hs. map number_of hs) e ∙ keys_kept old)

pub all_fit : (d : MarkedDevice) (held : List (ℕ × Reservation)) → Fitting d held → AllFit d.state.journal held
all_fit d held fit k h at = fit h.0 h.1 (in_of held k h at)

pub fit_after : (d e : MarkedDevice) (old new : List (ℕ × Reservation)) → (AllFit d.state.journal old → AllFit e.state.journal new) → Fitting d old → Fitting e new
fit_after d e old new goes fit b x has = let n = at_of new (b, x) has in goes (all_fit d old fit) n.0 (b, x) n.1

-- an arming with what it holds leaves what others hold
pub keeps_others : (job : Draft) (fence : ℕ) (d e : MarkedDevice) (old new : List (ℕ × WithRoom)) → HoldsAll job (kept_of old) → map number_of new ≡ map number_of old
    → KeepsArmed job fence d.state e.state → KeepsOthers (kept_of new) fence 1 d e
keeps_others job fence d e old new all keys k = record {
  place = k.place;
  fits = λ b x none f. k.fits b x (λ m d at same.
      let h = all m d at in
      let r = in_kept d.0 h.0 old (contained_in (kept_of old) (d.0, h.0) h.1) in
      let n = key_in old new (sym keys) d.0 r.0 r.1 in
      none n.0.kept (subst (λ c. In (c, n.0.kept) (kept_of new)) same (in_kept_of d.0 n.0 new n.1))) f;
  word = k.word;
  words = k.words;
}

-- a call that shows a fence, of one that holds nothing or what fits on
pub keeps_but : (fence word : ℕ) (d e : MarkedDevice) (held : List (ℕ × Reservation)) → KeepsBut fence word d.state e.state → KeepsOthers held fence word d e
keeps_but fence word d e held k = record { place = k.place; fits = λ b x none f. k.fits b x f; word = k.word; words = k.words }

-- what fitted the device found fits the one that such a call leaves
pub fits_but : (fence word : ℕ) (d e : MarkedDevice) (held : List (ℕ × Reservation)) → KeepsBut fence word d.state e.state → Fitting d held → Fitting e held
fits_but fence word d e held k fit b x h = k.fits b x (fit b x h)

-- ---- holding on

-- a caller that holds, as the lock has it
pub holds : (gpu : GpuState) (a : DeviceAcquire) → Holding gpu a → HoldsOutside gpu.home a
holds gpu a k = record { sits = k.seat.sits; own = k.own }

-- its ticket is its own at a later state of the seat
pub own_on : (gpu : GpuState) (a : DeviceAcquire) (t : DeviceSeat) → HasTicket gpu.home a → HoldsOn a.seat t → HasTicket gpu.home (record a { seat = t })
own_on gpu a t own on = record {
  drawn = on.0.2 ∙ own.drawn;
  counted = own.counted;
  room = λ unsealed. subst (λ (h : _). gpu.home.slots ≤ vec_capacity h + 1) (sym on.0.1) (own.room unsealed);
}

pub holding_on : (gpu : GpuState) (a : DeviceAcquire) (t : DeviceSeat) → HasTicket gpu.home a → (view a).task ≡ None → HoldsOn a.seat t → Seated gpu t → Holding gpu (record a { seat = t })
holding_on gpu a t own idle on k = record { seat = k; own = own_on gpu a t own on; idle = on.1 ∙ idle }

-- a caller that has entered holds, as the lock has it
pub inside_still : (gpu : GpuState) (found : MarkedDevice) (a : DeviceAcquire) (t : DeviceSeat) → HasTicket gpu.home a → HoldsOn a.seat t → Entered gpu found t → Holds true gpu.home (record a { seat = t })
inside_still gpu found a t own on k = record { sits = k.sits; own = own_on gpu a t own on }

-- what a caller entered with goes on where it has put back other values for the same buffers
pub put_back : (gpu : GpuState) (found : MarkedDevice) (s t : DeviceSeat) → Entered gpu found s → sees t ≡ sees s → Sits true gpu.home t → Entered gpu found t
put_back gpu found s t k e h = record { sits = h; knows = subst (Knows gpu.spec found) (sym e) k.knows; fresh = ap (λ (z : Seeing). z.pivot.posted) e ∙ k.fresh }

-- a caller that saw v entered and saw s, found d and left e, and sees t
pub called_with : (does : MarkedDevice → MarkedDevice → Type 0) (gpu : GpuState) (old : PassState) (v s t : Seeing) (d f e : MarkedDevice) → pass_of gpu.home v ≡ old → Knows gpu.spec (last_of v) v
    → IsFound d v → IsSameBut v s → f ≡ d → GrowsTo d e → Knows gpu.spec (last_of t) t → last_of t ≡ e → Adds f e s t → does d e → Calls does old (pass_of gpu.home t)
called_with does gpu old v s t d f e view before found same is on after out adds does_it =
    calls_of does gpu old gpu.home gpu.home v s t d f e view (sym (ap (λ (o : PassState). o.gpu) view) ∙ of_gpu gpu v before) found same is on (of_gpu gpu t after) out adds does_it

-- a caller that holds and owes what it did goes on to hold
pub still_holds : (gpu : GpuState) (a a' : DeviceAcquire) → Holding gpu a → HoldsOutside gpu.home a' → (view a').pivot ≡ (view a).pivot → (view a').task ≡ (view a).task → (view a').lock.owes ≡ (view a).lock.owes → a'.seat.held ≡ a.seat.held
    → Holding gpu a'
still_holds gpu a a' k h pivot task owes held = record {
  seat = record {
    sits = h.sits;
    knows = knows_same gpu.spec (view a) (view a') k.seat.knows pivot;
    owed = λ d y w i j p f. k.seat.owed d y w (subst (In (d, y)) owes i) (subst (λ l. In (d, w) l.items) held j) p f;
  };
  own = h.own;
  idle = task ∙ k.idle;
}

-- ---- giving back

-- what is first among what is held
pub first_at : (xs : List (ℕ × WithRoom)) (d : ℕ × WithRoom) → 0 < length xs → HasAt (slice_index_or xs 0 d).0 0 xs
first_at [] d some = absurd (omega arith)
first_at (x ∷ xs) d some = (x.1, refl)

-- a caller that has given one value back goes on to hold the others
pub released : (gpu : GpuState) (b : ℕ) (a a' : DeviceAcquire) → Holding gpu a → HoldsOutside gpu.home a' → view a' ≡ with_release b (view a) → a'.seat.held.items ≡ without b a.seat.held.items → Holding gpu a'
released gpu b a a' k h v e = record {
  seat = record {
    sits = h.sits;
    knows = knows_same gpu.spec (view a) (view a') k.seat.knows (ap (λ (z : Seeing). z.pivot) v);
    owed = λ d y w i j p f.
        k.seat.owed d y w (in_without b (d, y) (view a).lock.owes (subst (λ (z : Seeing). In (d, y) z.lock.owes) v i)).0 (in_without b (d, w) a.seat.held.items (subst (In (d, w)) e j)).0 p f;
  };
  own = h.own;
  idle = ap (λ (z : Seeing). z.task) v ∙ k.idle;
}

-- a caller that holds nothing has given its ticket up
pub ended : (gpu : GpuState) (a : DeviceAcquire) (s : DeviceSeat) → Holding gpu a → a.seat.held.items ≡ [] → s ≡ a.seat → IsPassSeat gpu s
ended gpu a s k none e = subst (IsPassSeat gpu) (sym e) (record { seated = k.seat; none = none; idle = k.idle })

-- what is given back one by one is given back with its room or without
pub kept_without : (b : ℕ) (xs : List (ℕ × WithRoom)) → kept_of (without b xs) ≡ without b (kept_of xs)
kept_without b [] = refl
kept_without b (x ∷ xs) =
    elim (x.0 == b) as (λ (k : Bool). kept_of (if k then without b xs else x ∷ without b xs) ≡ (if k then without b (kept_of xs) else (x.0, x.1.kept) ∷ without b (kept_of xs))) [
      | true ↦ kept_without b xs
      | false ↦ ap (λ hs. (x.0, x.1.kept) ∷ hs) (kept_without b xs)
    ]

-- where a buffer stands that is held
pub has_at : (b : ℕ) (x : Reservation) (xs : List (ℕ × WithRoom)) → In (b, x) (kept_of xs) → (i : ℕ) × HasAt b i xs
has_at b x xs h = let r = in_kept b x xs h in let k = elem_of xs (b, r.0) r.1 in (k.0, (r.0, k.1))

-- a caller that has drawn a ticket and holds nothing
pub holds_nothing : (gpu : GpuState) (v : Seeing) (a : DeviceAcquire) → HoldsOutside gpu.home a → Knows gpu.spec (last_of v) v → v.task ≡ None → (view a).pivot ≡ v.pivot → (view a).task ≡ v.task → a.seat.held.items ≡ [] → Holding gpu a
holds_nothing gpu v a h k idle pivot task none = record {
  seat = record { sits = h.sits; knows = knows_same gpu.spec v (view a) k pivot; owed = owes_nothing a.seat none };
  own = h.own;
  idle = task ∙ idle;
}
