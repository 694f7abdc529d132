-- What a seat knows goes on to hold.
use Rattle.std.proofs.Common.{◌≡◌, ℕ, List, [], ◌∷◌, ◌++◌, refl, sym, ap, ◌∙◌, subst, ⊎_elim, inl, inr}
use Rattle.std.specs.Prelude.{true, false, not, ◌&&◌, None}
use Rattle.ww_lock.proofs.Lists.{in_last}
use Rattle.atomic_table.specs.Seated.{TableId}
use Rattle.ww_lock.specs.Rule.{In}
use Rattle.ww_lock.specs.Steps.{IsChain, right_half, with_exit, with_post, calls_with}
use Rattle.ww_lock.specs.declared.board.TaskChange.{TaskChange}
use Rattle.ww_lock.specs.Seats.{IsAsOwed, IsIdle, IsJoined, Sits, sees}
use Rattle.drm_types.specs.declared.spec.DeviceSpec.{DeviceSpec}
use Rattle.drm_resv.specs.Reservation.{WithRoom}
use Rattle.drm_sched.specs.Marks.{MarkedDevice, Task, IsBusy, mark_of}
use Rattle.drm_gpu.specs.Passes.{Seeing, DeviceSeat, GpuState, GrowsTo, Knows, Seated, FitsDevice, HoldsOn, IsPassSeat, IsSameBut, Adds, first_or, blank, last_of, gpu_of, noted}
use Rattle.drm_gpu.proofs.Grown.{grows_itself, grows_trans}

chain_last : (cs : List (MarkedDevice × MarkedDevice)) (d : MarkedDevice × MarkedDevice) → IsChain GrowsTo cs → ((c : MarkedDevice × MarkedDevice) → In c cs → GrowsTo c.1 d.0) → IsChain GrowsTo (cs ++ d ∷ [])
chain_last [] d chain up = ((λ e t. absurd t), tt)
chain_last (c ∷ cs) d chain up =
    ((λ e t. ⊎_elim (λ u. chain.0 e u) (λ u. subst (λ (z : MarkedDevice × MarkedDevice). GrowsTo c.1 z.0) (sym u) (up c (inl refl))) (in_last e d cs t)), chain_last cs d chain.1 (λ c t. up c (inr t)))

-- a device with the same marks waits for the same tasks
pub still_busy : (d e : MarkedDevice) → e.marks ≡ d.marks → (t : Task) → IsBusy d t → IsBusy e t
still_busy d e same t busy = ap (λ ms. mark_of (record d { marks = ms }) t.ring) same ∙ busy

-- what was seen last is in the list of what was seen
pub saw : (spec : DeviceSpec) (p : MarkedDevice) (v : Seeing) → Knows spec p v → In p v.pivot.seen
saw spec p v k = subst (In p) (sym k.seen) (inl refl)

pub last_is : (spec : DeviceSpec) (p : MarkedDevice) (v : Seeing) → Knows spec p v → last_of v ≡ p
last_is spec p v k = ap (first_or blank) k.seen

-- who has seen one device, by two lists, has seen one
pub same_seen : (spec : DeviceSpec) (p r : MarkedDevice) (v : Seeing) → Knows spec p v → v.pivot.seen ≡ r ∷ [] → r ≡ p
same_seen spec p r v k e = ap (first_or blank) (sym e ∙ k.seen)

-- the caller is at another device, which grows from the one that it saw
pub knows_entered : (spec : DeviceSpec) (d p : MarkedDevice) (v w : Seeing) → Knows spec d v → w.pivot.seen ≡ p ∷ [] → w.pivot.mine ≡ v.pivot.mine → GrowsTo d p → Knows spec p w
knows_entered spec d p v w k sees mine up = record {
  seen = sees;
  described = up.spec ∙ k.described;
  chain = subst (IsChain GrowsTo) (sym mine) k.chain;
  lefts = λ c h. grows_trans c.1 d p (k.lefts c (subst (In c) mine h)) up;
}

-- the caller found p and left q
knows_called : (spec : DeviceSpec) (p q : MarkedDevice) (v w : Seeing) → Knows spec p v → GrowsTo p q → w.pivot.seen ≡ q ∷ [] → w.pivot.mine ≡ v.pivot.mine ++ (p, q) ∷ [] → Knows spec q w
knows_called spec p q v w k on sees mine = record {
  seen = sees;
  described = on.spec ∙ k.described;
  chain = subst (IsChain GrowsTo) (sym mine) (chain_last v.pivot.mine (p, q) k.chain (λ c h. k.lefts c h));
  lefts = λ c h. ⊎_elim (λ t. grows_trans c.1 p q (k.lefts c t) on) (λ e. subst (λ (z : MarkedDevice × MarkedDevice). GrowsTo z.1 q) (sym e) (grows_itself q)) (in_last c (p, q) v.pivot.mine (subst (In c) mine h));
}

-- what a caller knows of what it sees last
knows_last : (spec : DeviceSpec) (q : MarkedDevice) (w : Seeing) → Knows spec q w → Knows spec (last_of w) w
knows_last spec q w k = subst (λ d. Knows spec d w) (sym (last_is spec q w k)) k

module _ (spec : DeviceSpec) (p q : MarkedDevice) (xs : List (ℕ × WithRoom)) (change : TaskChange Task) where
  -- a caller that found p has brought q home
  pub left : (r : MarkedDevice) (v w : Seeing) → Knows spec p v → v.pivot.posted ≡ false → GrowsTo p q → v.pivot.seen ≡ r ∷ [] → w ≡ with_exit true change r q xs v
      → (Knows spec (last_of w) w × (last_of w ≡ q)) × Adds p q v w
  left r v w k fresh on e view =
      let is : r ≡ p = same_seen spec p r v k e in
      let mine : w.pivot.mine ≡ v.pivot.mine ++ (p, q) ∷ [] =
      ap (λ (z : Seeing). z.pivot.mine) view ∙ (ap (λ b. calls_with (true && not b) v.pivot.mine r q) fresh ∙ ap (λ n. v.pivot.mine ++ (n, q) ∷ []) is) in
      let knows : Knows spec q w = knows_called spec p q v w k on (ap (λ (z : Seeing). z.pivot.seen) view) mine in
      ((knows_last spec q w knows, last_is spec q w knows), (mine, ap noted view))

  -- the same, where it has shown q by the word of a fence before
  pub shown_and_left : (r r' : MarkedDevice) (ys : List (ℕ × WithRoom)) (v u w : Seeing) → Knows spec p v → GrowsTo p q → v.pivot.seen ≡ r ∷ [] → u ≡ with_post r q xs v → w ≡ with_exit true change r' q ys u
      → (Knows spec (last_of w) w × (last_of w ≡ q)) × Adds p q v w
  shown_and_left r r' ys v u w k on e post view =
      let is : r ≡ p = same_seen spec p r v k e in
      let mine : w.pivot.mine ≡ v.pivot.mine ++ (p, q) ∷ [] =
      ap (λ (z : Seeing). z.pivot.mine) view ∙ (ap (λ (z : Seeing). calls_with (true && not z.pivot.posted) z.pivot.mine r' q) post ∙ ap (λ n. v.pivot.mine ++ (n, q) ∷ []) is) in
      let knows : Knows spec q w = knows_called spec p q v w k on (ap (λ (z : Seeing). z.pivot.seen) view) mine in
      ((knows_last spec q w knows, last_is spec q w knows), (mine, ap noted view ∙ ap noted post))

  -- a caller that found p has brought q home and has made no call
  pub left_quietly : (r : MarkedDevice) (v w : Seeing) → Knows spec p v → GrowsTo p q → w ≡ with_exit false change r q xs v → (Knows spec (last_of w) w × (last_of w ≡ q)) × IsSameBut v w
  left_quietly r v w k on view =
      let knows = knows_entered spec p q v w k (ap (λ (z : Seeing). z.pivot.seen) view) (ap (λ (z : Seeing). z.pivot.mine) view) on in
      ((knows_last spec q w knows, last_is spec q w knows), (ap (λ (z : Seeing). z.pivot.mine) view, ap noted view))

-- what two joined passes know
pub knows_joined : (spec : DeviceSpec) (p q : MarkedDevice) (v u w : Seeing) → Knows spec p v → Knows spec q u → (j : IsJoined GrowsTo v u w) → Knows spec (last_of w) w
knows_joined spec p q v u w k l j = knows_last spec j.0 w (record {
  seen = ap (λ (z : Seeing). z.pivot.seen) j.2;
  described = (j.6 p (saw spec p v k)).spec ∙ k.described;
  chain = subst (IsChain GrowsTo) (sym (ap (λ (z : Seeing). z.pivot.mine) j.2)) j.3;
  lefts = λ c h. j.5 c (subst (In c) (ap (λ (z : Seeing). z.pivot.mine) j.2) h);
})

-- what a caller knows, where it has done nothing to the device
pub knows_same : (spec : DeviceSpec) (v w : Seeing) → Knows spec (last_of v) v → w.pivot ≡ v.pivot → Knows spec (last_of w) w
knows_same spec v w k pivot = knows_last spec (last_of v) w (record {
  seen = ap (λ p. p.seen) pivot ∙ k.seen;
  described = k.described;
  chain = subst (λ p. IsChain GrowsTo p.mine) (sym pivot) k.chain;
  lefts = λ c h. k.lefts c (subst (λ p. In c p.mine) pivot h);
})

-- ---- of seats

pub holds_trans : (r s t : DeviceSeat) → HoldsOn r s → HoldsOn s t → HoldsOn r t
holds_trans r s t a b = ((b.0.0 ∙ a.0.0, b.0.1 ∙ a.0.1, b.0.2 ∙ a.0.2), b.1 ∙ a.1)

-- a seat that holds nothing owes what it holds
pub owes_nothing : (s : DeviceSeat) → s.held.items ≡ [] → IsAsOwed FitsDevice s
owes_nothing s none b x y i j p f = absurd (subst (In (b, y)) none j)

-- a seat that a pass has, by the device that the seat is at
pub pass_here : (gpu : GpuState) (t : DeviceSeat) → IsPassSeat gpu t → IsPassSeat (gpu_of t.place.table_id (sees t)) t
pass_here gpu t k =
    let at = k.seated in
    record {
      seated = record {
        sits = subst (λ h. Sits false h t) (sym at.sits.seated) at.sits;
        knows = subst (λ s. Knows s (last_of (sees t)) (sees t)) (sym at.knows.described) at.knows;
        owed = at.owed;
      };
      none = k.none;
      idle = k.idle;
    }

-- a pass's seat that holds on is a pass's still
pub pass_on : (gpu : GpuState) (r t : DeviceSeat) → r.held.items ≡ [] → (sees r).task ≡ None → HoldsOn r t → Seated gpu t → IsPassSeat gpu t
pass_on gpu r t none idle on k = record { seated = k; none = ap (λ h. h.items) on.0.1 ∙ none; idle = on.1 ∙ idle }

-- the seat of a pass that entered and left is a pass's
pub pass_left : (gpu old : GpuState) (r s t : DeviceSeat) → IsPassSeat old r → HoldsOn r s → HoldsOn s t → Seated gpu t → IsPassSeat (gpu_of t.place.table_id (sees t)) t
pass_left gpu old r s t k in_on out_on seat = pass_here gpu t (pass_on gpu r t k.none k.idle (holds_trans r s t in_on out_on) seat)

-- a seat that is idle is a pass's, where it knows what a pass knows
pub idle_seated : (gpu : GpuState) (t : DeviceSeat) → IsIdle gpu.home t → Knows gpu.spec (last_of (sees t)) (sees t) → Seated gpu t
idle_seated gpu t idle k = record { sits = idle.0.sits; knows = k; owed = owes_nothing t idle.0.none }

pub idle_pass : (z : TableId) (spec : DeviceSpec) (t : DeviceSeat) → IsIdle z t → Knows spec (last_of (sees t)) (sees t) → IsPassSeat (gpu_of t.place.table_id (sees t)) t
idle_pass z spec t idle k =
    let gpu : GpuState = record { home = z; spec = spec } in
    pass_here gpu t (record { seated = idle_seated gpu t idle k; none = idle.0.none; idle = idle.1 })
