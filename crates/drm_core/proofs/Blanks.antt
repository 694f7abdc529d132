-- Lists of blank rows, and the tables that are made of them.
use Rattle.std.proofs.Common.{◌≡◌, ℕ, zero, suc, List, [], ◌∷◌, map, length, replicate, Option, Some, None, refl, sym, ap, subst, ◌∙◌, arith, slice_get}
use Rattle.std.specs.Prelude.{option_map}
use Rattle.std.specs.Option.{option_map_or}
use Rattle.std.proofs.lemmas.List.{length-map}
use Rattle.drm_resv.specs.Reservation.{WithRoom}
use Rattle.drm_core.specs.declared.cores.ContextRow.{ContextRow}
use Rattle.drm_core.specs.declared.cores.CoreTable.{CoreTable}
use Rattle.drm_types.specs.Limits.{spec_fault}
use Rattle.drm_sched.specs.Marks.{Mark, MarkedDevice, unmarked}
use Rattle.drm_state.specs.State.{RingState, opened_device}
use Rattle.drm_core.specs.State.{CoreState, opened}
use Rattle.drm_core.specs.Steady.{IsSteadyCore}
use Rattle.drm_core.specs.Cores.{core_state, context_of_row, planned_by, planned_in, IsCore, NothingOut}
use Rattle.drm_core.specs.Laws.{DeviceLaws}
use Rattle.drm_core.proofs.Opening.{opened_core_steady}
use Rattle.drm_lists.proofs.Places.{map_to_same}

-- the tables of a core to which nothing has happened
pub blank_core : (c : CoreTable) → c.device.state ≡ opened_device c.device.state.spec
    → map (λ (r : WithRoom). r.kept) c.reservations.items ≡ replicate (length c.device.state.spec.buffers) (record { entries = []; history = [] })
    → c.holders.items ≡ replicate (length c.device.state.spec.buffers) None → c.contexts.items ≡ replicate 64 None → c.next_ticket ≡ 1
    → core_state c ≡ opened c.device.state.spec
blank_core c device reservations holders contexts tickets =
    let spec = c.device.state.spec in
    let rs = reservations ∙ sym (map_to_same (record { entries = []; history = [] }) spec.buffers) in
    let hs = holders ∙ sym (map_to_same None spec.buffers) in
    let cs : map (option_map context_of_row) c.contexts.items ≡ replicate 64 None = ap (map (option_map context_of_row)) contexts in
    ap (λ d. record (core_state c) { device = d }) device
    ∙ (ap (λ xs. record (core_state c) { device = opened_device spec; reservations = xs }) rs
    ∙ (ap (λ xs. record (core_state c) { device = opened_device spec; reservations = (opened spec).reservations; holders = xs }) hs
    ∙ (ap (λ xs. record (opened spec) { contexts = xs; next_ticket = c.next_ticket }) cs
    ∙ ap (λ n. record (opened spec) { next_ticket = n }) tickets)))

-- no context has a plan
pub no_plan : (n ctx : ℕ) → option_map_or (λ o. option_map_or planned_in o None) (slice_get (replicate n None) ctx) None ≡ None
no_plan zero ctx = refl
no_plan (suc n) zero = refl
no_plan (suc n) (suc ctx) = no_plan n ctx

-- nothing is out of a device that was opened
pub opened_inside : (d : MarkedDevice) → d ≡ unmarked (opened_device d.state.spec) → NothingOut d
opened_inside d is = subst NothingOut (sym is) (in_rings (opened_device d.state.spec).rings)
  where
    in_rings : (rings : List RingState) (k : ℕ) → option_map_or (λ (m : Option Mark). m) (slice_get (map (λ (ring : RingState). None) rings) k) None ≡ None
    in_rings [] k = refl
    in_rings (r ∷ rings) zero = refl
    in_rings (r ∷ rings) (suc k) = in_rings rings k

pub blank_is_core : (laws : DeviceLaws) (c : CoreTable) → core_state c ≡ opened c.device.state.spec → spec_fault c.device.state.spec ≡ None → NothingOut c.device
    → c.contexts.items ≡ replicate 64 None → IsCore c
blank_is_core laws c is limits inside contexts = record {
  steady = subst IsSteadyCore (sym is) (opened_core_steady laws c.device.state.spec);
  limits = limits;
  inside = inside;
  plans = λ ctx plan found.
      let none : planned_by c ctx ≡ None = ap (λ rows. option_map_or (λ o. option_map_or planned_in o None) (slice_get rows ctx) None) contexts ∙ no_plan 64 ctx in
      let clash : None ≡ Some plan = sym none ∙ found in absurd (cc (clash));
  reservation_count =
      sym (length-map c.reservations.items (λ (r : WithRoom). r.kept))
      ∙ (ap (λ (s : CoreState). length s.reservations) is ∙ length-map c.device.state.spec.buffers (λ bytes. record { entries = []; history = [] }));
  holder_count = ap (λ (s : CoreState). length s.holders) is ∙ length-map c.device.state.spec.buffers (λ bytes. None);
  context_count = ap length contexts;
  tickets = let first : c.next_ticket ≡ 1 = ap (λ (s : CoreState). s.next_ticket) is in omega (arith, first);
}
