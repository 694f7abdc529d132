-- A device stays whole when a packet comes back.
use Rattle.std.proofs.Common.{◌≡◌, ◌≢◌, ℕ, ◌<◌, Bool, true, false, ◌==◌, List, [], set, map, length, Some, None, Option, refl, sym, ap, subst, ◌∙◌, inl, inr, slice_get}
use Rattle.std.specs.Option.{option_map_or}
use Rattle.std.specs.List.{list_any}
use Rattle.std.specs.Prelude.{Contains, option_map}
use Rattle.std.proofs.lemmas.Bool.{both_ways, eqb-true, eq-eqb, cases_eq}
use Rattle.std.proofs.lemmas.List.{map-set}
use Rattle.drm_lists.proofs.Places.{stands_within}
use Rattle.drm_lists.proofs.Changed.{get_set_same, get_set_other}
use Rattle.drm_job.proofs.Apart.{any_from}
use Rattle.drm_packet.specs.Touches.{touches}
use Rattle.drm_state.specs.declared.journal.JobRecord.{JobRecord}
use Rattle.drm_table.specs.declared.table.Table.{Table}
use Rattle.drm_sched.specs.declared.parts.OutMark.{OutMark}
use Rattle.drm_sched.specs.declared.parts.Parts.{Parts}
use Rattle.drm_sched.specs.Marks.{Mark, MarkedDevice, mark_of, packet_at, out_by, reported_device, IsOut, IsSteadyMarked}
use Rattle.drm_sched.specs.Parts.{mark_of_row, marked_of, HasOut, IsWholeMarked}
use Rattle.drm_table.specs.Outside.{IsBack}
use Rattle.drm_state.specs.Outcomes.{next_packet, ran_device}
use Rattle.drm_table.specs.Tables.{state_of, IsWhole}
use Rattle.drm_state.proofs.Records.{changed_is}
use Rattle.drm_state.proofs.RanLawful.{one_more_ran}
use Rattle.drm_sched.proofs.MarksKept.{touches_out, same_packet, reported_steady}
use Rattle.drm_sched.proofs.MarksOther.{mark_there}
use Rattle.drm_sched.proofs.MarkedBuffers.{set_both, set_touched, set_untouched}
use Rattle.drm_sched.proofs.MarkedOut.{any_there}

-- what is out of the memory after it is what the other marks keep out
reported_out : (d : MarkedDevice) (ring : ℕ) (m : Mark) (o : IsOut d.state ring m) (out : List Bool) → HasOut d out → IsSteadyMarked d → ring < length d.marks
    → mark_of d ring ≡ Some m → HasOut (reported_device d ring m o.packet) (set_both out o.packet false)
reported_out d ring m o out has steady here busy =
    let p = o.packet in
    let new = reported_device d ring m p in
    let old = stands_within d.marks ring here in
    let none : mark_of new ring ≡ None =
    ap (λ (x : Option (Option Mark)). option_map_or (λ y. y) x None) (get_set_same d.marks ring old.0 None old.1) in
    let others : (k : ℕ) → k ≢ ring → mark_of new k ≡ mark_of d k =
    λ k other. ap (λ (x : Option (Option Mark)). option_map_or (λ y. y) x None) (get_set_other d.marks ring k None other) in
    let away : (k : ℕ) (n : Mark) → mark_of new k ≡ Some n → k ≢ ring =
    λ k n is e. (let never : None ≡ Some n = sym none ∙ (ap (mark_of new) (sym e) ∙ is) in cc (never)) in
    let journal = changed_is d.state.journal m.fence o.job one_more_ran o.at in
    let same_out : (n : Mark) → out_by new.state.journal (Some n) ≡ out_by d.state.journal (Some n) =
    λ n. ap (λ (js : List JobRecord). option_map_or touches (packet_at js n.fence n.packet) []) journal
    ∙ ap (λ x. option_map_or touches x []) (same_packet d.state.journal m.fence n.fence n.packet o.job o.at) in
    let mine = touches_out d.state ring m o in
    record {
      outside = λ k n is b c.
          let was = sym (others k (away k n is)) ∙ is in
          let inside_old = subst (λ (bs : List ℕ). Contains bs b) (same_out n) c in
          set_untouched out p b false
          (λ touched. steady.apart k ring n m (away k n is) was busy b inside_old (subst (λ (bs : List ℕ). Contains bs b) (sym mine) touched))
          ∙ has.outside k n was b inside_old;
      inside = λ b lt kept.
          elim (list_any (λ x. x == b) (touches p)) as (λ y. list_any (λ x. x == b) (touches p) ≡ y → slice_get (set_both out p false) b ≡ Some false) [
            | true ↦ λ is.
                let a = any_there (λ x. x == b) (touches p) is in
                let touched : Contains (touches p) b = subst (Contains (touches p)) (eqb-true a.0 b a.2) a.1 in
                set_touched out p b false true touched (has.outside ring m busy b (subst (λ (bs : List ℕ). Contains bs b) (sym mine) touched))
            | false ↦ λ is.
                let not_touched : Contains (touches p) b → ⊥ =
                λ touched. both_ways (list_any (λ x. x == b) (touches p)) is (any_from (λ x. x == b) (touches p) b touched (eq-eqb b b refl)) in
                set_untouched out p b false not_touched
                ∙ has.inside b lt (λ k n is_n c.
                elim (cases_eq k ring) [
                  | inl k_is ↦
                      let it : n ≡ m = (let e : Some m ≡ Some n = sym busy ∙ (ap (mark_of d) (sym k_is) ∙ is_n) in cc (e)) in
                      not_touched (subst (λ (bs : List ℕ). Contains bs b) mine (subst (λ z. Contains (out_by d.state.journal (Some z)) b) it c))
                  | inr other ↦ kept k n (others k other ∙ is_n) (subst (λ (bs : List ℕ). Contains bs b) (sym (same_out n)) c)
                ])
          ] refl;
    }

-- the tables after it
pub report_marked : (d : Parts) (ring : ℕ) (row : OutMark) (n : Table) (new : Parts) → IsWholeMarked d
    → mark_of (marked_of d) ring ≡ Some (mark_of_row row) → IsBack d.table row.fence n → IsWhole n → new.table ≡ n → new.marks.items ≡ set d.marks.items ring None
    → IsWholeMarked new
report_marked d ring row n new w is (p, next, state, outs) whole table marks =
    let m = mark_of_row row in
    let out = w.steady.out ring m is in
    let here = mark_there (marked_of d).marks ring m is in
    let at_next : next_packet d.table.journal.items row.fence ≡ Some out.packet =
    ap (λ o. option_map_or (λ (z : JobRecord). slice_get z.job.packets z.ran) o None) out.at ∙ (ap (λ k. slice_get out.job.job.packets k) out.count ∙ out.next) in
    let same : p ≡ out.packet = (let e : Some p ≡ Some out.packet = sym next ∙ at_next in cc (e)) in
    let left : state_of new.table ≡ ran_device (state_of d.table) row.fence out.packet =
    ap state_of table ∙ (state ∙ ap (ran_device (state_of d.table) row.fence) same) in
    let is_new : marked_of new ≡ reported_device (marked_of d) ring m out.packet =
    ap (λ s. let z : MarkedDevice = record { state = s; marks = map (option_map mark_of_row) new.marks.items } in z) left
    ∙ ap (λ ms. let z : MarkedDevice = record { state = ran_device (state_of d.table) row.fence out.packet; marks = ms } in z)
    (ap (map (option_map mark_of_row)) marks ∙ map-set (option_map mark_of_row) d.marks.items ring None) in
    let out_is : new.table.memory.out ≡ set_both d.table.memory.out out.packet false =
    ap (λ (t : Table). t.memory.out) table ∙ (outs ∙ ap (λ q. set_both d.table.memory.out q false) same) in
    record {
      table = subst IsWhole (sym table) whole;
      steady = subst IsSteadyMarked (sym is_new) (reported_steady (marked_of d) ring m out w.steady here is);
      out = subst (λ z. HasOut z new.table.memory.out) (sym is_new)
          (subst (HasOut (reported_device (marked_of d) ring m out.packet)) (sym out_is) (reported_out (marked_of d) ring m out d.table.memory.out w.out w.steady here is));
    }
