use Rattle.std.proofs.Common.{◌≡◌, ◌+◌, List, ℕ, ap, sym, ◌∙◌, arith, slice_range, eqb-true, Vec, Global}
use Rattle.std.proofs.lemmas.Bool.{eqb-false}
use Rattle.drm_buffer.specs.Memory.{bytes_of, overwritten, range_of}
use Rattle.drm_buffer.proofs.Written.{put_back, through, other_bytes}
use Rattle.drm_buffer.proofs.memory.Memory.copy.Goals as goal
use Rattle.drm_buffer.proofs.memory.Memory.copy.Goals.{then-eq, else-eq}

pub returns : goal.returns
returns c =
    let memory : List (List ℕ) = c.args.self.now in
    let items : List ℕ = c.take_out-bytes.result.items in
    let from : ℕ = c.args.source_offset in
    let len : ℕ = c.args.len in
    let taken : items ≡ bytes_of memory c.args.target = c.take_out-bytes.ensures.bytes in
    let out = c.take_out-bytes.ensures.others in
    let over : c.if-eq.bytes.items ≡ overwritten items c.args.target_offset (range_of memory c.args.source from len) =
    elim c.if-eq.branch [
      | then-eq w ↦
          let same : c.args.source ≡ c.args.target = eqb-true c.args.source c.args.target (sym c.eq.ensures ∙ w.if-eq.true) in
          let source : items ≡ bytes_of memory c.args.source = taken ∙ ap (bytes_of memory) (sym same) in
          let lent = w.as_mut_slice.ensures.value in
          ap (λ (v : Vec ℕ Global). v.items) w.bytes-is
          ∙ (through items w.copy_within.new.bytes w.as_mut_slice.result.now _ c.take_out-bytes.result.len c.args.target_offset w.copy_within.ensures lent
          (omega (arith, w.copy_within.auto.bytes, w.as_mut_slice.ensures.len))
          ∙ ap (λ (r : List ℕ). overwritten items c.args.target_offset (slice_range r from (from + len))) (lent ∙ source))
      | else-eq w ↦
          let other = other_bytes memory c.take_out-bytes.new.self c.args.target c.args.source out
          (eqb-false c.args.source c.args.target (sym c.eq.ensures ∙ w.if-eq.false)) in
          ap (λ (v : Vec ℕ Global). v.items) w.bytes-is
          ∙ (through items w.copy.new.target w.as_mut_slice-else-eq.result.now _ c.take_out-bytes.result.len c.args.target_offset w.copy.ensures
          w.as_mut_slice-else-eq.ensures.value (omega (arith, w.copy.auto.target, w.as_mut_slice-else-eq.ensures.len))
          ∙ ap (λ (r : List ℕ). overwritten items c.args.target_offset (slice_range r from (from + len))) (w.bytes.ensures ∙ other))
    ] in
    put_back memory c.take_out-bytes.new.self _ c.args.target c.args.target_offset items _ (range_of memory c.args.source from len) taken out over c.put_back.ensures
