use Rattle.std.proofs.Common.{◌≡◌, List, ℕ, ap, sym, ◌∙◌, arith, eqb-true, Vec, Global}
use Rattle.std.proofs.lemmas.Bool.{eqb-false}
use Rattle.drm_buffer.specs.Memory.{bytes_of, overwritten, range_of, sums, range_sums}
use Rattle.drm_buffer.proofs.Written.{put_back, through, other_bytes}
use Rattle.drm_buffer.proofs.memory.Memory.add.Goals as goal
use Rattle.drm_buffer.proofs.memory.Memory.add.Goals.{then-eq, else-eq}

pub returns : goal.returns
returns c =
    let memory : List (List ℕ) = c.args.self.now in
    let items : List ℕ = c.take_out-bytes.result.items in
    let to : ℕ = c.args.target_offset in
    let from : ℕ = c.args.source_offset in
    let len : ℕ = c.args.len in
    let taken : items ≡ bytes_of memory c.args.target = c.take_out-bytes.ensures.bytes in
    let out = c.take_out-bytes.ensures.others in
    let bytes : List ℕ = sums (range_of memory c.args.target to len) (range_of memory c.args.source from len) in
    let over : c.if-eq.bytes.items ≡ overwritten items to bytes =
    elim c.if-eq.branch [
      | then-eq w ↦
          let same : c.args.source ≡ c.args.target = eqb-true c.args.source c.args.target (sym c.eq.ensures ∙ w.if-eq.true) in
          let lent = w.as_mut_slice.ensures.value in
          let source = lent ∙ (taken ∙ ap (bytes_of memory) (sym same)) in
          ap (λ (v : Vec ℕ Global). v.items) w.bytes-is
          ∙ (through items w.add_within.new.bytes w.as_mut_slice.result.now _ c.take_out-bytes.result.len to w.add_within.ensures lent
          (omega (arith, w.add_within.auto.bytes, w.as_mut_slice.ensures.len))
          ∙ (ap (λ (r : List ℕ). overwritten items to (range_sums r w.as_mut_slice.result.now to from len)) (lent ∙ taken)
          ∙ ap (λ (r : List ℕ). overwritten items to (range_sums (bytes_of memory c.args.target) r to from len)) source))
      | else-eq w ↦
          let other = other_bytes memory c.take_out-bytes.new.self c.args.target c.args.source out
          (eqb-false c.args.source c.args.target (sym c.eq.ensures ∙ w.if-eq.false)) in
          let lent = w.as_mut_slice-else-eq.ensures.value in
          ap (λ (v : Vec ℕ Global). v.items) w.bytes-is
          ∙ (through items w.add.new.target w.as_mut_slice-else-eq.result.now _ c.take_out-bytes.result.len to w.add.ensures lent
          (omega (arith, w.add.auto.target, w.as_mut_slice-else-eq.ensures.len))
          ∙ (ap (λ (r : List ℕ). overwritten items to (range_sums r w.bytes.result.now to from len)) (lent ∙ taken)
          ∙ ap (λ (r : List ℕ). overwritten items to (range_sums (bytes_of memory c.args.target) r to from len)) (w.bytes.ensures ∙ other)))
    ] in
    put_back memory c.take_out-bytes.new.self _ c.args.target to items _ bytes taken out over c.put_back.ensures
