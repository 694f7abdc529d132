use Rattle.std.proofs.Common.{◌≡◌, ℕ, Some, true, false, List, set, slice_get, sym, ap, ◌∙◌}
use Rattle.drm_lists.proofs.Changed.{get_set_other, get_set_same}
use Rattle.drm_buffer.specs.Stored.{Stored}
use Rattle.drm_packet.specs.Parts.{target_of, source_of}
use Rattle.drm_packet.proofs.InStores.{apart_buffers, ran_alone, ran_beside}
use Rattle.drm_packet.proofs.Packet.run_in.Goals as goal
use Rattle.drm_packet.proofs.Packet.run_in.Goals.{in-None, in-Some-source}

pub take-read-requires : goal.take-read-requires
take-read-requires c =
    let p = c.args.self.now in
    let s = c.args.store.now in
    let t = c.in-Some.target in
    let b = c.in-Some-source.source in
    let is_t : target_of p ≡ Some t = sym c.target.ensures ∙ c.in-Some.is in
    let is_b : source_of p ≡ Some b = sym c.source.ensures ∙ c.in-Some-source.is in
    ap (λ (z : Stored). slice_get z.out b) c.take-write.ensures.left ∙ (get_set_other s.out t b true (apart_buffers p t b is_t is_b) ∙ c.requires.source b is_b)

pub put-requires : goal.put-requires
put-requires c =
    let p = c.args.self.now in
    let s = c.args.store.now in
    let t = c.in-Some.target in
    let b = c.in-Some-source.source in
    let is_t : target_of p ≡ Some t = sym c.target.ensures ∙ c.in-Some.is in
    let is_b : source_of p ≡ Some b = sym c.source.ensures ∙ c.in-Some-source.is in
    let still : slice_get c.take-write.new.self.out b ≡ Some false =
    ap (λ (z : Stored). slice_get z.out b) c.take-write.ensures.left ∙ (get_set_other s.out t b true (apart_buffers p t b is_t is_b) ∙ c.requires.source b is_b) in
    ap (λ (z : Stored). slice_get z.out b) c.take-read.ensures.left ∙ get_set_same c.take-write.new.self.out b false true still

pub put-requires-2 : goal.put-requires-2
put-requires-2 c =
    let p = c.args.self.now in
    let s = c.args.store.now in
    let t = c.in-Some.target in
    let is_t : target_of p ≡ Some t = sym c.target.ensures ∙ c.in-Some.is in
    let out : slice_get c.take-write.new.self.out t ≡ Some true =
    ap (λ (z : Stored). slice_get z.out t) c.take-write.ensures.left ∙ get_set_same s.out t false true (c.requires.target t is_t) in
    elim c.match-source.branch [
      | in-None w ↦ ap (λ (z : Stored). slice_get z.out t) w.store-is ∙ out
      | in-Some-source w ↦
          let b = w.in-Some-source.source in
          let is_b : source_of p ≡ Some b = sym c.source.ensures ∙ w.in-Some-source.is in
          let other = λ (e : t ≡ b). apart_buffers p t b is_t is_b (sym e) in
          ap (λ (z : Stored). slice_get z.out t) w.store-is
          ∙ (ap (λ (z : Stored). slice_get z.out t) w.put.ensures
          ∙ (get_set_other w.take-read.new.self.out b t false other
          ∙ (ap (λ (z : Stored). slice_get z.out t) w.take-read.ensures.left
          ∙ (get_set_other c.take-write.new.self.out b t true other ∙ out))))
    ]

pub returns : goal.returns
returns c =
    let p = c.args.self.now in
    let s = c.args.store.now in
    let t = c.in-Some.target in
    let is_t : target_of p ≡ Some t = sym c.target.ensures ∙ c.in-Some.is in
    elim c.match-source.branch [
      | in-None w ↦
          ran_alone p s c.take-write.new.self c.put-2.new.self t c.take-write.result w.run_parts.new.write is_t (sym c.source.ensures ∙ w.in-None.is)
          (c.requires.target t is_t) c.take-write.ensures.bytes c.take-write.ensures.left w.run_parts.ensures
          (c.put-2.ensures
          ∙ (ap (λ (z : Stored). let y : Stored = record { bytes = set z.bytes t c.match-source.write; out = set z.out t false } in y) w.store-is
          ∙ ap (λ (bs : List ℕ). let y : Stored = record { bytes = set c.take-write.new.self.bytes t bs; out = set c.take-write.new.self.out t false } in y) w.write-is))
      | in-Some-source w ↦
          let b = w.in-Some-source.source in
          let is_b : source_of p ≡ Some b = sym c.source.ensures ∙ w.in-Some-source.is in
          ran_beside p s c.take-write.new.self w.take-read.new.self w.put.new.self c.put-2.new.self t b c.take-write.result w.take-read.result
          w.run_parts-in-Some-source.new.write is_t is_b (c.requires.target t is_t) (c.requires.source b is_b)
          c.take-write.ensures.bytes c.take-write.ensures.left w.take-read.ensures.bytes w.take-read.ensures.left w.run_parts-in-Some-source.ensures w.put.ensures
          (c.put-2.ensures
          ∙ (ap (λ (z : Stored). let y : Stored = record { bytes = set z.bytes t c.match-source.write; out = set z.out t false } in y) w.store-is
          ∙ ap (λ (bs : List ℕ). let y : Stored = record { bytes = set w.put.new.self.bytes t bs; out = set w.put.new.self.out t false } in y) w.write-is))
    ]
