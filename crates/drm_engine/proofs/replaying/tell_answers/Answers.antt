use Rattle.std.proofs.Common.{◌++◌, ◌∙◌, ap, arith, subst, sym}
use Rattle.drm_types.specs.Limits.{spec_fault}
use Rattle.drm_core.specs.Run.{AllNamesExist}
use Rattle.drm_script.specs.Chunks.{all_of}
use Rattle.drm_engine.proofs.Pieces.{TellsOn, chunk_turned, names_behind, names_first, nothing_said, tells_end}
use Rattle.drm_engine.proofs.replaying.tell_answers.Goals as goal

pub tell_chunk-told-requires : goal.tell_chunk-told-requires
tell_chunk-told-requires g c = record {
  names = names_first c.loop-chunk.core.device.spec c.in-Some.chunk (all_of c.next.new.self)
      (subst (λ chunks. AllNamesExist c.loop-chunk.core.device.spec (all_of chunks)) c.in-Some.ensures.some c.loop-chunk.invariant.names);
  lawful = c.loop-chunk.invariant.lawful;
  limits = c.loop-chunk.invariant.limits;
  known = c.loop-chunk.invariant.known;
  short = c.loop-chunk.invariant.short;
}

pub loop-chunk-init : goal.loop-chunk-init
loop-chunk-init g c = record {
  names = subst (AllNamesExist c.args.core.now.device.spec) (sym c.into_chunks-chunks.ensures) c.requires.names;
  lawful = c.requires.lawful;
  limits = c.requires.limits;
  known = c.requires.known;
  short = rw c.requires.bare (omega arith);
  so_far = nothing_said g.L.Lines.line c.args.writer.now c.args.core.now c.args.events (all_of c.into_chunks-chunks.result) c.args.piece.now c.into_chunks-chunks.ensures c.requires.bare;
}

pub loop-chunk-preserved : goal.loop-chunk-preserved
loop-chunk-preserved g c =
    let so = c.loop-chunk.invariant.so_far in
    let told = c.tell_chunk-told.ensures.told c.args.writer.now so.1 so.3 in
    record {
      names = names_behind c.loop-chunk.core.device.spec c.tell_chunk-told.new.core.device.spec c.in-Some.chunk (all_of c.next.new.self) c.tell_chunk-told.ensures.spec
          (subst (λ chunks. AllNamesExist c.loop-chunk.core.device.spec (all_of chunks)) c.in-Some.ensures.some c.loop-chunk.invariant.names);
      lawful = c.tell_chunk-told.ensures.lawful;
      limits = ap spec_fault c.tell_chunk-told.ensures.spec ∙ c.loop-chunk.invariant.limits;
      known = c.tell_chunk-told.ensures.known;
      short = c.tell_chunk-told.ensures.short;
      so_far = (
        so.0 ++ told.0,
        so.1 ++ told.1,
        chunk_turned g.L.Lines.line c.args.core.now c.loop-chunk.core c.tell_chunk-told.new.core c.args.events c.in-Some.chunk (all_of c.next.new.self) so.0 told.0 so.1 told.1 told.2
            (subst (λ chunks. TellsOn g.L.Lines.line c.args.core.now c.args.events so.0 c.loop-chunk.core (all_of chunks) so.1) c.in-Some.ensures.some so.2),
        told.3,
      );
    }

pub returns : goal.returns
returns g c =
    let so = c.loop-chunk.invariant.so_far in (
      so.0,
      so.1,
      tells_end g.L.Lines.line c.args.core.now c.loop-chunk.core c.args.events (all_of c.loop-chunk.chunks) so.0 so.1 (ap all_of c.in_default.ensures.none) c.loop-chunk.invariant.lawful so.2,
      so.3,
    )
