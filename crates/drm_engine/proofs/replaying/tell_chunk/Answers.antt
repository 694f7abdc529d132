use Rattle.std.proofs.Common.{◌<◌, ◌∷◌, ◌++◌, [], ap, length, refl, subst, sym, ◌∙◌}
use Rattle.drm_types.specs.Limits.{spec_fault}
use Rattle.drm_core.specs.Run.{AllNamesExist}
use Rattle.drm_core.specs.State.{CoreState}
use Rattle.drm_engine.proofs.Pieces.{holds_of_ok, nothing_of_part, said_less, said_more, tells_end, turned}
use Rattle.drm_engine.proofs.Short.{line_fits}
use Rattle.drm_engine.proofs.replaying.tell_chunk.Goals as goal
use Rattle.drm_engine.proofs.replaying.tell_chunk.Goals.{then-is_ok, else-is_ok}

pub tell-told-requires-clause-known : goal.tell-told-requires-clause-known
tell-told-requires-clause-known g c = c.apply_next.ensures.known

pub tell-told-requires-clause-room : goal.tell-told-requires-clause-room
tell-told-requires-clause-room g c =
    line_fits c.loop-answer.core c.apply_next.new.core c.loop-answer.rest c.apply_next.new.rest c.in-Some.answer c.loop-answer.piece c.loop-answer.invariant.lawful
    (ap spec_fault c.loop-answer.invariant.spec ∙ c.requires.limits) c.in-Some.ensures.some
    (holds_of_ok c.loop-answer.told (length c.loop-answer.piece < 32768) (sym c.is_ok.ensures.value ∙ c.if-is_ok.true) c.loop-answer.invariant.short)

pub loop-answer-init : goal.loop-answer-init
loop-answer-init g c = record {
  names = subst (AllNamesExist c.args.core.now.device.spec) (sym c.into_left-rest.ensures) c.requires.names;
  spec = refl;
  lawful = c.requires.lawful;
  known = c.requires.known;
  short = c.requires.short;
  so_far = nothing_of_part g.L.Lines.line c.args.writer.now c.args.core.now c.args.chunk c.into_left-rest.result c.args.before c.args.piece.now c.into_left-rest.ensures;
}

pub loop-answer-preserved : goal.loop-answer-preserved
loop-answer-preserved g c =
    let before = c.loop-answer.core in
    let after = c.apply_next.new.core in
    let left = c.apply_next.new.rest in
    let first = c.in-Some.ensures.some in
    let answer = c.in-Some.answer in
    let so = c.loop-answer.invariant.so_far in
    let line = g.L.Lines.line before first.0 answer after in
    record {
      names = c.in-Some.ensures.names;
      spec = c.apply_next.ensures.spec ∙ c.loop-answer.invariant.spec;
      lawful = c.in-Some.ensures.lawful;
      known = c.apply_next.ensures.known;
      short = elim c.if-is_ok.branch [
        | then-is_ok w ↦ rw (w.told-is, w.piece-is) w.tell-told.ensures.short
        | else-is_ok w ↦ rw (w.told-is, w.piece-is) c.loop-answer.invariant.short
      ];
      so_far = (
        so.0 ++ answer ∷ [],
        so.1 ++ line,
        turned g.L.Lines.line c.args.core.now before after c.args.chunk c.loop-answer.rest left so.0 so.1 answer first c.loop-answer.invariant.lawful so.2,
        λ old text was. elim c.if-is_ok.branch [
          | then-is_ok w ↦ rw (w.told-is, w.writer-is, w.piece-is) (said_more old c.loop-answer.writer w.tell-told.new.writer c.loop-answer.told w.tell-told.result
              text so.1 line c.loop-answer.piece w.tell-told.new.piece (sym c.is_ok.ensures.value ∙ w.if-is_ok.true) (so.3 old text was)
              (w.tell-told.ensures.told before first.0 (c.in-Some.ensures.noted first.0 first.1) first.2))
          | else-is_ok w ↦ rw (w.told-is, w.writer-is, w.piece-is) (said_less old c.loop-answer.writer c.loop-answer.told
              text so.1 line c.loop-answer.piece (sym c.is_ok.ensures.value ∙ w.if-is_ok.false) (so.3 old text was))
        ],
      );
    }

pub loop-answer-preserved-after-is_ok : goal.loop-answer-preserved-after-is_ok
loop-answer-preserved-after-is_ok g c =
    let before = c.loop-answer.core in
    let after = c.apply_next.new.core in
    let left = c.apply_next.new.rest in
    let first = c.in-Some.ensures.some in
    let answer = c.in-Some.answer in
    let so = c.loop-answer.invariant.so_far in
    let line = g.L.Lines.line before first.0 answer after in
    record {
      names = c.in-Some.ensures.names;
      spec = c.apply_next.ensures.spec ∙ c.loop-answer.invariant.spec;
      lawful = c.in-Some.ensures.lawful;
      known = c.apply_next.ensures.known;
      short = elim c.if-is_ok.branch [
        | then-is_ok w ↦ rw (w.told-is, w.piece-is) w.tell-told.ensures.short
        | else-is_ok w ↦ rw (w.told-is, w.piece-is) c.loop-answer.invariant.short
      ];
      so_far = (
        so.0 ++ answer ∷ [],
        so.1 ++ line,
        turned g.L.Lines.line c.args.core.now before after c.args.chunk c.loop-answer.rest left so.0 so.1 answer first c.loop-answer.invariant.lawful so.2,
        λ old text was. elim c.if-is_ok.branch [
          | then-is_ok w ↦ rw (w.told-is, w.writer-is, w.piece-is) (said_more old c.loop-answer.writer w.tell-told.new.writer c.loop-answer.told w.tell-told.result
              text so.1 line c.loop-answer.piece w.tell-told.new.piece (sym c.is_ok.ensures.value ∙ w.if-is_ok.true) (so.3 old text was)
              (w.tell-told.ensures.told before first.0 (c.in-Some.ensures.noted first.0 first.1) first.2))
          | else-is_ok w ↦ rw (w.told-is, w.writer-is, w.piece-is) (said_less old c.loop-answer.writer c.loop-answer.told
              text so.1 line c.loop-answer.piece (sym c.is_ok.ensures.value ∙ w.if-is_ok.false) (so.3 old text was))
        ],
      );
    }

pub returns-clause-told : goal.returns-clause-told
returns-clause-told g c =
    let so = c.loop-answer.invariant.so_far in
    let none = c.in_default.ensures.none in
    rw none.1 (λ old text was. (
      so.0,
      so.1,
      tells_end g.L.Lines.line c.args.core.now c.loop-answer.core c.args.chunk c.loop-answer.rest so.0 so.1 none.0 c.loop-answer.invariant.lawful so.2,
      so.3 old text was,
    ))

pub returns-clause-known : goal.returns-clause-known
returns-clause-known g c = c.apply_next.ensures.known

pub returns-clause-spec : goal.returns-clause-spec
returns-clause-spec g c = ap (λ (s : CoreState). s.device.spec) c.in_default.ensures.none.1 ∙ c.loop-answer.invariant.spec

pub returns-clause-lawful : goal.returns-clause-lawful
returns-clause-lawful g c = rw c.in_default.ensures.none.1 c.loop-answer.invariant.lawful
