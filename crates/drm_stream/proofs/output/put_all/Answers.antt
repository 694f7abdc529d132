use Rattle.std.proofs.Common.{◌+◌, ◌∙◌, ◌<◌, length, rules}
use Rattle.std.proofs.lemmas.List.{drop-drop}
use Rattle.std.proofs.lemmas.Result.{err_from_is_err_and}
use Rattle.drm_stream.proofs.Known.{appends_more, front_left}
use Rattle.drm_stream.proofs.output.put_all.Goals as goal

pub turn-preserved : goal.turn-preserved
turn-preserved g c =
    let k = c.turn.invariant.so_far.0 in
    let rest = c.turn.invariant.so_far.1 in
    let count = c.in_ok-count.count in
    let wrote = rw rest at c.in_ok-count.ensures.bytes in
    record {
      so_far = (
        k + count,
        c.split_at.ensures.back ∙ rw rest (drop-drop count k c.args.bytes.now),
        appends_more c.args.writer.now.contents c.turn.writer.contents c.write.new.self.contents c.args.bytes.now k count c.turn.invariant.so_far.2 wrote,
      );
      none = c.in_ok-count.ensures.failures ∙ c.turn.invariant.none;
    }

pub returns-in_err-count-clause-err : goal.returns-in_err-count-clause-err
returns-in_err-count-clause-err g c =
    let p = err_from_is_err_and c.from_residual.result c.from_residual.ensures.1 in
    let some : 0 < length c.turn.rest.now = search rules in
    rw p.1 (front_left c.args.writer.now.contents c.turn.writer.contents c.write.new.self.contents c.args.bytes.now c.turn.rest.now c.turn.invariant.so_far.0
    c.turn.invariant.so_far.1 some c.turn.invariant.so_far.2 c.in_err-count.ensures.bytes)

pub returns-in_err-count-clause-failures : goal.returns-in_err-count-clause-failures
returns-in_err-count-clause-failures g c =
    let p = err_from_is_err_and c.from_residual.result c.from_residual.ensures.1 in rw p.1 c.in_err-count.ensures.failures
