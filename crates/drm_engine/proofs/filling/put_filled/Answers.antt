use Rattle.std.proofs.Common.{◌++◌, ◌+◌, [], ℕ, List, drop, flat_map, refl, subst, take}
use Rattle.std.specs.Fmt.{decimal}
use Rattle.std.proofs.lemmas.Result.{err_from_is_err_and}
use Rattle.drm_engine.specs.Replaying.{Told}
use Rattle.drm_engine.specs.Filling.{filled}
use Rattle.drm_engine.proofs.Fillings.{all_filled, number_next, words_next}
use Rattle.drm_engine.proofs.Putting.{said_front, said_more, said_so_far, told_nothing}
use Rattle.drm_engine.proofs.filling.put_filled.Goals as goal

pub loop-place-init : goal.loop-place-init
loop-place-init g c = ([], refl, told_nothing c.args.writer.now c.args.piece.now)

pub loop-place-preserved : goal.loop-place-preserved
loop-place-preserved g c =
    let words = c.args.words.now in
    let numbers = c.args.numbers.now in
    let rest = c.loop-place.rest.now in
    let left = c.loop-place.left.now in
    let place = c.in-Some.place in
    let said = c.loop-place.invariant.0 in
    let number = flat_map decimal (take 1 left) in
    rw (c.behind_first-left.ensures, c.behind-rest.ensures) (
      (said ++ take place rest) ++ number,
      number_next words numbers left said rest place c.loop-place.invariant.1 c.in-Some.ensures,
      said_so_far c.args.writer.now c.put_bytes.new.writer c.put_first.new.writer c.args.piece.now (said ++ take place rest) number c.put_bytes.new.piece c.put_first.new.piece
          (said_so_far c.args.writer.now c.loop-place.writer c.put_bytes.new.writer c.args.piece.now said (take place rest) c.loop-place.piece c.put_bytes.new.piece
          c.loop-place.invariant.2 c.in_ok-put_bytes.ensures)
          c.in_ok-put_first.ensures,
    )

pub returns-in_err-put_bytes : goal.returns-in_err-put_bytes
returns-in_err-put_bytes g c =
    let p = err_from_is_err_and c.from_residual.result c.from_residual.ensures.1 in
    let rest = c.loop-place.rest.now in
    let left = c.loop-place.left.now in
    let place = c.in-Some.place in
    let said = c.loop-place.invariant.0 in
    rw p.1 (said_front c.args.writer.now c.loop-place.writer c.put_bytes.new.writer c.args.piece.now said (take place rest)
    (flat_map decimal (take 1 left) ++ filled (drop (place + 1) rest) (drop 1 left)) _ c.loop-place.piece c.loop-place.invariant.2 c.in_err-put_bytes.ensures
    (words_next c.args.words.now c.args.numbers.now left said rest place c.loop-place.invariant.1 c.in-Some.ensures))

pub returns-in_err-put_first : goal.returns-in_err-put_first
returns-in_err-put_first g c =
    let p = err_from_is_err_and c.from_residual-in_err-put_first.result c.from_residual-in_err-put_first.ensures.1 in
    let rest = c.loop-place.rest.now in
    let left = c.loop-place.left.now in
    let place = c.in-Some.place in
    let said = c.loop-place.invariant.0 in
    rw p.1 (said_front c.args.writer.now c.put_bytes.new.writer c.put_first.new.writer c.args.piece.now (said ++ take place rest) (flat_map decimal (take 1 left))
    (filled (drop (place + 1) rest) (drop 1 left)) _ c.put_bytes.new.piece
    (said_so_far c.args.writer.now c.loop-place.writer c.put_bytes.new.writer c.args.piece.now said (take place rest) c.loop-place.piece c.put_bytes.new.piece c.loop-place.invariant.2
    c.in_ok-put_bytes.ensures)
    c.in_err-put_first.ensures
    (number_next c.args.words.now c.args.numbers.now left said rest place c.loop-place.invariant.1 c.in-Some.ensures))

pub returns : goal.returns
returns g c =
    let said = c.loop-place.invariant.0 in
    let rest = c.loop-place.rest.now in
    let all = all_filled c.args.words.now c.args.numbers.now c.loop-place.left.now said rest c.loop-place.invariant.1 c.in_default.ensures in
    subst (λ (t : List ℕ). Told c.args.writer.now c.put_bytes-2.new.writer c.put_bytes-2.result (c.args.piece.now ++ t) c.put_bytes-2.new.piece) all
    (said_more c.args.writer.now c.loop-place.writer c.put_bytes-2.new.writer c.put_bytes-2.result c.args.piece.now said rest c.loop-place.piece c.put_bytes-2.new.piece
    c.loop-place.invariant.2 c.put_bytes-2.ensures)
