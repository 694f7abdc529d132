use Rattle.std.proofs.Common.{◌≡◌, ◌≤◌, ◌++◌, List, ℕ, Err, length, arith, ap, sym, subst, ◌∙◌}
use Rattle.drm_text.specs.Reading.{Fails}
use Rattle.drm_trace.specs.Pieces.{GoesOn, TakesText, with_last}
use Rattle.drm_trace.proofs.LogRead.{piece_fails, reads_end, reads_piece, spells, spells_none}
use Rattle.drm_trace.proofs.reading.read_log.Goals as goal

pub returns-in-Err-clause-value : goal.returns-in-Err-clause-value
returns-in-Err-clause-value g c =
    rw c.to_input_error.ensures
    (piece_fails c.args.reader.now.remaining c.pieces.reader.remaining c.pieces.log c.add_piece.new.log c.pieces.before.items c.in_ok-piece.piece.items c.add_piece.new.before.items
    c.in-Err.error c.pieces.invariant.reads c.in_ok-piece.ensures.text
    (subst (λ (piece : List ℕ). TakesText {X = Unit {0}} c.pieces.log (c.pieces.before.items ++ piece) c.add_piece.new.log (λ _. c.add_piece.new.before.items) (Err c.in-Err.error))
    c.deref.ensures.value c.in-Err.ensures.lines))

pub returns-in-Ok-clause-value : goal.returns-in-Ok-clause-value
returns-in-Ok-clause-value g c =
    let next = c.add_piece.new.log in
    let rest = c.add_piece.new.before.items in
    let few : length c.in_ok-piece.piece.items ≤ 1048576 = omega (arith, c.len.ensures, c.if-len-le-MAX_TEXT.true, c.in_ok-piece.piece.ok.0) in
    let goes = subst (λ (piece : List ℕ). GoesOn c.pieces.log (c.pieces.before.items ++ piece) next rest) c.deref.ensures.value c.in_default.ensures.lines in
    spells c.args.reader.now.remaining next c.add_last.new.log rest
    (reads_end c.args.reader.now.remaining c.pieces.reader.remaining c.read_input.new.reader.remaining c.pieces.log next c.pieces.before.items c.in_ok-piece.piece.items rest
    c.pieces.invariant.reads c.in_ok-piece.ensures.text few goes c.in_default.ensures.bare)
    (ap (with_last next) (sym c.deref-then-len-le-MAX_TEXT.ensures.value) ∙ c.in-Ok.ensures)

pub returns-in-Err-add_last-clause-value : goal.returns-in-Err-add_last-clause-value
returns-in-Err-add_last-clause-value g c =
    let next = c.add_piece.new.log in
    let rest = c.add_piece.new.before.items in
    let few : length c.in_ok-piece.piece.items ≤ 1048576 = omega (arith, c.len.ensures, c.if-len-le-MAX_TEXT.true, c.in_ok-piece.piece.ok.0) in
    let goes = subst (λ (piece : List ℕ). GoesOn c.pieces.log (c.pieces.before.items ++ piece) next rest) c.deref.ensures.value c.in_default.ensures.lines in
    rw c.to_input_error-in-Err-add_last.ensures
    (spells_none c.args.reader.now.remaining next rest c.in-Err-add_last.error
    (reads_end c.args.reader.now.remaining c.pieces.reader.remaining c.read_input.new.reader.remaining c.pieces.log next c.pieces.before.items c.in_ok-piece.piece.items rest
    c.pieces.invariant.reads c.in_ok-piece.ensures.text few goes c.in_default.ensures.bare)
    (subst (λ (last : List ℕ). Fails c.in-Err-add_last.error (with_last next last)) c.deref-then-len-le-MAX_TEXT.ensures.value c.in-Err-add_last.ensures))

pub pieces-preserved : goal.pieces-preserved
pieces-preserved g c =
    let next = c.add_piece.new.log in
    let rest = c.add_piece.new.before.items in
    let goes = subst (λ (piece : List ℕ). GoesOn c.pieces.log (c.pieces.before.items ++ piece) next rest) c.deref.ensures.value c.in_default.ensures.lines in
    record {
      reads = reads_piece c.args.reader.now.remaining c.pieces.reader.remaining c.read_input.new.reader.remaining c.pieces.log next c.pieces.before.items c.in_ok-piece.piece.items rest
          c.pieces.invariant.reads c.in_ok-piece.ensures.text c.in_ok-piece.ensures.left goes;
      none = (c.in_ok-piece.ensures.failures.0 ∙ c.pieces.invariant.none.0, c.in_ok-piece.ensures.failures.1 ∙ c.pieces.invariant.none.1);
    }
