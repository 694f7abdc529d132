use Rattle.std.proofs.Common.{[], ℕ, List, ◌++◌, ap, append-nil, subst, sym}
use Rattle.std.specs.Fmt.{decimal}
use Rattle.std.specs.Option.{option_map_or}
use Rattle.std.proofs.Common.{Option}
use Rattle.std.proofs.lemmas.Result.{err_from_is_err_and}
use Rattle.drm_engine.specs.Replaying.{Told, ToldFront, ToldSoFar}
use Rattle.drm_engine.proofs.Putting.{front_then, said_more}
use Rattle.drm_words.proofs.reasons.put_part.Goals as goal

pub returns-in_err-put_bytes : goal.returns-in_err-put_bytes
returns-in_err-put_bytes g c =
    let p = err_from_is_err_and c.from_residual.result c.from_residual.ensures.1 in
    let start = c.args.piece.now in
    let text = c.args.part.now.text.now in
    rw p.1 (front_then c.args.writer.now c.put_bytes.new.writer start text _
    (subst (λ (t : List ℕ). ToldFront c.args.writer.now c.put_bytes.new.writer (start ++ t)) c.as_bytes.ensures.value c.in_err-put_bytes.ensures))

pub returns-in-Some : goal.returns-in-Some
returns-in-Some g c =
    let start = c.args.piece.now in
    let text = c.args.part.now.text.now in
    let first = subst (λ (t : List ℕ). ToldSoFar c.args.writer.now c.put_bytes.new.writer (start ++ t) c.put_bytes.new.piece) c.as_bytes.ensures.value c.in_ok-put_bytes.ensures in
    let number = ap (λ (o : Option ℕ). option_map_or decimal o []) c.in-Some.is in
    subst (λ (t : List ℕ). Told c.args.writer.now c.put_number.new.writer c.put_number.result (start ++ (text ++ t)) c.put_number.new.piece) (sym number)
    (said_more c.args.writer.now c.put_bytes.new.writer c.put_number.new.writer c.put_number.result start text (decimal c.in-Some.number) c.put_bytes.new.piece c.put_number.new.piece first c.put_number.ensures)

pub returns-in-None : goal.returns-in-None
returns-in-None g c =
    let start = c.args.piece.now in
    let text = c.args.part.now.text.now in
    let first = subst (λ (t : List ℕ). ToldSoFar c.args.writer.now c.put_bytes.new.writer (start ++ t) c.put_bytes.new.piece) c.as_bytes.ensures.value c.in_ok-put_bytes.ensures in
    let number = ap (λ (o : Option ℕ). option_map_or decimal o []) c.in-None.is in
    subst (λ (t : List ℕ). ToldSoFar c.args.writer.now c.put_bytes.new.writer (start ++ (text ++ t)) c.put_bytes.new.piece) (sym number)
    (subst (λ (t : List ℕ). ToldSoFar c.args.writer.now c.put_bytes.new.writer (start ++ t) c.put_bytes.new.piece) (sym (append-nil text)) first)
