use Rattle.std.proofs.Common.{ℕ, Option, arith, ap, sym, ◌+◌, ◌∙◌, drop}
use Rattle.drm_text.specs.Number.{with_digits}
use Rattle.drm_text.proofs.CutNumbers.{first_of, one_more_byte}
use Rattle.drm_text.proofs.Digits.{no_number}
use Rattle.drm_text.proofs.parts.cut_digits.Goals as goal

pub returns-in-None-clause-number : goal.returns-in-None-clause-number
returns-in-None-clause-number c =
    let bytes = c.args.bytes.now in
    let more = one_more_byte c.args.separator c.args.most c.loop-end.value c.loop-end.end bytes c.loop-end-test.true c.if-bytes-end.true in
    let none = ap (λ (o : Option ℕ). with_digits c.args.most o (first_of c.args.separator (drop (c.loop-end.end + 1) bytes))) (sym c.next_value.ensures ∙ c.in-None.is) in
    rw c.end_of.ensures (sym (no_number c.args.most (first_of c.args.separator bytes) (sym c.loop-end.invariant.2 ∙ more.1 ∙ none)))

pub loop-end-preserved : goal.loop-end-preserved
loop-end-preserved c =
    let bytes = c.args.bytes.now in
    let more = one_more_byte c.args.separator c.args.most c.loop-end.value c.loop-end.end bytes c.loop-end-test.true c.if-bytes-end.true in
    let some = ap (λ (o : Option ℕ). with_digits c.args.most o (first_of c.args.separator (drop (c.loop-end.end + 1) bytes))) (sym c.in-Some.is ∙ c.next_value.ensures) in
    (omega arith, sym more.0 ∙ c.loop-end.invariant.1, some ∙ sym more.1 ∙ c.loop-end.invariant.2)
