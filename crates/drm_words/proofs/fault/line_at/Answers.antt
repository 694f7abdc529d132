use Rattle.std.proofs.Common.{◌≡◌, ◌+◌, ◌-◌, ◌≤◌, ◌∙◌, ℕ, List, ap, arith, drop, get_or, refl, []}
use Rattle.std.specs.Borrow.{Bor}
use Rattle.drm_text.specs.Cut.{parts_of}
use Rattle.drm_words.proofs.Cuts.{next_taken, part_at}
use Rattle.drm_words.proofs.fault.line_at.Goals as goal

pub loop-number-preserved : goal.loop-number-preserved
loop-number-preserved c =
    let n = c.loop-number.number in
    let least : 1 ≤ n = c.loop-number.auto.number in
    let same : n - 1 + 1 ≡ n + 1 - 1 = omega (arith, least) in
    record {
      left = next_taken c.next.result c.loop-number.lines c.next.new.self (parts_of 10 c.args.text.now) (n - 1) c.next.ensures.some c.next.ensures.none c.loop-number.invariant.left
          ∙ ap (λ (k : ℕ). drop k (parts_of 10 c.args.text.now)) same;
      within = omega (arith, c.loop-number-test.true);
    }

pub returns : goal.returns
returns c =
    let within : c.loop-number.number - 1 ≤ c.args.line - 1 = c.loop-number.invariant.within in
    let past : c.args.line ≤ c.loop-number.number = c.loop-number-test.false in
    let same : c.loop-number.number - 1 ≡ c.args.line - 1 = omega (arith, within, past) in
    ap (λ (b : Bor (List ℕ)). b.now) c.unwrap_or.ensures
    ∙ part_at c.next-2.result c.loop-number.lines c.next-2.new.self (parts_of 10 c.args.text.now) (c.loop-number.number - 1) _ c.next-2.ensures.some c.next-2.ensures.none c.loop-number.invariant.left refl
    ∙ ap (λ (k : ℕ). get_or (parts_of 10 c.args.text.now) k []) same
