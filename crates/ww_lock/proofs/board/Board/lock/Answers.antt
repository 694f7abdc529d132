use Rattle.std.proofs.Common.{rules, arith, sym, ap, ◌∙◌, ◌<◌, length, subst, Err}
use Rattle.ww_lock.proofs.Waiting.{failed, waits, already, taken}
use Rattle.ww_lock.proofs.Ready.{claimed}
use Rattle.std.proofs.lemmas.Bool.{false≢true}
use Rattle.std.proofs.lemmas.Bool.Decides.{nat_tests}
use Rattle.ww_lock.specs.Acquiring.{AnswersLock}
use Rattle.ww_lock.specs.declared.locks.LockError.TheVariants.{Backoff}
use Rattle.ww_lock.proofs.board.Board.lock.Goals.{in-Older, in-Younger, then-is_older, else-is_older}
use Rattle.ww_lock.proofs.board.Board.lock.Goals as goal

pub returns-in_default-clause-answers : goal.returns-in_default-clause-answers
returns-in_default-clause-answers g c = taken c.args.buffer c.args.acquire.now c.loop.acquire c.try_lock.new.acquire c.loop.invariant.1 c.in_default.ensures.answers

pub returns-in-Already-clause-answers : goal.returns-in-Already-clause-answers
returns-in-Already-clause-answers g c = already c.args.buffer c.args.acquire.now c.loop.acquire c.try_lock.new.acquire c.loop.invariant.1 (rw c.in-Already.is at c.in-Err.ensures.answers)

pub returns-in_default-clause-ready : goal.returns-in_default-clause-ready
returns-in_default-clause-ready g c = λ ready. claimed g.W.Ward.facts.fits c.args.self.now.table.shared.table_id c.args.buffer c.args.acquire.now c.try_lock.new.acquire ready c.try_lock.ensures.holds
    (taken c.args.buffer c.args.acquire.now c.loop.acquire c.try_lock.new.acquire c.loop.invariant.1 c.in_default.ensures.answers)

pub returns-then-backs_off-clause-answers : goal.returns-then-backs_off-clause-answers
returns-then-backs_off-clause-answers g c = let a = c.try_lock.new.acquire in elim c.match-refusal.branch [
  | in-Older w ↦ let t = rw w.in-Older.is at c.in-Err.ensures.answers in
      let f = failed c.args.buffer w.in-Older.holder c.args.acquire.now c.loop.acquire a c.loop.invariant.1 (t.0, t.1, t.2, t.4, t.5) in
      let m = f.2.2 in let low = t.3 in let kept = t.2.0 in let kept' = m.0.0 in
      let some_held : 0 < length a.seat.held.items = elim c.if-is_older.branch [
        | then-is_older v ↦ let n = v.len.ensures in let b = sym v.backs_off-is ∙ c.if-backs_off.true in first_of (search rules, omega arith, grind (arith, nat_tests))
        | else-is_older v ↦ absurd (false≢true (sym v.if-is_older.false ∙ (sym v.backs_off-is ∙ c.if-backs_off.true)))
      ] in
      subst (λ k. AnswersLock c.args.buffer c.args.acquire.now a (Err (Backoff k.0))) (sym w.holder-is) (f.0, f.1, omega arith, subst (λ z. 0 < length z) (ap (λ h. h.items) m.1) some_held, f.2)
  | in-Younger w ↦ absurd (elim c.if-is_older.branch [
    | then-is_older v ↦ false≢true (sym (ap (λ z. z.1) w.holder-is) ∙ v.if-is_older.true)
    | else-is_older v ↦ false≢true (sym v.if-is_older.false ∙ (sym v.backs_off-is ∙ c.if-backs_off.true))
  ])
]

pub loop-preserved : goal.loop-preserved
loop-preserved g c = (
  c.try_lock.ensures.holds,
  elim c.match-refusal.branch [
    | in-Older w ↦ let t = rw w.in-Older.is at c.in-Err.ensures.answers in
        waits c.args.buffer w.in-Older.holder c.args.acquire.now c.loop.acquire c.try_lock.new.acquire c.loop.invariant.1 (t.0, t.1, t.2, t.4, t.5) (λ some_held. absurd (elim c.if-is_older.branch [
          | then-is_older v ↦ let n = v.len.ensures in let b = sym v.backs_off-is ∙ c.if-backs_off.false in first_of (omega arith, search rules, grind (arith, nat_tests))
          | else-is_older v ↦ false≢true (sym v.if-is_older.false ∙ ap (λ z. z.1) w.holder-is)
        ]))
    | in-Younger w ↦ let t = rw w.in-Younger.is at c.in-Err.ensures.answers in
        waits c.args.buffer w.in-Younger.holder c.args.acquire.now c.loop.acquire c.try_lock.new.acquire c.loop.invariant.1 (t.0, t.1, t.2, t.4, t.5) (λ some_held. let low = t.3 in let kept = t.2.0 in omega arith)
  ],
)
