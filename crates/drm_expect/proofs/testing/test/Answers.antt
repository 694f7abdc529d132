use Rattle.std.proofs.Common.{ℕ, List, inl, inr, subst, sym}
use Rattle.drm_engine.specs.declared.ending.Ending.{Ending}
use Rattle.drm_expect.specs.Testing.{IsUnread, TestsText}
use Rattle.drm_expect.proofs.Unread.{unread}
use Rattle.drm_expect.proofs.testing.test.Goals as goal

pub returns-in-Ok-clause-ending : goal.returns-in-Ok-clause-ending
returns-in-Ok-clause-ending g c =
    inl (
      c.in-Ok.text.items,
      c.in-Ok.ensures.text,
      subst (λ (text : List ℕ). TestsText text c.args.writer.now.contents c.test_text.new.writer.contents c.test_text.result) c.deref.ensures.value c.test_text.ensures.ending,
    )

pub returns-in-Ok-clause-failures : goal.returns-in-Ok-clause-failures
returns-in-Ok-clause-failures g c = c.test_text.ensures.failures c.args.reader.now c.read.new.reader c.in-Ok.ensures.failures

pub returns-in-Err-clause-ending : goal.returns-in-Err-clause-ending
returns-in-Err-clause-ending g c =
    let old = c.args.writer.now.contents in
    inr (subst (λ (ended : Ending). IsUnread old old ended) (sym c.of_input.ensures) (unread c.in-Err.error old c.in-Err.ensures.plain))
