use Rattle.std.proofs.Common.{rules, arith, ℕ, zero, suc, ◌≡◌, ◌≢◌, ap, sym, subst, refl, inr}
use Rattle.ww_lock.specs.Fences.{NotBack}
use Rattle.ww_lock.specs.Fences.{still}
use Rattle.ww_lock_tests.specs.Wards.{word_of}
use Rattle.ww_lock_tests.proofs.words.a_word_is_posted_and_seen.Goals as goal

others : (p q f : ℕ) → f ≢ 0 → word_of p f ≡ word_of q f
others p q zero ne = absurd (ne refl)
others p q (suc f) ne = refl

pub post-requires-clause-facts : goal.post-requires-clause-facts
post-requires-clause-facts g c = let p = c.enter-pivot.result in let first : p ≡ 0 = search rules in
    (p, ap (λ v. v.pivot.seen) c.enter-pivot.ensures.view, tt, subst (λ n. NotBack n 1) (sym first) (inr (omega arith, omega arith)), (λ b x h. tt), (λ b x none h. tt), refl, (λ f ne. others 1 p f ne), λ t h. h)

pub leave-requires-clause-facts : goal.leave-requires-clause-facts
leave-requires-clause-facts g c = (1, ap (λ v. v.pivot.seen) c.post.ensures.view.2, tt, still 1, (λ b x h. tt), (λ b x none h. tt), (λ f. refl), λ t h. h)
