use Rattle.std.proofs.Common.{◌≡◌, ◌∷◌, ◌++◌, [], subst}
use Rattle.std.specs.Prelude.{IfOk, OnOk}
use Rattle.drm_reason.specs.declared.reason.Reason.{Reason}
use Rattle.drm_why.specs.Chains.{holder_of, link_with}
use Rattle.drm_why.proofs.seeing.add_link.Goals as goal

pub returns-clause-next : goal.returns-clause-next
returns-clause-next c =
    subst (λ (r : Reason). IfOk c.add_reason.result (λ next. next ≡ holder_of r)) c.reason_of-reason.ensures c.add_reason.ensures.next

pub returns-clause-links : goal.returns-clause-links
returns-clause-links c =
    subst (λ (r : Reason). OnOk c.add_reason.result (c.add_reason.new.links.items ≡ c.args.links.now.items ++ link_with c.args.fence r ∷ [])) c.reason_of-reason.ensures
    c.add_reason.ensures.links
