use Rattle.std.proofs.Common.{◌∙◌, ℕ, List, Option, subst, sym, inl, inr}
use Rattle.std.proofs.lemmas.Bool.{both_ways}
use Rattle.drm_why.proofs.Sameness.{one_reason, same_as_one}
use Rattle.drm_why.specs.Chains.{IsChain, IsChainFrom}
use Rattle.drm_why.specs.declared.chain.Link.{Link}
use Rattle.drm_why.proofs.seeing.links.Goals as goal

pub returns-then-are_same : goal.returns-then-are_same
returns-then-are_same c = inl (one_reason c.args.reason c.args.before (sym c.are_same.ensures ∙ c.if-are_same.true), c.new.ensures)

pub returns : goal.returns
returns c =
    inr (
      λ same. both_ways c.are_same.result c.if-are_same.false (c.are_same.ensures ∙ same_as_one c.args.reason c.args.before same),
      subst (λ (ls : List Link). IsChain c.args.device.now.state c.args.fence c.args.reason ls) (sym c.from_vec.ensures)
          (subst (λ (n : Option ℕ). IsChainFrom c.args.device.now.state c.args.fence n c.in_ok-chain.field-0.items) c.holder-first.ensures c.in_ok-chain.ensures),
    )
