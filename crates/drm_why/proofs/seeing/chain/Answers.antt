use Rattle.std.proofs.Common.{◌≡◌, ◌∷◌, ◌++◌, ℕ, List, [], None, Option, Some, refl, rules, subst, sym}
use Rattle.drm_why.specs.Chains.{IsChainFrom, holder_of, link_of}
use Rattle.drm_why.specs.declared.chain.Link.{Link}
use Rattle.drm_why.proofs.Chained.{ChainOn, chain_ends, link_last, link_on}
use Rattle.drm_why.proofs.seeing.chain.Goals as goal

pub loop-next-preserved : goal.loop-next-preserved
loop-next-preserved c =
    let d = c.args.device.now.state in
    let link = link_of d c.in-Some.by in
    let kept : c.add_link.new.links.items ≡ c.loop-next.links.items ++ link ∷ [] = c.in_ok-following.ensures.links in
    let next : c.loop-next.next ≡ Some c.in-Some.by = c.in-Some.is in
    subst (λ (n : Option ℕ). ChainOn d c.args.fence c.args.first c.add_link.new.links.items c.in-Some.by n) (sym c.in_ok-following.ensures.next)
    (subst (λ (ls : List Link). ChainOn d c.args.fence c.args.first ls c.in-Some.by (holder_of link.reason)) (sym kept)
    (link_on d c.args.fence c.loop-next.number c.in-Some.by c.args.first c.loop-next.next c.loop-next.links.items link c.loop-next.invariant next refl c.if-number-by.false))

pub returns-then-number-by : goal.returns-then-number-by
returns-then-number-by c =
    let d = c.args.device.now.state in
    let link = link_of d c.in-Some.by in
    let kept : c.add_link.new.links.items ≡ c.loop-next.links.items ++ link ∷ [] = c.in_ok-following.ensures.links in
    let next : c.loop-next.next ≡ Some c.in-Some.by = c.in-Some.is in
    subst (λ (ls : List Link). IsChainFrom d c.args.fence c.args.first ls) (sym kept)
    (link_last d c.args.fence c.loop-next.number c.in-Some.by c.args.first c.loop-next.next c.loop-next.links.items link c.loop-next.invariant next refl c.if-number-by.true)

pub returns : goal.returns
returns c =
    let none : c.loop-next.next ≡ None = search rules in
    chain_ends c.args.device.now.state c.args.fence c.loop-next.number c.args.first c.loop-next.next c.loop-next.links.items c.loop-next.invariant none
