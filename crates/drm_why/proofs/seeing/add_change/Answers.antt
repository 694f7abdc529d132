use Rattle.std.proofs.Common.{◌≡◌, ◌∙◌, ◌++◌, ◌∷◌, ℕ, List, [], ap, refl, sym, inl, inr}
use Rattle.std.proofs.lemmas.Bool.{both_ways}
use Rattle.drm_why.proofs.Sameness.{one_reason, same_as_one}
use Rattle.drm_why.specs.Seeing.{clock_behind}
use Rattle.drm_why.specs.declared.chain.Link.{Link}
use Rattle.drm_why.specs.declared.seeing.Change.{Change}
use Rattle.drm_why.proofs.seeing.add_change.Goals as goal

pub returns-then-are_same : goal.returns-then-are_same
returns-then-are_same c = inl (one_reason c.args.seen.now.reason c.args.before (sym c.are_same.ensures ∙ c.if-are_same.true), refl)

pub returns : goal.returns
returns c =
    let seen = c.args.seen.now in
    let told : ℕ → List Link → Change = λ clock links. record {
      place = c.args.place;
      command = seen.command;
      clock = clock;
      reason = seen.reason;
      links = links;
    } in
    let links : c.in_ok-links.links ≡ seen.links = c.in_ok-links.ensures ∙ c.as_slice.ensures in
    inr (
      λ same. both_ways c.are_same.result c.if-are_same.false (c.are_same.ensures ∙ same_as_one c.args.seen.now.reason c.args.before same),
      c.in_ok-push.ensures.items
          ∙ ap (λ (x : Change). c.args.changes.now.items ++ x ∷ [])
          (ap (λ (n : ℕ). told n c.in_ok-links.links) c.clock_after-clock.ensures ∙ ap (told (clock_behind c.args.clock seen.command)) links),
    )
