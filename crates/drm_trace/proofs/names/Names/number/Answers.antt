use Rattle.std.proofs.Common.{◌≡◌, ℕ, ◌<◌, ◌^◌, List, None, length, vec_len, arith, sym, ap, ◌∙◌}
use Rattle.std.specs.HashMap.{get}
use Rattle.drm_trace.specs.Names.{is_pair, number_in, placed_in}
use Rattle.drm_trace.proofs.NamesMet.{number_new, numbers_follow}
use Rattle.drm_trace.proofs.names.Names.number.Goals as goal

pub invariant_of-self-in-Ok : goal.invariant_of-self-in-Ok
invariant_of-self-in-Ok c =
    let names = c.self.inside.list.items in
    let are : (q : ℕ × ℕ) → get is_pair c.self.inside.numbers q ≡ placed_in names q = c.self.invariant.1 in
    let met : placed_in names c.args.name ≡ None = sym (are c.args.name) ∙ sym c.in_default.ensures.value in
    let next : c.len-count.result ≡ length names = omega (arith, c.len-count.ensures, c.self.inside.list.ok.0) in
    let few : vec_len c.push.new.self < 2 ^ 32 = omega (arith, c.in_ok-push.ensures.len, c.len-count.ensures, c.if-count.false) in
    (few, λ q. rw c.in_ok-push.ensures.items (numbers_follow names c.args.name q c.len-count.result _ _ met next (are q) (c.in-Ok.ensures.updates.0 q)))

pub returns-in-Ok-clause-number : goal.returns-in-Ok-clause-number
returns-in-Ok-clause-number c =
    let names = c.self.inside.list.items in
    let are : (q : ℕ × ℕ) → get is_pair c.self.inside.numbers q ≡ placed_in names q = c.self.invariant.1 in
    let met : placed_in names c.args.name ≡ None = sym (are c.args.name) ∙ sym c.in_default.ensures.value in
    let next : c.len-count.result ≡ length names = omega (arith, c.len-count.ensures, c.self.inside.list.ok.0) in
    next ∙ sym (number_new names c.args.name met) ∙ ap (λ (known : List (ℕ × ℕ)). number_in known c.args.name) c.self.view_is
