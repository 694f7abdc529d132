use Rattle.std.proofs.Common.{◌≡◌, ◌∙◌, sym, true}
use Rattle.drm_reason.specs.Released.{is_released}
use Rattle.drm_words.proofs.putting.put_first_let_go.Goals as goal

pub returns-in-Some : goal.returns-in-Some
returns-in-Some g c =
    let yes : is_released c.args.device.now.state c.args.fence c.in-Some.number ≡ true = sym c.is_released.ensures ∙ c.if-is_released.true in
    rw (c.in-Some.is, yes) c.put_released.ensures
