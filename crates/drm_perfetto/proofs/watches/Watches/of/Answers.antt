use Rattle.std.proofs.Common.{subst, sym}
use Rattle.std.specs.List.{All}
use Rattle.std.proofs.lemmas.List.Elements.{All-push}
use Rattle.drm_reason.specs.Watching.{Knows}
use Rattle.drm_perfetto.proofs.watches.Watches.of.Goals as goal

pub loop-preserved : goal.loop-preserved
loop-preserved c = λ device.
    subst (All (Knows device)) (sym c.in_ok-push.ensures.items) (All-push (Knows device) c.loop.heads.items c.of.result (c.loop.invariant device) (c.of.ensures.known device))

pub returns : goal.returns
returns c = λ device. record { heads = c.loop.invariant device; retired = c.none.ensures device }
