use Rattle.std.proofs.Common.{◌≡◌, ◌<◌, length, sym, subst}
use Rattle.drm_state.specs.Choice.{choice}
use Rattle.drm_sched.specs.Marks.{MarkedDevice}
use Rattle.drm_sched.proofs.Boxed.{heads_read, view_read, whole_read}
use Rattle.drm_sched.proofs.device_calls.Device.choice.Goals as goal

pub choice-requires-clause-there : goal.choice-requires-clause-there
choice-requires-clause-there c =
    subst (λ (d : MarkedDevice). c.args.ring < length d.state.spec.rings) (sym (view_read c.deref-parts.ensures c.self.view_is)) c.requires.there

pub choice-requires-clause-whole : goal.choice-requires-clause-whole
choice-requires-clause-whole c = (whole_read c.deref-parts.ensures c.self.invariant.0).table

pub choice-requires-clause-heads : goal.choice-requires-clause-heads
choice-requires-clause-heads c = heads_read c.deref-parts.ensures c.self.invariant.1

pub returns : goal.returns
returns c =
    subst (λ (d : MarkedDevice). c.choice.result ≡ choice d.state c.args.ring) (view_read c.deref-parts.ensures c.self.view_is) c.choice.ensures
