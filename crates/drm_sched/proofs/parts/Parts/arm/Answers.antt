use Rattle.std.proofs.Common.{◌∙◌, refl, sym, subst}
use Rattle.drm_sched.proofs.HeadsBeside.{StandBeside, armed_but, armed_beside}
use Rattle.drm_sched.proofs.MarkedDone.{arm_marked}
use Rattle.drm_sched.proofs.parts.Parts.arm.Goals as goal

pub place-requires-clause-others : goal.place-requires-clause-others
place-requires-clause-others c =
    (armed_but c.args.self.now.table c.arm-fence.new.self c.prepare_next.new.self c.args.job c.entity-entity.result c.arm-fence.new.deps c.requires.whole.table c.requires.job c.entity-entity.ensures
    (sym c.is_empty.ensures ∙ c.if-is_empty.true) c.arm-fence.ensures.armed c.arm-fence.ensures.waits (subst (StandBeside c.args.self.now.table) (sym c.prepare_next.ensures) c.requires.heads)).1

pub returns-then-is_empty-clause-call : goal.returns-then-is_empty-clause-call
returns-then-is_empty-clause-call c = record { taken = c.requires.may; number = c.arm-fence.ensures.number; armed = c.arm-fence.ensures.armed; marks = refl }

pub returns-then-is_empty-clause-whole : goal.returns-then-is_empty-clause-whole
returns-then-is_empty-clause-whole c =
    arm_marked c.args.self.now c.arm-fence.new.self c.place.new.self c.args.job c.requires.whole c.arm-fence.ensures.whole c.arm-fence.ensures.out c.arm-fence.ensures.armed

pub returns-then-is_empty-clause-heads : goal.returns-then-is_empty-clause-heads
returns-then-is_empty-clause-heads c = c.place.ensures

pub returns-clause-call : goal.returns-clause-call
returns-clause-call c = record { taken = c.requires.may; number = c.arm.ensures.number; armed = c.arm.ensures.armed; marks = refl }

pub returns-clause-whole : goal.returns-clause-whole
returns-clause-whole c =
    arm_marked c.args.self.now c.arm.new.self c.prepare_next.new.self c.args.job c.requires.whole c.arm.ensures.whole c.arm.ensures.out c.arm.ensures.armed

pub returns-clause-heads : goal.returns-clause-heads
returns-clause-heads c =
    armed_beside c.args.self.now.table c.arm.new.self c.prepare_next.new.self c.args.job c.entity-entity.result c.arm.new.deps c.requires.whole.table c.requires.job c.entity-entity.ensures
    (sym c.is_empty.ensures ∙ c.if-is_empty.false) c.arm.ensures.armed c.arm.ensures.waits
    (subst (StandBeside c.args.self.now.table) (sym c.prepare_next.ensures) c.requires.heads)
