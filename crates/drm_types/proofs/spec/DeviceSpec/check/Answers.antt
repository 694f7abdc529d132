use Rattle.std.proofs.Common.{◌∙◌}
use Rattle.drm_types.proofs.FirstLaws.{first_of_skip, first_of_stop, told, told_last}
use Rattle.drm_types.proofs.spec.DeviceSpec.check.Goals as goal

pub returns-in_err-check_buffer_sizes : goal.returns-in_err-check_buffer_sizes
returns-in_err-check_buffer_sizes c =
    told _ _ _ c.from_residual-in_err-check_buffer_sizes.ensures
    (first_of_skip _ _ c.in_ok-check_buffer_count.ensures ∙ first_of_stop _ _ _ c.in_err-check_buffer_sizes.ensures)

pub returns-in_err-check_ring_count : goal.returns-in_err-check_ring_count
returns-in_err-check_ring_count c =
    told _ _ _ c.from_residual-in_err-check_ring_count.ensures
    (first_of_skip _ _ c.in_ok-check_buffer_count.ensures ∙ (first_of_skip _ _ c.in_ok-check_buffer_sizes.ensures ∙ first_of_stop _ _ _ c.in_err-check_ring_count.ensures))

pub returns-in_err-check_credit_limits : goal.returns-in_err-check_credit_limits
returns-in_err-check_credit_limits c =
    told _ _ _ c.from_residual-in_err-check_credit_limits.ensures
    (first_of_skip _ _ c.in_ok-check_buffer_count.ensures ∙ (first_of_skip _ _ c.in_ok-check_buffer_sizes.ensures ∙ (first_of_skip _ _ c.in_ok-check_ring_count.ensures ∙ first_of_stop _ _ _ c.in_err-check_credit_limits.ensures)))

pub returns-in_err-check_timeouts : goal.returns-in_err-check_timeouts
returns-in_err-check_timeouts c =
    told _ _ _ c.from_residual-in_err-check_timeouts.ensures
    (first_of_skip _ _ c.in_ok-check_buffer_count.ensures ∙ (first_of_skip _ _ c.in_ok-check_buffer_sizes.ensures ∙ (first_of_skip _ _ c.in_ok-check_ring_count.ensures ∙ (first_of_skip _ _ c.in_ok-check_credit_limits.ensures ∙ first_of_stop _ _ _ c.in_err-check_timeouts.ensures))))

pub returns-in_err-check_hang_limits : goal.returns-in_err-check_hang_limits
returns-in_err-check_hang_limits c =
    told _ _ _ c.from_residual-in_err-check_hang_limits.ensures
    (first_of_skip _ _ c.in_ok-check_buffer_count.ensures ∙ (first_of_skip _ _ c.in_ok-check_buffer_sizes.ensures ∙ (first_of_skip _ _ c.in_ok-check_ring_count.ensures ∙ (first_of_skip _ _ c.in_ok-check_credit_limits.ensures ∙ (first_of_skip _ _ c.in_ok-check_timeouts.ensures ∙ first_of_stop _ _ _ c.in_err-check_hang_limits.ensures)))))

pub returns-in_err-check_entity_count : goal.returns-in_err-check_entity_count
returns-in_err-check_entity_count c =
    told _ _ _ c.from_residual-in_err-check_entity_count.ensures
    (first_of_skip _ _ c.in_ok-check_buffer_count.ensures ∙ (first_of_skip _ _ c.in_ok-check_buffer_sizes.ensures ∙ (first_of_skip _ _ c.in_ok-check_ring_count.ensures ∙ (first_of_skip _ _ c.in_ok-check_credit_limits.ensures ∙ (first_of_skip _ _ c.in_ok-check_timeouts.ensures ∙ (first_of_skip _ _ c.in_ok-check_hang_limits.ensures ∙ first_of_stop _ _ _ c.in_err-check_entity_count.ensures))))))

pub returns-in_err-check_entity_rings : goal.returns-in_err-check_entity_rings
returns-in_err-check_entity_rings c =
    told _ _ _ c.from_residual-in_err-check_entity_rings.ensures
    (first_of_skip _ _ c.in_ok-check_buffer_count.ensures ∙ (first_of_skip _ _ c.in_ok-check_buffer_sizes.ensures ∙ (first_of_skip _ _ c.in_ok-check_ring_count.ensures ∙ (first_of_skip _ _ c.in_ok-check_credit_limits.ensures ∙ (first_of_skip _ _ c.in_ok-check_timeouts.ensures ∙ (first_of_skip _ _ c.in_ok-check_hang_limits.ensures ∙ (first_of_skip _ _ c.in_ok-check_entity_count.ensures ∙ first_of_stop _ _ _ c.in_err-check_entity_rings.ensures)))))))

pub returns : goal.returns
returns c =
    told_last _ _ _ (first_of_skip _ _ c.in_ok-check_buffer_count.ensures ∙ (first_of_skip _ _ c.in_ok-check_buffer_sizes.ensures ∙ (first_of_skip _ _ c.in_ok-check_ring_count.ensures ∙ (first_of_skip _ _ c.in_ok-check_credit_limits.ensures ∙ (first_of_skip _ _ c.in_ok-check_timeouts.ensures ∙ (first_of_skip _ _ c.in_ok-check_hang_limits.ensures ∙ (first_of_skip _ _ c.in_ok-check_entity_count.ensures ∙ (first_of_skip _ _ c.in_ok-check_entity_rings.ensures)))))))) c.check_job_count.ensures
