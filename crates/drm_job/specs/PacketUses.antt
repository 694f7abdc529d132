-- The fault of a packet, by how the buffers that it uses are declared.
use Rattle.std.specs.Prelude.{ℕ, Bool, not, false, is_some, List, [], ◌∷◌, Option}
use Rattle.std.specs.Option.{option_map_or}
use Rattle.std.specs.List.{list_all}
use Rattle.drm_types.specs.declared.access.Access.{Access}
use Rattle.drm_types.specs.Firsts.{when, first_of}
use Rattle.drm_job.specs.declared.JobFault.{JobFault}
use Rattle.drm_job.specs.declared.JobFault.TheVariants.{PacketUndeclared, PacketOnHold, PacketReadOnly, PacketRange}
use Rattle.drm_job.specs.Uses.{may_read, may_write}

-- whether packets may read, or write, what is declared so
abbrev pub lets_read : Option Access → Bool
lets_read access = option_map_or may_read access false

abbrev pub lets_write : Option Access → Bool
lets_write access = option_map_or may_write access false

-- the fault of packet n, where what it touches and what it writes is declared so, and its ranges are right or not
abbrev pub fault_of_uses : ℕ → List (Option Access) → List (Option Access) → Bool → Option JobFault
fault_of_uses n touched written in_range =
    first_of
    (when (not (list_all is_some touched)) (PacketUndeclared n)
    ∷ when (not (list_all lets_read touched)) (PacketOnHold n)
    ∷ when (not (list_all lets_write written)) (PacketReadOnly n)
    ∷ when (not in_range) (PacketRange n)
    ∷ [])
