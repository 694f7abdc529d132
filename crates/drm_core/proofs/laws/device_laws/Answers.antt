use Rattle.drm_core.proofs.laws.device_laws.Goals as goal

pub returns : goal.returns
returns c = record { steady = c.devices_stay_steady.ensures; reads = c.reads_wait_for_writers.ensures; choice = c.choice_is_least.ensures }
