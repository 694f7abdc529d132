use Rattle.std.proofs.Common.{ap, ◌∙◌, replicate, None, arith}
use Rattle.drm_entity.specs.Rows.{EntityRows}
use Rattle.drm_resv.specs.Stored.{ListsWithPlaces}
use Rattle.drm_table.specs.declared.table.Table.{Table}
use Rattle.drm_table.proofs.Blanks.{blank_device, blank_whole}
use Rattle.drm_table.proofs.Stored.{opened_in}
use Rattle.drm_table.proofs.table.Table.open.Goals as goal

pub returns-clause-opened : goal.returns-clause-opened
returns-clause-opened c =
    let t : Table = record { spec = c.args.spec; memory = c.in_ok-memory.memory; journal = c.in_ok-journal.journal; waits = c.in_ok-waits.waits; fences = c.in_ok-fences.fences; rings = c.in_ok-rings.rings; entities = c.in_ok-entities.entities; loads = c.in_ok-loads.loads } in
    blank_device t c.in_ok-memory.ensures c.in_ok-journal.ensures.items
    c.in_ok-rings.ensures c.in_ok-entities.ensures

pub returns-clause-whole : goal.returns-clause-whole
returns-clause-whole c =
    let t : Table = record { spec = c.args.spec; memory = c.in_ok-memory.memory; journal = c.in_ok-journal.journal; waits = c.in_ok-waits.waits; fences = c.in_ok-fences.fences; rings = c.in_ok-rings.rings; entities = c.in_ok-entities.entities; loads = c.in_ok-loads.loads } in
    let opened = blank_device t c.in_ok-memory.ensures c.in_ok-journal.ensures.items
    c.in_ok-rings.ensures c.in_ok-entities.ensures in
    blank_whole t opened c.in_ok-rings.ensures c.requires.limits c.in_ok-fences.ensures.1 (ap (λ (s : ListsWithPlaces). s.lists) c.in_ok-waits.ensures) c.in_ok-entities.ensures
    (c.in_ok-loads.ensures.live ∙ ap (λ n. replicate n 0) c.len.ensures) (c.in_ok-loads.ensures.last ∙ ap (λ n. replicate n None) c.len-2.ensures) c.in_ok-loads.ensures.ended (record {
      jobs = omega (arith, c.in_ok-journal.ensures.exact);
      waits = omega (arith, ap (λ (s : ListsWithPlaces). s.places) c.in_ok-waits.ensures);
      places = c.in_ok-fences.ensures.0;
      queues = ap (λ (e : EntityRows). e.places) c.in_ok-entities.ensures;
    })

pub returns-clause-inside : goal.returns-clause-inside
returns-clause-inside c = opened_in c.in_ok-memory.memory c.args.spec.buffers c.in_ok-memory.ensures
