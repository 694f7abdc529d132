use Rattle.std.proofs.Common.{◌<◌, ◌≤◌, [], ℕ, ap, arith, length, refl, subst, sym}
use Rattle.std.specs.List.{enumerate_from}
use Rattle.std.proofs.lemmas.Result.{err_from_is_err_and}
use Rattle.drm_types.specs.declared.spec.DeviceSpec.{DeviceSpec}
use Rattle.drm_words.specs.Because.{let_go_text}
use Rattle.drm_words.proofs.Parts.{all_told, length_numbered, numbered_at, one_front, one_told}
use Rattle.drm_engine.proofs.Putting.{told_nothing}
use Rattle.drm_words.proofs.putting.put_all_let_go.Goals as goal

pub loop-entity-init : goal.loop-entity-init
loop-entity-init g c = ([], refl, told_nothing c.args.writer.now c.args.piece.now)

pub loop-entity-preserved : goal.loop-entity-preserved
loop-entity-preserved g c =
    let d = c.args.device.now.state in
    let fence = c.args.fence in
    let entity = c.loop-entity.entity in
    let same = ap (λ (s : DeviceSpec). length s.entities) c.spec.ensures.value in
    let within : entity < length d.spec.entities = omega (arith, c.loop-entity-test.true, c.len-entities.ensures, same) in
    let row = numbered_at d.spec.entities entity within in
    one_told (λ e. let_go_text d fence e.0) c.args.writer.now c.loop-entity.writer c.put_let_go.new.writer c.args.piece.now c.loop-entity.piece c.put_let_go.new.piece
    (let_go_text d fence entity) (enumerate_from 0 d.spec.entities) entity (entity, row.0) row.1 refl c.loop-entity.invariant c.in_ok-put_let_go.ensures

pub returns-in_err-put_let_go : goal.returns-in_err-put_let_go
returns-in_err-put_let_go g c =
    let p = err_from_is_err_and c.from_residual.result c.from_residual.ensures.1 in
    let d = c.args.device.now.state in
    let fence = c.args.fence in
    let entity = c.loop-entity.entity in
    let same = ap (λ (s : DeviceSpec). length s.entities) c.spec.ensures.value in
    let within : entity < length d.spec.entities = omega (arith, c.loop-entity-test.true, c.len-entities.ensures, same) in
    let row = numbered_at d.spec.entities entity within in
    rw p.1 (one_front (λ e. let_go_text d fence e.0) c.args.writer.now c.loop-entity.writer c.put_let_go.new.writer c.args.piece.now c.loop-entity.piece
    (let_go_text d fence entity) (enumerate_from 0 d.spec.entities) entity (entity, row.0) row.1 refl c.loop-entity.invariant c.in_err-put_let_go.ensures)

pub returns : goal.returns
returns g c =
    let d = c.args.device.now.state in
    let fence = c.args.fence in
    let entity = c.loop-entity.entity in
    let same = ap (λ (s : DeviceSpec). length s.entities) c.spec.ensures.value in
    let past : length d.spec.entities ≤ entity = omega (arith, c.loop-entity-test.false, c.len-entities.ensures, same) in
    all_told (λ e. let_go_text d fence e.0) c.args.writer.now c.loop-entity.writer c.args.piece.now c.loop-entity.piece (enumerate_from 0 d.spec.entities) entity
    (subst (λ (n : ℕ). n ≤ entity) (sym (length_numbered d.spec.entities 0)) past) c.loop-entity.invariant
