use Rattle.std.proofs.Common.{◌≡◌, ◌++◌, sym, subst, length, take, drop, rules, arith}
use Rattle.std.specs.Prelude.{OnOk}
use Rattle.std.proofs.lemmas.Grind.{common_steps}
use Rattle.drm_state.specs.Held.{HaveRoom}
use Rattle.drm_gpu.proofs.submission.take_all_rooms.Goals as goal

pub returns-clause-room : goal.returns-clause-room
returns-clause-room c job =
    let xs = c.take_rooms.new.held in
    let same = c.take_rooms.auto.held in
    let len = c.as_mut_slice.ensures.len in
    let is : take c.args.held.now.len (xs ++ drop (length xs) c.args.held.now.items) ≡ xs = first_of (search rules, grind (arith, common_steps)) in
    subst (λ hs. OnOk c.take_rooms.result (HaveRoom job hs)) (sym is) (c.take_rooms.ensures.room job)
