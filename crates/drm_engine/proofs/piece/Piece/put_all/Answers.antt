use Rattle.std.proofs.Common.{◌≤◌, ◌≡◌, length, take, arith, rules, ap}
use Rattle.std.proofs.lemmas.Grind.{common_steps}
use Rattle.std.proofs.lemmas.List.{length-take-le}
use Rattle.drm_engine.proofs.piece.Piece.put_all.Goals as goal

pub place-self-inside-requires : goal.place-self-inside-requires
place-self-inside-requires c =
    let within : c.self.inside.len ≤ length c.self.inside.room.items = omega (arith, c.self.invariant.0, c.self.invariant.1, c.self.inside.room.ok.0) in
    let text : length (take c.self.inside.len c.self.inside.room.items) ≡ c.self.inside.len = length-take-le c.self.inside.len c.self.inside.room.items within in
    omega (arith, text, ap length c.self.view_is, c.requires, c.self.invariant.1, c.self.inside.room.ok.0)

pub returns : goal.returns
returns c = first_of (search rules, grind (arith, common_steps))
