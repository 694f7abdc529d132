use Rattle.std.proofs.lemmas.List.Elements.{All-set}
use Rattle.drm_reason.specs.Watching.{Knows}
use Rattle.drm_perfetto.proofs.watches.Watches.keep.Goals as goal

pub returns-then-place-len : goal.returns-then-place-len
returns-then-place-len c = λ device known knows. record {
  heads = All-set (Knows device) c.args.self.now.heads.items c.args.entity c.args.watch knows known.heads;
  retired = known.retired;
}
