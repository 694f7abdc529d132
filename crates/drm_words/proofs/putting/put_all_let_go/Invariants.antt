use Rattle.std.specs.List.{enumerate_from}
use Rattle.drm_words.specs.Because.{let_go_text}
use Rattle.drm_words.proofs.Parts.{ToldSome}
use Rattle.drm_words.proofs.putting.put_all_let_go.Given as goal

abbrev pub invariant-loop-entity : goal.invariant-loop-entity
invariant-loop-entity g l =
    ToldSome (λ e. let_go_text l.device.state l.fence e.0) l.fn.writer l.writer l.fn.piece l.piece (enumerate_from 0 l.device.state.spec.entities) l.entity
