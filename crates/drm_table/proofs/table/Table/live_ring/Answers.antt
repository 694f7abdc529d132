use Rattle.std.proofs.Common.{◌<◌, ◌∙◌, sym, ap, subst, Some}
use Rattle.std.proofs.lemmas.Option.{slice_get_within}
use Rattle.drm_lists.proofs.Places.{at_index}
use Rattle.drm_table.proofs.Balancing.{last_there, last_is, live_of_none, live_of_ended, live_of_last}
use Rattle.drm_table.proofs.table.Table.live_ring.Goals as goal

pub returns-in_default : goal.returns-in_default
returns-in_default c =
    let t = c.args.self.now in
    let at = at_index t.loads.last.items c.args.entity c.index.result.now c.index.ensures (last_there t c.args.entity c.requires.whole c.requires.there) in
    sym (live_of_none t c.args.entity c.requires.whole (at ∙ ap (λ o. Some o) c.in_default.is))

pub index-record-requires : goal.index-record-requires
index-record-requires c =
    let t = c.args.self.now in
    let at = at_index t.loads.last.items c.args.entity c.index.result.now c.index.ensures (last_there t c.args.entity c.requires.whole c.requires.there) in
    let last = last_is t c.args.entity c.in-Some.last c.requires.whole (at ∙ ap (λ o. Some o) c.in-Some.is) in
    subst (λ n. c.in-Some.last < n) (sym t.journal.ok.0) (slice_get_within t.journal.items c.in-Some.last last.0 last.1)

pub returns-then-is_ended : goal.returns-then-is_ended
returns-then-is_ended c =
    let t = c.args.self.now in
    let at = at_index t.loads.last.items c.args.entity c.index.result.now c.index.ensures (last_there t c.args.entity c.requires.whole c.requires.there) ∙ ap (λ o. Some o) c.in-Some.is in
    let last = last_is t c.args.entity c.in-Some.last c.requires.whole at in
    let record_at = at_index t.journal.items c.in-Some.last c.index-record.result.now c.index-record.ensures (slice_get_within t.journal.items c.in-Some.last last.0 last.1) in
    sym (live_of_ended t c.args.entity c.in-Some.last c.index-record.result.now c.requires.whole at record_at (sym c.is_ended.ensures ∙ c.if-is_ended.true))

pub returns-else-is_ended : goal.returns-else-is_ended
returns-else-is_ended c =
    let t = c.args.self.now in
    let at = at_index t.loads.last.items c.args.entity c.index.result.now c.index.ensures (last_there t c.args.entity c.requires.whole c.requires.there) ∙ ap (λ o. Some o) c.in-Some.is in
    let last = last_is t c.args.entity c.in-Some.last c.requires.whole at in
    let record_at = at_index t.journal.items c.in-Some.last c.index-record.result.now c.index-record.ensures (slice_get_within t.journal.items c.in-Some.last last.0 last.1) in
    sym (live_of_last t c.args.entity c.in-Some.last c.index-record.result.now c.requires.whole at record_at (sym c.is_ended.ensures ∙ c.if-is_ended.false))
