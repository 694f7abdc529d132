use Rattle.std.proofs.Common.{◌∙◌, ap, arith, codes, is_some, refl, subst, sym}
use Rattle.std.proofs.lemmas.Option.{same_Some}
use Rattle.std.specs.Str.Parse.{ExplainsUnsignedError, HasUnsignedDigitsIfOk, ParsesUnsigned}
use Rattle.clap.specs.Words.{found_of, rows_of}
use Rattle.drm_command_line.specs.CommandLine.{IsNumber, most_submitters, most_turns}
use Rattle.drm_command_line.proofs.Numbers.{none_is_not, number_read}
use Rattle.drm_command_line.proofs.request.run_request.Goals.{in_default-via-in-Some+in_default, in_default-via-in_default}
use Rattle.drm_command_line.proofs.request.run_request.Goals as goal

pub unreachable-requires : goal.unreachable-requires
unreachable-requires c =
    let own = found_of c.args.command.now in
    let threads = number_read _ (λ bs r. ParsesUnsigned 32 10 bs r × ExplainsUnsignedError 10 bs r × HasUnsignedDigitsIfOk bs r) (codes "threads") most_submitters own c.get_one.result
    c.get_one.ensures.value (λ u x g. g.0) (omega arith) c.requires.0 in
    let turns = number_read _ (λ bs r. ParsesUnsigned 32 10 bs r × ExplainsUnsignedError 10 bs r × HasUnsignedDigitsIfOk bs r) (codes "turns") most_turns own c.get_one-2.result
    c.get_one-2.ensures.value (λ u x g. g.0) (omega arith) c.requires.1 in
    elim c.in_default.branch [
      | in_default-via-in-Some+in_default w ↦ none_is_not _ w.in_default.is-1 (ap is_some turns.1)
      | in_default-via-in_default w ↦ none_is_not _ w.in_default.is-0 (ap is_some threads.1)
    ]

pub returns : goal.returns
returns c =
    let own = found_of c.args.command.now in
    let threads = number_read _ (λ bs r. ParsesUnsigned 32 10 bs r × ExplainsUnsignedError 10 bs r × HasUnsignedDigitsIfOk bs r) (codes "threads") most_submitters own c.get_one.result
    c.get_one.ensures.value (λ u x g. g.0) (omega arith) c.requires.0 in
    let turns = number_read _ (λ bs r. ParsesUnsigned 32 10 bs r × ExplainsUnsignedError 10 bs r × HasUnsignedDigitsIfOk bs r) (codes "turns") most_turns own c.get_one-2.result
    c.get_one-2.ensures.value (λ u x g. g.0) (omega arith) c.requires.1 in (
      refl,
      subst (IsNumber (codes "threads") most_submitters (rows_of own)) (same_Some _ _ (sym threads.1 ∙ c.in-Some-Some.is-0)) threads.2,
      subst (IsNumber (codes "turns") most_turns (rows_of own)) (same_Some _ _ (sym turns.1 ∙ c.in-Some-Some.is-1)) turns.2,
    )
